-- Why a log is not opened in a file, by why one of its steps failed.
use Rattle.std.proofs.Common.{◌≡◌, ◌⊎◌, inl, inr, ℕ, List, Option, Result, Ok, Err, IfErr, sym, subst}
use Rattle.std.specs.Prelude.{⊤, IfOk, IsErrAnd, OnOk}
use Rattle.bt_disk.specs.declared.opening.FileIdentity.{FileIdentity}
use Rattle.bt_folder.specs.Lookup.{Lists, Tells}
use Rattle.bt_folder.specs.declared.known_files.KnownFiles.{KnownFiles}
use Rattle.bt_meta.specs.Files.{File}
use Rattle.bt_meta.specs.Torrent.{Metainfo}
use Rattle.bt_check.specs.Fault.{log_among_files, out_of_memory}
use Rattle.bt_check.specs.declared.fault.Fault.{Fault}
use Rattle.bt_log_file.specs.Device.{LogDiskView, new_log_device}
use Rattle.bt_log_file.specs.Looking.{IsDataFileFault}
use Rattle.bt_log_file.specs.Names.{HasFileByName, HasNameOfFile, HasNoFileByName}
use Rattle.bt_log_file.specs.Opening.{IsCallFault, IsCallFaultBy, IsCallFaultOf, IsFileFault, IsLogFault, IsLogFaultBy, IsLogFaultOf, IsNameFault}

-- what holds of a fault holds where it is passed on
pub passed_on : {T : Type 0} (r : Result T Fault) (fault : Fault) (P : Fault → Type 0) → IsErrAnd r (λ told. told ≡ fault) → P fault → IfErr r P
passed_on (Ok x) fault P told holds = tt
passed_on (Err it) fault P told holds = subst P (sym told) holds

-- so of one of several calls
pub of_call : (one all : Type 0) (fault : Fault) → (one → all) → IsCallFaultBy one fault → IsCallFaultBy all fault
of_call one all fault is_of (inl failed) = inl (failed.0, is_of failed.1)
of_call one all fault is_of (inr short) = inr short

module _ (known : KnownFiles) (identity : Option FileIdentity) (infohash : List ℕ) (failed lost : Type 0) (disk : LogDiskView) (fault : Fault) where
  abbrev Fails : (named own : Type 0) → Type 0
  Fails named own = IsLogFaultOf known identity infohash (IsCallFaultOf failed lost) named own disk fault

  -- the file is one of those that are known
  pub of_known : (named own : Type 0) → IsFileFault known identity fault → Fails named own
  of_known named own (inl short) = inl (inr short)
  of_known named own (inr among) = inr (inl (among.0, inl among.1))

  -- it is one by its name
  pub of_name : (one : Type 0) (named own : List File → Type 0) (files all : List File) → (one → failed) → files ≡ all → IsNameFault one (named files) fault
      → Fails (named all) (own all)
  of_name one named own files all is_of same (inl call) = inl (of_call one _ fault (λ is. inl (is_of is)) call)
  of_name one named own files all is_of same (inr among) = inr (inl (among.0, inr (subst named same among.1)))

-- ---- what is known of names where nothing is known of what the system told

module _ (tells : Tells) (lists : Lists) (dir : List ℕ) (files : List File) (path : List ℕ) where
  by_name : HasFileByName tells lists dir files path → HasNameOfFile files path
  by_name is = record {
    number = is.number;
    file = is.file;
    here = is.here;
    is_name = record {
      name = is.is_file.name;
      other = is.is_file.other;
      names = is.is_file.names;
      listing = is.is_file.lacks.0;
      lacks = is.is_file.lacks.2;
    };
  }

  less : (known : KnownFiles) (identity : Option FileIdentity) (infohash : List ℕ) (failed lost own : Type 0) (disk : LogDiskView) (fault : Fault)
      → IsLogFaultOf known identity infohash (IsCallFaultOf failed lost) (HasFileByName tells lists dir files path) own disk fault
      → IsLogFaultOf known identity infohash (λ free. IsCallFault) (HasNameOfFile files path) ⊤ disk fault
  less known identity infohash failed lost own disk fault (inl (inl call)) = inl (inl call.0)
  less known identity infohash failed lost own disk fault (inl (inr short)) = inl (inr short)
  less known identity infohash failed lost own disk fault (inr (inl (among, inl old))) = inr (inl (among, inl old))
  less known identity infohash failed lost own disk fault (inr (inl (among, inr named))) = inr (inl (among, inr (by_name named)))
  less known identity infohash failed lost own disk fault (inr (inr refused)) = inr (inr record {
    is_free = (refused.is_free.0, tt);
    cause = refused.cause;
    after = refused.after;
    opens = refused.opens;
    told = refused.told;
  })

pub log_fault_alone : (tells : Tells) (lists : Lists) (dir : List ℕ) (failed : Type 0) {lost : Type 0} (known : KnownFiles) (torrent : Metainfo) (path : List ℕ) (fault : Fault)
    → IsLogFaultBy (IsCallFaultOf failed lost) (HasFileByName tells lists dir torrent.files path) (HasNoFileByName tells lists dir torrent.files path) known torrent path fault
    → IsLogFault known torrent path fault
log_fault_alone tells lists dir failed {lost} known torrent path fault is =
    let own = HasNoFileByName tells lists dir torrent.files path in
    (is.0, less tells lists dir torrent.files path known is.0 torrent.infohash failed lost own (new_log_device path is.0) fault is.1)

pub look_alone : (tells : Tells) (dir : List ℕ) (files : List File) (path : List ℕ) (fault : Fault) → IsDataFileFault tells dir files path fault
    → (fault ≡ log_among_files) ⊎ (fault ≡ out_of_memory)
look_alone tells dir files path fault (inl among) = inl among.0
look_alone tells dir files path fault (inr short) = inr short

-- ---- what holds where a result is a value, or a fault

pub where_ok : {T E : Type 0} (r : Result T E) (P : Type 0) → P → OnOk r P
where_ok (Ok x) P holds = holds
where_ok (Err it) P holds = tt

pub ok_weaker : {T E : Type 0} (r : Result T E) (A B : Type 0) → (A → B) → OnOk r A → OnOk r B
ok_weaker (Ok x) A B gives holds = gives holds
ok_weaker (Err it) A B gives holds = tt

pub where_both : {T E : Type 0} (r : Result T E) (P : T → Type 0) (A : Type 0) (Q : T → Type 0) → ((x : T) → P x → A → Q x)
    → IfOk r P → OnOk r A → IfOk r Q
where_both (Ok x) P A Q gives holds also = gives x holds also
where_both (Err it) P A Q gives holds also = tt

pub where_err : {T : Type 0} (r : Result T Fault) (P Q : Fault → Type 0) → ((fault : Fault) → P fault → Q fault) → IfErr r P → IfErr r Q
where_err (Ok x) P Q gives holds = tt
where_err (Err it) P Q gives holds = gives it holds
