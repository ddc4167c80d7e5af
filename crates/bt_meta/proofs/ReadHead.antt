-- What the checks of an info dictionary and of a torrent come to, after those of the head.
use Rattle.bt_meta.proofs.Base.{◌≡◌, ℕ, List, ◌++◌, true, map, Some, inl, inr, refl, ◌∙◌, codes, sha256, Data, data_of, spelling_of, dictionary_at, File, file_of, files_of, first_of, head_checks, tree_checks, layer_checks, piece_length_of, tree_of, info_of, layers_of, first_fault, metainfo_of, IsHead, IsListing, layer_faults, Head, Listing, MetaError, Option, None, integer, string, dictionary, as_dictionary, no_dictionary}
use Rattle.std.specs.Prelude.{IsSome, unwrap_or}
use Rattle.std.specs.Option.{option_and_then, option_map}
use Rattle.bt_bencode.specs.Dictionary.{field_of}
use Rattle.bt_bencode.specs.Value.{list}
use Rattle.bt_meta.specs.Faults.{info_checks, first_info_fault}
use Rattle.bt_meta.specs.Fields.{is_dictionary}
use Rattle.bt_meta.specs.ReaderSteps.{Refuses}
use Rattle.bt_meta.proofs.Checks.{first_of-append, first_of-append_some}
use Rattle.bt_meta.proofs.FileLayers.{layer_faults_are}

-- ---- the whole of an info dictionary

-- the checks of an info dictionary are those of its head and those of its tree
pub info_faults : {info : Data} {head : Head} → IsHead info head
    → first_of (info_checks info) ≡ first_of (tree_checks head.piece_length (data_of head.tree.now))
info_faults {info} h = first_of-append (head_checks info) _ h.faultless ∙ rw (h.piece_length, h.tree) refl

pub metainfo_is : {info : Data} {head : Head} (layers : Data) (files : List File) → IsHead info head
    → files ≡ files_of head.piece_length layers (data_of head.tree.now)
    → metainfo_of info layers ≡ record { name = head.name.now; piece_length = head.piece_length; infohash = sha256 (spelling_of info); files = files }
unfolding metainfo_of
metainfo_is layers files h f = rw (h.name, h.piece_length, h.tree, f) refl

-- ---- of an info dictionary alone

module _ (info : Data) (there : true ≡ is_dictionary info) where
  alone : first_info_fault info ≡ first_of (info_checks info)
  unfolding first_info_fault
  alone = rw (← there) refl

  pub info_head_fault : {e : MetaError} → first_of (head_checks info) ≡ Some e → first_info_fault info ≡ Some e
  info_head_fault f = alone ∙ first_of-append_some (head_checks info) _ _ f

  module _ {head : Head} (h : IsHead info head) where
    pub info_tree_refused : {e : MetaError} → Refuses (first_of (tree_checks head.piece_length (data_of head.tree.now))) e
        → Refuses (first_info_fault info) e
    info_tree_refused (inl m) = inl m
    info_tree_refused (inr f) = inr (alone ∙ info_faults h ∙ f)

    pub info_faultless : {listing : Listing} → IsListing head.piece_length (data_of head.tree.now) listing → first_info_fault info ≡ None
    info_faultless l = alone ∙ info_faults h ∙ l.faultless

-- ---- the text of an info dictionary

text_of : (field : Option Data) (text : List ℕ) → IsSome (option_and_then as_dictionary field) → Some text ≡ option_map spelling_of field
    → text ≡ spelling_of (unwrap_or (option_and_then as_dictionary field) no_dictionary)
text_of None text some is = cc
text_of (Some (integer z)) text some is = cc
text_of (Some (string s)) text some is = cc
text_of (Some (list ds)) text some is = cc
text_of (Some (dictionary es)) text some is = cc

pub info_text : (torrent : Data) (text : List ℕ) → IsSome (dictionary_at torrent (codes "info"))
    → Some text ≡ option_map spelling_of (field_of torrent (codes "info")) → text ≡ spelling_of (info_of torrent)
unfolding dictionary_at info_of
info_text torrent = text_of (field_of torrent (codes "info"))

no_text_of : (field : Option Data) → IsSome (option_and_then as_dictionary field) → None ≡ option_map spelling_of field → ⊥
no_text_of None some is = cc
no_text_of (Some d) some is = cc

pub no_info_text : (torrent : Data) → IsSome (dictionary_at torrent (codes "info"))
    → None ≡ option_map spelling_of (field_of torrent (codes "info")) → ⊥
unfolding dictionary_at
no_info_text torrent = no_text_of (field_of torrent (codes "info"))

-- ---- the whole of a torrent

module _ (torrent : Data) {info : Data} (there : Some info ≡ dictionary_at torrent (codes "info")) where
  pub info_is : info_of torrent ≡ info
  unfolding info_of
  info_is = rw (← there) refl

  first_fault_in : first_fault torrent ≡ first_of (info_checks info ++ layer_checks (piece_length_of info) (layers_of torrent) (tree_of info))
  unfolding first_fault info_of
  first_fault_in = rw (← there) refl

  info_fault : {e : MetaError} → first_of (info_checks info) ≡ Some e → first_fault torrent ≡ Some e
  info_fault f = first_fault_in ∙ first_of-append_some (info_checks info) _ _ f

  pub torrent_head_fault : {e : MetaError} → first_of (head_checks info) ≡ Some e → first_fault torrent ≡ Some e
  torrent_head_fault f = info_fault (first_of-append_some (head_checks info) _ _ f)

  module _ {head : Head} (h : IsHead info head) where
    pub torrent_tree_fault : {e : MetaError} → first_of (tree_checks head.piece_length (data_of head.tree.now)) ≡ Some e → first_fault torrent ≡ Some e
    torrent_tree_fault f = info_fault (info_faults h ∙ f)

    pub torrent_tree_refused : {e : MetaError} → Refuses (first_of (tree_checks head.piece_length (data_of head.tree.now))) e → Refuses (first_fault torrent) e
    torrent_tree_refused (inl m) = inl m
    torrent_tree_refused (inr f) = inr (torrent_tree_fault f)

    pub torrent_layers : {listing : Listing} → IsListing head.piece_length (data_of head.tree.now) listing
        → first_fault torrent ≡ first_of (layer_faults head.piece_length (layers_of torrent) (map file_of listing.files.items))
    torrent_layers l =
        first_fault_in ∙ first_of-append (info_checks info) _ (info_faults h ∙ l.faultless)
        ∙ rw (h.piece_length, h.tree, l.files, layer_faults_are head.piece_length (layers_of torrent) (data_of head.tree.now)) refl

    pub torrent_layers_refused : {listing : Listing} → IsListing head.piece_length (data_of head.tree.now) listing → {e : MetaError}
        → Refuses (first_of (layer_faults head.piece_length (layers_of torrent) (map file_of listing.files.items))) e → Refuses (first_fault torrent) e
    torrent_layers_refused l (inl m) = inl m
    torrent_layers_refused l (inr f) = inr (torrent_layers l ∙ f)
