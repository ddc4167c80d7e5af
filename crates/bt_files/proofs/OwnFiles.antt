-- Lemmas on devices whose files the system tells apart.
use Rattle.std.proofs.Common.{◌≡◌, List, get_or, Option, Some, None, IfSome, inl, inr, refl, sym, subst, ◌∙◌}
use Rattle.std.proofs.lemmas.List.Elements.{All-push, All-weaker}
use Rattle.std.proofs.lemmas.List.Quantifiers.{all_pairs_push}
use Rattle.bt_disk.specs.declared.opening.FileIdentity.{FileIdentity}
use Rattle.bt_folder.specs.KnownFiles.{IsKnown}
use Rattle.bt_folder.specs.declared.known_files.KnownFiles.{KnownFiles}
use Rattle.bt_files.specs.DataFiles.{DeviceView}
use Rattle.bt_files.specs.DataFilesSteps.{IsPushed}
use Rattle.bt_files.specs.OpenFolder.{IsAdded}
use Rattle.bt_files.specs.OwnFiles.{AreApart, AreKnown, AreOneFile, identity_of}

-- ---- one file more

-- what was known is known still
still_known : (before after : KnownFiles) (identity told : Option FileIdentity) → IsAdded before identity after
    → IfSome told (IsKnown before) → IfSome told (IsKnown after)
still_known before after identity None added known = tt
still_known before after identity (Some file) added known = (added file).1 (inl known)

-- and so is what was added
now_known : (before after : KnownFiles) (identity : Option FileIdentity) → IsAdded before identity after → IfSome identity (IsKnown after)
now_known before after None added = tt
now_known before after (Some file) added = (added file).1 (inr refl)

all_still : (before after : KnownFiles) (identity : Option FileIdentity) (disks : List DeviceView) → IsAdded before identity after
    → AreKnown before disks → AreKnown after disks
all_still before after identity disks added known =
    All-weaker (λ disk. IfSome (identity_of disk) (IsKnown before)) (λ disk. IfSome (identity_of disk) (IsKnown after))
    (λ disk was. still_known before after identity (identity_of disk) added was) disks known

-- with its device, if it has one, all are known
pub known_more : (before after : KnownFiles) (identity : Option FileIdentity) (disks more : List DeviceView) (found : Option DeviceView)
    → IsAdded before identity after → IfSome found (λ disk. identity_of disk ≡ identity) → IsPushed disks found more
    → AreKnown before disks → AreKnown after more
known_more before after identity disks more None added told pushed known =
    subst (AreKnown after) (sym pushed) (all_still before after identity disks added known)
known_more before after identity disks more (Some disk) added told pushed known =
    let new : IfSome (identity_of disk) (IsKnown after) =
    subst (λ is. IfSome is (IsKnown after)) (sym told) (now_known before after identity added) in
    subst (AreKnown after) (sym pushed)
    (All-push (λ disk. IfSome (identity_of disk) (IsKnown after)) disks disk (all_still before after identity disks added known) new)

-- what is known is none that is not
not_both : (before : KnownFiles) (identity told : Option FileIdentity) → IfSome identity (λ file. ¬ IsKnown before file)
    → IfSome told (IsKnown before) → (file : FileIdentity) → told ≡ Some file → identity ≡ Some file → ⊥
not_both before identity told further known file is same =
    let new : ¬ IsKnown before file = subst (λ id. IfSome id (λ f. ¬ IsKnown before f)) same further in
    new (subst (λ id. IfSome id (IsKnown before)) is known)

-- so a further file is none of those before
pub apart_more : (before : KnownFiles) (identity : Option FileIdentity) (disks more : List DeviceView) (found : Option DeviceView)
    → IfSome identity (λ file. ¬ IsKnown before file) → IfSome found (λ disk. identity_of disk ≡ identity) → IsPushed disks found more
    → AreKnown before disks → AreApart disks → AreApart more
apart_more before identity disks more None further told pushed known apart = subst AreApart (sym pushed) apart
apart_more before identity disks more (Some disk) further told pushed known apart =
    subst AreApart (sym pushed)
    (all_pairs_push (λ old later. ¬ AreOneFile old later) disks disk apart
    (λ k d lt one. not_both before identity (identity_of (get_or disks k d)) further (known k d lt) one.0 one.1 (sym told ∙ one.2)))
