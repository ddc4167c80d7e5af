-- Two paths at which nothing lies, by what the system told of the folders that they lie in.
use Rattle.std.proofs.Common.{◌≡◌, ◌⊎◌, ◌↔◌, inl, inr, ℕ, ◌≤◌, Bool, true, false, List, length, Some, None, Option, is_some, refl, sym, subst}
use Rattle.std.specs.Prelude.{IsTrue}
use Rattle.std.proofs.lemmas.Bool.{false≢true}
use Rattle.std.proofs.lemmas.Option.{none-some}
use Rattle.bt_disk.specs.declared.opening.FileIdentity.{FileIdentity}
use Rattle.bt_folder.specs.Lookup.{Tells}
use Rattle.bt_log_file.specs.Folder.{folder_of}
use Rattle.bt_log_file.specs.Looking.{AreOne, EndAlike, IsOnePlace, told, top, untold}

-- something was told of one of the folders, or there is none above it
abbrev pub IsLast : (path folder : List ℕ) → (a b : Option FileIdentity) → Type 0
IsLast path folder a b = (is_some a ≡ true) ⊎ (is_some b ≡ true) ⊎ (length path ≤ length folder)

-- then the answer is whether it was told of one
last_of : (tells : Tells) (path other : List ℕ) (a b : Option FileIdentity) (is_one : Bool) → EndAlike path other
    → tells (folder_of path) a → tells (folder_of other) b → (IsTrue is_one ↔ AreOne a b) → IsLast path (folder_of path) a b
    → IsOnePlace tells path other is_one
last_of tells path other (Some x) b is_one alike one another same last =
    told path other is_one alike (record {
      folder = Some x;
      other_folder = b;
      told = one;
      other_told = another;
      some = inl (λ none. none-some x (sym none));
      is_one = same;
    })
last_of tells path other None (Some y) is_one alike one another same last =
    told path other is_one alike (record {
      folder = None;
      other_folder = Some y;
      told = one;
      other_told = another;
      some = inr (λ none. none-some y (sym none));
      is_one = same;
    })
last_of tells path other None None true alike one another same last = absurd (same.0 refl)
last_of tells path other None None false alike one another same (inl some) = absurd (false≢true some)
last_of tells path other None None false alike one another same (inr (inl some)) = absurd (false≢true some)
last_of tells path other None None false alike one another same (inr (inr long)) =
    top path other alike (record { folder = one; other_folder = another }) long

pub last : (tells : Tells) (path other folder other_folder : List ℕ) (a b : Option FileIdentity) (is_one : Bool)
    → folder ≡ folder_of path → other_folder ≡ folder_of other → EndAlike path other
    → tells folder a → tells other_folder b → (IsTrue is_one ↔ AreOne a b) → IsLast path folder a b
    → IsOnePlace tells path other is_one
last tells path other folder other_folder a b is_one at at' alike one another same is_last =
    last_of tells path other a b is_one alike (subst (λ (f : List ℕ). tells f a) at one) (subst (λ (f : List ℕ). tells f b) at' another) same
    (subst (λ (f : List ℕ). IsLast path f a b) at is_last)

-- else it is whether the folders are one place
pub below : (tells : Tells) (path other folder other_folder : List ℕ) (a b : Option FileIdentity) (is_one : Bool)
    → folder ≡ folder_of path → other_folder ≡ folder_of other → EndAlike path other
    → tells folder a → tells other_folder b → is_some a ≡ false → is_some b ≡ false → IsOnePlace tells folder other_folder is_one
    → IsOnePlace tells path other is_one
below tells path other folder other_folder (Some x) b is_one at at' alike one another none none' place = absurd (false≢true (sym none))
below tells path other folder other_folder None (Some y) is_one at at' alike one another none none' place = absurd (false≢true (sym none'))
below tells path other folder other_folder None None is_one at at' alike one another none none' place =
    untold path other is_one alike (record {
      folder = subst (λ (f : List ℕ). tells f None) at one;
      other_folder = subst (λ (f : List ℕ). tells f None) at' another;
    }) (subst (λ (f : List ℕ). IsOnePlace tells f (folder_of other) is_one) at
    (subst (λ (f : List ℕ). IsOnePlace tells folder f is_one) at' place))
