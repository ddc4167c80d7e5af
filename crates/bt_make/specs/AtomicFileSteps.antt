-- Paths beside a file: private steps of writing one wholly or not at all.
use Rattle.std.specs.Prelude.{◌≡◌, ℕ, ◌-◌, ◌++◌, ◌==◌, ◌&&◌, Bool, List, codes, length, nat_eq, nat_le, nat_lt, slice_range, true, false}
use Rattle.std.specs.Fmt.{decimal}
use Rattle.std.specs.List.{ends_with, list_all, starts_with}
use Rattle.std.specs.Str.{NoCharPasses}

-- no slash is in it
abbrev pub IsFileName : List ℕ → Type 0
IsFileName = NoCharPasses (λ c. c == 47)

-- a name in the folder of a path, which ends at the path's last slash
pub data IsSibling (path name : List ℕ) : List ℕ → Type 0 where
  in_folder : (folder last : List ℕ) → path ≡ folder ++ codes "/" ++ last → IsFileName last
      → IsSibling path name (folder ++ codes "/" ++ name)
  alone : IsFileName path → IsSibling path name name

abbrev pub part_name : ℕ → List ℕ
part_name number = codes ".btseed-" ++ decimal number ++ codes ".part"

abbrev pub is_digit : ℕ → Bool
is_digit byte = nat_le 48 byte && nat_le byte 57

-- `.btseed-`, digits and `.part`, as each part_name
abbrev pub is_part_name : List ℕ → Bool
is_part_name name =
    starts_with nat_eq name (codes ".btseed-") && ends_with nat_eq name (codes ".part")
    && nat_lt 13 (length name) && list_all is_digit (slice_range name 8 (length name - 5))

-- where a symbolic link at a path leads, by the link's text: from the top, or from the folder of the link
pub record IsLinkTarget (path text target : List ℕ) : Type 0 where
  pub from_top : starts_with nat_eq text (codes "/") ≡ true → target ≡ text
  pub from_folder : starts_with nat_eq text (codes "/") ≡ false → IsSibling path text target
