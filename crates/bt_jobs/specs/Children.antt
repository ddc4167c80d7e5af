-- The parts of a check as processes.
use Rattle.std.specs.Prelude.{◌≡◌, ◌≢◌, ℕ, ◌⊎◌, ◌++◌, [], ◌∷◌, List, Bool, if◌then◌else◌, ℤ, pos, Option, Some, codes}
use Rattle.std.specs.Fmt.{decimal}
use Rattle.bt_check.specs.Fault.{device, out_of_memory}
use Rattle.bt_check.specs.declared.fault.Fault.{Fault}

-- the program that this process runs
abbrev pub program_text : List ℕ
program_text = codes "/proc/self/exe"

-- the word that says that the torrent is an info dictionary alone
abbrev pub info_words : Bool → List (List ℕ)
info_words is_info = if is_info then codes "--info" ∷ [] else []

-- the words by which part `index` of `count` is started, which reads the torrent from its standard input
abbrev pub part_words : (is_info : Bool) (dir : List ℕ) (index count : ℕ) → List (List ℕ)
part_words is_info dir index count =
    codes "check" ∷ codes "--part" ∷ (decimal index ++ codes "/" ++ decimal count)
    ∷ (info_words is_info ++ (codes "--" ∷ codes "/dev/stdin" ∷ dir ∷ []))

-- The fault that a part's end comes to, of which the code is none where a signal ended it: memory was short
-- where the code says so, and else a device failed.
abbrev pub IsPartFault : Option ℤ → Fault → Type 0
IsPartFault code fault = (code ≢ Some (pos 0))
    × (((code ≡ Some (pos 4)) × (fault ≡ out_of_memory)) ⊎ ((code ≢ Some (pos 4)) × (fault ≡ device)))
