-- Paths as lists of elements.
use Rattle.std.specs.Prelude.{ℕ, List, [], map, Option, None, Some}
use Rattle.std.specs.Borrow.{Bor}
use Rattle.std.specs.declared.rc.Rc.{Rc}
use Rattle.std.specs.declared.alloc.Global.{Global}

-- the bytes of each text
abbrev pub texts : List (Bor (List ℕ)) → List (List ℕ)
texts = map (λ t. t.now)

-- the elements of a folder's path: none at the top
abbrev pub folder_elements : Option (Rc (List (List ℕ)) Global) → List (List ℕ)
folder_elements None = []
folder_elements (Some folder) = folder.value
