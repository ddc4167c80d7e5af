-- Sets of pieces, as the lists that say of each piece whether it is a member.
use Rattle.std.specs.Prelude.{[], Bool, not, ◌&&◌, List, ◌∷◌}

-- the members of the first that are none of the second
abbrev pub without : List Bool → List Bool → List Bool
without [] others = []
without (is ∷ set) [] = is ∷ set
without (is ∷ set) (other ∷ others) = (is && not other) ∷ without set others
