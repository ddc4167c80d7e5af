-- Errors of a socket at which connections are waited for.
use Rattle.std.specs.Prelude.{◌≡◌, ◌⊎◌, ℤ, pos, Option, Some}

-- what accept(2) fails with where the descriptor is none, or no socket that listens: EBADF, EINVAL and
-- ENOTSOCK, by their numbers on Linux
abbrev pub IsNoListener : Option ℤ → Type 0
IsNoListener code =
    (code ≡ Some (pos 9)) ⊎ (code ≡ Some (pos 22)) ⊎ (code ≡ Some (pos 88))
