-- What a read takes of a reader.
use Rattle.std.proofs.Common.{ℕ, List, Option, Some, None, sym, ◌∙◌}
use Rattle.std.specs.Io.KnownBytes.{Consumes, Keeps}

-- after reads that took nothing
pub kept_then : (a b c : Option (List ℕ)) (bytes : List ℕ) → Keeps a b → Consumes b c bytes → Consumes a c bytes
kept_then None b c bytes p q = tt
kept_then (Some x) None c bytes p q = absurd p
kept_then (Some x) (Some y) None bytes p q = absurd q
kept_then (Some x) (Some y) (Some z) bytes p q = sym p ∙ q
