-- What follows for a seed that may only read.
use Rattle.std.proofs.Common.{◌≡◌, Bool, true, false, refl, sym}
use Rattle.std.specs.Prelude.{◌&&◌, not}

-- where it goes on, it may write or all is complete
pub complete_where_read_only : (only complete : Bool) → (only && not complete) ≡ false → only ≡ true → complete ≡ true
complete_where_read_only only true goes is = refl
complete_where_read_only true false goes is = sym goes
complete_where_read_only false false goes is = is

-- where it does not, it may not write, and something lacks
pub lacking_only : (only complete : Bool) → (only && not complete) ≡ true → only ≡ true
lacking_only true complete lacks = refl
lacking_only false complete lacks = lacks

pub lacking_some : (only complete : Bool) → (only && not complete) ≡ true → complete ≡ false
lacking_some only false lacks = refl
lacking_some true true lacks = sym lacks
lacking_some false true lacks = sym lacks
