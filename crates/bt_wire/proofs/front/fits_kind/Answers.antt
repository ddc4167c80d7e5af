use Rattle.std.proofs.Common.{refl}
use Rattle.bt_wire.proofs.Sizes.{fits_listed, misfit_listed}
use Rattle.bt_wire.proofs.front.fits_kind.Goals as goal

pub returns-in-Some-clause-yes : goal.returns-in-Some-clause-yes
returns-in-Some-clause-yes c =
    fits_listed c.args.kind c.args.len c.in-Some.fits (c.in-Some.ensures.listed.0 refl) c.in-Some.ensures.fits.0

pub returns-in-Some-clause-no : goal.returns-in-Some-clause-no
returns-in-Some-clause-no c =
    misfit_listed c.args.kind c.args.len c.in-Some.fits (c.in-Some.ensures.listed.0 refl) c.in-Some.ensures.fits.1
