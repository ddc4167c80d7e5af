use Rattle.std.proofs.lemmas.Bool.Decides.{Decides-eqb}
use Rattle.bt_devices.proofs.Comparisons.{same_from_mask, mask_from_same}
use Rattle.bt_devices.proofs.comparison.are_same_from.Goals as goal

pub returns : goal.returns
returns c =
    let decides = Decides-eqb _ _ in (
      λ equal. same_from_mask c.args.at c.args.one.now c.args.other.now c.requires.one c.requires.other (decides.0 equal),
      λ same. decides.1 (mask_from_same c.args.at c.args.one.now c.args.other.now c.requires.one c.requires.other same),
    )
