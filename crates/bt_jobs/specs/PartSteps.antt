-- What a part has nothing of: for private steps.
use Rattle.std.specs.Prelude.{◌≤◌, IsTrue}
use Rattle.bt_parts.specs.declared.cut.Share.{Share}

-- none of a file's blocks, and not the byte at which it begins
abbrev pub IsNothing : Share → Type 0
IsNothing share = (¬ IsTrue share.is_first) × (share.to ≤ share.from)
