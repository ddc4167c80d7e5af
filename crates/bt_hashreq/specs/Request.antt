-- What to ask for next, so that a leaf is known (BEP 52, "hash request").
use Rattle.std.specs.Prelude.{◌≡◌, ℕ, ◌-◌, ◌*◌, ◌/◌, ◌^◌, min}
use Rattle.bt_sparse.specs.SparseTree.{Facts}
use Rattle.bt_sparse.specs.Anchor.{IsAnchor}
use Rattle.bt_hashreq.specs.declared.key.HashKey.{HashKey}

-- the height of the longest run
abbrev pub max_run_height : ℕ
max_run_height = 9

-- The run of leaves that has this one, as long as a run may be and below the anchor; the proof layers end
-- below the anchor.
abbrev pub planned_key : Facts → ℕ → ℕ → HashKey
planned_key k leaf anchor = let run = 2 ^ min anchor max_run_height in
    record { root = k.root; base = 0; index = leaf / run * run; length = run; layers = anchor - 1 }

-- the key that asks for a leaf
pub record IsPlan (k : Facts) (leaf : ℕ) (key : HashKey) : Type 0 where
  pub anchor : ℕ
  pub nearest : IsAnchor k leaf anchor
  pub key_is : key ≡ planned_key k leaf anchor
