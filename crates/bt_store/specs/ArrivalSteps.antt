-- Private step: a block is written whose leaf is known, or is not.
use Rattle.std.specs.Prelude.{Bool, true, false, Result, Ok, Err}
use Rattle.bt_store.specs.declared.error.StoreError.{StoreError}
use Rattle.bt_store.specs.declared.error.StoreError.TheVariants.{Device}
use Rattle.bt_store.specs.declared.arrival.Put.{Put}
use Rattle.bt_store.specs.declared.arrival.Put.TheVariants.{Marked, Waiting}

-- the answer, which says that the block is marked exactly where its leaf is known
pub data IsWritten : Bool → Result Put StoreError → Type 0 where
  marked : IsWritten true (Ok Marked)
  waiting : IsWritten false (Ok Waiting)
  fault : (known : Bool) → IsWritten known (Err Device)
