-- What waits before a writer after a part of it was passed on.
use Rattle.std.proofs.Common.{◌≡◌, ℕ, ◌+◌, List, ◌++◌, Option, sym, ap, ◌∙◌, subst, take, drop, drop-drop, arith}
use Rattle.std.proofs.lemmas.List.{take-append-drop}
use Rattle.std.specs.Io.KnownBytes.{Appends}
use Rattle.bt_connection.specs.Queue.{Waiting, IsDrained}

module _ {W : Type 0} (contents : W → Option (List ℕ)) where
  pub drained_by : (old : Waiting W) (inner new : W) (items : List ℕ) (start count : ℕ) → record { inner = inner; bytes = drop start items } ≡ old
      → Appends (contents inner) (contents new) (take count (drop start items)) → IsDrained contents old (record { inner = new; bytes = drop (start + count) items })
  drained_by old inner new items start count is passed = subst (λ (o : Waiting W). IsDrained contents o (record { inner = new; bytes = drop (start + count) items })) is (record {
    front = take count (drop start items);
    parts = sym (take-append-drop count (drop start items)) ∙ ap (λ l. take count (drop start items) ++ l) (drop_more_of count start items);
    passed = passed;
  })
    where
      drop_more_of : (n m : ℕ) (l : List ℕ) → drop n (drop m l) ≡ drop (m + n) l
      drop_more_of n m l = grind (arith, drop-drop)
