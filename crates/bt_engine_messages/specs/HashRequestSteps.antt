-- What a hash request is answered with.
use Rattle.std.specs.Prelude.{◌≡◌, ℕ, List, Option, Some, None}
use Rattle.std.specs.Global.{Vec}
use Rattle.std.specs.List.{concat}
use Rattle.bt_sparse.specs.SparseTree.{Facts, height}
use Rattle.bt_sparse.specs.Answer.{IsRequest, IsAnswer}
use Rattle.bt_hashreq.specs.declared.key.HashKey.{HashKey}
use Rattle.bt_wire.specs.declared.message.Message.{Message}
use Rattle.bt_wire.specs.declared.message.Message.TheVariants.{Hashes, HashReject}

-- the digests are sent, or a reject where there are none
abbrev pub answer_of : HashKey → Option (Vec (List ℕ)) → Message
answer_of key (Some digests) = Hashes key (concat digests.items)
answer_of key None = HashReject key

-- the tree has the key's root and knows these digests, and the key is a right request in it
pub record IsAnsweredBy (dig : List ℕ → List ℕ) (k : Facts) (key : HashKey) (digests : List (List ℕ))
    : Type 0 where
  pub root : k.root ≡ key.root
  pub request : IsRequest (height k) key.base key.index key.length key.layers
  pub answer : IsAnswer dig k key.base key.index key.length key.layers digests

-- these digests answer the key, or there are none that do
abbrev pub IsAnswerBy : (List ℕ → List ℕ) → Facts → HashKey → Option (Vec (List ℕ)) → Type 0
IsAnswerBy dig k key (Some digests) = IsAnsweredBy dig k key digests.items
IsAnswerBy dig k key None = (digests : List (List ℕ)) → ¬ IsAnsweredBy dig k key digests
