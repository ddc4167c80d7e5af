-- What the functions that the cutter calls say of frames.
use Rattle.std.specs.Prelude.{◌≡◌, ℕ, ◌-◌, ◌%◌, ◌≤◌, ◌⊎◌, List}
use Rattle.bt_tree.specs.Limits.{digest_length}
use Rattle.bt_hashreq.specs.Key.{key_length}
use Rattle.bt_wire.specs.Message.{body, body_of, IsMessage, HasWholeDigests}
use Rattle.bt_wire.specs.declared.message.Message.{Message}

-- how many bytes a payload has, kind by kind
pub record HasSize (kind n : ℕ) : Type 0 where
  pub empty : kind ≤ 3 → n ≡ 0
  pub have : kind ≡ 4 → n ≡ 4
  pub request : kind ≡ 6 → n ≡ 12
  pub piece : kind ≡ 7 → 8 ≤ n
  pub cancel : kind ≡ 8 → n ≡ 12
  pub hash_request : kind ≡ 21 → n ≡ key_length
  pub hashes : kind ≡ 22 → key_length ≤ n
  pub digests : kind ≡ 22 → (n - key_length) % digest_length ≡ 0
  pub hash_reject : kind ≡ 23 → n ≡ key_length

-- the numbers of the known kinds
abbrev pub IsListed : ℕ → Type 0
IsListed kind = (kind ≤ 8) ⊎ ((21 ≤ kind) × (kind ≤ 23))

-- the message that a kind and a payload spell
pub record IsMessageOf (kind : ℕ) (payload : List ℕ) (m : Message) : Type 0 where
  pub is_message : IsMessage m
  pub whole : HasWholeDigests m
  pub body_is : body_of m ≡ body kind payload
