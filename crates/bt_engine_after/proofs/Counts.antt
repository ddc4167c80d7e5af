-- What is counted in the book and in the machine: who is asked for a block, and how many blocks are missing.
use Rattle.bt_machine.proofs.Base.{[], ◌≡◌, ℕ, zero, suc, Bool, true, false, List, ◌∷◌, map, Option, Some, None, refl, sym, ap, ◌∙◌, arith, slice_get, BlockId, PeerKey, is_block, Missing, Waiting, Marked}
use Rattle.std.proofs.Common.{cond, get_or, ltb}
use Rattle.std.specs.Prelude.{count_by, sum_by, option_and_then}
use Rattle.std.specs.Option.{option_map_or}
use Rattle.std.proofs.lemmas.List.Sums.{sum_by-cons}
use Rattle.std.proofs.lemmas.Bool.{true≢false}
use Rattle.bt_store.specs.declared.block_states.BlockState.{BlockState}
use Rattle.bt_book.specs.Book.{BookState, IsBook, asked_of, pair_count, wanted_count}
use Rattle.bt_book.specs.Blocks.{member_count}
use Rattle.bt_book.proofs.Listed.{pairs_of_peers}
use Rattle.bt_book.proofs.Members.{equal_sets}
use Rattle.bt_machine.specs.State.{FileState}
use Rattle.bt_machine.specs.Blocks.{state_at, is_asked, is_missing, asker_count, missing_count}
use Rattle.bt_engine_state.specs.Parts.{state_of, peer_of}
use Rattle.bt_engine_state.specs.Ties.{IsTied}
use Rattle.bt_engine_state.specs.declared.peer.Peer.{Peer}
use Rattle.bt_engine_state.specs.declared.parts.Parts.{Parts}

-- ---- lists
count_map : {X Y : Type 0} (test : Y → Bool) (f : X → Y) (xs : List X) → count_by test (map f xs) ≡ count_by (λ x. test (f x)) xs
count_map test f [] = refl
count_map test f (x ∷ xs) =
    omega (arith, sum_by-cons (λ y. cond (test y) 1 0) (f x) (map f xs), sum_by-cons (λ x. cond (test (f x)) 1 0) x xs, count_map test f xs)

-- ---- who is asked
abbrev is_asked_by : BookState → BlockId → PeerKey → Bool
is_asked_by book b key = ltb 0 (count_by (is_block b) (asked_of book key))

module _ {D H : Type 0} (old : Parts D H) (tied : IsTied old) (laws : IsBook old.book) where
  pub as_many_askers : (b : BlockId) → asker_count (state_of old) b ≡ pair_count old.book b
  as_many_askers b =
      count_map (is_asked b) (peer_of old.book) old.peers.items
      ∙ sym (count_map (is_asked_by old.book b) (λ (p : Peer). p.key) old.peers.items)
      ∙ ap (count_by (is_asked_by old.book b)) tied.joined ∙ sym (pairs_of_peers old.book b laws)

-- ---- which blocks are missing
abbrev missing_in : FileState → List Bool
missing_in f = map is_missing f.states

missing_at : (states : List BlockState) (i : ℕ) → get_or (map is_missing states) i false ≡ option_map_or is_missing (slice_get states i) false
missing_at [] zero = refl
missing_at [] (suc i) = refl
missing_at (x ∷ states) zero = refl
missing_at (x ∷ states) (suc i) = missing_at states i

none_missing : (i : ℕ) → get_or {A = Bool} [] i false ≡ false
none_missing zero = refl
none_missing (suc i) = refl

missing_there : (files : List FileState) (file i : ℕ) → get_or (get_or (map missing_in files) file []) i false
    ≡ option_map_or is_missing (option_and_then (λ f. slice_get f.states i) (slice_get files file)) false
missing_there [] zero i = none_missing i
missing_there [] (suc file) i = none_missing i
missing_there (f ∷ files) zero i = missing_at f.states i
missing_there (f ∷ files) (suc file) i = missing_there files file i

missing_is : (o : Option BlockState) → o ≡ Some Missing → option_map_or is_missing o false ≡ true
missing_is o e = ap (λ x. option_map_or is_missing x false) e

is_missing_state : (o : Option BlockState) → option_map_or is_missing o false ≡ true → o ≡ Some Missing
is_missing_state None e = absurd (true≢false (sym e))
is_missing_state (Some Missing) e = refl
is_missing_state (Some Waiting) e = absurd (true≢false (sym e))
is_missing_state (Some Marked) e = absurd (true≢false (sym e))

same_bool : (x y : Bool) → (x ≡ true → y ≡ true) → (y ≡ true → x ≡ true) → x ≡ y
same_bool true y to from = sym (to refl)
same_bool false true to from = from refl
same_bool false false to from = refl

as_many_missing : (files : List FileState) → sum_by (λ f. count_by is_missing f.states) files ≡ member_count (map missing_in files)
as_many_missing [] = refl
as_many_missing (f ∷ files) =
    omega (
      arith,
      sum_by-cons (λ (f : FileState). count_by is_missing f.states) f files,
      sum_by-cons (λ (blocks : List Bool). count_by (λ here. here) blocks) (missing_in f) (map missing_in files),
      count_map (λ (here : Bool). here) is_missing f.states,
      as_many_missing files,
    )

module _ {D H : Type 0} (old : Parts D H) (tied : IsTied old) where
  pub as_many_wanted : missing_count (state_of old) ≡ wanted_count old.book
  as_many_wanted =
      as_many_missing (state_of old).files
      ∙ equal_sets (map missing_in (state_of old).files) old.book.wanted (λ file number.
      let b : BlockId = record { file = file; block = number } in
      let there = missing_there (state_of old).files file number in
      same_bool _ _ (λ is. (tied.wanted b).1 (is_missing_state (state_at (state_of old) b) (sym there ∙ is)))
      (λ is. there ∙ missing_is (state_at (state_of old) b) ((tied.wanted b).0 is)))
