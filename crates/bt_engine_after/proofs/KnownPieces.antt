-- Pieces of whose blocks each leaf is known: up to the first unknown leaf that stands after the first of them.
use Rattle.bt_machine.proofs.Base.{◌≡◌, ℕ, ◌<◌, ◌≤◌, inl, inr, cases_lt, Option, Some, None, refl, sym, ap, ◌∙◌, subst, arith, IsSome, slice_get, slice_set, get_or, option_map, List, Bool, BlockId, Facts, held_at, File, IsLaidOut, total_pieces}
use Rattle.std.specs.Prelude.{min, unwrap_or, IfSome, IfNone, ◌+◌, ◌*◌, ◌/◌, true, false, not, ◌&&◌, length}
use Rattle.std.proofs.lemmas.Bool.{cases_eq, true≢false}
use Rattle.std.proofs.lemmas.List.{get_or-set_same, get_or-set_other}
use Rattle.bt_tree.specs.TreeShape.{IsPieceLength}
use Rattle.bt_meta.specs.PieceBlocks.{HasBlock, ArePieceBlocks}
use Rattle.bt_meta.specs.declared.piece_blocks.BlockRun.{BlockRun}
use Rattle.bt_book.specs.BitSet.{has, IsNext, HasNoneFrom}
use Rattle.bt_book.specs.Blocks.{IsBefore, IsFrom}
use Rattle.bt_book.proofs.Firsts.{before_or_from}
use Rattle.bt_machine.proofs.Lists.{some_is, some_not_none}
use Rattle.bt_machine.specs.State.{EngineState}
use Rattle.bt_machine.specs.Blocks.{tree_of, piece_of}
use Rattle.bt_machine.specs.Shape.{IsShaped}
use Rattle.bt_engine_state.specs.Parts.{state_of}
use Rattle.bt_engine_state.specs.Ties.{IsTied, KnowsLeaves}
use Rattle.bt_engine_state.specs.declared.parts.Parts.{Parts}
use Rattle.bt_engine_state.specs.declared.peer.Peer.{Peer}
use Rattle.bt_engine_state.proofs.Lists.{get_read}
use Rattle.bt_engine_state.specs.PieceSets.{without}
use Rattle.bt_engine_state.proofs.Leaves.{knows_more}
use Rattle.bt_engine_state.proofs.OutsidePieces.{bit_without, in_other}
use Rattle.bt_engine_state.proofs.Ties.{tied_known}
use Rattle.bt_engine_after.specs.HeldSteps.{LiesIn, IsFirstPiece, HasNoBlock}
use Rattle.bt_engine_after.specs.HashRequestsSteps.{IsUnknownFrom}
use Rattle.bt_engine_after.specs.KnownPiecesSteps.{IsKnown, AreKnownTo, AreNoted, AreAllNoted}
use Rattle.bt_engine_after.proofs.PieceOrder.{from_run, run_lies, not_true}
use Rattle.bt_engine_after.proofs.HashNeeds.{has_tree, leaf_inside, leaf_is}

some_if : {X : Type 0} (o : Option X) → (o ≡ None → ⊥) → IsSome o
some_if None not = absurd (not refl)
some_if (Some x) not = refl

-- the block lies in its piece
lies_of : (s : EngineState) (b : BlockId) (q : ℕ) (h : HasBlock s.torrent b.file b.block) → piece_of s.torrent b ≡ Some q → LiesIn s.torrent b q
lies_of s b q h at = record {
  has = h;
  is = some_is (sym at ∙ ap (option_map (λ (f : File). f.first_piece + 16384 * b.block / s.torrent.piece_length)) h.found);
}

-- between two blocks of a file there are only its own
between : {a b c : BlockId} → a.file ≡ c.file → IsFrom a b → IsBefore b c → (b.file ≡ a.file) × (a.block ≤ b.block) × (b.block < c.block)
between same (inl lt) (inl up) = absurd (omega (arith, same, lt, up))
between same (inl lt) (inr up) = absurd (omega (arith, same, lt, up.0))
between same (inr at) (inl up) = absurd (omega (arith, same, at.0, up))
between same (inr at) (inr up) = (sym at.0, at.1, up.1)

module _ (dig : List ℕ → List ℕ) (s : EngineState) (shaped : IsShaped s.torrent s) (size : IsPieceLength s.torrent.piece_length)
    (lay : IsLaidOut s.torrent.piece_length s.torrent.files) (piece : ℕ) (run : BlockRun) (r : ArePieceBlocks s.torrent piece run) (u : ℕ)
    (unknown : IsUnknownFrom dig s (record { file = run.file; block = run.first }) u) where
  abbrev last : BlockId
  last = record { file = run.file; block = u }

  known_before : (q : ℕ) → piece ≤ q → (b : BlockId) (k : Facts) → (h : HasBlock s.torrent b.file b.block) → LiesIn s.torrent b q
      → tree_of s b.file ≡ Some k → IsBefore b last → IsSome (held_at k 0 b.block)
  known_before q le b k h lies tree before =
      let at = between refl (from_run s.torrent size lay piece run r b q lies le) before in
      some_if (held_at k 0 b.block)
      (λ none. unknown.known b at.0 at.1 at.2 (leaf_is dig s shaped b tree (leaf_inside s shaped b h tree) ∙ none))

  pub known_by : (o : Option ℕ) → IfSome o (IsFirstPiece s.torrent last) → IfNone o (HasNoBlock s.torrent last) → (end : ℕ)
      → end ≡ min (unwrap_or o (total_pieces s.torrent)) (total_pieces s.torrent) → AreKnownTo s piece end
  known_by None some none end is q le lt b k h at tree =
      let lies = lies_of s b q h at in
      elim (before_or_from last b) [
        | inl before ↦ known_before q le b k h lies tree before
        | inr behind ↦ absurd (none b q lies behind)
      ]
  known_by (Some first) some none end is q le lt b k h at tree =
      let lies = lies_of s b q h at in
      elim (before_or_from last b) [
        | inl before ↦ known_before q le b k h lies tree before
        | inr behind ↦ absurd (let no = some.behind b q lies behind in omega (arith, no, is, lt))
      ]

  -- ---- where no piece is passed

  unknown_leaf : LiesIn s.torrent last piece → ¬ IsKnown s piece
  unknown_leaf lies known =
      let tree = has_tree s shaped last lies.has in
      let at : piece_of s.torrent last ≡ Some piece =
      ap (option_map (λ (f : File). f.first_piece + 16384 * u / s.torrent.piece_length)) lies.has.found ∙ ap (λ n. Some n) (sym lies.is) in
      some_not_none (known last tree.0 lies.has at tree.1)
      (sym (leaf_is dig s shaped last tree.1 (leaf_inside s shaped last lies.has tree.1)) ∙ unknown.unknown lies.has)

  -- the first piece after what is known is no later one, so that the first unknown leaf is in the piece
  pub unknown_by_end : (o : Option ℕ) → IfSome o (IsFirstPiece s.torrent last) → (end : ℕ)
      → end ≡ min (unwrap_or o (total_pieces s.torrent)) (total_pieces s.torrent) → piece < total_pieces s.torrent → end ≤ piece
      → ¬ IsKnown s piece
  unknown_by_end None some end is inside ends = absurd (omega (arith, is, inside, ends))
  unknown_by_end (Some first) some end is inside ends = elim (cases_lt run.first u) [
    | inl lt ↦ (
        let begin : BlockId = record { file = run.file; block = run.first } in
        let lies = run_lies s.torrent size lay piece run r in
        let sooner = some.before begin piece lies (inr (refl, lt)) in
        let same : piece ≡ first = omega (arith, is, inside, ends, sooner) in
        let here = some.here begin (subst (λ q. LiesIn s.torrent begin q) same lies) (inr (refl, lt)) in
        unknown_leaf (subst (λ q. LiesIn s.torrent last q) (sym same) here)
        )
    | inr le ↦ (
        let same : run.first ≡ u = omega (arith, le, unknown.after) in
        unknown_leaf (subst (λ n. LiesIn s.torrent (record { file = run.file; block = n }) piece) same (run_lies s.torrent size lay piece run r))
        )
  ]

-- ---- they are noted

module _ {D H : Type 0} (old now : Parts D H) (others : now ≡ record old { known = now.known }) where
  pub state_same : state_of now ≡ state_of old
  state_same = ap (λ (p : Parts D H). state_of p) others

  pub shaped_same : IsShaped old.torrent (state_of old) → IsShaped now.torrent (state_of now)
  shaped_same shaped = subst (λ (p : Parts D H). IsShaped p.torrent (state_of p)) (sym others) shaped

  pub peer_same : (index : ℕ) (here peer : Peer) → index < length old.peers.items → here ≡ get_or now.peers.items index here
      → slice_get old.peers.items index ≡ Some peer → here ≡ peer
  peer_same index here peer lt read at =
      some_is (sym (get_read now.peers.items index here (subst (λ (p : Parts D H). index < length p.peers.items) (sym others) lt) read)
      ∙ ap (λ (p : Parts D H). slice_get p.peers.items index) others ∙ at)

  pub known_same : (from to : ℕ) → AreKnownTo (state_of old) from to → AreKnownTo (state_of now) from to
  known_same from to known = subst (λ (s : EngineState). AreKnownTo s from to) (sym state_same) known

  pub others_more : (new : Parts D H) → new ≡ record now { known = new.known } → new ≡ record old { known = new.known }
  others_more new more = more ∙ ap (λ (p : Parts D H). record p { known = new.known }) others

pub tied_noted : {D H : Type 0} (parts : Parts D H) (piece : ℕ) (pieces : List Bool) → IsTied parts → IsKnown (state_of parts) piece
    → pieces ≡ slice_set parts.known piece true → IsTied (record parts { known = pieces })
tied_noted parts piece pieces tied known is =
    tied_known parts pieces tied
    (subst (λ (ps : List Bool). KnowsLeaves (state_of parts) ps) (sym is) (knows_more (state_of parts) parts.known piece tied.known known))

-- ---- which are noted

pub none_noted : (old : List Bool) (from : ℕ) → AreNoted old old from from
none_noted old from = record {
  kept = λ q is. is;
  noted = λ q le lt. absurd (omega (arith, le, lt));
}

pub noted_more : {old now : List Bool} {from to : ℕ} (new : List Bool) → AreNoted old now from to → to < length now → new ≡ slice_set now to true
    → AreNoted old new from (to + 1)
noted_more {old} {now} {from} {to} new are inside is = record {
  kept = λ q was. stays q (are.kept q was);
  noted = λ q le lt. elim (cases_lt q to) [
    | inl before ↦ stays q (are.noted q le before)
    | inr past ↦ (
        let at : q ≡ to = omega (arith, lt, past) in
        ap (λ bits. has bits q) is ∙ ap (λ n. has (slice_set now to true) n) at ∙ get_or-set_same now to true false inside
        )
  ];
}
  where
    stays : (q : ℕ) → has now q ≡ true → has new q ≡ true
    stays q was = elim (cases_eq q to) [
      | inl at ↦ ap (λ bits. has bits q) is ∙ ap (λ n. has (slice_set now to true) n) at ∙ get_or-set_same now to true false inside
      | inr apart ↦ ap (λ bits. has bits q) is ∙ get_or-set_other now to q true false apart ∙ was
    ]

-- No piece of a set before one is left out of the noted ones.
abbrev pub NoneLeft : (pieces noted : List Bool) → ℕ → Type 0
NoneLeft pieces noted to = (q : ℕ) → q < to → has (without pieces noted) q ≡ false

pub none_left_yet : (pieces noted : List Bool) → NoneLeft pieces noted 0
none_left_yet pieces noted q lt = absurd (omega (arith, lt))

pub none_left_more : (pieces old new : List Bool) (from piece to : ℕ) → NoneLeft pieces old from → IsNext (without pieces old) from piece
    → AreNoted old new piece to → NoneLeft pieces new to
none_left_more pieces old new from piece to none next are q lt = elim (cases_lt q piece) [
  | inl before ↦ (elim (cases_lt q from) [
    | inl sooner ↦ still (none q sooner)
    | inr after ↦ still (next.least q after before)
  ])
  | inr past ↦ bit_without pieces new q ∙ in_other (has pieces q) (has new q) (are.noted q past lt)
]
  where
    still : has (without pieces old) q ≡ false → has (without pieces new) q ≡ false
    still out = not_true (has (without pieces new) q) (λ left. both (has pieces q) (has old q) refl refl (sym (bit_without pieces old q) ∙ out) (sym (bit_without pieces new q) ∙ left))
      where
        both : (a b : Bool) → has pieces q ≡ a → has old q ≡ b → (has pieces q && not (has old q)) ≡ false → (has pieces q && not (has new q)) ≡ true → ⊥
        both false b is was out_then left_then = true≢false (sym left_then ∙ ap (λ t. t && not (has new q)) is)
        both true true is was out_then left_then = true≢false (sym left_then ∙ in_other (has pieces q) (has new q) (are.kept q was))
        both true false is was out_then left_then = true≢false (sym (ap (λ t. t && not (has old q)) is ∙ ap not was) ∙ out_then)

-- the search for the next one stops
pub noted_at_end : (s : EngineState) (pieces noted : List Bool) (from : ℕ) → NoneLeft pieces noted from → HasNoneFrom (without pieces noted) from
    → AreAllNoted s pieces noted
noted_at_end s pieces noted from none past q lt next known = elim (cases_lt q from) [
  | inl before ↦ true≢false (sym next.member ∙ none q before)
  | inr after ↦ true≢false (sym next.member ∙ past q after)
]

pub noted_to_unknown : (s : EngineState) (pieces noted : List Bool) (from piece : ℕ) → NoneLeft pieces noted from
    → IsNext (without pieces noted) from piece → (piece < total_pieces s.torrent → ¬ IsKnown s piece) → AreAllNoted s pieces noted
noted_to_unknown s pieces noted from piece none found unknown q lt next known = elim (cases_lt q piece) [
  | inl before ↦ (elim (cases_lt q from) [
    | inl sooner ↦ true≢false (sym next.member ∙ none q sooner)
    | inr after ↦ true≢false (sym next.member ∙ found.least q after before)
  ])
  | inr past ↦ (elim (cases_lt piece q) [
    | inl later ↦ true≢false (sym found.member ∙ next.least piece (omega arith) later)
    | inr le ↦ unknown (omega (arith, le, lt)) (subst (λ n. IsKnown s n) (omega (arith, past, le)) known)
  ])
]
