-- Which block a request is of.
use Rattle.std.proofs.Common.{◌≡◌, ℕ, ◌∙◌, ap, arith, refl, Bool, true, false, not, ◌&&◌, eqb}
use Rattle.std.proofs.lemmas.Bool.{eq-eqb, eqb-true}
use Rattle.bt_machine.proofs.Lists.{and_true}
use Rattle.bt_tree.specs.TreeShape.{IsPieceLength}
use Rattle.bt_meta.specs.Law.{RangeIsPlace}
use Rattle.bt_meta.specs.PieceBlocks.{HasBlock, IsBlockRange}
use Rattle.bt_meta.specs.Place.{IsPlace}
use Rattle.bt_meta.specs.Torrent.{Metainfo, IsLaidOut}
use Rattle.bt_meta.specs.declared.piece_blocks.PieceRange.{PieceRange}
use Rattle.bt_meta.specs.declared.torrent.Span.{Span}
use Rattle.bt_book.specs.declared.names.BlockId.{BlockId}
use Rattle.bt_wire.specs.declared.message.Ask.{Ask}
use Rattle.bt_machine.specs.Spans.{IsRangeOf, first_block}
use Rattle.bt_machine.proofs.Places.{RangesTell, one_range, ranges_tell}

-- a range and that of a request are compared field by field
module _ (range : PieceRange) (ask : Ask) where
  abbrev pub range_asked : PieceRange
  range_asked = record { piece = ask.piece; begin = ask.begin; length = ask.length }

  abbrev pub is_asked : Bool
  is_asked = eqb range.piece ask.piece && (eqb range.begin ask.begin && eqb range.length ask.length)

  pub is_same : false ≡ not is_asked → range ≡ range_asked
  is_same e =
      let first = and_true _ (holds is_asked e) in
      let rest = and_true _ first.1 in
      ap (λ n. record range { piece = n }) (eqb-true range.piece ask.piece first.0)
      ∙ ap (λ n. record range_asked { begin = n; length = range.length }) (eqb-true range.begin ask.begin rest.0)
      ∙ ap (λ n. record range_asked { length = n }) (eqb-true range.length ask.length rest.1)
    where
      holds : (x : Bool) → false ≡ not x → x ≡ true
      holds true e = refl
      holds false e = absurd cc

  pub is_other : true ≡ not is_asked → range ≡ range_asked → ⊥
  is_other e same =
      let piece = eq-eqb range.piece ask.piece (ap (λ r. r.piece) same) in
      let begin = eq-eqb range.begin ask.begin (ap (λ r. r.begin) same) in
      let count = eq-eqb range.length ask.length (ap (λ r. r.length) same) in
      let no : true ≡ false =
      e ∙ ap (λ x. not (x && (eqb range.begin ask.begin && eqb range.length ask.length))) piece
      ∙ ap (λ x. not (x && eqb range.length ask.length)) begin ∙ ap not count in absurd cc

module _ (law : RangeIsPlace) (torrent : Metainfo) (size : IsPieceLength torrent.piece_length) (ask : Ask) where
  abbrev pub IsOf : BlockId → Type 0
  IsOf b = IsRangeOf torrent ask.piece ask.begin ask.length b

  pub no_place : ((span : Span) → ¬ IsPlace torrent ask.piece ask.begin ask.length span) → (b : BlockId) → ¬ IsOf b
  no_place none b w = none _ (law torrent b.file b.block _ size w)

  module _ (lay : IsLaidOut torrent.piece_length torrent.files) where
    tell : RangesTell torrent
    tell = ranges_tell law torrent size lay

    pub one_block : (a b : BlockId) → IsOf a → IsOf b → a ≡ b
    one_block a b v w = tell.block v w

    -- it can be no other than the first that its place lies in
    module _ (span : Span) (place : IsPlace torrent ask.piece ask.begin ask.length span) (first : ℕ) (is : first ≡ first_block span) where
      of_first : (b : BlockId) → IsOf b → IsBlockRange torrent span.file first (record { piece = ask.piece; begin = ask.begin; length = ask.length })
      of_first b w =
          let same = tell.place place (law torrent b.file b.block _ size w) in
          let file : span.file ≡ b.file = ap (λ (s : Span). s.file) same in
          let block : first ≡ b.block = omega (arith, is, ap (λ (s : Span). s.start) same) in
          rw (file, block) w

      pub no_block : ¬ HasBlock torrent span.file first → (b : BlockId) → ¬ IsOf b
      no_block none b w = none (of_first b w).has

      pub is_range : (range : PieceRange) → IsBlockRange torrent span.file first range → (b : BlockId) → IsOf b
          → range ≡ record { piece = ask.piece; begin = ask.begin; length = ask.length }
      is_range range v b w = one_range v (of_first b w)
