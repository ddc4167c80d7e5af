use Rattle.bt_meta.proofs.Base.{refl, arith, file_of}
use Rattle.bt_meta.proofs.PlacePieces.{entry_at, none_there, place_at}
use Rattle.bt_meta.proofs.torrent.Torrent.place.Goals as goal

pub overflow_sub-at : goal.overflow_sub-at
overflow_sub-at c =
    let last = rw (← c.self.view_is) at c.in-Some.ensures.some in
    let e = c.index-file.result.now in
    let found = entry_at _ _ refl _ e c.index-file.ensures last.listed in
    rw found at (last.begun (file_of e))

pub returns-then-length-eq0-clause-none : goal.returns-then-length-eq0-clause-none
returns-then-length-eq0-clause-none c =
    let last = rw (← c.self.view_is) at c.in-Some.ensures.some in
    let found = entry_at _ _ refl _ _ c.index-file.ensures last.listed in
    rw (← c.self.view_is) (none_there _ _ _ _ _ _ last found c.self.invariant.1.laid_out (λ some block in_piece in_file. grind (arith, c.then-length-eq0.branch)))

pub returns-clause-some : goal.returns-clause-some
returns-clause-some c =
    let last = rw (← c.self.view_is) at c.in-Some.ensures.some in
    let found = entry_at _ _ refl _ _ c.index-file.ensures last.listed in
    rw (← c.self.view_is) (place_at _ _ _ _ _ _ last found (omega (arith, c.if-length-eq0.false)) c.if-length-gt-MAX_RANGE.false c.if-end-self.false c.if-at-end.false)
