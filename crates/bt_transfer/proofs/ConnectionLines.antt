-- Lemmas on connections that are served one after the other.
use Rattle.std.proofs.Common.{[], ◌≡◌, ℕ, ◌+◌, List, ◌∷◌, ◌++◌, Option, length, sym, ap, subst, ◌∙◌, append-nil, length-append, refl, arith}
use Rattle.std.specs.Io.KnownBytes.{Appends}
use Rattle.std.specs.List.{enumerate_from, flat_map}
use Rattle.std.proofs.KnownBytes.{Appends-nil, Appends-trans}
use Rattle.std.proofs.lemmas.Grind.{flat_map-append}
use Rattle.bt_machine.specs.State.{EngineView}
use Rattle.bt_session.specs.declared.peer_end.PeerEnd.{PeerEnd}
use Rattle.bt_transfer.specs.Connections.{HasServed, none_yet, one_more, served_lines}
use Rattle.bt_transfer.specs.OverTcp.{Meeting}
use Rattle.bt_together.specs.ServedLines.{served_line}
use Rattle.bt_files.proofs.Devices.{enumerate_from-append}

-- the line of one more stands behind those before
lines_more : (ends : List PeerEnd) (end : PeerEnd) (number : ℕ) → number ≡ length ends + 1
    → served_lines (ends ++ end ∷ []) ≡ served_lines ends ++ served_line number end
lines_more ends end number next =
    let line : ℕ × PeerEnd → List ℕ = λ p. served_line p.0 p.1 in
    let at : 1 + length ends ≡ number = omega (arith, next) in
    ap (flat_map line) (enumerate_from-append 1 ends (end ∷ []))
    ∙ flat_map-append line (enumerate_from 1 ends) ((1 + length ends, end) ∷ [])
    ∙ ap (λ l. served_lines ends ++ l) (append-nil (served_line (1 + length ends) end) ∙ ap (λ n. served_line n end) at)

module _ {D : Type 0} (Meet : Meeting D) where
  pub served_none : (old : EngineView D) (before : Option (List ℕ)) → HasServed Meet 0 old before before old
  served_none old before = record { ends = []; counted = refl; in_series = none_yet old; lines = Appends-nil before }

  pub served_more : (old mid new : EngineView D) (count next number : ℕ) (end : PeerEnd) (before now then : Option (List ℕ))
      → HasServed Meet count old before now mid → Meet mid end new → Appends now then (served_line number end)
      → number ≡ count + 1 → next ≡ count + 1 → HasServed Meet next old before then new
  served_more old mid new count next number end before now then served met told is more = record {
    ends = served.ends ++ end ∷ [];
    counted = (let l = length-append served.ends (end ∷ []) in omega (arith, l, served.counted, more));
    in_series = one_more old mid new served.ends end served.in_series met;
    lines = subst (Appends before then) (sym (lines_more served.ends end number (omega (arith, is, served.counted))))
        (Appends-trans before now then _ _ served.lines told);
  }
