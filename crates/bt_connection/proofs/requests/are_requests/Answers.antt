use Rattle.std.proofs.Common.{◌++◌, [], ℕ, List, take, drop, refl, sym, ap, ◌∙◌}
use Rattle.std.proofs.lemmas.List.{append_assoc, take-append-drop, take_rest}
use Rattle.bt_connection.specs.Requests.{no_request, one_more}
use Rattle.bt_connection.proofs.requests.are_requests.Goals as goal

pub requests-init : goal.requests-init
requests-init c = ([], no_request, refl)

pub requests-preserved : goal.requests-preserved
requests-preserved c =
    let so = c.requests.invariant in
    let rest = c.requests.rest.now in (
      so.0 ++ take 17 rest,
      one_more so.0 (take 17 rest) so.1 c.if-not-begins_request.ensures.request,
      so.2 ∙ ap (λ (b : List ℕ). so.0 ++ b) (sym (take-append-drop 17 rest)) ∙ sym (append_assoc so.0 (take 17 rest) (drop 17 rest))
          ∙ ap (λ (b : List ℕ). (so.0 ++ take 17 rest) ++ b) (sym (take_rest rest 17)),
    )
