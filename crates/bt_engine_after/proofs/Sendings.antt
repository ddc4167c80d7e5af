-- Requests that are sent one by one, each of a whole block.
use Rattle.bt_machine.proofs.Base.{◌≡◌, ℕ, ◌+◌, ◌<◌, List, [], ◌∷◌, ◌++◌, length, take, get_or, refl, sym, ap, ◌∙◌, Metainfo, BlockId, PeerKey, Ask, Request}
use Rattle.std.proofs.Common.{append_assoc}
use Rattle.std.proofs.lemmas.List.{take_more}
use Rattle.bt_machine.specs.declared.answer.Frame.TheVariants.{Message as message_frame}
use Rattle.bt_machine.specs.State.{EngineState, PeerState}
use Rattle.bt_machine.specs.Spans.{IsRangeOf}
use Rattle.bt_machine.specs.Output.{Sent}
use Rattle.bt_machine.specs.FollowUp.{RequestsBlock, RequestsEach}
use Rattle.bt_engine_after.specs.SendingSteps.{AreRequestsSent}

one_more : (s : EngineState) (p : PeerState) (blocks : List BlockId) (sent : List Sent) (b : BlockId) (one : Sent) → RequestsEach s p blocks sent
    → RequestsBlock s p b one → RequestsEach s p (blocks ++ b ∷ []) (sent ++ one ∷ [])
one_more s p [] sent b one none request = (one, [], request, refl, ap (λ xs. xs ++ one ∷ []) none)
one_more s p (c ∷ blocks) sent b one each request = (
  each.0,
  each.1 ++ one ∷ [],
  each.2,
  one_more s p blocks each.1 b one each.3 request,
  ap (λ xs. xs ++ one ∷ []) each.4,
)

module _ (torrent : Metainfo) (key : PeerKey) (blocks : List BlockId) (before : List Sent) where
  pub one_sent : (i : ℕ) (d : BlockId) (old new : List Sent) (ask : Ask) → i < length blocks → AreRequestsSent torrent key (take i blocks) before old
      → new ≡ old ++ (key, message_frame (Request ask)) ∷ [] → IsRangeOf torrent ask.piece ask.begin ask.length (get_or blocks i d)
      → AreRequestsSent torrent key (take (i + 1) blocks) before new
  one_sent i d old new ask below so_far pushed whole =
      let one : Sent = (key, message_frame (Request ask)) in
      record {
        sent = so_far.sent ++ one ∷ [];
        requests = λ s p same keyed.
            rw (take_more blocks i d below)
            (one_more s p (take i blocks) so_far.sent (get_or blocks i d) one (so_far.requests s p same keyed) (record {
              ask = ask;
              whole = rw same whole;
              is = ap (λ k. (k, message_frame (Request ask))) (sym keyed);
            }));
        behind = pushed ∙ ap (λ xs. xs ++ one ∷ []) so_far.behind ∙ append_assoc before so_far.sent (one ∷ []);
      }
