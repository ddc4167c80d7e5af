-- What happens to a machine, event by event, and what of it concerns one peer.
use Rattle.std.specs.Prelude.{ℕ, ◌==◌, List, [], ◌∷◌, ◌++◌, flat_map, if◌then◌else◌, Ok}
use Rattle.bt_book.specs.declared.names.PeerKey.{PeerKey}
use Rattle.bt_machine.specs.declared.answer.Frame.{Frame}
use Rattle.bt_machine.specs.declared.event.Event.{Event}
use Rattle.bt_machine.specs.declared.event.Event.TheVariants.{Feed}
use Rattle.bt_machine.specs.declared.event.Answer.{Answer}
use Rattle.bt_machine.specs.declared.event.Answer.TheVariants.{Connected}
use Rattle.bt_machine.specs.Law.{sent_by}
use Rattle.bt_session.specs.Frames.{frames_to}

-- an event and its answer
abbrev pub Happening : Type 0
Happening = Event × Answer

-- the bytes that an event feeds as the peer's
abbrev pub fed_by : PeerKey → Event → List ℕ
fed_by key (Feed other bytes) = if other.0 == key.0 then bytes else []
fed_by key _ = []

-- those that all events feed as the peer's
abbrev pub fed_in : PeerKey → List Happening → List ℕ
fed_in key history = flat_map (λ h. fed_by key h.0) history

-- the frames of all answers that are sent to the peer
abbrev pub frames_in : PeerKey → List Happening → List Frame
frames_in key history = flat_map (λ h. frames_to key (sent_by h.1)) history

-- the key that an answer gives out
abbrev pub joined_by : Answer → List PeerKey
joined_by (Connected (Ok joined)) = joined.0 ∷ []
joined_by _ = []

-- those that all answers give out
abbrev pub joined_in : List Happening → List PeerKey
joined_in history = flat_map (λ h. joined_by h.1) history

-- events, one after the other
pub data Runs {M : Type 0} (steps : M → Event → Answer → M → Type 0) (first : M)
    : List Happening → M → Type 0 where
  none : Runs steps first [] first
  one_more : (history : List Happening) (event : Event) (answer : Answer) (mid now : M)
      → Runs steps first history mid → steps mid event answer now
      → Runs steps first (history ++ (event, answer) ∷ []) now
