-- Whole requests after whole requests are whole requests.
use Rattle.std.proofs.Common.{◌≡◌, List, ℕ, [], ◌++◌, Option, Some, None, Result, Ok, Err, if◌then◌else◌, sym, subst, append_assoc}
use Rattle.std.proofs.lemmas.List.{append-nil}
use Rattle.std.specs.Prelude.{is_ok, is_some, IfSome}
use Rattle.std.specs.Bool.{OnTrue}
use Rattle.bt_wire.specs.Event.{IsSent}
use Rattle.bt_wire.specs.Frames.{IsRequest}
use Rattle.bt_wire.specs.declared.message.Ask.{Ask}
use Rattle.bt_wire.specs.declared.message.Message.TheVariants.{Request}
use Rattle.bt_connection.specs.Requests.{AreRequests, no_request, one_more}

behind : (held : List ℕ) {bytes : List ℕ} → AreRequests held → AreRequests bytes → AreRequests (held ++ bytes)
behind held are no_request = subst AreRequests (sym (append-nil held)) are
behind held are (one_more before request earlier last) =
    subst AreRequests (append_assoc held before request) (one_more (held ++ before) request (behind held are earlier) last)

-- put after them, where there was memory
pub extended : {T E : Type 0} (held bytes new : List ℕ) (r : Result T E) → new ≡ (if is_ok r then held ++ bytes else held)
    → AreRequests held → AreRequests bytes → AreRequests new
extended held bytes new (Ok _) are earlier later = subst AreRequests (sym are) (behind held earlier later)
extended held bytes new (Err _) are earlier later = subst AreRequests (sym are) earlier

-- none
pub none : (bytes : List ℕ) → bytes ≡ [] → AreRequests bytes
none bytes are = subst AreRequests (sym are) no_request

-- where a request is read of a frame it is one
pub found : (frame : List ℕ) (r : Option Ask) → IfSome r (λ ask. IsSent (Request ask) frame) → OnTrue (is_some r) (IsRequest frame)
found frame (Some ask) sent = (ask, sent)
found frame None none = tt
