-- What a user is told of a call that failed.
use Rattle.std.specs.Prelude.{ℕ, List, Option, None, Some, ◌++◌, codes}
use Rattle.std.specs.Borrow.{Bor}
use Rattle.std.specs.Option.{option_map}
use Rattle.bt_progress.specs.Escape.{escaped_text}
use Rattle.bt_progress.specs.declared.file_call.FileCall.{FileCall}
use Rattle.bt_progress.specs.declared.file_call.FileCall.TheVariants.{Look, List as list, Open, Create, Length, Read, Write, Resize, Sync, Rename}

-- what could not be done
abbrev pub call_text : FileCall → List ℕ
call_text Look = codes "look at"
call_text list = codes "list"
call_text Open = codes "open"
call_text Create = codes "create"
call_text Length = codes "measure"
call_text Read = codes "read"
call_text Write = codes "write"
call_text Resize = codes "resize"
call_text Sync = codes "sync"
call_text Rename = codes "replace"

-- the reason of a failure, as a text that may be there
abbrev pub reason_of : Option (Bor (List ℕ)) → Option (List ℕ)
reason_of reason = option_map (λ text. text.now) reason

-- what stands behind the name: the reason, where one is known
abbrev pub reason_text : Option (List ℕ) → List ℕ
reason_text None = codes "\n"
reason_text (Some reason) = codes ": " ++ reason ++ codes "\n"

-- the line on a call that failed, of what has this name, and why
abbrev pub fault_text : FileCall → List ℕ → Option (List ℕ) → List ℕ
fault_text call name reason =
    codes "btseed: cannot " ++ call_text call ++ codes " " ++ escaped_text name ++ reason_text reason
