-- What came so far; nothing where something may be given.
use Rattle.std.proofs.Common.{◌≡◌, ℕ, ◌-◌, ◌<◌, List, length, take}
use Rattle.bt_connection.specs.Messages.{Leads}
use Rattle.bt_connection.specs.ReadAhead.{ahead_room_length, Takes}
use Rattle.bt_connection.proofs.read_ahead.ReadAhead.fill.Given as goal

abbrev pub invariant-reading : goal.invariant-reading
invariant-reading g l = record {
  takes : (came : List ℕ) × Takes g.R.Read.remaining l.initial.self came l.self;
  unasked : 0 < l.initial.self.ready → l.self ≡ l.initial.self;
  leads : l.initial.self.ready ≡ 0 → Leads l.initial.self.owed (take l.self.ready l.self.waiting) l.self.owed;
}

abbrev pub decreases-reading : goal.decreases-reading
decreases-reading g l = ahead_room_length - length l.self.waiting
