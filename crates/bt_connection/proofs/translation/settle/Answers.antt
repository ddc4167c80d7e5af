use Rattle.std.proofs.Common.{refl, subst, List, ℕ}
use Rattle.bt_connection.specs.Flow.{IsOther}
use Rattle.bt_wire.specs.Frames.{BeginsFrame}
use Rattle.bt_connection.specs.Translation.{other, translated}
use Rattle.bt_connection.proofs.Rooms.{whole_frame}
use Rattle.bt_connection.proofs.translation.settle.Goals as goal

pub returns-in-Other-default : goal.returns-in-Other-default
returns-in-Other-default c = other c.in-Other-default.missing (subst (λ (xs : List ℕ). IsOther xs c.in-Other-default.missing) c.as_slice.ensures.value c.in-Other-default.ensures) refl refl

pub returns-in-Frame-Peer : goal.returns-in-Frame-Peer
returns-in-Frame-Peer c =
    let begins = subst (λ (xs : List ℕ). (n : ℕ) × BeginsFrame xs n) c.as_slice.ensures.value c.in-Frame-Peer.ensures in
    translated c.args.padding.now c.incoming.new.self (whole_frame c.args.room.now begins.0 c.requires begins.1) (rw c.in-Frame-Peer.is-1 c.incoming.ensures) refl

pub returns-in-Frame-Engine : goal.returns-in-Frame-Engine
returns-in-Frame-Engine c =
    let begins = subst (λ (xs : List ℕ). (n : ℕ) × BeginsFrame xs n) c.as_slice.ensures.value c.in-Frame-Engine.ensures in
    translated c.args.padding.now c.outgoing.new.self (whole_frame c.args.room.now begins.0 c.requires begins.1) (rw c.in-Frame-Engine.is-1 c.outgoing.ensures) refl
