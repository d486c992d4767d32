use mathlib.Core.Path.{◌≡◌, sym, ◌∙◌, refl}
use mathlib.Core.Bool.{true, false}
use Rattle.machine_firing.specs.Moves.{Done, given_two}
use Rattle.machine_firing.proofs.give_two.Goals as goal

pub returns-then-not-room_of : goal.returns-then-not-room_of
unfolding Done
returns-then-not-room_of c = let e : c.room_of.result ≡ false = c.if-not-room_of.true in (rw (sym (rw c.port_of-out1.ensures.0 at c.room_of.ensures) ∙ e) refl, refl)

pub returns-then-not-room_of-2 : goal.returns-then-not-room_of-2
unfolding Done
returns-then-not-room_of-2 c =
    let e : c.room_of.result ≡ true = c.if-not-room_of.false in
    let f : c.room_of-2.result ≡ false = c.if-not-room_of-2.true in
    (rw (sym (rw c.port_of-out1.ensures.0 at c.room_of.ensures) ∙ e, sym (rw c.port_of-out2.ensures.0 at c.room_of-2.ensures) ∙ f) refl, refl)

pub returns-then-dry : goal.returns-then-dry
unfolding Done
returns-then-dry c =
    let e : c.room_of.result ≡ true = c.if-not-room_of.false in
    let f : c.room_of-2.result ≡ true = c.if-not-room_of-2.false in
    (rw (sym (rw c.port_of-out1.ensures.0 at c.room_of.ensures) ∙ e, sym (rw c.port_of-out2.ensures.0 at c.room_of-2.ensures) ∙ f) refl, rw c.if-dry.true refl)

pub returns : goal.returns
unfolding given_two Done
returns c =
    let e : c.room_of.result ≡ true = c.if-not-room_of.false in
    let f : c.room_of-2.result ≡ true = c.if-not-room_of-2.false in (
      rw (sym (rw c.port_of-out1.ensures.0 at c.room_of.ensures) ∙ e, sym (rw c.port_of-out2.ensures.0 at c.room_of-2.ensures) ∙ f) refl,
      rw c.if-dry.false (c.append_to-2.ensures ∙ rw (c.append_to.ensures, c.port_of-out1.ensures.0, c.port_of-out2.ensures.0, c.remove_from-2.ensures, c.remove_from.ensures) refl),
    )
