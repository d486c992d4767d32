use mathlib.Core.Path.{◌≡◌, sym, ◌∙◌, refl}
use mathlib.Core.Bool.{true, false}
use Rattle.machine_firing.specs.Moves.{Done, given_one}
use Rattle.machine_firing.proofs.give_one.Goals as goal

pub returns-then-not-room_of : goal.returns-then-not-room_of
unfolding Done
returns-then-not-room_of c = let e : c.room_of.result ≡ false = c.if-not-room_of.true in (sym e ∙ rw c.port_of-out.ensures.0 at c.room_of.ensures, refl)

pub returns-then-dry : goal.returns-then-dry
unfolding Done
returns-then-dry c = let e : c.room_of.result ≡ true = c.if-not-room_of.false in (sym e ∙ rw c.port_of-out.ensures.0 at c.room_of.ensures, rw c.if-dry.true refl)

pub returns : goal.returns
unfolding given_one Done
returns c =
    let e : c.room_of.result ≡ true = c.if-not-room_of.false in (
      sym e ∙ rw c.port_of-out.ensures.0 at c.room_of.ensures,
      rw c.if-dry.false (c.append_to.ensures ∙ rw (c.port_of-out.ensures.0, c.remove_from-2.ensures, c.remove_from.ensures) refl),
    )
