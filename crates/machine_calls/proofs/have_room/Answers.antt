use native.Mathlib.Omega.{arith}
use mathlib.Core.Path.{◌≡◌, sym, ◌∙◌, refl}
use Prim.Native.Nat.{◌-◌}
use mathlib.Core.Bool.{true, false}
use Rattle.machine_calls.specs.Calls.{input_room, rooms_ok}
use Rattle.machine_valid.specs.Below.{below-zero, below_step, below-fail}
use Rattle.machine_layout.specs.Layout.{trigger_of, input_link}
use Rattle.machine_firing.specs.Links.{room_at}
use Rattle.machine_calls.proofs.have_room.Goals as goal

pub returns-then-not-room_of : goal.returns-then-not-room_of
unfolding rooms_ok
returns-then-not-room_of c = let t : room_at c.args.mem.now c.args.links.size (trigger_of c.args.mem.now) ≡ false = rw (c.requires.0, c.trigger.ensures.0) at (sym c.room_of.ensures ∙ c.if-not-room_of.true) in rw t refl

pub loop-j-init : goal.loop-j-init
loop-j-init c = (omega arith, below-zero (input_room c.args.mem.now c.args.links.size))

pub returns-then-not-room_of-2 : goal.returns-then-not-room_of-2
unfolding rooms_ok input_room
returns-then-not-room_of-2 c = let t : room_at c.args.mem.now c.args.links.size (trigger_of c.args.mem.now) ≡ true = rw (c.requires.0, c.trigger.ensures.0) at (sym c.room_of.ensures ∙ c.if-not-room_of.false) in rw (t, below-fail c.args.k (input_room c.args.mem.now c.args.links.size) c.loop-j.j (omega arith) (rw (c.requires.0, c.input_link.ensures.0) at (sym c.room_of-in-loop-j.ensures ∙ c.if-not-room_of-2.true))) refl

pub loop-j-preserved : goal.loop-j-preserved
unfolding input_room
loop-j-preserved c = (omega arith, below_step c.loop-j.j (input_room c.args.mem.now c.args.links.size) c.loop-j.invariant.1 (rw (c.requires.0, c.input_link.ensures.0) at (sym c.room_of-in-loop-j.ensures ∙ c.if-not-room_of-2.false)))

pub returns : goal.returns
unfolding rooms_ok
returns c = let t : room_at c.args.mem.now c.args.links.size (trigger_of c.args.mem.now) ≡ true = rw (c.requires.0, c.trigger.ensures.0) at (sym c.room_of.ensures ∙ c.if-not-room_of.false) in let e : c.loop-j.j ≡ c.args.k = omega arith in rw t (sym (rw e at c.loop-j.invariant.1))
