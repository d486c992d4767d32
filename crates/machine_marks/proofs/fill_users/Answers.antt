use native.Mathlib.Omega.{arith}
use Prim.Native.Nat.{◌+◌, ◌*◌, ◌-◌}
use mathlib.Core.Path.{refl, ◌∙◌}
use mathlib.Core.Bool.{false≢true}
use Rattle.machine_marks.specs.Users.{filled_none, filled-upto}
use Rattle.machine_marks.proofs.fill_users.Goals as goal

pub loop-j-init : goal.loop-j-init
loop-j-init c = (omega arith, refl, filled_none c.args.users.now c.args.mem.now)

pub note_side-requires : goal.note_side-requires
note_side-requires c = omega arith

pub shape_of-users-then-not-note_side : goal.shape_of-users-then-not-note_side
shape_of-users-then-not-note_side c = c.note_side.ensures.0 ∙ c.loop-j.invariant.1

pub returns-then-not-note_side : goal.returns-then-not-note_side
returns-then-not-note_side c = (c.note_side.ensures.0 ∙ c.loop-j.invariant.1, λ t. absurd (false≢true t))

pub note_side-requires-in-loop-j : goal.note_side-requires-in-loop-j
note_side-requires-in-loop-j c = omega arith

pub shape_of-users-then-not-note_side-2 : goal.shape_of-users-then-not-note_side-2
shape_of-users-then-not-note_side-2 c = c.note_side-in-loop-j.ensures.0 ∙ c.note_side.ensures.0 ∙ c.loop-j.invariant.1

pub returns-then-not-note_side-2 : goal.returns-then-not-note_side-2
returns-then-not-note_side-2 c = (c.note_side-in-loop-j.ensures.0 ∙ c.note_side.ensures.0 ∙ c.loop-j.invariant.1, λ t. absurd (false≢true t))

pub loop-j-preserved : goal.loop-j-preserved
loop-j-preserved c =
    let takers = c.note_side.ensures.1 (c.if-not-note_side.false) (filled-upto c.loop-j.users c.args.mem.now (6 * c.loop-j.j) (6 * c.loop-j.j + 3 * 0) (omega arith) c.loop-j.invariant.2) in
    let both = c.note_side-in-loop-j.ensures.1 (c.if-not-note_side-2.false) (filled-upto c.note_side.new.users c.args.mem.now (6 * c.loop-j.j + 3 * 0 + 3) (6 * c.loop-j.j + 3 * 1) (omega arith) takers) in
    (omega arith, c.note_side-in-loop-j.ensures.0 ∙ c.note_side.ensures.0 ∙ c.loop-j.invariant.1, filled-upto c.note_side-in-loop-j.new.users c.args.mem.now (6 * c.loop-j.j + 3 * 1 + 3) (6 * (c.loop-j.j + 1)) (omega arith) both)

pub shape_of-users : goal.shape_of-users
shape_of-users c = c.loop-j.invariant.1

pub returns : goal.returns
returns c = (c.loop-j.invariant.1, λ t. filled-upto c.loop-j.users c.args.mem.now (6 * c.loop-j.j) (6 * c.args.n) (omega arith) c.loop-j.invariant.2)
