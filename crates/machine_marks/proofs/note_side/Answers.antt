use native.Mathlib.Omega.{arith}
use Prim.Native.Nat.{◌+◌, ◌*◌, ◌-◌}
use mathlib.Core.Path.{refl, ◌∙◌}
use mathlib.Core.Bool.{false≢true}
use Rattle.machine_marks.specs.Users.{filled-port, filled-upto}
use Rattle.machine_marks.proofs.note_side.Goals as goal

pub overflow_mul-first : goal.overflow_mul-first
overflow_mul-first c = omega arith

pub loop-k-init : goal.loop-k-init
loop-k-init c = (omega arith, refl, filled-upto c.args.users.now c.args.mem.now (6 * c.args.j + 3 * c.args.side) (6 * c.args.j + 3 * c.args.side + 0) (omega arith))

pub overflow_add-first : goal.overflow_add-first
overflow_add-first c = omega arith

pub port_of-l-requires : goal.port_of-l-requires
port_of-l-requires c = omega arith

pub note-requires : goal.note-requires
note-requires c = omega arith

pub loop-k-preserved : goal.loop-k-preserved
loop-k-preserved c = (
  omega arith,
  c.note.ensures.len ∙ c.loop-k.invariant.1,
  λ f. filled-port c.loop-k.users c.note.new.users c.args.mem.now c.args.j c.args.side c.loop-k.k c.note.result (omega arith) (omega arith) (omega arith) (c.loop-k.invariant.2 f) (rw c.port_of-l.ensures.0 at c.note.ensures) c.if-not-note.false,
)

pub shape_of-users-then-not-note : goal.shape_of-users-then-not-note
shape_of-users-then-not-note c = c.note.ensures.len ∙ c.loop-k.invariant.1

pub returns-then-not-note : goal.returns-then-not-note
returns-then-not-note c = (c.note.ensures.len ∙ c.loop-k.invariant.1, λ t. absurd (false≢true t))

pub shape_of-users : goal.shape_of-users
shape_of-users c = c.loop-k.invariant.1

pub returns : goal.returns
returns c = (c.loop-k.invariant.1, λ t f. filled-upto c.loop-k.users c.args.mem.now (6 * c.args.j + 3 * c.args.side + c.loop-k.k) (6 * c.args.j + 3 * c.args.side + 3) (omega arith) (c.loop-k.invariant.2 f))
