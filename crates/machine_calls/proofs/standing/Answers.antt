use native.Mathlib.Omega.{arith}
use mathlib.Core.Path.{sym, ◌∙◌, refl}
use borrow.Author.Tests.{lt-ltb, le-ltb}
use Rattle.machine_calls.specs.Calls.{size_in, standing}
use Rattle.machine_layout.specs.Layout.{need}
use lib.ListN.{length}
use Rattle.machine_calls.proofs.standing.Goals as goal

pub returns-then-mem-machine_need : goal.returns-then-mem-machine_need
unfolding standing
returns-then-mem-machine_need c = simp (lt-ltb (length c.args.mem.now) (need (size_in c.args.mem.now)) (omega (arith, c.machine_need.ensures, c.capacity-capacity.ensures.0))) (refl, omega arith)

pub is_valid-requires : goal.is_valid-requires
is_valid-requires c = omega (arith, c.machine_need.ensures, c.capacity-capacity.ensures.0)

pub returns-then-not-is_valid : goal.returns-then-not-is_valid
unfolding standing
returns-then-not-is_valid c = simp (le-ltb (length c.args.mem.now) (need (size_in c.args.mem.now)) (omega (arith, c.machine_need.ensures, c.capacity-capacity.ensures.0)), sym c.is_valid.ensures ∙ c.if-not-is_valid.true) (refl, omega arith)

pub returns : goal.returns
unfolding standing
returns c = simp (le-ltb (length c.args.mem.now) (need (size_in c.args.mem.now)) (omega (arith, c.machine_need.ensures, c.capacity-capacity.ensures.0)), sym c.is_valid.ensures ∙ c.if-not-is_valid.false)
