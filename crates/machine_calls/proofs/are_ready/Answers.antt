use native.Mathlib.Omega.{arith}
use mathlib.Core.Path.{◌≡◌, sym, ◌∙◌}
use Prim.Native.Nat.{◌-◌}
use mathlib.Core.Bool.{true, false}
use borrow.Author.Tests.{eq-eqb, ne_eqb}
use Rattle.machine_calls.specs.Calls.{result_ready_from}
use Rattle.machine_valid.specs.Below.{below-zero, below_step, below-fail}
use Rattle.machine_layout.specs.Layout.{result_link}
use Rattle.machine_firing.specs.Links.{head_from}
use Rattle.machine_calls.proofs.are_ready.Goals as goal

pub loop-j-init : goal.loop-j-init
loop-j-init c = (omega arith, below-zero (result_ready_from c.args.mem.now c.args.links.base c.args.links.size))

pub returns-then-head_of-eq0 : goal.returns-then-head_of-eq0
unfolding result_ready_from
returns-then-head_of-eq0 c = sym (below-fail c.args.k (result_ready_from c.args.mem.now c.args.links.base c.args.links.size) c.loop-j.j (omega arith) (rw (← c.result_link.ensures.0) (simp (eq-eqb (head_from c.args.mem.now c.args.links.base c.args.links.size c.result_link.result) 0 (sym c.head_of.ensures.0 ∙ c.if-head_of-eq0.true)))))

pub loop-j-preserved : goal.loop-j-preserved
unfolding result_ready_from
loop-j-preserved c = (omega arith, below_step c.loop-j.j (result_ready_from c.args.mem.now c.args.links.base c.args.links.size) c.loop-j.invariant.1 (rw (← c.result_link.ensures.0) (simp (ne_eqb (head_from c.args.mem.now c.args.links.base c.args.links.size c.result_link.result) 0 (λ e. c.if-head_of-eq0.false (c.head_of.ensures.0 ∙ e))))))

pub returns : goal.returns
returns c = let e : c.loop-j.j ≡ c.args.k = omega arith in sym (rw e at c.loop-j.invariant.1)
