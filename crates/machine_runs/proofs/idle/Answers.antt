use native.Mathlib.Omega.{arith}
use Prim.Native.Nat.{◌-◌}
use mathlib.Core.Path.{◌≡◌, sym, ◌∙◌, ap, refl}
use mathlib.Core.Bool.{true, false}
use lib.ListN.{length}
use Rattle.machine_runs.specs.Run.{still_from}
use Rattle.machine_runs.specs.RunLaws.{quiet_none, quiet-more, least_at, least-none}
use borrow.Author.Tests.{lt-ltb, le-ltb}
use Rattle.machine_runs.proofs.idle.Goals as goal

pub loop-i-init : goal.loop-i-init
loop-i-init c = (omega arith, refl, quiet_none c.args.mem.now c.args.links.base c.args.links.size)

pub able_at-requires : goal.able_at-requires
able_at-requires c = let l : length c.loop-i.mem ≡ length c.args.mem.now = ap length c.loop-i.invariant.1 in (omega arith, omega arith, omega arith)

pub returns-then-able_at : goal.returns-then-able_at
unfolding still_from
returns-then-able_at c = (rw (least_at c.args.mem.now c.args.links.base c.args.links.size c.args.n c.loop-i.i (omega arith) c.loop-i.invariant.2 (sym (rw c.loop-i.invariant.1 at c.able_at.ensures.0) ∙ c.if-able_at.true), lt-ltb c.loop-i.i c.args.n (omega arith)) refl, c.able_at.ensures.1 ∙ c.loop-i.invariant.1)

pub loop-i-preserved : goal.loop-i-preserved
loop-i-preserved c = (omega arith, c.able_at.ensures.1 ∙ c.loop-i.invariant.1, quiet-more c.args.mem.now c.args.links.base c.args.links.size c.loop-i.i c.loop-i.invariant.2 (sym (rw c.loop-i.invariant.1 at c.able_at.ensures.0) ∙ c.if-able_at.false))

pub returns : goal.returns
unfolding still_from
returns c = let e : c.loop-i.i ≡ c.args.n = omega arith in (rw (least-none c.args.mem.now c.args.links.base c.args.links.size c.args.n (rw e at c.loop-i.invariant.2), le-ltb c.args.n c.args.n (omega arith)) refl, c.loop-i.invariant.1)
