use Prim.Native.Nat.{◌-◌}
use native.Mathlib.Omega.{arith}
use mathlib.Core.Path.{◌≡◌}
use Rattle.machine_tag_runs.specs.TagMarks.{least-one, least-new, least_kept}
use Rattle.machine_tag_runs.proofs.least_pair.Goals as goal
use Rattle.machine_tag_runs.proofs.least_pair.Goals.{then-firsts-t, else-firsts-t}

pub bounds-firsts-0 : goal.bounds-firsts-0
bounds-firsts-0 c = omega arith

pub loop-t-init : goal.loop-t-init
loop-t-init c = (omega arith, omega arith, least-one c.args.firsts.now)

pub offset_bounds-firsts-t : goal.offset_bounds-firsts-t
offset_bounds-firsts-t c = omega arith

pub bounds-firsts-t : goal.bounds-firsts-t
bounds-firsts-t c = omega arith

pub offset_bounds-firsts-t-then-firsts-t : goal.offset_bounds-firsts-t-then-firsts-t
offset_bounds-firsts-t-then-firsts-t c = omega arith

pub bounds-firsts-t-then-firsts-t : goal.bounds-firsts-t-then-firsts-t
bounds-firsts-t-then-firsts-t c = omega arith

pub loop-t-preserved : goal.loop-t-preserved
loop-t-preserved c = (
  omega arith,
  omega arith,
  elim c.if-firsts-t.branch [
    | then-firsts-t w ↦ rw w.v-is (least-new c.args.firsts.now c.loop-t.t c.loop-t.v c.loop-t.invariant.2 w.if-firsts-t.true)
    | else-firsts-t w ↦ rw w.v-is (least_kept c.args.firsts.now c.loop-t.t c.loop-t.v c.loop-t.invariant.2 w.if-firsts-t.false)
  ],
)

pub returns : goal.returns
returns c = let e : c.loop-t.t ≡ 16 = omega arith in (rw e at c.loop-t.invariant.2)
