use native.Mathlib.Omega.{arith}
use Prim.Native.Nat.{◌+◌, ◌*◌, ◌-◌}
use mathlib.Core.Path.{◌≡◌, sym, ◌∙◌}
use lib.ListN.{length}
use Rattle.machine_log.specs.SetLaws.{none-asked, tested-first, tested-last, tested-bad, tested-short, tested-next}
use Rattle.machine_log.proofs.sets.are_sets.Goals as goal

pub returns-then-kinds-eq0 : goal.returns-then-kinds-eq0
returns-then-kinds-eq0 c = none-asked c.args.kinds.now c.args.sets.now c.args.number c.if-kinds-eq0.true

pub loop-count-init : goal.loop-count-init
loop-count-init c =
    let z : 5 * length c.args.kinds.now * 0 ≡ 0 = omega arith in
    (omega arith, rw z (tested-first c.args.kinds.now c.args.sets.now c.args.number))

pub returns-then-sets-at : goal.returns-then-sets-at
returns-then-sets-at c = tested-short c.args.kinds.now c.args.sets.now c.args.number (5 * length c.args.kinds.now * c.loop-count.count) c.loop-count.count c.loop-count.invariant.1 c.loop-count-test.true c.if-sets-at.true

pub returns-then-not-is_set : goal.returns-then-not-is_set
returns-then-not-is_set c =
    let at = 5 * length c.args.kinds.now * c.loop-count.count in
    let z : at + 5 * length c.args.kinds.now - at ≡ 5 * length c.args.kinds.now = omega arith in
    tested-bad c.args.kinds.now c.args.sets.now c.args.number at c.loop-count.count c.loop-count.invariant.1 c.loop-count-test.true
    (sym (rw z at c.is_set.ensures) ∙ c.if-not-is_set.true)

pub loop-count-preserved : goal.loop-count-preserved
loop-count-preserved c =
    let at = 5 * length c.args.kinds.now * c.loop-count.count in
    let z : at + 5 * length c.args.kinds.now - at ≡ 5 * length c.args.kinds.now = omega arith in
    let e : 5 * length c.args.kinds.now * (c.loop-count.count + 1) ≡ at + 5 * length c.args.kinds.now = omega arith in (
      omega arith,
      rw e (tested-next c.args.kinds.now c.args.sets.now c.args.number at c.loop-count.count c.loop-count.invariant.1 c.loop-count-test.true
          (sym (rw z at c.is_set.ensures) ∙ c.if-not-is_set.false)),
    )

pub returns : goal.returns
returns c = tested-last c.args.kinds.now c.args.sets.now c.args.number (5 * length c.args.kinds.now * c.loop-count.count) c.loop-count.count c.loop-count.invariant.1 (omega arith)
