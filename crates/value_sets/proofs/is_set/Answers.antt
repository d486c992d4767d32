use mathlib.Core.Path.{sym, ◌∙◌}
use Rattle.value_sets.proofs.Sets.{later-good, later-bad, later-end, set_long, set-short}
use Rattle.value_sets.proofs.is_set.Goals as goal

pub returns-then-set-kinds : goal.returns-then-set-kinds
returns-then-set-kinds c = sym (set-short c.args.kinds.now c.args.set.now c.if-set-kinds.true)

pub loop-i-init : goal.loop-i-init
loop-i-init c = (c.if-set-kinds.false, set_long c.args.kinds.now c.args.set.now c.if-set-kinds.false)

pub returns-then-not-is_of_kind : goal.returns-then-not-is_of_kind
returns-then-not-is_of_kind c = sym (c.loop-i.invariant.1 ∙ later-bad c.args.kinds.now c.loop-i.i c.args.set.now c.loop-i-test.true (rw (sym c.load.ensures.0) (sym c.is_of_kind.ensures ∙ c.if-not-is_of_kind.true)))

pub loop-i-preserved : goal.loop-i-preserved
loop-i-preserved c = (c.loop-i.invariant.0, c.loop-i.invariant.1 ∙ later-good c.args.kinds.now c.loop-i.i c.args.set.now c.loop-i-test.true (rw (sym c.load.ensures.0) (sym c.is_of_kind.ensures ∙ c.if-not-is_of_kind.false)))

pub returns : goal.returns
returns c = sym (c.loop-i.invariant.1 ∙ later-end c.args.kinds.now c.loop-i.i c.args.set.now c.loop-i-test.false)
