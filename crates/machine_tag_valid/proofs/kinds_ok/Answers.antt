use native.Mathlib.Omega.{arith}
use mathlib.Core.Path.{◌≡◌, sym}
use Prim.Native.Nat.{◌-◌}
use mathlib.Core.Bool.{true}
use borrow.Author.Tests.{le-leb, lt-leb}
use Rattle.machine_layout.specs.Layout.{kind_byte}
use Rattle.machine_valid.specs.Below.{below-zero, below_step, below-fail}
use Rattle.machine_tags.specs.TagValid.{plain_kind}
use Rattle.machine_tag_valid.proofs.kinds_ok.Goals as goal

pub loop-i-init : goal.loop-i-init
loop-i-init c = (omega arith, below-zero (plain_kind c.args.mem.now))

pub loop-i-preserved : goal.loop-i-preserved
unfolding plain_kind
loop-i-preserved c = (omega arith, below_step c.loop-i.i (plain_kind c.args.mem.now) c.loop-i.invariant.1 (le-leb (kind_byte c.args.mem.now c.loop-i.i) 16 (rw c.operator_at.ensures at c.if-mem-operator_at-gt-M.false)))

pub returns-then-mem-operator_at-gt-M : goal.returns-then-mem-operator_at-gt-M
unfolding plain_kind
returns-then-mem-operator_at-gt-M c = sym (below-fail c.args.n (plain_kind c.args.mem.now) c.loop-i.i (omega arith) (lt-leb (kind_byte c.args.mem.now c.loop-i.i) 16 (rw c.operator_at.ensures at c.if-mem-operator_at-gt-M.true)))

pub returns : goal.returns
returns c = let e : c.loop-i.i ≡ c.args.n = omega arith in sym (rw e at c.loop-i.invariant.1)
