use mathlib.Core.Path.{sym, ◌∙◌, ap}
use native.Mathlib.Omega.{arith}
use Prim.Native.Nat.{◌-◌}
use Rattle.formula.specs.Tests.{is-passed}
use Rattle.formula.proofs.TestLaws.{starts, goes_on, stops, ends}
use Rattle.sheet_listed.specs.Small.{modest_row}
use Rattle.sheet_stands.proofs.tests.modest_rows.Goals as goal

pub loop-i-init : goal.loop-i-init
loop-i-init c = (omega arith, starts c.args.n 0 (modest_row c.args.t.now))

pub returns-then-not-modest_row : goal.returns-then-not-modest_row
returns-then-not-modest_row c = sym (ap is-passed (sym c.loop-i.invariant.1 ∙ stops c.args.n c.loop-i.i (modest_row c.args.t.now) c.loop-i-test.true (sym c.modest_row.ensures ∙ c.if-not-modest_row.true)))

pub loop-i-preserved : goal.loop-i-preserved
loop-i-preserved c = (omega arith, goes_on c.args.n c.loop-i.i (modest_row c.args.t.now) c.loop-i-test.true (sym c.modest_row.ensures ∙ c.if-not-modest_row.false) ∙ c.loop-i.invariant.1)

pub returns : goal.returns
returns c = sym (ap is-passed (sym c.loop-i.invariant.1 ∙ ends c.args.n c.loop-i.i (modest_row c.args.t.now) (omega arith)))
