use mathlib.Core.Path.{◌∙◌, ap, refl, ◌≡◌}
use native.Mathlib.Omega.{arith}
use Prim.Native.Nat.{◌-◌, ◌+◌}
use Rattle.formula.specs.Sheet.{named_in}
use Rattle.formula.specs.Tests.{names_well, all_between}
use Rattle.formula.proofs.TestLaws.{passed-each}
use Rattle.sheet_rows.specs.Tallies.{tally, tallied}
use Rattle.sheet_rows.proofs.RowLaws.{tallied_more}
use Rattle.sheet_rows.proofs.rows.tally_all.Goals as goal

pub loop-r-init : goal.loop-r-init
unfolding tallied
loop-r-init c = (refl, c.requires.1, omega arith)

pub tally_row-requires : goal.tally_row-requires
unfolding names_well
tally_row-requires c = (omega arith, ap (λ s. all_between c.loop-r.r (named_in s)) c.shape_at.ensures ∙ passed-each c.args.n (names_well c.args.fields.now) c.requires.2 c.loop-r.r (omega arith) (omega arith))

pub loop-r-preserved : goal.loop-r-preserved
loop-r-preserved c = (
  c.tally_row.ensures ∙ ap (λ s. tally (named_in s) c.loop-r.times) c.shape_at.ensures ∙ tallied_more c.args.fields.now c.args.times.now c.loop-r.times c.loop-r.r (omega arith) c.loop-r.invariant.0 ∙ ap (λ k. tallied c.args.fields.now k c.args.times.now) (let e : c.loop-r.r ≡ c.loop-r.r + 1 - 1 = omega arith in e),
  c.tally_row.auto.times ∙ c.loop-r.invariant.1,
  omega arith,
)

pub returns : goal.returns
returns c = let e : c.loop-r.r - 1 ≡ c.args.n = omega arith in c.loop-r.invariant.0 ∙ ap (λ k. tallied c.args.fields.now k c.args.times.now) e

pub returns-2 : goal.returns-2
returns-2 c = let e : c.loop-r.r ≡ c.args.n = omega arith in c.tally_row.ensures ∙ ap (λ s. tally (named_in s) c.loop-r.times) c.shape_at.ensures ∙ tallied_more c.args.fields.now c.args.times.now c.loop-r.times c.loop-r.r (omega arith) c.loop-r.invariant.0 ∙ ap (λ k. tallied c.args.fields.now k c.args.times.now) e
