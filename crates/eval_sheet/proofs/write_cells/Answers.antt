use native.Mathlib.Omega.{arith}
use mathlib.Core.Path.{◌≡◌, refl, sym, ◌∙◌}
use lib.IntN.{pos}
use Rattle.value.specs.declared.Value.TheVariants.{Whole}
use Rattle.meaning.specs.Evaluate.{cell}
use Rattle.eval_sheet.specs.Handed.{written_none, written-more}
use Rattle.eval_sheet.proofs.write_cells.Goals as goal

pub loop-j-init : goal.loop-j-init
loop-j-init c = (written_none c.args.cells c.args.out.now, refl)

pub store-requires : goal.store-requires
store-requires c = omega (arith, c.loop-j.invariant.1)

pub loop-j-preserved : goal.loop-j-preserved
loop-j-preserved c = (c.store.ensures ∙ rw (c.to_word.ensures, c.loop-j.invariant.0) refl ∙ sym (written-more c.args.cells c.args.out.now c.loop-j.j (cell (Whole (pos 0))) (let k = c.well_formed.0.1.0.1 in omega (arith, k))), omega (arith, c.loop-j.invariant.1))

pub shape_of-out : goal.shape_of-out
shape_of-out c = c.loop-j.invariant.1

pub returns : goal.returns
returns c = let e : c.loop-j.j ≡ 16 = omega arith in (rw e at c.loop-j.invariant.0)
