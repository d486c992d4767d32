use native.Mathlib.Omega.{arith}
use mathlib.Core.Path.{sym, ◌∙◌}
use Rattle.formula.specs.declared.Shape.TheVariants.{Pair}
use Rattle.meaning.specs.Rows.{ExpChildren}
use Rattle.meaning.proofs.Rows.{exp-children}
use Rattle.eval_words.proofs.parts.operator_at.Goals as goal

pub width_at-requires-in-Pair-1 : goal.width_at-requires-in-Pair-1
width_at-requires-in-Pair-1 c = let k : ExpChildren c.args.t.now c.args.widths.now c.args.b (Pair c.in-Pair.x c.in-Pair.y) = exp-children c.args.t.now c.args.widths.now c.args.b c.requires (Pair c.in-Pair.x c.in-Pair.y) (sym c.shape_at.ensures ∙ c.in-Pair.is) in (k.0.0.low, omega (arith, k.0.0.high, k.0.0.accepted.table))

pub width_at-requires-then-width_at-eq1-2 : goal.width_at-requires-then-width_at-eq1-2
width_at-requires-then-width_at-eq1-2 c = let k : ExpChildren c.args.t.now c.args.widths.now c.args.b (Pair c.in-Pair.x c.in-Pair.y) = exp-children c.args.t.now c.args.widths.now c.args.b c.requires (Pair c.in-Pair.x c.in-Pair.y) (sym c.shape_at.ensures ∙ c.in-Pair.is) in (k.1.0.low, omega (arith, k.1.0.high, k.1.0.accepted.table))
