use Rattle.eval_sheet.specs.Handed.{answers}
use mathlib.Core.Path.{ap}
use Prim.Native.Nat.{ℕ}
use Rattle.eval_sheet.proofs.refused.Goals as goal

pub returns : goal.returns
returns c = ap (λ (k : ℕ). answers k c.args.row 0 0) c.from.ensures
