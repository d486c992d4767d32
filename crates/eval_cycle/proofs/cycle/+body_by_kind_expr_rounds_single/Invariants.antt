use Prim.Native.Nat.{◌+◌, ◌*◌}
use mathlib.Core.Path.{◌≡◌}
use lib.ListN.{length}
use Rattle.formula.specs.Tree.{body_of}
use Rattle.eval_cycle.specs.ToldBody.{Turning}
use Rattle.eval_cycle.proofs.cycle.+body_by_kind_expr_rounds_single.Given as goal

abbrev pub decreases-body : goal.decreases-body
decreases-body l = 5 * l.r + 3

abbrev pub decreases-by_kind : goal.decreases-by_kind
decreases-by_kind l = 5 * l.r

abbrev pub decreases-expr : goal.decreases-expr
decreases-expr l = 5 * l.r + 2

abbrev pub decreases-rounds : goal.decreases-rounds
decreases-rounds l = 5 * l.d + 4

abbrev pub decreases-single : goal.decreases-single
decreases-single l = 5 * l.r + 1

abbrev pub invariant-rounds-loop-l : goal.invariant-rounds-loop-l
invariant-rounds-loop-l l = Turning (body_of l.t l.d) l.a l.b l.initial.inner l.inner l.left l.l × (length l.inner ≡ 32) × (length l.values ≡ 16) × (l.out ≡ l.initial.out)

abbrev pub decreases-rounds-loop-l : goal.decreases-rounds-loop-l
decreases-rounds-loop-l l = l.l
