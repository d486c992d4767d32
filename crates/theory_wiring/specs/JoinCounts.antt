-- Counting what joins the arms of an if (graph/specs/Translation): rows of M and E gates, results that pass straight, copies, and the IC gate of
-- a body's if, as formula/specs/Count has them. Assumes at most sixteen results.
use Rattle.std.specs.Prelude.{ℕ, ◌+◌, ◌*◌, ◌-◌, ◌≤◌, ◌<◌, ◌≡◌, ◌⊎◌, Bool, cond, ◌&&◌, ◌||◌, not, length}
use Rattle.std.proofs.Math.Bool.{true, false}
use borrow.Author.Tests.{eqb-true, eq-eqb, ne_eqb}
use Rattle.names.specs.Names.{Names, one, common, union, without}
use Rattle.formula.specs.Tree.{Body}
use Rattle.formula.specs.Widths.{iterated}
use Rattle.formula.specs.Count.{◌⊕◌, gates, copies, returns, iterates, joined as joinedCount}
use Rattle.graph.specs.Assembly.{Graph, wire, gate_outputs, free, member_of, up_from, total, name_count}
use Rattle.graph.specs.Translation.{test_name, iter_name, iterated_name, returned_name, join_name, merged, excepted, merge_row, except_row, straight, copied, iterated_join, returned_join, join_names, joined}
use Rattle.theory_yields.specs.Joins.{join_i, join_r}

-- ---- rows of M
-- the names of the two arms' results are apart, and the control is none of them
pub record Merging (c : ℕ) (s : Bool → ℕ) (w : ℕ) : Type 0 where
  pub control : c < name_count
  pub sides : s true + w ≤ s false
  pub room : w ≤ name_count
  pub not_first : (i : ℕ) → i < w → c ≡ s true + i → ⊥
  pub not-second : (i : ℕ) → i < w → c ≡ s false + i → ⊥
