-- What joins the arms of an if (graph/specs/Translation: rows of M and E gates, results that pass straight, copies, the IC gate): which names
-- these graphs use. Document 01, "The graph": "An output with no user is not emitted", and each output that is, has one.
use Rattle.std.specs.Prelude.{ℕ, ◌+◌, ◌-◌, ◌≤◌, ◌<◌, ◌≡◌, refl, Bool, true, false, cond, ◌&&◌, ◌||◌, List, eqb}
use Rattle.formula.specs.Tree.{Body}
use Rattle.formula.specs.Widths.{iterated}
use Rattle.formula.specs.Count.{returns, iterates}
use Rattle.graph.specs.Assembly.{Graph, wire, nothing, free, member_of, up_from}
use Rattle.graph.specs.Translation.{iterated_name, returned_name, join_name, row, merged, excepted, merge_row, except_row, straight, copied, iterated_join, returned_join, join_names}

-- Which name of a stretch it is.
pub record At (s w k : ℕ) : Type 0 where
  pub index : ℕ
  pub below : index < w
  pub same : s + index ≡ k

-- ---- the two joins of a body's if, by whether each arm iterates and how many values, and by whether each arm returns
abbrev pub join_i : Bool → Bool → ℕ → ℕ → Graph
join_i b c m n =
    cond (b && c) (merge_row (join_name + 1) iterated_name m)
    (cond b (straight (iterated_name true) m) (cond c (straight (iterated_name false) n) nothing))

abbrev pub join_r : Bool → Bool → ℕ → Graph
join_r b c w =
    cond (b && c) (merge_row (join_name + 2) returned_name w)
    (cond b (except_row (join_name + 2) (returned_name true) w)
    (cond c (except_row (join_name + 2) (returned_name false) w) (copied (join_name + 2) w)))

-- The results of one arm, where it has any.
abbrev pub stretch : ℕ → Bool → ℕ → List ℕ
stretch s b m = up_from s (cond b m 0)
