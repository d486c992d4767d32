-- What the functions of src/lib write and give for a row in its place (graph/specs/Translation, figure by figure). Assumes nothing.
use Rattle.std.specs.Prelude.{ℕ, ◌+◌, ◌-◌, ◌*◌, ◌≤◌, ◌≡◌, Bool, true, cond, List, length, get_or}
use Rattle.value.specs.declared.Value.TheVariants.{Truth as truth-value}
use Rattle.formula.specs.Tree.{exp_of, body_of}
use Rattle.formula.specs.Widths.{width, iterated}
use Rattle.graph.specs.Assembly.{Graph, beside}
use Rattle.graph.specs.Translation.{graph_e, constant_of}
use Rattle.machine_layout.specs.Record.{placed}
use Rattle.maker_laid.specs.Emitted.{copy_record}
use Rattle.maker_laid.specs.Masked.{list_of}
use Rattle.maker_laid.specs.Counts.{operator_count}
use Rattle.maker_laid.specs.Nodes.{graph_in, free_in}
use Rattle.maker_laid.specs.DoneIf.{ArmDone}
use Rattle.maker_joins.specs.declared.Emitted.{Emitted}
use Rattle.maker_parts.specs.Parts.{Gives, side_gate}

-- Row r in its place is written, and of a body it is known how many results it iterates.
pub record Part (p : Bool) (w : ℕ) (t : List ℕ) (r n m : ℕ) (e mem mem' : List ℕ) (x : Emitted) : Type 0 where
  pub done : Gives (graph_in p w t r) n m e mem mem' x
  pub iterates : p ≡ true → x.iterated ≡ iterated (body_of t r)

-- "A body emits "iter?": true constant at iter, false at a returned expression."
abbrev pub end_graph : Bool → List ℕ → ℕ → Graph
end_graph iter t k = beside (constant_of (truth-value iter)) (graph_e (exp_of t k))

pub record Ended (iter : Bool) (t : List ℕ) (k n m : ℕ) (e mem mem' : List ℕ) (x : Emitted) : Type 0 where
  pub done : Gives (end_graph iter t k) n m e mem mem' x
  pub iterates : x.iterated ≡ cond iter (width (exp_of t k)) 0

-- An arm of an if behind its gates, and the numbers behind it.
pub record Armed (side p : Bool) (w : ℕ) (t masks : List ℕ) (k control n m : ℕ) (e mem mem' : List ℕ) (x : Emitted) : Type 0 where
  pub armed : ArmDone (side_gate side) (free_in p t k) (graph_in p w t k) control n m e mem mem' x.outs x.count x.next.link x.next.operator
  pub iterates : p ≡ true → x.iterated ≡ iterated (body_of t k)
  pub long : x.count ≤ length x.outs
  pub operators : x.next.operator ≡ m + (2 * length (list_of (get_or masks (k - 1) 0)) - 1 + operator_count (graph_in p w t k))
  pub links : x.next.link ≤ n + 3 * (2 * length (list_of (get_or masks (k - 1) 0)) - 1 + operator_count (graph_in p w t k))

-- A copy of the link that has the test's output, then the arm, with the copy's first output for control.
pub record Branched (side p : Bool) (w : ℕ) (t masks : List ℕ) (k from n m : ℕ) (e mem mem' : List ℕ) (x : Emitted) : Type 0 where
  pub middle : List ℕ
  pub copied : middle ≡ placed mem m (copy_record from n (n + 1))
  pub armed : Armed side p w t masks k n (n + 2) (m + 1) e middle mem' x
