-- When the parts of a translated formula are fit (graph/specs/Fit): rows of gates, an arm behind its gates, an if, the joins of a body's if. And how
-- many outputs each of them has.
use Rattle.std.specs.Prelude.{ℕ, suc, ◌+◌, ◌≤◌, ◌<◌, ◌≡◌, Bool, not, ◌&&◌, ◌||◌, List, [], ◌∷◌, eqb, ltb}
use Rattle.std.proofs.Math.Bool.{true}
use Rattle.std.proofs.Math.ListN.{length}
use native.Mathlib.Omega.{arith}
use Rattle.names.specs.Names.{Names, members}
use Rattle.formula.specs.Tree.{Exp, Body, if_b}
use Rattle.formula.specs.Widths.{iterated}
use Rattle.formula.specs.Count.{returns, iterates}
use Rattle.formula.specs.Admitted.{AdmittedB}
use Rattle.graph.specs.Assembly.{Graph, wire, beside, bind, Gate, T, F, gate_outputs, free, member_of, up_from, name_count}
use Rattle.graph.specs.Yields.{output_count}
use Rattle.graph.specs.Fit.{Fit, Different, Used, gate_inputs}
use Rattle.graph.specs.Translation.{test_name, iterated_name, returned_name, join_name, row, gated, arm, merged, excepted, merge_row, except_row, straight, copied, iterated_join, returned_join, join_names, joined}
use Rattle.theory_yields.specs.Naming.{Small, Apart}
use Rattle.theory_yields.specs.Choice.{Has, From}

-- The two arms of an if with the names of their outputs.
pub record Arms (ns : List ℕ) (f : Names) (a : Graph) (ms : List ℕ) (g : Names) (b : Graph) : Type 0 where
  pub fit-a : Fit a
  pub fit-b : Fit b
  pub count-a : output_count a ≡ length ns
  pub count-b : output_count b ≡ length ms
  pub small-f : Small f
  pub small-g : Small g
  pub has-f : Has a f
  pub has-g : Has b g
  pub from-n : From 34 ns
  pub from-m : From 34 ms

-- With a test before them and a graph behind them that joins them.
pub record Fitting (t : Graph) (ns : List ℕ) (f : Names) (a : Graph) (ms : List ℕ) (g : Names) (b j : Graph) : Type 0 where
  pub arms : Arms ns f a ms g b
  pub fit-t : Fit t
  pub fit-j : Fit j
  pub one-test : output_count t ≡ 1
  pub different-n : Different ns
  pub different-m : Different ms
  pub apart : Apart ns ms
  pub used-n : Used ns j
  pub used-m : Used ms j
  pub used-t : free j test_name ≡ true
