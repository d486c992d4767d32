-- A body's if behind its test meets its evaluation, where each arm meets its own (document 01: "An if whose test is no truth .. in a body it ends the
-- loop with err for each returned value"). An arm that goes on iterates, and one that ends returns, so its results have names.
use Rattle.std.specs.Prelude.{ℕ, ◌-◌, ◌≡◌, Bool, true, false, List, ◌∷◌, ◌++◌, length, get_or, replicate}
use Rattle.value.specs.declared.Value.{Value}
use Rattle.value.specs.declared.Sense.{Sense}
use Rattle.value.specs.declared.Sense.TheVariants.{True, False, Neither}
use Rattle.value.specs.Senses.{err, sense, only-one-true, only-one-false}
use Rattle.network.specs.Values.{true-value, false-value}
use Rattle.formula.specs.Tree.{Exp, Body, ret, iter, let_b, if_b}
use Rattle.formula.specs.Widths.{iterated}
use Rattle.formula.specs.Free.{free_b}
use Rattle.formula.specs.Count.{returns as returnsAlways, iterates}
use Rattle.formula.specs.Admitted.{AdmittedB}
use Rattle.meaning.specs.Meaning.{Env, bind, Outcome, yields, Ending, again, returns, then_b, branch, eval_e, eval_b}
use Rattle.meaning.specs.WidthLaws.{SizedB}
use Rattle.graph.specs.Assembly.{Graph}
use Rattle.graph.specs.Yields.{Values, absent, present, bound, YieldsIn}
use Rattle.graph.specs.Translation.{test_name, arm_names, joined, graph_b}

-- ---- which endings a body has
abbrev pub EndsAs : Body → Ending → Type 0
EndsAs y (again vs l) = iterates y ≡ true
EndsAs y (returns vs l) = returnsAlways y ≡ true
EndsAs y Ending.unfinished = Unit {0}
