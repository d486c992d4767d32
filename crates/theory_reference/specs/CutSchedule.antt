-- THE SCHEDULE LEMMA WHERE LOOPS MAY BE CUT. As Schedule.antt, for what a graph yields when each loop may end from N rounds on with its first test err:
-- the schedule then has a twin of that test's first copy, behind N firings of the copy itself. So every twin in it comes late.
-- Assumes that every loop has such a test (graph, Tests.antt) and that the graph's operators are placed in a net with twins (Placed.antt).
use Prim.Native.Nat.{ℕ, ◌+◌, ◌≤◌, ◌<◌}
use Rattle.std.specs.Prelude.{◌≡◌, ◌≢◌, ◌⊎◌, ◌&&◌, length}
use mathlib.Core.List.{List, [], ◌∷◌, cons-ne-nil}
use Rattle.std.proofs.Math.Option.{some}
use Rattle.value.specs.declared.Value.{Value}
use Rattle.names.specs.Names.{Names, without}
use Rattle.network.specs.Values.{true-value, err-value}
use Rattle.network.specs.Net.{val, Demand, Links}
use Rattle.network.specs.Commute.{Never-emits}
use Rattle.theory_schedule.specs.Counts.{count}
use Rattle.theory_pieces.specs.Goes.{Net}
use Rattle.graph.specs.Assembly.{IC, Graph, wire, nothing, beside, bind, gate, loop, Env, member_of, free, links_of, outputs, operators_of, gate_outputs, gate_of, sharing, shared_links, first_use, second_use, copy_of, chain_links, total}
use Rattle.graph.specs.Yields.{Values, Answer, YieldsBy, YieldsIn, cut-loops, output_count, bound, Sequel, stops, goes_on}
use Rattle.graph.specs.Translation.{test_name}
use Rattle.graph.specs.Tests.{Behind, behind, Testing, let-first, at_test, Cuttable}
use Rattle.graph.specs.Fit.{Fit}

-- Only what is bound has a test.
abbrev pub Is-bind : Graph → Type 0
Is-bind (wire x) = ⊥
Is-bind nothing = ⊥
Is-bind (beside a b) = ⊥
Is-bind (bind ns a b) = Unit {0}
Is-bind (gate g a) = ⊥
Is-bind (loop ns a b) = ⊥

-- The values with err for the test.
abbrev pub err-test : Values → Values
err-test ρ = bound (test_name ∷ []) (some err-value ∷ []) ρ
