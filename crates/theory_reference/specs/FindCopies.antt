-- The three operators by which a body's test reaches iter? are found in the graph behind the test's name, and again in a let around it; a net that has
-- them carries the test of every round by them. Assumes that the graph's operators are placed (Placed.antt) and that the graph is fit and has room.
use Prim.Native.Nat.{ℕ, ◌+◌, ◌≤◌, ◌<◌}
use Rattle.std.specs.Prelude.{◌≡◌, Bool, false, ◌&&◌, get_or}
use mathlib.Core.List.{List, [], ◌∷◌}
use native.Mathlib.Omega.{arith}
use Rattle.names.specs.Names.{Names, without}
use Rattle.network.specs.Net.{Token, mark, Demand, ask}
use Rattle.network.specs.Commute.{Never-emits}
use Rattle.network.specs.Uses.{Puts-onto}
use Rattle.graph.specs.Assembly.{Graph, wire, beside, bind, gate, IC, Env, name_count, member_of, nth, named, up_from, gate_outputs, free, links_of, outputs, operators_of, shared_links, first_use, second_use, Operator, copy_of, gate_of}
use Rattle.graph.specs.Translation.{test_name}
use Rattle.graph.specs.Tests.{Behind, behind}
use Rattle.graph.specs.Fit.{Fit}

-- The IC of an if.
abbrev pub joined : Bool → ℕ → List ℕ → Graph → Graph → Graph
joined both k ks z v = bind (k ∷ ks) (gate (IC both) (beside (wire test_name) z)) (beside (wire k) v)
