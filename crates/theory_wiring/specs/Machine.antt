-- The network of a graph's operators, the i-th of the list under the number i, with push and take beside them (network/specs/Ends): of every link
-- at most one of them takes and at most one puts, so that any two firings commute (network/specs/Commute): the maker's debt of theory_pieces/specs/Wiring,
-- and the bench of the schedule lemma (theory_reference/specs/GraphBench) with this network. Assumes a fit graph whose names have different links below
-- its own, all links below the absent one, and a source and a credit link that are none of them and no register links.
use Rattle.std.specs.Prelude.{ℕ, zero, suc, ◌+◌, ◌≤◌, ◌<◌, ◌≡◌, refl, ◌≢◌, ◌⊎◌, List, [], ◌∷◌, ◌++◌, length}
use Rattle.network.specs.Rules.{Input, first as input₁, second as input₂, third as input₃}
use Rattle.network.specs.Net.{Demand, halt}
use Rattle.network.specs.Fill.{input}
use Rattle.network.specs.Commute.{Free, Never-emits}
use Rattle.network.specs.Wired.{Uses}
use Rattle.network.specs.Uses.{In, Takes-from, Puts-onto}
use Rattle.graph.specs.Assembly.{Graph, free, Env, Operator, links_of, outputs, operators_of}
use Rattle.graph.specs.Yields.{Yields}
use Rattle.graph.specs.Fit.{Fit}
use Rattle.theory_reference.specs.Plan.{Between, Envs}
use Rattle.theory_reference.specs.Plugged.{nowhere, registers, link-of, ports_of, demand_of, Each}
use Rattle.theory_pieces.specs.Goes.{any-list}
use Rattle.theory_reference.specs.Bystanders.{Unused}

-- The network of a list of operators; a number past the last is no operator.
abbrev pub net_of : List Operator → ℕ → Demand
net_of [] i = halt
net_of (o ∷ os) zero = demand_of o
net_of (o ∷ os) (suc i) = net_of os i

-- The links that the i-th operator takes from and puts onto, its register link among both.
abbrev pub TakesAt : List Operator → ℕ → ℕ → Type 0
TakesAt [] i l = ⊥
TakesAt (o ∷ os) zero l = Takes-from o.kind (ports_of o) l
TakesAt (o ∷ os) (suc i) l = TakesAt os i l

abbrev pub PutsAt : List Operator → ℕ → ℕ → Type 0
PutsAt [] i l = ⊥
PutsAt (o ∷ os) zero l = Puts-onto o.kind (ports_of o) l
PutsAt (o ∷ os) (suc i) l = PutsAt os i l
