-- Each operator of a fit graph has the ports of its kind and takes from no link that it puts onto: with Wiring.antt, "a link named twice by one
-- operator" (refusal 31) is not met in a graph that was made. Assumes that the links of the names are different and lie below the graph's own,
-- and that all lie below the absent link.
use Rattle.std.specs.Prelude.{ℕ, zero, suc, ◌+◌, ◌*◌, ◌-◌, ◌≤◌, ◌<◌, ◌≡◌, refl, ◌⊎◌, Bool, true, false, List, [], ◌∷◌, ◌++◌, length, drop, get_or}
use native.Mathlib.Omega.{arith}
use Rattle.names.specs.Names.{Names, common, union, without}
use Rattle.network.specs.Uses.{In}
use Rattle.graph.specs.Assembly.{Graph, wire, nothing, beside, bind, gate, loop, free, member_of, gate_outputs, chain_links, Env, Operator, copy_of, gate_of, copies_for, sharing, shared_links, first_use, second_use, named, spread, chain, chain_ends, ring_gate, ring, rank, total, listed, links_of, outputs, operators_of}
use Rattle.graph.specs.Yields.{output_count}
use Rattle.graph.specs.Fit.{Fit}
use Rattle.theory_reference.specs.Plugged.{nowhere, Each}
use Rattle.theory_reference.specs.Plan.{Between, Envs}
use Rattle.theory_reference.specs.GraphLayout.{Layout, RingOf}

-- The links of a loop's gates: their outputs lie in an interval, all their inputs outside it.
abbrev pub Away : ℕ → ℕ → ℕ → Type 0
Away n k l = (l < n) ⊎ (n + k ≤ l)
