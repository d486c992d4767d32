-- Each link of a fit graph has at most one taker and at most one putter among its operators (document 01, "The graph"; an operator's number is
-- its position in the list). Operators put onto own links only; they take from own links and from the links of names; no operator takes
-- from an output. Assumes that the links of the names are different and lie below the graph's own.
use Prim.Native.Nat.{ℕ, zero, suc, ◌+◌, ◌≤◌, ◌<◌}
use Rattle.std.specs.Prelude.{◌≡◌, ◌⊎◌, Bool, true, false, List, [], ◌∷◌, eqb}
use native.Mathlib.Omega.{arith}
use Rattle.names.specs.Names.{Names, bit}
use Rattle.network.specs.Uses.{In}
use Rattle.theory_pieces.specs.Sets.{Different}
use Rattle.graph.specs.Assembly.{Graph, free, Env, Operator, up_from, name_count, links_of, outputs, operators_of}
use Rattle.graph.specs.Fit.{Fit}
use Rattle.theory_reference.specs.Plan.{Between, Envs}
use Rattle.theory_wiring.specs.Links.{input_links, output_links}

-- ---- positions
-- The links of the i-th operator's inputs, and of its outputs.
unfoldable pub inputs_at : List Operator → ℕ → List ℕ
inputs_at [] i = []
inputs_at (o ∷ os) zero = input_links o
inputs_at (o ∷ os) (suc i) = inputs_at os i

unfoldable pub outputs_at : List Operator → ℕ → List ℕ
outputs_at [] i = []
outputs_at (o ∷ os) zero = output_links o
outputs_at (o ∷ os) (suc i) = outputs_at os i
