-- Which outputs of a graph are links of its own, and which are bare: the link of a name passes straight through. For parts side by
-- side and one after another; a loop's body must have no bare output.
use Rattle.std.specs.Prelude.{ℕ, ◌+◌, ◌<◌, ◌≡◌, ◌⊎◌, true, false, cond, List, ◌++◌, length, eqb}
use Rattle.names.specs.Names.{Names, none as noNames, union, common, without}
use Rattle.network.specs.Uses.{In}
use Rattle.graph.specs.Assembly.{Env, member_of, named, total, shared_links, first_use, second_use}
use Rattle.graph.specs.Fit.{Different as DifferentNames}
use Rattle.theory_reference.specs.Plan.{Plan, Own}

-- Each output is an own link or the link of one of these names.
abbrev pub Straight : Names → Plan → Type 0
Straight B P = (l : ℕ) → In l P.outs → Own P l ⊎ ((x : ℕ) × (B x ≡ true) × (l ≡ P.env x))

-- The bare outputs of a binding: as `bare` of graph, Fit.antt, has them.
abbrev pub bare-bound : List ℕ → Names → Names → Names
bare-bound ns A B = union (without B (member_of ns)) (cond (eqb (total (common B (member_of ns))) 0) noNames A)
