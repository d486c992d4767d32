-- What is told of a graph laid out: each of its links has a claim, each of its operators keeps them, and its outputs have theirs. Here for
-- two parts, one behind the other, and for a gate behind a graph, each from what is told of the parts. Assumes nothing beside that.
use Rattle.std.specs.Prelude.{ℕ, zero, suc, ◌+◌, ◌≤◌, ◌<◌, ◌≡◌, refl, ◌⊎◌, true, false, List, [], ◌∷◌, ◌++◌, length}
use Rattle.names.specs.Names.{Names, union, without}
use Rattle.graph.specs.Assembly.{name_count, Graph, gate, Gate, member_of, gate_outputs, Env, gate_of, sharing, shared_links, first_use, named, links_of, outputs, operators_of, up_from}
use Rattle.theory_reference.specs.Plugged.{Each}
use Rattle.theory_claims.specs.Claims.{Claim}
use Rattle.theory_claims.specs.Telling.{Telling, Typed-operator, Agree, Marked, Outs}

-- What is told of a graph laid out from n on, beside what was told before.
pub record Laid (g : Graph) (n : ℕ) (env : Env) (cs : List Claim) (S : Telling) : Type 0 where
  pub told : Telling
  pub agree : Agree n S told
  pub marked : Marked told
  pub outs : Outs (n + links_of g) told (outputs g n env) cs
  pub typed : (U : Telling) → Agree (n + links_of g) told U → Each (Typed-operator U) (operators_of g n env)
