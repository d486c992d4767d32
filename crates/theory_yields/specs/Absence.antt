-- Where nothing comes, nothing goes: a fit graph whose inputs are all absent yields absent outputs in no round, loops resting. This is the arm of
-- an if that was not chosen (Brock, section 2.3: T and F gates absorb). Then the same for the graph of a formula and of a body.
use Rattle.std.specs.Prelude.{ℕ, ◌≡◌, refl, Bool, true, false, not, ◌&&◌, List, [], ◌∷◌, length}
use Rattle.std.proofs.Math.Option.{none}
use Rattle.names.specs.Names.{Names}
use Rattle.graph.specs.Assembly.{Graph, wire, nothing, beside, bind, gate, loop, free, member_of, gate_outputs}
use Rattle.graph.specs.Yields.{Values, absent, bound, output_count, YieldsIn, Sequel, Beside, Gated, loop-rests, Fires}
use Rattle.graph.specs.Fit.{Fit}

abbrev pub NothingAt : Names → Values → Type 0
NothingAt f ρ = (k : ℕ) → f k ≡ true → ρ k ≡ none
