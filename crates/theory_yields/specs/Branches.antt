-- What an if yields behind its test, by what the test gives: "of an if only the chosen arm" (document 01). T and F gates let the names of the
-- chosen arm through and absorb those of the other, to which then nothing comes; a test that is no truth chooses neither.
use Rattle.std.specs.Prelude.{ℕ, ◌<◌, ◌≡◌, refl, Bool, true, false, List, [], ◌∷◌, map, length, ltb}
use Rattle.std.proofs.Math.Option.{some}
use Rattle.value.specs.declared.Value.{Value}
use Rattle.value.specs.declared.Sense.{Sense}
use Rattle.value.specs.declared.Sense.TheVariants.{True, False, Neither}
use Rattle.value.specs.Senses.{sense}
use Rattle.names.specs.Names.{Names, members}
use Rattle.graph.specs.Assembly.{Graph, bind, Gate, T, F, free}
use Rattle.graph.specs.Yields.{Values, Answer, absent, bound, output_count, YieldsIn, Sequel, Fires}
use Rattle.graph.specs.Fit.{Fit}
use Rattle.graph.specs.Translation.{test_name, row, gated, arm}

-- Every name of a set has a value.
abbrev pub AllAt : Names → Values → Type 0
AllAt f ρ = (k : ℕ) → f k ≡ true → (v : Value) × (ρ k ≡ some v)
