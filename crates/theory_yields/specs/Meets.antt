-- What it is for a graph to yield what an evaluation yields: the same values in as many rounds as the evaluation used, or no end within the rounds
-- lent. Then one law for each way in which evaluations are put together (meaning/specs/Meaning: then, loop). Assumes nothing of the formula.
use Rattle.std.specs.Prelude.{ℕ, ◌+◌, ◌-◌, ◌≤◌, ◌<◌, ◌≡◌, refl, Bool, true, false, length, leb, ltb}
use mathlib.Core.List.{List, [], ◌∷◌, ◌++◌}
use Rattle.std.proofs.Math.Option.{none, some}
use Rattle.value.specs.declared.Value.{Value}
use Rattle.names.specs.Names.{Names, trigger, range, without}
use Rattle.network.specs.Values.{true-value, false-value}
use Rattle.meaning.specs.Meaning.{Env, bind, Outcome, yields, Ending, again, returns, then, then_b}
use Rattle.meaning.specs.Rounds.{Within, WithinB}
use Rattle.meaning.specs.WidthLaws.{Sized}
use Rattle.graph.specs.Assembly.{Graph, beside, bind as binding, gate, Gate, member_of, up_from}
use Rattle.graph.specs.Yields.{Values, Answer, absent, present, bound, Yields, Sequel, Beside, Gated, Fires}

-- ---- the values that a graph is given
-- The identifiers of a set have their values in the environment, and the trigger has some value.
abbrev pub Holds : Names → Env → Values → Type 0
Holds f env ρ = ((k : ℕ) → k < 32 → f k ≡ true → ρ k ≡ some (env k)) × (f trigger ≡ true → (v : Value) × (ρ trigger ≡ some v))

-- ---- what is to hold
abbrev pub Part : Type 1
Part = ℕ → Answer → Type 0

-- An evaluation that was lent some rounds: its values in the rounds that it used, or no end in all of them.
abbrev pub Meets : Part → ℕ → Outcome → Type 0
Meets P lent (yields vs left) = P (lent - left) (some (present vs))
Meets P lent Outcome.unfinished = P lent none

-- A round of a body: iter? and k iterated and r returned results, of which one kind is there.
abbrev pub MeetsB : ℕ → ℕ → Part → ℕ → Ending → Type 0
MeetsB k r P lent (again vs left) = P (lent - left) (some (some true-value ∷ (present vs ++ absent r)))
MeetsB k r P lent (returns vs left) = P (lent - left) (some (some false-value ∷ (absent k ++ present vs)))
MeetsB k r P lent Ending.unfinished = P lent none
