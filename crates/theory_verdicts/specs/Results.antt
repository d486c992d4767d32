-- What direct evaluation yields for a set (document 01, "Running": "Direct evaluation there is the meaning above with as many rounds as it needs, and
-- ends if some number is enough"). Rests on meaning/specs/Meaning; assumes nothing.
use Rattle.std.specs.Prelude.{ℕ, ◌≡◌, refl, List, [], ◌∷◌}
use Rattle.std.proofs.Math.Option.{Option, none, some}
use Rattle.value.specs.declared.Value.{Value}
use Rattle.formula.specs.Tree.{Exp}
use Rattle.formula.specs.Free.{free_e}
use Rattle.meaning.specs.Meaning.{Outcome, yields, eval_e, inputs_hold}

abbrev pub values_of : Outcome → Option (List Value)
values_of (yields vs left) = some vs
values_of Outcome.unfinished = none

-- The formula x evaluated with so many rounds for a set v: one value for each input, the inputs rising. None where more rounds are needed.
unfoldable pub result_of : Exp → List Value → ℕ → Option (List Value)
unfolding eval_e inputs_hold free_e
result_of x v rounds = values_of (eval_e x (inputs_hold (free_e x) v) rounds)

-- "ends if some number is enough": with these values.
abbrev pub EndsWith : Exp → List Value → List Value → Type 0
EndsWith x v r = (rounds : ℕ) × (result_of x v rounds ≡ some r)

-- ---- an outcome by its values
abbrev pub Is-some : {A : Type 0} → Option A → Type 0
Is-some none = ⊥
Is-some (some a) = Unit {0}

abbrev pub or_else : {A : Type 0} → A → Option A → A
or_else a none = a
or_else a (some b) = b

-- Each set of a list ends, with these results.
abbrev pub EachEnds : Exp → List (List Value) → List (List Value) → Type 0
EachEnds x [] [] = Unit {0}
EachEnds x [] (r ∷ rss) = ⊥
EachEnds x (v ∷ vss) [] = ⊥
EachEnds x (v ∷ vss) (r ∷ rss) = EndsWith x v r × EachEnds x vss rss
