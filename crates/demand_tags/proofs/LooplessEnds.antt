-- Direct evaluation of a sheet without for ends, with however many rounds, on each set that can be read (meaning/specs/Loopless). Assumes an admissible sheet with a
-- kinds line that passes 17 and 18.
use Rattle.std.specs.Prelude.{ℕ, ◌≡◌, refl, List, Ok}
use Rattle.std.proofs.Common.{ap, ◌∙◌}
use Rattle.std.proofs.Math.Option.{some}
use Rattle.value.specs.declared.Value.{Value}
use Rattle.value_sets.specs.Sets.{set_values}
use Rattle.formula.specs.Tree.{formula_of}
use Rattle.formula.specs.Free.{free_e}
use Rattle.formula.specs.Faults.{letters_of}
use Rattle.formula.specs.Acceptance.{Admissible, Kinded}
use Rattle.meaning.specs.Meaning.{Outcome, yields, inputs_hold}
use Rattle.meaning.specs.Evaluate.{concluded}
use Rattle.meaning.specs.Loopless.{Loopless}
use Rattle.meaning.proofs.Loopless.{loopless-ends}
use Rattle.demand.specs.Claim.{Enough}
use Rattle.demand.proofs.Evaluations.{evaluation-concludes}

yields-passes : (rounds : ℕ) (vs : List Value) (left : ℕ) → (concluded rounds (yields vs left)).verdict ≡ Ok tt
unfolding concluded
yields-passes rounds vs left = refl

pub loopless-enough : (sheet line : List ℕ) → Admissible sheet → Kinded sheet line → Loopless (formula_of sheet) → (set : List ℕ) (v : List Value)
    → set_values (letters_of (formula_of sheet) line) set ≡ some v → (rounds : ℕ) → Enough sheet line set rounds
loopless-enough sheet line ok told loopless set v read rounds =
    let x = formula_of sheet in
    let ends = loopless-ends x loopless (inputs_hold (free_e x) v) rounds in
    ap (λ e. e.verdict) (evaluation-concludes sheet line ok told set v read rounds)
    ∙ ap (λ (o : Outcome). (concluded rounds o).verdict) ends.1
    ∙ yields-passes rounds ends.0 rounds
