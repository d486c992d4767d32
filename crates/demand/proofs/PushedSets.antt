-- Every set pushed passes 12 with the kinds line of its start, and a set that passes it with two kinds lines of one sheet has the same values with both, so that
-- direct evaluation of it is the same with both. Assumes accepted starts, or an admissible sheet
-- and lines that pass 17 and 18.
use Rattle.std.specs.Prelude.{ℕ, ◌<◌, ◌≡◌, true, List, [], ◌++◌, length, get_or}
use Rattle.std.proofs.Common.{sym, ap, subst, ◌∙◌, append-nil, arith, ext_get_or}
use Rattle.std.proofs.Math.Option.{some, some-injective}
use Rattle.value.specs.declared.Value.{Value}
use Rattle.value.specs.Bytes.{value_of}
use Rattle.value.specs.Senses.{err}
use Rattle.value.proofs.Words.{value-of-word}
use Rattle.formula.specs.Tree.{formula_of}
use Rattle.formula.specs.Free.{free_e}
use Rattle.formula.specs.Faults.{letters_of}
use Rattle.formula.specs.Acceptance.{Admissible, Kinded}
use Rattle.meaning.specs.Meaning.{inputs_hold, eval_e}
use Rattle.meaning.specs.Evaluate.{concluded, evaluation_of}
use Rattle.value_sets.specs.Sets.{set_values, set_ok}
use Rattle.value_sets.proofs.Sets.{values-pass, values-set, set_values_lem, set-length}
use Rattle.machine_start.specs.Start.{started}
use Rattle.machine_start.specs.StartLaws.{accepted-start}
use Rattle.demand_begin.proofs.MadeSound.{made-sound}
use Rattle.demand_begin.proofs.Lent.{stands-behind}
use Rattle.demand_begin.proofs.StartedStands.{accepted-stands}
use Rattle.graph.specs.Translation.{made_of}
use Rattle.theory_verdicts.specs.Running as Abstract
use Rattle.theory_verdicts.specs.Running.{start_of}
use Rattle.demand.specs.MemoryCalls.{Call, sets_pushed}
use Rattle.demand.proofs.Evaluations.{evaluation-concludes}
use Rattle.demand.proofs.Agreed.{calls-agree}
use Rattle.demand.proofs.OnMemory.{F as bytes-follow, as-many-sets, read}

-- With any bytes behind what start was lent, and with none.
module _ (sheet line : List ℕ) (capacity : ℕ) (memory : List ℕ) (h : (started sheet line capacity memory).answer.refusal ≡ 0) where
  abbrev Are-sets : List ℕ → List Call → Type 0
  Are-sets start calls = (j : ℕ) → j < length (sets_pushed calls start) → set_ok (letters_of (formula_of sheet) line) (get_or (sets_pushed calls start) j []) ≡ true

  pub pushed-behind : (rest : List ℕ) (calls : List Call) → Are-sets ((started sheet line capacity memory).mem ++ rest) calls
  pushed-behind rest calls j l =
      let a = accepted-start sheet line capacity memory h in
      let x = formula_of sheet in
      let kinds = letters_of x line in
      let A = calls-agree sheet a.admissible kinds capacity a.some a.most in
      let start = (started sheet line capacity memory).mem ++ rest in
      let H = stands-behind (made_of x) (made-sound sheet a.admissible) kinds capacity (started sheet line capacity memory).mem (start_of x) (accepted-stands sheet line capacity memory h) rest in
      let f = bytes-follow sheet line a.admissible a.kinded capacity a.some a.most A start H calls in
      values-pass kinds (get_or (sets_pushed calls start) j []) (get_or (Abstract.pushed x capacity f.calls) j [])
      (read sheet line a.admissible a.kinded capacity a.some a.most A start H calls j
      (omega (arith, l, as-many-sets sheet line a.admissible a.kinded capacity a.some a.most A start H calls)))

  pub pushed-is-set : (calls : List Call) → Are-sets (started sheet line capacity memory).mem calls
  pushed-is-set calls = subst (λ (m : List ℕ). Are-sets m calls) (append-nil (started sheet line capacity memory).mem) (pushed-behind [] calls)

-- A field has one value, of whatever kind.
pub values_same : (kinds kinds' set : List ℕ) (v v' : List Value) → set_values kinds set ≡ some v → set_values kinds' set ≡ some v' → v ≡ v'
values_same kinds kinds' set v v' r r' =
    let I = values-set kinds set v r in
    let I' = values-set kinds' set v' r' in
    let e : length kinds ≡ length kinds'
    = omega (arith, set-length kinds set (values-pass kinds set v r), set-length kinds' set (values-pass kinds' set v' r')) in
    ext_get_or err v v' (I.count ∙ e ∙ sym I'.count)
    (λ j l.
    let m : j < length kinds = omega (arith, I.count) in
    let m' : j < length kinds' = omega (arith, I.count, e) in
    some-injective (get_or v j err) (get_or v' j err)
    (sym (value-of-word (get_or v j err) (I.ranged j m)) ∙ ap value_of (sym (I.words j m) ∙ I'.words j m') ∙ value-of-word (get_or v' j err) (I'.ranged j m')))

pub evaluation-same : (sheet line line' : List ℕ) → Admissible sheet → Kinded sheet line → Kinded sheet line' → (set : List ℕ)
    → set_ok (letters_of (formula_of sheet) line) set ≡ true → set_ok (letters_of (formula_of sheet) line') set ≡ true
    → (rounds : ℕ) → evaluation_of sheet line set rounds ≡ evaluation_of sheet line' set rounds
evaluation-same sheet line line' ok told told' set passes passes' rounds =
    let x = formula_of sheet in
    let r = set_values_lem (letters_of x line) set passes in
    let r' = set_values_lem (letters_of x line') set passes' in
    evaluation-concludes sheet line ok told set r.0 r.1.values rounds
    ∙ ap (λ (v : List Value). concluded rounds (eval_e x (inputs_hold (free_e x) v) rounds))
    (values_same (letters_of x line) (letters_of x line') set r.0 r'.0 r.1.values r'.1.values)
    ∙ sym (evaluation-concludes sheet line' ok told' set r'.0 r'.1.values rounds)
