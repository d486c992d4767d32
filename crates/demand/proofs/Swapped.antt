-- Laws of specs/Swapped.antt, and what only they need.
use Rattle.std.specs.Prelude.{ℕ, ◌<◌, ◌≡◌, refl, Bool, true, false, List, [], length, get_or}
use Rattle.std.proofs.Common.{sym, ap, subst, ◌∙◌, arith}
use Rattle.formula.specs.Tree.{formula_of}
use Rattle.formula.specs.Faults.{letters_of}
use Rattle.meaning.specs.declared.Evaluation.{Evaluation}
use Rattle.meaning.specs.Evaluate.{evaluation_of}
use Rattle.value_sets.specs.Sets.{set_ok}
use Rattle.machine_start.specs.StartLaws.{accepted-start}
use Rattle.demand.specs.MemoryCalls.{result}
use Rattle.demand.specs.Claim.{Ends, yielded}
use Rattle.demand.proofs.Demand3.{demand-3-behind}
use Rattle.demand.proofs.PushedSets.{pushed-behind, evaluation-same}
use Rattle.demand.proofs.Alone.{own-alone-behind}
use Rattle.demand.specs.Swapped.{Run, sets, results}

-- A result taken is that of a set pushed.
pushed-if-taken : {sheet : List ℕ} (r : Run sheet) (k : ℕ) → k < length (results r) → k < length (sets r)
pushed-if-taken {sheet} r k l = omega (arith, l, (demand-3-behind sheet r.line r.capacity r.memory r.accepted r.behind r.calls).none-invented)

-- ---- one set in two runs
module _ {sheet : List ℕ} (a b : Run sheet) (j k : ℕ) (same : get_or (sets a) j [] ≡ get_or (sets b) k []) (l : j < length (sets a)) (m : k < length (sets b)) where
  -- Of a set that both accepted, direct evaluation does the same with the one kinds line and with the other,
  evaluation-either : (rounds : ℕ) → evaluation_of sheet a.line (get_or (sets a) j []) rounds ≡ evaluation_of sheet b.line (get_or (sets b) k []) rounds
  evaluation-either rounds =
      let A = accepted-start sheet a.line a.capacity a.memory a.accepted in
      let B = accepted-start sheet b.line b.capacity b.memory b.accepted in
      ap (λ (s : List ℕ). evaluation_of sheet a.line s rounds) same
      ∙ evaluation-same sheet a.line b.line A.admissible A.kinded B.kinded (get_or (sets b) k [])
      (subst (λ (s : List ℕ). set_ok (letters_of (formula_of sheet) a.line) s ≡ true) same
      (pushed-behind sheet a.line a.capacity a.memory a.accepted a.behind a.calls j l))
      (pushed-behind sheet b.line b.capacity b.memory b.accepted b.behind b.calls k m) rounds

  -- so it ends with both or with neither: a and b may change places.
  pub ends-either : Ends sheet a.line (get_or (sets a) j []) → Ends sheet b.line (get_or (sets b) k [])
  ends-either e = (e.0, ap (λ (z : Evaluation). z.verdict) (sym (evaluation-either e.0)) ∙ e.1)

-- Taken as the j-th in the one and as the k-th in the other, its result is the same.
pub same-result : {sheet : List ℕ} (a b : Run sheet) (j k : ℕ) → get_or (sets a) j [] ≡ get_or (sets b) k [] → Ends sheet a.line (get_or (sets a) j [])
    → j < length (results a) → k < length (results b) → get_or (results a) j (result 0 []) ≡ get_or (results b) k (result 0 [])
unfolding ends-either
same-result {sheet} a b j k same e l m =
    let p = pushed-if-taken a j l in
    let q = pushed-if-taken b k m in
    own-alone-behind sheet a.line a.capacity a.memory a.accepted a.behind a.calls j l e.0 e.1
    ∙ ap yielded (evaluation-either a b j k same p q e.0)
    ∙ sym (own-alone-behind sheet b.line b.capacity b.memory b.accepted b.behind b.calls k m e.0 (ends-either a b j k same p q e).1)

-- ---- two runs
-- EVERY POSITION OUTSIDE THE GROUP HAS THE SAME RESULT. Positions count from 0. "The group may be empty or all": it is any test on them.
pub swapped : (sheet : List ℕ) (a b : Run sheet) (group : ℕ → Bool)
    -- "whose sets differ only at a chosen group of positions"
    → ((k : ℕ) → group k ≡ false → k < length (sets a) → k < length (sets b) → get_or (sets a) k [] ≡ get_or (sets b) k [])
    -- "The evaluation of every set outside the group ends; in the group it need not." Asked with the kinds line of a; with that of b it is the same (`ends-either`).
    → ((k : ℕ) → group k ≡ false → k < length (sets a) → k < length (sets b) → Ends sheet a.line (get_or (sets a) k []))
    -- "Every position outside the group that was taken in both runs has the same result."
    → (k : ℕ) → group k ≡ false → k < length (results a) → k < length (results b) → get_or (results a) k (result 0 []) ≡ get_or (results b) k (result 0 [])
swapped sheet a b group same ends k out l m =
    let p = pushed-if-taken a k l in
    let q = pushed-if-taken b k m in
    same-result a b k k (same k out p q) (ends k out p q) l m
