-- A call's rounds and firings. Document 02, Job 7: "36 is given when something can fire after them, the firings kept as at run's 36. The call gives its
-- firings and its rounds, on 36 too, counting only rounds in which something fired." Assumes a memory in good standing.
use Rattle.std.specs.Prelude.{ℕ, ◌+◌, ◌≤◌, ◌<◌, ◌≡◌, refl, Bool, true, false, List}
use Rattle.std.proofs.Common.{sym, ap, subst, ◌∙◌, arith}
use Rattle.std.proofs.lemmas.Bool.{false≢true}
use Rattle.std.proofs.Math.Decide.{ℕ_discrete}
use Rattle.value.specs.Operators.{pick}
use Rattle.formula.specs.declared.Refusal.TheVariants.{Unfinished}
use Rattle.formula.specs.Refusals.{number_of}
use Rattle.machine_layout.specs.Layout.{operators_of}
use Rattle.machine_runs.specs.Run.{still_at}
use Rattle.machine_calls.specs.Calls.{size_in, standing}
use Rattle.machine_rounds.specs.Rounds.{Rounded, rounds_from, Outcome, outcome, answers, ended, ran_rounds}
use Rattle.machine_rounds.specs.RoundLaws.{rounds-below, rounds-ended}
use Rattle.machine_rounds.specs.Keeps.{Keeps, call-keeps, same_size, same-operators}
use Rattle.machine_rounds.specs.Turns.{RoundsMade, Counted, counted, rounds-only}

-- What an outcome says of the memory before it and of the lent number, where it is not refused with 11 or 31.
pub record RoundsCount (m : List ℕ) (lent : ℕ) (o : Outcome) : Type 0 where
  pub within : o.answer.rounds ≤ lent
  -- "its firings and its rounds", each of those with a firing, are those between the memory before and after
  pub between : RoundsMade (size_in m) (operators_of m) o.answer.rounds o.answer.firings m o.mem
  -- the memory after has the same links' length and operators
  pub size : size_in o.mem ≡ size_in m
  pub operators : operators_of o.mem ≡ operators_of m
  -- fewer rounds than lent only where nothing can fire
  pub below : o.answer.rounds < lent → still_at o.mem (size_in m) (operators_of m) ≡ true
  -- "36 is given when something can fire after them", and then all lent rounds were made
  pub unfinished : o.answer.refusal ≡ number_of Unfinished → (o.answer.rounds ≡ lent) × (still_at o.mem (size_in m) (operators_of m) ≡ false)
  pub goes_on : still_at o.mem (size_in m) (operators_of m) ≡ false → o.answer.refusal ≡ number_of Unfinished
  -- 0 exactly when nothing can
  pub accepted : o.answer.refusal ≡ 0 → still_at o.mem (size_in m) (operators_of m) ≡ true
  pub finished : still_at o.mem (size_in m) (operators_of m) ≡ true → o.answer.refusal ≡ 0

module _ (m : List ℕ) (lent : ℕ) (st : standing m ≡ 0) where
  abbrev W : Rounded
  W = rounds_from (size_in m) (operators_of m) lent m 0 0

  rounds-are : ran_rounds m lent ≡ outcome (answers (pick (still_at W.mem (size_in m) (operators_of m)) 0 36) W.rounds W.firings) W.mem
  unfolding ended
  rounds-are = rounds-ended m lent st

  pub rounds-count : RoundsCount m lent (ran_rounds m lent)
  rounds-count = subst (RoundsCount m lent) (sym rounds-are) (go (still_at W.mem (size_in m) (operators_of m)) refl)
    where
      C : Counted (size_in m) (operators_of m) lent m 0 0 W
      C = counted (size_in m) (operators_of m) lent m 0 0

      K : Keeps m W.mem
      K = subst (λ (o : Outcome). Keeps m o.mem) rounds-are (call-keeps m lent)

      early : W.rounds < lent → still_at W.mem (size_in m) (operators_of m) ≡ true
      early h = rounds-below (size_in m) (operators_of m) lent m 0 0 (omega arith)

      all : still_at W.mem (size_in m) (operators_of m) ≡ false → Dec (W.rounds ≡ lent) → W.rounds ≡ lent
      all e (yes p) = p
      all e (no q) = absurd (false≢true (sym e ∙ early (omega (arith, C.rounds-count, C.lent))))

      made : RoundsMade (size_in m) (operators_of m) W.rounds W.firings m W.mem
      made =
          let r : W.rounds ≡ C.rounds = omega (arith, C.rounds-count) in
          let f : W.firings ≡ C.firings = omega (arith, C.firings-count) in
          subst (λ (x : ℕ). RoundsMade (size_in m) (operators_of m) x W.firings m W.mem) (sym r)
          (subst (λ (y : ℕ). RoundsMade (size_in m) (operators_of m) C.rounds y m W.mem) (sym f) C.between)

      go : (b : Bool) → still_at W.mem (size_in m) (operators_of m) ≡ b → RoundsCount m lent (outcome (answers (pick b 0 36) W.rounds W.firings) W.mem)
      go true e =
          record {
            within = omega (arith, C.rounds-count, C.lent);
            between = made;
            size = same_size m W.mem K;
            operators = same-operators m W.mem K;
            below = λ h. e;
            unfinished = λ h. absurd (omega arith);
            goes_on = λ h. absurd (false≢true (sym h ∙ e));
            accepted = λ h. e;
            finished = λ h. refl;
          }
      go false e =
          record {
            within = omega (arith, C.rounds-count, C.lent);
            between = made;
            size = same_size m W.mem K;
            operators = same-operators m W.mem K;
            below = early;
            unfinished = λ h. (all e (ℕ_discrete W.rounds lent), e);
            goes_on = λ h. refl;
            accepted = λ h. absurd (omega arith);
            finished = λ h. absurd (false≢true (sym e ∙ h));
          }

  -- No other rounds, firings and memory are the call's.
  pub rounds-count-only : (r f : ℕ) (m' : List ℕ) → r ≤ lent → RoundsMade (size_in m) (operators_of m) r f m m'
      → (r < lent → still_at m' (size_in m) (operators_of m) ≡ true)
      → ((ran_rounds m lent).answer.rounds ≡ r) × ((ran_rounds m lent).answer.firings ≡ f) × ((ran_rounds m lent).mem ≡ m')
  rounds-count-only r f m' l t s =
      let o = rounds-only (size_in m) (operators_of m) lent r f m m' 0 0 l t s in
      let zr : 0 + r ≡ r = omega arith in
      let zf : 0 + f ≡ f = omega arith in
      rw rounds-are (ap (λ (w : Rounded). w.rounds) o ∙ zr, ap (λ (w : Rounded). w.firings) o ∙ zf, ap (λ (w : Rounded). w.mem) o)
