-- The refusal that a run by rounds answers, told by the links. Document 02, Job 7: "36 is given when something can fire after them, the firings kept as at run's
-- 36." Assumes the laws of `CallsAgree` and that the call was lent enough memory.
use Prim.Native.Nat.{ℕ, zero, suc, ◌+◌, ◌≤◌, ◌<◌}
use Rattle.std.specs.Prelude.{◌≡◌, ◌≢◌, ◌⊎◌, Bool, true, false, length, take as first_of}
use Rattle.std.proofs.Math.Path.{refl, subst}
use Rattle.std.proofs.Common.{sym, ap, ◌∙◌, inl, inr, arith}
use mathlib.Core.List.{List, [], ◌∷◌, ◌++◌}
use Rattle.std.proofs.Math.Decide.{ℕ_discrete, dec_lt}
use Rattle.value.specs.Operators.{pick}
use Rattle.network.specs.Net.{Links, Able}
use Rattle.theory_pieces.specs.Tape.{Step, firing}
use Rattle.formula.specs.Tree.{Exp}
use Rattle.formula.specs.declared.Refusal.TheVariants.{Unfinished}
use Rattle.formula.specs.Refusals.{number_of}
use Rattle.graph.specs.Assembly.{up_from}
use Rattle.graph.specs.Translation.{made_of}
use Rattle.machine_layout.specs.Layout.{size_of, need}
use Rattle.machine_runs.specs.Run.{still_at}
use Rattle.machine_rounds.specs.Rounds.{Outcome, ended, ran_rounds}
use Rattle.theory_verdicts.specs.Running.{fires, places, dec_able, operator_at, accept, after_steps, steps_of, steps_from}
use Rattle.demand_view.specs.Stands.{Stands}
use Rattle.demand_view.proofs.Run.{still-refused}
use Rattle.refusals.proofs.RunCount.{unstill-able}
use Rattle.demand.specs.Agree.{CallsAgree}
use Rattle.demand.proofs.Followed.{can-accepted}
use Rattle.demand.specs.RoundSteps.{turn_calls, roundSteps, roundsSteps, Same-rounds}
use Rattle.demand.proofs.FollowRounds.{rounds-accepted, rounds-counted}

module _ (x : Exp) (capacity : ℕ) (q : Links) where
  -- Operators of which none fires at its turn cannot fire.
  turns-cannot : (k i : ℕ) → steps_from x capacity (turn_calls i k) q ≡ [] → (a : ℕ) → i ≤ a → a < i + k → Able (places capacity) (operator_at x a) q → ⊥
  unfolding up_from steps_from steps_of
  turns-cannot zero i e a l h p = absurd (omega arith)
  turns-cannot (suc k) i e a l h p = go (dec_able (places capacity) (operator_at x i) q) e (ℕ_discrete a i) (λ f o. turns-cannot k (suc i) f a o (omega arith) p)
    where
      later : Links → List Step
      later = steps_from x capacity (turn_calls (suc i) k)

      go : (d : Dec (Able (places capacity) (operator_at x i) q)) → accept d (firing i) ++ later (after_steps x (accept d (firing i)) q) ≡ [] → Dec (a ≡ i)
          → (later q ≡ [] → suc i ≤ a → ⊥) → ⊥
      go (yes o) f s ih = let z = ap length f in omega arith
      go (no n) f (yes s) ih = n (subst (λ (j : ℕ). Able (places capacity) (operator_at x j) q) s p)
      go (no n) f (no s) ih = ih f (omega arith)

  -- Where something can fire, a round has a step.
  round-lives : (a : ℕ) → a < length (made_of x).operators → Able (places capacity) (operator_at x a) q → roundSteps x capacity q ≢ []
  round-lives a h p e = turns-cannot (length (made_of x).operators) 0 e a (omega arith) (omega arith) p

  able-steps : (a : ℕ) → Able (places capacity) (operator_at x a) q → steps_of x capacity (fires a) q ≡ firing a ∷ []
  unfolding steps_of
  able-steps a p = can-accepted (firing a) (dec_able (places capacity) (operator_at x a) q) p

module _ (x : Exp) (kinds : List ℕ) (capacity : ℕ) (low : 1 ≤ capacity) (high : capacity ≤ 16) (A : CallsAgree x kinds capacity) (m : List ℕ)
    (q : Links) (H : Stands (made_of x) kinds capacity m q) (lent : ℕ) (enough : need (size_of capacity) ≤ lent) (rounds : ℕ) where
  abbrev size : ℕ
  size = size_of capacity

  abbrev count : ℕ
  count = length (made_of x).operators

  abbrev done : Outcome
  done = ran_rounds (first_of lent m) rounds

  -- the links after the lent rounds
  abbrev pub linksAfter : Links
  linksAfter = after_steps x (roundsSteps x capacity rounds q) q

  counts : Same-rounds x A.sound kinds capacity low rounds done.answer.rounds done.answer.firings q done.mem
  counts = rounds-counted x kinds capacity low high A m q H lent enough rounds

  same-links : after_steps x (roundsSteps x capacity done.answer.rounds q) q ≡ linksAfter
  same-links = ap (λ (w : List Step). after_steps x w q) (sym counts.lent_same)

  done-stands : Stands (made_of x) kinds capacity done.mem linksAfter
  done-stands = subst (Stands (made_of x) kinds capacity done.mem) same-links counts.stands

  refusal_is : done.answer.refusal ≡ pick (still_at done.mem size count) 0 (number_of Unfinished)
  unfolding ended
  refusal_is =
      subst (λ (o : Outcome). o.answer.refusal ≡ pick (still_at o.mem size count) 0 (number_of Unfinished))
      (sym (rounds-accepted x kinds capacity low high A m q H lent enough rounds)) refl

  -- Accepted: nothing can fire, "when each operator would get 34".
  abbrev pub Finished : Type 0
  Finished = (done.answer.refusal ≡ 0) × ((a : ℕ) → steps_of x capacity (fires a) linksAfter ≡ [])

  -- 36: something can fire, and every lent round was made.
  pub record Unended : Type 0 where
    pub refusal_is : done.answer.refusal ≡ number_of Unfinished
    pub rounds-are : done.answer.rounds ≡ rounds
    pub operator : ℕ
    pub fires-on : steps_of x capacity (fires operator) linksAfter ≡ firing operator ∷ []

  all_made : (a : ℕ) → a < count → Able (places capacity) (operator_at x a) linksAfter → done.answer.rounds ≡ rounds
  all_made a h p = go (dec_lt done.answer.rounds rounds)
    where
      go : Dec (done.answer.rounds < rounds) → done.answer.rounds ≡ rounds
      go (yes l) = absurd (round-lives x capacity linksAfter a h p (ap (roundSteps x capacity) (sym same-links) ∙ counts.last l))
      go (no n) = omega (arith, counts.few)

  -- THE ANSWER.
  pub rounds-answer : Finished ⊎ Unended
  rounds-answer = go (still_at done.mem size count) refl
    where
      go : (b : Bool) → still_at done.mem size count ≡ b → Finished ⊎ Unended
      go true e =
          inl (refusal_is ∙ ap (λ (b : Bool). pick b 0 (number_of Unfinished)) e, still-refused x A.sound kinds capacity low done.mem linksAfter done-stands e)
      go false e =
          let w = unstill-able done.mem size count e in
          let p = A.able-links done.mem linksAfter done-stands w.0 w.1 w.2 in
          inr (record {
            refusal_is = refusal_is ∙ ap (λ (b : Bool). pick b 0 (number_of Unfinished)) e;
            rounds-are = all_made w.0 w.1 p;
            operator = w.0;
            fires-on = able-steps x capacity linksAfter w.0 p;
          })
