-- A run by rounds ends early at a round in which nothing fires (document 02, Job 7: "counting only rounds in which something fired"). Then nothing can fire at all, and
-- the oldest untaken set has its whole result ready by demand 3. So a call lent as many rounds as are owed is enough, wherever it ends.
-- Assumes an admissible sheet and 1 to 16 places a link.
use Prim.Native.Nat.{ℕ, zero, suc, ◌+◌, ◌≤◌, ◌<◌}
use Rattle.std.specs.Prelude.{◌≡◌, refl, ◌⊎◌}
use Rattle.std.proofs.Common.{sym, ◌∙◌, inl, inr, length-append, arith}
use Rattle.std.proofs.Math.Path.{ap, subst}
use mathlib.Core.List.{List, [], ◌∷◌, ◌++◌}
use Rattle.std.proofs.Math.ListN.{length}
use Rattle.std.proofs.Math.Decide.{ℕ_discrete, dec_lt}
use Rattle.network.specs.Net.{Links, Able}
use Rattle.theory_pieces.specs.Tape.{Step, firing, taking, sets_of, takes_of}
use Rattle.formula.specs.Tree.{Exp, formula_of}
use Rattle.formula.specs.Acceptance.{Admissible}
use Rattle.graph.specs.Translation.{made_of}
use Rattle.theory_wiring.proofs.Machine.{net-past}
use Rattle.theory_verdicts.specs.Running.{places, operator_at, start_of, dec_able, Call, fires, takes, after_steps, accept, steps_of, steps_from, history, standing, pushed, taken}
use Rattle.theory_verdicts.proofs.RunningLaws.{handed-count}
use Rattle.theory_verdicts.proofs.Demand3.{demand-3}
use Rattle.theory_rounds.specs.InTurn.{fires_from, rounds_of}
use Rattle.theory_rounds.proofs.TurnLaws.{sets-append, takes-append, firings-append, firings-push, firings-take, steps-append}
use Rattle.theory_rounds.specs.TurnLaws.{Only-firings}

pub refused-is : {A : Type 0} (s : Step) (d : Dec A) → (A → ⊥) → accept d s ≡ []
refused-is s (yes p) n = absurd (n p)
refused-is s (no m) n = refl

module _ (x : Exp) (capacity : ℕ) where
  round-fires : (k i : ℕ) (q : Links) → Only-firings (steps_from x capacity (fires_from k i) q)
  unfolding steps_from steps_of
  round-fires zero i q = tt
  round-fires (suc k) i q = go (dec_able (places capacity) (operator_at x i) q) (λ r. round-fires k (suc i) r)
    where
      go : (d : Dec (Able (places capacity) (operator_at x i) q)) → ((r : Links) → Only-firings (steps_from x capacity (fires_from k (suc i)) r))
          → Only-firings (accept d (firing i) ++ steps_from x capacity (fires_from k (suc i)) (after_steps x (accept d (firing i)) q))
      go (yes p) h = h _
      go (no n) h = h q

  -- Rounds are firings alone.
  pub rounds-fire : (b : ℕ) (q : Links) → Only-firings (steps_from x capacity (rounds_of x b) q)
  unfolding steps_from
  rounds-fire zero q = tt
  rounds-fire (suc b) q =
      let n = length (made_of x).operators in
      let w = steps_from x capacity (fires_from n 0) q in
      subst Only-firings (sym (steps-append x capacity (fires_from n 0) (rounds_of x b) q))
      (firings-append w (steps_from x capacity (rounds_of x b) (after_steps x w q)) (round-fires n 0 q) (rounds-fire b (after_steps x w q)))

  none-in-round : (k i : ℕ) (q : Links) → steps_from x capacity (fires_from k i) q ≡ [] → (a : ℕ) → i ≤ a → a < i + k → Able (places capacity) (operator_at x a) q → ⊥
  unfolding steps_from steps_of
  none-in-round zero i q e a l u = absurd (omega arith)
  none-in-round (suc k) i q e a l u = go (dec_able (places capacity) (operator_at x i) q) e (ℕ_discrete i a) (λ z m. none-in-round k (suc i) q z a m (omega arith))
    where
      go : (d : Dec (Able (places capacity) (operator_at x i) q))
          → accept d (firing i) ++ steps_from x capacity (fires_from k (suc i)) (after_steps x (accept d (firing i)) q) ≡ [] → Dec (i ≡ a)
          → (steps_from x capacity (fires_from k (suc i)) q ≡ [] → suc i ≤ a → Able (places capacity) (operator_at x a) q → ⊥) → Able (places capacity) (operator_at x a) q → ⊥
      go (yes p) z d ih = let y : suc (length (steps_from x capacity (fires_from k (suc i)) (after_steps x (firing i ∷ []) q))) ≡ 0 = ap length z in absurd (omega arith)
      go (no n) z (yes same) ih = subst (λ (c : ℕ). Able (places capacity) (operator_at x c) q → ⊥) same n
      go (no n) z (no other) ih = ih z (omega arith)

  -- After a round without a firing each operator would get 34.
  pub still-after-round : (q : Links) → steps_from x capacity (fires_from (length (made_of x).operators) 0) q ≡ [] → (a : ℕ) → steps_of x capacity (fires a) q ≡ []
  unfolding steps_of
  still-after-round q e a = refused-is (firing a) (dec_able (places capacity) (operator_at x a) q) (go (dec_lt a (length (made_of x).operators)))
    where
      go : Dec (a < length (made_of x).operators) → Able (places capacity) (operator_at x a) q → ⊥
      go (yes l) o = none-in-round (length (made_of x).operators) 0 q e a (omega arith) (omega arith) o
      go (no l) o = subst (λ d. Able (places capacity) d q) (net-past (made_of x).operators a (omega arith)) o

module _ (s : List ℕ) (accepted : Admissible s) (capacity : ℕ) (room : 1 ≤ capacity) (most : capacity ≤ 16) (calls : List Call) where
  abbrev x : Exp
  x = formula_of s

  -- Where nothing can fire after some rounds, a take is accepted.
  pub ready-when-still : length (taken (formula_of s) capacity calls) < length (pushed (formula_of s) capacity calls) → (rounds : ℕ)
      → ((a : ℕ) → steps_of (formula_of s) capacity (fires a) (standing (formula_of s) capacity (calls ++ rounds_of (formula_of s) rounds)) ≡ [])
      → steps_of (formula_of s) capacity takes (standing (formula_of s) capacity (calls ++ rounds_of (formula_of s) rounds)) ≡ taking ∷ []
  ready-when-still left rounds still = go ((demand-3 s accepted capacity room most (calls ++ rounds_of x rounds)).ready still)
    where
      all : List Call
      all = calls ++ rounds_of x rounds

      w : List Step
      w = steps_from x capacity (rounds_of x rounds) (standing x capacity calls)

      history-is : history x capacity all ≡ history x capacity calls ++ w
      history-is = steps-append x capacity calls (rounds_of x rounds) (start_of x)

      pushed-same : length (pushed x capacity all) ≡ length (pushed x capacity calls)
      pushed-same =
          ap (λ (u : List Step). length (sets_of u)) history-is ∙ ap length (sets-append (history x capacity calls) w)
          ∙ length-append (pushed x capacity calls) (sets_of w)
          ∙ omega (arith, ap length (firings-push w (rounds-fire x capacity rounds (standing x capacity calls))))

      taken-same : length (taken x capacity all) ≡ length (taken x capacity calls)
      taken-same =
          omega (
            arith,
            handed-count x capacity (history x capacity all) (start_of x),
            handed-count x capacity (history x capacity calls) (start_of x),
            ap takes_of history-is ∙ takes-append (history x capacity calls) w,
            firings-take w (rounds-fire x capacity rounds (standing x capacity calls)),
          )

      go : (length (taken x capacity all) ≡ length (pushed x capacity all)) ⊎ (steps_of x capacity takes (standing x capacity all) ≡ taking ∷ [])
          → steps_of x capacity takes (standing x capacity all) ≡ taking ∷ []
      go (inl e) = absurd (omega (arith, e, pushed-same, taken-same, left))
      go (inr e) = e
