-- Laws of specs/RunLaws.antt, and what only they need.
use Prim.Native.Nat.{ℕ, zero, suc, ◌+◌, ◌≤◌, ◌<◌}
use Rattle.std.specs.Prelude.{◌≡◌, []}
use Rattle.std.proofs.Math.Path.{refl, ap, subst}
use Rattle.std.proofs.Common.{sym, arith}
use Rattle.std.proofs.Math.Option.{Option, none, some}
use Rattle.std.proofs.Math.ListN.{length}
use Rattle.std.proofs.Math.Decide.{ℕ_discrete, dec_lt}
use Rattle.network.specs.Net.{Links, Able, act}
use Rattle.theory_pieces.specs.Tape.{Step, firing}
use Rattle.formula.specs.Tree.{Exp}
use Rattle.graph.specs.Translation.{made_of}
use Rattle.theory_wiring.proofs.Machine.{net-past}
use Rattle.theory_verdicts.specs.Running.{places, operator_at, dec_able, fires, after_steps, accept, pick, least_from, least_able, onward, run_steps, steps_of}
use Rattle.theory_verdicts.specs.RunLaws.{Is-none, number}

module _ (x : Exp) (capacity : ℕ) where
  abbrev Cannot : ℕ → Links → Type 0
  Cannot a q = Able (places capacity) (operator_at x a) q → ⊥

  -- Where no least able operator is found there is none among the k from a on.
  none-able : (k a : ℕ) (q : Links) → least_from x capacity k a q ≡ none → (b : ℕ) → a ≤ b → b < a + k → Cannot b q
  unfolding least_from
  none-able zero a q e b l u = absurd (omega arith)
  none-able (suc k) a q e b l u = go (dec_able (places capacity) (operator_at x a) q) e (ℕ_discrete a b) (λ i j. none-able k (suc a) q i b j (omega arith))
    where
      go : (d : Dec (Able (places capacity) (operator_at x a) q)) → pick d a (least_from x capacity k (suc a) q) ≡ none → Dec (a ≡ b)
          → (least_from x capacity k (suc a) q ≡ none → suc a ≤ b → Cannot b q) → Cannot b q
      go (yes p) i d ih = absurd (subst Is-none (sym i) tt)
      go (no n) i (yes z) ih = subst (λ (c : ℕ). Cannot c q) z n
      go (no n) i (no z) ih = ih i (omega arith)

  past-cannot : (b : ℕ) (q : Links) → length (made_of x).operators ≤ b → Cannot b q
  past-cannot b q l o = subst (λ d. Able (places capacity) d q) (net-past (made_of x).operators b l) o

  nothing-able : (q : Links) → least_able x capacity q ≡ none → (b : ℕ) → Cannot b q
  nothing-able q e b = go (dec_lt b (length (made_of x).operators))
    where
      go : Dec (b < length (made_of x).operators) → Cannot b q
      go (yes l) = none-able (length (made_of x).operators) 0 q e b (omega arith) (omega arith)
      go (no l) = past-cannot b q (omega arith)

  -- The operator found can fire, and none of a lesser number can.
  pub least-is-least : (k a : ℕ) (q : Links) (c : ℕ) → least_from x capacity k a q ≡ some c → Able (places capacity) (operator_at x c) q × ((b : ℕ) → a ≤ b → b < c → Cannot b q)
  unfolding least_from
  least-is-least zero a q c e = absurd (subst Is-none e tt)
  least-is-least (suc k) a q c e = go (dec_able (places capacity) (operator_at x a) q) e (λ i. least-is-least k (suc a) q c i)
    where
      go : (d : Dec (Able (places capacity) (operator_at x a) q)) → pick d a (least_from x capacity k (suc a) q) ≡ some c
          → (least_from x capacity k (suc a) q ≡ some c → Able (places capacity) (operator_at x c) q × ((b : ℕ) → suc a ≤ b → b < c → Cannot b q))
          → Able (places capacity) (operator_at x c) q × ((b : ℕ) → a ≤ b → b < c → Cannot b q)
      go (yes p) i ih =
          let z : a ≡ c = ap number i in
          (subst (λ (b : ℕ). Able (places capacity) (operator_at x b) q) z p, λ b l u. absurd (omega arith))
      go (no n) i ih = let r = ih i in (r.0, λ b l u. at b l (ℕ_discrete a b) (λ j. r.1 b j u))
        where
          at : (b : ℕ) → a ≤ b → Dec (a ≡ b) → (suc a ≤ b → Cannot b q) → Cannot b q
          at b l (yes z) later = subst (λ (c : ℕ). Cannot c q) z n
          at b l (no z) later = later (omega arith)

  refused-is : {A : Type 0} (s : Step) (d : Dec A) → (A → ⊥) → accept d s ≡ []
  refused-is s (yes p) n = absurd (n p)
  refused-is s (no m) n = refl

  run-quiet : (lent : ℕ) (q : Links) → length (run_steps x capacity lent q) < lent → (b : ℕ) → Cannot b (after_steps x (run_steps x capacity lent q) q)
  unfolding run_steps
  run-quiet zero q l b = absurd (omega arith)
  run-quiet (suc lent) q l b = go (least_able x capacity q) refl l (λ a i. run-quiet lent (act (operator_at x a) q) i b)
    where
      go : (o : Option ℕ) → least_able x capacity q ≡ o → length (onward o (λ a. run_steps x capacity lent (act (operator_at x a) q))) < suc lent
          → ((a : ℕ) → length (run_steps x capacity lent (act (operator_at x a) q)) < lent
          → Cannot b (after_steps x (run_steps x capacity lent (act (operator_at x a) q)) (act (operator_at x a) q)))
          → Cannot b (after_steps x (onward o (λ a. run_steps x capacity lent (act (operator_at x a) q))) q)
      go none e l ih = nothing-able q e b
      go (some a) e l ih = ih a (omega arith)

  -- "It is below the number only when nothing can fire.": then each operator would get 34.
  pub run-below-lent : (lent : ℕ) (q : Links) → length (run_steps x capacity lent q) < lent → (b : ℕ)
      → steps_of x capacity (fires b) (after_steps x (run_steps x capacity lent q) q) ≡ []
  unfolding steps_of
  run-below-lent lent q l b =
      refused-is (firing b) (dec_able (places capacity) (operator_at x b) (after_steps x (run_steps x capacity lent q) q)) (run-quiet lent q l b)
