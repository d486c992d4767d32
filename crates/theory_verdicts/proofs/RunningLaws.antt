-- Laws of the calls (Running): every step of a list of calls can be made where it is made, every pushed set has a value for each input, and the steps
-- are accepted calls as theory_pieces/specs/Tape has them, with the trigger's value behind each set. Assumes nothing.
use Prim.Native.Nat.{ℕ, zero, suc, ◌+◌}
use Rattle.std.specs.Prelude.{◌≡◌, Bool, cond, length, take}
use Rattle.std.proofs.Math.Path.{refl}
use Rattle.std.proofs.Common.{ap, length-append, eqb-true, arith}
use Rattle.std.proofs.Math.Bool.{true, false}
use mathlib.Core.List.{List, [], ◌∷◌, ◌++◌, map}
use Rattle.std.proofs.Math.Option.{Option, none, some}
use Rattle.std.proofs.Math.Dec.{eqb}
use Rattle.std.proofs.Math.Seq.{take-append_seam}
use Rattle.value.specs.declared.Value.{Value}
use Rattle.network.specs.Values.{true-value}
use Rattle.names.specs.Names.{bit}
use Rattle.network.specs.Net.{Token, Links, Able, act, label}
use Rattle.theory_pieces.specs.Tape.{Step, pushing, firing, taking, sets_of, takes_of, results-of, Sized}
use Rattle.theory_pieces.proofs.Tape.{Accepted, after}
use Rattle.formula.specs.Tree.{Exp}
use Rattle.graph.specs.Translation.{made_of}
use Rattle.theory_wiring.specs.MadeGraph.{push_links}
use Rattle.theory_verdicts.specs.Owed.{credit_link}
use Rattle.theory_verdicts.proofs.Owed.{length-fits}
use Rattle.theory_verdicts.specs.Running.{places, operator_at, with_trigger, push_of, take_of, dec_able, Call, pushes, fires, runs, takes, demand_of, after_steps, handed, accept, pick, least_from, onward, run_steps, steps_of, steps_from}

module _ (x : Exp) (capacity : ℕ) where
  -- ---- every step can be made
  abbrev pub Made-in-turn : List Step → Links → Type 0
  Made-in-turn [] q = Unit {0}
  Made-in-turn (s ∷ w) q = Able (places capacity) (demand_of x s) q × Made-in-turn w (act (demand_of x s) q)

  turn-append : (w u : List Step) (q : Links) → Made-in-turn w q → Made-in-turn u (after_steps x w q) → Made-in-turn (w ++ u) q
  turn-append [] u q a b = b
  turn-append (s ∷ w) u q a b = (a.0, turn-append w u (act (demand_of x s) q) a.1 b)

  accept-made : (s : Step) (q : Links) (d : Dec (Able (places capacity) (demand_of x s) q)) → Made-in-turn (accept d s) q
  accept-made s q (yes p) = (p, tt)
  accept-made s q (no n) = tt

  abbrev Can-fire : Links → Option ℕ → Type 0
  Can-fire q none = Unit {0}
  Can-fire q (some a) = Able (places capacity) (operator_at x a) q

  least-can : (k a : ℕ) (q : Links) → Can-fire q (least_from x capacity k a q)
  unfolding least_from
  least-can zero a q = tt
  least-can (suc k) a q = go (dec_able (places capacity) (operator_at x a) q) (least-can k (suc a) q)
    where
      go : (d : Dec (Able (places capacity) (operator_at x a) q)) → Can-fire q (least_from x capacity k (suc a) q)
          → Can-fire q (pick d a (least_from x capacity k (suc a) q))
      go (yes p) h = p
      go (no n) h = h

  run-made : (lent : ℕ) (q : Links) → Made-in-turn (run_steps x capacity lent q) q
  unfolding run_steps
  run-made zero q = tt
  run-made (suc lent) q = go (least_from x capacity (length (made_of x).operators) 0 q) (least-can (length (made_of x).operators) 0 q) (λ a. run-made lent (act (operator_at x a) q))
    where
      go : (o : Option ℕ) → Can-fire q o → ((a : ℕ) → Made-in-turn (run_steps x capacity lent (act (operator_at x a) q)) (act (operator_at x a) q))
          → Made-in-turn (onward o (λ a. run_steps x capacity lent (act (operator_at x a) q))) q
      go none h ih = tt
      go (some a) h ih = (h, ih a)

  call-made : (c : Call) (q : Links) → Made-in-turn (steps_of x capacity c q) q
  unfolding steps_of
  call-made (pushes v) q = go (eqb (length v) (made_of x).inputs)
    where
      go : (b : Bool) → Made-in-turn (cond b (accept (dec_able (places capacity) (push_of x v) q) (pushing v)) []) q
      go true = accept-made (pushing v) q (dec_able (places capacity) (push_of x v) q)
      go false = tt
  call-made (fires a) q = accept-made (firing a) q (dec_able (places capacity) (operator_at x a) q)
  call-made (runs lent) q = run-made lent q
  call-made takes q = accept-made taking q (dec_able (places capacity) (take_of x) q)

  pub calls-made : (calls : List Call) (q : Links) → Made-in-turn (steps_from x capacity calls q) q
  unfolding steps_from
  calls-made [] q = tt
  calls-made (c ∷ calls) q =
      turn-append (steps_of x capacity c q) (steps_from x capacity calls (after_steps x (steps_of x capacity c q) q)) q (call-made c q)
      (calls-made calls (after_steps x (steps_of x capacity c q) q))

  -- ---- every pushed set has a value for each input
  abbrev pub Whole-sets : List Step → Type 0
  Whole-sets [] = Unit {0}
  Whole-sets (pushing v ∷ w) = (length v ≡ (made_of x).inputs) × Whole-sets w
  Whole-sets (firing a ∷ w) = Whole-sets w
  Whole-sets (taking ∷ w) = Whole-sets w

  whole_append : (w u : List Step) → Whole-sets w → Whole-sets u → Whole-sets (w ++ u)
  whole_append [] u a b = b
  whole_append (pushing v ∷ w) u a b = (a.0, whole_append w u a.1 b)
  whole_append (firing n ∷ w) u a b = whole_append w u a b
  whole_append (taking ∷ w) u a b = whole_append w u a b

  run-whole : (lent : ℕ) (q : Links) → Whole-sets (run_steps x capacity lent q)
  unfolding run_steps
  run-whole zero q = tt
  run-whole (suc lent) q = go (least_from x capacity (length (made_of x).operators) 0 q) (λ a. run-whole lent (act (operator_at x a) q))
    where
      go : (o : Option ℕ) → ((a : ℕ) → Whole-sets (run_steps x capacity lent (act (operator_at x a) q)))
          → Whole-sets (onward o (λ a. run_steps x capacity lent (act (operator_at x a) q)))
      go none ih = tt
      go (some a) ih = ih a

  call-whole : (c : Call) (q : Links) → Whole-sets (steps_of x capacity c q)
  unfolding steps_of
  call-whole (pushes v) q = go (eqb (length v) (made_of x).inputs) refl (dec_able (places capacity) (push_of x v) q)
    where
      go : (b : Bool) → eqb (length v) (made_of x).inputs ≡ b → (d : Dec (Able (places capacity) (push_of x v) q)) → Whole-sets (cond b (accept d (pushing v)) [])
      go true e (yes p) = (eqb-true (length v) (made_of x).inputs e, tt)
      go true e (no n) = tt
      go false e d = tt
  call-whole (fires a) q = go (dec_able (places capacity) (operator_at x a) q)
    where
      go : (d : Dec (Able (places capacity) (operator_at x a) q)) → Whole-sets (accept d (firing a))
      go (yes p) = tt
      go (no n) = tt
  call-whole (runs lent) q = run-whole lent q
  call-whole takes q = go (dec_able (places capacity) (take_of x) q)
    where
      go : (d : Dec (Able (places capacity) (take_of x) q)) → Whole-sets (accept d taking)
      go (yes p) = tt
      go (no n) = tt

  pub calls-whole : (calls : List Call) (q : Links) → Whole-sets (steps_from x capacity calls q)
  unfolding steps_from
  calls-whole [] q = tt
  calls-whole (c ∷ calls) q =
      whole_append (steps_of x capacity c q) (steps_from x capacity calls (after_steps x (steps_of x capacity c q) q)) (call-whole c q)
      (calls-whole calls (after_steps x (steps_of x capacity c q) q))

  -- ---- the steps as accepted calls of theory_pieces/specs/Tape
  abbrev pub triggering : Step → Step
  triggering (pushing v) = pushing (with_trigger (made_of x).triggered v)
  triggering (firing a) = firing a
  triggering taking = taking

  abbrev pub triggered-sets : List (List Value) → List (List Value)
  triggered-sets vss = map (with_trigger (made_of x).triggered) vss

  pub steps-accepted : (w : List Step) (q : Links) → Made-in-turn w q
      → Accepted (operator_at x) credit_link (push_links (made_of x)) (made_of x).results (places capacity) (map triggering w) q
  steps-accepted [] q a = tt
  steps-accepted (pushing v ∷ w) q a = (a.0, steps-accepted w (act (push_of x v) q) a.1)
  steps-accepted (firing b ∷ w) q a = (a.0, steps-accepted w (act (operator_at x b) q) a.1)
  steps-accepted (taking ∷ w) q a = (a.0, steps-accepted w (act (take_of x) q) a.1)

  pub steps-after : (w : List Step) (q : Links)
      → after (operator_at x) credit_link (push_links (made_of x)) (made_of x).results (places capacity) (map triggering w) q ≡ after_steps x w q
  steps-after [] q = refl
  steps-after (pushing v ∷ w) q = steps-after w (act (push_of x v) q)
  steps-after (firing b ∷ w) q = steps-after w (act (operator_at x b) q)
  steps-after (taking ∷ w) q = steps-after w (act (take_of x) q)

  pub steps-handed : (w : List Step) (q : Links)
      → results-of (operator_at x) credit_link (push_links (made_of x)) (made_of x).results (places capacity) (map triggering w) q ≡ handed x w q
  steps-handed [] q = refl
  steps-handed (pushing v ∷ w) q = steps-handed w (act (push_of x v) q)
  steps-handed (firing b ∷ w) q = steps-handed w (act (operator_at x b) q)
  steps-handed (taking ∷ w) q = ap (λ (z : List (List Token)). label (take_of x) q ∷ z) (steps-handed w (act (take_of x) q))

  pub steps-sets : (w : List Step) → sets_of (map triggering w) ≡ triggered-sets (sets_of w)
  steps-sets [] = refl
  steps-sets (pushing v ∷ w) = ap (λ (z : List (List Value)). with_trigger (made_of x).triggered v ∷ z) (steps-sets w)
  steps-sets (firing b ∷ w) = steps-sets w
  steps-sets (taking ∷ w) = steps-sets w

  pub steps-takes : (w : List Step) → takes_of (map triggering w) ≡ takes_of w
  steps-takes [] = refl
  steps-takes (pushing v ∷ w) = steps-takes w
  steps-takes (firing b ∷ w) = steps-takes w
  steps-takes (taking ∷ w) = ap suc (steps-takes w)

  pub handed-count : (w : List Step) (q : Links) → length (handed x w q) ≡ takes_of w
  handed-count [] q = refl
  handed-count (pushing v ∷ w) q = handed-count w (act (push_of x v) q)
  handed-count (firing b ∷ w) q = handed-count w (act (operator_at x b) q)
  handed-count (taking ∷ w) q = ap suc (handed-count w (act (take_of x) q))

  -- ---- a set with the trigger's value behind it
  pub trigger-length : (b : Bool) (v : List Value) → length (with_trigger b v) ≡ length v + bit b
  trigger-length true v = length-append v (true-value ∷ [])
  trigger-length false v = omega arith

  take_all : (v : List Value) → take (length v) v ≡ v
  take_all [] = refl
  take_all (a ∷ v) = ap {B = List Value} (λ r. a ∷ r) (take_all v)

  pub trigger-off : (b : Bool) (v : List Value) → take (length v) (with_trigger b v) ≡ v
  trigger-off true v = take-append_seam v (true-value ∷ [])
  trigger-off false v = take_all v

  -- every set of a list has a value for each input
  abbrev pub Each-whole : List (List Value) → Type 0
  Each-whole [] = Unit {0}
  Each-whole (v ∷ vss) = (length v ≡ (made_of x).inputs) × Each-whole vss

  pub sets-whole : (w : List Step) → Whole-sets w → Each-whole (sets_of w)
  sets-whole [] a = tt
  sets-whole (pushing v ∷ w) a = (a.0, sets-whole w a.1)
  sets-whole (firing b ∷ w) a = sets-whole w a
  sets-whole (taking ∷ w) a = sets-whole w a

  pub first-whole : (n : ℕ) (vss : List (List Value)) → Each-whole vss → Each-whole (take n vss)
  first-whole zero vss a = tt
  first-whole (suc n) [] a = tt
  first-whole (suc n) (v ∷ vss) a = (a.0, first-whole n vss a.1)

  pub first-triggered : (n : ℕ) (vss : List (List Value)) → take n (triggered-sets vss) ≡ triggered-sets (take n vss)
  first-triggered zero vss = refl
  first-triggered (suc n) [] = refl
  first-triggered (suc n) (v ∷ vss) = ap {B = List (List Value)} (λ r. with_trigger (made_of x).triggered v ∷ r) (first-triggered n vss)

  pub sets-sized : (is : List ℕ) → length is ≡ (made_of x).inputs + bit (made_of x).triggered → (vss : List (List Value)) → Each-whole vss → Sized is (triggered-sets vss)
  sets-sized is e [] a = tt
  sets-sized is e (v ∷ vss) a = (
    length-fits is (with_trigger (made_of x).triggered v) (omega (arith, trigger-length (made_of x).triggered v, a.0)),
    sets-sized is e vss a.1,
  )
