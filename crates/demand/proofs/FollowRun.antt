-- A run on bytes, "run's 36 included", is the abstract machine's run where it was lent enough, and none where it was not; it answers no 31. Assumes the laws
-- of `CallsAgree`.
use Prim.Native.Nat.{ℕ, zero, suc, ◌≤◌, ◌<◌}
use Rattle.std.specs.Prelude.{◌≡◌, Bool, length, take as first_of}
use Rattle.std.proofs.Math.Path.{refl, subst}
use Rattle.std.proofs.Common.{sym, ap, ap₂, ◌∙◌, arith}
use Rattle.std.proofs.Math.Bool.{true, false}
use mathlib.Core.List.{List, [], ◌++◌, map}
use Rattle.std.proofs.Math.Option.{Option, none, some}
use Rattle.std.proofs.Math.Decide.{dec_lt}
use Rattle.std.proofs.Math.ListN.{drop}
use Rattle.value.specs.Operators.{pick}
use Rattle.network.specs.Net.{Links, act}
use Rattle.theory_pieces.specs.Tape.{sets_of}
use Rattle.formula.specs.Tree.{Exp}
use Rattle.formula.specs.declared.Refusal.TheVariants.{Memory, Unfinished, Altered}
use Rattle.formula.specs.Refusals.{number_of}
use Rattle.graph.specs.Translation.{made_of}
use Rattle.machine_layout.specs.Layout.{size_of, need}
use Rattle.machine_runs.specs.Run.{Ran, runs, still_at}
use Rattle.machine_calls.specs.Calls.{Outcome, outcome, answers, ended, ran}
use Rattle.machine_calls.specs.CallLaws.{ran-refused, ran-ended}
use Rattle.theory_verdicts.specs.Running as Abstract
use Rattle.theory_verdicts.specs.Running.{operator_at, after_steps, handed, least_able, onward, run_steps, steps_of}
use Rattle.demand_view.specs.Stands.{Stands}
use Rattle.demand_begin.proofs.Lent.{stands-lent, stands-behind, short-refused}
use Rattle.demand_view.proofs.FireCall.{stands-size}
use Rattle.demand.specs.Agree.{CallsAgree}
use Rattle.demand.specs.Followed.{Unaltered, shown_tokens}
use Rattle.demand.proofs.Followed.{EachRead, follows-one}
use Rattle.demand.proofs.FollowFire.{Fire-follows, fire-refused}

module _ (x : Exp) (capacity : ℕ) where
  -- A run makes no push and no take.
  run-only-fires : (lent : ℕ) (q : Links) → (sets_of (run_steps x capacity lent q) ≡ []) × (handed x (run_steps x capacity lent q) q ≡ [])
  unfolding run_steps
  run-only-fires zero q = (refl, refl)
  run-only-fires (suc lent) q = go (least_able x capacity q) (λ a. run-only-fires lent (act (operator_at x a) q))
    where
      go : (o : Option ℕ)
          → ((a : ℕ) → (sets_of (run_steps x capacity lent (act (operator_at x a) q)) ≡ []) × (handed x (run_steps x capacity lent (act (operator_at x a) q)) (act (operator_at x a) q) ≡ []))
          → (sets_of (onward o (λ a. run_steps x capacity lent (act (operator_at x a) q))) ≡ [])
          × (handed x (onward o (λ a. run_steps x capacity lent (act (operator_at x a) q))) q ≡ [])
      go none ih = (refl, refl)
      go (some a) ih = ih a

module _ (x : Exp) (kinds : List ℕ) (capacity : ℕ) (low : 1 ≤ capacity) (high : capacity ≤ 16) (A : CallsAgree x kinds capacity) (m : List ℕ)
    (q : Links) (H : Stands (made_of x) kinds capacity m q) (lent : ℕ) where
  abbrev lentPart : List ℕ
  lentPart = first_of lent m

  abbrev Run-follows : Outcome → Type 0
  Run-follows = Fire-follows x kinds capacity low high A m q H lent

  run-made : (firings : ℕ) → Stands (made_of x) kinds capacity lentPart q → (c : ℕ) (m' : List ℕ) (r : ℕ)
      → m' ≡ (runs (size_of capacity) (length (made_of x).operators) firings lentPart 0).mem → Unaltered r → Run-follows (outcome (answers r c) m')
  unfolding steps_of
  run-made firings L c m' r e u =
      let K : Stands (made_of x) kinds capacity m' (after_steps x (run_steps x capacity firings q) q)
      = subst (λ (z : List ℕ). Stands (made_of x) kinds capacity z (after_steps x (run_steps x capacity firings q) q)) (sym e) (A.ran lentPart q L firings) in
      let p = run-only-fires x capacity firings q in (
        follows-one x kinds capacity q (m' ++ drop lent m) [] [] (Abstract.runs firings) (run_steps x capacity firings q) refl
            (stands-behind (made_of x) A.sound kinds capacity m' (after_steps x (run_steps x capacity firings q) q) K (drop lent m))
            (subst (EachRead x kinds capacity []) (sym p.0) tt) (ap (map shown_tokens) (sym p.1)),
        u,
      )

  run-ended : (firings : ℕ) → Stands (made_of x) kinds capacity lentPart q → (r : Ran) → r ≡ runs (size_of capacity) (length (made_of x).operators) firings lentPart 0
      → Run-follows (ended r (size_of capacity) (length (made_of x).operators))
  unfolding ended
  run-ended firings L r e = go (still_at r.mem (size_of capacity) (length (made_of x).operators))
    where
      go : (b : Bool) → Run-follows (pick b (outcome (answers 0 r.count) r.mem) (outcome (answers (number_of Unfinished) r.count) r.mem))
      go true = run-made firings L r.count r.mem 0 (ap (λ (z : Ran). z.mem) e) (λ (z : 0 ≡ number_of Altered). absurd (omega arith))
      go false = run-made firings L r.count r.mem (number_of Unfinished) (ap (λ (z : Ran). z.mem) e) (omega arith)

  pub run-follows : (firings : ℕ) → Run-follows (ran lentPart firings)
  run-follows firings = go (dec_lt lent (need (size_of capacity)))
    where
      go : Dec (lent < need (size_of capacity)) → Run-follows (ran lentPart firings)
      go (yes h) =
          let st = short-refused (made_of x) kinds capacity m q low high H lent h in
          subst Run-follows (sym (ran-refused lentPart firings (λ z. absurd (omega (arith, st, z))) ∙ ap (λ (r : ℕ). outcome (answers r 0) lentPart) st))
          (fire-refused x kinds capacity low high A m q H lent (number_of Memory) (omega arith))
      go (no h) =
          let L = stands-lent (made_of x) A.sound kinds capacity m q H lent (omega arith) in
          let s = stands-size (made_of x) A.sound kinds capacity low high lentPart q L in
          subst Run-follows
          (sym (ran-ended lentPart (A.good lentPart q L) firings ∙ ap₂ (λ (z n : ℕ). ended (runs z n firings lentPart 0) z n) s L.operators-are))
          (run-ended firings L (runs (size_of capacity) (length (made_of x).operators) firings lentPart 0) refl)
