-- An accepted take on bytes is one take of the abstract machine, with its result in bytes; a refused one is none. It answers no 31. Assumes the laws of
-- `CallsAgree`.
use Rattle.std.specs.Prelude.{ℕ, suc, ◌+◌, ◌≤◌, ◌<◌, ◌≡◌, refl, ◌≢◌, Bool, true, false, cond, ltb, take as first_of}
use Rattle.std.proofs.Common.{sym, subst, ◌∙◌, arith, ne_eqb}
use Rattle.std.proofs.Math.Path.{ap, ap₂}
use mathlib.Core.List.{List, [], ◌∷◌, ◌++◌}
use Rattle.std.proofs.Math.Decide.{dec_lt}
use Rattle.std.proofs.Math.ListN.{length, drop, take-append-drop}
use Rattle.std.proofs.Math.Seq.{take_at}
use Rattle.network.specs.Net.{Token, Demand, ask, fire as emits, Links, head, pop, Able, act, label}
use Rattle.network.specs.Ends.{collect}
use Rattle.theory_pieces.specs.Tape.{taking}
use Rattle.formula.specs.Tree.{Exp}
use Rattle.formula.specs.declared.Refusal.TheVariants.{Memory, NoResult, Altered}
use Rattle.formula.specs.Refusals.{number_of}
use Rattle.graph.specs.Translation.{made_of}
use Rattle.meaning.specs.Evaluate.{cells_of}
use Rattle.machine_layout.specs.Layout.{size_of, need, results_of, untaken_of}
use Rattle.machine_valid.specs.Below.{all_below}
use Rattle.machine_calls.specs.Calls.{Handed, handed as hands, answers, size_in, standing, result_ready, written, taken_memory, taken}
use Rattle.machine_calls.specs.CallLaws.{taken-short, taken_refused, taken_none, taken-empty, taken-accepted}
use Rattle.theory_verdicts.specs.Owed.{credit_link}
use Rattle.theory_verdicts.specs.ResultSets.{values_in}
use Rattle.theory_verdicts.specs.Running.{places, take_of, dec_able, takes, steps_of}
use Rattle.demand_view.specs.Stands.{Stands}
use Rattle.demand.specs.MemoryCalls.{Result, result, accepted}
use Rattle.demand_ends.specs.ResultBytes.{cell_bytes}
use Rattle.demand_ends.proofs.ResultBytes.{cells-result, length-result}
use Rattle.demand.specs.Evaluations.{shown}
use Rattle.demand_begin.proofs.Lent.{stands-lent, stands-behind, short-refused}
use Rattle.demand_view.proofs.FireCall.{stands-size}
use Rattle.demand.specs.Agree.{CallsAgree}
use Rattle.demand.proofs.Followed.{Follows, follows-none, follows-one, can-accepted}
use Rattle.demand.specs.Followed.{Unaltered, shown_tokens}

-- A take hands out one value for each result port.
collected : (os : List ℕ) (k : List Token → Demand) (n : ℕ) → ((ts : List Token) (q : Links) → length (label (k ts) q) ≡ n + length ts)
    → (q : Links) → length (label (collect os k) q) ≡ n + length os
collected [] k n h q = h [] q
collected (o ∷ os) k n h q =
    let e = collected os (λ ts. k (head (q o) ∷ ts)) (suc n) (λ ts r. h (head (q o) ∷ ts) r ∙ omega arith) (pop o q) in
    e ∙ omega arith

values_length : (ts : List Token) → length (values_in ts) ≡ length ts
values_length [] = refl
values_length (t ∷ ts) = ap suc (values_length ts)

module _ (x : Exp) (kinds : List ℕ) (capacity : ℕ) (low : 1 ≤ capacity) (high : capacity ≤ 16) (A : CallsAgree x kinds capacity) (m : List ℕ)
    (q : Links) (H : Stands (made_of x) kinds capacity m q) (lent : ℕ) where
  abbrev lentPart : List ℕ
  lentPart = first_of lent m

  abbrev Take-follows : Handed → Type 0
  Take-follows h =
      Follows x kinds capacity q (h.mem ++ drop lent m) [] (cond (accepted h.answer) (result h.answer.count (first_of 80 h.out) ∷ []) []) × Unaltered h.answer.refusal

  take-refused : (out : List ℕ) (r : ℕ) → r ≢ 0 → Unaltered r → Take-follows (hands (answers r 0) lentPart out)
  unfolding accepted
  take-refused out r n u = rw (ne_eqb r 0 n, take-append-drop lent m) (follows-none x kinds capacity q m H, u)

  module _ (out : List ℕ) (room : 80 ≤ length out) (L : Stands (made_of x) kinds capacity lentPart q) where
    take_steps : Able (places capacity) (take_of x) q → steps_of x capacity takes q ≡ taking ∷ []
    unfolding steps_of
    take_steps a = can-accepted taking (dec_able (places capacity) (take_of x) q) a

    label-width : length (values_in (label (take_of x) q)) ≡ length (made_of x).results
    label-width =
        values_length (label (take_of x) q) ∙ collected (made_of x).results (λ ts. ask credit_link (λ u. emits [] ts)) 0 (λ ts r. omega arith) q ∙ omega arith

    module _ (a : ltb 0 (untaken_of lentPart) ≡ true) (b : all_below (length (made_of x).results) (result_ready lentPart (size_of capacity)) ≡ true) where
      -- What it writes is the tokens' result set.
      pub take-shows : result (length (made_of x).results) (first_of 80 (written 16 lentPart (size_of capacity) (length (made_of x).results) out)) ≡ shown_tokens (label (take_of x) q)
      unfolding shown
      take-shows =
          let few = A.sound.few-results in
          let vs = values_in (label (take_of x) q) in
          let n : length (cell_bytes (cells_of vs)) ≡ 80 = ap length (cells-result vs) ∙ length-result vs (omega (arith, label-width)) in
          ap₂ result (sym label-width) (ap (first_of 80) (A.handed lentPart q L a b out room) ∙ take_at (cell_bytes (cells_of vs)) (drop 80 out) 80 n)

      take-made : Take-follows (hands (answers 0 (length (made_of x).results)) (taken_memory lentPart) (written 16 lentPart (size_of capacity) (length (made_of x).results) out))
      unfolding accepted
      take-made = (
        follows-one x kinds capacity q (taken_memory lentPart ++ drop lent m) []
            (result (length (made_of x).results) (first_of 80 (written 16 lentPart (size_of capacity) (length (made_of x).results) out)) ∷ [])
            takes (taking ∷ []) (take_steps (A.take-able lentPart q L a b))
            (stands-behind (made_of x) A.sound kinds capacity (taken_memory lentPart) (act (take_of x) q) (A.taken lentPart q L a b) (drop lent m))
            tt (ap (λ (r : Result). r ∷ []) take-shows),
        λ (e : 0 ≡ number_of Altered). absurd (omega arith),
      )

    take-tested : Take-follows (taken lentPart out)
    take-tested = go (ltb 0 (untaken_of lentPart)) refl (all_below (results_of lentPart) (result_ready lentPart (size_in lentPart))) refl
      where
        st : standing lentPart ≡ 0
        st = A.good lentPart q L

        s : size_in lentPart ≡ size_of capacity
        s = stands-size (made_of x) A.sound kinds capacity low high lentPart q L

        go : (a : Bool) → ltb 0 (untaken_of lentPart) ≡ a → (b : Bool) → all_below (results_of lentPart) (result_ready lentPart (size_in lentPart)) ≡ b
            → Take-follows (taken lentPart out)
        go false a b e = subst Take-follows (sym (taken_none lentPart st out room a)) (take-refused out (number_of NoResult) (omega arith) (omega arith))
        go true a false e = subst Take-follows (sym (taken-empty lentPart st out room a e)) (take-refused out (number_of NoResult) (omega arith) (omega arith))
        go true a true e =
            subst Take-follows
            (sym (taken-accepted lentPart st out room a e
            ∙ ap₂ (λ (z n : ℕ). hands (answers 0 n) (taken_memory lentPart) (written 16 lentPart z n out)) s L.results-are))
            (take-made a (ap₂ (λ (z n : ℕ). all_below n (result_ready lentPart z)) (sym s) (sym L.results-are) ∙ e))

  pub take-follows : (out : List ℕ) → Take-follows (taken lentPart out)
  take-follows out = go (dec_lt (length out) 80) (dec_lt lent (need (size_of capacity)))
    where
      go : Dec (length out < 80) → Dec (lent < need (size_of capacity)) → Take-follows (taken lentPart out)
      go (yes h) d = subst Take-follows (sym (taken-short lentPart out h)) (take-refused out (number_of Memory) (omega arith) (omega arith))
      go (no n) (yes h) =
          let st = short-refused (made_of x) kinds capacity m q low high H lent h in
          subst Take-follows (sym (taken_refused lentPart out (omega arith) (λ z. absurd (omega (arith, st, z))) ∙ ap (λ (r : ℕ). hands (answers r 0) lentPart out) st))
          (take-refused out (number_of Memory) (omega arith) (omega arith))
      go (no n) (no h) = take-tested out (omega arith) (stands-lent (made_of x) A.sound kinds capacity m q H lent (omega arith))
