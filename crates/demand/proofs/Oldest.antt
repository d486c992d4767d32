-- Laws of specs/Oldest.antt, and what only they need.
use Rattle.std.specs.Prelude.{ℕ, ◌+◌, ◌≤◌, ◌<◌, ◌≡◌, refl, ◌⊎◌, cond, List, [], ◌∷◌, ◌++◌, length, get_or, take as first_of}
use Rattle.std.proofs.Common.{sym, ap, subst, ◌∙◌, inl, inr, append-nil, arith, eq-eqb, length-append}
use Rattle.std.proofs.Math.Seq.{get_or-append_seam}
use Rattle.formula.specs.Faults.{letters_of}
use Rattle.formula.specs.Tree.{formula_of}
use Rattle.formula.specs.declared.Refusal.TheVariants.{NotAble}
use Rattle.formula.specs.Refusals.{number_of}
use Rattle.meaning.specs.Evaluate.{evaluation_of}
use Rattle.machine_layout.specs.Layout.{operators_of, size_of, need}
use Rattle.machine_calls.specs.Calls.{taken}
use Rattle.machine_start.specs.Start.{started}
use Rattle.demand_begin.proofs.StartedStands.{accepted-stands}
use Rattle.demand.specs.MemoryCalls.{Call, fire, take, Result, result, accepted, answer_of, set_of, result_of, memory_after_all, sets_pushed, results_taken}
use Rattle.demand.proofs.Appended.{sets-append, results-append}
use Rattle.demand.specs.Claim.{Enough, Ends, yielded}
use Rattle.demand.proofs.Agreed.{calls-agree}
use Rattle.demand.proofs.OnMemory.{ends-when-still}
use Rattle.machine_start.specs.StartLaws.{accepted-start}
use Rattle.demand.proofs.Demand3.{demand-3}
use Rattle.demand.specs.Oldest.{handed_out}

-- ---- a list with one call more
pub results-with : (calls : List Call) (c : Call) (m : List ℕ) → results_taken (calls ++ (c ∷ [])) m ≡ results_taken calls m ++ result_of c (memory_after_all calls m)
unfolding results_taken
results-with calls c m = results-append calls (c ∷ []) m ∙ ap (λ (z : List Result). results_taken calls m ++ z) (append-nil (result_of c (memory_after_all calls m)))

pub sets-with : (calls : List Call) (c : Call) (m : List ℕ) → sets_pushed (calls ++ (c ∷ [])) m ≡ sets_pushed calls m ++ set_of c (memory_after_all calls m)
unfolding sets_pushed
sets-with calls c m = sets-append calls (c ∷ []) m ∙ ap (λ (z : List (List ℕ)). sets_pushed calls m ++ z) (append-nil (set_of c (memory_after_all calls m)))

accepted-hands : (lent : ℕ) (out m : List ℕ) → (answer_of (take lent out) m).refusal ≡ 0 → result_of (take lent out) m ≡ handed_out lent out m ∷ []
unfolding answer_of result_of accepted handed_out
accepted-hands lent out m e =
    ap (λ b. cond b (result (taken (first_of lent m) out).answer.count (first_of 80 (taken (first_of lent m) out).out) ∷ []) [])
    (eq-eqb (taken (first_of lent m) out).answer.refusal 0 e)

take-no-set : (lent : ℕ) (out m : List ℕ) → set_of (take lent out) m ≡ []
unfolding set_of
take-no-set lent out m = refl

module _ (sheet line : List ℕ) (capacity : ℕ) (memory : List ℕ) (h : (started sheet line capacity memory).answer.refusal ≡ 0) (calls : List Call) where
  abbrev start : List ℕ
  start = (started sheet line capacity memory).mem

  abbrev now : List ℕ
  now = memory_after_all calls start

  -- Sets count from 0, so the oldest untaken one is that with the number of results taken.
  pub oldest-ready : ((i : ℕ) → i < operators_of now → (answer_of (fire (length now) i) now).refusal ≡ number_of NotAble)
      → length (results_taken calls start) < length (sets_pushed calls start)
      → (lent : ℕ) (out : List ℕ) → need (size_of capacity) ≤ lent → 80 ≤ length out
      → ((answer_of (take lent out) now).refusal ≡ 0)
      × Ends sheet line (get_or (sets_pushed calls start) (length (results_taken calls start)) [])
      × ((rounds : ℕ) → Enough sheet line (get_or (sets_pushed calls start) (length (results_taken calls start)) []) rounds
      → handed_out lent out now ≡ yielded (evaluation_of sheet line (get_or (sets_pushed calls start) (length (results_taken calls start)) []) rounds))
  oldest-ready still untaken lent out long room = (ok, ends (length (results_taken calls start)) (omega arith), verdict)
    where
      ends : (j : ℕ) → j ≤ length (results_taken calls start) → Ends sheet line (get_or (sets_pushed calls start) j [])
      ends j l =
          let a = accepted-start sheet line capacity memory h in
          ends-when-still sheet line a.admissible a.kinded capacity a.some a.most (calls-agree sheet a.admissible (letters_of (formula_of sheet) line) capacity a.some a.most) start (accepted-stands sheet line capacity memory h) calls still j l
          (omega arith)

      ok : (answer_of (take lent out) now).refusal ≡ 0
      ok = go ((demand-3 sheet line capacity memory h calls).ready still)
        where
          go : (length (results_taken calls start) ≡ length (sets_pushed calls start))
              ⊎ ((lent : ℕ) (out : List ℕ) → need (size_of capacity) ≤ lent → 80 ≤ length out → (answer_of (take lent out) now).refusal ≡ 0)
              → (answer_of (take lent out) now).refusal ≡ 0
          go (inl e) = absurd (omega arith)
          go (inr f) = f lent out long room

      results-are : results_taken (calls ++ (take lent out ∷ [])) start ≡ results_taken calls start ++ (handed_out lent out now ∷ [])
      results-are = results-with calls (take lent out) start ∙ ap (λ (z : List Result). results_taken calls start ++ z) (accepted-hands lent out now ok)

      sets-are : sets_pushed (calls ++ (take lent out ∷ [])) start ≡ sets_pushed calls start
      sets-are =
          sets-with calls (take lent out) start ∙ ap (λ (z : List (List ℕ)). sets_pushed calls start ++ z) (take-no-set lent out now)
          ∙ append-nil (sets_pushed calls start)

      verdict : (rounds : ℕ) → Enough sheet line (get_or (sets_pushed calls start) (length (results_taken calls start)) []) rounds
          → handed_out lent out now ≡ yielded (evaluation_of sheet line (get_or (sets_pushed calls start) (length (results_taken calls start)) []) rounds)
      verdict rounds enough =
          let k = length (results_taken calls start) in
          let more : length (results_taken (calls ++ (take lent out ∷ [])) start) ≡ k + 1
          = ap length results-are ∙ length-append (results_taken calls start) (handed_out lent out now ∷ []) in
          sym (ap (λ (z : List Result). get_or z k (result 0 [])) results-are ∙ get_or-append_seam (results_taken calls start) (handed_out lent out now) [] (result 0 []))
          ∙ (demand-3 sheet line capacity memory h (calls ++ (take lent out ∷ []))).own k (omega arith)
          (λ j l. subst (λ (z : List (List ℕ)). Ends sheet line (get_or z j [])) (sym sets-are) (ends j l)) rounds
          (subst (λ (z : List (List ℕ)). Enough sheet line (get_or z k []) rounds) (sym sets-are) enough)
          ∙ ap (λ (z : List (List ℕ)). yielded (evaluation_of sheet line (get_or z k []) rounds)) sets-are
