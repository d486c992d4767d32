-- Laws of specs/Reached.antt, and what only they need.
use Rattle.std.specs.Prelude.{ℕ, zero, suc, ◌+◌, ◌*◌, ◌≡◌, Bool, cond, length, replicate, take as first_of}
use Rattle.std.proofs.Math.Path.{refl, ap}
use Rattle.std.proofs.Common.{ap₂, ◌∙◌, arith, eq-eqb, ne_eqb, take_all}
use mathlib.Core.List.{List, [], ◌∷◌, ◌++◌, append-nil}
use Rattle.std.proofs.lemmas.List.{length-replicate}
use Rattle.std.proofs.Math.Seq.{take-length, drop-length}
use Rattle.value.proofs.Words.{length-stored}
use Rattle.machine_layout.specs.Layout.{results_of}
use Rattle.machine_calls.specs.Calls.{Handed, size_in, result_word, written_from, written, pushed, ran, taken}
use Rattle.demand.specs.MemoryCalls.{Call, push, run, take, Result, result, accepted, memory_after, set_of, result_of, memory_after_all, sets_pushed, results_taken}
use Rattle.demand.proofs.Appended.{memory-append}
use Rattle.demand.proofs.Oldest.{results-with, sets-with}
use Rattle.session.specs.Passes.{taken_from, line_by}
use Rattle.session.specs.PassLaws.{TakeSays, refuses, hands}
use Rattle.session.proofs.PassLaws.{take-says, line-handed}
use Rattle.session.specs.Reached.{Reached, line_of, handed_from}

pub at-start : (start : List ℕ) → Reached start start [] []
unfolding memory_after_all sets_pushed results_taken
at-start start = record { calls = []; memory = refl; sets-are = refl; results-are = refl }

memory-with : (calls : List Call) (c : Call) (m : List ℕ) → memory_after_all (calls ++ (c ∷ [])) m ≡ memory_after c (memory_after_all calls m)
unfolding memory_after_all
memory-with calls c m = memory-append calls (c ∷ []) m

length-written : (j : ℕ) (m : List ℕ) (size k : ℕ) (o : List ℕ) → length (written j m size k o) ≡ length o
unfolding written_from
length-written zero m size k o = refl
length-written (suc j) m size k o = length-stored (written j m size k o) (5 * j) (result_word m size k j) ∙ length-written j m size k o

eighty : (m : List ℕ) → length (taken_from m).out ≡ 80
eighty m = go (take-says m)
  where
    go : TakeSays m → length (taken_from m).out ≡ 80
    go (refuses r n p) = ap (λ (h : Handed). length h.out) p ∙ length-replicate {A = ℕ} 80 0
    go (hands s u p) = ap (λ (h : Handed). length h.out) p ∙ length-written 16 m (size_in m) (results_of m) (replicate 80 0) ∙ length-replicate {A = ℕ} 80 0

module _ (start m : List ℕ) (s : List (List ℕ)) (r : List Result) (R : Reached start m s r) where
  one_more : (c : Call) (m' : List ℕ) (s' : List (List ℕ)) (r' : List Result) → memory_after c m ≡ m' → s ++ set_of c m ≡ s' → r ++ result_of c m ≡ r'
      → Reached start m' s' r'
  one_more c m' s' r' e f g =
      let p = R.memory in
      record {
        calls = R.calls ++ (c ∷ []);
        memory = memory-with R.calls c start ∙ ap (memory_after c) p ∙ e;
        sets-are = sets-with R.calls c start ∙ ap₂ (λ (a : List (List ℕ)) (b : List ℕ). a ++ set_of c b) R.sets-are p ∙ f;
        results-are = results-with R.calls c start ∙ ap₂ (λ (a : List Result) (b : List ℕ). a ++ result_of c b) R.results-are p ∙ g;
      }

  -- ---- push
  push-leaves : (set : List ℕ) → memory_after (push (length m) set) m ≡ (pushed m set).mem
  unfolding memory_after
  push-leaves set = rw (take-length m, drop-length m) (append-nil (pushed m set).mem)

  pushes-set : (set : List ℕ) (b : Bool) → accepted (pushed m set).answer ≡ b → set_of (push (length m) set) m ≡ cond b (set ∷ []) []
  unfolding set_of
  pushes-set set b e = rw (take-length m, e) refl

  pub after_push : (set : List ℕ) → (pushed m set).answer.refusal ≡ 0 → Reached start (pushed m set).mem (s ++ (set ∷ [])) r
  unfolding accepted result_of
  after_push set e =
      one_more (push (length m) set) (pushed m set).mem (s ++ (set ∷ [])) r (push-leaves set)
      (ap (λ (z : List (List ℕ)). s ++ z) (pushes-set set _ (eq-eqb (pushed m set).answer.refusal 0 e))) (append-nil r)

  pub after-refused-push : (set : List ℕ) → ((pushed m set).answer.refusal ≡ 0 → ⊥) → Reached start (pushed m set).mem s r
  unfolding accepted result_of
  after-refused-push set n =
      one_more (push (length m) set) (pushed m set).mem s r (push-leaves set)
      (ap (λ (z : List (List ℕ)). s ++ z) (pushes-set set _ (ne_eqb (pushed m set).answer.refusal 0 n)) ∙ append-nil s) (append-nil r)

  -- ---- run
  pub after_run : (firings : ℕ) → Reached start (ran m firings).mem s r
  unfolding memory_after set_of result_of
  after_run firings =
      one_more (run (length m) firings) (ran m firings).mem s r (rw (take-length m, drop-length m) (append-nil (ran m firings).mem)) (append-nil s) (append-nil r)

  -- ---- take
  take-leaves : memory_after (take (length m) (replicate 80 0)) m ≡ (taken_from m).mem
  unfolding memory_after taken_from
  take-leaves = rw (take-length m, drop-length m) (append-nil (taken m (replicate 80 0)).mem)

  takes-result : (b : Bool) → accepted (taken_from m).answer ≡ b
      → result_of (take (length m) (replicate 80 0)) m ≡ cond b (result (taken_from m).answer.count (first_of 80 (taken_from m).out) ∷ []) []
  unfolding result_of taken_from
  takes-result b e = rw (take-length m, e) refl

  whole-result : result (taken_from m).answer.count (first_of 80 (taken_from m).out) ≡ handed_from m
  whole-result = ap (result (taken_from m).answer.count) (take_all 80 (taken_from m).out (omega (arith, eighty m)))

  pub after-take : (taken_from m).answer.refusal ≡ 0 → Reached start (taken_from m).mem s (r ++ (handed_from m ∷ []))
  unfolding accepted set_of
  after-take e =
      one_more (take (length m) (replicate 80 0)) (taken_from m).mem s (r ++ (handed_from m ∷ [])) take-leaves (append-nil s)
      (ap (λ (z : List Result). r ++ z) (takes-result _ (eq-eqb (taken_from m).answer.refusal 0 e) ∙ ap (λ (z : Result). z ∷ []) whole-result))

  pub after-refused-take : ((taken_from m).answer.refusal ≡ 0 → ⊥) → Reached start (taken_from m).mem s r
  unfolding accepted set_of
  after-refused-take n =
      one_more (take (length m) (replicate 80 0)) (taken_from m).mem s r take-leaves (append-nil s)
      (ap (λ (z : List Result). r ++ z) (takes-result _ (ne_eqb (taken_from m).answer.refusal 0 n)) ∙ append-nil r)

-- An accepted take's line is its result's.
pub line-of-take : (m : List ℕ) → (taken_from m).answer.refusal ≡ 0 → line_by (taken_from m) ≡ line_of (handed_from m)
line-of-take m e = line-handed m e
