-- Laws of specs/Plays.antt, and what only they need.
use Rattle.std.specs.Prelude.{ℕ, ◌≡◌, refl, length, drop, take as first_of}
use Rattle.std.proofs.Math.Path.{ap, ap₂}
use Rattle.std.proofs.Common.{◌∙◌, le_refl, drop_of_length-le}
use mathlib.Core.List.{List, [], ◌∷◌, ◌++◌, append-nil}
use Rattle.std.proofs.Math.Seq.{take-length}
use Rattle.machine_calls.specs.Calls.{outcome, handed, answers, pushed, fired, taken}
use Rattle.demand.specs.MemoryCalls.{push, fire, take, Result, result, accepted, done, memory_after, set_of, result_of, memory_after_all, sets_pushed, results_taken}
use Rattle.demand.proofs.Appended.{memory-append, sets-append, results-append}
use Rattle.demand_tags.specs.Plays.{Plays}

pub plays-none : (m : List ℕ) → Plays m m [] []
unfolding memory_after_all sets_pushed results_taken
plays-none m = record { calls = []; ends = refl; pushes = refl; takes = refl }

pub plays-then : (m m' m'' : List ℕ) (s s' : List (List ℕ)) (r r' : List Result) → Plays m m' s r → Plays m' m'' s' r' → Plays m m'' (s ++ s') (r ++ r')
plays-then m m' m'' s s' r r' p p' =
    let c = p.calls in
    let c' = p'.calls in
    record {
      calls = c ++ c';
      ends = memory-append c c' m ∙ ap (memory_after_all c') p.ends ∙ p'.ends;
      pushes = sets-append c c' m ∙ ap₂ (λ (a b : List (List ℕ)). a ++ b) p.pushes (ap (sets_pushed c') p.ends ∙ p'.pushes);
      takes = results-append c c' m ∙ ap₂ (λ (a b : List Result). a ++ b) p.takes (ap (results_taken c') p.ends ∙ p'.takes);
    }

-- ---- one call, lent the whole memory
module _ (m : List ℕ) where
  nothing-behind : drop (length m) m ≡ []
  nothing-behind = drop_of_length-le m (le_refl (length m))

  -- refused or not
  pub plays-fire : (i : ℕ) → Plays m (fired m i).mem [] []
  unfolding memory_after_all sets_pushed results_taken memory_after set_of result_of done
  plays-fire i =
      record {
        calls = fire (length m) i ∷ [];
        ends = ap₂ (λ (a b : List ℕ). (fired a i).mem ++ b) (take-length m) nothing-behind ∙ append-nil (fired m i).mem;
        pushes = refl;
        takes = refl;
      }

  pub plays-push : (s m' : List ℕ) → pushed m s ≡ outcome (answers 0 0) m' → Plays m m' (s ∷ []) []
  unfolding memory_after_all sets_pushed results_taken memory_after set_of result_of done accepted
  plays-push s m' e =
      let a = ap (λ (x : List ℕ). pushed x s) (take-length m) ∙ e in
      record {
        calls = push (length m) s ∷ [];
        ends = rw (a, nothing-behind) (append-nil m');
        pushes = rw a refl;
        takes = refl;
      }

  pub plays-take : (o m' o' : List ℕ) (w : ℕ) → taken m o ≡ handed (answers 0 w) m' o' → Plays m m' [] (result w (first_of 80 o') ∷ [])
  unfolding memory_after_all sets_pushed results_taken memory_after set_of result_of done accepted
  plays-take o m' o' w e =
      let a = ap (λ (x : List ℕ). taken x o) (take-length m) ∙ e in
      record {
        calls = take (length m) o ∷ [];
        ends = rw (a, nothing-behind) (append-nil m');
        pushes = refl;
        takes = rw a refl;
      }
