-- A list of calls behind another: each law of demand 3's lists (MemoryCalls) by its two parts. Assumes nothing.
use Rattle.std.specs.Prelude.{ℕ, ◌≡◌, refl, List, [], ◌∷◌, ◌++◌}
use Rattle.std.proofs.Common.{sym, ap, ◌∙◌, append_assoc}
use Rattle.demand.specs.MemoryCalls.{Call, Result, memory_after, set_of, result_of, memory_after_all, sets_pushed, results_taken}

pub memory-append : (calls more : List Call) (m : List ℕ) → memory_after_all (calls ++ more) m ≡ memory_after_all more (memory_after_all calls m)
unfolding memory_after_all
memory-append [] more m = refl
memory-append (c ∷ calls) more m = memory-append calls more (memory_after c m)

pub sets-append : (calls more : List Call) (m : List ℕ) → sets_pushed (calls ++ more) m ≡ sets_pushed calls m ++ sets_pushed more (memory_after_all calls m)
unfolding sets_pushed memory_after_all
sets-append [] more m = refl
sets-append (c ∷ calls) more m =
    ap (λ (z : List (List ℕ)). set_of c m ++ z) (sets-append calls more (memory_after c m))
    ∙ sym (append_assoc (set_of c m) (sets_pushed calls (memory_after c m)) (sets_pushed more (memory_after_all calls (memory_after c m))))

pub results-append : (calls more : List Call) (m : List ℕ) → results_taken (calls ++ more) m ≡ results_taken calls m ++ results_taken more (memory_after_all calls m)
unfolding results_taken memory_after_all
results-append [] more m = refl
results-append (c ∷ calls) more m =
    ap (λ (z : List Result). result_of c m ++ z) (results-append calls more (memory_after c m))
    ∙ sym (append_assoc (result_of c m) (results_taken calls (memory_after c m)) (results_taken more (memory_after_all calls (memory_after c m))))
