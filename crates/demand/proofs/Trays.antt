-- Laws of specs/Trays.antt, and what only they need.
use Rattle.std.specs.Prelude.{ℕ, zero, suc, ◌≡◌, length}
use Rattle.std.proofs.Math.Path.{refl, sym, ap, ap₂}
use Rattle.std.proofs.Common.{◌∙◌, arith, take-append-drop}
use mathlib.Core.List.{List, [], ◌∷◌, ◌++◌, map}
use Rattle.std.proofs.Math.ListN.{drop, replicate, take as first_of}
use Rattle.machine_calls.specs.declared.Answer.{Answer}
use Rattle.machine_calls.specs.Calls.{answers, pushed}
use Rattle.machine_calls.specs.CallLaws.{pushed-length, pushed-count}
use Rattle.machine_tray.specs.Tray.{set_bytes, trayed, went_in}
use Rattle.machine_tray.specs.TrayLaws.{length_cut}
use Rattle.machine_tray.specs.OneByOne.{Pushes, went-in}
use Rattle.demand.specs.MemoryCalls.{Call, push, tray, answer_of, memory_after, set_of, result_of, memory_after_all, answers_of, sets_pushed, results_taken}
use Rattle.demand.specs.Trays.{AllPushed}

-- ---- pushes one after another
-- A call that keeps the length of what it is lent leaves the next the same bytes to be lent.
lent_again : (lent : ℕ) (m b : List ℕ) → length b ≡ length (first_of lent m) → (first_of lent (b ++ drop lent m) ≡ b) × (drop lent (b ++ drop lent m) ≡ drop lent m)
lent_again zero m [] h = (refl, refl)
lent_again zero m (y ∷ b) h = absurd (omega (arith, h))
lent_again (suc n) [] [] h = (refl, refl)
lent_again (suc n) [] (y ∷ b) h = absurd (omega (arith, h))
lent_again (suc n) (x ∷ m) [] h = absurd (omega (arith, h))
lent_again (suc n) (x ∷ m) (y ∷ b) h =
    let i = lent_again n m b (omega (arith, h)) in
    (ap (λ (z : List ℕ). y ∷ z) i.0, i.1)

module _ (lent : ℕ) where
  one-pushed : (s : List ℕ) (sets : List (List ℕ)) (m m' : List ℕ) → (pushed (first_of lent m) s).answer.refusal ≡ 0 → AllPushed lent sets (memory_after (push lent s) m) m'
      → AllPushed lent (s ∷ sets) m m'
  unfolding memory_after_all sets_pushed results_taken answers_of
  one-pushed s sets m m' h A =
      record {
        memory = A.memory;
        pushes = rw h (ap (λ (z : List (List ℕ)). s ∷ z) A.pushes);
        takes = A.takes;
        answered = ap₂ {B = List Answer} (λ (a : Answer) (r : List Answer). a ∷ r) (ap₂ answers h (pushed-count (first_of lent m) s)) A.answered;
      }

  all-pushed : (sets : List (List ℕ)) (m b : List ℕ) → Pushes sets (first_of lent m) b → AllPushed lent sets m (b ++ drop lent m)
  unfolding memory_after_all sets_pushed results_taken answers_of
  all-pushed [] m b h = record { memory = rw h (sym (take-append-drop lent m)); pushes = refl; takes = refl; answered = refl }
  all-pushed (s ∷ sets) m b h =
      let l = lent_again lent m (pushed (first_of lent m) s).mem (pushed-length (first_of lent m) s) in
      one-pushed s sets m (b ++ drop lent m) h.0
      (rw l.1 at (all-pushed sets ((pushed (first_of lent m) s).mem ++ drop lent m) b (rw l.0 h.1)))

-- ---- a tray among the calls
module _ (lent : ℕ) (sets : List ℕ) (number : ℕ) (m : List ℕ) where
  -- The single pushes of the sets that went in, each lent as many bytes as the tray.
  abbrev pub singly : List Call
  singly = map (push lent) (went_in (first_of lent m) sets number)

  -- They leave the memory that the tray leaves, push what it pushes and take what it takes, which is nothing; all are accepted, and they are as many as it counts.
  pub record AsPushes : Type 0 where
    pub memory : memory_after (tray lent sets number) m ≡ memory_after_all singly m
    pub pushes : set_of (tray lent sets number) m ≡ sets_pushed singly m
    pub takes : result_of (tray lent sets number) m ≡ results_taken singly m
    pub answered : answers_of singly m ≡ replicate (answer_of (tray lent sets number) m).count (answers 0 0)

  -- Whatever the tray's refusal.
  pub tray-as-pushes : AsPushes
  unfolding memory_after set_of result_of answer_of went_in
  tray-as-pushes =
      let b = first_of lent m in
      let A = all-pushed lent (went_in b sets number) m (trayed b sets number).mem (went-in b sets number) in
      record {
        memory = sym A.memory;
        pushes = sym A.pushes;
        takes = sym A.takes;
        answered = A.answered ∙ ap (λ (n : ℕ). replicate n (answers 0 0)) (length_cut (trayed b sets number).answer.count (set_bytes b) sets);
      }
