-- One run by rounds, as Waiting has it of several.
use Rattle.std.specs.Prelude.{ℕ, suc, ◌≤◌, ◌<◌, ◌≡◌, length, get_or}
use Rattle.std.proofs.Common.{arith}
use mathlib.Core.List.{List, [], ◌∷◌}
use Rattle.machine_layout.specs.Layout.{size_of, need}
use Rattle.machine_start.specs.Start.{started}
use Rattle.theory_rounds.specs.RunsFire.{total}
use Rattle.theory_rounds.specs.WorkEnds.{LentFits}
use Rattle.demand.specs.MemoryCalls.{Call, by_rounds, take, answer_of, memory_after, memory_after_all, sets_pushed, results_taken}
use Rattle.demand.specs.Claim.{Ends}
use Rattle.demand_rounds.specs.InTurn.{in_turn, AllAccepted, owed}
use Rattle.demand_rounds.proofs.Waiting.{each-of-first, in-turn-exists, ready-after-runs}
use Rattle.demand_rounds.specs.Waiting as Stated

module _ (sheet line : List ℕ) (capacity : ℕ) (memory : List ℕ) (h : (started sheet line capacity memory).answer.refusal ≡ 0) where
  abbrev start : List ℕ
  start = (started sheet line capacity memory).mem

  module _ (lent : ℕ) (enough : need (size_of capacity) ≤ lent) (out : List ℕ) where
    module _ (calls : List Call) where
      abbrev upToOldest : List (List ℕ)
      upToOldest = Stated.upToOldest sheet line capacity memory h lent enough out calls

      module _ (left : length (results_taken calls (started sheet line capacity memory).mem) < length (sets_pushed calls (started sheet line capacity memory).mem)) where
        -- ONE RUN BY ROUNDS.
        pub ready-after-rounds : (firings : List (List ℕ)) → AllAccepted (in_turn lent out upToOldest firings) (started sheet line capacity memory).mem
            → (rounds : ℕ) → owed (in_turn lent out upToOldest firings) calls (started sheet line capacity memory).mem ≤ rounds
            → (lent-rounds : ℕ) → need (size_of capacity) ≤ lent-rounds → (lent-take : ℕ) → need (size_of capacity) ≤ lent-take → (into : List ℕ) → 80 ≤ length into
            → (answer_of (take lent-take into) (memory_after (by_rounds lent-rounds rounds) (memory_after_all calls (started sheet line capacity memory).mem))).refusal ≡ 0
        unfolding memory_after_all
        ready-after-rounds firings g rounds l = ready-after-runs sheet line capacity memory h lent enough out calls left firings g (rounds ∷ []) (omega (arith, l))

        -- "suppose the evaluation of the oldest untaken set, and of every set before it, ends": then there is such a work, and the bound holds of it.
        pub oldest-ready-by-rounds : 80 ≤ length out
            → ((j : ℕ) → j ≤ length (results_taken calls (started sheet line capacity memory).mem) → Ends sheet line (get_or (sets_pushed calls (started sheet line capacity memory).mem) j []))
            → (firings : List (List ℕ)) × LentFits firings × AllAccepted (in_turn lent out upToOldest firings) (started sheet line capacity memory).mem
            × ((rounds : ℕ) → owed (in_turn lent out upToOldest firings) calls (started sheet line capacity memory).mem ≤ rounds
            → (lent-rounds : ℕ) → need (size_of capacity) ≤ lent-rounds → (lent-take : ℕ) → need (size_of capacity) ≤ lent-take → (into : List ℕ) → 80 ≤ length into
            → (answer_of (take lent-take into) (memory_after (by_rounds lent-rounds rounds) (memory_after_all calls (started sheet line capacity memory).mem))).refusal ≡ 0)
        oldest-ready-by-rounds room ends =
            let f = in-turn-exists sheet line capacity memory h lent enough out room upToOldest
            (each-of-first sheet line (suc (length (results_taken calls start))) (sets_pushed calls start) (omega arith) (λ j i. ends j (omega arith))) in
            (f.0, f.1, f.2, ready-after-rounds f.0 f.2)
