-- After a list of calls from where the machine with tags begins (Begins): the memory is benched, and under each tag the machine was played by calls of the first machine from its start, with
-- the sets and results that are counted under the tag; the tag's byte is their difference. Assumes what a start leaves.
use Rattle.std.specs.Prelude.{ℕ, ◌+◌, ◌<◌, ◌≡◌, List, length}
use Rattle.std.proofs.Common.{subst, arith}
use Rattle.machine_planes.specs.Planes.{most_tags, untaken_under, plane_of}
use Rattle.machine_start.specs.Start.{started}
use Rattle.demand.specs.MemoryCalls.{Result}
use Rattle.demand_tags.specs.TagLists.{Call, memory_after_all, sets_under, results_under}
use Rattle.demand_tags.specs.Plays.{Plays}
use Rattle.demand_tags.specs.Benched.{Benched}
use Rattle.demand_tags.proofs.Stepped.{Stepped, bench-stepped}
use Rattle.demand_tags.proofs.CallSteps.{calls-step}
use Rattle.demand_tags.specs.Begins.{Begins}
use Rattle.demand_tags.proofs.Begins.{bench-begins}

module _ (sheet line start : List ℕ) (b : Begins sheet line start) where
  -- A step from the start plays the machine of each tag from its own.
  pub played-from : (m : List ℕ) (s : ℕ → List (List ℕ)) (r : ℕ → List Result) → Stepped start m s r → (t : ℕ) (h : t < most_tags)
      → Plays (started sheet line 1 (b.planes t h).0).mem (plane_of m t) (s t) (r t)
  played-from m s r S t h = subst (λ (x : List ℕ). Plays x (plane_of m t) (s t) (r t)) (b.planes t h).2 (S.plays t h)

  pub counted-from : (m : List ℕ) (s : ℕ → List (List ℕ)) (r : ℕ → List Result) → Stepped start m s r → (t : ℕ) → t < most_tags
      → length (s t) ≡ length (r t) + untaken_under m t
  counted-from m s r S t h = omega (arith, S.counts t h, b.tags t h)

  module _ (calls : List Call) where
    pub stepped : Stepped start (memory_after_all calls start) (λ t. sets_under t calls start) (λ t. results_under t calls start)
    stepped = calls-step sheet line b.admissible calls start (bench-begins sheet line start b)

    pub benched : Benched sheet line (memory_after_all calls start)
    benched =
        bench-stepped sheet line b.admissible start (memory_after_all calls start) (λ t. sets_under t calls start) (λ t. results_under t calls start) (bench-begins sheet line start b) stepped

    -- The tag's byte counts the sets untaken.
    pub untaken-under : (t : ℕ) → t < most_tags → length (sets_under t calls start) ≡ length (results_under t calls start) + untaken_under (memory_after_all calls start) t
    untaken-under = counted-from (memory_after_all calls start) (λ t. sets_under t calls start) (λ t. results_under t calls start) stepped
