-- A run's count. Document 01, "Running": "Run fires the least-numbered able operator, up to a lent number of firings, and gives a count; the count is the
-- number of firings between the memory before and after. It is below the number only when nothing can fire." Assumes a memory in good standing.
use Rattle.std.specs.Prelude.{ℕ, zero, suc, ◌+◌, ◌-◌, ◌≤◌, ◌<◌, ◌≡◌, Bool, List, ltb}
use Rattle.std.proofs.Math.Bool.{true, false}
use Rattle.value.specs.Operators.{pick}
use Rattle.formula.specs.declared.Refusal.TheVariants.{Unfinished}
use Rattle.formula.specs.Refusals.{number_of}
use Rattle.machine_layout.specs.Layout.{links_at, operators_of}
use Rattle.machine_firing.specs.Fire.{able_at, fired_at}
use Rattle.machine_runs.specs.Run.{least_from, first_from, least, lowest_from, Ran, runs, runs_from, still_at, still_from}
use Rattle.machine_runs.specs.RunLaws.{Quiet, runs-step, runs-end, runs-zero, runs-below}
use Rattle.machine_calls.specs.Calls.{size_in, standing, ended, ran}
use Rattle.machine_calls.specs.CallLaws.{ran-ended}

-- The firings between two memories: k of them lead from m to m', each of the least-numbered able operator of n.
abbrev pub Firings : ℕ → ℕ → ℕ → List ℕ → List ℕ → Type 0
Firings size n zero m m' = m' ≡ m
Firings size n (suc k) m m' = (i : ℕ) × (i < n) × (able_at m size i ≡ true) × Quiet m size i × Firings size n k (fired_at m size i) m'

-- ---- the least-numbered able operator
-- What least_from finds among the k operators from s on.
pub record Found (m : List ℕ) (size k s : ℕ) : Type 0 where
  pub from : s ≤ least_from m size k s
  pub upto : least_from m size k s ≤ s + k
  pub able : least_from m size k s < s + k → able_at m size (least_from m size k s) ≡ true
  pub quiet : (j : ℕ) → s ≤ j → j < least_from m size k s → able_at m size j ≡ false

-- ---- a run by its firings
pub record Counted (size n b : ℕ) (m : List ℕ) (r : Ran) (c : ℕ) : Type 0 where
  pub made : ℕ
  pub counts : r.count ≡ c + made
  pub lent : made ≤ b
  pub between : Firings size n made m r.mem

-- ---- the call run
-- What a run that was not refused with 11 or 31 says.
pub record RunCounts (m : List ℕ) (firings : ℕ) : Type 0 where
  -- "up to a lent number of firings"
  pub lent : (ran m firings).answer.count ≤ firings
  -- "the count is the number of firings between the memory before and after", each of "the least-numbered able operator"
  pub between : Firings (size_in m) (operators_of m) (ran m firings).answer.count m (ran m firings).mem
  -- "It is below the number only when nothing can fire."
  pub below : (ran m firings).answer.count < firings → still_at (ran m firings).mem (size_in m) (operators_of m) ≡ true
  -- 36 "something can still fire after the lent firings", all of which were made; else nothing can.
  pub unfinished : (ran m firings).answer.refusal ≡ number_of Unfinished
      → ((ran m firings).answer.count ≡ firings) × (still_at (ran m firings).mem (size_in m) (operators_of m) ≡ false)
  pub accepted : (ran m firings).answer.refusal ≡ 0 → still_at (ran m firings).mem (size_in m) (operators_of m) ≡ true
