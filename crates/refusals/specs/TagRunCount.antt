-- The count of a run of the machine with tags (document 02, Job 12: "Run picks the least-numbered able operator and then its lowest able tag"; document 01,
-- "Running": "the count is the number of firings between the memory before and after. It is below the number only when nothing can fire."). Assumes a memory in
-- good standing.
use Rattle.std.specs.Prelude.{ℕ, zero, suc, ◌+◌, ◌-◌, ◌*◌, ◌≤◌, ◌<◌, ◌≡◌, Bool, List, ltb}
use Rattle.std.proofs.Math.Bool.{true, false}
use Rattle.value.specs.Operators.{pick}
use Rattle.formula.specs.declared.Refusal.TheVariants.{Unfinished}
use Rattle.formula.specs.Refusals.{number_of}
use Rattle.machine_layout.specs.Layout.{operators_of}
use Rattle.machine_runs.specs.Run.{Ran, ran}
use Rattle.machine_planes.specs.Planes.{most_tags}
use Rattle.machine_tags.specs.Least.{NoneBelow}
use Rattle.machine_tags.specs.TagRun.{able_under, fired_under, lowest_tag, least_operator, tag_runs, tag_still}
use Rattle.machine_tag_runs.specs.TagRunLaws.{QuietBelow, runs-step, runs-end, runs-zero}
use Rattle.machine_tags.specs.TagCalls.{tag_standing, tag_ended, tag_ran}

-- no operator below i can fire under any tag
abbrev pub NoneFires : List ℕ → ℕ → Type 0
NoneFires m i = (j u : ℕ) → j < i → u < most_tags → able_under m j u ≡ false

-- The firings between two memories: k of them lead from m to m', each of the least-numbered able operator of n, under its lowest able tag.
abbrev pub TagFirings : ℕ → ℕ → List ℕ → List ℕ → Type 0
TagFirings n zero m m' = m' ≡ m
TagFirings n (suc k) m m' =
    (i t : ℕ) × (i < n) × (t < most_tags) × (able_under m i t ≡ true) × NoneFires m i × NoneBelow (able_under m i) t × TagFirings n k (fired_under m i t) m'

-- ---- a run by its firings
pub record TagCounted (n b : ℕ) (m : List ℕ) (r : Ran) (c : ℕ) : Type 0 where
  pub made : ℕ
  pub counts : r.count ≡ c + made
  pub lent : made ≤ b
  pub between : TagFirings n made m r.mem
  pub below : made < b → tag_still r.mem n ≡ true

-- ---- the call
-- What a run that was not refused with 11 or 31 says.
pub record TagRunCounts (m : List ℕ) (firings : ℕ) : Type 0 where
  pub lent : (tag_ran m firings).answer.count ≤ firings
  pub between : TagFirings (operators_of m) (tag_ran m firings).answer.count m (tag_ran m firings).mem
  pub below : (tag_ran m firings).answer.count < firings → tag_still (tag_ran m firings).mem (operators_of m) ≡ true
  -- 36 "something can still fire after the lent firings", all of which were made; else nothing can.
  pub unfinished : (tag_ran m firings).answer.refusal ≡ number_of Unfinished
      → ((tag_ran m firings).answer.count ≡ firings) × (tag_still (tag_ran m firings).mem (operators_of m) ≡ false)
  pub accepted : (tag_ran m firings).answer.refusal ≡ 0 → tag_still (tag_ran m firings).mem (operators_of m) ≡ true
