-- Laws of a run with tags (document 02, Job 12: "Run picks the least-numbered able operator and then its lowest able tag"): its step, its end, and what a loop that makes it
-- keeps. An operator i under a tag t is the pair 16 i + t, so that pairs stand in the order in which a run picks them. Assumes nothing.
use Rattle.std.specs.Prelude.{ℕ, zero, suc, ◌+◌, ◌-◌, ◌*◌, ◌/◌, ◌%◌, ◌≤◌, ◌<◌, ◌≡◌, refl, Bool, true, false, List, ltb, length}
use Rattle.std.proofs.Common.{sym, ap, ◌∙◌, arith, lt-ltb, le-ltb}
use Rattle.std.proofs.Math.Decide.{ℕ_discrete}
use Rattle.value.specs.Operators.{pick}
use Rattle.machine_planes.specs.Planes.{most_tags}
use Rattle.machine_runs.specs.Run.{ran}
use Rattle.machine_tags.proofs.Least.{least_at, least-none}
use Rattle.machine_tags.specs.TagRun.{able_under, fired_under, lowest_tag, able_tagged, least_operator, tag_runs, tag_still}

-- no pair below v is able
abbrev pub QuietBelow : List ℕ → ℕ → Type 0
QuietBelow m v = (i t : ℕ) → t < most_tags → 16 * i + t < v → able_under m i t ≡ false

pub quiet_none : (m : List ℕ) → QuietBelow m 0
quiet_none m i t tag h = absurd (omega arith)

pub quiet-upto : (m : List ℕ) (v w : ℕ) → w ≤ v → QuietBelow m v → QuietBelow m w
quiet-upto m v w le q i t tag h = q i t tag (omega arith)

pub quiet-more : (m : List ℕ) (v : ℕ) → QuietBelow m v → able_under m (v / 16) (v % 16) ≡ false → QuietBelow m (v + 1)
quiet-more m v q e i t tag h = go (ℕ_discrete (16 * i + t) v)
  where
    go : Dec (16 * i + t ≡ v) → able_under m i t ≡ false
    go (yes p) =
        let a : v / 16 ≡ i = omega arith in
        let b : v % 16 ≡ t = omega arith in
        rw (a, b) at e
    go (no d) = q i t tag (omega arith)

-- an operator with no able tag
none-able : (m : List ℕ) (i v : ℕ) → 16 * i + 16 ≤ v → QuietBelow m v → able_tagged m i ≡ false
unfolding able_tagged lowest_tag
none-able m i v h q = rw (least-none (able_under m i) most_tags (λ t k. q i t k (omega arith))) refl

module _ (m : List ℕ) (n i t : ℕ) (few : i < n) (tag : t < most_tags) (quiet : QuietBelow m (16 * i + t)) (able : able_under m i t ≡ true) where
  pub lowest-tag : lowest_tag m i ≡ t
  unfolding lowest_tag
  lowest-tag = least_at (able_under m i) most_tags t tag (λ u h. quiet i u (omega arith) (omega arith)) able

  able-tagged : able_tagged m i ≡ true
  unfolding able_tagged
  able-tagged = rw lowest-tag (lt-ltb t most_tags tag)

  pub lowest-operator : least_operator m n ≡ i
  unfolding least_operator
  lowest-operator = least_at (able_tagged m) n i few (λ j h. none-able m j (16 * i + t) (omega arith) quiet) able-tagged

pub no-operator : (m : List ℕ) (n : ℕ) → QuietBelow m (16 * n) → least_operator m n ≡ n
unfolding least_operator
no-operator m n q = least-none (able_tagged m) n (λ j h. none-able m j (16 * n) (omega arith) q)

-- ---- whether nothing can fire

pub still-quiet : (m : List ℕ) (n : ℕ) → QuietBelow m (16 * n) → tag_still m n ≡ true
unfolding tag_still
still-quiet m n q = rw (no-operator m n q, le-ltb n n (omega arith)) refl

pub still-able : (m : List ℕ) (n i t : ℕ) → i < n → t < most_tags → QuietBelow m (16 * i + t) → able_under m i t ≡ true → tag_still m n ≡ false
unfolding tag_still
still-able m n i t few tag q e = rw (lowest-operator m n i t few tag q e, lt-ltb i n few) refl

-- ---- steps

pub runs-step : (n b : ℕ) (m : List ℕ) (c i t : ℕ) → 0 < b → i < n → t < most_tags → QuietBelow m (16 * i + t) → able_under m i t ≡ true → tag_runs n b m c ≡ tag_runs n (b - 1) (fired_under m i t) (c + 1)
unfolding tag_runs
runs-step n zero m c i t p few tag q e = absurd (omega arith)
runs-step n (suc b) m c i t p few tag q e =
    let o = lowest-operator m n i t few tag q e in
    let l = lowest-tag m n i t few tag q e in
    let d : suc b - 1 ≡ b = omega arith in
    rw (o, l, lt-ltb i n few, d) refl

pub runs-end : (n b : ℕ) (m : List ℕ) (c : ℕ) → QuietBelow m (16 * n) → tag_runs n b m c ≡ ran m c
unfolding tag_runs
runs-end n zero m c q = refl
runs-end n (suc b) m c q = rw (no-operator m n q, le-ltb n n (omega arith)) refl

pub runs-zero : (n : ℕ) (m : List ℕ) (c : ℕ) → tag_runs n 0 m c ≡ ran m c
unfolding tag_runs
runs-zero n m c = refl

-- what a run's loop keeps
pub record Going (m₀ : List ℕ) (n b : ℕ) (m : List ℕ) (c : ℕ) : Type 0 where
  pub done : c ≤ b
  pub same : tag_runs n (b - c) m c ≡ tag_runs n b m₀ 0
  pub len : length m ≡ length m₀

pub going_start : (m₀ : List ℕ) (n b : ℕ) → Going m₀ n b m₀ 0
going_start m₀ n b = record { done = omega arith; same = (let e : b - 0 ≡ b = omega arith in rw e refl); len = refl }

module _ (m₀ : List ℕ) (n b : ℕ) (m : List ℕ) (c : ℕ) (g : Going m₀ n b m c) where
  pub going-fire : (i t : ℕ) → c < b → i < n → t < most_tags → QuietBelow m (16 * i + t) → able_under m i t ≡ true → length (fired_under m i t) ≡ length m → Going m₀ n b (fired_under m i t) (c + 1)
  going-fire i t lt few tag q e l =
      let f : b - c - 1 ≡ b - (c + 1) = omega arith in
      record {
        done = omega arith;
        same = ap (λ (x : ℕ). tag_runs n x (fired_under m i t) (c + 1)) (sym f) ∙ sym (runs-step n (b - c) m c i t (omega arith) few tag q e) ∙ g.same;
        len = l ∙ g.len;
      }

  pub going_end : QuietBelow m (16 * n) → ran m c ≡ tag_runs n b m₀ 0
  going_end q = sym (runs-end n (b - c) m c q) ∙ g.same

  pub going-full : b ≤ c → ran m c ≡ tag_runs n b m₀ 0
  going-full h = let d = g.done in let z : b - c ≡ 0 = omega arith in sym (runs-zero n m c) ∙ ap (λ (x : ℕ). tag_runs n x m c) (sym z) ∙ g.same

-- the memory after the firing that a run picks
abbrev picked : List ℕ → ℕ → List ℕ
picked m n = fired_under m (least_operator m n) (lowest_tag m (least_operator m n))

-- a run that made fewer firings than it was lent left nothing able
pub tag-runs-below : (n b : ℕ) (m : List ℕ) (c : ℕ) → (tag_runs n b m c).count < c + b → tag_still (tag_runs n b m c).mem n ≡ true
unfolding tag_runs tag_still
tag-runs-below n zero m c h = absurd (omega arith)
tag-runs-below n (suc b) m c h = go (ltb (least_operator m n) n) refl (tag-runs-below n b (picked m n) (c + 1)) h
  where
    go : (t : Bool) → ltb (least_operator m n) n ≡ t
        → ((tag_runs n b (picked m n) (c + 1)).count < c + 1 + b → tag_still (tag_runs n b (picked m n) (c + 1)).mem n ≡ true)
        → (pick t (tag_runs n b (picked m n) (c + 1)) (ran m c)).count < c + suc b
        → tag_still (pick t (tag_runs n b (picked m n) (c + 1)) (ran m c)).mem n ≡ true
    go true e I h = I (omega arith)
    go false e I h = rw e refl
