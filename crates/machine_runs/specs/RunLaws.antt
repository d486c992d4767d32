-- Laws of a run: its step, its end, and what a loop that makes it keeps. Assumes nothing.
use Rattle.std.specs.Prelude.{ℕ, zero, suc, ◌+◌, ◌-◌, ◌≤◌, ◌<◌, ◌≡◌, refl, Bool, true, false, List, ltb, length}
use Rattle.std.proofs.Common.{sym, ap, ◌∙◌, arith, lt-ltb, le-ltb}
use Rattle.std.proofs.Math.Decide.{ℕ_discrete}
use Rattle.value.specs.Operators.{pick}
use Rattle.machine_layout.specs.Layout.{links_at}
use Rattle.machine_firing.specs.Fire.{able_from, fired_from}
use Rattle.machine_runs.specs.Run.{first_from, lowest_from, Ran, ran, runs_from, still_from}

-- nothing below i is able
abbrev pub QuietFrom : List ℕ → ℕ → ℕ → ℕ → Type 0
QuietFrom m base size i = (j : ℕ) → j < i → able_from m base size j ≡ false

abbrev pub Quiet : List ℕ → ℕ → ℕ → Type 0
Quiet m size i = QuietFrom m links_at size i

from_at : (m : List ℕ) (base size k s i : ℕ) → s ≤ i → i < s + k → ((j : ℕ) → s ≤ j → j < i → able_from m base size j ≡ false) → able_from m base size i ≡ true → first_from m base size k s ≡ i
unfolding first_from
from_at m base size zero s i a b q e = absurd (omega arith)
from_at m base size (suc k) s i a b q e = go (ℕ_discrete s i) (λ c. from_at m base size k (suc s) i (omega arith) (omega arith) (λ j x y. q j (omega arith) y) e)
  where
    go : Dec (s ≡ i) → (suc s ≤ i → first_from m base size k (suc s) ≡ i) → pick (able_from m base size s) s (first_from m base size k (suc s)) ≡ i
    go (yes p) ih = let t : able_from m base size s ≡ true = (rw p e) in rw t p
    go (no n) ih = let t : able_from m base size s ≡ false = q s (omega arith) (omega arith) in rw t (ih (omega arith))

from-none : (m : List ℕ) (base size k s : ℕ) → ((j : ℕ) → s ≤ j → j < s + k → able_from m base size j ≡ false) → first_from m base size k s ≡ s + k
unfolding first_from
from-none m base size zero s q = omega arith
from-none m base size (suc k) s q =
    let t : able_from m base size s ≡ false = q s (omega arith) (omega arith) in
    let ih = from-none m base size k (suc s) (λ j x y. q j (omega arith) (omega arith)) in
    let e : suc s + k ≡ s + suc k = omega arith in
    rw t (ih ∙ e)

pub least_at : (m : List ℕ) (base size n i : ℕ) → i < n → QuietFrom m base size i → able_from m base size i ≡ true → lowest_from m base size n ≡ i
unfolding lowest_from
least_at m base size n i h q e = from_at m base size n 0 i (omega arith) (omega arith) (λ j x y. q j y) e

pub least-none : (m : List ℕ) (base size n : ℕ) → QuietFrom m base size n → lowest_from m base size n ≡ n
unfolding lowest_from
least-none m base size n q = let z : 0 + n ≡ n = omega arith in from-none m base size n 0 (λ j x y. q j (omega arith)) ∙ z

pub quiet-more : (m : List ℕ) (base size i : ℕ) → QuietFrom m base size i → able_from m base size i ≡ false → QuietFrom m base size (i + 1)
quiet-more m base size i q e j h = go (ℕ_discrete j i)
  where
    go : Dec (j ≡ i) → able_from m base size j ≡ false
    go (yes p) = rw p e
    go (no n) = q j (omega arith)

pub quiet_none : (m : List ℕ) (base size : ℕ) → QuietFrom m base size 0
quiet_none m base size j h = absurd (omega arith)

-- a step of a run, and its end
pub runs-step : (base size n b : ℕ) (m : List ℕ) (c i : ℕ) → 0 < b → i < n → QuietFrom m base size i → able_from m base size i ≡ true → runs_from base size n b m c ≡ runs_from base size n (b - 1) (fired_from m base size i) (c + 1)
unfolding runs_from
runs-step base size n zero m c i p h q e = absurd (omega arith)
runs-step base size n (suc b) m c i p h q e =
    let l = least_at m base size n i h q e in
    let d : suc b - 1 ≡ b = omega arith in
    rw (l, lt-ltb i n h, d) refl

pub runs-end : (base size n b : ℕ) (m : List ℕ) (c : ℕ) → QuietFrom m base size n → runs_from base size n b m c ≡ ran m c
unfolding runs_from
runs-end base size n zero m c q = refl
runs-end base size n (suc b) m c q = let l = least-none m base size n q in rw (l, le-ltb n n (omega arith)) refl

pub runs-zero : (base size n : ℕ) (m : List ℕ) (c : ℕ) → runs_from base size n 0 m c ≡ ran m c
unfolding runs_from
runs-zero base size n m c = refl

pub fired-idle : (m : List ℕ) (base size i : ℕ) → able_from m base size i ≡ false → fired_from m base size i ≡ m
unfolding fired_from
fired-idle m base size i e = rw e refl

-- what a run's loop keeps
pub record Going (m₀ : List ℕ) (base size n b : ℕ) (m : List ℕ) (c i : ℕ) : Type 0 where
  pub done : c ≤ b
  pub upto : i ≤ n
  pub quiet : QuietFrom m base size i
  pub same : runs_from base size n (b - c) m c ≡ runs_from base size n b m₀ 0
  pub len : length m ≡ length m₀

pub going_start : (m₀ : List ℕ) (base size n b : ℕ) → Going m₀ base size n b m₀ 0 0
going_start m₀ base size n b = record { done = omega arith; upto = omega arith; quiet = quiet_none m₀ base size; same = (let e : b - 0 ≡ b = omega arith in rw e refl); len = refl }

module _ (m₀ : List ℕ) (base size n b : ℕ) (m : List ℕ) (c i : ℕ) (g : Going m₀ base size n b m c i) where
  pub going-fire : (k : ℕ) → k ≤ n → c < b → i < n → able_from m base size i ≡ true → length (fired_from m base size i) ≡ length m → QuietFrom (fired_from m base size i) base size k → Going m₀ base size n b (fired_from m base size i) (c + 1) k
  going-fire k kn lt h e l q =
      let f : b - c - 1 ≡ b - (c + 1) = omega arith in
      record {
        done = omega arith;
        upto = kn;
        quiet = q;
        same = ap (λ (x : ℕ). runs_from base size n x (fired_from m base size i) (c + 1)) (sym f) ∙ sym (runs-step base size n (b - c) m c i (omega arith) h g.quiet e) ∙ g.same;
        len = l ∙ g.len;
      }

  pub going_next : i < n → able_from m base size i ≡ false → Going m₀ base size n b (fired_from m base size i) c (i + 1)
  going_next h e = rw (fired-idle m base size i e) (record { done = g.done; upto = omega arith; quiet = quiet-more m base size i g.quiet e; same = g.same; len = g.len })

  pub going_end : i ≡ n → ran m c ≡ runs_from base size n b m₀ 0
  going_end e = sym (runs-end base size n (b - c) m c (rw e at g.quiet)) ∙ g.same

  pub going-full : b ≤ c → ran m c ≡ runs_from base size n b m₀ 0
  going-full h = let d = g.done in let z : b - c ≡ 0 = omega arith in sym (runs-zero base size n m c) ∙ ap (λ (x : ℕ). runs_from base size n x m c) (sym z) ∙ g.same

-- "It is below the number only when nothing can fire": a run that made fewer firings than it was lent left nothing able
pub runs-below : (base size n b : ℕ) (m : List ℕ) (c : ℕ) → (runs_from base size n b m c).count < c + b → still_from (runs_from base size n b m c).mem base size n ≡ true
unfolding runs_from still_from
runs-below base size n zero m c h = absurd (omega arith)
runs-below base size n (suc b) m c h = go (ltb (lowest_from m base size n) n) refl (runs-below base size n b (fired_from m base size (lowest_from m base size n)) (c + 1)) h
  where
    go : (t : Bool) → ltb (lowest_from m base size n) n ≡ t
        → ((runs_from base size n b (fired_from m base size (lowest_from m base size n)) (c + 1)).count < c + 1 + b → still_from (runs_from base size n b (fired_from m base size (lowest_from m base size n)) (c + 1)).mem base size n ≡ true)
        → (pick t (runs_from base size n b (fired_from m base size (lowest_from m base size n)) (c + 1)) (ran m c)).count < c + suc b
        → still_from (pick t (runs_from base size n b (fired_from m base size (lowest_from m base size n)) (c + 1)) (ran m c)).mem base size n ≡ true
    go true e I h = I (omega arith)
    go false e I h = rw e refl
