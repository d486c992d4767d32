-- Laws of specs/Counts.antt, and what only they need.
use Rattle.std.specs.Prelude.{ℕ, suc, ◌<◌, ◌≤◌, ◌+◌, ◌-◌, ◌≡◌, refl, ◌≢◌, List, [], ◌∷◌, ◌++◌, length}
use Rattle.std.proofs.Common.{sym, ◌∙◌, ap, arith}
use Rattle.std.proofs.Math.Logic.{ite, if_neg, if_pos}
use Rattle.std.proofs.Math.Decide.{ℕ_discrete}
use Rattle.theory_schedule.specs.Schedules.{removed-first, remaining}
use Rattle.theory_schedule.specs.Counts.{count}

pub count-append : (e : ℕ) (u w : List ℕ) → count e (u ++ w) ≡ count e u + count e w
count-append e [] w = omega arith
count-append e (a ∷ u) w = go (ℕ_discrete e a) (count-append e u w)
  where
    go : (d : Dec (e ≡ a)) → count e (u ++ w) ≡ count e u + count e w →
        ite d (suc (count e (u ++ w))) (count e (u ++ w)) ≡ ite d (suc (count e u)) (count e u) + count e w
    go (yes x) ih = omega arith
    go (no x) ih = ih

count_same : (a : ℕ) (w : List ℕ) → count a (removed-first a w) ≡ count a w - 1
count_same a [] = omega arith
count_same a (b ∷ w) = go (ℕ_discrete a b) (count_same a w)
  where
    go : (d : Dec (a ≡ b)) → count a (removed-first a w) ≡ count a w - 1 →
        count a (ite d w (b ∷ removed-first a w)) ≡ ite d (suc (count a w)) (count a w) - 1
    go (yes p) ih = omega arith
    go (no n) ih = if_neg (ℕ_discrete a b) n _ _ ∙ ih

count-other : (e a : ℕ) → e ≢ a → (w : List ℕ) → count e (removed-first a w) ≡ count e w
count-other e a ne [] = refl
count-other e a ne (b ∷ w) = go (ℕ_discrete a b) (count-other e a ne w)
  where
    go : (d : Dec (a ≡ b)) → count e (removed-first a w) ≡ count e w → count e (ite d w (b ∷ removed-first a w)) ≡ count e (b ∷ w)
    go (yes p) ih = sym (if_neg (ℕ_discrete e b) (λ q. ne (q ∙ sym p)) _ _)
    go (no n) ih = ap (λ c. ite (ℕ_discrete e b) (suc c) c) ih

-- Of each event there is left what the run has not done.
pub count-remaining : (e : ℕ) (u w : List ℕ) → count e (remaining u w) ≡ count e w - count e u
count-remaining e [] w = omega arith
count-remaining e (a ∷ u) w = go (ℕ_discrete e a) (count-remaining e u (removed-first a w))
  where
    go : (d : Dec (e ≡ a)) → count e (remaining u (removed-first a w)) ≡ count e (removed-first a w) - count e u →
        count e (remaining u (removed-first a w)) ≡ count e w - ite d (suc (count e u)) (count e u)
    go (yes p) ih = let k : count e (removed-first a w) ≡ count e w - 1 = rw p (count_same a w) in omega arith
    go (no n) ih = ih ∙ ap (λ c. c - count e u) (count-other e a n w)

length-removed-first : (a : ℕ) (w : List ℕ) → length w ≤ suc (length (removed-first a w))
length-removed-first a [] = omega arith
length-removed-first a (b ∷ w) = go (ℕ_discrete a b) (length-removed-first a w)
  where
    go : (d : Dec (a ≡ b)) → length w ≤ suc (length (removed-first a w)) → suc (length w) ≤ suc (length (ite d w (b ∷ removed-first a w)))
    go (yes p) ih = omega arith
    go (no n) ih = omega arith

-- A run shorter than the reference leaves something of it.
pub length-remaining : (u w : List ℕ) → length w ≤ length (remaining u w) + length u
length-remaining [] w = omega arith
length-remaining (a ∷ u) w = omega (arith, length-remaining u (removed-first a w), length-removed-first a w)

count_head : (e b : ℕ) (v : List ℕ) → b ≡ e → 0 < count e (b ∷ v)
count_head e b v p = rw (if_pos (ℕ_discrete e b) (sym p) (suc (count e v)) (count e v)) (omega arith)

-- Where the run has made all that the reference has of an event, what is left does not begin with it.
pub remaining-head-differs : (e b : ℕ) (u w v : List ℕ) → remaining u w ≡ b ∷ v → count e w ≤ count e u → b ≢ e
remaining-head-differs e b u w v z le p = omega (arith, count-remaining e u w, ap (count e) z, count_head e b v p)
