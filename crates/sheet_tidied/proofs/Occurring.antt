-- Rows named, counted and listed: a row occurs in a list if and only if it is one of it, and a number that is one row's alone is counted as the row.
-- With tests 5 and 6 every row is reachable from the last.
use Rattle.std.specs.Prelude.{ℕ, zero, suc, ◌+◌, ◌≤◌, ◌≡◌, refl, ◌⊎◌, cond, List, [], ◌∷◌, map, eqb}
use Rattle.std.proofs.Common.{sym, ap, inl, inr, eq-eqb, ne_eqb, arith}
use Rattle.std.proofs.Math.Decide.{ℕ_discrete}
use Rattle.formula.specs.Sheet.{shape_at, named_in}
use Rattle.formula.specs.Tests.{occurrences}
use Rattle.formula.specs.FaultRows.{Among}
use Rattle.formula.specs.PlaceLaws.{Sound}
use Rattle.formula.proofs.PlaceLaws.{namer}
use Rattle.sheet_tidied.specs.Reach.{Reachable, last, named_by}

counted : (x y : ℕ) → y ≡ x → cond {A = ℕ} (eqb y x) 1 0 ≡ 1
counted x y e = rw (eq-eqb y x e) refl

skipped : (x y : ℕ) → (y ≡ x → ⊥) → cond {A = ℕ} (eqb y x) 1 0 ≡ 0
skipped x y e = rw (ne_eqb y x e) refl

pub occurs-among : (x : ℕ) (l : List ℕ) → 1 ≤ occurrences x l → Among x l
unfolding occurrences
occurs-among x [] h = absurd (omega arith)
occurs-among x (y ∷ l) h = go (ℕ_discrete y x) (occurs-among x l)
  where
    go : Dec (y ≡ x) → (1 ≤ occurrences x l → Among x l) → (x ≡ y) ⊎ Among x l
    go (yes e) ih = inl (sym e)
    go (no e) ih = inr (ih (omega (arith, skipped x y e)))

pub among-occurs : (x : ℕ) (l : List ℕ) → Among x l → 1 ≤ occurrences x l
unfolding occurrences
among-occurs x [] a = absurd a
among-occurs x (y ∷ l) (inl e) = omega (arith, counted x y (sym e))
among-occurs x (y ∷ l) (inr a) = omega (arith, among-occurs x l a)

-- A number that no other row of the list has occurs as often as its row.
pub occurs-map : (f : ℕ → ℕ) (x : ℕ) (l : List ℕ) → ((y : ℕ) → Among y l → f y ≡ f x → y ≡ x) → occurrences (f x) (map f l) ≡ occurrences x l
unfolding occurrences
occurs-map f x [] h = refl
occurs-map f x (y ∷ l) h = go (ℕ_discrete y x) (occurs-map f x l (λ z a. h z (inr a)))
  where
    go : Dec (y ≡ x) → occurrences (f x) (map f l) ≡ occurrences x l
        → cond (eqb (f y) (f x)) 1 0 + occurrences (f x) (map f l) ≡ cond (eqb y x) 1 0 + occurrences x l
    go (yes e) ih = omega (arith, counted x y e, counted (f x) (f y) (ap f e))
    go (no e) ih = omega (arith, skipped x y e, skipped (f x) (f y) (λ (z : f y ≡ f x). e (h y (inl refl) z)))

-- Where each row but the last is named, every row is reachable.
module _ (t : List ℕ) (n : ℕ) (ok : Sound t n) where
  reach-down : (d r : ℕ) → 1 ≤ r → r ≤ n → n ≤ r + d → Reachable t n r
  reach-down zero r l u h = let e : r ≡ n = omega arith in rw e last
  reach-down (suc d) r l u h = go (ℕ_discrete r n) (reach-down d)
    where
      go : Dec (r ≡ n) → ((q : ℕ) → 1 ≤ q → q ≤ n → n ≤ q + d → Reachable t n q) → Reachable t n r
      go (yes e) ih = rw e last
      go (no e) ih =
          let w = namer t n ok r l (omega arith) in
          named_by w.row r (ih w.row (omega (arith, w.later)) w.inside (omega (arith, w.later))) (occurs-among r (named_in (shape_at t w.row)) w.names)

  pub all-reachable : (r : ℕ) → 1 ≤ r → r ≤ n → Reachable t n r
  all-reachable r l u = reach-down n r l u (omega arith)
