-- Laws of specs/FaultRows.antt, and what only they need.
use Rattle.std.specs.Prelude.{ℕ, ◌≤◌, ◌<◌, ◌≡◌, refl, ◌⊎◌, Bool, true, false, cond, List, [], ◌∷◌, leb, Ok, Err}
use Rattle.std.proofs.Common.{sym, subst, inl, inr, leb-true, leb-false, arith}
use Rattle.formula.specs.Results.{Check}
use Rattle.formula.specs.Faults.{lower, lowest_of}
use Rattle.formula.specs.FaultRows.{Among, Passes, Given}

fault-lower : (r : ℕ) (c : Check) → Passes (lower r c) → ⊥
fault-lower r (Ok _) h = h
fault-lower r (Err k) h = h

pub none-lowest : (rs : List ℕ) → lowest_of rs ≡ Ok tt → rs ≡ []
unfolding lowest_of
none-lowest [] h = refl
none-lowest (r ∷ rs) h = absurd (fault-lower r (lowest_of rs) (subst Passes (sym h) tt))

pub lowest-given : (rs : List ℕ) (row : ℕ) → lowest_of rs ≡ Err row → Given row rs
unfolding lowest_of
lowest-given [] row h = absurd (let z : ◌≡◌ {A = ℕ} 0 1 = cc h in omega arith)
lowest-given (r ∷ rs) row h = go (lowest_of rs) refl h (lowest-given rs)
  where
    least : (x : ℕ) (b : Bool) → leb r x ≡ b → cond b r x ≡ row → Given x rs → Given row (r ∷ rs)
    least x true p e g = (inl (sym e), each)
      where
        each : (k : ℕ) → (k ≡ r) ⊎ Among k rs → row ≤ k
        each k (inl q) = omega arith
        each k (inr q) = let i : r ≤ x = leb-true r x p in omega (arith, g.1 k q)
    least x false p e g = (inr (subst (λ (z : ℕ). Among z rs) e g.0), each)
      where
        each : (k : ℕ) → (k ≡ r) ⊎ Among k rs → row ≤ k
        each k (inl q) = let i : x < r = leb-false r x p in omega arith
        each k (inr q) = omega (arith, g.1 k q)

    go : (c : Check) → lowest_of rs ≡ c → lower r c ≡ Err row → ((x : ℕ) → lowest_of rs ≡ Err x → Given x rs) → Given row (r ∷ rs)
    go (Ok _) p e ih = (inl (cc e), each)
      where
        each : (k : ℕ) → (k ≡ r) ⊎ Among k rs → row ≤ k
        each k (inl q) = let i : r ≡ row = cc e in omega arith
        each k (inr q) = absurd (subst (Among k) (none-lowest rs p) q)
    go (Err x) p e ih = least x (leb r x) refl (cc e) (ih x p)
