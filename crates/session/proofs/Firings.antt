-- Laws of specs/Firings.antt, and what only they need.
use Rattle.std.specs.Prelude.{ℕ, zero, suc, ◌-◌, ◌≤◌, ◌≡◌, List, [], ◌∷◌}
use Rattle.std.proofs.Math.Path.{refl}
use Rattle.std.proofs.Common.{arith, ne_eqb}
use Rattle.session.specs.Passes.{feeding, Pass, pass_of, remaining_after}
use Rattle.session.specs.Firings.{LentRun, lent_run, count_of, runs_made, UsesAll}

-- ---- one run more
pub uses-on : (r : LentRun) (rs : List LentRun) (left : ℕ) → count_of r ≤ left → UsesAll (left - count_of r) rs → UsesAll left (r ∷ rs)
uses-on r [] left h u = absurd u
uses-on r (s ∷ rs) left h u = (omega (arith, u.0, h), u.1)

pub runs-over : (f : ℕ) (rest : List (List ℕ)) (m : List ℕ) (left : ℕ) → runs_made f 0 rest m left ≡ []
unfolding runs_made
runs-over zero rest m left = refl
runs-over (suc f) rest m left = refl

module _ (f : ℕ) (rest : List (List ℕ)) (m : List ℕ) (left : ℕ) where
  abbrev p : Pass
  p = pass_of rest m left

  pub runs-again : (n : ℕ)
      → runs_made (suc f) (suc n) rest m left ≡ lent_run (feeding rest m).mem left ∷ runs_made f (remaining_after (suc n) p) p.rest p.mem p.left
  unfolding runs_made
  runs-again n = rw (ne_eqb (suc n) 0 (λ e. omega (arith, e))) refl
