-- Two lists of events, both possible from one state, that have each event equally often lead to one state (document 02, Job 12, of a tag's tokens).
-- Assumes the diamond (theory_schedule/specs/Schedules).
use Rattle.std.specs.Prelude.{ℕ, suc, ◌<◌, ◌-◌, ◌≡◌, refl, List, [], ◌∷◌}
use Rattle.std.proofs.Common.{◌∙◌, ap, arith}
use Rattle.std.proofs.Math.Logic.{ite, if_pos, Ne-symm}
use Rattle.std.proofs.Math.Decide.{ℕ_discrete}
use Rattle.theory_schedule.specs.Schedules.{removed-first, reached}
use Rattle.theory_schedule.proofs.Schedules.{removed-first-possible, Possible, Diamond}
use Rattle.theory_schedule.specs.Counts.{count}
use Rattle.theory_schedule.proofs.Counts.{count-remaining}

head-counted : (a : ℕ) (u : List ℕ) → 0 < count a (a ∷ u)
head-counted a u = rw (if_pos (ℕ_discrete a a) refl (suc (count a u)) (count a u)) (omega arith)

-- Without the first event of the one list, both have each event equally often again.
fewer-alike : (a : ℕ) (u w : List ℕ) → ((e : ℕ) → count e (a ∷ u) ≡ count e w) → (e : ℕ) → count e u ≡ count e (removed-first a w)
fewer-alike a u w same e = go (ℕ_discrete e a) (same e) (count-remaining e (a ∷ []) w)
  where
    go : (d : Dec (e ≡ a)) → ite d (suc (count e u)) (count e u) ≡ count e w → count e (removed-first a w) ≡ count e w - ite d 1 0 → count e u ≡ count e (removed-first a w)
    go (yes p) h k = omega arith
    go (no n) h k = omega arith

module _ {S O : Type 0} (enabled : ℕ → S → Type 0) (next : ℕ → S → S) (output : ℕ → S → O) (D : Diamond enabled next output) where
  -- An event that a list has may be made first.
  made-first : (a : ℕ) (w : List ℕ) (s : S) → enabled a s → Possible enabled next output w s → 0 < count a w
      → reached enabled next output (removed-first a w) (next a s) ≡ reached enabled next output w s
  made-first a [] s h r c = absurd (omega arith)
  made-first a (b ∷ w) s h r c = go (λ k m. made-first a w (next b s) k r.1 m) (ℕ_discrete a b) c
    where
      go : (enabled a (next b s) → 0 < count a w → reached enabled next output (removed-first a w) (next a (next b s)) ≡ reached enabled next output w (next b s))
          → (d : Dec (a ≡ b)) → 0 < ite d (suc (count a w)) (count a w)
          → reached enabled next output (ite d w (b ∷ removed-first a w)) (next a s) ≡ reached enabled next output w (next b s)
      go ih (yes p) m = ap (λ (z : ℕ). reached enabled next output w (next z s)) p
      go ih (no n) m =
          ap (reached enabled next output (removed-first a w)) (D.meets a b s n h r.0)
          ∙ ih (D.stays b a s (Ne-symm n) r.0 h) m

  pub same-state : (u w : List ℕ) (s : S) → Possible enabled next output u s → Possible enabled next output w s → ((e : ℕ) → count e u ≡ count e w)
      → reached enabled next output u s ≡ reached enabled next output w s
  same-state [] [] s ru rw' same = refl
  same-state [] (b ∷ w) s ru rw' same = absurd (omega (arith, same b, head-counted b w))
  same-state (a ∷ u) w s ru rw' same =
      same-state u (removed-first a w) (next a s) ru.1 (removed-first-possible enabled next output D a w s ru.0 rw') (fewer-alike a u w same)
      ∙ made-first a w s ru.0 rw' (omega (arith, same a, head-counted a u))
