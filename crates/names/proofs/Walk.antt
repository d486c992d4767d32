-- The walk over a mask from its lowest place up: trailing zeros give the least member, m & (m - 1) is the mask without it,
-- and the members are the least and those of the rest. Shown over the first n places by induction. Assumes nothing.
use mathlib.Core.Path.{◌≡◌, refl, ap, ◌∙◌}
use mathlib.Core.Bool.{Bool, true, false, ◌&&◌}
use mathlib.Core.List.{[], ◌∷◌}
use Prim.Native.Nat.{ℕ, zero, suc, ◌+◌, ◌-◌, ◌*◌, ◌/◌, ◌%◌, ◌≤◌, ◌<◌}
use native.Mathlib.Omega.{arith}
use native.Mathlib.Nat.{add-zero}
use lib.Bits.{bit_and, and_step, and_self}
use lib.Count.{count_trailing_zeros}
use lib.Dec.{eqb-suc-suc}
use borrow.Author.Tests.{ne_eqb}
use Rattle.names.proofs.Masks.{half, odd, mask_from-cong}
use Rattle.names.proofs.Counts.{members_from-cong}
use Rattle.names.specs.Names.{Names, one, without, later, bit, mask_from, members_from}

-- t is the least member among the first n places
pub record Least (n : ℕ) (f : Names) (t : ℕ) : Type 0 where
  pub inside : t < n
  pub is-in : f t ≡ true
  pub none_below : (j : ℕ) → j < t → f j ≡ false

module _ (n t : ℕ) (f : Names) where
  -- the least member, when place 0 is out, is one further than that of the places after it
  further : f 0 ≡ false → Least n (later f) t → Least (suc n) f (suc t)
  further e l = record { inside = omega (arith, l.inside); is-in = l.is-in; none_below = below }
    where
      below : (j : ℕ) → j < suc t → f j ≡ false
      below zero h = e
      below (suc j) h = l.none_below j (omega arith)

  nearer : Least (suc n) f (suc t) → Least n (later f) t
  nearer l = record { inside = omega (arith, l.inside); is-in = l.is-in; none_below = λ j h. l.none_below (suc j) (omega arith) }

-- a mask that is not 0 has a least member
pub least : (n : ℕ) (f : Names) → 0 < mask_from n f → (t : ℕ) × Least n f t
unfolding mask_from
least zero f h = absurd (omega arith)
least (suc n) f h = go (f 0) refl (λ k. least n (later f) k)
  where
    go : (b : Bool) → f 0 ≡ b → (0 < mask_from n (later f) → (t : ℕ) × Least n (later f) t) → (t : ℕ) × Least (suc n) f t
    go true e ih = (0, record { inside = omega arith; is-in = e; none_below = λ j l. absurd (omega arith) })
    go false e ih =
        let k : 0 < bit (f 0) + 2 * mask_from n (later f) = h in
        let k' : 0 < 0 + 2 * mask_from n (later f) = rw e at k in
        let r = ih (omega (arith, k')) in
        (suc r.0, further n r.0 f e r.1)

pub least-pos : (n t : ℕ) (f : Names) → Least n f t → 0 < mask_from n f
unfolding mask_from
least-pos zero t f l = absurd (omega (arith, l.inside))
least-pos (suc n) zero f l = rw l.is-in (omega arith)
least-pos (suc n) (suc t) f l = omega (arith, least-pos n t (later f) (nearer n t f l))

pub trailing-least : (n w t : ℕ) (f : Names) → n ≤ w → Least n f t → count_trailing_zeros w (mask_from n f) ≡ t
unfolding mask_from count_trailing_zeros
trailing-least zero w t f h l = absurd (omega (arith, l.inside))
trailing-least (suc n) zero t f h l = absurd (omega arith)
trailing-least (suc n) (suc w) zero f h l = let m = mask_from n (later f) in rw (odd (f 0) m, l.is-in) refl
trailing-least (suc n) (suc w) (suc t) f h l =
    let m = mask_from n (later f) in
    rw (odd (f 0) m, half (f 0) m, l.none_below 0 (omega arith)) (ap suc (trailing-least n w t (later f) (omega arith) (nearer n t f l)))

-- ---- the set without its least member

and-true : (b : Bool) → b && true ≡ b
and-true true = refl
and-true false = refl

and-false : (b : Bool) → b && false ≡ false
and-false true = refl
and-false false = refl

gone-first : (f : Names) (j : ℕ) → later (without f (one 0)) j ≡ later f j
gone-first f j = rw (ne_eqb 0 (suc j) (λ e. omega arith)) (and-true (f (suc j)))

gone-later : (f : Names) (t j : ℕ) → later (without f (one (suc t))) j ≡ without (later f) (one t) j
gone-later f t j = rw (eqb-suc-suc t j) refl

stays : (f : Names) (t : ℕ) → without f (one (suc t)) 0 ≡ f 0
stays f t = rw (ne_eqb (suc t) 0 (λ e. omega arith)) (and-true (f 0))

-- an odd number and one less share all but the lowest digit; an even one goes by its half
odd-rest : (m : ℕ) → m % 2 ≡ 1 → bit_and m (m - 1) ≡ m / 2 * 2
odd-rest m h =
    let a : (m - 1) / 2 ≡ m / 2 = omega arith in
    let b : (m - 1) % 2 ≡ 0 = omega arith in
    and_step m (m - 1) ∙ rw (a, b, h, and_self (m / 2)) (omega arith)

even-rest : (m : ℕ) → m % 2 ≡ 0 → 0 < m → bit_and m (m - 1) ≡ bit_and (m / 2) (m / 2 - 1) * 2
even-rest m h p =
    let a : (m - 1) / 2 ≡ m / 2 - 1 = omega arith in
    let b : (m - 1) % 2 ≡ 1 = omega arith in
    and_step m (m - 1) ∙ rw (a, b, h) (omega arith)

pub rest-least : (n t : ℕ) (f : Names) → Least n f t → bit_and (mask_from n f) (mask_from n f - 1) ≡ mask_from n (without f (one t))
unfolding mask_from
rest-least zero t f l = absurd (omega (arith, l.inside))
rest-least (suc n) zero f l =
    let m = mask_from n (later f) in
    odd-rest (bit (f 0) + 2 * m) (odd (f 0) m ∙ ap bit l.is-in)
    ∙ rw (half (f 0) m, and-false (f 0), mask_from-cong n (later (without f (one 0))) (later f) (λ j _. gone-first f j)) (omega arith)
rest-least (suc n) (suc t) f l =
    let m = mask_from n (later f) in
    even-rest (bit (f 0) + 2 * m) (odd (f 0) m ∙ ap bit (l.none_below 0 (omega arith))) (omega (arith, least-pos n t (later f) (nearer n t f l)))
    ∙ rw (half (f 0) m, stays f t, l.none_below 0 (omega arith), mask_from-cong n (later (without f (one (suc t)))) (without (later f) (one t)) (λ j _. gone-later f t j), rest-least n t (later f) (nearer n t f l)) (omega arith)

pub members-least : (n at t : ℕ) (f : Names) → Least n f t → members_from n at f ≡ (at + t) ∷ members_from n at (without f (one t))
unfolding members_from
members-least zero at t f l = absurd (omega (arith, l.inside))
members-least (suc n) at zero f l =
    rw (and-false (f 0), l.is-in, members_from-cong n (suc at) (later (without f (one 0))) (later f) (λ j _. gone-first f j), add-zero at) refl
members-least (suc n) at (suc t) f l =
    rw (stays f t, l.none_below 0 (omega arith), members_from-cong n (suc at) (later (without f (one (suc t)))) (without (later f) (one t)) (λ j _. gone-later f t j))
    (members-least n (suc at) t (later f) (nearer n t f l) ∙ ap (λ (x : ℕ). x ∷ members_from n (suc at) (without (later f) (one t))) (omega arith))

pub members_from-none : (n at : ℕ) (f : Names) → ((i : ℕ) → i < n → f i ≡ false) → members_from n at f ≡ []
unfolding members_from
members_from-none zero at f h = refl
members_from-none (suc n) at f h = rw (h 0 (omega arith)) (members_from-none n (suc at) (later f) (λ i l. h (suc i) (omega arith)))
