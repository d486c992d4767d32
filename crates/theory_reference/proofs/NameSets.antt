-- Laws of sets of names as the layout uses them: membership in unions and differences, and the rank of a name among the members,
-- which is below their number, different for different names, and takes every value. Assumes nothing.
use Rattle.std.specs.Prelude.{ℕ, zero, suc, ◌+◌, ◌≤◌, ◌<◌, ◌≡◌, refl, ◌⊎◌, Bool, true, false, ◌&&◌, ◌||◌, not, List, [], ◌∷◌, eqb}
use Rattle.std.proofs.Common.{sym, ◌∙◌, ap, subst, inl, inr, ⊎_elim, arith, eqb-true, eq-eqb}
use Rattle.std.proofs.lemmas.Bool.{false≢true}
use Rattle.std.proofs.Math.Decide.{dec_lt}
use Rattle.names.specs.Names.{Names, without, size_from, members_from, later, put, bit}
use Rattle.names.proofs.Counts.{size_from-suc, size_from-mono, Member, member_of_lem}
use Rattle.graph.specs.Assembly.{name_count, member_of, rank, total, listed}
use Rattle.graph.specs.Fit.{Different as DifferentNames}

-- Truths.
pub either : (b : Bool) → (b ≡ true) ⊎ (b ≡ false)
either true = inl refl
either false = inr refl

pub and_left : (p q : Bool) → p && q ≡ true → p ≡ true
and_left true q e = refl
and_left false q e = e

pub and_right : (p q : Bool) → p && q ≡ true → q ≡ true
and_right true q e = e
and_right false q e = absurd (false≢true e)

pub and_both : (p q : Bool) → p ≡ true → q ≡ true → p && q ≡ true
and_both true q e f = f
and_both false q e f = e

pub or_left : (p q : Bool) → p ≡ true → p || q ≡ true
or_left true q e = refl
or_left false q e = absurd (false≢true e)

pub or_right : (p q : Bool) → q ≡ true → p || q ≡ true
or_right true q e = refl
or_right false q e = e

pub or_cases : (p q : Bool) → p || q ≡ true → (p ≡ true) ⊎ (q ≡ true)
or_cases true q e = inl refl
or_cases false q e = inr e

pub not-both : (b : Bool) → b ≡ true → b ≡ false → ⊥
not-both b e f = false≢true (sym f ∙ e)

pub without_in : (f h : Names) (x : ℕ) → f x ≡ true → h x ≡ false → without f h x ≡ true
without_in f h x e k = and_both (f x) (not (h x)) e (ap not k)

pub without-here : (f h : Names) (x : ℕ) → without f h x ≡ true → f x ≡ true
without-here f h x e = and_left (f x) (not (h x)) e

not-true : (b : Bool) → not b ≡ true → b ≡ false
not-true true e = sym e
not-true false e = refl

pub without-there : (f h : Names) (x : ℕ) → without f h x ≡ true → h x ≡ false
without-there f h x e = not-true (h x) (and_right (f x) (not (h x)) e)

-- The members of a list.
pub member-head : (x : ℕ) (ns : List ℕ) → member_of (x ∷ ns) x ≡ true
unfolding member_of
member-head x ns = or_left (eqb x x) (member_of ns x) (eq-eqb x x refl)

pub member-tail : (y : ℕ) (ns : List ℕ) (x : ℕ) → member_of ns x ≡ true → member_of (y ∷ ns) x ≡ true
unfolding member_of
member-tail y ns x e = or_right (eqb y x) (member_of ns x) e

pub member-cases : (y : ℕ) (ns : List ℕ) (x : ℕ) → member_of (y ∷ ns) x ≡ true → (y ≡ x) ⊎ (member_of ns x ≡ true)
unfolding member_of
member-cases y ns x e = ⊎_elim (λ (z : eqb y x ≡ true). inl (eqb-true y x z)) (λ (z : member_of ns x ≡ true). inr z) (or_cases (eqb y x) (member_of ns x) e)

pub member-nil : (x : ℕ) → member_of [] x ≡ true → ⊥
unfolding member_of
member-nil x e = false≢true e

-- Ranks.
pub rank_below : (f : Names) (x y : ℕ) → f x ≡ true → x < y → rank f x < size_from y f
unfolding rank
rank_below f x y e h =
    let a = size_from-suc x f in
    let b = size_from-mono (suc x) y f h in
    let c : bit (f x) ≡ 1 = ap bit e in
    omega arith

pub rank-total : (f : Names) (x : ℕ) → f x ≡ true → x < name_count → rank f x < total f
unfolding total
rank-total f x e h = rank_below f x name_count e h

pub rank-differs : (f : Names) (x y : ℕ) → f x ≡ true → f y ≡ true → rank f x ≡ rank f y → x ≡ y
unfolding rank
rank-differs f x y e k h = go (dec_lt x y) (dec_lt y x)
  where
    size_is : (z : ℕ) → rank f z ≡ size_from z f
    size_is z = refl

    go : Dec (x < y) → Dec (y < x) → x ≡ y
    go (yes p) d = let a = rank_below f x y e p in let b = size_is y in absurd (omega arith)
    go (no p) (yes q) = let a = rank_below f y x k q in let b = size_is x in absurd (omega arith)
    go (no p) (no q) = omega arith

pub rank-onto : (f : Names) (k : ℕ) → k < total f → (x : ℕ) × (x < name_count) × (f x ≡ true) × (rank f x ≡ k)
unfolding total rank
rank-onto f k h = let m : Member name_count 0 k f = member_of_lem name_count 0 k f h in (m.place, m.inside, m.is-in, m.rank)

-- The members of a set as a list.
members-have : (k at : ℕ) (f : Names) (x : ℕ) → x < k → f x ≡ true → member_of (members_from k at f) (at + x) ≡ true
unfolding members_from
members-have zero at f x lt e = absurd (omega arith)
members-have (suc k) at f zero lt e =
    let z : at + 0 ≡ at = omega arith in
    rw (z, e) (member-head at (members_from k (suc at) (later f)))
members-have (suc k) at f (suc x) lt e =
    let z : at + suc x ≡ suc at + x = omega arith in
    rw z (go (f 0) (members-have k (suc at) (later f) x (omega arith) e))
  where
    go : (b : Bool) → member_of (members_from k (suc at) (later f)) (suc at + x) ≡ true → member_of (put b at (members_from k (suc at) (later f))) (suc at + x) ≡ true
    go true h = member-tail at (members_from k (suc at) (later f)) (suc at + x) h
    go false h = h

members_only : (k at : ℕ) (f : Names) (y : ℕ) → member_of (members_from k at f) y ≡ true → (x : ℕ) × (y ≡ at + x) × (x < k) × (f x ≡ true)
unfolding members_from
members_only zero at f y e = absurd (member-nil y e)
members_only (suc k) at f y e = go (f 0) refl e (λ h. members_only k (suc at) (later f) y h)
  where
    Found : Type 0
    Found = (x : ℕ) × (y ≡ at + x) × (x < suc k) × (f x ≡ true)

    later-found : (x : ℕ) × (y ≡ suc at + x) × (x < k) × (later f x ≡ true) → Found
    later-found (x, a, b, c) = (suc x, omega arith, omega arith, c)

    go : (b : Bool) → f 0 ≡ b → member_of (put b at (members_from k (suc at) (later f))) y ≡ true →
        (member_of (members_from k (suc at) (later f)) y ≡ true → (x : ℕ) × (y ≡ suc at + x) × (x < k) × (later f x ≡ true)) → Found
    go true z h ih = ⊎_elim (λ (w : at ≡ y). (0, omega arith, omega arith, z)) (λ (w : member_of (members_from k (suc at) (later f)) y ≡ true). later-found (ih w)) (member-cases at (members_from k (suc at) (later f)) y h)
    go false z h ih = later-found (ih h)

pub listed_has : (f : Names) (x : ℕ) → x < name_count → f x ≡ true → member_of (listed f) x ≡ true
unfolding listed
listed_has f x lt e = let z : 0 + x ≡ x = omega arith in subst (λ y. member_of (members_from name_count 0 f) y ≡ true) z (members-have name_count 0 f x lt e)

pub listed-only : (f : Names) (x : ℕ) → member_of (listed f) x ≡ true → f x ≡ true
unfolding listed
listed-only f x e =
    let m = members_only name_count 0 f x e in
    let z : m.0 ≡ x = omega (arith, m.1) in
    subst (λ y. f y ≡ true) z m.3

-- No name stands twice in it.
members-differ : (k at : ℕ) (f : Names) → at + k ≤ name_count → DifferentNames (members_from k at f)
unfolding members_from
members-differ zero at f le = tt
members-differ (suc k) at f le = go (f 0) (members-differ k (suc at) (later f) (omega arith))
  where
    fresh : (b : Bool) → member_of (members_from k (suc at) (later f)) at ≡ b → b ≡ false
    fresh true h = let m = members_only k (suc at) (later f) at h in absurd (omega (arith, m.1))
    fresh false h = refl

    go : (b : Bool) → DifferentNames (members_from k (suc at) (later f)) → DifferentNames (put b at (members_from k (suc at) (later f)))
    go true d = (omega arith, fresh (member_of (members_from k (suc at) (later f)) at) refl, d)
    go false d = d

pub listed-differ : (f : Names) → DifferentNames (listed f)
unfolding listed
listed-differ f = members-differ name_count 0 f (omega arith)
