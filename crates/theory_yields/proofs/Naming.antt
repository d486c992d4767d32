-- Laws of specs/Naming.antt, and what only they need.
use Rattle.std.specs.Prelude.{ℕ, zero, suc, ◌+◌, ◌≤◌, ◌<◌, ◌≡◌, refl, Bool, true, false, ◌&&◌, ◌||◌, List, [], ◌∷◌, ◌++◌, length, eqb, leb, ltb}
use Rattle.std.proofs.Common.{sym, ap, ◌∙◌, eq-eqb, ne_eqb, leb-true, leb-false, ltb-true, ltb-false, arith}
use Rattle.std.proofs.lemmas.Bool.{false≢true, eqb-false}
use Rattle.names.specs.Names.{Names, range, later, put, members, members_from}
use Rattle.graph.specs.Assembly.{member_of, up_from, name_count}
use Rattle.graph.specs.Fit.{Different}
use Rattle.theory_yields.specs.Naming.{Apart, Small}

-- ---- truths
pub or-true : (a b : Bool) → a || b ≡ true → (a ≡ false → b ≡ true)
or-true true b h n = absurd (false≢true (sym n))
or-true false b h n = h

pub or-false : (a b : Bool) → a ≡ false → b ≡ false → a || b ≡ false
or-false a b p q = rw (p, q) refl

pub or_right : (a b : Bool) → b ≡ true → a || b ≡ true
or_right true b h = refl
or_right false b h = h

pub or_left : (a b : Bool) → a ≡ true → a || b ≡ true
or_left a b h = rw h refl

pub or-neither : (a b : Bool) → a || b ≡ false → (a ≡ false) × (b ≡ false)
or-neither true b h = absurd (false≢true (sym h))
or-neither false b h = (refl, h)

-- ---- a stretch of names
pub length-up_from : (a b : ℕ) → length (up_from a b) ≡ b
unfolding up_from
length-up_from a zero = refl
length-up_from a (suc b) = ap suc (length-up_from (suc a) b)

pub within-up_from : (a b k : ℕ) → a ≤ k → k < a + b → member_of (up_from a b) k ≡ true
unfolding up_from member_of
within-up_from a zero k p q = absurd (omega arith)
within-up_from a (suc b) k p q = go (eqb a k) refl (λ h. within-up_from (suc a) b k h (omega arith))
  where
    go : (e : Bool) → eqb a k ≡ e → (suc a ≤ k → member_of (up_from (suc a) b) k ≡ true) → e || member_of (up_from (suc a) b) k ≡ true
    go true e ih = refl
    go false e ih = ih (omega (arith, p, eqb-false a k e))

pub below-up_from : (a b k : ℕ) → k < a → member_of (up_from a b) k ≡ false
unfolding up_from member_of
below-up_from a zero k p = refl
below-up_from a (suc b) k p =
    or-false (eqb a k) (member_of (up_from (suc a) b) k) (ne_eqb a k (λ e. omega arith)) (below-up_from (suc a) b k (omega arith))

pub above-up_from : (a b k : ℕ) → a + b ≤ k → member_of (up_from a b) k ≡ false
unfolding up_from member_of
above-up_from a zero k p = refl
above-up_from a (suc b) k p =
    or-false (eqb a k) (member_of (up_from (suc a) b) k) (ne_eqb a k (λ e. omega arith)) (above-up_from (suc a) b k (omega arith))

pub member-up_from : (a b k : ℕ) → member_of (up_from a b) k ≡ range a b k
member-up_from a b k = go (leb a k) refl (ltb k (a + b)) refl
  where
    go : (s : Bool) → leb a k ≡ s → (t : Bool) → ltb k (a + b) ≡ t → member_of (up_from a b) k ≡ s && t
    go false p t q = below-up_from a b k (leb-false a k p)
    go true p true q = within-up_from a b k (leb-true a k p) (ltb-true k (a + b) q)
    go true p false q = above-up_from a b k (ltb-false k (a + b) q)

pub up_from-holds : (a b k : ℕ) → member_of (up_from a b) k ≡ true → (a ≤ k) × (k < a + b)
up_from-holds a b k h = go (leb a k) refl (ltb k (a + b)) refl
  where
    go : (s : Bool) → leb a k ≡ s → (t : Bool) → ltb k (a + b) ≡ t → (a ≤ k) × (k < a + b)
    go false p t q = absurd (false≢true (sym (below-up_from a b k (leb-false a k p)) ∙ h))
    go true p true q = (leb-true a k p, ltb-true k (a + b) q)
    go true p false q = absurd (false≢true (sym (above-up_from a b k (ltb-false k (a + b) q)) ∙ h))

pub different-up_from : (a b : ℕ) → a + b ≤ name_count → Different (up_from a b)
unfolding up_from
different-up_from a zero h = tt
different-up_from a (suc b) h = (omega arith, below-up_from (suc a) b a (omega arith), different-up_from (suc a) b (omega arith))

-- ---- two lists
pub member-append : (xs ys : List ℕ) (k : ℕ) → member_of (xs ++ ys) k ≡ member_of xs k || member_of ys k
unfolding member_of
member-append [] ys k = refl
member-append (x ∷ xs) ys k = go (eqb x k) (member-append xs ys k)
  where
    go : (e : Bool) → member_of (xs ++ ys) k ≡ member_of xs k || member_of ys k
        → e || member_of (xs ++ ys) k ≡ (e || member_of xs k) || member_of ys k
    go true ih = refl
    go false ih = ih

pub different-append : (xs ys : List ℕ) → Different xs → Different ys → Apart xs ys → Different (xs ++ ys)
unfolding member_of
different-append [] ys p q a = q
different-append (x ∷ xs) ys p q a = (
  p.0,
  member-append xs ys x ∙ or-false (member_of xs x) (member_of ys x) p.1 (a x (or_left (eqb x x) (member_of xs x) (eq-eqb x x refl))),
  different-append xs ys p.2 q (λ k h. a k (or_right (eqb x k) (member_of xs k) h)),
)

-- ---- the members of a set
member-put : (b : Bool) (x : ℕ) (l : List ℕ) (k : ℕ) → member_of (put b x l) k ≡ (b && eqb x k) || member_of l k
unfolding member_of
member-put true x l k = refl
member-put false x l k = refl

before-members : (n at k : ℕ) (f : Names) → k < at → member_of (members_from n at f) k ≡ false
unfolding members_from member_of
before-members zero at k f h = refl
before-members (suc n) at k f h =
    member-put (f 0) at (members_from n (suc at) (later f)) k
    ∙ or-false (f 0 && eqb at k) _ (go (f 0) (ne_eqb at k (λ e. omega arith))) (before-members n (suc at) k (later f) (omega arith))
  where
    go : (b : Bool) → eqb at k ≡ false → b && eqb at k ≡ false
    go true e = e
    go false e = refl

behind-members : (n at k : ℕ) (f : Names) → at + n ≤ k → member_of (members_from n at f) k ≡ false
unfolding members_from member_of
behind-members zero at k f h = refl
behind-members (suc n) at k f h =
    member-put (f 0) at (members_from n (suc at) (later f)) k
    ∙ or-false (f 0 && eqb at k) _ (go (f 0) (ne_eqb at k (λ e. omega arith))) (behind-members n (suc at) k (later f) (omega arith))
  where
    go : (b : Bool) → eqb at k ≡ false → b && eqb at k ≡ false
    go true e = e
    go false e = refl

among-members : (n at x : ℕ) (f : Names) → x < n → member_of (members_from n at f) (at + x) ≡ f x
unfolding members_from member_of
among-members zero at x f h = absurd (omega arith)
among-members (suc n) at zero f h =
    member-put (f 0) at (members_from n (suc at) (later f)) (at + 0)
    ∙ rw (eq-eqb at (at + 0) (omega arith), before-members n (suc at) (at + 0) (later f) (omega arith)) (go (f 0))
  where
    go : (b : Bool) → (b && true) || false ≡ b
    go true = refl
    go false = refl
among-members (suc n) at (suc x) f h =
    let e : at + suc x ≡ suc at + x = omega arith in
    member-put (f 0) at (members_from n (suc at) (later f)) (at + suc x)
    ∙ go (f 0) (ne_eqb at (at + suc x) (λ e. omega arith))
    ∙ ap (member_of (members_from n (suc at) (later f))) e
    ∙ among-members n (suc at) x (later f) (omega arith)
  where
    go : (b : Bool) → eqb at (at + suc x) ≡ false
        → (b && eqb at (at + suc x)) || member_of (members_from n (suc at) (later f)) (at + suc x)
        ≡ member_of (members_from n (suc at) (later f)) (at + suc x)
    go true e = rw e refl
    go false e = refl

pub member-members : (f : Names) → Small f → (k : ℕ) → member_of (members f) k ≡ f k
unfolding members
member-members f s k = go (ltb k 33) refl
  where
    go : (t : Bool) → ltb k 33 ≡ t → member_of (members_from 33 0 f) k ≡ f k
    go true e =
        let z : 0 + k ≡ k = omega arith in
        ap (member_of (members_from 33 0 f)) (sym z) ∙ among-members 33 0 k f (ltb-true k 33 e)
    go false e = behind-members 33 0 k f (omega (arith, ltb-false k 33 e)) ∙ sym (s k (ltb-false k 33 e))

different-put : (b : Bool) (x : ℕ) (l : List ℕ) → x < name_count → member_of l x ≡ false → Different l → Different (put b x l)
different-put true x l p q r = (p, q, r)
different-put false x l p q r = r

different-members_from : (n at : ℕ) (f : Names) → at + n ≤ name_count → Different (members_from n at f)
unfolding members_from
different-members_from zero at f h = tt
different-members_from (suc n) at f h =
    different-put (f 0) at (members_from n (suc at) (later f)) (omega arith) (before-members n (suc at) at (later f) (omega arith))
    (different-members_from n (suc at) (later f) (omega arith))

pub different-members : (f : Names) → Different (members f)
unfolding members
different-members f = different-members_from 33 0 f (omega arith)
