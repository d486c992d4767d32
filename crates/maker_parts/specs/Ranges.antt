-- The identifiers a to a + b - 1 as a mask, a set and a list (document 01: "identifiers a to a+b-1"). Assumes nothing.
use Rattle.std.specs.Prelude.{ℕ, zero, suc, ◌+◌, ◌-◌, ◌*◌, ◌^◌, ◌≤◌, ◌<◌, ◌≡◌, refl, Bool, true, false, ◌&&◌, List, ◌∷◌, leb, ltb}
use Rattle.std.proofs.Common.{sym, ap, ap₂, ◌∙◌, le-leb, lt-ltb, le-ltb, leb-true, arith}
use Rattle.std.proofs.lemmas.Bool.{lt-leb}
use Rattle.std.proofs.Math.Decide.{dec_lt}
use Rattle.names.specs.Names.{Names, range, members, members_from, later, put}
use Rattle.names.proofs.Sets.{mask-range}
use Rattle.names.proofs.Walk.{members_from-none}
use Rattle.graph.specs.Assembly.{up_from}
use Rattle.maker_laid.specs.Masked.{list_of, Mask, list-is}

range-below : (a b k : ℕ) → k < a → range a b k ≡ false
range-below a b k h = ap (λ (t : Bool). t && ltb k (a + b)) (lt-leb a k h)

range_at : (a b : ℕ) → range a (suc b) a ≡ true
range_at a b = ap₂ (λ (s t : Bool). s && t) (le-leb a a (omega arith)) (lt-ltb a (a + suc b) (omega arith))

range_none : (a k : ℕ) → range a 0 k ≡ false
range_none a k = go (leb a k) refl
  where
    go : (t : Bool) → leb a k ≡ t → t && ltb k (a + 0) ≡ false
    go true e = let h : a ≤ k = leb-true a k e in le-ltb k (a + 0) (omega arith)
    go false e = refl

range-later : (a b k : ℕ) → suc a ≤ k → range a (suc b) k ≡ range (suc a) b k
range-later a b k h =
    let z : a + suc b ≡ suc a + b = omega arith in
    ap₂ (λ (s t : Bool). s && t) (le-leb a k (omega arith) ∙ sym (le-leb (suc a) k h)) (ap (ltb k) z)

up-members : (n at a b : ℕ) (f : Names) → at ≤ a → a + b ≤ at + n → ((i : ℕ) → i < n → f i ≡ range a b (at + i)) → members_from n at f ≡ up_from a b
unfolding members_from up_from
up-members zero at a zero f l h e = refl
up-members zero at a (suc b) f l h e = absurd (omega arith)
up-members (suc n) at a zero f l h e = members_from-none (suc n) at f (λ i j. e i j ∙ range_none a (at + i))
up-members (suc n) at a (suc b) f l h e =
    go (dec_lt at a) (λ p. up-members n (suc at) a (suc b) (later f) p (omega arith) (λ i j. e (suc i) (omega arith) ∙ ap (range a (suc b)) (step i)))
    (λ p. up-members n (suc at) (suc a) b (later f) (omega arith) (omega arith) (λ i j. e (suc i) (omega arith) ∙ ap (range a (suc b)) (step i) ∙ range-later a b (suc at + i) (omega arith)))
  where
    first : f 0 ≡ range a (suc b) at
    first = e 0 (omega arith) ∙ ap (range a (suc b)) (omega arith)

    step : (i : ℕ) → at + suc i ≡ suc at + i
    step i = omega arith

    go : Dec (at < a) → (suc at ≤ a → members_from n (suc at) (later f) ≡ a ∷ up_from (suc a) b) → (at ≡ a → members_from n (suc at) (later f) ≡ up_from (suc a) b)
        → put (f 0) at (members_from n (suc at) (later f)) ≡ a ∷ up_from (suc a) b
    go (yes p) u v = ap (λ (t : Bool). put t at (members_from n (suc at) (later f))) (first ∙ range-below a (suc b) at p) ∙ u (omega arith)
    go (no p) u v =
        let q : at ≡ a = omega arith in
        ap (λ (t : Bool). put t at (members_from n (suc at) (later f))) (first ∙ ap (range a (suc b)) q ∙ range_at a b)
        ∙ ap₂ (λ (x : ℕ) (xs : List ℕ). x ∷ xs) q (v q)

pub list-range : (a b k : ℕ) → a + b ≤ 33 → k ≡ 2 ^ a * (2 ^ b - 1) → list_of k ≡ up_from a b
unfolding members
list-range a b k h e =
    list-is k (range a b) (e ∙ sym (mask-range a b h)) ∙ up-members 33 0 a b (range a b) (omega arith) (omega arith) (λ i j. ap (range a b) (omega arith))

pub mask-of-range : (a b k : ℕ) → a + b ≤ 33 → k ≡ 2 ^ a * (2 ^ b - 1) → Mask k
mask-of-range a b k h e = record { set = range a b; is = e ∙ sym (mask-range a b h) }
