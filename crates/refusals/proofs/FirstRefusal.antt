-- Laws of specs/FirstRefusal.antt, and what only they need.
use Rattle.std.specs.Prelude.{ℕ, ◌≤◌, ◌≡◌, refl, Bool, true, false, not, cond, ◌&&◌, ◌⊎◌, ◌≢◌, ◌↔◌, List, [], ◌∷◌, eqb}
use Rattle.std.proofs.Common.{ap, ◌∙◌, inl, inr, arith}
use Rattle.std.proofs.lemmas.Bool.{false≢true, eqb-false}
use Rattle.formula.specs.declared.Refusal.{Refusal}
use Rattle.formula.specs.Refusals.{number_of}
use Rattle.formula.proofs.Refusals.{number-positive}
use Rattle.refusals.specs.FirstRefusal.{Row, first-refusal, Named, Among, numbers, NoneHolds, FirstHolds, lacks}

none_first : (cs : List Row) → first-refusal cs ≡ 0 → NoneHolds cs
unfolding first-refusal
none_first [] e = tt
none_first (c ∷ cs) e = go c.0 refl e (none_first cs)
  where
    go : (b : Bool) → c.0 ≡ b → cond b (number_of c.1) (first-refusal cs) ≡ 0 → (first-refusal cs ≡ 0 → NoneHolds cs) → (c.0 ≡ false) × NoneHolds cs
    go true p h ih = absurd (omega (arith, number-positive c.1))
    go false p h ih = (p, ih h)

first-none : (cs : List Row) → NoneHolds cs → first-refusal cs ≡ 0
unfolding first-refusal
first-none [] h = refl
first-none (c ∷ cs) h = ap (λ (b : Bool). cond b (number_of c.1) (first-refusal cs)) h.0 ∙ first-none cs h.1

-- Accepted exactly where no condition holds.
pub accepted-exactly : (cs : List Row) → (first-refusal cs ≡ 0) ↔ NoneHolds cs
accepted-exactly cs = (none_first cs, first-none cs)

first_holds : (cs : List Row) (n : ℕ) → 1 ≤ n → first-refusal cs ≡ n → FirstHolds n cs
unfolding first-refusal
first_holds [] n p e = absurd (omega arith)
first_holds (c ∷ cs) n p e = go c.0 refl e (first_holds cs n p)
  where
    go : (b : Bool) → c.0 ≡ b → cond b (number_of c.1) (first-refusal cs) ≡ n → (first-refusal cs ≡ n → FirstHolds n cs) → FirstHolds n (c ∷ cs)
    go true q h ih = inl (q, h)
    go false q h ih = inr (q, ih h)

holds-first : (cs : List Row) (n : ℕ) → FirstHolds n cs → first-refusal cs ≡ n
unfolding first-refusal
holds-first [] n h = absurd h
holds-first (c ∷ cs) n (inl (t, e)) = ap (λ (b : Bool). cond b (number_of c.1) (first-refusal cs)) t ∙ e
holds-first (c ∷ cs) n (inr (f, h)) = ap (λ (b : Bool). cond b (number_of c.1) (first-refusal cs)) f ∙ holds-first cs n h

-- Refused with a number exactly where its condition is the first that holds.
pub refused-exactly : (cs : List Row) (r : Refusal) → (first-refusal cs ≡ number_of r) ↔ FirstHolds (number_of r) cs
refused-exactly cs r = (first_holds cs (number_of r) (number-positive r), holds-first cs (number_of r))

-- A refusal's number is one of the table's, and one of document 01's.
pub first-among : (cs : List Row) → first-refusal cs ≢ 0 → Among (first-refusal cs) (numbers cs)
unfolding first-refusal
first-among [] n = absurd (n refl)
first-among (c ∷ cs) n = go c.0 refl n (first-among cs)
  where
    go : (b : Bool) → c.0 ≡ b → cond b (number_of c.1) (first-refusal cs) ≢ 0 → (first-refusal cs ≢ 0 → Among (first-refusal cs) (numbers cs))
        → Among (cond b (number_of c.1) (first-refusal cs)) (number_of c.1 ∷ numbers cs)
    go true p h ih = inl refl
    go false p h ih = inr (ih h)

pub not-among : (n : ℕ) (ks : List ℕ) → lacks n ks ≡ true → Among n ks → ⊥
not-among n [] h a = a
not-among n (k ∷ ks) h a = go (eqb n k) refl h a (not-among n ks)
  where
    go : (b : Bool) → eqb n k ≡ b → not b && lacks n ks ≡ true → (n ≡ k) ⊎ Among n ks → (lacks n ks ≡ true → Among n ks → ⊥) → ⊥
    go true e h a ih = false≢true h
    go false e h (inl p) ih = eqb-false n k e p
    go false e h (inr p) ih = ih h p

pub first-named : (cs : List Row) → first-refusal cs ≢ 0 → Named (first-refusal cs)
unfolding first-refusal
first-named [] n = absurd (n refl)
first-named (c ∷ cs) n = go c.0 refl n (first-named cs)
  where
    go : (b : Bool) → c.0 ≡ b → cond b (number_of c.1) (first-refusal cs) ≢ 0 → (first-refusal cs ≢ 0 → Named (first-refusal cs))
        → Named (cond b (number_of c.1) (first-refusal cs))
    go true p h ih = (c.1, refl)
    go false p h ih = ih h
