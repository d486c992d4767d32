-- Laws of `filtered`, `each` and `count_from`: what is among the entries of such a list. Assumes nothing.
use Rattle.std.specs.Prelude.{ℕ, zero, suc, ◌+◌, ◌≤◌, ◌<◌, ◌≡◌, ◌⊎◌, Bool, cond}
use Rattle.std.proofs.Math.Path.{refl, ap}
use Rattle.std.proofs.Common.{sym, subst, ◌∙◌, inl, arith}
use Rattle.std.proofs.Math.Logic.{inr}
use Rattle.std.proofs.Math.Bool.{true, false}
use mathlib.Core.List.{List, [], ◌∷◌, ◌++◌, map}
use Rattle.std.proofs.Math.Decide.{ℕ_discrete}
use Rattle.formula.specs.FaultRows.{Among}
use Rattle.sheet_listed.specs.Small.{filtered, each, count_from}

module _ {A : Type 0} where
  pub among-left : (x : A) (l m : List A) → Among x l → Among x (l ++ m)
  among-left x [] m h = absurd h
  among-left x (y ∷ l) m (inl e) = inl e
  among-left x (y ∷ l) m (inr h) = inr (among-left x l m h)

  pub among-right : (x : A) (l m : List A) → Among x m → Among x (l ++ m)
  among-right x [] m h = h
  among-right x (y ∷ l) m h = inr (among-right x l m h)

  pub among-either : (x : A) (l m : List A) → Among x (l ++ m) → Among x l ⊎ Among x m
  among-either x [] m h = inr h
  among-either x (y ∷ l) m (inl e) = inl (inl e)
  among-either x (y ∷ l) m (inr h) = go (among-either x l m h)
    where
      go : Among x l ⊎ Among x m → ((x ≡ y) ⊎ Among x l) ⊎ Among x m
      go (inl a) = inl (inr a)
      go (inr a) = inr a

module _ {A : Type 0} (p : A → Bool) where
  pub among-filtered : (x : A) (l : List A) → Among x l → p x ≡ true → Among x (filtered p l)
  unfolding filtered
  among-filtered x [] h t = absurd h
  among-filtered x (y ∷ l) (inl e) t = rw (sym (ap p e) ∙ t) (inl e)
  among-filtered x (y ∷ l) (inr h) t = go (p y) (among-filtered x l h t)
    where
      go : (b : Bool) → Among x (filtered p l) → Among x (cond b (y ∷ filtered p l) (filtered p l))
      go true i = inr i
      go false i = i

  pub filtered-among : (x : A) (l : List A) → Among x (filtered p l) → Among x l × (p x ≡ true)
  unfolding filtered
  filtered-among x [] h = absurd h
  filtered-among x (y ∷ l) h = go (p y) refl h (filtered-among x l)
    where
      go : (b : Bool) → p y ≡ b → Among x (cond b (y ∷ filtered p l) (filtered p l)) → (Among x (filtered p l) → Among x l × (p x ≡ true))
          → ((x ≡ y) ⊎ Among x l) × (p x ≡ true)
      go true e (inl i) ih = (inl i, ap p i ∙ e)
      go true e (inr i) ih = let k = ih i in (inr k.0, k.1)
      go false e i ih = let k = ih i in (inr k.0, k.1)

module _ {A B : Type 0} (f : A → B) where
  pub among-map : (x : A) (l : List A) → Among x l → Among (f x) (map f l)
  among-map x [] h = absurd h
  among-map x (y ∷ l) (inl e) = inl (ap f e)
  among-map x (y ∷ l) (inr h) = inr (among-map x l h)

  -- What holds of each image holds of what is among them.
  pub map-among : (P : B → Type 0) (l : List A) → ((x : A) → Among x l → P (f x)) → (y : B) → Among y (map f l) → P y
  map-among P [] h y a = absurd a
  map-among P (x ∷ l) h y (inl e) = subst P (sym e) (h x (inl refl))
  map-among P (x ∷ l) h y (inr a) = map-among P l (λ z i. h z (inr i)) y a

module _ {A B : Type 0} (f : A → List B) where
  pub among-each : (x : A) (l : List A) (y : B) → Among x l → Among y (f x) → Among y (each f l)
  unfolding each
  among-each x [] y h a = absurd h
  among-each x (z ∷ l) y (inl e) a = among-left y (f z) (each f l) (subst (λ (u : A). Among y (f u)) e a)
  among-each x (z ∷ l) y (inr h) a = among-right y (f z) (each f l) (among-each x l y h a)

  pub each-among : (P : B → Type 0) (l : List A) → ((x : A) → Among x l → (y : B) → Among y (f x) → P y) → (y : B) → Among y (each f l) → P y
  unfolding each
  each-among P [] h y a = absurd a
  each-among P (x ∷ l) h y a = go (among-either y (f x) (each f l) a) (each-among P l (λ z i. h z (inr i)) y)
    where
      go : Among y (f x) ⊎ Among y (each f l) → (Among y (each f l) → P y) → P y
      go (inl i) ih = h x (inl refl) y i
      go (inr i) ih = ih i

pub among-counted : (x a n : ℕ) → a ≤ x → x < a + n → Among x (count_from a n)
unfolding count_from
among-counted x a zero h i = absurd (omega arith)
among-counted x a (suc n) h i = go (ℕ_discrete x a) (among-counted x (suc a) n)
  where
    go : Dec (x ≡ a) → (suc a ≤ x → x < suc a + n → Among x (count_from (suc a) n)) → (x ≡ a) ⊎ Among x (count_from (suc a) n)
    go (yes e) ih = inl e
    go (no e) ih = inr (ih (omega arith) (omega arith))

pub counted-among : (x a n : ℕ) → Among x (count_from a n) → (a ≤ x) × (x < a + n)
unfolding count_from
counted-among x a zero h = absurd h
counted-among x a (suc n) (inl e) = (omega arith, omega arith)
counted-among x a (suc n) (inr h) = let i = counted-among x (suc a) n h in (omega (arith, i.0), omega (arith, i.1))
