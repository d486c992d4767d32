-- Laws of specs/Ordered.antt, and what only they need.
use Rattle.std.specs.Prelude.{ℕ, zero, suc, ◌<◌, ◌≡◌, refl, ◌⊎◌, Bool, cond, length, get_or}
use Rattle.std.proofs.Common.{sym, subst, inl, inr, arith}
use Rattle.std.proofs.Math.Bool.{true, false}
use mathlib.Core.List.{List, [], ◌∷◌, ◌++◌, map}
use Rattle.std.proofs.Math.Decide.{dec_lt}
use Rattle.formula.specs.FaultRows.{Among}
use Rattle.sheet_listed.specs.Small.{filtered, each}
use Rattle.sheet_listed.proofs.Lists.{among-either, filtered-among, map-among, each-among}
use Rattle.sheet_listed.specs.Ordered.{Ordered}

pub at-among : {A : Type 0} (d : A) (l : List A) (i : ℕ) → i < length l → Among (get_or l i d) l
at-among d [] i h = absurd (omega arith)
at-among d (x ∷ l) zero h = inl refl
at-among d (x ∷ l) (suc i) h = inr (at-among d l i (omega arith))

pub among-at : {A : Type 0} (d x : A) (l : List A) → Among x l → (i : ℕ) × (i < length l) × (get_or l i d ≡ x)
among-at d x [] a = absurd a
among-at d x (y ∷ l) (inl e) = (0, omega arith, sym e)
among-at d x (y ∷ l) (inr a) = let k = among-at d x l a in (suc k.0, omega (arith, k.1), k.2)

module _ {A : Type 0} (R : A → A → Type 0) where
  pub ordered-append : (l m : List A) → Ordered R l → Ordered R m → ((x y : A) → Among x l → Among y m → R x y) → Ordered R (l ++ m)
  ordered-append [] m h i k = i
  ordered-append (x ∷ l) m h i k = (first, ordered-append l m h.1 i (λ y z a b. k y z (inr a) b))
    where
      pick : (y : A) → Among y l ⊎ Among y m → R x y
      pick y (inl a) = h.0 y a
      pick y (inr a) = k x y (inl refl) a

      first : (y : A) → Among y (l ++ m) → R x y
      first y a = pick y (among-either y l m a)

  pub ordered-filtered : (p : A → Bool) (l : List A) → Ordered R l → Ordered R (filtered p l)
  unfolding filtered
  ordered-filtered p [] h = tt
  ordered-filtered p (x ∷ l) h = go (p x) (ordered-filtered p l h.1)
    where
      go : (b : Bool) → Ordered R (filtered p l) → Ordered R (cond b (x ∷ filtered p l) (filtered p l))
      go true ih = (λ y a. h.0 y (filtered-among p y l a).0, ih)
      go false ih = ih

  -- The earlier of two entries comes before the later.
  pub ordered_at : (d : A) (l : List A) → Ordered R l → (i j : ℕ) → i < j → j < length l → R (get_or l i d) (get_or l j d)
  ordered_at d [] h i j u v = absurd (omega arith)
  ordered_at d (x ∷ l) h i zero u v = absurd (omega arith)
  ordered_at d (x ∷ l) h zero (suc j) u v = h.0 (get_or l j d) (at-among d l j (omega arith))
  ordered_at d (x ∷ l) h (suc i) (suc j) u v = ordered_at d l h.1 i j (omega arith) (omega arith)

  -- Where nothing comes before itself, equal entries have one position.
  pub ordered-once : ((x : A) → R x x → ⊥) → (d : A) (l : List A) → Ordered R l → (i j : ℕ) → i < length l → j < length l → get_or l i d ≡ get_or l j d → i ≡ j
  ordered-once irreflexive d l h i j u v e = go (dec_lt i j) (dec_lt j i)
    where
      go : Dec (i < j) → Dec (j < i) → i ≡ j
      go (yes a) b = absurd (irreflexive (get_or l j d) (subst (λ (x : A). R x (get_or l j d)) e (ordered_at d l h i j a v)))
      go (no a) (yes b) = absurd (irreflexive (get_or l j d) (subst (R (get_or l j d)) e (ordered_at d l h j i b u)))
      go (no a) (no b) = omega arith

pub ordered-weaken : {A : Type 0} (R S : A → A → Type 0) (l : List A) → ((x y : A) → Among x l → Among y l → R x y → S x y) → Ordered R l → Ordered S l
ordered-weaken R S [] k h = tt
ordered-weaken R S (x ∷ l) k h = (λ y a. k x y (inl refl) (inr a) (h.0 y a), ordered-weaken R S l (λ y z a b. k y z (inr a) (inr b)) h.1)

module _ {A B : Type 0} (R : A → A → Type 0) (S : B → B → Type 0) where
  pub ordered-map : (f : A → B) (l : List A) → ((x y : A) → Among x l → Among y l → R x y → S (f x) (f y)) → Ordered R l → Ordered S (map f l)
  ordered-map f [] k h = tt
  ordered-map f (x ∷ l) k h =
      (map-among f (S (f x)) l (λ y a. k x y (inl refl) (inr a) (h.0 y a)), ordered-map f l (λ y z a b. k y z (inr a) (inr b)) h.1)

  -- Parts that are ordered, one for each of an ordered list.
  pub ordered-each : (f : A → List B) (l : List A) → Ordered R l → ((x : A) → Among x l → Ordered S (f x))
      → ((x y : A) → Among x l → Among y l → R x y → (u v : B) → Among u (f x) → Among v (f y) → S u v) → Ordered S (each f l)
  unfolding each
  ordered-each f [] h i k = tt
  ordered-each f (x ∷ l) h i k =
      ordered-append S (f x) (each f l) (i x (inl refl)) (ordered-each f l h.1 (λ y a. i y (inr a)) (λ y z a b. k y z (inr a) (inr b)))
      (λ u v a b. each-among f (S u) l (λ y c w e. k x y (inl refl) (inr c) (h.0 y c) u w a e) v b)
