-- Laws of specs/Orders.antt, and what only they need.
use Rattle.std.specs.Prelude.{ℕ, ◌*◌, ◌<◌, ◌≡◌, refl, ◌⊎◌, Bool, true, false, ◌&&◌, ◌||◌, List, [], ◌∷◌, ◌++◌, eqb, ltb, length}
use Rattle.std.proofs.Common.{sym, ap, ◌∙◌, inl, inr, eqb-true, eq-eqb, ltb-true, lt-ltb, le-ltb, arith}
use Rattle.std.proofs.lemmas.Bool.{false≢true}
use Rattle.std.proofs.Math.Decide.{dec_lt}
use Rattle.formula.specs.Sheet.{row_count}
use Rattle.formula.proofs.TreeLaws.{and-true}
use Rattle.sheet_listed.specs.Small.{rises, precedes}
use Rattle.sheet_listed.specs.Orders.{less_then}

less-first : (x y : ℕ) (later : Bool) → x < y → less_then x y later ≡ true
less-first x y later h = rw (lt-ltb x y h) refl

equal-first : (x y : ℕ) (later : Bool) → x ≡ y → later ≡ true → less_then x y later ≡ true
equal-first x y later e h = rw (le-ltb x y (omega arith), eq-eqb x y e, h) refl

first-which : (x y : ℕ) (later : Bool) → less_then x y later ≡ true → (x < y) ⊎ ((x ≡ y) × (later ≡ true))
first-which x y later h = go (ltb x y) refl h
  where
    go : (b : Bool) → ltb x y ≡ b → b || (eqb x y && later) ≡ true → (x < y) ⊎ ((x ≡ y) × (later ≡ true))
    go true e i = inl (ltb-true x y e)
    go false e i = let k = and-true (eqb x y) later i in inr (eqb-true x y k.0, k.1)

first-self : (x : ℕ) (later : Bool) → later ≡ false → less_then x x later ≡ false
first-self x later h = rw (le-ltb x x (omega arith), eq-eqb x x refl, h) refl

first-trans : (x y z : ℕ) (p q r : Bool) → (p ≡ true → q ≡ true → r ≡ true) → less_then x y p ≡ true → less_then y z q ≡ true → less_then x z r ≡ true
first-trans x y z p q r h i j = go (first-which x y p i) (first-which y z q j)
  where
    go : (x < y) ⊎ ((x ≡ y) × (p ≡ true)) → (y < z) ⊎ ((y ≡ z) × (q ≡ true)) → less_then x z r ≡ true
    go (inl a) (inl b) = less-first x z r (omega arith)
    go (inl a) (inr b) = less-first x z r (omega (arith, b.0))
    go (inr a) (inl b) = less-first x z r (omega (arith, a.0))
    go (inr a) (inr b) = equal-first x z r (a.0 ∙ b.0) (h a.1 b.1)

-- ---- rising bytes
pub rises-self : (s : List ℕ) → rises s s ≡ false
unfolding rises
rises-self [] = refl
rises-self (x ∷ s) = first-self x (rises s s) (rises-self s)

pub rises-trans : (s u w : List ℕ) → rises s u ≡ true → rises u w ≡ true → rises s w ≡ true
unfolding rises
rises-trans [] u w h i = absurd (false≢true h)
rises-trans (x ∷ s) [] w h i = absurd (false≢true h)
rises-trans (x ∷ s) (y ∷ u) [] h i = absurd (false≢true i)
rises-trans (x ∷ s) (y ∷ u) (z ∷ w) h i = first-trans x y z (rises s u) (rises u w) (rises s w) (rises-trans s u w) h i

-- A difference decides whatever stands behind it.
pub rises-front : (s u p q : List ℕ) → rises s u ≡ true → rises (s ++ p) (u ++ q) ≡ true
unfolding rises
rises-front [] u p q h = absurd (false≢true h)
rises-front (x ∷ s) [] p q h = absurd (false≢true h)
rises-front (x ∷ s) (y ∷ u) p q h = go (first-which x y (rises s u) h) (rises-front s u p q)
  where
    go : (x < y) ⊎ ((x ≡ y) × (rises s u ≡ true)) → (rises s u ≡ true → rises (s ++ p) (u ++ q) ≡ true) → less_then x y (rises (s ++ p) (u ++ q)) ≡ true
    go (inl a) ih = less-first x y (rises (s ++ p) (u ++ q)) a
    go (inr a) ih = equal-first x y (rises (s ++ p) (u ++ q)) a.0 (ih a.1)

-- Behind the same front the rest decides.
pub rises-behind : (s p q : List ℕ) → rises p q ≡ true → rises (s ++ p) (s ++ q) ≡ true
unfolding rises
rises-behind [] p q h = h
rises-behind (x ∷ s) p q h = equal-first x x (rises (s ++ p) (s ++ q)) refl (rises-behind s p q h)

pub rises-total : (s u : List ℕ) → length s ≡ length u → (s ≡ u) ⊎ ((rises s u ≡ true) ⊎ (rises u s ≡ true))
unfolding rises
rises-total [] [] e = inl refl
rises-total [] (y ∷ u) e = absurd (omega arith)
rises-total (x ∷ s) [] e = absurd (omega arith)
rises-total (x ∷ s) (y ∷ u) e = go (dec_lt x y) (dec_lt y x) (rises-total s u (omega arith))
  where
    go : Dec (x < y) → Dec (y < x) → (s ≡ u) ⊎ ((rises s u ≡ true) ⊎ (rises u s ≡ true))
        → (x ∷ s ≡ y ∷ u) ⊎ ((less_then x y (rises s u) ≡ true) ⊎ (less_then y x (rises u s) ≡ true))
    go (yes a) b ih = inr (inl (less-first x y (rises s u) a))
    go (no a) (yes b) ih = inr (inr (less-first y x (rises u s) b))
    go (no a) (no b) (inl p) = let q : x ≡ y = omega arith in inl (cc (p, q))
    go (no a) (no b) (inr (inl p)) = inr (inl (equal-first x y (rises s u) (omega arith) p))
    go (no a) (no b) (inr (inr p)) = inr (inr (equal-first y x (rises u s) (omega arith) p))

-- ---- sheets
pub precedes-self : (s : List ℕ) → precedes s s ≡ false
unfolding precedes
precedes-self s = first-self (row_count s) (rises s s) (rises-self s)

pub precedes-trans : (s u w : List ℕ) → precedes s u ≡ true → precedes u w ≡ true → precedes s w ≡ true
unfolding precedes
precedes-trans s u w h i = first-trans (row_count s) (row_count u) (row_count w) (rises s u) (rises u w) (rises s w) (rises-trans s u w) h i

-- No two precede each other.
pub precedes-once : (s u : List ℕ) → precedes s u ≡ true → precedes u s ≡ true → ⊥
precedes-once s u h i = false≢true (sym (precedes-self s) ∙ precedes-trans s u s h i)

pub fewer-precedes : (s u : List ℕ) → row_count s < row_count u → precedes s u ≡ true
unfolding precedes
fewer-precedes s u h = less-first (row_count s) (row_count u) (rises s u) h

pub rising-precedes : (s u : List ℕ) → row_count s ≡ row_count u → rises s u ≡ true → precedes s u ≡ true
unfolding precedes
rising-precedes s u e h = equal-first (row_count s) (row_count u) (rises s u) e h

rises-nothing : (s : List ℕ) → rises s [] ≡ false
unfolding rises
rises-nothing [] = refl
rises-nothing (x ∷ s) = refl

-- Nothing precedes the empty sheet.
pub precedes-nothing : (s : List ℕ) → precedes s [] ≡ true → ⊥
unfolding precedes
precedes-nothing s h = go (first-which (row_count s) 0 (rises s []) h)
  where
    go : (row_count s < 0) ⊎ ((row_count s ≡ 0) × (rises s [] ≡ true)) → ⊥
    go (inl i) = omega arith
    go (inr i) = false≢true (sym (rises-nothing s) ∙ i.1)

pub precedes-total : (s u : List ℕ) → length s ≡ 31 * row_count s → length u ≡ 31 * row_count u → (s ≡ u) ⊎ ((precedes s u ≡ true) ⊎ (precedes u s ≡ true))
precedes-total s u e f = go (dec_lt (row_count s) (row_count u)) (dec_lt (row_count u) (row_count s))
  where
    as_many : row_count s ≡ row_count u → (s ≡ u) ⊎ ((rises s u ≡ true) ⊎ (rises u s ≡ true)) → (s ≡ u) ⊎ ((precedes s u ≡ true) ⊎ (precedes u s ≡ true))
    as_many k (inl p) = inl p
    as_many k (inr (inl p)) = inr (inl (rising-precedes s u k p))
    as_many k (inr (inr p)) = inr (inr (rising-precedes u s (sym k) p))

    go : Dec (row_count s < row_count u) → Dec (row_count u < row_count s) → (s ≡ u) ⊎ ((precedes s u ≡ true) ⊎ (precedes u s ≡ true))
    go (yes a) b = inr (inl (fewer-precedes s u a))
    go (no a) (yes b) = inr (inr (fewer-precedes u s b))
    go (no a) (no b) = let k : row_count s ≡ row_count u = omega arith in as_many k (rises-total s u (e ∙ ap (λ (n : ℕ). 31 * n) k ∙ sym f))
