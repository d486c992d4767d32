-- Laws of specs/KeptLaws.antt, and what only they need.
use Prim.Native.Nat.{ℕ, zero, suc, ◌-◌, ◌≤◌, ◌<◌}
use Rattle.std.specs.Prelude.{◌≡◌, refl, ◌↔◌, ◌⊎◌, Bool, cond, List, [], ◌∷◌, length, get_or, set, replicate}
use Rattle.std.proofs.Math.Path.{sym}
use Rattle.std.proofs.Common.{ap, ◌∙◌, inl, inr, length-set, get_or-set_same, arith}
use Rattle.std.proofs.Math.Bool.{true, false}
use Rattle.std.proofs.lemmas.Bool.{false≢true}
use Rattle.std.proofs.Math.ListN.{length-replicate, get_or-eq_default}
use Rattle.std.proofs.lemmas.List.{get_or-replicate}
use Rattle.std.proofs.Math.Seq.{get_or-set_other}
use Rattle.std.proofs.Math.Decide.{ℕ_discrete, dec_lt}
use Rattle.formula.specs.Sheet.{shape_at, named_in}
use Rattle.formula.specs.Places.{mark}
use Rattle.formula.proofs.PlaceLaws.{mark-length}
use Rattle.formula.specs.FaultRows.{Among}
use Rattle.formula.specs.TreeLaws.{AllBetween, Named}
use Rattle.sheet_tidied.specs.Tidy.{is_kept, keep_down, kept_of}
use Rattle.sheet_tidied.specs.Reach.{Reachable, last, named_by}
use Rattle.sheet_tidied.specs.KeptLaws.{keep_row}

pub keep-step : (t : List ℕ) (r : ℕ) (k : List Bool) → 1 ≤ r → keep_down t r k ≡ keep_down t (r - 1) (keep_row t r k)
unfolding keep_down
keep-step t zero k h = absurd (omega arith)
keep-step t (suc r) k h = let e : suc r - 1 ≡ r = omega arith in ap (λ (j : ℕ). keep_down t j (keep_row t (suc r) k)) (sym e)

pub keep-row-length : (t : List ℕ) (r : ℕ) (k : List Bool) → length (keep_row t r k) ≡ length k
keep-row-length t r k = go (is_kept k r)
  where
    go : (b : Bool) → length (cond b (mark (named_in (shape_at t r)) k) k) ≡ length k
    go true = mark-length (named_in (shape_at t r)) k
    go false = refl

pub keep-length : (t : List ℕ) (r : ℕ) (k : List Bool) → length (keep_down t r k) ≡ length k
unfolding keep_down
keep-length t zero k = refl
keep-length t (suc r) k = keep-length t r (keep_row t (suc r) k) ∙ keep-row-length t (suc r) k

pub kept-length : (t : List ℕ) (n : ℕ) → length (kept_of t n) ≡ n
unfolding kept_of
kept-length t n = keep-length t n _ ∙ simp (length-set, length-replicate)

-- ---- what marking does to one row
pub between-among : (r x : ℕ) (l : List ℕ) → AllBetween r l → Among x l → (1 ≤ x) × (x < r)
between-among r x [] h a = absurd a
between-among r x (y ∷ l) h (inl e) = rw e h.0
between-among r x (y ∷ l) h (inr a) = between-among r x l h.1 a

kept-inside : (p : List Bool) (i : ℕ) → get_or p i false ≡ true → i < length p
kept-inside p i h = go (dec_lt i (length p))
  where
    go : Dec (i < length p) → i < length p
    go (yes l) = l
    go (no l) = absurd (false≢true (sym (get_or-eq_default p false (omega arith)) ∙ h))

-- A mark stays.
mark-keeps : (l : List ℕ) (p : List Bool) (x : ℕ) → is_kept p x ≡ true → is_kept (mark l p) x ≡ true
unfolding mark
mark-keeps [] p x h = h
mark-keeps (y ∷ l) p x h = mark-keeps l (set p (y - 1) true) x (go (ℕ_discrete (x - 1) (y - 1)))
  where
    go : Dec (x - 1 ≡ y - 1) → is_kept (set p (y - 1) true) x ≡ true
    go (yes e) = rw (sym e) (get_or-set_same p (x - 1) true false (kept-inside p (x - 1) h))
    go (no e) = get_or-set_other p (y - 1) (x - 1) true false e ∙ h

-- What is named is marked.
mark-names : (l : List ℕ) (p : List Bool) (x : ℕ) → x - 1 < length p → Among x l → is_kept (mark l p) x ≡ true
unfolding mark
mark-names [] p x h a = absurd a
mark-names (y ∷ l) p x h (inl e) = mark-keeps l (set p (y - 1) true) x (rw (sym e) (get_or-set_same p (x - 1) true false h))
mark-names (y ∷ l) p x h (inr a) = mark-names l (set p (y - 1) true) x (rw (length-set p (y - 1) true) h) a

-- Nothing else is.
mark-only : (l : List ℕ) (p : List Bool) (x r : ℕ) → AllBetween r l → 1 ≤ x → is_kept (mark l p) x ≡ true → (is_kept p x ≡ true) ⊎ Among x l
unfolding mark
mark-only [] p x r b h k = inl k
mark-only (y ∷ l) p x r b h k = go (mark-only l (set p (y - 1) true) x r b.1 h k) (ℕ_discrete x y)
  where
    go : (is_kept (set p (y - 1) true) x ≡ true) ⊎ Among x l → Dec (x ≡ y) → (is_kept p x ≡ true) ⊎ Among x (y ∷ l)
    go (inr a) d = inr (inr a)
    go (inl e) (yes s) = inr (inl s)
    go (inl e) (no s) = inl (sym (get_or-set_other p (y - 1) (x - 1) true false (λ (z : x - 1 ≡ y - 1). s (omega arith))) ∙ e)

last-inside : (n : ℕ) (b : Bool) → 1 ≤ n → n - 1 < length (replicate n b)
last-inside n b h = rw (length-replicate n b) (omega arith)

-- ---- what a row, and all rows from r down, do to one row
row_keeps : (t : List ℕ) (r : ℕ) (k : List Bool) (x : ℕ) → is_kept k x ≡ true → is_kept (keep_row t r k) x ≡ true
row_keeps t r k x h = go (is_kept k r)
  where
    go : (b : Bool) → is_kept (cond b (mark (named_in (shape_at t r)) k) k) x ≡ true
    go true = mark-keeps (named_in (shape_at t r)) k x h
    go false = h

down-keeps : (t : List ℕ) (r : ℕ) (k : List Bool) (x : ℕ) → is_kept k x ≡ true → is_kept (keep_down t r k) x ≡ true
unfolding keep_down
down-keeps t zero k x h = h
down-keeps t (suc r) k x h = down-keeps t r (keep_row t (suc r) k) x (row_keeps t (suc r) k x h)

row-only : (t : List ℕ) (r : ℕ) (k : List Bool) (x : ℕ) → AllBetween r (named_in (shape_at t r)) → 1 ≤ x → is_kept (keep_row t r k) x ≡ true
    → (is_kept k x ≡ true) ⊎ ((is_kept k r ≡ true) × Among x (named_in (shape_at t r)))
row-only t r k x b l h = go (is_kept k r) refl h
  where
    named : is_kept k r ≡ true → (is_kept k x ≡ true) ⊎ Among x (named_in (shape_at t r)) → (is_kept k x ≡ true) ⊎ ((is_kept k r ≡ true) × Among x (named_in (shape_at t r)))
    named e (inl a) = inl a
    named e (inr a) = inr (e, a)

    go : (c : Bool) → is_kept k r ≡ c → is_kept (cond c (mark (named_in (shape_at t r)) k) k) x ≡ true
        → (is_kept k x ≡ true) ⊎ ((is_kept k r ≡ true) × Among x (named_in (shape_at t r)))
    go true e i = named e (mark-only (named_in (shape_at t r)) k x r b l i)
    go false e i = inl i

module _ (t : List ℕ) (n : ℕ) (ok : Named t n) where
  -- Rows up to r keep none from r on.
  down-only : (r : ℕ) (k : List Bool) (x : ℕ) → r ≤ n → r ≤ x → 1 ≤ x → is_kept (keep_down t r k) x ≡ true → is_kept k x ≡ true
  unfolding keep_down
  down-only zero k x u l m h = h
  down-only (suc r) k x u l m h =
      go (row-only t (suc r) k x (ok.names (suc r) (omega arith) u) m (down-only r (keep_row t (suc r) k) x (omega arith) (omega arith) m h))
    where
      go : (is_kept k x ≡ true) ⊎ ((is_kept k (suc r) ≡ true) × Among x (named_in (shape_at t (suc r)))) → is_kept k x ≡ true
      go (inl a) = a
      go (inr a) = absurd (let b = between-among (suc r) x (named_in (shape_at t (suc r))) (ok.names (suc r) (omega arith) u) a.1 in omega (arith, b.1))

  -- A row that is kept keeps those that it names.
  down-closed : (m : ℕ) (k : List Bool) → m ≤ n → m ≤ length k → (r : ℕ) → 1 ≤ r → r ≤ m → is_kept (keep_down t m k) r ≡ true
      → (x : ℕ) → Among x (named_in (shape_at t r)) → is_kept (keep_down t m k) x ≡ true
  unfolding keep_down
  down-closed zero k u v r l h e x a = absurd (omega arith)
  down-closed (suc m) k u v r l h e x a =
      go (λ (b : r ≤ m). down-closed m (keep_row t (suc m) k) (omega arith) (rw (keep-row-length t (suc m) k) (omega arith)) r l b e x a) (ℕ_discrete r (suc m))
    where
      here : r ≡ suc m → is_kept k (suc m) ≡ true
      here s =
          let i : is_kept (keep_row t (suc m) k) (suc m) ≡ true = down-only m (keep_row t (suc m) k) (suc m) (omega arith) (omega arith) (omega arith) (rw s at e) in
          own (row-only t (suc m) k (suc m) (ok.names (suc m) (omega arith) u) (omega arith) i)
        where
          own : (is_kept k (suc m) ≡ true) ⊎ ((is_kept k (suc m) ≡ true) × Among (suc m) (named_in (shape_at t (suc m)))) → is_kept k (suc m) ≡ true
          own (inl b) = b
          own (inr b) = b.0

      go : (r ≤ m → is_kept (keep_down t m (keep_row t (suc m) k)) x ≡ true) → Dec (r ≡ suc m) → is_kept (keep_down t m (keep_row t (suc m) k)) x ≡ true
      go ih (no s) = ih (omega arith)
      go ih (yes s) =
          let b : Among x (named_in (shape_at t (suc m))) = rw s at a in
          let i = between-among (suc m) x (named_in (shape_at t (suc m))) (ok.names (suc m) (omega arith) u) b in
          down-keeps t m (keep_row t (suc m) k) x
          (rw (here s) (mark-names (named_in (shape_at t (suc m))) k x (omega (arith, i.0, i.1)) b))

  -- What is kept is reachable, if what was kept before is.
  down-reachable : (r : ℕ) (k : List Bool) → r ≤ n → ((x : ℕ) → 1 ≤ x → is_kept k x ≡ true → Reachable t n x)
      → (x : ℕ) → 1 ≤ x → is_kept (keep_down t r k) x ≡ true → Reachable t n x
  unfolding keep_down
  down-reachable zero k u h x l e = h x l e
  down-reachable (suc r) k u h x l e = down-reachable r (keep_row t (suc r) k) (omega arith) each x l e
    where
      each : (y : ℕ) → 1 ≤ y → is_kept (keep_row t (suc r) k) y ≡ true → Reachable t n y
      each y m i = go (row-only t (suc r) k y (ok.names (suc r) (omega arith) u) m i)
        where
          go : (is_kept k y ≡ true) ⊎ ((is_kept k (suc r) ≡ true) × Among y (named_in (shape_at t (suc r)))) → Reachable t n y
          go (inl a) = h y m a
          go (inr a) = named_by (suc r) y (h (suc r) (omega arith) a.0) a.1

  module _ (some : 1 ≤ n) where
    -- Reachable rows are rows of the sheet.
    pub reachable-row : (r : ℕ) → Reachable t n r → (1 ≤ r) × (r ≤ n)
    reachable-row r last = (some, omega arith)
    reachable-row r (named_by k x h a) =
        let i = reachable-row k h in
        let j = between-among k x (named_in (shape_at t k)) (ok.names k i.0 i.1) a in
        (j.0, omega (arith, i.1, j.1))

    pub last-kept : is_kept (kept_of t n) n ≡ true
    unfolding kept_of
    last-kept = down-keeps t n _ n (simp (get_or-set_same, last-inside))

    -- The rows that a kept row names are kept.
    pub kept-names : (r : ℕ) → 1 ≤ r → r ≤ n → is_kept (kept_of t n) r ≡ true → (x : ℕ) → Among x (named_in (shape_at t r)) → is_kept (kept_of t n) x ≡ true
    unfolding kept_of
    kept-names r l u h x a = down-closed n _ (omega arith) (simp (length-set, length-replicate) (omega arith)) r l u h x a

    pub kept-reachable : (r : ℕ) → 1 ≤ r → is_kept (kept_of t n) r ≡ true → Reachable t n r
    unfolding kept_of
    kept-reachable r l h = down-reachable n (set (replicate n false) (n - 1) true) (omega arith) first r l h
      where
        first : (x : ℕ) → 1 ≤ x → is_kept (set (replicate n false) (n - 1) true) x ≡ true → Reachable t n x
        first x m e = go (ℕ_discrete x n)
          where
            go : Dec (x ≡ n) → Reachable t n x
            go (yes s) = rw s last
            go (no s) =
                let other : is_kept (set (replicate n false) (n - 1) true) x ≡ is_kept (replicate n false) x =
                get_or-set_other (replicate n false) (n - 1) (x - 1) true false (λ (z : x - 1 ≡ n - 1). s (omega arith)) in
                let inside : x - 1 < n = rw length-replicate at (kept-inside (replicate n false) (x - 1) (sym other ∙ e)) in
                absurd (false≢true (sym (get_or-replicate n (x - 1) false false inside) ∙ sym other ∙ e))

    pub reachable-kept : (r : ℕ) → Reachable t n r → is_kept (kept_of t n) r ≡ true
    reachable-kept r last = last-kept
    reachable-kept r (named_by k x h a) = let i = reachable-row k h in kept-names k i.0 i.1 (reachable-kept k h) x a

    -- A row is kept if and only if it is reachable from the last.
    pub kept-reach : (r : ℕ) → 1 ≤ r → (is_kept (kept_of t n) r ≡ true) ↔ Reachable t n r
    kept-reach r l = (kept-reachable r l, reachable-kept r)
