-- Laws of new numbers (document 02, Job 8: "renumbers the rest in their old order"): they rise with the old ones, kept rows have different ones, and
-- every number from 1 to the count of kept rows is some kept row's, which stands there. Assumes nothing.
use Prim.Native.Nat.{ℕ, zero, suc, ◌+◌, ◌-◌, ◌≤◌, ◌<◌}
use Rattle.std.specs.Prelude.{◌≡◌, Bool}
use Rattle.std.proofs.Math.Path.{refl, ap}
use Rattle.std.proofs.Common.{sym, ◌∙◌, add-one}
use Rattle.std.proofs.Math.Bool.{true, false, cond}
use mathlib.Core.List.{List, [], ◌∷◌, ◌++◌}
use Rattle.std.proofs.Math.ListN.{length, get_or, length-append, get_or-append}
use Rattle.std.proofs.Math.Seq.{get_or_at}
use native.Mathlib.Omega.{arith}
use Rattle.std.proofs.Math.Decide.{ℕ_discrete, dec_lt, dec_le}
use Rattle.sheet_tidied.specs.Tidy.{is_kept, new_number, new_row, kept_rows}

-- ---- row by row
module _ (k : List Bool) where
  pub number_more : (i : ℕ) → new_number k (i + 1) ≡ new_number k i + cond (get_or k i false) 1 0
  unfolding new_number
  number_more i = let e : suc i - 1 ≡ i = omega arith in ap (new_number k) (add-one i) ∙ ap (λ (j : ℕ). new_number k i + cond (get_or k j false) 1 0) e

  -- A new number is at most the old one.
  pub number-most : (r : ℕ) → new_number k r ≤ r
  unfolding new_number
  number-most zero = omega arith
  number-most (suc r) = go (is_kept k (suc r)) (number-most r)
    where
      go : (b : Bool) → new_number k r ≤ r → new_number k r + cond b 1 0 ≤ suc r
      go true h = omega arith
      go false h = omega arith

  number-grows : (r : ℕ) → new_number k r ≤ new_number k (suc r)
  unfolding new_number
  number-grows r = omega arith

  number-beyond : (r d : ℕ) → new_number k r ≤ new_number k (r + d)
  number-beyond r zero = let e : r + 0 ≡ r = omega arith in rw e (omega arith)
  number-beyond r (suc d) = let e : r + suc d ≡ suc (r + d) = omega arith in rw e (omega (arith, number-beyond r d, number-grows (r + d)))

  -- New numbers rise with the old ones.
  pub number-rises : (q r : ℕ) → q ≤ r → new_number k q ≤ new_number k r
  number-rises q r h = let e : q + (r - q) ≡ r = omega arith in rw e at (number-beyond q (r - q))

  number-above : (r : ℕ) → is_kept k (suc r) ≡ true → new_number k (suc r) ≡ new_number k r + 1
  unfolding new_number
  number-above r h = ap (λ (b : Bool). new_number k r + cond b 1 0) h

  -- A kept row's is above those of the rows before it.
  pub number-less : (q r : ℕ) → q < r → is_kept k r ≡ true → new_number k q < new_number k r
  number-less q zero l h = absurd (omega arith)
  number-less q (suc r) l h = omega (arith, number-rises q r (omega arith), number-above r h)

  pub number-first : (r : ℕ) → 1 ≤ r → is_kept k r ≡ true → 1 ≤ new_number k r
  number-first r l h = omega (arith, number-less 0 r l h)

  -- Kept rows have different numbers.
  pub number-own : (q r : ℕ) → is_kept k q ≡ true → is_kept k r ≡ true → new_number k q ≡ new_number k r → q ≡ r
  number-own q r h i e = go (dec_lt q r) (dec_lt r q)
    where
      go : Dec (q < r) → Dec (r < q) → q ≡ r
      go (yes l) d = absurd (omega (arith, number-less q r l i))
      go (no l) (yes m) = absurd (omega (arith, number-less r q m h))
      go (no l) (no m) = omega arith

  -- The numbers up to row n's are those of kept rows.
  pub record Numbered (n j : ℕ) : Type 0 where
    pub row : ℕ
    pub low : 1 ≤ row
    pub high : row ≤ n
    pub kept : is_kept k row ≡ true
    pub number : new_number k row ≡ j

  pub numbered : (n j : ℕ) → 1 ≤ j → j ≤ new_number k n → Numbered n j
  unfolding new_number
  numbered zero j l u = absurd (omega arith)
  numbered (suc n) j l u = go (is_kept k (suc n)) refl (dec_le j (new_number k n)) (λ (v : j ≤ new_number k n). numbered n j l v)
    where
      go : (b : Bool) → is_kept k (suc n) ≡ b → Dec (j ≤ new_number k n) → (j ≤ new_number k n → Numbered n j) → Numbered (suc n) j
      go b e (yes v) ih = let f = ih v in record { row = f.row; low = f.low; high = omega (arith, f.high); kept = f.kept; number = f.number }
      go true e (no v) ih =
          let m : new_number k (suc n) ≡ new_number k n + 1 = ap (λ (c : Bool). new_number k n + cond c 1 0) e in
          record { row = suc n; low = omega arith; high = omega arith; kept = e; number = omega arith }
      go false e (no v) ih =
          let m : new_number k (suc n) ≡ new_number k n + 0 = ap (λ (c : Bool). new_number k n + cond c 1 0) e in
          absurd (omega arith)

-- ---- where a kept row stands in the new sheet
module _ (t : List ℕ) (k : List Bool) where
  pub rows_more : (i : ℕ) → kept_rows t k (i + 1) ≡ kept_rows t k i ++ cond (get_or k i false) (new_row t k (i + 1) ∷ []) []
  unfolding kept_rows
  rows_more i =
      let e : suc i - 1 ≡ i = omega arith in
      ap (kept_rows t k) (add-one i)
      ∙ ap (λ (j : ℕ). kept_rows t k i ++ cond (get_or k j false) (new_row t k (suc i) ∷ []) []) e
      ∙ ap (λ (j : ℕ). kept_rows t k i ++ cond (get_or k i false) (new_row t k j ∷ []) []) (sym (add-one i))

  pub rows-length : (r : ℕ) → length (kept_rows t k r) ≡ new_number k r
  unfolding kept_rows new_number
  rows-length zero = refl
  rows-length (suc r) = length-append (kept_rows t k r) _ ∙ go (is_kept k (suc r)) (rows-length r)
    where
      go : (b : Bool) → length (kept_rows t k r) ≡ new_number k r
          → length (kept_rows t k r) + length (cond b (new_row t k (suc r) ∷ []) []) ≡ new_number k r + cond b 1 0
      go true e = omega arith
      go false e = omega arith

  -- A kept row stands at its new number.
  pub row_at : (n r : ℕ) → 1 ≤ r → r ≤ n → is_kept k r ≡ true → get_or (kept_rows t k n) (new_number k r - 1) [] ≡ new_row t k r
  unfolding kept_rows
  row_at zero r l u h = absurd (omega arith)
  row_at (suc n) r l u h = go (ℕ_discrete r (suc n)) (λ (v : r ≤ n). row_at n r l v h)
    where
      go : Dec (r ≡ suc n) → (r ≤ n → get_or (kept_rows t k n) (new_number k r - 1) [] ≡ new_row t k r)
          → get_or (kept_rows t k n ++ cond (is_kept k (suc n)) (new_row t k (suc n) ∷ []) []) (new_number k r - 1) [] ≡ new_row t k r
      go (yes e) ih =
          let f : is_kept k (suc n) ≡ true = rw e at h in
          let i : length (kept_rows t k n) ≡ new_number k r - 1 = rw e (rows-length n ∙ omega (arith, number-above k n f)) in
          rw (f, get_or_at (kept_rows t k n) (new_row t k (suc n)) [] [] (new_number k r - 1) i) (ap (new_row t k) (sym e))
      go (no e) ih =
          let i : new_number k r - 1 < length (kept_rows t k n) = rw (rows-length n) (omega (arith, number-first k r l h, number-rises k r n (omega arith))) in
          get_or-append (kept_rows t k n) _ [] (new_number k r - 1) i ∙ ih (omega arith)
