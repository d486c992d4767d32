-- Laws of the first rows of a table, and of a row written into it. Assumes nothing.
use Prim.Native.Nat.{ℕ, zero, suc, ◌+◌, ◌*◌, ◌-◌, ◌≤◌, ◌<◌}
use mathlib.Core.Path.{◌≡◌, refl, sym, ap, ◌∙◌}
use mathlib.Core.List.{List, [], ◌∷◌, ◌++◌, append-nil, append_assoc, flatten}
use native.Mathlib.Omega.{arith}
use native.Mathlib.Decide.{ℕ_discrete}
use lib.ListN.{length, get_or, take, drop, length-append, get_or-append}
use lib.Seq.{sets, sets-eq, take-add, take_all, drop-cons, length-take-le, get_or-take, get_or-append-add, get_or-append_seam, take-append-le}
use Rattle.formula.specs.Sheet.{field}
use Rattle.sheet_tidied.specs.TextLaws.{Row, five, Rows as Written}
use Rattle.sheet_tidied.proofs.TextLaws.{row-length, rows_append}
use Rattle.sheet_listed.specs.Search.{Rows}
use Rattle.sheet_listed.specs.Texts.{field_row}
use Rattle.sheet_listed.specs.Standing.{Agree}
use Rattle.sheet_listed.specs.Listed.{RowsListed}
use Rattle.sheet_stands.specs.Fronts.{rows_to, Content}
use Rattle.sheet_stands.proofs.ContentLaws.{content-listed, content-row}
use Rattle.sheet_stands.proofs.FrontLaws.{row-alike, agree_less}

-- ---- the first rows

pub rows-size : (n : ℕ) (t : List ℕ) → length (rows_to n t) ≡ n
unfolding rows_to
rows-size zero t = refl
rows-size (suc n) t = length-append (rows_to n t) (field_row t (suc n) ∷ []) ∙ omega (arith, rows-size n t)

pub rows_more : (r : ℕ) (t : List ℕ) → 1 ≤ r → rows_to r t ≡ rows_to (r - 1) t ++ (field_row t r ∷ [])
unfolding rows_to
rows_more zero t a = absurd (omega arith)
rows_more (suc n) t a = let e : n ≡ suc n - 1 = omega arith in ap (λ (k : ℕ). rows_to k t ++ (field_row t (suc n) ∷ [])) e

pub rows_alike : (n : ℕ) (t u : List ℕ) → Agree n t u → rows_to n t ≡ rows_to n u
unfolding rows_to
rows_alike zero t u h = refl
rows_alike (suc n) t u h = rw (rows_alike n t u (agree_less (suc n) n t u (omega arith) h), row-alike t u (suc n) h (suc n) (omega arith) (omega arith)) refl

pub rows_at : (n i : ℕ) (t : List ℕ) → i < n → get_or (rows_to n t) i [] ≡ field_row t (i + 1)
unfolding rows_to
rows_at zero i t h = absurd (omega arith)
rows_at (suc n) i t h = go (ℕ_discrete i n) (rows_at n i t)
  where
    go : Dec (i ≡ n) → (i < n → get_or (rows_to n t) i [] ≡ field_row t (i + 1)) → get_or (rows_to n t ++ (field_row t (suc n) ∷ [])) i [] ≡ field_row t (i + 1)
    go (yes e) ih =
        let s : i ≡ length (rows_to n t) = omega (arith, rows-size n t) in
        let f : suc n ≡ i + 1 = omega arith in
        ap (λ (k : ℕ). get_or (rows_to n t ++ (field_row t (suc n) ∷ [])) k []) s
        ∙ get_or-append_seam (rows_to n t) (field_row t (suc n)) [] []
        ∙ ap (field_row t) f
    go (no e) ih = get_or-append (rows_to n t) (field_row t (suc n) ∷ []) [] i (omega (arith, rows-size n t)) ∙ ih (omega arith)

pub rows_take : (n r : ℕ) (t : List ℕ) → r ≤ n → take r (rows_to n t) ≡ rows_to r t
unfolding rows_to
rows_take zero r t h = let e : r ≡ 0 = omega arith in rw e refl
rows_take (suc n) r t h = go (ℕ_discrete r (suc n)) (rows_take n r t)
  where
    go : Dec (r ≡ suc n) → (r ≤ n → take r (rows_to n t) ≡ rows_to r t) → take r (rows_to (suc n) t) ≡ rows_to r t
    go (yes e) ih = ap (λ (k : ℕ). take k (rows_to (suc n) t)) e ∙ take_all (suc n) (rows_to (suc n) t) (omega (arith, rows-size (suc n) t)) ∙ ap (λ (k : ℕ). rows_to k t) (sym e)
    go (no e) ih = take-append-le r (rows_to n t) (field_row t (suc n) ∷ []) (omega (arith, rows-size n t)) ∙ ih (omega arith)

-- ---- as numbers

flat_append : (ls ms : Rows) → flatten (ls ++ ms) ≡ flatten ls ++ flatten ms
unfolding flatten
flat_append [] ms = refl
flat_append (l ∷ ls) ms = ap (λ (x : List ℕ). l ++ x) (flat_append ls ms) ∙ sym (append_assoc l (flatten ls) (flatten ms))

five-from : (t : List ℕ) (k : ℕ) → k + 5 ≤ length t → take 5 (drop k t) ≡ get_or t (k + 0) 0 ∷ get_or t (k + 1) 0 ∷ get_or t (k + 2) 0 ∷ get_or t (k + 3) 0 ∷ get_or t (k + 4) 0 ∷ []
five-from t k h =
    let a : k + 0 ≡ k = omega arith in
    let b : k + 1 ≡ suc k = omega arith in
    let c : k + 2 ≡ suc (suc k) = omega arith in
    let d : k + 3 ≡ suc (suc (suc k)) = omega arith in
    let e : k + 4 ≡ suc (suc (suc (suc k))) = omega arith in
    rw (a, b, c, d, e, drop-cons t k 0 (omega arith), drop-cons t (suc k) 0 (omega arith), drop-cons t (suc (suc k)) 0 (omega arith), drop-cons t (suc (suc (suc k))) 0 (omega arith), drop-cons t (suc (suc (suc (suc k)))) 0 (omega arith)) refl

pub rows-flat : (n : ℕ) (t : List ℕ) → 5 * n ≤ length t → flatten (rows_to n t) ≡ take (5 * n) t
unfolding rows_to flatten
rows-flat zero t h = refl
rows-flat (suc n) t h =
    let e : 5 * suc n ≡ 5 * n + 5 = omega arith in
    let f : suc n - 1 ≡ n = omega arith in
    flat_append (rows_to n t) (field_row t (suc n) ∷ [])
    ∙ ap (λ (x : List ℕ). flatten (rows_to n t) ++ x) (append-nil (field_row t (suc n)))
    ∙ ap (λ (x : List ℕ). x ++ field_row t (suc n)) (rows-flat n t (omega arith))
    ∙ ap (λ (x : List ℕ). take (5 * n) t ++ x) (rw f (sym (five-from t (5 * n) (omega arith))))
    ∙ sym (ap (λ (k : ℕ). take k t) e ∙ take-add (5 * n) 5 t)

-- ---- rows that a small sheet can have

module _ (t : List ℕ) (n : ℕ) (h : (r : ℕ) → 1 ≤ r → r ≤ n → Content (field_row t r)) where
  pub rows-listed : RowsListed n (rows_to n t)
  rows-listed = record { size = rows-size n t; listed = λ i u. rw (rows_at n i t u) (content-listed (field_row t (i + 1)) (h (i + 1) (omega arith) (omega arith))) }

pub rows_written : (t : List ℕ) (n : ℕ) → ((r : ℕ) → 1 ≤ r → r ≤ n → Content (field_row t r)) → Written (rows_to n t)
unfolding rows_to
rows_written t zero h = tt
rows_written t (suc n) h =
    rows_append (rows_to n t) (field_row t (suc n) ∷ []) (rows_written t n (λ r a b. h r a (omega arith))) (content-row (field_row t (suc n)) (h (suc n) (omega arith) (omega arith)), tt)

-- ---- a row written

five-fields : (l : List ℕ) → Row l → get_or l 0 0 ∷ get_or l 1 0 ∷ get_or l 2 0 ∷ get_or l 3 0 ∷ get_or l 4 0 ∷ [] ≡ l
five-fields l (five kind a b c d h i j k m) = refl

module _ (t l : List ℕ) (w : Row l) (r : ℕ) (a : 1 ≤ r) (h : 5 * r ≤ length t) where
  abbrev at : ℕ
  at = 5 * (r - 1)

  size : length (take at t) ≡ at
  size = length-take-le at t (omega arith)

  whole : sets t at l ≡ take at t ++ (l ++ drop (at + length l) t)
  whole = sets-eq l t at (omega (arith, row-length l w)) ∙ append_assoc (take at t) l (drop (at + length l) t)

  -- The rows before it stay.
  pub put-before : Agree (r - 1) (sets t at l) t
  put-before i b =
      ap (λ (x : List ℕ). get_or x i 0) whole
      ∙ get_or-append (take at t) (l ++ drop (at + length l) t) 0 i (omega (arith, size))
      ∙ get_or-take at t i 0 b

  field_put : (j : ℕ) → j < 5 → field (sets t at l) r j ≡ get_or l j 0
  field_put j b =
      let e : at + j ≡ length (take at t) + j = omega (arith, size) in
      ap (λ (x : List ℕ). get_or x (at + j) 0) whole
      ∙ ap (λ (k : ℕ). get_or (take at t ++ (l ++ drop (at + length l) t)) k 0) e
      ∙ get_or-append-add (take at t) (l ++ drop (at + length l) t) j 0
      ∙ get_or-append l (drop (at + length l) t) 0 j (omega (arith, row-length l w))

  pub put-row : field_row (sets t at l) r ≡ l
  put-row = rw (field_put 0 (omega arith), field_put 1 (omega arith), field_put 2 (omega arith), field_put 3 (omega arith), field_put 4 (omega arith)) (five-fields l w)
