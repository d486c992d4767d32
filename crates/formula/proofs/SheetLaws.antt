-- Laws of specs/SheetLaws.antt, and what only they need.
use Rattle.std.specs.Prelude.{ℕ, zero, suc, ◌+◌, ◌*◌, ◌-◌, ◌<◌, ◌≡◌, List, [], ◌∷◌, ◌++◌, length, get_or, take, drop, ◌&&◌}
use Rattle.std.proofs.Math.Path.{refl}
use Rattle.std.proofs.Common.{sym, ap, ◌∙◌, arith, not-suc-le-zero, le_of_suc-le-suc, take-take, drop-drop, get_or-take, get_or-drop, take-add}
use Rattle.std.proofs.Math.Seq.{slice, take-nil}
use Rattle.formula.specs.Sheet.{row_count, lines_in, lines_of, field_text, field_of, number_in, fields_in, fields_of}
use Rattle.formula.specs.Tests.{line_at, well_formed, fields_well}
use Rattle.formula.specs.SheetLaws.{line_fields, text_at}

drop-take : (m k : ℕ) (l : List ℕ) → drop m (take (m + k) l) ≡ take k (drop m l)
drop-take zero k l = let e : 0 + k ≡ k = omega arith in rw e refl
drop-take (suc m) k [] = let e : suc m + k ≡ suc (m + k) = omega arith in rw e (sym (take-nil k))
drop-take (suc m) k (x ∷ l) = let e : suc m + k ≡ suc (m + k) = omega arith in rw e (drop-take m k l)

lines_at : (n i : ℕ) (s : List ℕ) → i < n → get_or (lines_in n s) i [] ≡ take 31 (drop (31 * i) s)
unfolding lines_in
lines_at zero i s h = absurd (not-suc-le-zero h)
lines_at (suc n) zero s h = refl
lines_at (suc n) (suc i) s h =
    let e : 31 * suc i ≡ 31 + 31 * i = omega arith in
    lines_at n i (drop 31 s) (le_of_suc-le-suc h) ∙ rw (e, drop-drop (31 * i) 31 s) refl

-- Line i + 1 of a sheet.
pub line-at : (s : List ℕ) (i : ℕ) → i < row_count s → line_at (lines_of s) (i + 1) ≡ take 31 (drop (31 * i) s)
unfolding lines_of
line-at s i h = let e : i + 1 - 1 ≡ i = omega arith in rw e (lines_at (row_count s) i s h)

pub line-feed : (s : List ℕ) (i : ℕ) → i < row_count s → get_or (line_at (lines_of s) (i + 1)) 30 0 ≡ get_or s (31 * i + 30) 0
line-feed s i h = rw (line-at s i h, get_or-take 31 (drop (31 * i) s) 30 0 (omega arith)) (get_or-drop (31 * i) s 30 0)

text_at_lem : (a j : ℕ) (s : List ℕ) → j < 5 → take 6 (drop (6 * j) (take 31 (drop a s))) ≡ slice (a + 6 * j) (a + 6 * j + 6) s
text_at_lem a j s h =
    let e : 31 ≡ 6 * j + (31 - 6 * j) = omega arith in
    ap (λ (k : ℕ). take 6 (drop (6 * j) (take k (drop a s)))) e
    ∙ ap (take 6) (drop-take (6 * j) (31 - 6 * j) (drop a s))
    ∙ take-take 6 (31 - 6 * j) (drop (6 * j) (drop a s)) (omega arith)
    ∙ ap (take 6) (drop-drop (6 * j) a s)
    ∙ sym (drop-take (a + 6 * j) 6 s)

-- Field j of row i + 1 is in the six bytes from 31 * i + 6 * j on.
pub field-text : (s : List ℕ) (i j : ℕ) → i < row_count s → j < 5
    → field_text (line_at (lines_of s) (i + 1)) j ≡ slice (31 * i + 6 * j) (31 * i + 6 * j + 6) s
field-text s i j h k = ap (λ (l : List ℕ). take 6 (drop (6 * j) l)) (line-at s i h) ∙ text_at_lem (31 * i) j s k

pub length-line : (l : List ℕ) → length (line_fields l) ≡ 5
unfolding line_fields
length-line l = refl

length-lines : (n : ℕ) (s : List ℕ) → length (lines_in n s) ≡ n
unfolding lines_in
length-lines zero s = refl
length-lines (suc n) s = ap suc (length-lines n (drop 31 s))

length_fields : (ls : List (List ℕ)) → length (fields_in ls) ≡ 5 * length ls
unfolding fields_in
length_fields [] = refl
length_fields (l ∷ ls) = let e : length (fields_in ls) ≡ 5 * length ls = length_fields ls in omega arith

pub fields-length : (s : List ℕ) → length (fields_of s) ≡ 5 * row_count s
unfolding fields_of lines_of
fields-length s = length_fields (lines_in (row_count s) s) ∙ ap (λ (n : ℕ). 5 * n) (length-lines (row_count s) s)

fields-row : (ls : List (List ℕ)) (i : ℕ) → i < length ls → take 5 (drop (5 * i) (fields_in ls)) ≡ line_fields (get_or ls i [])
unfolding fields_in line_fields
fields-row [] i h = absurd (not-suc-le-zero h)
fields-row (l ∷ ls) zero h = refl
fields-row (l ∷ ls) (suc i) h =
    let e : 5 * suc i ≡ 5 + 5 * i = omega arith in
    ap (λ (k : ℕ). take 5 (drop k (fields_in (l ∷ ls)))) e
    ∙ ap (take 5) (sym (drop-drop (5 * i) 5 (fields_in (l ∷ ls))))
    ∙ fields-row ls i (le_of_suc-le-suc h)

-- The table of fields with one row more.
pub fields-more : (s : List ℕ) (i : ℕ) → i < row_count s
    → take (5 * (i + 1)) (fields_of s) ≡ take (5 * i) (fields_of s) ++ line_fields (line_at (lines_of s) (i + 1))
unfolding fields_of lines_of
fields-more s i h =
    let e : 5 * (i + 1) ≡ 5 * i + 5 = omega arith in
    let k : i + 1 - 1 ≡ i = omega arith in
    let l : i < length (lines_in (row_count s) s) = rw (length-lines (row_count s) s) h in
    rw (e, k) (take-add (5 * i) 5 (fields_of s) ∙ ap (λ (r : List ℕ). take (5 * i) (fields_of s) ++ r) (fields-row (lines_in (row_count s) s) i l))

module _ (s : List ℕ) (i : ℕ) (h : i < row_count s) where
  first-text : field_text (line_at (lines_of s) (i + 1)) 0 ≡ text_at s (31 * i)
  first-text = let z : 31 * i + 6 * 0 ≡ 31 * i = omega arith in rw z at (field-text s i 0 h (omega arith))

  pub line-fields-at : line_fields (line_at (lines_of s) (i + 1))
      ≡ number_in (field_of (text_at s (31 * i)))
      ∷ number_in (field_of (text_at s (31 * i + 6)))
      ∷ number_in (field_of (text_at s (31 * i + 12)))
      ∷ number_in (field_of (text_at s (31 * i + 18)))
      ∷ number_in (field_of (text_at s (31 * i + 24)))
      ∷ []
  unfolding line_fields
  line-fields-at = rw (first-text, field-text s i 1 h (omega arith), field-text s i 2 h (omega arith), field-text s i 3 h (omega arith), field-text s i 4 h (omega arith)) refl

  pub fields-well-at : fields_well (lines_of s) (i + 1)
      ≡ (well_formed (field_of (text_at s (31 * i)))
      && well_formed (field_of (text_at s (31 * i + 6)))
      && well_formed (field_of (text_at s (31 * i + 12)))
      && well_formed (field_of (text_at s (31 * i + 18)))
      && well_formed (field_of (text_at s (31 * i + 24))))
  unfolding fields_well
  fields-well-at = rw (first-text, field-text s i 1 h (omega arith), field-text s i 2 h (omega arith), field-text s i 3 h (omega arith), field-text s i 4 h (omega arith)) refl
