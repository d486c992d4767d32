-- Laws of specs/TextLaws.antt, and what only they need.
use Prim.Native.Nat.{ℕ, zero, suc, ◌+◌, ◌*◌, ◌-◌, ◌≤◌, ◌<◌}
use Rattle.std.specs.Prelude.{◌≡◌, ◌&&◌, length, get_or, take, drop, Some}
use Rattle.std.proofs.Math.Path.{refl, ap}
use Rattle.std.proofs.Common.{sym, ◌∙◌, length-append, take_at, drop_at, get_or-append-add, arith}
use Rattle.std.proofs.Math.Bool.{true}
use mathlib.Core.List.{List, [], ◌∷◌, ◌++◌, map, flatten, append_assoc, append-nil}
use Rattle.std.proofs.Math.ListN.{get_or-append}
use Rattle.std.proofs.Math.Seq.{drop-append-add}
use Rattle.formula.specs.Sheet.{row_count, lines_in, lines_of, field_text, field_of, fields_in, fields_of, field, shape_at}
use Rattle.formula.specs.Tests.{line_at, ended_at, well_formed, fields_well, ranges_well}
use Rattle.text.specs.Printed.{number_field}
use Rattle.text.proofs.PrintLaws.{number-length}
use Rattle.text.proofs.RoundTrip.{number-reads-back}
use Rattle.sheet_tidied.specs.Text.{row_text, sheet_text}
use Rattle.sheet_tidied.specs.TextLaws.{Row, five, Rows, row_shape, row_in_range}

pub row-length : (r : List ℕ) → Row r → length r ≡ 5
row-length r (five kind a b c d h i j k l) = refl

pub rows_append : (rs qs : List (List ℕ)) → Rows rs → Rows qs → Rows (rs ++ qs)
rows_append [] qs h i = i
rows_append (r ∷ rs) qs h i = (h.0, rows_append rs qs h.1 i)

pub rows-each : (rs : List (List ℕ)) → Rows rs → (i : ℕ) → i < length rs → Row (get_or rs i [])
rows-each [] h i l = absurd (omega arith)
rows-each (r ∷ rs) h zero l = h.0
rows-each (r ∷ rs) h (suc i) l = rows-each rs h.1 i (omega arith)

-- ---- the text
pub row-text-length : (r : List ℕ) → length (row_text r) ≡ 6 * length r + 1
unfolding row_text
row-text-length [] = refl
row-text-length (x ∷ r) = length-append (number_field x) (row_text r) ∙ omega (arith, number-length x, row-text-length r)

line-length : (r : List ℕ) → Row r → length (row_text r) ≡ 31
line-length r h = row-text-length r ∙ rw (row-length r h) refl

pub text-length : (rs : List (List ℕ)) → Rows rs → length (sheet_text rs) ≡ 31 * length rs
unfolding sheet_text
text-length [] h = refl
text-length (r ∷ rs) h = length-append (row_text r) (sheet_text rs) ∙ omega (arith, line-length r h.0, text-length rs h.1)

pub text-append : (rs qs : List (List ℕ)) → sheet_text (rs ++ qs) ≡ sheet_text rs ++ sheet_text qs
unfolding sheet_text
text-append [] qs = refl
text-append (r ∷ rs) qs = ap (λ (x : List ℕ). row_text r ++ x) (text-append rs qs) ∙ sym (append_assoc (row_text r) (sheet_text rs) (sheet_text qs))

pub text-one : (r : List ℕ) → sheet_text (r ∷ []) ≡ row_text r
unfolding sheet_text
text-one r = append-nil (row_text r)

-- ---- its lines and fields
lines-text : (rs : List (List ℕ)) → Rows rs → lines_in (length rs) (sheet_text rs) ≡ map row_text rs
unfolding lines_in sheet_text
lines-text [] h = refl
lines-text (r ∷ rs) h =
    let e = line-length r h.0 in
    rw (take_at (row_text r) (sheet_text rs) 31 e, drop_at (row_text r) (sheet_text rs) 31 e, lines-text rs h.1) refl

field-part : (r : List ℕ) (j : ℕ) → j < length r → take 6 (drop (6 * j) (row_text r)) ≡ number_field (get_or r j 0)
unfolding row_text
field-part [] j h = absurd (omega arith)
field-part (x ∷ r) zero h = take_at (number_field x) (row_text r) 6 (number-length x)
field-part (x ∷ r) (suc j) h =
    let e : 6 * suc j ≡ length (number_field x) + 6 * j = omega (arith, number-length x) in
    rw (e, drop-append-add (number_field x) (row_text r) (6 * j)) (field-part r j (omega arith))

feed-part : (r : List ℕ) → get_or (row_text r) (6 * length r) 0 ≡ 10
unfolding row_text
feed-part [] = refl
feed-part (x ∷ r) =
    let e : 6 * suc (length r) ≡ length (number_field x) + 6 * length r = omega (arith, number-length x) in
    rw (e, get_or-append-add (number_field x) (row_text r) (6 * length r) 0) (feed-part r)

-- Each of the five is read as its number.
read-part : (r : List ℕ) (j : ℕ) → j < length r → get_or r j 0 ≤ 999999 → field_of (field_text (row_text r) j) ≡ Some (get_or r j 0)
read-part r j h k = ap field_of (field-part r j h) ∙ number-reads-back (get_or r j 0) k

fields-text : (rs : List (List ℕ)) → Rows rs → fields_in (map row_text rs) ≡ flatten rs
unfolding fields_in flatten
fields-text [] h = refl
fields-text (r ∷ rs) h = go r h.0 (fields-text rs h.1)
  where
    go : (r : List ℕ) → Row r → fields_in (map row_text rs) ≡ flatten rs → fields_in (row_text r ∷ map row_text rs) ≡ r ++ flatten rs
    go r (five kind a b c d h i j k l) ih =
        let q : List ℕ = kind ∷ a ∷ b ∷ c ∷ d ∷ [] in
        rw (read-part q 0 (omega arith) h, read-part q 1 (omega arith) i, read-part q 2 (omega arith) j, read-part q 3 (omega arith) k, read-part q 4 (omega arith) l, ih) refl

-- ---- a row of it
line-in : (rs : List (List ℕ)) (i : ℕ) → i < length rs → get_or (map row_text rs) i [] ≡ row_text (get_or rs i [])
line-in [] i h = absurd (omega arith)
line-in (r ∷ rs) zero h = refl
line-in (r ∷ rs) (suc i) h = line-in rs i (omega arith)

field_in : (rs : List (List ℕ)) → Rows rs → (i j : ℕ) → i < length rs → j < 5 → get_or (flatten rs) (5 * i + j) 0 ≡ get_or (get_or rs i []) j 0
unfolding flatten
field_in [] h i j k l = absurd (omega arith)
field_in (r ∷ rs) h zero j k l = let e : 5 * 0 + j ≡ j = omega arith in rw e (get_or-append r (flatten rs) 0 j (rw (row-length r h.0) l))
field_in (r ∷ rs) h (suc i) j k l =
    let e : 5 * suc i + j ≡ length r + (5 * i + j) = omega (arith, row-length r h.0) in
    rw (e, get_or-append-add r (flatten rs) (5 * i + j) 0) (field_in rs h.1 i j (omega arith) l)

module _ (rs : List (List ℕ)) (h : Rows rs) where
  pub text-rows : row_count (sheet_text rs) ≡ length rs
  text-rows = let e = text-length rs h in omega arith

  pub text-lines : lines_of (sheet_text rs) ≡ map row_text rs
  unfolding lines_of
  text-lines = ap (λ (n : ℕ). lines_in n (sheet_text rs)) text-rows ∙ lines-text rs h

  pub text-fields : fields_of (sheet_text rs) ≡ flatten rs
  unfolding fields_of
  text-fields = ap fields_in text-lines ∙ fields-text rs h

  text-line : (r : ℕ) → 1 ≤ r → r ≤ length rs → line_at (lines_of (sheet_text rs)) r ≡ row_text (get_or rs (r - 1) [])
  text-line r l u = ap (λ (ls : List (List ℕ)). line_at ls r) text-lines ∙ line-in rs (r - 1) (omega arith)

  -- Test 1 of each row, and test 3.
  pub text-ended : (r : ℕ) → 1 ≤ r → r ≤ length rs → ended_at (lines_of (sheet_text rs)) r ≡ true
  text-ended r l u =
      let q = get_or rs (r - 1) [] in
      let e : 6 * length q ≡ 30 = rw (row-length q (rows-each rs h (r - 1) (omega arith))) refl in
      rw (text-line r l u, rw e at (feed-part q)) refl

  pub text-formed : (r : ℕ) → 1 ≤ r → r ≤ length rs → fields_well (lines_of (sheet_text rs)) r ≡ true
  unfolding fields_well
  text-formed r l u = rw (text-line r l u) (go (get_or rs (r - 1) []) (rows-each rs h (r - 1) (omega arith)))
    where
      go : (q : List ℕ) → Row q
          → (well_formed (field_of (field_text (row_text q) 0))
          && well_formed (field_of (field_text (row_text q) 1))
          && well_formed (field_of (field_text (row_text q) 2))
          && well_formed (field_of (field_text (row_text q) 3))
          && well_formed (field_of (field_text (row_text q) 4))) ≡ true
      go q (five kind a b c d h i j k l) =
          let q : List ℕ = kind ∷ a ∷ b ∷ c ∷ d ∷ [] in
          rw (read-part q 0 (omega arith) h, read-part q 1 (omega arith) i, read-part q 2 (omega arith) j, read-part q 3 (omega arith) k, read-part q 4 (omega arith) l) refl

  pub field-at : (r j : ℕ) → 1 ≤ r → r ≤ length rs → j < 5 → field (flatten rs) r j ≡ get_or (get_or rs (r - 1) []) j 0
  field-at r j l u k = field_in rs h (r - 1) j (omega arith) k

  module _ (r : ℕ) (l : 1 ≤ r) (u : r ≤ length rs) where
    pub text-shape : shape_at (flatten rs) r ≡ row_shape (get_or rs (r - 1) [])
    unfolding shape_at
    text-shape =
        rw (field-at r 0 l u (omega arith), field-at r 1 l u (omega arith), field-at r 2 l u (omega arith), field-at r 3 l u (omega arith), field-at r 4 l u (omega arith)) refl

    pub text-range : ranges_well (flatten rs) r ≡ row_in_range (get_or rs (r - 1) [])
    unfolding ranges_well
    text-range =
        rw (field-at r 0 l u (omega arith), field-at r 1 l u (omega arith), field-at r 2 l u (omega arith), field-at r 3 l u (omega arith), field-at r 4 l u (omega arith)) refl
