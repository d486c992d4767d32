-- A tidied sheet in lent memory (document 02, Job 8: "writes the sheet from the start of a lent memory"): its rows written one behind another, that
-- it fits what the call needs, and that a copy of it, tidied into the same memory, leaves every byte there.
use Rattle.std.specs.Prelude.{ℕ, ◌+◌, ◌≤◌, ◌≡◌, Bool, cond, List, [], ◌∷◌, ◌++◌, get_or, set, take, drop, Ok}
use Rattle.std.proofs.Math.Path.{refl}
use Rattle.std.proofs.Common.{ap, ◌∙◌, append-nil, length-drop, drop_at}
use Rattle.std.proofs.Math.Bool.{true, false}
use Rattle.std.proofs.Math.Dec.{ltb}
use Rattle.std.proofs.Math.ListN.{length, length-append}
use Rattle.std.proofs.lemmas.List.Edits.{sets, sets-eq}
use Rattle.std.proofs.Math.Seq.{length-sets, take_at}
use borrow.Author.Tests.{ltb-true}
use native.Mathlib.Omega.{arith}
use Rattle.value.specs.Operators.{pick}
use Rattle.text.specs.Printed.{number_field}
use Rattle.text.proofs.PrintLaws.{number-length, written_both}
use Rattle.sheet_tidied.specs.Text.{row_text, sheet_text}
use Rattle.sheet_tidied.specs.Tidy.{new_row, kept_rows, tidied, most_sheet_bytes, tidy_need, tidy_written}
use Rattle.sheet_read.specs.Reading.{row_verdict}
use Rattle.sheet_tidied.proofs.NumberLaws.{rows_more}
use Rattle.sheet_tidied.proofs.TextLaws.{row-text-length, text-append, text-one}
use Rattle.sheet_tidied.proofs.Rowwise.{passes-rowwise}
use Rattle.sheet_tidied.proofs.Tidied.{tidied-fields}
use Rattle.sheet_tidied.proofs.Stays.{tidied-twice}

-- ---- a row by its fields, and the sheet by its rows
field-first : (l : List ℕ) (at x : ℕ) (r : List ℕ) → at + (6 + length (row_text r)) ≤ length l → sets (sets l at (number_field x)) (at + 6) (row_text r) ≡ sets l at (row_text (x ∷ r))
unfolding row_text
field-first l at x r h =
    let u = number-length x in
    let e : at + 6 ≡ at + length (number_field x) = omega arith in
    rw e (written_both l at (number_field x) (row_text r) (omega arith))

-- Five fields and a line feed are a row.
pub row-parts : (l : List ℕ) (at kind a b c d : ℕ) → at + 31 ≤ length l
    → set (sets (sets (sets (sets (sets l at (number_field kind)) (at + 6) (number_field a)) (at + 12) (number_field b)) (at + 18) (number_field c)) (at + 24) (number_field d)) (at + 30) 10
    ≡ sets l at (row_text (kind ∷ a ∷ b ∷ c ∷ d ∷ []))
unfolding row_text
row-parts l at kind a b c d h =
    let l1 = sets l at (number_field kind) in
    let l2 = sets l1 (at + 6) (number_field a) in
    let l3 = sets l2 (at + 12) (number_field b) in
    let l4 = sets l3 (at + 18) (number_field c) in
    let n1 : length l1 ≡ length l = length-sets l at (number_field kind) in
    let n2 : length l2 ≡ length l = length-sets l1 (at + 6) (number_field a) ∙ n1 in
    let n3 : length l3 ≡ length l = length-sets l2 (at + 12) (number_field b) ∙ n2 in
    let n4 : length l4 ≡ length l = length-sets l3 (at + 18) (number_field c) ∙ n3 in
    let e1 : at + 12 ≡ at + 6 + 6 = omega arith in
    let e2 : at + 18 ≡ at + 12 + 6 = omega arith in
    let e3 : at + 24 ≡ at + 18 + 6 = omega arith in
    let e4 : at + 30 ≡ at + 24 + 6 = omega arith in
    ap (λ (j : ℕ). sets (sets l4 (at + 24) (number_field d)) j (row_text [])) e4
    ∙ field-first l4 (at + 24) d [] (omega (arith, n4, row-text-length []))
    ∙ ap (λ (j : ℕ). sets l4 j (row_text (d ∷ []))) e3
    ∙ field-first l3 (at + 18) c (d ∷ []) (omega (arith, n3, row-text-length (d ∷ [])))
    ∙ ap (λ (j : ℕ). sets l3 j (row_text (c ∷ d ∷ []))) e2
    ∙ field-first l2 (at + 12) b (c ∷ d ∷ []) (omega (arith, n2, row-text-length (c ∷ d ∷ [])))
    ∙ ap (λ (j : ℕ). sets l2 j (row_text (b ∷ c ∷ d ∷ []))) e1
    ∙ field-first l1 (at + 6) a (b ∷ c ∷ d ∷ []) (omega (arith, n1, row-text-length (b ∷ c ∷ d ∷ [])))
    ∙ field-first l at kind (a ∷ b ∷ c ∷ d ∷ []) (omega (arith, row-text-length (a ∷ b ∷ c ∷ d ∷ [])))

module _ (t : List ℕ) (k : List Bool) (i : ℕ) where
  -- The text with row i + 1, if it is kept.
  pub text-kept : get_or k i false ≡ true → sheet_text (kept_rows t k (i + 1)) ≡ sheet_text (kept_rows t k i) ++ row_text (new_row t k (i + 1))
  text-kept h =
      ap sheet_text (rows_more t k i)
      ∙ ap (λ (b : Bool). sheet_text (kept_rows t k i ++ cond b (new_row t k (i + 1) ∷ []) [])) h
      ∙ text-append (kept_rows t k i) (new_row t k (i + 1) ∷ [])
      ∙ ap (λ (x : List ℕ). sheet_text (kept_rows t k i) ++ x) (text-one (new_row t k (i + 1)))

  pub text-dropped : get_or k i false ≡ false → sheet_text (kept_rows t k (i + 1)) ≡ sheet_text (kept_rows t k i)
  text-dropped h =
      ap sheet_text (rows_more t k i)
      ∙ ap (λ (b : Bool). sheet_text (kept_rows t k i ++ cond b (new_row t k (i + 1) ∷ []) [])) h
      ∙ ap sheet_text (append-nil (kept_rows t k i))

-- ---- the whole sheet in memory
module _ (s : List ℕ) (h : row_verdict s ≡ Ok tt) where
  -- It fits what the call needs.
  pub tidied-fits : length (tidied s) ≤ tidy_need s
  unfolding tidy_need
  tidied-fits = go (ltb most_sheet_bytes (length s)) refl
    where
      go : (b : Bool) → ltb most_sheet_bytes (length s) ≡ b → length (tidied s) ≤ pick b most_sheet_bytes (length s)
      go true e = let ok = passes-rowwise s h in omega (arith, ltb-true most_sheet_bytes (length s) e, ok.bytes, ok.few)
      go false e = (tidied-fields s h).shorter

module _ (s out : List ℕ) (l : length (tidied s) ≤ length out) where
  pub written-sets : sets out 0 (tidied s) ≡ tidy_written s out
  unfolding tidy_written
  written-sets = let z : 0 + length (tidied s) ≡ length (tidied s) = omega arith in rw z at (sets-eq (tidied s) out 0 (omega arith))

  pub written-length : length (tidy_written s out) ≡ length out
  unfolding tidy_written
  written-length = length-append (tidied s) (drop (length (tidied s)) out) ∙ rw (length-drop (length (tidied s)) out) (omega arith)

  -- What is written from the start is the new sheet.
  pub written_new : take (length (tidied s)) (tidy_written s out) ≡ tidied s
  unfolding tidy_written
  written_new = take_at (tidied s) (drop (length (tidied s)) out) (length (tidied s)) refl

-- A copy of the new sheet, tidied into the memory that holds it, leaves every byte there.
pub written_twice : (s out : List ℕ) → row_verdict s ≡ Ok tt → tidy_written (tidied s) (tidy_written s out) ≡ tidy_written s out
unfolding tidy_written
written_twice s out h =
    rw (tidied-twice s h) (ap (λ (x : List ℕ). tidied s ++ x) (drop_at (tidied s) (drop (length (tidied s)) out) (length (tidied s)) refl))
