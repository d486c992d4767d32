-- Laws of the rows of a tidied sheet as they are written, one behind another. Assumes nothing.
use Prim.Native.Nat.{ℕ, zero, suc, ◌+◌, ◌*◌, ◌≤◌, ◌<◌}
use mathlib.Core.Path.{◌≡◌, refl, sym, ap, ◌∙◌}
use mathlib.Core.Bool.{Bool, true, false, cond}
use mathlib.Core.List.{List, [], ◌∷◌, ◌++◌}
use native.Mathlib.Omega.{arith}
use lib.ListN.{length, get_or, length-append}
use lib.Seq.{sets, length-sets}
use Rattle.formula.specs.declared.Shape.{Shape}
use Rattle.formula.specs.declared.Shape.TheVariants.{Identifier, Constant, Pair, Operator, Let, If, For, Iter}
use Rattle.formula.specs.Sheet.{shape_at}
use Rattle.text.proofs.PrintLaws.{written_both}
use Rattle.sheet_tidied.specs.Text.{row_text, sheet_text}
use Rattle.sheet_tidied.specs.Tidy.{is_kept, new_number, renamed, new_row, kept_rows}
use Rattle.sheet_tidied.proofs.NumberLaws.{number-most}
use Rattle.sheet_tidied.proofs.TextLaws.{row-text-length, text-append}
use Rattle.sheet_tidied.proofs.Written.{text-kept, text-dropped}
use Rattle.sheet_tidy.proofs.KeptLaws.{number-kept, number-left}

-- ---- one row

five-fields : (f : ℕ → ℕ) (s : Shape) → length (renamed f s) ≡ 5
unfolding renamed
five-fields f (Identifier a) = refl
five-fields f (Constant kind a) = refl
five-fields f (Pair a b) = refl
five-fields f (Operator a b) = refl
five-fields f (Let a b c d) = refl
five-fields f (If a b c) = refl
five-fields f (For a b c d) = refl
five-fields f (Iter a) = refl

new-length : (t : List ℕ) (k : List Bool) (r : ℕ) → length (row_text (new_row t k r)) ≡ 31
unfolding new_row
new-length t k r = row-text-length (renamed (new_number k) (shape_at t r)) ∙ (let e = five-fields (new_number k) (shape_at t r) in omega arith)

-- ---- rows one behind another

module _ (t : List ℕ) (k : List Bool) where
  -- As far as the rows are written, 31 bytes each.
  pub kept-text-length : (i : ℕ) → length (sheet_text (kept_rows t k i)) ≡ 31 * new_number k i
  unfolding kept_rows new_number sheet_text
  kept-text-length zero = refl
  kept-text-length (suc i) =
      ap length (text-append (kept_rows t k i) _) ∙ length-append (sheet_text (kept_rows t k i)) _ ∙ go (is_kept k (suc i)) (kept-text-length i)
    where
      go : (b : Bool) → length (sheet_text (kept_rows t k i)) ≡ 31 * new_number k i
          → length (sheet_text (kept_rows t k i)) + length (sheet_text (cond b (new_row t k (suc i) ∷ []) [])) ≡ 31 * (new_number k i + cond b 1 0)
      go true e = let a = length-append (row_text (new_row t k (suc i))) [] in let b = new-length t k (suc i) in omega arith
      go false e = omega arith

  pub row_written : (i : ℕ) (out : List ℕ) → get_or k i false ≡ true → 31 * (i + 1) ≤ length out
      → sets (sets out 0 (sheet_text (kept_rows t k i))) (31 * new_number k i) (row_text (new_row t k (i + 1))) ≡ sets out 0 (sheet_text (kept_rows t k (i + 1)))
  row_written i out h room =
      let e : length (sheet_text (kept_rows t k i)) ≡ 31 * new_number k i = kept-text-length i in
      let l : length (row_text (new_row t k (i + 1))) ≡ 31 = new-length t k (i + 1) in
      let b = number-most k i in
      let z : 31 * new_number k i ≡ 0 + length (sheet_text (kept_rows t k i)) = omega arith in
      ap (λ (x : ℕ). sets (sets out 0 (sheet_text (kept_rows t k i))) x (row_text (new_row t k (i + 1)))) z
      ∙ written_both out 0 (sheet_text (kept_rows t k i)) (row_text (new_row t k (i + 1))) (omega arith)
      ∙ ap (sets out 0) (sym (text-kept t k i h))

-- ---- the rows in turn

-- Of n rows the kept ones of the first i are written from the start of o, which is now out; at is where the next one goes.
pub record Writing (t : List ℕ) (k : List Bool) (n : ℕ) (o out : List ℕ) (at i : ℕ) : Type 0 where
  pub upto : i ≤ n
  pub place : at ≡ 31 * new_number k i
  pub bytes : out ≡ sets o 0 (sheet_text (kept_rows t k i))
  pub size : length out ≡ length o

module _ (t : List ℕ) (k : List Bool) (n : ℕ) (o : List ℕ) where
  pub writing_start : Writing t k n o o 0 0
  unfolding new_number kept_rows sheet_text
  writing_start = record { upto = omega arith; place = refl; bytes = refl; size = refl }

  module _ (out : List ℕ) (at i : ℕ) (w : Writing t k n o out at i) where
    -- The next row has room.
    pub writing-room : i < n → 31 * n ≤ length o → at + 31 ≤ length out
    writing-room h room = omega (arith, number-most k i, w.place, w.size)

    pub writing-kept : i < n → 31 * n ≤ length o → get_or k i false ≡ true → (row : List ℕ) → row ≡ new_row t k (i + 1)
        → Writing t k n o (sets out at (row_text row)) (at + 31) (i + 1)
    writing-kept h room kept row e =
        let next = number-kept k i kept in
        record {
          upto = omega arith;
          place = omega (arith, w.place);
          bytes = rw (w.bytes, w.place, e) (row_written t k i o kept (omega arith));
          size = length-sets out at (row_text row) ∙ w.size;
        }

    pub writing-left : i < n → get_or k i false ≡ false → Writing t k n o out at (i + 1)
    writing-left h left =
        let next = number-left k i left in
        record {
          upto = omega arith;
          place = omega (arith, w.place);
          bytes = w.bytes ∙ ap (sets o 0) (sym (text-dropped t k i left));
          size = w.size;
        }

    pub writing-end : n ≤ i → out ≡ sets o 0 (sheet_text (kept_rows t k n))
    writing-end h = let e : i ≡ n = omega (arith, w.upto) in w.bytes ∙ ap (λ (j : ℕ). sets o 0 (sheet_text (kept_rows t k j))) e
