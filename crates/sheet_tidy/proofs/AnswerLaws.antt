-- Laws of the call's answer: 11 and 1 to 5, and what the passed tests say. Assumes nothing.
use Prim.Native.Nat.{ℕ, ◌*◌, ◌≤◌, ◌<◌}
use mathlib.Core.Path.{◌≡◌, refl, sym, ◌∙◌}
use mathlib.Core.Bool.{Bool, true, false}
use mathlib.Core.List.{List, []}
use native.Mathlib.Omega.{arith}
use lib.Dec.{ltb}
use lib.ListN.{length}
use lib.Seq.{sets}
use borrow.Author.Tests.{lt-ltb, le-ltb}
use Rattle.value.specs.Operators.{pick}
use Rattle.formula.specs.declared.Refusal.{Refusal}
use Rattle.formula.specs.declared.Refusal.TheVariants.{Memory}
use Rattle.formula.specs.Results.{refused}
use Rattle.std.specs.Prelude.{Ok}
use Rattle.formula.specs.Refusals.{number_of}
use Rattle.formula.specs.Sheet.{row_count, fields_of}
use Rattle.formula.proofs.Acceptance.{low-row}
use Rattle.sheet_read.specs.Reading.{row_verdict}
use Rattle.sheet_read.proofs.ReadLaws.{rows-refuse}
use Rattle.sheet_tidied.specs.Text.{sheet_text}
use Rattle.sheet_tidied.specs.Tidy.{new_rows, tidied, tidy_need, most_sheet_bytes}
use Rattle.sheet_tidied.specs.Rowwise.{Rowwise}
use Rattle.sheet_tidied.proofs.Written.{tidied-fits, written-sets}
use Rattle.sheet_tidy.specs.Rows.{rows_of}
use Rattle.sheet_tidy.specs.Tidying.{handed, answers, by_verdict, tidied_into}

module _ (s : List ℕ) where
  -- The row of a refusal is small.
  pub refused-low : (r : Refusal) (row : ℕ) → row_verdict s ≡ refused r row → row ≤ 200
  refused-low r row h = low-row s [] r row (sym (rows-refuse s [] (row_verdict s) r row refl h))

  module _ (out : List ℕ) where
    pub memory-short : length out < tidy_need s → handed (answers (number_of Memory) 0 0) out ≡ tidied_into s out
    unfolding tidied_into
    memory-short h = rw (lt-ltb (length out) (tidy_need s) h) refl

    module _ (h : tidy_need s ≤ length out) where
      pub tests-refuse : (r : Refusal) (row : ℕ) → row_verdict s ≡ refused r row → handed (answers (number_of r) row 0) out ≡ tidied_into s out
      unfolding tidied_into by_verdict
      tests-refuse r row e = rw (le-ltb (length out) (tidy_need s) h, e) refl

      -- A sheet that has room for all of its rows.
      pub room : Rowwise s → 31 * row_count s ≤ length out
      unfolding tidy_need
      room ok = go (ltb most_sheet_bytes (length s)) ok.few h
        where
          go : (b : Bool) → row_count s ≤ 200 → pick b most_sheet_bytes (length s) ≤ length out → 31 * row_count s ≤ length out
          go true few h = omega arith
          go false few h = omega arith

      pub tests-pass : row_verdict s ≡ Ok tt → (c : ℕ) (out' : List ℕ) → c ≡ length (rows_of (fields_of s) (row_count s))
          → out' ≡ sets out 0 (sheet_text (rows_of (fields_of s) (row_count s))) → handed (answers 0 0 c) out' ≡ tidied_into s out
      unfolding tidied_into by_verdict new_rows tidied
      tests-pass e c out' f g =
          let fits : length (tidied s) ≤ length out = omega (arith, tidied-fits s e) in
          rw (le-ltb (length out) (tidy_need s) h, e, f, g ∙ written-sets s out fits) refl
