-- Document 02, Job 8: "Tidying twice changes nothing more", of the call and every lent byte. What an accepted call wrote from the start of the memory is the new
-- sheet; a copy of it, tidied into that same memory, is accepted with as many rows and leaves every byte. Assumes that the sheet passes tests 1 to 5 and the
-- memory is as long as the call needs, so that it is accepted.
use Rattle.std.specs.Prelude.{ℕ, ◌*◌, ◌≤◌, ◌≡◌, refl, Bool, true, false, List, ltb, length, take, Ok}
use Rattle.std.proofs.Common.{sym, ap, ◌∙◌, le-ltb, ltb-true, arith}
use Rattle.value.specs.Operators.{pick}
use Rattle.sheet_tidied.specs.Tidy.{new_rows, tidied, most_sheet_bytes, tidy_need, tidy_written}
use Rattle.sheet_read.specs.Reading.{row_verdict}
use Rattle.sheet_tidied.proofs.Tidied.{tidied-fields, tidied-passes}
use Rattle.sheet_tidied.proofs.Stays.{tidied-twice}
use Rattle.sheet_tidied.proofs.Written.{tidied-fits, written-length, written_new, written_twice}
use Rattle.sheet_tidy.specs.Tidying.{Handed, handed, answers, by_verdict, tidied_into}

-- An accepted call.
pub tidy-accepted : (s out : List ℕ) → row_verdict s ≡ Ok tt → tidy_need s ≤ length out → tidied_into s out ≡ handed (answers 0 0 (length (new_rows s))) (tidy_written s out)
unfolding tidied_into by_verdict
tidy-accepted s out h l = rw (le-ltb (length out) (tidy_need s) l, h) refl

need-most : (s : List ℕ) → tidy_need s ≤ length s
unfolding tidy_need
need-most s = go (ltb most_sheet_bytes (length s)) refl
  where
    go : (b : Bool) → ltb most_sheet_bytes (length s) ≡ b → pick b most_sheet_bytes (length s) ≤ length s
    go true e = let m = ltb-true most_sheet_bytes (length s) e in omega (arith, m)
    go false e = omega arith

module _ (s out : List ℕ) (h : row_verdict s ≡ Ok tt) (l : tidy_need s ≤ length out) where
  fits : length (tidied s) ≤ length out
  fits = omega (arith, tidied-fits s h, l)

  abbrev done : Handed
  done = tidied_into s out

  -- "writes the sheet from the start of a lent memory, giving its row count"
  pub new-sheet-written : take (31 * done.answer.rows) done.out ≡ tidied s
  new-sheet-written =
      ap (λ (d : Handed). take (31 * d.answer.rows) d.out) (tidy-accepted s out h l)
      ∙ ap (λ (n : ℕ). take n (tidy_written s out)) (sym (tidied-fields s h).bytes) ∙ written_new s out fits

  same-rows : length (new_rows (tidied s)) ≡ length (new_rows s)
  same-rows =
      let a = (tidied-fields (tidied s) (tidied-passes s h)).bytes in
      let b = (tidied-fields s h).bytes in
      let c = ap length (tidied-twice s h) in
      omega (arith, a, b, c)

  pub call-twice : tidied_into (tidied s) done.out ≡ done
  call-twice =
      let e = tidy-accepted s out h l in
      let room : tidy_need (tidied s) ≤ length (tidy_written s out) = omega (arith, need-most (tidied s), written-length s out fits, fits) in
      ap (λ (d : Handed). tidied_into (tidied s) d.out) e
      ∙ tidy-accepted (tidied s) (tidy_written s out) (tidied-passes s h) room
      ∙ ap (λ (n : ℕ). handed (answers 0 0 n) (tidy_written (tidied s) (tidy_written s out))) same-rows
      ∙ ap (handed (answers 0 0 (length (new_rows s)))) (written_twice s out h)
      ∙ sym e
