-- Laws of what the code's passes leave: the kept rows and their new numbers, one row at a time. Assumes nothing.
use Prim.Native.Nat.{ℕ, ◌+◌, ◌-◌, ◌≤◌}
use mathlib.Core.Path.{◌≡◌, refl, sym, ap, subst, ◌∙◌}
use mathlib.Core.Bool.{Bool, true, false}
use mathlib.Core.List.{List, [], ◌∷◌}
use native.Mathlib.Omega.{arith}
use lib.ListN.{length, get_or}
use Rattle.formula.specs.Sheet.{shape_at}
use Rattle.formula.specs.TreeLaws.{AllBetween, Named}
use Rattle.sheet_tables.specs.Nodes.{Holds}
use Rattle.sheet_tidied.specs.Tidy.{kept_of, new_number, renamed, new_row}
use Rattle.sheet_tidied.proofs.KeptLaws.{kept-length}
use Rattle.sheet_tidied.proofs.NumberLaws.{number_more, rows-length}
use Rattle.sheet_tidied.proofs.ShapeLaws.{renamed-alike}
use Rattle.sheet_tidy.specs.Rows.{rows_of}

pub between-wider : (r n : ℕ) (xs : List ℕ) → r ≤ n → AllBetween r xs → AllBetween n xs
between-wider r n [] h b = tt
between-wider r n (x ∷ xs) h b = ((b.0.0, omega (arith, b.0.1)), between-wider r n xs h b.1)

-- Row i + 1, where it is kept, and where it is left out.
module _ (k : List Bool) (i : ℕ) where
  pub number-kept : get_or k i false ≡ true → new_number k (i + 1) ≡ new_number k i + 1
  number-kept h = number_more k i ∙ rw h refl

  pub number-left : get_or k i false ≡ false → new_number k (i + 1) ≡ new_number k i
  number-left h = number_more k i ∙ rw h (omega arith)

-- A row by a table of the new numbers.
pub new_by : (t : List ℕ) (k : List Bool) (n : ℕ) (numbers : List ℕ) → Named t n → Holds 0 numbers n (new_number k) → (r : ℕ) → 1 ≤ r → r ≤ n
    → renamed (λ x. get_or numbers (x - 1) 0) (shape_at t r) ≡ new_row t k r
unfolding new_row
new_by t k n numbers ok h r a b =
    renamed-alike r (λ x. get_or numbers (x - 1) 0) (new_number k) (λ x c d. h.entry x c (omega arith)) (shape_at t r) (ok.names r a b)

-- A table of k's numbers that was lent in part.
pub numbers-back : (n : ℕ) (l l' : List ℕ) (k : List Bool) → l ≡ l' → length k ≡ n → Holds 0 l' (length k) (new_number k) → Holds 0 l n (new_number k)
numbers-back n l l' k e f h = subst (λ (x : List ℕ). Holds 0 x n (new_number k)) (sym e) (subst (λ (j : ℕ). Holds 0 l' j (new_number k)) f h)

-- As many rows as the last has for its new number.
pub rows-counted : (t : List ℕ) (n c : ℕ) (k : List Bool) → k ≡ kept_of t n → c ≡ new_number k (length k) → c ≡ length (rows_of t n)
rows-counted t n c k e h =
    h ∙ ap (λ (x : List Bool). new_number x (length x)) e ∙ ap (new_number (kept_of t n)) (kept-length t n) ∙ sym (rows-length t (kept_of t n) n)
