-- Document 01, "Said by what was handed in", and document 02, Job 6: a sheet is accepted with its kinds line if and only if each of the ten
-- tests passes, spelled out over the whole sheet and over its rows, and both tests of its kinds.
use Rattle.std.specs.Prelude.{ℕ, ◌-◌, ◌≤◌, Bool, true, false, ◌↔◌, List, [], ◌∷◌, ◌++◌, leb, Ok}
use Rattle.std.proofs.Math.Path.{◌≡◌}
use borrow.Author.Tests.{leb-true, le-leb}
use Rattle.names.specs.Names.{without, one, trigger}
use Rattle.formula.specs.Results.{Verdict, refused}
use Rattle.formula.specs.declared.Refusal.{Refusal}
use Rattle.formula.specs.declared.Figures.{Figures}
use Rattle.formula.specs.Refusals.{number_of}
use Rattle.formula.specs.Sheet.{row_count, lines_of, fields_of}
use Rattle.formula.specs.Places.{places_of}
use Rattle.formula.specs.Tests.{Test, laid_out, fields_well, ranges_well, names_well, named_once, all_named, placed_well, widths_well, bound_well, line_fits, kinds_kept, operators_of, sheet_of}
use Rattle.formula.specs.Verdicts.{Each, FaultSays}

-- What the ten tests ask.
pub record Admissible (s : List ℕ) : Type 0 where
  -- 1 and 2
  pub laid : laid_out s (lines_of s) ≡ true
  pub few : row_count s ≤ 200
  -- 3, 4 and 5
  pub formed : (r : ℕ) → 1 ≤ r → r ≤ row_count s → fields_well (lines_of s) r ≡ true
  pub ranged : (r : ℕ) → 1 ≤ r → r ≤ row_count s → ranges_well (fields_of s) r ≡ true
  pub names : (r : ℕ) → 1 ≤ r → r ≤ row_count s → names_well (fields_of s) r ≡ true
  -- 6: every row but the last
  pub named : (r : ℕ) → 1 ≤ r → r ≤ row_count s - 1 → named_once (all_named (fields_of s) (row_count s)) r ≡ true
  -- 7, 8 and 9
  pub placed : (r : ℕ) → 1 ≤ r → r ≤ row_count s → placed_well (fields_of s) (places_of (fields_of s) (row_count s)) r ≡ true
  pub wide : (r : ℕ) → 1 ≤ r → r ≤ row_count s → widths_well (fields_of s) (places_of (fields_of s) (row_count s)) r ≡ true
  pub bound : (r : ℕ) → 1 ≤ r → r ≤ row_count s → bound_well (fields_of s) (places_of (fields_of s) (row_count s)) r ≡ true
  -- 10
  pub operators : operators_of (fields_of s) (row_count s) ≤ 1024

-- What the two tests of its kinds line ask.
pub record Kinded (s line : List ℕ) : Type 0 where
  -- 17
  pub told : line_fits (fields_of s) (row_count s) line ≡ true
  -- 18
  pub kept : kinds_kept (fields_of s) (row_count s) line ≡ Ok tt

-- The papers' numbers, in their order: "17 .., 18 .., in this order after 9 and before 10".
abbrev pub numbers_of : List Test → List ℕ
numbers_of [] = []
numbers_of (x ∷ xs) = number_of x.refusal ∷ numbers_of xs

-- ---- the numbers of an answer are small
-- A refusal within 200 rows.
abbrev pub Low : Verdict → Type 0
Low v = (k : Refusal) (row : ℕ) → v ≡ refused k row → row ≤ 200

abbrev pub In-sheet : List ℕ → List Test → Type 0
In-sheet s ts = Each (FaultSays (λ r row. row ≤ row_count s) (sheet_of s)) ts

-- The figures of an accepted sheet.
pub record Modest (f : Figures) : Type 0 where
  pub rows : f.rows ≤ 200
  pub operators : f.operators ≤ 1024
  pub inputs : f.inputs ≤ 33
  pub results : f.results ≤ 16
