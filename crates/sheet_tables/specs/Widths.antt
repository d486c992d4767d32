-- Document 01, "Widths", for a table: the widths of a row from those of the rows that it names.
use Rattle.std.specs.Prelude.{ℕ, ◌+◌, Bool, true, false, not, ◌&&◌, eqb, leb}
use Rattle.value.specs.Operators.{operands}
use Rattle.formula.specs.declared.Shape.{Shape}
use Rattle.formula.specs.declared.Shape.TheVariants.{Identifier, Constant, Pair, Operator, Let, If, For, Iter}
use Rattle.formula.specs.Widths.{either, agree}
use Rattle.sheet_tables.specs.declared.widths.Widths.{Widths}

abbrev pub widths : ℕ → ℕ → Bool → Widths
widths u v ok = record { returned = u; iterated = v; fits = ok }

abbrev pub pick_widths : Bool → Widths → Widths → Widths
pick_widths true x y = x
pick_widths false x y = y

-- R and I are the returned and iterated widths of earlier rows; b says whether the row is in a body place. An iter is.
unfoldable pub widths_by : Bool → (ℕ → ℕ) → (ℕ → ℕ) → Shape → Widths
unfolding operands
widths_by b R I (Identifier a) = widths 1 0 true
widths_by b R I (Constant k a) = widths 1 0 true
widths_by b R I (Pair x y) = widths (R x + R y) 0 true
widths_by b R I (Operator k x) = widths 1 0 (eqb (R x) (operands k))
widths_by b R I (Let a k x y) = widths (R y) (I y) (eqb (R x) k)
widths_by b R I (If x y z) =
    pick_widths b
    (widths (either (R y) (R z)) (either (I y) (I z)) (eqb (R x) 1 && agree (I y) (I z) && agree (R y) (R z)))
    (widths (R y) 0 (eqb (R x) 1 && eqb (R y) (R z)))
widths_by b R I (For a k x y) = widths (R y) 0 (eqb (R x) k && eqb (I y) k && not (eqb (R y) 0))
widths_by b R I (Iter x) = widths 0 (R x) true

-- Test 8 of such widths: "no width above 16", and the kind's rule.
abbrev pub well_by : Widths → Bool
well_by w = leb w.iterated 16 && leb w.returned 16 && w.fits
