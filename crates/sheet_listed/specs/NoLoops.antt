-- No sheet of at most 5 rows that passes tests 4 to 8 has a for or an iter: the tree of a for has at least 7 rows, that of row k at most k, and an iter
-- stands in a for's body only. So all its places are expression places.
use Prim.Native.Nat.{ℕ, zero, suc, ◌+◌, ◌-◌, ◌≤◌, ◌<◌}
use Rattle.std.specs.Prelude.{◌≡◌, Bool, cond, ◌&&◌, ◌||◌, List, [], ◌∷◌, ◌++◌, eqb, replicate}
use Rattle.std.proofs.Math.Bool.{true, false}
use native.Mathlib.Omega.{arith}
use borrow.Author.Tests.{eqb-true, eqb-false, ne_eqb, leb-true, not-true}
use Rattle.formula.specs.declared.Shape.{Shape}
use Rattle.formula.specs.declared.Shape.TheVariants.{Identifier, Constant, Pair, Operator, Let, If, For, Iter}
use Rattle.formula.specs.Sheet.{row_count, fields_of, field, shape_of, shape_at, named_in}
use Rattle.formula.specs.Tree.{Exp, for_e, Body, ret, exp_node, body_node, exp_of, body_of}
use Rattle.formula.specs.Places.{bodies_in, is_in_body, mark, mark_down, places_of, node_in}
use Rattle.formula.specs.Widths.{width, returned, iterated, fitting_e, fitting_b, wide_e, wide_b}
use Rattle.formula.specs.Tests.{occurrences, all_named, binds_well, in_range, ranges_well, is_iter, placed_well, wide_node, widths_well}
use Rattle.formula.specs.TreeLaws.{AllBetween}
use Rattle.formula.specs.PlaceLaws.{Sound}

-- ---- no body places, so no iter
abbrev pub is_for : Shape → Bool
is_for (Identifier a) = false
is_for (Constant k a) = false
is_for (Pair a b) = false
is_for (Operator a b) = false
is_for (Let a b c d) = false
is_for (If a b c) = false
is_for (For a b c d) = true
is_for (Iter a) = false
