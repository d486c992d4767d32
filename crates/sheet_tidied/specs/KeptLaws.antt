-- The rows that are kept are those reachable from the last (document 02, Job 8: "drops every row not reachable from the last"). Rests on test 5: a
-- row names only rows from 1 to the one before it, so that a row's mark is settled when its turn comes.
use Prim.Native.Nat.{ℕ, zero, suc, ◌-◌, ◌≤◌, ◌<◌}
use Rattle.std.specs.Prelude.{◌≡◌, refl, ◌↔◌, ◌⊎◌, Bool, cond, List, [], ◌∷◌, length, get_or, set, replicate}
use Rattle.formula.specs.Sheet.{shape_at, named_in}
use Rattle.formula.specs.Places.{mark}
use Rattle.formula.specs.FaultRows.{Among}
use Rattle.formula.specs.TreeLaws.{AllBetween, Named}
use Rattle.sheet_tidied.specs.Tidy.{is_kept}

-- ---- row by row
-- What row r does to the marks.
abbrev pub keep_row : List ℕ → ℕ → List Bool → List Bool
keep_row t r k = cond (is_kept k r) (mark (named_in (shape_at t r)) k) k
