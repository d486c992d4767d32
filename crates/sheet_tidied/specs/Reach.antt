-- Which rows can be reached from the last (document 02, Job 8: "every row not reachable from the last"): the last itself, and every row that a field
-- of a reachable row names. A relation of its own, by which the kept rows (Tidy `kept_of`) are judged. Definitions only; assumes nothing.
use Rattle.std.specs.Prelude.{ℕ, List}
use Rattle.formula.specs.Sheet.{shape_at, named_in}
use Rattle.formula.specs.FaultRows.{Among}

-- Of n rows with the fields t.
pub data Reachable (t : List ℕ) (n : ℕ) : ℕ → Type 0 where
  last : Reachable t n n
  named_by : (r x : ℕ) → Reachable t n r → Among x (named_in (shape_at t r)) → Reachable t n x
