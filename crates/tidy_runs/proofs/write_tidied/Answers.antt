use borrow.Author.Rules.{rules}
use mathlib.Core.Path.{sym}
use lib.Seq.{length-take-le}
use Rattle.tidy_runs.proofs.write_tidied.Goals as goal

pub slice_bounds-write_all-end-then-rows-le-MOST_ROWS : goal.slice_bounds-write_all-end-then-rows-le-MOST_ROWS
slice_bounds-write_all-end-then-rows-le-MOST_ROWS g c = sym (length-take-le _ _ (search rules))
