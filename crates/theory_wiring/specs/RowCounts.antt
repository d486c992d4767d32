-- Counting the graphs that the translation puts together (graph/specs/Translation): rows of gates with one control, and an if behind its test.
-- A set's size over the 33 places is its total over all names where it has no other names. Assumes nothing.
use Rattle.std.specs.Prelude.{ℕ, zero, suc, ◌+◌, ◌*◌, ◌-◌, ◌≤◌, ◌<◌, ◌≡◌, Bool, ◌&&◌, length}
use mathlib.Core.List.{List, [], ◌∷◌}
use borrow.Author.Tests.{eqb-true, eqb-false, eq-eqb}
use native.Mathlib.Omega.{arith}
use Rattle.names.specs.Names.{Names, one, common, bit, size, size_from}
use Rattle.formula.specs.Count.{Count, ◌⊕◌, gates, copies}
use Rattle.graph.specs.Assembly.{Graph, nothing, free, member_of, total, name_count}
use Rattle.graph.specs.Fit.{Different}
use Rattle.graph.specs.Translation.{test_name, row}
use Rattle.theory_yields.specs.Naming.{Small}

-- Two counts are the same.
abbrev pub Same : Count → Count → Type 0
Same u v = (u.operators ≡ v.operators) × (u.links ≡ v.links)
