-- Laws of the counts of operators and links: an operator emits on at most three links.
use Rattle.std.specs.Prelude.{ℕ, ◌+◌, ◌*◌, ◌-◌, ◌≤◌, ◌≡◌, Bool, true, false, cond, ◌&&◌, ◌||◌}
use Rattle.names.specs.Names.{trigger, one, union, common, without, range, size}
use Rattle.formula.specs.Count.{Count}

-- ---- an operator emits on at most three links
pub record Few (c : Count) : Type 0 where
  pub few : c.links ≤ 3 * c.operators
