-- Laws of specs/StartCases.antt, and what only they need.
use Rattle.std.specs.Prelude.{◌≡◌, refl, map, replicate}
use Rattle.formula.specs.Tree.{formula_of}
use Rattle.formula.specs.Tests.{verdict_of}
use Rattle.machine_layout.specs.Layout.{capacity_in}
use Rattle.machine_start.specs.Start.{started}
use Rattle.demand_begin.specs.StartCases.{starts}

pub starts-worked : map (λ c. (started c.sheet c.line c.capacity (replicate c.lent 0)).answer) starts ≡ map (λ c. c.gives) starts
unfolding starts started capacity_in verdict_of formula_of
starts-worked = refl
