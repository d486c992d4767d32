-- The judgement of all schedules (demand 3's one good order of firings): from one load to another, on every base that is empty in a region, by
-- a list of firings that is possible with one place a link and has at least a given length. The length is what an evaluation that needs more
-- rounds than were lent leaves behind. Knows of no gate and no formula.
use Rattle.std.specs.Prelude.{ℕ, ◌≤◌, ◌+◌, ◌≡◌, refl, List, [], ◌++◌, length}
use Rattle.network.specs.Net.{Demand, Links}
use Rattle.theory_schedule.specs.Schedules.{reached}

-- The capacity is one at every link.
abbrev pub one_place : ℕ → ℕ
one_place l = 1

-- A network with what is asked of the lists of firings made in it (`Fine`), which holds of none and of one list after another. The schedules of
-- demand 3 ask for nothing (`any-list`); a reference with twins asks that each comes late.
pub record Net : Type 1 where
  pub at : ℕ → Demand
  pub Fine : List ℕ → Type 0
  pub fine-none : Fine []
  pub fine-both : (u w : List ℕ) → Fine u → Fine w → Fine (u ++ w)

abbrev pub any-list : (ℕ → Demand) → Net
any-list graph = record { at = graph; Fine = λ w. Unit {0}; fine-none = tt; fine-both = λ u w a b. tt }
