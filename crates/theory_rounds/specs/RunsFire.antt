-- Runs one after another as one list of firings: possible, and as long as the lent numbers together, or up to where nothing can fire. Where some list of firings leads
-- to a state in which nothing can fire, runs lent more than its length lead to that state too. Assumes for the latter that operators commute.
use Rattle.std.specs.Prelude.{ℕ, suc, ◌+◌, ◌≤◌, ◌<◌, ◌≡◌, refl, ◌≢◌, ◌⊎◌}
use mathlib.Core.List.{List, [], ◌∷◌, ◌++◌, map}
use Rattle.theory_schedule.specs.Schedules.{remaining}
use Rattle.theory_schedule.specs.Counts.{count}
use Rattle.network.specs.Net.{Links, Able, act}
use Rattle.network.specs.Commute.{Free}
use Rattle.theory_pieces.specs.Tape.{Step, pushing, firing, taking}
use Rattle.formula.specs.Tree.{Exp}
use Rattle.theory_verdicts.specs.Running.{places, operator_at, dec_able, runs, after_steps, accept, run_steps, steps_of, steps_from}

-- the lent numbers together
abbrev pub total : List ℕ → ℕ
total [] = 0
total (n ∷ ns) = n + total ns

-- the operators of firings, in order
abbrev pub operators-of : List Step → List ℕ
operators-of [] = []
operators-of (firing a ∷ w) = a ∷ operators-of w
operators-of (pushing v ∷ w) = operators-of w
operators-of (taking ∷ w) = operators-of w
