-- "Starting from an empty memory the calls list each such sheet once" (document 02, Job 14): each call handed what the one before wrote gives the next
-- entry of the list, and behind the last 23.
use Rattle.std.specs.Prelude.{ℕ, zero, suc, ◌≤◌, ◌<◌, ◌≡◌, refl, Bool, true, false, cond, List, [], ◌∷◌, length, get_or}
use Rattle.formula.specs.FaultRows.{Among}
use Rattle.sheet_listed.specs.Small.{Behind, next, none-behind, unlisted, next_of}

-- ---- by calls
-- A call handed what an accepted one wrote. A refused one wrote nothing and is made again.
abbrev pub again : Behind → Behind
again (next s) = next_of s
again none-behind = none-behind
again unlisted = unlisted

-- What call k gives, counted from 0, of calls that start from an empty memory.
unfoldable pub called : ℕ → Behind
called zero = next_of []
called (suc k) = again (called k)
