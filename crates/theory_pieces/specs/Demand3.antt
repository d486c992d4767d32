-- Demand 3's second half for a machine over any piece that has the schedule lemma, at every capacity of at least one place: the reference is
-- push, the piece's schedule, take, for one set after another (the first half goes by it too, in Alone.antt); the residual carries it over to every list of events.
-- Assumes that operators commute (network, Commute.antt and Wired.antt).
use Rattle.std.specs.Prelude.{ℕ, suc, ◌<◌, ◌≤◌, ◌+◌, ◌≡◌, refl, ◌≢◌, ◌⊎◌, length}
use mathlib.Core.List.{List, [], ◌∷◌, ◌++◌}
use Rattle.theory_schedule.specs.Schedules.{reached}
use Rattle.theory_schedule.specs.Counts.{count}
use Rattle.value.specs.declared.Value.{Value}
use Rattle.network.specs.Values.{true-value}
use Rattle.network.specs.Net.{Token, val, Demand, Links, tail, Able, act, label}
use Rattle.network.specs.Commute.{Free}
use Rattle.network.specs.Uses.{In}
use Rattle.theory_pieces.specs.Sets.{tokens-of}

-- the tape of the sets to come
abbrev pub tape-of : List (List Value) → List Token → List Token
tape-of [] tail = tail
tape-of (v ∷ vs) tail = tokens-of v ++ tape-of vs tail

abbrev pub each-tokens : List (List Value) → List (List Token)
each-tokens [] = []
each-tokens (r ∷ rs) = tokens-of r ∷ each-tokens rs
