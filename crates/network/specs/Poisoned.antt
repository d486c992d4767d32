-- A network with a twin of each operator that takes the same and gives err wherever the operator gives something. Twins are events of the proof
-- alone: a reference may make one, a run never does. Own events commute with every event of another operator. Assumes `Free`, as Commute.antt does.
use Rattle.std.specs.Prelude.{ℕ, ◌<◌, ◌+◌, ◌-◌, ◌≡◌, ◌≢◌, ◌⊎◌, List, [], ◌∷◌, length}
use native.Mathlib.Omega.{arith}
use Rattle.theory_schedule.specs.Schedules.{reached}
use Rattle.network.specs.Values.{err-value}
use Rattle.network.specs.Net.{Token, val, Demand, ask, fire, halt}

abbrev pub poisons : List (ℕ × Token) → List (ℕ × Token)
poisons [] = []
poisons (e ∷ es) = (e.0, val err-value) ∷ poisons es

abbrev pub poisoned : Demand → Demand
poisoned (ask l k) = ask l (λ t. poisoned (k t))
poisoned (fire es r) = fire (poisons es) r
poisoned halt = halt
