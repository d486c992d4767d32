-- The machine as the calls see it: push is given its set, and no source link holds the sets to come. What a list of accepted calls does there,
-- the network with the sets on its source link does event by event, so that the theorems on events speak of calls.
-- A refused call is no step and a run is its firings (document 01, "Running").
use Rattle.std.specs.Prelude.{ℕ, suc, ◌<◌, ◌≡◌, refl, ◌≢◌, length}
use mathlib.Core.List.{List, [], ◌∷◌, ◌++◌}
use Rattle.theory_schedule.specs.Schedules.{reached}
use Rattle.theory_schedule.specs.Counts.{count}
use Rattle.value.specs.declared.Value.{Value}
use Rattle.network.specs.Values.{true-value}
use Rattle.network.specs.Net.{Token, val, Demand, ask, fire, halt, Links, head, tail, pop, append, Room, Able, appends, act, label}
use Rattle.network.specs.Commute.{Never-asks, Not-among, Never-emits}
use Rattle.network.specs.Ends.{push-demand, take-demand, collect}
use Rattle.network.specs.Uses.{In}
use Rattle.theory_pieces.specs.Piece.{Fits}
use Rattle.theory_pieces.specs.Sets.{onto}

-- An accepted call: a push of a set, the firing of an operator, a take.
pub data Step : Type 0 where
  pushing : List Value → Step
  firing : ℕ → Step
  taking : Step

-- the sets pushed, in order
abbrev pub sets_of : List Step → List (List Value)
sets_of [] = []
sets_of (pushing vs ∷ w) = vs ∷ sets_of w
sets_of (firing a ∷ w) = sets_of w
sets_of (taking ∷ w) = sets_of w

-- how many results were taken
abbrev pub takes_of : List Step → ℕ
takes_of [] = 0
takes_of (pushing vs ∷ w) = takes_of w
takes_of (firing a ∷ w) = takes_of w
takes_of (taking ∷ w) = suc (takes_of w)

module _ (graph : ℕ → Demand) (credit : ℕ) (ins outs : List ℕ) (cap : ℕ → ℕ) where
  -- "Push gives one value to each input link": the given set.
  abbrev pub demand-of : Step → Demand
  demand-of (pushing vs) = fire ((credit, val true-value) ∷ onto ins vs) []
  demand-of (firing a) = graph a
  demand-of taking = take-demand credit outs

  -- the results handed out, in order
  abbrev pub results-of : List Step → Links → List (List Token)
  results-of [] q = []
  results-of (pushing vs ∷ w) q = results-of w (act (demand-of (pushing vs)) q)
  results-of (firing a ∷ w) q = results-of w (act (graph a) q)
  results-of (taking ∷ w) q = label (take-demand credit outs) q ∷ results-of w (act (take-demand credit outs) q)

-- every set has a value for each input
abbrev pub Sized : List ℕ → List (List Value) → Type 0
Sized ins [] = Unit {0}
Sized ins (vs ∷ vss) = Fits ins vs × Sized ins vss
