-- What document 02, Job 7, says of rounds, in terms of calls on the abstract machine of a formula (theory_verdicts/specs/Running): rounds, work on one set after
-- another, and the firings that are owed of it. Definitions only; assumes nothing.
use Rattle.std.specs.Prelude.{ℕ, zero, suc, ◌+◌, ◌-◌, ◌≡◌, List, [], ◌∷◌, ◌++◌, map, length}
use Rattle.std.proofs.Math.Logic.{ite}
use Rattle.std.proofs.Math.Decide.{ℕ_discrete}
use Rattle.value.specs.declared.Value.{Value}
use Rattle.network.specs.Net.{Links}
use Rattle.theory_pieces.specs.Tape.{Step, pushing, firing, taking}
use Rattle.formula.specs.Tree.{Exp}
use Rattle.graph.specs.Translation.{made_of}
use Rattle.theory_verdicts.specs.Running.{Call, pushes, fires, runs, takes, after_steps, steps_of}

-- ---- rounds

-- "operators rising, each that is able at its turn firing once": k operators from i on. One that is not able is refused, which is no step.
abbrev pub fires_from : ℕ → ℕ → List Call
fires_from zero i = []
fires_from (suc k) i = fires i ∷ fires_from k (suc i)

-- So many rounds of all operators.
abbrev pub rounds_of : Exp → ℕ → List Call
rounds_of x zero = []
rounds_of x (suc b) = fires_from (length (made_of x).operators) 0 ++ rounds_of x b

-- ---- "working one set after another"

-- Each set is pushed, run and taken before the next one. Its runs are lent these numbers of firings; there may be several, as a lent number has 32 bits.
abbrev pub in_turn : List (List Value) → List (List ℕ) → List Call
in_turn [] lent = []
in_turn (v ∷ sets) [] = pushes v ∷ takes ∷ in_turn sets []
in_turn (v ∷ sets) (ns ∷ lent) = pushes v ∷ (map runs ns ++ (takes ∷ in_turn sets lent))

-- The call is not refused. A run is not: its 36 keeps the firings.
abbrev pub Granted : Exp → ℕ → Call → Links → Type 0
Granted x capacity (pushes v) q = steps_of x capacity (pushes v) q ≡ pushing v ∷ []
Granted x capacity (fires a) q = steps_of x capacity (fires a) q ≡ firing a ∷ []
Granted x capacity (runs lent) q = Unit {0}
Granted x capacity takes q = steps_of x capacity takes q ≡ taking ∷ []

abbrev pub AllAccepted : Exp → ℕ → List Call → Links → Type 0
AllAccepted x capacity [] q = Unit {0}
AllAccepted x capacity (c ∷ calls) q = Granted x capacity c q × AllAccepted x capacity calls (after_steps x (steps_of x capacity c q) q)

-- ---- "Count the firings .. less those of them already made"

-- How often operator i fires.
abbrev pub times : ℕ → List Step → ℕ
times i [] = 0
times i (pushing v ∷ w) = times i w
times i (firing a ∷ w) = ite (ℕ_discrete i a) (suc (times i w)) (times i w)
times i (taking ∷ w) = times i w

-- The sum of f over the numbers below n.
abbrev pub sum_below : ℕ → (ℕ → ℕ) → ℕ
sum_below zero f = 0
sum_below (suc n) f = sum_below n f + f n

-- The firings of the work that are left after the steps made. Operator by operator: a firing beyond the work's is none of the work's, so it takes nothing off
-- another operator's share; each difference is 0 at least.
abbrev pub owed : Exp → List Step → List Step → ℕ
owed x work made = sum_below (length (made_of x).operators) (λ i. times i work - times i made)
