-- A run by rounds on the bytes of a standing memory is one on its links: document 02, Job 7, "operators rising, each that is able at its turn firing once". A
-- round is the abstract calls `fires 0` to `fires` of the last operator (theory_verdicts/specs/Running), of which those that are refused are no steps. Assumes a
-- sound graph and a capacity of at least 1.
use Prim.Native.Nat.{ℕ, zero, suc, ◌+◌, ◌≤◌, ◌<◌}
use Rattle.std.specs.Prelude.{◌≡◌, ◌≢◌, Bool, true, false, eqb, length}
use mathlib.Core.List.{List, [], ◌∷◌, ◌++◌, map}
use Rattle.value.specs.Operators.{pick}
use Rattle.network.specs.Net.{Links, Able, act}
use Rattle.theory_pieces.specs.Tape.{Step, firing}
use Rattle.formula.specs.Tree.{Exp}
use Rattle.graph.specs.Assembly.{up_from}
use Rattle.graph.specs.Translation.{made_of}
use Rattle.machine_layout.specs.Layout.{size_of}
use Rattle.machine_firing.specs.Fire.{able_at, fired_at}
use Rattle.machine_rounds.specs.Rounds.{Swept, sweep, round, Rounded, rounded, rounds_from}
use Rattle.theory_verdicts.specs.Running.{Call, fires, places, dec_able, operator_at, accept, after_steps, steps_of, steps_from}
use Rattle.demand_view.specs.Sound.{Sound}
use Rattle.demand_view.specs.Stands.{Stands}

-- ---- the rounds of the abstract machine
-- k operators from i on, in turn
abbrev pub turn_calls : ℕ → ℕ → List Call
turn_calls i k = map fires (up_from i k)

-- a round of the machine of x
abbrev pub round_calls : Exp → List Call
round_calls x = turn_calls 0 (length (made_of x).operators)

-- r rounds, one after another
unfoldable pub rounds_calls : Exp → ℕ → List Call
rounds_calls x zero = []
rounds_calls x (suc r) = round_calls x ++ rounds_calls x r

module _ (x : Exp) (capacity : ℕ) where
  -- the steps of a round, and of r rounds
  abbrev pub roundSteps : Links → List Step
  roundSteps q = steps_from x capacity (round_calls x) q

  abbrev pub roundsSteps : ℕ → Links → List Step
  roundsSteps r q = steps_from x capacity (rounds_calls x r) q

module _ (x : Exp) (S : Sound (made_of x)) (kinds : List ℕ) (capacity : ℕ) (one : 1 ≤ capacity) where
  -- ---- rounds one after another
  -- Of `lent` rounds, `counted` with so many firings have led from a memory with links q to m, which stands with the links after as many abstract rounds.
  pub record Same-rounds (lent counted firings : ℕ) (q : Links) (m : List ℕ) : Type 0 where
    pub stands : Stands (made_of x) kinds capacity m (after_steps x (roundsSteps x capacity counted q) q)
    pub firings-are : firings ≡ length (roundsSteps x capacity counted q)
    pub few : counted ≤ lent
    -- "counting only rounds in which something fired"
    pub live : (j : ℕ) → j < counted → 0 < length (roundSteps x capacity (after_steps x (roundsSteps x capacity j q) q))
    -- a further round has no steps, and so the lent rounds have those of the counted
    pub last : counted < lent → roundSteps x capacity (after_steps x (roundsSteps x capacity counted q) q) ≡ []
    pub lent_same : roundsSteps x capacity lent q ≡ roundsSteps x capacity counted q
