-- A gate between inputs and outputs fires once: it takes every token that waits, and what the table of rules decides lies on its
-- outputs. From the law that a decision carried out is the firing (network, Firing.antt).
use Rattle.std.specs.Prelude.{ℕ, ◌≤◌, ◌<◌, ◌≡◌, refl, Bool, false, length}
use mathlib.Core.List.{List, [], ◌∷◌, ◌++◌}
use Rattle.std.proofs.Math.Option.{Option, none, some}
use Rattle.value.specs.declared.Value.{Value}
use Rattle.network.specs.Rules.{Kind, Input, first, second, third, Register}
use Rattle.network.specs.Net.{Token, val, Links, append, Room, Able, appends, act}
use Rattle.network.specs.Fill.{Ports, emission, remembering, kept, fill}
use Rattle.network.specs.Decide.{Decision, decide}
use Rattle.network.specs.Firing.{first-token, pop-if, gone, heads, Apart, performed, Roomy, Holds, Own-register, unregistered}
use Rattle.network.specs.Uses.{In}
use Rattle.theory_pieces.specs.Load.{set_link}
use Rattle.theory_pieces.specs.Goes.{Net, one_place}
use Rattle.theory_pieces.specs.Sets.{Different}
use Rattle.graph.specs.Assembly.{made, nth}
use Rattle.graph.specs.Yields.{waiting, is_there, TakesAll}
use Rattle.theory_reference.specs.Plan.{tokens}

-- The inputs emptied.
abbrev pub emptied : List ℕ → Links → Links
emptied [] q = q
emptied (l ∷ ls) q = emptied ls (set_link l [] q)

-- A gate has at most three inputs, each with its value.
pub data Shape : List ℕ → List (Option Value) → Type 0 where
  without-inputs : Shape [] []
  one_input : (a : ℕ) (x : Option Value) → Shape (a ∷ []) (x ∷ [])
  two-inputs : (a b : ℕ) (x y : Option Value) → Shape (a ∷ b ∷ []) (x ∷ y ∷ [])
  three-inputs : (a b c : ℕ) (x y z : Option Value) → Shape (a ∷ b ∷ c ∷ []) (x ∷ y ∷ z ∷ [])

-- What is given lies on the outputs.
abbrev pub laid_on : Option ℕ → Option Value → Links → Links
laid_on none v q = q
laid_on (some l) v q = set_link l (tokens v) q

abbrev pub Free-port : Option ℕ → Links → Type 0
Free-port none q = Unit {0}
Free-port (some l) q = q l ≡ []
