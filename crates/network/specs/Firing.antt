-- Doing what a decision says is the firing on the network: pop the inputs that are taken, append what is given on the output links, store the
-- register. With it a machine that decides by the first waiting tokens and the theory of networks share the one table of rules;
-- FiringHistory.antt gets from it that a firing on links does what Brock's history rules say.
-- Assumes of the operator's links that two inputs on which tokens wait are different (an absent input is a link on which nothing ever waits).
use Rattle.std.specs.Prelude.{ℕ, ◌<◌, ◌≤◌, ◌≡◌, refl, ◌≢◌, Bool, true, false, List, [], ◌∷◌, ◌++◌, length}
use Rattle.std.proofs.Math.Option.{Option, none, some}
use Rattle.value.specs.declared.Value.{Value}
use Rattle.network.specs.Rules.{Kind, Register, Input}
use Rattle.network.specs.Net.{Token, Links, pop, Room, appends}
use Rattle.network.specs.Fill.{Ports, input, value-of, register-token, emissions, remembering, kept}
use Rattle.network.specs.Decide.{Taken, Decision}

abbrev pub pop-if : Bool → ℕ → Links → Links
pop-if true l q = pop l q
pop-if false l q = q

-- The links without the tokens taken.
abbrev pub gone : Taken → Ports → Links → Links
gone t p q = pop-if t.take3 p.in3 (pop-if t.take2 p.in2 (pop-if t.take1 p.in1 q))

abbrev pub first-token : List Token → Option Value
first-token [] = none
first-token (t ∷ ts) = some (value-of t)

abbrev pub heads : Ports → Links → Input → Option Value
heads p q i = first-token (q (input p i))

pub record Apart (p : Ports) (q : Links) : Type 0 where
  pub apart12 : 0 < length (q p.in1) → 0 < length (q p.in2) → p.in1 ≢ p.in2
  pub apart13 : 0 < length (q p.in1) → 0 < length (q p.in3) → p.in1 ≢ p.in3
  pub apart23 : 0 < length (q p.in2) → 0 < length (q p.in3) → p.in2 ≢ p.in3

-- The links after a decision was carried out; `keep` is where the register goes.
abbrev pub performed : (Register → List (ℕ × Token)) → Ports → Links → Decision → Links
performed keep p q d = appends (emissions p d.give1 d.give2 d.give3 ++ keep d.register) (gone d.taken p q)

-- Every link that the decision emits on has a free place.
abbrev pub Roomy : (ℕ → ℕ) → (Register → List (ℕ × Token)) → Ports → Links → Decision → Type 0
Roomy cap keep p q d = Room cap (emissions p d.give1 d.give2 d.give3 ++ keep d.register) (gone d.taken p q)

-- A token waited on each input that was taken.
abbrev pub Took : Ports → Links → Taken → Type 0
Took p q t =
    (t.take1 ≡ true → 0 < length (q p.in1)) × (t.take2 ≡ true → 0 < length (q p.in2)) × (t.take3 ≡ true → 0 < length (q p.in3))

abbrev pub Is-some : {A : Type 0} → Option A → Type 0
Is-some none = ⊥
Is-some (some x) = Unit {0}

-- The register of an operator that remembers waits on its own link; that of another is fixed.
abbrev pub Holds : Bool → Ports → Links → Register → Type 0
Holds true p q g = q p.register ≡ register-token g ∷ []
Holds false p q g = p.held ≡ g

abbrev pub Own-register : Bool → Ports → Type 0
Own-register true p = (i : Input) → input p i ≢ p.register
Own-register false p = Unit {0}

-- the links without the register that the firing reads first
abbrev pub unregistered : Bool → Ports → Links → Links
unregistered true p q = pop p.register q
unregistered false p q = q

-- The links after the decision of an operator was carried out, and the room that it needs.
abbrev pub carried : Kind → Ports → Links → Decision → Links
carried k p q d = performed (kept (remembering k) p) p (unregistered (remembering k) p q) d

abbrev pub Room-for : (ℕ → ℕ) → Kind → Ports → Links → Decision → Type 0
Room-for cap k p q d = Roomy cap (kept (remembering k) p) p (unregistered (remembering k) p q) d
