-- Demand 2: "each firing does to the links just what his history rules say for the next tokens", as one theorem on the links of a network,
-- `firing-does-what-history-says`. The links before a firing are `q`, those after it `act (fill k p) q`. Brock's rule of the kind (Histories.antt)
-- is applied to the tokens that wait on the operator's inputs before and after, each time with the register that is held then.
-- Assumes of the operator that it names no link twice (`Own-links`, document 01's refusal 31) and that its register is where `Holds` says.
use Rattle.std.specs.Prelude.{ℕ, ◌+◌, ◌≡◌, refl, Bool, true, false, List, [], ◌∷◌, ◌++◌, length}
use Rattle.std.proofs.Math.Option.{some}
use Rattle.value.specs.declared.Value.{Value}
use Rattle.network.specs.Rules.{Kind, Register, Input}
use Rattle.network.specs.Histories.{History, Outputs, history}
use Rattle.network.specs.Net.{Token, Links, Able}
use Rattle.network.specs.Fill.{Ports, input, value-of, remembering, fill}
use Rattle.network.specs.Decide.{is-taken, Decision, decide}
use Rattle.network.specs.Firing.{heads, Holds}
use Rattle.network.specs.FiringLinks.{Output, output1, output2, output3, output, given, without, tokens, Elsewhere}

abbrev pub values : List Token → History
values [] = []
values (t ∷ ts) = value-of t ∷ values ts

abbrev pub port : Outputs → Output → History
port h output1 = h.out1
port h output2 = h.out2
port h output3 = h.out3

-- Brock's rule for the tokens that wait on the operator's inputs: the histories of its output ports from now on.
abbrev pub to-come : Kind → Register → Ports → Links → Outputs
to-come k g p q = history k g (values (q p.in1)) (values (q p.in2)) (values (q p.in3))

-- From `q` with register `g` to `q'` by one firing: what the rule takes is gone from the input links, what it gives is appended on the output
-- links, the next register is held, other links are as they were; and at each output port Brock's history of what waited is what was
-- appended, followed by his history of what waits now.
pub record Fires-by-history (k : Kind) (p : Ports) (g : Register) (q q' : Links) : Type 0 where
  pub decision : Decision
  pub by-rule : decide k g (heads p q) ≡ some decision
  pub at-inputs : (i : Input) → q' (input p i) ≡ without (is-taken decision.taken i) (q (input p i))
  pub at-outputs : (x : Output) (l : ℕ) → output p x ≡ some l → q' l ≡ q l ++ tokens (given decision x)
  pub at_register : Holds (remembering k) p q' decision.register
  pub elsewhere : (l : ℕ) → Elsewhere k p l → q' l ≡ q l
  pub by-history : (x : Output) →
      port (to-come k g p q) x ≡ values (tokens (given decision x)) ++ port (to-come k decision.register p q') x

-- Not able however much room its links have: a token that it wants does not wait.
abbrev pub Wants-token : Kind → Ports → Links → Type 0
Wants-token k p q = (cap : ℕ → ℕ) → Able cap (fill k p) q → ⊥
