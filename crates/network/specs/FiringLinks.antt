-- What a firing leaves on each link: an input loses the token that was taken from it, an output link gets the value given, the register link
-- holds the next register, and every other link is as it was. From fill-acts (Firing.antt), link by link.
-- Assumes of the operator that it names no link twice (`Own-links`; document 01, refusal 31: "a link named twice by one operator").
use Rattle.std.specs.Prelude.{ℕ, ◌<◌, ◌≤◌, ◌+◌, ◌≡◌, refl, ◌≢◌, Bool, true, false, List, [], ◌∷◌, ◌++◌, length}
use Rattle.std.proofs.Math.Option.{Option, none, some}
use Rattle.value.specs.declared.Value.{Value}
use Rattle.network.specs.Rules.{Kind, Input}
use Rattle.network.specs.Net.{Token, val, Links}
use Rattle.network.specs.Fill.{Ports, input, remembering}
use Rattle.network.specs.Decide.{Decision}
use Rattle.network.specs.Firing.{Apart, Own-register}

-- The three output ports: their links, and what a decision gives on them.
pub data Output : Type 0 where
  output1 output2 output3 : Output

abbrev pub output : Ports → Output → Option ℕ
output p output1 = p.out1
output p output2 = p.out2
output p output3 = p.out3

abbrev pub given : Decision → Output → Option Value
given d output1 = d.give1
given d output2 = d.give2
given d output3 = d.give3

-- A link without the token that was taken from it.
abbrev pub without : Bool → List Token → List Token
without false ts = ts
without true [] = []
without true (t ∷ ts) = ts

-- One token for a value given, none where nothing is.
abbrev pub tokens : Option Value → List Token
tokens none = []
tokens (some v) = val v ∷ []

-- No link is named twice: two inputs on which tokens wait are different (Apart), the register is no input, and the link of an output is
-- neither an input nor the register nor the link of another output.
pub record Own-links (k : Kind) (p : Ports) (q : Links) : Type 0 where
  pub inputs_apart : Apart p q
  pub register-no-input : Own-register (remembering k) p
  pub output-no-input : (o : Output) (i : Input) → output p o ≢ some (input p i)
  pub output-no-register : (o : Output) → remembering k ≡ true → output p o ≢ some p.register
  pub outputs12 : (l : ℕ) → p.out1 ≡ some l → p.out2 ≢ some l
  pub outputs13 : (l : ℕ) → p.out1 ≡ some l → p.out3 ≢ some l
  pub outputs23 : (l : ℕ) → p.out2 ≡ some l → p.out3 ≢ some l

-- A link that is none of the operator's.
pub record Elsewhere (k : Kind) (p : Ports) (l : ℕ) : Type 0 where
  pub no-input : (i : Input) → input p i ≢ l
  pub no_output : (o : Output) → output p o ≢ some l
  pub no_register : remembering k ≡ true → p.register ≢ l
