-- Laws of specs/FiringSample.antt, and what only they need.
use Rattle.std.specs.Prelude.{ℕ, ◌≡◌, refl, [], ◌∷◌, map}
use Rattle.std.proofs.Math.Option.{none, some}
use Rattle.std.proofs.Math.Decide.{ℕ_discrete}
use Rattle.std.proofs.Common.{arith}
use Rattle.value.specs.declared.Value.{Value}
use Rattle.network.specs.Values.{true-value}
use Rattle.network.specs.Rules.{FM-gate, Input, first, second, third, fired}
use Rattle.network.specs.Net.{val, Links, pop, append, Able, act}
use Rattle.network.specs.Fill.{input, fill}
use Rattle.network.proofs.Firing.{some_same, none-is-not-some}
use Rattle.network.specs.FiringLinks.{Output, output1, output2, output3, output, Own-links}
use Rattle.network.specs.FiringHistory.{Fires-by-history}
use Rattle.network.proofs.FiringHistory.{firing-does-what-history-says}
use Rattle.network.specs.FiringSample.{ports, waiting}

no_output : (l : ℕ) → none ≡ some l → ⊥
no_output l e = none-is-not-some l e

own-links : (q : Links) → Own-links FM-gate ports q
own-links q = record {
  inputs_apart = record { apart12 = λ h k. omega arith; apart13 = λ h k. omega arith; apart23 = λ h k. omega arith };
  register-no-input = λ i. register i;
  output-no-input = outputs;
  output-no-register = λ o e. own-register o;
  outputs12 = λ l e. no_output l;
  outputs13 = λ l e. no_output l;
  outputs23 = λ l e. no_output l;
}
  where
    register : (i : Input) → input ports i ≡ 4 → ⊥
    register first e = omega arith
    register second e = omega arith
    register third e = omega arith

    outputs : (o : Output) (i : Input) → output ports o ≡ some (input ports i) → ⊥
    outputs output1 first e = omega (arith, some_same 3 0 e)
    outputs output1 second e = omega (arith, some_same 3 1 e)
    outputs output1 third e = omega (arith, some_same 3 2 e)
    outputs output2 i e = no_output (input ports i) e
    outputs output3 i e = no_output (input ports i) e

    own-register : (o : Output) → output ports o ≡ some 4 → ⊥
    own-register output1 e = omega (arith, some_same 3 4 e)
    own-register output2 e = no_output 4 e
    own-register output3 e = no_output 4 e

able : (v w : Value) → Able (λ l. 1) (fill FM-gate ports) (waiting v w)
unfolding pop append ℕ_discrete
able v w = (omega arith, (omega arith, (omega arith, (omega arith, (omega arith, tt)))))

pub sample-fires : (v w : Value) → Fires-by-history FM-gate ports fired (waiting v w) (act (fill FM-gate ports) (waiting v w))
sample-fires v w = (firing-does-what-history-says (λ l. 1) FM-gate ports (waiting v w) fired (own-links (waiting v w)) refl).0 (able v w)

pub sample-leaves : (v w : Value) → map (act (fill FM-gate ports) (waiting v w)) (0 ∷ 1 ∷ 2 ∷ 3 ∷ 4 ∷ [])
    ≡ [] ∷ [] ∷ (val w ∷ []) ∷ (val v ∷ []) ∷ (val true-value ∷ []) ∷ []
unfolding pop append ℕ_discrete
sample-leaves v w = refl
