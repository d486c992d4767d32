-- The hypotheses of firing-does-what-history-says can be met: an FM gate that has fired, with iter? true, a value to go round and a value of the
-- next set waiting. Its firing takes iter? and input 2, emits input 2 and leaves the next set's value where it is.
use Rattle.std.specs.Prelude.{ℕ, zero, suc, ◌≡◌, refl, [], ◌∷◌, map}
use Rattle.std.proofs.Math.Option.{none, some}
use Rattle.value.specs.declared.Value.{Value}
use Rattle.network.specs.Values.{true-value}
use Rattle.network.specs.Net.{val, Links}
use Rattle.network.specs.Fill.{Ports}

abbrev pub ports : Ports
ports = record { in1 = 0; in2 = 1; in3 = 2; out1 = some 3; out2 = none; out3 = none; register = 4; held = none }

abbrev pub waiting : Value → Value → Links
waiting v w zero = val true-value ∷ []
waiting v w (suc zero) = val v ∷ []
waiting v w (suc (suc zero)) = val w ∷ []
waiting v w (suc (suc (suc zero))) = []
waiting v w (suc (suc (suc (suc zero)))) = val true-value ∷ []
waiting v w (suc (suc (suc (suc (suc l))))) = []
