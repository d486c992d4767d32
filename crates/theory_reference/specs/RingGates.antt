-- One gate of a loop (document 01: FM and FS), link by link. From ready it takes what comes in, whether it has fired before or not; with a
-- true control FM takes the iterated value and FS repeats what it remembers. Its register then holds a value, FS's the one it passed on.
use Rattle.std.specs.Prelude.{ℕ, ◌+◌, ◌≡◌, refl, ◌≢◌, ◌⊎◌, Bool, true, false, cond, List, [], ◌∷◌}
use Rattle.value.specs.declared.Value.{Value}
use Rattle.network.specs.Values.{true-value, false-value}
use Rattle.theory_pieces.specs.Goes.{Net}
use Rattle.network.specs.Net.{Token, val, mark, Demand, Links}
use Rattle.theory_pieces.specs.Load.{Load, On}
use Rattle.theory_pieces.specs.Gate.{Distinct, emitted, Consumes}
use Rattle.graph.specs.Assembly.{ring_gate, nth}
use Rattle.theory_reference.specs.Plugged.{registers}

-- What a gate leaves: its control and its data taken, the value passed on, a value in the register.
abbrev pub Passed : Bool → ℕ → ℕ → ℕ → Value → Links → Type 0
Passed b c e o v s = (s c ≡ []) × (s e ≡ []) × (s o ≡ val v ∷ []) × ((w : Value) × (s (registers + o) ≡ val w ∷ []) × (b ≡ false → w ≡ v))

abbrev pub Touched : ℕ → ℕ → ℕ → ℕ → Type 0
Touched c e o l = (l ≡ c) ⊎ ((l ≡ e) ⊎ ((l ≡ o) ⊎ (l ≡ registers + o)))
