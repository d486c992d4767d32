-- What the code of a firing does: whether it could fire and, unless it is dry and only tells that, the memory that it leaves. Assumes nothing.
use Rattle.std.specs.Prelude.{ℕ, ◌+◌, ◌≡◌, Bool, not, ◌&&◌, List, eqb, Option, Some}
use Rattle.value.specs.declared.Value.{Value}
use Rattle.value.specs.Operators.{pick}
use Rattle.network.specs.Values.{true-value}
use Rattle.machine_gates.specs.Decide.{Decided}
use Rattle.machine_layout.specs.Layout.{operator_at, port_of}
use Rattle.machine_firing.specs.Links.{token_from, removed_from, appended_from}
use Rattle.machine_firing.specs.Fire.{planned, ready_from, moved_from, performed_from}

-- a memory before and after, whether it was dry, what was told; whether it could, and the memory that a firing leaves
unfoldable pub Done : List ℕ → List ℕ → Bool → Bool → Bool → List ℕ → Type 0
Done m m' dry r able changed = (r ≡ able) × (m' ≡ pick (r && not dry) changed m)

-- The tokens of operator i moved by a decision, the same with the register that it leaves, and for whatever register there is.
abbrev pub Moves : List ℕ → List ℕ → ℕ → ℕ → ℕ → Bool → Bool → Decided → Type 0
Moves m m' base size i dry r d =
    Done m m' dry r (ready_from m base size (planned m (operator_at i + 2) d)) (moved_from m base size (planned m (operator_at i + 2) d))

abbrev pub Fires : List ℕ → List ℕ → ℕ → ℕ → ℕ → Bool → Bool → Decided → Type 0
Fires m m' base size i dry r d =
    Done m m' dry r (ready_from m base size (planned m (operator_at i + 2) d)) (performed_from m base size i (planned m (operator_at i + 2) d))

abbrev pub MovesAny : List ℕ → List ℕ → ℕ → ℕ → ℕ → Bool → Bool → (Option Value → Decided) → Type 0
MovesAny m m' base size i dry r d = (g : Option Value) → Moves m m' base size i dry r (d g)

-- The first token on an input of operator i.
abbrev pub input : List ℕ → ℕ → ℕ → ℕ → ℕ → Option Value
input m base size i port = token_from m base size (port_of m i port)

-- A token taken from each of two links; then one given, or two.
unfoldable pub taken_two : List ℕ → ℕ → ℕ → ℕ → ℕ → List ℕ
taken_two m base size in1 in2 = removed_from (removed_from m base size in1) base size in2

unfoldable pub given_one : List ℕ → ℕ → ℕ → ℕ → ℕ → ℕ → ℕ → List ℕ
unfolding taken_two
given_one m base size in1 in2 out word = appended_from (taken_two m base size in1 in2) base size out word

unfoldable pub given_two : List ℕ → ℕ → ℕ → ℕ → ℕ → ℕ → ℕ → ℕ → ℕ → List ℕ
unfolding given_one
given_two m base size in1 in2 out word out' word' = appended_from (given_one m base size in1 in2 out word) base size out' word'

-- The register that every kind but FS leaves: FM, of byte 19, that it has fired; the others what was there.
unfoldable pub next_register : ℕ → Option Value → Option Value
next_register kind g = pick (eqb kind 19) (Some true-value) g
