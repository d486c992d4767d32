-- Claims for the links of a graph (graph/specs/Assembly), as it is put together: from a claim for each name to one for each output.
-- LaidOut.antt turns them into a claim for each link of the graph laid out. Assumes nothing.
use Rattle.std.specs.Prelude.{ℕ, ◌≡◌, true, false, List, [], ◌∷◌, ◌++◌, length, get_or}
use Rattle.std.proofs.Math.Option.{Option, none, some}
use Rattle.network.specs.Values.{err-value}
use Rattle.network.specs.Rules.{constant, operator, T-gate, F-gate, M-gate, E-gate, IC-gate, Register}
use Rattle.graph.specs.Assembly.{Gate, const, oper, T, F, M, E, IC, Graph, wire, nothing, beside, bind, gate, loop, free, member_of, gate_outputs}
use Rattle.graph.specs.Fit.{gate_inputs}
use Rattle.theory_claims.specs.Claims.{Claim, only-err, truths, Sides, Fits, Claims}

-- The claims of a list of names.
abbrev pub claims_of : Claims → List ℕ → List Claim
claims_of C [] = []
claims_of C (x ∷ xs) = C x ∷ claims_of C xs

abbrev pub at : List Claim → ℕ → Claim
at cs i = get_or cs i only-err

-- The inputs of a gate in their order, its outputs by name.
abbrev pub around : List Claim → Option Claim → Option Claim → Option Claim → Register → Sides
around is o₁ o₂ o₃ v =
    record { in1 = at is 0; in2 = at is 1; in3 = at is 2; out1 = o₁; out2 = o₂; out3 = o₃; register = truths; held = v }

abbrev pub Gate-fits : Gate → List Claim → List Claim → Type 0
Gate-fits (const v) is os = Fits constant (around is (some (at os 0)) none none (some v))
Gate-fits (oper k) is os = Fits (operator k) (around is (some (at os 0)) none none none)
Gate-fits T is os = Fits T-gate (around is (some (at os 0)) none none none)
Gate-fits F is os = Fits F-gate (around is (some (at os 0)) none none none)
Gate-fits M is os = Fits M-gate (around is (some (at os 0)) none none none)
Gate-fits E is os = Fits E-gate (around is (some (at os 0)) none none none)
Gate-fits (IC true) is os = Fits IC-gate (around is (some (at os 0)) (some (at os 1)) (some (at os 2)) none)
Gate-fits (IC false) is os = Fits IC-gate (around is (some (at os 0)) none (some (at os 1)) none)

abbrev pub Typed-gate : Gate → List Claim → List Claim → Type 0
Typed-gate g is os = (length is ≡ gate_inputs g) × (length os ≡ gate_outputs g) × Gate-fits g is os

-- Where names are bound, the others keep their claims.
abbrev pub Binds-only : List ℕ → Claims → Claims → Type 0
Binds-only ns C D = (x : ℕ) → member_of ns x ≡ false → D x ≡ C x
