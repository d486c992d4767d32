-- The byte of each kind of operator (document 01, "The graph"): 1 to 11 the operators by their code, then constant, copy and the gates in the
-- order of document 01's rules. Which ports a kind has, and which of them it may lack. Assumes nothing.
use Rattle.std.specs.Prelude.{ℕ, ◌+◌, ◌-◌, ◌≡◌, refl, Bool, true, false, ◌&&◌, ◌||◌, not, leb, ltb, eqb, ◌≤◌}
use Rattle.std.proofs.Math.Option.{Option, some, none}
use Rattle.std.proofs.Common.{le-leb, ne_eqb, arith}
use Rattle.value.specs.Operators.{pick}
use Rattle.network.specs.Rules.{Kind, constant, copy, operator, T-gate, F-gate, M-gate, E-gate, IC-gate, FM-gate, FS-gate}

abbrev pub byte_of : Kind → ℕ
byte_of (operator code) = code
byte_of constant = 12
byte_of copy = 13
byte_of T-gate = 14
byte_of F-gate = 15
byte_of M-gate = 16
byte_of E-gate = 17
byte_of IC-gate = 18
byte_of FM-gate = 19
byte_of FS-gate = 20

unfoldable pub kind_of : ℕ → Option Kind
kind_of b =
    pick (leb 1 b && leb b 11) (some (operator b))
    (pick (eqb b (byte_of constant)) (some constant)
    (pick (eqb b (byte_of copy)) (some copy)
    (pick (eqb b (byte_of T-gate)) (some T-gate)
    (pick (eqb b (byte_of F-gate)) (some F-gate)
    (pick (eqb b (byte_of M-gate)) (some M-gate)
    (pick (eqb b (byte_of E-gate)) (some E-gate)
    (pick (eqb b (byte_of IC-gate)) (some IC-gate)
    (pick (eqb b (byte_of FM-gate)) (some FM-gate)
    (pick (eqb b (byte_of FS-gate)) (some FS-gate)
    none)))))))))

-- the kinds of a graph: an operator has one of the eleven codes
abbrev pub Coded : Kind → Type 0
Coded (operator code) = (1 ≤ code) × (code ≤ 11)
Coded constant = Unit {0}
Coded copy = Unit {0}
Coded T-gate = Unit {0}
Coded F-gate = Unit {0}
Coded M-gate = Unit {0}
Coded E-gate = Unit {0}
Coded IC-gate = Unit {0}
Coded FM-gate = Unit {0}
Coded FS-gate = Unit {0}

-- a kind is read back from its byte
pub kind-of-byte : (k : Kind) → Coded k → kind_of (byte_of k) ≡ some k
unfolding kind_of
kind-of-byte (operator code) h = simp (le-leb 1 code h.0, le-leb code 11 h.1)
kind-of-byte constant h = refl
kind-of-byte copy h = refl
kind-of-byte T-gate h = refl
kind-of-byte F-gate h = refl
kind-of-byte M-gate h = refl
kind-of-byte E-gate h = refl
kind-of-byte IC-gate h = refl
kind-of-byte FM-gate h = refl
kind-of-byte FS-gate h = refl

-- How many inputs and outputs a kind has; they are the first of its three. "10 and 11 take one operand, the rest two"; a constant takes its
-- trigger; M, IC and FM take from three, T, F, E and FS a control and data; a copy gives two, IC three, the others one.
unfoldable pub inputs_of_kind : ℕ → ℕ
inputs_of_kind b =
    pick (leb b 9) 2 (pick (leb b (byte_of copy)) 1 (pick (eqb b (byte_of M-gate) || (eqb b (byte_of IC-gate) || eqb b (byte_of FM-gate))) 3 2))

unfoldable pub outputs_of_kind : ℕ → ℕ
outputs_of_kind b = pick (eqb b (byte_of copy)) 2 (pick (eqb b (byte_of IC-gate)) 3 1)

-- port 0 to 2 an input, 3 to 5 an output
unfoldable pub has_port : ℕ → ℕ → Bool
has_port b p = pick (ltb p 3) (ltb p (inputs_of_kind b)) (ltb (p - 3) (outputs_of_kind b))

-- "An output with no user is not emitted": only the second output of an IC can be without one.
unfoldable pub may_lack : ℕ → ℕ → Bool
may_lack b p = eqb b (byte_of IC-gate) && eqb p 4
