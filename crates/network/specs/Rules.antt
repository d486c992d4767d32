-- The firing rules of document 01, "The graph", "Rules, control first": one table for theory and machine, in that order and those words.
-- A firing is a little program over an operator's ports. It takes the token of an input and goes on by it, so that what it takes is what
-- it looked at, and ends in what it gives on its three outputs and in the register it leaves.
-- That "every token listed waits and each link it emits on has a free place" is said where links are (Net.antt, Fill.antt); an output
-- with no user is a port without a link there, so the table gives it and nothing is emitted.
use Rattle.std.specs.Prelude.{ℕ, Bool, true, false}
use Rattle.std.proofs.Math.Option.{Option, none, some}
use Rattle.value.specs.declared.Value.{Value}
use Rattle.value.specs.declared.Sense.{Sense}
use Rattle.value.specs.declared.Sense.TheVariants.{True, False, Neither}
use Rattle.value.specs.Senses.{sense}
use Rattle.network.specs.Values.{true-value, false-value, err-value, one-operand, apply}

-- "A constant takes one trigger", "two-way copies", the operators of the codes, and the gates.
pub data Kind : Type 0 where
  constant copy : Kind
  operator : ℕ → Kind
  T-gate F-gate M-gate E-gate IC-gate FM-gate FS-gate : Kind

-- Inputs are counted from the control on: control, input 2, input 3.
pub data Input : Type 0 where
  first second third : Input

-- None before the first firing. Then FS remembers its data, FM that it has fired; a constant holds its value from the start.
abbrev pub Register : Type 0
Register = Option Value

pub data Firing : Type 0 where
  takes : Input → (Value → Firing) → Firing
  gives : Option Value → Option Value → Option Value → Register → Firing
  never : Firing

abbrev pub passes : Value → Register → Firing
passes v g = gives (some v) none none g

abbrev pub drops : Register → Firing
drops g = gives none none none g

-- What each gate does by what its control is: true, false, neither.
-- T: "takes control and data, passes data on true, nothing otherwise".
abbrev pub T-rule : Register → Sense → Firing
T-rule g True = takes second (λ v. passes v g)
T-rule g False = takes second (λ v. drops g)
T-rule g Neither = takes second (λ v. drops g)

-- "F likewise on false."
abbrev pub F-rule : Register → Sense → Firing
F-rule g True = takes second (λ v. drops g)
F-rule g False = takes second (λ v. passes v g)
F-rule g Neither = takes second (λ v. drops g)

-- M: "true takes and passes input 2, false input 3; another control takes only itself, gives err".
abbrev pub M-rule : Register → Sense → Firing
M-rule g True = takes second (λ v. passes v g)
M-rule g False = takes third (λ v. passes v g)
M-rule g Neither = passes err-value g

-- E: "a truth takes and passes the data; another control gives err and takes no data".
abbrev pub E-rule : Register → Sense → Firing
E-rule g True = takes second (λ v. passes v g)
E-rule g False = takes second (λ v. passes v g)
E-rule g Neither = passes err-value g

-- How IC reads the input that its control chooses. Document 02: "A chosen input that is no truth, in altered memory, counts as false."
abbrev pub as-truth : Sense → Bool
as-truth True = true
as-truth False = false
as-truth Neither = false

-- IC: "true takes input 2, false input 3"; another control takes neither.
abbrev pub chosen : Sense → (Bool → Firing) → Firing
chosen True k = takes second (λ v. k (as-truth (sense v)))
chosen False k = takes third (λ v. k (as-truth (sense v)))
chosen Neither k = k false

-- Brock's table of the IC gate (section 2.4), row by row: the control and the chosen iter?; the graph's iter?, the I and the R control.
abbrev pub IC-table : Register → Sense → Bool → Firing
IC-table g True true = gives (some true-value) (some true-value) none g
IC-table g True false = gives (some false-value) none (some true-value) g
IC-table g False true = gives (some true-value) (some false-value) none g
IC-table g False false = gives (some false-value) none (some false-value) g
IC-table g Neither i = gives (some false-value) none (some err-value) g

-- The register of an FM that has fired: which value it is matters to nobody.
abbrev pub fired : Register
fired = some true-value

-- FS after its first firing, with the remembered value: "each on false, passes and remembers the data; true repeats the remembered value,
-- taking none. An iter? that is no truth, in altered memory, counts as false."
abbrev pub FS-rule : Value → Sense → Firing
FS-rule r True = passes r (some r)
FS-rule r False = takes second (λ v. passes v (some v))
FS-rule r Neither = takes second (λ v. passes v (some v))

abbrev pub operator-rule : Bool → ℕ → Register → Value → Firing
operator-rule true code g a = passes (apply code a err-value) g
operator-rule false code g a = takes second (λ b. passes (apply code a b) g)

abbrev pub rule : Kind → Register → Firing
-- a constant without a value is met in altered memory only
rule constant none = never
rule constant (some v) = takes first (λ t. passes v (some v))
rule copy g = takes first (λ v. gives (some v) (some v) none g)
rule (operator code) g = takes first (operator-rule (one-operand code) code g)
rule T-gate g = takes first (λ c. T-rule g (sense c))
rule F-gate g = takes first (λ c. F-rule g (sense c))
rule M-gate g = takes first (λ c. M-rule g (sense c))
rule E-gate g = takes first (λ c. E-rule g (sense c))
rule IC-gate g = takes first (λ c. chosen (sense c) (IC-table g (sense c)))
-- FM: "first firing wants only input 3 and passes it; then as M, with control iter?".
rule FM-gate none = takes third (λ v. passes v fired)
rule FM-gate (some r) = takes first (λ c. M-rule fired (sense c))
-- FS: "first firing (no control) .. passes and remembers the data".
rule FS-gate none = takes second (λ v. passes v (some v))
rule FS-gate (some r) = takes first (λ c. FS-rule r (sense c))
