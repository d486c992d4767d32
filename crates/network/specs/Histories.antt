-- Brock's history rules (section 3.2, "The Semantic Specification of the Data Flow Operators"), line by line and in his order (but S_z
-- stands before the FS rule that uses it), on finite histories: lists of the values that came over a port, the earliest first. Written from
-- his page, not from the firing rules; HistoryLaw.antt has that they agree. A control history is read by what its values are as controls:
-- his `true`, `false` and `x ∉ {true, false}`. Document 01's corrections: F continues as F, FM continues as M, E gives err on a bad control.
-- A rule that depends on what went before takes the state reached, as his own rules S_z do for FS.
use Rattle.std.specs.Prelude.{ℕ, Bool, true, false, List, [], ◌∷◌}
use Rattle.std.proofs.Math.Option.{Option, none, some}
use Rattle.value.specs.declared.Value.{Value}
use Rattle.value.specs.declared.Sense.{Sense}
use Rattle.value.specs.declared.Sense.TheVariants.{True, False, Neither}
use Rattle.value.specs.Senses.{sense}
use Rattle.network.specs.Values.{true-value, false-value, err-value, one-operand, apply}
use Rattle.network.specs.Rules.{Kind, constant, copy, operator, T-gate, F-gate, M-gate, E-gate, IC-gate, FM-gate, FS-gate, Register, as-truth}

abbrev pub History : Type 0
History = List Value

abbrev pub senses : History → List Sense
senses [] = []
senses (x ∷ xs) = sense x ∷ senses xs

-- The histories of IC's second and third input as it reads them: an iter? that is no truth, met in altered memory only, as false.
abbrev pub truths : History → List Bool
truths [] = []
truths (x ∷ xs) = as-truth (sense x) ∷ truths xs

-- The histories of three output ports, and a tuple of values (or none of a port) before them: Brock's (x, y, z) · O.
pub record Outputs : Type 0 where
  pub out1 : History
  pub out2 : History
  pub out3 : History

abbrev pub silence : Outputs
silence = record { out1 = []; out2 = []; out3 = [] }

abbrev pub ahead : Option Value → History → History
ahead none ys = ys
ahead (some y) ys = y ∷ ys

abbrev pub followed : Option Value → Option Value → Option Value → Outputs → Outputs
followed a b c o = record { out1 = ahead a o.out1; out2 = ahead b o.out2; out3 = ahead c o.out3 }

abbrev pub only : History → Outputs
only ys = record { out1 = ys; out2 = []; out3 = [] }

-- O[oper]: strict, "The operator will not fire without a complete tuple of inputs".
abbrev pub unary-history : (Value → Value) → History → History
unary-history f [] = []
unary-history f (x ∷ xs) = f x ∷ unary-history f xs

abbrev pub binary-history : (Value → Value → Value) → History → History → History
binary-history f [] ys = []
binary-history f (x ∷ xs) [] = []
binary-history f (x ∷ xs) (y ∷ ys) = f x y ∷ binary-history f xs ys

-- O[const]: "An output .. is produced for every trigger input received".
abbrev pub constant-history : Value → History → History
constant-history v [] = []
constant-history v (t ∷ xs) = v ∷ constant-history v xs

-- A link with two users (document 01: a two-way copy): both get its history.
abbrev pub copy-history : History → Outputs
copy-history xs = record { out1 = xs; out2 = xs; out3 = [] }

-- O[T gate]
abbrev pub T-history : List Sense → History → History
T-history [] ys = []
T-history (x ∷ xs) [] = []
T-history (True ∷ xs) (y ∷ ys) = y ∷ T-history xs ys
T-history (False ∷ xs) (y ∷ ys) = T-history xs ys
T-history (Neither ∷ xs) (y ∷ ys) = T-history xs ys

-- O[F gate], continuing as F (his `T gate` is a misprint)
abbrev pub F-history : List Sense → History → History
F-history [] ys = []
F-history (x ∷ xs) [] = []
F-history (False ∷ xs) (y ∷ ys) = y ∷ F-history xs ys
F-history (True ∷ xs) (y ∷ ys) = F-history xs ys
F-history (Neither ∷ xs) (y ∷ ys) = F-history xs ys

-- O[M gate]
abbrev pub M-history : List Sense → History → History → History
M-history [] ys zs = []
M-history (True ∷ xs) [] zs = []
M-history (True ∷ xs) (y ∷ ys) zs = y ∷ M-history xs ys zs
M-history (False ∷ xs) ys [] = []
M-history (False ∷ xs) ys (z ∷ zs) = z ∷ M-history xs ys zs
M-history (Neither ∷ xs) ys zs = err-value ∷ M-history xs ys zs

-- O[FM gate], continuing as M: "a M gate with a built-in initial false control value"
abbrev pub FM-history : List Sense → History → History → History
FM-history xs ys [] = []
FM-history xs ys (z ∷ zs) = z ∷ M-history xs ys zs

-- S_z, with document 01's "An iter? that is no truth .. counts as false", and O[FS gate]
abbrev pub S-history : Value → List Sense → History → History
S-history z [] ys = []
S-history z (True ∷ xs) ys = z ∷ S-history z xs ys
S-history z (False ∷ xs) [] = []
S-history z (False ∷ xs) (y ∷ ys) = y ∷ S-history y xs ys
S-history z (Neither ∷ xs) [] = []
S-history z (Neither ∷ xs) (y ∷ ys) = y ∷ S-history y xs ys

abbrev pub FS-history : List Sense → History → History
FS-history xs [] = []
FS-history xs (y ∷ ys) = y ∷ S-history y xs ys

-- O[IC gate]
abbrev pub IC-history : List Sense → List Bool → List Bool → Outputs
IC-history [] ys zs = silence
IC-history (True ∷ xs) [] zs = silence
IC-history (True ∷ xs) (true ∷ ys) zs = followed (some true-value) (some true-value) none (IC-history xs ys zs)
IC-history (True ∷ xs) (false ∷ ys) zs = followed (some false-value) none (some true-value) (IC-history xs ys zs)
IC-history (False ∷ xs) ys [] = silence
IC-history (False ∷ xs) ys (true ∷ zs) = followed (some true-value) (some false-value) none (IC-history xs ys zs)
IC-history (False ∷ xs) ys (false ∷ zs) = followed (some false-value) none (some false-value) (IC-history xs ys zs)
IC-history (Neither ∷ xs) ys zs = followed (some false-value) none (some err-value) (IC-history xs ys zs)

-- O[E gate], with the err of a bad control that his last line lacks
abbrev pub E-history : List Sense → History → History
E-history [] ys = []
E-history (True ∷ xs) [] = []
E-history (False ∷ xs) [] = []
E-history (True ∷ xs) (y ∷ ys) = y ∷ E-history xs ys
E-history (False ∷ xs) (y ∷ ys) = y ∷ E-history xs ys
E-history (Neither ∷ xs) ys = err-value ∷ E-history xs ys

abbrev pub operator-history : Bool → ℕ → History → History → History
operator-history true code xs ys = unary-history (λ x. apply code x err-value) xs
operator-history false code xs ys = binary-history (apply code) xs ys

-- The history function of each kind of operator, from the state reached: what comes out of its ports when this goes into them.
abbrev pub history : Kind → Register → History → History → History → Outputs
history constant none xs ys zs = silence
history constant (some v) xs ys zs = only (constant-history v xs)
history copy g xs ys zs = copy-history xs
history (operator code) g xs ys zs = only (operator-history (one-operand code) code xs ys)
history T-gate g xs ys zs = only (T-history (senses xs) ys)
history F-gate g xs ys zs = only (F-history (senses xs) ys)
history M-gate g xs ys zs = only (M-history (senses xs) ys zs)
history E-gate g xs ys zs = only (E-history (senses xs) ys)
history IC-gate g xs ys zs = IC-history (senses xs) (truths ys) (truths zs)
history FM-gate none xs ys zs = only (FM-history (senses xs) ys zs)
history FM-gate (some r) xs ys zs = only (M-history (senses xs) ys zs)
history FS-gate none xs ys zs = only (FS-history (senses xs) ys)
history FS-gate (some z) xs ys zs = only (S-history z (senses xs) ys)
