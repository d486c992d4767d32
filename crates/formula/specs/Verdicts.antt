-- The verdict of any list of tests on any sheet: passed exactly where each test passes, and a refusal is what its test's fault says.
use Rattle.std.specs.Prelude.{ℕ, ◌↔◌, Ok, Err}
use Rattle.std.proofs.Math.Path.{◌≡◌}
use mathlib.Core.List.{List, [], ◌∷◌, ◌++◌}
use Rattle.formula.specs.Results.{Verdict}
use Rattle.formula.specs.declared.Refusal.{Refusal}
use Rattle.formula.specs.Tests.{Sheet, Test}

-- What holds of each test of a list.
abbrev pub Each : (Test → Type 0) → List Test → Type 0
Each P [] = Unit {0}
Each P (t ∷ ts) = P t × Each P ts

abbrev pub ◌also◌ : {A B : Type 0} → A → B → A × B
a also b = (a, b)

infixr 5 ◌also◌
abbrev pub Passes : Sheet → Test → Type 0
Passes x t = t.check x ≡ Ok tt

-- What a fault of a test says of its refusal and row.
abbrev pub FaultSays : (Refusal → ℕ → Type 0) → Sheet → Test → Type 0
FaultSays Says x t = (row : ℕ) → t.check x ≡ Err row → Says t.refusal row

-- A verdict that goes on where it passed.
abbrev pub then : Verdict → Verdict → Verdict
then (Ok _) later = later
then (Err why) later = Err why
