-- Document 01's example, the lesser of two, as the definitions number its operators and links ("this graph has 8 operators"): links 0 and 1 are the
-- inputs; both names are shared by test and arms, and the test's output by the T, the F and the M gate, so that it passes two copies.
use Rattle.std.specs.Prelude.{ℕ, ◌≡◌, refl, false, List, [], ◌∷◌}
use Rattle.std.proofs.Math.Option.{none, some}
use Rattle.network.specs.Rules.{Kind, operator as operatorKind, T-gate, F-gate, M-gate}
use Rattle.formula.specs.Tree.{Exp, identifier, pair, operator, if_e, formula_of}
use Rattle.graph.specs.Assembly.{Operator, copy_of, made, nth}
use Rattle.graph.specs.Translation.{made_of}
use Rattle.examples.specs.Sheets.{bytes, lesser}

abbrev pub lesser_of_two : Exp
lesser_of_two = if_e (operator 6 (pair (identifier 0) (identifier 1))) (identifier 0) (identifier 1)

-- an operator with its inputs and its one output
abbrev pub plain : Kind → List ℕ → ℕ → Operator
plain k ins out = made k none ins (some out) none none
