-- How the program writes an answer of reading: six numbers, each in six characters as a field of document 01's sheet (text/specs/Printed), and a
-- line feed. By text/proofs/RoundTrip the sheet's own definition reads each as the number that was written.
use Rattle.std.specs.Prelude.{List, [], ◌∷◌, ◌++◌, ℕ}
use Rattle.text.specs.Printed.{number_field}
use Rattle.sheet_read.specs.declared.read.ReadAnswer.{ReadAnswer}

unfoldable pub line_of : ReadAnswer → List ℕ
line_of a = number_field a.refusal ++ number_field a.row ++ number_field a.rows ++ number_field a.operators ++ number_field a.inputs ++ number_field a.results ++ (10 ∷ [])
