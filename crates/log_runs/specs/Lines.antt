-- How the program writes the answer of a log's check: refusal, row, results and their width, each in six characters (text/specs/Printed), and a line feed.
use Rattle.std.specs.Prelude.{ℕ, List, ◌++◌}
use Rattle.text.specs.Printed.{number_field, refusal_line}
use Rattle.machine_log.specs.declared.LogAnswer.{LogAnswer}

unfoldable pub line_of : LogAnswer → List ℕ
unfolding number_field refusal_line
line_of a = number_field a.refusal ++ (number_field a.row ++ refusal_line a.count a.width)
