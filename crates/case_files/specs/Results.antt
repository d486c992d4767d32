-- A result set as the programs over stored cases show it.
use Rattle.std.specs.Prelude.{ℕ, List, [], cond, ◌&&◌, leb, length}
use Rattle.text.specs.Printed.{result_line}

-- Its line, where the width is one and all its bytes are there; else nothing.
abbrev pub shown_result : ℕ → List ℕ → List ℕ
shown_result width results = cond (leb width 16 && leb 80 (length results)) (result_line width results) []
