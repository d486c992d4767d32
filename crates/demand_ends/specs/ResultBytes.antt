-- A result set as bytes: document 01, "A result set is sixteen values carried whole, with its width; places past the width hold err", five bytes a
-- value (value/specs/Bytes). One definition, and that the bytes which take writes (machine_calls/specs/Calls: written) and the cells of direct evaluation
-- (meaning/specs/Evaluate: cells_of) are these. Assumes nothing.
use Rattle.std.specs.Prelude.{ℕ, zero, suc, ◌+◌, ◌-◌, ◌*◌, ◌≤◌, ◌<◌, ◌≡◌, Bool, get_or, replicate}
use mathlib.Core.List.{List, [], ◌∷◌, ◌++◌, map, append_assoc, append-nil}
use Rattle.value.specs.declared.Value.{Value}
use Rattle.value.specs.Operators.{pick}
use Rattle.value.specs.Bytes.{word_of, word_bytes, bytes_of}
use Rattle.value.specs.Senses.{err}
use Rattle.machine_layout.specs.Layout.{links_at, result_link}
use Rattle.machine_firing.specs.Links.{head_at}
use Rattle.machine_calls.specs.Calls.{result_word_from, result_word, written}
use Rattle.machine_calls.specs.Written.{words_out, stored_out, stored-out, written_out}
use Rattle.meaning.specs.declared.Cell.{Cell}
use Rattle.meaning.specs.Evaluate.{cell, cells_of}
use Rattle.theory_verdicts.specs.ResultSets.{result_set}

-- Five bytes a value.
abbrev pub spelled : List Value → List ℕ
spelled [] = []
spelled (v ∷ vs) = bytes_of v ++ spelled vs

unfoldable pub result_bytes : List Value → List ℕ
unfolding bytes_of
result_bytes r = spelled (result_set r).places

-- The same of evaluation's cells.
abbrev pub cell_bytes : List Cell → List ℕ
cell_bytes [] = []
cell_bytes (c ∷ cs) = bytes_of c.v ++ cell_bytes cs
