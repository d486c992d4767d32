-- What Swapped claims beyond demand 3 has an instance on real memory. Two runs of "let x4 = (for x2 = x1 do if x2 then iter x2 else x0) in if x3 then x0 else x4", at capacity 2 with
-- the sets (6, T, T) and (5, F, T), at capacity 16 with (7, F, T) and (5, F, T). Evaluation of (6, T, T) never ends (`first-never-ends`), yet both results are taken in
-- both (`endless-does`, `ending-does`), the same at position 1 (`other-same`), different ones at position 0 (`own-differs`). The steps: theory_verdicts/specs/BehindEndless.
use Rattle.std.specs.Prelude.{ℕ, zero, suc, ◌≤◌, ◌<◌, ◌≡◌, refl, ◌≢◌, Bool, false, eqb, pos, length, get_or}
use Prim.Native.String.{String}
use mathlib.Core.List.{List, [], ◌∷◌, ◌++◌, map}
use Rattle.value.specs.declared.Value.TheVariants.{Whole}
use Rattle.value.specs.Bytes.{bytes_of}
use Rattle.examples.specs.Sheets.{bytes}
use Rattle.theory_pieces.specs.Tape.{Step, sets_of}
use Rattle.formula.specs.Tree.{Exp, formula_of}
use Rattle.formula.specs.Faults.{letters_of}
use Rattle.formula.specs.Tests.{verdict_of}
use Rattle.formula.specs.Acceptance.{Admissible, Kinded}
use Rattle.graph.specs.Translation.{made_of}
use Rattle.meaning.specs.Evaluate.{cells_of}
use Rattle.value_sets.specs.Sets.{set_values}
use Rattle.machine_layout.specs.Layout.{size_of, need}
use Rattle.machine_calls.specs.declared.Answer.{Answer}
use Rattle.machine_start.specs.Start.{started}
use Rattle.machine_start.specs.StartLaws.{start-accepts}
use Rattle.theory_verdicts.specs.Results.{EndsWith}
use Rattle.theory_verdicts.specs.Running.{start_of, history, handed, taken}
use Rattle.theory_verdicts.specs.BehindEndless.{beside_loop, endless_set, ending_set, swapped_set, overtaking, without_loop, asked}
use Rattle.demand.specs.MemoryCalls.{answers_of}
use Rattle.demand.specs.Swapped.{Run, begun}

-- ---- the sheet
unfoldable pub rows : String
rows = "     1     1     0     0     0\n     1     2     0     0     0\n     1     2     0     0     0\n     9     3     0     0     0\n     1     0     0     0     0\n     7     2     4     5     0\n     8     2     1     1     6\n     1     3     0     0     0\n     1     0     0     0     0\n     1     4     0     0     0\n     7     8     9    10     0\n     6     4     1     7    11\n"

abbrev pub line : List ℕ
line = bytes "WTT\n"

abbrev pub kinds : List ℕ
kinds = letters_of (formula_of (bytes rows)) line

-- ---- a run that makes steps
abbrev pub refusals_in : Run (bytes rows) → List ℕ
refusals_in r = map (λ (z : Answer). z.refusal) (answers_of r.calls (begun r))

-- Position 0.
abbrev pub first : ℕ → Bool
first k = eqb k 0
