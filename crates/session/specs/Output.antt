-- What the bench program prints (document 01, "Program and readings"; document 02, Job 6), from all bytes of formula.txt, kinds.txt and sets.txt ("A missing
-- file counts as empty"): "It makes the sheet's tests, then 13, then 12 (lowest line), then prints inputs, results and sets in three six-character
-- fields, then a line for each set with an 11-character field a result. A refusal prints its number and row (12: line)". Assumes nothing.
use Rattle.std.specs.Prelude.{ℕ, ◌+◌, List, ◌++◌, length, replicate, ltb, Ok, Err}
use Rattle.value.specs.Operators.{pick}
use Rattle.formula.specs.declared.Refusal.TheVariants.{Set, SetFile}
use Rattle.formula.specs.Results.{Verdict}
use Rattle.formula.specs.declared.Figures.{Figures}
use Rattle.formula.specs.Refusals.{number_of}
use Rattle.formula.specs.Tree.{formula_of}
use Rattle.formula.specs.Faults.{letters_of}
use Rattle.formula.specs.Tests.{verdict_of, figures_of}
use Rattle.machine_layout.specs.Layout.{need, size_of}
use Rattle.machine_start.specs.Start.{started}
use Rattle.text.specs.Printed.{head_line, refusal_line}
use Rattle.text.specs.SetLines.{SetFile as Sets, sets, bad_line, sets_of}
use Rattle.session.specs.Passes.{passes}

-- "It uses capacity 2 and 1,000,000 firings in all"
abbrev pub link_capacity : ℕ
link_capacity = 2

abbrev pub all_firings : ℕ
all_firings = 1000000

-- "a set file over 65,536 bytes"
abbrev pub most_set_bytes : ℕ
most_set_bytes = 65536

-- "over 200 rows", of 31 bytes
abbrev pub most_sheet_bytes : ℕ
most_sheet_bytes = 6200

-- As many repetitions as there are sets and firings are enough (specs/OutputLaws).
unfoldable pub judged : List ℕ → List ℕ → List ℕ → Figures → Sets → List ℕ
unfolding passes
judged formula line memory f (bad_line i) = refusal_line (number_of Set) i
judged formula line memory f (sets ss) =
    head_line f.inputs f.results (length ss) ++ passes (length ss + all_firings) (length ss) ss (started formula line link_capacity memory).mem all_firings

unfoldable pub output_by : Verdict → List ℕ → List ℕ → List ℕ → List ℕ → List ℕ
unfolding judged letters_of
output_by (Err why) formula line file memory = refusal_line (number_of why.refusal) why.row
output_by (Ok _) formula line file memory =
    pick (ltb most_set_bytes (length file)) (refusal_line (number_of SetFile) 0)
    (judged formula line memory (figures_of formula) (sets_of (letters_of (formula_of formula) line) file))

-- With a memory that is lent to the machine.
unfoldable pub output_in : List ℕ → List ℕ → List ℕ → List ℕ → List ℕ
unfolding output_by
output_in memory formula line file = output_by (verdict_of formula line) formula line file memory

-- What was in that memory makes no difference (specs/OutputLaws); here it is all 0.
unfoldable pub blank_memory : List ℕ
blank_memory = replicate (need (size_of link_capacity)) 0

unfoldable pub bench_output : List ℕ → List ℕ → List ℕ → List ℕ
unfolding output_in blank_memory
bench_output formula line file = output_in blank_memory formula line file
