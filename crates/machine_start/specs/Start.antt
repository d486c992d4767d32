-- Start: from a sheet, its kinds line, a capacity and the lent memory to the answer and every lent byte at its end. Document 01, "Running": "Start takes a link
-- capacity of 1 to 16"; "Reading, start and evaluation make 1 to 10", and document 02, Job 6, 17 and 18 with the kinds line; "11 comes before all"; "14
-- capacity outside 1..16 (start: after 11, before 1)". A refused start leaves every byte as it was. The layout is machine_layout/specs/Layout. Assumes nothing.
use Rattle.std.specs.Prelude.{ℕ, zero, suc, ◌+◌, ◌*◌, ◌/◌, ◌%◌, cond, ◌&&◌, List, [], ◌∷◌, length, get_or, set, leb, ltb, Ok, Err}
use Rattle.std.proofs.lemmas.List.Edits.{sets}
use Rattle.value.specs.Operators.{pick}
use Rattle.formula.specs.declared.Refusal.{Refusal}
use Rattle.formula.specs.declared.Refusal.TheVariants.{Memory, Capacity}
use Rattle.formula.specs.Results.{Verdict}
use Rattle.formula.specs.Refusals.{number_of}
use Rattle.formula.specs.Tree.{Exp, formula_of}
use Rattle.formula.specs.Tests.{verdict_of}
use Rattle.formula.specs.Faults.{letters_of}
use Rattle.machine_layout.specs.Layout.{input_kinds_at, stored16, no_link, links_at, size_of, link_from, need, capacity_in}
use Rattle.graph.specs.Assembly.{up_from}
use Rattle.graph.specs.Translation.{Made, made_of}
use Rattle.maker_laid.specs.Encode.{encoded, written}
use Rattle.machine_start.specs.declared.StartAnswer.{StartAnswer}

-- ---- the answer

pub record Begun : Type 0 where
  pub answer : StartAnswer
  pub mem : List ℕ

abbrev pub begun : StartAnswer → List ℕ → Begun
begun a m = record { answer = a; mem = m }

abbrev pub refusal : Refusal → ℕ → StartAnswer
refusal r row = record { refusal = number_of r; row = row; operators = 0; inputs = 0; results = 0 }

abbrev pub accepted : Made → StartAnswer
accepted g = record { refusal = 0; row = 0; operators = length g.operators; inputs = g.inputs; results = length g.results }

-- ---- the header

-- capacity, operators, links, inputs, results, no set untaken, the trigger's link
unfoldable pub figure_bytes : ℕ → ℕ → ℕ → ℕ → ℕ → ℕ → List ℕ
figure_bytes capacity operators links inputs results trigger =
    capacity ∷ operators % 256 ∷ operators / 256 ∷ links % 256 ∷ links / 256 ∷ inputs ∷ results ∷ 0 ∷ trigger % 256 ∷ trigger / 256 ∷ []

unfoldable pub figured : List ℕ → ℕ → ℕ → ℕ → ℕ → ℕ → ℕ → List ℕ
unfolding figure_bytes
figured m capacity operators links inputs results trigger = sets m 0 (figure_bytes capacity operators links inputs results trigger)

-- the first k of some link numbers from a place on
unfoldable pub named : ℕ → List ℕ → ℕ → List ℕ → List ℕ
named zero m at ls = m
named (suc j) m at ls = stored16 (named j m at ls) (at + 2 * j) (get_or ls j 0)

-- the letters of the inputs' kinds
unfoldable pub lettered : List ℕ → List ℕ → List ℕ
lettered m kinds = sets m input_kinds_at kinds

-- the trigger's link stands behind those of the inputs, 0, 1, ..
unfoldable pub headed : Made → List ℕ → ℕ → List ℕ → List ℕ
unfolding figured named lettered up_from
headed g kinds capacity m =
    let figures : List ℕ = figured m capacity (length g.operators) g.links g.inputs (length g.results) (cond g.triggered g.inputs no_link) in
    lettered (named (length g.results) (named g.inputs figures 10 (up_from 0 g.inputs)) 74 g.results) kinds

-- ---- the links

-- the first k of the links from a byte on empty: their counts 0
unfoldable pub cleared_from : ℕ → ℕ → ℕ → List ℕ → List ℕ
cleared_from zero base size m = m
cleared_from (suc l) base size m = set (cleared_from l base size m) (link_from base size l) 0

abbrev pub emptied : ℕ → ℕ → List ℕ → List ℕ
emptied k size m = cleared_from k links_at size m

-- ---- the whole

-- "Start a machine empty": the operators of the graph from number 0 on, the header, every link of the graph emptied; all other bytes as they were
unfoldable pub started_memory : Made → List ℕ → ℕ → List ℕ → List ℕ
unfolding written headed cleared_from
started_memory g kinds capacity m = emptied g.links (size_of capacity) (headed g kinds capacity (written m 0 (encoded g.operators)))

unfoldable pub by_verdict : Verdict → Exp → List ℕ → ℕ → List ℕ → Begun
unfolding started_memory made_of
by_verdict (Ok _) x kinds capacity m = begun (accepted (made_of x)) (started_memory (made_of x) kinds capacity m)
by_verdict (Err why) x kinds capacity m = begun (refusal why.refusal why.row) m

-- 11, 14, then the sheet's with its kinds line
unfoldable pub started : List ℕ → List ℕ → ℕ → List ℕ → Begun
unfolding by_verdict letters_of
started sheet line capacity m =
    pick (ltb (length m) (need (size_of (capacity_in capacity))))
    (begun (refusal Memory 0) m)
    (pick (leb 1 capacity && leb capacity 16)
    (by_verdict (verdict_of sheet line) (formula_of sheet) (letters_of (formula_of sheet) line) capacity m)
    (begun (refusal Capacity 0) m))
