-- Document 01's marked example "sixteen pushes at capacity 16 pass, the seventeenth gives 32" on the machine's memory: the case of the one list (Cases), which
-- reads the answers off the links, carried over by the law that pushes on bytes are answered as the links say (demand/specs/Pushes). For every memory of the
-- length that start needs, and pushes lent no less of it. Assumes nothing else.
use Rattle.std.specs.Prelude.{ℕ, ◌≤◌, ◌≡◌, refl, List, [], ◌∷◌, ◌++◌, length, get_or, replicate, Ok}
use Rattle.std.proofs.Common.{ap, ◌∙◌, arith}
use Rattle.std.proofs.Math.Option.{some}
use Rattle.formula.specs.Tree.{formula_of}
use Rattle.formula.specs.Faults.{letters_of}
use Rattle.formula.specs.Tests.{verdict_of}
use Rattle.value_sets.specs.Sets.{set_values}
use Rattle.machine_layout.specs.Layout.{size_of, need}
use Rattle.theory_verdicts.specs.Running.{start_of}
use Rattle.machine_start.specs.Start.{started}
use Rattle.machine_start.specs.StartLaws.{start-accepts}
use Rattle.demand.specs.Pushes.{push_refusals, push_answers}
use Rattle.demand.proofs.Pushes.{pushes-from-start}
use Rattle.examples.specs.Sheets.{bytes, lesser}
use Rattle.demand_ends.specs.ResultBytes.{spelled}
use Rattle.value.specs.Bytes.{bytes_of}
use Rattle.cases.specs.Cases.{Answer, accepts, refuses, passes, operators, evaluates, refusals, three_and_five, got, cases, cases-worked}

unfoldable refusals_in : Answer → List ℕ
refusals_in (accepts figures) = []
refusals_in (refuses n row) = []
refusals_in (passes b) = []
refusals_in (operators n) = []
refusals_in (evaluates n row width rounds cells) = []
refusals_in (refusals rs) = rs

-- The first case of the list.
case-worked : push_refusals (formula_of (bytes lesser)) 16 three_and_five 17 (start_of (formula_of (bytes lesser))) ≡ replicate 16 0 ++ (32 ∷ [])
unfolding cases got refusals_in
case-worked = ap (λ (gs : List Answer). refusals_in (get_or gs 0 (refusals []))) cases-worked

lesser-passed : verdict_of (bytes lesser) (bytes "WW\n") ≡ Ok tt
unfolding verdict_of bytes lesser
lesser-passed = refl

set-read : set_values (letters_of (formula_of (bytes lesser)) (bytes "WW\n")) (spelled three_and_five) ≡ some three_and_five
unfolding set_values letters_of formula_of bytes lesser bytes_of
set-read = refl

-- "sixteen pushes at capacity 16 pass, the seventeenth gives 32"
pub seventeenth-refused : (memory : List ℕ) → need (size_of 16) ≤ length memory → (lent : ℕ) → need (size_of 16) ≤ lent
    → push_answers lent 17 (spelled three_and_five) (started (bytes lesser) (bytes "WW\n") 16 memory).mem ≡ replicate 16 0 ++ (32 ∷ [])
seventeenth-refused memory long lent enough =
    pushes-from-start (bytes lesser) (bytes "WW\n") 16 memory (start-accepts (bytes lesser) (bytes "WW\n") 16 memory lesser-passed (omega arith) (omega arith) long)
    (spelled three_and_five) three_and_five set-read lent enough 17
    ∙ case-worked
