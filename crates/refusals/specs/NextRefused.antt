-- A refused call for the next small sheet (document 02, Job 14): its refusal is the first of its table, with row 0, and every lent byte is handed back
-- unaltered. Assumes nothing.
use Rattle.std.specs.Prelude.{ℕ, ◌≡◌, refl, Bool, true, false, not, ◌||◌, ◌≢◌, List, [], ◌∷◌}
use Rattle.value.specs.Operators.{pick}
use Rattle.formula.specs.declared.Refusal.{Refusal}
use Rattle.formula.specs.declared.Refusal.TheVariants.{Memory, Unlisted, LastListed}
use Rattle.formula.specs.Refusals.{number_of}
use Rattle.sheet_listed.specs.Small.{is_small, Behind, next, none-behind, unlisted, next_of}
use Rattle.sheet_next.specs.Next.{Handed, handed, answers, by_behind, next_into}
use Rattle.refusals.specs.Rows.{RowTold}
use Rattle.machine_tray.specs.OneByOne.{either}

-- ---- the first of its table
abbrev pub is-unlisted : Behind → Bool
is-unlisted (next u) = false
is-unlisted none-behind = false
is-unlisted unlisted = true

-- ---- its row and its bytes
abbrev pub NextKeeps : List ℕ → List ℕ → Handed → Type 0
NextKeeps s out h = h.answer.refusal ≢ 0 → RowTold s [] h.answer.refusal h.answer.row × (h.answer.rows ≡ 0) × (h.out ≡ out)
