-- What a field, one test, all tests and reading say, as std's Option and Result, by the names that the other definitions use. Assumes
-- nothing.
use Rattle.std.specs.Prelude.{ℕ, Option, Result, Err}
use Rattle.formula.specs.declared.Refusal.{Refusal}
use Rattle.formula.specs.declared.Refused.{Refused}
use Rattle.formula.specs.declared.Figures.{Figures}

-- A decimal field: its number, or malformed.
abbrev pub Field : Type 0
Field = Option ℕ

-- What one test says of a sheet: passed, or the lowest row at fault (0 where the test is not about a row).
abbrev pub Check : Type 0
Check = Result Unit ℕ

-- What reading says of a sheet: every test passed, or the first refusal with its row.
abbrev pub Verdict : Type 0
Verdict = Result Unit Refused

-- The answer of reading a sheet: the figures of an accepted one.
abbrev pub Reading : Type 0
Reading = Result Figures Refused

abbrev pub refused : {A : Type 0} → Refusal → ℕ → Result A Refused
refused refusal row = Err (record { refusal = refusal; row = row })
