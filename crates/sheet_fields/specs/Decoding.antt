-- What test 3 of document 01 leaves in the table of fields, the rows up to the first fault, and its quick reading of a field.
use Rattle.std.specs.Prelude.{ℕ, Ok, Err}
use Rattle.formula.specs.Results.{Check}

-- A number from here on says that a field was not read; a number of three digits is less.
abbrev pub not_short : ℕ
not_short = 1000

-- How many of n rows a test looks at that stops at the first fault.
abbrev pub seen : ℕ → Check → ℕ
seen n (Ok _) = n
seen n (Err r) = r
