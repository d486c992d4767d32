-- A log of the partner's bench, line by line. Document 02, Job 3: "Its log has two six-character fields a line and a line feed: 1 and a set number, 2 and an
-- operator number, or 3 and 0, for push, fire, take"; 15 "when a line is malformed, names a set not in the list or is line 4,097". The fields are those of a
-- sheet (formula/specs/Sheet `field_of`). Lines count from 1. Definitions only; assumes nothing.
use Rattle.std.specs.Prelude.{ℕ, zero, suc, ◌+◌, ◌*◌, ◌-◌, ◌/◌, Bool, true, false, cond, ◌&&◌, List, [], ◌∷◌, eqb, leb, length, get_or, take, drop, Some, None}
use Rattle.formula.specs.Results.{Check, Field}
use Rattle.formula.specs.Sheet.{field_of, field_text}
use Rattle.formula.specs.Tests.{lowest}
use Rattle.machine_log.specs.declared.lines.Line.{Line}
use Rattle.machine_log.specs.declared.lines.Line.TheVariants.{Push, Fire, Take, Malformed}

-- "two six-character fields a line and a line feed"
abbrev pub line_bytes : ℕ
line_bytes = 13

abbrev pub line_feed_at : ℕ
line_feed_at = 12

abbrev pub line_feed : ℕ
line_feed = 10

-- "Up to 4,096 lines"
abbrev pub most_lines : ℕ
most_lines = 4096

-- "1 and a set number, 2 and an operator number, or 3 and 0, for push, fire, take"
unfoldable pub line_by : ℕ → ℕ → Line
line_by what number =
    cond (eqb what 1) (Push number)
    (cond (eqb what 2) (Fire number)
    (cond (eqb what 3 && eqb number 0) Take
    Malformed))

unfoldable pub by_fields : Field → Field → Line
unfolding line_by
by_fields (Some what) (Some number) = line_by what number
by_fields (Some what) None = Malformed
by_fields None second = Malformed

-- A line from its bytes; one with too few, or without its line feed, is malformed.
unfoldable pub line_of : List ℕ → Line
unfolding by_fields field_of
line_of text =
    cond (eqb (length text) line_bytes && eqb (get_or text line_feed_at 0) line_feed)
    (by_fields (field_of (field_text text 0)) (field_of (field_text text 1)))
    Malformed

-- Line j as it lies in the log, counted from 0.
abbrev pub line_at : List ℕ → ℕ → Line
line_at log j = line_of (take line_bytes (drop (line_bytes * j) log))

-- The first n lines.
unfoldable pub lines_in : ℕ → List ℕ → List Line
unfolding line_of
lines_in zero log = []
lines_in (suc n) log = line_of (take line_bytes log) ∷ lines_in n (drop line_bytes log)

-- Bytes behind the last whole line are a line too.
abbrev pub line_count : List ℕ → ℕ
line_count log = (length log + (line_bytes - 1)) / line_bytes

unfoldable pub lines_of : List ℕ → List Line
unfolding lines_in
lines_of log = lines_in (line_count log) log

-- "Sets count from 1 in a list": whether the line is one, and names a set of the list if it is a push.
unfoldable pub listed : ℕ → Line → Bool
listed number (Push n) = leb 1 n && leb n number
listed number (Fire operator) = true
listed number Take = true
listed number Malformed = false

-- 15 "when a line is malformed, names a set not in the list or is line 4,097"
unfoldable pub line_well : ℕ → List ℕ → ℕ → Bool
unfolding listed lines_of
line_well number log j = leb j most_lines && listed number (get_or (lines_of log) (j - 1) Malformed)

-- "the lowest such line, 15 tested over the whole log first"
abbrev pub log_check : ℕ → List ℕ → Check
log_check number log = lowest (line_count log) (line_well number log)
