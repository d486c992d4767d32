-- The lines of a set file (document 01, "Program and readings": "A set line has one 11-character field a value .. and a line feed"), and refusal 12: "a
-- set with another number of values than inputs, a bad value field, a file line unended", with the lowest line; document 02, Job 6: "Sets with another
-- kind are refused with 12". Bytes behind the last line feed are an unended line. A set is the bytes that push takes, five a value. The kinds are the
-- letters of the kinds line, one an input. Assumes nothing.
use Rattle.std.specs.Prelude.{ℕ, zero, suc, ◌+◌, ◌*◌, Bool, true, cond, ◌&&◌, List, [], ◌∷◌, ◌++◌, length, get_or, take, drop, eqb, Result, Ok, Err}
use Rattle.std.proofs.Math.Seq.{slice}
use Rattle.value.specs.Operators.{pick}
use Rattle.value.specs.Bytes.{is_some, word_bytes}
use Rattle.value.specs.Kinds.{of_kind}
use Rattle.text.specs.Fields.{field_value, word_by}

-- The byte b in front of the lines of what follows it.
unfoldable pub before : ℕ → List (List ℕ) → List (List ℕ)
before b [] = (b ∷ []) ∷ []
before b (l ∷ ls) = (b ∷ l) ∷ ls

-- The lines of a file, each with its line feed; only the last can lack it.
unfoldable pub lines_of : List ℕ → List (List ℕ)
unfolding before
lines_of [] = []
lines_of (b ∷ s) = cond (eqb b 10) ((10 ∷ []) ∷ lines_of s) (before b (lines_of s))

-- What stands in a file from a place on, as long as a line of values of these kinds.
abbrev pub line_at : List ℕ → List ℕ → ℕ → List ℕ
line_at kinds s at = take (11 * length kinds + 1) (drop at s)

-- "one 11-character field a value": field j of a line, from 0 on.
abbrev pub field_at : List ℕ → ℕ → List ℕ
field_at l j = slice (11 * j) (11 * j + 11) l

-- Whether the first k fields of a line are values of their kinds, or errs.
unfoldable pub fields_well : List ℕ → ℕ → List ℕ → Bool
unfolding field_value of_kind
fields_well kinds zero l = true
fields_well kinds (suc k) l = fields_well kinds k l && is_some (of_kind (get_or kinds k 0) (field_value (field_at l k)))

-- Their bytes.
unfoldable pub field_bytes : ℕ → List ℕ → List ℕ
unfolding field_value
field_bytes zero l = []
field_bytes (suc k) l = field_bytes k l ++ word_bytes (word_by (field_value (field_at l k)))

-- Whether a line is a set of values of these kinds, with its line feed.
unfoldable pub is_set_line : List ℕ → List ℕ → Bool
unfolding fields_well
is_set_line kinds l = eqb (length l) (11 * length kinds + 1) && eqb (get_or l (11 * length kinds) 0) 10 && fields_well kinds (length kinds) l

-- The sets of a file, or the lowest line at fault.
pub data SetFile : Type 0 where
  sets : List (List ℕ) → SetFile
  bad_line : ℕ → SetFile

unfoldable pub one_more : List ℕ → SetFile → SetFile
one_more s (sets ss) = sets (s ∷ ss)
one_more s (bad_line i) = bad_line i

-- The lines from line i on.
unfoldable pub sets_from : List ℕ → ℕ → List (List ℕ) → SetFile
unfolding is_set_line field_bytes one_more
sets_from kinds i [] = sets []
sets_from kinds i (l ∷ ls) = pick (is_set_line kinds l) (one_more (field_bytes (length kinds) l) (sets_from kinds (suc i) ls)) (bad_line i)

unfoldable pub sets_of : List ℕ → List ℕ → SetFile
unfolding sets_from lines_of
sets_of kinds s = sets_from kinds 1 (lines_of s)

-- The code's answer: how many sets, or the lowest line at fault.
abbrev pub count_of : SetFile → Result ℕ ℕ
count_of (sets ss) = Ok (length ss)
count_of (bad_line i) = Err i
