-- Laws of specs/Outcomes.antt, and what only they need.
use Rattle.std.specs.Prelude.{◌≡◌, refl, ◌++◌, Ok}
use Rattle.formula.specs.declared.Refusal.TheVariants.{Rows, Malformed, Naming, Named, Memory}
use Rattle.formula.specs.Results.{refused}
use Rattle.formula.specs.Refusals.{number_of}
use Rattle.formula.specs.Tests.{reading_of, figures_of}
use Rattle.examples.specs.Sheets.{bytes, alike, constant_row}
use Rattle.sheet_tidy.specs.Tidying.{handed, answers, tidied_into}
use Rattle.sheet_tidy.specs.Outcomes.{sevens, with_dead_rows, without, pair_of_one, still_of_one, named_from_dead_row, named_once_now, dead_malformed, dead_naming, every_kind, every_kind_tidied}

-- Four rows, and behind them what the memory held.
dead-rows-dropped : tidied_into (bytes with_dead_rows) (sevens 190) ≡ handed (answers 0 0 4) (bytes without ++ sevens 66)
unfolding tidied_into bytes with_dead_rows without
dead-rows-dropped = refl

one-byte-short : tidied_into (bytes with_dead_rows) (sevens 185) ≡ handed (answers (number_of Memory) 0 0) (sevens 185)
unfolding tidied_into bytes with_dead_rows
one-byte-short = refl

-- As they are handed in: the one is refused with 6, the other accepted.
read-as-handed-in : reading_of (bytes with_dead_rows) (bytes "W\n") ≡ refused Named 4
unfolding reading_of bytes with_dead_rows
read-as-handed-in = refl

tidied-accepted : reading_of (bytes without) (bytes "W\n") ≡ Ok (figures_of (bytes without))
unfolding reading_of bytes without
tidied-accepted = refl

doubled-name-stays : tidied_into (bytes pair_of_one) (sevens 124) ≡ handed (answers 0 0 3) (bytes still_of_one ++ sevens 31)
unfolding tidied_into bytes pair_of_one still_of_one
doubled-name-stays = refl

doubled-name-refused : reading_of (bytes still_of_one) (bytes "W\n") ≡ refused Named 1
unfolding reading_of bytes still_of_one
doubled-name-refused = refl

dead-name-refused : reading_of (bytes named_from_dead_row) (bytes "W\n") ≡ refused Named 1
unfolding reading_of bytes named_from_dead_row
dead-name-refused = refl

dead-name-gone : tidied_into (bytes named_from_dead_row) (sevens 93) ≡ handed (answers 0 0 2) (bytes named_once_now ++ sevens 31)
unfolding tidied_into bytes named_from_dead_row named_once_now
dead-name-gone = refl

dead-name-accepted : reading_of (bytes named_once_now) (bytes "W\n") ≡ Ok (figures_of (bytes named_once_now))
unfolding reading_of bytes named_once_now
dead-name-accepted = refl

dead-row-malformed : tidied_into (bytes dead_malformed) (sevens 93) ≡ handed (answers (number_of Malformed) 2 0) (sevens 93)
unfolding tidied_into bytes dead_malformed
dead-row-malformed = refl

dead-row-naming : tidied_into (bytes dead_naming) (sevens 93) ≡ handed (answers (number_of Naming) 2 0) (sevens 93)
unfolding tidied_into bytes dead_naming
dead-row-naming = refl

every-kind : tidied_into (bytes every_kind) (sevens 465) ≡ handed (answers 0 0 12) (bytes every_kind_tidied ++ sevens 93)
unfolding tidied_into bytes every_kind every_kind_tidied
every-kind = refl

every-kind-accepted : reading_of (bytes every_kind_tidied) (bytes "R\n") ≡ Ok (figures_of (bytes every_kind_tidied))
unfolding reading_of bytes every_kind_tidied
every-kind-accepted = refl

-- 200 rows of which nothing names another: the last alone is left; 201 are refused.
two-hundred : (tidied_into (alike 200 constant_row) (sevens 6200)).answer ≡ answers 0 0 1
unfolding tidied_into alike constant_row
two-hundred = refl

two-hundred-and-one : (tidied_into (alike 201 constant_row) (sevens 6200)).answer ≡ answers (number_of Rows) 0 0
unfolding tidied_into alike constant_row
two-hundred-and-one = refl
