use mathlib.Core.Path.{sym, subst}
use Rattle.value.specs.Bytes.{InRange}
use Rattle.value.proofs.Codes.{apply-in-range}
use Rattle.eval_words.proofs.words.operated.Goals as goal

pub word-requires : goal.word-requires
word-requires c = subst InRange (sym c.apply_numbers.ensures) (apply-in-range _ _ _)

pub word-requires-in_default : goal.word-requires-in_default
word-requires-in_default c = subst InRange (sym c.apply_code.ensures) (apply-in-range _ _ _)

pub returns-in-1-to-7 : goal.returns-in-1-to-7
returns-in-1-to-7 c = rw (sym c.held.ensures, sym c.held-in-1-to-7.ensures, sym c.apply_numbers.ensures) c.word.ensures

pub returns-in_default : goal.returns-in_default
returns-in_default c = rw (sym c.held-in_default.ensures, sym c.held-in_default-2.ensures, sym c.apply_code.ensures) c.word-in_default.ensures
