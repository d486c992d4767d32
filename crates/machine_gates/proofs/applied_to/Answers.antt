use mathlib.Core.Path.{sym, ◌∙◌, refl, ap}
use Rattle.value.specs.Bytes.{word_of}
use Rattle.machine_gates.proofs.applied_to.Goals as goal

pub returns-in_default : goal.returns-in_default
returns-in_default c = rw (sym c.from_word.ensures ∙ c.in_default.is) refl

pub returns-in_default-from_word : goal.returns-in_default-from_word
returns-in_default-from_word c = rw (sym c.from_word.ensures ∙ c.in-Some.is, sym c.from_word-2.ensures ∙ c.in_default-from_word.is) refl

pub returns : goal.returns
returns c = rw (sym c.from_word.ensures ∙ c.in-Some.is, sym c.from_word-2.ensures ∙ c.in-Some-from_word.is) (c.to_word.ensures ∙ ap word_of c.apply_code.ensures)
