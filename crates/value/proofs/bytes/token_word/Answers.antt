use mathlib.Core.Path.{sym, ◌∙◌}
use Rattle.value.proofs.Tokens.{word-of-token}
use Rattle.value.proofs.bytes.token_word.Goals as goal

pub returns-then-is_value : goal.returns-then-is_value
returns-then-is_value c = sym (rw (sym c.is_value.ensures ∙ c.if-is_value.true) at (word-of-token c.args.w))
