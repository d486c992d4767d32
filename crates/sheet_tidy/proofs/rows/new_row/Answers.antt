use mathlib.Core.Path.{sym, ◌∙◌, ap, subst}
use Prim.Native.Nat.{ℕ, ◌+◌, ◌-◌}
use lib.ListN.{length, get_or}
use Rattle.formula.specs.Sheet.{named_in}
use Rattle.formula.specs.TreeLaws.{AllBetween}
use Rattle.sheet_tidied.specs.Tidy.{renamed}
use Rattle.sheet_tidy.proofs.rows.new_row.Goals as goal

pub rename-requires : goal.rename-requires
rename-requires c = subst (λ z. AllBetween (length c.args.numbers.now + 1) (named_in z)) (sym c.shape_at.ensures) c.requires.2

pub returns : goal.returns
returns c = c.rename.ensures ∙ ap (renamed (λ (x : ℕ). get_or c.args.numbers.now (x - 1) 0)) c.shape_at.ensures
