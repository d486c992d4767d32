use native.Mathlib.Omega.{arith}
use Prim.Native.Nat.{ℕ, ◌+◌}
use mathlib.Core.Path.{◌∙◌, ap}
use mathlib.Core.List.{List}
use lib.ListN.{set}
use Rattle.text.proofs.PrintLaws.{spaces-put, letter-parts}
use Rattle.text_print.proofs.put_letter.Goals as goal

pub returns : goal.returns
returns c = ap (λ (x : List ℕ). set x (c.args.at + 10) c.args.letter) (spaces-put c.args.out.now c.fill.new.self c.args.at 10 (omega arith) (c.fill.ensures.after (λ y h. h))) ∙ letter-parts c.args.out.now c.args.at c.args.letter c.requires
