use Prim.Native.Nat.{ℕ, ◌+◌}
use mathlib.Core.Path.{◌∙◌, ap}
use mathlib.Core.List.{List}
use lib.ListN.{set}
use lib.Seq.{sets}
use Rattle.text.specs.Printed.{number_field}
use Rattle.text.proofs.PrintLaws.{refusal-parts}
use Rattle.text_print.proofs.put_refusal.Goals as goal

pub returns : goal.returns
returns c = ap (λ (x : List ℕ). set x (c.args.at + 12) 10) (c.put_number-2.ensures ∙ ap (λ (x : List ℕ). sets x (c.args.at + 6) (number_field c.args.row)) c.put_number.ensures) ∙ refusal-parts c.args.out.now c.args.at c.args.number c.args.row c.requires
