use Prim.Native.Nat.{ℕ}
use mathlib.Core.Path.{◌∙◌, ap}
use mathlib.Core.List.{List}
use lib.ListN.{set}
use lib.Seq.{sets}
use Rattle.text.specs.Printed.{number_field}
use Rattle.text.proofs.PrintLaws.{head-parts}
use Rattle.text_print.proofs.put_head.Goals as goal

pub returns : goal.returns
returns c = ap (λ (x : List ℕ). set x 18 10) (c.put_number-3.ensures ∙ ap (λ (x : List ℕ). sets x 12 (number_field c.args.count)) (c.put_number-2.ensures ∙ ap (λ (x : List ℕ). sets x 6 (number_field c.args.results)) c.put_number.ensures)) ∙ head-parts c.args.out.now c.args.inputs c.args.results c.args.count c.requires
