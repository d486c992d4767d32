use mathlib.Core.Path.{◌∙◌, ap}
use Prim.Native.Nat.{ℕ, ◌+◌}
use mathlib.Core.List.{List}
use lib.ListN.{set, length-set}
use lib.Seq.{sets}
use Rattle.text.specs.Printed.{number_field}
use Rattle.sheet_tidied.proofs.Written.{row-parts}
use Rattle.sheet_tidy.proofs.rows.put_row.Goals as goal

pub shape_of-out : goal.shape_of-out
shape_of-out c = length-set c.put_number-5.new.out (c.args.at + 30) 10 ∙ c.put_number-5.auto.out ∙ c.put_number-4.auto.out ∙ c.put_number-3.auto.out ∙ c.put_number-2.auto.out ∙ c.put_number.auto.out

pub returns : goal.returns
returns c =
    ap (λ (x : List ℕ). set x (c.args.at + 30) 10)
    (c.put_number-5.ensures ∙ ap (λ (x : List ℕ). sets x (c.args.at + 24) (number_field c.args.r.d))
    (c.put_number-4.ensures ∙ ap (λ (x : List ℕ). sets x (c.args.at + 18) (number_field c.args.r.c))
    (c.put_number-3.ensures ∙ ap (λ (x : List ℕ). sets x (c.args.at + 12) (number_field c.args.r.b))
    (c.put_number-2.ensures ∙ ap (λ (x : List ℕ). sets x (c.args.at + 6) (number_field c.args.r.a))
    c.put_number.ensures))))
    ∙ row-parts c.args.out.now c.args.at c.args.r.kind c.args.r.a c.args.r.b c.args.r.c c.args.r.d c.requires
