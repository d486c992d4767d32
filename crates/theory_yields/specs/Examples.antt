-- The theorem at work on document 01's factorial, "for i, y = n, 1 do if 1 < i then iter i - 1, y * i else y": its graph yields 120 for n = 5 in five
-- rounds, has no end in four, and yields err for n = err. And on a loop with an if whose arms both iter, which must not drop its err results. The
-- hypotheses of the theorem can be met.
use Rattle.std.specs.Prelude.{refl, [], ◌∷◌, pos}
use Rattle.std.proofs.Math.Option.{some}
use Rattle.value.specs.declared.Value.{Value}
use Rattle.value.specs.declared.Value.TheVariants.{Whole}
use Rattle.value.specs.Senses.{err}
use Rattle.formula.specs.Tree.{Exp, identifier, constant, pair, operator, for_e, ret, iter, if_b}
use Rattle.formula.specs.Widths.{wide_e, wide_b}
use Rattle.formula.specs.Free.{free_e, bound_e, bound_b}
use Rattle.formula.specs.Admitted.{AdmittedE}
use Rattle.meaning.specs.Meaning.{eval_e}
use Rattle.graph.specs.Yields.{Values, Yields}
use Rattle.graph.specs.Translation.{graph_e}

-- n is identifier 0, i is 1 and y is 2.
abbrev pub factorial : Exp
factorial =
    for_e 1 2 (pair (identifier 0) (constant 2 1))
    (if_b (operator 6 (pair (constant 2 1) (identifier 1)))
    (iter (pair (operator 2 (pair (identifier 1) (constant 2 1))) (operator 3 (pair (identifier 2) (identifier 1)))))
    (ret (identifier 2)))

-- "for i = n do if 1 < i then (if i then iter i else iter i) else i": the inner test is no truth.
abbrev pub two-iters : Exp
two-iters =
    for_e 1 1 (identifier 0)
    (if_b (operator 6 (pair (constant 2 1) (identifier 1))) (if_b (identifier 1) (iter (identifier 1)) (iter (identifier 1))) (ret (identifier 1)))

-- every name has one value
abbrev pub all : Value → Values
all v k = some v
