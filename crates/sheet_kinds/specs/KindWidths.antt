-- A row has as many kinds as the table of widths says. Assumes an expression row of an accepted table.
use Rattle.std.specs.Prelude.{ℕ, ◌≡◌, List, length}
use Rattle.std.proofs.Common.{sym, ap, ◌∙◌}
use Rattle.formula.specs.declared.Shape.TheVariants.{For}
use Rattle.formula.specs.Sheet.{shape_at}
use Rattle.formula.specs.Tree.{exp_of, body_of}
use Rattle.formula.specs.Kinds.{Kinds, kinds_e, returned_kinds}
use Rattle.formula.proofs.KindWidths.{kinds-length, returned-length}
use Rattle.meaning.specs.Rows.{ExpRow}
use Rattle.meaning.proofs.Rows.{exp-facts}
use Rattle.eval_words.specs.Needs.{W, exp-needs}
use Rattle.sheet_kinds.specs.Bytes.{kinds_in, stretch, length-stretch}

-- As many as the table says.
pub counted : (t ws : List ℕ) (r : ℕ) → ExpRow t ws r → (kinds : Kinds) → W ws r ≡ length (kinds_e (exp_of t r) kinds)
counted t ws r h kinds = (exp-facts t ws r h).1 ∙ sym (kinds-length (exp_of t r) kinds)

-- A body of a for returns as many as the for has.
pub counted_back : (t ws : List ℕ) (r : ℕ) (h : ExpRow t ws r) (a b c d : ℕ) → shape_at t r ≡ For a b c d
    → (back : List ℕ) (m : ℕ) (kinds : Kinds)
    → stretch (kinds_in back) 0 m ≡ returned_kinds (body_of t d) kinds → m ≡ W ws r
counted_back t ws r h a b c d e back m kinds i =
    sym (length-stretch (kinds_in back) 0 m)
    ∙ ap length i
    ∙ returned-length (body_of t d) kinds
    ∙ (exp-needs t ws r h (For a b c d) e).3
