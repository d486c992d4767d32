-- Laws of specs/LongLines.antt, and what only they need.
use Rattle.std.specs.Prelude.{ℕ, suc, ◌≤◌, ◌<◌, ◌≡◌, Bool, true, false, List, ◌++◌, length, Ok}
use Rattle.std.proofs.Math.Path.{refl, ap}
use Rattle.std.proofs.Common.{sym, ◌∙◌, arith, length-append}
use Rattle.names.specs.Names.{without, one, trigger}
use Rattle.names.proofs.Sets.{length-members, size-le}
use Rattle.formula.specs.declared.Refusal.TheVariants.{KindsLine}
use Rattle.formula.specs.Results.{refused}
use Rattle.formula.specs.Sheet.{row_count, fields_of}
use Rattle.formula.specs.Tree.{Exp, exp_of}
use Rattle.formula.specs.Free.{free_e, inputs_of}
use Rattle.formula.specs.Tests.{line_fits, after_check, verdict_by, verdict_of, tests, row_tests, formula_tests, kind_tests, graph_tests, sheet_of}
use Rattle.formula.specs.Verdicts.{then}
use Rattle.formula.proofs.Verdicts.{then-behind}
use Rattle.formula.proofs.Acceptance.{passed-kinded}
use Rattle.sheet_kinds.specs.Line.{well-length}
use Rattle.session.specs.LongLines.{longest_kinds}

inputs-few : (x : Exp) → length (inputs_of x) ≤ 33
unfolding inputs_of
inputs-few x = let f = without (free_e x) (one trigger) in omega (arith, length-members f, size-le f)

-- The length of a line that passes 17.
pub told-length : (t : List ℕ) (n : ℕ) (line : List ℕ) → line_fits t n line ≡ true → length line ≡ suc (length (inputs_of (exp_of t n)))
unfolding line_fits
told-length t n line h = well-length (length (inputs_of (exp_of t n))) line h

too_long : (t : List ℕ) (n : ℕ) (line : List ℕ) → longest_kinds < length line → line_fits t n line ≡ false
too_long t n line h = go (line_fits t n line) refl
  where
    go : (b : Bool) → line_fits t n line ≡ b → line_fits t n line ≡ false
    go true e = absurd (omega (arith, h, told-length t n line e, inputs-few (exp_of t n)))
    go false e = e

module _ (s : List ℕ) where
  kinds-untold : (line : List ℕ) → line_fits (fields_of s) (row_count s) line ≡ false → verdict_by (kind_tests line ++ graph_tests) (sheet_of s) ≡ refused KindsLine 0
  unfolding verdict_by after_check kind_tests sheet_of
  kinds-untold line e = rw e refl

  -- Where 17 does not pass, no other line is told apart from this one.
  untold : (line : List ℕ) → line_fits (fields_of s) (row_count s) line ≡ false
      → verdict_of s line ≡ then (verdict_by row_tests (sheet_of s)) (then (verdict_by formula_tests (sheet_of s)) (refused KindsLine 0))
  unfolding verdict_of tests
  untold line e =
      then-behind (sheet_of s) row_tests (formula_tests ++ (kind_tests line ++ graph_tests))
      ∙ ap (then (verdict_by row_tests (sheet_of s)))
      (then-behind (sheet_of s) formula_tests (kind_tests line ++ graph_tests) ∙ ap (then (verdict_by formula_tests (sheet_of s))) (kinds-untold line e))

  -- WHAT STANDS BEHIND A LONG LINE DOES NOT MATTER.
  pub verdict-behind : (line more : List ℕ) → longest_kinds < length line → verdict_of s (line ++ more) ≡ verdict_of s line
  verdict-behind line more h =
      untold (line ++ more) (too_long (fields_of s) (row_count s) (line ++ more) (omega (arith, length-append line more, h)))
      ∙ sym (untold line (too_long (fields_of s) (row_count s) line h))

  -- No line that is accepted is so long.
  pub passed-short : (line : List ℕ) → verdict_of s line ≡ Ok tt → length line ≤ longest_kinds
  passed-short line e =
      omega (arith, told-length (fields_of s) (row_count s) line (passed-kinded s line e).told, inputs-few (exp_of (fields_of s) (row_count s)))
