-- The letters that start stores (document 02, Job 6: "a kinds line, one letter an input, W or T, and a line feed"): one for each input of the graph, in front of
-- the line that was handed in. Assumes a line that passes 17 with its sheet; what the maker tells, the reader's promise of its tables too.
use Rattle.std.specs.Prelude.{ℕ, ◌*◌, ◌≤◌, ◌<◌, ◌≡◌, true, List, length, get_or, take}
use Rattle.std.proofs.Math.Path.{refl}
use Rattle.std.proofs.Common.{sym, ap, ◌∙◌, arith, length-take, get_or-take, length-take-le}
use Rattle.value.specs.Kinds.{is_letter}
use Rattle.formula.specs.Tree.{exp_of, formula_of}
use Rattle.formula.specs.Free.{inputs_of}
use Rattle.formula.specs.Faults.{line_well, letters_of}
use Rattle.formula.specs.Tests.{line_fits}
use Rattle.formula.specs.Acceptance.{Kinded}
use Rattle.graph.specs.Translation.{made_of}
use Rattle.sheet_kinds.specs.Line.{well-length, well-letter}
use Rattle.sheet_read.specs.Reading.{Tables, Accepts}
use Rattle.maker.specs.Making.{making_of}
use Rattle.maker.specs.declared.Making.{Making}
use Rattle.maker.specs.AcceptedSheets.{accepted-formula}
use Rattle.machine_start.specs.Completed.{made-inputs}

module _ (s line : List ℕ) (K : Kinded s line) where
  line-well : line_well (made_of (formula_of s)).inputs line ≡ true
  unfolding line_fits formula_of made_of
  line-well = K.told

  line-long : (made_of (formula_of s)).inputs ≤ length line
  line-long = omega (arith, well-length (made_of (formula_of s)).inputs line line-well)

  letters : letters_of (formula_of s) line ≡ take (made_of (formula_of s)).inputs line
  unfolding letters_of made_of
  letters = refl

  -- the line is as long as the inputs ask
  pub letters-lent : length (inputs_of (formula_of s)) ≤ length line
  unfolding made_of
  letters-lent = line-long

  pub letters-count : length (letters_of (formula_of s) line) ≡ (made_of (formula_of s)).inputs
  letters-count = ap length letters ∙ length-take-le (made_of (formula_of s)).inputs line line-long

  pub letters-each : (j : ℕ) → j < (made_of (formula_of s)).inputs → is_letter (get_or (letters_of (formula_of s) line) j 0) ≡ true
  letters-each j h =
      ap (λ (ks : List ℕ). is_letter (get_or ks j 0)) letters
      ∙ ap is_letter (get_or-take (made_of (formula_of s)).inputs line j 0 h) ∙ well-letter (made_of (formula_of s)).inputs line line-well j h

  module _ (x : Tables) (A : Accepts s x) (made : Making) (e : made ≡ making_of (exp_of (take (5 * x.rows) x.fields) x.rows)) where
    inputs-told : made.inputs ≡ (made_of (formula_of s)).inputs
    inputs-told = ap (λ (z : Making). z.inputs) (e ∙ ap making_of (accepted-formula s x A))

    pub letters-in : made.inputs ≤ length line
    letters-in = omega (arith, inputs-told, line-long)

    pub letters-told : take made.inputs line ≡ letters_of (formula_of s) line
    letters-told = ap (λ (n : ℕ). take n line) inputs-told ∙ sym letters

    pub letters-few : length (take made.inputs line) ≤ 32
    letters-few = omega (arith, inputs-told, made-inputs (formula_of s), length-take made.inputs line)
