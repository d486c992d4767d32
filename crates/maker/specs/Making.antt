-- What making a formula's graph gives: the translation (graph/specs/Translation: made_of) as operators in the machine's memory, and by value the
-- numbers and links that start stores besides. Document 01, "The graph", and "Running": "Push gives one value to each input link, and one trigger
-- if that link exists .. Take removes one value from each result port." Assumes nothing; Makeable is what the maker asks of a sheet's tables.
use Rattle.std.specs.Prelude.{ℕ, ◌-◌, ◌≤◌, ◌≡◌, false, cond, List, ◌++◌, length, replicate}
use Rattle.machine_layout.specs.Layout.{most_operators, most_links, no_link}
use Rattle.formula.specs.Tree.{Exp, exp_of}
use Rattle.formula.specs.Admitted.{AdmittedE}
use Rattle.graph.specs.Assembly.{up_from}
use Rattle.graph.specs.Translation.{Made, made_of}
use Rattle.maker_laid.specs.Encode.{encoded, written}
use Rattle.maker_laid.specs.Nodes.{Read}
use Rattle.maker.specs.declared.Making.{Making}

-- a list of links in k places; those past the last link hold none
abbrev pub padded : ℕ → List ℕ → List ℕ
padded k ls = ls ++ replicate (k - length ls) no_link

-- "Links 0, 1, .. are the inputs in rising order of their identifiers; the next is the trigger's" (docs/NUMBERING.md).
abbrev pub tell_of : Made → Making
tell_of g =
    record {
      operators = length g.operators;
      links = g.links;
      trigger = cond g.triggered g.inputs no_link;
      inputs = g.inputs;
      input_links = padded 32 (up_from 0 g.inputs);
      results = length g.results;
      result_links = padded 16 g.results;
    }

-- The answer for a formula, and the memory with its operators, from operator 0 on.
abbrev pub making_of : Exp → Making
making_of x = tell_of (made_of x)

abbrev pub making_in : List ℕ → Exp → List ℕ
making_in mem x = written mem 0 (encoded (made_of x).operators)

-- The fields t of n rows, with the mask and the returned width of each, are those of an accepted sheet (specs/AcceptedSheets: accepted-makeable).
pub record Makeable (t : List ℕ) (n : ℕ) (masks widths : List ℕ) : Type 0 where
  pub read : Read t masks widths
  pub rows : read.rows ≡ n
  pub some : 1 ≤ n
  pub place : read.place n ≡ false
  pub admitted : AdmittedE (exp_of t n)
  pub few : length (made_of (exp_of t n)).operators ≤ most_operators
  pub low : (made_of (exp_of t n)).links ≤ most_links
