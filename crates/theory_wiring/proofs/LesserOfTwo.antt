-- Laws of specs/LesserOfTwo.antt, and what only they need.
use Rattle.std.specs.Prelude.{◌≡◌, refl, false, [], ◌∷◌}
use Rattle.network.specs.Rules.{operator as operatorKind, T-gate, F-gate, M-gate}
use Rattle.formula.specs.Tree.{formula_of}
use Rattle.graph.specs.Assembly.{copy_of, nth}
use Rattle.graph.specs.Translation.{made_of}
use Rattle.examples.specs.Sheets.{bytes, lesser}
use Rattle.theory_wiring.specs.LesserOfTwo.{lesser_of_two, plain}

pub lesser-sheet : formula_of (bytes lesser) ≡ lesser_of_two
unfolding formula_of bytes lesser
lesser-sheet = refl

pub lesser-graph : made_of lesser_of_two
    ≡ record {
      operators =
          copy_of 0 2 3
          ∷ copy_of 1 4 5
          ∷ plain (operatorKind 6) (2 ∷ 4 ∷ []) 6
          ∷ copy_of 6 7 8
          ∷ plain T-gate (7 ∷ 3 ∷ []) 9
          ∷ copy_of 8 10 11
          ∷ plain F-gate (10 ∷ 5 ∷ []) 12
          ∷ plain M-gate (11 ∷ 9 ∷ 12 ∷ []) 13
          ∷ [];
      links = 14;
      inputs = 2;
      triggered = false;
      results = 13 ∷ [];
    }
unfolding made_of nth
lesser-graph = refl
