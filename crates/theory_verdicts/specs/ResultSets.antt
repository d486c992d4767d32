-- Results taken as result sets (document 01, "Running": "A result set is sixteen values carried whole, with its width; places past the width hold err."
-- .. "the result taken equals its result set in width and all sixteen places"). Rests on Verdicts; assumes what it assumes.
use Rattle.std.specs.Prelude.{ℕ, ◌-◌, ◌≤◌, ◌<◌, ◌≡◌, refl, List, [], ◌∷◌, ◌++◌, length, get_or, replicate}
use Rattle.value.specs.declared.Value.{Value}
use Rattle.value.specs.Senses.{err}
use Rattle.formula.specs.Tree.{formula_of}
use Rattle.formula.specs.Acceptance.{Admissible}
use Rattle.formula.specs.Widths.{width}
use Rattle.network.specs.Net.{Token, val, mark}
use Rattle.theory_pieces.specs.Sets.{tokens-of}

pub record ResultSet : Type 0 where
  pub width : ℕ
  pub places : List Value

abbrev pub result_set : List Value → ResultSet
result_set r = record { width = length r; places = r ++ replicate (16 - length r) err }

-- A mark is on no result port.
abbrev pub value_in : Token → Value
value_in (val v) = v
value_in mark = err

abbrev pub values_in : List Token → List Value
values_in [] = []
values_in (t ∷ ts) = value_in t ∷ values_in ts
