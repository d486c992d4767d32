-- Laws of specs/ResultSets.antt, and what only they need.
use Rattle.std.specs.Prelude.{ℕ, ◌-◌, ◌≤◌, ◌<◌, ◌≡◌, refl, List, [], ◌∷◌, length, get_or}
use Rattle.std.proofs.Common.{ap, ◌∙◌}
use Rattle.value.specs.declared.Value.{Value}
use Rattle.formula.specs.Tree.{formula_of}
use Rattle.formula.specs.Acceptance.{Admissible}
use Rattle.formula.specs.Widths.{width}
use Rattle.network.specs.Net.{Token}
use Rattle.theory_pieces.specs.Sets.{tokens-of}
use Rattle.theory_verdicts.specs.Results.{EndsWith}
use Rattle.theory_verdicts.specs.Running.{Call, pushed, taken}
use Rattle.theory_verdicts.proofs.Verdicts.{alone-verdict, verdict-width}
use Rattle.theory_verdicts.specs.ResultSets.{result_set, values_in}

values-of-tokens : (r : List Value) → values_in (tokens-of r) ≡ r
values-of-tokens [] = refl
values-of-tokens (v ∷ r) = ap {B = List Value} (λ w. v ∷ w) (values-of-tokens r)

-- The k-th result set taken is that of the k-th set pushed, in width and all sixteen places.
pub own-result-set : (s : List ℕ) → Admissible s → (capacity : ℕ) → 1 ≤ capacity → (calls : List Call)
    → (k : ℕ) → k < length (taken (formula_of s) capacity calls) → (r : List Value) → EndsWith (formula_of s) (get_or (pushed (formula_of s) capacity calls) k []) r
    → (result_set (values_in (get_or (taken (formula_of s) capacity calls) k [])) ≡ result_set r) × (length r ≡ width (formula_of s))
own-result-set s accepted capacity room calls k l r e = (
  ap (λ (ts : List Token). result_set (values_in ts)) (alone-verdict s accepted capacity room calls k l r e) ∙ ap result_set (values-of-tokens r),
  verdict-width s accepted (get_or (pushed (formula_of s) capacity calls) k []) r e,
)
