-- Demand 3 on the abstract machine, whole, from its parts in Verdicts.
use Rattle.std.specs.Prelude.{ℕ, ◌≤◌, List}
use Rattle.formula.specs.Tree.{formula_of}
use Rattle.formula.specs.Acceptance.{Admissible}
use Rattle.theory_verdicts.specs.Running.{Call, OwnVerdicts}
use Rattle.theory_verdicts.proofs.Verdicts.{alone-verdict, were-pushed, ready-when-quiet}

-- "A beacon's verdict comes from its own readings and nobody else's. Start a machine empty for an accepted sheet, with links holding 1 to 16 tokens. Then
-- the following holds after every list of pushes, single firings, runs and takes, in any order, with any sets and numbers, refused calls included".
pub demand-3 : (s : List ℕ) → Admissible s → (capacity : ℕ) → 1 ≤ capacity → capacity ≤ 16 → (calls : List Call) → OwnVerdicts (formula_of s) capacity calls
demand-3 s accepted capacity room most calls =
    record {
      own = λ k l ends r e. alone-verdict s accepted capacity room calls k l r e;
      none-invented = were-pushed s accepted capacity room calls;
      ready = ready-when-quiet s accepted capacity room calls;
    }
