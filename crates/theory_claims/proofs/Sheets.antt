-- Laws of specs/Sheets.antt, and what only they need.
use Rattle.std.specs.Prelude.{ℕ, ◌≤◌, ◌≡◌, Ok}
use mathlib.Core.List.{List, [], ◌∷◌}
use Rattle.std.proofs.Common.{arith}
use Rattle.value.specs.declared.Value.{Value}
use Rattle.names.specs.Names.{below}
use Rattle.formula.specs.Sheet.{row_count, fields_of}
use Rattle.formula.specs.Tree.{Exp, formula_of}
use Rattle.formula.specs.Free.{free_e}
use Rattle.formula.specs.Acceptance.{Admissible}
use Rattle.formula.specs.Kinds.{Kinds, kinds_e, kinded}
use Rattle.formula.specs.Faults.{input_kinds, kind_check}
use Rattle.graph.specs.Assembly.{Operator}
use Rattle.graph.specs.Translation.{port_of, made_of}
use Rattle.theory_kinds.proofs.Inputs.{sheet-passes-iff}
use Rattle.theory_reference.specs.Plugged.{nowhere, Each}
use Rattle.theory_verdicts.proofs.Admitting.{accepted-admitted}
use Rattle.theory_verdicts.specs.Running.{Call, pushed, taken}
use Rattle.theory_verdicts.proofs.Verdicts.{accepted-graph}
use Rattle.theory_claims.specs.Claims.{Claims}
use Rattle.theory_claims.specs.MadeClaims.{Claimed}
use Rattle.theory_claims.proofs.MadeClaims.{made-claimed}
use Rattle.theory_claims.proofs.Runs.{Sets-of-kinds, never-a-wrong-kind, results-of-kinds}
use Rattle.theory_claims.specs.Runs.{Results-of-kinds, Of-one-kind}
use Rattle.theory_claims.specs.Sheets.{All-suit}

module _ (s line : List ℕ) (h : Admissible s) where
  -- The formula of a sheet, and the kinds that a line gives its inputs.
  abbrev x : Exp
  x = formula_of s

  abbrev kinds : Kinds
  kinds = input_kinds (free_e x) line

  sets-of-kinds : (vs : List (List Value)) → All-suit line vs → Sets-of-kinds x kinds vs
  unfolding input_kinds port_of
  sets-of-kinds [] a = tt
  sets-of-kinds (v ∷ vs) a = ((λ k e l. a.0 (below (free_e x) k)), sets-of-kinds vs a.1)

  module _ (passed : kind_check kinded (fields_of s) (row_count s) kinds ≡ Ok tt) where
    pub sheet-claimed : (K : Claims) × Claimed x kinds K
    sheet-claimed = made-claimed x kinds (accepted-admitted s h) ((sheet-passes-iff s line [] h).0 passed) (within (made_of x).links (accepted-graph s h).1)
      where
        within : (l : ℕ) → l ≤ 3105 → l ≤ nowhere
        within l p = omega arith

    -- For each operator of the sheet's graph there is one kind, told by sheet and line alone, such that at any capacity, after any list of calls whose
    -- pushed sets have values of their kinds or errs, no token of a wrong kind waits before it.
    pub sheet-never-a-wrong-kind : Each (Of-one-kind x (All-suit line)) (made_of x).operators
    sheet-never-a-wrong-kind = each-suited (made_of x).operators (never-a-wrong-kind x kinds sheet-claimed.0 sheet-claimed.1)
      where
        each-suited : (os : List Operator) → Each (Of-one-kind x (Sets-of-kinds x kinds)) os → Each (Of-one-kind x (All-suit line)) os
        each-suited [] f = tt
        each-suited (o ∷ os) f =
            ((f.0.0, f.0.1, λ capacity calls a. f.0.2 capacity calls (sets-of-kinds (pushed x capacity calls) a)), each-suited os f.1)

    -- Each value taken is of its result's kind or an err.
    pub sheet-results-of-kinds : (capacity : ℕ) (calls : List Call) → All-suit line (pushed x capacity calls)
        → Results-of-kinds (taken x capacity calls) (kinds_e x kinds)
    sheet-results-of-kinds capacity calls a =
        results-of-kinds x kinds sheet-claimed.0 sheet-claimed.1 capacity calls (sets-of-kinds (pushed x capacity calls) a)
