-- The claims of a formula's names and of a body's outputs, from the kinds of rows (formula/specs/Kinds): what a let or for binds has the kinds of
-- row c, and a body's outputs are iter?, the iterated and the returned results. Assumes that identifiers are bound as test 4 says.
use Rattle.std.specs.Prelude.{ℕ, ◌+◌, ◌-◌, ◌≤◌, ◌<◌, ◌≡◌, ◌⊎◌, Bool, List, [], ◌∷◌, ◌++◌}
use Rattle.std.proofs.Math.Bool.{cond}
use native.Mathlib.Omega.{arith}
use Rattle.value.specs.declared.ValueKind.{ValueKind}
use Rattle.value.specs.declared.ValueKind.TheVariants.{Whole as whole-kind}
use Rattle.names.specs.Names.{trigger, range}
use Rattle.formula.specs.Tree.{Body, ret, iter, let_b, if_b}
use Rattle.formula.specs.Widths.{returned, iterated}
use Rattle.formula.specs.Count.{returns}
use Rattle.formula.specs.Kinds.{Kinds, bind_kinds, kinds_e, returned_kinds, iterated_kinds}
use Rattle.graph.specs.Assembly.{member_of, up_from}
use Rattle.graph.specs.Translation.{test_name}
use Rattle.meaning.specs.WidthLaws.{Suits}
use Rattle.theory_yields.specs.BodyWidths.{iterated_outputs, returned_outputs}
use Rattle.theory_claims.specs.Claims.{Claim, of-kind, truths, Claims}
use Rattle.theory_claims.specs.KindClaims.{claims_for, returned_for}
use Rattle.theory_claims.specs.BodyJoins.{iter_for}

-- The identifiers have their kinds, and the trigger carries truths or errs.
pub record Kinded-names (kinds : Kinds) (C : Claims) : Type 0 where
  pub identifiers : (k : ℕ) → k < trigger → C k ≡ of-kind (kinds k)
  pub triggered : C trigger ≡ truths

-- What a body returns, w values, where it does.
unfoldable pub returned_by : ℕ → Body → Kinds → List Claim
unfolding returns kinds_e
returned_by w y kinds = cond (returns y) (returned_for w (returned_kinds y kinds)) []

-- iter?, the iterated results, the returned results.
unfoldable pub body_claims : ℕ → Body → Kinds → List Claim
unfolding returns iterated_kinds returned_by
body_claims w y kinds = iter_for (returns y) ∷ (claims_for (iterated_kinds y kinds) ++ returned_by w y kinds)
