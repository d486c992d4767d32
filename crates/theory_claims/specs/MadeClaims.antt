-- The graph made of a formula (graph/specs/Translation: made_of) has a claim for each link, registers included, that every firing of every operator
-- keeps: its inputs have their kinds, the trigger is a truth, its results have the kinds of the formula's values. Assumes an admitted formula of
-- which every node keeps the rule of kinds, and a graph whose links lie below the absent one.
use Rattle.std.specs.Prelude.{ℕ, ◌+◌, ◌-◌, ◌≤◌, ◌<◌, ◌≡◌, Bool, List, [], ◌∷◌, get_or, ltb}
use Rattle.std.proofs.Math.Bool.{true}
use native.Mathlib.Omega.{arith}
use Rattle.value.specs.declared.ValueKind.{ValueKind}
use Rattle.names.specs.Names.{trigger, size, members, below}
use Rattle.network.specs.Values.{err-value}
use Rattle.formula.specs.Tree.{Exp}
use Rattle.formula.specs.Free.{free_e}
use Rattle.formula.specs.Admitted.{AdmittedE}
use Rattle.formula.specs.Kinds.{Kinds, kinds_e}
use Rattle.graph.specs.Assembly.{free, links_of, outputs}
use Rattle.graph.specs.Translation.{graph_e, port_of, made_of}
use Rattle.theory_kinds.specs.Kinded.{AllE}
use Rattle.theory_reference.specs.Plugged.{nowhere, registers, ports_of, Each}
use Rattle.theory_claims.specs.Claims.{of-kind, Meets, truths, Fits, Claims, sides}

-- As many links as kinds, each with its kind.
abbrev pub Kinds-at : Claims → List ℕ → List ValueKind → Type 0
Kinds-at K [] [] = Unit {0}
Kinds-at K [] (k ∷ ks) = ⊥
Kinds-at K (l ∷ ls) [] = ⊥
Kinds-at K (l ∷ ls) (k ∷ ks) = (K l ≡ of-kind k) × Kinds-at K ls ks

pub record Claimed (x : Exp) (kinds : Kinds) (K : Claims) : Type 0 where
  pub operators : Each (λ o. Fits o.kind (sides K (ports_of o))) (made_of x).operators
  pub inputs : (k : ℕ) → free_e x k ≡ true → k < trigger → K (port_of x k) ≡ of-kind (kinds k)
  pub triggered : free_e x trigger ≡ true → K (port_of x trigger) ≡ truths
  pub results : Kinds-at K (made_of x).results (kinds_e x kinds)
  -- a register that has never fired counts as err
  pub marks : (l : ℕ) → Meets (K (registers + l)) err-value
  -- beyond links and registers a truth may stand, as a token for each set untaken does
  pub beyond : (l : ℕ) → registers + registers ≤ l → K l ≡ truths
