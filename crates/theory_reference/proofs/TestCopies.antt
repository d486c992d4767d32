-- The twin of one shared name's copy makes that name's value err and leaves all others (Sharing.antt: Changes): so a loop's test is overridden where
-- its first copy is made. Assumes that the name is shared and has a value.
use Rattle.std.specs.Prelude.{ℕ, ◌≡◌, ◌≢◌, true, ◌&&◌, [], ◌∷◌}
use Rattle.std.proofs.Common.{sym, ◌∙◌, ap, subst, inl, inr}
use Rattle.std.proofs.lemmas.Bool.{false≢true}
use Rattle.std.proofs.Math.Option.{some}
use Rattle.std.proofs.Math.Decide.{ℕ_discrete}
use Rattle.value.specs.declared.Value.{Value}
use Rattle.names.specs.Names.{Names, union}
use Rattle.network.specs.Values.{err-value}
use Rattle.network.specs.Poisoned.{poisoned}
use Rattle.theory_pieces.specs.Goes.{Net}
use Rattle.graph.specs.Assembly.{Env, copy_of, first_use, second_use}
use Rattle.graph.specs.Yields.{Values}
use Rattle.theory_reference.specs.Plugged.{demand_of}
use Rattle.theory_reference.specs.Plan.{Envs}
use Rattle.theory_reference.proofs.Sharing.{Change, Changes}

module _ (f g : Names) (n : ℕ) (env : Env) (E : Envs (union f g) env n) (net : Net) (ρ ρ' : Values) where
  abbrev pub Twin-of : ℕ → Type 0
  Twin-of t = (p : ℕ) × (net.at p ≡ poisoned (demand_of (copy_of (env t) (first_use f g n env t) (second_use f g n env t)))) × net.Fine (p ∷ [])

  pub one-changes : (t : ℕ) (v : Value) → f t && g t ≡ true → ρ t ≡ some v → ρ' t ≡ some err-value → ((x : ℕ) → x ≢ t → ρ' x ≡ ρ x) → Twin-of t → Changes f g n env E net ρ ρ'
  one-changes t v both has err others twin =
      record { shared = λ x e. go x (ℕ_discrete x t); alone = λ x e. others x (λ z. false≢true (sym e ∙ ap (λ y. f y && g y) z ∙ both)) }
    where
      go : (x : ℕ) → Dec (x ≡ t) → Change f g n env E net x (ρ x) (ρ' x)
      go x (yes z) = subst (λ y. Change f g n env E net y (ρ y) (ρ' y)) (sym z) (inr (v, has, err, twin))
      go x (no z) = inl (others x z)
