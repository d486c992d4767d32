-- Laws of specs/Absence.antt, and what only they need.
use Rattle.std.specs.Prelude.{ℕ, ◌≡◌, refl, Bool, true, false, not, ◌&&◌, List, [], ◌∷◌, length}
use Rattle.std.proofs.Common.{sym, ap, ◌∙◌, subst, eq-eqb}
use Rattle.std.proofs.Math.Option.{Option, none, some}
use Rattle.names.specs.Names.{Names}
use Rattle.graph.specs.Assembly.{Graph, wire, nothing, beside, bind, gate, loop, free, member_of, gate_outputs}
use Rattle.graph.specs.Yields.{Values, absent, bound, output_count, YieldsIn, Sequel, Beside, Gated, loop-rests, Fires}
use Rattle.graph.specs.Fit.{Fit}
use Rattle.theory_yields.proofs.Naming.{or_left, or_right}
use Rattle.theory_yields.proofs.Choice.{kept}
use Rattle.theory_yields.proofs.Lookups.{absent-append, bound-other, bound-absent}
use Rattle.theory_yields.specs.Absence.{NothingAt}

-- Behind a binding to nothing.
pub nothing_bound : (ns : List ℕ) (f : Names) (ρ : Values) → ((k : ℕ) → f k ≡ true → member_of ns k ≡ false → ρ k ≡ none)
    → NothingAt f (bound ns (absent (length ns)) ρ)
nothing_bound ns f ρ h k e = go (member_of ns k) refl
  where
    go : (m : Bool) → member_of ns k ≡ m → bound ns (absent (length ns)) ρ k ≡ none
    go true m = bound-absent ρ ns k m
    go false m = bound-other ρ ns (absent (length ns)) k m ∙ h k e m

pub absence : (cut : Option ℕ) (g : Graph) → Fit g → (ρ : Values) → NothingAt (free g) ρ → YieldsIn cut g ρ 0 (some (absent (output_count g)))
unfolding free output_count gate_outputs
absence cut (wire x) f ρ h = (refl, ap (λ (v : Option _). some (v ∷ [])) (sym (h x (eq-eqb x x refl))))
absence cut nothing f ρ h = (refl, refl)
absence cut (beside a b) f ρ h =
    subst (λ vs. YieldsIn cut (beside a b) ρ 0 (some vs)) (absent-append (output_count a) (output_count b))
    (Beside.goes_on 0 0 (absent (output_count a)) (some (absent (output_count b)))
    (absence cut a f.0 ρ (λ k e. h k (or_left (free a k) (free b k) e))) (absence cut b f.1 ρ (λ k e. h k (or_right (free a k) (free b k) e))))
absence cut (bind ns a b) f ρ h =
    Sequel.goes_on 0 0 (absent (length ns)) (some (absent (output_count b)))
    (subst (λ n. YieldsIn cut a ρ 0 (some (absent n))) f.2 (absence cut a f.0 ρ (λ k e. h k (or_left (free a k) _ e))))
    (absence cut b f.1 (bound ns (absent (length ns)) ρ)
    (nothing_bound ns (free b) ρ
    (λ k e m. h k (or_right (free a k) (free b k && not (member_of ns k)) (kept (free b k) (member_of ns k) m ∙ e)))))
absence cut (gate g a) f ρ h =
    Gated.ends 0 (absent (output_count a)) (absent (gate_outputs g)) (absence cut a f.0 ρ h) (Fires.rests g (output_count a))
absence cut (loop ns a b) f ρ h =
    loop-rests cut ns _ (output_count (loop ns a b)) ρ (YieldsIn cut a ρ) _ _ (subst (λ n. YieldsIn cut a ρ 0 (some (absent n))) f.2 (absence cut a f.0 ρ (λ k e. h k (or_left (free a k) _ e))))
    (λ k o. h k (or_right (free a k) (free b k && not (member_of ns k)) (kept (free b k) (member_of ns k) o.1 ∙ o.0)))
