-- Laws of specs/Plan.antt, and what only they need.
use Rattle.std.specs.Prelude.{ℕ, ◌+◌, ◌≤◌, ◌≡◌, refl, List, [], ◌∷◌, ◌++◌, length}
use Rattle.std.proofs.Common.{◌∙◌, inl, inr, arith}
use Rattle.std.proofs.Math.Option.{Option, none, some}
use Rattle.value.specs.declared.Value.{Value}
use Rattle.network.specs.Net.{Links}
use Rattle.network.specs.Uses.{In}
use Rattle.theory_pieces.specs.Goes.{Net}
use Rattle.theory_pieces.proofs.Goes.{Steps, Long}
use Rattle.graph.specs.Yields.{Values, Answer}
use Rattle.theory_reference.specs.Plan.{Hold, Plan, Ready, Before, After}

module _ (net : Net) where
  -- A schedule with one place a link: to the answer with the plan calm again, or of as many firings as there are rounds.
  abbrev pub Leads : Plan → Links → ℕ → Answer → Type 0
  Leads P s c none = Long net s c
  Leads P s c (some vs) = (s' : Links) × Steps net s c s' × After P s s' vs

  abbrev pub Serves : Plan → (Values → ℕ → Answer → Type 0) → Type 0
  Serves P M = (ρ : Values) (c : ℕ) (a : Answer) → M ρ c a → (s : Links) → Before P ρ s → Leads P s c a

  pub fewer : (s s' : Links) (c d : ℕ) → d ≤ c → Steps net s c s' → Steps net s d s'
  fewer s s' c d le t = record { w = t.w; runs = t.runs; ends = t.ends; many = omega (arith, t.many); fine = t.fine }

  pub fewer-long : (s : Links) (c d : ℕ) → d ≤ c → Long net s c → Long net s d
  fewer-long s c d le t = record { w = t.w; runs = t.runs; many = omega (arith, t.many); fine = t.fine }

-- Links and registers that agree.
pub ready-same : (c r : ℕ) (s s' : Links) → s' c ≡ s c → s' r ≡ s r → Ready c r s → Ready c r s'
ready-same c r s s' ec er (inl (a, b)) = inl (er ∙ a, ec ∙ b)
ready-same c r s s' ec er (inr (v, a, b)) = inr (v, er ∙ a, ec ∙ b)

pub hold-same : (ls : List ℕ) (vs : List (Option Value)) (s s' : Links) → ((l : ℕ) → In l ls → s' l ≡ s l) → Hold ls vs s → Hold ls vs s'
hold-same [] [] s s' e h = tt
hold-same [] (v ∷ vs) s s' e h = h
hold-same (l ∷ ls) [] s s' e h = h
hold-same (l ∷ ls) (v ∷ vs) s s' e h = (e l (inl refl) ∙ h.0, hold-same ls vs s s' (λ k i. e k (inr i)) h.1)

pub hold-both : (ls ms : List ℕ) (vs ws : List (Option Value)) (s : Links) → Hold ls vs s → Hold ms ws s → Hold (ls ++ ms) (vs ++ ws) s
hold-both [] ms [] ws s h k = k
hold-both [] ms (v ∷ vs) ws s h k = absurd h
hold-both (l ∷ ls) ms [] ws s h k = absurd h
hold-both (l ∷ ls) ms (v ∷ vs) ws s h k = (h.0, hold-both ls ms vs ws s h.1 k)

pub hold-parts : (ls ms : List ℕ) (vs ws : List (Option Value)) (s : Links) → length vs ≡ length ls → Hold (ls ++ ms) (vs ++ ws) s → Hold ls vs s × Hold ms ws s
hold-parts [] ms [] ws s e h = (tt, h)
hold-parts [] ms (v ∷ vs) ws s e h = absurd (omega arith)
hold-parts (l ∷ ls) ms [] ws s e h = absurd (omega arith)
hold-parts (l ∷ ls) ms (v ∷ vs) ws s e h = let r = hold-parts ls ms vs ws s (omega arith) h.1 in ((h.0, r.0), r.1)
