-- Laws of specs/Followed.antt, and what only they need.
use Rattle.std.specs.Prelude.{ℕ, zero, suc, ◌<◌, ◌≡◌, length, get_or}
use Rattle.std.proofs.Math.Path.{refl, sym, ap, subst}
use Rattle.std.proofs.Common.{ap₂, ◌∙◌, arith}
use mathlib.Core.List.{List, [], ◌∷◌, ◌++◌, map, append-nil, append_assoc}
use Rattle.std.proofs.Math.Option.{some}
use Rattle.value.specs.declared.Value.{Value}
use Rattle.network.specs.Net.{Token, Links, act, label}
use Rattle.theory_pieces.specs.Tape.{Step, pushing, firing, taking, sets_of}
use Rattle.formula.specs.Tree.{Exp}
use Rattle.graph.specs.Translation.{made_of}
use Rattle.value_sets.specs.Sets.{set_values}
use Rattle.theory_verdicts.specs.Running as Abstract
use Rattle.theory_verdicts.specs.Running.{operator_at, push_of, take_of, after_steps, handed, accept, steps_of, steps_from, demand_of}
use Rattle.demand_view.specs.Stands.{Stands}
use Rattle.demand.specs.MemoryCalls.{Result}
use Rattle.demand.specs.Followed.{shown_tokens}

pub can-accepted : {A : Type 0} (s : Step) (d : Dec A) → A → accept d s ≡ s ∷ []
can-accepted s (yes p) a = refl
can-accepted s (no n) a = absurd (n a)

results-append : (f : List Token → Result) (a b : List (List Token)) → map f (a ++ b) ≡ map f a ++ map f b
results-append f [] b = refl
results-append f (t ∷ a) b = ap (λ (z : List Result). f t ∷ z) (results-append f a b)

module _ (x : Exp) (capacity : ℕ) where
  -- ---- steps one after the other
  pub after-append : (w u : List Step) (q : Links) → after_steps x (w ++ u) q ≡ after_steps x u (after_steps x w q)
  after-append [] u q = refl
  after-append (s ∷ w) u q = after-append w u (act (demand_of x s) q)

  sets-append : (w u : List Step) → sets_of (w ++ u) ≡ sets_of w ++ sets_of u
  sets-append [] u = refl
  sets-append (pushing v ∷ w) u = ap (λ (z : List (List Value)). v ∷ z) (sets-append w u)
  sets-append (firing a ∷ w) u = sets-append w u
  sets-append (taking ∷ w) u = sets-append w u

  handed-append : (w u : List Step) (q : Links) → handed x (w ++ u) q ≡ handed x w q ++ handed x u (after_steps x w q)
  handed-append [] u q = refl
  handed-append (pushing v ∷ w) u q = handed-append w u (act (push_of x v) q)
  handed-append (firing a ∷ w) u q = handed-append w u (act (operator_at x a) q)
  handed-append (taking ∷ w) u q = ap (λ (z : List (List Token)). label (take_of x) q ∷ z) (handed-append w u (act (take_of x) q))

  pub steps-append : (a b : List Abstract.Call) (q : Links)
      → steps_from x capacity (a ++ b) q ≡ steps_from x capacity a q ++ steps_from x capacity b (after_steps x (steps_from x capacity a q) q)
  unfolding steps_from
  steps-append [] b q = refl
  steps-append (c ∷ a) b q =
      let w = steps_of x capacity c q in
      let r = after_steps x w q in
      let u = steps_from x capacity a r in
      ap (λ (z : List Step). w ++ z) (steps-append a b r)
      ∙ sym (append_assoc w u (steps_from x capacity b (after_steps x u r)))
      ∙ ap (λ (z : Links). (w ++ u) ++ steps_from x capacity b z) (sym (after-append w u q))

module _ (x : Exp) (kinds : List ℕ) (capacity : ℕ) where
  -- ---- what follows the bytes
  -- The sets' bytes are read as these values.
  abbrev pub EachRead : List (List ℕ) → List (List Value) → Type 0
  EachRead [] [] = Unit {0}
  EachRead [] (v ∷ vss) = ⊥
  EachRead (s ∷ sets) [] = ⊥
  EachRead (s ∷ sets) (v ∷ vss) = (set_values kinds s ≡ some v) × EachRead sets vss

  -- Abstract calls that lead from the links q to those with which a machine stands in the memory m, push these sets and take these results.
  pub record Follows (q : Links) (m : List ℕ) (sets : List (List ℕ)) (results : List Result) : Type 0 where
    pub calls : List Abstract.Call
    pub stands : Stands (made_of x) kinds capacity m (after_steps x (steps_from x capacity calls q) q)
    pub reads : EachRead sets (sets_of (steps_from x capacity calls q))
    pub shows : results ≡ map shown_tokens (handed x (steps_from x capacity calls q) q)

  pub follows-none : (q : Links) (m : List ℕ) → Stands (made_of x) kinds capacity m q → Follows q m [] []
  unfolding steps_from
  follows-none q m H = record { calls = []; stands = H; reads = tt; shows = refl }

  pub follows-one : (q : Links) (m : List ℕ) (sets : List (List ℕ)) (results : List Result) (c : Abstract.Call) (w : List Step) → steps_of x capacity c q ≡ w
      → Stands (made_of x) kinds capacity m (after_steps x w q) → EachRead sets (sets_of w) → results ≡ map shown_tokens (handed x w q) → Follows q m sets results
  unfolding steps_from
  follows-one q m sets results c w e H r s =
      let f : steps_from x capacity (c ∷ []) q ≡ w = append-nil (steps_of x capacity c q) ∙ e in
      record {
        calls = c ∷ [];
        stands = subst (λ (u : List Step). Stands (made_of x) kinds capacity m (after_steps x u q)) (sym f) H;
        reads = subst (λ (u : List Step). EachRead sets (sets_of u)) (sym f) r;
        shows = subst (λ (u : List Step). results ≡ map shown_tokens (handed x u q)) (sym f) s;
      }

  -- ---- calls one after the other
  read-append : (sets sets' : List (List ℕ)) (vss vss' : List (List Value)) → EachRead sets vss → EachRead sets' vss' → EachRead (sets ++ sets') (vss ++ vss')
  read-append [] sets' [] vss' r s = s
  read-append [] sets' (v ∷ vss) vss' r s = absurd r
  read-append (b ∷ sets) sets' [] vss' r s = absurd r
  read-append (b ∷ sets) sets' (v ∷ vss) vss' r s = (r.0, read-append sets sets' vss vss' r.1 s)

  pub follows_then : (q : Links) (m m' : List ℕ) (sets sets' : List (List ℕ)) (results results' : List Result) (F : Follows q m sets results)
      → Follows (after_steps x (steps_from x capacity F.calls q) q) m' sets' results'
      → Follows q m' (sets ++ sets') (results ++ results')
  follows_then q m m' sets sets' results results' F G =
      let w = steps_from x capacity F.calls q in
      let r = after_steps x w q in
      let u = steps_from x capacity G.calls r in
      let e : steps_from x capacity (F.calls ++ G.calls) q ≡ w ++ u = steps-append x capacity F.calls G.calls q in
      record {
        calls = F.calls ++ G.calls;
        stands = subst (Stands (made_of x) kinds capacity m') (sym (ap (λ (z : List Step). after_steps x z q) e ∙ after-append x capacity w u q)) G.stands;
        reads =
            subst (EachRead (sets ++ sets')) (sym (ap sets_of e ∙ sets-append x capacity w u)) (read-append sets sets' (sets_of w) (sets_of u) F.reads G.reads);
        shows =
            ap₂ (λ (a b : List Result). a ++ b) F.shows G.shows
            ∙ sym (ap (λ (z : List Step). map shown_tokens (handed x z q)) e ∙ ap (map shown_tokens) (handed-append x capacity w u q) ∙ results-append shown_tokens (handed x w q) (handed x u r));
      }

  -- ---- the sets read, one by one
  pub read_count : (sets : List (List ℕ)) (vss : List (List Value)) → EachRead sets vss → length sets ≡ length vss
  read_count [] [] r = refl
  read_count [] (v ∷ vss) r = absurd r
  read_count (s ∷ sets) [] r = absurd r
  read_count (s ∷ sets) (v ∷ vss) r = ap suc (read_count sets vss r.1)

  pub read_at : (sets : List (List ℕ)) (vss : List (List Value)) → EachRead sets vss → (j : ℕ) → j < length vss
      → set_values kinds (get_or sets j []) ≡ some (get_or vss j [])
  read_at [] [] r j l = absurd (omega arith)
  read_at [] (v ∷ vss) r j l = absurd r
  read_at (s ∷ sets) [] r j l = absurd r
  read_at (s ∷ sets) (v ∷ vss) r zero l = r.0
  read_at (s ∷ sets) (v ∷ vss) r (suc j) l = read_at sets vss r.1 j (omega arith)
