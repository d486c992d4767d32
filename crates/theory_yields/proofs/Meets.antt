-- Laws of specs/Meets.antt, and what only they need.
use Rattle.std.specs.Prelude.{ℕ, ◌+◌, ◌-◌, ◌≤◌, ◌<◌, ◌≡◌, refl, Bool, true, false, length, leb, ltb}
use Rattle.std.proofs.Common.{sym, ap, ◌∙◌, leb-true, leb-false, ltb-true, ltb-false, arith}
use Rattle.std.proofs.Math.Path.{subst}
use Rattle.std.proofs.lemmas.Bool.{false≢true}
use mathlib.Core.List.{List, [], ◌∷◌, ◌++◌}
use Rattle.std.proofs.Math.Option.{Option, none, some}
use Rattle.value.specs.declared.Value.{Value}
use Rattle.names.specs.Names.{Names, trigger, range, without}
use Rattle.network.specs.Values.{true-value, false-value}
use Rattle.meaning.specs.Meaning.{Env, bind, Outcome, yields, Ending, again, returns, then, then_b}
use Rattle.meaning.specs.Rounds.{Within, WithinB}
use Rattle.meaning.specs.WidthLaws.{Sized}
use Rattle.meaning.proofs.Binding.{bound-among, bound-before, bound-behind}
use Rattle.graph.specs.Assembly.{Graph, beside, bind as binding, gate, Gate, member_of, up_from}
use Rattle.graph.specs.Yields.{Values, absent, present, bound, Yields, Sequel, Beside, Gated, Fires}
use Rattle.theory_yields.specs.Naming.{Small}
use Rattle.theory_yields.proofs.Naming.{member-up_from, below-up_from, above-up_from}
use Rattle.theory_yields.specs.Branches.{AllAt}
use Rattle.theory_yields.specs.Choice.{From}
use Rattle.theory_yields.proofs.Choice.{kept}
use Rattle.theory_yields.proofs.Lookups.{length-present, present-append, present-at, bound-other, bound-up}
use Rattle.theory_yields.proofs.Rows.{in-turn, side_by_side, second-stops}
use Rattle.theory_yields.specs.Meets.{Holds, Meets, MeetsB}

pub holds-part : (f g : Names) (env : Env) (ρ : Values) → ((k : ℕ) → f k ≡ true → g k ≡ true) → Holds g env ρ → Holds f env ρ
holds-part f g env ρ s h = ((λ k l e. h.0 k l (s k e)), (λ e. h.1 (s trigger e)))

pub all_held : (f : Names) (env : Env) (ρ : Values) → Small f → Holds f env ρ → AllAt f ρ
all_held f env ρ s h k e = go (ltb k 32) refl (ltb k 33) refl
  where
    go : (p : Bool) → ltb k 32 ≡ p → (q : Bool) → ltb k 33 ≡ q → (v : Value) × (ρ k ≡ some v)
    go true p q d = (env k, h.0 k (ltb-true k 32 p) e)
    go false p true d =
        let z : k ≡ 32 = omega (arith, ltb-false k 32 p, ltb-true k 33 d) in
        let t = h.1 (ap f (sym z) ∙ e) in
        (t.0, ap ρ z ∙ t.1)
    go false p false d = absurd (false≢true (sym (s k (ltb-false k 33 d)) ∙ e))

-- Names from 33 on may be bound to anything.
pub holds-beside : (f : Names) (env : Env) (ρ : Values) (ns : List ℕ) (vs : List (Option Value)) → From 33 ns → Holds f env ρ
    → Holds f env (bound ns vs ρ)
holds-beside f env ρ ns vs n h = (
  (λ k l e. bound-other ρ ns vs k (n k (omega arith)) ∙ h.0 k l e),
  (λ e. let t = h.1 e in (t.0, bound-other ρ ns vs trigger (n trigger (omega arith)) ∙ t.1)),
)

-- A let's or a for's identifiers are bound in the graph as in the environment.
pub holds-bound : (f : Names) (env : Env) (ρ : Values) (a b : ℕ) (vs : List Value) → a + b ≤ 32 → length vs ≡ b
    → Holds (without f (range a b)) env ρ → Holds f (bind a b vs env) (bound (up_from a b) (present vs) ρ)
holds-bound f env ρ a b vs s n h = (at, fired)
  where
    outside : (k : ℕ) → member_of (up_from a b) k ≡ false → bound (up_from a b) (present vs) ρ k ≡ ρ k
    outside k m = bound-other ρ (up_from a b) (present vs) k m

    still : (k : ℕ) → member_of (up_from a b) k ≡ false → f k ≡ true → without f (range a b) k ≡ true
    still k m e = kept (f k) (range a b k) (sym (member-up_from a b k) ∙ m) ∙ e

    at : (k : ℕ) → k < 32 → f k ≡ true → bound (up_from a b) (present vs) ρ k ≡ some (bind a b vs env k)
    at k l e = go (leb a k) refl (ltb k (a + b)) refl
      where
        go : (p : Bool) → leb a k ≡ p → (q : Bool) → ltb k (a + b) ≡ q → bound (up_from a b) (present vs) ρ k ≡ some (bind a b vs env k)
        go false p q d =
            let o : member_of (up_from a b) k ≡ false = below-up_from a b k (leb-false a k p) in
            outside k o ∙ h.0 k l (still k o e) ∙ ap some (sym (bound-before a b vs env k (leb-false a k p)))
        go true p false d =
            let o : member_of (up_from a b) k ≡ false = above-up_from a b k (ltb-false k (a + b) d) in
            outside k o ∙ h.0 k l (still k o e) ∙ ap some (sym (bound-behind a b vs env k (ltb-false k (a + b) d)))
        go true p true d =
            let i : a ≤ k = leb-true a k p in
            let j : k < a + b = ltb-true k (a + b) d in
            let z : a + (k - a) ≡ k = omega arith in
            ap (bound (up_from a b) (present vs) ρ) (sym z)
            ∙ bound-up ρ a b (present vs) (k - a) (length-present vs ∙ n) (omega arith)
            ∙ present-at vs (k - a) (omega arith)
            ∙ ap some (sym (bound-among a b vs env k i j))

    fired : f trigger ≡ true → (v : Value) × (bound (up_from a b) (present vs) ρ trigger ≡ some v)
    fired e =
        let o : member_of (up_from a b) trigger ≡ false = above-up_from a b trigger s in
        let t = h.1 (still trigger o e) in
        (t.0, outside trigger o ∙ t.1)

-- ---- one part after another
module _ (ns : List ℕ) (x y : Graph) (ρ : Values) (lent : ℕ) where
  carry : (l : ℕ) (vs : List (Option Value)) → l ≤ lent → Yields x ρ (lent - l) (some vs)
      → (o : Outcome) → Within l o → Meets (Yields y (bound ns vs ρ)) l o → Meets (Yields (binding ns x y) ρ) lent o
  carry l vs h p (yields ws m) w q =
      in-turn none ns x y ρ (lent - l) (l - m) (lent - m) vs (some (present ws)) (omega arith) p q
  carry l vs h p Outcome.unfinished w q = in-turn none ns x y ρ (lent - l) l lent vs none (omega arith) p q

  carry-B : (i r l : ℕ) (vs : List (Option Value)) → l ≤ lent → Yields x ρ (lent - l) (some vs)
      → (o : Ending) → WithinB l o → MeetsB i r (Yields y (bound ns vs ρ)) l o → MeetsB i r (Yields (binding ns x y) ρ) lent o
  carry-B i r l vs h p (again ws m) w q =
      in-turn none ns x y ρ (lent - l) (l - m) (lent - m) vs (some (some true-value ∷ (present ws ++ absent r))) (omega arith) p q
  carry-B i r l vs h p (returns ws m) w q =
      in-turn none ns x y ρ (lent - l) (l - m) (lent - m) vs (some (some false-value ∷ (absent i ++ present ws))) (omega arith) p q
  carry-B i r l vs h p Ending.unfinished w q = in-turn none ns x y ρ (lent - l) l lent vs none (omega arith) p q

  pub then-meets : (n : ℕ) (o : Outcome) (k : List Value → ℕ → Outcome) → Within lent o → Sized n o → Meets (Yields x ρ) lent o
      → ((vs : List Value) (l : ℕ) → Within l (k vs l))
      → ((vs : List Value) (l : ℕ) → length vs ≡ n → Meets (Yields y (bound ns (present vs) ρ)) l (k vs l))
      → Meets (Yields (binding ns x y) ρ) lent (then o k)
  unfolding then
  then-meets n (yields vs l) k w s m wk mk = carry l (present vs) w m (k vs l) (wk vs l) (mk vs l s)
  then-meets n Outcome.unfinished k w s m wk mk = Sequel.stops lent m

  pub then-meets-B : (i r n : ℕ) (o : Outcome) (k : List Value → ℕ → Ending) → Within lent o → Sized n o → Meets (Yields x ρ) lent o
      → ((vs : List Value) (l : ℕ) → WithinB l (k vs l))
      → ((vs : List Value) (l : ℕ) → length vs ≡ n → MeetsB i r (Yields y (bound ns (present vs) ρ)) l (k vs l))
      → MeetsB i r (Yields (binding ns x y) ρ) lent (then_b o k)
  unfolding then_b
  then-meets-B i r n (yields vs l) k w s m wk mk = carry-B i r l (present vs) w m (k vs l) (wk vs l) (mk vs l s)
  then-meets-B i r n Outcome.unfinished k w s m wk mk = Sequel.stops lent m

-- ---- side by side, and a gate behind
module _ (x y : Graph) (ρ : Values) (lent : ℕ) where
  pub pair-meets : (o : Outcome) (q : ℕ → Outcome) → Within lent o → Meets (Yields x ρ) lent o
      → ((l : ℕ) → Within l (q l)) → ((l : ℕ) → Meets (Yields y ρ) l (q l))
      → Meets (Yields (beside x y) ρ) lent (then o (λ vs l. then (q l) (λ ws m. yields (vs ++ ws) m)))
  unfolding then
  pair-meets (yields vs l) q w m wq mq = go (q l) (wq l) (mq l)
    where
      go : (p : Outcome) → Within l p → Meets (Yields y ρ) l p → Meets (Yields (beside x y) ρ) lent (then p (λ ws n. yields (vs ++ ws) n))
      go (yields ws n) h k =
          subst (λ (us : List (Option Value)). Yields (beside x y) ρ (lent - n) (some us)) (sym (present-append vs ws))
          (side_by_side none x y ρ (lent - l) (l - n) (lent - n) (present vs) (present ws) (omega arith) m k)
      go Outcome.unfinished h k = second-stops none x y ρ (lent - l) l lent (present vs) (omega arith) m k
  pair-meets Outcome.unfinished q w m wq mq = Beside.stops lent m

-- A gate behind a graph fires once.
pub gate-meets : (g : Gate) (x : Graph) (ρ : Values) (lent n : ℕ) (o : Outcome) (k : List Value → Value) → Sized n o → Meets (Yields x ρ) lent o
    → ((vs : List Value) → length vs ≡ n → Fires g (present vs) (some (k vs) ∷ []))
    → Meets (Yields (gate g x) ρ) lent (then o (λ vs l. yields (k vs ∷ []) l))
unfolding then
gate-meets g x ρ lent n (yields vs l) k s m f = Gated.ends (lent - l) (present vs) (some (k vs) ∷ []) m (f vs s)
gate-meets g x ρ lent n Outcome.unfinished k s m f = Gated.stops lent m
