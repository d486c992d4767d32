-- The rounds of a loop (document 01: "a round is one entry into a loop body"; "An iter starts the body again with its identifiers rebound; another
-- ending returns its values"): where each round of the body meets its evaluation, the loop meets the evaluation of its rounds.
use Prim.Native.Nat.{ℕ, zero, suc, ◌+◌, ◌-◌, ◌≤◌}
use Rattle.std.specs.Prelude.{◌≡◌, true, false, List, length}
use Rattle.std.proofs.Common.{sym, arith}
use Rattle.std.proofs.Math.Path.{subst}
use Rattle.std.proofs.Math.Option.{none, some}
use Rattle.value.specs.declared.Value.{Value}
use Rattle.formula.specs.Tree.{Body}
use Rattle.formula.specs.Widths.{returned}
use Rattle.meaning.specs.Meaning.{Env, bind, Outcome, yields, Ending, again, returns, then, after, eval_b}
use Rattle.meaning.specs.Rounds.{Within, WithinB, turns}
use Rattle.meaning.proofs.Rounds.{turns-none, turns-step, within-B}
use Rattle.meaning.specs.WidthLaws.{Sized, SizedB}
use Rattle.graph.specs.Assembly.{Graph, loop, member_of, free}
use Rattle.graph.specs.Yields.{Values, present, bound, Yields, Spins, Looped}
use Rattle.theory_yields.specs.Meets.{Part, Meets, MeetsB}

module _ (k r : ℕ) (B : List Value → Part) (y : Body) (a b : ℕ) (outer : Env)
    (sizes : (e : Env) (l : ℕ) → SizedB k (returned y) (eval_b y (returned y) e l))
    (rounds : (vs : List Value) → length vs ≡ k → (l : ℕ) → MeetsB k r (B vs) l (eval_b y (returned y) (bind a b vs outer) l))
  where
    -- The rounds from the values vs on, of which l are left.
    abbrev Spun : List Value → ℕ → Outcome → Type 0
    Spun vs l o = Within l o × Meets (Spins k B vs) l o

    -- After a round that was lent m rounds and goes on as `next` says.
    step : (vs : List Value) (m : ℕ) (o : Ending) (next : List Value → ℕ → Outcome) → WithinB m o → SizedB k (returned y) o → MeetsB k r (B vs) m o
        → ((us : List Value) (l : ℕ) → length us ≡ k → l ≤ m → Spun us l (next us l)) → Spun vs (suc m) (after o next)
    unfolding after
    step vs m (again us l) next w s p ih = go (next us l) (ih us l s.0 w)
      where
        go : (o : Outcome) → Spun us l o → Spun vs (suc m) o
        go (yields ws n) q =
            let i : n ≤ l = q.0 in
            let e : suc ((m - l) + (l - n)) ≡ suc m - n = omega (arith, w, i) in (
              omega (arith, w, i),
              subst (λ c. Spins k B vs c (some (present ws))) e (Spins.again vs us (m - l) (l - n) r (some (present ws)) s.0 p q.1),
            )
        go Outcome.unfinished q =
            let e : suc ((m - l) + l) ≡ suc m = omega (arith, w) in
            (tt, subst (λ c. Spins k B vs c none) e (Spins.again vs us (m - l) l r none s.0 p q.1))
    step vs m (returns ws l) next w s p ih =
        let e : suc (m - l) ≡ suc m - l = omega (arith, w) in
        (omega (arith, w), subst (λ c. Spins k B vs c (some (present ws))) e (Spins.returns vs (m - l) (present ws) p))
    step vs m Ending.unfinished next w s p ih = (tt, Spins.stops vs m p)

    none_left : (vs : List Value) → Spun vs 0 (turns y a b outer (bind a b vs outer) 0)
    none_left vs = subst (Spun vs 0) (sym (turns-none y a b outer (bind a b vs outer))) (tt, Spins.spent vs)

    -- n bounds the rounds left
    spun : (n : ℕ) (vs : List Value) (l : ℕ) → l ≤ n → length vs ≡ k → Spun vs l (turns y a b outer (bind a b vs outer) l)
    spun zero vs l h e =
        let z : 0 ≡ l = omega arith in
        subst (λ m. Spun vs m (turns y a b outer (bind a b vs outer) m)) z (none_left vs)
    spun (suc n) vs l h e = go l h (λ us m i f. spun n us m i f)
      where
        go : (l : ℕ) → l ≤ suc n → ((us : List Value) (m : ℕ) → m ≤ n → length us ≡ k → Spun us m (turns y a b outer (bind a b us outer) m))
            → Spun vs l (turns y a b outer (bind a b vs outer) l)
        go zero h ih = none_left vs
        go (suc m) h ih =
            subst (Spun vs (suc m)) (sym (turns-step y a b outer (bind a b vs outer) m))
            (step vs m (eval_b y (returned y) (bind a b vs outer) m) (λ us l. turns y a b outer (bind a b us outer) l)
            (within-B y (returned y) (bind a b vs outer) m) (sizes (bind a b vs outer) m) (rounds vs e m)
            (λ us l f i. ih us l (omega arith) f))

    pub spins-meets : (vs : List Value) (l : ℕ) → length vs ≡ k
        → Within l (turns y a b outer (bind a b vs outer) l) × Meets (Spins k B vs) l (turns y a b outer (bind a b vs outer) l)
    spins-meets vs l e = spun l vs l (omega arith) e

-- A loop's start and then its rounds.
module _ (ns : List ℕ) (x y : Graph) (ρ : Values) (lent : ℕ)
    (others : (k : ℕ) → (free y k ≡ true) × (member_of ns k ≡ false) → (v : Value) × (ρ k ≡ some v))
  where
    pub loop-meets : (o : Outcome) (k : List Value → ℕ → Outcome) → Within lent o → Sized (length ns) o → Meets (Yields x ρ) lent o
        → ((vs : List Value) (l : ℕ) → length vs ≡ length ns
        → Within l (k vs l) × Meets (Spins (length ns) (λ us. Yields y (bound ns (present us) ρ)) vs) l (k vs l))
        → Meets (Yields (loop ns x y) ρ) lent (then o k)
    unfolding then
    loop-meets (yields vs l) k w s m h = go (k vs l) (h vs l s)
      where
        go : (o : Outcome) → Within l o × Meets (Spins (length ns) (λ us. Yields y (bound ns (present us) ρ)) vs) l o
            → Meets (Yields (loop ns x y) ρ) lent o
        go (yields ws n) q =
            let i : n ≤ l = q.0 in
            let e : (lent - l) + (l - n) ≡ lent - n = omega (arith, w, i) in
            subst (λ c. Yields (loop ns x y) ρ c (some (present ws))) e (Looped.spins (lent - l) (l - n) vs (some (present ws)) s m others q.1)
        go Outcome.unfinished q =
            let e : (lent - l) + l ≡ lent = omega (arith, w) in
            subst (λ c. Yields (loop ns x y) ρ c none) e (Looped.spins (lent - l) l vs none s m others q.1)
    loop-meets Outcome.unfinished k w s m h = Looped.stops lent m
