-- Laws of specs/Ranged.antt, and what only they need.
use Rattle.std.specs.Prelude.{ℕ, zero, suc, ◌-◌, ◌≡◌, Bool, true, false, cond, List, [], ◌∷◌, ◌++◌, get_or}
use Rattle.std.proofs.Common.{subst}
use Rattle.value.specs.declared.Value.{Value}
use Rattle.value.specs.Bytes.{InRange}
use Rattle.value.specs.Senses.{err}
use Rattle.value.proofs.Codes.{apply-in-range}
use Rattle.names.specs.Names.{range}
use Rattle.formula.proofs.Constants.{constant-in-range}
use Rattle.formula.specs.Tree.{Exp, identifier, constant, pair, operator, let_e, if_e, for_e}
use Rattle.formula.specs.Admitted.{AdmittedE}
use Rattle.meaning.specs.Meaning.{Env, bind, yields, eval_e}
use Rattle.sheet_movement.specs.Drifts.{Drifts}
use Rattle.sheet_movement.specs.Outcomes.{Each}
use Rattle.sheet_movement.proofs.Outcomes.{then-each}
use Rattle.sheet_movement.specs.Ranged.{AllRanged, RangedEnv}

one-ranged : (v : Value) → InRange v → AllRanged (v ∷ [])
one-ranged v h zero = h
one-ranged v h (suc i) = tt

append-ranged : (vs ws : List Value) → AllRanged vs → AllRanged ws → AllRanged (vs ++ ws)
append-ranged [] ws h k i = k i
append-ranged (v ∷ vs) ws h k zero = h zero
append-ranged (v ∷ vs) ws h k (suc i) = append-ranged vs ws (λ j. h (suc j)) k i

bind-ranged : (a b : ℕ) (vs : List Value) → AllRanged vs → (env : Env) → RangedEnv env → RangedEnv (bind a b vs env)
unfolding bind
bind-ranged a b vs h env e k = go (range a b k)
  where
    go : (t : Bool) → InRange (cond t (get_or vs (k - a) err) (env k))
    go true = h (k - a)
    go false = e k

each-ranged : (x : Exp) → Drifts x → AdmittedE x → (env : Env) → RangedEnv env → (l : ℕ) → Each AllRanged (eval_e x env l)
unfolding eval_e
each-ranged (identifier a) d h env e l = one-ranged (env a) (e a)
each-ranged (constant k a) d h env e l = one-ranged _ (constant-in-range k a h)
each-ranged (pair x y) d h env e l =
    then-each AllRanged AllRanged (eval_e x env l) _ (each-ranged x d.0 h.1 env e l)
    (λ vs i p. then-each AllRanged AllRanged (eval_e y env i) _ (each-ranged y d.1 h.2 env e i) (λ ws j q. append-ranged vs ws p q))
each-ranged (operator code x) d h env e l =
    then-each AllRanged AllRanged (eval_e x env l) _ (each-ranged x d.1 h.2 env e l) (λ vs i p. one-ranged _ (apply-in-range code (get_or vs 0 err) (get_or vs 1 err)))
each-ranged (let_e a b x y) d h env e l =
    then-each AllRanged AllRanged (eval_e x env l) _ (each-ranged x d.0 h.2 env e l) (λ vs i p. each-ranged y d.1 h.3 (bind a b vs env) (bind-ranged a b vs p env e) i)
each-ranged (if_e t x y) d h env e l = absurd d
each-ranged (for_e a b x y) d h env e l = absurd d

pub evaluation-ranged : (x : Exp) → Drifts x → AdmittedE x → (env : Env) → RangedEnv env → (l left : ℕ) (vs : List Value) → eval_e x env l ≡ yields vs left → AllRanged vs
evaluation-ranged x d h env e l left vs p = subst (Each AllRanged) p (each-ranged x d h env e l)
