-- Laws of specs/BehindEndless.antt, and what only they need.
use Rattle.std.specs.Prelude.{ℕ, zero, suc, ◌≡◌, refl, true, List, [], ◌∷◌, pos}
use Rattle.std.proofs.Common.{sym, subst, ap, ◌∙◌}
use Rattle.std.proofs.Math.Option.{Option, none, some}
use Rattle.std.proofs.Math.Decide.{dec_lt, ℕ_discrete}
use Rattle.value.specs.declared.Value.{Value}
use Rattle.value.specs.declared.Value.TheVariants.{Whole, Truth}
use Rattle.value.specs.Operators.{apply}
use Rattle.network.specs.Net.{val, pop, append}
use Rattle.network.specs.Ends.{capacities}
use Rattle.theory_pieces.specs.Load.{set_link}
use Rattle.formula.specs.Tree.{identifier, if_e}
use Rattle.formula.specs.Free.{free_e}
use Rattle.meaning.specs.Meaning.{Env, bind, Outcome, unfinished, then, loop, eval_e, eval_b, inputs_hold}
use Rattle.graph.specs.Translation.{made_of}
use Rattle.theory_reference.specs.Marks.{marks}
use Rattle.theory_verdicts.specs.Results.{values_of, result_of, EndsWith}
use Rattle.theory_verdicts.specs.Running.{both, dec_room, dec_able, steps_from, history, taken}
use Rattle.theory_verdicts.specs.BehindEndless.{body, beside_loop, endless_set, ending_set, overtaking, without_loop, asked, given}

-- Each call is accepted, at capacities 2 and 16.
pub overtaking-made : history beside_loop 2 (asked overtaking) ≡ overtaking
unfolding steps_from made_of dec_able both dec_lt marks dec_room capacities ℕ_discrete append pop apply set_link
overtaking-made = refl

pub without-loop-made : history beside_loop 16 (asked without_loop) ≡ without_loop
unfolding steps_from made_of dec_able both dec_lt marks dec_room capacities ℕ_discrete append pop apply set_link
without-loop-made = refl

pub overtaking-taken : taken beside_loop 2 (asked overtaking) ≡ (val (Whole (pos 6)) ∷ []) ∷ (val (Whole (pos 5)) ∷ []) ∷ []
unfolding steps_from made_of dec_able both dec_lt marks dec_room capacities ℕ_discrete append pop apply set_link
overtaking-taken = refl

pub without-loop-taken : taken beside_loop 16 (asked without_loop) ≡ (val (Whole (pos 7)) ∷ []) ∷ (val (Whole (pos 5)) ∷ []) ∷ []
unfolding steps_from made_of dec_able both dec_lt marks dec_room capacities ℕ_discrete append pop apply set_link
without-loop-taken = refl

-- ---- the first set's evaluation does not end, the second's does
goes-round : (outer : Env) (bound left : ℕ) (env : Env) → env 2 ≡ Truth true → loop bound (λ e m. eval_b body 1 e m) (λ ws. bind 2 1 ws outer) env left ≡ unfinished
unfolding loop eval_b eval_e
goes-round outer zero left env e = refl
goes-round outer (suc bound) zero env e = refl
goes-round outer (suc bound) (suc left) env e = rw e (goes-round outer bound left (bind 2 1 (Truth true ∷ []) outer) refl)

no_result : (rounds : ℕ) → result_of beside_loop endless_set rounds ≡ none
unfolding result_of eval_e then bind free_e inputs_hold
no_result rounds =
    ap (λ (o : Outcome). values_of (then o (λ vs l. eval_e (if_e (identifier 3) (identifier 0) (identifier 4)) (bind 4 1 vs given) l)))
    (goes-round given rounds rounds (bind 2 1 (given 1 ∷ []) given) refl)

pub never_ends : (r : List Value) → EndsWith beside_loop endless_set r → ⊥
never_ends r e = different (sym (no_result e.0) ∙ e.1)
  where
    Is-none : Option (List Value) → Type 0
    Is-none none = Unit {0}
    Is-none (some v) = ⊥

    different : none ≡ some r → ⊥
    different z = subst Is-none z tt

pub ends : EndsWith beside_loop ending_set (Whole (pos 5) ∷ [])
unfolding result_of
ends = (1, refl)
