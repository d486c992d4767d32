-- From the code's steps to the definition of an evaluation (meaning's specs/Evaluate): what each of its endings is.
-- Assumes an accepted sheet's formula row.
use Rattle.std.specs.Prelude.{ℕ, ◌-◌, ◌≤◌, ◌≡◌, true, false, List, map, length, replicate, Some, None, Ok}
use Rattle.std.proofs.Common.{sym, ap, ◌∙◌, subst, arith}
use Rattle.names.specs.Names.{mask}
use Rattle.formula.specs.declared.Refusal.TheVariants.{Set, Unfinished}
use Rattle.formula.specs.Results.{Verdict}
use Rattle.formula.specs.Tree.{Exp, exp_of}
use Rattle.formula.specs.Free.{free_e, inputs_of}
use Rattle.meaning.specs.Meaning.{Env, Outcome, eval_e}
use Rattle.meaning.specs.Rounds.{Within}
use Rattle.meaning.proofs.Rounds.{within}
use Rattle.meaning.specs.Rows.{ExpRow}
use Rattle.meaning.specs.declared.Cell.{Cell}
use Rattle.meaning.specs.declared.Evaluation.{Evaluation}
use Rattle.meaning.specs.Evaluate.{cell, cells_of, refused, concluded, evaluated_with, evaluated}
use Rattle.value_sets.specs.Sets.{set_ok}
use Rattle.value_sets.proofs.Sets.{set_values_lem, no-set}
use Rattle.eval_words.specs.Inputs.{inputs-below}
use Rattle.eval_words.specs.Words.{held_of, env_of, zeros-err}
use Rattle.eval_words.specs.Needs.{W, narrow}
use Rattle.eval_cycle.specs.Told.{Told, Values, told-left, told-short, read, counted}
use Rattle.eval_sheet.specs.Inputs.{Holds, holds-inputs, cells_are}

-- Rounds left are at most those lent.
pub left-within : (x : Exp) (env : Env) (rounds l at : ℕ) (o o' : List ℕ) → Told (eval_e x env rounds) (Some l) at o o' → l ≤ rounds
left-within x env rounds l at o o' h =
    let v : Values (eval_e x env rounds) l at o o' = told-left _ l at o o' h in
    subst (Within rounds) v.is (within x env rounds)

-- A set that is none.
pub evaluated-bad : (x : Exp) (kinds bytes : List ℕ) (rounds : ℕ) → set_ok kinds bytes ≡ false → refused Set 0 ≡ evaluated x kinds bytes rounds
unfolding evaluated
evaluated-bad x kinds bytes rounds h = ap (evaluated_with x rounds) (sym (no-set kinds bytes h))

-- A set: the environment that the code made is the meaning's.
pub evaluated-good : (x : Exp) (kinds bytes : List ℕ) (rounds : ℕ) (env : List ℕ) → length kinds ≡ length (inputs_of x) → set_ok kinds bytes ≡ true
    → Holds bytes (length kinds) (mask (free_e x)) env 32
    → concluded rounds (eval_e x (env_of env) rounds) ≡ evaluated x kinds bytes rounds
unfolding evaluated
evaluated-good x kinds bytes rounds env c h k =
    let r = set_values_lem kinds bytes h in
    ap (λ (f : Env). concluded rounds (eval_e x f rounds)) (holds-inputs x kinds bytes r.0 env (c ∙ inputs-below x) r.1 k)
    ∙ ap (evaluated_with x rounds) (sym r.1.values)

pub concluded-short : (o : Outcome) (rounds at : ℕ) (b a : List ℕ) → Told o None at b a → refused Unfinished 0 ≡ concluded rounds o
unfolding concluded
concluded-short o rounds at b a h = ap (concluded rounds) (sym (told-short o at b a h))

-- The fields of an evaluation make it.
pub made : (e : Evaluation) (cs : List Cell) (w k : ℕ) (v : Verdict) → e.cells ≡ cs → e.width ≡ w → e.rounds ≡ k → e.verdict ≡ v
    → e ≡ record { cells = cs; width = w; rounds = k; verdict = v }
made e cs w k v p q r s = λ i. record { cells = p i; width = q i; rounds = r i; verdict = s i }

pub concluded-left : (t ws : List ℕ) (n : ℕ) → ExpRow t ws n → (env : Env) (rounds l : ℕ) (a : List ℕ) (e : Evaluation)
    → Told (eval_e (exp_of t n) env rounds) (Some l) 0 (replicate 16 0) a → length a ≡ 16
    → e.cells ≡ map (λ z. cell (held_of z)) a → e.width ≡ W ws n → e.rounds ≡ rounds - l → e.verdict ≡ Ok tt
    → e ≡ concluded rounds (eval_e (exp_of t n) env rounds)
unfolding concluded cells_of env_of
concluded-left t ws n row env rounds l a e h long c w r v =
    let vs : Values (eval_e (exp_of t n) env rounds) l 0 (replicate 16 0) a = told-left _ l 0 (replicate 16 0) a h in
    let m : length vs.values ≡ W ws n = counted t ws n row env rounds vs.is in
    let cells : map (λ z. cell (held_of z)) a ≡ cells_of vs.values =
    cells_are 16 a vs.values long (omega (arith, m, narrow t ws n row)) (λ k. read vs (zeros-err 16) k)
    in
    made e (cells_of vs.values) (length vs.values) (rounds - l) (Ok tt) (c ∙ cells) (w ∙ sym m) r v
    ∙ ap (concluded rounds) (sym vs.is)
