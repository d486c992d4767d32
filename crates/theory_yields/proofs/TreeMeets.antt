-- The graph of an admitted formula yields what direct evaluation yields, in as many rounds (document 01, "The meaning" and "The graph"; Brock leaves
-- the agreement of his two meanings open). By induction over the tree: an expression's values, or no end within the rounds lent; for a body with w
-- returned values in the whole loop, iter? with its iterated or its returned values.
use Rattle.std.specs.Prelude.{ℕ, ◌-◌, ◌≡◌, refl, true, false, List, [], ◌∷◌, ◌++◌, length, get_or, eqb}
use Rattle.std.proofs.Common.{sym, ap, ◌∙◌, subst, eq-eqb, ne_eqb, arith}
use Rattle.std.proofs.Math.Option.{Option, none, some}
use Rattle.value.specs.declared.Value.{Value}
use Rattle.value.specs.declared.Value.TheVariants.{Truth}
use Rattle.value.specs.Senses.{err, sense}
use Rattle.value.specs.Operators.{apply}
use Rattle.names.specs.Names.{Names, trigger, one, union, without, range}
use Rattle.network.specs.Values.{true-value}
use Rattle.formula.specs.Constants.{constant_value}
use Rattle.formula.specs.Tree.{Exp, identifier, constant, pair, operator, let_e, if_e, for_e, Body, ret, iter, let_b, if_b}
use Rattle.formula.specs.Widths.{width, returned, iterated}
use Rattle.formula.specs.Free.{free_e, free_b}
use Rattle.formula.specs.Count.{returns as returnsAlways, iterates}
use Rattle.formula.specs.Admitted.{AdmittedE, AdmittedB}
use Rattle.meaning.specs.Meaning.{Env, bind, Outcome, yields, again, returns, then_b, eval_e, eval_b}
use Rattle.meaning.specs.Rounds.{Within, WithinB, turns}
use Rattle.meaning.proofs.Rounds.{branch-holds, within, within-B}
use Rattle.meaning.specs.WidthLaws.{Sized, SizedB}
use Rattle.meaning.proofs.WidthLaws.{sized, sized-B, operator-fits, let-fits, if-fits, for-fits, let-fits-B, if-fits-B}
use Rattle.graph.specs.Assembly.{Graph, beside, const, oper, member_of, up_from, free}
use Rattle.graph.specs.Yields.{Values, present, bound, Yields, YieldsIn, Gated, Fires}
use Rattle.graph.specs.Translation.{test_name, constant_of, graph_e, graph_b}
use Rattle.theory_yields.proofs.Naming.{or-false, or_left, or_right, length-up_from, member-up_from}
use Rattle.theory_yields.proofs.BodyWidths.{sound-E, sound-B, iterated-outputs}
use Rattle.theory_yields.specs.BodyWidths.{iterated_outputs, returned_outputs}
use Rattle.theory_yields.specs.Choice.{From}
use Rattle.theory_yields.proofs.Choice.{kept, unseen}
use Rattle.theory_yields.proofs.Gates.{const-fires, operator-fires}
use Rattle.theory_yields.proofs.FreeNames.{small-B, free-B}
use Rattle.theory_yields.specs.FitGraphs.{Returning}
use Rattle.theory_yields.proofs.FitGraphs.{let-returning, arms-returning, loop-returning, loop-outputs}
use Rattle.theory_yields.proofs.Rows.{side_by_side, second-stops}
use Rattle.theory_yields.specs.Meets.{Holds, Meets, MeetsB}
use Rattle.theory_yields.proofs.Meets.{holds-part, holds-bound, holds-beside, all_held, then-meets, then-meets-B, pair-meets, gate-meets}
use Rattle.theory_yields.proofs.LoopRounds.{spins-meets, loop-meets}
use Rattle.theory_yields.proofs.IfMeets.{exp-behind, exp-if}
use Rattle.theory_yields.proofs.BodyIfMeets.{body-behind, body-if}

-- ---- constants
pub constant-ends : (cut : Option ℕ) (v : Value) (env : Env) (ρ : Values) → Holds (one trigger) env ρ → YieldsIn cut (constant_of v) ρ 0 (some (some v ∷ []))
constant-ends cut v env ρ h =
    let t = h.1 refl in
    Gated.ends 0 (ρ trigger ∷ []) (some v ∷ []) (refl, refl)
    (subst (λ (u : Option Value). Fires (const v) (u ∷ []) (some v ∷ [])) (sym t.1) (const-fires v t.0))

constant-yields : (v : Value) (env : Env) (ρ : Values) (lent : ℕ) → Holds (one trigger) env ρ
    → Meets (Yields (constant_of v) ρ) lent (yields (v ∷ []) lent)
constant-yields v env ρ lent h =
    let z : 0 ≡ lent - lent = omega arith in
    subst (λ n. Yields (constant_of v) ρ n (some (some v ∷ []))) z (constant-ends none v env ρ h)

pub constant-first : (cut : Option ℕ) (v : Value) (x : Graph) (env : Env) (ρ : Values) (n : ℕ) → Holds (one trigger) env ρ → (vs : List (Option Value))
    → YieldsIn cut x ρ n (some vs) → YieldsIn cut (beside (constant_of v) x) ρ n (some (some v ∷ vs))
constant-first cut v x env ρ n h vs p = side_by_side cut (constant_of v) x ρ 0 n n (some v ∷ []) vs (omega arith) (constant-ends cut v env ρ h) p

constant-stops : (v : Value) (x : Graph) (env : Env) (ρ : Values) (n : ℕ) → Holds (one trigger) env ρ
    → Yields x ρ n none → Yields (beside (constant_of v) x) ρ n none
constant-stops v x env ρ n h p = second-stops none (constant_of v) x ρ 0 n n (some v ∷ []) (omega arith) (constant-ends none v env ρ h) p

-- ---- the ends of a body
pub append-none : (vs : List (Option Value)) → vs ≡ vs ++ []
append-none [] = refl
append-none (v ∷ vs) = ap {B = List (Option Value)} (λ r. v ∷ r) (append-none vs)

returned-meets : (x : Graph) (env : Env) (ρ : Values) (r lent : ℕ) → Holds (one trigger) env ρ → (o : Outcome) → Meets (Yields x ρ) lent o
    → MeetsB 0 r (Yields (beside (constant_of (Truth false)) x) ρ) lent (then_b o (λ vs l. returns vs l))
unfolding then_b
returned-meets x env ρ r lent h (yields vs l) p = constant-first none (Truth false) x env ρ (lent - l) h (present vs) p
returned-meets x env ρ r lent h Outcome.unfinished p = constant-stops (Truth false) x env ρ lent h p

iterated-meets : (x : Graph) (env : Env) (ρ : Values) (k lent : ℕ) → Holds (one trigger) env ρ → (o : Outcome) → Meets (Yields x ρ) lent o
    → MeetsB k 0 (Yields (beside (constant_of (Truth true)) x) ρ) lent (then_b o (λ vs l. again vs l))
unfolding then_b
iterated-meets x env ρ k lent h (yields vs l) p =
    subst (λ (us : List (Option Value)). Yields (beside (constant_of (Truth true)) x) ρ (lent - l) (some (some true-value ∷ us))) (append-none (present vs))
    (constant-first none (Truth true) x env ρ (lent - l) h (present vs) p)
iterated-meets x env ρ k lent h Outcome.unfinished p = constant-stops (Truth true) x env ρ lent h p

-- ---- parts of a set of names
pub left-part : (f g : Names) (env : Env) (ρ : Values) → Holds (union f g) env ρ → Holds f env ρ
left-part f g env ρ h = holds-part f (union f g) env ρ (λ k e. or_left (f k) (g k) e) h

pub right-part : (f g : Names) (env : Env) (ρ : Values) → Holds (union f g) env ρ → Holds g env ρ
right-part f g env ρ h = holds-part g (union f g) env ρ (λ k e. or_right (f k) (g k) e) h

-- ---- the value of a test
pub test-value : (vs : List Value) (ρ : Values) → length vs ≡ 1 → bound (test_name ∷ []) (present vs) ρ test_name ≡ some (get_or vs 0 err)
unfolding bound
test-value [] ρ n = absurd (omega arith)
test-value (v ∷ vs) ρ n = refl

pub from-test : From 33 (test_name ∷ [])
unfolding member_of
from-test k l = or-false (eqb test_name k) false (ne_eqb test_name k (λ e. omega arith)) refl

-- The names of a loop's body that are not its own have values.
pub others-held : (a b : ℕ) (y : Body) (env : Env) (ρ : Values) → AdmittedB y → Holds (without (free_b y) (range a b)) env ρ → (k : ℕ) →
    (free (graph_b (returned y) y) k ≡ true) × (member_of (up_from a b) k ≡ false) → (v : Value) × (ρ k ≡ some v)
others-held a b y env ρ adm h k e =
    all_held (without (free_b y) (range a b)) env ρ (λ i l. unseen (free_b y i) _ (small-B y adm i l)) h k
    (kept (free_b y k) (range a b k) (sym (member-up_from a b k) ∙ e.1) ∙ sym (free-B (returned y) y adm k) ∙ e.0)

-- ---- the theorem
mutual
  unfolding eval_e eval_b turns width returned iterated graph_e graph_b free_e free_b iterates returnsAlways iterated_outputs returned_outputs

  pub meets-E : (x : Exp) → AdmittedE x → (env : Env) (ρ : Values) → Holds (free_e x) env ρ → (lent : ℕ)
      → Meets (Yields (graph_e x) ρ) lent (eval_e x env lent)
  meets-E (identifier a) adm env ρ h lent =
      (omega arith, ap (λ (v : Option Value). some (v ∷ [])) (sym (h.0 a adm (eq-eqb a a refl))))
  meets-E (constant k a) adm env ρ h lent = constant-yields (constant_value k a) env ρ lent h
  meets-E (pair x y) adm env ρ h lent =
      pair-meets (graph_e x) (graph_e y) ρ lent (eval_e x env lent) (λ l. eval_e y env l) (within x env lent)
      (meets-E x adm.1 env ρ (left-part (free_e x) (free_e y) env ρ h) lent) (λ l. within y env l)
      (λ l. meets-E y adm.2 env ρ (right-part (free_e x) (free_e y) env ρ h) l)
  meets-E (operator k x) adm env ρ h lent =
      gate-meets (oper k) (graph_e x) ρ lent (width x) (eval_e x env lent) (λ vs. apply k (get_or vs 0 err) (get_or vs 1 err))
      (sized x (sound-E x adm.2) env lent) (meets-E x adm.2 env ρ h lent)
      (λ vs n. operator-fires k vs (n ∙ operator-fits k x adm.0.0))
  meets-E (let_e a b x y) adm env ρ h lent =
      then-meets (up_from a b) (graph_e x) (graph_e y) ρ lent (width x) (eval_e x env lent) (λ vs l. eval_e y (bind a b vs env) l) (within x env lent)
      (sized x (sound-E x adm.2) env lent) (meets-E x adm.2 env ρ (left-part (free_e x) (without (free_e y) (range a b)) env ρ h) lent)
      (λ vs l. within y (bind a b vs env) l)
      (λ vs l n.
      meets-E y adm.3 (bind a b vs env) (bound (up_from a b) (present vs) ρ)
      (holds-bound (free_e y) env ρ a b vs adm.1.1 (n ∙ let-fits a b x y adm.0.0)
      (right-part (free_e x) (without (free_e y) (range a b)) env ρ h))
      l
      )
  meets-E (if_e t x y) adm env ρ h lent =
      let f = if-fits t x y adm.0.0 in
      then-meets (test_name ∷ []) (graph_e t) (exp-behind t x y adm) ρ lent (width t) (eval_e t env lent) _ (within t env lent)
      (sized t (sound-E t adm.1) env lent) (meets-E t adm.1 env ρ (left-part (free_e t) (union (free_e x) (free_e y)) env ρ h) lent)
      (λ vs l. branch-holds (Within l) (sense (get_or vs 0 err)) _ (λ _. eval_e x env l) (λ _. eval_e y env l) (omega arith) (within x env l) (within y env l))
      (λ vs l n.
      exp-if t x y adm none env (bound (test_name ∷ []) (present vs) ρ)
      (holds-beside (free_e x) env ρ (test_name ∷ []) (present vs) from-test
      (left-part (free_e x) (free_e y) env ρ (right-part (free_e t) (union (free_e x) (free_e y)) env ρ h)))
      (holds-beside (free_e y) env ρ (test_name ∷ []) (present vs) from-test
      (right-part (free_e x) (free_e y) env ρ (right-part (free_e t) (union (free_e x) (free_e y)) env ρ h)))
      l (get_or vs 0 err) (test-value vs ρ (n ∙ f.0)) (sized x (sound-E x adm.2) env l)
      (subst (λ k. Sized k (eval_e y env l)) (sym f.1) (sized y (sound-E y adm.3) env l)) (λ σ g. meets-E x adm.2 env σ g l)
      (λ σ g. meets-E y adm.3 env σ g l)
      )
  meets-E (for_e a b x y) adm env ρ h lent =
      let f = for-fits a b x y adm.0.0 in
      let o = loop-outputs a b x y adm in
      let n : iterated_outputs y ≡ length (up_from a b) = o.0 ∙ sym (length-up_from a b) in
      let inner : Holds (without (free_b y) (range a b)) env ρ = right-part (free_e x) (without (free_b y) (range a b)) env ρ h in
      loop-meets (up_from a b) (graph_e x) (graph_b (returned y) y) ρ lent
      (λ k e.
      all_held (without (free_b y) (range a b)) env ρ (λ i l. unseen (free_b y i) _ (small-B y adm.3 i l)) inner k
      (kept (free_b y k) (range a b k) (sym (member-up_from a b k) ∙ e.1) ∙ sym (free-B (returned y) y adm.3 k) ∙ e.0)
      )
      (eval_e x env lent) (λ vs l. turns y a b env (bind a b vs env) l) (within x env lent)
      (subst (λ k. Sized k (eval_e x env lent)) (f.0 ∙ sym (length-up_from a b)) (sized x (sound-E x adm.2) env lent))
      (meets-E x adm.2 env ρ (left-part (free_e x) (without (free_b y) (range a b)) env ρ h) lent)
      (λ vs l m.
      spins-meets (length (up_from a b)) (returned y) (λ us. Yields (graph_b (returned y) y) (bound (up_from a b) (present us) ρ)) y a b env
      (λ e k. subst (λ i. SizedB i (returned y) (eval_b y (returned y) e k)) (sym (iterated-outputs y) ∙ n) (sized-B y (sound-B y adm.3) (returned y) (λ i. refl) e k))
      (λ us i k.
      subst (λ j. MeetsB j (returned y) (Yields (graph_b (returned y) y) (bound (up_from a b) (present us) ρ)) k (eval_b y (returned y) (bind a b us env) k)) n
      (subst (λ j. MeetsB (iterated_outputs y) j (Yields (graph_b (returned y) y) (bound (up_from a b) (present us) ρ)) k (eval_b y (returned y) (bind a b us env) k)) o.1
      (meets-B (returned y) y adm.3 (loop-returning a b x y adm) (bind a b us env) (bound (up_from a b) (present us) ρ)
      (holds-bound (free_b y) env ρ a b us adm.1.1 (i ∙ length-up_from a b) inner) k))
      )
      vs l m
      )

  pub meets-B : (w : ℕ) (y : Body) → AdmittedB y → Returning w y → (env : Env) (ρ : Values) → Holds (free_b y) env ρ → (lent : ℕ)
      → MeetsB (iterated_outputs y) (returned_outputs w y) (Yields (graph_b w y) ρ) lent (eval_b y w env lent)
  meets-B w (ret x) adm r env ρ h lent =
      returned-meets (graph_e x) env ρ w lent (left-part (one trigger) (free_e x) env ρ h) (eval_e x env lent)
      (meets-E x adm.1 env ρ (right-part (one trigger) (free_e x) env ρ h) lent)
  meets-B w (iter x) adm r env ρ h lent =
      iterated-meets (graph_e x) env ρ (width x) lent (left-part (one trigger) (free_e x) env ρ h) (eval_e x env lent)
      (meets-E x adm.1 env ρ (right-part (one trigger) (free_e x) env ρ h) lent)
  meets-B w (let_b a b x y) adm r env ρ h lent =
      then-meets-B (up_from a b) (graph_e x) (graph_b w y) ρ lent (iterated_outputs y) (returned_outputs w y) (width x) (eval_e x env lent)
      (λ vs l. eval_b y w (bind a b vs env) l) (within x env lent) (sized x (sound-E x adm.2) env lent)
      (meets-E x adm.2 env ρ (left-part (free_e x) (without (free_b y) (range a b)) env ρ h) lent) (λ vs l. within-B y w (bind a b vs env) l)
      (λ vs l n.
      meets-B w y adm.3 (let-returning w a b x y r) (bind a b vs env) (bound (up_from a b) (present vs) ρ)
      (holds-bound (free_b y) env ρ a b vs adm.1.1 (n ∙ let-fits-B a b x y adm.0.0)
      (right-part (free_e x) (without (free_b y) (range a b)) env ρ h))
      l
      )
  meets-B w (if_b t x y) adm r env ρ h lent =
      let f = if-fits-B t x y adm.0.0 in
      let s = arms-returning w t x y adm r in
      then-meets-B (test_name ∷ []) (graph_e t) (body-behind w t x y adm r) ρ lent (iterated_outputs (if_b t x y)) w (width t) (eval_e t env lent) _
      (within t env lent) (sized t (sound-E t adm.1) env lent)
      (meets-E t adm.1 env ρ (left-part (free_e t) (union (free_b x) (free_b y)) env ρ h) lent)
      (λ vs l. branch-holds (WithinB l) (sense (get_or vs 0 err)) _ (λ _. eval_b x w env l) (λ _. eval_b y w env l) (omega arith) (within-B x w env l) (within-B y w env l))
      (λ vs l n.
      body-if w t x y adm r none env (bound (test_name ∷ []) (present vs) ρ)
      (holds-beside (free_b x) env ρ (test_name ∷ []) (present vs) from-test
      (left-part (free_b x) (free_b y) env ρ (right-part (free_e t) (union (free_b x) (free_b y)) env ρ h)))
      (holds-beside (free_b y) env ρ (test_name ∷ []) (present vs) from-test
      (right-part (free_b x) (free_b y) env ρ (right-part (free_e t) (union (free_b x) (free_b y)) env ρ h)))
      l (get_or vs 0 err) (test-value vs ρ (n ∙ f.0)) (sized-B x (sound-B x adm.2) w s.0.suits env l)
      (sized-B y (sound-B y adm.3) w s.1.suits env l) (λ σ g. meets-B w x adm.2 s.0 env σ g l)
      (λ σ g. meets-B w y adm.3 s.1 env σ g l)
      )
