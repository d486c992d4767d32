-- What the evaluators' answers and the words that they wrote say of the meaning: one law for each ending of a row's
-- evaluation, so that the code's proof cites one at each return. Rests on document 01, "The meaning".
use Rattle.std.specs.Prelude.{ℕ, ◌+◌, ◌≡◌, refl, get_or, replicate, Option, Some, None}
use Rattle.std.proofs.Math.Path.{sym, ap, subst, fun_ext}
use Rattle.std.proofs.Common.{◌∙◌, length-append, arith}
use mathlib.Core.List.{List, [], ◌∷◌, ◌++◌}
use Rattle.std.proofs.Math.ListN.{length}
use Rattle.std.proofs.lemmas.List.{length-replicate}
use Rattle.value.specs.declared.Value.{Value}
use Rattle.value.specs.Operators.{apply}
use Rattle.value.specs.declared.Sense.{Sense}
use Rattle.value.specs.declared.Sense.TheVariants.{True, False, Neither}
use Rattle.value.specs.Senses.{err, sense}
use Rattle.formula.specs.declared.Shape.{Shape}
use Rattle.formula.specs.declared.Shape.TheVariants.{Identifier, Constant, Pair, Operator, Let, If, For, Iter}
use Rattle.formula.specs.Sheet.{shape_at}
use Rattle.formula.specs.Tree.{Body, exp_node, exp_of, body_of}
use Rattle.formula.specs.Widths.{width, returned}
use Rattle.meaning.specs.Meaning.{Env, bind, Outcome, yields, Ending, again, returns, then, then_b, loop, branch, eval_e, eval_b}
use Rattle.meaning.proofs.Binding.{bind-append, bind-again, bind-list}
use Rattle.meaning.specs.Rounds.{turns}
use Rattle.meaning.specs.WidthLaws.{Sized}
use Rattle.meaning.proofs.WidthLaws.{sized}
use Rattle.eval_cycle.specs.declared.Turn.{Turn}
use Rattle.eval_cycle.specs.declared.Turn.TheVariants.{Again, Back}
use Rattle.eval_words.specs.Words.{held_of, env_of, outcome_of, applying, held-zero}
use Rattle.meaning.specs.Rows.{ExpRow}
use Rattle.meaning.proofs.Rows.{exp-children, exp-sound, exp-facts}
use Rattle.eval_words.specs.Needs.{W, exp-needs}
use Rattle.eval_words.specs.Parts.{Operates, Pairs, by_shape}

-- An expression's answer: the rounds left, and its values in the words from `at` on, all others as they were; or none, where it is short of rounds.
abbrev pub Told : Outcome → Option ℕ → ℕ → List ℕ → List ℕ → Type 0
Told (yields vs l) (Some k) at o o' = (k ≡ l) × (env_of o' ≡ bind at (length vs) vs (env_of o))
Told (yields vs l) None at o o' = ⊥
Told Outcome.unfinished (Some k) at o o' = ⊥
Told Outcome.unfinished None at o o' = Unit {0}

-- A body's answer, its values in the words from 0 on.
abbrev pub ToldB : Ending → Option Turn → List ℕ → List ℕ → Type 0
ToldB (again vs l) (Some (Again k)) o o' = (k ≡ l) × (env_of o' ≡ bind 0 (length vs) vs (env_of o))
ToldB (again vs l) (Some (Back k)) o o' = ⊥
ToldB (again vs l) None o o' = ⊥
ToldB (returns vs l) (Some (Again k)) o o' = ⊥
ToldB (returns vs l) (Some (Back k)) o o' = (k ≡ l) × (env_of o' ≡ bind 0 (length vs) vs (env_of o))
ToldB (returns vs l) None o o' = ⊥
ToldB Ending.unfinished (Some (Again k)) o o' = ⊥
ToldB Ending.unfinished (Some (Back k)) o o' = ⊥
ToldB Ending.unfinished None o o' = Unit {0}

-- The values behind an answer.
pub record Values (o : Outcome) (k at : ℕ) (b a : List ℕ) : Type 0 where
  pub values : List Value
  pub is : o ≡ yields values k
  pub held : env_of a ≡ bind at (length values) values (env_of b)

pub told-left : (o : Outcome) (k at : ℕ) (b a : List ℕ) → Told o (Some k) at b a → Values o k at b a
told-left (yields vs l) k at b a h = record { values = vs; is = ap (yields vs) (sym h.0); held = h.1 }
told-left Outcome.unfinished k at b a h = absurd h

pub told-short : (o : Outcome) (at : ℕ) (b a : List ℕ) → Told o None at b a → o ≡ Outcome.unfinished
told-short (yields vs l) at b a h = absurd h
told-short Outcome.unfinished at b a h = refl

pub tell : (o : Outcome) (vs : List Value) (k at : ℕ) (b a : List ℕ)
    → o ≡ yields vs k → env_of a ≡ bind at (length vs) vs (env_of b) → Told o (Some k) at b a
tell o vs k at b a e h = subst (λ (z : Outcome). Told z (Some k) at b a) (sym e) (refl, h)

pub tell-short : (o : Outcome) (at : ℕ) (b a : List ℕ) → o ≡ Outcome.unfinished → Told o None at b a
tell-short o at b a e = subst (λ (z : Outcome). Told z None at b a) (sym e) tt

pub tell-short-B : (o : Ending) (b a : List ℕ) → o ≡ Ending.unfinished → ToldB o None b a
tell-short-B o b a e = subst (λ (z : Ending). ToldB z None b a) (sym e) tt

pub then-short : {o : Outcome} (k : List Value → ℕ → Outcome) → o ≡ Outcome.unfinished → then o k ≡ Outcome.unfinished
unfolding then
then-short k e = ap (λ (z : Outcome). then z k) e

pub then-short-B : {o : Outcome} (k : List Value → ℕ → Ending) → o ≡ Outcome.unfinished → then_b o k ≡ Ending.unfinished
unfolding then_b
then-short-B k e = ap (λ (z : Outcome). then_b z k) e

pub then-yields : {o : Outcome} {vs : List Value} {l : ℕ} (k : List Value → ℕ → Outcome) → o ≡ yields vs l → then o k ≡ k vs l
unfolding then
then-yields k e = ap (λ (z : Outcome). then z k) e

pub then-yields-B : {o : Outcome} {vs : List Value} {l : ℕ} (k : List Value → ℕ → Ending) → o ≡ yields vs l → then_b o k ≡ k vs l
unfolding then_b
then-yields-B k e = ap (λ (z : Outcome). then_b z k) e

-- More values behind those that stand.
tell-append : (o : Outcome) (ans : Option ℕ) (vs : List Value) (at : ℕ) (b m a : List ℕ)
    → env_of m ≡ bind at (length vs) vs (env_of b) → Told o ans (at + length vs) m a
    → Told (then o (λ ws l. yields (vs ++ ws) l)) ans at b a
unfolding then
tell-append (yields ws l) (Some k) vs at b m a e h = (
  h.0,
  h.1
      ∙ ap (bind (at + length vs) (length ws) ws) e
      ∙ bind-append at vs ws (env_of b)
      ∙ ap (λ (n : ℕ). bind at n (vs ++ ws) (env_of b)) (sym (length-append vs ws)),
)
tell-append (yields ws l) None vs at b m a e h = absurd h
tell-append Outcome.unfinished (Some k) vs at b m a e h = absurd h
tell-append Outcome.unfinished None vs at b m a e h = tt

-- Values read from an array that held nothing but err.
pub read : {o : Outcome} {k : ℕ} {b a : List ℕ} (v : Values o k 0 b a) → ((i : ℕ) → env_of b i ≡ err)
    → (i : ℕ) → env_of a i ≡ get_or v.values i err
read {b = b} v h i = ap (λ (f : Env). f i) v.held ∙ bind-list v.values (env_of b) h i

-- A loop is the same over an environment that differs in its own identifiers alone.
turns-outer : (y : Body) (a b : ℕ) (vs : List Value) (outer env : Env) (l : ℕ)
    → turns y a b (bind a b vs outer) env l ≡ turns y a b outer env l
unfolding turns
turns-outer y a b vs outer env l =
    ap (λ (rebind : List Value → Env). loop l (λ e m. eval_b y (returned y) e m) rebind env l)
    (fun_ext (λ ws. bind-again a b vs ws outer))

-- ---- a row as an expression

module _ (t ws : List ℕ) (r : ℕ) (h : ExpRow t ws r) (env : Env) (left : ℕ) where
  count : {vs : List Value} {l : ℕ} → eval_e (exp_of t r) env left ≡ yields vs l → length vs ≡ width (exp_of t r)
  count e = subst (Sized (width (exp_of t r))) e (sized (exp_of t r) (exp-sound t ws r h) env left)

module _ (t ws : List ℕ) (r : ℕ) (h : ExpRow t ws r) (env : Env) (left : ℕ) where
  -- As many values as the table says.
  pub counted : {vs : List Value} {l : ℕ} → eval_e (exp_of t r) env left ≡ yields vs l → length vs ≡ W ws r
  counted e = count t ws r h env left e ∙ sym (exp-facts t ws r h).1

module _ (t ws : List ℕ) (r : ℕ) (h : ExpRow t ws r) (env : Env) (left at : ℕ) (o o' : List ℕ) where
  pub tell-pair : (a b : ℕ) → shape_at t r ≡ Pair a b → (m : List ℕ) (l : ℕ) (ans : Option ℕ)
      → Told (eval_e (exp_of t a) env left) (Some l) at o m
      → Told (eval_e (exp_of t b) env l) ans (at + W ws a) m o'
      → Told (eval_e (exp_of t r) env left) ans at o o'
  unfolding eval_e exp_node
  tell-pair a b e m l ans p q =
      let v : Values (eval_e (exp_of t a) env left) l at o m = told-left _ l at o m p in
      let n : length v.values ≡ W ws a =
      counted t ws a (exp-children t ws r h (Pair a b) e).0.0 env left v.is
      in
      subst (λ (z : Outcome). Told z ans at o o')
      (sym (by_shape t ws r h env left (Pair a b) e
      ∙ then-yields (λ vs l₁. then (eval_e (exp_of t b) env l₁) (λ us l₂. yields (vs ++ us) l₂)) v.is))
      (tell-append (eval_e (exp_of t b) env l) ans v.values at o m o' v.held
      (subst (λ (k : ℕ). Told (eval_e (exp_of t b) env l) ans (at + k) m o') (sym n) q))

  pub tell-let : (a b c d : ℕ) → shape_at t r ≡ Let a b c d → (z z' : List ℕ) (l : ℕ) (ans : Option ℕ) → env_of z ≡ env
      → Told (eval_e (exp_of t c) env left) (Some l) a z z'
      → Told (eval_e (exp_of t d) (env_of z') l) ans at o o'
      → Told (eval_e (exp_of t r) env left) ans at o o'
  unfolding eval_e exp_node
  tell-let a b c d e z z' l ans i p q =
      let v : Values (eval_e (exp_of t c) env left) l a z z' = told-left _ l a z z' p in
      let n : length v.values ≡ b =
      counted t ws c (exp-children t ws r h (Let a b c d) e).0.0 env left v.is ∙ (exp-needs t ws r h (Let a b c d) e).0
      in
      let inner : env_of z' ≡ bind a b v.values env = v.held ∙ (λ j. bind a (n j) v.values (i j)) in
      subst (λ (y : Outcome). Told y ans at o o')
      (sym (by_shape t ws r h env left (Let a b c d) e
      ∙ then-yields (λ vs l₁. eval_e (exp_of t d) (bind a b vs env) l₁) v.is
      ∙ ap (λ (f : Env). eval_e (exp_of t d) f l) (sym inner)))
      q

  pub tell-for : (a b c d : ℕ) → shape_at t r ≡ For a b c d → (z z' : List ℕ) (l : ℕ) (ans : Option ℕ) → env_of z ≡ env
      → Told (eval_e (exp_of t c) env left) (Some l) a z z'
      → Told (turns (body_of t d) a b (env_of z') (env_of z') l) ans at o o'
      → Told (eval_e (exp_of t r) env left) ans at o o'
  unfolding eval_e exp_node turns
  tell-for a b c d e z z' l ans i p q =
      let v : Values (eval_e (exp_of t c) env left) l a z z' = told-left _ l a z z' p in
      let n : length v.values ≡ b =
      counted t ws c (exp-children t ws r h (For a b c d) e).0.0 env left v.is ∙ (exp-needs t ws r h (For a b c d) e).0
      in
      let inner : env_of z' ≡ bind a b v.values env = v.held ∙ (λ j. bind a (n j) v.values (i j)) in
      let same : turns (body_of t d) a b env (bind a b v.values env) l ≡ turns (body_of t d) a b (env_of z') (env_of z') l =
      sym (turns-outer (body_of t d) a b v.values env (bind a b v.values env) l)
      ∙ ap (λ (f : Env). turns (body_of t d) a b f f l) (sym inner)
      in
      subst (λ (y : Outcome). Told y ans at o o')
      (sym (by_shape t ws r h env left (For a b c d) e
      ∙ then-yields (λ vs l₁. turns (body_of t d) a b env (bind a b vs env) l₁) v.is
      ∙ same))
      q

  module _ (a b c : ℕ) (e : shape_at t r ≡ If a b c) (s : Option (ℕ × ℕ)) (p : eval_e (exp_of t a) env left ≡ outcome_of s) where
    by-sense : (w l : ℕ) → s ≡ Some (w, l) → (z : Sense) → sense (held_of w) ≡ z
        → eval_e (exp_of t r) env left
        ≡ branch z (yields (replicate (width (exp_of t b)) err) l) (λ _. eval_e (exp_of t b) env l) (λ _. eval_e (exp_of t c) env l)
    unfolding eval_e exp_node
    by-sense w l i z f =
        by_shape t ws r h env left (If a b c) e
        ∙ then-yields
        (λ vs m.
        branch (sense (get_or vs 0 err)) (yields (replicate (width (exp_of t b)) err) m) (λ _. eval_e (exp_of t b) env m)
        (λ _. eval_e (exp_of t c) env m)
        )
        (p ∙ ap outcome_of i)
        ∙ ap
        (λ (y : Sense).
        branch y (yields (replicate (width (exp_of t b)) err) l) (λ _. eval_e (exp_of t b) env l) (λ _. eval_e (exp_of t c) env l)
        )
        f

    module _ (w l : ℕ) (i : s ≡ Some (w, l)) where
      pub tell-first : (ans : Option ℕ) → sense (held_of w) ≡ True → Told (eval_e (exp_of t b) env l) ans at o o'
          → Told (eval_e (exp_of t r) env left) ans at o o'
      unfolding branch
      tell-first ans f q = subst (λ (y : Outcome). Told y ans at o o') (sym (by-sense w l i True f)) q

      pub tell-second : (ans : Option ℕ) → sense (held_of w) ≡ False → Told (eval_e (exp_of t c) env l) ans at o o'
          → Told (eval_e (exp_of t r) env left) ans at o o'
      unfolding branch
      tell-second ans f q = subst (λ (y : Outcome). Told y ans at o o') (sym (by-sense w l i False f)) q

      -- "An if whose test is no truth gives err for each of its values"
      pub tell-neither : sense (held_of w) ≡ Neither → env_of o' ≡ bind at (W ws b) (replicate (W ws b) err) (env_of o)
          → Told (eval_e (exp_of t r) env left) (Some l) at o o'
      unfolding branch
      tell-neither f q =
          let n : W ws b ≡ width (exp_of t b) = (exp-facts t ws b (exp-children t ws r h (If a b c) e).1.0).1 in
          tell _ (replicate (width (exp_of t b)) err) l at o o' (by-sense w l i Neither f)
          (subst (λ (k : ℕ). env_of o' ≡ bind at k (replicate (width (exp_of t b)) err) (env_of o))
          (sym (length-replicate (width (exp_of t b)) err))
          (subst (λ (k : ℕ). env_of o' ≡ bind at k (replicate k err) (env_of o)) n q))

    pub tell-untested : s ≡ None → Told (eval_e (exp_of t r) env left) None at o o'
    unfolding eval_e exp_node
    tell-untested i =
        tell-short _ at o o' (by_shape t ws r h env left (If a b c) e ∙ then-short _ (p ∙ ap outcome_of i))

-- The part of a row that is evaluated first.
abbrev FirstPart : Shape → ℕ → Type 0
FirstPart (Identifier a) k = ⊥
FirstPart (Constant kind a) k = ⊥
FirstPart (Pair a b) k = k ≡ a
FirstPart (Operator a b) k = ⊥
FirstPart (Let a b c d) k = k ≡ c
FirstPart (If a b c) k = ⊥
FirstPart (For a b c d) k = k ≡ c
FirstPart (Iter a) k = ⊥

-- A row whose first part is short is short.
pub tell-stopped : (t ws : List ℕ) (r : ℕ) (h : ExpRow t ws r) (env : Env) (left : ℕ) (s : Shape) → shape_at t r ≡ s
    → (k : ℕ) → FirstPart s k → (at i : ℕ) (o o' z z' : List ℕ)
    → Told (eval_e (exp_of t k) env left) None i z z' → Told (eval_e (exp_of t r) env left) None at o o'
unfolding eval_e exp_node
tell-stopped t ws r h env left s e k f at i o o' z z' p =
    tell-short _ at o o' (by_shape t ws r h env left s e ∙ go s f (told-short _ i z z' p))
  where
    go : (y : Shape) → FirstPart y k → eval_e (exp_of t k) env left ≡ Outcome.unfinished
        → eval_e (exp_node (exp_of t) (body_of t) y) env left ≡ Outcome.unfinished
    go (Identifier a) f q = absurd f
    go (Constant k a) f q = absurd f
    go (Pair a b) f q = then-short _ (rw f at q)
    go (Operator a b) f q = absurd f
    go (Let a b c d) f q = then-short _ (rw f at q)
    go (If a b c) f q = absurd f
    go (For a b c d) f q = then-short _ (rw f at q)
    go (Iter a) f q = absurd f

-- ---- a row of width one

alone : (vs : List Value) → length vs ≡ 1 → vs ≡ get_or vs 0 err ∷ []
alone [] e = absurd (omega (arith, e))
alone (v ∷ []) e = refl
alone (v ∷ (u ∷ us)) e = absurd (omega (arith, e))

module _ (t ws : List ℕ) (env : Env) (left : ℕ) where
  operator-is : (r k b : ℕ) → Operates t ws r k b → eval_e (exp_of t r) env left ≡ then (eval_e (exp_of t b) env left) (applying k)
  unfolding eval_e exp_node
  operator-is r k b p = by_shape t ws r p.row env left (Operator k b) p.shape

  -- An operator on one operand, whose second counts as err.
  pub single-one : (r k b : ℕ) → Operates t ws r k b → (operand : Option (ℕ × ℕ)) (a w l : ℕ)
      → eval_e (exp_of t b) env left ≡ outcome_of operand → operand ≡ Some (a, l) → held_of w ≡ apply k (held_of a) (held_of 0)
      → eval_e (exp_of t r) env left ≡ outcome_of (Some (w, l))
  unfolding then
  single-one r k b p operand a w l e f h =
      operator-is r k b p
      ∙ then-yields (applying k) (e ∙ ap outcome_of f)
      ∙ ap (λ (v : Value). yields (apply k (held_of a) v ∷ []) l) (sym held-zero)
      ∙ ap (λ (v : Value). yields (v ∷ []) l) (sym h)

  pub single-one-short : (r k b : ℕ) → Operates t ws r k b → (operand : Option (ℕ × ℕ))
      → eval_e (exp_of t b) env left ≡ outcome_of operand → operand ≡ None → eval_e (exp_of t r) env left ≡ outcome_of None
  single-one-short r k b p operand e f = operator-is r k b p ∙ then-short (applying k) (e ∙ ap outcome_of f)

  module _ (r k x y : ℕ) (p : Pairs t ws r k x y) (first : Option (ℕ × ℕ)) (e : eval_e (exp_of t x) env left ≡ outcome_of first) where
    pub single-two-short : first ≡ None → eval_e (exp_of t r) env left ≡ outcome_of None
    unfolding eval_e exp_node
    single-two-short f =
        operator-is r k p.between p.operator
        ∙ then-short (applying k)
        (by_shape t ws p.between p.paired.row env left (Pair x y) p.paired.shape ∙ then-short _ (e ∙ ap outcome_of f))

    module _ (a l : ℕ) (f : first ≡ Some (a, l)) (second : Option (ℕ × ℕ)) (g : eval_e (exp_of t y) env l ≡ outcome_of second) where
      behind-first : eval_e (exp_of t r) env left
          ≡ then (then (outcome_of second) (λ vs m. yields (held_of a ∷ vs) m)) (applying k)
      unfolding eval_e exp_node then
      behind-first =
          operator-is r k p.between p.operator
          ∙ ap (λ (z : Outcome). then z (applying k))
          (by_shape t ws p.between p.paired.row env left (Pair x y) p.paired.shape
          ∙ ap (λ (z : Outcome). then z (λ vs m. then (eval_e (exp_of t y) env m) (λ us n. yields (vs ++ us) n))) (e ∙ ap outcome_of f)
          ∙ ap (λ (z : Outcome). then z (λ us n. yields (held_of a ∷ us) n)) g)

      pub single-two : (b w m : ℕ) → second ≡ Some (b, m) → held_of w ≡ apply k (held_of a) (held_of b)
          → eval_e (exp_of t r) env left ≡ outcome_of (Some (w, m))
      unfolding then
      single-two b w m i h =
          behind-first
          ∙ ap (λ (z : Option (ℕ × ℕ)). then (then (outcome_of z) (λ vs n. yields (held_of a ∷ vs) n)) (applying k)) i
          ∙ ap (λ (v : Value). yields (v ∷ []) m) (sym h)

      pub single-second-short : second ≡ None → eval_e (exp_of t r) env left ≡ outcome_of None
      unfolding then
      single-second-short i =
          behind-first
          ∙ ap (λ (z : Option (ℕ × ℕ)). then (then (outcome_of z) (λ vs n. yields (held_of a ∷ vs) n)) (applying k)) i

  -- Both operands in two lent words.
  pub single-wide : (r k b : ℕ) → Operates t ws r k b → (z z' : List ℕ) (w l : ℕ) → ((i : ℕ) → env_of z i ≡ err)
      → Told (eval_e (exp_of t b) env left) (Some l) 0 z z' → held_of w ≡ apply k (held_of (get_or z' 0 0)) (held_of (get_or z' 1 0))
      → eval_e (exp_of t r) env left ≡ outcome_of (Some (w, l))
  unfolding env_of
  single-wide r k b p z z' w l i q e =
      let v : Values (eval_e (exp_of t b) env left) l 0 z z' = told-left _ l 0 z z' q in
      operator-is r k b p
      ∙ then-yields (applying k) v.is
      ∙ (λ j. yields (apply k (sym (read v i 0) j) (sym (read v i 1) j) ∷ []) l)
      ∙ ap (λ (x : Value). yields (x ∷ []) l) (sym e)

  pub single-wide-short : (r k b : ℕ) → Operates t ws r k b → (z z' : List ℕ)
      → Told (eval_e (exp_of t b) env left) None 0 z z' → eval_e (exp_of t r) env left ≡ outcome_of None
  single-wide-short r k b p z z' q = operator-is r k b p ∙ then-short (applying k) (told-short _ 0 z z' q)

  -- A row evaluated to one lent word.
  pub single-told : (r : ℕ) → ExpRow t ws r → W ws r ≡ 1 → (z z' : List ℕ) (l : ℕ) → ((i : ℕ) → env_of z i ≡ err)
      → Told (eval_e (exp_of t r) env left) (Some l) 0 z z' → eval_e (exp_of t r) env left ≡ outcome_of (Some (get_or z' 0 0, l))
  unfolding env_of
  single-told r h n z z' l i p =
      let v : Values (eval_e (exp_of t r) env left) l 0 z z' = told-left _ l 0 z z' p in
      v.is
      ∙ ap (λ (vs : List Value). yields vs l)
      (alone v.values (counted t ws r h env left v.is ∙ n) ∙ ap (λ (x : Value). x ∷ []) (sym (read v i 0)))

-- The answer of an expression, from that of a row of width one.
pub tell-single : (o : Outcome) (s : Option (ℕ × ℕ)) (w l at : ℕ) (z z' : List ℕ) → o ≡ outcome_of s → s ≡ Some (w, l)
    → env_of z' ≡ bind at 1 (held_of w ∷ []) (env_of z) → Told o (Some l) at z z'
tell-single o s w l at z z' e f h = tell o (held_of w ∷ []) l at z z' (e ∙ ap outcome_of f) h

pub tell-single-short : (o : Outcome) (s : Option (ℕ × ℕ)) (at : ℕ) (z z' : List ℕ) → o ≡ outcome_of s → s ≡ None → Told o None at z z'
tell-single-short o s at z z' e f = tell-short o at z z' (e ∙ ap outcome_of f)
