-- A row's numbers, and whether they and those below it are in range, from those of the rows that it names: one law for each kind of row, so that the
-- code's proof cites one at each return. Assumes an accepted sheet's row.
use Prim.Native.Nat.{ℕ, zero, suc, ◌+◌, ◌-◌, ◌≤◌, ◌<◌}
use Rattle.std.specs.Prelude.{◌≡◌, Bool, cond, ◌&&◌, leb, ltb, get_or, set}
use Rattle.std.proofs.Math.Path.{refl, sym, ap, fun_ext}
use Rattle.std.proofs.Common.{◌∙◌, subst, arith, leb-true, leb-false, ltb-true, ltb-false, le-leb}
use Rattle.std.proofs.Math.Bool.{true, false}
use Rattle.std.proofs.lemmas.Bool.{false≢true}
use mathlib.Core.List.{List, [], ◌∷◌, ◌++◌}
use Rattle.std.proofs.Math.ListN.{length}
use Rattle.std.proofs.Math.Seq.{sets}
use Rattle.names.specs.Names.{range}
use Rattle.formula.specs.declared.Shape.{Shape}
use Rattle.formula.specs.declared.Shape.TheVariants.{Identifier, Constant, Pair, Operator, Let}
use Rattle.formula.specs.Sheet.{shape_at}
use Rattle.formula.specs.Tree.{Exp, identifier, constant, pair, operator, let_e, if_e, for_e, exp_node, exp_of, body_of}
use Rattle.formula.proofs.TreeLaws.{and-true}
use Rattle.meaning.specs.Rows.{ExpRow}
use Rattle.meaning.proofs.Rows.{exp-children}
use Rattle.eval_words.specs.Needs.{W, exp-needs}
use Rattle.sheet_movement.specs.Moves.{Moves, bind_moves, all_within, moved, moves_e, fits_e}
use Rattle.sheet_drift.specs.Numbers.{moves_in}
use Rattle.sheet_drift.specs.Stores.{sets-append, sets-before, sets-among, sets_behind}
use Rattle.sheet_movement.specs.Drifts.{Drifts}
use Rattle.sheet_movement.proofs.Numbers.{fits-within}
use Rattle.sheet_drift.specs.Drifts.{tree, drifts-below, moves-counted}

-- No number passes the greatest.
abbrev pub InRange : Moves → Type 0
InRange moves = (k : ℕ) → moves k ≤ 2147483647

-- A row's answer: whether all is in range, and then its numbers from `at` on, all else as it was.
abbrev pub Told : List ℕ → ℕ → Moves → ℕ → List ℕ → List ℕ → Bool → Type 0
Told t r moves at o o' ok = (ok ≡ fits_e (exp_of t r) moves) × (ok ≡ true → o' ≡ sets o at (moves_e (exp_of t r) moves))

-- ---- what is in range

never : (b : Bool) → b && false ≡ false
never true = refl
never false = refl

-- A first part that follows from the rest says nothing.
implied : (w p : Bool) → (p ≡ true → w ≡ true) → w && p ≡ p
implied w true h = ap (λ (b : Bool). b && true) (h refl)
implied w false h = never w

within-append : (ds es : List ℕ) → all_within ds ≡ true → all_within es ≡ true → all_within (ds ++ es) ≡ true
within-append [] es h i = i
within-append (d ∷ ds) es h i =
    let p = and-true (leb d 2147483647) (all_within ds) h in
    rw p.0 (within-append ds es p.1 i)

within-each : (ds : List ℕ) → all_within ds ≡ true → (i : ℕ) → get_or ds i 0 ≤ 2147483647
within-each [] h i = omega arith
within-each (d ∷ ds) h zero = leb-true d 2147483647 (and-true (leb d 2147483647) (all_within ds) h).0
within-each (d ∷ ds) h (suc i) = within-each ds (and-true (leb d 2147483647) (all_within ds) h).1 i

pair_fits : (x y : Exp) (moves : Moves) → fits_e (pair x y) moves ≡ fits_e x moves && fits_e y moves
unfolding fits_e moves_e
pair_fits x y moves =
    implied (all_within (moves_e x moves ++ moves_e y moves)) (fits_e x moves && fits_e y moves)
    (λ h.
    let p = and-true (fits_e x moves) (fits_e y moves) h in
    within-append (moves_e x moves) (moves_e y moves) (fits-within x moves p.0) (fits-within y moves p.1)
    )

let-fits : (a b : ℕ) (x y : Exp) (moves : Moves)
    → fits_e (let_e a b x y) moves ≡ fits_e x moves && fits_e y (bind_moves a b (moves_e x moves) moves)
unfolding fits_e moves_e
let-fits a b x y moves =
    let inner : Moves = bind_moves a b (moves_e x moves) moves in
    implied (all_within (moves_e y inner)) (fits_e x moves && fits_e y inner)
    (λ h. fits-within y inner (and-true (fits_e x moves) (fits_e y inner) h).1)

-- ---- arrays

-- Numbers stored in an environment are bound to the identifiers there.
sets-bind : (env : List ℕ) (a : ℕ) (ds : List ℕ) → a + length ds ≤ length env → moves_in (sets env a ds) ≡ bind_moves a (length ds) ds (moves_in env)
unfolding moves_in bind_moves
sets-bind env a ds h = fun_ext (λ k. go k (leb a k) refl (ltb k (a + length ds)) refl)
  where
    go : (k : ℕ) (s : Bool) → leb a k ≡ s → (u : Bool) → ltb k (a + length ds) ≡ u
        → get_or (sets env a ds) k 0 ≡ cond (range a (length ds) k) (get_or ds (k - a) 0) (get_or env k 0)
    go k false p u q = rw p (sets-before ds env a k (leb-false a k p))
    go k true p true q =
        let l : a ≤ k = leb-true a k p in
        let m : k < a + length ds = ltb-true k (a + length ds) q in
        let e : k ≡ a + (k - a) = omega arith in
        rw (p, q) (ap (λ (i : ℕ). get_or (sets env a ds) i 0) e ∙ sets-among ds env a (k - a) h (omega arith))
    go k true p false q = rw (p, q) (sets_behind ds env a k (ltb-false k (a + length ds) q))

bind-in-range : (a b : ℕ) (ds : List ℕ) (moves : Moves) → all_within ds ≡ true → InRange moves → InRange (bind_moves a b ds moves)
unfolding bind_moves
bind-in-range a b ds moves h i k = go (range a b k)
  where
    go : (c : Bool) → cond c (get_or ds (k - a) 0) (moves k) ≤ 2147483647
    go true = within-each ds h (k - a)
    go false = i k

-- At most two numbers stored at the start of two noughts.
two-stored : (ds : List ℕ) → length ds ≤ 2
    → (get_or (sets (0 ∷ 0 ∷ []) 0 ds) 0 0 ≡ get_or ds 0 0) × (get_or (sets (0 ∷ 0 ∷ []) 0 ds) 1 0 ≡ get_or ds 1 0)
two-stored [] h = (refl, refl)
two-stored (d ∷ []) h = (refl, refl)
two-stored (d ∷ e ∷ []) h = (refl, refl)
two-stored (d ∷ e ∷ f ∷ ds) h = absurd (omega arith)

-- ---- rows by their kind

module _ (t ws : List ℕ) (r : ℕ) (h : ExpRow t ws r) (moves : Moves) (at : ℕ) (o o' : List ℕ) where
  tell : (s : Shape) → shape_at t r ≡ s → (ok : Bool) → ok ≡ fits_e (exp_node (exp_of t) (body_of t) s) moves
      → (ok ≡ true → o' ≡ sets o at (moves_e (exp_node (exp_of t) (body_of t) s) moves)) → Told t r moves at o o' ok
  tell s e ok p q = subst (λ (x : Exp). (ok ≡ fits_e x moves) × (ok ≡ true → o' ≡ sets o at (moves_e x moves))) (sym (tree t ws r h s e)) (p, q)

  -- A row below that is not in range.
  stopped : (s : Shape) → shape_at t r ≡ s → fits_e (exp_node (exp_of t) (body_of t) s) moves ≡ false → Told t r moves at o o' false
  stopped s e p = tell s e false (sym p) (λ f. absurd (false≢true f))

  pub tell-identifier : (a : ℕ) → shape_at t r ≡ Identifier a → InRange moves → o' ≡ set o at (moves a) → Told t r moves at o o' true
  unfolding fits_e moves_e exp_node
  tell-identifier a e i w = tell (Identifier a) e true (sym (rw (le-leb (moves a) 2147483647 (i a)) refl)) (λ f. w)

  pub tell-constant : (k a : ℕ) → shape_at t r ≡ Constant k a → o' ≡ set o at 0 → Told t r moves at o o' true
  unfolding fits_e moves_e exp_node
  tell-constant k a e w = tell (Constant k a) e true refl (λ f. w)

  module _ (a b : ℕ) (e : shape_at t r ≡ Pair a b) (m : List ℕ) (f : Bool) (p : Told t a moves at o m f) where
    pub pair-stopped : f ≡ false → Told t r moves at o o' false
    unfolding exp_node
    pair-stopped q =
        stopped (Pair a b) e
        (pair_fits (exp_of t a) (exp_of t b) moves ∙ ap (λ (c : Bool). c && fits_e (exp_of t b) moves) (sym p.0 ∙ q))

    pub tell-pair : Drifts (exp_of t r) → f ≡ true → (n : ℕ) → n ≡ at + W ws a → (g : Bool) → Told t b moves n m o' g → Told t r moves at o o' g
    unfolding moves_e exp_node
    tell-pair d q n i g u =
        let xs : List ℕ = moves_e (exp_of t a) moves in
        let ys : List ℕ = moves_e (exp_of t b) moves in
        let w : n ≡ at + length xs =
        i ∙ ap (λ (k : ℕ). at + k) (moves-counted t ws a (exp-children t ws r h (Pair a b) e).0.0 (drifts-below t ws r h d (Pair a b) e).0 moves)
        in
        tell (Pair a b) e g
        (sym (pair_fits (exp_of t a) (exp_of t b) moves ∙ (λ j. (sym p.0 ∙ q) j && sym u.0 j)))
        (λ v. u.1 v ∙ (λ j. sets (p.1 q j) (w j) ys) ∙ sym (sets-append o at xs ys))

  -- The operands' numbers go to two noughts.
  module _ (code b : ℕ) (e : shape_at t r ≡ Operator code b) (z : List ℕ) (f : Bool) (p : Told t b moves 0 (0 ∷ 0 ∷ []) z f) where
    pub operator-stopped : f ≡ false → Told t r moves at o o' false
    unfolding fits_e exp_node
    operator-stopped q =
        stopped (Operator code b) e
        (ap (λ (c : Bool). all_within (moves_e (operator code (exp_of t b)) moves) && c) (sym p.0 ∙ q)
        ∙ never (all_within (moves_e (operator code (exp_of t b)) moves)))

    module _ (d : Drifts (exp_of t r)) (q : f ≡ true) where
      operands : (get_or z 0 0 ≡ get_or (moves_e (exp_of t b) moves) 0 0) × (get_or z 1 0 ≡ get_or (moves_e (exp_of t b) moves) 1 0)
      operands =
          let few = moves-counted t ws b (exp-children t ws r h (Operator code b) e).0 (drifts-below t ws r h d (Operator code b) e).1 moves in
          let two = two-stored (moves_e (exp_of t b) moves) (omega (arith, few, (exp-needs t ws r h (Operator code b) e).1)) in
          (ap (λ (l : List ℕ). get_or l 0 0) (p.1 q) ∙ two.0, ap (λ (l : List ℕ). get_or l 1 0) (p.1 q) ∙ two.1)

      pub operands-in-range : (get_or z 0 0 ≤ 2147483647) × (get_or z 1 0 ≤ 2147483647)
      operands-in-range =
          let all = within-each (moves_e (exp_of t b) moves) (fits-within (exp_of t b) moves (sym p.0 ∙ q)) in
          (rw operands.0 (all 0), rw operands.1 (all 1))

      pub tell-operator : (n : ℕ) → n ≡ moved code (exp_of t b) (get_or z 0 0) (get_or z 1 0) → (ok : Bool) → ok ≡ leb n 2147483647
          → (ok ≡ true → o' ≡ set o at n) → Told t r moves at o o' ok
      unfolding fits_e moves_e exp_node
      tell-operator n i ok g w =
          let x : Exp = exp_of t b in
          let k : n ≡ moved code x (get_or (moves_e x moves) 0 0) (get_or (moves_e x moves) 1 0) =
          i ∙ (λ j. moved code x (operands.0 j) (operands.1 j))
          in
          tell (Operator code b) e ok
          (g ∙ sym (shorter (leb n 2147483647)) ∙ (λ j. all_within (k j ∷ []) && (sym q ∙ p.0) j))
          (λ v. w v ∙ ap (set o at) k)
        where
          shorter : (c : Bool) → c && true && true ≡ c
          shorter true = refl
          shorter false = refl

-- Row c's numbers are stored in a copy of the environment.
module _ (t ws : List ℕ) (r : ℕ) (h : ExpRow t ws r) (env : List ℕ) (at : ℕ) (o o' : List ℕ) (long : length env ≡ 32) where
  module _ (a b c d : ℕ) (e : shape_at t r ≡ Let a b c d) (z : List ℕ) (f : Bool) (p : Told t c (moves_in env) a env z f) where
    pub let-stopped : f ≡ false → Told t r (moves_in env) at o o' false
    unfolding exp_node
    let-stopped q =
        stopped t ws r h (moves_in env) at o o' (Let a b c d) e
        (let-fits a b (exp_of t c) (exp_of t d) (moves_in env)
        ∙ ap (λ (k : Bool). k && fits_e (exp_of t d) (bind_moves a b (moves_e (exp_of t c) (moves_in env)) (moves_in env))) (sym p.0 ∙ q))

    module _ (i : Drifts (exp_of t r)) (q : f ≡ true) where
      inner-is : moves_in z ≡ bind_moves a b (moves_e (exp_of t c) (moves_in env)) (moves_in env)
      inner-is =
          let ds : List ℕ = moves_e (exp_of t c) (moves_in env) in
          let n : W ws c ≡ length ds =
          moves-counted t ws c (exp-children t ws r h (Let a b c d) e).0.0 (drifts-below t ws r h i (Let a b c d) e).0 (moves_in env)
          in
          let needs = exp-needs t ws r h (Let a b c d) e in
          let l : length ds ≡ b = sym n ∙ needs.0 in
          ap moves_in (p.1 q)
          ∙ sets-bind env a ds (omega (arith, l, long, needs.1))
          ∙ ap (λ (k : ℕ). bind_moves a k ds (moves_in env)) l

      pub inner-in-range : InRange (moves_in env) → InRange (moves_in z)
      inner-in-range s =
          subst InRange (sym inner-is)
          (bind-in-range a b (moves_e (exp_of t c) (moves_in env)) (moves_in env) (fits-within (exp_of t c) (moves_in env) (sym p.0 ∙ q)) s)

      pub tell-let : (g : Bool) → Told t d (moves_in z) at o o' g → Told t r (moves_in env) at o o' g
      unfolding moves_e exp_node
      tell-let g u =
          tell t ws r h (moves_in env) at o o' (Let a b c d) e g
          (sym (let-fits a b (exp_of t c) (exp_of t d) (moves_in env)
          ∙ (λ j. (sym p.0 ∙ q) j && (ap (fits_e (exp_of t d)) (sym inner-is) ∙ sym u.0) j)))
          (λ v. u.1 v ∙ ap (λ (m : Moves). sets o at (moves_e (exp_of t d) m)) inner-is)
