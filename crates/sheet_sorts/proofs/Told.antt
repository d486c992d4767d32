-- The walk's answer at a row from those at the rows that it names: one law for each kind of row, so that the code's proof cites one at each return.
-- A row's values are of kind W where those of the rows below it are, so that its sort alone is asked of it. Assumes an accepted sheet's row.
use Prim.Native.Nat.{ℕ, ◌≤◌}
use mathlib.Core.Path.{◌≡◌, refl, sym, ap, ◌∙◌, subst}
use mathlib.Core.Bool.{Bool, true, false, ◌&&◌, ◌||◌, false≢true}
use mathlib.Core.List.{List, [], ◌∷◌, ◌++◌, append-nil}
use lib.Dec.{eqb}
use lib.ListN.{length}
use borrow.Author.Tests.{eqb-true}
use native.Mathlib.Omega.{arith}
use Rattle.value.specs.declared.ValueKind.{ValueKind}
use Rattle.value.specs.declared.ValueKind.TheVariants.{Whole as whole-kind}
use Rattle.value.specs.Operators.{pick, operands}
use Rattle.value.specs.Kinds.{same_kind, all_of, given, given-one}
use Rattle.formula.specs.declared.Shape.{Shape}
use Rattle.formula.specs.declared.Shape.TheVariants.{Identifier, Constant, Pair, Operator, Let, If, For, Iter}
use Rattle.formula.specs.Results.{Check}
use Rattle.std.specs.Prelude.{Ok, Err}
use Rattle.formula.specs.Sheet.{shape_at}
use Rattle.formula.specs.Tree.{Exp, Body, ret, exp_node, body_node, exp_of, body_of}
use Rattle.formula.proofs.TreeLaws.{and-true, exp-as, body-as}
use Rattle.formula.specs.Places.{Node, expression, body, node_in}
use Rattle.formula.specs.Widths.{wide_e}
use Rattle.formula.specs.Kinds.{Kinds, bind_kinds, kind_of_constant, kinds_e, returned_kinds, iterated_kinds}
use Rattle.formula.specs.Faults.{faults_below, lowest_of}
use Rattle.formula.specs.FaultLaws.{faults_at}
use Rattle.meaning.proofs.WidthLaws.{operator-fits}
use Rattle.meaning.specs.Rows.{ExpRow, BodyRow, Plain}
use Rattle.meaning.proofs.Rows.{ending-row, plain-as, exp-children, exp-facts}
use Rattle.eval_words.specs.Needs.{W}
use Rattle.sheet_kinds.specs.Checks.{lesser, own, lowest-append}
use Rattle.sheet_kinds.specs.KindWidths.{counted}
use Rattle.sheet_kinds.specs.Walk.{three}
use Rattle.sheet_kinds.specs.WalkBody.{plain-below}
use Rattle.sheet_movement.specs.Sorts.{sort_e, sort_b, code_sort, names_whole, divides_by_whole, drifting}
use Rattle.sheet_sorts.specs.Shapes.{code_row, code_row_lem}
use Rattle.sheet_sorts.specs.Walk.{InPlace, lowest_at, Answers, Parts, parts}
use Rattle.sheet_sorts.proofs.LowerRows.{both-passed, row_settled, row_kept}

-- ---- values of kind W

abbrev Wholes : List ValueKind → Type 0
Wholes ks = all_of whole-kind ks ≡ true

wholes-append : (ks ls : List ValueKind) → Wholes ks → Wholes ls → Wholes (ks ++ ls)
wholes-append [] ls p q = q
wholes-append (k ∷ ks) ls p q =
    let both : (same_kind whole-kind k ≡ true) × Wholes ks = and-true (same_kind whole-kind k) (all_of whole-kind ks) p in
    (λ j. both.0 j && wholes-append ks ls both.1 q j)

-- An operator that drift is told for gives a whole number on whole numbers.
by_code : (P : ℕ → Type 0) → P 1 → P 2 → P 11 → P 3 → P 4 → (code : ℕ) (x : Exp) → code_sort code x ≡ true → P code
unfolding code_sort
by_code P p1 p2 p11 p3 p4 code x =
    coded 1 p1 true _ (coded 2 p2 true _ (coded 11 p11 true _ (coded 3 p3 (names_whole x) _ (coded 4 p4 (divides_by_whole x) false (λ e. absurd (false≢true e))))))
  where
    coded : (k : ℕ) → P k → (here rest : Bool) → (rest ≡ true → P code) → pick (eqb code k) here rest ≡ true → P code
    coded k p here rest others = go (eqb code k) refl
      where
        go : (z : Bool) → eqb code k ≡ z → pick z here rest ≡ true → P code
        go true e h = subst P (sym (eqb-true code k e)) p
        go false e h = others h

given-whole : (code : ℕ) (x : Exp) (ks : List ValueKind) → code_sort code x ≡ true → 1 ≤ length ks → Wholes ks → given code ks ≡ whole-kind
unfolding given
given-whole code x [] s l h = absurd (omega arith)
given-whole code x (k ∷ ks) s l h =
    given-one code whole-kind k ks h ∙ by_code (λ c. given c (whole-kind ∷ []) ≡ whole-kind) refl refl refl refl refl code x s

only : (x : Bool) → x && true ≡ x
only true = refl
only false = refl

whole-constant : (k : ℕ) → eqb k 2 && (same_kind whole-kind (kind_of_constant k) && true) ≡ eqb k 2
whole-constant k = go (eqb k 2) refl
  where
    go : (z : Bool) → eqb k 2 ≡ z → z && (same_kind whole-kind (kind_of_constant k) && true) ≡ z
    go true e = ap (λ (n : ℕ). same_kind whole-kind (kind_of_constant n) && true) (eqb-true k 2 e)
    go false e = refl

-- ---- a row by its shape

-- The node of a row of a shape, in its place.
abbrev node_by : Bool → List ℕ → Shape → Node
node_by false t s = expression (exp_node (exp_of t) (body_of t) s)
node_by true t s = body (body_node (exp_of t) (body_of t) s)

abbrev lowest_below : List ℕ → Bool → Kinds → Shape → Check
lowest_below t b kinds s = lowest_of (faults_below (faults_at drifting t) t b kinds s)

module _ (t ws : List ℕ) (kinds : Kinds) (r : ℕ) where
  node-as : (b : Bool) → InPlace t ws b r → (s : Shape) → shape_at t r ≡ s → node_in b t r ≡ node_by b t s
  unfolding node_in
  node-as false h s e = ap expression (exp-as t h.rows h.accepted.named r h.low h.high s e)
  node-as true h s e = ap body (body-as t h.rows h.accepted.named r h.low h.high s e)

  settled : (b : Bool) → InPlace t ws b r → (s : Shape) → shape_at t r ≡ s → (sort : Bool)
      → (lowest_below t b kinds s ≡ Ok tt → drifting (node_in b t r) kinds ≡ sort)
      → lesser (own r sort) (lowest_below t b kinds s) ≡ lowest_at t b kinds r
  settled false h s e sort f = row_settled drifting t h.rows h.accepted.named r h.low h.high false kinds s e sort f
  settled true h s e sort f = row_settled drifting t h.rows h.accepted.named r h.low h.high true kinds s e sort f

  tell : (b : Bool) → InPlace t ws b r → (s : Shape) → shape_at t r ≡ s → (sort : Bool)
      → (lowest_below t b kinds s ≡ Ok tt → drifting (node_by b t s) kinds ≡ sort)
      → lesser (own r sort) (lowest_below t b kinds s) ≡ lowest_at t b kinds r
  tell b h s e sort f = settled b h s e sort (λ p. ap (λ (x : Node). drifting x kinds) (node-as b h s e) ∙ f p)

  exp-whole : ExpRow t ws r → lowest_at t false kinds r ≡ Ok tt → Wholes (kinds_e (exp_of t r) kinds)
  unfolding drifting node_in
  exp-whole h p =
      (and-true (sort_e (exp_of t r)) (all_of whole-kind (kinds_e (exp_of t r) kinds))
      (row_kept drifting t h.rows h.accepted.named r h.low h.high false kinds p)).1

  body-whole : BodyRow t ws r → lowest_at t true kinds r ≡ Ok tt → Wholes (returned_kinds (body_of t r) kinds ++ iterated_kinds (body_of t r) kinds)
  unfolding drifting node_in
  body-whole h p =
      (and-true (sort_b (body_of t r)) (all_of whole-kind (returned_kinds (body_of t r) kinds ++ iterated_kinds (body_of t r) kinds))
      (row_kept drifting t h.rows h.accepted.named r h.low h.high true kinds p)).1

unasked : (r : ℕ) (x : Bool) → own r x ≡ lesser (own r x) (Ok tt)
unasked r true = refl
unasked r false = refl

filled : (ks : List ValueKind) (code : ℕ) → length ks ≡ operands code → 1 ≤ length ks
unfolding operands
filled ks code e = go (eqb code 10 || eqb code 11) e
  where
    go : (z : Bool) → length ks ≡ pick z 1 2 → 1 ≤ length ks
    go true i = omega arith
    go false i = omega arith

module _ (t ws : List ℕ) (kinds : Kinds) (r : ℕ) where
  -- A row that is read alike in both places, from its answer as an expression.
  plainly : (s : Shape) → shape_at t r ≡ s → Plain s → (c : Check) → (ExpRow t ws r → c ≡ lowest_at t false kinds r) → Answers t ws r kinds c
  unfolding drifting sort_b returned_kinds iterated_kinds node_in
  plainly s e q c f false h = f h
  plainly s e q c f true h =
      let row : ExpRow t ws r = ending-row t ws r h (subst Plain (sym e) q) in
      let alike : body_of t r ≡ ret (exp_of t r) = plain-as t h.rows h.accepted.named r h.low h.high (subst Plain (sym e) q) in
      let rule : drifting (node_in true t r) kinds ≡ drifting (node_in false t r) kinds =
      ap (λ (y : Body). drifting (body y) kinds) alike
      ∙ ap (λ (ks : List ValueKind). sort_e (exp_of t r) && all_of whole-kind ks) (append-nil (kinds_e (exp_of t r) kinds))
      in
      f row
      ∙ sym (settled t ws kinds r false row s e (drifting (node_in false t r) kinds) (λ p. refl))
      ∙ ap (λ (xs : List ℕ). lesser (own r (drifting (node_in false t r) kinds)) (lowest_of xs)) (sym (plain-below (faults_at drifting t) t kinds s q))
      ∙ settled t ws kinds r true h s e (drifting (node_in false t r) kinds) (λ p. rule)

  pub tell-identifier : (a : ℕ) → shape_at t r ≡ Identifier a → (ok : Bool) → ok ≡ same_kind whole-kind (kinds a) → Answers t ws r kinds (own r ok)
  unfolding drifting sort_e kinds_e exp_node faults_below lowest_of
  tell-identifier a e ok i =
      plainly (Identifier a) e tt (own r ok)
      (λ h. ap (own r) i ∙ unasked r (same_kind whole-kind (kinds a))
      ∙ tell t ws kinds r false h (Identifier a) e (same_kind whole-kind (kinds a)) (λ p. only (same_kind whole-kind (kinds a))))

  pub tell-constant : (k a : ℕ) → shape_at t r ≡ Constant k a → Answers t ws r kinds (own r (eqb k 2))
  unfolding drifting sort_e kinds_e exp_node faults_below lowest_of
  tell-constant k a e =
      plainly (Constant k a) e tt (own r (eqb k 2))
      (λ h. unasked r (eqb k 2) ∙ tell t ws kinds r false h (Constant k a) e (eqb k 2) (λ p. whole-constant k))

  pub tell-pair : (x y : ℕ) → shape_at t r ≡ Pair x y → (f g : Check) → Answers t ws x kinds f → Answers t ws y kinds g
      → Answers t ws r kinds (lesser f g)
  unfolding drifting sort_e kinds_e exp_node faults_below
  tell-pair x y e f g p q = plainly (Pair x y) e tt (lesser f g) (λ h. by h (parts t ws false r h (Pair x y) e))
    where
      by : ExpRow t ws r → Parts t ws false r (Pair x y) → lesser f g ≡ lowest_at t false kinds r
      by h k =
          let both : lesser (lowest_at t false kinds x) (lowest_at t false kinds y) ≡ lowest_below t false kinds (Pair x y) =
          sym (lowest-append (faults_at drifting t false kinds x) (faults_at drifting t false kinds y))
          in
          (λ j. lesser (p false k.0.0 j) (q false k.1.0 j))
          ∙ both
          ∙ tell t ws kinds r false h (Pair x y) e true
          (λ n.
          let none : (lowest_at t false kinds x ≡ Ok tt) × (lowest_at t false kinds y ≡ Ok tt) =
          both-passed (lowest_at t false kinds x) (lowest_at t false kinds y) (both ∙ n)
          in
          wholes-append (kinds_e (exp_of t x) kinds) (kinds_e (exp_of t y) kinds)
          (exp-whole t ws kinds x k.0.0 none.0) (exp-whole t ws kinds y k.1.0 none.1))

  pub tell-operator : (code x : ℕ) → shape_at t r ≡ Operator code x → (sort : Bool) (f : Check) → sort ≡ code_row t code (shape_at t x)
      → Answers t ws x kinds f → Answers t ws r kinds (lesser (own r sort) f)
  unfolding drifting sort_e kinds_e exp_node faults_below
  tell-operator code x e sort f i p = plainly (Operator code x) e tt (lesser (own r sort) f) (λ h. by h (parts t ws false r h (Operator code x) e).0)
    where
      ks : List ValueKind
      ks = kinds_e (exp_of t x) kinds

      some : ExpRow t ws r → ExpRow t ws x → 1 ≤ length ks
      some h row =
          filled ks code
          (sym (counted t ws x row kinds)
          ∙ (exp-facts t ws x row).1
          ∙ operator-fits code (exp_of t x)
          (subst (λ (z : Exp). wide_e z ≡ true) (exp-as t h.rows h.accepted.named r h.low h.high (Operator code x) e) (exp-facts t ws r h).0))

      rule : ExpRow t ws r → ExpRow t ws x → Wholes ks → (z : Bool) → code_sort code (exp_of t x) ≡ z
          → z && (same_kind whole-kind (given code ks) && true) ≡ z
      rule h row w false j = refl
      rule h row w true j = ap (λ (k : ValueKind). same_kind whole-kind k && true) (given-whole code (exp_of t x) ks j (some h row) w)

      by : ExpRow t ws r → ExpRow t ws x → lesser (own r sort) f ≡ lowest_at t false kinds r
      by h row =
          (λ j. lesser (own r ((i ∙ code_row_lem t ws code x row) j)) (p false row j))
          ∙ tell t ws kinds r false h (Operator code x) e (code_sort code (exp_of t x))
          (λ n. rule h row (exp-whole t ws kinds x row n) (code_sort code (exp_of t x)) refl)

  pub tell-let : (a n x y : ℕ) → shape_at t r ≡ Let a n x y → (inner : Kinds) → inner ≡ bind_kinds a (W ws x) (kinds_e (exp_of t x) kinds) kinds
      → (f g : Check) → Answers t ws x kinds f → Answers t ws y inner g → Answers t ws r kinds (lesser f g)
  unfolding drifting sort_e sort_b kinds_e returned_kinds iterated_kinds exp_node body_node faults_below
  tell-let a n x y e inner i f g p q b h =
      (λ j. lesser (p false k.0.0 j) ((q b k.1.0 ∙ ap (λ (ls : Kinds). lowest_at t b ls y) same) j))
      ∙ both
      ∙ tell t ws kinds r b h (Let a n x y) e true (λ none. rule b k.1.0 (both-passed (lowest_at t false kinds x) (lowest_at t b ks y) (both ∙ none)).1)
    where
      k : Parts t ws b r (Let a n x y)
      k = parts t ws b r h (Let a n x y) e

      ks : Kinds
      ks = bind_kinds a n (kinds_e (exp_of t x) kinds) kinds

      same : inner ≡ ks
      same = i ∙ ap (λ (m : ℕ). bind_kinds a m (kinds_e (exp_of t x) kinds) kinds) k.2.0

      both : lesser (lowest_at t false kinds x) (lowest_at t b ks y) ≡ lowest_below t b kinds (Let a n x y)
      both = sym (lowest-append (faults_at drifting t false kinds x) (faults_at drifting t b ks y))

      rule : (z : Bool) → InPlace t ws z y → lowest_at t z ks y ≡ Ok tt → drifting (node_by z t (Let a n x y)) kinds ≡ true
      rule false row none = exp-whole t ws ks y row none
      rule true row none = body-whole t ws ks y row none

  pub tell-if : (x y z : ℕ) → shape_at t r ≡ If x y z → (f g c : Check) → Answers t ws x kinds f → Answers t ws y kinds g → Answers t ws z kinds c
      → Answers t ws r kinds (lesser (Err r) (lesser f (lesser g c)))
  unfolding drifting sort_e sort_b exp_node body_node faults_below
  tell-if x y z e f g c p q s b h =
      (λ j. lesser (Err r) (lesser (p false k.0.0 j) (lesser (q b k.1.0 j) (s b k.2.0 j))))
      ∙ ap (lesser (Err r)) (sym (three (faults_at drifting t false kinds x) (faults_at drifting t b kinds y) (faults_at drifting t b kinds z)))
      ∙ tell t ws kinds r b h (If x y z) e false (λ none. rule b)
    where
      k : Parts t ws b r (If x y z)
      k = parts t ws b r h (If x y z) e

      rule : (u : Bool) → drifting (node_by u t (If x y z)) kinds ≡ false
      rule false = refl
      rule true = refl

  pub tell-for : (a n x y : ℕ) → shape_at t r ≡ For a n x y → (inner : Kinds) → inner ≡ bind_kinds a (W ws x) (kinds_e (exp_of t x) kinds) kinds
      → (f g : Check) → Answers t ws x kinds f → Answers t ws y inner g → Answers t ws r kinds (lesser (Err r) (lesser f g))
  unfolding drifting sort_e exp_node faults_below
  tell-for a n x y e inner i f g p q =
      plainly (For a n x y) e tt (lesser (Err r) (lesser f g)) (λ h. by h (parts t ws false r h (For a n x y) e))
    where
      by : ExpRow t ws r → Parts t ws false r (For a n x y) → lesser (Err r) (lesser f g) ≡ lowest_at t false kinds r
      by h k =
          let ks : Kinds = bind_kinds a n (kinds_e (exp_of t x) kinds) kinds in
          let same : inner ≡ ks = i ∙ ap (λ (m : ℕ). bind_kinds a m (kinds_e (exp_of t x) kinds) kinds) k.2.0 in
          (λ j. lesser (Err r) (lesser (p false k.0.0 j) ((q true k.1.0 ∙ ap (λ (ls : Kinds). lowest_at t true ls y) same) j)))
          ∙ ap (lesser (Err r)) (sym (lowest-append (faults_at drifting t false kinds x) (faults_at drifting t true ks y)))
          ∙ tell t ws kinds r false h (For a n x y) e false (λ none. refl)

  pub tell-iter : (x : ℕ) → shape_at t r ≡ Iter x → (f : Check) → Answers t ws x kinds f → Answers t ws r kinds (lesser (Err r) f)
  unfolding drifting sort_b body_node faults_below
  tell-iter x e f p false h = absurd (exp-children t ws r h (Iter x) e)
  tell-iter x e f p true h =
      ap (lesser (Err r)) (p false (parts t ws true r h (Iter x) e).0)
      ∙ tell t ws kinds r true h (Iter x) e false (λ none. refl)
