-- The same of a row in a body place. Assumes an accepted sheet's row.
use Rattle.std.specs.Prelude.{ℕ, ◌≤◌, ◌≡◌, Bool, ◌&&◌}
use Rattle.std.proofs.Math.Path.{refl, sym, ap, subst}
use Rattle.std.proofs.Common.{◌∙◌}
use Rattle.std.proofs.Math.Bool.{true, false}
use mathlib.Core.List.{List}
use Rattle.std.proofs.Math.ListN.{length}
use native.Mathlib.Omega.{arith}
use Rattle.value.specs.declared.ValueKind.{ValueKind}
use Rattle.value.specs.declared.ValueKind.TheVariants.{Truth as truth-kind}
use Rattle.value.specs.Kinds.{all_of, wanted_test}
use Rattle.formula.specs.declared.Shape.{Shape}
use Rattle.formula.specs.declared.Shape.TheVariants.{Identifier, Constant, Pair, Operator, Let, If, For, Iter}
use Rattle.formula.specs.declared.Way.{Way}
use Rattle.formula.specs.declared.Way.TheVariants.{Iter as iter-way, Let as let-way, If as if-way, End}
use Rattle.formula.specs.Results.{Check}
use Rattle.formula.specs.Sheet.{shape_at}
use Rattle.formula.specs.Tree.{Body, ret, body_node, exp_of, body_of}
use Rattle.formula.proofs.TreeLaws.{body-as}
use Rattle.formula.specs.Places.{node_in}
use Rattle.formula.specs.Ways.{way_of}
use Rattle.formula.specs.Kinds.{Kinds, bind_kinds, either_kinds, agree_kinds, kinds_e, returned_kinds, iterated_kinds, kinded_b, kinded}
use Rattle.formula.specs.Faults.{faults_below, lowest_of}
use Rattle.formula.specs.FaultLaws.{faults_at}
use Rattle.formula.proofs.FaultLaws.{faults-as}
use Rattle.meaning.specs.Rows.{BodyRow, ExpRow, Plain}
use Rattle.meaning.proofs.Rows.{body-children, plain-as, ending-row}
use Rattle.eval_words.specs.Needs.{W, body-needs, narrow}
use Rattle.sheet_kinds.specs.declared.BodyKinds.{BodyKinds}
use Rattle.sheet_kinds.specs.Bytes.{kinds_in, stretch, read}
use Rattle.sheet_kinds.specs.Checks.{lesser, own, lowest-append}
use Rattle.sheet_kinds.specs.KindWidths.{counted}
use Rattle.sheet_kinds.specs.Walk.{lowest_at, Told, parted, three, bound}

-- The kinds of a body's iters first in one array, those returned first in another.
abbrev pub Held : Body → Kinds → List ℕ → ℕ → List ℕ → ℕ → Type 0
Held y kinds again n back m =
    (stretch (kinds_in again) 0 n ≡ iterated_kinds y kinds) × (stretch (kinds_in back) 0 m ≡ returned_kinds y kinds) × (n ≤ 16) × (m ≤ 16)

-- A body's answer: those kinds, and the lowest row at fault.
abbrev pub ToldB : List ℕ → ℕ → Kinds → List ℕ → List ℕ → BodyKinds → Type 0
ToldB t r kinds again back b = Held (body_of t r) kinds again b.again back b.back × (b.fault ≡ lowest_at t true kinds r)

-- What is below a row that is read alike in both places.
pub plain-below : (F : Bool → Kinds → ℕ → List ℕ) (t : List ℕ) (kinds : Kinds) (s : Shape) → Plain s
    → faults_below F t true kinds s ≡ faults_below F t false kinds s
unfolding faults_below
plain-below F t kinds (Identifier a) p = refl
plain-below F t kinds (Constant k a) p = refl
plain-below F t kinds (Pair a b) p = refl
plain-below F t kinds (Operator a b) p = refl
plain-below F t kinds (Let a b c d) p = absurd p
plain-below F t kinds (If a b c) p = absurd p
plain-below F t kinds (For a b c d) p = refl
plain-below F t kinds (Iter a) p = absurd p

-- The shape behind a way.
abbrev Shaped : Shape → Way → Type 0
Shaped s (iter-way a) = s ≡ Iter a
Shaped s (let-way a b c d) = s ≡ Let a b c d
Shaped s (if-way a b c) = s ≡ If a b c
Shaped s End = Plain s

shaped : (s : Shape) → Shaped s (way_of s)
shaped (Identifier a) = tt
shaped (Constant k a) = tt
shaped (Pair a b) = tt
shaped (Operator a b) = tt
shaped (Let a b c d) = refl
shaped (If a b c) = refl
shaped (For a b c d) = tt
shaped (Iter a) = refl

pub shaped-as : (s : Shape) (w : Way) → w ≡ way_of s → Shaped s w
shaped-as s w e = subst (Shaped s) (sym e) (shaped s)

module _ (t ws : List ℕ) (r : ℕ) (h : BodyRow t ws r) (kinds : Kinds) where
  check-as : (b : Bool) (s : Shape) → shape_at t r ≡ s
      → lowest_at t b kinds r ≡ lesser (own r (kinded (node_in b t r) kinds)) (lowest_of (faults_below (faults_at kinded t) t b kinds s))
  check-as b s e =
      ap lowest_of (faults-as kinded t h.rows h.accepted.named r h.low h.high b kinds s e)
      ∙ parted r (kinded (node_in b t r) kinds) (faults_below (faults_at kinded t) t b kinds s)

  tree : (s : Shape) → shape_at t r ≡ s → body_of t r ≡ body_node (exp_of t) (body_of t) s
  tree s e = body-as t h.rows h.accepted.named r h.low h.high s e

  tell : (s : Shape) → shape_at t r ≡ s → (again back : List ℕ) (n m : ℕ) (f : Check)
      → Held (body_node (exp_of t) (body_of t) s) kinds again n back m
      → f ≡ lesser (own r (kinded_b (body_node (exp_of t) (body_of t) s) kinds)) (lowest_of (faults_below (faults_at kinded t) t true kinds s))
      → Held (body_of t r) kinds again n back m × (f ≡ lowest_at t true kinds r)
  unfolding kinded node_in
  tell s e again back n m f k g = (
    subst (λ (y : Body). Held y kinds again n back m) (sym (tree s e)) k,
    g
        ∙ sym (check-as true s e
        ∙ ap (λ (y : Body). lesser (own r (kinded_b y kinds)) (lowest_of (faults_below (faults_at kinded t) t true kinds s))) (tree s e)),
  )

  pub tell-iter : (a n : ℕ) → shape_at t r ≡ Iter a → n ≡ W ws a → (o again back : List ℕ) (f : Check)
      → Told t a kinds 0 o again f → Held (body_of t r) kinds again n back 0 × (f ≡ lowest_at t true kinds r)
  unfolding kinds_e iterated_kinds body_node kinded_b faults_below
  tell-iter a n e i o again back f p =
      let row : ExpRow t ws a = (body-children t ws r h (Iter a) e).0 in
      tell (Iter a) e again back n 0 f (
        read 0 n (kinds_e (exp_of t a) kinds) o again p.0 (i ∙ counted t ws a row kinds),
        refl,
        omega (arith, narrow t ws a row),
        omega arith,
      )
      p.1

  -- "a body ends in an expression": the row's own answer there.
  pub tell-ending : (m : ℕ) → Plain (shape_at t r) → m ≡ W ws r → (o again back : List ℕ) (f : Check)
      → Told t r kinds 0 o back f → Held (body_of t r) kinds again 0 back m × (f ≡ lowest_at t true kinds r)
  unfolding kinds_e iterated_kinds kinded_b kinded node_in
  tell-ending m q i o again back f p =
      let row : ExpRow t ws r = ending-row t ws r h q in
      let alike : body_of t r ≡ ret (exp_of t r) = plain-as t h.rows h.accepted.named r h.low h.high q in (
        subst (λ (y : Body). Held y kinds again 0 back m) (sym alike) (
          refl,
          read 0 m (kinds_e (exp_of t r) kinds) o back p.0 (i ∙ counted t ws r row kinds),
          omega arith,
          omega (arith, narrow t ws r row),
        ),
        p.1
            ∙ check-as false (shape_at t r) refl
            ∙ sym (check-as true (shape_at t r) refl
            ∙ (λ j. lesser (own r (kinded_b (alike j) kinds)) (lowest_of (plain-below (faults_at kinded t) t kinds (shape_at t r) q j)))),
      )

  pub tell-let-B : (a b c d : ℕ) → shape_at t r ≡ Let a b c d → (z z' again back : List ℕ) (n m : ℕ) (f g : Check) → kinds_in z ≡ kinds
      → Told t c kinds a z z' f → Held (body_of t d) (kinds_in z') again n back m × (g ≡ lowest_at t true (kinds_in z') d)
      → Held (body_of t r) kinds again n back m × (lesser f g ≡ lowest_at t true kinds r)
  unfolding kinds_e iterated_kinds body_node kinded_b faults_below
  tell-let-B a b c d e z z' again back n m f g i p q =
      let xs : List ValueKind = kinds_e (exp_of t c) kinds in
      let count : b ≡ length xs =
      sym (body-needs t ws r h (Let a b c d) e).0 ∙ counted t ws c (body-children t ws r h (Let a b c d) e).0.0 kinds
      in
      let inner : kinds_in z' ≡ bind_kinds a b xs kinds = bound a b xs z z' kinds i count p.0 in
      tell (Let a b c d) e again back n m (lesser f g)
      (subst (λ (ks : Kinds). Held (body_of t d) ks again n back m) inner q.0)
      ((λ j. lesser (p.1 j) ((q.1 ∙ ap (λ (ks : Kinds). lowest_at t true ks d) inner) j))
      ∙ sym (lowest-append (faults_at kinded t false kinds c) (faults_at kinded t true (bind_kinds a b xs kinds) d)))

  module _ (a b c : ℕ) (e : shape_at t r ≡ If a b c) (x x' again back again2 back2 again3 back3 : List ℕ) (n m n2 m2 n3 m3 : ℕ) where
    pub tell-if-B : (f g k : Check) (tested rounds ends ok : Bool)
        → Told t a kinds 0 x x' f
        → Held (body_of t b) kinds again n back m × (g ≡ lowest_at t true kinds b)
        → Held (body_of t c) kinds again2 n2 back2 m2 × (k ≡ lowest_at t true kinds c)
        → tested ≡ all_of truth-kind (stretch (kinds_in x') 0 1)
        → rounds ≡ agree_kinds (stretch (kinds_in again) 0 n) (stretch (kinds_in again2) 0 n2)
        → ends ≡ agree_kinds (stretch (kinds_in back) 0 m) (stretch (kinds_in back2) 0 m2)
        → ok ≡ (tested && rounds) && ends
        → (stretch (kinds_in again3) 0 n3 ≡ either_kinds (stretch (kinds_in again) 0 n) (stretch (kinds_in again2) 0 n2)) × (n3 ≤ 16)
        → (stretch (kinds_in back3) 0 m3 ≡ either_kinds (stretch (kinds_in back) 0 m) (stretch (kinds_in back2) 0 m2)) × (m3 ≤ 16)
        → Held (body_of t r) kinds again3 n3 back3 m3 × (lesser (own r ok) (lesser f (lesser g k)) ≡ lowest_at t true kinds r)
    unfolding kinds_e iterated_kinds body_node kinded_b faults_below wanted_test
    tell-if-B f g k tested rounds ends ok p q s i j l v iters returns =
        let ts : List ValueKind = kinds_e (exp_of t a) kinds in
        let one : 1 ≡ length ts =
        sym (body-needs t ws r h (If a b c) e).0 ∙ counted t ws a (body-children t ws r h (If a b c) e).0.0 kinds
        in
        let test : stretch (kinds_in x') 0 1 ≡ ts = read 0 1 ts x x' p.0 one in
        let rule : ok ≡ kinded_b (body_node (exp_of t) (body_of t) (If a b c)) kinds =
        v
        ∙ (λ u.
        ((i ∙ ap (all_of truth-kind) test) u && (j ∙ (λ w. agree_kinds (q.0.0 w) (s.0.0 w))) u)
        && (l ∙ (λ w. agree_kinds (q.0.1 w) (s.0.1 w))) u
        )
        in
        tell (If a b c) e again3 back3 n3 m3 (lesser (own r ok) (lesser f (lesser g k))) (
          iters.0 ∙ (λ w. either_kinds (q.0.0 w) (s.0.0 w)),
          returns.0 ∙ (λ w. either_kinds (q.0.1 w) (s.0.1 w)),
          iters.1,
          returns.1,
        )
        ((λ u. lesser (own r (rule u)) (lesser (p.1 u) (lesser (q.1 u) (s.1 u))))
        ∙ ap (lesser (own r (kinded_b (body_node (exp_of t) (body_of t) (If a b c)) kinds)))
        (sym (three (faults_at kinded t false kinds a) (faults_at kinded t true kinds b) (faults_at kinded t true kinds c))))
