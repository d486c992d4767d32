-- What a row's kinds and its lowest row at fault are, from those of the rows that it names: one law for each kind of row, so that the
-- code's proof cites one at each return. Assumes an accepted sheet's row.
use Rattle.std.specs.Prelude.{ℕ, ◌+◌, ◌≡◌, Bool, cond, ◌&&◌, Ok}
use Rattle.std.proofs.Math.Path.{refl, sym, ap, subst}
use Rattle.std.proofs.Common.{◌∙◌}
use Rattle.std.proofs.Math.Bool.{true, false}
use mathlib.Core.List.{List, [], ◌∷◌, ◌++◌}
use Rattle.std.proofs.Math.ListN.{length}
use Rattle.value.specs.declared.ValueKind.{ValueKind}
use Rattle.value.specs.declared.ValueKind.TheVariants.{Truth as truth-kind}
use Rattle.value.specs.Kinds.{all_of, wanted, wanted_test, given}
use Rattle.formula.specs.declared.Shape.{Shape}
use Rattle.formula.specs.declared.Shape.TheVariants.{Identifier, Constant, Pair, Operator, Let, If, For}
use Rattle.formula.specs.Results.{Check}
use Rattle.formula.specs.Sheet.{shape_at}
use Rattle.formula.specs.Tree.{Exp, exp_node, exp_of, body_of}
use Rattle.formula.proofs.TreeLaws.{exp-as}
use Rattle.formula.specs.Places.{node_in}
use Rattle.formula.specs.Kinds.{Kinds, bind_kinds, kind_of_constant, kinds_e, returned_kinds, iterated_kinds, same_kinds, kinded_e, kinded}
use Rattle.formula.specs.Faults.{faults_below, lowest_of}
use Rattle.formula.specs.FaultLaws.{faults_at}
use Rattle.formula.proofs.FaultLaws.{faults-as}
use Rattle.meaning.specs.Rows.{ExpRow}
use Rattle.meaning.proofs.Rows.{exp-children}
use Rattle.eval_words.specs.Needs.{W, exp-needs}
use Rattle.sheet_kinds.specs.Bytes.{kind_of_byte, kinds_in, stretch, Written, bind-append, read}
use Rattle.sheet_kinds.specs.Checks.{lesser, own, lowest-append, lowest-own}
use Rattle.sheet_kinds.specs.KindWidths.{counted}

-- The lowest row at fault among row r and those below it, in an expression place or a body's.
abbrev pub lowest_at : List ℕ → Bool → Kinds → ℕ → Check
lowest_at t in_body kinds r = lowest_of (faults_at kinded t in_body kinds r)

-- An expression's answer: its kinds in the bytes from `at` on, all others as they were, and the lowest row at fault.
abbrev pub Told : List ℕ → ℕ → Kinds → ℕ → List ℕ → List ℕ → Check → Type 0
Told t r kinds at o o' f = Written at (kinds_e (exp_of t r) kinds) o o' × (f ≡ lowest_at t false kinds r)

-- What a row and then what is below it say.
pub parted : (r : ℕ) (ok : Bool) (xs : List ℕ) → lowest_of (cond ok [] (r ∷ []) ++ xs) ≡ lesser (own r ok) (lowest_of xs)
parted r ok xs = lowest-append (cond ok [] (r ∷ [])) xs ∙ ap (λ (c : Check). lesser c (lowest_of xs)) (lowest-own r ok)

pub three : (xs ys zs : List ℕ) → lowest_of (xs ++ (ys ++ zs)) ≡ lesser (lowest_of xs) (lesser (lowest_of ys) (lowest_of zs))
three xs ys zs = lowest-append xs (ys ++ zs) ∙ ap (lesser (lowest_of xs)) (lowest-append ys zs)

-- Kinds bound to as many identifiers as there are.
pub bound : (a b : ℕ) (ks : List ValueKind) (z z' : List ℕ) (kinds : Kinds) → kinds_in z ≡ kinds → b ≡ length ks
    → Written a ks z z' → kinds_in z' ≡ bind_kinds a b ks kinds
bound a b ks z z' kinds i n w = w.0 ∙ (λ j. bind_kinds a (sym n j) ks (i j))

module _ (t ws : List ℕ) (r : ℕ) (h : ExpRow t ws r) (kinds : Kinds) (at : ℕ) (o o' : List ℕ) where
  tell : (s : Shape) → shape_at t r ≡ s → (ks : List ValueKind) (f : Check)
      → kinds_e (exp_node (exp_of t) (body_of t) s) kinds ≡ ks → Written at ks o o'
      → f ≡ lesser (own r (kinded_e (exp_node (exp_of t) (body_of t) s) kinds)) (lowest_of (faults_below (faults_at kinded t) t false kinds s))
      → Told t r kinds at o o' f
  unfolding kinded node_in
  tell s e ks f k w g =
      let tree : exp_of t r ≡ exp_node (exp_of t) (body_of t) s = exp-as t h.rows h.accepted.named r h.low h.high s e in (
        subst (λ (ls : List ValueKind). Written at ls o o') (sym (ap (λ (x : Exp). kinds_e x kinds) tree ∙ k)) w,
        g
            ∙ sym (ap lowest_of (faults-as kinded t h.rows h.accepted.named r h.low h.high false kinds s e)
            ∙ parted r (kinded_e (exp_of t r) kinds) (faults_below (faults_at kinded t) t false kinds s)
            ∙ ap (λ (x : Exp). lesser (own r (kinded_e x kinds)) (lowest_of (faults_below (faults_at kinded t) t false kinds s))) tree),
      )

  pub tell-identifier : (a b : ℕ) → shape_at t r ≡ Identifier a → kind_of_byte b ≡ kinds a → Written at (kind_of_byte b ∷ []) o o'
      → Told t r kinds at o o' (Ok tt)
  unfolding kinds_e exp_node kinded_e faults_below lowest_of
  tell-identifier a b e k w = tell (Identifier a) e (kind_of_byte b ∷ []) (Ok tt) (ap (λ (x : ValueKind). x ∷ []) (sym k)) w refl

  pub tell-constant : (k a b : ℕ) → shape_at t r ≡ Constant k a → kind_of_byte b ≡ kind_of_constant k → Written at (kind_of_byte b ∷ []) o o'
      → Told t r kinds at o o' (Ok tt)
  unfolding kinds_e exp_node kinded_e faults_below lowest_of
  tell-constant k a b e i w = tell (Constant k a) e (kind_of_byte b ∷ []) (Ok tt) (ap (λ (x : ValueKind). x ∷ []) (sym i)) w refl

  pub tell-pair : (a b n : ℕ) → shape_at t r ≡ Pair a b → n ≡ at + W ws a → (m : List ℕ) (f g : Check)
      → Told t a kinds at o m f → Told t b kinds n m o' g → Told t r kinds at o o' (lesser f g)
  unfolding kinds_e exp_node kinded_e faults_below
  tell-pair a b n e i m f g p q =
      let xs : List ValueKind = kinds_e (exp_of t a) kinds in
      let ys : List ValueKind = kinds_e (exp_of t b) kinds in
      let w : n ≡ at + length xs = i ∙ ap (λ (k : ℕ). at + k) (counted t ws a (exp-children t ws r h (Pair a b) e).0.0 kinds) in
      tell (Pair a b) e (xs ++ ys) (lesser f g) refl (
        q.0.0
            ∙ (λ j. bind_kinds (w j) (length ys) ys (p.0.0 j))
            ∙ bind-append at xs ys (kinds_in o),
        q.0.1 ∙ p.0.1,
      )
      ((λ j. lesser (p.1 j) (q.1 j)) ∙ sym (lowest-append (faults_at kinded t false kinds a) (faults_at kinded t false kinds b)))

  pub tell-operator : (k b g n : ℕ) → shape_at t r ≡ Operator k b → n ≡ W ws b → (z z' : List ℕ) (f : Check) (ok : Bool)
      → Told t b kinds 0 z z' f → ok ≡ wanted k (stretch (kinds_in z') 0 n)
      → kind_of_byte g ≡ given k (stretch (kinds_in z') 0 n) → Written at (kind_of_byte g ∷ []) o o'
      → Told t r kinds at o o' (lesser (own r ok) f)
  unfolding kinds_e exp_node kinded_e faults_below
  tell-operator k b g n e i z z' f ok p c u w =
      let xs : List ValueKind = kinds_e (exp_of t b) kinds in
      let operands : stretch (kinds_in z') 0 n ≡ xs =
      read 0 n xs z z' p.0 (i ∙ counted t ws b (exp-children t ws r h (Operator k b) e).0 kinds)
      in
      tell (Operator k b) e (kind_of_byte g ∷ []) (lesser (own r ok) f) (ap (λ (x : ValueKind). x ∷ []) (sym (u ∙ ap (given k) operands))) w
      (λ j. lesser (own r ((c ∙ ap (wanted k) operands) j)) (p.1 j))

  pub tell-let : (a b c d : ℕ) → shape_at t r ≡ Let a b c d → (z z' : List ℕ) (f g : Check) → kinds_in z ≡ kinds
      → Told t c kinds a z z' f → Told t d (kinds_in z') at o o' g → Told t r kinds at o o' (lesser f g)
  unfolding kinds_e exp_node kinded_e faults_below
  tell-let a b c d e z z' f g i p q =
      let xs : List ValueKind = kinds_e (exp_of t c) kinds in
      let n : b ≡ length xs =
      sym (exp-needs t ws r h (Let a b c d) e).0 ∙ counted t ws c (exp-children t ws r h (Let a b c d) e).0.0 kinds
      in
      let inner : kinds_in z' ≡ bind_kinds a b xs kinds = bound a b xs z z' kinds i n p.0 in
      tell (Let a b c d) e (kinds_e (exp_of t d) (kinds_in z')) (lesser f g) (ap (kinds_e (exp_of t d)) (sym inner)) q.0
      ((λ j. lesser (p.1 j) ((q.1 ∙ ap (λ (ks : Kinds). lowest_at t false ks d) inner) j))
      ∙ sym (lowest-append (faults_at kinded t false kinds c) (faults_at kinded t false (bind_kinds a b xs kinds) d)))

  pub tell-if : (a b c : ℕ) → shape_at t r ≡ If a b c → (x x' y y' : List ℕ) (f g k : Check) (tested arms ok : Bool)
      → Told t a kinds 0 x x' f → Told t b kinds at o o' g → Told t c kinds 0 y y' k
      → tested ≡ all_of truth-kind (stretch (kinds_in x') 0 1)
      → arms ≡ same_kinds (stretch (kinds_in o') at (W ws b)) (stretch (kinds_in y') 0 (W ws c))
      → ok ≡ tested && arms
      → Told t r kinds at o o' (lesser (own r ok) (lesser f (lesser g k)))
  unfolding kinds_e exp_node kinded_e faults_below wanted_test
  tell-if a b c e x x' y y' f g k tested arms ok p q s i j l =
      let ts : List ValueKind = kinds_e (exp_of t a) kinds in
      let xs : List ValueKind = kinds_e (exp_of t b) kinds in
      let ys : List ValueKind = kinds_e (exp_of t c) kinds in
      let one : 1 ≡ length ts =
      sym (exp-needs t ws r h (If a b c) e).0 ∙ counted t ws a (exp-children t ws r h (If a b c) e).0.0 kinds
      in
      let test : stretch (kinds_in x') 0 1 ≡ ts = read 0 1 ts x x' p.0 one in
      let first : stretch (kinds_in o') at (W ws b) ≡ xs =
      read at (W ws b) xs o o' q.0 (counted t ws b (exp-children t ws r h (If a b c) e).1.0 kinds)
      in
      let second : stretch (kinds_in y') 0 (W ws c) ≡ ys =
      read 0 (W ws c) ys y y' s.0 (counted t ws c (exp-children t ws r h (If a b c) e).2.0 kinds)
      in
      let rule : ok ≡ all_of truth-kind ts && same_kinds xs ys =
      l ∙ (λ n. (i ∙ ap (all_of truth-kind) test) n && (j ∙ (λ m. same_kinds (first m) (second m))) n)
      in
      tell (If a b c) e xs (lesser (own r ok) (lesser f (lesser g k))) refl q.0
      ((λ n. lesser (own r (rule n)) (lesser (p.1 n) (lesser (q.1 n) (s.1 n))))
      ∙ ap (lesser (own r (all_of truth-kind ts && same_kinds xs ys)))
      (sym (three (faults_at kinded t false kinds a) (faults_at kinded t false kinds b) (faults_at kinded t false kinds c))))

  pub tell-for : (a b c d : ℕ) → shape_at t r ≡ For a b c d → (z z' again back : List ℕ) (n m : ℕ) (f g : Check) (ok : Bool)
      → kinds_in z ≡ kinds → Told t c kinds a z z' f
      → stretch (kinds_in again) 0 n ≡ iterated_kinds (body_of t d) (kinds_in z')
      → stretch (kinds_in back) 0 m ≡ returned_kinds (body_of t d) (kinds_in z')
      → g ≡ lowest_at t true (kinds_in z') d
      → ok ≡ same_kinds (stretch (kinds_in z') a b) (stretch (kinds_in again) 0 n)
      → Written at (stretch (kinds_in back) 0 m) o o'
      → Told t r kinds at o o' (lesser (own r ok) (lesser f g))
  unfolding kinds_e iterated_kinds exp_node kinded_e faults_below
  tell-for a b c d e z z' again back n m f g ok i p u v s j w =
      let xs : List ValueKind = kinds_e (exp_of t c) kinds in
      let count : b ≡ length xs =
      sym (exp-needs t ws r h (For a b c d) e).0 ∙ counted t ws c (exp-children t ws r h (For a b c d) e).0.0 kinds
      in
      let inner : kinds_in z' ≡ bind_kinds a b xs kinds = bound a b xs z z' kinds i count p.0 in
      let start : stretch (kinds_in z') a b ≡ xs = read a b xs z z' p.0 count in
      let rule : ok ≡ same_kinds xs (iterated_kinds (body_of t d) (bind_kinds a b xs kinds)) =
      j ∙ (λ l. same_kinds (start l) ((u ∙ ap (iterated_kinds (body_of t d)) inner) l))
      in
      tell (For a b c d) e (stretch (kinds_in back) 0 m) (lesser (own r ok) (lesser f g))
      (sym (v ∙ ap (returned_kinds (body_of t d)) inner)) w
      ((λ l. lesser (own r (rule l)) (lesser (p.1 l) ((s ∙ ap (λ (ks : Kinds). lowest_at t true ks d) inner) l)))
      ∙ ap (lesser (own r (same_kinds xs (iterated_kinds (body_of t d) (bind_kinds a b xs kinds)))))
      (sym (lowest-append (faults_at kinded t false kinds c) (faults_at kinded t true (bind_kinds a b xs kinds) d))))
