-- Laws of specs/Standing.antt, and what only they need.
use Prim.Native.Nat.{ℕ, zero, suc, ◌+◌, ◌*◌, ◌-◌, ◌≤◌, ◌<◌}
use Rattle.std.specs.Prelude.{◌≡◌, Bool, false, ◌&&◌, leb, length, get_or}
use Rattle.std.proofs.Math.Path.{refl, ap}
use Rattle.std.proofs.Common.{sym, subst, ◌∙◌, inl, inr, length-append, get_or-append-add, eq-eqb, le-leb}
use Rattle.std.proofs.Math.Bool.{true}
use mathlib.Core.List.{List, [], ◌∷◌, ◌++◌, flatten, append_assoc}
use native.Mathlib.Omega.{arith}
use Rattle.std.proofs.Math.Decide.{ℕ_discrete, dec_lt}
use Rattle.std.proofs.Math.ListN.{get_or-append}
use Rattle.formula.specs.declared.Shape.{Shape}
use Rattle.formula.specs.declared.Shape.TheVariants.{Identifier, Constant, Pair, Operator, Let, If, For, Iter}
use Rattle.formula.specs.Sheet.{field, shape_at, named_in}
use Rattle.formula.specs.Tree.{exp_node, body_node, exp_of, body_of}
use Rattle.formula.specs.Places.{node_in}
use Rattle.formula.specs.Widths.{wide_e}
use Rattle.formula.specs.Free.{bound_e}
use Rattle.formula.specs.Tests.{occurrences, all_named, all_between, names_well, wide_node, widths_well, bound_node, bound_well}
use Rattle.formula.specs.TreeLaws.{AllBetween, Named}
use Rattle.formula.proofs.TreeLaws.{all-between, exp-at, body_at}
use Rattle.formula.specs.FaultRows.{Among}
use Rattle.formula.proofs.PlaceLaws.{occurs-append}
use Rattle.sheet_tidied.specs.Text.{sheet_text}
use Rattle.sheet_tidied.specs.TextLaws.{Rows as Written}
use Rattle.sheet_tidied.proofs.TextLaws.{row-length}
use Rattle.sheet_tidied.proofs.KeptLaws.{between-among}
use Rattle.sheet_tidied.proofs.Occurring.{among-occurs}
use Rattle.sheet_tidied.specs.ShapeLaws.{renumbered}
use Rattle.sheet_tidied.proofs.SameFormula.{exp-same, body_same}
use Rattle.sheet_listed.specs.Small.{is_small}
use Rattle.sheet_listed.specs.Search.{Rows, once_each, stands_at}
use Rattle.sheet_listed.proofs.Passing.{Passing, written-passing}
use Rattle.sheet_listed.proofs.NoLoops.{at-most-once, expression-place, passing-kinds}
use Rattle.sheet_listed.specs.Standing.{Agree, Fives}

-- ---- each row of a small sheet stands
once-each : (xs names : List ℕ) → ((x : ℕ) → Among x xs → occurrences x names ≡ 1) → once_each xs names ≡ true
once-each [] names h = refl
once-each (x ∷ xs) names h = rw (eq-eqb (occurrences x names) 1 (h x (inl refl))) (once-each xs names (λ y a. h y (inr a)))

module _ (t : List ℕ) (n : ℕ) (ok : Passing t n) where
  -- A row that row r names is named by the rows up to r once.
  named_here : (r x : ℕ) → 1 ≤ r → r ≤ n → Among x (named_in (shape_at t r)) → occurrences x (all_named t r) ≡ 1
  unfolding all_named
  named_here zero x l u a = absurd (omega arith)
  named_here (suc k) x l u a =
      let b = between-among (suc k) x (named_in (shape_at t (suc k))) (ok.sound.named.names (suc k) l u) a in
      omega (
        arith,
        at-most-once t n ok.sound (suc k) x u b.0 (omega (arith, b.1)),
        among-occurs x (named_in (shape_at t (suc k))) a,
        occurs-append x (all_named t k) (named_in (shape_at t (suc k))),
      )

  pub passing-stands : (r : ℕ) → 1 ≤ r → r ≤ n → stands_at t r ≡ true
  unfolding stands_at widths_well wide_node bound_well bound_node node_in
  passing-stands r l u =
      let place = expression-place t n ok r in
      let wide : wide_e (exp_of t r) ≡ true = rw place at (ok.wide r l u) in
      let bound : bound_e (exp_of t r) ≡ true = rw place at (ok.bound r l u) in
      rw (le-leb (field t r 0) 7 (passing-kinds t n ok r l u), ok.names r l u, once-each (named_in (shape_at t r)) (all_named t r) (λ x a. named_here r x l u a), wide, bound) refl

pub small-stands : (rs : Rows) → Written rs → is_small (sheet_text rs) ≡ true → (r : ℕ) → 1 ≤ r → r ≤ length rs → stands_at (flatten rs) r ≡ true
small-stands rs w h = passing-stands (flatten rs) (length rs) (written-passing rs w h)

same_shape : (s : Shape) → renumbered (λ x. x) s ≡ s
unfolding renumbered
same_shape (Identifier a) = refl
same_shape (Constant k a) = refl
same_shape (Pair a b) = refl
same_shape (Operator a b) = refl
same_shape (Let a b c d) = refl
same_shape (If a b c) = refl
same_shape (For a b c d) = refl
same_shape (Iter a) = refl

module _ (t u : List ℕ) (n : ℕ) (same : Agree n t u) where
  pub field_alike : (r j : ℕ) → 1 ≤ r → r ≤ n → j < 5 → field t r j ≡ field u r j
  field_alike r j l h k = same (5 * (r - 1) + j) (omega arith)

  pub shape-alike : (r : ℕ) → 1 ≤ r → r ≤ n → shape_at t r ≡ shape_at u r
  unfolding shape_at
  shape-alike r l h =
      rw (field_alike r 0 l h (omega arith), field_alike r 1 l h (omega arith), field_alike r 2 l h (omega arith), field_alike r 3 l h (omega arith), field_alike r 4 l h (omega arith)) refl

  pub names-alike : (r : ℕ) → 1 ≤ r → r ≤ n → names_well t r ≡ names_well u r
  unfolding names_well
  names-alike r l h = ap (λ (s : Shape). all_between r (named_in s)) (shape-alike r l h)

  pub all_alike : (k : ℕ) → k ≤ n → all_named t k ≡ all_named u k
  unfolding all_named
  all_alike zero h = refl
  all_alike (suc k) h = rw (all_alike k (omega arith), shape-alike (suc k) (omega arith) h) refl

  named-alike : Named t n → Named u n
  named-alike ok = record { names = λ r a b. subst (λ (s : Shape). AllBetween r (named_in s)) (shape-alike r a b) (ok.names r a b) }

  trees-alike : Named t n → (depth r : ℕ) → r < depth → 1 ≤ r → r ≤ n → (exp_of u r ≡ exp_of t r) × (body_of u r ≡ body_of t r)
  trees-alike ok zero r d l h = absurd (omega arith)
  trees-alike ok (suc depth) r d l h = (
    exp-at u n (named-alike ok) r l h ∙ ap (exp_node (exp_of u) (body_of u)) shape
        ∙ exp-same (λ x. x) (exp_of t) (exp_of u) (body_of t) (body_of u) (shape_at t r) (below (trees-alike ok depth)) ∙ sym (exp-at t n ok r l h),
    body_at u n (named-alike ok) r l h ∙ ap (body_node (exp_of u) (body_of u)) shape
        ∙ body_same (λ x. x) (exp_of t) (exp_of u) (body_of t) (body_of u) (shape_at t r) (below (trees-alike ok depth)) ∙ sym (body_at t n ok r l h),
  )
    where
      shape : shape_at u r ≡ renumbered (λ x. x) (shape_at t r)
      shape = sym (shape-alike r l h) ∙ sym (same_shape (shape_at t r))

      below : ((q : ℕ) → q < depth → 1 ≤ q → q ≤ n → (exp_of u q ≡ exp_of t q) × (body_of u q ≡ body_of t q))
          → (x : ℕ) → Among x (named_in (shape_at t r)) → (exp_of u x ≡ exp_of t x) × (body_of u x ≡ body_of t x)
      below ih x a =
          let i = between-among r x (named_in (shape_at t r)) (ok.names r l h) a in
          ih x (omega (arith, i.1)) i.0 (omega (arith, i.1))

  pub exp-alike : Named t n → (r : ℕ) → 1 ≤ r → r ≤ n → exp_of t r ≡ exp_of u r
  exp-alike ok r l h = sym (trees-alike ok (suc r) r (omega arith) l h).0

unnamed : (a c b : Bool) → b ≡ false → a && (b && c) ≡ false
unnamed true c b h = rw h refl
unnamed false c b h = refl

-- Row r stands in both or in neither, where the rows before it name rows before them.
module _ (t u : List ℕ) (r : ℕ) (l : 1 ≤ r) (same : Agree r t u) (before : (k : ℕ) → 1 ≤ k → k < r → names_well t k ≡ true) where
  well-named : names_well t r ≡ true → Named t r
  unfolding names_well
  well-named e = record { names = λ k a b. all-between k (named_in (shape_at t k)) (each k a (ℕ_discrete k r) b) }
    where
      each : (k : ℕ) → 1 ≤ k → Dec (k ≡ r) → k ≤ r → names_well t k ≡ true
      each k a (yes p) b = ap (names_well t) p ∙ e
      each k a (no p) b = before k a (omega arith)

  pub stands_alike : stands_at t r ≡ stands_at u r
  unfolding stands_at
  stands_alike = go (names_well t r) refl
    where
      end : r ≤ r
      end = omega arith

      go : (b : Bool) → names_well t r ≡ b → stands_at t r ≡ stands_at u r
      go true e =
          rw (exp-alike t u r same (well-named e) r l end, all_alike t u r same r end, names-alike t u r same r l end, shape-alike t u r same r l end, field_alike t u r same r 0 l end (omega arith)) refl
      go false e = unnamed (leb (field t r 0) 7) _ (names_well t r) e ∙ sym (unnamed (leb (field u r 0) 7) _ (names_well u r) (sym (names-alike t u r same r l end) ∙ e))

pub written-fives : (rs : Rows) → Written rs → Fives rs
written-fives [] h = tt
written-fives (l ∷ ls) h = (row-length l h.0, written-fives ls h.1)

pub fives-append : (ls ms : Rows) → Fives ls → Fives ms → Fives (ls ++ ms)
fives-append [] ms h i = i
fives-append (l ∷ ls) ms h i = (h.0, fives-append ls ms h.1 i)

pub agree-front : (front rest : Rows) → Fives front → Agree (length front) (flatten (front ++ rest)) (flatten front)
unfolding flatten
agree-front [] rest h i k = absurd (omega arith)
agree-front (l ∷ front) rest h i k = go (dec_lt i (length l)) (agree-front front rest h.1)
  where
    go : Dec (i < length l) → Agree (length front) (flatten (front ++ rest)) (flatten front) → get_or (l ++ flatten (front ++ rest)) i 0 ≡ get_or (l ++ flatten front) i 0
    go (yes a) ih = get_or-append l (flatten (front ++ rest)) 0 i a ∙ sym (get_or-append l (flatten front) 0 i a)
    go (no a) ih =
        let e : i ≡ length l + (i - 5) = omega (arith, h.0) in
        rw (e, get_or-append-add l (flatten (front ++ rest)) (i - 5) 0, get_or-append-add l (flatten front) (i - 5) 0) (ih (i - 5) (omega arith))

module _ (front : Rows) (row : List ℕ) (rest : Rows) (h : Fives front) (e : length row ≡ 5) where
  -- The rows up to one, with and without those behind it.
  pub agree-row : Agree (suc (length front)) (flatten (front ++ (row ∷ rest))) (flatten (front ++ (row ∷ [])))
  agree-row =
      let n : length (front ++ (row ∷ [])) ≡ suc (length front) = length-append front (row ∷ []) ∙ omega arith in
      rw (n, append_assoc front (row ∷ []) rest) at (agree-front (front ++ (row ∷ [])) rest (fives-append front (row ∷ []) h (e, tt)))
