-- Test 10 by tables: a row's counts from the entries of the rows that it names, a part has no more operators than the
-- whole, and so a row over 1,024 decides.
use Prim.Native.Nat.{ℕ, zero, suc, ◌+◌, ◌-◌, ◌≤◌, ◌<◌}
use mathlib.Core.Path.{◌≡◌, refl, sym, ap, subst, ◌∙◌}
use mathlib.Core.Bool.{Bool, true, false, cond}
use mathlib.Core.List.{List, [], ◌∷◌, map}
use native.Mathlib.Omega.{arith}
use native.Mathlib.Decide.{ℕ_discrete}
use lib.Dec.{eqb}
use lib.ListN.{length, get_or, set, take, replicate}
use lib.Seq.{get_or-set_same, get_or-set_other}
use borrow.Author.Tests.{ne_eqb, le-leb, lt-leb}
use Rattle.names.specs.Names.{mask}
use Rattle.formula.specs.declared.Shape.{Shape}
use Rattle.formula.specs.declared.Shape.TheVariants.{Identifier, Constant, Pair, Operator, Let, If, For, Iter}
use Rattle.formula.specs.Sheet.{shape_at, named_in}
use Rattle.formula.specs.Tree.{exp_of, body_of}
use Rattle.formula.specs.Places.{Node, node_in, is_in_body}
use Rattle.formula.specs.Tests.{occurrences, operators_of}
use Rattle.formula.specs.TreeLaws.{AllBetween}
use Rattle.formula.proofs.PlaceLaws.{namer, last-place}
use Rattle.sheet_count.specs.declared.count.Own.{Own}
use Rattle.std.specs.Prelude.{Some, None}
use Rattle.sheet_tables.specs.Nodes.{node_at, returned_in, iterated_in, free_in, count_in, Holds}
use Rattle.sheet_tables.specs.Ready.{Ready}
use Rattle.sheet_count.specs.Filled.{Filled}
use Rattle.sheet_tables.specs.Masks.{plain_mask}
use Rattle.sheet_tables.specs.Ends.{ends_in}
use Rattle.sheet_tables.specs.Loops.{loops_of}
use Rattle.sheet_count.specs.Counts.{plain_own, body_own, own_by, own_operators, total, named_total, count_at, total_of}
use Rattle.sheet_tables.proofs.NodeLaws.{node_at_lem, parts_at}
use Rattle.sheet_tables.proofs.MaskLaws.{ranged-at}
use Rattle.sheet_tables.proofs.LoopLaws.{loops-at, loops_of-length}
use Rattle.sheet_count.proofs.CountLaws.{Counted, counted}

-- ---- a row's own, by tables that agree on earlier rows

module _ (r : ℕ) (M M' R R' I I' F F' : ℕ → ℕ)
    (m : (k : ℕ) → 1 ≤ k → k < r → M k ≡ M' k) (q : (k : ℕ) → 1 ≤ k → k < r → R k ≡ R' k)
    (i : (k : ℕ) → 1 ≤ k → k < r → I k ≡ I' k) (f : (k : ℕ) → 1 ≤ k → k < r → F k ≡ F' k)
  where
    same-own : (b : Bool) (w : ℕ) (s : Shape) → AllBetween r (named_in s) → own_by b M R I F w s ≡ own_by b M' R' I' F' w s
    unfolding plain_own body_own plain_mask named_in
    same-own true w (Identifier a) h = refl
    same-own false w (Identifier a) h = refl
    same-own true w (Constant k a) h = refl
    same-own false w (Constant k a) h = refl
    same-own true w (Pair x y) h = rw (m x h.0.0 h.0.1, m y h.1.0.0 h.1.0.1) refl
    same-own false w (Pair x y) h = rw (m x h.0.0 h.0.1, m y h.1.0.0 h.1.0.1) refl
    same-own true w (Operator k x) h = rw (m x h.0.0 h.0.1) refl
    same-own false w (Operator k x) h = refl
    same-own true w (Let a k x y) h = rw (m x h.0.0 h.0.1, m y h.1.0.0 h.1.0.1) refl
    same-own false w (Let a k x y) h = rw (m x h.0.0 h.0.1, m y h.1.0.0 h.1.0.1) refl
    same-own true w (If x y z) h =
        rw (m x h.0.0 h.0.1, m y h.1.0.0 h.1.0.1, m z h.1.1.0.0 h.1.1.0.1, i y h.1.0.0 h.1.0.1, f y h.1.0.0 h.1.0.1, f z h.1.1.0.0 h.1.1.0.1) refl
    same-own false w (If x y z) h =
        rw (m x h.0.0 h.0.1, m y h.1.0.0 h.1.0.1, m z h.1.1.0.0 h.1.1.0.1, q y h.1.0.0 h.1.0.1) refl
    same-own true w (For a k x y) h = rw (m x h.0.0 h.0.1, m y h.1.0.0 h.1.0.1) refl
    same-own false w (For a k x y) h = rw (m x h.0.0 h.0.1, m y h.1.0.0 h.1.0.1) refl
    same-own true w (Iter x) h = rw (m x h.0.0 h.0.1) refl
    same-own false w (Iter x) h = rw (m x h.0.0 h.0.1) refl

same_total : (r : ℕ) (C D : ℕ → ℕ) (l : List ℕ) → AllBetween r l → ((k : ℕ) → 1 ≤ k → k < r → C k ≡ D k) → total (map C l) ≡ total (map D l)
same_total r C D [] h e = refl
same_total r C D (x ∷ l) h e = let a = e x h.0.0 h.0.1 in let b = same_total r C D l h.1 e in omega arith

member-total : (C : ℕ → ℕ) (x : ℕ) (l : List ℕ) → 1 ≤ occurrences x l → C x ≤ total (map C l)
unfolding occurrences
member-total C x [] h = absurd (omega arith)
member-total C x (y ∷ l) h = go (ℕ_discrete y x) (λ (k : 1 ≤ occurrences x l). member-total C x l k)
  where
    go : Dec (y ≡ x) → (1 ≤ occurrences x l → C x ≤ total (map C l)) → C x ≤ C y + total (map C l)
    go (yes e) ih = let d = ap C e in omega arith
    go (no e) ih =
        let z : ◌≡◌ {A = ℕ} (cond (eqb y x) 1 0) 0 = rw (ne_eqb y x e) refl in
        let a = ih (omega arith) in
        omega arith

-- ---- entries that stay small

pub bounded-take : (c i : ℕ) (l : List ℕ) → ((k : ℕ) → get_or l k 0 ≤ c) → (k : ℕ) → get_or (take i l) k 0 ≤ c
bounded-take c zero l h k = omega arith
bounded-take c (suc i) [] h k = omega arith
bounded-take c (suc i) (x ∷ l) h zero = h 0
bounded-take c (suc i) (x ∷ l) h (suc k) = bounded-take c i l (λ (j : ℕ). h (suc j)) k

pub bounded-set : (c i v : ℕ) (l : List ℕ) → ((k : ℕ) → get_or l k 0 ≤ c) → i < length l → v ≤ c → (k : ℕ) → get_or (set l i v) k 0 ≤ c
bounded-set c i v l h a b k = go (ℕ_discrete k i)
  where
    go : Dec (k ≡ i) → get_or (set l i v) k 0 ≤ c
    go (yes e) = rw (e, get_or-set_same l i v 0 a) b
    go (no e) = rw (get_or-set_other l i k v 0 e) (h k)

pub bounded-blank : (c n : ℕ) (k : ℕ) → get_or (replicate n 0) k 0 ≤ c
bounded-blank c zero k = omega arith
bounded-blank c (suc n) zero = omega arith
bounded-blank c (suc n) (suc k) = bounded-blank c n k

module _ (t : List ℕ) (n : ℕ) (p : List Bool) (ok : Ready t n p) where
  abbrev L : List ℕ
  L = loops_of t p (λ k. returned_in (node_at t p k)) n

  -- What a row's counts are.
  row_counts : (r : ℕ) → 1 ≤ r → r ≤ n
      → Counted (count_at t p n r)
      (own_by (is_in_body p r) (λ k. mask (free_in (node_at t p k))) (λ k. returned_in (node_at t p k)) (λ k. iterated_in (node_at t p k)) (λ k. ends_in (node_at t p k)) (get_or L (r - 1) 0) (shape_at t r))
      (named_total (λ k. (count_at t p n k).operators) (shape_at t r))
  row_counts r a b =
      subst
      (λ (x : Node). Counted (count_in (get_or L (r - 1) 0) x)
      (own_by (is_in_body p r) (λ k. mask (free_in (node_at t p k))) (λ k. returned_in (node_at t p k)) (λ k. iterated_in (node_at t p k)) (λ k. ends_in (node_at t p k)) (get_or L (r - 1) 0) (shape_at t r))
      (named_total (λ k. (count_at t p n k).operators) (shape_at t r)))
      (sym (node_at_lem t n p ok r a b))
      (counted (node_at t p) (exp_of t) (body_of t) (λ k. get_or L (k - 1) 0) (get_or L (r - 1) 0) (is_in_body p r) (shape_at t r)
      (parts_at t n p ok r a b) (ranged-at t n p ok r a b) (loops-at t n p ok.sound (λ k. returned_in (node_at t p k)) r a b))

  -- A part has no more operators than the whole.
  pub part-whole : (d x : ℕ) → 1 ≤ x → x ≤ n → n - x ≤ d → (count_at t p n x).operators ≤ (count_at t p n n).operators
  part-whole zero x a b h = let e : x ≡ n = omega arith in rw e (omega arith)
  part-whole (suc d) x a b h = go (ℕ_discrete x n)
      (λ (l : x < n).
      let m = namer t n ok.sound x a l in
      let c = row_counts m.row (let i = m.later in omega arith) m.inside in
      let e = c.operators-are in
      let f = member-total (λ k. (count_at t p n k).operators) x (named_in (shape_at t m.row)) m.names in
      let i = part-whole d m.row (let j = m.later in omega arith) m.inside (let j = m.later in omega arith) in
      omega arith)
    where
      go : Dec (x ≡ n) → (x < n → (count_at t p n x).operators ≤ (count_at t p n n).operators) → (count_at t p n x).operators ≤ (count_at t p n n).operators
      go (yes e) later = rw e (omega arith)
      go (no e) later = later (omega arith)

  -- The last row is the formula.
  pub last-count : 1 ≤ n → (count_at t p n n).operators ≡ operators_of t n
  unfolding operators_of node_in
  last-count h =
      let e : is_in_body p n ≡ false = ap (λ (q : List Bool). is_in_body q n) ok.places ∙ last-place t n ok.sound.named h in
      ap (λ (b : Bool). (count_in (get_or (loops_of t p (λ k. returned_in (node_at t p k)) n) (n - 1) 0) (node_in b t n)).operators) e

  pub over : (x : ℕ) → 1 ≤ x → x ≤ n → 1024 < (count_at t p n x).operators → None ≡ total_of (operators_of t n)
  over x a b h =
      let i = part-whole n x a b (omega arith) in
      let e = last-count (omega arith) in
      rw (lt-leb (operators_of t n) 1024 (omega arith)) refl

  pub within : 1 ≤ n → (k : ℕ) → k ≡ (count_at t p n n).operators → k ≤ 1024 → Some k ≡ total_of (operators_of t n)
  within a k d h = let e = d ∙ last-count a in rw (sym e, le-leb k 1024 h) refl

module _ (t : List ℕ) (n : ℕ) (p : List Bool) (w m ret it f : List ℕ) (ok : Filled t n p w m ret it f) where
  pub loops-size : length w ≡ n
  loops-size = ap length ok.loops ∙ loops_of-length t p (λ k. returned_in (node_at t p k)) n

  -- What the code computes of row i + 1.
  pub row_told : (i : ℕ) → i < n → (ops : List ℕ) → Holds 0 ops i (λ k. (count_at t p n k).operators)
      → (s : Shape) → s ≡ shape_at t (i + 1) → (o : Own)
      → o ≡ own_by (get_or p i false) (λ k. get_or m (k - 1) 0) (λ k. get_or ret (k - 1) 0) (λ k. get_or it (k - 1) 0) (λ k. get_or f (k - 1) 0) (get_or w (i + 1 - 1) 0) s
      → Counted (count_at t p n (i + 1)) o (named_total (λ k. get_or ops (k - 1) 0) s)
  row_told i l ops ho s e o d =
      let a : 1 ≤ i + 1 = omega arith in
      let b : i + 1 ≤ n = omega arith in
      let names = ok.ready.sound.named.names (i + 1) a b in
      let z : i ≡ i + 1 - 1 = omega arith in
      let same-o : o ≡ own_by (is_in_body p (i + 1)) (λ k. mask (free_in (node_at t p k))) (λ k. returned_in (node_at t p k)) (λ k. iterated_in (node_at t p k)) (λ k. ends_in (node_at t p k)) (get_or (loops_of t p (λ k. returned_in (node_at t p k)) n) (i + 1 - 1) 0) (shape_at t (i + 1)) =
      d
      ∙ ap (λ (j : ℕ). own_by (get_or p j false) (λ k. get_or m (k - 1) 0) (λ k. get_or ret (k - 1) 0) (λ k. get_or it (k - 1) 0) (λ k. get_or f (k - 1) 0) (get_or w (i + 1 - 1) 0) s) z
      ∙ ap (λ (x : Shape). own_by (is_in_body p (i + 1)) (λ k. get_or m (k - 1) 0) (λ k. get_or ret (k - 1) 0) (λ k. get_or it (k - 1) 0) (λ k. get_or f (k - 1) 0) (get_or w (i + 1 - 1) 0) x) e
      ∙ ap (λ (x : List ℕ). own_by (is_in_body p (i + 1)) (λ k. get_or m (k - 1) 0) (λ k. get_or ret (k - 1) 0) (λ k. get_or it (k - 1) 0) (λ k. get_or f (k - 1) 0) (get_or x (i + 1 - 1) 0) (shape_at t (i + 1))) ok.loops
      ∙ same-own (i + 1) (λ k. get_or m (k - 1) 0) (λ k. mask (free_in (node_at t p k))) (λ k. get_or ret (k - 1) 0) (λ k. returned_in (node_at t p k))
      (λ k. get_or it (k - 1) 0) (λ k. iterated_in (node_at t p k)) (λ k. get_or f (k - 1) 0) (λ k. ends_in (node_at t p k))
      (λ k u v. ok.masks.entry k u (omega arith)) (λ k u v. ok.returned.entry k u (omega arith)) (λ k u v. ok.iterated.entry k u (omega arith)) (λ k u v. ok.ends.entry k u (omega arith))
      (is_in_body p (i + 1)) (get_or (loops_of t p (λ k. returned_in (node_at t p k)) n) (i + 1 - 1) 0) (shape_at t (i + 1)) names
      in
      let same-ops : named_total (λ k. get_or ops (k - 1) 0) s ≡ named_total (λ k. (count_at t p n k).operators) (shape_at t (i + 1)) =
      ap (named_total (λ k. get_or ops (k - 1) 0)) e ∙ same_total (i + 1) (λ k. get_or ops (k - 1) 0) (λ k. (count_at t p n k).operators) (named_in (shape_at t (i + 1))) names (λ k u v. ho.entry k u (omega arith))
      in
      let c = row_counts t n p ok.ready (i + 1) a b in
      record { operators-are = let u = c.operators-are in let v = ap own_operators same-o in omega arith }
