-- How rows end, and the returned width of the loop around a row: what a row's entry is by those of the rows beside it in the
-- tree. The second follows the law of places: a row's entry is set by the one row that names it.
use Prim.Native.Nat.{ℕ, zero, suc, ◌+◌, ◌-◌, ◌≤◌, ◌<◌}
use mathlib.Core.Path.{◌≡◌, refl, sym, ap, ◌∙◌}
use mathlib.Core.Logic.{◌≢◌}
use mathlib.Core.Bool.{Bool, true, false, not, cond, ◌||◌, false≢true}
use mathlib.Core.List.{List, [], ◌∷◌}
use native.Mathlib.Omega.{arith}
use native.Mathlib.Decide.{ℕ_discrete}
use borrow.Author.Tests.{eq-eqb, ne_eqb}
use lib.Dec.{leb, eqb}
use lib.ListN.{length, get_or, set, replicate, length-set, length-replicate}
use lib.Seq.{get_or-set_same, get_or-set_other}
use Rattle.formula.specs.declared.Shape.{Shape}
use Rattle.formula.specs.declared.Shape.TheVariants.{Identifier, Constant, Pair, Operator, Let, If, For, Iter}
use Rattle.formula.specs.Sheet.{shape_at, named_in}
use Rattle.formula.specs.Tree.{Exp, Body, ret, iter, let_b, if_b, exp_node, body_node, exp_of, body_of}
use Rattle.formula.specs.Places.{Node, bodies_in, is_in_body}
use Rattle.formula.specs.Tests.{occurrences}
use Rattle.formula.specs.Count.{returns, iterates}
use Rattle.formula.specs.TreeLaws.{AllBetween, Named}
use Rattle.formula.specs.PlaceLaws.{Sound}
use Rattle.formula.proofs.PlaceLaws.{bodies-between, bodies-named, occurs-not, only-namer}
use Rattle.sheet_tables.specs.Nodes.{node_at, Holds}
use Rattle.sheet_tables.specs.Ready.{Ready}
use Rattle.sheet_tables.specs.Ends.{ends_of, ends_in, ends_by}
use Rattle.sheet_tables.specs.Loops.{handed, fill, loops_down, loops_of}
use Rattle.sheet_tables.proofs.NodeLaws.{node_by, Parts, node_at_lem, parts_at}

-- ---- ends

arm-iterates : (u v : Bool) → leb 2 (cond {A = ℕ} (u || v) 3 1) ≡ (u || v)
arm-iterates true v = refl
arm-iterates false true = refl
arm-iterates false false = refl

arm-returns : (b : Bool) → not (eqb (cond {A = ℕ} b 3 1) 2) ≡ true
arm-returns true = refl
arm-returns false = refl

pub ends-iterates : (y : Body) → iterates y ≡ leb 2 (ends_of y)
unfolding iterates ends_of
ends-iterates (ret x) = refl
ends-iterates (iter x) = refl
ends-iterates (let_b a k x y) = ends-iterates y
ends-iterates (if_b t x y) = rw (ends-iterates x, ends-iterates y) (sym (arm-iterates (leb 2 (ends_of x)) (leb 2 (ends_of y))))

pub ends-returns : (y : Body) → returns y ≡ not (eqb (ends_of y) 2)
unfolding returns ends_of
ends-returns (ret x) = refl
ends-returns (iter x) = refl
ends-returns (let_b a k x y) = ends-returns y
ends-returns (if_b t x y) = sym (arm-returns (leb 2 (ends_of x) || leb 2 (ends_of y)))

module _ (N : ℕ → Node) (E : ℕ → Exp) (B : ℕ → Body) where
  ends-node : (b : Bool) (s : Shape) → Parts N E B b s → ends_in (node_by b E B s) ≡ ends_by (λ k. ends_in (N k)) s
  unfolding ends_by ends_of exp_node body_node
  ends-node true (Identifier a) h = refl
  ends-node false (Identifier a) h = refl
  ends-node true (Constant k a) h = refl
  ends-node false (Constant k a) h = refl
  ends-node true (Pair x y) h = refl
  ends-node false (Pair x y) h = refl
  ends-node true (Operator k x) h = refl
  ends-node false (Operator k x) h = refl
  ends-node true (Let a k x y) h = rw h.1 refl
  ends-node false (Let a k x y) h = rw h.1 refl
  ends-node true (If x y z) h = rw (h.1, h.2) refl
  ends-node false (If x y z) h = rw (h.1, h.2) refl
  ends-node true (For a k x y) h = refl
  ends-node false (For a k x y) h = refl
  ends-node true (Iter x) h = refl
  ends-node false (Iter x) h = absurd (false≢true h.0)

same_ends : (r : ℕ) (F G : ℕ → ℕ) (s : Shape) → AllBetween r (named_in s) → ((k : ℕ) → 1 ≤ k → k < r → F k ≡ G k) → ends_by F s ≡ ends_by G s
unfolding ends_by named_in
same_ends r F G (Identifier a) h e = refl
same_ends r F G (Constant k a) h e = refl
same_ends r F G (Pair x y) h e = refl
same_ends r F G (Operator k x) h e = refl
same_ends r F G (Let a k x y) h e = e y h.1.0.0 h.1.0.1
same_ends r F G (If x y z) h e = rw (e y h.1.0.0 h.1.0.1, e z h.1.1.0.0 h.1.1.0.1) refl
same_ends r F G (For a k x y) h e = refl
same_ends r F G (Iter x) h e = refl

pub row_ends : (t : List ℕ) (n : ℕ) (p : List Bool) → Ready t n p → (i : ℕ) → i < n → (l : List ℕ) → Holds 0 l i (λ k. ends_in (node_at t p k))
    → (s : Shape) → s ≡ shape_at t (i + 1) → ends_by (λ k. get_or l (k - 1) 0) s ≡ ends_in (node_at t p (i + 1))
row_ends t n p ok i h l hl s e =
    ap (ends_by (λ k. get_or l (k - 1) 0)) e
    ∙ same_ends (i + 1) (λ k. get_or l (k - 1) 0) (λ k. ends_in (node_at t p k)) (shape_at t (i + 1)) (ok.sound.named.names (i + 1) (omega arith) (omega arith)) (λ k a b. hl.entry k a (omega arith))
    ∙ sym (ends-node (node_at t p) (exp_of t) (body_of t) (is_in_body p (i + 1)) (shape_at t (i + 1)) (parts_at t n p ok (i + 1) (omega arith) (omega arith)))
    ∙ sym (ap ends_in (node_at_lem t n p ok (i + 1) (omega arith) (omega arith)))

-- ---- loops

pub fill-length : (xs : List ℕ) (v : ℕ) (l : List ℕ) → length (fill xs v l) ≡ length l
unfolding fill
fill-length [] v l = refl
fill-length (x ∷ xs) v l = fill-length xs v (set l (x - 1) v) ∙ length-set l (x - 1) v

same-arms : (b : Bool) (v : ℕ) → cond b v v ≡ v
same-arms true v = refl
same-arms false v = refl

fill-at : (xs l : List ℕ) (v x r : ℕ) → AllBetween r xs → 1 ≤ x → x ≤ length l → get_or (fill xs v l) (x - 1) 0 ≡ cond (eqb (occurrences x xs) 0) (get_or l (x - 1) 0) v
unfolding fill occurrences
fill-at [] l v x r a h k = refl
fill-at (y ∷ xs) l v x r a h k = go (fill-at xs (set l (y - 1) v) v x r a.1 h (rw (length-set l (y - 1) v) k)) (ℕ_discrete y x)
  where
    go : get_or (fill xs v (set l (y - 1) v)) (x - 1) 0 ≡ cond (eqb (occurrences x xs) 0) (get_or (set l (y - 1) v) (x - 1) 0) v → Dec (y ≡ x)
        → get_or (fill xs v (set l (y - 1) v)) (x - 1) 0 ≡ cond (eqb (cond (eqb y x) 1 0 + occurrences x xs) 0) (get_or l (x - 1) 0) v
    go ih (yes e) =
        let s : get_or (set l (y - 1) v) (x - 1) 0 ≡ v = rw e (get_or-set_same l (x - 1) v 0 (omega arith)) in
        let n : eqb (cond (eqb y x) 1 0 + occurrences x xs) 0 ≡ false =
        ap (λ (b : Bool). eqb (cond b 1 0 + occurrences x xs) 0) (eq-eqb y x e) ∙ ne_eqb (1 + occurrences x xs) 0 (λ (z : 1 + occurrences x xs ≡ 0). omega arith) in
        ih ∙ ap (λ (u : ℕ). cond (eqb (occurrences x xs) 0) u v) s ∙ same-arms (eqb (occurrences x xs) 0) v
        ∙ sym (ap (λ (b : Bool). cond b (get_or l (x - 1) 0) v) n)
    go ih (no e) =
        let o : get_or (set l (y - 1) v) (x - 1) 0 ≡ get_or l (x - 1) 0 = get_or-set_other l (y - 1) (x - 1) v 0 (λ (z : x - 1 ≡ y - 1). e (omega arith)) in
        let z : cond (eqb y x) 1 0 + occurrences x xs ≡ occurrences x xs = rw (ne_eqb y x e) (omega arith) in
        ih ∙ ap (λ (u : ℕ). cond (eqb (occurrences x xs) 0) u v) o ∙ sym (ap (λ (k : ℕ). cond (eqb k 0) (get_or l (x - 1) 0) v) z)

pub loops-step : (t : List ℕ) (p : List Bool) (R : ℕ → ℕ) (r : ℕ) (l : List ℕ) → 1 ≤ r
    → loops_down t p R r l ≡ loops_down t p R (r - 1) (fill (bodies_in (get_or p (r - 1) false) (shape_at t r)) (handed R (get_or l (r - 1) 0) (shape_at t r)) l)
unfolding loops_down
loops-step t p R zero l h = absurd (omega arith)
loops-step t p R (suc r) l h =
    let e : r ≡ suc r - 1 = omega arith in
    ap (λ (j : ℕ). loops_down t p R j (fill (bodies_in (is_in_body p (suc r)) (shape_at t (suc r))) (handed R (get_or l j 0) (shape_at t (suc r))) l)) e

loops-length : (t : List ℕ) (p : List Bool) (R : ℕ → ℕ) (r : ℕ) (l : List ℕ) → length (loops_down t p R r l) ≡ length l
unfolding loops_down
loops-length t p R zero l = refl
loops-length t p R (suc r) l =
    loops-length t p R r (fill (bodies_in (is_in_body p (suc r)) (shape_at t (suc r))) (handed R (get_or l r 0) (shape_at t (suc r))) l)
    ∙ fill-length (bodies_in (is_in_body p (suc r)) (shape_at t (suc r))) (handed R (get_or l r 0) (shape_at t (suc r))) l

pub loops_of-length : (t : List ℕ) (p : List Bool) (R : ℕ → ℕ) (n : ℕ) → length (loops_of t p R n) ≡ n
unfolding loops_of
loops_of-length t p R n = loops-length t p R n (replicate n 0) ∙ length-replicate n 0

passed-by : (l : List ℕ) (x r v : ℕ) (b : Bool) (s : Shape) → AllBetween r (named_in s) → 1 ≤ x → x ≤ length l → occurrences x (named_in s) ≡ 0
    → get_or (fill (bodies_in b s) v l) (x - 1) 0 ≡ get_or l (x - 1) 0
passed-by l x r v b s a h k o =
    let z : occurrences x (bodies_in b s) ≡ 0 = let i = bodies-named x b s in omega arith in
    fill-at (bodies_in b s) l v x r (bodies-between r b s a) h k ∙ ap (λ (j : ℕ). cond (eqb j 0) (get_or l (x - 1) 0) v) z

untouched : (t : List ℕ) (p : List Bool) (R : ℕ → ℕ) (n r : ℕ) (l : List ℕ) (x : ℕ) → Named t n → r ≤ n → 1 ≤ x → x ≤ length l
    → ((k : ℕ) → 1 ≤ k → k ≤ r → occurrences x (named_in (shape_at t k)) ≡ 0) → get_or (loops_down t p R r l) (x - 1) 0 ≡ get_or l (x - 1) 0
unfolding loops_down
untouched t p R n zero l x ok b h k o = refl
untouched t p R n (suc r) l x ok b h k o =
    let v = handed R (get_or l r 0) (shape_at t (suc r)) in
    let m = fill (bodies_in (is_in_body p (suc r)) (shape_at t (suc r))) v l in
    let len : x ≤ length m = rw (fill-length (bodies_in (is_in_body p (suc r)) (shape_at t (suc r))) v l) k in
    untouched t p R n r m x ok (omega arith) h len (λ j c d. o j c (omega arith))
    ∙ passed-by l x (suc r) v (is_in_body p (suc r)) (shape_at t (suc r)) (ok.names (suc r) (omega arith) b) h k (o (suc r) (omega arith) (omega arith))

-- The entry of a row in a body place is what the one row that names it hands on.
settled : (t : List ℕ) (p : List Bool) (R : ℕ → ℕ) (n m r x : ℕ) (l : List ℕ) → Named t n → m ≤ n → m ≤ length l → 1 ≤ r → r ≤ m → 1 ≤ x → x < r
    → ((k : ℕ) → 1 ≤ k → k ≤ n → k ≢ r → occurrences x (named_in (shape_at t k)) ≡ 0)
    → 1 ≤ occurrences x (bodies_in (is_in_body p r) (shape_at t r))
    → get_or (loops_down t p R m l) (x - 1) 0 ≡ handed R (get_or (loops_down t p R m l) (r - 1) 0) (shape_at t r)
unfolding loops_down
settled t p R n zero r x l ok b k a c d e o f = absurd (omega arith)
settled t p R n (suc m) r x l ok b k a c d e o f =
    go (λ (z : suc m ≢ r).
    settled t p R n m r x (fill (bodies_in (is_in_body p (suc m)) (shape_at t (suc m))) (handed R (get_or l m 0) (shape_at t (suc m))) l) ok (omega arith)
    (rw (fill-length (bodies_in (is_in_body p (suc m)) (shape_at t (suc m))) (handed R (get_or l m 0) (shape_at t (suc m))) l) (omega arith)) a (omega arith) d e o f)
    (ℕ_discrete (suc m) r)
  where
    v : ℕ
    v = handed R (get_or l m 0) (shape_at t (suc m))

    q : List ℕ
    q = fill (bodies_in (is_in_body p (suc m)) (shape_at t (suc m))) v l

    long : length q ≡ length l
    long = fill-length (bodies_in (is_in_body p (suc m)) (shape_at t (suc m))) v l

    names : AllBetween (suc m) (named_in (shape_at t (suc m)))
    names = ok.names (suc m) (omega arith) b

    go : (suc m ≢ r → get_or (loops_down t p R m q) (x - 1) 0 ≡ handed R (get_or (loops_down t p R m q) (r - 1) 0) (shape_at t r)) → Dec (suc m ≡ r)
        → get_or (loops_down t p R m q) (x - 1) 0 ≡ handed R (get_or (loops_down t p R m q) (r - 1) 0) (shape_at t r)
    go ih (no z) = ih z
    go ih (yes z) =
        let u : get_or (loops_down t p R m q) (x - 1) 0 ≡ get_or q (x - 1) 0 =
        untouched t p R n m q x ok (omega arith) d (rw long (omega arith)) (λ i g h. o i g (omega arith) (λ (y : i ≡ r). omega arith)) in
        let w : get_or (loops_down t p R m q) (suc m - 1) 0 ≡ get_or q (suc m - 1) 0 =
        untouched t p R n m q (suc m) ok (omega arith) (omega arith) (rw long (omega arith))
        (λ i g h. occurs-not (suc m) i (named_in (shape_at t i)) (ok.names i g (omega arith)) (omega arith)) in
        let y : get_or q (suc m - 1) 0 ≡ get_or l (suc m - 1) 0 =
        passed-by l (suc m) (suc m) v (is_in_body p (suc m)) (shape_at t (suc m)) names (omega arith) k (occurs-not (suc m) (suc m) (named_in (shape_at t (suc m))) names (omega arith)) in
        let one : 1 ≤ occurrences x (bodies_in (is_in_body p (suc m)) (shape_at t (suc m))) = rw z f in
        let s : get_or q (x - 1) 0 ≡ v =
        fill-at (bodies_in (is_in_body p (suc m)) (shape_at t (suc m))) l v x (suc m) (bodies-between (suc m) (is_in_body p (suc m)) (shape_at t (suc m)) names) d (omega arith)
        ∙ ap (λ (j : Bool). cond j (get_or l (x - 1) 0) v) (ne_eqb (occurrences x (bodies_in (is_in_body p (suc m)) (shape_at t (suc m)))) 0 (λ (g : occurrences x (bodies_in (is_in_body p (suc m)) (shape_at t (suc m))) ≡ 0). omega arith)) in
        let here : suc m - 1 ≡ m = omega arith in
        u ∙ s ∙ ap (λ (j : ℕ). handed R (get_or l j 0) (shape_at t (suc m))) (sym here)
        ∙ ap (λ (j : ℕ). handed R j (shape_at t (suc m))) (sym (w ∙ y))
        ∙ ap (λ (j : ℕ). handed R (get_or (loops_down t p R m q) (j - 1) 0) (shape_at t j)) z

same-handed : (r : ℕ) (R Q : ℕ → ℕ) (w : ℕ) (s : Shape) → AllBetween r (named_in s) → ((k : ℕ) → 1 ≤ k → k < r → R k ≡ Q k) → handed R w s ≡ handed Q w s
unfolding handed named_in
same-handed r R Q w (Identifier a) h e = refl
same-handed r R Q w (Constant k a) h e = refl
same-handed r R Q w (Pair x y) h e = refl
same-handed r R Q w (Operator k x) h e = refl
same-handed r R Q w (Let a k x y) h e = refl
same-handed r R Q w (If x y z) h e = refl
same-handed r R Q w (For a k x y) h e = e y h.1.0.0 h.1.0.1
same-handed r R Q w (Iter x) h e = refl

same-down : (t : List ℕ) (p : List Bool) (R Q : ℕ → ℕ) (n r : ℕ) (l : List ℕ) → Named t n → r ≤ n → ((k : ℕ) → 1 ≤ k → k ≤ n → R k ≡ Q k)
    → loops_down t p R r l ≡ loops_down t p Q r l
unfolding loops_down
same-down t p R Q n zero l ok h e = refl
same-down t p R Q n (suc r) l ok h e =
    ap (λ v. loops_down t p R r (fill (bodies_in (is_in_body p (suc r)) (shape_at t (suc r))) v l))
    (same-handed (suc r) R Q (get_or l r 0) (shape_at t (suc r)) (ok.names (suc r) (omega arith) h) (λ k a b. e k a (omega arith)))
    ∙ same-down t p R Q n r (fill (bodies_in (is_in_body p (suc r)) (shape_at t (suc r))) (handed Q (get_or l r 0) (shape_at t (suc r))) l) ok (omega arith) e

-- The table by returned widths that a table holds.
pub same-loops : (t : List ℕ) (p : List Bool) (R Q : ℕ → ℕ) (n : ℕ) → Named t n → ((k : ℕ) → 1 ≤ k → k ≤ n → R k ≡ Q k) → loops_of t p R n ≡ loops_of t p Q n
unfolding loops_of
same-loops t p R Q n ok e = same-down t p R Q n n (replicate n 0) ok (omega arith) e

-- What is known of the loop widths W of the rows that a row with loop width w names.
abbrev pub Loops : (ℕ → ℕ) → (ℕ → ℕ) → ℕ → Bool → Shape → Type 0
Loops W R w b (Identifier a) = Unit {0}
Loops W R w b (Constant k a) = Unit {0}
Loops W R w b (Pair x y) = Unit {0}
Loops W R w b (Operator k x) = Unit {0}
Loops W R w true (Let a k x y) = W y ≡ w
Loops W R w false (Let a k x y) = Unit {0}
Loops W R w true (If x y z) = (W y ≡ w) × (W z ≡ w)
Loops W R w false (If x y z) = Unit {0}
Loops W R w b (For a k x y) = W y ≡ R y
Loops W R w b (Iter x) = Unit {0}

own : (x : ℕ) → ◌≡◌ {A = ℕ} (cond (eqb x x) 1 0) 1
own x = rw (eq-eqb x x refl) refl

by-handing : (W R : ℕ → ℕ) (w r : ℕ) (b : Bool) (s : Shape) → AllBetween r (named_in s)
    → ((x : ℕ) → 1 ≤ x → x < r → 1 ≤ occurrences x (bodies_in b s) → W x ≡ handed R w s) → Loops W R w b s
unfolding named_in bodies_in handed occurrences
by-handing W R w r b (Identifier a) l h = tt
by-handing W R w r b (Constant k a) l h = tt
by-handing W R w r b (Pair x y) l h = tt
by-handing W R w r b (Operator k x) l h = tt
by-handing W R w r true (Let a k x y) l h = h y l.1.0.0 l.1.0.1 (omega (arith, own y))
by-handing W R w r false (Let a k x y) l h = tt
by-handing W R w r true (If x y z) l h = (h y l.1.0.0 l.1.0.1 (omega (arith, own y)), h z l.1.1.0.0 l.1.1.0.1 (omega (arith, own z)))
by-handing W R w r false (If x y z) l h = tt
by-handing W R w r b (For a k x y) l h = h y l.1.0.0 l.1.0.1 (omega (arith, own y))
by-handing W R w r b (Iter x) l h = tt

pub loops-at : (t : List ℕ) (n : ℕ) (p : List Bool) → Sound t n → (R : ℕ → ℕ) (r : ℕ) → 1 ≤ r → r ≤ n
    → Loops (λ k. get_or (loops_of t p R n) (k - 1) 0) R (get_or (loops_of t p R n) (r - 1) 0) (is_in_body p r) (shape_at t r)
unfolding loops_of
loops-at t n p ok R r a b =
    by-handing (λ k. get_or (loops_of t p R n) (k - 1) 0) R (get_or (loops_of t p R n) (r - 1) 0) r (is_in_body p r) (shape_at t r) (ok.named.names r a b) one
  where
    one : (x : ℕ) → 1 ≤ x → x < r → 1 ≤ occurrences x (bodies_in (is_in_body p r) (shape_at t r))
        → get_or (loops_down t p R n (replicate n 0)) (x - 1) 0 ≡ handed R (get_or (loops_down t p R n (replicate n 0)) (r - 1) 0) (shape_at t r)
    one x c d o =
        settled t p R n n r x (replicate n 0) ok.named (omega arith) (rw (length-replicate {A = ℕ} n 0) (omega arith)) a b c d
        (only-namer t n ok r a b x c d (let i = bodies-named x (is_in_body p r) (shape_at t r) in omega arith)) o
