-- Laws of specs/PlaceLaws.antt, and what only they need.
use Rattle.std.specs.Prelude.{ℕ, zero, suc, ◌+◌, ◌-◌, ◌≤◌, ◌<◌, ◌≡◌, ◌≢◌, Bool, true, not, List, [], ◌∷◌, ◌++◌, map, length, set, replicate, eqb}
use Rattle.std.proofs.Math.Path.{refl}
use Rattle.std.proofs.Common.{sym, ap, subst, ◌∙◌, length-set, get_or-set_same, get_or-set_other, eq-eqb, ne_eqb, arith}
use Rattle.std.proofs.Math.Bool.{false, cond}
use Rattle.std.proofs.lemmas.List.{length-replicate, get_or-replicate}
use Rattle.std.proofs.Math.Decide.{ℕ_discrete, dec_lt}
use Rattle.formula.specs.declared.Shape.{Shape}
use Rattle.formula.specs.declared.Shape.TheVariants.{Identifier, Constant, Pair, Operator, Let, If, For, Iter}
use Rattle.formula.specs.Sheet.{shape_at, named_in}
use Rattle.formula.specs.Places.{bodies_in, is_in_body, mark, mark_down, places_of}
use Rattle.formula.specs.Tests.{occurrences, all_named}
use Rattle.formula.specs.TreeLaws.{AllBetween, Named}
use Rattle.formula.specs.PlaceLaws.{Sound, field_places, Namer}

-- ---- how often a row is named
pub occurs-append : (x : ℕ) (l m : List ℕ) → occurrences x (l ++ m) ≡ occurrences x l + occurrences x m
unfolding occurrences
occurs-append x [] m = omega arith
occurs-append x (y ∷ l) m = let e = occurs-append x l m in omega arith

pub occurs-not : (x r : ℕ) (l : List ℕ) → AllBetween r l → r ≤ x → occurrences x l ≡ 0
unfolding occurrences
occurs-not x r [] h k = refl
occurs-not x r (y ∷ l) h k =
    let e : eqb y x ≡ false = ne_eqb y x λ (e : y ≡ x). omega arith in
    rw e (let i = occurs-not x r l h.1 k in omega arith)

one-part : (t : List ℕ) (x n k : ℕ) → 1 ≤ k → k ≤ n → occurrences x (named_in (shape_at t k)) ≤ occurrences x (all_named t n)
unfolding all_named
one-part t x zero k h l = absurd (omega arith)
one-part t x (suc n) k h l = go (λ (m : k ≤ n). one-part t x n k h m) (ℕ_discrete k (suc n))
  where
    all : occurrences x (all_named t n ++ named_in (shape_at t (suc n))) ≡ occurrences x (all_named t n) + occurrences x (named_in (shape_at t (suc n)))
    all = occurs-append x (all_named t n) (named_in (shape_at t (suc n)))

    go : (k ≤ n → occurrences x (named_in (shape_at t k)) ≤ occurrences x (all_named t n)) → Dec (k ≡ suc n)
        → occurrences x (named_in (shape_at t k)) ≤ occurrences x (all_named t n ++ named_in (shape_at t (suc n)))
    go ih (yes e) = rw e (omega (arith, all))
    go ih (no e) = let i = ih (omega arith) in omega (arith, all)

-- Two rows name what all rows together name.
two-parts : (t : List ℕ) (x n j k : ℕ) → 1 ≤ j → j < k → k ≤ n
    → occurrences x (named_in (shape_at t j)) + occurrences x (named_in (shape_at t k)) ≤ occurrences x (all_named t n)
unfolding all_named
two-parts t x zero j k h i l = absurd (omega arith)
two-parts t x (suc n) j k h i l = go (λ (m : k ≤ n). two-parts t x n j k h i m) (ℕ_discrete k (suc n))
  where
    all : occurrences x (all_named t n ++ named_in (shape_at t (suc n))) ≡ occurrences x (all_named t n) + occurrences x (named_in (shape_at t (suc n)))
    all = occurs-append x (all_named t n) (named_in (shape_at t (suc n)))

    go : (k ≤ n → occurrences x (named_in (shape_at t j)) + occurrences x (named_in (shape_at t k)) ≤ occurrences x (all_named t n)) → Dec (k ≡ suc n)
        → occurrences x (named_in (shape_at t j)) + occurrences x (named_in (shape_at t k)) ≤ occurrences x (all_named t n ++ named_in (shape_at t (suc n)))
    go ih (yes e) = let o = one-part t x n j h (omega arith) in rw e (omega (arith, all))
    go ih (no e) = let o = ih (omega arith) in omega (arith, all)

-- ---- what marking does to one row's place
pub mark-length : (l : List ℕ) (p : List Bool) → length (mark l p) ≡ length p
unfolding mark
mark-length [] p = refl
mark-length (y ∷ l) p = mark-length l (set p (y - 1) true) ∙ length-set p (y - 1) true

same-arms : (b : Bool) → cond b true true ≡ true
same-arms true = refl
same-arms false = refl

mark-at : (l : List ℕ) (p : List Bool) (x r : ℕ) → AllBetween r l → 1 ≤ x → x ≤ length p
    → is_in_body (mark l p) x ≡ cond (eqb (occurrences x l) 0) (is_in_body p x) true
unfolding mark occurrences
mark-at [] p x r a h k = refl
mark-at (y ∷ l) p x r a h k =
    go (mark-at l (set p (y - 1) true) x r a.1 h (rw (length-set p (y - 1) true) k)) (ℕ_discrete y x)
  where
    go : is_in_body (mark l (set p (y - 1) true)) x ≡ cond (eqb (occurrences x l) 0) (is_in_body (set p (y - 1) true) x) true → Dec (y ≡ x)
        → is_in_body (mark l (set p (y - 1) true)) x ≡ cond (eqb (cond (eqb y x) 1 0 + occurrences x l) 0) (is_in_body p x) true
    go ih (yes e) =
        let s : is_in_body (set p (y - 1) true) x ≡ true = rw e (get_or-set_same p (x - 1) true false (omega arith)) in
        let n : eqb (cond (eqb y x) 1 0 + occurrences x l) 0 ≡ false =
        ap (λ (b : Bool). eqb (cond b 1 0 + occurrences x l) 0) (eq-eqb y x e) ∙ ne_eqb (1 + occurrences x l) 0 (λ (z : 1 + occurrences x l ≡ 0). omega arith) in
        ih ∙ ap (λ (b : Bool). cond (eqb (occurrences x l) 0) b true) s ∙ same-arms (eqb (occurrences x l) 0)
        ∙ sym (ap (λ (b : Bool). cond b (is_in_body p x) true) n)
    go ih (no e) =
        let o : is_in_body (set p (y - 1) true) x ≡ is_in_body p x = get_or-set_other p (y - 1) (x - 1) true false (λ (z : x - 1 ≡ y - 1). e (omega arith)) in
        let z : cond (eqb y x) 1 0 + occurrences x l ≡ occurrences x l = rw (ne_eqb y x e) (omega arith) in
        ih ∙ ap (λ (b : Bool). cond (eqb (occurrences x l) 0) b true) o ∙ sym (ap (λ (k : ℕ). cond (eqb k 0) (is_in_body p x) true) z)

pub bodies-between : (r : ℕ) (b : Bool) (s : Shape) → AllBetween r (named_in s) → AllBetween r (bodies_in b s)
unfolding named_in bodies_in
bodies-between r b (Identifier i) h = tt
bodies-between r b (Constant k i) h = tt
bodies-between r b (Pair x y) h = tt
bodies-between r b (Operator k x) h = tt
bodies-between r true (Let i k x y) h = h.1
bodies-between r false (Let i k x y) h = tt
bodies-between r true (If x y z) h = h.1
bodies-between r false (If x y z) h = tt
bodies-between r b (For i k x y) h = h.1
bodies-between r b (Iter x) h = tt

pub bodies-named : (x : ℕ) (b : Bool) (s : Shape) → occurrences x (bodies_in b s) ≤ occurrences x (named_in s)
unfolding named_in bodies_in occurrences
bodies-named x b (Identifier i) = omega arith
bodies-named x b (Constant k i) = omega arith
bodies-named x b (Pair y z) = omega arith
bodies-named x b (Operator k y) = omega arith
bodies-named x true (Let i k y z) = omega arith
bodies-named x false (Let i k y z) = omega arith
bodies-named x true (If y z u) = omega arith
bodies-named x false (If y z u) = omega arith
bodies-named x b (For i k y z) = omega arith
bodies-named x b (Iter y) = omega arith

-- A row that does not name x leaves x's place as it is.
passed-by : (p : List Bool) (x r : ℕ) (b : Bool) (s : Shape) → AllBetween r (named_in s) → 1 ≤ x → x ≤ length p → occurrences x (named_in s) ≡ 0
    → is_in_body (mark (bodies_in b s) p) x ≡ is_in_body p x
passed-by p x r b s a h k o =
    let z : occurrences x (bodies_in b s) ≡ 0 = let i = bodies-named x b s in omega arith in
    mark-at (bodies_in b s) p x r (bodies-between r b s a) h k ∙ ap (λ (j : ℕ). cond (eqb j 0) (is_in_body p x) true) z

pub mark-step : (t : List ℕ) (r : ℕ) (p : List Bool) → 1 ≤ r
    → mark_down t r p ≡ mark_down t (r - 1) (mark (bodies_in (is_in_body p r) (shape_at t r)) p)
unfolding mark_down
mark-step t zero p h = absurd (omega arith)
mark-step t (suc r) p h = let e : suc r - 1 ≡ r = omega arith in ap (λ (j : ℕ). mark_down t j (mark (bodies_in (is_in_body p (suc r)) (shape_at t (suc r))) p)) (sym e)

pub mark-down-length : (t : List ℕ) (r : ℕ) (p : List Bool) → length (mark_down t r p) ≡ length p
unfolding mark_down
mark-down-length t zero p = refl
mark-down-length t (suc r) p =
    mark-down-length t r (mark (bodies_in (is_in_body p (suc r)) (shape_at t (suc r))) p)
    ∙ mark-length (bodies_in (is_in_body p (suc r)) (shape_at t (suc r))) p

pub places-length : (t : List ℕ) (n : ℕ) → length (places_of t n) ≡ n
unfolding places_of
places-length t n = mark-down-length t n (replicate n false) ∙ length-replicate n false

untouched : (t : List ℕ) (n r : ℕ) (p : List Bool) (x : ℕ) → Named t n → r ≤ n → 1 ≤ x → x ≤ length p
    → ((k : ℕ) → 1 ≤ k → k ≤ r → occurrences x (named_in (shape_at t k)) ≡ 0) → is_in_body (mark_down t r p) x ≡ is_in_body p x
unfolding mark_down
untouched t n zero p x ok l h k o = refl
untouched t n (suc r) p x ok l h k o =
    let q = mark (bodies_in (is_in_body p (suc r)) (shape_at t (suc r))) p in
    let m : x ≤ length q = rw (mark-length (bodies_in (is_in_body p (suc r)) (shape_at t (suc r))) p) k in
    untouched t n r q x ok (omega arith) h m (λ j a b. o j a (omega arith))
    ∙ passed-by p x (suc r) (is_in_body p (suc r)) (shape_at t (suc r)) (ok.names (suc r) (omega arith) l) h k (o (suc r) (omega arith) (omega arith))

-- Whether x is in a body place is decided by the one row that names it.
settled : (t : List ℕ) (n m r x : ℕ) (p : List Bool) → Named t n → m ≤ n → m ≤ length p → 1 ≤ r → r ≤ m → 1 ≤ x → x < r
    → ((k : ℕ) → 1 ≤ k → k ≤ n → k ≢ r → occurrences x (named_in (shape_at t k)) ≡ 0) → is_in_body p x ≡ false
    → is_in_body (mark_down t m p) x ≡ not (eqb (occurrences x (bodies_in (is_in_body (mark_down t m p) r) (shape_at t r))) 0)
unfolding mark_down
settled t n zero r x p ok l k a b c d o f = absurd (omega arith)
settled t n (suc m) r x p ok l k a b c d o f =
    go (λ (e : suc m ≢ r).
    settled t n m r x (mark (bodies_in (is_in_body p (suc m)) (shape_at t (suc m))) p) ok (omega arith)
    (rw (mark-length (bodies_in (is_in_body p (suc m)) (shape_at t (suc m))) p) (omega arith)) a (omega arith) c d o
    (passed-by p x (suc m) (is_in_body p (suc m)) (shape_at t (suc m)) (ok.names (suc m) (omega arith) l) c (omega arith) (o (suc m) (omega arith) l e) ∙ f))
    (ℕ_discrete (suc m) r)
  where
    q : List Bool
    q = mark (bodies_in (is_in_body p (suc m)) (shape_at t (suc m))) p

    long : length q ≡ length p
    long = mark-length (bodies_in (is_in_body p (suc m)) (shape_at t (suc m))) p

    names : AllBetween (suc m) (named_in (shape_at t (suc m)))
    names = ok.names (suc m) (omega arith) l

    here : (b : Bool) → is_in_body p x ≡ false → cond b (is_in_body p x) true ≡ not b
    here true e = e
    here false e = refl

    go : (suc m ≢ r → is_in_body (mark_down t m q) x ≡ not (eqb (occurrences x (bodies_in (is_in_body (mark_down t m q) r) (shape_at t r))) 0)) → Dec (suc m ≡ r)
        → is_in_body (mark_down t m q) x ≡ not (eqb (occurrences x (bodies_in (is_in_body (mark_down t m q) r) (shape_at t r))) 0)
    go ih (no e) = ih e
    go ih (yes e) =
        let u : is_in_body (mark_down t m q) x ≡ is_in_body q x =
        untouched t n m q x ok (omega arith) c (rw long (omega arith)) (λ i g h. o i g (omega arith) (λ (z : i ≡ r). omega arith)) in
        let v : is_in_body (mark_down t m q) (suc m) ≡ is_in_body q (suc m) =
        untouched t n m q (suc m) ok (omega arith) (omega arith) (rw long (omega arith))
        (λ i g h. occurs-not (suc m) i (named_in (shape_at t i)) (ok.names i g (omega arith)) (omega arith)) in
        let w : is_in_body q (suc m) ≡ is_in_body p (suc m) =
        passed-by p (suc m) (suc m) (is_in_body p (suc m)) (shape_at t (suc m)) names (omega arith) k (occurs-not (suc m) (suc m) (named_in (shape_at t (suc m))) names (omega arith)) in
        let s : is_in_body q x ≡ not (eqb (occurrences x (bodies_in (is_in_body p (suc m)) (shape_at t (suc m)))) 0) =
        mark-at (bodies_in (is_in_body p (suc m)) (shape_at t (suc m))) p x (suc m) (bodies-between (suc m) (is_in_body p (suc m)) (shape_at t (suc m)) names) c (omega arith)
        ∙ here (eqb (occurrences x (bodies_in (is_in_body p (suc m)) (shape_at t (suc m)))) 0) f in
        u ∙ s ∙ ap (λ (b : Bool). not (eqb (occurrences x (bodies_in b (shape_at t (suc m)))) 0)) (sym (v ∙ w))
        ∙ ap (λ (j : ℕ). not (eqb (occurrences x (bodies_in (is_in_body (mark_down t m q) j) (shape_at t j))) 0)) e

-- ---- the places of the rows that a row names
module _ (t : List ℕ) (n : ℕ) (ok : Sound t n) (r : ℕ) (a : 1 ≤ r) (b : r ≤ n) where
  P : List Bool
  P = places_of t n

  pub named-once : (x : ℕ) → 1 ≤ x → x < r → 1 ≤ occurrences x (named_in (shape_at t r)) → occurrences x (named_in (shape_at t r)) ≡ 1
  named-once x c d o =
      let e = ok.once x c (omega arith) in
      let i = one-part t x n r a b in
      omega arith

  -- No other row names what row r names.
  pub only-namer : (x : ℕ) → 1 ≤ x → x < r → 1 ≤ occurrences x (named_in (shape_at t r))
      → (k : ℕ) → 1 ≤ k → k ≤ n → k ≢ r → occurrences x (named_in (shape_at t k)) ≡ 0
  only-namer x c d o k g h e = go (dec_lt k r)
    where
      go : Dec (k < r) → occurrences x (named_in (shape_at t k)) ≡ 0
      go (yes l) = let i = two-parts t x n k r g l b in let j = ok.once x c (omega arith) in omega arith
      go (no l) = let i = two-parts t x n r k a (omega arith) h in let j = ok.once x c (omega arith) in omega arith

  placed : (x : ℕ) → 1 ≤ x → x < r → 1 ≤ occurrences x (named_in (shape_at t r))
      → is_in_body P x ≡ not (eqb (occurrences x (bodies_in (is_in_body P r) (shape_at t r))) 0)
  unfolding places_of P
  placed x c d o =
      settled t n n r x (replicate n false) ok.named (omega arith) (rw (length-replicate n false) (omega arith)) a b c d
      (only-namer x c d o)
      (get_or-replicate n (x - 1) false false (omega arith))

own : (x : ℕ) → cond {A = ℕ} (eqb x x) 1 0 ≡ 1
own x = rw (eq-eqb x x refl) refl

nought : (k : ℕ) → k ≡ 0 → not (eqb k 0) ≡ false
nought k e = rw (eq-eqb k 0 e) refl

some : (k : ℕ) → 1 ≤ k → not (eqb k 0) ≡ true
some k h = rw (ne_eqb k 0 (λ (e : k ≡ 0). omega arith)) refl

-- A row of shape s names each row once; where it stands in the table its place follows.
module _
    (p : ℕ → Bool)
    (b : Bool)
    (r : ℕ)
  where
    by_shape : (s : Shape) → AllBetween r (named_in s)
        → ((x : ℕ) → 1 ≤ x → x < r → 1 ≤ occurrences x (named_in s) → occurrences x (named_in s) ≡ 1)
        → ((x : ℕ) → 1 ≤ x → x < r → 1 ≤ occurrences x (named_in s) → p x ≡ not (eqb (occurrences x (bodies_in b s)) 0))
        → map p (named_in s) ≡ field_places b s
    unfolding named_in bodies_in field_places occurrences
    by_shape (Identifier i) l o h = refl
    by_shape (Constant k i) l o h = refl
    by_shape (Pair x y) l o h =
        let u : p x ≡ false = h x l.0.0 l.0.1 (omega (arith, own x)) in
        let v : p y ≡ false = h y l.1.0.0 l.1.0.1 (omega (arith, own y)) in
        rw (u, v) refl
    by_shape (Operator k x) l o h = rw (h x l.0.0 l.0.1 (omega (arith, own x))) refl
    by_shape (Let i k x y) l o h = go b refl
      where
        ox : cond {A = ℕ} (eqb x x) 1 0 + (cond (eqb y x) 1 0 + 0) ≡ 1
        ox = o x l.0.0 l.0.1 (omega (arith, own x))

        go : (c : Bool) → b ≡ c → p x ∷ p y ∷ [] ≡ false ∷ b ∷ []
        go true e =
            let u : p x ≡ false = h x l.0.0 l.0.1 (omega (arith, own x)) ∙ rw e (nought (cond (eqb y x) 1 0 + 0) (omega (arith, own x, ox))) in
            let v : p y ≡ true = h y l.1.0.0 l.1.0.1 (omega (arith, own y)) ∙ rw e (some (cond (eqb y y) 1 0 + 0) (omega (arith, own y))) in
            rw (u, v, e) refl
        go false e =
            let u : p x ≡ false = h x l.0.0 l.0.1 (omega (arith, own x)) ∙ rw e refl in
            let v : p y ≡ false = h y l.1.0.0 l.1.0.1 (omega (arith, own y)) ∙ rw e refl in
            rw (u, v, e) refl
    by_shape (If x y z) l o h = go b refl
      where
        ox : cond {A = ℕ} (eqb x x) 1 0 + (cond (eqb y x) 1 0 + (cond (eqb z x) 1 0 + 0)) ≡ 1
        ox = o x l.0.0 l.0.1 (omega (arith, own x))

        go : (c : Bool) → b ≡ c → p x ∷ p y ∷ p z ∷ [] ≡ false ∷ b ∷ b ∷ []
        go true e =
            let u : p x ≡ false = h x l.0.0 l.0.1 (omega (arith, own x)) ∙ rw e (nought (cond (eqb y x) 1 0 + (cond (eqb z x) 1 0 + 0)) (omega (arith, own x, ox))) in
            let v : p y ≡ true = h y l.1.0.0 l.1.0.1 (omega (arith, own y)) ∙ rw e (some (cond (eqb y y) 1 0 + (cond (eqb z y) 1 0 + 0)) (omega (arith, own y))) in
            let w : p z ≡ true = h z l.1.1.0.0 l.1.1.0.1 (omega (arith, own z)) ∙ rw e (some (cond (eqb y z) 1 0 + (cond (eqb z z) 1 0 + 0)) (omega (arith, own z))) in
            rw (u, v, w, e) refl
        go false e =
            let u : p x ≡ false = h x l.0.0 l.0.1 (omega (arith, own x)) ∙ rw e refl in
            let v : p y ≡ false = h y l.1.0.0 l.1.0.1 (omega (arith, own y)) ∙ rw e refl in
            let w : p z ≡ false = h z l.1.1.0.0 l.1.1.0.1 (omega (arith, own z)) ∙ rw e refl in
            rw (u, v, w, e) refl
    by_shape (For i k x y) l o h =
        let ox : cond {A = ℕ} (eqb x x) 1 0 + (cond (eqb y x) 1 0 + 0) ≡ 1 = o x l.0.0 l.0.1 (omega (arith, own x)) in
        let u : p x ≡ false = h x l.0.0 l.0.1 (omega (arith, own x)) ∙ nought (cond (eqb y x) 1 0 + 0) (omega (arith, own x)) in
        let v : p y ≡ true = h y l.1.0.0 l.1.0.1 (omega (arith, own y)) ∙ some (cond (eqb y y) 1 0 + 0) (omega (arith, own y)) in
        rw (u, v) refl
    by_shape (Iter x) l o h = rw (h x l.0.0 l.0.1 (omega (arith, own x))) refl

module _ (t : List ℕ) (n : ℕ) (ok : Sound t n) (r : ℕ) (a : 1 ≤ r) (b : r ≤ n) where
  -- The rows in `bodies_in` are in body places, the others that row r names in expression places.
  pub places-named : map (λ x. is_in_body (places_of t n) x) (named_in (shape_at t r)) ≡ field_places (is_in_body (places_of t n) r) (shape_at t r)
  unfolding P
  places-named =
      by_shape (λ x. is_in_body (places_of t n) x) (is_in_body (places_of t n) r) r (shape_at t r) (ok.named.names r a b)
      (named-once t n ok r a b) (placed t n ok r a b)

  -- The same where the row's shape is known.
  pub places-as : (s : Shape) → shape_at t r ≡ s → map (λ x. is_in_body (places_of t n) x) (named_in s) ≡ field_places (is_in_body (places_of t n) r) s
  places-as s e = subst (λ (z : Shape). map (λ x. is_in_body (places_of t n) x) (named_in z) ≡ field_places (is_in_body (places_of t n) r) z) e places-named

find-namer : (t : List ℕ) (n m x : ℕ) → Named t n → m ≤ n → 1 ≤ x → 1 ≤ occurrences x (all_named t m) → Namer t n x
unfolding all_named occurrences
find-namer t n zero x ok l h o = absurd (omega arith)
find-namer t n (suc m) x ok l h o = go (dec_lt 0 (occurrences x (named_in (shape_at t (suc m)))))
    (λ (z : 1 ≤ occurrences x (all_named t m)). find-namer t n m x ok (omega arith) h z)
  where
    all : occurrences x (all_named t m ++ named_in (shape_at t (suc m))) ≡ occurrences x (all_named t m) + occurrences x (named_in (shape_at t (suc m)))
    all = occurs-append x (all_named t m) (named_in (shape_at t (suc m)))

    go : Dec (0 < occurrences x (named_in (shape_at t (suc m)))) → (1 ≤ occurrences x (all_named t m) → Namer t n x) → Namer t n x
    go (yes y) later = record { row = suc m; later = low (dec_lt x (suc m)); inside = l; names = y }
      where
        low : Dec (x < suc m) → x < suc m
        low (yes z) = z
        low (no z) = absurd (let e = occurs-not x (suc m) (named_in (shape_at t (suc m))) (ok.names (suc m) (omega arith) l) (omega arith) in omega arith)
    go (no y) later = later (omega (arith, all))

pub namer : (t : List ℕ) (n : ℕ) → Sound t n → (x : ℕ) → 1 ≤ x → x < n → Namer t n x
namer t n ok x h l = find-namer t n n x ok.named (omega arith) h (let e = ok.once x h l in omega arith)

-- No row names the last, which is in an expression place.
pub last-place : (t : List ℕ) (n : ℕ) → Named t n → 1 ≤ n → is_in_body (places_of t n) n ≡ false
unfolding places_of
last-place t n ok h =
    untouched t n n (replicate n false) n ok (omega arith) h (rw (length-replicate n false) (omega arith))
    (λ k a b. occurs-not n k (named_in (shape_at t k)) (ok.names k a b) b)
    ∙ get_or-replicate n (n - 1) false false (omega arith)
