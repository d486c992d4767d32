-- Laws of specs/Tally.antt, and what only they need.
use Rattle.std.specs.Prelude.{ℕ, zero, suc, ◌+◌, ◌*◌, ◌≤◌, ◌<◌, ◌≡◌, refl, Bool, true, false, ◌&&◌, ◌||◌, not, List, [], ◌∷◌, ◌++◌, take, drop, eqb}
use Rattle.std.proofs.Common.{sym, ap, ap₂, ◌∙◌, inl, inr, eqb-true, eq-eqb, ne_eqb, arith, zero-add}
use Rattle.std.proofs.Math.Dec.{eqb-suc-suc}
use Rattle.std.proofs.lemmas.Bool.{eqb-false}
use Rattle.names.specs.Names.{Names, one, union, common, without, later, bit, put, size_from, members_from}
use Rattle.names.proofs.Counts.{size_from-suc}
use Rattle.network.specs.Uses.{In}
use Rattle.graph.specs.Assembly.{name_count, up_from, listed}
use Rattle.theory_wiring.specs.Tally.{times, amount, sum_over, list_sum}

pub times-append : (l : ℕ) (xs ys : List ℕ) → times l (xs ++ ys) ≡ times l xs + times l ys
unfolding times
times-append l [] ys = sym (zero-add (times l ys))
times-append l (x ∷ xs) ys = omega (arith, times-append l xs ys)

pub times-nil : (l : ℕ) → times l [] ≡ 0
unfolding times
times-nil l = refl

pub times-one : (l x : ℕ) → times l (x ∷ []) ≡ bit (eqb x l)
unfolding times
times-one l x = omega arith

pub times_cut : (l k : ℕ) (xs : List ℕ) → times l (take k xs) + times l (drop k xs) ≡ times l xs
unfolding times
times_cut l zero xs = zero-add (times l xs)
times_cut l (suc k) [] = refl
times_cut l (suc k) (x ∷ xs) = omega (arith, times_cut l k xs)

pub in-times : (l : ℕ) (xs : List ℕ) → In l xs → 1 ≤ times l xs
unfolding times
in-times l [] i = absurd i
in-times l (x ∷ xs) (inl e) = let b : bit (eqb x l) ≡ 1 = ap bit (eq-eqb x l (sym e)) in omega arith
in-times l (x ∷ xs) (inr i) = omega (arith, in-times l xs i)

-- ---- a stretch of links
pub times-up_from : (l n a b : ℕ) → times l (up_from n (a + b)) ≡ times l (up_from n a) + times l (up_from (n + a) b)
unfolding times up_from
times-up_from l n zero b =
    let e : 0 + b ≡ b = omega arith in
    let z : n + 0 ≡ n = omega arith in
    rw (e, z) (omega arith)
times-up_from l n (suc a) b =
    let e : suc a + b ≡ suc (a + b) = omega arith in
    let z : n + suc a ≡ suc n + a = omega arith in
    rw (e, z) (omega (arith, times-up_from l (suc n) a b))

pub before-times : (l n k : ℕ) → l < n → times l (up_from n k) ≡ 0
unfolding times up_from
before-times l n zero p = refl
before-times l n (suc k) p = let z : bit (eqb n l) ≡ 0 = ap bit (ne_eqb n l (λ e. omega arith)) in omega (arith, before-times l (suc n) k (omega arith))

pub behind-times : (l n k : ℕ) → n + k ≤ l → times l (up_from n k) ≡ 0
unfolding times up_from
behind-times l n zero p = refl
behind-times l n (suc k) p = let z : bit (eqb n l) ≡ 0 = ap bit (ne_eqb n l (λ e. omega arith)) in omega (arith, behind-times l (suc n) k (omega arith))

pub within-times : (l n k : ℕ) → n ≤ l → l < n + k → times l (up_from n k) ≡ 1
unfolding times up_from
within-times l n zero p q = absurd (omega arith)
within-times l n (suc k) p q = go (eqb n l) refl (λ h. within-times l (suc n) k h (omega arith))
  where
    go : (b : Bool) → eqb n l ≡ b → (suc n ≤ l → times l (up_from (suc n) k) ≡ 1) → bit b + times l (up_from (suc n) k) ≡ 1
    go true e ih = let z = eqb-true n l e in omega (arith, before-times l (suc n) k (omega arith))
    go false e ih = let z = eqb-false n l e in omega (arith, ih (omega arith))

amount-same : (b : Bool) (p q : ℕ) → (b ≡ true → p ≡ q) → amount b p ≡ amount b q
amount-same true p q h = h refl
amount-same false p q h = refl

pub sum-cong : (k : ℕ) (f g : Names) (φ ψ : ℕ → ℕ) → ((i : ℕ) → i < k → f i ≡ g i) → ((i : ℕ) → i < k → g i ≡ true → φ i ≡ ψ i) → sum_over k f φ ≡ sum_over k g ψ
unfolding sum_over
sum-cong zero f g φ ψ h e = refl
sum-cong (suc k) f g φ ψ h e =
    ap₂ ◌+◌ (ap (λ (b : Bool). amount b (φ 0)) (h 0 (omega arith)) ∙ amount-same (g 0) (φ 0) (ψ 0) (e 0 (omega arith)))
    (sum-cong k (later f) (later g) (λ i. φ (suc i)) (λ i. ψ (suc i)) (λ i l. h (suc i) (omega arith)) (λ i l m. e (suc i) (omega arith) m))

pub sum_same : (k : ℕ) (f : Names) (φ ψ : ℕ → ℕ) → ((i : ℕ) → i < k → f i ≡ true → φ i ≡ ψ i) → sum_over k f φ ≡ sum_over k f ψ
sum_same k f φ ψ e = sum-cong k f f φ ψ (λ i l. refl) e

pub sum-none : (k : ℕ) (f : Names) (φ : ℕ → ℕ) → ((i : ℕ) → i < k → f i ≡ false) → sum_over k f φ ≡ 0
unfolding sum_over
sum-none zero f φ h = refl
sum-none (suc k) f φ h =
    let z : amount (f 0) (φ 0) ≡ 0 = ap (λ (b : Bool). amount b (φ 0)) (h 0 (omega arith)) in
    omega (arith, sum-none k (later f) (λ i. φ (suc i)) (λ i l. h (suc i) (omega arith)))

pub sum_one : (k x : ℕ) (φ : ℕ → ℕ) → x < k → sum_over k (one x) φ ≡ φ x
unfolding sum_over
sum_one zero x φ h = absurd (omega arith)
sum_one (suc k) zero φ h = omega (arith, sum-none k (later (one 0)) (λ i. φ (suc i)) (λ i l. ne_eqb 0 (suc i) (λ e. omega arith)))
sum_one (suc k) (suc x) φ h =
    let z : amount (eqb (suc x) 0) (φ 0) ≡ 0 = ap (λ (b : Bool). amount b (φ 0)) (ne_eqb (suc x) 0 (λ e. omega arith)) in
    omega (arith, sum-cong k (later (one (suc x))) (one x) (λ i. φ (suc i)) (λ i. φ (suc i)) (λ i l. eqb-suc-suc x i) (λ i l m. refl), sum_one k x (λ i. φ (suc i)) (omega arith))

-- one place more
pub sum-end : (k : ℕ) (f : Names) (φ : ℕ → ℕ) → sum_over (suc k) f φ ≡ sum_over k f φ + amount (f k) (φ k)
unfolding sum_over
sum-end zero f φ = omega arith
sum-end (suc k) f φ = omega (arith, sum-end k (later f) (λ i. φ (suc i)))

amount-plus : (b : Bool) (p q : ℕ) → amount b (p + q) ≡ amount b p + amount b q
amount-plus true p q = refl
amount-plus false p q = refl

pub sum-plus : (k : ℕ) (f : Names) (φ ψ : ℕ → ℕ) → sum_over k f (λ i. φ i + ψ i) ≡ sum_over k f φ + sum_over k f ψ
unfolding sum_over
sum-plus zero f φ ψ = refl
sum-plus (suc k) f φ ψ = omega (arith, amount-plus (f 0) (φ 0) (ψ 0), sum-plus k (later f) (λ i. φ (suc i)) (λ i. ψ (suc i)))

amount-union : (a b : Bool) (p : ℕ) → amount (a || b) p + amount (a && b) p ≡ amount a p + amount b p
amount-union true true p = refl
amount-union true false p = refl
amount-union false true p = omega arith
amount-union false false p = refl

pub sum-union : (k : ℕ) (f g : Names) (φ : ℕ → ℕ) → sum_over k (union f g) φ + sum_over k (common f g) φ ≡ sum_over k f φ + sum_over k g φ
unfolding sum_over
sum-union zero f g φ = refl
sum-union (suc k) f g φ = omega (arith, amount-union (f 0) (g 0) (φ 0), sum-union k (later f) (later g) (λ i. φ (suc i)))

amount-without : (a b : Bool) (p : ℕ) → amount (a && not b) p + amount (a && b) p ≡ amount a p
amount-without true true p = omega arith
amount-without true false p = omega arith
amount-without false true p = refl
amount-without false false p = refl

pub sum-without : (k : ℕ) (f g : Names) (φ : ℕ → ℕ) → sum_over k (without f g) φ + sum_over k (common f g) φ ≡ sum_over k f φ
unfolding sum_over
sum-without zero f g φ = refl
sum-without (suc k) f g φ = omega (arith, amount-without (f 0) (g 0) (φ 0), sum-without k (later f) (later g) (λ i. φ (suc i)))

amount-where : (a b : Bool) (p : ℕ) → amount a (amount b p) ≡ amount (a && b) p
amount-where true b p = refl
amount-where false b p = refl

pub sum-where : (k : ℕ) (f g : Names) (φ : ℕ → ℕ) → sum_over k f (λ i. amount (g i) (φ i)) ≡ sum_over k (common f g) φ
unfolding sum_over
sum-where zero f g φ = refl
sum-where (suc k) f g φ = ap₂ ◌+◌ (amount-where (f 0) (g 0) (φ 0)) (sum-where k (later f) (later g) (λ i. φ (suc i)))

-- a set of names that one user has and a set that another has: what is in both is counted twice
amount-shared : (a b : Bool) (p q r : ℕ) → (a && b ≡ false → (q ≡ p) × (r ≡ p))
    → amount (a && b) p + (amount a q + amount b r) ≡ (amount (a && b) q + amount (a && b) r) + amount (a || b) p
amount-shared true true p q r h = omega arith
amount-shared true false p q r h = let z = h refl in omega arith
amount-shared false true p q r h = let z = h refl in omega arith
amount-shared false false p q r h = refl

pub sum-shared : (k : ℕ) (f g : Names) (φ φ₁ φ₂ : ℕ → ℕ) → ((i : ℕ) → f i && g i ≡ false → (φ₁ i ≡ φ i) × (φ₂ i ≡ φ i))
    → sum_over k (common f g) φ + (sum_over k f φ₁ + sum_over k g φ₂)
    ≡ (sum_over k (common f g) φ₁ + sum_over k (common f g) φ₂) + sum_over k (union f g) φ
unfolding sum_over
sum-shared zero f g φ φ₁ φ₂ h = refl
sum-shared (suc k) f g φ φ₁ φ₂ h =
    let a = amount-shared (f 0) (g 0) (φ 0) (φ₁ 0) (φ₂ 0) (h 0) in
    let b = sum-shared k (later f) (later g) (λ i. φ (suc i)) (λ i. φ₁ (suc i)) (λ i. φ₂ (suc i)) (λ i. h (suc i)) in
    omega arith

-- the members of a set in their order: 1 and 2 links each, one behind the other
pub sum-single : (l n k : ℕ) (f : Names) → sum_over k f (λ i. bit (eqb (n + size_from i f) l)) ≡ times l (up_from n (size_from k f))
unfolding times up_from size_from sum_over
sum-single l n zero f = refl
sum-single l n (suc k) f =
    sum-end k f (λ i. bit (eqb (n + size_from i f) l))
    ∙ rw (size_from-suc k f, times-up_from l n (size_from k f) (bit (f k)), sum-single l n k f)
    (ap (λ (m : ℕ). times l (up_from n (size_from k f)) + m) (go (f k)))
  where
    go : (b : Bool) → amount b (bit (eqb (n + size_from k f) l)) ≡ times l (up_from (n + size_from k f) (bit b))
    go true = omega arith
    go false = refl

pub sum-double : (l n k : ℕ) (f : Names)
    → sum_over k f (λ i. bit (eqb (n + 2 * size_from i f) l) + bit (eqb (n + 2 * size_from i f + 1) l)) ≡ times l (up_from n (2 * size_from k f))
unfolding times up_from size_from sum_over
sum-double l n zero f = refl
sum-double l n (suc k) f =
    let e : 2 * (size_from k f + bit (f k)) ≡ 2 * size_from k f + 2 * bit (f k) = omega arith in
    sum-end k f (λ i. bit (eqb (n + 2 * size_from i f) l) + bit (eqb (n + 2 * size_from i f + 1) l))
    ∙ rw (size_from-suc k f, e, times-up_from l n (2 * size_from k f) (2 * bit (f k)), sum-double l n k f)
    (ap (λ (m : ℕ). times l (up_from n (2 * size_from k f)) + m) (go (f k)))
  where
    go : (b : Bool) → amount b (bit (eqb (n + 2 * size_from k f) l) + bit (eqb (n + 2 * size_from k f + 1) l))
        ≡ times l (up_from (n + 2 * size_from k f) (2 * bit b))
    go true =
        let z : n + 2 * size_from k f + 1 ≡ suc (n + 2 * size_from k f) = omega arith in
        rw z (omega arith)
    go false = refl

list_sum-put : (b : Bool) (x : ℕ) (xs : List ℕ) (φ : ℕ → ℕ) → list_sum (put b x xs) φ ≡ amount b (φ x) + list_sum xs φ
unfolding list_sum
list_sum-put true x xs φ = refl
list_sum-put false x xs φ = omega arith

list_sum-members : (k at : ℕ) (f : Names) (φ : ℕ → ℕ) → list_sum (members_from k at f) φ ≡ sum_over k f (λ i. φ (at + i))
unfolding members_from sum_over list_sum
list_sum-members zero at f φ = refl
list_sum-members (suc k) at f φ =
    list_sum-put (f 0) at (members_from k (suc at) (later f)) φ
    ∙ ap₂ ◌+◌ (ap (λ (i : ℕ). amount (f 0) (φ i)) (omega arith))
    (list_sum-members k (suc at) (later f) φ
    ∙ sum_same k (later f) (λ i. φ (suc at + i)) (λ i. φ (at + suc i)) (λ i l m. ap φ (omega arith)))

pub list_sum-listed : (f : Names) (φ : ℕ → ℕ) → list_sum (listed f) φ ≡ sum_over name_count f φ
unfolding listed
list_sum-listed f φ = list_sum-members name_count 0 f φ ∙ sum_same name_count f (λ i. φ (0 + i)) φ (λ i l m. ap φ (zero-add i))
