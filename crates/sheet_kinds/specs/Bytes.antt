-- Kinds as bytes in lent arrays: 2 is a truth, 4 a float, any other byte a whole number. What an array holds, as the kinds of
-- identifiers; what a write leaves of it, as a binding; and the laws of `bind_kinds`. Assumes nothing.
use Rattle.std.specs.Prelude.{ℕ, zero, suc, ◌+◌, ◌-◌, ◌≤◌, ◌<◌, ◌≡◌, refl, Bool, true, false, cond, ◌&&◌, List, [], ◌∷◌, ◌++◌, eqb, leb, ltb, length, get_or, set}
use Rattle.std.proofs.Common.{sym, ◌∙◌, length-append, length-set, get_or-append-add, get_or-set_same, get_or-set_other}
use Rattle.std.proofs.Math.Path.{ap, fun_ext}
use Rattle.std.proofs.Math.ListN.{get_or-append}
use Rattle.std.proofs.Math.Seq.{paste}
use borrow.Author.Tests.{leb-true, leb-false, ltb-true, ltb-false, le-leb, lt-leb, lt-ltb, le-ltb}
use native.Mathlib.Omega.{arith}
use Rattle.value.specs.declared.ValueKind.{ValueKind}
use Rattle.value.specs.declared.ValueKind.TheVariants.{Whole as whole-kind, Truth as truth-kind, Real as real-kind}
use Rattle.value.specs.Kinds.{same_kind, all_of}
use Rattle.formula.specs.Kinds.{Kinds, bind_kinds, either_kinds, same_kinds, agree_kinds}
use Rattle.eval_words.specs.Words.{paste-before, paste-among, paste-behind}

abbrev pub kind_of_byte : ℕ → ValueKind
kind_of_byte b = cond (eqb b 2) truth-kind (cond (eqb b 4) real-kind whole-kind)

-- The kinds that an array's bytes stand for.
unfoldable pub kinds_in : List ℕ → Kinds
kinds_in l k = kind_of_byte (get_or l k 0)

-- The kinds of the n identifiers from `at` on.
abbrev pub stretch : Kinds → ℕ → ℕ → List ValueKind
stretch f at zero = []
stretch f at (suc n) = f at ∷ stretch f (suc at) n

-- What an array held, with these kinds from `at` on.
abbrev pub Written : ℕ → List ValueKind → List ℕ → List ℕ → Type 0
Written at ks o o' = (kinds_in o' ≡ bind_kinds at (length ks) ks (kinds_in o)) × (length o' ≡ length o)

-- ---- what a binding gives each identifier

module _ (a b : ℕ) (ks : List ValueKind) (f : Kinds) (k : ℕ) where
  bound-among : a ≤ k → k < a + b → bind_kinds a b ks f k ≡ get_or ks (k - a) whole-kind
  unfolding bind_kinds
  bound-among p q = simp (le-leb a k p, lt-ltb k (a + b) q)

  bound-before : k < a → bind_kinds a b ks f k ≡ f k
  unfolding bind_kinds
  bound-before p = simp (lt-leb a k p)

  bound-behind : a + b ≤ k → bind_kinds a b ks f k ≡ f k
  unfolding bind_kinds
  bound-behind p =
      let q : a ≤ k = omega arith in
      simp (le-leb a k q, le-ltb k (a + b) p)

-- Where identifier k stands to the identifiers a to a+b-1.
data Side (a b k : ℕ) : Type 0 where
  before : k < a → Side a b k
  among : a ≤ k → k < a + b → Side a b k
  behind : a ≤ k → a + b ≤ k → Side a b k

side : (a b k : ℕ) → Side a b k
side a b k = go (leb a k) refl (ltb k (a + b)) refl
  where
    go : (s : Bool) → leb a k ≡ s → (t : Bool) → ltb k (a + b) ≡ t → Side a b k
    go false p t q = before (leb-false a k p)
    go true p true q = among (leb-true a k p) (ltb-true k (a + b) q)
    go true p false q = behind (leb-true a k p) (ltb-false k (a + b) q)

bind_is : (a b : ℕ) (ks : List ValueKind) (f g : Kinds)
    → ((k : ℕ) → a ≤ k → k < a + b → g k ≡ get_or ks (k - a) whole-kind)
    → ((k : ℕ) → k < a → g k ≡ f k)
    → ((k : ℕ) → a + b ≤ k → g k ≡ f k)
    → g ≡ bind_kinds a b ks f
bind_is a b ks f g p q r = fun_ext (λ k. go k (side a b k))
  where
    go : (k : ℕ) → Side a b k → g k ≡ bind_kinds a b ks f k
    go k (before h) = q k h ∙ sym (bound-before a b ks f k h)
    go k (among h i) = p k h i ∙ sym (bound-among a b ks f k h i)
    go k (behind h i) = r k i ∙ sym (bound-behind a b ks f k i)

-- Kinds and then more kinds behind them.
pub bind-append : (a : ℕ) (ks ls : List ValueKind) (f : Kinds)
    → bind_kinds (a + length ks) (length ls) ls (bind_kinds a (length ks) ks f) ≡ bind_kinds a (length (ks ++ ls)) (ks ++ ls) f
bind-append a ks ls f =
    bind_is a (length (ks ++ ls)) (ks ++ ls) f (bind_kinds (a + length ks) (length ls) ls (bind_kinds a (length ks) ks f)) inside
    (λ k h. bound-before (a + length ks) (length ls) ls _ k (omega arith) ∙ bound-before a (length ks) ks f k h)
    (λ k h.
    let n : length (ks ++ ls) ≡ length ks + length ls = length-append ks ls in
    bound-behind (a + length ks) (length ls) ls _ k (omega arith) ∙ bound-behind a (length ks) ks f k (omega arith)
    )
  where
    inside : (k : ℕ) → a ≤ k → k < a + length (ks ++ ls)
        → bind_kinds (a + length ks) (length ls) ls (bind_kinds a (length ks) ks f) k ≡ get_or (ks ++ ls) (k - a) whole-kind
    inside k h i = go (side a (length ks) k)
      where
        go : Side a (length ks) k
            → bind_kinds (a + length ks) (length ls) ls (bind_kinds a (length ks) ks f) k ≡ get_or (ks ++ ls) (k - a) whole-kind
        go (before p) = absurd (omega arith)
        go (among p q) =
            bound-before (a + length ks) (length ls) ls _ k q
            ∙ bound-among a (length ks) ks f k p q
            ∙ sym (get_or-append ks ls whole-kind (k - a) (omega arith))
        go (behind p q) =
            let n : length (ks ++ ls) ≡ length ks + length ls = length-append ks ls in
            let e : k - a ≡ length ks + (k - (a + length ks)) = omega arith in
            bound-among (a + length ks) (length ls) ls _ k q (omega arith)
            ∙ sym (get_or-append-add ks ls (k - (a + length ks)) whole-kind)
            ∙ ap (λ (j : ℕ). get_or (ks ++ ls) j whole-kind) (sym e)

-- ---- stretches

pub length-stretch : (f : Kinds) (at n : ℕ) → length (stretch f at n) ≡ n
length-stretch f at zero = refl
length-stretch f at (suc n) = ap suc (length-stretch f (suc at) n)

stretch-at : (f : Kinds) (at n i : ℕ) → i < n → get_or (stretch f at n) i whole-kind ≡ f (at + i)
stretch-at f at zero i h = absurd (omega arith)
stretch-at f at (suc n) zero h =
    let e : at ≡ at + 0 = omega arith in
    ap f e
stretch-at f at (suc n) (suc i) h =
    let e : suc at + i ≡ at + suc i = omega arith in
    stretch-at f (suc at) n i (omega arith) ∙ ap f e

stretch-is : (f : Kinds) (at : ℕ) (ks : List ValueKind)
    → ((i : ℕ) → i < length ks → f (at + i) ≡ get_or ks i whole-kind) → stretch f at (length ks) ≡ ks
stretch-is f at [] h = refl
stretch-is f at (k ∷ ks) h =
    let z : at ≡ at + 0 = omega arith in
    let head : f at ≡ k = ap f z ∙ h 0 (omega arith) in
    let rest : stretch f (suc at) (length ks) ≡ ks =
    stretch-is f (suc at) ks
    (λ i l.
    let e : suc at + i ≡ at + suc i = omega arith in
    ap f e ∙ h (suc i) (omega arith)
    )
    in
    cc

-- What was written is read again.
pub read : (at n : ℕ) (ks : List ValueKind) (o o' : List ℕ) → Written at ks o o' → n ≡ length ks
    → stretch (kinds_in o') at n ≡ ks
read at n ks o o' w e =
    ap (stretch (kinds_in o') at) e
    ∙ stretch-is (kinds_in o') at ks
    (λ i l.
    let z : at + i - at ≡ i = omega arith in
    ap (λ (f : Kinds). f (at + i)) w.0
    ∙ bound-among at (length ks) ks (kinds_in o) (at + i) (omega arith) (omega arith)
    ∙ ap (λ (j : ℕ). get_or ks j whole-kind) z
    )

-- ---- writes

pub put-writes : (l : List ℕ) (at b : ℕ) → at < length l → Written at (kind_of_byte b ∷ []) l (set l at b)
unfolding kinds_in
put-writes l at b h = (
  bind_is at 1 (kind_of_byte b ∷ []) (kinds_in l) (kinds_in (set l at b))
      (λ k p q.
      let e : k ≡ at = omega arith in
      let z : k - at ≡ 0 = omega arith in
      rw (z, e) (ap kind_of_byte (get_or-set_same l at b 0 h))
      )
      (λ k p. ap kind_of_byte (get_or-set_other l at k b 0 (λ e. omega arith)))
      (λ k p. ap kind_of_byte (get_or-set_other l at k b 0 (λ e. omega arith))),
  length-set l at b,
)

pub paste-writes : (l : List ℕ) (at : ℕ) (s : List ℕ) (n : ℕ) → at + n ≤ length l → n ≤ length s
    → kinds_in (paste l at s n) ≡ bind_kinds at (length (stretch (kinds_in s) 0 n)) (stretch (kinds_in s) 0 n) (kinds_in l)
unfolding kinds_in
paste-writes l at s n room given =
    bind_is at n (stretch (kinds_in s) 0 n) (kinds_in l) (kinds_in (paste l at s n))
    (λ k p q.
    let z : 0 + (k - at) ≡ k - at = omega arith in
    ap kind_of_byte (paste-among l at s n room given k p q)
    ∙ ap (kinds_in s) (sym z)
    ∙ sym (stretch-at (kinds_in s) 0 n (k - at) (omega arith))
    )
    (λ k p. ap kind_of_byte (paste-before l at s n room given k p))
    (λ k p. ap kind_of_byte (paste-behind l at s n room given k p))
    ∙ ap (λ (m : ℕ). bind_kinds at m (stretch (kinds_in s) 0 n) (kinds_in l)) (sym (length-stretch (kinds_in s) 0 n))

-- ---- comparing, kind by kind

step : (f : Kinds) (at n i : ℕ) → i < n → stretch f (at + i) (n - i) ≡ f (at + i) ∷ stretch f (at + (i + 1)) (n - (i + 1))
step f at n i h =
    let e : n - i ≡ suc (n - (i + 1)) = omega arith in
    let next : suc (at + i) ≡ at + (i + 1) = omega arith in
    ap (stretch f (at + i)) e ∙ ap (λ (k : ℕ). f (at + i) ∷ stretch f k (n - (i + 1))) next

step-first : (f : Kinds) (n i : ℕ) → i < n → stretch f i (n - i) ≡ f i ∷ stretch f (i + 1) (n - (i + 1))
step-first f n i h =
    let e : n - i ≡ suc (n - (i + 1)) = omega arith in
    let next : suc i ≡ i + 1 = omega arith in
    ap (stretch f i) e ∙ ap (λ (k : ℕ). f i ∷ stretch f k (n - (i + 1))) next

-- What is left to compare from place i on.
abbrev pub same_from : List ℕ → ℕ → List ℕ → ℕ → ℕ → Bool
same_from a at b n i = same_kinds (stretch (kinds_in a) (at + i) (n - i)) (stretch (kinds_in b) i (n - i))

abbrev pub all_from : ValueKind → List ℕ → ℕ → ℕ → Bool
all_from k l n i = all_of k (stretch (kinds_in l) i (n - i))

module _ (a : List ℕ) (at : ℕ) (b : List ℕ) (n : ℕ) where
  pub same_start : same_kinds (stretch (kinds_in a) at n) (stretch (kinds_in b) 0 n) ≡ same_from a at b n 0
  same_start =
      let e : at ≡ at + 0 = omega arith in
      let m : n ≡ n - 0 = omega arith in
      λ j. same_kinds (stretch (kinds_in a) (e j) (m j)) (stretch (kinds_in b) 0 (m j))

  pub same_step : (i : ℕ) → i < n → (same : Bool) → same ≡ same_kind (kind_of_byte (get_or a (at + i) 0)) (kind_of_byte (get_or b i 0))
      → same_from a at b n i ≡ same && same_from a at b n (i + 1)
  unfolding kinds_in
  same_step i h same e =
      (λ j. same_kinds (step (kinds_in a) at n i h j) (step-first (kinds_in b) n i h j))
      ∙ ap (λ (x : Bool). x && same_from a at b n (i + 1)) (sym e)

  pub same_end : (i : ℕ) → n ≤ i → same_from a at b n i ≡ true
  same_end i h =
      let z : n - i ≡ 0 = omega arith in
      ap (λ (m : ℕ). same_kinds (stretch (kinds_in a) (at + i) m) (stretch (kinds_in b) i m)) z

module _ (k : ValueKind) (l : List ℕ) (n : ℕ) where
  pub all_start : all_of k (stretch (kinds_in l) 0 n) ≡ all_from k l n 0
  all_start =
      let m : n ≡ n - 0 = omega arith in
      ap (λ (j : ℕ). all_of k (stretch (kinds_in l) 0 j)) m

  pub all-step : (i : ℕ) → i < n → (same : Bool) → same ≡ same_kind k (kind_of_byte (get_or l i 0))
      → all_from k l n i ≡ same && all_from k l n (i + 1)
  unfolding kinds_in
  all-step i h same e =
      ap (all_of k) (step-first (kinds_in l) n i h) ∙ ap (λ (x : Bool). x && all_from k l n (i + 1)) (sym e)

  pub all_end : (i : ℕ) → n ≤ i → all_from k l n i ≡ true
  all_end i h =
      let z : n - i ≡ 0 = omega arith in
      ap (λ (m : ℕ). all_of k (stretch (kinds_in l) i m)) z

pub never : (x : Bool) → x && false ≡ false
never true = refl
never false = refl

pub differ : (f g : Kinds) (i j n m : ℕ) → (n ≡ m → ⊥) → same_kinds (stretch f i n) (stretch g j m) ≡ false
differ f g i j zero zero h = absurd (h refl)
differ f g i j zero (suc m) h = refl
differ f g i j (suc n) zero h = refl
differ f g i j (suc n) (suc m) h =
    ap (λ (x : Bool). same_kind (f i) (g j) && x) (differ f g (suc i) (suc j) n m (λ e. h (ap suc e))) ∙ never (same_kind (f i) (g j))

module _ (f g : Kinds) where
  pub agree-second : (n m : ℕ) → m ≡ 0 → agree_kinds (stretch f 0 n) (stretch g 0 m) ≡ true
  agree-second zero m e = refl
  agree-second (suc n) zero e = refl
  agree-second (suc n) (suc m) e = absurd (omega arith)

  pub agree-first : (n m : ℕ) → n ≡ 0 → agree_kinds (stretch f 0 n) (stretch g 0 m) ≡ true
  agree-first zero m e = refl
  agree-first (suc n) m e = absurd (omega arith)

  pub agree-both : (n m : ℕ) → (n ≡ 0 → ⊥) → (m ≡ 0 → ⊥)
      → agree_kinds (stretch f 0 n) (stretch g 0 m) ≡ same_kinds (stretch f 0 n) (stretch g 0 m)
  agree-both zero m h i = absurd (h refl)
  agree-both (suc n) zero h i = absurd (i refl)
  agree-both (suc n) (suc m) h i = refl

  pub either_first : (n m : ℕ) → (n ≡ 0 → ⊥) → either_kinds (stretch f 0 n) (stretch g 0 m) ≡ stretch f 0 n
  either_first zero m h = absurd (h refl)
  either_first (suc n) m h = refl

  pub either_second : (n m : ℕ) → n ≡ 0 → either_kinds (stretch f 0 n) (stretch g 0 m) ≡ stretch g 0 m
  either_second zero m e = refl
  either_second (suc n) m e = absurd (omega arith)
