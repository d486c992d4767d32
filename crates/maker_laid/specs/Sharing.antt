-- The copies for the names that two parts share (graph/specs/Assembly: `sharing`), as the code writes them: none, one, those of a mask, or those of
-- a mask and then one for a test's output, which stands behind the 33 names. Assumes nothing.
use Prim.Native.Nat.{ℕ, zero, suc, ◌+◌, ◌*◌, ◌<◌}
use Rattle.std.specs.Prelude.{◌≡◌, Bool, false, ◌&&◌, ◌||◌, get_or}
use Rattle.std.proofs.Math.Path.{refl, sym, ap, ap₂, fun_ext}
use Rattle.std.proofs.Common.{◌∙◌, length-append}
use Rattle.std.proofs.Math.Bool.{true, cond}
use Rattle.std.proofs.lemmas.Bool.{false≢true}
use mathlib.Core.List.{List, [], ◌∷◌, ◌++◌}
use Rattle.std.proofs.Math.ListN.{length}
use Rattle.std.proofs.Math.Dec.{eqb}
use borrow.Author.Tests.{eqb-true, eq-eqb, ne_eqb}
use native.Mathlib.Omega.{arith}
use Rattle.machine_layout.specs.Record.{placed}
use Rattle.names.specs.Names.{Names, one, common, mask, members, size_from, members_from, later, put}
use Rattle.names.proofs.Counts.{members_from-cong, length-members_from}
use Rattle.names.proofs.Walk.{members_from-none}
use Rattle.theory_yields.specs.Naming.{Small}
use Rattle.theory_yields.proofs.Naming.{or_left, or_right}
use Rattle.graph.specs.Assembly.{Env, Operator, member_of, rank, total, listed, shared_links, first_use, second_use, sharing, copies_for, copy_of}
use Rattle.graph.specs.Translation.{test_name}
use Rattle.maker_laid.specs.Encode.{encode, encoded, written, written_one}
use Rattle.maker_laid.specs.Masked.{list_of, list-is}
use Rattle.maker_laid.specs.Emitted.{link_in, dealt, copy_record, copy-encoded}
use Rattle.maker_laid.specs.Environments.{Agrees, listed_small, first-agrees, second-agrees}
use Rattle.maker_laid.specs.Laid.{Copied, in_order, listed-length}

-- ---- which copies

copies_length : (xs : List ℕ) (env e₁ e₂ : Env) → length (copies_for xs env e₁ e₂) ≡ length xs
unfolding copies_for
copies_length [] env e₁ e₂ = refl
copies_length (x ∷ xs) env e₁ e₂ = ap suc (copies_length xs env e₁ e₂)

copies-append : (xs ys : List ℕ) (env e₁ e₂ : Env) → copies_for (xs ++ ys) env e₁ e₂ ≡ copies_for xs env e₁ e₂ ++ copies_for ys env e₁ e₂
unfolding copies_for
copies-append [] ys env e₁ e₂ = refl
copies-append (x ∷ xs) ys env e₁ e₂ = ap (λ (r : List Operator). copy_of (env x) (e₁ x) (e₂ x) ∷ r) (copies-append xs ys env e₁ e₂)

copies-same : (xs : List ℕ) (env e₁ e₂ env' e₁' e₂' : Env)
    → ((x : ℕ) → member_of xs x ≡ true → (env x ≡ env' x) × (e₁ x ≡ e₁' x) × (e₂ x ≡ e₂' x)) → copies_for xs env e₁ e₂ ≡ copies_for xs env' e₁' e₂'
unfolding copies_for member_of
copies-same [] env e₁ e₂ env' e₁' e₂' h = refl
copies-same (x ∷ xs) env e₁ e₂ env' e₁' e₂' h =
    let p : (env x ≡ env' x) × (e₁ x ≡ e₁' x) × (e₂ x ≡ e₂' x) = h x (or_left (eqb x x) (member_of xs x) (eq-eqb x x refl)) in
    let r : copies_for xs env e₁ e₂ ≡ copies_for xs env' e₁' e₂' = copies-same xs env e₁ e₂ env' e₁' e₂' (λ y m. h y (or_right (eqb x y) (member_of xs y) m)) in
    λ i. copy_of (p.0 i) (p.1 i) (p.2 i) ∷ r i

members-inside : (n at : ℕ) (f : Names) (x : ℕ) → member_of (members_from n at f) x ≡ true → x < at + n
unfolding members_from member_of
members-inside zero at f x h = absurd (false≢true h)
members-inside (suc n) at f x h = go (f 0) h (λ k. members-inside n (suc at) (later f) x k)
  where
    go : (b : Bool) → member_of (put b at (members_from n (suc at) (later f))) x ≡ true
        → (member_of (members_from n (suc at) (later f)) x ≡ true → x < suc at + n) → x < at + suc n
    go true k ih = split (eqb at x) refl k
      where
        split : (e : Bool) → eqb at x ≡ e → e || member_of (members_from n (suc at) (later f)) x ≡ true → x < at + suc n
        split true e k' = let q : at ≡ x = eqb-true at x e in omega arith
        split false e k' = let q : x < suc at + n = ih k' in omega arith
    go false k ih = let q : x < suc at + n = ih k in omega arith

members-split : (n k at : ℕ) (f : Names) → members_from (n + k) at f ≡ members_from n at f ++ members_from k (at + n) (λ j. f (n + j))
unfolding members_from
members-split zero k at f =
    let z : 0 + k ≡ k = omega arith in
    let y : at + 0 ≡ at = omega arith in
    rw (z, y) (members_from-cong k at f (λ j. f (0 + j)) (λ i _. let w : 0 + i ≡ i = omega arith in ap f (sym w)))
members-split (suc n) k at f =
    let z : suc n + k ≡ suc (n + k) = omega arith in
    let y : at + suc n ≡ suc at + n = omega arith in
    rw (z, y)
    (ap (put (f 0) at)
    (members-split n k (suc at) (later f)
    ∙ ap (λ (r : List ℕ). members_from n (suc at) (later f) ++ r)
    (members_from-cong k (suc at + n) (λ j. later f (n + j)) (λ j. f (suc n + j)) (λ i _. let w : suc (n + i) ≡ suc n + i = omega arith in ap f w)))
    ∙ put-append (f 0) at (members_from n (suc at) (later f)) _)
  where
    put-append : (b : Bool) (x : ℕ) (xs ys : List ℕ) → put b x (xs ++ ys) ≡ put b x xs ++ ys
    put-append true x xs ys = refl
    put-append false x xs ys = refl

lone-at-33 : members_from 70 33 (one 0) ≡ test_name ∷ []
unfolding members_from
lone-at-33 = refl

-- ---- the counts

module _ (f g : Names) (n : ℕ) (env : Env) where
  pub sharing-length : length (sharing f g n env) ≡ total (common f g)
  unfolding sharing
  sharing-length = copies_length (listed (common f g)) env (first_use f g n env) (second_use f g n env) ∙ listed-length (common f g)

  pub shared-count : shared_links f g ≡ 2 * total (common f g)
  unfolding shared_links
  shared-count = refl

-- ---- no name shared

module _ (f g : Names) (h : (x : ℕ) → f x && g x ≡ false) (n : ℕ) (env : Env) where
  none-listed : listed (common f g) ≡ []
  unfolding listed
  none-listed = members_from-none 103 0 (common f g) (λ i _. h i)

  pub copied_none : (m : ℕ) (mem : List ℕ) → Copied f g n m env mem mem n m
  unfolding sharing written copies_for
  copied_none m mem =
      let z : total (common f g) ≡ 0 = sym (listed-length (common f g)) ∙ ap (length {A = ℕ}) none-listed in
      record {
        memory = sym (ap (λ (xs : List ℕ). written mem m (encoded (copies_for xs env (first_use f g n env) (second_use f g n env)))) none-listed);
        links = omega (arith, shared-count f g n env);
        operators = omega (arith, sharing-length f g n env);
      }

  pub first-none : first_use f g n env ≡ env
  unfolding first_use
  first-none = fun_ext (λ (x : ℕ). ap (λ (b : Bool). cond b (n + 2 * rank (common f g) x) (env x)) (h x))

  pub second_none : second_use f g n env ≡ env
  unfolding second_use
  second_none = fun_ext (λ (x : ℕ). ap (λ (b : Bool). cond b (n + 2 * rank (common f g) x + 1) (env x)) (h x))

-- ---- one name shared

-- A name that is the only one of its set.
pub record Lone (c : ℕ) : Type 0 where
  pub list : listed (one c) ≡ c ∷ []
  pub first : size_from c (one c) ≡ 0

pub lone-test : Lone 33
unfolding listed members_from size_from
lone-test = record { list = refl; first = refl }

pub lone-second : Lone 101
unfolding listed members_from size_from
lone-second = record { list = refl; first = refl }

pub lone-third : Lone 102
unfolding listed members_from size_from
lone-third = record { list = refl; first = refl }

module _ (f g : Names) (c : ℕ) (l : Lone c) (h : (x : ℕ) → f x && g x ≡ eqb c x) (n : ℕ) (env : Env) where
  just : common f g ≡ one c
  just = fun_ext h

  pub first_one : first_use f g n env c ≡ n
  unfolding first_use rank
  first_one =
      let z : n + 2 * 0 ≡ n = omega arith in
      ap₂ (λ (b : Bool) (k : ℕ). cond b (n + 2 * k) (env c)) (h c ∙ eq-eqb c c refl) (ap (size_from c) just ∙ l.first) ∙ z

  pub second-one : second_use f g n env c ≡ n + 1
  unfolding second_use rank
  second-one =
      let z : n + 2 * 0 + 1 ≡ n + 1 = omega arith in
      ap₂ (λ (b : Bool) (k : ℕ). cond b (n + 2 * k + 1) (env c)) (h c ∙ eq-eqb c c refl) (ap (size_from c) just ∙ l.first) ∙ z

  pub first-other : (x : ℕ) → (c ≡ x → ⊥) → first_use f g n env x ≡ env x
  unfolding first_use
  first-other x d = ap (λ (b : Bool). cond b (n + 2 * rank (common f g) x) (env x)) (h x ∙ ne_eqb c x d)

  pub second-other : (x : ℕ) → (c ≡ x → ⊥) → second_use f g n env x ≡ env x
  unfolding second_use
  second-other x d = ap (λ (b : Bool). cond b (n + 2 * rank (common f g) x + 1) (env x)) (h x ∙ ne_eqb c x d)

  sharing-one : sharing f g n env ≡ copy_of (env c) n (n + 1) ∷ []
  unfolding sharing copies_for
  sharing-one =
      ap (λ (xs : List ℕ). copies_for xs env (first_use f g n env) (second_use f g n env)) (ap listed just ∙ l.list)
      ∙ ap₂ (λ (a b : ℕ). copy_of (env c) a b ∷ []) first_one second-one

  pub copied-one : (m : ℕ) (mem mem' : List ℕ) → mem' ≡ placed mem m (copy_record (env c) n (n + 1)) → Copied f g n m env mem mem' (n + 2) (m + 1)
  copied-one m mem mem' p =
      let t : total (common f g) ≡ 1 = sym (sharing-length f g n env) ∙ ap (length {A = Operator}) sharing-one in
      record {
        memory =
            p ∙ ap (placed mem m) (sym (copy-encoded (env c) n (n + 1))) ∙ sym (written_one mem m (encode (copy_of (env c) n (n + 1))))
            ∙ ap (λ (os : List Operator). written mem m (encoded os)) (sym sharing-one);
        links = omega (arith, shared-count f g n env);
        operators = omega (arith, sharing-length f g n env);
      }

-- ---- the names of a mask

module _ (f g : Names) (n : ℕ) (env : Env) (e : List ℕ) (len : length e ≡ 33) (a : Agrees env e) (k : ℕ) (is : k ≡ mask (common f g)) where
  list-common : list_of k ≡ members (common f g)
  list-common = list-is k (common f g) is

  pub firsts-agree : Agrees (first_use f g n env) (dealt 2 (list_of k) n e)
  firsts-agree x h = first-agrees f g n env e len a x h ∙ ap (λ (xs : List ℕ). get_or (dealt 2 xs n e) x 0) (sym list-common)

  pub seconds-agree : Agrees (second_use f g n env) (dealt 2 (list_of k) (n + 1) e)
  seconds-agree x h = second-agrees f g n env e len a x h ∙ ap (λ (xs : List ℕ). get_or (dealt 2 xs (n + 1) e) x 0) (sym list-common)

  -- the copies as the code makes them, from the arrays
  abbrev pub arrayCopies : List Operator
  arrayCopies = copies_for (list_of k) (link_in e) (link_in (dealt 2 (list_of k) n e)) (link_in (dealt 2 (list_of k) (n + 1) e))

  as-shared : arrayCopies ≡ copies_for (members (common f g)) env (first_use f g n env) (second_use f g n env)
  unfolding members
  as-shared =
      sym (copies-same (list_of k) env (first_use f g n env) (second_use f g n env) (link_in e) (link_in (dealt 2 (list_of k) n e)) (link_in (dealt 2 (list_of k) (n + 1) e))
      (λ x h. let i : x < 33 = inside x h in (a x i, firsts-agree x i, seconds-agree x i)))
      ∙ ap (λ (xs : List ℕ). copies_for xs env (first_use f g n env) (second_use f g n env)) list-common
    where
      inside : (x : ℕ) → member_of (list_of k) x ≡ true → x < 33
      inside x h = members-inside 33 0 (common f g) x (sym (ap (λ (xs : List ℕ). member_of xs x) list-common) ∙ h)

  pub copied-mask : Small (common f g) → (m : ℕ) (mem mem' : List ℕ) → mem' ≡ written mem m (encoded arrayCopies)
      → Copied f g n m env mem mem' (n + 2 * length (list_of k)) (m + length (list_of k))
  unfolding sharing
  copied-mask s m mem mem' p =
      let q : listed (common f g) ≡ list_of k = listed_small (common f g) s ∙ sym list-common in
      let t : total (common f g) ≡ length (list_of k) = sym (listed-length (common f g)) ∙ ap (length {A = ℕ}) q in
      record {
        memory =
            p ∙ ap (λ (os : List Operator). written mem m (encoded os))
            (as-shared ∙ ap (λ (xs : List ℕ). copies_for xs env (first_use f g n env) (second_use f g n env)) (sym (listed_small (common f g) s)));
        links = omega (arith, shared-count f g n env);
        operators = omega (arith, sharing-length f g n env);
      }

  -- ---- the names of a mask, and then a test's output

  module _ (h : Names) (s : Small h) (c : (x : ℕ) → f x && g x ≡ h x || eqb test_name x) where
    tested-listed : listed (common f g) ≡ members (common f g) ++ (test_name ∷ [])
    unfolding listed members
    tested-listed = members-split 33 70 0 (common f g) ∙ ap (λ (xs : List ℕ). members_from 33 0 (common f g) ++ xs) (only (λ j. c (33 + j) ∙ above j))
      where
        above : (j : ℕ) → h (33 + j) || eqb test_name (33 + j) ≡ eqb 0 j
        above zero = ap (λ (b : Bool). b || eqb 33 (33 + 0)) (s (33 + 0) (omega arith)) ∙ eq-eqb 33 (33 + 0) (omega arith)
        above (suc j) =
            ap (λ (b : Bool). b || eqb 33 (33 + suc j)) (s (33 + suc j) (omega arith))
            ∙ ne_eqb 33 (33 + suc j) (λ (q : 33 ≡ 33 + suc j). omega arith) ∙ sym (ne_eqb 0 (suc j) (λ (q : 0 ≡ suc j). omega arith))

        only : ((j : ℕ) → common f g (33 + j) ≡ one 0 j) → members_from 70 33 (λ j. common f g (33 + j)) ≡ test_name ∷ []
        only q = members_from-cong 70 33 (λ j. common f g (33 + j)) (one 0) (λ i _. q i) ∙ lone-at-33

    below-test : rank (common f g) test_name ≡ length (list_of k)
    unfolding rank members
    below-test = sym (length-members_from 33 0 (common f g)) ∙ ap (length {A = ℕ}) (sym list-common)

    -- the control of each part
    pub tested-first : first_use f g n env test_name ≡ n + 2 * length (list_of k)
    unfolding first_use
    tested-first = ap₂ (λ (b : Bool) (r : ℕ). cond b (n + 2 * r) (env test_name)) (c test_name ∙ or_right (h test_name) (eqb test_name test_name) refl) below-test

    pub tested-second : second_use f g n env test_name ≡ n + 2 * length (list_of k) + 1
    unfolding second_use
    tested-second = ap₂ (λ (b : Bool) (r : ℕ). cond b (n + 2 * r + 1) (env test_name)) (c test_name ∙ or_right (h test_name) (eqb test_name test_name) refl) below-test

    tested-sharing : sharing f g n env ≡ arrayCopies ++ (copy_of (env test_name) (n + 2 * length (list_of k)) (n + 2 * length (list_of k) + 1) ∷ [])
    unfolding sharing copies_for
    tested-sharing =
        ap (λ (xs : List ℕ). copies_for xs env (first_use f g n env) (second_use f g n env)) tested-listed
        ∙ copies-append (members (common f g)) (test_name ∷ []) env (first_use f g n env) (second_use f g n env)
        ∙ ap₂ (λ (xs ys : List Operator). xs ++ ys) (sym as-shared) (ap₂ (λ (p q : ℕ). copy_of (env test_name) p q ∷ []) tested-first tested-second)

    pub copied-tested : (m : ℕ) (mem mem₁ mem₂ : List ℕ) → mem₁ ≡ written mem m (encoded arrayCopies)
        → mem₂ ≡ placed mem₁ (m + length (list_of k)) (copy_record (env test_name) (n + 2 * length (list_of k)) (n + 2 * length (list_of k) + 1))
        → Copied f g n m env mem mem₂ (n + 2 * length (list_of k) + 2) (m + length (list_of k) + 1)
    copied-tested m mem mem₁ mem₂ p q =
        let t : total (common f g) ≡ length (list_of k) + 1 =
        sym (listed-length (common f g)) ∙ ap (length {A = ℕ}) tested-listed ∙ length-append (members (common f g)) (test_name ∷ [])
        ∙ ap (λ (xs : List ℕ). length xs + 1) (sym list-common)
        in
        let count : length arrayCopies ≡ length (list_of k) = copies_length (list_of k) (link_in e) (link_in (dealt 2 (list_of k) n e)) (link_in (dealt 2 (list_of k) (n + 1) e)) in
        let last = copy_of (env test_name) (n + 2 * length (list_of k)) (n + 2 * length (list_of k) + 1) in
        record {
          memory =
              in_order arrayCopies (last ∷ []) mem mem₁ mem₂ m (m + length (list_of k)) p (ap (λ (j : ℕ). m + j) (sym count))
              (q ∙ ap (placed mem₁ (m + length (list_of k))) (sym (copy-encoded (env test_name) (n + 2 * length (list_of k)) (n + 2 * length (list_of k) + 1)))
              ∙ sym (written_one mem₁ (m + length (list_of k)) (encode last)))
              ∙ ap (λ (os : List Operator). written mem m (encoded os)) (sym tested-sharing);
          links = omega (arith, shared-count f g n env, t);
          operators = omega (arith, sharing-length f g n env, t);
        }
