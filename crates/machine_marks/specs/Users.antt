-- Who uses a link: a place for its taker, the operator that names it as an input, and one for its putter, which names it as an output; 65535 for none.
-- Where a second port on a side names it (no made graph has one), or the table ends before its places, there is no table. Assumes nothing.
use Rattle.std.specs.Prelude.{ℕ, ◌+◌, ◌*◌, ◌/◌, ◌%◌, ◌≤◌, ◌<◌, ◌≡◌, refl, ◌≢◌, Bool, true, false, List, length, get_or, set}
use Rattle.std.proofs.Common.{sym, ap, ◌∙◌, arith, length-set, get_or-set_same, get_or-set_other}
use Rattle.std.proofs.lemmas.Bool.{false≢true}
use Rattle.std.proofs.Math.Decide.{ℕ_discrete}
use Rattle.machine_layout.specs.Layout.{port_of}

-- operator j found or made the user of link l on a side (0: its taker, 1: its putter), where the answer is true
pub record Noted (u u' : List ℕ) (l side j : ℕ) (r : Bool) : Type 0 where
  pub inside : r ≡ true → l < 3105 → 2 * l + side < length u
  pub free : r ≡ true → l < 3105 → get_or u (2 * l + side) 0 ≡ 65535
  pub got : r ≡ true → l < 3105 → get_or u' (2 * l + side) 0 ≡ j
  pub kept : (at y : ℕ) → y < 65535 → get_or u at 0 ≡ y → get_or u' at 0 ≡ y
  pub len : length u' ≡ length u

module _ (u : List ℕ) (l side j : ℕ) where
  pub noted-none : (r : Bool) → (r ≡ true → 3105 ≤ l) → Noted u u l side j r
  noted-none r h = record {
    inside = λ e k. absurd (let a = h e in omega arith);
    free = λ e k. absurd (let a = h e in omega arith);
    got = λ e k. absurd (let a = h e in omega arith);
    kept = λ at y k f. f;
    len = refl;
  }

  pub noted-set : get_or u (2 * l + side) 0 ≡ 65535 → 2 * l + side < length u → Noted u (set u (2 * l + side) j) l side j true
  noted-set e h = record {
    inside = λ a k. h;
    free = λ a k. e;
    got = λ a k. get_or-set_same u (2 * l + side) j 0 h;
    kept = λ at y k f. go at y k f (ℕ_discrete at (2 * l + side));
    len = length-set u (2 * l + side) j;
  }
    where
      go : (at y : ℕ) → y < 65535 → get_or u at 0 ≡ y → Dec (at ≡ 2 * l + side) → get_or (set u (2 * l + side) j) at 0 ≡ y
      go at y k f (yes p) = absurd (let q : get_or u at 0 ≡ 65535 = (rw p e) in omega arith)
      go at y k f (no n) = get_or-set_other u (2 * l + side) at j 0 n ∙ f

-- ports in a row, six an operator: the link that port x names, its side, and the place of its user
abbrev pub link_of : List ℕ → ℕ → ℕ
link_of m x = port_of m (x / 6) (x % 6)

abbrev pub side_of : ℕ → ℕ
side_of x = x % 6 / 3

abbrev pub place_of : List ℕ → ℕ → ℕ
place_of m x = 2 * link_of m x + side_of x

-- the first e ports have their places, and no two of a side name one link
pub record Filled (u m : List ℕ) (e : ℕ) : Type 0 where
  pub inside : (x : ℕ) → x < e → link_of m x < 3105 → place_of m x < length u
  pub user : (x : ℕ) → x < e → link_of m x < 3105 → get_or u (place_of m x) 0 ≡ x / 6
  pub once : (x y : ℕ) → x < e → y < e → link_of m x < 3105 → link_of m x ≡ link_of m y → side_of x ≡ side_of y → x ≡ y

pub filled_none : (u m : List ℕ) → Filled u m 0
filled_none u m = record { inside = λ x h. absurd (omega arith); user = λ x h. absurd (omega arith); once = λ x y h. absurd (omega arith) }

module _ (u u' m : List ℕ) (e : ℕ) (small : e < 6144) (f : Filled u m e) (h : Noted u u' (link_of m e) (side_of e) (e / 6) true) where
  -- the place was free, so no earlier port of the side names the link
  fresh : (x : ℕ) → x < e → link_of m x < 3105 → link_of m x ≡ link_of m e → side_of x ≡ side_of e → ⊥
  fresh x k b p q =
      let a = f.user x k b in
      let c = h.free refl (rw p at b) in
      let s : place_of m x ≡ place_of m e = omega arith in
      omega (arith, rw s at a, c)

  pub filled_more : Filled u' m (e + 1)
  filled_more = record {
    inside = λ x k b. in! x k b (ℕ_discrete x e);
    user = λ x k b. user! x k b (ℕ_discrete x e);
    once = λ x y k k' b p q. once! x y k k' b p q (ℕ_discrete x e) (ℕ_discrete y e);
  }
    where
      in! : (x : ℕ) → x < e + 1 → link_of m x < 3105 → Dec (x ≡ e) → place_of m x < length u'
      in! x k b (yes p) = rw (p, h.len) (h.inside refl (rw p at b))
      in! x k b (no n) = rw h.len (f.inside x (omega arith) b)

      user! : (x : ℕ) → x < e + 1 → link_of m x < 3105 → Dec (x ≡ e) → get_or u' (place_of m x) 0 ≡ x / 6
      user! x k b (yes p) = rw p (h.got refl (rw p at b))
      user! x k b (no n) = h.kept (place_of m x) (x / 6) (omega arith) (f.user x (omega arith) b)

      once! : (x y : ℕ) → x < e + 1 → y < e + 1 → link_of m x < 3105 → link_of m x ≡ link_of m y → side_of x ≡ side_of y → Dec (x ≡ e) → Dec (y ≡ e) → x ≡ y
      once! x y k k' b p q (yes i) (yes j) = i ∙ sym j
      once! x y k k' b p q (yes i) (no j) = absurd (fresh y (omega arith) (rw p at b) (sym p ∙ rw i refl) (sym q ∙ rw i refl))
      once! x y k k' b p q (no i) (yes j) = absurd (fresh x (omega arith) b (p ∙ rw j refl) (q ∙ rw j refl))
      once! x y k k' b p q (no i) (no j) = f.once x y (omega arith) (omega arith) b p q

-- one port more, by operator, side and port of the side
pub filled-port : (u u' m : List ℕ) (j side k : ℕ) (r : Bool) → j < 1024 → side < 2 → k < 3 → Filled u m (6 * j + 3 * side + k) → Noted u u' (port_of m j (3 * side + k)) side j r → r ≡ true →
    Filled u' m (6 * j + 3 * side + (k + 1))
filled-port u u' m j side k r jl sl kl f h t =
    let a : (6 * j + 3 * side + k) / 6 ≡ j = omega arith in
    let d : (6 * j + 3 * side + k) % 6 ≡ 3 * side + k = omega arith in
    let s : (3 * side + k) / 3 ≡ side = omega arith in
    let e : 6 * j + 3 * side + (k + 1) ≡ 6 * j + 3 * side + k + 1 = omega arith in
    rw e (filled_more u u' m (6 * j + 3 * side + k) (omega arith) f (rw (a, d, s) (rw t at h)))

pub filled-upto : (u m : List ℕ) (a b : ℕ) → a ≡ b → Filled u m a → Filled u m b
filled-upto u m a b e f = rw e at f

-- the ports of another memory, where they name the same links
pub filled-same : (u m m' : List ℕ) (e : ℕ) → e ≤ 6144 → ((j k : ℕ) → j < 1024 → k < 6 → port_of m' j k ≡ port_of m j k) → Filled u m e → Filled u m' e
filled-same u m m' e h s f = record {
  inside = λ x k b. let p = at x k in rw p (f.inside x k (rw p at b));
  user = λ x k b. let p = at x k in rw p (f.user x k (rw p at b));
  once = λ x y k k' b q t. let p = at x k in f.once x y k k' (rw p at b) (sym p ∙ q ∙ at y k') t;
}
  where
    at : (x : ℕ) → x < e → link_of m' x ≡ link_of m x
    at x k = s (x / 6) (x % 6) (omega arith) (omega arith)

-- the same by operator and port
module _ (u m : List ℕ) (n : ℕ) (f : Filled u m (6 * n)) where
  pub user-inside : (j k : ℕ) → j < n → k < 6 → port_of m j k < 3105 → 2 * port_of m j k + k / 3 < length u
  user-inside j k jl kl b =
      let a : (6 * j + k) / 6 ≡ j = omega arith in
      let d : (6 * j + k) % 6 ≡ k = omega arith in
      (rw (a, d) at (f.inside (6 * j + k) (omega arith))) b

  pub user-found : (j k : ℕ) → j < n → k < 6 → port_of m j k < 3105 → get_or u (2 * port_of m j k + k / 3) 0 ≡ j
  user-found j k jl kl b =
      let a : (6 * j + k) / 6 ≡ j = omega arith in
      let d : (6 * j + k) % 6 ≡ k = omega arith in
      (rw (a, d) at (f.user (6 * j + k) (omega arith))) b

  pub once-named : (i k j k' : ℕ) → i < n → k < 6 → j < n → k' < 6 → port_of m i k < 3105 → port_of m i k ≡ port_of m j k' → k / 3 ≡ k' / 3 → 6 * i + k ≡ 6 * j + k'
  once-named i k j k' il kl jl kl' b p q =
      let a : (6 * i + k) / 6 ≡ i = omega arith in
      let d : (6 * i + k) % 6 ≡ k = omega arith in
      let a' : (6 * j + k') / 6 ≡ j = omega arith in
      let d' : (6 * j + k') % 6 ≡ k' = omega arith in
      (rw (a, d, a', d') at (f.once (6 * i + k) (6 * j + k') (omega arith) (omega arith))) b p q
