-- What refusal 31's test of an operator's six names, port by port (specs/Valid), comes to: the ports that have a link name links, no two the same,
-- and the others name none. Assumes nothing.
use Prim.Native.Nat.{ℕ, zero, suc, ◌+◌, ◌*◌, ◌≤◌, ◌<◌}
use Rattle.std.specs.Prelude.{◌≡◌, Bool, ◌&&◌, ◌||◌, not, List, [], ◌∷◌, ◌≢◌, ◌⊎◌, ltb, eqb}
use Rattle.std.proofs.Math.Path.{refl}
use Rattle.std.proofs.Common.{sym, ap, ◌∙◌, inl, inr}
use Rattle.std.proofs.Math.Bool.{true, false, or-true, or-false, and-false, and-true, and_comm, and_assoc}
use native.Mathlib.Omega.{arith}
use borrow.Author.Tests.{eq-eqb, ne_eqb, eqb-true, eqb-false, ltb-true, le-leb, lt-leb}
use Rattle.value.specs.Operators.{pick}
use Rattle.value.specs.Bytes.{word_at}
use Rattle.machine_layout.specs.Layout.{ports_at, links_of, no_link, name_at, operator_at, kind_byte, register_at}
use Rattle.machine_layout.specs.Kinds.{inputs_of_kind, outputs_of_kind, has_port, may_lack}
use Rattle.machine_valid.specs.Below.{all_below, and_left, and_right, below_all}
use Rattle.machine_valid.specs.Valid.{unlike, unlike_at, fresh_at, port_ok, named_ok, register_ok, kind_ok, operator_ok}

-- ---- names in a list

-- x is none of the names
unfoldable pub away : ℕ → List ℕ → Bool
away x [] = true
away x (y ∷ ys) = not (eqb x y) && away x ys

-- each names a link, and none is named twice
unfoldable pub apart : ℕ → List ℕ → Bool
apart links [] = true
apart links (x ∷ xs) = ltb x links && (away x xs && apart links xs)

-- each names no link
unfoldable pub nones : List ℕ → Bool
nones [] = true
nones (x ∷ xs) = eqb x no_link && nones xs

abbrev pub shaped : ℕ → List ℕ → List ℕ → Bool
shaped links xs ys = apart links xs && nones ys

-- two names are none where their four bytes are all 255
pub two-names : (x y : ℕ) → x < 65536 → y < 65536 → eqb (x + 65536 * y) 4294967295 ≡ nones (y ∷ x ∷ [])
unfolding nones
two-names x y i j = go (eqb y 65535) refl (eqb x 65535) refl
  where
    go : (a : Bool) → eqb y 65535 ≡ a → (b : Bool) → eqb x 65535 ≡ b → eqb (x + 65536 * y) 4294967295 ≡ a && (b && true)
    go true p true q = eq-eqb (x + 65536 * y) 4294967295 (omega (arith, eqb-true y 65535 p, eqb-true x 65535 q))
    go true p false q = ne_eqb (x + 65536 * y) 4294967295 (λ e. eqb-false x 65535 q (omega (arith, eqb-true y 65535 p)))
    go false p b q = ne_eqb (x + 65536 * y) 4294967295 (λ e. eqb-false y 65535 p (omega arith))

-- ---- the names of an operator, by whether their ports have a link

-- port p of a kind, where it names x, has no link: the kind has no such port, or may lack it and does
unfoldable pub lacks : ℕ → ℕ → ℕ → Bool
lacks kind p x = not (has_port kind p) || (may_lack kind p && eqb x no_link)

-- of the first n ports, the last one first: the names of those that have a link, and of those that have none
unfoldable pub linked : ℕ → (ℕ → ℕ) → ℕ → List ℕ
linked kind f zero = []
linked kind f (suc n) = pick (lacks kind n (f n)) (linked kind f n) (f n ∷ linked kind f n)

unfoldable pub bare : ℕ → (ℕ → ℕ) → ℕ → List ℕ
bare kind f zero = []
bare kind f (suc n) = pick (lacks kind n (f n)) (f n ∷ bare kind f n) (bare kind f n)

port-is : (kind links p x : ℕ) → port_ok kind links p x ≡ pick (lacks kind p x) (eqb x no_link) (ltb x links)
unfolding port_ok lacks
port-is kind links p x = go (has_port kind p) (may_lack kind p) (eqb x 65535) (ltb x links)
  where
    go : (h l e t : Bool) → pick h (t || (l && e)) e ≡ pick (not h || (l && e)) e t
    go false l e t = refl
    go true false e true = refl
    go true false e false = refl
    go true true true true = refl
    go true true true false = refl
    go true true false true = refl
    go true true false false = refl

-- a port without a link, and one with a link, after others: a named, b bare
bare_step : (a b e fresh : Bool) → (e ≡ true → fresh ≡ true) → (a && b) && (e && fresh) ≡ a && (e && b)
bare_step false b e fresh h = refl
bare_step true true true fresh h = h refl
bare_step true true false fresh h = refl
bare_step true false true fresh h = refl
bare_step true false false fresh h = refl

link-step : (a b t fresh clear : Bool) → (b ≡ true → t ≡ true → fresh ≡ clear) → (a && b) && (t && fresh) ≡ (t && (clear && a)) && b
link-step a b false fresh clear h = and-false (a && b)
link-step a false true fresh clear h = ap (λ (c : Bool). c && fresh) (and-false a) ∙ sym (and-false (clear && a))
link-step a true true fresh clear h = rw (h refl refl, and-true a, and-true (clear && a)) (and_comm a clear)

-- a link differs from one by its number alone, and from no link always
link-unlike : (x y : ℕ) → x < no_link → unlike x y ≡ not (eqb x y)
unfolding unlike
link-unlike x y l = rw (ne_eqb x 65535 (λ e. omega arith)) (or-false (not (eqb x y)))

none-unlike : (x y : ℕ) → x < no_link → eqb y no_link ≡ true → unlike x y ≡ true
none-unlike x y l e = link-unlike x y l ∙ ap not (ne_eqb x y (λ p. omega (arith, eqb-true y 65535 e)))

-- no link is like none of those before it
none-fresh : (m : List ℕ) (at p : ℕ) → eqb (name_at m at p) no_link ≡ true → fresh_at m at p ≡ true
unfolding fresh_at unlike_at unlike
none-fresh m at p e = below_all p (unlike_at m at p) (λ q h. other q)
  where
    other : (q : ℕ) → unlike_at m at p q ≡ true
    other q = rw e (or-true (not (eqb (name_at m at p) (name_at m at q))))

module _ (m : List ℕ) (at kind : ℕ) where
  -- a link is like one before it only at a port that has a link
  link-fresh : (p n : ℕ) → name_at m at p < no_link → nones (bare kind (name_at m at) n) ≡ true
      → all_below n (unlike_at m at p) ≡ away (name_at m at p) (linked kind (name_at m at) n)
  unfolding all_below bare linked nones away unlike_at
  link-fresh p zero l h = refl
  link-fresh p (suc n) l h = go (lacks kind n (name_at m at n)) h (link-fresh p n l)
    where
      go : (b : Bool) → nones (pick b (name_at m at n ∷ bare kind (name_at m at) n) (bare kind (name_at m at) n)) ≡ true
          → (nones (bare kind (name_at m at) n) ≡ true → all_below n (unlike_at m at p) ≡ away (name_at m at p) (linked kind (name_at m at) n))
          → all_below n (unlike_at m at p) && unlike (name_at m at p) (name_at m at n)
          ≡ away (name_at m at p) (pick b (linked kind (name_at m at) n) (name_at m at n ∷ linked kind (name_at m at) n))
      go true h I =
          let e = and_left (eqb (name_at m at n) 65535) (nones (bare kind (name_at m at) n)) h in
          let r = and_right (eqb (name_at m at n) 65535) (nones (bare kind (name_at m at) n)) h in
          rw (I r, none-unlike (name_at m at p) (name_at m at n) l e) (and-true (away (name_at m at p) (linked kind (name_at m at) n)))
      go false h I =
          rw (I h, link-unlike (name_at m at p) (name_at m at n) l)
          (and_comm (away (name_at m at p) (linked kind (name_at m at) n)) (not (eqb (name_at m at p) (name_at m at n))))

  -- the test of the first n names
  named-apart : links_of m ≤ no_link → (n : ℕ)
      → all_below n (named_ok m at kind) ≡ shaped (links_of m) (linked kind (name_at m at) n) (bare kind (name_at m at) n)
  unfolding all_below named_ok linked bare apart nones fresh_at
  named-apart w zero = refl
  named-apart w (suc n) =
      rw (named-apart w n, port-is kind (links_of m) n (name_at m at n)) (go (lacks kind n (name_at m at n)))
    where
      go : (b : Bool)
          → (apart (links_of m) (linked kind (name_at m at) n) && nones (bare kind (name_at m at) n))
          && (pick b (eqb (name_at m at n) no_link) (ltb (name_at m at n) (links_of m)) && fresh_at m at n)
          ≡ apart (links_of m) (pick b (linked kind (name_at m at) n) (name_at m at n ∷ linked kind (name_at m at) n))
          && nones (pick b (name_at m at n ∷ bare kind (name_at m at) n) (bare kind (name_at m at) n))
      go true =
          bare_step (apart (links_of m) (linked kind (name_at m at) n)) (nones (bare kind (name_at m at) n)) (eqb (name_at m at n) 65535) (fresh_at m at n)
          (none-fresh m at n)
      go false =
          link-step (apart (links_of m) (linked kind (name_at m at) n)) (nones (bare kind (name_at m at) n)) (ltb (name_at m at n) (links_of m)) (fresh_at m at n)
          (away (name_at m at n) (linked kind (name_at m at) n))
          (λ h t. link-fresh n n (let u = ltb-true (name_at m at n) (links_of m) t in omega arith) h)

-- a kind of operator, its ports with a link named apart and the others not at all
unfoldable pub well_ported : ℕ → ℕ → (ℕ → ℕ) → Bool
well_ported kind links f = kind_ok kind && shaped links (linked kind f 6) (bare kind f 6)

pub operator-ported : (m : List ℕ) (i : ℕ) → links_of m ≤ no_link
    → operator_ok m i
    ≡ well_ported (kind_byte m i) (links_of m) (name_at m (operator_at i + ports_at)) && register_ok (kind_byte m i) (word_at m (register_at i))
unfolding operator_ok well_ported
operator-ported m i w =
    rw (named-apart m (operator_at i + 2) (kind_byte m i) w 6)
    (sym (and_assoc (kind_ok (kind_byte m i)) _ (register_ok (kind_byte m i) (word_at m (register_at i)))))

-- ---- the shapes: a kind's numbers of inputs and outputs, where it can lack none of them

pub record Shape (kind inputs outputs : ℕ) : Type 0 where
  pub known : kind_ok kind ≡ true
  pub full : eqb kind 18 ≡ false
  pub ins : inputs_of_kind kind ≡ inputs
  pub outs : outputs_of_kind kind ≡ outputs

-- operators 1 to 9
pub binary : (kind : ℕ) → 1 ≤ kind → kind ≤ 9 → Shape kind 2 1
unfolding kind_ok inputs_of_kind outputs_of_kind
binary kind a b =
    let z = ne_eqb kind 18 (λ e. omega arith) in
    record {
      known = simp (le-leb 1 kind a, le-leb kind 20 (omega arith));
      full = z;
      ins = simp (le-leb kind 9 b);
      outs = simp (z, ne_eqb kind 13 (λ e. omega arith));
    }

-- operators 10 and 11, and constants
pub unary : (kind : ℕ) → 10 ≤ kind → kind ≤ 12 → Shape kind 1 1
unfolding kind_ok inputs_of_kind outputs_of_kind
unary kind a b =
    let z = ne_eqb kind 18 (λ e. omega arith) in
    record {
      known = simp (le-leb 1 kind (omega arith), le-leb kind 20 (omega arith));
      full = z;
      ins = simp (lt-leb kind 9 (omega arith), le-leb kind 13 (omega arith));
      outs = simp (z, ne_eqb kind 13 (λ e. omega arith));
    }

-- T and F, which stand behind copies
pub selector : (kind : ℕ) → 13 ≤ kind → kind ≢ 13 → kind < 16 → Shape kind 2 1
unfolding kind_ok inputs_of_kind outputs_of_kind
selector kind a c b =
    let z = ne_eqb kind 18 (λ e. omega arith) in
    record {
      known = simp (le-leb 1 kind (omega arith), le-leb kind 20 (omega arith));
      full = z;
      ins = simp (lt-leb kind 9 (omega arith), lt-leb kind 13 (omega arith), z, ne_eqb kind 16 (λ e. omega arith), ne_eqb kind 19 (λ e. omega arith));
      outs = simp (z, ne_eqb kind 13 c);
    }

-- E and FS
pub control : (kind : ℕ) → (kind ≡ 17) ⊎ (kind ≡ 20) → Shape kind 2 1
unfolding kind_ok inputs_of_kind outputs_of_kind
control kind (inl e) = rw e (record { known = refl; full = refl; ins = refl; outs = refl })
control kind (inr e) = rw e (record { known = refl; full = refl; ins = refl; outs = refl })

-- M and FM
pub merge : (kind : ℕ) → (kind ≡ 16) ⊎ (kind ≡ 19) → Shape kind 3 1
unfolding kind_ok inputs_of_kind outputs_of_kind
merge kind (inl e) = rw e (record { known = refl; full = refl; ins = refl; outs = refl })
merge kind (inr e) = rw e (record { known = refl; full = refl; ins = refl; outs = refl })

pub copies : (kind : ℕ) → kind ≡ 13 → Shape kind 1 2
unfolding kind_ok inputs_of_kind outputs_of_kind
copies kind e = rw e (record { known = refl; full = refl; ins = refl; outs = refl })

module _ (kind links : ℕ) (f : ℕ → ℕ) where
  pub two-to-one : Shape kind 2 1 → well_ported kind links f ≡ shaped links (f 3 ∷ f 1 ∷ f 0 ∷ []) (f 5 ∷ f 4 ∷ f 2 ∷ [])
  unfolding well_ported linked bare lacks has_port may_lack
  two-to-one s = simp (s.known, s.full, s.ins, s.outs)

  pub one-to-one : Shape kind 1 1 → well_ported kind links f ≡ shaped links (f 3 ∷ f 0 ∷ []) (f 5 ∷ f 4 ∷ f 2 ∷ f 1 ∷ [])
  unfolding well_ported linked bare lacks has_port may_lack
  one-to-one s = simp (s.known, s.full, s.ins, s.outs)

  pub one-to-two : Shape kind 1 2 → well_ported kind links f ≡ shaped links (f 4 ∷ f 3 ∷ f 0 ∷ []) (f 5 ∷ f 2 ∷ f 1 ∷ [])
  unfolding well_ported linked bare lacks has_port may_lack
  one-to-two s = simp (s.known, s.full, s.ins, s.outs)

  pub three-to-one : Shape kind 3 1 → well_ported kind links f ≡ shaped links (f 3 ∷ f 2 ∷ f 1 ∷ f 0 ∷ []) (f 5 ∷ f 4 ∷ [])
  unfolding well_ported linked bare lacks has_port may_lack
  three-to-one s = simp (s.known, s.full, s.ins, s.outs)

  -- no kind: 0, and what is past the last
  pub no_kind : kind < 1 → false ≡ well_ported kind links f
  unfolding well_ported kind_ok
  no_kind h = simp (lt-leb 1 kind h)

  pub past-kinds : 16 ≤ kind → ((kind ≡ 16) ⊎ (kind ≡ 19) → ⊥) → ((kind ≡ 17) ⊎ (kind ≡ 20) → ⊥) → kind ≢ 18 → false ≡ well_ported kind links f
  unfolding well_ported kind_ok
  past-kinds h m c i = simp (le-leb 1 kind (omega arith), lt-leb kind 20 (far (λ e. m (inl e)) (λ e. m (inr e)) (λ e. c (inl e)) (λ e. c (inr e))))
    where
      far : kind ≢ 16 → kind ≢ 19 → kind ≢ 17 → kind ≢ 20 → 20 < kind
      far a b c d = omega arith

-- IC, by whether its second output has a link
module _ (links : ℕ) (f : ℕ → ℕ) where
  pub ic-lacking : f 4 ≡ no_link → well_ported 18 links f ≡ apart links (f 5 ∷ f 3 ∷ f 2 ∷ f 1 ∷ f 0 ∷ [])
  unfolding well_ported linked bare lacks nones kind_ok apart has_port outputs_of_kind may_lack inputs_of_kind
  ic-lacking e = simp (eq-eqb (f 4) 65535 e) (and-true (apart links (f 5 ∷ f 3 ∷ f 2 ∷ f 1 ∷ f 0 ∷ [])))

  pub ic-whole : f 4 ≢ no_link → well_ported 18 links f ≡ apart links (f 5 ∷ f 4 ∷ f 3 ∷ f 2 ∷ f 1 ∷ f 0 ∷ [])
  unfolding well_ported linked bare lacks nones kind_ok apart has_port outputs_of_kind may_lack inputs_of_kind
  ic-whole e = simp (ne_eqb (f 4) 65535 e) (and-true (apart links (f 5 ∷ f 4 ∷ f 3 ∷ f 2 ∷ f 1 ∷ f 0 ∷ [])))
