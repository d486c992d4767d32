-- Laws of specs/Choice.antt, and what only they need.
use Rattle.std.specs.Prelude.{ℕ, ◌≤◌, ◌<◌, ◌≡◌, Bool, true, false, not, ◌&&◌, ◌||◌, List, [], ◌∷◌, eqb, ltb}
use Rattle.std.proofs.Math.Path.{refl}
use Rattle.std.proofs.Common.{sym, ap, ◌∙◌, eqb-true, eq-eqb, ne_eqb, ltb-true, ltb-false, arith}
use Rattle.std.proofs.lemmas.Bool.{false≢true, eqb-false}
use Rattle.names.specs.Names.{Names, union, members}
use Rattle.graph.specs.Assembly.{Graph, Gate, T, F, free, member_of}
use Rattle.graph.specs.Translation.{test_name, row, gated, arm}
use Rattle.theory_yields.proofs.Naming.{or-true, or-false, or_left, or_right, member-members}
use Rattle.theory_yields.specs.Naming.{Small}
use Rattle.theory_yields.specs.Choice.{choice, From, Has}

-- ---- truths
pub gone : (a h : Bool) → h ≡ true → a && not h ≡ false
gone true h e = rw e refl
gone false h e = refl

pub kept : (a h : Bool) → h ≡ false → a && not h ≡ a
kept true h e = rw e refl
kept false h e = refl

pub unseen : (a h : Bool) → a ≡ false → a && h ≡ false
unseen a h e = rw e refl

pub or-none : (a : Bool) → a || false ≡ a
or-none true = refl
or-none false = refl

-- ---- rows
pub row-lacks : (f : ℕ → Graph) (ns : List ℕ) (k : ℕ) → ((n : ℕ) → member_of ns n ≡ true → free (f n) k ≡ false) → free (row f ns) k ≡ false
unfolding row free member_of
row-lacks f [] k h = refl
row-lacks f (n ∷ ns) k h =
    or-false (free (f n) k) (free (row f ns) k) (h n (or_left (eqb n n) (member_of ns n) (eq-eqb n n refl)))
    (row-lacks f ns k (λ m i. h m (or_right (eqb n m) (member_of ns m) i)))

pub row_has : (f : ℕ → Graph) (ns : List ℕ) (k n : ℕ) → member_of ns n ≡ true → free (f n) k ≡ true → free (row f ns) k ≡ true
unfolding row free member_of
row_has f [] k n i h = absurd (false≢true i)
row_has f (m ∷ ns) k n i h = go (eqb m n) refl (λ j. row_has f ns k n j h)
  where
    go : (e : Bool) → eqb m n ≡ e → (member_of ns n ≡ true → free (row f ns) k ≡ true) → free (f m) k || free (row f ns) k ≡ true
    go true e ih = or_left (free (f m) k) (free (row f ns) k) (ap (λ (z : ℕ). free (f z) k) (eqb-true m n e) ∙ h)
    go false e ih = or_right (free (f m) k) (free (row f ns) k) (ih (or-true (eqb m n) (member_of ns n) i e))

pub arm-free : (G : Gate) (f : Names) (a : Graph) → Small f → Has a f → (k : ℕ) → (k ≡ test_name → ⊥) → free (arm G f a) k ≡ f k
unfolding arm free
arm-free G f a s e k n = go (f k) refl
  where
    go : (b : Bool) → f k ≡ b → free (row (gated G) (members f)) k || (free a k && not (member_of (members f) k)) ≡ f k
    go true p =
        or_left _ _
        (row_has (gated G) (members f) k k (member-members f s k ∙ p)
        (or_right (eqb test_name k) (eqb k k) (eq-eqb k k refl)))
        ∙ sym p
    go false p =
        or-false _ _
        (row-lacks (gated G) (members f) k
        (λ m i.
        or-false (eqb test_name k) (eqb m k) (ne_eqb test_name k (λ q. n (sym q)))
        (ne_eqb m k (λ q. false≢true (sym p ∙ ap f (sym q) ∙ sym (member-members f s m) ∙ i)))
        ))
        (unseen (free a k) _ (e k ∙ p))
        ∙ sym p

-- ---- the if
module _ (t : Graph) (ns : List ℕ) (f : Names) (a : Graph) (ms : List ℕ) (g : Names) (b j : Graph) where
  -- What joins the arms uses the test's output and the arms' outputs, nothing else.
  abbrev pub Joining : Type 0
  Joining = (k : ℕ) → (k ≡ test_name → ⊥) → member_of ns k ≡ false → member_of ms k ≡ false → free j k ≡ false

  pub choice-free : Small (free t) → Small f → Small g → Has a f → Has b g → From 34 ns → From 34 ms → Joining
      → Has (choice t ns f a ms g b j) (union (free t) (union f g))
  unfolding free member_of
  choice-free st sf sg ea eb fn fm jo k = go (ltb k 33) refl (eqb test_name k) refl
    where
      arm-f : (k ≡ test_name → ⊥) → free (arm T f a) k ≡ f k
      arm-f n = arm-free T f a sf ea k n

      arm-g : (k ≡ test_name → ⊥) → free (arm F g b) k ≡ g k
      arm-g n = arm-free F g b sg eb k n

      inner : Bool
      inner = free (arm T f a) k || ((free (arm F g b) k || (free j k && not (member_of ms k))) && not (member_of ns k))

      tail : (k ≡ test_name → ⊥) → g k ≡ false → (u v : Bool) → member_of ns k ≡ u → member_of ms k ≡ v
          → (free (arm F g b) k || (free j k && not v)) && not u ≡ false
      tail n z true v p q = gone (free (arm F g b) k || (free j k && not v)) true refl
      tail n z false true p q = rw (arm-g n, z) (unseen (free j k && not true) true (gone (free j k) true refl))
      tail n z false false p q = rw (arm-g n, z, jo k n p q) refl

      go : (s : Bool) → ltb k 33 ≡ s → (e : Bool) → eqb test_name k ≡ e
          → free t k || (inner && not (e || false)) ≡ free t k || (f k || g k)
      go true p true q = absurd (omega (arith, ltb-true k 33 p, eqb-true test_name k q))
      go true p false q =
          let lt : k < 33 = ltb-true k 33 p in
          let n : k ≡ test_name → ⊥ = λ z. eqb-false test_name k q (sym z) in
          rw (arm-f n, arm-g n, fn k (omega arith), fm k (omega arith), jo k n (fn k (omega arith)) (fm k (omega arith)))
          (ap (λ (z : Bool). free t k || z) (kept (f k || ((g k || false) && true)) false refl ∙ ap (λ (z : Bool). f k || z) (kept (g k || false) false refl ∙ or-none (g k))))
      go false p true q =
          let ge : 33 ≤ k = ltb-false k 33 p in
          rw (st k ge, sf k ge, sg k ge) (gone inner true refl)
      go false p false q =
          let ge : 33 ≤ k = ltb-false k 33 p in
          let n : k ≡ test_name → ⊥ = λ z. eqb-false test_name k q (sym z) in
          rw (st k ge, sf k ge, sg k ge)
          (unseen inner true (or-false _ _ (arm-f n ∙ sf k ge) (tail n (sg k ge) (member_of ns k) (member_of ms k) refl refl)))
