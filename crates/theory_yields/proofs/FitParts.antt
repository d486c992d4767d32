-- Laws of specs/FitParts.antt, and what only they need.
use Rattle.std.specs.Prelude.{ℕ, suc, ◌+◌, ◌≤◌, ◌<◌, ◌≡◌, Bool, not, ◌&&◌, ◌||◌, List, [], ◌∷◌, eqb, ltb}
use Rattle.std.proofs.Math.Path.{refl, sym, ap}
use Rattle.std.proofs.Common.{◌∙◌, eq-eqb, eqb-true, ltb-true, ltb-false}
use Rattle.std.proofs.Math.Bool.{true, false, cond}
use Rattle.std.proofs.lemmas.Bool.{false≢true}
use Rattle.std.proofs.Math.ListN.{length}
use native.Mathlib.Omega.{arith}
use Rattle.names.specs.Names.{Names, members}
use Rattle.formula.specs.Tree.{Exp, Body, if_b}
use Rattle.formula.specs.Widths.{iterated}
use Rattle.formula.specs.Count.{returns, iterates}
use Rattle.formula.specs.Admitted.{AdmittedB}
use Rattle.graph.specs.Assembly.{Graph, wire, beside, bind, Gate, T, F, gate_outputs, free, member_of, up_from, name_count}
use Rattle.graph.specs.Yields.{output_count}
use Rattle.graph.specs.Fit.{Fit, Used, gate_inputs}
use Rattle.graph.specs.Translation.{test_name, iterated_name, returned_name, join_name, row, gated, arm, merged, excepted, merge_row, except_row, straight, copied, iterated_join, returned_join, join_names, joined}
use Rattle.theory_yields.proofs.Naming.{or_left, or_right, member-members, length-up_from, up_from-holds, different-members}
use Rattle.theory_yields.specs.Naming.{Small}
use Rattle.theory_yields.specs.BodyWidths.{iterated_outputs}
use Rattle.theory_yields.proofs.BodyWidths.{iterated-outputs, iterated-some, iterated-16, iterated-first, iterated-second, iterated-none}
use Rattle.theory_yields.specs.Choice.{choice, Has}
use Rattle.theory_yields.proofs.Choice.{kept}
use Rattle.theory_yields.specs.Joins.{join_i, join_r}
use Rattle.theory_yields.proofs.Joins.{join_i-is, join_r-is, merge-control, join_r-control}
use Rattle.theory_yields.proofs.ArmNames.{join-different}
use Rattle.theory_yields.specs.FitParts.{Fitting}

-- ---- rows
fit_row : (f : ℕ → Graph) (ns : List ℕ) → ((n : ℕ) → member_of ns n ≡ true → Fit (f n)) → Fit (row f ns)
unfolding row member_of
fit_row f [] h = tt
fit_row f (n ∷ ns) h =
    (h n (or_left (eqb n n) (member_of ns n) (eq-eqb n n refl)), fit_row f ns (λ m i. h m (or_right (eqb n m) (member_of ns m) i)))

count-row : (f : ℕ → Graph) (ns : List ℕ) → ((n : ℕ) → output_count (f n) ≡ 1) → output_count (row f ns) ≡ length ns
unfolding row output_count
count-row f [] h = refl
count-row f (n ∷ ns) h = omega (arith, h n, count-row f ns h)

fit-up : (f : ℕ → Graph) (w : ℕ) → ((i : ℕ) → i < w → Fit (f i)) → Fit (row f (up_from 0 w))
fit-up f w h = fit_row f (up_from 0 w) (λ i m. h i (omega (arith, up_from-holds 0 w i m)))

count-up : (f : ℕ → Graph) (w : ℕ) → ((n : ℕ) → output_count (f n) ≡ 1) → output_count (row f (up_from 0 w)) ≡ w
count-up f w h = count-row f (up_from 0 w) h ∙ length-up_from 0 w

module _ (c : ℕ) (w : ℕ) where
  pub count-merge : (s : Bool → ℕ) → output_count (merge_row c s w) ≡ w
  unfolding merge_row output_count gate_outputs
  count-merge s = count-up (merged c s) w (λ i. refl)

  pub count-except : (s : ℕ) → output_count (except_row c s w) ≡ w
  unfolding except_row output_count gate_outputs
  count-except s = count-up (excepted c s) w (λ i. refl)

  pub count-copied : output_count (copied c w) ≡ w
  unfolding copied output_count
  count-copied = count-up (λ i. wire c) w (λ i. refl)

  pub fit-merge : (s : Bool → ℕ) → c < name_count → s true + w ≤ name_count → s false + w ≤ name_count → Fit (merge_row c s w)
  unfolding merge_row output_count gate_inputs
  fit-merge s h p q = fit-up (merged c s) w (λ i l. ((h, (omega arith, omega arith)), refl))

  fit-except : (s : ℕ) → c < name_count → s + w ≤ name_count → Fit (except_row c s w)
  unfolding except_row output_count gate_inputs
  fit-except s h p = fit-up (excepted c s) w (λ i l. ((h, omega arith), refl))

  fit-copied : c < name_count → Fit (copied c w)
  unfolding copied
  fit-copied h = fit-up (λ i. wire c) w (λ i l. h)

pub count-straight : (s w : ℕ) → output_count (straight s w) ≡ w
unfolding straight output_count
count-straight s w = count-up (λ i. wire (s + i)) w (λ i. refl)

fit-straight : (s w : ℕ) → s + w ≤ name_count → Fit (straight s w)
unfolding straight
fit-straight s w h = fit-up (λ i. wire (s + i)) w (λ i l. omega arith)

-- ---- an arm, and an if
fit-arm : (G : Gate) (f : Names) (a : Graph) → gate_inputs G ≡ 2 → gate_outputs G ≡ 1 → Small f → Has a f → Fit a → Fit (arm G f a)
unfolding arm output_count
fit-arm G f a p q s e h = (
  fit_row (gated G) (members f) (λ n m. ((omega arith, below n m), sym p)),
  h,
  count-row (gated G) (members f) (λ n. q),
  different-members f,
  (λ k m. e k ∙ sym (member-members f s k) ∙ m),
)
  where
    below : (n : ℕ) → member_of (members f) n ≡ true → n < name_count
    below n m = go (ltb n 33) refl
      where
        go : (b : Bool) → ltb n 33 ≡ b → n < name_count
        go true z = omega (arith, ltb-true n 33 z)
        go false z = absurd (false≢true (sym (s n (ltb-false n 33 z)) ∙ sym (member-members f s n) ∙ m))

or-single : (c : Bool) → c || false ≡ true → c ≡ true
or-single true e = refl
or-single false e = e

pub fit-choice : (t : Graph) (ns : List ℕ) (f : Names) (a : Graph) (ms : List ℕ) (g : Names) (b j : Graph)
    → Fitting t ns f a ms g b j → Fit (choice t ns f a ms g b j)
unfolding output_count free member_of gate_inputs gate_outputs arm
fit-choice t ns f a ms g b j z = (
  z.fit-t,
  (
    fit-arm T f a refl refl z.arms.small-f z.arms.has-f z.arms.fit-a,
    (fit-arm F g b refl refl z.arms.small-g z.arms.has-g z.arms.fit-b, z.fit-j, z.arms.count-b, z.different-m, z.used-m),
    z.arms.count-a,
    z.different-n,
    (λ k m.
        or_right (free (arm F g b) k) (free j k && not (member_of ms k))
        (kept (free j k) (member_of ms k) (z.apart k m) ∙ z.used-n k m)
        ),
  ),
  z.one-test,
  (omega arith, refl, tt),
  (λ k m. ap (λ (i : ℕ). free (bind ns (arm T f a) (bind ms (arm F g b) j)) i) (sym (eqb-true test_name k (or-single (eqb test_name k) m))) ∙ test),
)
  where
    test : free (bind ns (arm T f a) (bind ms (arm F g b) j)) test_name ≡ true
    test =
        or_right (free (arm T f a) test_name) (free (bind ms (arm F g b) j) test_name && not (member_of ns test_name))
        (kept (free (bind ms (arm F g b) j) test_name) (member_of ns test_name) (z.arms.from-n test_name (omega arith))
        ∙ or_right (free (arm F g b) test_name) (free j test_name && not (member_of ms test_name))
        (kept (free j test_name) (member_of ms test_name) (z.arms.from-m test_name (omega arith)) ∙ z.used-t))

-- ---- the joins of a body's if
fit-join_i : (b c : Bool) (m n : ℕ) → m ≤ 16 → n ≤ 16 → Fit (join_i b c m n)
fit-join_i true true m n p q = fit-merge (join_name + 1) m iterated_name (omega arith) (omega arith) (omega arith)
fit-join_i true false m n p q = fit-straight (iterated_name true) m (omega arith)
fit-join_i false true m n p q = fit-straight (iterated_name false) n (omega arith)
fit-join_i false false m n p q = tt

fit-join_r : (b c : Bool) (w : ℕ) → w ≤ 16 → Fit (join_r b c w)
fit-join_r true true w p = fit-merge (join_name + 2) w returned_name (omega arith) (omega arith) (omega arith)
fit-join_r true false w p = fit-except (join_name + 2) w (returned_name true) (omega arith) (omega arith)
fit-join_r false true w p = fit-except (join_name + 2) w (returned_name false) (omega arith) (omega arith)
fit-join_r false false w p = fit-copied (join_name + 2) w (omega arith)

pub count-join_i : (b c : Bool) (m n : ℕ) → output_count (join_i b c m n) ≡ cond b m (cond c n 0)
unfolding output_count
count-join_i true true m n = count-merge (join_name + 1) m iterated_name
count-join_i true false m n = count-straight (iterated_name true) m
count-join_i false true m n = count-straight (iterated_name false) n
count-join_i false false m n = refl

pub count-join_r : (b c : Bool) (w : ℕ) → output_count (join_r b c w) ≡ w
count-join_r true true w = count-merge (join_name + 2) w returned_name
count-join_r true false w = count-except (join_name + 2) w (returned_name true)
count-join_r false true w = count-except (join_name + 2) w (returned_name false)
count-join_r false false w = count-copied (join_name + 2) w

-- The iterated outputs of an if, by its arms.
pub if-iterates : (t : Exp) (x y : Body) → AdmittedB (if_b t x y)
    → iterated_outputs (if_b t x y) ≡ cond (iterates x) (iterated x) (cond (iterates y) (iterated y) 0)
unfolding iterated
if-iterates t x y h = iterated-outputs (if_b t x y) ∙ go (iterates x) refl (iterates y) refl
  where
    go : (b : Bool) → iterates x ≡ b → (c : Bool) → iterates y ≡ c → iterated (if_b t x y) ≡ cond b (iterated x) (cond c (iterated y) 0)
    go true p c q = iterated-first t x y h p
    go false p true q = iterated-second t x y h q
    go false p false q = rw (iterated-none x p, iterated-none y q) refl

joined-used : (both : Bool) (i r : Graph) → (both ≡ true → free i (join_name + 1) ≡ true) → free r (join_name + 2) ≡ true
    → Used (join_names both) (beside (wire join_name) (beside i r))
unfolding free join_names member_of
joined-used both i r p q k m = go (eqb join_name k) refl (eqb (join_name + 2) k) refl
  where
    second : (b : Bool) → both ≡ b → member_of (join_names b) k ≡ true → eqb join_name k ≡ false → eqb (join_name + 2) k ≡ false
        → free i k || free r k ≡ true
    second true e m n₁ n₃ =
        let s : eqb (join_name + 1) k || false ≡ true = rw (n₁, n₃) at m in
        or_left (free i k) (free r k) (ap (free i) (sym (eqb-true (join_name + 1) k (or-single (eqb (join_name + 1) k) s))) ∙ p e)
    second false e m n₁ n₃ = let z : false ≡ true = rw (n₁, n₃) at m in absurd (false≢true z)

    go : (b : Bool) → eqb join_name k ≡ b → (c : Bool) → eqb (join_name + 2) k ≡ c → b || (free i k || free r k) ≡ true
    go true e c d = refl
    go false e true d = or_right (free i k) (free r k) (ap (free r) (sym (eqb-true (join_name + 2) k d)) ∙ q)
    go false e false d = second both refl m e d

module _ (w : ℕ) (t : Exp) (x y : Body) (a : AdmittedB (if_b t x y)) where
  pub fit-joined : 1 ≤ w → w ≤ 16 → Fit (joined w x y)
  unfolding joined output_count gate_inputs gate_outputs join_names
  fit-joined h l = (
    (((omega arith, (omega arith, omega arith)), refl)),
    (
      omega arith,
      (
        rw (join_i-is x y) (fit-join_i (iterates x) (iterates y) (iterated x) (iterated y) (iterated-16 x a.2) (iterated-16 y a.3)),
        rw (join_r-is w x y) (fit-join_r (returns x) (returns y) w l),
      ),
    ),
    ports (iterates x && iterates y),
    join-different (iterates x && iterates y),
    joined-used (iterates x && iterates y) (iterated_join x y) (returned_join w x y)
        (λ e. rw (join_i-is x y) (second (iterates x) (iterates y) refl refl e)) (rw (join_r-is w x y) (join_r-control (returns x) (returns y) w h)),
  )
    where
      ports : (both : Bool) → cond both 3 2 ≡ length (join_names both)
      ports true = refl
      ports false = refl

      second : (b c : Bool) → iterates x ≡ b → iterates y ≡ c → b && c ≡ true → free (join_i b c (iterated x) (iterated y)) (join_name + 1) ≡ true
      second true true p q e = merge-control (join_name + 1) iterated_name (iterated x) (iterated-some x a.2 p)
      second true false p q e = absurd (false≢true e)
      second false c p q e = absurd (false≢true e)

  pub count-joined : output_count (joined w x y) ≡ suc (iterated_outputs (if_b t x y) + w)
  unfolding joined output_count
  count-joined =
      let i : output_count (iterated_join x y) ≡ iterated_outputs (if_b t x y) =
      ap output_count (join_i-is x y) ∙ count-join_i (iterates x) (iterates y) (iterated x) (iterated y) ∙ sym (if-iterates t x y a)
      in
      let r : output_count (returned_join w x y) ≡ w = ap output_count (join_r-is w x y) ∙ count-join_r (returns x) (returns y) w in
      omega arith
