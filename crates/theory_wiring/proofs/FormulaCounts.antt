-- The graph of an admitted formula has just the operators and links that formula/specs/Count counts (document 01, "The graph", and test 10): the list
-- of its operators is so long and its own links are so many. At most 1,024 operators have at most 3,105 links, the inputs' included.
use Rattle.std.specs.Prelude.{ℕ, ◌+◌, ◌*◌, ◌-◌, ◌≤◌, ◌≡◌, refl, Bool, true, false, not, ◌&&◌, ◌||◌, length}
use Rattle.std.proofs.Common.{ap, ap₂, ◌∙◌, inl, arith}
use Rattle.value.specs.declared.Value.TheVariants.{Truth}
use Rattle.names.specs.Names.{Names, trigger, one, union, common, without, range, size}
use Rattle.names.proofs.Sets.{size-cong, size-le}
use Rattle.formula.specs.Tree.{Exp, identifier, constant, pair, operator, let_e, if_e, for_e, Body, ret, iter, let_b, if_b}
use Rattle.formula.specs.Widths.{width, returned}
use Rattle.formula.specs.Free.{free_e, free_b}
use Rattle.formula.specs.Count.{◌⊕◌, gates, copies, shared, gated as gatedCount, count_e, count_b}
use Rattle.formula.specs.Admitted.{AdmittedE, AdmittedB}
use Rattle.graph.specs.Assembly.{Graph, beside, gate_outputs, free, member_of, up_from, total, Env, links_of, operators_of}
use Rattle.graph.specs.Translation.{test_name, returned_name, constant_of, merge_row, arm_names, joined, graph_e, graph_b, made_of, port_of}
use Rattle.theory_yields.specs.Naming.{Small}
use Rattle.theory_yields.proofs.Naming.{member-up_from}
use Rattle.theory_yields.specs.Choice.{Has}
use Rattle.theory_yields.proofs.Choice.{unseen}
use Rattle.theory_yields.proofs.BodyWidths.{wide_enough, not-too-wide, iterated-16}
use Rattle.theory_yields.proofs.Joins.{merge-control}
use Rattle.theory_yields.proofs.ArmNames.{arm-from-test, joined-lacks, joined-test}
use Rattle.theory_yields.proofs.FreeNames.{small-E, small-B, small-trigger, free-E, free-B, merge-joins, results-from-test}
use Rattle.theory_yields.proofs.FitGraphs.{fit-E}
use Rattle.theory_wiring.specs.Counts.{count_g}
use Rattle.theory_wiring.proofs.Counts.{links-are, operators-are, three-links}
use Rattle.theory_wiring.specs.RowCounts.{Same}
use Rattle.theory_wiring.proofs.RowCounts.{total_size}
use Rattle.theory_wiring.proofs.ChoiceCounts.{choice-count}
use Rattle.theory_wiring.proofs.JoinCounts.{count-merge, merging, joined-count}

-- ---- the names that two parts share
-- by the names of the two formulas
shared-names : (a b : Graph) (f g : Names) → Has a f → Has b g → Small f → total (common (free a) (free b)) ≡ size (common f g)
shared-names a b f g p q s = total_size (common (free a) (free b)) (common f g) (λ k. ap₂ ◌&&◌ (p k) (q k)) (λ k h. unseen (f k) (g k) (s k h))

-- by those of a let or a for, whose identifiers lie inside
shared-bound : (a b : Graph) (f g : Names) (i k : ℕ) → Has a f → Has b g → Small f
    → total (common (free a) (without (free b) (member_of (up_from i k)))) ≡ size (common f (without g (range i k)))
shared-bound a b f g i k p q s =
    total_size (common (free a) (without (free b) (member_of (up_from i k)))) (common f (without g (range i k)))
    (λ n. ap₂ ◌&&◌ (p n) (ap₂ (λ (u v : Bool). u && not v) (q n) (member-up_from i k n)))
    (λ n h. unseen (f n) (without g (range i k) n) (s n h))

-- ---- sums
sum-pair : (s a b s' a' b' : ℕ) → s ≡ s' → a ≡ a' → b ≡ b' → s + (a + b) ≡ s' + (a' + b')
sum-pair s a b s' a' b' p q r = omega arith

sum-pair-links : (s a b s' a' b' : ℕ) → s ≡ s' → a ≡ a' → b ≡ b' → 2 * s + (a + b) ≡ 2 * s' + (a' + b')
sum-pair-links s a b s' a' b' p q r = omega arith

sum-for : (s a t b s' a' t' b' : ℕ) → s ≡ s' → a ≡ a' → t ≡ t' → b ≡ b' → s + (a + (t + ((t - 1) + b))) ≡ s' + (a' + (t' + ((t' - 1) + b')))
sum-for s a t b s' a' t' b' p q r u = omega arith

sum-for-links : (s a t b s' a' t' b' : ℕ) → s ≡ s' → a ≡ a' → t ≡ t' → b ≡ b' → 2 * s + (a + (t + (2 * (t - 1) + b))) ≡ 2 * s' + (a' + (t' + (2 * (t' - 1) + b')))
sum-for-links s a t b s' a' t' b' p q r u = omega arith

sum-if : (s s' c g w t t' a a' b b' j : ℕ) → 1 ≤ w → s ≡ s' → t ≡ t' → a ≡ a' → b ≡ b' → j ≡ w + (w - 1)
    → (s + c) + (g + (g + (t + (a + (b + j))))) ≡ (s' + (c + g)) + (t' + ((g + w - 1) + (a' + (b' + w))))
sum-if s s' c g w t t' a a' b b' j l p q r u v = omega arith

sum-if-links : (s s' c g w t t' a a' b b' j : ℕ) → 1 ≤ w → s ≡ s' → t ≡ t' → a ≡ a' → b ≡ b' → j ≡ w + 2 * (w - 1)
    → 2 * (s + c) + (g + (2 * g + (t + (a + (b + j))))) ≡ (2 * s' + (2 * c + g)) + (t' + (2 * (g + w - 1) + (a' + (b' + w))))
sum-if-links s s' c g w t t' a a' b b' j l p q r u v = omega arith

sum_body : (s s' c g t t' a a' b b' j j' : ℕ) → s ≡ s' → t ≡ t' → a ≡ a' → b ≡ b' → j ≡ j'
    → (s + c) + (g + (g + (t + (a + (b + j))))) ≡ (s' + (c + g)) + (t' + (g + (a' + (b' + j'))))
sum_body s s' c g t t' a a' b b' j j' p q r u v = omega arith

sum-body-links : (s s' c g t t' a a' b b' j j' : ℕ) → s ≡ s' → t ≡ t' → a ≡ a' → b ≡ b' → j ≡ j'
    → 2 * (s + c) + (g + (2 * g + (t + (a + (b + j))))) ≡ (2 * s' + (2 * c + g)) + (t' + (2 * g + (a' + (b' + j'))))
sum-body-links s s' c g t t' a a' b b' j j' p q r u v = omega arith

-- ---- the induction
small-graph : (t : Exp) → AdmittedE t → Small (free (graph_e t))
small-graph t h k l = free-E t h k ∙ small-E t h k l

-- M gates on the results of an expression's if
merge-count : (w : ℕ) → w ≤ 16 → Same (count_g (merge_row test_name returned_name w)) (gates w ⊕ copies (w - 1))
merge-count w h = count-merge test_name returned_name w (merging test_name w returned_name (omega arith) h (omega arith) (inl (omega arith)))

-- a constant beside an expression: a body that ends
ending : (v : Graph) (x : Exp) → AdmittedE x → Has v (one trigger) → Same (count_g v) (gates 1) → Same (count_g (graph_e x)) (count_e x)
    → Same (count_g (beside v (graph_e x))) (shared (one trigger) (free_e x) ⊕ gates 1 ⊕ count_e x)
unfolding count_g shared
ending v x h e c r =
    let s = shared-names v (graph_e x) (one trigger) (free_e x) e (free-E x h) small-trigger in
    (sum-pair _ _ _ _ _ _ s c.0 r.0, sum-pair-links _ _ _ _ _ _ s c.1 r.1)

mutual
  unfolding count_g gate_outputs free graph_e graph_b count_e count_b shared gatedCount width

  pub count-E : (x : Exp) → AdmittedE x → Same (count_g (graph_e x)) (count_e x)
  count-E (identifier a) h = (refl, refl)
  count-E (constant k a) h = (refl, refl)
  count-E (pair x y) h =
      let s = shared-names (graph_e x) (graph_e y) (free_e x) (free_e y) (free-E x h.1) (free-E y h.2) (small-E x h.1) in
      let p = count-E x h.1 in
      let q = count-E y h.2 in
      (sum-pair _ _ _ _ _ _ s p.0 q.0, sum-pair-links _ _ _ _ _ _ s p.1 q.1)
  count-E (operator k x) h =
      let p = count-E x h.2 in
      (ap (λ (n : ℕ). n + 1) p.0, ap (λ (n : ℕ). n + 1) p.1)
  count-E (let_e a b x y) h =
      let s = shared-bound (graph_e x) (graph_e y) (free_e x) (free_e y) a b (free-E x h.2) (free-E y h.3) (small-E x h.2) in
      let p = count-E x h.2 in
      let q = count-E y h.3 in
      (sum-pair _ _ _ _ _ _ s p.0 q.0, sum-pair-links _ _ _ _ _ _ s p.1 q.1)
  count-E (if_e t x y) h =
      let w : width x ≤ 16 = not-too-wide x h.2 in
      let l : 1 ≤ width x = wide_enough x h.2 in
      let c = choice-count (graph_e t) (up_from (returned_name true) (width x)) (free_e x) (graph_e x) (up_from (returned_name false) (width x)) (free_e y) (graph_e y)
      (merge_row test_name returned_name (width x)) (small-graph t h.1) (small-E x h.2) (small-E y h.3) (free-E x h.2) (free-E y h.3)
      (results-from-test true (width x)) (results-from-test false (width x)) (merge-joins (width x)) (merge-control test_name returned_name (width x) l)
      in
      let s = size-cong (common (free (graph_e t)) (union (free_e x) (free_e y))) (common (free_e t) (union (free_e x) (free_e y))) (λ k _. ap (λ (z : Bool). z && (free_e x k || free_e y k)) (free-E t h.1 k)) in
      let j = merge-count (width x) w in
      let p = count-E t h.1 in
      let q = count-E x h.2 in
      let r = count-E y h.3 in (
        c.0 ∙ sum-if _ _ _ _ (width x) _ _ _ _ _ _ _ l s p.0 q.0 r.0 j.0,
        c.1 ∙ sum-if-links _ _ _ _ (width x) _ _ _ _ _ _ _ l s p.1 q.1 r.1 j.1,
      )
  count-E (for_e a b x y) h =
      let s = shared-bound (graph_e x) (graph_b (returned y) y) (free_e x) (free_b y) a b (free-E x h.2) (free-B (returned y) y h.3) (small-E x h.2) in
      let t = total_size (free (graph_b (returned y) y)) (free_b y) (free-B (returned y) y h.3) (small-B y h.3) in
      let p = count-E x h.2 in
      let q = count-B (returned y) y h.3 (not-too-wide (for_e a b x y) h) in
      (sum-for _ _ _ _ _ _ _ _ s p.0 t q.0, sum-for-links _ _ _ _ _ _ _ _ s p.1 t q.1)

  pub count-B : (w : ℕ) (y : Body) → AdmittedB y → w ≤ 16 → Same (count_g (graph_b w y)) (count_b w y)
  count-B w (ret x) h l = ending (constant_of (Truth false)) x h.1 (λ k. refl) (refl, refl) (count-E x h.1)
  count-B w (iter x) h l = ending (constant_of (Truth true)) x h.1 (λ k. refl) (refl, refl) (count-E x h.1)
  count-B w (let_b a b x y) h l =
      let s = shared-bound (graph_e x) (graph_b w y) (free_e x) (free_b y) a b (free-E x h.2) (free-B w y h.3) (small-E x h.2) in
      let p = count-E x h.2 in
      let q = count-B w y h.3 l in
      (sum-pair _ _ _ _ _ _ s p.0 q.0, sum-pair-links _ _ _ _ _ _ s p.1 q.1)
  count-B w (if_b t x y) h l =
      let c = choice-count (graph_e t) (arm_names true w x) (free_b x) (graph_b w x) (arm_names false w y) (free_b y) (graph_b w y) (joined w x y)
      (small-graph t h.1) (small-B x h.2) (small-B y h.3) (free-B w x h.2) (free-B w y h.3)
      (arm-from-test true w x) (arm-from-test false w y) (joined-lacks w t x y h) (joined-test w t x y h)
      in
      let s = size-cong (common (free (graph_e t)) (union (free_b x) (free_b y))) (common (free_e t) (union (free_b x) (free_b y))) (λ k _. ap (λ (z : Bool). z && (free_b x k || free_b y k)) (free-E t h.1 k)) in
      let j = joined-count w x y (iterated-16 x h.2) (iterated-16 y h.3) l in
      let p = count-E t h.1 in
      let q = count-B w x h.2 l in
      let r = count-B w y h.3 l in (
        c.0 ∙ sum_body _ _ _ _ _ _ _ _ _ _ _ _ s p.0 q.0 r.0 j.0,
        c.1 ∙ sum-body-links _ _ _ _ _ _ _ _ _ _ _ _ s p.1 q.1 r.1 j.1,
      )

-- ---- operators and links, laid out
pub operator-count : (x : Exp) → AdmittedE x → (n : ℕ) (env : Env) → length (operators_of (graph_e x) n env) ≡ (count_e x).operators
operator-count x h n env = operators-are (graph_e x) n env (fit-E x h) ∙ (count-E x h).0

pub link-count : (x : Exp) → AdmittedE x → links_of (graph_e x) ≡ (count_e x).links
link-count x h = links-are (graph_e x) ∙ (count-E x h).1

-- ---- bounds
pub three-links-each : (x : Exp) → AdmittedE x → (count_e x).links ≤ 3 * (count_e x).operators
three-links-each x h = at_most _ _ _ _ (count-E x h).0 (count-E x h).1 (three-links (graph_e x))
  where
    at_most : (o l o' l' : ℕ) → o ≡ o' → l ≡ l' → l ≤ 3 * o → l' ≤ 3 * o'
    at_most o l o' l' p q r = omega arith

pub made-operators : (x : Exp) → AdmittedE x → length (made_of x).operators ≡ (count_e x).operators
unfolding made_of
made-operators x h = operator-count x h (size (free_e x)) (port_of x)

pub made-links : (x : Exp) → AdmittedE x → (made_of x).links ≡ size (free_e x) + (count_e x).links
unfolding made_of
made-links x h = ap (λ (k : ℕ). size (free_e x) + k) (link-count x h)

-- Links: at most three an operator, and one a free name.
pub links-bound : (x : Exp) → AdmittedE x → (made_of x).links ≤ 3 * (count_e x).operators + 33
links-bound x h = bound _ _ _ _ (made-links x h) (size-le (free_e x)) (three-links-each x h)
  where
    bound : (m s l o : ℕ) → m ≡ s + l → s ≤ 33 → l ≤ 3 * o → m ≤ 3 * o + 33
    bound m s l o p q r = omega arith

-- "over 1,024 operators" is refused (10).
pub made-links-bound : (x : Exp) → AdmittedE x → (count_e x).operators ≤ 1024 → (made_of x).links ≤ 3105
made-links-bound x h l = bound _ _ l (links-bound x h)
  where
    bound : (m o : ℕ) → o ≤ 1024 → m ≤ 3 * o + 33 → m ≤ 3105
    bound m o p q = omega arith
