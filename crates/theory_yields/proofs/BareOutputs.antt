-- Laws of specs/BareOutputs.antt, and what only they need.
use Rattle.std.specs.Prelude.{ℕ, ◌+◌, ◌≡◌, refl, Bool, true, false, not, cond, ◌&&◌, ◌||◌, List, [], ◌∷◌, eqb}
use Rattle.std.proofs.Common.{sym, ap, ◌∙◌, ne_eqb}
use Rattle.std.proofs.lemmas.Bool.{false≢true}
use Rattle.names.specs.Names.{Names, none as noNames, common, members}
use Rattle.names.proofs.Counts.{size_from-none}
use Rattle.formula.specs.Tree.{Body, ret, iter, let_b, if_b}
use Rattle.formula.specs.Widths.{iterated}
use Rattle.formula.specs.Free.{free_b}
use Rattle.formula.specs.Count.{returns, iterates}
use Rattle.formula.specs.Admitted.{AdmittedB}
use Rattle.graph.specs.Assembly.{Graph, wire, nothing, beside, bind, gate, loop, Gate, T, F, IC, free, member_of, up_from, total, name_count}
use Rattle.graph.specs.Fit.{bare}
use Rattle.graph.specs.Translation.{test_name, iter_name, iterated_name, returned_name, join_name, row, gated, arm, merged, excepted, merge_row, except_row, straight, copied, iterated_join, returned_join, arm_names, join_names, joined, graph_e, graph_b}
use Rattle.theory_yields.proofs.Naming.{or-false, or-neither, member-members}
use Rattle.theory_yields.specs.Naming.{Small}
use Rattle.theory_yields.specs.Choice.{choice, Has}
use Rattle.theory_yields.proofs.Choice.{unseen, gone, kept}
use Rattle.theory_yields.specs.Joins.{join_i, join_r, stretch}
use Rattle.theory_yields.proofs.Joins.{join_i-is, join_r-is, straight-lacks}
use Rattle.theory_yields.proofs.ArmNames.{foreign, not_first, not_third}
use Rattle.theory_yields.proofs.FreeNames.{small-B, free-B}
use Rattle.theory_yields.specs.BodyWidths.{iterated_outputs, returned_outputs}
use Rattle.theory_yields.specs.BareOutputs.{NoBare}

-- ---- any graph
choose-none : (c : Bool) (f : Names) (k : ℕ) → f k ≡ false → cond c noNames f k ≡ false
choose-none true f k h = refl
choose-none false f k h = h

-- A bare output is an input.
pub bare-free : (g : Graph) (k : ℕ) → free g k ≡ false → bare g k ≡ false
unfolding free bare
bare-free (wire x) k h = h
bare-free nothing k h = refl
bare-free (beside a b) k h =
    let n : (free a k ≡ false) × (free b k ≡ false) = or-neither (free a k) (free b k) h in
    or-false (bare a k) (bare b k) (bare-free a k n.0) (bare-free b k n.1)
bare-free (bind ns a b) k h =
    let n = or-neither (free a k) (free b k && not (member_of ns k)) h in
    or-false (bare b k && not (member_of ns k)) _ (go (member_of ns k) n.1 (λ e. bare-free b k e))
    (choose-none (eqb (total (common (bare b) (member_of ns))) 0) (bare a) k (bare-free a k n.0))
  where
    go : (m : Bool) → free b k && not m ≡ false → (free b k ≡ false → bare b k ≡ false) → bare b k && not m ≡ false
    go true e ih = gone (bare b k) true refl
    go false e ih = unseen (bare b k) true (ih (sym (kept (free b k) false refl) ∙ e))
bare-free (gate g a) k h = refl
bare-free (loop ns a b) k h = refl

-- A let before a graph without bare outputs has none.
pub bind-bare : (ns : List ℕ) (a b : Graph) → NoBare b → NoBare (bind ns a b)
unfolding bare total
bind-bare ns a b h k =
    or-false (bare b k && not (member_of ns k)) _ (unseen (bare b k) (not (member_of ns k)) (h k))
    (ap (λ (n : ℕ). cond (eqb n 0) noNames (bare a) k)
    (size_from-none name_count (common (bare b) (member_of ns)) (λ i l. unseen (bare b i) (member_of ns i) (h i))))

-- ---- rows
row-bare : (f : ℕ → Graph) (ns : List ℕ) (k : ℕ) → ((n : ℕ) → bare (f n) k ≡ false) → bare (row f ns) k ≡ false
unfolding row bare
row-bare f [] k h = refl
row-bare f (n ∷ ns) k h = or-false (bare (f n) k) (bare (row f ns) k) (h n) (row-bare f ns k h)

merge-bare : (c : ℕ) (s : Bool → ℕ) (w : ℕ) → NoBare (merge_row c s w)
unfolding merge_row bare
merge-bare c s w k = row-bare (merged c s) (up_from 0 w) k (λ n. refl)

except-bare : (c s w : ℕ) → NoBare (except_row c s w)
unfolding except_row bare
except-bare c s w k = row-bare (excepted c s) (up_from 0 w) k (λ n. refl)

-- ---- an arm, and an if
pub arm-bare : (G : Gate) (f : Names) (a : Graph) → Small f → Has a f → NoBare (arm G f a)
unfolding arm bare
arm-bare G f a s e k =
    or-false (bare a k && not (member_of (members f) k)) _ (go (f k) refl)
    (choose-none (eqb (total (common (bare a) (member_of (members f)))) 0) (bare (row (gated G) (members f))) k
    (row-bare (gated G) (members f) k (λ n. refl)))
  where
    go : (b : Bool) → f k ≡ b → bare a k && not (member_of (members f) k) ≡ false
    go true p = gone (bare a k) (member_of (members f) k) (member-members f s k ∙ p)
    go false p = unseen (bare a k) (not (member_of (members f) k)) (bare-free a k (e k ∙ p))

-- What the arms' names are taken from.
bind-arm-bare : (ns : List ℕ) (a b : Graph) (k : ℕ) → NoBare a → (member_of ns k ≡ false → bare b k ≡ false) → bare (bind ns a b) k ≡ false
unfolding bare
bind-arm-bare ns a b k h j =
    or-false (bare b k && not (member_of ns k)) _ (go (member_of ns k) refl)
    (choose-none (eqb (total (common (bare b) (member_of ns))) 0) (bare a) k (h k))
  where
    go : (m : Bool) → member_of ns k ≡ m → bare b k && not m ≡ false
    go true e = gone (bare b k) true refl
    go false e = unseen (bare b k) true (j e)

pub choice-bare : (t : Graph) (ns : List ℕ) (f : Names) (a : Graph) (ms : List ℕ) (g : Names) (b j : Graph)
    → Small f → Small g → Has a f → Has b g
    → ((k : ℕ) → member_of ns k ≡ false → member_of ms k ≡ false → bare j k ≡ false) → NoBare (choice t ns f a ms g b j)
choice-bare t ns f a ms g b j sf sg p q h =
    bind-bare (test_name ∷ []) t (bind ns (arm T f a) (bind ms (arm F g b) j))
    (λ k.
    bind-arm-bare ns (arm T f a) (bind ms (arm F g b) j) k (arm-bare T f a sf p)
    (λ e. bind-arm-bare ms (arm F g b) j k (arm-bare F g b sg q) (λ d. h k e d))
    )

-- ---- the joins of a body's if
join_i-bare : (b c : Bool) (m n k : ℕ) → member_of (stretch (iterated_name true) b m) k ≡ false
    → member_of (stretch (iterated_name false) c n) k ≡ false → bare (join_i b c m n) k ≡ false
unfolding bare
join_i-bare true true m n k p q = merge-bare (join_name + 1) iterated_name m k
join_i-bare true false m n k p q = bare-free (straight (iterated_name true) m) k (straight-lacks (iterated_name true) m k p)
join_i-bare false true m n k p q = bare-free (straight (iterated_name false) n) k (straight-lacks (iterated_name false) n k q)
join_i-bare false false m n k p q = refl

join_r-bare : (b c : Bool) (w k : ℕ) → (k ≡ join_name + 2 → ⊥) → bare (join_r b c w) k ≡ false
unfolding copied bare
join_r-bare true true w k n = merge-bare (join_name + 2) returned_name w k
join_r-bare true false w k n = except-bare (join_name + 2) (returned_name true) w k
join_r-bare false true w k n = except-bare (join_name + 2) (returned_name false) w k
join_r-bare false false w k n = row-bare (λ i. wire (join_name + 2)) (up_from 0 w) k (λ i. ne_eqb (join_name + 2) k (λ e. n (sym e)))

joined-bare : (w : ℕ) (x y : Body) (k : ℕ) → member_of (arm_names true w x) k ≡ false → member_of (arm_names false w y) k ≡ false
    → bare (joined w x y) k ≡ false
unfolding joined bare iterated_outputs returned_outputs
joined-bare w x y k p q =
    bind-arm-bare (join_names both) (gate (IC both) (beside (wire test_name) (beside (wire (iter_name true)) (wire (iter_name false)))))
    (beside (wire join_name) (beside (iterated_join x y) (returned_join w x y))) k (λ i. refl)
    (λ h.
    or-false (eqb join_name k) (bare (iterated_join x y) k || bare (returned_join w x y) k) (not_first both k h)
    (or-false (bare (iterated_join x y) k) (bare (returned_join w x y) k)
    (rw (join_i-is x y)
    (join_i-bare (iterates x) (iterates y) (iterated x) (iterated y) k (foreign true w x k p).no-iterated (foreign false w y k q).no-iterated))
    (rw (join_r-is w x y) (join_r-bare (returns x) (returns y) w k (not_third both k h))))
    )
  where
    both : Bool
    both = iterates x && iterates y

-- A body that iterates and returns hands on no bare input.
pub body-bare : (w : ℕ) (y : Body) → AdmittedB y → iterates y ≡ true → returns y ≡ true → NoBare (graph_b w y)
unfolding graph_b iterates returns
body-bare w (ret x) h i r = absurd (false≢true i)
body-bare w (iter x) h i r = absurd (false≢true r)
body-bare w (let_b a b x y) h i r = bind-bare (up_from a b) (graph_e x) (graph_b w y) (body-bare w y h.3 i r)
body-bare w (if_b t x y) h i r =
    choice-bare (graph_e t) (arm_names true w x) (free_b x) (graph_b w x) (arm_names false w y) (free_b y) (graph_b w y) (joined w x y)
    (small-B x h.2) (small-B y h.3) (free-B w x h.2) (free-B w y h.3) (joined-bare w x y)
