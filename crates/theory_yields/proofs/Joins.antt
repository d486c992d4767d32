-- Laws of specs/Joins.antt, and what only they need.
use Rattle.std.specs.Prelude.{ℕ, ◌+◌, ◌-◌, ◌≤◌, ◌<◌, ◌≡◌, refl, Bool, true, false, ◌&&◌, ◌||◌, eqb}
use Rattle.std.proofs.Common.{sym, ap, ◌∙◌, eq-eqb, ne_eqb, arith}
use Rattle.std.proofs.lemmas.Bool.{false≢true, eqb-false}
use Rattle.formula.specs.Tree.{Body}
use Rattle.formula.specs.Widths.{iterated}
use Rattle.formula.specs.Count.{returns, iterates}
use Rattle.graph.specs.Assembly.{Graph, wire, free, member_of, up_from}
use Rattle.graph.specs.Translation.{iterated_name, returned_name, join_name, row, merged, excepted, merge_row, except_row, straight, copied, iterated_join, returned_join, join_names}
use Rattle.theory_yields.proofs.Naming.{or-false, or_left, or_right, or-neither, within-up_from, up_from-holds}
use Rattle.theory_yields.proofs.Choice.{row-lacks, row_has}
use Rattle.theory_yields.specs.Joins.{At, join_i, join_r, stretch}

-- ---- rows over the numbers below w
pub up-lacks : (f : ℕ → Graph) (w k : ℕ) → ((i : ℕ) → i < w → free (f i) k ≡ false) → free (row f (up_from 0 w)) k ≡ false
up-lacks f w k h = row-lacks f (up_from 0 w) k (λ i m. h i (omega (arith, up_from-holds 0 w i m)))

pub up-has : (f : ℕ → Graph) (w k i : ℕ) → i < w → free (f i) k ≡ true → free (row f (up_from 0 w)) k ≡ true
up-has f w k i h e = row_has f (up_from 0 w) k i (within-up_from 0 w i (omega arith) (omega arith)) e

-- The i-th name from s on is none that the stretch lacks.
away : (s w k i : ℕ) → member_of (up_from s w) k ≡ false → i < w → eqb (s + i) k ≡ false
away s w k i h l =
    ne_eqb (s + i) k
    (λ e. false≢true (sym h ∙ ap (member_of (up_from s w)) (sym e) ∙ within-up_from s w (s + i) (omega arith) (omega arith)))

at : (s w k : ℕ) → member_of (up_from s w) k ≡ true → At s w k
at s w k h =
    let b : (s ≤ k) × (k < s + w) = up_from-holds s w k h in
    record { index = k - s; below = omega (arith, b); same = omega (arith, b) }

-- Joins by M.
pub merge-lacks : (c : ℕ) (s : Bool → ℕ) (w k : ℕ) → (k ≡ c → ⊥) → member_of (up_from (s true) w) k ≡ false → member_of (up_from (s false) w) k ≡ false
    → free (merge_row c s w) k ≡ false
unfolding merge_row free
merge-lacks c s w k n p q =
    up-lacks (merged c s) w k
    (λ i l.
    or-false (eqb c k) (eqb (s true + i) k || eqb (s false + i) k) (ne_eqb c k (λ e. n (sym e)))
    (or-false (eqb (s true + i) k) (eqb (s false + i) k) (away (s true) w k i p l) (away (s false) w k i q l))
    )

pub merge-control : (c : ℕ) (s : Bool → ℕ) (w : ℕ) → 1 ≤ w → free (merge_row c s w) c ≡ true
unfolding merge_row free
merge-control c s w h = up-has (merged c s) w c 0 h (or_left (eqb c c) _ (eq-eqb c c refl))

pub merge-has : (c : ℕ) (s : Bool → ℕ) (side : Bool) (w k : ℕ) → member_of (up_from (s side) w) k ≡ true → free (merge_row c s w) k ≡ true
unfolding merge_row free
merge-has c s true w k h =
    let a : At (s true) w k = at (s true) w k h in
    up-has (merged c s) w k a.index a.below
    (or_right (eqb c k) (eqb (s true + a.index) k || eqb (s false + a.index) k)
    (or_left (eqb (s true + a.index) k) (eqb (s false + a.index) k) (eq-eqb (s true + a.index) k a.same)))
merge-has c s false w k h =
    let a : At (s false) w k = at (s false) w k h in
    up-has (merged c s) w k a.index a.below
    (or_right (eqb c k) (eqb (s true + a.index) k || eqb (s false + a.index) k)
    (or_right (eqb (s true + a.index) k) (eqb (s false + a.index) k) (eq-eqb (s false + a.index) k a.same)))

-- Joins by E.
pub except-lacks : (c s w k : ℕ) → (k ≡ c → ⊥) → member_of (up_from s w) k ≡ false → free (except_row c s w) k ≡ false
unfolding except_row free
except-lacks c s w k n p =
    up-lacks (excepted c s) w k
    (λ i l. or-false (eqb c k) (eqb (s + i) k) (ne_eqb c k (λ e. n (sym e))) (away s w k i p l))

pub except-control : (c s w : ℕ) → 1 ≤ w → free (except_row c s w) c ≡ true
unfolding except_row free
except-control c s w h = up-has (excepted c s) w c 0 h (or_left (eqb c c) _ (eq-eqb c c refl))

pub except-has : (c s w k : ℕ) → member_of (up_from s w) k ≡ true → free (except_row c s w) k ≡ true
unfolding except_row free
except-has c s w k h =
    let a : At s w k = at s w k h in
    up-has (excepted c s) w k a.index a.below (or_right (eqb c k) (eqb (s + a.index) k) (eq-eqb (s + a.index) k a.same))

-- Results that pass straight.
pub straight-lacks : (s w k : ℕ) → member_of (up_from s w) k ≡ false → free (straight s w) k ≡ false
unfolding straight free
straight-lacks s w k p = up-lacks (λ i. wire (s + i)) w k (λ i l. away s w k i p l)

pub straight-has : (s w k : ℕ) → member_of (up_from s w) k ≡ true → free (straight s w) k ≡ true
unfolding straight free
straight-has s w k h =
    let a : At s w k = at s w k h in
    up-has (λ i. wire (s + i)) w k a.index a.below (eq-eqb (s + a.index) k a.same)

-- Copies of one link.
pub copied-lacks : (c w k : ℕ) → (k ≡ c → ⊥) → free (copied c w) k ≡ false
unfolding copied free
copied-lacks c w k n = up-lacks (λ i. wire c) w k (λ i l. ne_eqb c k (λ e. n (sym e)))

pub copied-control : (c w : ℕ) → 1 ≤ w → free (copied c w) c ≡ true
unfolding copied free
copied-control c w h = up-has (λ i. wire c) w c 0 h (eq-eqb c c refl)

pub join_i-is : (x y : Body) → iterated_join x y ≡ join_i (iterates x) (iterates y) (iterated x) (iterated y)
unfolding iterated_join
join_i-is x y = refl

pub join_r-is : (w : ℕ) (x y : Body) → returned_join w x y ≡ join_r (returns x) (returns y) w
unfolding returned_join
join_r-is w x y = refl

pub join_i-lacks : (b c : Bool) (m n k : ℕ) → (b ≡ true → c ≡ true → m ≡ n) → member_of (join_names (b && c)) k ≡ false
    → member_of (stretch (iterated_name true) b m) k ≡ false → member_of (stretch (iterated_name false) c n) k ≡ false → free (join_i b c m n) k ≡ false
unfolding free join_names member_of
join_i-lacks true true m n k e j p q =
    let r : member_of (up_from (iterated_name false) m) k ≡ false = rw (e refl refl) q in
    merge-lacks (join_name + 1) iterated_name m k
    (λ z. eqb-false (join_name + 1) k (or-neither (eqb (join_name + 1) k) _ (or-neither (eqb join_name k) _ j).1).0 (sym z)) p r
join_i-lacks true false m n k e j p q = straight-lacks (iterated_name true) m k p
join_i-lacks false true m n k e j p q = straight-lacks (iterated_name false) n k q
join_i-lacks false false m n k e j p q = refl

pub join_i-first : (b c : Bool) (m n k : ℕ) → member_of (stretch (iterated_name true) b m) k ≡ true → free (join_i b c m n) k ≡ true
unfolding member_of up_from
join_i-first true true m n k h = merge-has (join_name + 1) iterated_name true m k h
join_i-first true false m n k h = straight-has (iterated_name true) m k h
join_i-first false c m n k h = absurd (false≢true h)

pub join_i-second : (b c : Bool) (m n k : ℕ) → (b ≡ true → c ≡ true → m ≡ n) → member_of (stretch (iterated_name false) c n) k ≡ true
    → free (join_i b c m n) k ≡ true
unfolding member_of up_from
join_i-second true true m n k e h =
    let r : member_of (up_from (iterated_name false) m) k ≡ true = rw (e refl refl) h in
    merge-has (join_name + 1) iterated_name false m k r
join_i-second false true m n k e h = straight-has (iterated_name false) n k h
join_i-second true false m n k e h = absurd (false≢true h)
join_i-second false false m n k e h = absurd (false≢true h)

pub join_r-lacks : (b c : Bool) (w k : ℕ) → (k ≡ join_name + 2 → ⊥) → member_of (stretch (returned_name true) b w) k ≡ false
    → member_of (stretch (returned_name false) c w) k ≡ false → free (join_r b c w) k ≡ false
join_r-lacks true true w k n p q = merge-lacks (join_name + 2) returned_name w k n p q
join_r-lacks true false w k n p q = except-lacks (join_name + 2) (returned_name true) w k n p
join_r-lacks false true w k n p q = except-lacks (join_name + 2) (returned_name false) w k n q
join_r-lacks false false w k n p q = copied-lacks (join_name + 2) w k n

pub join_r-control : (b c : Bool) (w : ℕ) → 1 ≤ w → free (join_r b c w) (join_name + 2) ≡ true
join_r-control true true w h = merge-control (join_name + 2) returned_name w h
join_r-control true false w h = except-control (join_name + 2) (returned_name true) w h
join_r-control false true w h = except-control (join_name + 2) (returned_name false) w h
join_r-control false false w h = copied-control (join_name + 2) w h

pub join_r-first : (b c : Bool) (w k : ℕ) → member_of (stretch (returned_name true) b w) k ≡ true → free (join_r b c w) k ≡ true
unfolding member_of up_from
join_r-first true true w k h = merge-has (join_name + 2) returned_name true w k h
join_r-first true false w k h = except-has (join_name + 2) (returned_name true) w k h
join_r-first false c w k h = absurd (false≢true h)

pub join_r-second : (b c : Bool) (w k : ℕ) → member_of (stretch (returned_name false) c w) k ≡ true → free (join_r b c w) k ≡ true
unfolding member_of up_from
join_r-second true true w k h = merge-has (join_name + 2) returned_name false w k h
join_r-second false true w k h = except-has (join_name + 2) (returned_name false) w k h
join_r-second true false w k h = absurd (false≢true h)
join_r-second false false w k h = absurd (false≢true h)
