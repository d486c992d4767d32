-- The room that a part needs before it is written: operators up to 1,024 and links up to 3,105 (document 01, test 10: "over 1,024 operators").
-- An operator has at most three links, so one count bounds both. Assumes nothing.
use Rattle.std.specs.Prelude.{ℕ, ◌+◌, ◌-◌, ◌*◌, ◌≤◌, ◌≡◌, refl, true, false, List, length}
use Rattle.std.proofs.Common.{ap, ap₂, arith}
use Rattle.machine_layout.specs.Layout.{most_operators, most_links}
use Rattle.names.specs.Names.{common, without}
use Rattle.graph.specs.Assembly.{Graph, wire, nothing, beside, bind, gate, loop, Gate, const, oper, T, F, M, E, IC, free, member_of, total, links_of, shared_links, gate_outputs}
use Rattle.theory_wiring.specs.Counts.{count_g}
use Rattle.maker_laid.specs.Masked.{list_of}
use Rattle.maker_laid.specs.Counts.{operator_count}
use Rattle.maker_laid.specs.Done.{Done, Forked, done-links, done-operators}

-- From link n and operator m on there is room for q operators.
abbrev pub Room : ℕ → ℕ → ℕ → Type 0
Room n m q = (m + q ≤ most_operators) × (n + 3 * q ≤ most_links)

pub room-less : (n m p q : ℕ) → p ≤ q → Room n m q → Room n m p
room-less n m p q h r = (omega (arith, r.0), omega (arith, r.1))

pub room_of : (n m p q : ℕ) → q ≡ p → Room n m q → Room n m p
room_of n m p q e r = room-less n m p q (omega arith) r

-- ---- at most three links an operator

few-outputs : (g : Gate) → gate_outputs g ≤ 3
unfolding gate_outputs
few-outputs (const v) = omega arith
few-outputs (oper k) = omega arith
few-outputs T = omega arith
few-outputs F = omega arith
few-outputs M = omega arith
few-outputs E = omega arith
few-outputs (IC true) = omega arith
few-outputs (IC false) = omega arith

two-parts : (s a b p q : ℕ) → a ≤ 3 * p → b ≤ 3 * q → 2 * s + (a + b) ≤ 3 * (s + (p + q))
two-parts s a b p q h k = omega arith

loop-parts : (s a b p q t : ℕ) → a ≤ 3 * p → b ≤ 3 * q → 2 * s + (a + (t + (b + 2 * (t - 1)))) ≤ 3 * (s + (p + (q + ((t - 1) + t))))
loop-parts s a b p q t h k = omega arith

pub three-links : (G : Graph) → links_of G ≤ 3 * operator_count G
unfolding links_of operator_count shared_links
three-links (wire x) = omega arith
three-links nothing = omega arith
three-links (beside a b) = two-parts (total (common (free a) (free b))) (links_of a) (links_of b) (operator_count a) (operator_count b) (three-links a) (three-links b)
three-links (bind ns a b) =
    two-parts (total (common (free a) (without (free b) (member_of ns)))) (links_of a) (links_of b) (operator_count a) (operator_count b) (three-links a) (three-links b)
three-links (gate g a) =
    let h : links_of a ≤ 3 * operator_count a = three-links a in
    let k : gate_outputs g ≤ 3 = few-outputs g in
    omega arith
three-links (loop ns a b) =
    loop-parts (total (common (free a) (without (free b) (member_of ns)))) (links_of a) (links_of b) (operator_count a) (operator_count b) (total (free b)) (three-links a) (three-links b)

-- ---- what is left behind a part

pub room-behind : (G : Graph) (n m : ℕ) (e mem mem' outs : List ℕ) (count links operators q : ℕ) → Done G n m e mem mem' outs count links operators
    → Room n m (operator_count G + q) → Room links operators q
room-behind G n m e mem mem' outs count links operators q d r =
    let l : links ≡ n + links_of G = done-links G n m e mem mem' outs count links operators d in
    let o : operators ≡ m + operator_count G = done-operators G n m e mem mem' outs count links operators d in
    let t : links_of G ≤ 3 * operator_count G = three-links G in
    (omega (arith, r.0), omega (arith, r.1))

pub room-forked : (k n m : ℕ) (e mem mem₁ first second : List ℕ) (n₁ m₁ q : ℕ) → Forked k n m e mem mem₁ first second n₁ m₁
    → Room n m (length (list_of k) + q) → Room n₁ m₁ q
room-forked k n m e mem mem₁ first second n₁ m₁ q f r =
    (omega (arith, r.0, f.operators), omega (arith, r.1, f.links))

-- ---- the count of theory_wiring/specs/Counts is the same

turned : (s a b p q t : ℕ) → a ≡ p → b ≡ q → s + (a + (t + ((t - 1) + b))) ≡ s + (p + (q + ((t - 1) + t)))
turned s a b p q t h k = omega arith

pub count_same : (G : Graph) → (count_g G).operators ≡ operator_count G
unfolding count_g operator_count
count_same (wire x) = refl
count_same nothing = refl
count_same (beside a b) = ap₂ (λ (x y : ℕ). total (common (free a) (free b)) + (x + y)) (count_same a) (count_same b)
count_same (bind ns a b) = ap₂ (λ (x y : ℕ). total (common (free a) (without (free b) (member_of ns))) + (x + y)) (count_same a) (count_same b)
count_same (gate g a) = ap (λ (x : ℕ). x + 1) (count_same a)
count_same (loop ns a b) = turned (total (common (free a) (without (free b) (member_of ns)))) _ _ _ _ (total (free b)) (count_same a) (count_same b)
