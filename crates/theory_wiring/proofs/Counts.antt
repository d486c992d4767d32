-- Laws of specs/Counts.antt, and what only they need.
use Rattle.std.specs.Prelude.{ℕ, zero, suc, ◌+◌, ◌*◌, ◌-◌, ◌≤◌, ◌≡◌, refl, true, false, List, [], ◌∷◌, ◌++◌, length, drop, get_or}
use Rattle.std.proofs.Common.{sym, ap, ap₂, ◌∙◌, length-append, arith}
use Rattle.names.specs.Names.{Names, common, without}
use Rattle.graph.specs.Assembly.{Gate, const, oper, T, F, M, E, IC, Graph, wire, nothing, beside, bind, gate, loop, free, member_of, gate_outputs, Env, Operator, copies_for, sharing, shared_links, first_use, second_use, named, spread, chain, chain_ends, ring, total, listed, links_of, outputs, operators_of}
use Rattle.graph.specs.Fit.{Fit}
use Rattle.theory_reference.proofs.Copies.{ends-length}
use Rattle.theory_wiring.proofs.Links.{length-listed}
use Rattle.theory_wiring.specs.Counts.{count_g}

-- ---- links
sum-beside : (s a b s' a' b' : ℕ) → s ≡ s' → a ≡ a' → b ≡ b' → s + (a + b) ≡ s' + (a' + b')
sum-beside s a b s' a' b' p q r = omega arith

sum-loop : (s a b a' b' t c : ℕ) → a ≡ a' → b ≡ b' → s + (a + (t + (b + c))) ≡ s + (a' + (t + (c + b')))
sum-loop s a b a' b' t c p q = omega arith

pub links-are : (g : Graph) → links_of g ≡ (count_g g).links
unfolding links_of count_g shared_links
links-are (wire x) = refl
links-are nothing = refl
links-are (beside a b) = sum-beside _ _ _ _ _ _ refl (links-are a) (links-are b)
links-are (bind ns a b) = sum-beside _ _ _ _ _ _ refl (links-are a) (links-are b)
links-are (gate g a) = ap (λ (k : ℕ). k + gate_outputs g) (links-are a)
links-are (loop ns a b) = sum-loop _ _ _ _ _ _ _ (links-are a) (links-are b)

-- ---- operators
length-copies : (xs : List ℕ) (env e₁ e₂ : Env) → length (copies_for xs env e₁ e₂) ≡ length xs
unfolding copies_for
length-copies [] env e₁ e₂ = refl
length-copies (x ∷ xs) env e₁ e₂ = ap suc (length-copies xs env e₁ e₂)

pub length-sharing : (f g : Names) (n : ℕ) (env : Env) → length (sharing f g n env) ≡ total (common f g)
unfolding sharing
length-sharing f g n env = length-copies (listed (common f g)) env (first_use f g n env) (second_use f g n env) ∙ length-listed (common f g)

pub length-chain : (a n k : ℕ) → length (chain a n k) ≡ k - 1
unfolding chain
length-chain a n zero = refl
length-chain a n (suc zero) = refl
length-chain a n (suc (suc k)) = ap suc (length-chain (suc n) (suc (suc n)) (suc k)) ∙ omega arith

length-ring : (xs cs : List ℕ) (ids : Names) (it st ow out : Env) → length cs ≡ length xs → length (ring xs ids cs it st ow out) ≡ length xs
unfolding ring
length-ring [] cs ids it st ow out h = refl
length-ring (x ∷ xs) [] ids it st ow out h = h
length-ring (x ∷ xs) (c ∷ cs) ids it st ow out h = ap suc (length-ring xs cs ids it st ow out (omega arith))

length_two : (x y z : List Operator) (a b c : ℕ) → length x ≡ a → length y ≡ b → length z ≡ c → length (x ++ (y ++ z)) ≡ a + (b + c)
length_two x y z a b c p q r = length-append x (y ++ z) ∙ ap₂ ◌+◌ p (length-append y z ∙ ap₂ ◌+◌ q r)

length-five : (v w x y z : List Operator) (a b c d e : ℕ) → length v ≡ a → length w ≡ b → length x ≡ c → length y ≡ d → length z ≡ e
    → length (v ++ (w ++ (x ++ (y ++ z)))) ≡ a + (b + (e + (d + c)))
length-five v w x y z a b c d e p q r s t =
    omega (arith, length-append v (w ++ (x ++ (y ++ z))), length-append w (x ++ (y ++ z)), length-append x (y ++ z), length-append y z)

pub operators-are : (g : Graph) (n : ℕ) (env : Env) → Fit g → length (operators_of g n env) ≡ (count_g g).operators
unfolding operators_of count_g
operators-are (wire x) n env h = refl
operators-are nothing n env h = refl
operators-are (beside a b) n env h =
    length_two (sharing (free a) (free b) n env) (operators_of a _ _) (operators_of b _ _) _ _ _ (length-sharing (free a) (free b) n env)
    (operators-are a _ _ h.0) (operators-are b _ _ h.1)
operators-are (bind ns a b) n env h =
    length_two (sharing (free a) (without (free b) (member_of ns)) n env) (operators_of a _ _) (operators_of b _ _) _ _ _
    (length-sharing (free a) (without (free b) (member_of ns)) n env) (operators-are a _ _ h.0) (operators-are b _ _ h.1)
operators-are (gate g a) n env h = length-append (operators_of a n env) _ ∙ ap (λ (k : ℕ). k + 1) (operators-are a n env h.0)
operators-are (loop ns a b) n env h =
    let g : Names = without (free b) (member_of ns) in
    let m : ℕ = n + shared_links (free a) g in
    let s : ℕ = total (free b) in
    let o : ℕ = m + links_of a in
    let inner : Env = spread (free b) o in
    let outs : List ℕ = outputs b (o + s) inner in
    let it : ℕ = get_or outs 0 0 in
    let c : ℕ = o + s + links_of b in
    let e₁ : Env = first_use (free a) g n env in
    let iterated : Env = named ns (drop 1 outs) env in
    let started : Env = named ns (outputs a m e₁) env in
    let own : Env = second_use (free a) g n env in
    length-five (sharing (free a) g n env) (operators_of a m e₁) (operators_of b (o + s) inner) (chain it c s)
    (ring (listed (free b)) (member_of ns) (chain_ends it c s) iterated started own inner)
    (total (common (free a) g)) (count_g a).operators (count_g b).operators (s - 1) s
    (length-sharing (free a) g n env) (operators-are a m e₁ h.0) (operators-are b (o + s) inner h.1) (length-chain it c s)
    (length-ring (listed (free b)) (chain_ends it c s) (member_of ns) iterated started own inner (ends-length s it c ∙ sym (length-listed (free b)))
    ∙ length-listed (free b))

-- ---- at most three links an operator
gate-three : (g : Gate) → gate_outputs g ≤ 3
unfolding gate_outputs
gate-three (const v) = omega arith
gate-three (oper k) = omega arith
gate-three T = omega arith
gate-three F = omega arith
gate-three M = omega arith
gate-three E = omega arith
gate-three (IC true) = omega arith
gate-three (IC false) = omega arith

three-beside : (s a b p q : ℕ) → a ≤ 3 * p → b ≤ 3 * q → 2 * s + (a + b) ≤ 3 * (s + (p + q))
three-beside s a b p q h k = omega arith

three-loop : (s a b p q t : ℕ) → a ≤ 3 * p → b ≤ 3 * q → 2 * s + (a + (t + (2 * (t - 1) + b))) ≤ 3 * (s + (p + (t + ((t - 1) + q))))
three-loop s a b p q t h k = omega arith

three-gate : (a p o : ℕ) → a ≤ 3 * p → o ≤ 3 → a + o ≤ 3 * (p + 1)
three-gate a p o h k = omega arith

pub three-links : (g : Graph) → (count_g g).links ≤ 3 * (count_g g).operators
unfolding count_g
three-links (wire x) = omega arith
three-links nothing = omega arith
three-links (beside a b) = three-beside _ _ _ _ _ (three-links a) (three-links b)
three-links (bind ns a b) = three-beside _ _ _ _ _ (three-links a) (three-links b)
three-links (gate g a) = three-gate _ _ _ (three-links a) (gate-three g)
three-links (loop ns a b) = three-loop _ _ _ _ _ _ (three-links a) (three-links b)
