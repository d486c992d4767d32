-- A graph laid out in memory: its operators are written from operator m on, in an environment and with links from n on, and the next numbers are n'
-- and m'. One law for each form of the assembly language (graph/specs/Assembly) says how a graph is laid out part by part, as sequential code
-- does it. Document 01, "The graph": "The numbering of operators and the chaining of copies are chosen once". Assumes nothing.
use Rattle.std.specs.Prelude.{ℕ, zero, suc, ◌+◌, ◌-◌, ◌≡◌, refl, get_or, drop}
use Rattle.std.proofs.Common.{sym, ap₂, ◌∙◌, length-append}
use Rattle.std.proofs.Math.Path.{ap}
use mathlib.Core.List.{List, [], ◌∷◌, ◌++◌}
use Rattle.std.proofs.Math.ListN.{length}
use native.Mathlib.Omega.{arith}
use Rattle.machine_layout.specs.Record.{placed}
use Rattle.machine_layout.specs.declared.Operator.{Operator as Record}
use Rattle.names.specs.Names.{Names, without}
use Rattle.names.proofs.Counts.{length-members_from}
use Rattle.graph.specs.Assembly.{Graph, wire, nothing, beside, bind, gate, loop, Gate, Env, Operator, free, member_of, total, listed, links_of, gate_outputs, shared_links, chain_links, outputs, operators_of, gate_of, sharing, first_use, second_use, named, spread, up_from, chain, chain_ends, ring}
use Rattle.maker_laid.specs.Encode.{encode, encoded, written, written_one, written-append}

pub record Laid (G : Graph) (n m : ℕ) (env : Env) (mem mem' outs : List ℕ) (n' m' : ℕ) : Type 0 where
  pub memory : mem' ≡ written mem m (encoded (operators_of G n env))
  pub gives : outs ≡ outputs G n env
  pub links : n' ≡ n + links_of G
  pub operators : m' ≡ m + length (operators_of G n env)

-- The copies for the names that two parts share, written.
pub record Copied (f g : Names) (n m : ℕ) (env : Env) (mem mem' : List ℕ) (n' m' : ℕ) : Type 0 where
  pub memory : mem' ≡ written mem m (encoded (sharing f g n env))
  pub links : n' ≡ n + shared_links f g
  pub operators : m' ≡ m + length (sharing f g n env)

-- ---- lists of records

pub encoded-append : (xs ys : List Operator) → encoded (xs ++ ys) ≡ encoded xs ++ encoded ys
encoded-append [] ys = refl
encoded-append (x ∷ xs) ys = ap (λ (r : List Record). encode x ∷ r) (encoded-append xs ys)

pub encoded-length : (xs : List Operator) → length (encoded xs) ≡ length xs
encoded-length [] = refl
encoded-length (x ∷ xs) = ap suc (encoded-length xs)

-- One list written behind another.
pub in_order : (xs ys : List Operator) (mem mem₁ mem₂ : List ℕ) (m m₁ : ℕ) → mem₁ ≡ written mem m (encoded xs) → m₁ ≡ m + length xs
    → mem₂ ≡ written mem₁ m₁ (encoded ys) → mem₂ ≡ written mem m (encoded (xs ++ ys))
in_order xs ys mem mem₁ mem₂ m m₁ p q r =
    r ∙ ap₂ (λ (t : List ℕ) (k : ℕ). written t k (encoded ys)) p (q ∙ ap (λ (k : ℕ). m + k) (sym (encoded-length xs)))
    ∙ sym (ap (written mem m) (encoded-append xs ys) ∙ written-append (encoded xs) (encoded ys) mem m)

pub next-number : (xs ys : List Operator) (m m₁ m₂ : ℕ) → m₁ ≡ m + length xs → m₂ ≡ m₁ + length ys → m₂ ≡ m + length (xs ++ ys)
next-number xs ys m m₁ m₂ p q = let e : length (xs ++ ys) ≡ length xs + length ys = length-append xs ys in omega arith

-- ---- a name, and nothing

module _ (n m : ℕ) (env : Env) (mem : List ℕ) where
  pub laid-wire : (x : ℕ) → Laid (wire x) n m env mem mem (env x ∷ []) n m
  unfolding operators_of outputs links_of written
  laid-wire x = record { memory = refl; gives = refl; links = omega arith; operators = omega arith }

  pub laid-nothing : Laid nothing n m env mem mem [] n m
  unfolding operators_of outputs links_of written
  laid-nothing = record { memory = refl; gives = refl; links = omega arith; operators = omega arith }

-- ---- a gate

pub laid-gate : (g : Gate) (a : Graph) (n m : ℕ) (env : Env) (mem mem₁ mem₂ outs : List ℕ) (n₁ m₁ : ℕ) → Laid a n m env mem mem₁ outs n₁ m₁
    → mem₂ ≡ placed mem₁ m₁ (encode (gate_of g outs n₁))
    → Laid (gate g a) n m env mem mem₂ (up_from n₁ (gate_outputs g)) (n₁ + gate_outputs g) (m₁ + 1)
unfolding operators_of outputs links_of
laid-gate g a n m env mem mem₁ mem₂ outs n₁ m₁ l p =
    let same : encode (gate_of g outs n₁) ≡ encode (gate_of g (outputs a n env) (n + links_of a)) = ap₂ (λ (o : List ℕ) (k : ℕ). encode (gate_of g o k)) l.gives l.links in
    record {
      memory =
          in_order (operators_of a n env) (gate_of g (outputs a n env) (n + links_of a) ∷ []) mem mem₁ mem₂ m m₁ l.memory l.operators
          (p ∙ ap (placed mem₁ m₁) same ∙ sym (written_one mem₁ m₁ (encode (gate_of g (outputs a n env) (n + links_of a)))));
      gives = ap (λ (k : ℕ). up_from k (gate_outputs g)) l.links;
      links = omega (arith, l.links);
      operators = next-number (operators_of a n env) (gate_of g (outputs a n env) (n + links_of a) ∷ []) m m₁ (m₁ + 1) l.operators refl;
    }

-- ---- two parts

module _ (f g : Names) (a b : Graph) (n m : ℕ) (env e₁ e₂ : Env) (mem mem₁ mem₂ mem₃ o₁ o₂ : List ℕ) (n₁ m₁ n₂ m₂ n₃ m₃ : ℕ)
    (c : Copied f g n m env mem mem₁ n₁ m₁) (la : Laid a n₁ m₁ e₁ mem₁ mem₂ o₁ n₂ m₂) (lb : Laid b n₂ m₂ e₂ mem₂ mem₃ o₂ n₃ m₃)
  where
    abbrev second : ℕ
    second = n + shared_links f g + links_of a

    at_second : n₂ ≡ second
    at_second = la.links ∙ ap (λ (k : ℕ). k + links_of a) c.links

    operators-a : operators_of a n₁ e₁ ≡ operators_of a (n + shared_links f g) e₁
    operators-a = ap (λ (k : ℕ). operators_of a k e₁) c.links

    operators-b : operators_of b n₂ e₂ ≡ operators_of b second e₂
    operators-b = ap (λ (k : ℕ). operators_of b k e₂) at_second

    both-written : mem₃ ≡ written mem m (encoded (sharing f g n env ++ (operators_of a (n + shared_links f g) e₁ ++ operators_of b second e₂)))
    both-written =
        in_order (sharing f g n env) (operators_of a (n + shared_links f g) e₁ ++ operators_of b second e₂) mem mem₁ mem₃ m m₁ c.memory c.operators
        (in_order (operators_of a (n + shared_links f g) e₁) (operators_of b second e₂) mem₁ mem₂ mem₃ m₁ m₂
        (la.memory ∙ ap (λ (os : List Operator). written mem₁ m₁ (encoded os)) operators-a)
        (la.operators ∙ ap (λ (os : List Operator). m₁ + length os) operators-a)
        (lb.memory ∙ ap (λ (os : List Operator). written mem₂ m₂ (encoded os)) operators-b))

    both-counted : m₃ ≡ m + length (sharing f g n env ++ (operators_of a (n + shared_links f g) e₁ ++ operators_of b second e₂))
    both-counted =
        next-number (sharing f g n env) (operators_of a (n + shared_links f g) e₁ ++ operators_of b second e₂) m m₁ m₃ c.operators
        (next-number (operators_of a (n + shared_links f g) e₁) (operators_of b second e₂) m₁ m₂ m₃
        (la.operators ∙ ap (λ (os : List Operator). m₁ + length os) operators-a)
        (lb.operators ∙ ap (λ (os : List Operator). m₂ + length os) operators-b))

    outputs-a : o₁ ≡ outputs a (n + shared_links f g) e₁
    outputs-a = la.gives ∙ ap (λ (k : ℕ). outputs a k e₁) c.links

    outputs-b : o₂ ≡ outputs b second e₂
    outputs-b = lb.gives ∙ ap (λ (k : ℕ). outputs b k e₂) at_second

    both-links : n₃ ≡ n + (shared_links f g + (links_of a + links_of b))
    both-links = omega (arith, lb.links, at_second)

pub laid_beside : (a b : Graph) (n m : ℕ) (env : Env) (mem mem₁ mem₂ mem₃ o₁ o₂ : List ℕ) (n₁ m₁ n₂ m₂ n₃ m₃ : ℕ)
    → Copied (free a) (free b) n m env mem mem₁ n₁ m₁ → Laid a n₁ m₁ (first_use (free a) (free b) n env) mem₁ mem₂ o₁ n₂ m₂
    → Laid b n₂ m₂ (second_use (free a) (free b) n env) mem₂ mem₃ o₂ n₃ m₃ → Laid (beside a b) n m env mem mem₃ (o₁ ++ o₂) n₃ m₃
unfolding operators_of outputs links_of
laid_beside a b n m env mem mem₁ mem₂ mem₃ o₁ o₂ n₁ m₁ n₂ m₂ n₃ m₃ c la lb =
    let f = free a in
    let g = free b in
    let e₁ = first_use f g n env in
    let e₂ = second_use f g n env in
    record {
      memory = both-written f g a b n m env e₁ e₂ mem mem₁ mem₂ mem₃ o₁ o₂ n₁ m₁ n₂ m₂ n₃ m₃ c la lb;
      gives =
          ap₂ (λ (x y : List ℕ). x ++ y) (outputs-a f g a b n m env e₁ e₂ mem mem₁ mem₂ mem₃ o₁ o₂ n₁ m₁ n₂ m₂ n₃ m₃ c la lb)
          (outputs-b f g a b n m env e₁ e₂ mem mem₁ mem₂ mem₃ o₁ o₂ n₁ m₁ n₂ m₂ n₃ m₃ c la lb);
      links = both-links f g a b n m env e₁ e₂ mem mem₁ mem₂ mem₃ o₁ o₂ n₁ m₁ n₂ m₂ n₃ m₃ c la lb;
      operators = both-counted f g a b n m env e₁ e₂ mem mem₁ mem₂ mem₃ o₁ o₂ n₁ m₁ n₂ m₂ n₃ m₃ c la lb;
    }

pub laid-bind : (ns : List ℕ) (a b : Graph) (n m : ℕ) (env : Env) (mem mem₁ mem₂ mem₃ o₁ o₂ : List ℕ) (n₁ m₁ n₂ m₂ n₃ m₃ : ℕ)
    → Copied (free a) (without (free b) (member_of ns)) n m env mem mem₁ n₁ m₁
    → Laid a n₁ m₁ (first_use (free a) (without (free b) (member_of ns)) n env) mem₁ mem₂ o₁ n₂ m₂
    → Laid b n₂ m₂ (named ns o₁ (second_use (free a) (without (free b) (member_of ns)) n env)) mem₂ mem₃ o₂ n₃ m₃
    → Laid (bind ns a b) n m env mem mem₃ o₂ n₃ m₃
unfolding operators_of outputs links_of
laid-bind ns a b n m env mem mem₁ mem₂ mem₃ o₁ o₂ n₁ m₁ n₂ m₂ n₃ m₃ c la lb =
    let f = free a in
    let g = without (free b) (member_of ns) in
    let e₁ = first_use f g n env in
    let e₂ = second_use f g n env in
    let s = n + shared_links f g + links_of a in
    let same : named ns o₁ e₂ ≡ named ns (outputs a (n + shared_links f g) e₁) e₂ =
    ap (λ (o : List ℕ). named ns o e₂) (outputs-a f g a b n m env e₁ (named ns o₁ e₂) mem mem₁ mem₂ mem₃ o₁ o₂ n₁ m₁ n₂ m₂ n₃ m₃ c la lb)
    in
    record {
      memory =
          both-written f g a b n m env e₁ (named ns o₁ e₂) mem mem₁ mem₂ mem₃ o₁ o₂ n₁ m₁ n₂ m₂ n₃ m₃ c la lb
          ∙ ap (λ (e : Env). written mem m (encoded (sharing f g n env ++ (operators_of a (n + shared_links f g) e₁ ++ operators_of b s e)))) same;
      gives =
          outputs-b f g a b n m env e₁ (named ns o₁ e₂) mem mem₁ mem₂ mem₃ o₁ o₂ n₁ m₁ n₂ m₂ n₃ m₃ c la lb
          ∙ ap (λ (e : Env). outputs b s e) same;
      links = both-links f g a b n m env e₁ (named ns o₁ e₂) mem mem₁ mem₂ mem₃ o₁ o₂ n₁ m₁ n₂ m₂ n₃ m₃ c la lb;
      operators =
          both-counted f g a b n m env e₁ (named ns o₁ e₂) mem mem₁ mem₂ mem₃ o₁ o₂ n₁ m₁ n₂ m₂ n₃ m₃ c la lb
          ∙ ap (λ (e : Env). m + length (sharing f g n env ++ (operators_of a (n + shared_links f g) e₁ ++ operators_of b s e))) same;
    }

-- ---- a loop

pub chain_length : (l n k : ℕ) → length (chain l n k) ≡ k - 1
unfolding chain
chain_length l n zero = refl
chain_length l n (suc zero) = refl
chain_length l n (suc (suc k)) =
    let e : length (chain (suc n) (suc (suc n)) (suc k)) ≡ suc k - 1 = chain_length (suc n) (suc (suc n)) (suc k) in
    omega arith

pub ends-length : (l n k : ℕ) → length (chain_ends l n k) ≡ k
unfolding chain_ends
ends-length l n zero = refl
ends-length l n (suc zero) = refl
ends-length l n (suc (suc k)) = ap suc (ends-length (suc n) (suc (suc n)) (suc k))

pub ring-length : (xs : List ℕ) (ids : Names) (cs : List ℕ) (it st own out : Env) → length cs ≡ length xs → length (ring xs ids cs it st own out) ≡ length xs
unfolding ring
ring-length [] ids cs it st own out h = refl
ring-length (x ∷ xs) ids [] it st own out h = absurd (omega arith)
ring-length (x ∷ xs) ids (c ∷ cs) it st own out h = ap suc (ring-length xs ids cs it st own out (omega arith))

pub listed-length : (f : Names) → length (listed f) ≡ total f
unfolding listed total
listed-length f = length-members_from 103 0 f

module _ (ns : List ℕ) (a b : Graph) (n : ℕ) (env : Env) where
  abbrev outer : Names
  outer = without (free b) (member_of ns)

  -- the ring's gates, by what the parts gave: the outputs of both, the link where the body's names begin, the one where the chain does, and
  -- the number of the body's names
  abbrev pub ringOf : List ℕ → List ℕ → ℕ → ℕ → ℕ → List Operator
  ringOf o₁ o₂ n₂ n₃ s =
      ring (listed (free b)) (member_of ns) (chain_ends (get_or o₂ 0 0) n₃ s) (named ns (drop 1 o₂) env) (named ns o₁ env)
      (second_use (free a) (without (free b) (member_of ns)) n env) (spread (free b) n₂)

  ring-count : (o₁ o₂ : List ℕ) (n₂ n₃ s : ℕ) → s ≡ total (free b) → length (ringOf o₁ o₂ n₂ n₃ s) ≡ s
  ring-count o₁ o₂ n₂ n₃ s es =
      ring-length (listed (free b)) (member_of ns) (chain_ends (get_or o₂ 0 0) n₃ s) (named ns (drop 1 o₂) env) (named ns o₁ env)
      (second_use (free a) (without (free b) (member_of ns)) n env) (spread (free b) n₂)
      (ends-length (get_or o₂ 0 0) n₃ s ∙ es ∙ sym (listed-length (free b)))
      ∙ listed-length (free b) ∙ sym es

  -- what is written behind the copies of the shared names
  abbrev loop_of : List ℕ → List ℕ → ℕ → ℕ → ℕ → ℕ → List Operator
  loop_of o₁ o₂ n₁ n₂ n₃ s =
      operators_of a n₁ (first_use (free a) (without (free b) (member_of ns)) n env)
      ++ (operators_of b (n₂ + s) (spread (free b) n₂)
      ++ (chain (get_or o₂ 0 0) n₃ s ++ ringOf o₁ o₂ n₂ n₃ s))

  loop-links : (x l t k n₃ : ℕ) → n₃ ≡ n + x + l + t + k → n₃ + chain_links t ≡ n + (x + (l + (t + (k + chain_links t))))
  loop-links x l t k n₃ e = omega arith

  module _ (m : ℕ) (mem mem₁ mem₂ mem₃ mem₄ mem₅ o₁ o₂ : List ℕ) (n₁ m₁ n₂ m₂ n₃ m₃ m₄ s : ℕ)
      (c : Copied (free a) outer n m env mem mem₁ n₁ m₁)
      (la : Laid a n₁ m₁ (first_use (free a) outer n env) mem₁ mem₂ o₁ n₂ m₂)
      (es : s ≡ total (free b))
      (lb : Laid b (n₂ + s) m₂ (spread (free b) n₂) mem₂ mem₃ o₂ n₃ m₃)
      (h₄ : mem₄ ≡ written mem₃ m₃ (encoded (chain (get_or o₂ 0 0) n₃ s)))
      (k₄ : m₄ ≡ m₃ + (s - 1))
      (h₅ : mem₅ ≡ written mem₄ m₄ (encoded (ringOf o₁ o₂ n₂ n₃ s)))
    where
      begin : n₂ ≡ n + shared_links (free a) outer + links_of a
      begin = la.links ∙ ap (λ (k : ℕ). k + links_of a) c.links

      body_at : n₂ + s ≡ n + shared_links (free a) outer + links_of a + total (free b)
      body_at = ap₂ (λ (x y : ℕ). x + y) begin es

      chain-at : n₃ ≡ n + shared_links (free a) outer + links_of a + total (free b) + links_of b
      chain-at = lb.links ∙ ap (λ (k : ℕ). k + links_of b) body_at

      started : o₁ ≡ outputs a (n + shared_links (free a) outer) (first_use (free a) outer n env)
      started = la.gives ∙ ap (λ (k : ℕ). outputs a k (first_use (free a) outer n env)) c.links

      ended : o₂ ≡ outputs b (n + shared_links (free a) outer + links_of a + total (free b)) (spread (free b) (n + shared_links (free a) outer + links_of a))
      ended = lb.gives ∙ ap₂ (λ (k j : ℕ). outputs b k (spread (free b) j)) body_at begin

      all-written : mem₅ ≡ written mem₁ m₁ (encoded (loop_of o₁ o₂ n₁ n₂ n₃ s))
      all-written =
          in_order (operators_of a n₁ (first_use (free a) outer n env)) _ mem₁ mem₂ mem₅ m₁ m₂ la.memory la.operators
          (in_order (operators_of b (n₂ + s) (spread (free b) n₂)) _ mem₂ mem₃ mem₅ m₂ m₃ lb.memory lb.operators
          (in_order (chain (get_or o₂ 0 0) n₃ s) (ringOf o₁ o₂ n₂ n₃ s) mem₃ mem₄ mem₅ m₃ m₄ h₄
          (k₄ ∙ ap (λ (k : ℕ). m₃ + k) (sym (chain_length (get_or o₂ 0 0) n₃ s))) h₅))

      all-counted : m₄ + s ≡ m₁ + length (loop_of o₁ o₂ n₁ n₂ n₃ s)
      all-counted =
          next-number (operators_of a n₁ (first_use (free a) outer n env)) _ m₁ m₂ (m₄ + s) la.operators
          (next-number (operators_of b (n₂ + s) (spread (free b) n₂)) _ m₂ m₃ (m₄ + s) lb.operators
          (next-number (chain (get_or o₂ 0 0) n₃ s) (ringOf o₁ o₂ n₂ n₃ s) m₃ m₄ (m₄ + s)
          (k₄ ∙ ap (λ (k : ℕ). m₃ + k) (sym (chain_length (get_or o₂ 0 0) n₃ s)))
          (ap (λ (k : ℕ). m₄ + k) (sym (ring-count o₁ o₂ n₂ n₃ s es)))))

      as-made : sharing (free a) outer n env ++ loop_of o₁ o₂ n₁ n₂ n₃ s ≡ operators_of (loop ns a b) n env
      unfolding operators_of
      as-made i =
          sharing (free a) outer n env
          ++ (operators_of a (c.links i) (first_use (free a) outer n env)
          ++ (operators_of b (body_at i) (spread (free b) (begin i))
          ++ (chain (get_or (ended i) 0 0) (chain-at i) (es i) ++ ringOf (started i) (ended i) (begin i) (chain-at i) (es i))))

      pub laid-loop : Laid (loop ns a b) n m env mem mem₅ (drop (suc (length ns)) o₂) (n₃ + chain_links s) (m₄ + s)
      unfolding outputs links_of
      laid-loop =
          record {
            memory =
                in_order (sharing (free a) outer n env) (loop_of o₁ o₂ n₁ n₂ n₃ s) mem mem₁ mem₅ m m₁ c.memory c.operators all-written
                ∙ ap (λ (os : List Operator). written mem m (encoded os)) as-made;
            gives = ap (drop (suc (length ns))) ended;
            links =
                ap (λ (k : ℕ). n₃ + chain_links k) es
                ∙ loop-links (shared_links (free a) outer) (links_of a) (total (free b)) (links_of b) n₃ chain-at;
            operators =
                next-number (sharing (free a) outer n env) (loop_of o₁ o₂ n₁ n₂ n₃ s) m m₁ (m₄ + s) c.operators all-counted
                ∙ ap (λ (os : List Operator). m + length os) as-made;
          }
