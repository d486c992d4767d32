-- Take on the machine's memory (machine_calls/specs/Calls: taken) is take on the links (theory_verdicts/specs/Running: takeOf): it is accepted when take can be made on the
-- links that the memory holds, and then only; the memory that it leaves holds the links after it, and the bytes that it writes are the result set of the
-- values that take hands out there. Document 01, "Take removes one value from each result port"; 35 "a result port empty or no set untaken".
-- Assumes a standing machine of a sound graph, at a capacity of 1 to 16.
use Prim.Native.Nat.{ℕ, zero, suc, ◌-◌, ◌≤◌, ◌<◌}
use Rattle.std.specs.Prelude.{◌≡◌, Bool, true, false, ◌&&◌, ltb, eqb, drop, set}
use Rattle.std.proofs.Math.Path.{refl, sym, ap, subst}
use Rattle.std.proofs.Common.{ap₂, ◌∙◌, inl, inr, ltb-true, lt-ltb, ne_eqb}
use Rattle.std.proofs.Math.Bool.{not}
use Rattle.std.proofs.lemmas.Bool.{false≢true}
use mathlib.Core.List.{List, [], ◌∷◌, ◌++◌}
use native.Mathlib.Omega.{arith}
use Rattle.std.proofs.Math.ListN.{length, get_or}
use Rattle.value.specs.declared.Value.{Value}
use Rattle.value.specs.Bytes.{InRange, word_of}
use Rattle.value.proofs.Words.{word-pos}
use Rattle.value.specs.Senses.{err}
use Rattle.formula.specs.declared.Refusal.TheVariants.{NoResult}
use Rattle.network.specs.Net.{Token, val, Links, head, tail, pop, Demand, Able, act, label}
use Rattle.network.proofs.Net.{pop-same, pop-other}
use Rattle.network.specs.Ends.{take-demand}
use Rattle.network.specs.Uses.{In}
use Rattle.machine_layout.specs.Layout.{results_of, untaken_of, result_link, size_of}
use Rattle.machine_firing.specs.Links.{head_at, removed_at}
use Rattle.machine_valid.specs.Below.{all_below, and_left, and_right, and_both, below_at, below_all}
use Rattle.graph.specs.Translation.{Made}
use Rattle.theory_verdicts.specs.Owed.{credit_link}
use Rattle.theory_verdicts.specs.Running.{places}
use Rattle.theory_verdicts.specs.ResultSets.{value_in, values_in}
use Rattle.machine_calls.specs.Calls.{handed, answers, refusal, size_in, standing, result_ready_from, result_ready, written, emptied_from, emptied, taken_memory, taken}
use Rattle.machine_calls.specs.CallLaws.{taken_none, taken-empty, taken-accepted}
use Rattle.demand_view.specs.Sound.{Sound}
use Rattle.demand_view.proofs.FireCall.{stands-size}
use Rattle.demand_view.specs.Stands.{Stands}
use Rattle.demand_view.proofs.Moves.{stands-head, stands-none, stands-value, stands-remove}
use Rattle.demand_ends.specs.ResultBytes.{result_bytes}
use Rattle.demand_ends.proofs.ResultBytes.{written-result}
use Rattle.demand_ends.specs.TakeLinks.{heads_of, popped}
use Rattle.demand_ends.proofs.TakeLinks.{in-at, different-at, popped-other, take-acts, take-label, take-waits, waits-take}
use Rattle.demand_ends.proofs.Credit.{stands-untaken}

-- Take from a graph: for a formula x, `take_of x` is `take_from (made_of x)`.
abbrev pub take_from : Made → Demand
take_from g = take-demand credit_link g.results

-- The values that take hands out (a mark is on no result port).
abbrev pub result_in : Made → Links → List Value
result_in g q = values_in (label (take_from g) q)

-- ---- lists
in_place : (ls : List ℕ) (l : ℕ) → In l ls → (j : ℕ) × (j < length ls) × (get_or ls j 0 ≡ l)
in_place [] l i = absurd i
in_place (k ∷ ls) l (inl e) = (0, omega arith, sym e)
in_place (k ∷ ls) l (inr i) = let p = in_place ls l i in (suc p.0, omega (arith, p.1), p.2)

length-values : (ls : List ℕ) (q : Links) → length (values_in (heads_of ls q)) ≡ length ls
length-values [] q = refl
length-values (l ∷ ls) q = ap suc (length-values ls q)

value-at : (ls : List ℕ) (q : Links) (j : ℕ) → j < length ls → get_or (values_in (heads_of ls q)) j err ≡ value_in (head (q (get_or ls j 0)))
value-at [] q j h = absurd (omega arith)
value-at (l ∷ ls) q zero h = refl
value-at (l ∷ ls) q (suc j) h = value-at ls q j (omega arith)

module _ (g : Made) (S : Sound g) (kinds : List ℕ) (capacity : ℕ) (low : 1 ≤ capacity) (high : capacity ≤ 16) (m : List ℕ) (q : Links) (H : Stands g kinds capacity m q) where
  abbrev size : ℕ
  size = size_of capacity

  abbrev results : List ℕ
  results = g.results

  -- The result links are the graph's, and below the credit link.
  result-below : (j : ℕ) → j < length results → get_or results j 0 < g.links
  result-below j h = S.wired.results-below (get_or results j 0) (in-at results j h)

  near : (l : ℕ) → In l results → l < credit_link
  near l i = omega (arith, S.wired.results-below l i, S.few-links)

  -- What waits first on a link of the graph.
  waiting-value : (l : ℕ) → l < g.links → 0 < length (q l) → (v : Value) × InRange v × (head (q l) ≡ val v) × (head_at m size l ≡ word_of v)
  waiting-value l b = go (q l) refl
    where
      go : (ts : List Token) → q l ≡ ts → 0 < length ts → (v : Value) × InRange v × (head ts ≡ val v) × (head_at m size l ≡ word_of v)
      go [] e h = absurd (omega arith)
      go (t ∷ ts) e h =
          let p = stands-value g S kinds capacity m q H l b t ts e in
          (p.0, p.1, p.2, stands-head g S kinds capacity m q H l b p.0 ts (e ∙ ap (λ (u : Token). u ∷ ts) p.2))

  -- ---- a token on each port
  abbrev Waiting : Type 0
  Waiting = (l : ℕ) → In l results → 0 < length (q l)

  ready-waits : (j : ℕ) → j < length results → result_ready m size j ≡ true → 0 < length (q (get_or results j 0))
  unfolding result_ready_from
  ready-waits j h r = go (q (get_or results j 0)) refl
    where
      go : (ts : List Token) → q (get_or results j 0) ≡ ts → 0 < length ts
      go [] e =
          let z : head_at m size (result_link m j) ≡ 0 = ap (head_at m size) (H.result-links j h) ∙ stands-none g S kinds capacity m q H (get_or results j 0) (result-below j h) e in
          absurd (false≢true (ap (λ (n : ℕ). not (eqb n 0)) (sym z) ∙ r))
      go (t ∷ ts) e = omega arith

  waits-ready : (j : ℕ) → j < length results → 0 < length (q (get_or results j 0)) → result_ready m size j ≡ true
  unfolding result_ready_from
  waits-ready j h w =
      let p = waiting-value (get_or results j 0) (result-below j h) w in
      let z : head_at m size (result_link m j) ≡ word_of p.0 = ap (head_at m size) (H.result-links j h) ∙ p.3 in
      ap (λ (n : ℕ). not (eqb n 0)) z ∙ ap not (ne_eqb (word_of p.0) 0 (λ e. omega (arith, word-pos p.0)))

  all-wait : all_below (results_of m) (result_ready m size) ≡ true → Waiting
  all-wait h l i =
      let p = in_place results l i in
      subst (λ (k : ℕ). 0 < length (q k)) p.2 (ready-waits p.0 p.1 (below_at (results_of m) (result_ready m size) h p.0 (omega (arith, H.results-are, p.1))))

  all-ready : Waiting → all_below (results_of m) (result_ready m size) ≡ true
  all-ready w =
      below_all (results_of m) (result_ready m size)
      (λ j h. let k : j < length results = omega (arith, H.results-are) in waits-ready j k (w (get_or results j 0) (in-at results j k)))

  -- ---- ACCEPTED: as take can be made on the links
  pub tests-take : ltb 0 (untaken_of m) && all_below (results_of m) (result_ready m size) ≡ true → Able (places capacity) (take_from g) q
  tests-take h =
      let u : 0 < untaken_of m = ltb-true 0 (untaken_of m) (and_left (ltb 0 (untaken_of m)) (all_below (results_of m) (result_ready m size)) h) in
      waits-take results S.wired.results-differ q near (places capacity) (omega (arith, H.untaken-is))
      (all-wait (and_right (ltb 0 (untaken_of m)) (all_below (results_of m) (result_ready m size)) h))

  pub take-tests : Able (places capacity) (take_from g) q → ltb 0 (untaken_of m) && all_below (results_of m) (result_ready m size) ≡ true
  take-tests a =
      let w = take-waits results S.wired.results-differ q near (places capacity) a in
      and_both (lt-ltb 0 (untaken_of m) (omega (arith, H.untaken-is, w.0))) (all-ready w.1)

  module _ (a : Able (places capacity) (take_from g) q) where
    waits : (0 < length (q credit_link)) × Waiting
    waits = take-waits results S.wired.results-differ q near (places capacity) a

    -- ---- the memory that take leaves
    stands-emptied : (j : ℕ) → j ≤ length results → Stands g kinds capacity (emptied j m size) (popped j results q)
    unfolding emptied_from
    stands-emptied zero h = H
    stands-emptied (suc j) h =
        let l = get_or results j 0 in
        let e : popped j results q l ≡ q l = popped-other j results q l (λ i k. different-at results S.wired.results-differ i j k h) in
        subst (λ (k : ℕ). Stands g kinds capacity (removed_at (emptied j m size) size k) (pop l (popped j results q))) (sym (H.result-links j h))
        (stands-remove g S kinds capacity (emptied j m size) (popped j results q) (stands-emptied j (omega arith)) l (result-below j h)
        (rw e (waits.1 l (in-at results j h))))

    abbrev popped-links : Links
    popped-links = popped (length results) results q

    credit-kept : popped-links credit_link ≡ q credit_link
    credit-kept = popped-other (length results) results q credit_link (λ i h e. let z = near (get_or results i 0) (in-at results i h) in omega arith)

    shorter : (ts : List Token) → length (tail ts) ≡ length ts - 1
    shorter [] = refl
    shorter (t ∷ ts) = omega arith

    -- ITS LINKS are those after take.
    pub stands-taken : Stands g kinds capacity (taken_memory m) (act (take_from g) q)
    unfolding taken_memory
    stands-taken =
        rw (stands-size g S kinds capacity low high m q H, H.results-are)
        (subst (Stands g kinds capacity (set (emptied (length results) m size) 7 (untaken_of m - 1))) (sym (take-acts results S.wired.results-differ q))
        (stands-untaken g S kinds capacity (emptied (length results) m size) popped-links (stands-emptied (length results) (omega arith)) (untaken_of m - 1) (pop credit_link popped-links)
        (λ l ne. pop-other credit_link l popped-links ne)
        (ap length (pop-same credit_link popped-links) ∙ shorter (popped-links credit_link) ∙ ap (λ (n : ℕ). n - 1) (ap length credit-kept ∙ sym H.untaken-is))
        (omega (arith, H.untaken-is, H.untaken-few))))

    -- ---- the result set that take hands out
    abbrev result : List Value
    result = result_in g q

    labelled : result ≡ values_in (heads_of results q)
    labelled = ap values_in (take-label results S.wired.results-differ q)

    -- It has the graph's width, its tokens are values, and each is in its range.
    pub result-width : length (result_in g q) ≡ length g.results
    result-width = ap length labelled ∙ length-values results q

    result-head : (j : ℕ) → j < length results → InRange (get_or result j err) × (head_at m size (result_link m j) ≡ word_of (get_or result j err))
    result-head j h =
        let l = get_or results j 0 in
        let p = waiting-value l (result-below j h) (waits.1 l (in-at results j h)) in
        let e : get_or result j err ≡ p.0 = ap (λ (r : List Value). get_or r j err) labelled ∙ value-at results q j h ∙ ap value_in p.2 in
        (subst InRange (sym e) p.1, ap (head_at m size) (H.result-links j h) ∙ p.3 ∙ ap word_of (sym e))

    -- THE BYTES WRITTEN are its sixteen places, and nothing behind them is touched.
    pub take-writes : (o : List ℕ) → 80 ≤ length o → written 16 m size (results_of m) o ≡ result_bytes (result_in g q) ++ drop 80 o
    take-writes o h =
        ap (λ (k : ℕ). written 16 m size k o) (H.results-are ∙ sym result-width)
        ∙ written-result m size result (λ j l. (result-head j (omega (arith, result-width))).1) (omega (arith, result-width, S.few-results)) o h

  -- ---- the call
  module _ (st : standing m ≡ 0) (o : List ℕ) (long : 80 ≤ length o) where
    ready-in : (b : Bool) → all_below (results_of m) (result_ready m size) ≡ b → all_below (results_of m) (result_ready m (size_in m)) ≡ b
    ready-in b e = rw (stands-size g S kinds capacity low high m q H) e

    pub take-accepted : Able (places capacity) (take_from g) q
        → taken m o ≡ handed (answers 0 (length (result_in g q))) (taken_memory m) (result_bytes (result_in g q) ++ drop 80 o)
    take-accepted a =
        let t = take-tests a in
        let e : written 16 m (size_in m) (results_of m) o ≡ result_bytes (result_in g q) ++ drop 80 o = rw (stands-size g S kinds capacity low high m q H) (take-writes a o long) in
        taken-accepted m st o long (and_left (ltb 0 (untaken_of m)) (all_below (results_of m) (result_ready m size)) t)
        (ready-in true (and_right (ltb 0 (untaken_of m)) (all_below (results_of m) (result_ready m size)) t))
        ∙ ap₂ (λ (n : ℕ) (bytes : List ℕ). handed (answers 0 n) (taken_memory m) bytes) (H.results-are ∙ sym (result-width a)) e

    pub take-refused : (Able (places capacity) (take_from g) q → ⊥) → taken m o ≡ handed (refusal NoResult) m o
    take-refused n = go (ltb 0 (untaken_of m)) refl (all_below (results_of m) (result_ready m size)) refl
      where
        go : (b : Bool) → ltb 0 (untaken_of m) ≡ b → (c : Bool) → all_below (results_of m) (result_ready m size) ≡ c → taken m o ≡ handed (refusal NoResult) m o
        go true e true f = absurd (n (tests-take (and_both e f)))
        go true e false f = taken-empty m st o long e (ready-in false f)
        go false e c f = taken_none m st o long e
