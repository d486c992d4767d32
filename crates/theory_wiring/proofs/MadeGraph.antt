-- Laws of specs/MadeGraph.antt, and what only they need.
use Rattle.std.specs.Prelude.{ℕ, zero, suc, ◌+◌, ◌≤◌, ◌<◌, ◌≡◌, refl, ◌≢◌, Bool, false, List, [], ◌∷◌, length, eqb}
use Rattle.std.proofs.Math.Path.{sym, ap}
use Rattle.std.proofs.Common.{ap₂, ◌∙◌, subst, inl, inr, ne_eqb, zero-add}
use Rattle.std.proofs.Math.Bool.{true}
use native.Mathlib.Omega.{arith}
use Rattle.std.proofs.Math.Decide.{dec_lt}
use Rattle.names.specs.Names.{Names, trigger, one, without, later, bit, put, size, size_from, members_from, below}
use Rattle.names.proofs.Counts.{size_from-cong, size_from-suc}
use Rattle.names.proofs.Sets.{below-lt, below_suc, below_all, length-members}
use Rattle.formula.specs.Tree.{Exp}
use Rattle.formula.specs.Free.{free_e, inputs_of}
use Rattle.formula.specs.Count.{count_e}
use Rattle.formula.specs.Widths.{width}
use Rattle.formula.specs.Admitted.{AdmittedE}
use Rattle.network.specs.Commute.{Free}
use Rattle.network.proofs.Ends.{machine}
use Rattle.network.specs.Uses.{In}
use Rattle.theory_pieces.specs.Piece.{Piece, Means}
use Rattle.theory_pieces.proofs.Sets.{Bench}
use Rattle.theory_pieces.proofs.Wiring.{Wiring, wiring-free}
use Rattle.graph.specs.Assembly.{Env, Operator, free, up_from, rank, total, listed, name_count, links_of, operators_of}
use Rattle.graph.specs.Translation.{graph_e, port_of, made_of}
use Rattle.theory_reference.proofs.NameSets.{rank-differs, listed-only, not-both}
use Rattle.theory_reference.specs.Plan.{Between, Envs}
use Rattle.theory_reference.specs.Plugged.{nowhere, registers, Each}
use Rattle.theory_reference.specs.WrittenOut.{links-of}
use Rattle.theory_reference.proofs.WrittenOut.{in-links}
use Rattle.theory_reference.proofs.WholeGraph.{whole, yields}
use Rattle.theory_reference.specs.WholeGraph.{inputs}
use Rattle.theory_yields.specs.Naming.{Small}
use Rattle.theory_yields.proofs.Choice.{kept, gone}
use Rattle.theory_yields.proofs.FreeNames.{small-E, free-E}
use Rattle.theory_yields.proofs.FitGraphs.{fit-E, count-E}
use Rattle.theory_wiring.proofs.Conservation.{length-outputs}
use Rattle.theory_wiring.specs.Wiring.{inputs_at, outputs_at}
use Rattle.theory_wiring.proofs.Wiring.{Zone, wired, outputs-different, outputs-zone}
use Rattle.theory_wiring.specs.Ports.{Ported}
use Rattle.theory_wiring.proofs.PortedGraphs.{ported}
use Rattle.theory_wiring.specs.Machine.{net_of, TakesAt, PutsAt}
use Rattle.theory_wiring.proofs.Machine.{Ends, graph-wiring, bench}
use Rattle.theory_wiring.proofs.RowCounts.{total_size}
use Rattle.theory_wiring.proofs.FormulaCounts.{made-operators, made-links-bound}
use Rattle.theory_wiring.specs.MadeGraph.{push_links, WellWired}

-- ---- the links of inputs and trigger
small-member : (f : Names) → Small f → (k : ℕ) → f k ≡ true → k < 33
small-member f s k e = go (dec_lt k 33)
  where
    go : Dec (k < 33) → k < 33
    go (yes p) = p
    go (no p) = absurd (not-both (f k) e (s k (omega arith)))

rank_is : (f : Names) (k : ℕ) → below f k ≡ rank f k
unfolding below rank
rank_is f k = refl

-- without the trigger, over the identifiers
untriggered : (f : Names) (k : ℕ) → k ≤ 32 → size_from k (without f (one trigger)) ≡ size_from k f
untriggered f k h = size_from-cong k (without f (one trigger)) f (λ i l. kept (f i) (eqb trigger i) (ne_eqb trigger i (λ e. omega arith)))

-- The trigger's link is behind those of the inputs.
pub trigger-link : (x : Exp) → port_of x trigger ≡ length (inputs_of x)
unfolding port_of inputs_of below size
trigger-link x =
    sym
    (length-members (without (free_e x) (one trigger)) ∙ size_from-suc 32 (without (free_e x) (one trigger))
    ∙ ap₂ (λ (m : ℕ) (b : Bool). m + bit b) (untriggered (free_e x) 32 (omega arith)) (gone (free_e x trigger) (eqb trigger trigger) refl)
    ∙ omega arith)

-- The links below the graph's own are those of the inputs and the trigger's.
pub port-count : (x : Exp) → size (free_e x) ≡ length (inputs_of x) + bit (free_e x trigger)
unfolding port_of
port-count x = sym (below_all (free_e x)) ∙ below_suc (free_e x) 32 ∙ ap (λ (m : ℕ). m + bit (free_e x trigger)) (trigger-link x)

module _ (x : Exp) (h : AdmittedE x) where
  -- The links of the free names are different and lie below the graph's own.
  pub made-envs : Envs (free (graph_e x)) (port_of x) (size (free_e x))
  unfolding port_of
  made-envs =
      record {
        below = λ k e. below-lt (free_e x) k (low k e) (sym (free-E x h k) ∙ e);
        differ = λ k m p q e. rank-differs (free_e x) k m (sym (free-E x h k) ∙ p) (sym (free-E x h m) ∙ q) (sym (rank_is (free_e x) k) ∙ e ∙ rank_is (free_e x) m);
        small = λ k e. far k (low k e);
      }
    where
      low : (k : ℕ) → free (graph_e x) k ≡ true → k < 33
      low k e = small-member (free_e x) (small-E x h) k (sym (free-E x h k) ∙ e)

      far : (k : ℕ) → k < 33 → k < name_count
      far k p = omega arith

-- The links of the members of a set, numbered by rank.
links-members : (k at m : ℕ) (f : Names) (env : Env) → ((i : ℕ) → i < k → f i ≡ true → env (at + i) ≡ m + size_from i f)
    → links-of (members_from k at f) env ≡ up_from m (size_from k f)
unfolding members_from size_from up_from
links-members zero at m f env h = refl
links-members (suc k) at m f env h = go (f 0) refl (λ m' e. links-members k (suc at) m' (later f) env e)
  where
    go : (b : Bool) → f 0 ≡ b
        → ((m' : ℕ) → ((i : ℕ) → i < k → later f i ≡ true → env (suc at + i) ≡ m' + size_from i (later f)) → links-of (members_from k (suc at) (later f)) env ≡ up_from m' (size_from k (later f)))
        → links-of (put b at (members_from k (suc at) (later f))) env ≡ up_from m (bit b + size_from k (later f))
    go true e ih =
        let z : 1 + size_from k (later f) ≡ suc (size_from k (later f)) = omega arith in
        let a : env at ≡ m = ap env (omega arith) ∙ h 0 (omega arith) e ∙ omega arith in
        rw z
        (ap₂ (λ (y : ℕ) (ys : List ℕ). y ∷ ys) a
        (ih (suc m) (λ i l p. ap env (omega arith) ∙ h (suc i) (omega arith) p ∙ ap (λ (c : Bool). m + (bit c + size_from i (later f))) e ∙ omega arith)))
    go false e ih =
        let z : 0 + size_from k (later f) ≡ size_from k (later f) = omega arith in
        rw z (ih m (λ i l p. ap env (omega arith) ∙ h (suc i) (omega arith) p ∙ ap (λ (c : Bool). m + (bit c + size_from i (later f))) e ∙ omega arith))

total-is : (f : Names) → total f ≡ size_from name_count f
unfolding total
total-is f = refl

ports-apart-at : (os : List Operator) → Each Ported os → (i l : ℕ) → In l (inputs_at os i) → In l (outputs_at os i) → ⊥
unfolding inputs_at outputs_at
ports-apart-at [] p i l a b = a
ports-apart-at (o ∷ os) p zero l a b = p.0.apart l a b
ports-apart-at (o ∷ os) p (suc i) l a b = ports-apart-at os p.1 i l a b

module _ (x : Exp) (h : AdmittedE x) where
  abbrev n : ℕ
  n = size (free_e x)

  abbrev E : Envs (free (graph_e x)) (port_of x) n
  E = made-envs x h

  zone-below : (l : ℕ) → Zone (graph_e x) n (port_of x) l → l < n + links_of (graph_e x)
  zone-below l (inl o) = o.1
  zone-below l (inr (k, e, z)) = under l (port_of x k) n (links_of (graph_e x)) z (E.below k e)
    where
      under : (l p n k : ℕ) → l ≡ p → p < n → l < n + k
      under l p n k e q = omega arith

  -- As many results as the formula's width.
  pub result_count : length (made_of x).results ≡ width x
  unfolding made_of
  result_count = length-outputs (graph_e x) n (port_of x) (fit-E x h) ∙ count-E x h

  -- The links of the free names, rising, are push's links.
  pub whole-inputs : links-of (listed (free (graph_e x))) (port_of x) ≡ push_links (made_of x)
  unfolding made_of port_of listed below
  whole-inputs =
      links-members name_count 0 0 (free (graph_e x)) (port_of x) ports
      ∙ ap (up_from 0) (all-names ∙ port-count x)
    where
      ports : (i : ℕ) → i < name_count → free (graph_e x) i ≡ true → size_from (0 + i) (free_e x) ≡ 0 + size_from i (free (graph_e x))
      ports i l e = ap (λ (k : ℕ). size_from k (free_e x)) (zero-add i) ∙ size_from-cong i (free_e x) (free (graph_e x)) (λ k _. sym (free-E x h k)) ∙ sym (zero-add (size_from i (free (graph_e x))))

      all-names : size_from name_count (free (graph_e x)) ≡ size (free_e x)
      all-names = sym (total-is (free (graph_e x))) ∙ total_size (free (graph_e x)) (free_e x) (free-E x h) (small-E x h)

  -- A link that is neither the graph's nor a register link.
  abbrev pub Spare : ℕ → Type 0
  Spare l = ((made_of x).links ≤ l) × (Between registers (made_of x).links l → ⊥)

  module _ (few : (count_e x).operators ≤ 1024) where
    pub room : n + links_of (graph_e x) ≤ nowhere
    unfolding made_of
    room = within (made_of x).links (made-links-bound x h few)
      where
        within : (l : ℕ) → l ≤ 3105 → l ≤ nowhere
        within l p = omega arith

    pub well-wired : WellWired (made_of x)
    unfolding made_of
    well-wired =
        let W = wired (graph_e x) n (port_of x) (fit-E x h) E in
        record {
          one-taker = W.one-taker;
          one-putter = W.one-putter;
          inputs-differ = W.inputs-differ;
          outputs-differ = W.outputs-differ;
          ports-apart = ports-apart-at (operators_of (graph_e x) n (port_of x)) (ported (graph_e x) n (port_of x) (fit-E x h) E room);
          takes-below = λ i l p. zone-below l (W.takes-in-zone i l p);
          puts-below = λ i l p. let o = W.puts-own i l p in (subst (λ k. k ≤ l) (port-count x) o.0, o.1);
          takes-no-result = W.takes-no-output;
          results-differ = outputs-different (graph_e x) n (port_of x) (fit-E x h) E;
          results-below = λ l i. zone-below l (outputs-zone (graph_e x) n (port_of x) (fit-E x h) E l i);
          all-ported = ported (graph_e x) n (port_of x) (fit-E x h) E room;
        }

    -- Push and take have numbers past the last operator; source and credit link are spare.
    pub record Numbers (push take source credit : ℕ) : Type 0 where
      pub push-past : 1024 ≤ push
      pub take_past : 1024 ≤ take
      pub push-not-take : push ≢ take
      pub spare-source : Spare source
      pub spare-credit : Spare credit
      pub source-not-credit : source ≢ credit

    module _ (push take source credit : ℕ) (N : Numbers push take source credit) where
      past : (k : ℕ) → 1024 ≤ k → length (made_of x).operators ≤ k
      past k p = through (length (made_of x).operators) (count_e x).operators k (made-operators x h) few p
        where
          through : (l c k : ℕ) → l ≡ c → c ≤ 1024 → 1024 ≤ k → l ≤ k
          through l c k p q r = omega arith

      -- the inputs of the piece that the schedule lemma speaks of
      abbrev pub ins : List ℕ
      ins = inputs (graph_e x) n (port_of x) source credit

      ins-below : (l : ℕ) → In l ins → l < n
      ins-below l i =
          let w = in-links (listed (free (graph_e x))) (port_of x) l i in
          subst (λ k. k < n) (sym w.2) (E.below w.0 (listed-only (free (graph_e x)) w.0 w.1))

      pub made_ends : Ends (graph_e x) n (port_of x) (fit-E x h) E room push take source credit ins
      unfolding made_of
      made_ends =
          record {
            push-past = past push N.push-past;
            take_past = past take N.take_past;
            push-not-take = N.push-not-take;
            spare-source = N.spare-source;
            spare-credit = N.spare-credit;
            source-not-credit = N.source-not-credit;
            inputs-below = ins-below;
          }

      -- What the maker owes about numbers: one taker and one putter of each link, push and take counted as operators.
      pub whole-wiring : Wiring (net_of (made_of x).operators) push take source credit ins (made_of x).results (TakesAt (made_of x).operators) (PutsAt (made_of x).operators)
      unfolding made_of
      whole-wiring = graph-wiring (graph_e x) n (port_of x) (fit-E x h) E room push take source credit ins made_ends

      pub made-wiring : Wiring (net_of (made_of x).operators) push take source credit (push_links (made_of x)) (made_of x).results (TakesAt (made_of x).operators)
          (PutsAt (made_of x).operators)
      made-wiring =
          subst (λ is. Wiring (net_of (made_of x).operators) push take source credit is (made_of x).results (TakesAt (made_of x).operators) (PutsAt (made_of x).operators))
          whole-inputs whole-wiring

      -- Any two firings, push and take among them, are free of one another.
      pub made-commutes : (a b : ℕ) → a ≢ b
          → Free (machine (net_of (made_of x).operators) push take source credit (push_links (made_of x)) (made_of x).results a)
          (machine (net_of (made_of x).operators) push take source credit (push_links (made_of x)) (made_of x).results b)
      made-commutes =
          wiring-free (net_of (made_of x).operators) push take source credit (push_links (made_of x)) (made_of x).results (TakesAt (made_of x).operators) (PutsAt (made_of x).operators)
          made-wiring

      -- The piece of the schedule lemma with the network of the made graph: its bench, that its firings commute, and that it is idle at the start.
      abbrev pub piece : Piece
      piece = whole (graph_e x) n (port_of x) source credit

      abbrev pub meaning : Means
      meaning = yields (graph_e x) n (port_of x) source credit

      pub made-bench : Bench (net_of (made_of x).operators) push take source credit piece meaning
      unfolding made_of
      made-bench = bench (graph_e x) n (port_of x) (fit-E x h) E room push take source credit ins made_ends
