-- Laws of specs/Owed.antt, and what only they need.
use Rattle.std.specs.Prelude.{ℕ, zero, suc, ◌+◌, ◌-◌, ◌≤◌, ◌<◌, ◌≡◌, Bool, true, false, take}
use Rattle.std.proofs.Math.Path.{refl, sym, ap, subst}
use Rattle.std.proofs.Common.{◌∙◌, eq-eqb, ne_eqb}
use mathlib.Core.List.{List, [], ◌∷◌}
use Rattle.std.proofs.Math.Option.{Option, none, some}
use Rattle.std.proofs.Math.ListN.{length, get_or}
use native.Mathlib.Omega.{arith}
use Rattle.value.specs.declared.Value.{Value}
use Rattle.value.specs.Senses.{err}
use Rattle.names.specs.Names.{Names, trigger, later, bit, put, size, size_from, members_from, below}
use Rattle.names.proofs.Counts.{size_from-cong, size_from-suc, size_from-mono}
use Rattle.formula.specs.Tree.{Exp}
use Rattle.formula.specs.Free.{free_e, inputs_of}
use Rattle.formula.specs.Widths.{width}
use Rattle.formula.specs.Count.{count_e}
use Rattle.formula.specs.Admitted.{AdmittedE}
use Rattle.meaning.specs.Meaning.{eval_e, inputs_hold}
use Rattle.meaning.specs.WidthLaws.{Sized}
use Rattle.meaning.proofs.WidthLaws.{sized}
use Rattle.network.specs.Commute.{Free}
use Rattle.network.proofs.Ends.{machine}
use Rattle.theory_pieces.specs.Piece.{Piece, Means, some_of, Fits}
use Rattle.theory_pieces.proofs.Made.{Made}
use Rattle.theory_pieces.proofs.Tape.{Source-apart}
use Rattle.theory_pieces.proofs.Calls.{Credit-apart}
use Rattle.theory_pieces.proofs.Wiring.{source-apart, credit-apart}
use Rattle.graph.specs.Assembly.{free, listed, name_count}
use Rattle.graph.specs.Yields.{Values, present, bound, Yields}
use Rattle.graph.specs.Translation.{graph_e, port_of, made_of}
use Rattle.theory_reference.specs.Plan.{Between}
use Rattle.theory_reference.specs.Plugged.{registers}
use Rattle.theory_reference.specs.WrittenOut.{no-values}
use Rattle.theory_reference.specs.Marks.{marks}
use Rattle.theory_reference.proofs.WholeGraph.{whole, Idle-load}
use Rattle.theory_reference.proofs.WholeGraph.{yields as yielding}
use Rattle.theory_reference.proofs.GraphBench.{ends-apart, fresh-is-idle}
use Rattle.theory_yields.proofs.Naming.{length-up_from}
use Rattle.theory_yields.proofs.Lookups.{length-present, present-at}
use Rattle.theory_yields.proofs.BodyWidths.{sound-E}
use Rattle.theory_yields.proofs.FreeNames.{free-E}
use Rattle.theory_yields.proofs.FitGraphs.{fit-E}
use Rattle.theory_yields.specs.Meets.{Holds}
use Rattle.theory_yields.proofs.Agreement.{values_agree, unfinished-agrees}
use Rattle.theory_wiring.specs.Machine.{net_of, TakesAt, PutsAt}
use Rattle.theory_wiring.proofs.FormulaCounts.{made-links-bound}
use Rattle.theory_wiring.proofs.MadeGraph.{trigger-link, made-envs, result_count, Spare, room, Numbers, made-wiring, made-commutes, made-bench, whole-inputs}
use Rattle.theory_wiring.specs.MadeGraph.{push_links}
use Rattle.theory_verdicts.specs.Results.{result_of, EndsWith}
use Rattle.theory_verdicts.proofs.Results.{values-some, values-none}
use Rattle.theory_verdicts.specs.Owed.{push_number, take_number, credit_link, source_link}

-- ---- lists
pub fits-length : {A B : Type 0} (xs : List A) (ys : List B) → Fits xs ys → length ys ≡ length xs
fits-length [] [] f = refl
fits-length [] (y ∷ ys) f = absurd f
fits-length (x ∷ xs) [] f = absurd f
fits-length (x ∷ xs) (y ∷ ys) f = ap suc (fits-length xs ys f)

pub length-fits : {A B : Type 0} (xs : List A) (ys : List B) → length ys ≡ length xs → Fits xs ys
length-fits [] [] e = tt
length-fits [] (y ∷ ys) e = absurd (omega arith)
length-fits (x ∷ xs) [] e = absurd (omega arith)
length-fits (x ∷ xs) (y ∷ ys) e = length-fits xs ys (omega arith)

pub some-present : (vs : List Value) → some_of vs ≡ present vs
some-present [] = refl
some-present (v ∷ vs) = ap {B = List (Option Value)} (λ r. some v ∷ r) (some-present vs)

get_d_take : (m i : ℕ) (vs : List Value) → i < m → get_or (take m vs) i err ≡ get_or vs i err
get_d_take zero i vs h = absurd (omega arith)
get_d_take (suc m) i [] h = refl
get_d_take (suc m) zero (v ∷ vs) h = refl
get_d_take (suc m) (suc i) (v ∷ vs) h = get_d_take m i vs (omega arith)

-- The members of a set, rising, bound to the values of a list: each has the value of its rank.
bound-members : (c at x : ℕ) (f : Names) (vs : List (Option Value)) (ρ : Values) → x < c → f x ≡ true → size_from x f < length vs
    → bound (members_from c at f) vs ρ (at + x) ≡ get_or vs (size_from x f) none
unfolding bound members_from size_from
bound-members zero at x f vs ρ h e l = absurd (omega arith)
bound-members (suc c) at zero f vs ρ h e l = go vs l
  where
    go : (vs : List (Option Value)) → 0 < length vs → bound (put (f 0) at (members_from c (suc at) (later f))) vs ρ (at + 0) ≡ get_or vs 0 none
    go [] l = absurd (omega arith)
    go (v ∷ vs) l = rw (e, eq-eqb at (at + 0) (omega arith)) refl
bound-members (suc c) at (suc x) f vs ρ h e l = go (f 0) vs l (λ ws k. bound-members c (suc at) x (later f) ws ρ (omega arith) e k)
  where
    shift : suc at + x ≡ at + suc x
    shift = omega arith

    go : (b : Bool) (vs : List (Option Value)) → bit b + size_from x (later f) < length vs
        → ((ws : List (Option Value)) → size_from x (later f) < length ws → bound (members_from c (suc at) (later f)) ws ρ (suc at + x) ≡ get_or ws (size_from x (later f)) none)
        → bound (put b at (members_from c (suc at) (later f))) vs ρ (at + suc x) ≡ get_or vs (bit b + size_from x (later f)) none
    go true [] l ih = absurd (omega arith)
    go true (v ∷ vs) l ih =
        let z : 1 + size_from x (later f) ≡ suc (size_from x (later f)) = omega arith in
        rw (z, ne_eqb at (at + suc x) (λ (q : at ≡ at + suc x). omega arith)) (ap (bound (members_from c (suc at) (later f)) vs ρ) (sym shift) ∙ ih vs (omega arith))
    go false vs l ih =
        let z : 0 + size_from x (later f) ≡ size_from x (later f) = omega arith in
        rw z (ap (bound (members_from c (suc at) (later f)) vs ρ) (sym shift) ∙ ih vs (omega arith))

far-off : (m l : ℕ) → m ≤ 3105 → 131072 ≤ l → (m ≤ l) × (Between registers m l → ⊥)
far-off m l p q = (omega arith, λ b. omega arith)

module _ (x : Exp) (h : AdmittedE x) where
  -- The piece of the whole graph and what it means.
  abbrev pub piece_of : Piece
  piece_of = whole (graph_e x) (size (free_e x)) (port_of x) source_link credit_link

  abbrev pub meansOf : Means
  meansOf = yielding (graph_e x) (size (free_e x)) (port_of x) source_link credit_link

  -- Direct evaluation of a pushed set: the trigger's value behind the inputs' says nothing.
  abbrev pub evaluation : ℕ → List Value → Option (List Value)
  evaluation rounds v = result_of x (take (length (inputs_of x)) v) rounds

  pub result-width : (v r : List Value) → EndsWith x v r → length r ≡ width x
  unfolding result_of
  result-width v r e =
      let o = values-some (eval_e x (inputs_hold (free_e x) v) e.0) r e.1 in
      subst (Sized (width x)) o.1 (sized x (sound-E x h) (inputs_hold (free_e x) v) e.0)

  pub results-are : piece_of.outs ≡ (made_of x).results
  unfolding made_of
  results-are = refl

  pub inputs_are : piece_of.ins ≡ push_links (made_of x)
  inputs_are = whole-inputs x h

  pub push-count : length (push_links (made_of x)) ≡ length (inputs_of x) + bit (free_e x trigger)
  unfolding made_of
  push-count = length-up_from 0 (length (inputs_of x) + bit (free_e x trigger))

  pub input-count : length piece_of.ins ≡ length (inputs_of x) + bit (free_e x trigger)
  input-count = ap length inputs_are ∙ push-count

  -- the rank of a name in the graph and in the formula
  same_rank : (k : ℕ) → size_from k (free (graph_e x)) ≡ size_from k (free_e x)
  same_rank k = size_from-cong k (free (graph_e x)) (free_e x) (λ i _. free-E x h i)

  trigger-rank : size_from 32 (free_e x) ≡ length (inputs_of x)
  unfolding port_of below
  trigger-rank = trigger-link x

  identifier-rank : (k : ℕ) → k < 32 → free_e x k ≡ true → size_from k (free_e x) < length (inputs_of x)
  identifier-rank k l e =
      let s : size_from (suc k) (free_e x) ≡ size_from k (free_e x) + 1 = size_from-suc k (free_e x) ∙ ap (λ (b : Bool). size_from k (free_e x) + bit b) e in
      omega (arith, size_from-mono (suc k) 32 (free_e x) l, trigger-rank)

  module _ (v : List Value) (fits : Fits piece_of.ins v) where
    abbrev pub ρ : Values
    ρ = bound (listed (free (graph_e x))) (some_of v) no-values

    long : length v ≡ length (inputs_of x) + bit (free_e x trigger)
    long = fits-length piece_of.ins v fits ∙ input-count

    at-rank : (k : ℕ) → k < name_count → free_e x k ≡ true → size_from k (free_e x) < length v → ρ k ≡ some (get_or v (size_from k (free_e x)) err)
    unfolding listed
    at-rank k l e i =
        let many : size_from k (free (graph_e x)) < length (present v) = omega (arith, same_rank k, length-present v) in
        let z : 0 + k ≡ k = omega arith in
        ap (λ (ws : List (Option Value)). bound (members_from name_count 0 (free (graph_e x))) ws no-values k) (some-present v)
        ∙ ap (bound (members_from name_count 0 (free (graph_e x))) (present v) no-values) (sym z)
        ∙ bound-members name_count 0 k (free (graph_e x)) (present v) no-values l (free-E x h k ∙ e) many
        ∙ ap (λ (j : ℕ). get_or (present v) j none) (same_rank k)
        ∙ present-at v (size_from k (free_e x)) i

    pub held : Holds (free_e x) (inputs_hold (free_e x) (take (length (inputs_of x)) v)) ρ
    unfolding inputs_hold below
    held = (
      λ k l e.
          let i = identifier-rank k l e in
          at-rank k (omega arith) e (omega (arith, i, long)) ∙ ap some (sym (get_d_take (length (inputs_of x)) (size_from k (free_e x)) v i)),
      λ e.
          let one_more : bit (free_e x trigger) ≡ 1 = ap bit e in
          (get_or v (size_from 32 (free_e x)) err, at-rank trigger (omega arith) e (omega (arith, trigger-rank, long, one_more))),
    )

    pub result_fits : (rounds : ℕ) (r : List Value) → evaluation rounds v ≡ some r
        → Fits piece_of.outs r × ((c : ℕ) × meansOf (some_of v) c (some (some_of r)))
    unfolding result_of
    result_fits rounds r e =
        let o = values-some (eval_e x (inputs_hold (free_e x) (take (length (inputs_of x)) v)) rounds) r e in
        let w : length r ≡ width x = subst (Sized (width x)) o.1 (sized x (sound-E x h) (inputs_hold (free_e x) (take (length (inputs_of x)) v)) rounds) in (
          length-fits piece_of.outs r (w ∙ sym (ap length results-are ∙ result_count x h)),
          (
            rounds - o.0,
            subst (λ (ws : List (Option Value)). Yields (graph_e x) ρ (rounds - o.0) (some ws)) (sym (some-present r))
                (values_agree x h (inputs_hold (free_e x) (take (length (inputs_of x)) v)) ρ held rounds r o.0 o.1),
          ),
        )

    pub result-lost : (rounds : ℕ) → evaluation rounds v ≡ none → meansOf (some_of v) rounds none
    unfolding result_of
    result-lost rounds e =
        unfinished-agrees x h (inputs_hold (free_e x) (take (length (inputs_of x)) v)) ρ held rounds
        (values-none (eval_e x (inputs_hold (free_e x) (take (length (inputs_of x)) v)) rounds) e)

  module _ (few : (count_e x).operators ≤ 1024) where
    links-far : (l : ℕ) → 131072 ≤ l → Spare x h l
    links-far l p = far-off (made_of x).links l (made-links-bound x h few) p

    pub numbers : Numbers x h few push_number take_number source_link credit_link
    numbers =
        record {
          push-past = omega arith;
          take_past = omega arith;
          push-not-take = λ e. omega arith;
          spare-source = links-far source_link (omega arith);
          spare-credit = links-far credit_link (omega arith);
          source-not-credit = λ e. omega arith;
        }

    -- The load that start leaves is idle.
    pub start-idle : Idle-load (graph_e x) (size (free_e x)) (port_of x) source_link credit_link (marks (made_of x).operators)
    unfolding made_of
    start-idle =
        fresh-is-idle (graph_e x) (fit-E x h) (size (free_e x)) (port_of x) (made-envs x h) (room x h few) source_link credit_link
        (ends-apart (graph_e x) (fit-E x h) (size (free_e x)) (port_of x) (made-envs x h) (room x h few) source_link credit_link
        (links-far source_link (omega arith)) (links-far credit_link (omega arith)) (λ e. omega arith))

    -- What the maker owes.
    unfoldable pub owed : Made (net_of (made_of x).operators) push_number take_number source_link credit_link piece_of meansOf evaluation
    owed =
        record {
          bench = made-bench x h few push_number take_number source_link credit_link numbers;
          free = λ a b ne.
              subst (λ (is : List ℕ). Free (machine (net_of (made_of x).operators) push_number take_number source_link credit_link is piece_of.outs a)
              (machine (net_of (made_of x).operators) push_number take_number source_link credit_link is piece_of.outs b)) (sym inputs_are)
              (subst (λ (os : List ℕ). Free (machine (net_of (made_of x).operators) push_number take_number source_link credit_link (push_links (made_of x)) os a)
              (machine (net_of (made_of x).operators) push_number take_number source_link credit_link (push_links (made_of x)) os b)) (sym results-are)
              (made-commutes x h few push_number take_number source_link credit_link numbers a b ne));
          ended = λ n v r f e. result_fits v f n r e;
          lost = λ n v f e. result-lost v f n e;
          fresh = marks (made_of x).operators;
          fresh-idle = start-idle;
        }

    -- The link of the sets to come is push's alone, the credit link push's and take's alone.
    pub source-is-apart : (cap : ℕ → ℕ) → Source-apart (net_of (made_of x).operators) push_number take_number source_link credit_link piece_of.ins piece_of.outs cap
    source-is-apart cap =
        subst (λ (is : List ℕ). Source-apart (net_of (made_of x).operators) push_number take_number source_link credit_link is piece_of.outs cap) (sym inputs_are)
        (subst (λ (os : List ℕ). Source-apart (net_of (made_of x).operators) push_number take_number source_link credit_link (push_links (made_of x)) os cap) (sym results-are)
        (source-apart (net_of (made_of x).operators) push_number take_number source_link credit_link (push_links (made_of x)) (made_of x).results (TakesAt (made_of x).operators)
        (PutsAt (made_of x).operators) (made-wiring x h few push_number take_number source_link credit_link numbers) cap))

    pub credit-is-apart : (cap : ℕ → ℕ) → Credit-apart (net_of (made_of x).operators) credit_link piece_of.ins piece_of.outs cap
    credit-is-apart cap =
        subst (λ (is : List ℕ). Credit-apart (net_of (made_of x).operators) credit_link is piece_of.outs cap) (sym inputs_are)
        (subst (λ (os : List ℕ). Credit-apart (net_of (made_of x).operators) credit_link (push_links (made_of x)) os cap) (sym results-are)
        (credit-apart (net_of (made_of x).operators) push_number take_number source_link credit_link (push_links (made_of x)) (made_of x).results (TakesAt (made_of x).operators)
        (PutsAt (made_of x).operators) (made-wiring x h few push_number take_number source_link credit_link numbers) cap))
