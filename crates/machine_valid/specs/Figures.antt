-- What the header's test says, as inequalities. Assumes nothing.
use Rattle.std.specs.Prelude.{ℕ, ◌≤◌, ◌≡◌, Bool, true, ◌&&◌, ◌||◌, List, leb, ltb, eqb, length}
use Rattle.std.proofs.Common.{ap, leb-true, le-leb}
use Rattle.machine_layout.specs.Layout.{most_operators, most_links, most_capacity, most_inputs, most_results, most_untaken, capacity_byte, operators_of, links_of, inputs_of, results_of, untaken_of, no_link, trigger_of, capacity_in, capacity_of, need, size_of}
use Rattle.machine_valid.specs.Below.{and_left, and_right}
use Rattle.machine_valid.specs.Valid.{counts_ok, figures_ok, valid}

pub record Counts (m : List ℕ) : Type 0 where
  pub operators : operators_of m ≤ most_operators
  pub links : links_of m ≤ most_links
  pub inputs : inputs_of m ≤ most_inputs
  pub results1 : 1 ≤ results_of m
  pub results16 : results_of m ≤ most_results
  pub trigger : ltb (trigger_of m) (links_of m) || eqb (trigger_of m) no_link ≡ true

pub record Figures (m : List ℕ) : Type 0 where
  pub capacity1 : 1 ≤ capacity_byte m
  pub capacity16 : capacity_byte m ≤ most_capacity
  pub operators : operators_of m ≤ most_operators
  pub links : links_of m ≤ most_links
  pub inputs : inputs_of m ≤ most_inputs
  pub results1 : 1 ≤ results_of m
  pub results16 : results_of m ≤ most_results
  pub untaken : untaken_of m ≤ most_untaken
  pub trigger : ltb (trigger_of m) (links_of m) || eqb (trigger_of m) no_link ≡ true

peel : (a b : ℕ) (r : Bool) → leb a b && r ≡ true → (a ≤ b) × (r ≡ true)
peel a b r e = (leb-true a b (and_left (leb a b) r e), and_right (leb a b) r e)

pub counts-say : (m : List ℕ) → counts_ok m ≡ true → Counts m
unfolding counts_ok
counts-say m e =
    let p1 = peel (operators_of m) most_operators _ e in
    let p2 = peel (links_of m) most_links _ p1.1 in
    let p3 = peel (inputs_of m) most_inputs _ p2.1 in
    let p4 = peel 1 (results_of m) _ p3.1 in
    let p5 = peel (results_of m) most_results _ p4.1 in
    record {
      operators = p1.0;
      links = p2.0;
      inputs = p3.0;
      results1 = p4.0;
      results16 = p5.0;
      trigger = p5.1;
    }

pub figures-say : (m : List ℕ) → figures_ok m ≡ true → Figures m
unfolding figures_ok
figures-say m e =
    let p1 = peel 1 (capacity_byte m) _ e in
    let p2 = peel (capacity_byte m) most_capacity _ p1.1 in
    let p3 = peel (untaken_of m) most_untaken _ p2.1 in
    let c = counts-say m p3.1 in
    record {
      capacity1 = p1.0;
      capacity16 = p2.0;
      operators = c.operators;
      links = c.links;
      inputs = c.inputs;
      results1 = c.results1;
      results16 = c.results16;
      untaken = p3.0;
      trigger = c.trigger;
    }

pub valid-figures : (m : List ℕ) → valid m ≡ true → Figures m
unfolding valid
valid-figures m e = figures-say m (and_left (figures_ok m) _ e)

-- a stored capacity in range is the one that the need is reckoned by
pub capacity-is : (m : List ℕ) → Figures m → capacity_of m ≡ capacity_byte m
unfolding capacity_in
capacity-is m h = simp (le-leb 1 (capacity_byte m) h.capacity1, le-leb (capacity_byte m) 16 h.capacity16)

pub size_is : (m : List ℕ) → figures_ok m ≡ true → size_of (capacity_of m) ≡ size_of (capacity_byte m)
size_is m h = ap size_of (capacity-is m (figures-say m h))

pub enough : (m : List ℕ) → Figures m → need (size_of (capacity_of m)) ≤ length m → need (size_of (capacity_byte m)) ≤ length m
enough m f h = rw (capacity-is m f) at h
