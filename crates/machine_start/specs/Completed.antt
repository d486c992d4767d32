-- The header written and the links emptied from what the maker tells (maker/specs/Making), and that with the maker's memory this is an accepted start
-- (Start.antt: started_memory). Assumes figures within the header's ranges, which an accepted sheet's graph has.
use Rattle.std.specs.Prelude.{ℕ, zero, suc, ◌+◌, ◌-◌, ◌≤◌, ◌≡◌, refl, List, length, take, replicate, Ok}
use Rattle.std.proofs.Common.{sym, ap, ap₂, ◌∙◌, subst, arith, length-append, take_at, length-take-le}
use Rattle.std.proofs.lemmas.List.{length-replicate}
use Rattle.names.specs.Names.{below}
use Rattle.names.proofs.Counts.{size_from-le}
use Rattle.formula.specs.Results.{Verdict}
use Rattle.formula.specs.Tree.{Exp}
use Rattle.formula.specs.Free.{free_e}
use Rattle.formula.specs.Admitted.{AdmittedE}
use Rattle.machine_layout.specs.Layout.{no_link, size_of}
use Rattle.graph.specs.Assembly.{up_from}
use Rattle.graph.specs.Translation.{Made, made_of, port_of}
use Rattle.theory_yields.proofs.BodyWidths.{not-too-wide}
use Rattle.theory_wiring.proofs.MadeGraph.{trigger-link, result_count}
use Rattle.maker.specs.Making.{padded, tell_of, making_of, making_in}
use Rattle.maker.specs.declared.Making.{Making}
use Rattle.machine_start.specs.declared.StartAnswer.{StartAnswer}
use Rattle.machine_start.specs.Start.{begun, accepted, figured, named, lettered, headed, cleared_from, emptied, started_memory, by_verdict}
use Rattle.machine_start.specs.StartLaws.{verdict-passed}

-- Figures that fit the header.
pub record Modest (x : Making) : Type 0 where
  pub operators : x.operators ≤ 1024
  pub links : x.links ≤ 3105
  pub inputs : x.inputs ≤ 32
  pub results : x.results ≤ 16
  pub input-places : length x.input_links ≡ 32
  pub result-places : length x.result_links ≡ 16

-- The names of a row: as many as are told.
abbrev pub input_names : Making → List ℕ
input_names x = take x.inputs x.input_links

abbrev pub result_names : Making → List ℕ
result_names x = take x.results x.result_links

pub input-name-count : (x : Making) → Modest x → length (input_names x) ≡ x.inputs
input-name-count x h = length-take-le x.inputs x.input_links (omega (arith, h.inputs, h.input-places))

pub result-name-count : (x : Making) → Modest x → length (result_names x) ≡ x.results
result-name-count x h = length-take-le x.results x.result_links (omega (arith, h.results, h.result-places))

unfoldable pub completed : List ℕ → ℕ → Making → List ℕ → List ℕ
unfolding figured named lettered cleared_from
completed m capacity x kinds =
    let figures : List ℕ = figured m capacity x.operators x.links x.inputs x.results x.trigger in
    emptied x.links (size_of capacity) (lettered (named (length (result_names x)) (named (length (input_names x)) figures 10 (input_names x)) 74 (result_names x)) kinds)

length_up : (n k : ℕ) → length (up_from n k) ≡ k
unfolding up_from
length_up n zero = refl
length_up n (suc k) = ap suc (length_up (suc n) k)

length-padded : (k : ℕ) (ls : List ℕ) → length ls ≤ k → length (padded k ls) ≡ k
length-padded k ls h = length-append ls (replicate (k - length ls) no_link) ∙ ap (λ (n : ℕ). length ls + n) (length-replicate (k - length ls) no_link) ∙ omega arith

pub told-modest : (g : Made) → length g.operators ≤ 1024 → g.links ≤ 3105 → g.inputs ≤ 32 → length g.results ≤ 16 → Modest (tell_of g)
told-modest g a b c d =
    record {
      operators = a;
      links = b;
      inputs = c;
      results = d;
      input-places = length-padded 32 (up_from 0 g.inputs) (omega (arith, length_up 0 g.inputs));
      result-places = length-padded 16 g.results d;
    }

pub told-completed : (m : List ℕ) (capacity : ℕ) (g : Made) (kinds : List ℕ) → completed m capacity (tell_of g) kinds ≡ emptied g.links (size_of capacity) (headed g kinds capacity m)
unfolding completed headed
told-completed m capacity g kinds =
    let i : input_names (tell_of g) ≡ up_from 0 g.inputs =
    take_at (up_from 0 g.inputs) (replicate (32 - length (up_from 0 g.inputs)) no_link) g.inputs (length_up 0 g.inputs) in
    let r : result_names (tell_of g) ≡ g.results = take_at g.results (replicate (16 - length g.results) no_link) (length g.results) refl in
    rw (i, r, length_up 0 g.inputs) refl

-- ---- the graph of an admitted formula

pub made-inputs : (x : Exp) → (made_of x).inputs ≤ 32
unfolding made_of port_of below
made-inputs x = subst (λ (k : ℕ). k ≤ 32) (trigger-link x) (size_from-le 32 (free_e x))

pub made-results : (x : Exp) → AdmittedE x → length (made_of x).results ≤ 16
made-results x h = subst (λ (n : ℕ). n ≤ 16) (sym (result_count x h)) (not-too-wide x h)

pub made-modest : (x : Exp) → AdmittedE x → length (made_of x).operators ≤ 1024 → (made_of x).links ≤ 3105 → Modest (making_of x)
made-modest x h few low = told-modest (made_of x) few low (made-inputs x) (made-results x h)

-- ---- an accepted start, step by step

abbrev pub answered : Making → StartAnswer
answered x = record { refusal = 0; row = 0; operators = x.operators; inputs = x.inputs; results = x.results }

pub built : (v : Verdict) (y x : Exp) (kinds : List ℕ) (c : ℕ) (m m₁ m₂ : List ℕ) (made : Making) → v ≡ Ok tt → y ≡ x → made ≡ making_of y → m₁ ≡ making_in m y
    → m₂ ≡ completed m₁ c made kinds → begun (answered made) m₂ ≡ by_verdict v x kinds c m
unfolding started_memory
built v y x kinds c m m₁ m₂ made p e f h k =
    let memory : m₂ ≡ started_memory (made_of y) kinds c m =
    k ∙ ap₂ (λ (a : List ℕ) (z : Making). completed a c z kinds) h f ∙ told-completed (making_in m y) c (made_of y) kinds
    in
    ap₂ (λ (z : Making) (a : List ℕ). begun (answered z) a) f memory
    ∙ ap (λ (z : Exp). begun (accepted (made_of z)) (started_memory (made_of z) kinds c m)) e
    ∙ sym (verdict-passed v x kinds c m p)
