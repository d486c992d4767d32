-- What the header holds once start has written it (machine_layout/specs/Layout), and that it is all that was written there. Assumes a memory of at least 138
-- bytes; of names, letters and the bytes behind them also that the graph's figures are within the header's ranges and that there is a letter for each input.
use Rattle.std.specs.Prelude.{ℕ, zero, suc, ◌+◌, ◌*◌, ◌/◌, ◌%◌, ◌≤◌, ◌<◌, ◌≡◌, cond, List, length}
use Rattle.std.proofs.Math.Path.{sym, ap, ap₂}
use Rattle.std.proofs.Common.{◌∙◌, inl, inr}
use native.Mathlib.Omega.{arith}
use Rattle.std.proofs.Math.ListN.{get_or}
use Rattle.std.proofs.Math.Seq.{length-sets}
use Rattle.machine_layout.specs.Layout.{input_kinds_at, capacity_byte, operators_of, links_of, inputs_of, results_of, untaken_of, no_link, number16, name_at, trigger_of, input_link, result_link, part, stored_kinds}
use Rattle.graph.specs.Assembly.{up_from}
use Rattle.graph.specs.Translation.{Made}
use Rattle.machine_start.specs.Start.{figure_bytes, figured, named, lettered, headed}
use Rattle.machine_start.specs.ReadBack.{row_kept, row_read, row-part, length-named, named-kept, named-read, number-kept}

-- Figures that fit the header.
pub record Fits (g : Made) : Type 0 where
  pub operators : length g.operators ≤ 1024
  pub links : g.links ≤ 3105
  pub inputs : g.inputs ≤ 32
  pub results : length g.results ≤ 16
  pub names : (j : ℕ) → j < length g.results → get_or g.results j 0 < 65536

up-from : (n k j : ℕ) → j < k → get_or (up_from n k) j 0 ≡ n + j
unfolding up_from
up-from n zero j h = absurd (omega arith)
up-from n (suc k) zero h = omega arith
up-from n (suc k) (suc j) h = up-from (suc n) k j (omega arith) ∙ omega arith

module _ (g : Made) (kinds : List ℕ) (capacity : ℕ) (m : List ℕ) (long : 138 ≤ length m) where
  abbrev trigger : ℕ
  trigger = cond g.triggered g.inputs no_link

  abbrev bytes : List ℕ
  bytes = figure_bytes capacity (length g.operators) g.links g.inputs (length g.results) trigger

  abbrev figures : List ℕ
  figures = figured m capacity (length g.operators) g.links g.inputs (length g.results) trigger

  abbrev inputted : List ℕ
  inputted = named g.inputs figures 10 (up_from 0 g.inputs)

  abbrev resulted : List ℕ
  resulted = named (length g.results) inputted 74 g.results

  length-figures : length figures ≡ length m
  unfolding figured
  length-figures = length-sets m 0 bytes

  length-resulted : length resulted ≡ length m
  length-resulted = length-named (length g.results) inputted 74 g.results ∙ length-named g.inputs figures 10 (up_from 0 g.inputs) ∙ length-figures

  pub length-headed : length (headed g kinds capacity m) ≡ length m
  unfolding headed lettered
  length-headed = length-sets resulted input_kinds_at kinds ∙ length-resulted

  before-letters : (i : ℕ) → i < 106 → get_or (headed g kinds capacity m) i 0 ≡ get_or resulted i 0
  unfolding headed lettered
  before-letters i h = row_kept kinds resulted input_kinds_at i (inl h)

  -- ---- the figures

  figure-byte : (i : ℕ) → i < 10 → get_or (headed g kinds capacity m) i 0 ≡ get_or bytes i 0
  unfolding figured figure_bytes
  figure-byte i h =
      let z : 0 + i ≡ i = omega arith in
      before-letters i (omega arith)
      ∙ named-kept (length g.results) inputted 74 g.results i (inl (omega arith)) ∙ named-kept g.inputs figures 10 (up_from 0 g.inputs) i (inl h)
      ∙ ap (λ (k : ℕ). get_or figures k 0) (sym z) ∙ row_read bytes m 0 i (omega arith) (omega arith)

  pair : (x : ℕ) → x % 256 + 256 * (x / 256) ≡ x
  pair x = omega arith

  pub headed-capacity : capacity_byte (headed g kinds capacity m) ≡ capacity
  unfolding figure_bytes
  headed-capacity = figure-byte 0 (omega arith)

  pub headed-operators : operators_of (headed g kinds capacity m) ≡ length g.operators
  unfolding figure_bytes number16
  headed-operators = ap₂ (λ (x y : ℕ). x + 256 * y) (figure-byte 1 (omega arith)) (figure-byte 2 (omega arith)) ∙ pair (length g.operators)

  pub headed-links : links_of (headed g kinds capacity m) ≡ g.links
  unfolding figure_bytes number16
  headed-links = ap₂ (λ (x y : ℕ). x + 256 * y) (figure-byte 3 (omega arith)) (figure-byte 4 (omega arith)) ∙ pair g.links

  pub headed-inputs : inputs_of (headed g kinds capacity m) ≡ g.inputs
  unfolding figure_bytes
  headed-inputs = figure-byte 5 (omega arith)

  pub headed-results : results_of (headed g kinds capacity m) ≡ length g.results
  unfolding figure_bytes
  headed-results = figure-byte 6 (omega arith)

  -- no set is untaken
  pub headed-untaken : untaken_of (headed g kinds capacity m) ≡ 0
  unfolding figure_bytes
  headed-untaken = figure-byte 7 (omega arith)

  pub headed-trigger : trigger_of (headed g kinds capacity m) ≡ cond g.triggered g.inputs no_link
  unfolding figure_bytes number16
  headed-trigger = ap₂ (λ (x y : ℕ). x + 256 * y) (figure-byte 8 (omega arith)) (figure-byte 9 (omega arith)) ∙ pair trigger

  -- ---- the names

  name-byte : (at : ℕ) → at + 2 ≤ 106 → number16 (headed g kinds capacity m) at ≡ number16 resulted at
  name-byte at h = number-kept resulted (headed g kinds capacity m) at (before-letters at (omega arith)) (before-letters (at + 1) (omega arith))

  module _ (fits : Fits g) (count : length kinds ≡ g.inputs) where
    -- every byte behind the letters is as it was
    pub headed-kept : (i : ℕ) → 138 ≤ i → get_or (headed g kinds capacity m) i 0 ≡ get_or m i 0
    unfolding headed lettered figured figure_bytes
    headed-kept i h =
        row_kept kinds resulted input_kinds_at i (inr (omega (arith, fits.inputs, count)))
        ∙ named-kept (length g.results) inputted 74 g.results i (inr (omega (arith, fits.results)))
        ∙ named-kept g.inputs figures 10 (up_from 0 g.inputs) i (inr (omega (arith, fits.inputs)))
        ∙ row_kept bytes m 0 i (inr (omega arith))

    pub headed-input : (j : ℕ) → j < g.inputs → input_link (headed g kinds capacity m) j ≡ j
    unfolding name_at
    headed-input j h =
        let u : get_or (up_from 0 g.inputs) j 0 ≡ j = up-from 0 g.inputs j h ∙ omega arith in
        name-byte (10 + 2 * j) (omega (arith, fits.inputs))
        ∙ number-kept inputted resulted (10 + 2 * j)
        (named-kept (length g.results) inputted 74 g.results (10 + 2 * j) (inl (omega (arith, fits.inputs))))
        (named-kept (length g.results) inputted 74 g.results (10 + 2 * j + 1) (inl (omega (arith, fits.inputs))))
        ∙ named-read g.inputs figures 10 (up_from 0 g.inputs) (omega (arith, length-figures, fits.inputs)) j h (omega (arith, fits.inputs)) ∙ u

    pub headed-result : (j : ℕ) → j < length g.results → result_link (headed g kinds capacity m) j ≡ get_or g.results j 0
    unfolding name_at
    headed-result j h =
        name-byte (74 + 2 * j) (omega (arith, fits.results))
        ∙ named-read (length g.results) inputted 74 g.results
        (omega (arith, length-named g.inputs figures 10 (up_from 0 g.inputs), length-figures, fits.results)) j h (fits.names j h)

    -- ---- the letters

    pub headed-kinds : stored_kinds (headed g kinds capacity m) ≡ kinds
    unfolding headed lettered
    headed-kinds =
        ap (part (headed g kinds capacity m) input_kinds_at) (headed-inputs ∙ sym count)
        ∙ row-part kinds resulted input_kinds_at (omega (arith, length-resulted, fits.inputs, count))
