-- What the machine with tags has where its memory is valid (machine_tags/specs/TagValid), part by part. Assumes nothing.
use Rattle.std.specs.Prelude.{ℕ, ◌+◌, ◌≡◌, Bool, true, ◌&&◌, List, eqb}
use Rattle.machine_layout.specs.Layout.{result_links_at, capacity_byte, untaken_of, operators_of, inputs_of, results_of}
use Rattle.machine_valid.specs.Below.{all_below, and_left, and_right}
use Rattle.machine_valid.specs.Valid.{counts_ok, result_ok, input_ok, letter_ok, operator_ok}
use Rattle.machine_valid.specs.Figures.{Counts, counts-say}
use Rattle.machine_planes.specs.Planes.{most_tags}
use Rattle.machine_tags.specs.TagValid.{tag_mark, tag_figures_ok, plain_kind, untaken_under_ok, plane_ok, tag_valid}

-- the figures of the header, as inequalities
pub tag-counts : (m : List ℕ) → tag_figures_ok m ≡ true → Counts m
unfolding tag_figures_ok
tag-counts m e = counts-say m (and_right (eqb (untaken_of m) 0) (counts_ok m) (and_right (eqb (capacity_byte m) tag_mark) _ e))

pub record TagParts (m : List ℕ) : Type 0 where
  pub figures : tag_figures_ok m ≡ true
  pub operators : all_below (operators_of m) (operator_ok m) ≡ true
  pub kinds : all_below (operators_of m) (plain_kind m) ≡ true
  pub tags : all_below most_tags (untaken_under_ok m) ≡ true
  pub planes : all_below most_tags (plane_ok m) ≡ true
  pub inputs : all_below (inputs_of m + 1) (input_ok m) ≡ true
  pub letters : all_below (inputs_of m) (letter_ok m) ≡ true
  pub results : all_below (results_of m) (result_ok m result_links_at) ≡ true

pub tag-parts : (m : List ℕ) → tag_valid m ≡ true → TagParts m
unfolding tag_valid
tag-parts m e =
    let r1 = and_right (tag_figures_ok m) _ e in
    let r2 = and_right (all_below (operators_of m) (operator_ok m)) _ r1 in
    let r3 = and_right (all_below (operators_of m) (plain_kind m)) _ r2 in
    let r4 = and_right (all_below most_tags (untaken_under_ok m)) _ r3 in
    let r5 = and_right (all_below most_tags (plane_ok m)) _ r4 in
    let r6 = and_right (all_below (inputs_of m + 1) (input_ok m)) _ r5 in
    record {
      figures = and_left (tag_figures_ok m) _ e;
      operators = and_left (all_below (operators_of m) (operator_ok m)) _ r1;
      kinds = and_left (all_below (operators_of m) (plain_kind m)) _ r2;
      tags = and_left (all_below most_tags (untaken_under_ok m)) _ r3;
      planes = and_left (all_below most_tags (plane_ok m)) _ r4;
      inputs = and_left (all_below (inputs_of m + 1) (input_ok m)) _ r5;
      letters = and_left (all_below (inputs_of m) (letter_ok m)) _ r6;
      results = and_right (all_below (inputs_of m) (letter_ok m)) _ r6;
    }
