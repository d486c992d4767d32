-- A memory with tags is in good standing (TagCalls' tag_standing) where the machine of each tag is in the first machine's (machine_calls/specs/Calls), and the other way round with
-- the mark, the kinds without for and the bytes of the tags, which a tag's machine does not show. An operator's register is left by a firing. Assumes nothing.
use Rattle.std.specs.Prelude.{ℕ, zero, suc, ◌+◌, ◌*◌, ◌≤◌, ◌<◌, ◌≡◌, Bool, false, ◌&&◌, ◌||◌, List, leb, ltb, eqb, length, get_or}
use Rattle.std.proofs.Math.Bool.{true}
use borrow.Author.Tests.{ltb-false, le-ltb, leb-true, le-leb, eqb-true, eq-eqb}
use Rattle.value.specs.declared.Value.{Value}
use Rattle.value.specs.Operators.{pick}
use Rattle.value.specs.Bytes.{decoded, is_some, value_of, word_at, word_or, stored}
use Rattle.value.specs.Constants.{in_constant_range}
use Rattle.network.specs.Rules.{constant, FM-gate}
use Rattle.machine_layout.specs.Kinds.{byte_of}
use Rattle.machine_layout.specs.Layout.{capacity_byte, untaken_of, untaken_at, trigger_at, result_links_at, input_kinds_at, links_at, least_size, need, most_operators, most_links, most_inputs, most_results, most_untaken, operators_of, links_of, inputs_of, results_of, kind_byte, operator_at, ports_at, register_at, capacity_in}
use Rattle.machine_valid.specs.Below.{all_below, and_left, and_right, and_both, below_at, below_all}
use Rattle.machine_valid.specs.Valid.{counts_ok, figures_ok, unlike, unlike_at, fresh_at, result_ok, input_ok, letter_ok, named_ok, register_ok, kind_ok, operator_ok, stretch_ok, link_ok_from, valid}
use Rattle.machine_valid.specs.Figures.{Counts, counts-say}
use Rattle.machine_firing.specs.Fire.{register_of, plan_from}
use Rattle.machine_calls.specs.Calls.{size_in, standing}
use Rattle.machine_calls.specs.CallLaws.{standing-good}
use Rattle.machine_planes.specs.Planes.{most_tags, untaken_under, plane_at, tagged_need, plane_of}
use Rattle.machine_tags.specs.TagValid.{tag_mark, plain_kind, untaken_under_ok, plane_ok}

-- ---- what a valid memory with tags has
pub record Parts (m : List ℕ) : Type 0 where
  pub mark : capacity_byte m ≡ tag_mark
  pub empty : untaken_of m ≡ 0
  pub counts : counts_ok m ≡ true
  pub operators : all_below (operators_of m) (operator_ok m) ≡ true
  pub plain : all_below (operators_of m) (plain_kind m) ≡ true
  pub bytes : all_below most_tags (untaken_under_ok m) ≡ true
  pub planes : all_below most_tags (plane_ok m) ≡ true
  pub inputs : all_below (inputs_of m + 1) (input_ok m) ≡ true
  pub letters : all_below (inputs_of m) (letter_ok m) ≡ true
  pub results : all_below (results_of m) (result_ok m result_links_at) ≡ true
