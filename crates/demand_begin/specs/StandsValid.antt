-- A memory in which a sound graph's machine stands is valid: document 01's refusal 31 is "never given for a machine that start made and nothing but its calls
-- has touched since". One section for each part of machine_valid/specs/Valid. Assumes a sound graph and a capacity of 1 to 16.
use Prim.Native.Nat.{ℕ, zero, suc, ◌+◌, ◌*◌, ◌≤◌, ◌<◌}
use Rattle.std.specs.Prelude.{◌≡◌, ◌≢◌, Bool, true, false, cond, ◌&&◌, ◌||◌, not, drop, leb, eqb}
use mathlib.Core.List.{List, ◌++◌}
use Rattle.std.proofs.Math.Option.{Option, some}
use borrow.Author.Tests.{lt-ltb, le-ltb, le-leb, eq-eqb, ne_eqb}
use Rattle.value.specs.declared.Value.{Value}
use Rattle.value.specs.Operators.{pick}
use Rattle.value.specs.Bytes.{InRange, word_of, value_of, is_some}
use Rattle.value.specs.Constants.{in_constant_range}
use Rattle.value.specs.Kinds.{is_letter}
use Rattle.names.specs.Names.{bit}
use Rattle.formula.specs.Refusals.{number_of}
use Rattle.formula.specs.declared.Refusal.TheVariants.{Memory, Altered}
use Rattle.network.specs.Rules.{Kind, constant, copy, operator, T-gate, F-gate, M-gate, E-gate, IC-gate, FM-gate, FS-gate, Register}
use Rattle.network.specs.Net.{Token, Links}
use Rattle.network.specs.Fill.{Ports, remembering}
use Rattle.network.specs.Firing.{Holds}
use Rattle.network.specs.Uses.{In}
use Rattle.theory_pieces.specs.Sets.{Different}
use Rattle.machine_queue.specs.Stretch.{waiting}
use Rattle.machine_layout.specs.Layout.{links_at, input_kinds_at, capacity_byte, operators_of, links_of, inputs_of, results_of, untaken_of, no_link, number16, name_at, trigger_of, input_link, operator_at, kind_byte, port_of, size_of, link_at, need}
use Rattle.machine_layout.specs.Fits.{stretch-fits}
use Rattle.machine_layout.specs.Kinds.{byte_of, Coded, has_port, may_lack}
use Rattle.machine_firing.specs.Parts.{part_length}
use Rattle.machine_firing.specs.LinkLaws.{link_part}
use Rattle.machine_valid.specs.Below.{all_below, and_both, below_all}
use Rattle.machine_valid.specs.Valid.{counts_ok, figures_ok, unlike, unlike_at, fresh_at, result_ok, input_ok, letter_ok, port_ok, named_ok, register_ok, kind_ok, operator_ok, token_ok, stretch_ok, link_ok_from, link_ok, valid}
use Rattle.machine_calls.specs.Calls.{standing}
use Rattle.graph.specs.Assembly.{Operator}
use Rattle.graph.specs.Translation.{Made}
use Rattle.theory_reference.specs.Plugged.{link-of, ports_of}
use Rattle.theory_wiring.specs.Links.{optional, input_links, output_links}
use Rattle.demand_view.specs.Sound.{Ith, PortOf, PortIs, HeldOf, Formed, Sound}
use Rattle.demand_view.specs.Stands.{Waits, Recorded, word_in, Fine, Registered, Stands}

-- Two ports with links have different ones.
abbrev pub Apart : Option ℕ → Option ℕ → Type 0
Apart x y = (l : ℕ) → x ≡ some l → y ≡ some l → ⊥

-- The links of three ports in a row.
pub record Three (a b c : Option ℕ) : Type 0 where
  pub second-first : Apart b a
  pub third-first : Apart c a
  pub third-second : Apart c b

abbrev pub In-row : Option ℕ → Option ℕ → Option ℕ → ℕ → Type 0
In-row a b c l = In l (optional a ++ (optional b ++ optional c))
