-- What the program prints (Output) is a matter of its three files alone: the lent memory makes no difference, and the repetitions are those that document 01
-- asks for, until every set is taken. Assumes a memory as long as the machine needs.
use Rattle.std.specs.Prelude.{ℕ, ◌+◌, ◌≤◌, ◌≡◌, ltb, length, Ok, Err}
use Rattle.std.proofs.Math.Path.{refl, ap}
use mathlib.Core.List.{List, [], ◌++◌}
use Rattle.std.proofs.Common.{arith, le-ltb}
use Rattle.std.proofs.lemmas.List.{length-replicate}
use Rattle.value.specs.Operators.{pick}
use Rattle.formula.specs.declared.Refusal.TheVariants.{SetFile}
use Rattle.formula.specs.Results.{Verdict}
use Rattle.formula.specs.Refusals.{number_of}
use Rattle.formula.specs.Tree.{formula_of}
use Rattle.formula.specs.Faults.{letters_of}
use Rattle.formula.specs.Tests.{verdict_of, figures_of}
use Rattle.formula.specs.Acceptance.{Admissible}
use Rattle.formula.proofs.Acceptance.{passed-admissible}
use Rattle.machine_layout.specs.Layout.{need, size_of}
use Rattle.machine_start.specs.Start.{started}
use Rattle.demand_begin.proofs.MadeSound.{made-sound}
use Rattle.machine_start.specs.StartLaws.{start-accepts}
use Rattle.demand_begin.proofs.StartedStands.{accepted-stands}
use Rattle.theory_verdicts.specs.Running.{start_of}
use Rattle.text.specs.Printed.{head_line, refusal_line}
use Rattle.text.specs.SetLines.{SetFile as Sets, sets, bad_line, sets_of}
use Rattle.session.specs.Passes.{passes}
use Rattle.session.proofs.WholeSets.{file-whole}
use Rattle.session.proofs.Reached.{at-start}
use Rattle.session.specs.Onward.{Underway, on}
use Rattle.session.specs.Ending.{Finished}
use Rattle.session.proofs.Ending.{passes-end}
use Rattle.session.proofs.AnyMemory.{Alike, same-passes}
use Rattle.session.specs.Output.{link_capacity, all_firings, most_set_bytes, judged, output_by, output_in, blank_memory, bench_output}

low : 1 ≤ link_capacity
low = omega arith

high : link_capacity ≤ 16
high = omega arith

pub blank-long : need (size_of link_capacity) ≤ length blank_memory
unfolding blank_memory
blank-long = omega (arith, length-replicate {A = ℕ} (need (size_of link_capacity)) 0)

module _ (formula line : List ℕ) (ok : verdict_of formula line ≡ Ok tt) where
  admissible : Admissible formula
  admissible = passed-admissible formula line ok

  abbrev kinds : List ℕ
  kinds = letters_of (formula_of formula) line

  pub starts : (m : List ℕ) → need (size_of link_capacity) ≤ length m → (started formula line link_capacity m).answer.refusal ≡ 0
  starts m h = start-accepts formula line link_capacity m ok low high h

  -- A machine started in any memory is the same machine.
  started-alike : (m m' : List ℕ) → need (size_of link_capacity) ≤ length m → need (size_of link_capacity) ≤ length m'
      → Alike (formula_of formula) (made-sound formula admissible) kinds link_capacity low high (started formula line link_capacity m).mem (started formula line link_capacity m').mem
  started-alike m m' h h' =
      record {
        links = start_of (formula_of formula);
        first = accepted-stands formula line link_capacity m (starts m h);
        second = accepted-stands formula line link_capacity m' (starts m' h');
      }

  same-judged : (m m' file : List ℕ) → need (size_of link_capacity) ≤ length m → need (size_of link_capacity) ≤ length m'
      → (f : Sets) → sets_of kinds file ≡ f → judged formula line m (figures_of formula) f ≡ judged formula line m' (figures_of formula) f
  unfolding judged
  same-judged m m' file h h' (bad_line i) e = refl
  same-judged m m' file h h' (sets ss) e =
      ap (λ (z : List ℕ). head_line (figures_of formula).inputs (figures_of formula).results (length ss) ++ z)
      (same-passes (formula_of formula) (made-sound formula admissible) kinds link_capacity low high (length ss + all_firings) (length ss) ss (file-whole kinds file ss e)
      (started formula line link_capacity m).mem (started formula line link_capacity m').mem all_firings (started-alike m m' h h'))

  -- Before the first call of the loop.
  unfoldable pub underway : (m file : List ℕ) (h : need (size_of link_capacity) ≤ length m) (ss : List (List ℕ)) → sets_of kinds file ≡ sets ss
      → Underway formula line link_capacity m (starts m h) ss (length ss) ss (started formula line link_capacity m).mem
  underway m file h ss e =
      record {
        sets = [];
        results = [];
        reached = at-start (started formula line link_capacity m).mem;
        in_order = refl;
        counts = omega arith;
        whole = file-whole kinds file ss e;
      }

  -- The repetitions of an accepted sheet and its sets end, and this is what they print.
  pub judged-repeats : (m file : List ℕ) → need (size_of link_capacity) ≤ length m → (ss : List (List ℕ)) → sets_of kinds file ≡ sets ss
      → Finished (length ss) ss (started formula line link_capacity m).mem all_firings
      (passes (length ss + all_firings) (length ss) ss (started formula line link_capacity m).mem all_firings)
  judged-repeats m file h ss e =
      passes-end (length ss + all_firings) (length ss) ss (started formula line link_capacity m).mem all_firings
      (on formula line link_capacity m (starts m h) ss (underway m file h ss e)) (omega arith)

-- The lent memory makes no difference.
pub any_memory : (formula line file m : List ℕ) → need (size_of link_capacity) ≤ length m → bench_output formula line file ≡ output_in m formula line file
unfolding bench_output output_in output_by
any_memory formula line file m h = go (verdict_of formula line) refl
  where
    go : (v : Verdict) → verdict_of formula line ≡ v → output_by v formula line file blank_memory ≡ output_by v formula line file m
    go (Err why) e = refl
    go (Ok _) e =
        ap (λ (z : List ℕ). pick (ltb most_set_bytes (length file)) (refusal_line (number_of SetFile) 0) z)
        (same-judged formula line e blank_memory m file blank-long h (sets_of (letters_of (formula_of formula) line) file) refl)

-- With good sets it is the first line and the repetitions.
pub output-is : (formula line file : List ℕ) → verdict_of formula line ≡ Ok tt → length file ≤ most_set_bytes → (ss : List (List ℕ)) → sets_of (letters_of (formula_of formula) line) file ≡ sets ss
    → bench_output formula line file
    ≡ head_line (figures_of formula).inputs (figures_of formula).results (length ss)
    ++ passes (length ss + all_firings) (length ss) ss (started formula line link_capacity blank_memory).mem all_firings
unfolding bench_output output_in output_by judged
output-is formula line file ok h ss e = rw (ok, le-ltb most_set_bytes (length file) h, e) refl

-- For an accepted sheet and good sets: the first line, and what the repetitions print until every set is taken.
pub output-repeats : (formula line file : List ℕ) → verdict_of formula line ≡ Ok tt → length file ≤ most_set_bytes → (ss : List (List ℕ)) → sets_of (letters_of (formula_of formula) line) file ≡ sets ss
    → (out : List ℕ) × Finished (length ss) ss (started formula line link_capacity blank_memory).mem all_firings out
    × (bench_output formula line file ≡ head_line (figures_of formula).inputs (figures_of formula).results (length ss) ++ out)
output-repeats formula line file ok h ss e = (
  passes (length ss + all_firings) (length ss) ss (started formula line link_capacity blank_memory).mem all_firings,
  judged-repeats formula line ok blank_memory file blank-long ss e,
  output-is formula line file ok h ss e,
)
