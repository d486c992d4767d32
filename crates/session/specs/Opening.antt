-- How the program's output begins, as the opening's contract says it: the first part is printed, and what follows are the repetitions. Each file may go
-- on behind the bytes at hand, where those decide already. Assumes nothing.
use Rattle.std.specs.Prelude.{ℕ, ◌+◌, ◌≤◌, ◌<◌, ◌≡◌, ◌⊎◌, ◌&&◌, List, [], ◌++◌, leb, length, take}
use Rattle.value.specs.Operators.{pick}
use Rattle.formula.specs.declared.Refusal.TheVariants.{Set}
use Rattle.formula.specs.Refusals.{number_of}
use Rattle.machine_start.specs.Start.{started}
use Rattle.text.specs.declared.Seen.{Seen}
use Rattle.text.specs.Printed.{head_line, refusal_line}
use Rattle.text.specs.SetLines.{SetFile as Sets, sets, bad_line, sets_of}
use Rattle.text.specs.Scan.{seen_of, seen_laid_out}
use Rattle.session.specs.declared.Stage.{Stage}
use Rattle.session.specs.declared.Opened.{Opened}
use Rattle.session.specs.Passes.{out_bytes, passes}
use Rattle.session.specs.Waiting.{Waiting}
use Rattle.session.specs.Onward.{Going}
use Rattle.session.specs.Output.{link_capacity, all_firings, most_set_bytes, most_sheet_bytes, bench_output}

-- At most so many bytes of kinds.txt are at hand, more than a kinds line has (LongLines).
abbrev pub kinds_read : ℕ
kinds_read = 64

-- The lengths of a refusal's line and of the first line.
abbrev pub refusal_bytes : ℕ
refusal_bytes = 13

abbrev pub head_bytes : ℕ
head_bytes = 19

-- A refusal is printed alone.
pub record Refuses (number row end : ℕ) (r : Opened) (out : List ℕ) : Type 0 where
  pub inputs_are : r.inputs ≡ 0
  pub at-end : r.stage.at ≡ end
  pub none_left : r.stage.remaining ≡ 0
  pub none-fired : r.stage.firings ≡ 0
  pub length-is : r.stage.printed ≡ refusal_bytes
  pub prints : take refusal_bytes out ≡ refusal_line number row

-- What the set file's test decides.
pub record Heads (inputs results : ℕ) (ss : List (List ℕ)) (r : Opened) (out : List ℕ) : Type 0 where
  pub inputs_are : r.inputs ≡ inputs
  pub at-start : r.stage.at ≡ 0
  pub all_left : r.stage.remaining ≡ length ss
  pub all-firings : r.stage.firings ≡ all_firings
  pub length-is : r.stage.printed ≡ head_bytes
  pub prints : take head_bytes out ≡ head_line inputs results (length ss)

abbrev pub JudgesBy : Sets → ℕ → ℕ → ℕ → Opened → List ℕ → Type 0
JudgesBy (bad_line i) inputs results end r out = Refuses (number_of Set) i end r out
JudgesBy (sets ss) inputs results end r out = Heads inputs results ss r out

abbrev pub Judges : List ℕ → ℕ → List ℕ → Opened → List ℕ → Type 0
Judges kinds results file r out = JudgesBy (sets_of kinds file) (length kinds) results (length file) r out

-- The sheet's first bytes, and what was seen of it in all: behind 200 rows the bytes themselves matter no more.
pub record Whole (first : List ℕ) (x : Seen) (more : List ℕ) : Type 0 where
  pub seen-is : x ≡ seen_of (first ++ more)
  pub at-hand : (more ≡ []) ⊎ (most_sheet_bytes ≤ length first)

-- The kinds are the letters of the inputs.
pub record Begins (formula line file : List ℕ) (kinds at-hand : List ℕ) (r : Opened) (m' out : List ℕ) : Type 0 where
  pub rest : List (List ℕ)
  pub waits : Waiting kinds at-hand r.stage.at rest
  pub going : Going r.stage.remaining rest m'
  pub output-is : bench_output formula line file
      ≡ take r.stage.printed out ++ passes (r.stage.remaining + r.stage.firings) r.stage.remaining rest m' r.stage.firings

-- The letters are at hand, the loop begins in the set file, and what is printed fits.
pub record Within (line : List ℕ) (end : ℕ) (r : Opened) : Type 0 where
  pub few : r.inputs ≤ 32
  pub told : r.inputs ≤ length line
  pub inside : r.stage.at ≤ end
  pub fits : r.stage.printed ≤ out_bytes

-- The lent memory then: start was called, unless tests 1 and 2 of what was seen refuse the sheet before.
unfoldable pub opened_memory : List ℕ → Seen → List ℕ → List ℕ → List ℕ
opened_memory first x line m = pick (seen_laid_out x && leb x.length most_sheet_bytes) (started first line link_capacity m).mem m

abbrev pub OpensTo : List ℕ → Seen → List ℕ → List ℕ → Opened → List ℕ → List ℕ → Type 0
OpensTo first x line file r m' out =
    (more moreLine moreSets : List ℕ) → Whole first x more → (moreLine ≡ []) ⊎ (kinds_read ≤ length line) → (moreSets ≡ []) ⊎ (most_set_bytes < length file)
    → Begins (first ++ more) (line ++ moreLine) (file ++ moreSets) (take r.inputs line) file r m' out
