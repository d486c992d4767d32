-- Document 01's example sheets started, and the order of start's refusals: "11 comes before all", "14 .. after 11, before 1", then the sheet's tests. One list
-- of outcomes with one proof over the list; with the sheet's tests those of its kinds line (document 02, Job 6). A machine needs 40,390 bytes at capacity 1, also where the capacity asked is outside 1..16, and 55,915 at 2.
use Rattle.std.specs.Prelude.{ℕ, ◌≡◌, refl, List, [], ◌∷◌, map, replicate}
use Rattle.formula.specs.declared.Refusal.TheVariants.{Layout, StrayIter, Unused, KindsLine, KindsBroken, Memory, Capacity}
use Rattle.formula.specs.Tree.{formula_of}
use Rattle.formula.specs.Tests.{verdict_of}
use Rattle.machine_layout.specs.Layout.{capacity_in}
use Rattle.examples.specs.Sheets.{bytes, lesser, twice, factorial, iter_alone, let_unused}
use Rattle.machine_start.specs.declared.StartAnswer.{StartAnswer}
use Rattle.machine_start.specs.Start.{refusal, started}

pub record Case : Type 0 where
  pub sheet : List ℕ
  pub line : List ℕ
  pub capacity : ℕ
  pub lent : ℕ
  pub gives : StartAnswer

abbrev pub given : List ℕ → List ℕ → ℕ → ℕ → StartAnswer → Case
given s l c n a = record { sheet = s; line = l; capacity = c; lent = n; gives = a }

abbrev pub figures : ℕ → ℕ → ℕ → StartAnswer
figures o i w = record { refusal = 0; row = 0; operators = o; inputs = i; results = w }

unfoldable pub starts : List Case
unfolding bytes lesser twice factorial iter_alone let_unused
starts =
    given (bytes lesser) (bytes "WW\n") 1 40390 (figures 8 2 1)
    ∷ given (bytes lesser) (bytes "WW\n") 1 40389 (refusal Memory 0)
    ∷ given (bytes twice) (bytes "W\n") 2 55915 (figures 2 1 1)
    ∷ given (bytes factorial) (bytes "W\n") 1 40390 (figures 32 1 1)
    ∷ given (bytes factorial) (bytes "W\n") 2 55914 (refusal Memory 0)
    ∷ given [] [] 17 40389 (refusal Memory 0)
    ∷ given [] [] 17 40390 (refusal Capacity 0)
    ∷ given [] [] 0 40390 (refusal Capacity 0)
    ∷ given [] [] 1 40390 (refusal Layout 0)
    ∷ given (bytes iter_alone) [] 1 40390 (refusal StrayIter 2)
    ∷ given (bytes let_unused) [] 1 40390 (refusal Unused 3)
    -- "17 when the kinds line has another length or letter, 18 when a row breaks the kinds, lowest row given"
    ∷ given (bytes lesser) [] 1 40390 (refusal KindsLine 0)
    ∷ given (bytes lesser) (bytes "WW") 1 40390 (refusal KindsLine 0)
    ∷ given (bytes lesser) (bytes "WE\n") 1 40390 (refusal KindsLine 0)
    ∷ given (bytes lesser) (bytes "WT\n") 1 40390 (refusal KindsBroken 4)
    ∷ []
