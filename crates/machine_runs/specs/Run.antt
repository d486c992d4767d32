-- A run. Document 01, "Running": "Run fires the least-numbered able operator, up to a lent number of firings, and gives a count".
-- All is stated over the byte `base` where the links begin. Assumes nothing.
use Rattle.std.specs.Prelude.{ℕ, zero, suc, ◌+◌, Bool, true, false, not, List, ltb}
use Rattle.value.specs.Operators.{pick}
use Rattle.machine_layout.specs.Layout.{links_at}
use Rattle.machine_firing.specs.Fire.{able_from, fired_from}

-- the first able of the k operators from i on, or i + k
unfoldable pub first_from : List ℕ → ℕ → ℕ → ℕ → ℕ → ℕ
first_from m base size zero i = i
first_from m base size (suc k) i = pick (able_from m base size i) i (first_from m base size k (suc i))

-- the least-numbered able operator, or n
unfoldable pub lowest_from : List ℕ → ℕ → ℕ → ℕ → ℕ
lowest_from m base size n = first_from m base size n 0

-- a memory with the firings that led to it
pub record Ran : Type 0 where
  pub mem : List ℕ
  pub count : ℕ

abbrev pub ran : List ℕ → ℕ → Ran
ran m c = record { mem = m; count = c }

-- the run with b firings left and c made
unfoldable pub runs_from : ℕ → ℕ → ℕ → ℕ → List ℕ → ℕ → Ran
runs_from base size n zero m c = ran m c
runs_from base size n (suc b) m c =
    pick (ltb (lowest_from m base size n) n) (runs_from base size n b (fired_from m base size (lowest_from m base size n)) (c + 1)) (ran m c)

-- nothing can fire
unfoldable pub still_from : List ℕ → ℕ → ℕ → ℕ → Bool
still_from m base size n = not (ltb (lowest_from m base size n) n)

-- ---- the same on the links of a machine, from `links_at` on

abbrev pub least_from : List ℕ → ℕ → ℕ → ℕ → ℕ
least_from m size k i = first_from m links_at size k i

abbrev pub least : List ℕ → ℕ → ℕ → ℕ
least m size n = lowest_from m links_at size n

abbrev pub runs : ℕ → ℕ → ℕ → List ℕ → ℕ → Ran
runs size n b m c = runs_from links_at size n b m c

abbrev pub still_at : List ℕ → ℕ → ℕ → Bool
still_at m size n = still_from m links_at size n
