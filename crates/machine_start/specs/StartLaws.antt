-- Laws of start's definitions: how its loops write names and empty links, and what start gives in each of its cases. Assumes nothing.
use Rattle.std.specs.Prelude.{ℕ, suc, ◌+◌, ◌*◌, ◌≤◌, ◌<◌, ◌≡◌, Bool, true, false, ◌&&◌, List, leb, ltb, length, get_or, set, Ok, Err}
use Rattle.std.proofs.Math.Path.{refl}
use Rattle.std.proofs.Common.{ap, ◌∙◌, arith}
use borrow.Author.Tests.{lt-ltb, le-ltb, le-leb, lt-leb, ltb-false, leb-true}
use Rattle.value.specs.Operators.{pick}
use Rattle.formula.specs.declared.Refusal.{Refusal}
use Rattle.formula.specs.declared.Refusal.TheVariants.{Memory, Capacity}
use Rattle.formula.specs.Results.{Verdict, refused}
use Rattle.formula.proofs.Refusals.{number-positive}
use Rattle.formula.specs.Tree.{Exp, formula_of}
use Rattle.formula.specs.Tests.{verdict_of}
use Rattle.formula.specs.Faults.{letters_of}
use Rattle.formula.specs.Acceptance.{Admissible, Kinded}
use Rattle.formula.proofs.Acceptance.{passed-admissible, passed-kinded}
use Rattle.machine_layout.specs.Layout.{stored16, size_of, link_from, need, capacity_in}
use Rattle.graph.specs.Translation.{made_of}
use Rattle.machine_start.specs.Start.{Begun, begun, refusal, accepted, figure_bytes, figured, named, cleared_from, started_memory, by_verdict, started}

-- ---- the header's figures as they are written

pub figures-written : (m : List ℕ) (capacity operators links inputs results trigger : ℕ) →
    stored16 (set (set (set (stored16 (stored16 (set m 0 capacity) 1 operators) 3 links) 5 inputs) 6 results) 7 0) 8 trigger
    ≡ figured m capacity operators links inputs results trigger
unfolding figured figure_bytes stored16
figures-written m capacity operators links inputs results trigger = refl

-- ---- names

pub named_none : (m : List ℕ) (at : ℕ) (ls : List ℕ) → named 0 m at ls ≡ m
unfolding named
named_none m at ls = refl

pub named_more : (m : List ℕ) (at : ℕ) (ls : List ℕ) (j : ℕ) → stored16 (named j m at ls) (at + 2 * j) (get_or ls j 0) ≡ named (j + 1) m at ls
unfolding named
named_more m at ls j = let e : j + 1 ≡ suc j = omega arith in rw e refl

-- ---- links

pub emptied-none : (base size : ℕ) (m : List ℕ) → cleared_from 0 base size m ≡ m
unfolding cleared_from
emptied-none base size m = refl

pub emptied-more : (base size : ℕ) (m : List ℕ) (l : ℕ) → set (cleared_from l base size m) (link_from base size l) 0 ≡ cleared_from (l + 1) base size m
unfolding cleared_from
emptied-more base size m l = let e : l + 1 ≡ suc l = omega arith in rw e refl

-- ---- the outcomes of start

module _ (s line : List ℕ) (c : ℕ) (m : List ℕ) where
  -- 11
  pub started-short : length m < need (size_of (capacity_in c)) → started s line c m ≡ begun (refusal Memory 0) m
  unfolding started
  started-short h = rw (lt-ltb (length m) (need (size_of (capacity_in c))) h) refl

  -- 14
  pub started_below : need (size_of (capacity_in c)) ≤ length m → c < 1 → started s line c m ≡ begun (refusal Capacity 0) m
  unfolding started
  started_below h k = rw (le-ltb (length m) (need (size_of (capacity_in c))) h, lt-leb 1 c k) refl

  pub started-above : need (size_of (capacity_in c)) ≤ length m → 16 < c → started s line c m ≡ begun (refusal Capacity 0) m
  unfolding started
  started-above h k = rw (le-ltb (length m) (need (size_of (capacity_in c))) h, le-leb 1 c (omega arith), lt-leb c 16 k) refl

  -- the sheet's, or accepted
  pub started-read : need (size_of (capacity_in c)) ≤ length m → 1 ≤ c → c ≤ 16
      → started s line c m ≡ by_verdict (verdict_of s line) (formula_of s) (letters_of (formula_of s) line) c m
  unfolding started
  started-read h k l = rw (le-ltb (length m) (need (size_of (capacity_in c))) h, le-leb 1 c k, le-leb c 16 l) refl

module _ (v : Verdict) (x : Exp) (kinds : List ℕ) (c : ℕ) (m : List ℕ) where
  pub verdict-refused : (r : Refusal) (row : ℕ) → v ≡ refused r row → by_verdict v x kinds c m ≡ begun (refusal r row) m
  unfolding by_verdict
  verdict-refused r row e = rw e refl

  pub verdict-passed : v ≡ Ok tt → by_verdict v x kinds c m ≡ begun (accepted (made_of x)) (started_memory (made_of x) kinds c m)
  unfolding by_verdict
  verdict-passed e = rw e refl

pub capacity-in : (c : ℕ) → 1 ≤ c → c ≤ 16 → capacity_in c ≡ c
unfolding capacity_in
capacity-in c h k = rw (le-leb 1 c h, le-leb c 16 k) refl

-- ---- an accepted start

-- Where the sheet is accepted, the capacity is one of 1 to 16 and the memory as long as a machine needs, start accepts.
pub start-accepts : (s line : List ℕ) (c : ℕ) (m : List ℕ) → verdict_of s line ≡ Ok tt → 1 ≤ c → c ≤ 16 → need (size_of c) ≤ length m → (started s line c m).answer.refusal ≡ 0
start-accepts s line c m passed low high long =
    ap (λ (b : Begun). b.answer.refusal)
    (started-read s line c m (omega (arith, capacity-in c low high)) low high ∙ verdict-passed (verdict_of s line) (formula_of s) (letters_of (formula_of s) line) c m passed)

pub record AcceptedStart (s line : List ℕ) (c : ℕ) (m : List ℕ) : Type 0 where
  pub long : need (size_of c) ≤ length m
  pub some : 1 ≤ c
  pub most : c ≤ 16
  pub passed : verdict_of s line ≡ Ok tt
  pub admissible : Admissible s
  pub kinded : Kinded s line
  pub whole : started s line c m ≡ begun (accepted (made_of (formula_of s))) (started_memory (made_of (formula_of s)) (letters_of (formula_of s) line) c m)

-- "11 comes before all", "14 .. after 11, before 1": an answer without a refusal is one of an accepted sheet, a capacity of 1 to 16 and enough memory.
pub accepted-start : (s line : List ℕ) (c : ℕ) (m : List ℕ) → (started s line c m).answer.refusal ≡ 0 → AcceptedStart s line c m
unfolding started by_verdict
accepted-start s line c m e = go (ltb (length m) (need (size_of (capacity_in c)))) refl (leb 1 c) refl (leb c 16) refl (verdict_of s line) refl e
  where
    go : (a : Bool) → ltb (length m) (need (size_of (capacity_in c))) ≡ a → (b : Bool) → leb 1 c ≡ b → (d : Bool) → leb c 16 ≡ d → (v : Verdict) → verdict_of s line ≡ v
        → (pick a (begun (refusal Memory 0) m) (pick (b && d) (by_verdict v (formula_of s) (letters_of (formula_of s) line) c m) (begun (refusal Capacity 0) m))).answer.refusal ≡ 0
        → AcceptedStart s line c m
    go true p b q d r v w h = absurd (omega arith)
    go false p false q d r v w h = absurd (omega arith)
    go false p true q false r v w h = absurd (omega arith)
    go false p true q true r (Err why) w h = absurd (omega (arith, number-positive why.refusal))
    go false p true q true r (Ok _) w h =
        let low : 1 ≤ c = leb-true 1 c q in
        let high : c ≤ 16 = leb-true c 16 r in
        let enough : need (size_of (capacity_in c)) ≤ length m = ltb-false (length m) (need (size_of (capacity_in c))) p in
        record {
          long = omega (arith, capacity-in c low high);
          some = low;
          most = high;
          passed = w;
          admissible = passed-admissible s line w;
          kinded = passed-kinded s line w;
          whole = started-read s line c m enough low high ∙ verdict-passed (verdict_of s line) (formula_of s) (letters_of (formula_of s) line) c m w;
        }
