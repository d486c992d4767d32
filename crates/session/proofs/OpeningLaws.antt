-- Laws of the opening: each way in which it ends, from what the code has found out. Assumes nothing.
use Prim.Native.Nat.{ℕ, ◌+◌, ◌%◌, ◌≤◌, ◌<◌}
use Rattle.std.specs.Prelude.{◌≡◌, ◌⊎◌, false, not, ◌&&◌, eqb, drop, Ok, Err}
use Rattle.std.proofs.Math.Path.{refl, sym, ap, subst}
use Rattle.std.proofs.Common.{ap₂, ◌∙◌, inl, inr, arith, length-take-le}
use Rattle.std.proofs.Math.Bool.{true}
use mathlib.Core.List.{List, [], ◌∷◌, ◌++◌, append-nil}
use borrow.Author.Tests.{lt-ltb, le-ltb, lt-leb, le-leb, eqb-true}
use Rattle.std.proofs.Math.Dec.{ltb}
use Rattle.std.proofs.Math.ListN.{length, take, length-append}
use Rattle.std.proofs.lemmas.List.Edits.{sets}
use Rattle.std.proofs.Math.Seq.{drop-length}
use Rattle.formula.specs.declared.Refusal.{Refusal}
use Rattle.formula.specs.declared.Refusal.TheVariants.{Layout, Rows, Set, SetFile}
use Rattle.formula.specs.Results.{Verdict, refused}
use Rattle.formula.specs.Refusals.{number_of}
use Rattle.formula.specs.Sheet.{lines_of, fields_of, row_count}
use Rattle.formula.specs.Tree.{formula_of}
use Rattle.formula.specs.Faults.{letters_of}
use Rattle.formula.specs.Tests.{verdict_of, laid_out, figures_of, is-passed, lowest, ended_at}
use Rattle.formula.proofs.TreeLaws.{and-true}
use Rattle.formula.proofs.Acceptance.{layout-refused, rows-refused}
use Rattle.session.proofs.LongLines.{told-length, verdict-behind, passed-short}
use Rattle.machine_layout.specs.Layout.{need, size_of}
use Rattle.graph.specs.Translation.{made_of}
use Rattle.machine_start.specs.declared.StartAnswer.{StartAnswer}
use Rattle.machine_start.specs.Start.{Begun, begun, refusal, accepted, started_memory, by_verdict, started}
use Rattle.machine_start.specs.StartLaws.{AcceptedStart, accepted-start, started-read, capacity-in}
use Rattle.demand_begin.proofs.MadeSound.{made-sound, same-figures}
use Rattle.text.specs.declared.Seen.{Seen}
use Rattle.text.specs.Printed.{head_line, refusal_line}
use Rattle.text.proofs.PrintLaws.{refusal-length, head-length, written-front}
use Rattle.text.specs.Scan.{seen_laid_out}
use Rattle.text.proofs.ScanLaws.{seen-laid-out, seen-many, seen_few}
use Rattle.text.specs.SetLines.{SetFile as File, sets as setsIn, bad_line, sets_of, sets_from, count_of}
use Rattle.text.specs.SetLines.{lines_of as fileLines}
use Rattle.text.proofs.SetLineLaws.{no_line, file-few}
use Rattle.text.specs.SetLineLaws.{Few}
use Rattle.session.specs.declared.Opened.{Opened}
use Rattle.session.specs.Passes.{passes}
use Rattle.session.proofs.PassLaws.{behind-written}
use Rattle.session.specs.Onward.{Going, over, on}
use Rattle.session.specs.Output.{all_firings, link_capacity, most_set_bytes, most_sheet_bytes, judged, output_by, output_in, blank_memory, bench_output}
use Rattle.session.proofs.OutputLaws.{starts, underway, any_memory}
use Rattle.session.specs.Ending.{Proceeds}
use Rattle.session.specs.Opening.{kinds_read, refusal_bytes, head_bytes, Refuses, Heads, JudgesBy, Judges, Whole, Begins, Within, opened_memory, OpensTo}

-- ---- what is printed
pub refusal-printed : (number row end : ℕ) (l out : List ℕ) → refusal_bytes ≤ length l → out ≡ sets l 0 (refusal_line number row)
    → Refuses number row end (record { inputs = 0; stage = record { at = end; remaining = 0; firings = 0; printed = refusal_bytes } }) out
refusal-printed number row end l out h e =
    record {
      inputs_are = refl;
      at-end = refl;
      none_left = refl;
      none-fired = refl;
      length-is = refl;
      prints = ap (take refusal_bytes) e ∙ written-front l 0 refusal_bytes (refusal_line number row) (refusal-length number row) h;
    }

pub head-printed : (inputs results : ℕ) (ss : List (List ℕ)) (n : ℕ) (l out : List ℕ) → head_bytes ≤ length l → n ≡ length ss → out ≡ sets l 0 (head_line inputs results n)
    → Heads inputs results ss (record { inputs = inputs; stage = record { at = 0; remaining = n; firings = all_firings; printed = head_bytes } }) out
head-printed inputs results ss n l out h q e =
    record {
      inputs_are = refl;
      at-start = refl;
      all_left = q;
      all-firings = refl;
      length-is = refl;
      prints = ap (take head_bytes) e ∙ written-front l 0 head_bytes (head_line inputs results n) (head-length inputs results n) h ∙ ap (head_line inputs results) q;
    }

-- ---- what lies behind it
pub refusal-behind : (number row : ℕ) (l out : List ℕ) → refusal_bytes ≤ length l → out ≡ sets l 0 (refusal_line number row) → drop refusal_bytes out ≡ drop refusal_bytes l
refusal-behind number row l out h e = ap (drop refusal_bytes) e ∙ behind-written l l 0 refusal_bytes (refusal_line number row) (refusal-length number row) h refl

pub head-behind : (inputs results n : ℕ) (l out : List ℕ) → head_bytes ≤ length l → out ≡ sets l 0 (head_line inputs results n) → drop head_bytes out ≡ drop head_bytes l
head-behind inputs results n l out h e = ap (drop head_bytes) e ∙ behind-written l l 0 head_bytes (head_line inputs results n) (head-length inputs results n) h refl

-- ---- the set file's test
bad-is : (f : File) (i : ℕ) → Err i ≡ count_of f → f ≡ bad_line i
bad-is (setsIn ss) i e = let z : ◌≡◌ {A = ℕ} 0 1 = cc in absurd (omega arith)
bad-is (bad_line j) i e = let z : i ≡ j = cc in ap bad_line (sym z)

count-is : (f : File) (n : ℕ) → Ok n ≡ count_of f → (ss : List (List ℕ)) × (f ≡ setsIn ss) × (n ≡ length ss)
count-is (setsIn ss) n e = (ss, refl, cc)
count-is (bad_line j) n e = let z : ◌≡◌ {A = ℕ} 0 1 = cc in absurd (omega arith)

module _ (kinds : List ℕ) (results : ℕ) (file : List ℕ) where
  pub bad-few : (i : ℕ) → Err i ≡ count_of (sets_of kinds file) → i ≤ length file
  bad-few i e = subst (λ (f : File). Few f (length file)) (bad-is (sets_of kinds file) i e) (file-few kinds file)

  pub count-few : (n : ℕ) → Ok n ≡ count_of (sets_of kinds file) → n ≤ length file
  count-few n e =
      let c = count-is (sets_of kinds file) n e in
      let h : length c.0 ≤ length file = subst (λ (f : File). Few f (length file)) c.1 (file-few kinds file) in
      omega (arith, c.2, h)

  pub judged-bad : (i : ℕ) (r : Opened) (out : List ℕ) → Err i ≡ count_of (sets_of kinds file) → Refuses (number_of Set) i (length file) r out → Judges kinds results file r out
  judged-bad i r out e h = subst (λ (f : File). JudgesBy f (length kinds) results (length file) r out) (sym (bad-is (sets_of kinds file) i e)) h

  pub judged-sets : (n : ℕ) (l out : List ℕ) → Ok n ≡ count_of (sets_of kinds file) → head_bytes ≤ length l → out ≡ sets l 0 (head_line (length kinds) results n)
      → Judges kinds results file (record { inputs = length kinds; stage = record { at = 0; remaining = n; firings = all_firings; printed = head_bytes } }) out
  judged-sets n l out e h p =
      let c = count-is (sets_of kinds file) n e in
      subst
      (λ (f : File).
      JudgesBy f (length kinds) results (length file) (record { inputs = length kinds; stage = record { at = 0; remaining = n; firings = all_firings; printed = head_bytes } }) out)
      (sym c.1) (head-printed (length kinds) results c.0 n l out h c.2 p)

-- ---- a refusal is the whole output
pub begins-refused : (formula line file kinds at-hand : List ℕ) (r : Opened) (m' out : List ℕ) (number row : ℕ) → Refuses number row (length at-hand) r out
    → bench_output formula line file ≡ refusal_line number row → Begins formula line file kinds at-hand r m' out
unfolding passes
begins-refused formula line file kinds at-hand r m' out number row p e =
    record {
      rest = [];
      waits = record {
        line = 0;
        lines_are = ap (λ (n : ℕ). sets_from kinds 0 (fileLines (drop n at-hand))) p.at-end ∙ rw (drop-length at-hand) (no_line kinds 0 [] (omega arith));
      };
      going = over p.none_left;
      output-is = e ∙ sym (rw (p.none_left, p.none-fired, p.length-is, append-nil (take refusal_bytes out)) p.prints);
    }

-- ---- the sheet's tests
whole-rows : (s : List ℕ) → laid_out s (lines_of s) ≡ true → length s % 31 ≡ 0
unfolding laid_out
whole-rows s e =
    let both = and-true (not (eqb (length s) 0) && eqb (length s % 31) 0) (is-passed (lowest (row_count s) (ended_at (lines_of s)))) e in
    eqb-true (length s % 31) 0 (and-true (not (eqb (length s) 0)) (eqb (length s % 31) 0) both.0).1

no_more : (first more : List ℕ) → length (first ++ more) ≤ most_sheet_bytes → (more ≡ []) ⊎ (most_sheet_bytes ≤ length first) → more ≡ []
no_more first more h (inl e) = e
no_more first [] h (inr k) = refl
no_more first (b ∷ more) h (inr k) = absurd (omega (arith, length-append first (b ∷ more), h, k))

no-more-sets : (file more : List ℕ) → length file ≤ most_set_bytes → (more ≡ []) ⊎ (most_set_bytes < length file) → more ≡ []
no-more-sets file more h (inl e) = e
no-more-sets file more h (inr k) = absurd (omega arith)

-- What stands behind the kinds line at hand makes no difference.
same-verdict : (s line more : List ℕ) → (more ≡ []) ⊎ (kinds_read ≤ length line) → verdict_of s (line ++ more) ≡ verdict_of s line
same-verdict s line more (inl e) = ap (λ (z : List ℕ). verdict_of s (line ++ z)) e ∙ ap (verdict_of s) (append-nil line)
same-verdict s line more (inr k) = verdict-behind s line more (omega arith)

-- ---- the ways in which the opening ends
module _ (first : List ℕ) (x : Seen) (line file m : List ℕ) (r : Opened) (m' out : List ℕ) where
  -- A refusal of all the bytes of the files.
  refuses-all : (number row : ℕ) (s moreLine moreSets : List ℕ) → Refuses number row (length file) r out
      → bench_output s (line ++ moreLine) (file ++ moreSets) ≡ refusal_line number row
      → Begins s (line ++ moreLine) (file ++ moreSets) (take r.inputs line) file r m' out
  refuses-all number row s moreLine moreSets p e = begins-refused s (line ++ moreLine) (file ++ moreSets) (take r.inputs line) file r m' out number row p e

  pub opens-layout : seen_laid_out x ≡ false → Refuses (number_of Layout) 0 (length file) r out → OpensTo first x line file r m' out
  unfolding bench_output output_in output_by
  opens-layout e p more moreLine moreSets w t u =
      let s : List ℕ = first ++ more in
      let v = layout-refused s (line ++ moreLine) (sym (seen-laid-out s) ∙ ap seen_laid_out (sym w.seen-is) ∙ e) in
      refuses-all (number_of Layout) 0 s moreLine moreSets p (ap (λ (z : Verdict). output_by z s (line ++ moreLine) (file ++ moreSets) blank_memory) v)

  module _ (e : seen_laid_out x ≡ true) where
    pub opens-rows : most_sheet_bytes < x.length → Refuses (number_of Rows) 0 (length file) r out → OpensTo first x line file r m' out
    unfolding bench_output output_in output_by
    opens-rows h p more moreLine moreSets w t u =
        let s : List ℕ = first ++ more in
        let a : laid_out s (lines_of s) ≡ true = sym (seen-laid-out s) ∙ ap seen_laid_out (sym w.seen-is) ∙ e in
        let n : most_sheet_bytes < length s = seen-many s (subst (λ (y : Seen). most_sheet_bytes < y.length) w.seen-is h) in
        let v = rows-refused s (line ++ moreLine) a (lt-leb (row_count s) 200 (omega (arith, n, whole-rows s a))) in
        refuses-all (number_of Rows) 0 s moreLine moreSets p (ap (λ (z : Verdict). output_by z s (line ++ moreLine) (file ++ moreSets) blank_memory) v)

  -- The whole sheet is at hand.
  module _ (h : x.length ≤ most_sheet_bytes) (room : need (size_of link_capacity) ≤ length m) (a : StartAnswer) (q : begun a m' ≡ started first line link_capacity m) where
    sheet-is : (more : List ℕ) → Whole first x more → first ++ more ≡ first
    sheet-is more w =
        let n : length (first ++ more) ≤ most_sheet_bytes = seen_few (first ++ more) (subst (λ (y : Seen). y.length ≤ most_sheet_bytes) w.seen-is h) in
        ap (λ (z : List ℕ). first ++ z) (no_more first more n w.at-hand) ∙ append-nil first

    abbrev letters : List ℕ
    letters = letters_of (formula_of first) line

    answer-is : begun a m' ≡ by_verdict (verdict_of first line) (formula_of first) letters link_capacity m
    answer-is = q ∙ started-read first line link_capacity m (rw (capacity-in link_capacity (omega arith) (omega arith)) room) (omega arith) (omega arith)

    passed-answer : verdict_of first line ≡ Ok tt → a.refusal ≡ 0
    unfolding by_verdict
    passed-answer e = ap (λ (b : Begun). b.answer.refusal) (answer-is ∙ ap (λ (z : Verdict). by_verdict z (formula_of first) letters link_capacity m) e)

    refused-output : (y : Refusal) (row : ℕ) (all whole : List ℕ) → verdict_of first line ≡ refused y row → verdict_of first all ≡ verdict_of first line
        → bench_output first all whole ≡ refusal_line a.refusal a.row
    unfolding by_verdict bench_output output_in output_by
    refused-output y row all whole e d =
        let b : begun a m' ≡ begun (refusal y row) m = answer-is ∙ ap (λ (z : Verdict). by_verdict z (formula_of first) letters link_capacity m) e in
        ap (λ (z : Verdict). output_by z first all whole blank_memory) (d ∙ e) ∙ ap (λ (z : Begun). refusal_line z.answer.refusal z.answer.row) (sym b)

    output-refused : (a.refusal ≡ 0 → ⊥) → (all whole : List ℕ) → verdict_of first all ≡ verdict_of first line → bench_output first all whole ≡ refusal_line a.refusal a.row
    output-refused n all whole d = go (verdict_of first line) refl
      where
        go : (v : Verdict) → verdict_of first line ≡ v → bench_output first all whole ≡ refusal_line a.refusal a.row
        go (Ok _) e = absurd (n (passed-answer e))
        go (Err why) e = refused-output why.refusal why.row all whole e d

    pub opens-refused : (a.refusal ≡ 0 → ⊥) → Refuses a.refusal a.row (length file) r out → OpensTo first x line file r m' out
    opens-refused n p more moreLine moreSets w t u =
        refuses-all a.refusal a.row (first ++ more) moreLine moreSets p
        (ap (λ (s : List ℕ). bench_output s (line ++ moreLine) (file ++ moreSets)) (sheet-is more w)
        ∙ output-refused n (line ++ moreLine) (file ++ moreSets) (same-verdict first line moreLine t))

    module _ (z : a.refusal ≡ 0) where
      accepts : AcceptedStart first line link_capacity m
      accepts = accepted-start first line link_capacity m (sym (ap (λ (b : Begun). b.answer.refusal) q) ∙ z)

      line-is : (moreLine : List ℕ) → (moreLine ≡ []) ⊎ (kinds_read ≤ length line) → line ++ moreLine ≡ line
      line-is moreLine (inl e) = ap (λ (y : List ℕ). line ++ y) e ∙ append-nil line
      line-is moreLine (inr k) = absurd (omega (arith, k, passed-short first line accepts.passed))

      answers : begun a m' ≡ begun (accepted (made_of (formula_of first))) (started_memory (made_of (formula_of first)) letters link_capacity m)
      answers = q ∙ accepts.whole

      inputs_are : a.inputs ≡ (figures_of first).inputs
      inputs_are = ap (λ (b : Begun). b.answer.inputs) answers ∙ (same-figures first accepts.admissible).1

      results-are : a.results ≡ (figures_of first).results
      results-are = ap (λ (b : Begun). b.answer.results) answers ∙ (same-figures first accepts.admissible).2

      pub inputs-few : a.inputs ≤ 32
      inputs-few = subst (λ (n : ℕ). n ≤ 32) (sym (ap (λ (b : Begun). b.answer.inputs) answers)) (made-sound first accepts.admissible).few-inputs

      pub inputs-told : a.inputs ≤ length line
      unfolding figures_of formula_of
      inputs-told = omega (arith, inputs_are, told-length (fields_of first) (row_count first) line accepts.kinded.told)

      -- The letters at hand.
      abbrev kinds : List ℕ
      kinds = take a.inputs line

      kinds-count : length kinds ≡ a.inputs
      kinds-count = length-take-le a.inputs line inputs-told

      letters-are : kinds ≡ letters
      unfolding letters_of figures_of
      letters-are = ap (λ (n : ℕ). take n line) inputs_are

      pub opens-long : most_set_bytes < length file → Refuses (number_of SetFile) 0 (length file) r out → OpensTo first x line file r m' out
      unfolding bench_output output_in output_by
      opens-long k p more moreLine moreSets w t u =
          let n : ltb most_set_bytes (length (file ++ moreSets)) ≡ true = lt-ltb most_set_bytes (length (file ++ moreSets)) (omega (arith, length-append file moreSets, k)) in
          refuses-all (number_of SetFile) 0 (first ++ more) moreLine moreSets p
          (ap₂ (λ (s l : List ℕ). bench_output s l (file ++ moreSets)) (sheet-is more w) (line-is moreLine t) ∙ rw (accepts.passed, n) refl)

      judged-output : length file ≤ most_set_bytes → bench_output first line file ≡ judged first line m (figures_of first) (sets_of kinds file)
      unfolding output_in output_by
      judged-output k =
          any_memory first line file m room ∙ rw (accepts.passed, le-ltb most_set_bytes (length file) k) refl
          ∙ ap (λ (ks : List ℕ). judged first line m (figures_of first) (sets_of ks file)) (sym letters-are)

      judged-begins : length file ≤ most_set_bytes → (f : File) → sets_of kinds file ≡ f → JudgesBy f (length kinds) a.results (length file) r out
          → Begins first line file (take r.inputs line) file r m' out
      unfolding judged sets_of
      judged-begins k (bad_line i) e p =
          begins-refused first line file (take r.inputs line) file r m' out (number_of Set) i p (judged-output k ∙ ap (judged first line m (figures_of first)) e)
      judged-begins k (setsIn ss) e p =
          let b : (started first line link_capacity m).mem ≡ m' = ap (λ (y : Begun). y.mem) (sym q) in
          let again : take r.inputs line ≡ kinds = ap (λ (n : ℕ). take n line) (p.inputs_are ∙ kinds-count) in
          record {
            rest = ss;
            waits = record { line = 1; lines_are = rw (again, p.at-start) e };
            going =
                subst (λ (n : ℕ). Going n ss m') (sym p.all_left)
                (subst (Going (length ss) ss) b
                (on first line link_capacity m (starts first line accepts.passed m room) ss
                (underway first line accepts.passed m file room ss (ap (λ (ks : List ℕ). sets_of ks file) (sym letters-are) ∙ e))));
            output-is =
                judged-output k ∙ ap (judged first line m (figures_of first)) e
                ∙ rw (p.all_left, p.all-firings, p.length-is, p.prints, kinds-count, inputs_are, results-are, b) refl;
          }

      pub opens-judged : length file ≤ most_set_bytes → Judges kinds a.results file r out → OpensTo first x line file r m' out
      opens-judged k p more moreLine moreSets w t u =
          let n : file ++ moreSets ≡ file = ap (λ (y : List ℕ). file ++ y) (no-more-sets file moreSets k u) ∙ append-nil file in
          rw (sheet-is more w, line-is moreLine t, n) (judged-begins k (sets_of kinds file) refl p)

-- ---- the lent memory
module _ (first : List ℕ) (x : Seen) (line m : List ℕ) where
  pub memory-unlaid : seen_laid_out x ≡ false → m ≡ opened_memory first x line m
  unfolding opened_memory
  memory-unlaid e = rw e refl

  module _ (e : seen_laid_out x ≡ true) where
    pub memory-long : most_sheet_bytes < x.length → m ≡ opened_memory first x line m
    unfolding opened_memory
    memory-long h = rw (e, lt-leb x.length most_sheet_bytes h) refl

    pub memory-started : x.length ≤ most_sheet_bytes → (a : StartAnswer) (m' : List ℕ) → begun a m' ≡ started first line link_capacity m → m' ≡ opened_memory first x line m
    unfolding opened_memory
    memory-started h a m' q = rw (e, le-leb x.length most_sheet_bytes h) (ap (λ (b : Begun). b.mem) q)

-- ---- bounds
pub refusal-bounds : (number row : ℕ) (line : List ℕ) (end : ℕ) (r : Opened) (out : List ℕ) → Refuses number row end r out → Within line end r
refusal-bounds number row line end r out p =
    record { few = omega (arith, p.inputs_are); told = omega (arith, p.inputs_are); inside = omega (arith, p.at-end); fits = omega (arith, p.length-is) }

pub begins-proceeds : (formula line file kinds at-hand : List ℕ) (r : Opened) (m' out : List ℕ) → Begins formula line file kinds at-hand r m' out
    → Proceeds kinds at-hand r.stage m'
begins-proceeds formula line file kinds at-hand r m' out b = record { rest = b.rest; waits = b.waits; going = b.going }

pub judged-bounds : (n : ℕ) (line : List ℕ) (results : ℕ) (file : List ℕ) (r : Opened) (out : List ℕ) → n ≤ 32 → n ≤ length line → Judges (take n line) results file r out
    → Within line (length file) r
judged-bounds n line results file r out few told p = go (sets_of (take n line) file) p
  where
    go : (f : File) → JudgesBy f (length (take n line)) results (length file) r out → Within line (length file) r
    go (bad_line i) q = refusal-bounds (number_of Set) i line (length file) r out q
    go (setsIn ss) q =
        let c : r.inputs ≡ n = q.inputs_are ∙ length-take-le n line told in
        record { few = omega (arith, c); told = omega (arith, c); inside = omega (arith, q.at-start); fits = omega (arith, q.length-is) }
