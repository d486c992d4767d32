-- Laws of specs/PassLaws.antt, and what only they need.
use Prim.Native.Nat.{ℕ, zero, suc, ◌+◌, ◌-◌, ◌*◌, ◌≤◌}
use Rattle.std.specs.Prelude.{◌≡◌, ◌≢◌, Bool, true, false, eqb, ltb, length, take, drop, replicate}
use Rattle.std.proofs.Math.Path.{refl, ap}
use Rattle.std.proofs.Common.{sym, ◌∙◌, eq-eqb, ne_eqb, eqb-true, ltb-true, length-append, get_or-set_same, length-take-le, drop_at, drop-drop}
use mathlib.Core.List.{List, [], ◌∷◌, ◌++◌, append_assoc, append-nil}
use native.Mathlib.Omega.{arith}
use Rattle.std.proofs.lemmas.Bool.{eqb-false}
use Rattle.std.proofs.lemmas.List.{length-replicate}
use Rattle.std.proofs.lemmas.List.Edits.{sets}
use Rattle.machine_layout.specs.Layout.{links_at, need, untaken_of, results_of}
use Rattle.machine_valid.specs.Below.{all_below}
use Rattle.machine_valid.specs.Figures.{valid-figures}
use Rattle.machine_calls.specs.Calls.{Handed, Outcome, handed, answers, refusal, standing, size_in, result_ready, emptied, taken_memory, taken, ran}
use Rattle.machine_calls.specs.CallLaws.{standing-good, emptied-keeps, taken_refused, taken_none, taken-empty, taken-accepted}
use Rattle.text.specs.Printed.{result_line, refusal_line}
use Rattle.text.proofs.PrintLaws.{line-length, written-part, written-front}
use Rattle.session.specs.Passes.{feeding, taken_from, line_by, Drained, drained, with_line, draining, drained_of, pass_by, pass_of, part_of, remaining_after}
use Rattle.session.specs.PassLaws.{TakeSays, refuses, hands}

pub take-says : (m : List ℕ) → TakeSays m
unfolding taken_from
take-says m = go (eqb (standing m) 0) refl (ltb 0 (untaken_of m)) refl (all_below (results_of m) (result_ready m (size_in m))) refl
  where
    room : 80 ≤ length (replicate {A = ℕ} 80 0)
    room = omega (arith, length-replicate {A = ℕ} 80 0)

    go : (a : Bool) → eqb (standing m) 0 ≡ a → (b : Bool) → ltb 0 (untaken_of m) ≡ b → (c : Bool) → all_below (results_of m) (result_ready m (size_in m)) ≡ c → TakeSays m
    go false p b q c r = let n = eqb-false (standing m) 0 p in refuses (standing m) n (taken_refused m (replicate 80 0) room n)
    go true p false q c r = refuses 35 (λ e. omega (arith, e)) (taken_none m (eqb-true (standing m) 0 p) (replicate 80 0) room q)
    go true p true q false r = refuses 35 (λ e. omega (arith, e)) (taken-empty m (eqb-true (standing m) 0 p) (replicate 80 0) room q r)
    go true p true q true r = hands (eqb-true (standing m) 0 p) (ltb-true 0 (untaken_of m) q) (taken-accepted m (eqb-true (standing m) 0 p) (replicate 80 0) room q r)

-- An accepted take leaves one set less untaken.
taken-untaken : (m : List ℕ) → need (size_in m) ≤ length m → untaken_of (taken_memory m) ≡ untaken_of m - 1
unfolding taken_memory
taken-untaken m h =
    let k = emptied-keeps m links_at (size_in m) (omega arith) h (results_of m) in
    get_or-set_same (emptied (results_of m) m (size_in m)) 7 (untaken_of m - 1) 0 (omega (arith, k.size, h))

-- ---- a drain of a given length, take by take
pub drain-zero : (m : List ℕ) → draining 0 m ≡ drained m [] 0
unfolding draining
drain-zero m = refl

pub drain-handed : (n : ℕ) (m : List ℕ) → (taken_from m).answer.refusal ≡ 0 → draining (suc n) m ≡ with_line (line_by (taken_from m)) (draining n (taken_from m).mem)
unfolding draining
drain-handed n m e = rw (eq-eqb (taken_from m).answer.refusal 0 e) refl

pub drain-refused : (n : ℕ) (m : List ℕ) → ((taken_from m).answer.refusal ≡ 0 → ⊥) → draining (suc n) m ≡ drained (taken_from m).mem [] 0
unfolding draining
drain-refused n m i = rw (ne_eqb (taken_from m).answer.refusal 0 i) refl

-- ---- the line of a take
module _ (m : List ℕ) where
  pub take-width : (taken_from m).answer.refusal ≡ 0 → (taken_from m).answer.count ≤ 16
  take-width e = go (take-says m)
    where
      go : TakeSays m → (taken_from m).answer.count ≤ 16
      go (refuses r n p) = absurd (n (sym (ap (λ (h : Handed). h.answer.refusal) p) ∙ e))
      go (hands s u p) =
          let f = valid-figures m (standing-good m s).1 in
          omega (arith, ap (λ (h : Handed). h.answer.count) p, f.results16)

  pub line-handed : (taken_from m).answer.refusal ≡ 0 → line_by (taken_from m) ≡ result_line (taken_from m).answer.count (taken_from m).out
  unfolding line_by
  line-handed e = rw (eq-eqb (taken_from m).answer.refusal 0 e) refl

  pub line_refused : ((taken_from m).answer.refusal ≡ 0 → ⊥) → line_by (taken_from m) ≡ []
  unfolding line_by
  line_refused n = rw (ne_eqb (taken_from m).answer.refusal 0 n) refl

  -- A take that hands out nothing leaves every byte, and nothing more can be drained.
  pub drain-end : length (line_by (taken_from m)) ≡ 0 → drained_of m ≡ drained (taken_from m).mem [] 0
  unfolding draining drained_of
  drain-end z = go (take-says m)
    where
      stop : (n : ℕ) (r : ℕ) → r ≢ 0 → taken_from m ≡ handed (answers r 0) m (replicate 80 0) → draining n m ≡ drained (taken_from m).mem [] 0
      stop zero r n p = ap (λ (h : Handed). drained h.mem [] 0) (sym p)
      stop (suc k) r n p = rw (ne_eqb (taken_from m).answer.refusal 0 (λ q. n (sym (ap (λ (h : Handed). h.answer.refusal) p) ∙ q))) refl

      go : TakeSays m → drained_of m ≡ drained (taken_from m).mem [] 0
      go (refuses r n p) = stop (untaken_of m) r n p
      go (hands s u p) =
          let e : (taken_from m).answer.refusal ≡ 0 = ap (λ (h : Handed). h.answer.refusal) p in
          absurd (omega (arith, z, ap length (line-handed e), line-length (taken_from m).answer.count (taken_from m).out))

  pub record DrainsOn : Type 0 where
    pub fewer : untaken_of (taken_from m).mem + 1 ≡ untaken_of m
    pub on : drained_of m ≡ with_line (line_by (taken_from m)) (drained_of (taken_from m).mem)
    pub short : length (line_by (taken_from m)) ≤ 177
    pub few : untaken_of m ≤ 16

  pub drain-more : (length (line_by (taken_from m)) ≡ 0 → ⊥) → DrainsOn
  unfolding draining drained_of
  drain-more z = go (take-says m)
    where
      step : (n : ℕ) → (taken_from m).answer.refusal ≡ 0 → untaken_of (taken_from m).mem + 1 ≡ n → draining n m ≡ with_line (line_by (taken_from m)) (drained_of (taken_from m).mem)
      step zero e h = absurd (omega arith)
      step (suc n) e h =
          let q : untaken_of (taken_from m).mem ≡ n = omega arith in
          rw (eq-eqb (taken_from m).answer.refusal 0 e, q) refl

      go : TakeSays m → DrainsOn
      go (refuses r n p) = absurd (z (ap length (line_refused (λ q. n (sym (ap (λ (h : Handed). h.answer.refusal) p) ∙ q)))))
      go (hands s u p) =
          let e : (taken_from m).answer.refusal ≡ 0 = ap (λ (h : Handed). h.answer.refusal) p in
          let g = standing-good m s in
          let f = valid-figures m g.1 in
          let w = take-width e in
          let x : untaken_of (taken_from m).mem ≡ untaken_of m - 1 = ap (λ (h : Handed). untaken_of h.mem) p ∙ taken-untaken m g.0 in
          record {
            fewer = omega (arith, x, u);
            on = step (untaken_of m) e (omega (arith, x, u));
            short = omega (arith, ap length (line-handed e), line-length (taken_from m).answer.count (taken_from m).out, w);
            few = f.untaken;
          }

-- ---- what lies behind the bytes to be printed
pub behind-written : (l₀ l : List ℕ) (at n : ℕ) (v : List ℕ) → length v ≡ n → at + n ≤ length l → drop at l ≡ drop at l₀ → drop (at + n) (sets l at v) ≡ drop (at + n) l₀
behind-written l₀ l at n v e h p =
    let q : length (take at l ++ v) ≡ at + n = length-append (take at l) v ∙ rw (length-take-le at l (omega arith), e) refl in
    ap (drop (at + n)) (written-part l at n v e h)
    ∙ drop_at (take at l ++ v) (drop (at + n) l) (at + n) q
    ∙ sym (drop-drop n at l) ∙ ap (drop n) p ∙ drop-drop n at l₀

-- ---- a drain, take by take
module _ (m₀ m : List ℕ) (n at : ℕ) (out : List ℕ) where
  -- n sets are taken, their lines are the first bytes of the buffer, and m is the memory.
  pub record DrainedTo : Type 0 where
    pub within : at ≤ 177 * n
    pub untaken-are : n + untaken_of m ≡ untaken_of m₀
    pub count-is : n + (drained_of m).count ≡ (drained_of m₀).count
    pub lines_are : take at out ++ (drained_of m).lines ≡ (drained_of m₀).lines
    pub memory-is : (drained_of m).mem ≡ (drained_of m₀).mem

pub nothing-drained : (m out : List ℕ) → DrainedTo m m 0 0 out
nothing-drained m out = record { within = omega arith; untaken-are = omega arith; count-is = omega arith; lines_are = refl; memory-is = refl }

pub one-drained : (m₀ m : List ℕ) (n at : ℕ) (out : List ℕ) → DrainedTo m₀ m n at out → at + 177 ≤ length out → (length (line_by (taken_from m)) ≡ 0 → ⊥)
    → DrainedTo m₀ (taken_from m).mem (n + 1) (at + length (line_by (taken_from m))) (sets out at (line_by (taken_from m)))
one-drained m₀ m n at out d h z =
    let s = drain-more m z in
    let l : List ℕ = line_by (taken_from m) in
    let on : drained_of m ≡ with_line l (drained_of (taken_from m).mem) = s.on in
    let c : (drained_of m).count ≡ suc (drained_of (taken_from m).mem).count = ap (λ (x : Drained). x.count) on in
    record {
      within = omega (arith, d.within, s.short);
      untaken-are = omega (arith, d.untaken-are, s.fewer);
      count-is = omega (arith, d.count-is, c);
      lines_are =
          ap (λ (x : List ℕ). x ++ (drained_of (taken_from m).mem).lines) (written-front out at (length l) l refl (omega (arith, h, s.short)))
          ∙ append_assoc (take at out) l (drained_of (taken_from m).mem).lines
          ∙ ap (λ (x : Drained). take at out ++ x.lines) (sym on)
          ∙ d.lines_are;
      memory-is = ap (λ (x : Drained). x.mem) (sym on) ∙ d.memory-is;
    }

-- What the code's take tells, with a blank result set lent.
pub take-answers : (m b : List ℕ) (h : Handed) → b ≡ replicate 80 0 → h ≡ taken m b → taken_from m ≡ h
unfolding taken_from
take-answers m b h e p = sym (p ∙ ap (taken m) e)

pub no_bytes : (l : List ℕ) → length l ≡ 0 → l ≡ []
no_bytes [] e = refl
no_bytes (b ∷ l) e = absurd (omega arith)

-- ---- a pass from its calls
module _ (rest : List (List ℕ)) (m : List ℕ) (left : ℕ) where
  abbrev ranOf : Outcome
  ranOf = ran (feeding rest m).mem left

  abbrev drainOf : Drained
  drainOf = drained_of ranOf.mem

  pub pass-is : pass_of rest m left ≡ pass_by (feeding rest m).rest left ranOf drainOf
  unfolding pass_of
  pass-is = refl

  pub part-plain : ranOf.answer.refusal ≡ 0 → part_of (pass_of rest m left) ≡ drainOf.lines
  unfolding pass_of part_of
  part-plain e = rw (eq-eqb ranOf.answer.refusal 0 e) (append-nil drainOf.lines)

  pub part-refused : (ranOf.answer.refusal ≡ 0 → ⊥) → part_of (pass_of rest m left) ≡ drainOf.lines ++ refusal_line ranOf.answer.refusal 0
  unfolding pass_of part_of
  part-refused n = rw (ne_eqb ranOf.answer.refusal 0 n) refl

  pub remaining-plain : (k : ℕ) → ranOf.answer.refusal ≡ 0 → remaining_after k (pass_of rest m left) ≡ k - drainOf.count
  unfolding pass_of remaining_after
  remaining-plain k e = rw (eq-eqb ranOf.answer.refusal 0 e) refl

  pub remaining-refused : (k : ℕ) → (ranOf.answer.refusal ≡ 0 → ⊥) → remaining_after k (pass_of rest m left) ≡ 0
  unfolding pass_of remaining_after
  remaining-refused k n = rw (ne_eqb ranOf.answer.refusal 0 n) refl
