-- A log followed line by line, as the code goes through it, with the room for its results; and that only the sets that its lines name matter. Assumes nothing.
use Rattle.std.specs.Prelude.{ℕ, zero, suc, ◌+◌, ◌*◌, ◌-◌, ◌/◌, ◌≤◌, ◌<◌, ◌≡◌, ◌≢◌, Bool, true, false, eqb, leb, ltb, length, take, drop, Ok}
use Rattle.std.proofs.Math.Path.{refl}
use Rattle.std.proofs.Common.{sym, ap, ap₂, subst, ◌∙◌, arith, eq-eqb, ne_eqb, leb-true, length-append, length-drop, take-append-drop, drop_of_length-le, take_all, take_at, drop_at, drop-drop}
use mathlib.Core.List.{List, [], ◌∷◌, ◌++◌, flatten, append-nil, append_assoc}
use Rattle.std.proofs.Math.Decide.{dec_lt}
use Rattle.value.specs.Operators.{pick}
use Rattle.formula.proofs.TreeLaws.{and-true}
use Rattle.machine_layout.specs.Layout.{untaken_of}
use Rattle.machine_calls.specs.Calls.{result_bytes}
use Rattle.machine_log.specs.declared.lines.Line.{Line}
use Rattle.machine_log.specs.declared.lines.Line.TheVariants.{Push, Fire, Take, Malformed}
use Rattle.machine_log.specs.declared.follow.Progress.{Progress}
use Rattle.machine_log.specs.Lines.{line_bytes, most_lines, line_of, line_at, lines_in, line_count, lines_of, listed, log_check}
use Rattle.machine_log.specs.LineLaws.{line-short, line-next, lines-over, lines-all, passed-listed}
use Rattle.machine_log.specs.Follow.{called, given, Followed, followed_to, followed}
use Rattle.machine_log.specs.Checked.{most_taken, room_for, written_out}
use Rattle.machine_log.specs.Steps.{Lies, Lent, hands_out, Stepped, line-counts, given-long, given-count}

-- ---- the contract

-- A log behind 15, an empty machine and room for the results.
pub record Followable (size : ℕ) (sets log m out : List ℕ) : Type 0 where
  pub few : line_count log ≤ most_lines
  pub room : room_for (length log) ≤ length out
  pub empty : untaken_of m ≡ 0
  pub lie : (j : ℕ) → j < line_count log → Lies size sets (line_at log j)

abbrev pub progress_of : Followed → Progress
progress_of f = record { line = f.line; count = length f.results }

-- What is told and left, by what following comes to.
pub record Follows (f : Followed) (out : List ℕ) (p : Progress) (m' out' : List ℕ) : Type 0 where
  pub told : p ≡ progress_of f
  pub machine : m' ≡ f.mem
  pub results : out' ≡ written_out f.results out

-- ---- one line

module _ (set : ℕ → List ℕ) (l : Line) (ls : List Line) (j : ℕ) (m : List ℕ) (r : List (List ℕ)) where
  pub followed-next : (called set l m).answer.refusal ≡ 0 → followed set (l ∷ ls) j m r ≡ followed set ls (suc j) (called set l m).mem (r ++ given l (called set l m))
  unfolding followed
  followed-next e = rw (eq-eqb (called set l m).answer.refusal 0 e) refl

  pub followed-refused : (called set l m).answer.refusal ≢ 0 → followed set (l ∷ ls) j m r ≡ followed_to j m r
  unfolding followed
  followed-refused n = rw (ne_eqb (called set l m).answer.refusal 0 n) refl

pub followed-over : (set : ℕ → List ℕ) (j : ℕ) (m : List ℕ) (r : List (List ℕ)) → followed set [] j m r ≡ followed_to 0 m r
unfolding followed
followed-over set j m r = refl

-- ---- the room

results_fit : (c bytes lent : ℕ) → room_for bytes ≤ lent → c ≤ most_taken → 26 * c ≤ bytes → result_bytes * c ≤ lent
unfolding room_for
results_fit c bytes lent h few long = go (ltb 2048 (bytes / 26)) h
  where
    go : (b : Bool) → 80 * pick b 2048 (bytes / 26) ≤ lent → 80 * c ≤ lent
    go true k = omega arith
    go false k = omega arith

-- The room from a place on, as the code lends it.
abbrev pub room_from : ℕ → List ℕ → List ℕ
room_from at out = take (length out - at) (drop at out)

room-from : (at : ℕ) (out : List ℕ) → room_from at out ≡ drop at out
room-from at out = take_all (length out - at) (drop at out) (omega (arith, length-drop at out))

none-behind : (at : ℕ) (out : List ℕ) → drop (length out - at) (drop at out) ≡ []
none-behind at out = drop_of_length-le (drop at out) {i = length out - at} (omega (arith, length-drop at out))

-- A take's line is whole.
take_whole : (log : List ℕ) (j : ℕ) → line_at log j ≡ Take → line_bytes * j + line_bytes ≤ length log
take_whole log j e = go (dec_lt (length log - line_bytes * j) line_bytes)
  where
    go : Dec (length log - line_bytes * j < line_bytes) → line_bytes * j + line_bytes ≤ length log
    go (yes h) = absurd (let z : ◌≡◌ {A = ℕ} 0 1 = cc (line-short log j h, e) in omega arith)
    go (no n) = omega arith

-- ---- the loop

flatten-both : (a b : List (List ℕ)) → flatten (a ++ b) ≡ flatten a ++ flatten b
unfolding flatten
flatten-both [] b = refl
flatten-both (x ∷ a) b = ap (λ (y : List ℕ). x ++ y) (flatten-both a b) ∙ sym (append_assoc x (flatten a) (flatten b))

-- j lines are followed: the lines left, on the machine as it is and with the results so far, come to what all lines do.
pub record Underway (set : ℕ → List ℕ) (log m₀ out₀ : List ℕ) (j : ℕ) (m out : List ℕ) (count : ℕ) : Type 0 where
  pub results : List (List ℕ)
  pub goes : followed set (lines_in (line_count log - j) (drop (line_bytes * j) log)) (suc j) m results ≡ followed set (lines_of log) 1 m₀ []
  pub counted : length results ≡ count
  pub long : length (flatten results) ≡ result_bytes * count
  pub few : 2 * count + untaken_of m ≤ j
  pub written : out ≡ flatten results ++ drop (result_bytes * count) out₀

pub underway-first : (set : ℕ → List ℕ) (log m out : List ℕ) → untaken_of m ≡ 0 → Underway set log m out 0 m out 0
unfolding flatten
underway-first set log m out e =
    record {
      results = [];
      goes = ap (λ (ls : List Line). followed set ls 1 m []) (lines-all log);
      counted = refl;
      long = refl;
      few = omega arith;
      written = refl;
    }

module _ (set : ℕ → List ℕ) (log m₀ out₀ : List ℕ) (j : ℕ) (m out : List ℕ) (count : ℕ) (u : Underway set log m₀ out₀ j m out count) where
  abbrev whole : Followed
  whole = followed set (lines_of log) 1 m₀ []

  tells : (line : ℕ) → followed_to line m u.results ≡ whole → Follows whole out₀ (record { line = line; count = count }) m out
  tells line e =
      record {
        told = ap (λ (c : ℕ). record { line = line; count = c }) (sym u.counted) ∙ ap progress_of e;
        machine = ap (λ (f : Followed). f.mem) e;
        results = u.written ∙ ap (λ (c : ℕ). flatten u.results ++ drop (result_bytes * c) out₀) (sym u.counted) ∙ ap (λ (f : Followed). written_out f.results out₀) e;
      }

  pub underway-last : line_count log ≤ j → Follows whole out₀ (record { line = 0; count = count }) m out
  underway-last h =
      tells 0 (sym (followed-over set (suc j) m u.results) ∙ ap (λ (ls : List Line). followed set ls (suc j) m u.results) (sym (lines-over log j h)) ∙ u.goes)

  module _ (F : room_for (length log) ≤ length out₀) (small : line_count log ≤ most_lines) (h : j < line_count log) where
    -- the results so far lie in the room
    pub results-in : result_bytes * count ≤ length out₀
    results-in = results_fit count (length log) (length out₀) F (omega (arith, u.few)) (omega (arith, u.few))

    pub line-lent : (l : Line) → l ≡ line_at log j → (size : ℕ) (sets : List ℕ) → Lies size sets (line_at log j) → length out ≡ length out₀
        → Lent size sets m (room_from (result_bytes * count) out) l
    line-lent l p size sets y same = go l p (subst (Lies size sets) (sym p) y)
      where
        go : (l : Line) → l ≡ line_at log j → Lies size sets l → Lent size sets m (room_from (result_bytes * count) out) l
        go (Push n) e y = y
        go (Fire i) e y = tt
        go Take e y = λ a.
            let b = results_fit (count + 1) (length log) (length out₀) F (omega (arith, u.few)) (omega (arith, u.few, take_whole log j (sym e))) in
            let r = ap length (room-from (result_bytes * count) out) in
            omega (arith, length-drop (result_bytes * count) out)
        go Malformed e y = tt

    module _ (l : Line) (p : l ≡ line_at log j) (r : ℕ) (m' out' : List ℕ) (s : Stepped set l m (room_from (result_bytes * count) out) r m' out') where
      abbrev line : Line
      line = line_at log j

      abbrev more : List (List ℕ)
      more = given line (called set line m)

      -- the room with what the line's call left in its part
      abbrev after : List ℕ
      after = take (result_bytes * count) out ++ (out' ++ drop (length out - result_bytes * count) (drop (result_bytes * count) out))

      stepped : Stepped set line m (drop (result_bytes * count) out) r m' out'
      stepped =
          subst (λ (x : Line). Stepped set x m (drop (result_bytes * count) out) r m' out') p
          (subst (λ (x : List ℕ). Stepped set l m x r m' out') (room-from (result_bytes * count) out) s)

      after_is : after ≡ take (result_bytes * count) out ++ out'
      after_is = ap (λ (x : List ℕ). take (result_bytes * count) out ++ x) (ap (λ (x : List ℕ). out' ++ x) (none-behind (result_bytes * count) out) ∙ append-nil out')

      pub underway-refused : r ≢ 0 → Follows whole out₀ (record { line = j + 1; count = count }) m' after
      underway-refused q =
          let k = stepped.kept q in
          let o : after ≡ out = after_is ∙ ap (λ (x : List ℕ). take (result_bytes * count) out ++ x) k.1 ∙ take-append-drop (result_bytes * count) out in
          let z : suc j ≡ j + 1 = omega arith in
          let e : followed_to (j + 1) m u.results ≡ whole =
          ap (λ (x : ℕ). followed_to x m u.results) (sym z)
          ∙ sym (followed-refused set line (lines_in (line_count log - (j + 1)) (drop (line_bytes * (j + 1)) log)) (suc j) m u.results (stepped.refused q))
          ∙ ap (λ (ls : List Line). followed set ls (suc j) m u.results) (sym (line-next log j h)) ∙ u.goes in
          rw (k.0, o) (tells (j + 1) e)

      pub underway-next : (n : ℕ) → n ≡ hands_out l → r ≡ 0 → Underway set log m₀ out₀ (j + 1) m' after (count + n)
      underway-next n d q =
          let c : length more ≡ n = given-count set m line ∙ ap hands_out (sym p) ∙ sym d in
          let y : hands_out line ≡ n = sym (given-count set m line) ∙ c in
          let z : suc j ≡ j + 1 = omega arith in
          let w : result_bytes * count + result_bytes * n ≡ result_bytes * (count + n) = omega arith in
          record {
            results = u.results ++ more;
            goes =
                ap₂ (λ (i : ℕ) (x : List ℕ). followed set (lines_in (line_count log - (j + 1)) (drop (line_bytes * (j + 1)) log)) (suc i) x (u.results ++ more)) (sym z) (stepped.machine q)
                ∙ sym (followed-next set line (lines_in (line_count log - (j + 1)) (drop (line_bytes * (j + 1)) log)) (suc j) m u.results (stepped.accepted q))
                ∙ ap (λ (ls : List Line). followed set ls (suc j) m u.results) (sym (line-next log j h)) ∙ u.goes;
            counted = length-append u.results more ∙ ap₂ (λ (a b : ℕ). a + b) u.counted c;
            long =
                ap length (flatten-both u.results more) ∙ length-append (flatten u.results) (flatten more)
                ∙ ap₂ (λ (a b : ℕ). a + b) u.long (given-long set m line ∙ ap (λ (x : ℕ). result_bytes * x) y) ∙ w;
            few = omega (arith, u.few, line-counts set m line (stepped.accepted q), ap untaken_of (stepped.machine q), y);
            written =
                after_is
                ∙ ap₂ (λ (a b : List ℕ). a ++ b)
                (ap (take (result_bytes * count)) u.written ∙ take_at (flatten u.results) (drop (result_bytes * count) out₀) (result_bytes * count) u.long)
                (stepped.results q
                ∙ ap₂ (λ (x : ℕ) (y : List ℕ). flatten more ++ drop (result_bytes * x) y) c
                (ap (drop (result_bytes * count)) u.written ∙ drop_at (flatten u.results) (drop (result_bytes * count) out₀) (result_bytes * count) u.long)
                ∙ ap (λ (x : List ℕ). flatten more ++ x) (drop-drop (result_bytes * n) (result_bytes * count) out₀))
                ∙ sym (append_assoc (flatten u.results) (flatten more) (drop (result_bytes * count + result_bytes * n) out₀))
                ∙ ap₂ (λ (x : List ℕ) (k : ℕ). x ++ drop k out₀) (sym (flatten-both u.results more)) w;
          }

-- ---- only the sets that lines name matter

abbrev AllListed : ℕ → List Line → Type 0
AllListed number [] = Unit {0}
AllListed number (l ∷ ls) = (listed number l ≡ true) × AllListed number ls

listed_in : (number n : ℕ) (log : List ℕ) → ((i : ℕ) → i < n → listed number (line_at log i) ≡ true) → AllListed number (lines_in n log)
unfolding lines_in
listed_in number zero log h = tt
listed_in number (suc n) log h = (
  h 0 (omega arith),
  listed_in number n (drop line_bytes log)
      (λ i k.
      let w : line_bytes + line_bytes * i ≡ line_bytes * suc i = omega arith in
      ap (λ (l : List ℕ). listed number (line_of (take line_bytes l))) (drop-drop (line_bytes * i) line_bytes log ∙ ap (λ (x : ℕ). drop x log) w) ∙ h (suc i) (omega arith)),
)

-- A listed push's set is one of the list.
pub push-listed : (number n : ℕ) → listed number (Push n) ≡ true → (1 ≤ n) × (n ≤ number)
unfolding listed
push-listed number n e = let b = and-true (leb 1 n) (leb n number) e in (leb-true 1 n b.0, leb-true n number b.1)

module _ (number : ℕ) (a b : ℕ → List ℕ) (h : (n : ℕ) → 1 ≤ n → n ≤ number → a n ≡ b n) where
  called_same : (l : Line) (m : List ℕ) → listed number l ≡ true → called a l m ≡ called b l m
  unfolding called
  called_same (Push n) m e = let k = push-listed number n e in rw (h n k.0 k.1) refl
  called_same (Fire i) m e = refl
  called_same Take m e = refl
  called_same Malformed m e = refl

  lines_same : (ls : List Line) → AllListed number ls → (j : ℕ) (m : List ℕ) (r : List (List ℕ)) → followed a ls j m r ≡ followed b ls j m r
  unfolding followed
  lines_same [] e j m r = refl
  lines_same (l ∷ ls) (e, es) j m r =
      rw (called_same l m e) (ap (λ (f : Followed). pick (eqb (called b l m).answer.refusal 0) f (followed_to j m r)) (lines_same ls es (suc j) _ _))

  pub followed_same : (log : List ℕ) → log_check number log ≡ Ok tt → (m : List ℕ) → followed a (lines_of log) 1 m [] ≡ followed b (lines_of log) 1 m []
  unfolding lines_of
  followed_same log e m = lines_same (lines_of log) (listed_in number (line_count log) log (passed-listed number log e)) 1 m []
