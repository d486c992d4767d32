-- One line of a log on a machine, as the code makes its call: what it is lent, and what it leaves in the machine and in the room for results. Assumes nothing.
use Rattle.std.specs.Prelude.{ℕ, zero, suc, ◌+◌, ◌*◌, ◌-◌, ◌≤◌, ◌<◌, ◌≡◌, ◌≢◌, Bool, ◌&&◌, eqb, ltb, get_or, take, set}
use Rattle.std.proofs.Math.Path.{refl, sym, ap}
use Rattle.std.proofs.Common.{subst, ◌∙◌, mul-suc, length-append}
use Rattle.std.proofs.Math.Bool.{true, false}
use mathlib.Core.List.{List, [], ◌∷◌, ◌++◌, flatten, append-nil}
use native.Mathlib.Omega.{arith}
use Rattle.std.proofs.Math.Decide.{ℕ_discrete, dec_lt}
use borrow.Author.Tests.{ltb-true, le-ltb, eqb-false}
use Rattle.std.proofs.Math.ListN.{length, drop}
use Rattle.value.specs.Operators.{pick}
use Rattle.value_sets.specs.Sets.{set_ok}
use Rattle.formula.specs.declared.Refusal.TheVariants.{NotAble, NoResult}
use Rattle.machine_layout.specs.Layout.{links_at, inputs_of, results_of, operators_of, untaken_of, untaken_at, stored_kinds}
use Rattle.machine_firing.specs.Fire.{able_at, fired_at}
use Rattle.machine_valid.specs.Below.{all_below}
use Rattle.machine_valid.specs.Figures.{valid-figures}
use Rattle.machine_runs.specs.Near.{static-fired}
use Rattle.machine_calls.specs.Calls.{Outcome, Handed, outcome, handed, answers, refusal, size_in, standing, rooms_ok, triggered, pushed_memory, pushed, fired, result_ready, result_word, result_bytes, emptied, taken_memory, taken}
use Rattle.machine_calls.specs.CallLaws.{standing-good, fired-refused, taken-short, taken_refused, taken_none}
use Rattle.machine_calls.specs.Written.{words_out, length-out, written_out}
use Rattle.machine_tray.specs.OneByOne.{either, push-leaves}
use Rattle.machine_log.specs.declared.lines.Line.{Line}
use Rattle.machine_log.specs.declared.lines.Line.TheVariants.{Push, Fire, Take, Malformed}
use Rattle.machine_log.specs.Follow.{room, called, given}
use Rattle.machine_log.specs.SetLaws.{set_at}

-- A push's set lies in the lent bytes.
abbrev pub Lies : ℕ → List ℕ → Line → Type 0
Lies size sets (Push n) = (1 ≤ n) × (size * n ≤ length sets)
Lies size sets (Fire operator) = Unit {0}
Lies size sets Take = Unit {0}
Lies size sets Malformed = Unit {0}

-- What a line asks of what is lent: a push's set lies there, a take has room for a result where one is untaken.
abbrev pub Lent : ℕ → List ℕ → List ℕ → List ℕ → Line → Type 0
Lent size sets m out (Push n) = Lies size sets (Push n)
Lent size sets m out (Fire operator) = Unit {0}
Lent size sets m out Take = 1 ≤ untaken_of m → result_bytes ≤ length out
Lent size sets m out Malformed = Unit {0}

-- The results that an accepted line hands out.
abbrev pub hands_out : Line → ℕ
hands_out (Push n) = 0
hands_out (Fire operator) = 0
hands_out Take = 1
hands_out Malformed = 0

pub hands-few : (l : Line) → hands_out l ≤ 1
hands-few (Push n) = omega arith
hands-few (Fire operator) = omega arith
hands-few Take = omega arith
hands-few Malformed = omega arith

-- A line's call that gave refusal r: where it is 0, machine and results are those of the line's definition; else every byte is as it was, and the line is refused
-- by its definition too, if not by the same number.
pub record Stepped (set : ℕ → List ℕ) (l : Line) (m out : List ℕ) (r : ℕ) (m' out' : List ℕ) : Type 0 where
  pub accepted : r ≡ 0 → (called set l m).answer.refusal ≡ 0
  pub machine : r ≡ 0 → m' ≡ (called set l m).mem
  pub results : r ≡ 0 → out' ≡ flatten (given l (called set l m)) ++ drop (result_bytes * length (given l (called set l m))) out
  pub refused : r ≢ 0 → (called set l m).answer.refusal ≢ 0
  pub kept : r ≢ 0 → (m' ≡ m) × (out' ≡ out)

-- ---- push

pub size-within : (size n : ℕ) → 1 ≤ n → size ≤ size * n
size-within size n h =
    let k : suc (n - 1) ≡ n = omega arith in
    let w : size * n ≡ size * (n - 1) + size = ap (λ (x : ℕ). size * x) (sym k) ∙ mul-suc size (n - 1) in
    omega arith

module _ (size : ℕ) (sets m out : List ℕ) (n : ℕ) where
  -- The set as the code cuts it.
  pub set-cut : 1 ≤ n → take (size * n - (size * n - size)) (drop (size * n - size) sets) ≡ set_at size sets n
  set-cut h =
      let k : suc (n - 1) ≡ n = omega arith in
      let w : size * n ≡ size * (n - 1) + size = ap (λ (x : ℕ). size * x) (sym k) ∙ mul-suc size (n - 1) in
      let a : size * n - size ≡ size * (n - 1) = omega arith in
      let b : size * n - (size * n - size) ≡ size = omega arith in
      rw (b, a) refl

  pub stepped-push : (o : Outcome) → o ≡ pushed m (set_at size sets n) → Stepped (set_at size sets) (Push n) m out o.answer.refusal o.mem out
  unfolding called given flatten
  stepped-push o e =
      let r = ap (λ (x : Outcome). x.answer.refusal) e in
      record {
        accepted = λ z. sym r ∙ z;
        machine = λ z. ap (λ (x : Outcome). x.mem) e;
        results = λ z. refl;
        refused = λ q z. q (r ∙ z);
        kept = λ q. (ap (λ (x : Outcome). x.mem) (e ∙ push-leaves m (set_at size sets n) (λ z. q (r ∙ z))), refl);
      }

-- ---- fire

abbrev FireLeaves : List ℕ → Outcome → Type 0
FireLeaves m o = o.answer.refusal ≢ 0 → o.mem ≡ m

fire-leaves : (m : List ℕ) (i : ℕ) → FireLeaves m (fired m i)
unfolding fired
fire-leaves m i =
    either (FireLeaves m) (eqb (standing m) 0) _ _
    (either (FireLeaves m) (ltb i (operators_of m) && able_at m (size_in m) i) _ _ (λ h. absurd (h refl)) (λ h. refl))
    (λ h. refl)

pub stepped-fire : (set : ℕ → List ℕ) (m out : List ℕ) (i : ℕ) (o : Outcome) → o ≡ fired m i → Stepped set (Fire i) m out o.answer.refusal o.mem out
unfolding called given flatten
stepped-fire set m out i o e =
    let r = ap (λ (x : Outcome). x.answer.refusal) e in
    record {
      accepted = λ z. sym r ∙ z;
      machine = λ z. ap (λ (x : Outcome). x.mem) e;
      results = λ z. refl;
      refused = λ q z. q (r ∙ z);
      kept = λ q. (ap (λ (x : Outcome). x.mem) e ∙ fire-leaves m i (λ z. q (r ∙ z)), refl);
    }

-- ---- take

-- The bytes of the result set.
abbrev result_out : List ℕ → List ℕ
result_out m = words_out 16 (result_word m (size_in m) (results_of m))

-- A take with room for its result, by its tests: 31 and 11 of the memory, 35.
abbrev took_by : Bool → Bool → List ℕ → List ℕ → Handed
took_by stands ready m o =
    pick stands
    (pick ready (handed (answers 0 (results_of m)) (taken_memory m) (result_out m ++ drop 80 o)) (handed (refusal NoResult) m o))
    (handed (answers (standing m) 0) m o)

module _ (m : List ℕ) where
  abbrev stands : Bool
  stands = eqb (standing m) 0

  abbrev ready : Bool
  ready = ltb 0 (untaken_of m) && all_below (results_of m) (result_ready m (size_in m))

  took : (o : List ℕ) → 80 ≤ length o → taken m o ≡ took_by stands ready m o
  unfolding taken
  took o h = rw (le-ltb (length o) 80 h, written_out m links_at (size_in m) (results_of m) 16 o h) refl

  took-room : taken m room ≡ took_by stands ready m room
  took-room = took room (omega arith)

  -- with no set untaken every take is refused
  none-taken : untaken_of m ≡ 0 → (taken m room).answer.refusal ≢ 0
  none-taken u e = go (ℕ_discrete (standing m) 0)
    where
      go : Dec (standing m ≡ 0) → ⊥
      go (yes st) = let r = ap (λ (h : Handed). h.answer.refusal) (taken_none m st room (omega arith) (le-ltb 0 (untaken_of m) (omega arith))) in omega (arith, r, e)
      go (no n) = n (sym (ap (λ (h : Handed). h.answer.refusal) (taken_refused m room (omega arith) n)) ∙ e)

abbrev Took : (ℕ → List ℕ) → List ℕ → List ℕ → Handed → Type 0
Took set m out h = Stepped set Take m out h.answer.refusal h.mem h.out

module _ (set : ℕ → List ℕ) (m out : List ℕ) where
  whole-result : (result_out m ++ drop 80 room) ++ [] ≡ result_out m
  whole-result = append-nil (result_out m ++ []) ∙ append-nil (result_out m)

  took-roomy : (a b : Bool) → stands m ≡ a → taken m room ≡ took_by a b m room → Took set m out (took_by a b m out)
  unfolding called given flatten
  took-roomy true true p t =
      record {
        accepted = λ z. ap (λ (h : Handed). h.answer.refusal) t;
        machine = λ z. sym (ap (λ (h : Handed). h.mem) t);
        results = λ z. ap (λ (x : List ℕ). x ++ drop 80 out) (sym (ap (λ (h : Handed). h.out ++ []) t ∙ whole-result));
        refused = λ q. absurd (q refl);
        kept = λ q. absurd (q refl);
      }
  took-roomy true false p t =
      record {
        accepted = λ z. absurd (omega arith);
        machine = λ z. absurd (omega arith);
        results = λ z. absurd (omega arith);
        refused = λ q z. q (sym (ap (λ (h : Handed). h.answer.refusal) t) ∙ z);
        kept = λ q. (refl, refl);
      }
  took-roomy false b p t =
      let n : standing m ≢ 0 = eqb-false (standing m) 0 p in
      record {
        accepted = λ z. absurd (n z);
        machine = λ z. absurd (n z);
        results = λ z. absurd (n z);
        refused = λ q z. q (sym (ap (λ (h : Handed). h.answer.refusal) t) ∙ z);
        kept = λ q. (refl, refl);
      }

  took-short : untaken_of m ≡ 0 → Took set m out (handed (answers 11 0) m out)
  unfolding called
  took-short u =
      record {
        accepted = λ z. absurd (omega arith);
        machine = λ z. absurd (omega arith);
        results = λ z. absurd (omega arith);
        refused = λ q. none-taken m u;
        kept = λ q. (refl, refl);
      }

  pub stepped-take : (1 ≤ untaken_of m → 80 ≤ length out) → (h : Handed) → h ≡ taken m out → Took set m out h
  stepped-take lent h e = go (dec_lt (length out) 80)
    where
      go : Dec (length out < 80) → Took set m out h
      go (yes l) = subst (Took set m out) (sym (e ∙ taken-short m out l)) (took-short (none (untaken_of m) refl))
        where
          none : (u : ℕ) → untaken_of m ≡ u → untaken_of m ≡ 0
          none zero p = p
          none (suc u) p = absurd (let c = lent (omega arith) in omega arith)
      go (no l) = subst (Took set m out) (sym (e ∙ took m out (omega arith))) (took-roomy (stands m) (ready m) refl (took-room m))

-- ---- a line that is none

pub stepped-malformed : (set : ℕ → List ℕ) (m out : List ℕ) → Stepped set Malformed m out 15 m out
unfolding called
stepped-malformed set m out =
    record {
      accepted = λ z. absurd (omega arith);
      machine = λ z. absurd (omega arith);
      results = λ z. absurd (omega arith);
      refused = λ q z. absurd (omega arith);
      kept = λ q. (refl, refl);
    }

-- ---- results and untaken sets

set-most : (l : List ℕ) (i v : ℕ) → get_or (set l i v) i 0 ≤ v
set-most [] i v = omega arith
set-most (x ∷ l) zero v = omega arith
set-most (x ∷ l) (suc i) v = set-most l i v

-- An accepted call adds at most one set to those untaken.
abbrev Counts : List ℕ → Outcome → Type 0
Counts m o = o.answer.refusal ≡ 0 → untaken_of o.mem ≤ untaken_of m + 1

push-counts : (m s : List ℕ) → Counts m (pushed m s)
unfolding pushed pushed_memory
push-counts m s =
    either (Counts m) (eqb (standing m) 0) _ _
    (either (Counts m) (set_ok (stored_kinds m) s) _ _
    (either (Counts m) (ltb (untaken_of m) 16) _ _
    (either (Counts m) (rooms_ok m (size_in m) (inputs_of m)) _ _
    (λ e. set-most (triggered m s) untaken_at (untaken_of m + 1))
    (λ e. omega arith))
    (λ e. omega arith))
    (λ e. omega arith))
    (λ e. omega arith)

fire-counts : (m : List ℕ) (i : ℕ) → Counts m (fired m i)
unfolding fired
fire-counts m i e = go (ℕ_discrete (standing m) 0)
  where
    able : standing m ≡ 0 → (a : Bool) → ltb i (operators_of m) ≡ a → Counts m (pick (a && able_at m (size_in m) i) (outcome (answers 0 0) (fired_at m (size_in m) i)) (outcome (refusal NotAble) m))
    able st true p =
        let g = standing-good m st in
        either (Counts m) (able_at m (size_in m) i) _ _
        (λ z. omega (arith, static-fired m links_at (size_in m) (omega arith) g.0 i (omega (arith, ltb-true i (operators_of m) p, (valid-figures m g.1).operators)) untaken_at (omega arith)))
        (λ z. omega arith)
    able st false p = λ z. omega arith

    go : Dec (standing m ≡ 0) → untaken_of (fired m i).mem ≤ untaken_of m + 1
    go (yes st) = either (Counts m) (eqb (standing m) 0) _ _ (able st (ltb i (operators_of m)) refl) (λ z. omega arith) e
    go (no n) = absurd (n (sym (ap (λ (o : Outcome). o.answer.refusal) (fired-refused m i n)) ∙ e))

-- An accepted take takes one away, so that there was one.
take-counts : (m : List ℕ) → (taken m room).answer.refusal ≡ 0 → 2 + untaken_of (taken m room).mem ≤ untaken_of m + 1
unfolding taken_memory
take-counts m e = go (stands m) refl (ltb 0 (untaken_of m)) refl (all_below (results_of m) (result_ready m (size_in m))) (took-room m)
  where
    go : (a : Bool) → stands m ≡ a → (b : Bool) → ltb 0 (untaken_of m) ≡ b → (d : Bool) → taken m room ≡ took_by a (b && d) m room → 2 + untaken_of (taken m room).mem ≤ untaken_of m + 1
    go true p true q true t =
        let s = set-most (emptied (results_of m) m (size_in m)) untaken_at (untaken_of m - 1) in
        let u = ap (λ (h : Handed). untaken_of h.mem) t in
        omega (arith, s, u, ltb-true 0 (untaken_of m) q)
    go true p true q false t = absurd (let r = ap (λ (h : Handed). h.answer.refusal) t in omega (arith, r, e))
    go true p false q d t = absurd (let r = ap (λ (h : Handed). h.answer.refusal) t in omega (arith, r, e))
    go false p b q d t = absurd (eqb-false (standing m) 0 p (sym (ap (λ (h : Handed). h.answer.refusal) t) ∙ e))

module _ (set : ℕ → List ℕ) (m : List ℕ) where
  -- A result takes a push's line and a take's.
  pub line-counts : (l : Line) → (called set l m).answer.refusal ≡ 0 → 2 * hands_out l + untaken_of (called set l m).mem ≤ untaken_of m + 1
  unfolding called
  line-counts (Push n) e = let c = push-counts m (set n) e in omega arith
  line-counts (Fire i) e = let c = fire-counts m i e in omega arith
  line-counts Take e = take-counts m e
  line-counts Malformed e = absurd (omega arith)

  took-long : (a b : Bool) → length (took_by a b m room).out ≡ 80
  took-long true true = length-append (result_out m) [] ∙ (let l = length-out 16 (result_word m (size_in m) (results_of m)) in omega arith)
  took-long true false = refl
  took-long false b = refl

  pub given-long : (l : Line) → length (flatten (given l (called set l m))) ≡ 80 * hands_out l
  unfolding called given flatten
  given-long (Push n) = refl
  given-long (Fire i) = refl
  given-long Take = ap length (append-nil (taken m room).out) ∙ ap (λ (h : Handed). length h.out) (took-room m) ∙ took-long (stands m) (ready m)
  given-long Malformed = refl

  pub given-count : (l : Line) → length (given l (called set l m)) ≡ hands_out l
  unfolding given
  given-count (Push n) = refl
  given-count (Fire i) = refl
  given-count Take = refl
  given-count Malformed = refl
