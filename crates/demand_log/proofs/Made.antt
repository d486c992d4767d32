-- Laws of specs/Made.antt, and what only they need.
use Rattle.std.specs.Prelude.{ℕ, ◌≤◌, ◌≡◌, refl, Bool, true, false, eqb, ltb, drop, take as first_of}
use Rattle.std.proofs.Common.{sym, ◌∙◌, arith, eqb-true, eq-eqb, ltb-true, drop_of_length-le, take_all}
use Rattle.std.proofs.Math.Path.{ap, subst}
use Rattle.std.proofs.Math.Bool.{cond}
use Rattle.std.proofs.lemmas.Bool.{false≢true}
use mathlib.Core.List.{List, [], ◌∷◌, ◌++◌, append-nil, flatten}
use Rattle.std.proofs.Math.Decide.{ℕ_discrete}
use Rattle.std.proofs.Math.ListN.{length, length-set}
use Rattle.machine_layout.specs.Layout.{links_at, operators_of, results_of, untaken_at, untaken_of}
use Rattle.machine_firing.specs.Fire.{able_at}
use Rattle.machine_valid.specs.Below.{all_below}
use Rattle.machine_valid.specs.Figures.{valid-figures}
use Rattle.machine_calls.specs.Calls.{Outcome, Handed, refusal, size_in, standing, pushed, fired, result_ready, emptied, taken_memory, taken}
use Rattle.machine_calls.specs.CallLaws.{standing-good, emptied-keeps, pushed-length, fired-refused, fired-absent, fired-idle, fired-accepted, taken_refused, taken_none, taken-empty, taken-accepted}
use Rattle.machine_rounds.specs.Keeps.{fired-keeps}
use Rattle.machine_log.specs.declared.lines.Line.{Line}
use Rattle.machine_log.specs.declared.lines.Line.TheVariants.{Push, Fire, Take, Malformed}
use Rattle.machine_log.specs.Lines.{listed}
use Rattle.machine_log.specs.Follow.{room, called, given}
use Rattle.machine_log.specs.Steps.{given-long}
use Rattle.demand.specs.MemoryCalls.{Call, push, fire, take, Result, result, accepted, answer_of, memory_after, set_of, result_of}
use Rattle.demand_log.specs.LogCalls.{call_of, AllWide, bytes_of}
use Rattle.demand_log.specs.Made.{Made}

-- ---- lengths
module _ (m : List ℕ) where
  abbrev Long : Outcome → Type 0
  Long o = length o.mem ≡ length m

  fired-length : (i : ℕ) → Long (fired m i)
  fired-length i = go (ℕ_discrete (standing m) 0)
    where
      able : (st : standing m ≡ 0) (a : Bool) → ltb i (operators_of m) ≡ a → (b : Bool) → able_at m (size_in m) i ≡ b → Long (fired m i)
      able st false p b q = ap (λ (o : Outcome). length o.mem) (fired-absent m st i p)
      able st true p false q = ap (λ (o : Outcome). length o.mem) (fired-idle m st i p q)
      able st true p true q =
          let g = standing-good m st in
          ap (λ (o : Outcome). length o.mem) (fired-accepted m st i p q)
          ∙ (fired-keeps m (size_in m) g.0 i (omega (arith, ltb-true i (operators_of m) p, (valid-figures m g.1).operators))).len

      go : Dec (standing m ≡ 0) → Long (fired m i)
      go (yes st) = able st (ltb i (operators_of m)) refl (able_at m (size_in m) i) refl
      go (no n) = ap (λ (o : Outcome). length o.mem) (fired-refused m i n)

  -- A take keeps the memory's length, and tells the machine's width where it is accepted.
  abbrev Took : Handed → Type 0
  Took h = (length h.mem ≡ length m) × (h.answer.refusal ≡ 0 → h.answer.count ≡ results_of m)

  taken-long : standing m ≡ 0 → length (taken_memory m) ≡ length m
  unfolding taken_memory
  taken-long st = length-set (emptied (results_of m) m (size_in m)) untaken_at _ ∙ (emptied-keeps m links_at (size_in m) (omega arith) (standing-good m st).0 (results_of m)).size

  took : (o : List ℕ) → 80 ≤ length o → Took (taken m o)
  took o l = go (ℕ_discrete (standing m) 0)
    where
      ready : (st : standing m ≡ 0) (a : Bool) → ltb 0 (untaken_of m) ≡ a → (b : Bool) → all_below (results_of m) (result_ready m (size_in m)) ≡ b → Took (taken m o)
      ready st false p b q = subst Took (sym (taken_none m st o l p)) (refl, λ e. absurd (omega arith))
      ready st true p false q = subst Took (sym (taken-empty m st o l p q)) (refl, λ e. absurd (omega arith))
      ready st true p true q = subst Took (sym (taken-accepted m st o l p q)) (taken-long st, λ e. refl)

      go : Dec (standing m ≡ 0) → Took (taken m o)
      go (yes st) = ready st (ltb 0 (untaken_of m)) refl (all_below (results_of m) (result_ready m (size_in m))) refl
      go (no n) = subst Took (sym (taken_refused m o l n)) (refl, λ e. absurd (n e))

module _ (set : ℕ → List ℕ) (lent : ℕ) (m : List ℕ) (e : length m ≡ lent) where
  whole : first_of lent m ≡ m
  whole = take_all lent m (omega arith)

  behind : drop lent m ≡ []
  behind = drop_of_length-le m {i = lent} (omega arith)

  left : (m' : List ℕ) → m' ++ drop lent m ≡ m'
  left m' = ap (λ (r : List ℕ). m' ++ r) behind ∙ append-nil m'

  push-made : (n : ℕ) → Made set (Push n) (push lent (set n)) m
  unfolding answer_of memory_after set_of result_of called given accepted
  push-made n =
      record {
        answered = ap (λ (b : List ℕ). (pushed b (set n)).answer.refusal) whole;
        memory = left (pushed (first_of lent m) (set n)).mem ∙ ap (λ (b : List ℕ). (pushed b (set n)).mem) whole;
        kept = pushed-length m (set n);
        pushes = λ z. ap (λ (b : List ℕ). cond (eqb (pushed b (set n)).answer.refusal 0) (set n ∷ []) []) whole ∙ rw (eq-eqb _ 0 z) refl;
        hands = λ z. refl;
        wide = tt;
      }

  fire-made : (i : ℕ) → Made set (Fire i) (fire lent i) m
  unfolding answer_of memory_after set_of result_of called given accepted
  fire-made i =
      record {
        answered = ap (λ (b : List ℕ). (fired b i).answer.refusal) whole;
        memory = left (fired (first_of lent m) i).mem ∙ ap (λ (b : List ℕ). (fired b i).mem) whole;
        kept = fired-length m i;
        pushes = λ z. refl;
        hands = λ z. refl;
        wide = tt;
      }

  eighty : length (taken m room).out ≡ 80
  unfolding called given flatten
  eighty = ap length (sym (append-nil (taken m room).out)) ∙ given-long set m Take

  abbrev handsOver : Bool → Handed → List Result
  handsOver b h = cond b (result h.answer.count (first_of 80 h.out) ∷ []) []

  whole_out : first_of 80 (taken m room).out ≡ (taken m room).out
  whole_out = take_all 80 (taken m room).out (omega (arith, eighty))

  take-wide : (b : Bool) → eqb (taken m room).answer.refusal 0 ≡ b → AllWide (results_of m) (handsOver b (taken m room))
  take-wide true p = (((took m room (omega arith)).1 (eqb-true _ 0 p), ap length whole_out ∙ eighty), tt)
  take-wide false p = tt

  take-made : Made set Take (take lent room) m
  unfolding answer_of memory_after set_of result_of called given accepted
  take-made =
      record {
        answered = ap (λ (b : List ℕ). (taken b room).answer.refusal) whole;
        memory = left (taken (first_of lent m) room).mem ∙ ap (λ (b : List ℕ). (taken b room).mem) whole;
        kept = (took m room (omega arith)).0;
        pushes = λ z. refl;
        hands = λ z.
            ap (λ (b : List ℕ). bytes_of (handsOver (eqb (taken b room).answer.refusal 0) (taken b room))) whole
            ∙ ap (λ (b : Bool). bytes_of (handsOver b (taken m room))) (eq-eqb _ 0 z)
            ∙ ap (λ (o : List ℕ). o ∷ []) whole_out;
        wide =
            subst (λ (b : List ℕ). AllWide (results_of m) (handsOver (eqb (taken b room).answer.refusal 0) (taken b room))) (sym whole)
            (take-wide (eqb (taken m room).answer.refusal 0) refl);
      }

  -- Every line that is one names one call.
  pub record Names (l : Line) : Type 0 where
    pub call : Call
    pub named : call_of set lent l ≡ call ∷ []
    pub made : Made set l call m

  pub line-names : (number : ℕ) (l : Line) → listed number l ≡ true → Names l
  unfolding listed
  line-names number (Push n) h = record { call = push lent (set n); named = refl; made = push-made n }
  line-names number (Fire i) h = record { call = fire lent i; named = refl; made = fire-made i }
  line-names number Take h = record { call = take lent room; named = refl; made = take-made }
  line-names number Malformed h = absurd (false≢true h)
