-- Laws of specs/OneSwap.antt, and what only they need.
use Rattle.std.specs.Prelude.{ℕ, zero, suc, ◌≤◌, ◌<◌, ◌≡◌, refl, ◌≢◌, false, pos, length, get_or, Ok}
use Rattle.std.proofs.Common.{sym, ◌∙◌, arith}
use Rattle.std.proofs.Math.Path.{ap, subst}
use Rattle.std.proofs.lemmas.Bool.{false≢true}
use mathlib.Core.List.{List, [], ◌∷◌, ◌++◌, map}
use Rattle.std.proofs.Math.Option.{some}
use Rattle.std.proofs.Math.ListN.{length-replicate}
use Rattle.value.specs.declared.Value.TheVariants.{Whole}
use Rattle.value.specs.Bytes.{bytes_of}
use Rattle.examples.specs.Sheets.{bytes}
use Rattle.theory_pieces.specs.Tape.{Step, sets_of}
use Rattle.formula.specs.Tree.{Exp, formula_of}
use Rattle.formula.specs.Faults.{letters_of}
use Rattle.formula.specs.Tests.{verdict_of}
use Rattle.formula.specs.Acceptance.{Admissible, Kinded}
use Rattle.formula.proofs.Acceptance.{passed-admissible, passed-kinded}
use Rattle.graph.specs.Translation.{made_of}
use Rattle.meaning.specs.Evaluate.{cells_of}
use Rattle.value_sets.specs.Sets.{set_values}
use Rattle.machine_layout.specs.Layout.{size_of, need}
use Rattle.machine_start.specs.Start.{started}
use Rattle.machine_start.specs.StartLaws.{start-accepts}
use Rattle.theory_verdicts.specs.Results.{EndsWith}
use Rattle.theory_verdicts.specs.Running.{start_of, history, handed, taken}
use Rattle.theory_verdicts.proofs.RunningLaws.{Made-in-turn, calls-made}
use Rattle.theory_verdicts.specs.BehindEndless.{beside_loop, endless_set, ending_set, swapped_set, overtaking, without_loop, asked}
use Rattle.theory_verdicts.proofs.BehindEndless.{overtaking-made, without-loop-made, overtaking-taken, without-loop-taken, never_ends, ends}
use Rattle.demand_begin.proofs.MadeSound.{made-sound}
use Rattle.demand_begin.proofs.Lent.{stands-behind}
use Rattle.demand_begin.proofs.StartedStands.{accepted-stands}
use Rattle.demand.specs.MemoryCalls.{Result, result}
use Rattle.demand.specs.Claim.{Ends}
use Rattle.demand.specs.Evaluations.{shown}
use Rattle.demand.proofs.Evaluations.{enough-yields, yields-enough}
use Rattle.demand.proofs.Followed.{EachRead}
use Rattle.demand.specs.Followed.{shown_tokens}
use Rattle.demand.proofs.Agreed.{calls-agree}
use Rattle.demand.specs.Carried.{bytes_of_set, on_bytes}
use Rattle.demand.proofs.Carried.{carried}
use Rattle.demand.specs.LesserStarts.{zeros}
use Rattle.demand.specs.Swapped.{Run, sets, results}
use Rattle.demand.proofs.Swapped.{swapped}
use Rattle.demand.specs.OneSwap.{rows, line, kinds, refusals_in, first}

passed : verdict_of (bytes rows) line ≡ Ok tt
unfolding verdict_of bytes rows
passed = refl

pub formula-is : formula_of (bytes rows) ≡ beside_loop
unfolding formula_of bytes rows
formula-is = refl

admissible : Admissible (bytes rows)
admissible = passed-admissible (bytes rows) line passed

kinded : Kinded (bytes rows) line
kinded = passed-kinded (bytes rows) line passed

-- Each of the sets has values of the kinds W, T, T.
read : (set_values kinds (bytes_of_set endless_set) ≡ some endless_set) × (set_values kinds (bytes_of_set ending_set) ≡ some ending_set) × (set_values kinds (bytes_of_set swapped_set) ≡ some swapped_set)
unfolding formula_of bytes rows letters_of set_values bytes_of
read = (refl, refl, refl)

module _ (capacity : ℕ) (low : 1 ≤ capacity) (high : capacity ≤ 16) where
  pub starts : (started (bytes rows) line capacity (zeros (need (size_of capacity)))).answer.refusal ≡ 0
  unfolding zeros
  starts = start-accepts (bytes rows) line capacity (zeros (need (size_of capacity))) passed low high (omega (arith, length-replicate {A = ℕ} (need (size_of capacity)) 0))

  -- Each call is lent what a machine needs.
  abbrev pub run_of : List Step → Run (bytes rows)
  run_of w =
      record {
        line = line;
        capacity = capacity;
        memory = zeros (need (size_of capacity));
        behind = [];
        calls = map (on_bytes (need (size_of capacity)) (zeros 80)) w;
        accepted = starts;
      }

  -- It pushes the steps' sets, takes their results and has no call refused.
  run-does : (w : List Step) → history beside_loop capacity (asked w) ≡ w → EachRead (formula_of (bytes rows)) kinds capacity (map bytes_of_set (sets_of w)) (sets_of w)
      → (sets (run_of w) ≡ map bytes_of_set (sets_of w)) × (results (run_of w) ≡ map shown_tokens (taken beside_loop capacity (asked w))) × (refusals_in (run_of w) ≡ map (λ (s : Step). 0) w)
  unfolding zeros
  run-does w made r =
      let x = formula_of (bytes rows) in
      let memory = zeros (need (size_of capacity)) in
      let start = (started (bytes rows) line capacity memory).mem in
      let H = stands-behind (made_of x) (made-sound (bytes rows) admissible) kinds capacity start (start_of x) (accepted-stands (bytes rows) line capacity memory starts) [] in
      let turn = subst (λ (u : List Step). Made-in-turn beside_loop capacity u (start_of beside_loop)) made (calls-made beside_loop capacity (asked w) (start_of beside_loop)) in
      let c = carried x kinds capacity low high (calls-agree (bytes rows) admissible kinds capacity low high) (need (size_of capacity)) (omega arith) (zeros 80)
      (omega (arith, length-replicate {A = ℕ} 80 0)) w (start ++ []) (start_of x) H (subst (λ (y : Exp). Made-in-turn y capacity w (start_of y)) (sym formula-is) turn) r in (
        c.pushes,
        c.takes ∙ ap (λ (y : Exp). map shown_tokens (handed y w (start_of y))) formula-is
            ∙ ap (λ (u : List Step). map shown_tokens (handed beside_loop u (start_of beside_loop))) (sym made),
        c.none-refused,
      )

-- ---- the two runs
abbrev pub endless_run : Run (bytes rows)
endless_run = run_of 2 (omega arith) (omega arith) overtaking

abbrev pub ending_run : Run (bytes rows)
ending_run = run_of 16 (omega arith) (omega arith) without_loop

-- All calls are accepted, those of the loop's rounds too.
pub endless-does : (sets endless_run ≡ bytes_of_set endless_set ∷ bytes_of_set ending_set ∷ []) × (results endless_run ≡ shown (Whole (pos 6) ∷ []) ∷ shown (Whole (pos 5) ∷ []) ∷ [])
    × (refusals_in endless_run ≡ map (λ (s : Step). 0) overtaking)
endless-does =
    let d = run-does 2 (omega arith) (omega arith) overtaking overtaking-made (read.0, (read.1, tt)) in
    (d.0, d.1 ∙ ap (map shown_tokens) overtaking-taken, d.2)

pub ending-does : (sets ending_run ≡ bytes_of_set swapped_set ∷ bytes_of_set ending_set ∷ []) × (results ending_run ≡ shown (Whole (pos 7) ∷ []) ∷ shown (Whole (pos 5) ∷ []) ∷ [])
    × (refusals_in ending_run ≡ map (λ (s : Step). 0) without_loop)
ending-does =
    let d = run-does 16 (omega arith) (omega arith) without_loop without-loop-made (read.2, (read.1, tt)) in
    (d.0, d.1 ∙ ap (map shown_tokens) without-loop-taken, d.2)

-- Direct evaluation of the one's first set ends with no number of rounds.
pub first-never-ends : Ends (bytes rows) endless_run.line (get_or (sets endless_run) 0 []) → ⊥
first-never-ends e =
    let f : Ends (bytes rows) line (bytes_of_set endless_set) = subst (λ (s : List (List ℕ)). Ends (bytes rows) line (get_or s 0 [])) endless-does.0 e in
    let y = enough-yields (bytes rows) line admissible kinded (bytes_of_set endless_set) endless_set read.0 f.0 f.1 in
    never_ends y.0 (subst (λ (x : Exp). EndsWith x endless_set y.0) formula-is y.1)

differ-at-first : (k : ℕ) → first k ≡ false → k < length (sets endless_run) → k < length (sets ending_run) → get_or (sets endless_run) k [] ≡ get_or (sets ending_run) k []
differ-at-first zero out l m = absurd (false≢true (sym out))
differ-at-first (suc zero) out l m = ap (λ (s : List (List ℕ)). get_or s 1 []) endless-does.0 ∙ sym (ap (λ (s : List (List ℕ)). get_or s 1 []) ending-does.0)
differ-at-first (suc (suc k)) out l m = absurd (omega (arith, l, ap length endless-does.0))

other-ends : (k : ℕ) → first k ≡ false → k < length (sets endless_run) → k < length (sets ending_run) → Ends (bytes rows) endless_run.line (get_or (sets endless_run) k [])
other-ends zero out l m = absurd (false≢true (sym out))
other-ends (suc zero) out l m =
    subst (λ (s : List (List ℕ)). Ends (bytes rows) line (get_or s 1 [])) (sym endless-does.0)
    (yields-enough (bytes rows) line admissible kinded (bytes_of_set ending_set) ending_set read.1 (Whole (pos 5) ∷ [])
    (subst (λ (x : Exp). EndsWith x ending_set (Whole (pos 5) ∷ [])) (sym formula-is) ends))
other-ends (suc (suc k)) out l m = absurd (omega (arith, l, ap length endless-does.0))

pub other-same : get_or (results endless_run) 1 (result 0 []) ≡ get_or (results ending_run) 1 (result 0 [])
other-same = swapped (bytes rows) endless_run ending_run first differ-at-first other-ends 1 refl (omega (arith, ap length endless-does.1)) (omega (arith, ap length ending-does.1))

-- The second byte of a result, the lowest of its first value: 6 in the one and 7 in the other.
pub own-differs : get_or (results endless_run) 0 (result 0 []) ≢ get_or (results ending_run) 0 (result 0 [])
unfolding shown bytes_of cells_of
own-differs e =
    let z : ◌≡◌ {A = ℕ} 6 7
    = sym (ap (λ (r : List Result). get_or (get_or r 0 (result 0 [])).bytes 1 0) endless-does.1) ∙ ap (λ (r : Result). get_or r.bytes 1 0) e
    ∙ ap (λ (r : List Result). get_or (get_or r 0 (result 0 [])).bytes 1 0) ending-does.1 in
    omega (arith, z)
