-- Laws of specs/LinesMade.antt, and what only they need.
use Rattle.std.specs.Prelude.{ℕ, suc, ◌≤◌, ◌≡◌, refl, length}
use Rattle.std.proofs.Math.Path.{sym, ap, ap₂, subst}
use Rattle.std.proofs.Common.{◌∙◌, arith}
use mathlib.Core.List.{List, [], ◌∷◌, ◌++◌, append-nil, append_assoc, map-append}
use Rattle.std.proofs.Math.Decide.{ℕ_discrete}
use Rattle.network.specs.Net.{Links}
use Rattle.formula.specs.Tree.{Exp}
use Rattle.graph.specs.Translation.{made_of}
use Rattle.machine_layout.specs.Layout.{results_of}
use Rattle.theory_verdicts.specs.Running.{after_steps, steps_from}
use Rattle.demand_view.specs.Stands.{Stands}
use Rattle.machine_log.specs.declared.lines.Line.{Line}
use Rattle.machine_log.specs.Follow.{called, given, Followed, followed}
use Rattle.machine_log.specs.FollowLaws.{followed-next, followed-refused, followed-over}
use Rattle.demand.specs.MemoryCalls.{Call, Result, memory_after, memory_after_all, answers_of, result_of, sets_pushed, results_taken}
use Rattle.demand.specs.Agree.{CallsAgree}
use Rattle.demand.proofs.FollowAll.{call-follows}
use Rattle.demand_log.specs.LogCalls.{calls_of, sets_of_lines, AllAccepted, AllWide, bytes_of}
use Rattle.demand_log.specs.Made.{Made}
use Rattle.demand_log.proofs.Made.{line-names}
use Rattle.demand_log.specs.LinesMade.{Listed}

wide_both : (w : ℕ) (a b : List Result) → AllWide w a → AllWide w b → AllWide w (a ++ b)
wide_both w [] b h k = k
wide_both w (r ∷ a) b h k = (h.0, wide_both w a b h.1 k)

-- Where following came to the end of the lines: from a machine and some results to others.
pub record ToTheEnd (set : ℕ → List ℕ) (w : ℕ) (lines : List Line) (calls : List Call) (m : List ℕ) (results : List (List ℕ)) (m' : List ℕ) (results' : List (List ℕ)) : Type 0 where
  pub memory : m' ≡ memory_after_all calls m
  pub handed : results' ≡ results ++ bytes_of (results_taken calls m)
  pub pushes : sets_pushed calls m ≡ sets_of_lines set lines
  pub wide : AllWide w (results_taken calls m)

pub record Same (set : ℕ → List ℕ) (w : ℕ) (lines : List Line) (calls : List Call) (m : List ℕ) (results : List (List ℕ)) (f : Followed) : Type 0 where
  pub accepted : f.line ≡ 0 → AllAccepted (answers_of calls m)
  pub follows : AllAccepted (answers_of calls m) → f.line ≡ 0
  pub ends : f.line ≡ 0 → ToTheEnd set w lines calls m results f.mem f.results

module _ (set : ℕ → List ℕ) (w : ℕ) where
  same_none : (m : List ℕ) (j : ℕ) (results : List (List ℕ)) → Same set w [] [] m results (followed set [] j m results)
  unfolding answers_of memory_after_all sets_pushed results_taken
  same_none m j results =
      rw (followed-over set j m results)
      (record {
        accepted = λ e. tt;
        follows = λ a. refl;
        ends = λ e. record { memory = refl; handed = sym (append-nil results); pushes = refl; wide = tt };
      })

  -- One line more in front.
  module _ (l : Line) (c : Call) (lines : List Line) (calls : List Call) (m : List ℕ) (j : ℕ) (results : List (List ℕ)) (M : Made set l c m) (width : results_of m ≡ w) where
    abbrev m' : List ℕ
    m' = (called set l m).mem

    abbrev results' : List (List ℕ)
    results' = results ++ given l (called set l m)

    abbrev f' : Followed
    f' = followed set lines (suc j) m' results'

    module _ (I : Same set w lines calls m' results' f') (z : (called set l m).answer.refusal ≡ 0) where
      to_the_end : f'.line ≡ 0 → ToTheEnd set w (l ∷ lines) (c ∷ calls) m results f'.mem f'.results
      unfolding memory_after_all sets_pushed results_taken
      to_the_end e =
          let E = I.ends e in
          let n : List Result = results_taken calls (memory_after c m) in
          let s : results_taken calls m' ≡ n = ap (results_taken calls) (sym M.memory) in
          record {
            memory = E.memory ∙ ap (memory_after_all calls) (sym M.memory);
            handed =
                E.handed
                ∙ append_assoc results (given l (called set l m)) (bytes_of (results_taken calls m'))
                ∙ ap (λ (r : List (List ℕ)). results ++ r)
                (ap₂ (λ (a : List (List ℕ)) (b : List Result). a ++ bytes_of b) (sym (M.hands z)) s ∙ sym (map-append (λ (r : Result). r.bytes) (result_of c m) n));
            pushes = ap₂ (λ (a b : List (List ℕ)). a ++ b) (M.pushes z) (ap (sets_pushed calls) M.memory ∙ E.pushes);
            wide =
                wide_both w (result_of c m) n (subst (λ (v : ℕ). AllWide v (result_of c m)) width M.wide)
                (subst (AllWide w) s E.wide);
          }

      same-accepted : Same set w (l ∷ lines) (c ∷ calls) m results f'
      unfolding answers_of
      same-accepted =
          record {
            accepted = λ e. (M.answered ∙ z, subst (λ (b : List ℕ). AllAccepted (answers_of calls b)) (sym M.memory) (I.accepted e));
            follows = λ a. I.follows (subst (λ (b : List ℕ). AllAccepted (answers_of calls b)) M.memory a.1);
            ends = to_the_end;
          }

    same_line : 1 ≤ j → Same set w lines calls m' results' f' → Same set w (l ∷ lines) (c ∷ calls) m results (followed set (l ∷ lines) j m results)
    unfolding answers_of
    same_line p I = go (ℕ_discrete (called set l m).answer.refusal 0)
      where
        go : Dec ((called set l m).answer.refusal ≡ 0) → Same set w (l ∷ lines) (c ∷ calls) m results (followed set (l ∷ lines) j m results)
        go (yes z) = rw (followed-next set l lines j m results z) (same-accepted I z)
        go (no n) =
            rw (followed-refused set l lines j m results n)
            (record {
              accepted = λ e. absurd (omega arith);
              follows = λ a. absurd (n (sym M.answered ∙ a.0));
              ends = λ e. absurd (omega arith);
            })

module _ (x : Exp) (kinds : List ℕ) (capacity : ℕ) (low : 1 ≤ capacity) (high : capacity ≤ 16) (A : CallsAgree x kinds capacity) (set : ℕ → List ℕ) (lent number : ℕ) where
  abbrev w : ℕ
  w = length (made_of x).results

  module _ (m : List ℕ) (q : Links) (H : Stands (made_of x) kinds capacity m q) (l : Line) (c : Call) (M : Made set l c m) where
    abbrev next : Links
    next = let F = (call-follows x kinds capacity low high A m q H c).0 in after_steps x (steps_from x capacity F.calls q) q

    next-stands : Stands (made_of x) kinds capacity (called set l m).mem next
    next-stands = subst (λ (b : List ℕ). Stands (made_of x) kinds capacity b next) M.memory (call-follows x kinds capacity low high A m q H c).0.stands

  pub lines-made : (lines : List Line) → Listed number lines → (m : List ℕ) → length m ≡ lent → (q : Links) → Stands (made_of x) kinds capacity m q
      → (j : ℕ) → 1 ≤ j → (results : List (List ℕ)) → Same set w lines (calls_of set lent lines) m results (followed set lines j m results)
  lines-made [] h m e q H j p results = same_none set w m j results
  lines-made (l ∷ lines) h m e q H j p results =
      let N = line-names set lent m e number l (h 0 (omega arith)) in
      let M = N.made in
      subst (λ (cs : List Call). Same set w (l ∷ lines) (cs ++ calls_of set lent lines) m results (followed set (l ∷ lines) j m results)) (sym N.named)
      (same_line set w l N.call lines (calls_of set lent lines) m j results M H.results-are p
      (lines-made lines (λ i k. h (suc i) (omega arith)) _ (M.kept ∙ e) (next m q H l N.call M) (next-stands m q H l N.call M) (suc j) (omega arith) _))
