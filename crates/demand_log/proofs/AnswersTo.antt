-- The answer to a line's call where the lines before it are all accepted, and the line at which following stops, told by the answers alone. Assumes lines that are
-- well formed.
use Prim.Native.Nat.{ℕ, zero, suc, ◌+◌, ◌≤◌, ◌<◌}
use Rattle.std.specs.Prelude.{◌≡◌, ◌≢◌, length, get_or, drop, replicate}
use Rattle.std.proofs.Math.Path.{refl, ap}
use Rattle.std.proofs.Common.{sym, ◌∙◌, arith, take-suc, take-take, get_or-take, length-take-le}
use mathlib.Core.List.{List, [], ◌∷◌, ◌++◌}
use Rattle.std.proofs.Math.Decide.{ℕ_discrete, dec_lt}
use Rattle.std.proofs.Math.ListN.{take, get_or-eq_default}
use Rattle.std.proofs.lemmas.List.{length-replicate}
use Rattle.std.proofs.Math.Seq.{split_at}
use Rattle.machine_calls.specs.declared.Answer.{Answer}
use Rattle.machine_calls.specs.Calls.{answers}
use Rattle.machine_log.specs.declared.lines.Line.{Line}
use Rattle.machine_log.specs.declared.lines.Line.TheVariants.{Malformed}
use Rattle.machine_log.specs.Follow.{called, given, Followed, followed}
use Rattle.machine_log.specs.FollowLaws.{followed-next, followed-refused, followed-over}
use Rattle.refusals.proofs.LogLaws.{follow-then, each-accepted, follow-stops}
use Rattle.demand.specs.MemoryCalls.{Call, memory_after, answers_of}
use Rattle.demand_log.specs.LogCalls.{calls_of}
use Rattle.demand_log.specs.Made.{Made}
use Rattle.demand_log.proofs.Made.{Names, line-names}
use Rattle.demand_log.specs.LinesMade.{Listed}

module _ (set : ℕ → List ℕ) (lent number : ℕ) where
  abbrev refusalAt : List Call → List ℕ → ℕ → ℕ
  refusalAt calls m i = (get_or (answers_of calls m) i (answers 0 0)).refusal

  -- What the answer to the call of line i is, the lines before it accepted.
  abbrev Told : List Line → List ℕ → ℕ → List (List ℕ) → ℕ → Type 0
  Told lines m j results i =
      (followed set (take i lines) j m results).line ≡ 0
      → refusalAt (calls_of set lent lines) m i ≡ (called set (get_or lines i Malformed) (followed set (take i lines) j m results).mem).answer.refusal

  module _ (l : Line) (c : Call) (lines : List Line) (calls : List Call) (m : List ℕ) (j : ℕ) (results : List (List ℕ)) (M : Made set l c m) where
    told-first : refusalAt (c ∷ calls) m 0 ≡ (called set l (followed set [] j m results).mem).answer.refusal
    unfolding answers_of
    told-first = M.answered ∙ rw (followed-over set j m results) refl

    told-next : (i : ℕ) → 1 ≤ j
        → ((followed set (take i lines) (suc j) (called set l m).mem (results ++ given l (called set l m))).line ≡ 0
        → refusalAt calls (called set l m).mem i
        ≡ (called set (get_or lines i Malformed) (followed set (take i lines) (suc j) (called set l m).mem (results ++ given l (called set l m))).mem).answer.refusal)
        → (followed set (l ∷ take i lines) j m results).line ≡ 0
        → refusalAt (c ∷ calls) m (suc i) ≡ (called set (get_or lines i Malformed) (followed set (l ∷ take i lines) j m results).mem).answer.refusal
    unfolding answers_of
    told-next i p ih h = go (ℕ_discrete (called set l m).answer.refusal 0)
      where
        go : Dec ((called set l m).answer.refusal ≡ 0)
            → refusalAt (c ∷ calls) m (suc i) ≡ (called set (get_or lines i Malformed) (followed set (l ∷ take i lines) j m results).mem).answer.refusal
        go (yes z) =
            let f = followed-next set l (take i lines) j m results z in
            ap (λ (b : List ℕ). refusalAt calls b i) M.memory ∙ ih (sym (ap (λ (w : Followed). w.line) f) ∙ h) ∙ rw f refl
        go (no n) = absurd (omega (arith, ap (λ (w : Followed). w.line) (followed-refused set l (take i lines) j m results n)))

  answer-told : (lines : List Line) → Listed number lines → (m : List ℕ) → length m ≡ lent → (j : ℕ) → 1 ≤ j → (results : List (List ℕ))
      → (i : ℕ) → i < length lines → Told lines m j results i
  answer-told [] h m e j p results i k = absurd (omega arith)
  answer-told (l ∷ lines) h m e j p results i k =
      go i k (answer-told lines (λ i k. h (suc i) (omega arith)) (called set l m).mem (N.made.kept ∙ e) (suc j) (omega arith) (results ++ given l (called set l m)))
    where
      N : Names set lent m e l
      N = line-names set lent m e number l (h 0 (omega arith))

      go : (i : ℕ) → i < suc (length lines)
          → ((i : ℕ) → i < length lines → Told lines (called set l m).mem (suc j) (results ++ given l (called set l m)) i) → Told (l ∷ lines) m j results i
      go zero k ih = λ z. rw N.named (told-first l N.call lines (calls_of set lent lines) m j results N.made)
      go (suc i) k ih = λ z. rw N.named (told-next l N.call lines (calls_of set lent lines) m j results N.made i p (ih i (omega arith)) z)

  -- ---- as many answers as lines
  answers-count : (calls : List Call) (m : List ℕ) → length (answers_of calls m) ≡ length calls
  unfolding answers_of
  answers-count [] m = refl
  answers-count (c ∷ calls) m = ap suc (answers-count calls (memory_after c m))

  calls_count : (lines : List Line) → Listed number lines → length (calls_of set lent lines) ≡ length lines
  calls_count [] h = refl
  calls_count (l ∷ lines) h =
      let N = line-names set lent (replicate lent 0) (length-replicate {A = ℕ} lent 0) number l (h 0 (omega arith)) in
      ap (λ (cs : List Call). length (cs ++ calls_of set lent lines)) N.named ∙ ap suc (calls_count lines (λ i k. h (suc i) (omega arith)))

  -- ---- the line at which following stops
  followed-first : (lines : List Line) (k j : ℕ) (m : List ℕ) (results : List (List ℕ)) → 1 ≤ j → (followed set lines j m results).line ≡ 0
      → (followed set (take k lines) j m results).line ≡ 0
  followed-first lines zero j m results p h = ap (λ (w : Followed). w.line) (followed-over set j m results)
  followed-first [] (suc k) j m results p h = h
  followed-first (l ∷ lines) (suc k) j m results p h =
      go (ℕ_discrete (called set l m).answer.refusal 0) (followed-first lines k (suc j) (called set l m).mem (results ++ given l (called set l m)) (omega arith))
    where
      go : Dec ((called set l m).answer.refusal ≡ 0)
          → ((followed set lines (suc j) (called set l m).mem (results ++ given l (called set l m))).line ≡ 0
          → (followed set (take k lines) (suc j) (called set l m).mem (results ++ given l (called set l m))).line ≡ 0)
          → (followed set (l ∷ take k lines) j m results).line ≡ 0
      go (yes z) ih =
          ap (λ (w : Followed). w.line) (followed-next set l (take k lines) j m results z)
          ∙ ih (sym (ap (λ (w : Followed). w.line) (followed-next set l lines j m results z)) ∙ h)
      go (no n) ih = absurd (omega (arith, ap (λ (w : Followed). w.line) (followed-refused set l lines j m results n)))

  module _ (lines : List Line) (h : Listed number lines) (m : List ℕ) (e : length m ≡ lent) where
    -- The refusal in the answer to line n's call, counted from 0.
    abbrev answered : ℕ → ℕ
    answered n = refusalAt (calls_of set lent lines) m n

    told : (n : ℕ) → n < length lines → Told lines m 1 [] n
    told n k = answer-told lines h m e 1 (omega arith) [] n k

    -- The lines before one are all accepted where their calls are.
    followed-to : (n : ℕ) → n ≤ length lines → ((i : ℕ) → i < n → answered i ≡ 0) → (followed set (take n lines) 1 m []).line ≡ 0
    followed-to zero k a = ap (λ (w : Followed). w.line) (followed-over set 1 m [])
    followed-to (suc n) k a =
        let b = followed-to n (omega arith) (λ i l. a i (omega arith)) in
        let f = followed set (take n lines) 1 m [] in
        let z : (called set (get_or lines n Malformed) f.mem).answer.refusal ≡ 0 = sym (told n (omega arith) b) ∙ a n (omega arith) in
        ap (λ (ls : List Line). (followed set ls 1 m []).line) (take-suc lines n Malformed (omega arith))
        ∙ ap (λ (w : Followed). w.line)
        (follow-then set (take n lines) (get_or lines n Malformed ∷ []) 1 m [] (omega arith) b
        ∙ followed-next set (get_or lines n Malformed) [] (1 + length (take n lines)) f.mem f.results z
        ∙ followed-over set _ _ _)

    inside : (n : ℕ) → answered n ≢ 0 → n < length lines
    inside n r = go (dec_lt n (length lines))
      where
        go : Dec (n < length lines) → n < length lines
        go (yes l) = l
        go (no l) =
            absurd (r (ap (λ (a : Answer). a.refusal)
            (get_or-eq_default (answers_of (calls_of set lent lines) m) (answers 0 0) {n = n} (omega (arith, answers-count (calls_of set lent lines) m, calls_count lines h)))))

    -- Following stops at a line exactly where its call is the first that is refused.
    pub stops_at : (n : ℕ) → ((i : ℕ) → i < n → answered i ≡ 0) → answered n ≢ 0 → (followed set lines 1 m []).line ≡ suc n
    stops_at n a r =
        let l = inside n r in
        let b = followed-to n (omega arith) a in
        let f = followed set (take n lines) 1 m [] in
        let w = length-take-le n lines (omega arith) in
        let z : 1 + length (take n lines) ≡ suc n = omega arith in
        ap (λ (ls : List Line). (followed set ls 1 m []).line) (split_at lines n Malformed l)
        ∙ ap (λ (w : Followed). w.line)
        (follow-then set (take n lines) (get_or lines n Malformed ∷ drop (suc n) lines) 1 m [] (omega arith) b
        ∙ followed-refused set (get_or lines n Malformed) (drop (suc n) lines) (1 + length (take n lines)) f.mem f.results (λ q. r (told n l b ∙ q)))
        ∙ z

    pub record FirstRefused (n : ℕ) : Type 0 where
      pub before : (i : ℕ) → i < n → answered i ≡ 0
      pub refused : answered n ≢ 0

    pub stopped-at : (n : ℕ) → (followed set lines 1 m []).line ≡ suc n → FirstRefused n
    stopped-at n s =
        let S = follow-stops set lines 1 m [] (λ z. omega arith) in
        let i : S.at ≡ n = omega (arith, S.line) in
        let b : (followed set (take n lines) 1 m []).line ≡ 0 = (rw i at (ap (λ (w : Followed). w.line) S.before)) in
        record {
          before = λ i l.
              let y = length-take-le n lines (omega (arith, S.within)) in
              let g = followed-first (take n lines) i 1 m [] (omega arith) b in
              let t = take-take i n lines (omega arith) in
              told i (omega (arith, S.within)) (rw t at g)
              ∙ (rw (get_or-take n lines i Malformed l, t) at (each-accepted set (take n lines) 1 m [] (omega arith) b i (omega arith)));
          refused = λ q.
              S.refused (rw i (ap (λ (w : Followed). (called set (get_or lines n Malformed) w.mem).answer.refusal) (sym S.before) ∙ (rw i (sym (told n (omega (arith, S.within)) b)) ∙ q)));
        }
