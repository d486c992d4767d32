-- "Starting from an empty memory the calls list each such sheet once" (document 02, Job 14), of the calls' own bytes: each call is given the sheet that the
-- one before wrote, and lent any memory that is long enough. Assumes nothing else.
use Prim.Native.Nat.{ℕ, zero, suc, ◌+◌, ◌*◌, ◌≤◌, ◌<◌}
use Rattle.std.specs.Prelude.{◌≡◌, Bool, true, List, [], ◌∷◌, length, get_or, take, drop, ltb}
use Rattle.std.proofs.Math.Path.{refl, ap}
use Rattle.std.proofs.Common.{sym, subst, ◌∙◌, take_at, le-ltb, arith}
use Rattle.std.proofs.lemmas.List.Edits.{sets, sets-eq}
use Rattle.value.specs.Operators.{pick}
use Rattle.formula.specs.declared.Refusal.TheVariants.{Memory}
use Rattle.formula.specs.Refusals.{number_of}
use Rattle.sheet_listed.specs.Small.{is_small, small_sheets, Behind, next, none-behind, next_of}
use Rattle.sheet_listed.proofs.Texts.{small-has}
use Rattle.sheet_listed.proofs.Listed.{listed-iff}
use Rattle.sheet_listed.proofs.Ordered.{at-among, among-at}
use Rattle.sheet_listed.proofs.Rising.{listed-once}
use Rattle.sheet_listed.proofs.Walks.{nth-next, last-next}
use Rattle.sheet_next.specs.Next.{Handed, handed, answers, by_behind, next_into}

-- The sheet that a call wrote: as many rows of its memory as it tells.
abbrev pub sheet_in : Handed → List ℕ
sheet_in h = take (31 * h.answer.rows) h.out

-- The sheet given to call k, counted from 0, where call j is lent `memory j`.
unfoldable pub given_to : (ℕ → List ℕ) → ℕ → List ℕ
given_to memory zero = []
given_to memory (suc k) = sheet_in (next_into (given_to memory k) (memory k))

abbrev pub call_of : (ℕ → List ℕ) → ℕ → Handed
call_of memory k = next_into (given_to memory k) (memory k)

-- With room enough the call answers by what stands behind the given sheet.
by-behind : (s out : List ℕ) → 155 ≤ length out → (b : Behind) → next_of s ≡ b → next_into s out ≡ by_behind b out
unfolding next_into
by-behind s out room b e =
    ap (λ (c : Bool). pick c (handed (answers (number_of Memory) 0 0) out) (by_behind (next_of s) out)) (le-ltb (length out) 155 room)
    ∙ ap (λ (x : Behind). by_behind x out) e

-- A call that has a next sheet is accepted and writes it.
pub next-written : (s out u : List ℕ) → 155 ≤ length out → next_of s ≡ next u → is_small u ≡ true
    → ((next_into s out).answer.refusal ≡ 0) × (sheet_in (next_into s out) ≡ u)
unfolding by_behind
next-written s out u room e small =
    subst (λ (h : Handed). (h.answer.refusal ≡ 0) × (sheet_in h ≡ u)) (sym (by-behind s out room (next u) e)) written
  where
    written : ((by_behind (next u) out).answer.refusal ≡ 0) × (sheet_in (by_behind (next u) out) ≡ u)
    written =
        let h = small-has u small in (
          refl,
          ap (λ (n : ℕ). take n (sets out 0 u)) (sym h.rowwise.bytes)
              ∙ ap (take (length u)) (sets-eq u out 0 (omega (arith, room, h.rowwise.bytes, h.few)))
              ∙ take_at u (drop (0 + length u) out) (length u) refl,
        )

small_at : (k : ℕ) → k < length small_sheets → is_small (get_or small_sheets k []) ≡ true
small_at k l = (listed-iff (get_or small_sheets k [])).0 (at-among [] small_sheets k l)

module _ (memory : ℕ → List ℕ) (room : (k : ℕ) → 155 ≤ length (memory k)) where
  -- Call k is given the empty sheet or entry k - 1 of the list.
  given-listed : (k : ℕ) → k ≤ length small_sheets → given_to memory k ≡ get_or ([] ∷ small_sheets) k []
  unfolding given_to
  given-listed zero l = refl
  given-listed (suc k) l =
      (next-written (given_to memory k) (memory k) (get_or small_sheets k []) (room k)
      (ap next_of (given-listed k (omega arith)) ∙ nth-next k (omega arith)) (small_at k (omega arith))).1

  -- It is accepted, and writes entry k.
  pub calls-write : (k : ℕ) → k < length small_sheets → ((call_of memory k).answer.refusal ≡ 0) × (sheet_in (call_of memory k) ≡ get_or small_sheets k [])
  calls-write k l =
      next-written (given_to memory k) (memory k) (get_or small_sheets k []) (room k)
      (ap next_of (given-listed k (omega arith)) ∙ nth-next k l) (small_at k l)

  -- The one behind the last entry is given 23.
  pub calls-stop : (k : ℕ) → k ≡ length small_sheets → (call_of memory k).answer.refusal ≡ 23
  unfolding by_behind
  calls-stop k e =
      ap (λ (h : Handed). h.answer.refusal)
      (by-behind (given_to memory k) (memory k) (room k) none-behind (ap next_of (given-listed k (omega (arith, e))) ∙ last-next k e))

  -- Up to that 23 each small sheet is written by one call and by no other.
  pub each-written-once : (s : List ℕ) → is_small s ≡ true
      → (k : ℕ) × (k < length small_sheets) × (sheet_in (call_of memory k) ≡ s)
      × ((j : ℕ) → j < length small_sheets → sheet_in (call_of memory j) ≡ s → j ≡ k)
  each-written-once s h =
      let w = among-at [] s small_sheets ((listed-iff s).1 h) in (
        w.0,
        w.1,
        (calls-write w.0 w.1).1 ∙ w.2,
        λ j l e. listed-once j w.0 l w.1 (sym (calls-write j l).1 ∙ e ∙ sym w.2),
      )
