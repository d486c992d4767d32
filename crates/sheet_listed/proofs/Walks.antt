-- Laws of specs/Walks.antt, and what only they need.
use Rattle.std.specs.Prelude.{ℕ, zero, suc, ◌≤◌, ◌<◌, ◌≡◌, refl, Bool, true, false, cond, List, [], ◌∷◌, length, get_or}
use Rattle.std.proofs.Common.{sym, ap, subst, ◌∙◌, arith}
use Rattle.std.proofs.Math.Decide.{dec_lt, ℕ_discrete}
use Rattle.formula.specs.FaultRows.{Among}
use Rattle.sheet_listed.specs.Small.{is_small, small_sheets, next, none-behind, same, headed, following, next_of}
use Rattle.sheet_listed.proofs.Listed.{next-of, listed-iff, same_true, same_self}
use Rattle.sheet_listed.specs.Ordered.{Ordered}
use Rattle.sheet_listed.proofs.Ordered.{at-among, among-at}
use Rattle.sheet_listed.specs.Rising.{Precedes}
use Rattle.sheet_listed.proofs.Rising.{not_itself, listed-once}
use Rattle.sheet_listed.proofs.NextLaws.{all-ordered, next-none}
use Rattle.sheet_listed.specs.Walks.{again, called}

-- ---- by positions
-- An entry behind the first is looked for behind it.
following-later : (x : List ℕ) (l : List (List ℕ)) → Ordered Precedes (x ∷ l) → (i : ℕ) → i < length l → following (x ∷ l) (get_or l i []) ≡ following l (get_or l i [])
unfolding following
following-later x l h i u = go (same x (get_or l i [])) refl
  where
    go : (b : Bool) → same x (get_or l i []) ≡ b → cond b (headed l) (following l (get_or l i [])) ≡ following l (get_or l i [])
    go true e = absurd (not_itself x (subst (Precedes x) (sym (same_true x (get_or l i []) e)) (h.0 (get_or l i []) (at-among [] l i u))))
    go false e = refl

following-first : (x : List ℕ) (l : List (List ℕ)) → following (x ∷ l) x ≡ headed l
unfolding following
following-first x l = rw (same_self x) refl

following-at : (l : List (List ℕ)) → Ordered Precedes l → (i : ℕ) → suc i < length l → following l (get_or l i []) ≡ next (get_or l (suc i) [])
following-at [] h i u = absurd (omega arith)
following-at (x ∷ []) h i u = absurd (omega arith)
following-at (x ∷ y ∷ l) h zero u = following-first x (y ∷ l)
following-at (x ∷ y ∷ l) h (suc i) u = following-later x (y ∷ l) h i (omega arith) ∙ following-at (y ∷ l) h.1 i (omega arith)

following-end : (l : List (List ℕ)) → Ordered Precedes l → (i : ℕ) → suc i ≡ length l → following l (get_or l i []) ≡ none-behind
following-end [] h i e = absurd (omega arith)
following-end (x ∷ []) h zero e = following-first x []
following-end (x ∷ []) h (suc i) e = absurd (omega arith)
following-end (x ∷ y ∷ l) h zero e = absurd (omega arith)
following-end (x ∷ y ∷ l) h (suc i) e = following-later x (y ∷ l) h i (omega arith) ∙ following-end (y ∷ l) h.1 i (omega arith)

-- Behind the empty sheet, or behind entry i - 1, stands entry i.
pub nth-next : (i : ℕ) → i < length small_sheets → next_of (get_or ([] ∷ small_sheets) i []) ≡ next (get_or small_sheets i [])
nth-next i u = next-of (get_or ([] ∷ small_sheets) i []) ∙ following-at ([] ∷ small_sheets) all-ordered i (omega arith)

-- Behind the last entry none.
pub last-next : (i : ℕ) → i ≡ length small_sheets → next_of (get_or ([] ∷ small_sheets) i []) ≡ none-behind
last-next i e = next-of (get_or ([] ∷ small_sheets) i []) ∙ following-end ([] ∷ small_sheets) all-ordered i (ap suc e)

-- Call k gives entry k of the list.
pub calls-list : (k : ℕ) → k < length small_sheets → called k ≡ next (get_or small_sheets k [])
unfolding called
calls-list zero u = nth-next 0 u
calls-list (suc k) u = ap again (calls-list k (omega arith)) ∙ nth-next (suc k) u

-- Those behind the last entry give 23.
pub calls-end : (k : ℕ) → length small_sheets ≤ k → called k ≡ none-behind
unfolding called
calls-end zero u = last-next 0 (omega arith)
calls-end (suc k) u = go (ℕ_discrete (suc k) (length small_sheets)) (calls-end k)
  where
    go : Dec (suc k ≡ length small_sheets) → (length small_sheets ≤ k → called k ≡ none-behind) → again (called k) ≡ none-behind
    go (yes e) ih = ap again (calls-list k (omega arith)) ∙ last-next (suc k) e
    go (no e) ih = ap again (ih (omega arith))

called-entry : (k : ℕ) (s : List ℕ) → called k ≡ next s → (k < length small_sheets) × (get_or small_sheets k [] ≡ s)
called-entry k s h = go (dec_lt k (length small_sheets))
  where
    go : Dec (k < length small_sheets) → (k < length small_sheets) × (get_or small_sheets k [] ≡ s)
    go (yes u) = let e : next (get_or small_sheets k []) ≡ next s = sym (calls-list k u) ∙ h in (u, cc e)
    go (no u) = absurd (next-none s (sym h ∙ calls-end k (omega arith)))

-- What a call writes is small.
pub called-small : (k : ℕ) (s : List ℕ) → called k ≡ next s → is_small s ≡ true
called-small k s h =
    let w = called-entry k s h in
    (listed-iff s).0 (subst (λ (x : List ℕ). Among x small_sheets) w.1 (at-among [] small_sheets k w.0))

-- "the calls list each such sheet once": one call writes it, and one alone.
pub each-called-once : (s : List ℕ) → is_small s ≡ true → (k : ℕ) × (called k ≡ next s) × ((j : ℕ) → called j ≡ next s → j ≡ k)
each-called-once s h =
    let w = among-at [] s small_sheets ((listed-iff s).1 h) in
    (w.0, calls-list w.0 w.1 ∙ ap next w.2, λ j c. once w j (called-entry j s c))
  where
    once : (w : (i : ℕ) × (i < length small_sheets) × (get_or small_sheets i [] ≡ s)) (j : ℕ) → (j < length small_sheets) × (get_or small_sheets j [] ≡ s) → j ≡ w.0
    once w j c = listed-once j w.0 c.0 w.1 (c.1 ∙ sym w.2)
