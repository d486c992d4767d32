-- What a tray's sets are, in the words of document 02, Job 1, with a set's length written out: "sets lying behind each other, each as long as the inputs ask" and
-- "bytes past the last are left aside" (`lying-behind`), "A set not wholly lent gets 12" (`not-wholly-lent`, `part-refused`, `part-behind`). Assumes nothing.
use Rattle.std.specs.Prelude.{ℕ, suc, ◌+◌, ◌-◌, ◌*◌, ◌≤◌, ◌<◌, ◌≡◌, refl, ◌≢◌, eqb, ltb, length, drop}
use Rattle.std.proofs.Common.{sym, ap, ◌∙◌, arith, ne_eqb, take_at, drop_at, take_all, get_or-set_other}
use mathlib.Core.List.{List, [], ◌∷◌, ◌++◌, flatten, foldl, foldl-append, append-nil, append_assoc}
use Rattle.std.proofs.Math.Decide.{ℕ_discrete}
use Rattle.value.specs.Bytes.{word_of}
use Rattle.value_sets.specs.Sets.{set_ok}
use Rattle.value_sets.proofs.Sets.{set-short}
use Rattle.formula.specs.declared.Refusal.TheVariants.{Set}
use Rattle.formula.specs.Refusals.{number_of}
use Rattle.machine_layout.specs.Layout.{links_at, need, inputs_of, untaken_of, trigger_of, untaken_at, input_count_at, stored_kinds}
use Rattle.machine_firing.specs.LinkLaws.{low-appended}
use Rattle.network.specs.Values.{true-value}
use Rattle.machine_calls.specs.Calls.{Outcome, outcome, answers, refusal, size_in, standing, rooms_ok, entered, triggered_from, triggered, pushed_memory, pushed}
use Rattle.machine_calls.specs.CallLaws.{standing-good, kinds-length, entered-keeps, pushed-refused, pushed-no-set}
use Rattle.machine_tray.specs.Tray.{trayed, cut}
use Rattle.machine_tray.specs.OneByOne.{counted, next, after-refusal, one_by_one, either, Pushes}

-- Sets of k bytes each.
abbrev pub EachLong : ℕ → List (List ℕ) → Type 0
EachLong k [] = Unit {0}
EachLong k (s ∷ ss) = (length s ≡ k) × EachLong k ss

-- ---- sets lying behind each other

cut-first : (n k : ℕ) (set behind : List ℕ) → length set ≡ k → cut (suc n) k (set ++ behind) ≡ set ∷ cut n k behind
unfolding cut
cut-first n k set behind e = rw (take_at set behind k e, drop_at set behind k e) refl

cut-behind : (n k : ℕ) (sets : List (List ℕ)) (rest : List ℕ) → EachLong k sets → cut (length sets + n) k (flatten sets ++ rest) ≡ sets ++ cut n k rest
unfolding flatten
cut-behind n k [] rest h = let z : 0 + n ≡ n = omega arith in rw z refl
cut-behind n k (s ∷ ss) rest h =
    let z : suc (length ss) + n ≡ suc (length ss + n) = omega arith in
    rw (z, append_assoc s (flatten ss) rest) (cut-first (length ss + n) k s (flatten ss ++ rest) h.0 ∙ ap (λ (x : List (List ℕ)). s ∷ x) (cut-behind n k ss rest h.1))

cut-none : (k : ℕ) (s : List ℕ) → cut 0 k s ≡ []
unfolding cut
cut-none k s = refl

-- The tray of all of them is the push of each in turn, whatever lies behind the last.
pub lying-behind : (m : List ℕ) (sets : List (List ℕ)) (rest : List ℕ) → 1 ≤ length sets → EachLong (5 * inputs_of m) sets
    → trayed m (flatten sets ++ rest) (length sets) ≡ foldl next (outcome (answers 0 0) m) sets
lying-behind m sets rest l h =
    let z : length sets + 0 ≡ length sets = omega arith in
    let c = cut-behind 0 (5 * inputs_of m) sets rest h ∙ ap (λ (x : List (List ℕ)). sets ++ x) (cut-none (5 * inputs_of m) rest) ∙ append-nil sets in
    one_by_one m (flatten sets ++ rest) (length sets) l ∙ ap (foldl next (outcome (answers 0 0) m)) (rw z at c)

-- ---- a set not wholly lent

-- 12, after 11 and 31 as in every push.
pub part-refused : (m part : List ℕ) → standing m ≡ 0 → length part < 5 * inputs_of m → pushed m part ≡ outcome (refusal Set) m
part-refused m part st l = pushed-no-set m st part (set-short (stored_kinds m) part (λ e. absurd (omega (arith, e, l, kinds-length m st))))

part-not-in : (m part : List ℕ) → length part < 5 * inputs_of m → (pushed m part).answer.refusal ≢ 0
part-not-in m part l = go (ℕ_discrete (standing m) 0)
  where
    go : Dec (standing m ≡ 0) → (pushed m part).answer.refusal ≢ 0
    go (yes st) e = let r = ap (λ (o : Outcome). o.answer.refusal) (part-refused m part st l) in absurd (omega (arith, r, e))
    go (no n) e = n (sym (ap (λ (o : Outcome). o.answer.refusal) (pushed-refused m part n)) ∙ e)

-- A push keeps the number of inputs.
entered-inputs : (m set : List ℕ) → standing m ≡ 0 → inputs_of (pushed_memory m set) ≡ inputs_of m
unfolding pushed_memory triggered_from
entered-inputs m set st =
    let K = entered-keeps m links_at (size_in m) (omega arith) (standing-good m st).0 set (inputs_of m) in
    let z : need (size_in m) ≤ length (entered (inputs_of m) m (size_in m) set) = omega (arith, K.size, (standing-good m st).0) in
    get_or-set_other (triggered m set) untaken_at input_count_at (untaken_of m + 1) 0 (λ (e : 5 ≡ 7). absurd (omega arith))
    ∙ low-appended (entered (inputs_of m) m (size_in m) set) links_at (size_in m) z (trigger_of m) (word_of true-value) input_count_at (omega arith)
    ∙ K.low input_count_at (omega arith)

abbrev SameInputs : List ℕ → Outcome → Type 0
SameInputs m o = inputs_of o.mem ≡ inputs_of m

inputs-kept : (m set : List ℕ) → SameInputs m (pushed m set)
unfolding pushed
inputs-kept m set = go (ℕ_discrete (standing m) 0)
  where
    go : Dec (standing m ≡ 0) → SameInputs m (pushed m set)
    go (yes st) =
        either (SameInputs m) (eqb (standing m) 0) _ _
        (either (SameInputs m) (set_ok (stored_kinds m) set) _ _
        (either (SameInputs m) (ltb (untaken_of m) 16) _ _
        (either (SameInputs m) (rooms_ok m (size_in m) (inputs_of m)) _ _
        (entered-inputs m set st)
        refl)
        refl)
        refl)
        refl
    go (no n) = ap (λ (o : Outcome). inputs_of o.mem) (pushed-refused m set n)

next-inputs : (o : Outcome) (set : List ℕ) → SameInputs o.mem (next o set)
next-inputs o set = either (SameInputs o.mem) (eqb o.answer.refusal 0) _ _ (inputs-kept o.mem set) refl

-- Nothing behind such a set is looked at.
stops_at : (o : Outcome) (sets : List (List ℕ)) (part : List ℕ) (more : List (List ℕ)) → length part < 5 * inputs_of o.mem
    → foldl next o (sets ++ (part ∷ more)) ≡ foldl next o (sets ++ (part ∷ []))
stops_at o [] part more l = after-refusal (next o part) more (go (ℕ_discrete o.answer.refusal 0))
  where
    go : Dec (o.answer.refusal ≡ 0) → (next o part).answer.refusal ≢ 0
    go (yes e) = rw e (part-not-in o.mem part l)
    go (no n) = rw (ne_eqb o.answer.refusal 0 n) n
stops_at o (s ∷ ss) part more l = stops_at (next o s) ss part more (rw (next-inputs o s) l)

-- The tray of some sets and more is the push of each and of the part behind them.
pub not-wholly-lent : (m : List ℕ) (sets : List (List ℕ)) (part : List ℕ) (number : ℕ) → EachLong (5 * inputs_of m) sets → length part < 5 * inputs_of m → length sets < number
    → trayed m (flatten sets ++ part) number ≡ foldl next (outcome (answers 0 0) m) (sets ++ (part ∷ []))
unfolding cut
not-wholly-lent m sets part number h l n =
    let k = 5 * inputs_of m in
    let j = number - (length sets + 1) in
    let z : length sets + suc j ≡ number = omega arith in
    let c : cut (suc j) k part ≡ part ∷ cut j k (drop k part) = rw (take_all k part (omega arith)) refl in
    let d : cut number k (flatten sets ++ part) ≡ sets ++ (part ∷ cut j k (drop k part)) =
    ap (λ (x : ℕ). cut x k (flatten sets ++ part)) (sym z) ∙ cut-behind (suc j) k sets part h ∙ ap (λ (x : List (List ℕ)). sets ++ x) c in
    one_by_one m (flatten sets ++ part) number (omega arith) ∙ ap (foldl next (outcome (answers 0 0) m)) d ∙ stops_at (outcome (answers 0 0) m) sets part (cut j k (drop k part)) l

all-pushed : (sets : List (List ℕ)) (m m' : List ℕ) (c : ℕ) → Pushes sets m m'
    → (foldl next (outcome (answers 0 c) m) sets ≡ outcome (answers 0 (c + length sets)) m') × (inputs_of m' ≡ inputs_of m)
all-pushed [] m m' c e = let z : c + 0 ≡ c = omega arith in (rw (z, e) refl, ap inputs_of e)
all-pushed (s ∷ ss) m m' c p =
    let z : suc c + length ss ≡ c + suc (length ss) = omega arith in
    let o = pushed m s in
    let i : counted c o ≡ outcome (answers 0 (suc c)) o.mem = rw p.0 refl in
    let I = all-pushed ss o.mem m' (suc c) p.1 in
    (ap (λ (x : Outcome). foldl next x ss) i ∙ I.0 ∙ ap (λ (x : ℕ). outcome (answers 0 x) m') z, I.1 ∙ inputs-kept m s)

-- Where the sets before it go in and leave a machine in good standing, the answer is 12 with their number, and the memory is theirs.
pub part-behind : (m m' : List ℕ) (sets : List (List ℕ)) (part : List ℕ) (number : ℕ) → EachLong (5 * inputs_of m) sets → length part < 5 * inputs_of m → length sets < number
    → Pushes sets m m' → standing m' ≡ 0 → trayed m (flatten sets ++ part) number ≡ outcome (answers (number_of Set) (length sets)) m'
part-behind m m' sets part number h l n p st =
    let I = all-pushed sets m m' 0 p in
    let z : 0 + length sets ≡ length sets = omega arith in
    let r = part-refused m' part st (rw I.1 l) in
    not-wholly-lent m sets part number h l n ∙ foldl-append next (outcome (answers 0 0) m) sets (part ∷ [])
    ∙ ap (λ (o : Outcome). next o part) I.0 ∙ ap (counted (0 + length sets)) r ∙ ap (λ (x : ℕ). outcome (answers (number_of Set) x) m') z
