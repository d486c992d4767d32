-- Words stored one after the other from the start of lent bytes, as take writes its result set (Calls.antt: `written`): their bytes, and behind them the bytes as
-- they were. Assumes that they have room.
use Rattle.std.specs.Prelude.{ℕ, zero, suc, ◌+◌, ◌-◌, ◌*◌, ◌≤◌, ◌≡◌, refl, List, [], ◌++◌, length, drop}
use Rattle.std.proofs.Common.{sym, ap, ap₂, ◌∙◌, append_assoc, arith, length-append, length-drop, take_at, drop-drop}
use Rattle.std.proofs.Math.Seq.{drop-append-add}
use Rattle.value.specs.Bytes.{word_bytes, stored}
use Rattle.value.proofs.Words.{stored-parts}
use Rattle.machine_calls.specs.Calls.{result_word_from, written_from}

-- The bytes of the first j words.
abbrev pub words_out : ℕ → (ℕ → ℕ) → List ℕ
words_out zero f = []
words_out (suc j) f = words_out j f ++ word_bytes (f j)

length-word-bytes : (w : ℕ) → length (word_bytes w) ≡ 5
unfolding word_bytes
length-word-bytes w = refl

pub length-out : (j : ℕ) (f : ℕ → ℕ) → length (words_out j f) ≡ 5 * j
length-out zero f = refl
length-out (suc j) f = length-append (words_out j f) (word_bytes (f j)) ∙ ap₂ (λ (a b : ℕ). a + b) (length-out j f) (length-word-bytes (f j)) ∙ omega arith

-- A word stored behind some bytes.
stored-behind : (a o : List ℕ) (n w : ℕ) → length a ≡ n → n + 5 ≤ length o → stored (a ++ drop n o) n w ≡ (a ++ word_bytes w) ++ drop (n + 5) o
stored-behind a o n w e h =
    let d : length (a ++ drop n o) ≡ n + (length o - n) = length-append a (drop n o) ∙ ap₂ (λ (x y : ℕ). x + y) e (length-drop n o) in
    stored-parts (a ++ drop n o) n w (omega (arith, d))
    ∙ ap₂ (λ (x y : List ℕ). x ++ (word_bytes w ++ y)) (take_at a (drop n o) n e)
    (ap (λ (k : ℕ). drop (k + 5) (a ++ drop n o)) (sym e) ∙ drop-append-add a (drop n o) 5 ∙ drop-drop 5 n o)
    ∙ sym (append_assoc a (word_bytes w) (drop (n + 5) o))

-- The first j words stored one after the other, as take and evaluation do it.
abbrev pub stored_out : ℕ → (ℕ → ℕ) → List ℕ → List ℕ
stored_out zero f o = o
stored_out (suc j) f o = stored (stored_out j f o) (5 * j) (f j)

pub stored-out : (f : ℕ → ℕ) (o : List ℕ) (j : ℕ) → 5 * j ≤ length o → stored_out j f o ≡ words_out j f ++ drop (5 * j) o
stored-out f o zero h = refl
stored-out f o (suc j) h =
    let z : 5 * j + 5 ≡ 5 * suc j = omega arith in
    ap (λ (x : List ℕ). stored x (5 * j) (f j)) (stored-out f o j (omega arith))
    ∙ stored-behind (words_out j f) o (5 * j) (f j) (length-out j f) (omega arith)
    ∙ ap (λ (n : ℕ). (words_out j f ++ word_bytes (f j)) ++ drop n o) z

written-stored : (m : List ℕ) (base size k : ℕ) (o : List ℕ) (j : ℕ) → written_from j m base size k o ≡ stored_out j (result_word_from m base size k) o
unfolding written_from
written-stored m base size k o zero = refl
written-stored m base size k o (suc j) = ap (λ (x : List ℕ). stored x (5 * j) (result_word_from m base size k j)) (written-stored m base size k o j)

-- Take's values as bytes, whatever lay there.
pub written_out : (m : List ℕ) (base size k j : ℕ) (o : List ℕ) → 5 * j ≤ length o → written_from j m base size k o ≡ words_out j (result_word_from m base size k) ++ drop (5 * j) o
written_out m base size k j o h = written-stored m base size k o j ∙ stored-out (result_word_from m base size k) o j h
