-- A part of a graph as the code has written it: for every environment that gives the 33 names the links of the array that the code was handed, the
-- graph is laid out. Here are the forms that need no gates of their own: side by side, a let, an operator, a constant. Assumes nothing.
use Rattle.std.specs.Prelude.{ℕ, ◌+◌, ◌*◌, ◌≤◌, ◌<◌, ◌≡◌, refl, cond, List, [], ◌∷◌, ◌++◌, length, get_or, take, eqb}
use Rattle.std.proofs.Common.{sym, ap, ap₂, ◌∙◌, subst, arith}
use Rattle.machine_layout.specs.Record.{placed}
use Rattle.names.specs.Names.{Names, common, without, mask}
use Rattle.graph.specs.Assembly.{Graph, wire, beside, bind, gate, Gate, Env, free, member_of, total, links_of, gate_outputs, gate_of, up_from, first_use, second_use, named, copies_for}
use Rattle.graph.specs.Yields.{output_count}
use Rattle.theory_yields.specs.Naming.{Small}
use Rattle.theory_yields.proofs.Naming.{different-up_from, up_from-holds, length-up_from}
use Rattle.maker_laid.specs.Encode.{encode, encoded, written}
use Rattle.maker_laid.specs.Emitted.{link_in, dealt, assigned}
use Rattle.maker_laid.specs.Masked.{list_of, list-is}
use Rattle.maker_laid.specs.Environments.{Agrees, named-agrees, listed_small}
use Rattle.maker_laid.specs.Laid.{Laid, Copied, laid-wire, laid-gate, laid_beside, laid-bind, listed-length}
use Rattle.maker_laid.specs.Sharing.{copied-mask, firsts-agree, seconds-agree, arrayCopies}
use Rattle.maker_laid.specs.Counts.{operator_count, laid-count}

pub record Done (G : Graph) (n m : ℕ) (e mem mem' outs : List ℕ) (count links operators : ℕ) : Type 0 where
  pub laid : (env : Env) → Agrees env e → Laid G n m env mem mem' (take count outs) links operators
  pub counted : count ≡ output_count G

agrees-self : (e : List ℕ) → Agrees (link_in e) e
agrees-self e x h = refl

module _ (G : Graph) (n m : ℕ) (e mem mem' outs : List ℕ) (count links operators : ℕ) (d : Done G n m e mem mem' outs count links operators) where
  pub done-links : links ≡ n + links_of G
  done-links = (d.laid (link_in e) (agrees-self e)).links

  pub done-operators : operators ≡ m + operator_count G
  done-operators = laid-count G n m (link_in e) mem mem' (take count outs) links operators (d.laid (link_in e) (agrees-self e))

pub done-as : (G H : Graph) (n m : ℕ) (e mem mem' outs : List ℕ) (count links operators : ℕ) → H ≡ G → Done G n m e mem mem' outs count links operators
    → Done H n m e mem mem' outs count links operators
done-as G H n m e mem mem' outs count links operators p d = subst (λ (K : Graph). Done K n m e mem mem' outs count links operators) (sym p) d

-- ---- copies for the names of a mask

pub record Forked (k n m : ℕ) (e mem mem₁ first second : List ℕ) (n₁ m₁ : ℕ) : Type 0 where
  pub first-is : first ≡ dealt 2 (list_of k) n e
  pub second_is : second ≡ dealt 2 (list_of k) (n + 1) e
  pub memory : mem₁ ≡ written mem m (encoded (copies_for (list_of k) (link_in e) (link_in first) (link_in second)))
  pub links : n₁ ≡ n + 2 * length (list_of k)
  pub operators : m₁ ≡ m + length (list_of k)

-- the number of a mask's names is that of the names shared
pub fork-room : (f g : Names) (k : ℕ) → Small (common f g) → k ≡ mask (common f g) → length (list_of k) ≡ total (common f g)
fork-room f g k s e = ap (length {A = ℕ}) (list-is k (common f g) e ∙ sym (listed_small (common f g) s)) ∙ listed-length (common f g)

module _ (f g : Names) (k n m : ℕ) (e mem mem₁ first second : List ℕ) (n₁ m₁ : ℕ) (len : length e ≡ 33) (is : k ≡ mask (common f g))
    (F : Forked k n m e mem mem₁ first second n₁ m₁) (env : Env) (a : Agrees env e)
  where
    pub fork-first : Agrees (first_use f g n env) first
    fork-first x h = firsts-agree f g n env e len a k is x h ∙ ap (λ (l : List ℕ). get_or l x 0) (sym F.first-is)

    pub fork-second : Agrees (second_use f g n env) second
    fork-second x h = seconds-agree f g n env e len a k is x h ∙ ap (λ (l : List ℕ). get_or l x 0) (sym F.second_is)

    pub fork-copies : mem₁ ≡ written mem m (encoded (arrayCopies f g n env e len a k is))
    fork-copies =
        F.memory ∙ ap₂ (λ (x y : List ℕ). written mem m (encoded (copies_for (list_of k) (link_in e) (link_in x) (link_in y)))) F.first-is F.second_is

    pub fork-copied : Small (common f g) → Copied f g n m env mem mem₁ n₁ m₁
    fork-copied s =
        subst (λ (x : ℕ). Copied f g n m env mem mem₁ x m₁) (sym F.links)
        (subst (λ (x : ℕ). Copied f g n m env mem mem₁ (n + 2 * length (list_of k)) x) (sym F.operators) (copied-mask f g n env e len a k is s m mem mem₁ fork-copies))

-- ---- side by side

pub done-beside : (a b : Graph) (k n m : ℕ) (e mem mem₁ mem₂ mem₃ first second o₁ o₂ outs : List ℕ) (n₁ m₁ n₂ m₂ n₃ m₃ c₁ c₂ count : ℕ) → length e ≡ 33
    → Small (common (free a) (free b)) → k ≡ mask (common (free a) (free b)) → Forked k n m e mem mem₁ first second n₁ m₁
    → Done a n₁ m₁ first mem₁ mem₂ o₁ c₁ n₂ m₂ → Done b n₂ m₂ second mem₂ mem₃ o₂ c₂ n₃ m₃
    → count ≡ c₁ + c₂ → take count outs ≡ take c₁ o₁ ++ take c₂ o₂ → Done (beside a b) n m e mem mem₃ outs count n₃ m₃
unfolding output_count
done-beside a b k n m e mem mem₁ mem₂ mem₃ first second o₁ o₂ outs n₁ m₁ n₂ m₂ n₃ m₃ c₁ c₂ count len s is F da db ec eo =
    record {
      laid =
          λ env ag.
          subst (λ (o : List ℕ). Laid (beside a b) n m env mem mem₃ o n₃ m₃) (sym eo)
          (laid_beside a b n m env mem mem₁ mem₂ mem₃ (take c₁ o₁) (take c₂ o₂) n₁ m₁ n₂ m₂ n₃ m₃
          (fork-copied (free a) (free b) k n m e mem mem₁ first second n₁ m₁ len is F env ag s)
          (da.laid (first_use (free a) (free b) n env) (fork-first (free a) (free b) k n m e mem mem₁ first second n₁ m₁ len is F env ag))
          (db.laid (second_use (free a) (free b) n env) (fork-second (free a) (free b) k n m e mem mem₁ first second n₁ m₁ len is F env ag)));
      counted = ec ∙ ap₂ (λ (x y : ℕ). x + y) da.counted db.counted;
    }

-- ---- a let

pub named-take : (xs ls : List ℕ) (env : Env) (k : ℕ) → named xs (take (length xs) ls) env k ≡ named xs ls env k
unfolding named
named-take [] ls env k = refl
named-take (x ∷ xs) [] env k = refl
named-take (x ∷ xs) (l ∷ ls) env k = ap (cond (eqb x k) l) (named-take xs ls env k)

pub up-agrees : (a b c : ℕ) (ls : List ℕ) (env : Env) (e : List ℕ) → length e ≡ 33 → a + b ≤ 32 → c ≡ b → Agrees env e
    → Agrees (named (up_from a b) (take c ls) env) (assigned (up_from a b) ls e)
up-agrees a b c ls env e len h q ag x k =
    ap (λ (z : ℕ). named (up_from a b) (take z ls) env x) (q ∙ sym (length-up_from a b)) ∙ named-take (up_from a b) ls env x
    ∙ named-agrees (up_from a b) ls env e len (different-up_from a b (omega arith)) (λ y m. let z : (a ≤ y) × (y < a + b) = up_from-holds a b y m in omega arith) ag x k

pub done-let : (x y : ℕ) (a b : Graph) (k n m : ℕ) (e mem mem₁ mem₂ mem₃ first second inner o₁ o₂ : List ℕ) (n₁ m₁ n₂ m₂ n₃ m₃ c₁ c₂ : ℕ) → length e ≡ 33 → length second ≡ 33
    → x + y ≤ 32 → Small (common (free a) (without (free b) (member_of (up_from x y)))) → k ≡ mask (common (free a) (without (free b) (member_of (up_from x y))))
    → Forked k n m e mem mem₁ first second n₁ m₁ → Done a n₁ m₁ first mem₁ mem₂ o₁ c₁ n₂ m₂ → c₁ ≡ y → inner ≡ assigned (up_from x y) o₁ second
    → Done b n₂ m₂ inner mem₂ mem₃ o₂ c₂ n₃ m₃ → Done (bind (up_from x y) a b) n m e mem mem₃ o₂ c₂ n₃ m₃
unfolding output_count
done-let x y a b k n m e mem mem₁ mem₂ mem₃ first second inner o₁ o₂ n₁ m₁ n₂ m₂ n₃ m₃ c₁ c₂ len len₂ h s is F da q ei db =
    record {
      laid =
          λ env ag.
          let f = free a in
          let g = without (free b) (member_of (up_from x y)) in
          let f₂ : Agrees (second_use f g n env) second = fork-second f g k n m e mem mem₁ first second n₁ m₁ len is F env ag in
          laid-bind (up_from x y) a b n m env mem mem₁ mem₂ mem₃ (take c₁ o₁) (take c₂ o₂) n₁ m₁ n₂ m₂ n₃ m₃
          (fork-copied f g k n m e mem mem₁ first second n₁ m₁ len is F env ag s)
          (da.laid (first_use f g n env) (fork-first f g k n m e mem mem₁ first second n₁ m₁ len is F env ag))
          (db.laid (named (up_from x y) (take c₁ o₁) (second_use f g n env))
          (λ z l. up-agrees x y c₁ o₁ (second_use f g n env) second len₂ h q f₂ z l ∙ ap (λ (r : List ℕ). get_or r z 0) (sym ei)));
      counted = db.counted;
    }

-- ---- a gate behind a part

pub done-gate : (g : Gate) (a : Graph) (n m : ℕ) (e mem mem₁ mem₂ o₁ outs : List ℕ) (n₁ m₁ c₁ count n₂ m₂ : ℕ) → Done a n m e mem mem₁ o₁ c₁ n₁ m₁
    → mem₂ ≡ placed mem₁ m₁ (encode (gate_of g (take c₁ o₁) n₁)) → gate_outputs g ≡ 1 → count ≡ 1 → get_or outs 0 0 ≡ n₁ → 1 ≤ length outs → n₂ ≡ n₁ + 1 → m₂ ≡ m₁ + 1
    → Done (gate g a) n m e mem mem₂ outs count n₂ m₂
unfolding output_count up_from
done-gate g a n m e mem mem₁ mem₂ o₁ outs n₁ m₁ c₁ count n₂ m₂ da h one_out ec eo l en em =
    record {
      laid =
          λ env ag.
          let r : take count outs ≡ n₁ ∷ [] = ap (λ (z : ℕ). take z outs) ec ∙ first_of outs l ∙ ap (λ (z : ℕ). z ∷ []) eo in
          let p = laid-gate g a n m env mem mem₁ mem₂ (take c₁ o₁) n₁ m₁ (da.laid env ag) h in
          let q : Laid (gate g a) n m env mem mem₂ (n₁ ∷ []) (n₁ + 1) (m₁ + 1) = subst (λ (z : ℕ). Laid (gate g a) n m env mem mem₂ (up_from n₁ z) (n₁ + z) (m₁ + 1)) one_out p in
          rw (r, en, em) q;
      counted = ec ∙ sym one_out;
    }
  where
    first_of : (ls : List ℕ) → 1 ≤ length ls → take 1 ls ≡ get_or ls 0 0 ∷ []
    first_of [] k = absurd (omega arith)
    first_of (y ∷ ys) k = refl

pub done-wire : (x n m : ℕ) (e mem outs : List ℕ) → x < 33 → get_or outs 0 0 ≡ get_or e x 0 → 1 ≤ length outs → Done (wire x) n m e mem mem outs 1 n m
unfolding output_count
done-wire x n m e mem outs h eo l =
    record {
      laid = λ env ag. subst (λ (o : List ℕ). Laid (wire x) n m env mem mem o n m) (ap (λ (z : ℕ). z ∷ []) (ag x h ∙ sym eo) ∙ sym (first_of outs l)) (laid-wire n m env mem x);
      counted = refl;
    }
  where
    first_of : (ls : List ℕ) → 1 ≤ length ls → take 1 ls ≡ get_or ls 0 0 ∷ []
    first_of [] k = absurd (omega arith)
    first_of (y ∷ ys) k = refl
