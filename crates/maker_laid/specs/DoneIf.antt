-- An if as the code has written it: the test, the copies for the arms and of the test's output, both arms, and what joins them. One law serves
-- expressions and bodies (theory_yields/specs/Choice). Document 01, "The graph". Assumes of the arms what an admitted formula gives.
use Rattle.std.specs.Prelude.{ℕ, zero, suc, ◌+◌, ◌-◌, ◌*◌, ◌≤◌, ◌<◌, ◌≡◌, Bool, true, false, cond, ◌&&◌, ◌||◌, eqb, ltb}
use Rattle.std.proofs.Math.Path.{refl, ap, ap₂}
use Rattle.std.proofs.Common.{sym, ◌∙◌, subst, get_or-take, length-take-le, eq-eqb, ne_eqb, ltb-true, ltb-false, arith}
use Rattle.std.proofs.lemmas.Bool.{false≢true}
use mathlib.Core.List.{List, [], ◌∷◌, map}
use Rattle.std.proofs.Math.ListN.{length, get_or, take}
use Rattle.machine_layout.specs.Layout.{no_link}
use Rattle.machine_layout.specs.Record.{placed}
use Rattle.names.specs.Names.{Names, one, common, without, mask, members}
use Rattle.theory_yields.specs.Naming.{Small, Apart}
use Rattle.theory_yields.proofs.Naming.{or_left, or_right, member-members, different-members}
use Rattle.theory_yields.specs.Choice.{choice, Has}
use Rattle.graph.specs.Fit.{Different}
use Rattle.graph.specs.Yields.{output_count}
use Rattle.graph.specs.Assembly.{Graph, Gate, T, F, Env, free, member_of, first_use, second_use, named}
use Rattle.graph.specs.Translation.{test_name, row, gated, arm}
use Rattle.maker_laid.specs.Encode.{written}
use Rattle.maker_laid.specs.Emitted.{link_in, copy_record, assigned, row_records, row_outputs}
use Rattle.maker_laid.specs.Masked.{list_of, list-is}
use Rattle.maker_laid.specs.Environments.{Agrees, named-agrees, named-above, named_other}
use Rattle.maker_laid.specs.Laid.{Laid, Copied}
use Rattle.maker_laid.specs.Sharing.{lone-test, copied-one, first_one, second-one, first-other, second-other, copied-tested, tested-first, tested-second}
use Rattle.maker_laid.specs.Rows.{Separate, laid-row}
use Rattle.maker_laid.specs.GateRows.{Two, two-controlled, separate-names, holds-map, holds-none}
use Rattle.maker_laid.specs.Choices.{Parts, armsPart, lastPart, arms-share, join-shares, laid-arm, laid-choice}
use Rattle.maker_laid.specs.Done.{Done, Forked, named-take, fork-first, fork-second, fork-copied, fork-copies}

-- ---- names that have the links of an array

abbrev pub NamesHave : Env → List ℕ → List ℕ → Type 0
NamesHave env ns ls = (i : ℕ) → i < length ns → env (get_or ns i 0) ≡ get_or ls i 0

member-at : (ns : List ℕ) (i : ℕ) → i < length ns → member_of ns (get_or ns i 0) ≡ true
unfolding member_of
member-at [] i h = absurd (omega arith)
member-at (x ∷ ns) zero h = or_left (eqb x x) (member_of ns x) (eq-eqb x x refl)
member-at (x ∷ ns) (suc i) h = or_right (eqb x (get_or ns i 0)) (member_of ns (get_or ns i 0)) (member-at ns i (omega arith))

have-named : (ns ls : List ℕ) (env : Env) → Different ns → length ns ≤ length ls → NamesHave (named ns ls env) ns ls
unfolding named
have-named [] ls env d h i l = absurd (omega arith)
have-named (x ∷ ns) [] env d h i l = absurd (omega arith)
have-named (x ∷ ns) (y ∷ ls) env d h zero l = ap (λ (b : Bool). cond b y (named ns ls env x)) (eq-eqb x x refl)
have-named (x ∷ ns) (y ∷ ls) env d h (suc i) l =
    ap (λ (b : Bool). cond b y (named ns ls env (get_or ns i 0)))
    (ne_eqb x (get_or ns i 0) (λ (e : x ≡ get_or ns i 0). false≢true (sym d.1 ∙ ap (member_of ns) e ∙ member-at ns i (omega arith))))
    ∙ have-named ns ls env d.2 (omega arith) i (omega arith)

have-taken : (ns ls : List ℕ) (env : Env) (c : ℕ) → Different ns → c ≡ length ns → c ≤ length ls → NamesHave (named ns (take c ls) env) ns ls
have-taken ns ls env c d e h i l =
    have-named ns (take c ls) env d (let z : length (take c ls) ≡ c = length-take-le c ls h in omega arith) i l
    ∙ get_or-take c ls i 0 (omega arith)

-- ---- an arm behind its gates

pub record ArmDone (G : Gate) (f : Names) (a : Graph) (control n m : ℕ) (e mem mem' outs : List ℕ) (count links operators : ℕ) : Type 0 where
  pub laid : (env : Env) → Agrees env e → env test_name ≡ control → Laid (arm G f a) n m env mem mem' (take count outs) links operators
  pub counted : count ≡ output_count a

module _ (G : Gate) (kind : ℕ) (two : Two G kind) (f : Names) (a : Graph) (s : Small f) (h : Has a f) where
  map_same : (env : Env) (e : List ℕ) → Agrees env e → (xs : List ℕ) → ((x : ℕ) → member_of xs x ≡ true → x < 33) → map (link_in e) xs ≡ map env xs
  unfolding member_of
  map_same env e ag [] q = refl
  map_same env e ag (x ∷ xs) q =
      ap₂ (λ (y : ℕ) (ys : List ℕ). y ∷ ys) (sym (ag x (q x (or_left (eqb x x) (member_of xs x) (eq-eqb x x refl)))))
      (map_same env e ag xs (λ y i. q y (or_right (eqb x y) (member_of xs y) i)))

  inside : (x : ℕ) → member_of (members f) x ≡ true → x < 33
  inside x i = go (ltb x 33) refl
    where
      go : (b : Bool) → ltb x 33 ≡ b → x < 33
      go true e = ltb-true x 33 e
      go false e = absurd (false≢true (sym (s x (ltb-false x 33 e)) ∙ sym (member-members f s x) ∙ i))

  test-outside : member_of (members f) test_name ≡ false
  test-outside = member-members f s test_name ∙ s test_name (omega arith)

  pub done-arm : (k control n m : ℕ) (e mem mem₁ mem₂ ds none inner o₁ o₂ : List ℕ) (n₁ m₁ n₂ m₂ count : ℕ) → length e ≡ 33 → k ≡ mask f
      → take (length (list_of k)) ds ≡ map (link_in e) (list_of k) → ((i : ℕ) → i < 33 → get_or none i 0 ≡ no_link) → length (list_of k) ≤ 33
      → mem₁ ≡ written mem m (row_records kind control n ds none 0 (length (list_of k))) → take (length (list_of k)) o₁ ≡ row_outputs n (length (list_of k))
      → n₁ ≡ n + (3 * length (list_of k) - 2) → m₁ ≡ m + (2 * length (list_of k) - 1) → inner ≡ assigned (list_of k) o₁ e
      → Done a n₁ m₁ inner mem₁ mem₂ o₂ count n₂ m₂ → ArmDone G f a control n m e mem mem₂ o₂ count n₂ m₂
  done-arm k control n m e mem mem₁ mem₂ ds none inner o₁ o₂ n₁ m₁ n₂ m₂ count len is hd hn short hm ho en em ei d =
      record {
        laid = λ env ag ec. lay env ag ec;
        counted = d.counted;
      }
    where
      list : list_of k ≡ members f
      list = list-is k f is

      lay : (env : Env) → Agrees env e → env test_name ≡ control → Laid (arm G f a) n m env mem mem₂ (take count o₂) n₂ m₂
      lay env ag ec =
          laid-arm G f a s h n m env mem mem₁ mem₂ (row_outputs n (length (list_of k))) (take count o₂) n₁ m₁ n₂ m₂ gates
          (d.laid (named (members f) (row_outputs n (length (list_of k))) env) links-of)
        where
          gates : Laid (row (gated G) (members f)) n m env mem mem₁ (row_outputs n (length (list_of k))) n₁ m₁
          gates =
              rw (hm, en, em, sym ec)
              (subst (λ (xs : List ℕ). Laid (row (gated G) xs) n m env mem (written mem m (row_records kind (env test_name) n ds none 0 (length (list_of k)))) (row_outputs n (length (list_of k))) (n + (3 * length (list_of k) - 2)) (m + (2 * length (list_of k) - 1)))
              list
              (laid-row (gated G) test_name kind lone-test (λ ε x. ε x) (λ ε x. no_link) one (two-controlled test_name (λ x. x) G kind two) ds none (list_of k)
              (subst (Separate test_name one) (sym list) (separate-names test_name (members f) (different-members f) test-outside)) 0 n m env mem
              (holds-map (λ ε x. ε x) env ds 0 (list_of k) (hd ∙ map_same env e ag (list_of k) (λ x i. inside x (ap (λ (xs : List ℕ). member_of xs x) (sym list) ∙ i))))
              (holds-none env none 0 (list_of k) hn (omega arith))))

          links-of : Agrees (named (members f) (row_outputs n (length (list_of k))) env) inner
          links-of x l =
              ap (λ (xs : List ℕ). named (members f) xs env x) (sym ho ∙ ap (λ (z : ℕ). take z o₁) (ap (length {A = ℕ}) list))
              ∙ named-take (members f) o₁ env x
              ∙ named-agrees (members f) o₁ env e len (different-members f) inside ag x l
              ∙ ap (λ (xs : List ℕ). get_or (assigned xs o₁ e) x 0) (sym list) ∙ ap (λ (r : List ℕ). get_or r x 0) (sym ei)

-- ---- the whole

module _ (t : Graph) (ns : List ℕ) (f : Names) (a : Graph) (ms : List ℕ) (g : Names) (b j : Graph) (P : Parts ns f a ms g b j)
    (dn : Different ns) (dm : Different ms) (apart : Apart ns ms)
  where
    abbrev X : Names
    X = without (free (armsPart ns f a ms g b j)) (member_of (test_name ∷ []))

    abbrev F₂ : Names
    F₂ = free (arm T f a)

    abbrev G₂ : Names
    G₂ = without (free (lastPart ns f a ms g b j)) (member_of ns)

    abbrev F₃ : Names
    F₃ = free (arm F g b)

    abbrev G₃ : Names
    G₃ = without (free j) (member_of ms)

    pub done-choice : (k₁ k₂ n m : ℕ) (e mem mem₁ mem₂ mem₃ mem₄ mem₅ mem₆ mem₇ mem₈ first₁ second₁ first₂ second₂ o₀ o₁ o₂ o₃ : List ℕ)
        (n₁ m₁ n₂ m₂ n₃ m₃ n₄ m₄ n₆ m₆ n₇ m₇ c₁ c₂ c₃ : ℕ)
        → length e ≡ 33 → length second₁ ≡ 33 → Small (common (free t) X) → k₁ ≡ mask (common (free t) X) → k₂ ≡ mask (common F₂ G₂)
        → Forked k₁ n m e mem mem₁ first₁ second₁ n₁ m₁ → Done t n₁ m₁ first₁ mem₁ mem₂ o₀ 1 n₂ m₂ → 1 ≤ length o₀
        → Forked k₂ n₂ m₂ second₁ mem₂ mem₃ first₂ second₂ n₃ m₃
        → mem₄ ≡ placed mem₃ m₃ (copy_record (get_or o₀ 0 0) n₃ (n₃ + 1))
        → ArmDone T f a n₃ (n₃ + 2) (m₃ + 1) first₂ mem₄ mem₅ o₁ c₁ n₄ m₄ → c₁ ≡ length ns → c₁ ≤ length o₁
        → mem₆ ≡ placed mem₅ m₄ (copy_record (n₃ + 1) n₄ (n₄ + 1))
        → ArmDone F g b n₄ (n₄ + 2) (m₄ + 1) second₂ mem₆ mem₇ o₂ c₂ n₆ m₆ → c₂ ≡ length ms → c₂ ≤ length o₂
        → ((ε : Env) → ε test_name ≡ n₄ + 1 → NamesHave ε ns o₁ → NamesHave ε ms o₂ → Laid j n₆ m₆ ε mem₇ mem₈ (take c₃ o₃) n₇ m₇)
        → c₃ ≡ output_count j → Done (choice t ns f a ms g b j) n m e mem mem₈ o₃ c₃ n₇ m₇
    unfolding named output_count member_of
    done-choice k₁ k₂ n m e mem mem₁ mem₂ mem₃ mem₄ mem₅ mem₆ mem₇ mem₈ first₁ second₁ first₂ second₂ o₀ o₁ o₂ o₃ n₁ m₁ n₂ m₂ n₃ m₃ n₄ m₄ n₆ m₆ n₇ m₇ c₁ c₂ c₃ len len₁ s₁ is₁ is₂ fork₁ dt l₀ fork₂ h₄ ax q₁ l₁ h₆ ay q₂ l₂ J ec =
        record { laid = λ env ag. lay env ag; counted = ec }
      where
        lay : (env : Env) → Agrees env e → Laid (choice t ns f a ms g b j) n m env mem mem₈ (take c₃ o₃) n₇ m₇
        lay env ag =
            laid-choice ns f a ms g b j t n m env mem mem₁ mem₂ mem₄ mem₅ mem₆ mem₇ mem₈ (take 1 o₀) (take c₁ o₁) (take c₂ o₂) (take c₃ o₃) n₁ m₁ n₂ m₂
            (n₃ + 2) (m₃ + 1) n₄ m₄ (n₄ + 2) (m₄ + 1) n₆ m₆ n₇ m₇ E₁ E₂ E₃ refl refl refl
            (fork-copied (free t) X k₁ n m e mem mem₁ first₁ second₁ n₁ m₁ len is₁ fork₁ env ag s₁)
            (dt.laid (first_use (free t) X n env) (fork-first (free t) X k₁ n m e mem mem₁ first₁ second₁ n₁ m₁ len is₁ fork₁ env ag))
            copied₂ (ax.laid U₁ (fork-first F₂ G₂ k₂ n₂ m₂ second₁ mem₂ mem₃ first₂ second₂ n₃ m₃ len₁ is₂ fork₂ E₁ agree₁) control₁)
            (copied-one F₃ G₃ test_name lone-test meet₃ n₄ E₂ m₄ mem₅ mem₆ (h₆ ∙ ap (λ (z : ℕ). placed mem₅ m₄ (copy_record z n₄ (n₄ + 1))) (sym test₂)))
            (ay.laid U₂ agree₃ (first_one F₃ G₃ test_name lone-test meet₃ n₄ E₂))
            (J E₃ test₃ have₁ have₂)
          where
            first_of : (ls : List ℕ) → 1 ≤ length ls → take 1 ls ≡ get_or ls 0 0 ∷ []
            first_of [] k = absurd (omega arith)
            first_of (y ∷ ys) k = refl

            S₁ : Env
            S₁ = second_use (free t) X n env

            E₁ : Env
            E₁ = named (test_name ∷ []) (take 1 o₀) S₁

            only-test : (x : ℕ) → x < 33 → member_of (test_name ∷ []) x ≡ false
            only-test x l = ap (λ (z : Bool). z || false) (ne_eqb test_name x (λ (z : test_name ≡ x). omega arith))

            agree₁ : Agrees E₁ second₁
            agree₁ = named-above (test_name ∷ []) (take 1 o₀) S₁ second₁ only-test (fork-second (free t) X k₁ n m e mem mem₁ first₁ second₁ n₁ m₁ len is₁ fork₁ env ag)

            test₁ : E₁ test_name ≡ get_or o₀ 0 0
            test₁ = ap (λ (ls : List ℕ). named (test_name ∷ []) ls S₁ test_name) (first_of o₀ l₀)

            meet₂ : (x : ℕ) → F₂ x && G₂ x ≡ common f g x || eqb test_name x
            meet₂ = arms-share ns f a ms g b j P

            small₂ : Small (common f g)
            small₂ x l = ap (λ (z : Bool). z && g x) (P.small-f x l)

            U₁ : Env
            U₁ = first_use F₂ G₂ n₂ E₁

            control₁ : U₁ test_name ≡ n₃
            control₁ = tested-first F₂ G₂ n₂ E₁ second₁ len₁ agree₁ k₂ is₂ (common f g) small₂ meet₂ ∙ sym fork₂.links

            copied₂ : Copied F₂ G₂ n₂ m₂ E₁ mem₂ mem₄ (n₃ + 2) (m₃ + 1)
            copied₂ =
                subst (λ (z : ℕ). Copied F₂ G₂ n₂ m₂ E₁ mem₂ mem₄ (z + 2) (m₃ + 1)) (sym fork₂.links)
                (subst (λ (z : ℕ). Copied F₂ G₂ n₂ m₂ E₁ mem₂ mem₄ (n₂ + 2 * length (list_of k₂) + 2) (z + 1)) (sym fork₂.operators)
                (copied-tested F₂ G₂ n₂ E₁ second₁ len₁ agree₁ k₂ is₂ (common f g) small₂ meet₂ m₂ mem₂ mem₃ mem₄
                (fork-copies F₂ G₂ k₂ n₂ m₂ second₁ mem₂ mem₃ first₂ second₂ n₃ m₃ len₁ is₂ fork₂ E₁ agree₁)
                (h₄ ∙ (λ i. placed mem₃ (fork₂.operators i) (copy_record (sym test₁ i) (fork₂.links i) (fork₂.links i + 1))))))

            S₂ : Env
            S₂ = second_use F₂ G₂ n₂ E₁

            E₂ : Env
            E₂ = named ns (take c₁ o₁) S₂

            agree₂ : Agrees E₂ second₂
            agree₂ =
                named-above ns (take c₁ o₁) S₂ second₂ (λ x l. P.from-ns x (omega arith))
                (fork-second F₂ G₂ k₂ n₂ m₂ second₁ mem₂ mem₃ first₂ second₂ n₃ m₃ len₁ is₂ fork₂ E₁ agree₁)

            test₂ : E₂ test_name ≡ n₃ + 1
            test₂ =
                named_other ns (take c₁ o₁) S₂ test_name (P.from-ns test_name (omega arith))
                ∙ tested-second F₂ G₂ n₂ E₁ second₁ len₁ agree₁ k₂ is₂ (common f g) small₂ meet₂ ∙ ap (λ (z : ℕ). z + 1) (sym fork₂.links)

            meet₃ : (x : ℕ) → F₃ x && G₃ x ≡ eqb test_name x
            meet₃ = join-shares ns f a ms g b j P

            U₂ : Env
            U₂ = first_use F₃ G₃ n₄ E₂

            agree₃ : Agrees U₂ second₂
            agree₃ x l = first-other F₃ G₃ test_name lone-test meet₃ n₄ E₂ x (λ (z : test_name ≡ x). omega arith) ∙ agree₂ x l

            S₃ : Env
            S₃ = second_use F₃ G₃ n₄ E₂

            E₃ : Env
            E₃ = named ms (take c₂ o₂) S₃

            test₃ : E₃ test_name ≡ n₄ + 1
            test₃ = named_other ms (take c₂ o₂) S₃ test_name (P.from-ms test_name (omega arith)) ∙ second-one F₃ G₃ test_name lone-test meet₃ n₄ E₂

            have₁ : NamesHave E₃ ns o₁
            have₁ i l =
                let x = get_or ns i 0 in
                named_other ms (take c₂ o₂) S₃ x (apart x (member-at ns i l))
                ∙ second-other F₃ G₃ test_name lone-test meet₃ n₄ E₂ x (λ (z : test_name ≡ x). false≢true (sym (P.from-ns test_name (omega arith)) ∙ ap (member_of ns) z ∙ member-at ns i l))
                ∙ have-taken ns o₁ S₂ c₁ dn q₁ l₁ i l

            have₂ : NamesHave E₃ ms o₂
            have₂ i l = have-taken ms o₂ S₃ c₂ dm q₂ l₂ i l
