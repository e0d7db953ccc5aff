-- CHECK's promise, from what reading and judging leave.
use Prim.Native.Nat.{ℕ, ◌-◌, ◌≤◌, ◌<◌}
use mathlib.Core.Path.{◌≡◌, refl, sym, ap, ◌∙◌, subst}
use mathlib.Core.Bool.{Bool, true, false, cond}
use mathlib.Core.List.{List, [], ◌∷◌}
use Rattle.std.specs.Prelude.{Ok, Err, Result as Outcome}
use native.Mathlib.Omega.{arith}
use lib.Dec.{eqb, leb, ltb}
use lib.ListN.{length, take, replicate}
use borrow.Author.Tests.{leb-true}
use Rattle.language.specs.Syntax.{Block}
use Rattle.language.specs.Answers.{Refusal, TYPE, DOUBLE, Answer, fine, refuse, refused}
use Rattle.language.specs.Table.{table}
use Rattle.language.specs.Reading.{Reading}
use Rattle.language.specs.Promises.{Verdict, unread, verdict_answer, Lent, tree_table, large_enough, zeroed, holding, tree_after, Check, judged}
use Rattle.limits.specs.Cleared as limits
use Rattle.limits.proofs.Cleared.{zeroed_is}
use Rattle.nodes.specs.Trees.{ReadAs}
use Rattle.nodes.proofs.Program.{nodes_of_block, table_length}
use Rattle.reading.specs.declared.ReadError.{ReadError}
use Rattle.reading.specs.Outcomes.{refusal_of, place_of}
use Rattle.reading.specs.Promise.{working, Left, left, Read, too_long, too_small, answered}
use Rattle.judge.specs.Scopes.{pick, place_at}
use Rattle.judge.proofs.Right.{result_of, zeros_verdict}
use Rattle.judge.specs.Judge.{verdict_of}
use Rattle.judging.specs.Flaws.{judgement}
use Rattle.judging.specs.declared.Flaw.TheVariants as flaw
use Rattle.verdict.specs.declared.Refusal.{Refusal as Reason}
use Rattle.verdict.specs.Answers.{Verdict as Says, refusal_meant, meant, lent, checked}
use Rattle.verdict.specs.Judging.{refused_node, verdict_at, tree_left, Judging}
use Rattle.verdict.proofs.TreeWords.{wiped, few_words, words_read}

-- ---- the tables' lengths

never : false ≡ true → ⊥
never h = let z : ◌≡◌ {A = ℕ} 0 1 = cc in omega arith

all_hold : (a b c d e : Bool) → cond a (cond b (cond c (cond d (cond e true false) false) false) false) false ≡ true →
    (a ≡ true) × (b ≡ true) × (c ≡ true) × (d ≡ true) × (e ≡ true)
all_hold true true true true true h = (refl, refl, refl, refl, refl)
all_hold true true true true false h = absurd (never h)
all_hold true true true false e h = absurd (never h)
all_hold true true false d e h = absurd (never h)
all_hold true false c d e h = absurd (never h)
all_hold false b c d e h = absurd (never h)

pub record Roomy (tree words stack scopes notes : List ℕ) : Type 0 where
  pub for_tree : 4096 ≤ length tree
  pub for_scopes : 4096 ≤ length scopes
  pub for_notes : 4096 ≤ length notes
  pub for_reading : large_enough (tree_table tree ∷ working words stack) ≡ true

pub roomy : (t w s c n : List ℕ) → large_enough (tree_table t ∷ lent w s c n) ≡ true → Roomy t w s c n
roomy t w s c n h =
    let a = all_hold (leb 4096 (length t)) (leb 4096 (length w)) (leb 4097 (length s)) (leb 4096 (length c)) (leb 4096 (length n)) h in
    record {
      for_tree = leb-true _ _ a.0;
      for_scopes = leb-true _ _ a.3;
      for_notes = leb-true _ _ a.4;
      for_reading = rw (a.0, a.1, a.2);
    }

-- ---- what reading left

abbrev first : List (List ℕ) → List ℕ
first [] = []
first (l ∷ ls) = l

abbrev second : List (List ℕ) → List ℕ
second [] = []
second (l ∷ ls) = first ls

module _ (x t₀ w₀ s₀ : List ℕ) (short : length x ≤ 16384) where
  -- the text reads as the tree b
  pub record TreeRead (n : ℕ) (t₁ w₁ s₁ : List ℕ) : Type 0 where
    pub tree : Block
    pub reads : Reading x (fine tree)
    pub count : n ≡ length (table tree)
    pub words_are : t₁ ≡ holding 4096 (table tree) t₀
    pub words_zero : w₁ ≡ zeroed 4096 w₀
    pub stack_zero : s₁ ≡ zeroed 4097 s₀

  tree_of : {l : Left} {n : ℕ} {t₁ w₁ s₁ : List ℕ} → Read x t₀ (working w₀ s₀) l → l ≡ left (Ok n) t₁ w₁ s₁ → TreeRead n t₁ w₁ s₁
  tree_of (too_long h) e = let o = ap (λ (l : Left). l.outcome) e in absurd cc
  tree_of (too_small h g) e = let o = ap (λ (l : Left). l.outcome) e in absurd cc
  tree_of (answered {v = refuse r p} h g q) e = let o = ap (λ (l : Left). l.outcome) e in absurd cc
  tree_of {n = n} (answered {v = fine b} h g q) e =
      let o : fine (length (table b)) ≡ fine n = ap (λ (l : Left). l.outcome) e in
      record {
        tree = b;
        reads = q;
        count = cc;
        words_are = sym (ap (λ (l : Left). l.tree) e);
        words_zero = sym (ap (λ (l : Left). first l.works) e);
        stack_zero = sym (ap (λ (l : Left). second l.works) e);
      }

  pub tree_read : {o : Outcome ℕ ReadError} {n : ℕ} {t₁ w₁ s₁ : List ℕ} → Read x t₀ (working w₀ s₀) (left o t₁ w₁ s₁) → o ≡ Ok n → TreeRead n t₁ w₁ s₁
  tree_read {t₁ = t₁} {w₁} {s₁} h e = tree_of h (ap (λ (o : Outcome ℕ ReadError). left o t₁ w₁ s₁) e)

  -- it does not read
  pub record NoneRead (e : ReadError) (t₁ w₁ s₁ : List ℕ) : Type 0 where
    pub reads : Reading x (refuse (refusal_of e) (place_of e))
    pub words_are : t₁ ≡ zeroed 4096 t₀
    pub words_zero : w₁ ≡ zeroed 4096 w₀
    pub stack_zero : s₁ ≡ zeroed 4097 s₀

  none_of : {l : Left} {e : ReadError} {t₁ w₁ s₁ : List ℕ} → large_enough (tree_table t₀ ∷ working w₀ s₀) ≡ true →
      Read x t₀ (working w₀ s₀) l → l ≡ left (Err e) t₁ w₁ s₁ → NoneRead e t₁ w₁ s₁
  none_of room (too_long h) e = absurd (past h short)
    where
      past : {n : ℕ} → 16384 < n → n ≤ 16384 → ⊥
      past h g = omega arith
  none_of room (too_small h g) e = absurd (never (sym g ∙ room))
  none_of room (answered {v = fine b} h g q) e = let o = ap (λ (l : Left). l.outcome) e in absurd cc
  none_of {e = why} room (answered {v = refuse r p} h g q) e =
      let o : refuse r p ≡ refuse (refusal_of why) (place_of why) = ap (λ (l : Left). l.outcome) e in
      let r-is : r ≡ refusal_of why = cc in
      let p-is : p ≡ place_of why = cc in
      record {
        reads = subst (λ (i : Refusal). Reading x (refuse i (place_of why))) r-is (subst (λ (j : ℕ). Reading x (refuse r j)) p-is q);
        words_are = sym (ap (λ (l : Left). l.tree) e);
        words_zero = sym (ap (λ (l : Left). first l.works) e);
        stack_zero = sym (ap (λ (l : Left). second l.works) e);
      }

  pub none_read : {o : Outcome ℕ ReadError} {e : ReadError} {t₁ w₁ s₁ : List ℕ} → large_enough (tree_table t₀ ∷ working w₀ s₀) ≡ true →
      Read x t₀ (working w₀ s₀) (left o t₁ w₁ s₁) → o ≡ Err e → NoneRead e t₁ w₁ s₁
  none_read {t₁ = t₁} {w₁} {s₁} room h e = none_of room h (ap (λ (o : Outcome ℕ ReadError). left o t₁ w₁ s₁) e)

-- ---- the promise

-- what is allowed, and what is there
as_left : {x t : List ℕ} {ws : List Lent} (a a' : Answer) (t₁ t₂ : List ℕ) (w₁ w₂ : List (List ℕ)) → a ≡ a' → t₁ ≡ t₂ → w₁ ≡ w₂ →
    Check x t ws (record { answer = a; tree = t₁; works = w₁ }) → Check x t ws (record { answer = a'; tree = t₂; works = w₂ })
as_left {x} {t} {ws} a a' t₁ t₂ w₁ w₂ p q r h =
    subst (λ (w : List (List ℕ)). Check x t ws (record { answer = a'; tree = t₂; works = w })) r
    (subst (λ (l : List ℕ). Check x t ws (record { answer = a'; tree = l; works = w₁ })) q
    (subst (λ (b : Answer). Check x t ws (record { answer = b; tree = t₁; works = w₁ })) p h))

four : {a a' b b' c c' d d' : List ℕ} → a ≡ a' → b ≡ b' → c ≡ c' → d ≡ d' → (a' ∷ (b' ∷ (c' ∷ (d' ∷ [])))) ≡ (a ∷ (b ∷ (c ∷ (d ∷ []))))
four p q r s = rw (p, q, r, s)

-- the model's answer on n nodes, over scopes and notes that are zero
abbrev node_number : (x tree : List ℕ) (n : ℕ) → ℕ
node_number x tree n = verdict_of x tree n (replicate 4096 0) (replicate 4096 0)

module _ (x tree : List ℕ) (n : ℕ) (b : Block) where
  same_answer : verdict_answer (result_of tree b (node_number x tree n)) ≡ meant (verdict_at tree (refused_node 4096 x tree n))
  unfolding result_of refused_node judgement
  same_answer = by (eqb (node_number x tree n) 0) (ltb (node_number x tree n) 65537) (node_number x tree n)
    where
      by : (t u : Bool) (r : ℕ) →
          verdict_answer (pick t (λ _. fine b) λ _. pick u (λ _. refuse TYPE (place_at tree (r - 1))) λ _. refuse DOUBLE (place_at tree (r - 65537))) ≡
          meant (verdict_at tree (pick t (λ _. Ok tt) λ _. pick u (λ _. Err (flaw.«Type» (r - 1))) λ _. Err (flaw.Double (r - 65537))))
      by true u r = refl
      by false true r = refl
      by false false r = refl

  same_tree : (t₀ t₁ : List ℕ) → t₁ ≡ holding 4096 (table b) t₀ → limits.zeroed 0 4096 t₁ ≡ zeroed 4096 t₀ →
      tree_after (result_of tree b (node_number x tree n)) t₀ ≡ tree_left 4096 t₁ (refused_node 4096 x tree n)
  unfolding result_of refused_node judgement
  same_tree t₀ t₁ e z = by (eqb (node_number x tree n) 0) (ltb (node_number x tree n) 65537) (node_number x tree n)
    where
      by : (t u : Bool) (r : ℕ) →
          tree_after (pick t (λ _. fine b) λ _. pick u (λ _. refuse TYPE (place_at tree (r - 1))) λ _. refuse DOUBLE (place_at tree (r - 65537))) t₀ ≡
          tree_left 4096 t₁ (pick t (λ _. Ok tt) λ _. pick u (λ _. Err (flaw.«Type» (r - 1))) λ _. Err (flaw.Double (r - 65537)))
      by true u r = sym e
      by false true r = sym z
      by false false r = sym z

right_verdict : {x : List ℕ} {b : Block} (tree : List ℕ) (n : ℕ) → ReadAs (record { tree = tree; text = x }) b → n ≡ nodes_of_block b →
    Verdict x (result_of tree b (node_number x tree n))
right_verdict tree n h e = rw e (zeros_verdict h)

module _ (x t₀ w₀ s₀ c₀ n₀ : List ℕ) (short : length x ≤ 16384) (room : large_enough (tree_table t₀ ∷ lent w₀ s₀ c₀ n₀) ≡ true) where
  big : Roomy t₀ w₀ s₀ c₀ n₀
  big = roomy t₀ w₀ s₀ c₀ n₀ room

  -- no more nodes than the tables have entries
  pub fits : {o : Outcome ℕ ReadError} {n : ℕ} {t₁ w₁ s₁ : List ℕ} → Read x t₀ (working w₀ s₀) (left o t₁ w₁ s₁) → o ≡ Ok n → length t₁ ≡ length t₀ →
      (n ≤ 4096) × (4096 ≤ length t₁) × (4096 ≤ length c₀) × (4096 ≤ length n₀)
  fits h e l =
      let r = tree_read x t₀ w₀ s₀ short h e in
      let f = few_words r.reads short in
      let c = r.count in
      (omega arith, omega (arith, big.for_tree), big.for_scopes, big.for_notes)

  judged_tree : {n : ℕ} {r : Says} {t₁ w₁ s₁ t₂ c₁ n₁ : List ℕ} → TreeRead x t₀ w₀ s₀ short n t₁ w₁ s₁ → Judging 4096 x t₁ n c₀ n₀ r t₂ c₁ n₁ →
      Check x t₀ (lent w₀ s₀ c₀ n₀) (checked r t₂ w₁ s₁ c₁ n₁)
  judged_tree {n} {r} {t₁} {w₁} {s₁} {t₂} {c₁} {n₁} h j =
      as_left _ _ _ _ _ _ (same_answer x (take 4096 t₁) n b ∙ sym (ap meant j.answer))
      (same_tree x (take 4096 t₁) n b t₀ t₁ h.words_are clear ∙ sym j.left_tree)
      (four h.words_zero h.stack_zero (j.scopes_zero ∙ zeroed_is 0 4096 c₀ big.for_scopes) (j.notes_zero ∙ zeroed_is 0 4096 n₀ big.for_notes))
      (judged short room (right_verdict (take 4096 t₁) n here (h.count ∙ table_length b)))
    where
      b : Block
      b = h.tree

      few : length (table b) ≤ 4096
      few = few_words h.reads short

      clear : limits.zeroed 0 4096 t₁ ≡ zeroed 4096 t₀
      clear = ap (limits.zeroed 0 4096) h.words_are ∙ wiped 4096 (table b) t₀ few

      here : ReadAs (record { tree = take 4096 t₁; text = x }) b
      here = subst (λ (t : List ℕ). ReadAs (record { tree = take 4096 t; text = x }) b) (sym h.words_are) (words_read h.reads short 4096 t₀ few)

  -- a text that reads is judged
  pub tree_promised : {o : Outcome ℕ ReadError} {n : ℕ} {r : Says} {t₁ w₁ s₁ t₂ c₁ n₁ : List ℕ} →
      Read x t₀ (working w₀ s₀) (left o t₁ w₁ s₁) → o ≡ Ok n → Judging 4096 x t₁ n c₀ n₀ r t₂ c₁ n₁ →
      Check x t₀ (lent w₀ s₀ c₀ n₀) (checked r t₂ w₁ s₁ c₁ n₁)
  tree_promised h e j = judged_tree (tree_read x t₀ w₀ s₀ short h e) j

  -- one that does not is refused
  pub none_promised : (r : Reason) {o : Outcome ℕ ReadError} {e : ReadError} {t₁ w₁ s₁ c₁ n₁ : List ℕ} →
      Read x t₀ (working w₀ s₀) (left o t₁ w₁ s₁) → o ≡ Err e → refusal_meant r ≡ refused (refusal_of e) (place_of e) →
      c₁ ≡ limits.zeroed 0 4096 c₀ → n₁ ≡ limits.zeroed 0 4096 n₀ → Check x t₀ (lent w₀ s₀ c₀ n₀) (checked (Err r) t₁ w₁ s₁ c₁ n₁)
  none_promised r k g e c n =
      let h = none_read x t₀ w₀ s₀ short big.for_reading k g in
      as_left _ _ _ _ _ _ (sym e) (sym h.words_are)
      (four h.words_zero h.stack_zero (c ∙ zeroed_is 0 4096 c₀ big.for_scopes) (n ∙ zeroed_is 0 4096 n₀ big.for_notes))
      (judged short room (unread h.reads))
