-- Flows: what a statement, a row of commands or a block comes to is what its note says.
use Prim.Native.Nat.{ℕ, zero, suc, ◌+◌, ◌%◌, ◌<◌, ◌≤◌}
use mathlib.Core.Path.{◌≡◌, refl, sym, subst}
use mathlib.Core.Bool.{Bool, true, false, cond}
use mathlib.Core.List.{List}
use mathlib.Core.Option.{Option, none, some}
use native.Mathlib.Omega.{arith}
use lib.Dec.{eqb, ltb}
use lib.ListN.{length, get_or}
use borrow.Author.Tests.{ne_eqb, eqb-false, lt-ltb, le-ltb}
use Rattle.language.specs.Claims.{TyFits, FlowFits, AllNodes, Comparable}
use Rattle.language.specs.Answers.{Refusal, TYPE, Result, fine, refuse}
use Rattle.language.specs.Syntax.{Stat, echo, set, if_stat, while, call, return, Block, block}
use Rattle.language.specs.Types.{Ty, BOOL, Ctx, Flow, never, may, always}
use Rattle.language.specs.Typing.{looped, HasS, HasB}
use Rattle.language.specs.Order.{stat_node, block_node, nodes_expr, nodes_args, nodes_block, nodes_cmds, nodes_stat}
use Rattle.language.proofs.Typing.Judge.{and_then, judged, only, passes, same_type, is_never, goes_on, either_flow, sequel, judge_block, judge_stat}
use Rattle.language.proofs.Typing.Judged.{View, view_block, view_stat}
use Rattle.language.proofs.Typing.Rows.{Seen, no_may, a_may, clash, saw, closed, saw_law}
use Rattle.judge.specs.Scopes.{pick, next_at}
use Rattle.judge.specs.Types.{same, returned}
use Rattle.judge.specs.Rules.{looped_note, either_note, if_stat_rule, while_rule, return_rule, followed, goes_with, flow_from, own_by}
use Rattle.judge.proofs.Shapes.{Nodes}
use Rattle.judge.proofs.Noting.{Agree}
use Rattle.judge.proofs.Spelling.{Spells, spells_low, same_right, spells_fine, spells_move}
use Rattle.judge.proofs.Verdicts.{Run, Said, said_type, One, Kids, kids_fine, kids_bad, Own, own_fine, own_bad, Seat, node_one}
use Rattle.judge.proofs.Expressions.{all_one, all_rest, fine_view, is_bool}

-- a statement's own node, and a block's, is its last: so what is returned has at most 128 levels
stat_comparable : (c : Stat) (Γ : Ctx) → AllNodes Comparable (nodes_stat Γ c) → Comparable (stat_node Γ c)
unfolding nodes_stat
stat_comparable (echo p e) Γ q = all_one (all_rest (nodes_expr Γ e) q)
stat_comparable (set p x e) Γ q = all_one (all_rest (nodes_expr Γ e) q)
stat_comparable (if_stat p e a b) Γ q = all_one (all_rest (nodes_block Γ b) (all_rest (nodes_block Γ a) (all_rest (nodes_expr Γ e) q)))
stat_comparable (while p e b) Γ q = all_one (all_rest (nodes_block Γ b) (all_rest (nodes_expr Γ e) q))
stat_comparable (call p x as') Γ q = all_one (all_rest (nodes_args Γ as') q)
stat_comparable (return p e) Γ q = all_one (all_rest (nodes_expr Γ e) q)

pub stat_fits : (c : Stat) (Γ : Ctx) {φ : Flow} → AllNodes Comparable (nodes_stat Γ c) → judge_stat Γ c ≡ fine φ → FlowFits φ 128
stat_fits c Γ {φ} q h = stat_comparable c Γ q φ (fine_view (subst (λ o. View (HasS Γ c) (nodes_stat Γ c) o) h (view_stat c Γ)))

block_comparable : (b : Block) (Γ : Ctx) → AllNodes Comparable (nodes_block Γ b) → Comparable (block_node Γ b)
unfolding nodes_block
block_comparable (block p cs) Γ q = all_one (all_rest (nodes_cmds Γ cs) q)

pub block_fits : (b : Block) (Γ : Ctx) {φ : Flow} → AllNodes Comparable (nodes_block Γ b) → judge_block Γ b ≡ fine φ → FlowFits φ 128
block_fits b Γ {φ} q h = block_comparable b Γ q φ (fine_view (subst (λ o. View (HasB Γ b) (nodes_block Γ b) o) h (view_block b Γ)))

-- what is judged of a statement: where others follow it, that it goes on too
abbrev pub standing : Bool → ℕ → Result Flow → Result Flow
standing true p o = o
standing false p o = and_then o λ φ. and_then (passes p (goes_on φ)) λ u. fine φ

standing_refuse : (b : Bool) (p : ℕ) (c : Refusal) (q : ℕ) → refuse c q ≡ standing b p (refuse c q)
unfolding and_then
standing_refuse true p c q = refl
standing_refuse false p c q = refl

no_fine : {A : Type 0} {c : Refusal} {q : ℕ} {a : A} → refuse c q ≡ fine a → ⊥
no_fine e = let z : ◌≡◌ {A = ℕ} 0 1 = cc in omega arith

fine_is : {A : Type 0} {a b : A} → ◌≡◌ {A = Result A} (fine a) (fine b) → a ≡ b
fine_is {A} {a} {b} e = cc

pub standing_fine : (b : Bool) (p : ℕ) (o : Result Flow) {φ : Flow} → standing b p o ≡ fine φ → o ≡ fine φ
unfolding and_then passes judged only
standing_fine true p o e = e
standing_fine false p (refuse c q) e = e
standing_fine false p (fine ψ) {φ} e = by-test (goes_on ψ) e
  where
    by-test : (d : Bool) → and_then (passes p d) (λ u. fine ψ) ≡ fine φ → fine ψ ≡ fine φ
    by-test true e = e
    by-test false e = absurd (no_fine e)

pub standing_goes : (p : ℕ) (o : Result Flow) {φ : Flow} → standing false p o ≡ fine φ → goes_on φ ≡ true
unfolding and_then passes judged only
standing_goes p (refuse c q) e = absurd (no_fine e)
standing_goes p (fine ψ) {φ} e = by-test (goes_on ψ) refl e
  where
    by-test : (d : Bool) → goes_on ψ ≡ d → and_then (passes p d) (λ u. fine ψ) ≡ fine φ → goes_on φ ≡ true
    by-test true f e = subst (λ χ. goes_on χ ≡ true) (fine_is e) f
    by-test false f e = absurd (no_fine e)

either_never : (ψ : Flow) → either_flow never ψ ≡ some (looped ψ)
either_never never = refl
either_never (may τ) = refl
either_never (always τ) = refl

module _ (g : Run) where
  -- by the notes M, from lo on: the note f says how something returns
  module _ (M : List ℕ) (lo : ℕ) where
    pub data Flows (f : ℕ) : Flow → Type 0 where
      f_never : f ≡ 65537 → Flows f never
      f_may : {τ : Ty} (r : ℕ) → f ≡ 196608 + r → Spells g.tree M lo r τ → Flows f (may τ)
      f_always : {τ : Ty} (r : ℕ) → f ≡ 327680 + r → Spells g.tree M lo r τ → Flows f (always τ)

    pub never_test : {f : ℕ} {φ : Flow} → Flows f φ → ltb f 196608 ≡ is_never φ
    never_test (f_never e) = rw e
    never_test (f_may r e s) = rw e (le-ltb (196608 + r) 196608 (omega arith))
    never_test (f_always r e s) = rw e (le-ltb (327680 + r) 196608 (omega arith))

    pub goes_test : {f : ℕ} {φ : Flow} → Flows f φ → ltb f 327680 ≡ goes_on φ
    goes_test (f_never e) = rw e
    goes_test (f_may {τ} r e s) = let l = spells_low g.tree M lo r τ s in rw e (lt-ltb (196608 + r) 327680 (omega arith))
    goes_test (f_always r e s) = rw e (le-ltb (327680 + r) 327680 (omega arith))

    pub flows_fine : {f : ℕ} {φ : Flow} → Flows f φ → eqb (f % 65536) 0 ≡ false
    flows_fine (f_never e) = rw e
    flows_fine {f} (f_may {τ} r e s) = ne_eqb (f % 65536) 0 (λ z. eqb-false (r % 65536) 0 (spells_fine g.tree M lo g.root r τ s) (omega arith))
    flows_fine {f} (f_always {τ} r e s) = ne_eqb (f % 65536) 0 (λ z. eqb-false (r % 65536) 0 (spells_fine g.tree M lo g.root r τ s) (omega arith))

    pub looped_flows : {f : ℕ} {φ : Flow} → Flows f φ → Flows (looped_note f) (looped φ)
    unfolding looped_note
    looped_flows (f_never e) = rw (goes_test (f_never e)) (f_never e)
    looped_flows (f_may r e s) = rw (goes_test (f_may r e s)) (f_may r e s)
    looped_flows (f_always r e s) = rw (goes_test (f_always r e s)) (f_may r (omega arith) s)

    -- what is returned
    record Back (f : ℕ) (τ : Ty) : Type 0 where
      type : ℕ
      is : returned f ≡ type
      spelled : Spells g.tree M lo type τ

    back_may : {f : ℕ} {τ : Ty} → Flows f (may τ) → Back f τ
    unfolding returned
    back_may (f_may r e s) = record { type = r; is = rw (goes_test (f_may r e s)) (omega arith); spelled = s }

    back_always : {f : ℕ} {τ : Ty} → Flows f (always τ) → Back f τ
    unfolding returned
    back_always (f_always r e s) = record { type = r; is = rw (goes_test (f_always r e s)) (omega arith); spelled = s }

    same_back : {f h : ℕ} {τ σ : Ty} → TyFits τ 128 → Back f τ → Back h σ → same 128 g.tree M (returned f) (returned h) ≡ same_type τ σ
    same_back {τ = τ} {σ} k a b = rw (a.is, b.is) (same_right g.tree M lo 128 a.type b.type τ σ k a.spelled b.spelled)

    -- statements so far: what may be returned, σ, or 0
    pub data Saw (σ : ℕ) : Seen → Type 0 where
      saw_none : σ ≡ 0 → Saw σ no_may
      saw_may : {τ : Ty} → Flows σ (may τ) → Saw σ (a_may τ)

    saw_some : {σ : ℕ} {τ : Ty} → Flows σ (may τ) → eqb σ 0 ≡ false
    saw_some {σ} (f_may r e s) = ne_eqb σ 0 (λ z. omega arith)

    -- what a row of commands comes to
    pub data Comes (r : ℕ) : Option Flow → Type 0 where
      comes : {φ : Flow} → Flows r φ → Comes r (some φ)
      comes_none : r ≡ 65536 → Comes r none

    closes : {σ f : ℕ} {s : Seen} (φ : Flow) → Saw σ s → Flows f φ → FlowFits φ 128
        → Comes (pick (goes_with g.tree M σ f) (λ _. f) λ _. 65536) (closed s (some φ))
    unfolding goes_with only
    closes φ (saw_none e) w k = rw e (comes w)
    closes never (saw_may i) w k = rw (saw_some i, never_test w) (comes_none refl)
    closes {f = f} (may τ) (saw_may {τ = σ} i) w k = rw (saw_some i, never_test w, same_back k (back_may w) (back_may i)) (by-test (same_type τ σ))
      where
        by-test : (b : Bool) → Comes (pick b (λ _. f) λ _. 65536) (only b (some (may τ)))
        by-test true = comes w
        by-test false = comes_none refl
    closes {f = f} (always τ) (saw_may {τ = σ} i) w k = rw (saw_some i, never_test w, same_back k (back_always w) (back_may i)) (by-test (same_type τ σ))
      where
        by-test : (b : Bool) → Comes (pick b (λ _. f) λ _. 65536) (only b (some (always τ)))
        by-test true = comes w
        by-test false = comes_none refl

  flows_move : (N M : List ℕ) (lo k : ℕ) → k ≤ lo → Agree lo N M → {f : ℕ} {φ : Flow} → Flows N lo f φ → Flows M k f φ
  flows_move N M lo k l a (f_never e) = f_never e
  flows_move N M lo k l a (f_may r e s) = f_may r e (spells_move g.tree N M lo k l a s)
  flows_move N M lo k l a (f_always r e s) = f_always r e (spells_move g.tree N M lo k l a s)

  -- the note of n says φ, and what is returned may be compared
  abbrev pub HasFlow : ℕ → Flow → Type 0
  HasFlow n φ = Flows g.notes n (get_or g.notes n 0) φ

  abbrev pub FlowFit : ℕ → Flow → Type 0
  FlowFit n φ = HasFlow n φ × FlowFits φ 128

  pub flow_at : {z : ℕ} {φ : Flow} (lo : ℕ) (M : List ℕ) → Agree lo g.notes M → lo ≤ z → HasFlow z φ → Flows M lo (get_or M z 0) φ
  flow_at {z} lo M a l w = rw (← a z l) (flows_move g.notes M z lo l (λ j h. a j (omega arith)) w)

  -- the own rule of a statement or a block at p gives the note r
  pub data Gave (M : List ℕ) (n p r : ℕ) : Result Flow → Type 0 where
    gave : {φ : Flow} → Flows M (suc n) r φ → Gave M n p r (fine φ)
    gave_none : r ≡ 65536 → Gave M n p r (refuse TYPE p)

  pub gave_own : {n p r : ℕ} {o : Result Flow} (M : List ℕ) → Agree (suc n) g.notes M → Gave M n p r o → Own g (HasFlow n) n p r o
  gave_own {n} M a (gave {φ} w) =
      own_fine {a = φ} (flows_fine M (suc n) w) (λ e. rw e (flows_move M g.notes (suc n) n (omega arith) (λ j h. sym (a j h)) w))
  gave_own M a (gave_none e) = own_bad (subst (Said TYPE) (sym e) said_type)

  -- a statement that has only to pass a test
  pub gave_pass : {n p : ℕ} (M : List ℕ) (b : Bool) → Gave M n p (pick b (λ _. 65537) λ _. 65536) (judged p (only b (some never)))
  unfolding judged only
  gave_pass M true = gave (f_never refl)
  gave_pass M false = gave_none refl

  -- IF, WHILE
  either_gave : {n p f h : ℕ} (M : List ℕ) (φ ψ : Flow) → FlowFits φ 128 → Flows M (suc n) f φ → Flows M (suc n) h ψ
      → Gave M n p (either_note g.tree M f h) (judged p (either_flow φ ψ))
  unfolding either_note judged only
  either_gave {n} M never ψ k w v = rw (never_test M (suc n) w, either_never ψ) (gave (looped_flows M (suc n) v))
  either_gave {n} M (may τ) never k w v = rw (never_test M (suc n) w, never_test M (suc n) v) (gave (looped_flows M (suc n) w))
  either_gave {n} {p} {f} M (may τ) (may σ) k w v =
      rw (never_test M (suc n) w, never_test M (suc n) v, goes_test M (suc n) w, same_back M (suc n) k (back_may M (suc n) w) (back_may M (suc n) v))
      (by-test (same_type τ σ))
    where
      by-test : (b : Bool) → Gave M n p (pick b (λ _. f) λ _. 65536) (judged p (only b (some (may τ))))
      by-test true = gave w
      by-test false = gave_none refl
  either_gave {n} {p} {f} M (may τ) (always σ) k w v =
      rw (never_test M (suc n) w, never_test M (suc n) v, goes_test M (suc n) w, same_back M (suc n) k (back_may M (suc n) w) (back_always M (suc n) v))
      (by-test (same_type τ σ))
    where
      by-test : (b : Bool) → Gave M n p (pick b (λ _. f) λ _. 65536) (judged p (only b (some (may τ))))
      by-test true = gave w
      by-test false = gave_none refl
  either_gave {n} M (always τ) never k w v = rw (never_test M (suc n) w, never_test M (suc n) v) (gave (looped_flows M (suc n) w))
  either_gave {n} {p} {f} M (always τ) (may σ) k w v =
      rw (
        never_test M (suc n) w,
        never_test M (suc n) v,
        goes_test M (suc n) w,
        goes_test M (suc n) v,
        same_back M (suc n) k (back_always M (suc n) w) (back_may M (suc n) v),
      ) (by-test (same_type τ σ))
    where
      by-test : (b : Bool) → Gave M n p (pick b (λ _. looped_note f) λ _. 65536) (judged p (only b (some (may τ))))
      by-test true = gave (looped_flows M (suc n) w)
      by-test false = gave_none refl
  either_gave {n} {p} {f} M (always τ) (always σ) k w v =
      rw (
        never_test M (suc n) w,
        never_test M (suc n) v,
        goes_test M (suc n) w,
        goes_test M (suc n) v,
        same_back M (suc n) k (back_always M (suc n) w) (back_always M (suc n) v),
      ) (by-test (same_type τ σ))
    where
      by-test : (b : Bool) → Gave M n p (pick b (λ _. f) λ _. 65536) (judged p (only b (some (always τ))))
      by-test true = gave w
      by-test false = gave_none refl

  pub if_gave : {n p : ℕ} (M : List ℕ) (y a b : ℕ) (τ : Ty) (φ ψ : Flow) → next_at g.tree y ≡ a → next_at g.tree a ≡ b
      → Spells g.tree M (suc n) (get_or M y 0) τ → FlowFits φ 128 → Flows M (suc n) (get_or M a 0) φ → Flows M (suc n) (get_or M b 0) ψ
      → Gave M n p (if_stat_rule g.tree M y) (judged p (only (same_type τ BOOL) (either_flow φ ψ)))
  unfolding if_stat_rule judged only
  if_gave {n} {p} M y a b τ φ ψ e f s k w v = rw (is_bool g M (suc n) y τ s, e, f) (by-test (same_type τ BOOL))
    where
      by-test : (c : Bool)
          → Gave M n p (pick c (λ _. either_note g.tree M (get_or M a 0) (get_or M b 0)) λ _. 65536) (judged p (only c (either_flow φ ψ)))
      by-test true = either_gave M φ ψ k w v
      by-test false = gave_none refl

  pub while_gave : {n p : ℕ} (M : List ℕ) (y a : ℕ) (τ : Ty) (φ : Flow) → next_at g.tree y ≡ a
      → Spells g.tree M (suc n) (get_or M y 0) τ → Flows M (suc n) (get_or M a 0) φ
      → Gave M n p (while_rule g.tree M y) (judged p (only (same_type τ BOOL) (some (looped φ))))
  unfolding while_rule judged only
  while_gave {n} {p} M y a τ φ e s w = rw (is_bool g M (suc n) y τ s, e) (by-test (same_type τ BOOL))
    where
      by-test : (c : Bool) → Gave M n p (pick c (λ _. looped_note (get_or M a 0)) λ _. 65536) (judged p (only c (some (looped φ))))
      by-test true = gave (looped_flows M (suc n) w)
      by-test false = gave_none refl

  -- RETURN
  pub return_gave : {n p : ℕ} (M : List ℕ) (y : ℕ) (τ : Ty) → Spells g.tree M (suc n) (get_or M y 0) τ
      → Gave M n p (return_rule M y) (judged p (some (always τ)))
  unfolding return_rule judged
  return_gave {n} M y τ s = let l = spells_low g.tree M (suc n) (get_or M y 0) τ s in gave (f_always (get_or M y 0) (omega arith) s)

  -- a statement, last or not
  gave_followed : {n p r : ℕ} {o : Result Flow} (M : List ℕ) (b : Bool) → eqb (next_at g.tree n) 0 ≡ b → Gave M n p r o
      → Gave M n p (followed g.tree n r) (standing b p o)
  unfolding followed and_then passes judged only
  gave_followed M true e w = rw e w
  gave_followed {n} {p} {r} M false e (gave {φ} w) = rw (e, goes_test M (suc n) w) (by-test (goes_on φ))
    where
      by-test : (d : Bool) → Gave M n p (pick d (λ _. r) λ _. 65536) (and_then (passes p d) λ u. fine φ)
      by-test true = gave w
      by-test false = gave_none refl
  gave_followed M false e (gave_none i) = rw (e, i) (gave_none refl)

  pub followed_one : {k p n m row row' v : ℕ} {c s : Nodes} {o : Result Flow} (h : Seat g k p c s n m row row' v) → m ≤ g.count → (b : Bool)
      → eqb (next_at g.tree n) 0 ≡ b → (R : List ℕ → ℕ) → ((M : List ℕ) → own_by k g.text g.tree g.scopes M n ≡ followed g.tree n (R M))
      → Kids g (λ o. (M : List ℕ) → Agree (suc n) g.notes M → Gave M n p (R M) o) c (suc n) h.mid o
      → One g (HasFlow n) n h.mid (standing b p o)
  followed_one h l b e R own (kids_fine f i cl) = node_one g h l (kids_fine (λ M a. rw (own M) (gave_own M a (gave_followed M b e (f M a)))) i cl)
  followed_one {p = p} {n} h l b e R own (kids_bad {c} {q} i fs) =
      subst (λ o. One g (HasFlow n) n h.mid o) (standing_refuse b p c q) (node_one g h l (kids_bad i fs))

  -- ROWS OF COMMANDS

  -- the commands from n on come to o, after any statements before them
  abbrev pub RowFlow : ℕ → Option Flow → Type 0
  RowFlow n o = (M : List ℕ) (lo : ℕ) → lo ≤ n → Agree lo g.notes M → (s : Seen) (σ : ℕ) → Saw M lo σ s → (b : ℕ) → length g.tree ≤ b + n
      → Comes M lo (flow_from g.tree M b σ n) (closed s o)

  pub last_flow : {n : ℕ} {φ : Flow} → next_at g.tree n ≡ 0 → n < length g.tree → FlowFit n φ → RowFlow n (some φ)
  unfolding flow_from
  last_flow e i w M lo l a s σ q zero u = absurd (omega arith)
  last_flow {n} {φ} e i w M lo l a s σ q (suc b) u = rw e (closes M lo φ q (flow_at lo M a l w.0) w.1)

  -- behind what never returns, a definition or a statement
  pub on_flow : {n i : ℕ} {o : Option Flow} → next_at g.tree n ≡ i → n < i → n < length g.tree → HasFlow n never → RowFlow i o → RowFlow n o
  unfolding flow_from
  on_flow e j t w f M lo l a s σ q zero u = absurd (omega arith)
  on_flow {i = i} e j t w f M lo l a s σ q (suc b) u =
      rw (e, ne_eqb i 0 (λ z. omega arith), never_test M lo (flow_at lo M a l w)) (f M lo (omega arith) a s σ q b (omega arith))

  may_flow : {n i : ℕ} {τ : Ty} {o : Option Flow} → next_at g.tree n ≡ i → n < i → n < length g.tree → FlowFit n (may τ) → RowFlow i o
      → (M : List ℕ) (lo : ℕ) → lo ≤ n → Agree lo g.notes M → (s : Seen) (σ : ℕ) → Saw M lo σ s → (b : ℕ) → length g.tree ≤ b + n
      → Comes M lo (flow_from g.tree M b σ n) (closed (saw s (may τ)) o)
  unfolding flow_from goes_with
  may_flow e j t w f M lo l a s σ q zero u = absurd (omega arith)
  may_flow {n} {i} {τ} e j t w f M lo l a no_may σ (saw_none z) (suc b) u =
      let x = flow_at lo M a l w.0 in
      rw (e, ne_eqb i 0 (λ z. omega arith), never_test M lo x, z) (f M lo (omega arith) a (a_may τ) (get_or M n 0) (saw_may x) b (omega arith))
  may_flow e j t w f M lo l a clash σ q (suc b) u = elim q [ ]
  may_flow {n} {i} {τ} {o} e j t w f M lo l a (a_may ρ) σ (saw_may y) (suc b) u =
      let x = flow_at lo M a l w.0 in
      rw (e, ne_eqb i 0 (λ z. omega arith), never_test M lo x, saw_some M lo y, same_back M lo w.1 (back_may M lo x) (back_may M lo y))
      (by-test (same_type τ ρ) (f M lo (omega arith) a (a_may τ) (get_or M n 0) (saw_may x) b (omega arith)))
    where
      by-test : (d : Bool) → Comes M lo (flow_from g.tree M b (get_or M n 0) i) (closed (a_may τ) o)
          → Comes M lo (pick d (λ _. flow_from g.tree M b (get_or M n 0) i) λ _. 65536) (closed (cond d (a_may τ) clash) o)
      by-test true c = c
      by-test false c = comes_none refl

  pub then_flow : {n i : ℕ} (φ : Flow) {o : Option Flow} → next_at g.tree n ≡ i → n < i → n < length g.tree → goes_on φ ≡ true → FlowFit n φ → RowFlow i o
      → RowFlow n (sequel φ o)
  then_flow {n} never {o} e j t d w f M lo l a s σ q b u =
      subst (Comes M lo (flow_from g.tree M b σ n)) (saw_law s never o) (on_flow {o = o} e j t w.0 f M lo l a s σ q b u)
  then_flow {n} (may τ) {o} e j t d w f M lo l a s σ q b u =
      subst (Comes M lo (flow_from g.tree M b σ n)) (saw_law s (may τ) o) (may_flow {o = o} e j t w f M lo l a s σ q b u)
  then_flow (always τ) e j t d w f M lo l a s σ q b u = let z : ◌≡◌ {A = ℕ} 0 1 = cc in absurd (omega arith)

  -- BLOCKS

  pub block_own : {n p r : ℕ} {o : Option Flow} (M : List ℕ) → Agree (suc n) g.notes M → Comes M (suc n) r o → Own g (HasFlow n) n p r (judged p o)
  unfolding judged
  block_own M a (comes w) = gave_own M a (gave w)
  block_own M a (comes_none e) = gave_own M a (gave_none e)

  -- the program's
  pub program_own : {n p r : ℕ} {o : Option Flow} (M : List ℕ) → Comes M (suc n) r o
      → Own g (λ (u : Unit {0}). Unit {0}) n p (pick (ltb r 196608) (λ _. r) λ _. 65536) (and_then (judged p o) λ φ. passes p (is_never φ))
  unfolding judged and_then passes only
  program_own {n} {p} {r} M (comes {φ} w) = rw (never_test M (suc n) w) (by-test (is_never φ))
    where
      by-test : (b : Bool) → Own g (λ (u : Unit {0}). Unit {0}) n p (pick b (λ _. r) λ _. 65536) (passes p b)
      by-test true = own_fine (flows_fine M (suc n) w) (λ e. tt)
      by-test false = own_bad said_type
  program_own M (comes_none e) = rw e (own_bad said_type)
