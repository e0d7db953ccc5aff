-- The relation's laws: what is kept, and one law for each way in which the rules are put together.
use mathlib.Core.Path.{◌≡◌, refl, ◌∙◌}
use mathlib.Core.Bool.{Bool, true, false}
use mathlib.Core.List.{List}
use mathlib.Core.Option.{Option, none, some}
use Prim.Native.Nat.{ℕ, zero, suc, ◌+◌, ◌≤◌, ◌<◌}
use native.Mathlib.Nat.{le_refl, le_trans, not-suc-le-zero}
use native.Mathlib.Omega.{arith}
use lib.Dec.{T, eqb, ltb, eqb-suc-zero, eqb-suc-suc}
use lib.IntN.{pos, negsuc}
use lib.ListN.{length}
use mir.Syntax.{w64}
use mir.Val.{to_z, sel}
use Rattle.language.specs.Answers.{LimitStop, ErrorStop, Stop, limit, error, stop_number}
use Rattle.language.specs.Numbers.{as_bit}
use Rattle.language.specs.Rules as Rules
use Rattle.language.specs.Rules.{Val, Env, State, Returned, no_rule, Outcome, ok, halt, bind, unless_returned, need, otherwise, within, branch, as_number, as_truth, as_address, as_block}
use Rattle.machine.specs.declared.Cell.{Cell}
use Rattle.machine.specs.declared.Ending.{Ending}
use Rattle.machine.specs.declared.Ending.TheVariants.{NoRule}
use Rattle.machine.specs.declared.Ending.TheVariants as E
use Rattle.machine.specs.Entries.{pick, number_tag, address_tag, block_tag, first_of, length_of, binding}
use Rattle.machine.specs.State.{Tables, Ret, is, and_then}
use Rattle.machine.specs.Machine.{on_bit}
use Rattle.machine.proofs.Lists.{Asks, asks_yes, asks_no}
use Rattle.machine.proofs.Relation.{Stage, Kept, Thing, Old, Rep, v_num, v_fun, v_rec, v_proc, v_proc_rec, v_adr, v_block, e_none, e_bound, ValR, EnvR, CellR, c_unset, c_set, Waits, w_none, w_more, R, Grow, Plain, plain_limit, Sims, Sim, goes, returns, stops, unset, no_way, IsBack, Spent, Made, Some, Waiting}
use Rattle.machine.proofs.Steps.{more}

pub bind_ok : {A B : Type 0} (a : A) (s : State) (k : A → State → Outcome B) → bind (ok a s) k ≡ k a s
unfolding bind
bind_ok a s k = refl

-- ---- tables

pub kept_self : {n : ℕ} {l : List ℕ} → Kept n l l
kept_self = record { long = refl; beyond = refl }

pub kept_then : {n : ℕ} {a b c : List ℕ} → Kept n a b → Kept n b c → Kept n a c
kept_then h k = record { long = k.long ∙ h.long; beyond = k.beyond ∙ h.beyond }

module _ {g : Stage} where
  -- ---- what stays related while bindings are added

  pub keep : {b b' : List ℕ} {c c' : ℕ} {x : Thing} → Rep g b c x → c ≤ c' → Old b c b' → Rep g b' c' x
  keep (v_num x) h o = v_num x
  keep (v_fun p e n) h o = v_fun p e (keep n h o)
  keep (v_rec p e n) h o = v_rec p e (keep n h o)
  keep (v_proc p e n) h o = v_proc p e (keep n h o)
  keep (v_proc_rec p e n) h o = v_proc_rec p e (keep n h o)
  keep v_adr h o = v_adr
  keep (v_block x) h o = v_block x
  keep e_none h o = e_none
  keep (e_bound {k = k} l e u n q w j) h o =
      e_bound (le_trans l h) (o k l ∙ e) (keep u (le_refl _) (λ j s. o j (le_trans s (omega arith))))
      (keep n (le_refl _) (λ j s. o j (le_trans s (omega arith)))) q w (keep j (le_refl _) (λ j s. o j (le_trans s (omega arith))))

  pub cell_keep : {b b' : List ℕ} {c c' : ℕ} {o : Rules.Cell} {r : Cell} → CellR g b c o r → c ≤ c' → Old b c b' → CellR g b' c' o r
  cell_keep c_unset h o = c_unset
  cell_keep (c_set u) h o = c_set (keep u h o)

  pub waits_keep : {b b' : List ℕ} {c c' : ℕ} {w : List ℕ} {sp : ℕ} {us : List Val} → Waits g b c w sp us → c ≤ c' → Old b c b' → Waits g b' c' w sp us
  waits_keep w_none h o = w_none
  waits_keep (w_more e u w) h o = w_more e (keep u h o) (waits_keep w h o)

  -- an environment's number is at most the number of bindings
  pub env_in : {b : List ℕ} {c n : ℕ} {ρ : Env} → EnvR g b c ρ n → n ≤ c
  env_in e_none = omega arith
  env_in (e_bound l e u n q w j) = l

  pub tag_small : {b : List ℕ} {c t x : ℕ} {u : Val} → ValR g b c u t x → t < 65536
  tag_small (v_num x) = omega arith
  tag_small (v_fun p e n) = omega arith
  tag_small (v_rec p e n) = omega arith
  tag_small (v_proc p e n) = omega arith
  tag_small (v_proc_rec p e n) = omega arith
  tag_small v_adr = omega arith
  tag_small (v_block x) = omega arith

  -- ---- states that go on

  pub grow_self : {sp : ℕ} {m : Tables} → Grow g sp m m
  grow_self = record { more = le_refl _; old = λ k h. refl; waits = λ k s h. refl; fell = le_refl _ }

  pub grow_trans : {sp : ℕ} {m m₁ m₂ : Tables} → Grow g sp m m₁ → Grow g sp m₁ m₂ → Grow g sp m m₂
  grow_trans a b =
      record {
        more = le_trans a.more b.more;
        old = λ k s. b.old k (le_trans s a.more) ∙ a.old k s;
        waits = λ k s h. b.waits k s (omega (arith, a.more, h)) ∙ a.waits k s (omega (arith, b.more, h));
        fell = le_trans b.fell a.fell;
      }

  -- where nothing waits below
  pub grow_low : {sp : ℕ} {m m₁ : Tables} → Grow g sp m m₁ → Grow g 0 m m₁
  grow_low a = record { more = a.more; old = a.old; waits = λ k s h. absurd (not-suc-le-zero s); fell = a.fell }

  pub some_sim : {A : Type 0} {P : List A → (t x : ℕ) → Tables → Type 0} {sp : ℕ} {m : Tables} {o : Outcome (List A)} {r : Ret} →
      Sim g (Some g P) sp m o r → Sim g P sp m o r
  some_sim (goes p s h) = goes p.it s h
  some_sim (returns b s h) = absurd b
  some_sim (stops w s) = stops w s
  some_sim (unset s) = unset s
  some_sim (no_way s) = no_way s

  module _ {A : Type 0} {P B : A → (t x : ℕ) → Tables → Type 0} where
    pub sim_lift : {sp : ℕ} {m m₁ : Tables} {o : Outcome A} {r : Ret} → Grow g sp m m₁ → Sims g P B sp m₁ o r → Sims g P B sp m o r
    sim_lift a (goes p s h) = goes p s (grow_trans a h)
    sim_lift a (returns p s h) = returns p s (grow_trans a h)
    sim_lift a (stops w s) = stops w s
    sim_lift a (unset s) = unset s
    sim_lift a (no_way s) = no_way s

    -- an answer that took a unit is an answer; one from a state with fewer units took one
    pub relax : {sp : ℕ} {m : Tables} {o : Outcome A} {r : Ret} → Sims g (Spent g m P) B sp m o r → Sims g P B sp m o r
    relax (goes p s h) = goes p.it s h
    relax (returns p s h) = returns p s h
    relax (stops w s) = stops w s
    relax (unset s) = unset s
    relax (no_way s) = no_way s

    pub tighten : {sp : ℕ} {m m₁ : Tables} {o : Outcome A} {r : Ret} → m₁.counts.units < m.counts.units → Grow g sp m m₁ → Sims g P B sp m₁ o r →
        Sims g (Spent g m P) B sp m o r
    tighten l a (goes p s h) = goes (record { it = p; less = omega (arith, h.fell) }) s (grow_trans a h)
    tighten l a (returns p s h) = returns p s (grow_trans a h)
    tighten l a (stops w s) = stops w s
    tighten l a (unset s) = unset s
    tighten l a (no_way s) = no_way s

    -- an answer from a state with n bindings more made them
    pub making : (n : ℕ) {sp : ℕ} {m m₁ : Tables} {o : Outcome A} {r : Ret} → n + m.counts.bindings ≤ m₁.counts.bindings → Sims g P B sp m₁ o r →
        Sims g (Made g n m P) (Made g n m B) sp m₁ o r
    making n l (goes p s h) = goes (record { it = p; made = le_trans l h.more }) s h
    making n l (returns p s h) = returns (record { it = p; made = le_trans l h.more }) s h
    making n l (stops w s) = stops w s
    making n l (unset s) = unset s
    making n l (no_way s) = no_way s

    -- a test of the machine alone
    pub sim_yes : (b : Bool) {sp : ℕ} {m : Tables} {o : Outcome A} {r : Ret} (k : Unit {0} → Ret) → T b → Sims g P B sp m o r → Sims g P B sp m o (pick b (λ _. r) k)
    unfolding pick
    sim_yes true k h i = i
    sim_yes false k h i = absurd h

    pub sim_no : (b : Bool) {sp : ℕ} {m : Tables} {o : Outcome A} {r : Ret} (k : Unit {0} → Ret) → (T b → ⊥) → Sims g P B sp m o r →
        Sims g P B sp m o (pick b k (λ _. r))
    unfolding pick
    sim_no true k h i = absurd (h tt)
    sim_no false k h i = i

    pub sim_if : (b : Bool) {sp : ℕ} {m : Tables} {o : Outcome A} {r r' : Ret} → (T b → Sims g P B sp m o r) → ((T b → ⊥) → Sims g P B sp m o r') →
        Sims g P B sp m o (pick b (λ _. r) λ _. r')
    unfolding pick
    sim_if true h k = h tt
    sim_if false h k = k (λ f. f)

    -- a limit is tested
    pub sim_within : (b b' : Bool) (l : LimitStop) (p : ℕ) {s : State} {sp : ℕ} {m : Tables} {o : Outcome A} {r : Ret} → (T b → T b') × (T b' → T b) → R g s m →
        (T b → Sims g P B sp m o r) → Sims g P B sp m (within b l p s o) (pick b' (λ _. r) (λ _. is (E.Stop (stop_number (limit l)) p) m))
    unfolding within pick
    sim_within true true l p f s h = h tt
    sim_within true false l p f s h = absurd (f.0 tt)
    sim_within false true l p f s h = absurd (f.1 tt)
    sim_within false false l p f s h = stops (plain_limit l) s

  module _ {A B : Type 0} {P : A → (t x : ℕ) → Tables → Type 0} {Q C : B → (t x : ℕ) → Tables → Type 0} where
    -- one part, and then the rest
    pub sim_bind : {sp : ℕ} {m : Tables} {o : Outcome A} {r : Ret} {k : A → State → Outcome B} {k' : ℕ → ℕ → Tables → Ret} → Sim g P sp m o r →
        ((a : A) (s : State) (t x : ℕ) (m₁ : Tables) → P a t x m₁ → R g s m₁ → Grow g sp m m₁ → Sims g Q C sp m₁ (k a s) (k' t x m₁)) →
        Sims g Q C sp m (bind o k) (and_then r k')
    unfolding bind and_then
    sim_bind (goes p s a) f = sim_lift a (f _ _ _ _ _ p s a)
    sim_bind (returns b s a) f = absurd b
    sim_bind (stops w s) f = stops w s
    sim_bind (unset s) f = unset s
    sim_bind (no_way s) f = no_way s

  module _ {A B : Type 0} {P : A → (t x : ℕ) → Tables → Type 0} {Q : B → (t x : ℕ) → Tables → Type 0} where
    -- one of some arguments, and then the others, whatever waits below
    pub sim_each : {sp : ℕ} {m : Tables} {o : Outcome A} {r : Ret} {k : A → State → Outcome B} {k' : ℕ → ℕ → Tables → Ret} → Sim g P sp m o r →
        ((a : A) (s : State) (t x : ℕ) (m₁ : Tables) → P a t x m₁ → R g s m₁ → Grow g sp m m₁ → Sim g Q 0 m₁ (k a s) (k' t x m₁)) →
        Sim g Q 0 m (bind o k) (and_then r k')
    unfolding bind and_then
    sim_each (goes p s a) f = sim_lift (grow_low a) (f _ _ _ _ _ p s a)
    sim_each (returns b s a) f = absurd b
    sim_each (stops w s) f = stops w s
    sim_each (unset s) f = unset s
    sim_each (no_way s) f = no_way s

    -- an evaluation after which no rule fits
    pub sim_stuck : {sp sp' : ℕ} {m : Tables} {o : Outcome A} {r : Ret} {k : A → State → Outcome B} → Sim g P sp' m o r → (p : ℕ) →
        ((a : A) (s : State) (t x : ℕ) (m₁ : Tables) → P a t x m₁ → k a s ≡ halt no_rule p s) → Sim g Q sp m (bind o k) (and_then r λ _ _ m₁. is NoRule m₁)
    unfolding bind and_then
    sim_stuck (goes p s a) q f = rw (f _ _ _ _ _ p) (no_way s)
    sim_stuck (returns b s a) q f = absurd b
    sim_stuck (stops w s) q f = stops w s
    sim_stuck (unset s) q f = unset s
    sim_stuck (no_way s) q f = no_way s

    -- the rules change the answer, the machine does not
    pub sim_map : {sp : ℕ} {m : Tables} {o : Outcome A} {r : Ret} (f : A → B) → Sim g P sp m o r →
        ((a : A) (t x : ℕ) (m₁ : Tables) → P a t x m₁ → Grow g sp m m₁ → Q (f a) t x m₁) → Sim g Q sp m (bind o (λ a s. ok (f a) s)) r
    unfolding bind
    sim_map h (goes p s a) f = goes (f _ _ _ _ p a) s a
    sim_map h (returns b s a) f = absurd b
    sim_map h (stops w s) f = stops w s
    sim_map h (unset s) f = unset s
    sim_map h (no_way s) f = no_way s

  -- a call's bindings pay for what waited
  paid : {sp t x : ℕ} {us : List Val} {m m₁ m₂ : Tables} → Waiting g m sp 0 us t x m₁ → Grow g 0 m m₁ → Grow g sp m₁ m₂ →
      length us + m₁.counts.bindings ≤ m₂.counts.bindings → Grow g sp m m₂
  paid w a h made =
      record {
        more = le_trans a.more h.more;
        old = λ k l. h.old k (le_trans l a.more) ∙ a.old k l;
        waits = λ k l b. h.waits k l (omega (arith, a.more, b)) ∙ w.keeps k l (omega (arith, made, b));
        fell = le_trans h.fell a.fell;
      }

  -- arguments, and then what makes a binding of each
  module _ {B : Type 0} {Q C : B → (t x : ℕ) → Tables → Type 0} where
    called : {sp t x : ℕ} {us : List Val} {m m₁ : Tables} {o : Outcome B} {r : Ret} → Waiting g m sp 0 us t x m₁ → Grow g 0 m m₁ →
        Sims g (Made g (length us) m₁ Q) (Made g (length us) m₁ C) sp m₁ o r → Sims g Q C sp m o r
    called w a (goes p s h) = goes p.it s (paid w a h p.made)
    called w a (returns p s h) = returns p.it s (paid w a h p.made)
    called w a (stops v s) = stops v s
    called w a (unset s) = unset s
    called w a (no_way s) = no_way s

    pub sim_call : {sp : ℕ} {m : Tables} {o : Outcome (List Val)} {r : Ret} {k : List Val → State → Outcome B} {k' : ℕ → ℕ → Tables → Ret} →
        Sim g (Waiting g m sp 0) 0 m o r →
        ((us : List Val) (s : State) (t x : ℕ) (m₁ : Tables) → Waiting g m sp 0 us t x m₁ → R g s m₁ → Grow g 0 m m₁ →
        Sims g (Made g (length us) m₁ Q) (Made g (length us) m₁ C) sp m₁ (k us s) (k' t x m₁)) → Sims g Q C sp m (bind o k) (and_then r k')
    unfolding bind and_then
    sim_call (goes w s a) f = called w a (f _ _ _ _ _ w s a)
    sim_call (returns b s a) f = absurd b
    sim_call (stops w s) f = stops w s
    sim_call (unset s) f = unset s
    sim_call (no_way s) f = no_way s

  -- parts of the rules that the machine has in one
  module _ {A B : Type 0} {Q C : B → (t x : ℕ) → Tables → Type 0} {sp : ℕ} {m : Tables} {r : Ret} where
    pub sim_ok : (a : A) (s : State) (k : A → State → Outcome B) → Sims g Q C sp m (k a s) r → Sims g Q C sp m (bind (ok a s) k) r
    unfolding bind
    sim_ok a s k h = h

    pub sim_after : {D : Type 0} (o : Outcome D) (f : D → State → Outcome A) (k : A → State → Outcome B) → Sims g Q C sp m (bind o λ a s. bind (f a s) k) r →
        Sims g Q C sp m (bind (bind o f) k) r
    unfolding bind
    sim_after (ok a s) f k h = h
    sim_after (halt w p s) f k h = h

  module _ {A : Type 0} {P Q B : A → (t x : ℕ) → Tables → Type 0} where
    -- the machine changes the answer, the rules do not; what is returned is passed on
    pub sim_end : {sp : ℕ} {m : Tables} {o : Outcome A} {r : Ret} {k : ℕ → ℕ → Tables → Ret} → Sims g P B sp m o r →
        ((a : A) (s : State) (t x : ℕ) (m₁ : Tables) → P a t x m₁ → R g s m₁ → Grow g sp m m₁ → Sims g Q B sp m₁ (ok a s) (k t x m₁)) →
        Sims g Q B sp m o (and_then r k)
    unfolding and_then
    sim_end (goes p s a) f = sim_lift a (f _ _ _ _ _ p s a)
    sim_end (returns b s a) f = returns b s a
    sim_end (stops w s) f = stops w s
    sim_end (unset s) f = unset s
    sim_end (no_way s) f = no_way s

  -- commands, and then others, which a RETURN passes over
  module _ {P Q : Returned → (t x : ℕ) → Tables → Type 0} where
    pub sim_unless : {sp : ℕ} {m : Tables} {o : Outcome Returned} {r : Ret} {k : State → Outcome Returned} {k' : ℕ → ℕ → Tables → Ret} →
        ((v : Val) (t x : ℕ) (m₁ : Tables) → P (some v) t x m₁ → ⊥) → Sims g P (IsBack g) sp m o r →
        ((s : State) (t x : ℕ) (m₁ : Tables) → P none t x m₁ → R g s m₁ → Grow g sp m m₁ → Sims g Q (IsBack g) sp m₁ (k s) (k' t x m₁)) →
        Sims g Q (IsBack g) sp m (unless_returned o k) (and_then r k')
    unfolding unless_returned and_then
    sim_unless n (goes {a = none} p s a) f = sim_lift a (f _ _ _ _ p s a)
    sim_unless n (goes {a = some v} p s a) f = absurd (n v _ _ _ p)
    sim_unless n (returns {a = none} b s a) f = absurd b
    sim_unless n (returns {a = some v} b s a) f = returns b s a
    sim_unless n (stops w s) f = stops w s
    sim_unless n (unset s) f = unset s
    sim_unless n (no_way s) f = no_way s

  module _ {A B : Type 0} {P C : B → (t x : ℕ) → Tables → Type 0} {Q : A → Type 0} where
    -- a form is asked for
    pub sim_need : {o : Option A} {b : Bool} (p : ℕ) {s : State} {sp : ℕ} {m : Tables} {k : A → Outcome B} {r : Ret} → Asks Q o b → R g s m →
        ((a : A) → Q a → Sims g P C sp m (k a) r) → Sims g P C sp m (need o p s k) (pick b (λ _. r) (λ _. is NoRule m))
    unfolding need pick
    sim_need p (asks_yes q) s f = f _ q
    sim_need p asks_no s f = no_way s

    -- the same where the machine only answers
    pub end_need : {o : Option A} {b : Bool} (p : ℕ) {s : State} {sp : ℕ} {m : Tables} {k : A → Outcome B} {e : Ending} → Asks Q o b → R g s m →
        ((a : A) → Q a → Sims g P C sp m (k a) (is e m)) → Sims g P C sp m (need o p s k) (is (pick b (λ _. e) (λ _. NoRule)) m)
    unfolding need pick
    end_need p (asks_yes q) s f = f _ q
    end_need p asks_no s f = no_way s

    -- what a script must see to
    pub sim_otherwise : {o : Option A} {b : Bool} {x : ErrorStop} → Plain (error x) → (p : ℕ) {s : State} {sp : ℕ} {m : Tables} {k : A → Outcome B} {r : Ret} → Asks Q o b → R g s m →
        ((a : A) → Q a → Sims g P C sp m (k a) r) → Sims g P C sp m (otherwise o x p s k) (pick b (λ _. r) (λ _. is (E.Stop (stop_number (error x)) p) m))
    unfolding otherwise pick
    sim_otherwise w p (asks_yes q) s f = f _ q
    sim_otherwise w p asks_no s f = stops w s

  -- ---- the forms of values

  pub asks_num : {b : List ℕ} {c t x : ℕ} {u : Val} → ValR g b c u t x → Asks (λ z. z ≡ to_z w64 x) (as_number u) (eqb t number_tag)
  asks_num (v_num x) = asks_yes refl
  asks_num (v_fun p e n) = asks_no
  asks_num (v_rec p e n) = asks_no
  asks_num (v_proc p e n) = asks_no
  asks_num (v_proc_rec p e n) = asks_no
  asks_num v_adr = asks_no
  asks_num (v_block x) = asks_no

  pub asks_address : {b : List ℕ} {c t x : ℕ} {u : Val} → ValR g b c u t x → Asks (λ a. a ≡ x) (as_address u) (eqb t address_tag)
  asks_address (v_num x) = asks_no
  asks_address (v_fun p e n) = asks_no
  asks_address (v_rec p e n) = asks_no
  asks_address (v_proc p e n) = asks_no
  asks_address (v_proc_rec p e n) = asks_no
  asks_address v_adr = asks_yes refl
  asks_address (v_block x) = asks_no

  pub asks_block : {b : List ℕ} {c t x : ℕ} {u : Val} → ValR g b c u t x → Asks (λ k. k ≡ (first_of x, length_of x)) (as_block u) (eqb t block_tag)
  asks_block (v_num x) = asks_no
  asks_block (v_fun p e n) = asks_no
  asks_block (v_rec p e n) = asks_no
  asks_block (v_proc p e n) = asks_no
  asks_block (v_proc_rec p e n) = asks_no
  asks_block v_adr = asks_no
  asks_block (v_block x) = asks_yes refl

-- a word of 2 and more is no bit
pub no_bit : (b : Bool) (n k : ℕ) → as_bit (sel b (pos (suc (suc n))) (negsuc k)) ≡ none
no_bit true n k = refl
no_bit false n k = refl

module _ {g : Stage} {B : Type 0} {P C : B → (t x : ℕ) → Tables → Type 0} where
  word_bit : (x p : ℕ) {s : State} {sp : ℕ} {m : Tables} {a b : Outcome B} {r₁ r₀ : Ret} → R g s m → Sims g P C sp m a r₁ → Sims g P C sp m b r₀ →
      Sims g P C sp m (need (as_bit (to_z w64 x)) p s λ t. branch t a b) (pick (eqb x 0) (λ _. r₀) λ _. pick (eqb x 1) (λ _. r₁) λ _. is NoRule m)
  unfolding need branch pick
  word_bit zero p s h k = k
  word_bit (suc zero) p s h k = h
  word_bit (suc (suc n)) p s h k = rw (no_bit (ltb (suc (suc n)) 9223372036854775808) n _, eqb-suc-zero (suc n), eqb-suc-suc (suc n) 0, eqb-suc-zero n)
      (no_way s)

  -- 1 or 0 is asked for
  pub sim_bit : {b : List ℕ} {c t x : ℕ} {u : Val} (p : ℕ) {s : State} {sp : ℕ} {m : Tables} {oa ob : Outcome B} {r₁ r₀ : Ret} → ValR g b c u t x → R g s m →
      Sims g P C sp m oa r₁ → Sims g P C sp m ob r₀ → Sims g P C sp m (need (as_truth u) p s λ t. branch t oa ob) (on_bit t x m (λ _. r₁) λ _. r₀)
  unfolding need pick on_bit
  sim_bit p (v_num x) s h k = word_bit x p s h k
  sim_bit p (v_fun q e n) s h k = no_way s
  sim_bit p (v_rec q e n) s h k = no_way s
  sim_bit p (v_proc q e n) s h k = no_way s
  sim_bit p (v_proc_rec q e n) s h k = no_way s
  sim_bit p v_adr s h k = no_way s
  sim_bit p (v_block x) s h k = no_way s
