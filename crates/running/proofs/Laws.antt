-- What the evaluator's steps do with an answer, and what loops keep.
use mathlib.Core.Path.{◌≡◌, refl, sym, ap, subst, ◌∙◌}
use mathlib.Core.Bool.{Bool, true, false}
use mathlib.Core.List.{List}
use Prim.Native.Nat.{ℕ, ◌-◌, ◌≤◌, ◌<◌}
use native.Mathlib.Omega.{arith}
use lib.Dec.{T, eqb, ltb, ltb→lt}
use borrow.Author.Tests.{eqb-true}
use Rattle.nodes.specs.Nodes.{node_at}
use Rattle.machine.specs.declared.Ending.{Ending}
use Rattle.machine.specs.declared.Ending.TheVariants.{Value, Stop, Unset, Returned, NoRule}
use Rattle.machine.specs.Entries.{pick}
use Rattle.machine.specs.State.{Run, Tables, Ret, is, valued, on_value, and_then, spend, guard}
use Rattle.machine.specs.Machine.{on_bit, below, level}
use Rattle.machine.proofs.Members.{below_level}
use Rattle.entering.specs.Opening.{guarded}
use Rattle.stores.specs.declared.End.TheVariants as E
use Rattle.stores.proofs.Laws.{NoValue, not_value, end_no_value}
use Rattle.entering.proofs.Laws.{stop_no_value, same_word}
use Rattle.running.specs.Lent.{round_tag}
use Rattle.stores.specs.Choices.{is_bit, bit_answer, branch_of, round_end}

-- ---- answers

-- an answer that is no value is passed on
pub passes : (r : Ret) → NoValue r.ending → (k : ℕ → ℕ → Tables → Ret) → r ≡ and_then r k
unfolding and_then
passes r h k = not_value r.ending h r.after k

-- a value goes into what follows
pub goes : (r : Ret) (t x : ℕ) → r.ending ≡ Value t x → (k : ℕ → ℕ → Tables → Ret) → and_then r k ≡ k t x r.after
unfolding and_then
goes r t x h k = ap (λ (e : Ending). on_value e r.after k) h

-- any value
pub any_value : (r : Ret) (t x : ℕ) → r.ending ≡ Value t x → (k : Tables → Ret) → and_then r (λ _ _ m. k m) ≡ k r.after
any_value r t x h k = goes r t x h λ _ _ m. k m

-- two things that may follow and do the same
pub follow : (r : Ret) (k l : ℕ → ℕ → Tables → Ret) → ((t x : ℕ) (m : Tables) → k t x m ≡ l t x m) → and_then r k ≡ and_then r l
unfolding and_then
follow r k l h = by r.ending
  where
    by : (e : Ending) → on_value e r.after k ≡ on_value e r.after l
    by (Value t x) = h t x r.after
    by (Stop n p) = refl
    by (Unset p q) = refl
    by (Returned t x) = refl
    by NoRule = refl

-- every value of r is v
abbrev pub Only : (v : Ending) → Ret → Type 0
Only v r = (t x : ℕ) → r.ending ≡ Value t x → Value t x ≡ v

pub only_then : (v : Ending) (r : Ret) (k : ℕ → ℕ → Tables → Ret) → ((t x : ℕ) (m : Tables) → Only v (k t x m)) → Only v (and_then r k)
unfolding and_then
only_then v r k h = by r.ending
  where
    by : (e : Ending) → Only v (on_value e r.after k)
    by (Value t x) = h t x r.after
    by (Stop n p) = λ t x q. absurd (end_no_value (E.Stop n p) t x q)
    by (Unset p o) = λ t x q. absurd (end_no_value (E.Unset p o) t x q)
    by (Returned u y) = λ t x q. absurd (end_no_value (E.Returned (record { tag = u; word = y })) t x q)
    by NoRule = λ t x q. absurd (end_no_value E.NoRule t x q)

pub same_tag : (t x u y : ℕ) → Value t x ≡ Value u y → t ≡ u
same_tag t x u y h = ap tag_in h
  where
    tag_in : Ending → ℕ
    tag_in (Value t x) = t
    tag_in (Stop n p) = 0
    tag_in (Unset p q) = 0
    tag_in (Returned t x) = 0
    tag_in NoRule = 0

pub valued_one : (e : Ending) (t x : ℕ) → e ≡ Value t x → valued e ≡ 1
valued_one e t x h = ap valued h

-- ---- entries

module _ (d p : ℕ) (m : Tables) (r : Ret) (r-is : r ≡ guarded d p m) where
  -- what the code found, by whether a unit and a level are left
  abbrev Found : (unit level : Bool) → Type 0
  Found a b = r ≡ pick a (λ _. pick b (λ _. is (Value 7 (d - 1)) (spend m)) λ _. is (Stop 21 p) (spend m)) λ _. is (Stop 20 p) m

  -- a stop is what the entry comes to
  pub guard_stops : NoValue r.ending → (k : Tables → Ret) → r ≡ guard d p m k
  unfolding guarded guard pick
  guard_stops h k = by (ltb 0 m.counts.units) (ltb 0 d) r-is
    where
      by : (a b : Bool) → Found a b → r ≡ pick a (λ _. pick b (λ _. k (spend m)) λ _. is (Stop 21 p) (spend m)) λ _. is (Stop 20 p) m
      by false b e = e
      by true false e = e
      by true true e = absurd (h 7 (d - 1) (ap (λ (q : Ret). q.ending) e))

  module _ (t x : ℕ) (found : r.ending ≡ Value t x) where
    -- a value says that the entry goes on, and how many levels are left
    pub guard_goes : (k : Tables → Ret) → guard d p m k ≡ k r.after
    unfolding guarded guard pick
    guard_goes k = by (ltb 0 m.counts.units) (ltb 0 d) r-is
      where
        by : (a b : Bool) → Found a b → pick a (λ _. pick b (λ _. k (spend m)) λ _. is (Stop 21 p) (spend m)) (λ _. is (Stop 20 p) m) ≡ k r.after
        by false b e = absurd (stop_no_value _ _ _ _ (sym (ap (λ (q : Ret). q.ending) e) ∙ found))
        by true false e = absurd (stop_no_value _ _ _ _ (sym (ap (λ (q : Ret). q.ending) e) ∙ found))
        by true true e = sym (ap (λ (q : Ret). k q.after) e)

    left : (x ≡ d - 1) × (d ≡ 0 → ⊥)
    unfolding guarded guard pick
    left = by (ltb 0 m.counts.units) (ltb 0 d) refl r-is
      where
        by : (a b : Bool) → ltb 0 d ≡ b → Found a b → (x ≡ d - 1) × (d ≡ 0 → ⊥)
        by false b f e = absurd (stop_no_value _ _ _ _ (sym (ap (λ (q : Ret). q.ending) e) ∙ found))
        by true false f e = absurd (stop_no_value _ _ _ _ (sym (ap (λ (q : Ret). q.ending) e) ∙ found))
        by true true f e = (
          same_word _ _ _ _ (sym found ∙ ap (λ (q : Ret). q.ending) e),
          λ z. let l = ltb→lt 0 d (subst T (sym f) tt) in omega (arith, l, z),
        )

    -- one level further down
    pub guard_level : (g : Run) → below g d ≡ level g x
    guard_level g = below_level g d left.1 ∙ ap (level g) (sym left.0)

-- ---- bits

bit_is : (t x b : ℕ) → is_bit t x b ≡ true → (t ≡ 0) × (x ≡ b)
unfolding is_bit pick
bit_is t x b = by (eqb t 0) refl
  where
    by : (q : Bool) → eqb t 0 ≡ q → pick q (λ _. eqb x b) (λ _. false) ≡ true → (t ≡ 0) × (x ≡ b)
    by true e h = (eqb-true t 0 e, eqb-true x b h)
    by false e h = absurd (subst T (sym h) tt)

module _ (t x : ℕ) (m : Tables) (a b : Unit {0} → Ret) where
  pub on_one : is_bit t x 1 ≡ true → on_bit t x m a b ≡ a tt
  unfolding on_bit pick
  on_one h = let e = bit_is t x 1 h in rw (e.0, e.1)

  pub on_zero : is_bit t x 0 ≡ true → on_bit t x m a b ≡ b tt
  unfolding on_bit pick
  on_zero h = let e = bit_is t x 0 h in rw (e.0, e.1)

  pub on_neither : is_bit t x 0 ≡ false → is_bit t x 1 ≡ false → on_bit t x m a b ≡ is NoRule m
  unfolding on_bit is_bit pick
  on_neither = by (eqb t 0) (eqb x 0) (eqb x 1)
    where
      by : (p q r : Bool) → pick p (λ _. q) (λ _. false) ≡ false → pick p (λ _. r) (λ _. false) ≡ false →
          pick p (λ _. pick q b (λ _. pick r a λ _. is NoRule m)) (λ _. is NoRule m) ≡ is NoRule m
      by true true r h l = cc
      by true false true h l = cc
      by true false false h l = refl
      by false q r h l = refl

-- what a bit chooses
pub on_branch : (tree : List ℕ) (i t x : ℕ) (m : Tables) (k : ℕ → Ret) →
    on_bit t x m (λ _. k i) (λ _. k (node_at tree i).next) ≡ on_value (branch_of tree i t x) m λ _ j _. k j
unfolding branch_of pick
on_branch tree i t x m k = by (is_bit t x 1) refl (is_bit t x 0) refl
  where
    by : (p : Bool) → is_bit t x 1 ≡ p → (q : Bool) → is_bit t x 0 ≡ q →
        on_bit t x m (λ _. k i) (λ _. k (node_at tree i).next) ≡ on_value (branch_of tree i t x) m λ _ j _. k j
    by true e q f = on_one t x m _ _ e ∙ sym (rw e)
    by false e true f = on_zero t x m _ _ f ∙ sym (rw (e, f))
    by false e false f = on_neither t x m _ _ f e ∙ sym (rw (e, f))

-- what follows a bit that is not 1, and one that is not 0
module _ (t x : ℕ) (m : Tables) (a : Unit {0} → Ret) where
  pub not_one : is_bit t x 1 ≡ false → on_bit t x m a (λ _. is (Value 0 0) m) ≡ is (bit_answer t x) m
  unfolding bit_answer pick
  not_one e = by (is_bit t x 0) refl
    where
      by : (q : Bool) → is_bit t x 0 ≡ q → on_bit t x m a (λ _. is (Value 0 0) m) ≡ is (bit_answer t x) m
      by true f = on_zero t x m a _ f ∙ sym (rw f)
      by false f = on_neither t x m a _ f e ∙ sym (rw (f, e))

  pub not_zero : is_bit t x 0 ≡ false → on_bit t x m (λ _. is (Value 0 1) m) a ≡ is (bit_answer t x) m
  unfolding bit_answer pick
  not_zero e = by (is_bit t x 1) refl
    where
      by : (q : Bool) → is_bit t x 1 ≡ q → on_bit t x m (λ _. is (Value 0 1) m) a ≡ is (bit_answer t x) m
      by true f = on_one t x m _ a f ∙ sym (rw (e, f))
      by false f = on_neither t x m _ a e f ∙ sym (rw (e, f))

  pub no_round : (env : ℕ) → is_bit t x 1 ≡ false → on_bit t x m a (λ _. is (Value 7 env) m) ≡ is (round_end t x env) m
  unfolding round_end pick
  no_round env e = by (is_bit t x 0) refl
    where
      by : (q : Bool) → is_bit t x 0 ≡ q → on_bit t x m a (λ _. is (Value 7 env) m) ≡ is (round_end t x env) m
      by true f = on_zero t x m a _ f ∙ sym (rw f)
      by false f = on_neither t x m a _ f e ∙ sym (rw f)

-- ---- loops: after some turns, with so many units left, what is to do gives what the whole gives

pub record Going (turns : ℕ → Ret) (whole : Ret) (units first : ℕ) : Type 0 where
  pub left : ℕ
  pub more : units < left
  pub same : turns left ≡ whole
  pub spent : units ≤ first

-- whether a round asks for one more

pub once_more : (b : Bool) → b ≡ true → round_tag b ≡ 8
once_more true h = refl
once_more false h = cc

pub not_again : (b : Bool) → b ≡ false → round_tag b ≡ 8 → ⊥
not_again true h k = cc
not_again false h k = omega (arith, k)

pub over : (b : Bool) (env : ℕ) (m : Tables) → b ≡ false → is (Value 7 env) m ≡ is (Value (round_tag b) env) m
over true env m h = cc
over false env m h = refl
