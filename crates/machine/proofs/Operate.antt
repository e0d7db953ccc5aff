-- Numbers and operators: what the machine computes from words is what the rules compute from numbers.
use mathlib.Core.Path.{◌≡◌, refl, sym, subst}
use mathlib.Core.Bool.{Bool, true, false, cond}
use mathlib.Core.List.{List, [], ◌∷◌}
use mathlib.Core.Option.{Option, none, some}
use Prim.Native.Nat.{ℕ, zero, suc, ◌≤◌, ◌<◌}
use native.Mathlib.Nat.{not-suc-le-zero}
use native.Mathlib.Omega.{arith}
use lib.Dec.{T, eqb, ltb, leb, leb→le, eqb-suc-zero, eqb-suc-suc}
use lib.ListN.{length}
use lib.IntN.{ℤ, pos, negsuc, ◌+ℤ◌, ◌-ℤ◌, ◌*ℤ◌}
use lib.Signed.{lt_z}
use mir.Syntax.{w64}
use mir.Val.{to_z, of_z, SFits}
use mir.Facts.{to_z-of_z}
use Rattle.language.specs.Answers.{ErrorStop, RANGE, error}
use Rattle.language.specs.Names.{Op, not, eq, lt, add, sub, mul, div, operator}
use Rattle.language.specs.Numbers.{top, in_range, quotient, Computed, amount, fails, ranged, same_number, bit, as_bit, op1, op2, compute}
use Rattle.language.specs.Numbers as Numbers
use Rattle.language.specs.Rules.{Val, in_z, State, no_rule, Outcome, halt, need, give, as_number, as_numbers, if_number, if_numbers, behind}
use Rattle.language.specs.Rules as Rules
use Rattle.nodes.specs.Names.{meaning_no}
use Rattle.machine.specs.declared.Ending.{Ending}
use Rattle.machine.specs.declared.Ending.TheVariants.{Value, NoRule}
use Rattle.machine.specs.Entries.{pick, number_tag, row}
use Rattle.machine.specs.State.{Tables, is}
use Rattle.machine.specs.Leaves.{given, computed_by, negated, combined}
use Rattle.machine.proofs.Lists.{Asks, asks_yes, asks_no}
use Rattle.machine.proofs.Relation.{Stage, v_num, v_fun, v_rec, v_proc, v_proc_rec, v_adr, v_block, ValR, R, Plain, plain_range, plain_zero, Sim, goes, stops, no_way, IsVal}
use Rattle.machine.proofs.Agree.{grow_self, no_bit, asks_num}

-- ---- numbers that words hold

-- what is computed fits a word
pub data Sized : Computed → Type 0 where
  fits : {z : ℤ} → SFits w64 z → Sized (amount z)
  no_amount : {x : ErrorStop} → Plain (error x) → Sized (fails x)

below_greatest : (n : ℕ) → leb n top ≡ true → n < 9223372036854775808
below_greatest n h = let l = leb→le n top (subst (λ (b : Bool). T b) (sym h) tt) in omega (arith, l)

first_true : (b : Bool) → cond b true false ≡ true → b ≡ true
first_true true h = refl
first_true false h = h

pub in_range_fits : (z : ℤ) → in_range z ≡ true → SFits w64 z
in_range_fits (pos n) h = record { sfits = below_greatest n h }
in_range_fits (negsuc n) h = record { sfits = below_greatest n (first_true (leb n top) h) }

sized_if : (z : ℤ) (b : Bool) → in_range z ≡ b → Sized (cond b (amount z) (fails RANGE))
sized_if z true h = fits (in_range_fits z h)
sized_if z false h = no_amount plain_range

sized_ranged : (z : ℤ) → Sized (ranged z)
sized_ranged z = sized_if z (in_range z) refl

sized_bit : (b : Bool) → Sized (amount (bit b))
sized_bit true = fits (in_range_fits (pos 1) refl)
sized_bit false = fits (in_range_fits (pos 0) refl)

sized_pick : (b : Bool) {x y : Computed} → Sized x → Sized y → Sized (pick b (λ _. x) λ _. y)
unfolding pick
sized_pick true h k = h
sized_pick false h k = k

sized_cond : (b : Bool) {x y : Computed} → Sized x → Sized y → Sized (cond b x y)
sized_cond true h k = h
sized_cond false h k = k

sized_by : (o : ℕ) (a b : ℤ) → Sized (computed_by o a b)
unfolding computed_by
sized_by o a b =
    sized_pick (eqb o 4) (sized_bit (same_number a b)) (sized_pick (eqb o 5) (sized_bit (lt_z a b)) (sized_pick (eqb o 6) (sized_ranged (a +ℤ b))
    (sized_pick (eqb o 7) (sized_ranged (a -ℤ b)) (sized_pick (eqb o 8) (sized_ranged (a *ℤ b))
    (sized_cond (same_number b (pos 0)) (no_amount plain_zero) (sized_ranged (quotient a b)))))))

module _ {g : Stage} where
  pub number_val : {b : List ℕ} {c : ℕ} (z : ℤ) → SFits w64 z → ValR g b c (in_z z) number_tag (of_z w64 z)
  number_val {b} {c} z h = subst (λ (y : ℤ). ValR g b c (in_z y) number_tag (of_z w64 z)) (to_z-of_z {w = w64} {z = z} h) (v_num (of_z w64 z))

  pub give_sim : (c : Computed) (p : ℕ) {sp : ℕ} {s : State} {m : Tables} → Sized c → R g s m → Sim g (IsVal g) sp m (give c p s) (is (given c p) m)
  unfolding give
  give_sim (amount z) p (fits h) r = goes (number_val z h) r grow_self
  give_sim (fails x) p (no_amount w) r = stops w r

  -- no rule fits, and the machine says so
  neither_way : {A B : Type 0} {P : B → (t x : ℕ) → Tables → Type 0} (o : Option A) (e : Ending) (p : ℕ) (k : A → Outcome B) {sp : ℕ} {s : State} {m : Tables} →
      o ≡ none → e ≡ NoRule → R g s m → Sim g P sp m (need o p s k) (is e m)
  unfolding need
  neither_way o e p k h j r = rw (h, j) (no_way r)

-- ---- how many values an operator takes

-- three values and more, and two of `not`
long_none : (f : Op) (a b c : Option ℤ) (l : Option (List ℤ)) →
    if_numbers (if_number a λ x. behind x (if_number b λ y. behind y (if_number c λ z. behind z l))) (compute f) ≡ none
long_none f none b c l = refl
long_none f (some x) none c l = refl
long_none f (some x) (some y) none l = refl
long_none f (some x) (some y) (some z) none = refl
long_none f (some x) (some y) (some z) (some l) = refl

not_of_two : (a b : Option ℤ) → if_numbers (if_number a λ x. behind x (if_number b λ y. behind y (some []))) (compute not) ≡ none
not_of_two none b = refl
not_of_two (some x) none = refl
not_of_two (some x) (some y) = refl

none_of_one : (f : Op) → ((z : ℤ) → op1 f z ≡ none) → (a : Option ℤ) → if_numbers (if_number a λ x. behind x (some [])) (compute f) ≡ none
none_of_one f h none = refl
none_of_one f h (some z) = h z

module _ {g : Stage} where
  -- ---- not

  bit_negated : (x p : ℕ) {sp : ℕ} {s : State} {m : Tables} → R g s m →
      Sim g (IsVal g) sp m (need (Numbers.negated (as_bit (to_z w64 x))) p s λ c. give c p s)
      (is (pick (eqb x 0) (λ _. Value number_tag 1) λ _. pick (eqb x 1) (λ _. Value number_tag 0) λ _. NoRule) m)
  unfolding need give pick
  bit_negated zero p r = goes (v_num 1) r grow_self
  bit_negated (suc zero) p r = goes (v_num 0) r grow_self
  bit_negated (suc (suc n)) p r = rw (no_bit (ltb (suc (suc n)) 9223372036854775808) n _, eqb-suc-zero (suc n), eqb-suc-suc (suc n) 0, eqb-suc-zero n)
      (no_way r)

  one_negated : {t x : ℕ} {u : Val} (p : ℕ) {sp : ℕ} {s : State} {m : Tables} → IsVal g u t x m → R g s m →
      Sim g (IsVal g) sp m (need (Rules.operate not (u ∷ [])) p s λ c. give c p s) (is (negated 3 (row t x)) m)
  unfolding need negated pick
  one_negated p (v_num x) r = bit_negated x p r
  one_negated p (v_fun q e n) r = no_way r
  one_negated p (v_rec q e n) r = no_way r
  one_negated p (v_proc q e n) r = no_way r
  one_negated p (v_proc_rec q e n) r = no_way r
  one_negated p v_adr r = no_way r
  one_negated p (v_block x) r = no_way r

  -- ---- the operators of two numbers

  module _ (f : Op) (o : ℕ) (two : (a b : ℤ) → op2 f a b ≡ some (computed_by o a b)) (other : eqb o 3 ≡ false) where
    of_numbers : {oa ob : Option ℤ} {ba bb : Bool} (x y : ℤ) (p : ℕ) {sp : ℕ} {s : State} {m : Tables} → Asks (λ z. z ≡ x) oa ba → Asks (λ z. z ≡ y) ob bb →
        R g s m →
        Sim g (IsVal g) sp m (need (if_numbers (if_number oa λ z. behind z (if_number ob λ z. behind z (some []))) (compute f)) p s λ c. give c p s)
        (is (pick ba (λ _. pick bb (λ _. given (computed_by o x y) p) λ _. NoRule) λ _. NoRule) m)
    unfolding need pick
    of_numbers x y p (asks_yes {a = a} h) (asks_yes {a = b} k) r = rw (h, k, two x y) (give_sim (computed_by o x y) p (sized_by o x y) r)
    of_numbers x y p (asks_yes h) asks_no r = no_way r
    of_numbers x y p asks_no k r = no_way r

    two_combined : {t x t' x' : ℕ} {u v : Val} (p : ℕ) {sp : ℕ} {s : State} {m : Tables} → IsVal g u t x m → IsVal g v t' x' m → R g s m →
        Sim g (IsVal g) sp m (need (Rules.operate f (u ∷ v ∷ [])) p s λ c. give c p s) (is (combined o p (row t x) (row t' x')) m)
    unfolding combined pick
    two_combined {x = x} {x' = y} p a b r = rw (other, pick) (of_numbers (to_z w64 x) (to_z w64 y) p (asks_num a) (asks_num b) r)

  -- an operator of one value, of two, and of more
  pub unary_sim : (f : Op) {t x : ℕ} {u : Val} (p : ℕ) {sp : ℕ} {s : State} {m : Tables} → IsVal g u t x m → R g s m →
      Sim g (IsVal g) sp m (need (Rules.operate f (u ∷ [])) p s λ c. give c p s) (is (negated (meaning_no (operator f)) (row t x)) m)
  unfolding negated pick
  unary_sim not p v r = one_negated p v r
  unary_sim eq {u = u} p v r = neither_way _ _ p _ (none_of_one eq (λ z. refl) (as_number u)) refl r
  unary_sim lt {u = u} p v r = neither_way _ _ p _ (none_of_one lt (λ z. refl) (as_number u)) refl r
  unary_sim add {u = u} p v r = neither_way _ _ p _ (none_of_one add (λ z. refl) (as_number u)) refl r
  unary_sim sub {u = u} p v r = neither_way _ _ p _ (none_of_one sub (λ z. refl) (as_number u)) refl r
  unary_sim mul {u = u} p v r = neither_way _ _ p _ (none_of_one mul (λ z. refl) (as_number u)) refl r
  unary_sim div {u = u} p v r = neither_way _ _ p _ (none_of_one div (λ z. refl) (as_number u)) refl r

  pub binary_sim : (f : Op) {t x t' x' : ℕ} {u v : Val} (p : ℕ) {sp : ℕ} {s : State} {m : Tables} → IsVal g u t x m → IsVal g v t' x' m → R g s m →
      Sim g (IsVal g) sp m (need (Rules.operate f (u ∷ v ∷ [])) p s λ c. give c p s) (is (combined (meaning_no (operator f)) p (row t x) (row t' x')) m)
  unfolding combined pick computed_by
  binary_sim not {u = u} {v = v} p a b r = neither_way _ _ p _ (not_of_two (as_number u) (as_number v)) refl r
  binary_sim eq p a b r = two_combined eq 4 (λ z w. refl) refl p a b r
  binary_sim lt p a b r = two_combined lt 5 (λ z w. refl) refl p a b r
  binary_sim add p a b r = two_combined add 6 (λ z w. refl) refl p a b r
  binary_sim sub p a b r = two_combined sub 7 (λ z w. refl) refl p a b r
  binary_sim mul p a b r = two_combined mul 8 (λ z w. refl) refl p a b r
  binary_sim div p a b r = two_combined div 9 (λ z w. refl) refl p a b r

pub more_stuck : (f : Op) (u v : Val) (us : List Val) (p : ℕ) (s : State) → 1 ≤ length us →
    (need (Rules.operate f (u ∷ v ∷ us)) p s λ c. give c p s) ≡ halt no_rule p s
unfolding need
more_stuck f u v [] p s h = absurd (not-suc-le-zero h)
more_stuck f u v (x ∷ us) p s h = rw (long_none f (as_number u) (as_number v) (as_number x) (as_numbers us))
