-- Numbers and names of a text as the code reads them.
use mathlib.Core.Path.{◌≡◌, refl, sym, ap, ◌∙◌}
use mathlib.Core.Bool.{Bool, true, false, cond}
use mathlib.Core.List.{List, [], ◌∷◌}
use Prim.Native.Nat.{ℕ, ◌+◌, ◌≤◌, ◌<◌}
use native.Mathlib.Omega.{arith}
use borrow.Author.Tests.{ne_eqb}
use lib.Dec.{eqb}
use lib.IntN.{ℤ, pos, neg_ℤ}
use lib.ListN.{drop}
use mir.Syntax.{w64}
use mir.Val.{to_z, of_z, SFits}
use mir.Facts.{to_z-of_z}
use Rattle.language.specs.Syntax.{Name}
use Rattle.language.specs.Numbers.{Computed, amount, ranged}
use Rattle.language.specs.Words.{is_digit, stretch, decimal, name_at}
use Rattle.language.specs.Names.{not, eq, lt, add, sub, mul, div, Meaning, literal, operator, free, meaning, operator_of}
use Rattle.amounts.specs.Amounts.{computed}
use Rattle.amounts.specs.Signs.{signed}
use Rattle.std.specs.Prelude.{Option, Some, None}
use Rattle.numerals.specs.Written.{written_from, number_front, read_number}
use Rattle.numerals.specs.declared.Numeral.{Numeral}
use Rattle.numerals.proofs.Written.{computed_written}
use Rattle.nodes.specs.Names.{meaning_no}
use Rattle.nodes.specs.Nodes.{node_at}
use Rattle.nodes.specs.Trees.{Script, kind, place, child}
use Rattle.nodes.specs.Written.{number_from, number_at}
use Rattle.nodes.specs.declared.Node.{Node}
use Rattle.machine.specs.Entries.{pick}
use Rattle.machine.specs.Codes.{level_among, code_by_meaning, code_of, operator_no, word_of_number, operator_at, code_for}

-- a number that fits 64 bits is kept in them
pub kept : (z a : ℤ) → SFits w64 z → z ≡ a → to_z w64 (of_z w64 z) ≡ a
kept z a f e = to_z-of_z f ∙ e

-- what reading a number finds is the number that is written there, and 0 where none is
abbrev found : Option Numeral → Computed
found (Some n) = computed n.value
found None = amount (pos 0)

digits_found : (i : ℕ) (negative : Bool) (digits : List ℕ) → found (written_from i negative digits) ≡ ranged (signed negative (decimal 0 digits))
digits_found i true [] = refl
digits_found i false [] = refl
digits_found i negative (d ∷ ds) = computed_written (signed negative (decimal 0 (d ∷ ds)))

number_found : (i : ℕ) (s : List ℕ) → found (number_front i s) ≡ ranged (number_from s)
number_found i [] = refl
number_found i (b ∷ s) = by (eqb b 45)
  where
    by : (t : Bool) →
        found (cond t (written_from (i + 1) true (stretch is_digit s)) (written_from i false (stretch is_digit (b ∷ s)))) ≡
        ranged (cond t (neg_ℤ (pos (decimal 0 (stretch is_digit s)))) (pos (decimal 0 (stretch is_digit (b ∷ s)))))
    by true = digits_found (i + 1) true (stretch is_digit s)
    by false = digits_found i false (stretch is_digit (b ∷ s))

pub number_read : (text : List ℕ) (i : ℕ) (n : Numeral) → read_number text i ≡ Some n → computed n.value ≡ ranged (number_at text i)
unfolding number_at
number_read text i n e = sym (ap found e) ∙ number_found i (drop i text)

pub number_not : (text : List ℕ) (i : ℕ) → read_number text i ≡ None → amount (pos 0) ≡ ranged (number_at text i)
unfolding number_at
number_not text i e = sym (ap found e) ∙ number_found i (drop i text)

-- ---- names by themselves: 0 is a free name, 1 and 2 are literals, the others operators

free_code : (m : Meaning) (c : ℕ) → meaning_no m ≡ 0 → code_by_meaning m c ≡ c
free_code free c h = refl
free_code (literal true) c h = absurd (omega (arith, h))
free_code (literal false) c h = absurd (omega (arith, h))
free_code (operator not) c h = absurd (omega (arith, h))
free_code (operator eq) c h = absurd (omega (arith, h))
free_code (operator lt) c h = absurd (omega (arith, h))
free_code (operator add) c h = absurd (omega (arith, h))
free_code (operator sub) c h = absurd (omega (arith, h))
free_code (operator mul) c h = absurd (omega (arith, h))
free_code (operator div) c h = absurd (omega (arith, h))

nine_code : (m : Meaning) (c : ℕ) → (meaning_no m ≡ 0 → ⊥) → code_by_meaning m c ≡ meaning_no m
nine_code free c h = absurd (h refl)
nine_code (literal b) c h = refl
nine_code (operator f) c h = refl

pub free_name : (Γ : List Name) (x : Name) (m r : ℕ) → m ≡ meaning_no (meaning x) → m ≡ 0 → r ≡ level_among Γ x → r ≡ code_of Γ x
free_name Γ x m r e h l = l ∙ sym (free_code (meaning x) (level_among Γ x) (sym e ∙ h))

pub nine_name : (Γ : List Name) (x : Name) (m : ℕ) → m ≡ meaning_no (meaning x) → (m ≡ 0 → ⊥) → m ≡ code_of Γ x
nine_name Γ x m e h = e ∙ sym (nine_code (meaning x) (level_among Γ x) (λ z. h (e ∙ z)))

no_operator : (m : Meaning) → meaning_no m < 3 → operator_no (operator_of m) ≡ 0
no_operator free h = refl
no_operator (literal b) h = refl
no_operator (operator not) h = absurd (omega (arith, h))
no_operator (operator eq) h = absurd (omega (arith, h))
no_operator (operator lt) h = absurd (omega (arith, h))
no_operator (operator add) h = absurd (omega (arith, h))
no_operator (operator sub) h = absurd (omega (arith, h))
no_operator (operator mul) h = absurd (omega (arith, h))
no_operator (operator div) h = absurd (omega (arith, h))

an_operator : (m : Meaning) → 3 ≤ meaning_no m → operator_no (operator_of m) ≡ meaning_no m
an_operator free h = absurd (omega (arith, h))
an_operator (literal true) h = absurd (omega (arith, h))
an_operator (literal false) h = absurd (omega (arith, h))
an_operator (operator f) h = refl

-- ---- the code of a node by its kind

module _ (g : Script) (i : ℕ) (n : Node) (n-is : n ≡ node_at g.tree i) where
  kind_is : n.kind ≡ kind g i
  kind_is = ap (λ (x : Node). x.kind) n-is

  place_is : n.place ≡ place g i
  place_is = ap (λ (x : Node). x.place) n-is

  child_is : n.child ≡ child g i
  child_is = ap (λ (x : Node). x.child) n-is

  pub other_head : (n.kind ≡ 19 → ⊥) → 0 ≡ operator_at g (kind g i) i
  unfolding operator_at pick
  other_head h = rw (← kind_is, ne_eqb _ 19 h)

  pub literal_head : n.kind ≡ 19 → (m : ℕ) → m ≡ meaning_no (meaning (name_at g.text n.place)) → m < 3 → 0 ≡ operator_at g (kind g i) i
  unfolding operator_at pick
  literal_head h m e l = rw (← kind_is, h, ← place_is) (sym (no_operator (meaning (name_at g.text n.place)) (omega arith)))

  pub operator_head : n.kind ≡ 19 → (m : ℕ) → m ≡ meaning_no (meaning (name_at g.text n.place)) → 3 ≤ m → m ≡ operator_at g (kind g i) i
  unfolding operator_at pick
  operator_head h m e l = rw (← kind_is, h, ← place_is) (e ∙ sym (an_operator (meaning (name_at g.text n.place)) (omega arith)))

  module _ (Γ : List Name) where
    pub code_number : n.kind ≡ 18 → (r : ℕ) → r ≡ word_of_number (ranged (number_at g.text n.place)) → r ≡ code_for g n.kind i Γ
    unfolding code_for pick
    code_number h r e = rw (h, ← place_is) e

    pub code_name : n.kind ≡ 19 → (r : ℕ) → r ≡ code_of Γ (name_at g.text n.place) → r ≡ code_for g n.kind i Γ
    unfolding code_for pick
    code_name h r e = rw (h, ← place_is) e

    pub code_application : n.kind ≡ 23 → (r : ℕ) → r ≡ operator_at g (kind g n.child) n.child → r ≡ code_for g n.kind i Γ
    unfolding code_for pick
    code_application h r e = rw (h, ← child_is) e

    pub code_none : (n.kind ≡ 18 → ⊥) → (n.kind ≡ 19 → ⊥) → (n.kind ≡ 23 → ⊥) → 0 ≡ code_for g n.kind i Γ
    unfolding code_for pick
    code_none a b c = rw (ne_eqb _ 18 a, ne_eqb _ 19 b, ne_eqb _ 23 c)
