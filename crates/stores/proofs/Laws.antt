-- The laws that the proofs of the stores cite.
use mathlib.Core.Path.{◌≡◌, refl, sym, ap, ◌∙◌}
use mathlib.Core.Bool.{Bool, true, false}
use mathlib.Core.List.{List}
use Prim.Native.Nat.{ℕ, suc, ◌+◌, ◌-◌, ◌≤◌, ◌<◌}
use native.Mathlib.Numerals.{add-one}
use native.Mathlib.Omega.{arith}
use borrow.Author.Tests.{eq-eqb, ne_eqb, lt-ltb, le-ltb}
use denote.Enum.Declared.{tag_of}
use lib.Dec.{leb}
use lib.IntN.{ℤ}
use lib.ListN.{set}
use mir.Syntax.{w64}
use mir.Val.{to_z, of_z, SFits}
use mir.Facts.{to_z-of_z}
use Rattle.nodes.specs.declared.Node.{Node}
use Rattle.machine.specs.declared.Binding.{Binding}
use Rattle.machine.specs.declared.Cell.{Cell}
use Rattle.machine.specs.declared.Counts.{Counts}
use Rattle.machine.specs.declared.Row.{Row}
use Rattle.machine.specs.declared.Ending.{Ending}
use Rattle.machine.specs.declared.Ending.TheVariants.{Value, Stop, Unset, Returned, NoRule}
use Rattle.machine.specs.Entries.{pick, binding_at, put_cell, put_cells, node_of, env_of}
use Rattle.machine.specs.State.{Run, Tables, tables, Ret, is, and_then, if_value, on_value}
use Rattle.machine.specs.Leaves.{code_in, walk, stored, element_of, set_element}
use Rattle.machine.specs.contracts.Ending.{the_type}
use Rattle.std.specs.Result.{IsErrAnd}
use Rattle.std.proofs.Common.{Result, Err}
use Rattle.std.proofs.lemmas.Result.{err_from_is_err_and}
use Rattle.stores.specs.declared.End.{End}
use Rattle.stores.specs.declared.End.TheVariants as E
use Rattle.stores.specs.Ends.{end_of}
use Rattle.stores.specs.Choices.{outward, plain_by, plain_value, echoed}

-- ---- what a loop over a range has left

pub none_done : (n : ℕ) → n - 0 ≡ n
none_done n = omega arith

pub all_left : (k n : ℕ) → k + n - k ≡ n
all_left k n = omega arith

pub some_left : (n k : ℕ) → k < n → n - k ≡ 0 → ⊥
some_left n k h e = omega arith

pub one_less : (n k : ℕ) → n - (k + 1) ≡ n - k - 1
one_less n k = omega arith

pub none_left : (n k : ℕ) → n ≤ k → n - k ≡ 0
none_left n k h = omega arith

-- ---- cells

one_more : (n : ℕ) → (n ≡ 0 → ⊥) → suc (n - 1) ≡ n
one_more n h = omega arith

pub cells_go_on : (left at : ℕ) (l l₁ : List ℕ) (c : Cell) → (left ≡ 0 → ⊥) → l₁ ≡ put_cell l at c →
    put_cells (left - 1) l₁ (at + 1) c ≡ put_cells left l at c
unfolding put_cells
cells_go_on left at l l₁ c h e = rw (e, add-one at) (ap (λ (j : ℕ). put_cells j l at c) (one_more left h))

pub cells_end : (left at : ℕ) (l : List ℕ) (c : Cell) → left ≡ 0 → l ≡ put_cells left l at c
unfolding put_cells
cells_end left at l c h = rw h

-- ---- names

-- a binding's code has 16 bits
pub code_small : (b : List ℕ) (k : ℕ) → (binding_at b k).code < 65536
unfolding binding_at
code_small b k = omega arith

module _ (b : List ℕ) (c : ℕ) where
  pub walk_none : (n env : ℕ) → n ≡ 0 → NoRule ≡ walk b c n env
  unfolding walk
  walk_none n env z = rw z

  module _ (n env : ℕ) (some : n ≡ 0 → ⊥) where
    walk_go : walk b c n env ≡ walk b c (suc (n - 1)) env
    walk_go = ap (λ (k : ℕ). walk b c k env) (sym (one_more n some))

    pub walk_ends : env ≡ 0 → NoRule ≡ walk b c n env
    unfolding walk pick
    walk_ends z = rw (walk_go, eq-eqb env 0 z)

    module _ (there : env ≡ 0 → ⊥) (x : Binding) (x-is : x ≡ binding_at b (env - 1)) where
      pub walk_finds : x.code ≡ c → Value x.tag x.word ≡ walk b c n env
      unfolding walk pick
      walk_finds h = rw (walk_go, ne_eqb env 0 there, ← x-is, eq-eqb _ c h)

      go_on : (t : Bool) → leb c (code_in b x.jump) ≡ t →
          walk b c (n - 1) (outward b c x) ≡ pick (leb c (code_in b x.jump)) (λ _. walk b c (n - 1) x.jump) λ _. walk b c (n - 1) x.link
      unfolding outward pick
      go_on true e = rw e
      go_on false e = rw e

      pub walk_goes_on : (x.code ≡ c → ⊥) → walk b c (n - 1) (outward b c x) ≡ walk b c n env
      unfolding walk pick
      walk_goes_on h = go_on (leb c (code_in b x.jump)) refl ∙ rw (walk_go, ne_eqb env 0 there, ← x-is, ne_eqb _ c h)

-- what the code knows of an answer that is no value
abbrev pub NoValue : Ending → Type 0
NoValue e = (t x : ℕ) → e ≡ Value t x → ⊥

-- it is passed on
pub if_not_value : (e : Ending) → NoValue e → (k : ℕ → ℕ → Ending) → e ≡ if_value e k
if_not_value (Value t x) h k = absurd (h t x refl)
if_not_value (Stop n p) h k = refl
if_not_value (Unset p q) h k = refl
if_not_value (Returned t x) h k = refl
if_not_value NoRule h k = refl

-- the same for an answer with the tables
pub not_value : (e : Ending) → NoValue e → (m : Tables) (k : ℕ → ℕ → Tables → Ret) → is e m ≡ on_value e m k
not_value (Value t x) h m k = absurd (h t x refl)
not_value (Stop n p) h m k = refl
not_value (Unset p q) h m k = refl
not_value (Returned t x) h m k = refl
not_value NoRule h m k = refl

-- an end of the code's is no value
pub end_no_value : (e : End) → NoValue (end_of e)
end_no_value (E.Stop n p) t x h = let k = ap (tag_of the_type) h in omega (arith, k)
end_no_value (E.Unset p q) t x h = let k = ap (tag_of the_type) h in omega (arith, k)
end_no_value (E.Returned r) t x h = let k = ap (tag_of the_type) h in omega (arith, k)
end_no_value E.NoRule t x h = let k = ap (tag_of the_type) h in omega (arith, k)

pub end_passes : (e : End) (k : ℕ → ℕ → Ending) → end_of e ≡ if_value (end_of e) k
end_passes (E.Stop n p) k = refl
end_passes (E.Unset p q) k = refl
end_passes (E.Returned r) k = refl
end_passes E.NoRule k = refl

-- a `?` that leaves the function gives back the end that it found
pub exit : {A : Type 0} (r : Result A End) (e : End) → IsErrAnd r (λ d. d ≡ e) → r ≡ Err e
exit r e h = let p = err_from_is_err_and r h in p.1 ∙ ap Err p.2

-- ---- blocks of cells

-- the cell of an element is a word: half of one, and a number below the other half
pub sum_fits : (x a n y : ℕ) → x < 18446744073709551616 → a ≡ node_of x → n ≡ env_of x → y < n → a + y < 18446744073709551616
unfolding node_of env_of
sum_fits x a n y h e f l = omega arith

module _ (p : ℕ) (block index : Row) (tag word : ℕ) (m : Tables) (e : Ending) (e-is : e ≡ element_of p block index) where
  pub element_set : (t a : ℕ) → e ≡ Value t a → stored a tag word (Value block.tag block.word) m ≡ set_element p block index tag word m
  unfolding set_element and_then
  element_set t a found = rw (← e-is, found)

  pub element_none : NoValue e → is e m ≡ set_element p block index tag word m
  unfolding set_element and_then
  element_none h = rw (← e-is) (not_value e h m _)

-- ---- numbers

-- a number that fits 64 bits is kept in them
pub kept : (z a : ℤ) → SFits w64 z → z ≡ a → to_z w64 (of_z w64 z) ≡ a
kept z a f e = to_z-of_z f ∙ e

-- ---- what follows a value

module _ (codes b cells : List ℕ) (counts : Counts) (env c : ℕ) (n : Node) where
  pub plain_kind : (k : ℕ) → n.kind ≡ k → plain_by k codes b cells counts env c n ≡ plain_value codes b cells counts env c n
  unfolding plain_value
  plain_kind k h = ap (λ (j : ℕ). plain_by j codes b cells counts env c n) (sym h)

  pub plain_none : (n.kind ≡ 18 → ⊥) → (n.kind ≡ 19 → ⊥) → (n.kind ≡ 24 → ⊥) → (n.kind ≡ 25 → ⊥) → NoRule ≡ plain_value codes b cells counts env c n
  unfolding plain_value plain_by pick
  plain_none h₁ h₂ h₃ h₄ = rw (ne_eqb _ 18 h₁, ne_eqb _ 19 h₂, ne_eqb _ 24 h₃, ne_eqb _ 25 h₄)

module _ (g : Run) (p env tag word : ℕ) (m : Tables) where
  pub echoed_none : (tag ≡ 0 → ⊥) → is NoRule m ≡ echoed g p env tag word m
  unfolding echoed pick
  echoed_none h = rw (ne_eqb tag 0 h)

  pub echoed_full : tag ≡ 0 → (g.bounds).output ≤ m.counts.numbers → is (Stop 24 p) m ≡ echoed g p env tag word m
  unfolding echoed pick
  echoed_full h l = rw (eq-eqb tag 0 h, le-ltb _ _ l)

  pub echoed_some : tag ≡ 0 → m.counts.numbers < (g.bounds).output → (o : List ℤ) (z : ℤ) → o ≡ set m.output m.counts.numbers z → z ≡ to_z w64 word →
      is (Value 7 env)
      (tables
      (record { units = m.counts.units; bindings = m.counts.bindings; cells = m.counts.cells; numbers = m.counts.numbers + 1 })
      m.bindings
      m.cells
      o
      m.waiting) ≡ echoed g p env tag word m
  unfolding echoed pick
  echoed_some h l o z o_is z-is = rw (eq-eqb tag 0 h, lt-ltb _ _ l, o_is, z-is, add-one m.counts.numbers)
