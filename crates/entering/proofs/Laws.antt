-- The laws that the proofs of calls and definitions cite: what the code has found, step by step, is what the evaluator's definition says.
use mathlib.Core.Path.{◌≡◌, refl, sym, ap, ◌∙◌}
use mathlib.Core.Bool.{Bool, true, false, not}
use mathlib.Core.List.{List}
use Prim.Native.Nat.{ℕ, suc, ◌+◌, ◌-◌, ◌≤◌, ◌<◌}
use native.Mathlib.Numerals.{add-one}
use native.Mathlib.Omega.{arith}
use denote.Enum.Declared.{tag_of}
use lib.Dec.{leb}
use borrow.Author.Tests.{eq-eqb, ne_eqb, leb-true, leb-false, le-leb, lt-leb, lt-ltb, le-ltb, not-false}
use Rattle.nodes.specs.declared.Node.{Node}
use Rattle.nodes.specs.Nodes.{node_at}
use Rattle.machine.specs.declared.Row.{Row}
use Rattle.machine.specs.declared.Cell.{Cell}
use Rattle.machine.specs.declared.Counts.{Counts}
use Rattle.machine.specs.declared.Ending.{Ending}
use Rattle.machine.specs.declared.Ending.TheVariants.{Value, Stop, Unset, Returned, NoRule}
use Rattle.machine.specs.Entries.{pick, row_after, row_at, put_cell, put_cells, put_binding, closure_word, node_of, env_of}
use Rattle.machine.specs.State.{Run, Tables, tables, is, and_then, spend}
use Rattle.machine.specs.Leaves.{binding_behind, is_param, behind_type, body_after, bind_all_at, enter, enter_again, open_function_at, open_procedure_at, define, define_cell, allocate}
use Rattle.machine.specs.contracts.Ending.{the_type}
use Rattle.machine.proofs.Members.{no_unit, no_level, goes_in}
use Rattle.stores.proofs.Laws.{NoValue, not_value}
use Rattle.entering.specs.Opening.{guarded, opened, fresh_cell, definition_by, definition, opens}

-- ---- entries

module _ (d p : ℕ) (m : Tables) where
  pub guard_fuel : m.counts.units ≡ 0 → is (Stop 20 p) m ≡ guarded d p m
  unfolding guarded
  guard_fuel h = sym (no_unit p m _ d h)

  pub guard_depth : (m.counts.units ≡ 0 → ⊥) → d ≡ 0 → is (Stop 21 p) (spend m) ≡ guarded d p m
  unfolding guarded
  guard_depth h z = sym (no_level p m _ d h z)

  pub guard_enters : (m.counts.units ≡ 0 → ⊥) → (d ≡ 0 → ⊥) → is (Value 7 (d - 1)) (spend m) ≡ guarded d p m
  unfolding guarded
  guard_enters h z = sym (goes_in p m _ d h z)

pub stop_no_value : (n p t x : ℕ) → Stop n p ≡ Value t x → ⊥
stop_no_value n p t x h = let e = ap (tag_of the_type) h in omega (arith, e)

pub same_word : (t x u y : ℕ) → Value t x ≡ Value u y → x ≡ y
same_word t x u y h = ap word_of h
  where
    word_of : Ending → ℕ
    word_of (Value t x) = x
    word_of (Stop n p) = 0
    word_of (Unset p q) = 0
    word_of (Returned t x) = 0
    word_of NoRule = 0

-- ---- room

-- n more fit under the limit where the limit less what is taken holds them
pub room_some : (n taken limit : ℕ) → taken ≤ limit → leb n (limit - taken) ≡ leb (n + taken) limit
room_some n taken limit h = by (leb n (limit - taken)) refl
  where
    by : (t : Bool) → leb n (limit - taken) ≡ t → t ≡ leb (n + taken) limit
    by true e = let l = leb-true n (limit - taken) e in sym (le-leb (n + taken) limit (omega arith))
    by false e = let l = leb-false n (limit - taken) e in sym (lt-leb (n + taken) limit (omega arith))

pub room_there : (r : Bool) (n limit : ℕ) → r ≡ leb n limit → not r ≡ false → n ≤ limit
room_there r n limit r-is h = leb-true n limit (sym r-is ∙ not-false r h)

-- what fits under a limit is a word
pub room_word : (r : Bool) (n limit : ℕ) → r ≡ leb n limit → not r ≡ false → limit < 18446744073709551616 → n < 18446744073709551616
room_word r n limit r-is h l = let q = room_there r n limit r-is h in omega (arith, q)

-- ---- loops over parameters

one_more : (k : ℕ) → (k ≡ 0 → ⊥) → k ≡ suc (k - 1)
one_more k h = omega arith

module _ (tree : List ℕ) (k q : ℕ) where
  module _ (t : Bool) where
    module _ (some : k ≡ 0 → ⊥) (x : Node) (x-is : x ≡ node_at tree q) (t-is : t ≡ is_param x.kind) where
      body_go : body_after tree k q ≡ body_after tree (suc (k - 1)) q
      body_go = ap (λ (j : ℕ). body_after tree j q) (one_more k some)

      pub body_goes_on : t ≡ true → body_after tree (k - 1) x.next ≡ body_after tree k q
      unfolding body_after pick
      body_goes_on h = rw (body_go, ← x-is, ← t-is, h)

      pub body_too_few : t ≡ false → NoRule ≡ body_after tree k q
      unfolding body_after pick
      body_too_few h = rw (body_go, ← x-is, ← t-is, h)

    module _ (none : k ≡ 0) (kind : ℕ) (kind_is : kind ≡ (node_at tree q).kind) (t-is : t ≡ is_param kind) where
      pub body_too_many : t ≡ true → NoRule ≡ body_after tree k q
      unfolding body_after pick
      body_too_many h = rw (none, ← kind_is, ← t-is, h)

      pub body_found : t ≡ false → Value 7 q ≡ body_after tree k q
      unfolding body_after pick
      body_found h = rw (none, ← kind_is, ← t-is, h)

module _ (tree w : List ℕ) (left at from next within : ℕ) (b : List ℕ) where
  pub bind_goes_on : (b₁ : List ℕ) (q : ℕ) (r : Row) (f₁ : ℕ) → (left ≡ 0 → ⊥) → q ≡ (node_at tree at).next → r ≡ row_at w from →
      b₁ ≡ put_binding b next (binding_behind b r.tag r.word within) → f₁ ≡ row_after from →
      bind_all_at tree (left - 1) q f₁ w (next + 1) (next + 1) b₁ ≡ bind_all_at tree left at from w next within b
  unfolding bind_all_at
  bind_goes_on b₁ q r f₁ some q-is r-is b_is f-is =
      rw (b_is, q-is, r-is, f-is, add-one next) (ap (λ (j : ℕ). bind_all_at tree j at from w next within b) (sym (one_more left some)))

  pub bind_ends : left ≡ 0 → opened within b ≡ bind_all_at tree left at from w next within b
  unfolding bind_all_at
  bind_ends none = rw none

-- ---- calls

-- the counts with so many bindings taken, and with so many cells
abbrev with_bindings : ℕ → Counts → Counts
with_bindings n c = record { units = c.units; bindings = n; cells = c.cells; numbers = c.numbers }

abbrev with_cells : ℕ → Counts → Counts
with_cells n c = record { units = c.units; bindings = c.bindings; cells = n; numbers = c.numbers }

suc_plus : (n k : ℕ) → suc (n + k) ≡ suc n + k
suc_plus n k = omega arith

one_plus : (k : ℕ) → suc k ≡ 1 + k
one_plus k = omega arith

module _ (g : Run) (p n sp q : ℕ) (m : Tables) (e : Ending) (e-is : e ≡ body_after g.tree n q) where
  module _ (env : ℕ) where
    pub enter_not : NoValue e → is e m ≡ enter g p n sp q env m
    unfolding enter and_then
    enter_not h = rw (← e-is) (not_value e h m _)

    module _ (t body : ℕ) (found : e ≡ Value t body) (r : Bool) (r-is : r ≡ leb (n + m.counts.bindings) (g.bounds).bindings) where
      pub enter_full : r ≡ false → is (Stop 23 p) m ≡ enter g p n sp q env m
      unfolding enter and_then pick
      enter_full h = rw (← e-is, found, ← r-is, h)

      pub enter_some : r ≡ true → (within : ℕ) (b : List ℕ) →
          opened within b ≡ bind_all_at g.tree n q sp m.waiting m.counts.bindings env m.bindings →
          is (Value within body) (tables (with_bindings (n + m.counts.bindings) m.counts) b m.cells m.output m.waiting) ≡ enter g p n sp q env m
      unfolding enter and_then pick
      enter_some h within b o_is = rw (← e-is, found, ← r-is, h, ← o_is)

  module _ (tag word : ℕ) where
    pub named_not : NoValue e → is e m ≡ enter_again g p n sp q tag word m
    unfolding enter_again and_then
    named_not h = rw (← e-is) (not_value e h m _)

    module _ (t body : ℕ) (found : e ≡ Value t body) (r : Bool) (r-is : r ≡ leb (suc n + m.counts.bindings) (g.bounds).bindings) where
      pub named_full : r ≡ false → is (Stop 23 p) m ≡ enter_again g p n sp q tag word m
      unfolding enter_again and_then pick
      named_full h = rw (← e-is, found, ← r-is, h)

      pub named_some : r ≡ true → (env within : ℕ) (b b₁ : List ℕ) → env ≡ env_of word →
          opened within b ≡ bind_all_at g.tree n q sp m.waiting m.counts.bindings env m.bindings →
          b₁ ≡ put_binding b (n + m.counts.bindings) (binding_behind b tag word within) →
          is (Value (n + m.counts.bindings + 1) body) (tables (with_bindings (n + m.counts.bindings + 1) m.counts) b₁ m.cells m.output m.waiting) ≡
          enter_again g p n sp q tag word m
      unfolding enter_again and_then pick
      named_some h env within b b₁ env_is o_is b_is =
          rw (← e-is, found, ← r-is, h, ← env_is, ← o_is, ← b_is, add-one (n + m.counts.bindings))
          (ap (λ (j : ℕ). is (Value (suc (n + m.counts.bindings)) body) (tables (with_bindings j m.counts) b₁ m.cells m.output m.waiting))
          (suc_plus n m.counts.bindings))

module _ (g : Run) (p n sp tag word : ℕ) (m : Tables) where
  module _ (node : ℕ) (node_is : node ≡ node_of word) where
    pub function_plain : tag ≡ 1 → (env : ℕ) → env ≡ env_of word → enter g p n sp node env m ≡ open_function_at g p n sp tag word m
    unfolding open_function_at pick
    function_plain h env env_is = rw (h, node_is, env_is)

    pub function_named : tag ≡ 2 → (result first : ℕ) → result ≡ (node_at g.tree node).next → first ≡ (node_at g.tree result).next →
        enter_again g p n sp first tag word m ≡ open_function_at g p n sp tag word m
    unfolding open_function_at pick
    function_named h result first result-is first_is = rw (first_is, result-is, node_is, h)

    pub procedure_plain : tag ≡ 3 → (env : ℕ) → env ≡ env_of word → enter g p n sp node env m ≡ open_procedure_at g p n sp tag word m
    unfolding open_procedure_at pick
    procedure_plain h env env_is = rw (h, node_is, env_is)

    pub procedure_named : tag ≡ 4 → (behind first : ℕ) → behind ≡ (node_at g.tree node).next → first ≡ behind_type g.tree behind →
        enter_again g p n sp first tag word m ≡ open_procedure_at g p n sp tag word m
    unfolding open_procedure_at pick
    procedure_named h behind first behind_is first_is = rw (first_is, behind_is, node_is, h)

  pub function_other : (tag ≡ 1 → ⊥) → (tag ≡ 2 → ⊥) → open_procedure_at g p n sp tag word m ≡ open_function_at g p n sp tag word m
  unfolding open_function_at pick
  function_other h k = rw (ne_eqb tag 1 h, ne_eqb tag 2 k)

  pub procedure_none : (tag ≡ 3 → ⊥) → (tag ≡ 4 → ⊥) → is NoRule m ≡ open_procedure_at g p n sp tag word m
  unfolding open_procedure_at pick
  procedure_none h k = rw (ne_eqb tag 3 h, ne_eqb tag 4 k)

module _ (g : Run) (form p n sp tag word : ℕ) (m : Tables) where
  pub opens_function : form ≡ 23 → open_function_at g p n sp tag word m ≡ opens g form p n sp tag word m
  unfolding opens pick
  opens_function h = rw h

  pub opens_procedure : (form ≡ 23 → ⊥) → open_procedure_at g p n sp tag word m ≡ opens g form p n sp tag word m
  unfolding opens pick
  opens_procedure h = rw (ne_eqb form 23 h)

-- ---- definitions

module _ (g : Run) (p env : ℕ) (m : Tables) where
  module _ (tag word : ℕ) where
    pub define_some : m.counts.bindings < (g.bounds).bindings → (b : List ℕ) →
        b ≡ put_binding m.bindings m.counts.bindings (binding_behind m.bindings tag word env) →
        is (Value 7 (m.counts.bindings + 1)) (tables (with_bindings (m.counts.bindings + 1) m.counts) b m.cells m.output m.waiting) ≡ define g p tag word env m
    unfolding define pick
    define_some h b b_is =
        rw (lt-ltb _ _ h, add-one m.counts.bindings, ← b_is)
        (ap (λ (j : ℕ). is (Value 7 (suc m.counts.bindings)) (tables (with_bindings j m.counts) b m.cells m.output m.waiting))
        (one_plus m.counts.bindings))

    pub define_full : (g.bounds).bindings ≤ m.counts.bindings → is (Stop 23 p) m ≡ define g p tag word env m
    unfolding define pick
    define_full h = rw (le-ltb _ _ h)

  pub cell_some : m.counts.cells < (g.bounds).cells → (c : List ℕ) (new : Cell) → new ≡ fresh_cell p → c ≡ put_cell m.cells m.counts.cells new →
      define g p 5 m.counts.cells env (tables (with_cells (m.counts.cells + 1) m.counts) m.bindings c m.output m.waiting) ≡ define_cell g p env m
  unfolding define_cell put_cells pick
  cell_some h c new New-is c-is =
      rw (lt-ltb _ _ h, c-is, New-is, add-one m.counts.cells)
      (ap (λ (j : ℕ). define g p 5 m.counts.cells env (tables (with_cells j m.counts) m.bindings (put_cell m.cells m.counts.cells (fresh_cell p)) m.output m.waiting))
      (one_plus m.counts.cells))

  pub cell_full : (g.bounds).cells ≤ m.counts.cells → is (Stop 22 p) m ≡ define_cell g p env m
  unfolding define_cell pick
  cell_full h = rw (le-ltb _ _ h)

module _ (g : Run) (p : ℕ) (size : Row) (m : Tables) where
  pub allocate_none : (size.tag ≡ 0 → ⊥) → is NoRule m ≡ allocate g p size m
  unfolding allocate pick
  allocate_none h = rw (ne_eqb _ 0 h)

  module _ (number : size.tag ≡ 0) where
    pub allocate_below : 9223372036854775808 ≤ size.word → is (Stop 28 p) m ≡ allocate g p size m
    unfolding allocate pick
    allocate_below h = rw (eq-eqb _ 0 number, le-ltb _ _ h)

    module _ (counts : size.word < 9223372036854775808) (r : Bool) (r-is : r ≡ leb (size.word + m.counts.cells) (g.bounds).cells) where
      pub allocate_full : r ≡ false → is (Stop 22 p) m ≡ allocate g p size m
      unfolding allocate pick
      allocate_full h = rw (eq-eqb _ 0 number, lt-ltb _ _ counts, ← r-is, h)

      pub allocate_some : r ≡ true → (c : List ℕ) (new : Cell) (word : ℕ) → new ≡ fresh_cell p → c ≡ put_cells size.word m.cells m.counts.cells new →
          word ≡ closure_word m.counts.cells size.word →
          is (Value 9 word) (tables (with_cells (size.word + m.counts.cells) m.counts) m.bindings c m.output m.waiting) ≡ allocate g p size m
      unfolding allocate pick
      allocate_some h c new word New-is c-is word-is = rw (eq-eqb _ 0 number, lt-ltb _ _ counts, ← r-is, h, c-is, New-is, word-is)

module _ (g : Run) (env : ℕ) (n : Node) (m : Tables) where
  pub definition_kind : (k : ℕ) → n.kind ≡ k → definition_by g k env n m ≡ definition g env n m
  unfolding definition
  definition_kind k h = ap (λ (j : ℕ). definition_by g j env n m) (sym h)

  -- a closure that knows its name
  module _ (word : ℕ) (word-is : word ≡ closure_word n.child env) where
    pub defines_named_function : n.kind ≡ 4 → define g n.place 2 word env m ≡ definition g env n m
    unfolding definition_by pick
    defines_named_function h = rw word-is (definition_kind 4 h)

    pub defines_named_procedure : n.kind ≡ 7 → define g n.place 4 word env m ≡ definition g env n m
    unfolding definition_by pick
    defines_named_procedure h = rw word-is (definition_kind 7 h)

    pub defines_named_block : n.kind ≡ 33 → define g n.place 4 word env m ≡ definition g env n m
    unfolding definition_by pick
    defines_named_block h = rw word-is (definition_kind 33 h)

  pub defines_cell : n.kind ≡ 5 → define_cell g n.place env m ≡ definition g env n m
  unfolding definition_by pick
  defines_cell h = definition_kind 5 h

  module _ (x : Node) (x-is : x ≡ node_at g.tree n.child) where
    pub defines_procedure : n.kind ≡ 6 → (word : ℕ) → word ≡ closure_word x.next env →
        define g n.place 3 word env m ≡ definition g env n m
    unfolding definition_by pick
    defines_procedure h word word-is = rw (word-is, x-is) (definition_kind 6 h)

    -- behind a function's name stands its type
    module _ (first word : ℕ) (first_is : first ≡ (node_at g.tree x.next).next) (word-is : word ≡ closure_word first env) where
      pub defines_function : n.kind ≡ 3 → define g n.place 1 word env m ≡ definition g env n m
      unfolding definition_by pick
      defines_function h = rw (word-is, first_is, x-is) (definition_kind 3 h)

      pub defines_block : n.kind ≡ 32 → define g n.place 3 word env m ≡ definition g env n m
      unfolding definition_by pick
      defines_block h = rw (word-is, first_is, x-is) (definition_kind 32 h)

  pub defines_nothing : (n.kind ≡ 3 → ⊥) → (n.kind ≡ 4 → ⊥) → (n.kind ≡ 5 → ⊥) → (n.kind ≡ 6 → ⊥) → (n.kind ≡ 7 → ⊥) → (n.kind ≡ 32 → ⊥) →
      (n.kind ≡ 33 → ⊥) → is NoRule m ≡ definition g env n m
  unfolding definition definition_by pick
  defines_nothing h₃ h₄ h₅ h₆ h₇ h₃₂ h₃₃ =
      rw (ne_eqb _ 3 h₃, ne_eqb _ 4 h₄, ne_eqb _ 5 h₅, ne_eqb _ 6 h₆, ne_eqb _ 7 h₇, ne_eqb _ 32 h₃₂, ne_eqb _ 33 h₃₃)
