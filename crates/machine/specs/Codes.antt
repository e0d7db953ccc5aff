-- The code of each node, which the evaluator reads instead of the text: a number's word, an application's operator, and for a name that is used the place
-- of its binding among those in force there. All this the tree alone says.
use Rattle.std.specs.Prelude.{ℕ, zero, suc, cond, ◌≡◌, List, [], ◌∷◌, ◌++◌, eqb, ltb, get_or}
use Rattle.std.proofs.Math.Option.{Option, none, some}
use Rattle.std.specs.Int.{w64}
use Rattle.std.proofs.Common.{of_z}
use Rattle.language.specs.Bytes.{same_bytes}
use Rattle.language.specs.Syntax.{Name, at, Expr, num, name, if_expr, and, or, app, abs, alloc, nth_expr, len, vset, Exprs, one_expr, more_exprs, ExprP, val, adr, Cmds, last, def_then, stat_then, Def, const, fun, fun_rec, fun_block, fun_rec_block, var, proc, proc_rec, Stat, echo, set, if_stat, while, call, return, Block, block}
use Rattle.language.specs.Names.{Op, Meaning, literal, operator, free, meaning, operator_of, head_operator}
use Rattle.language.specs.Numbers.{Computed, amount, fails, ranged}
use Rattle.language.specs.Words.{name_at}
use Rattle.language.specs.Types.{values, param_names}
use Rattle.nodes.specs.Names.{meaning_no}
use Rattle.nodes.specs.Trees.{Script, kind, place, child, next, AtParams}
use Rattle.nodes.specs.Written.{number_at}
use Rattle.machine.specs.Entries.{pick, first_free}
use Rattle.machine.specs.Leaves.{is_param}

-- ---- names in force, the latest first

-- the code of the latest of them: how many there are, counted from `first_free` on
unfoldable pub code_over : List Name → ℕ
code_over [] = first_free
code_over (x ∷ Γ) = suc (code_over Γ)

-- the code of the latest that is x; `first_free` where none is
unfoldable pub level_among : List Name → Name → ℕ
level_among [] x = first_free
level_among (y ∷ Γ) x = cond (same_bytes y x) (suc (code_over Γ)) (level_among Γ x)

-- the code of a name that is this by itself: one of the nine has its number
abbrev pub code_by_meaning : Meaning → ℕ → ℕ
code_by_meaning free c = c
code_by_meaning (literal b) c = meaning_no (literal b)
code_by_meaning (operator f) c = meaning_no (operator f)

-- the code of the name x where the names Γ are in force
abbrev pub code_of : List Name → Name → ℕ
code_of Γ x = code_by_meaning (meaning x) (level_among Γ x)

-- the code of an application: the operator that is its head; 0: none
abbrev pub operator_no : Option Op → ℕ
operator_no none = 0
operator_no (some f) = meaning_no (operator f)

-- the code of a number: its word; one outside the range, which no text that reads has, has 0
abbrev pub word_of_number : Computed → ℕ
word_of_number (amount z) = of_z w64 z
word_of_number (fails x) = 0

-- with parameters
abbrev pub extended : List Name → List Name → List Name
extended [] Γ = Γ
extended (x ∷ xs) Γ = extended xs (x ∷ Γ)

-- what a definition defines
abbrev pub defined : Def → Name
defined (const p (at q x) t e) = x
defined (fun p (at q x) t ps e) = x
defined (fun_rec p (at q x) t ps e) = x
defined (fun_block p (at q x) t ps b) = x
defined (fun_rec_block p (at q x) t ps b) = x
defined (var p (at q x) t) = x
defined (proc p (at q x) ps b) = x
defined (proc_rec p (at q x) ps b) = x

-- ---- the codes are right: of the node i, which is this tree, and of the nodes below it, where the names Γ are in force

module _ (g : Script) (codes : List ℕ) where
  -- a name that is used
  pub record Used (Γ : List Name) (i : ℕ) (x : Name) : Type 0 where
    pub code_is : get_or codes i 0 ≡ code_of Γ x

  abbrev mutual
    pub CodedE : List Name → ℕ → Expr → Type 0
    CodedE Γ i (num p n) = get_or codes i 0 ≡ of_z w64 n
    CodedE Γ i (name (at p x)) = Used Γ i x
    CodedE Γ i (if_expr p a b c) = CodedE Γ (child g i) a × CodedE Γ (next g (child g i)) b × CodedE Γ (next g (next g (child g i))) c
    CodedE Γ i (and p a b) = CodedE Γ (child g i) a × CodedE Γ (next g (child g i)) b
    CodedE Γ i (or p a b) = CodedE Γ (child g i) a × CodedE Γ (next g (child g i)) b
    CodedE Γ i (app p f es) = (get_or codes i 0 ≡ operator_no (head_operator f)) × CodedE Γ (child g i) f × CodedEs Γ (next g (child g i)) es
    CodedE Γ i (abs p ps e) = (j : ℕ) → AtParams g (child g i) (values ps) j → CodedE (extended (param_names (values ps)) Γ) j e
    CodedE Γ i (alloc p t e) = CodedE Γ (next g (child g i)) e
    CodedE Γ i (nth_expr p a b) = CodedE Γ (child g i) a × CodedE Γ (next g (child g i)) b
    CodedE Γ i (len p a) = CodedE Γ (child g i) a
    CodedE Γ i (vset p a b c) = CodedE Γ (child g i) a × CodedE Γ (next g (child g i)) b × CodedE Γ (next g (next g (child g i))) c

    pub CodedEs : List Name → ℕ → Exprs → Type 0
    CodedEs Γ i (one_expr e) = CodedE Γ i e
    CodedEs Γ i (more_exprs e es) = CodedE Γ i e × CodedEs Γ (next g i) es

  abbrev pub CodedA : List Name → ℕ → ExprP → Type 0
  CodedA Γ i (val e) = CodedE Γ i e
  CodedA Γ i (adr p (at q x)) = Used Γ (child g i) x

  abbrev pub CodedAs : List Name → ℕ → List ExprP → Type 0
  CodedAs Γ i [] = Unit {0}
  CodedAs Γ i (a ∷ as') = CodedA Γ i a × CodedAs Γ (next g i) as'

  -- a definition's name is in force behind it, a recursive one's also within, where it is bound after the parameters
  abbrev mutual
    pub CodedCs : List Name → ℕ → Cmds → Type 0
    CodedCs Γ i (last c) = CodedS Γ i c
    CodedCs Γ i (def_then d cs) = CodedD Γ i d × CodedCs (defined d ∷ Γ) (next g i) cs
    CodedCs Γ i (stat_then c cs) = CodedS Γ i c × CodedCs Γ (next g i) cs

    pub CodedD : List Name → ℕ → Def → Type 0
    CodedD Γ i (const p x t e) = CodedE Γ (next g (next g (child g i))) e
    CodedD Γ i (fun p x t ps e) = (j : ℕ) → AtParams g (next g (next g (child g i))) (values ps) j → CodedE (extended (param_names (values ps)) Γ) j e
    CodedD Γ i (fun_rec p (at q x) t ps e) =
        (j : ℕ) → AtParams g (next g (next g (child g i))) (values ps) j → CodedE (x ∷ extended (param_names (values ps)) Γ) j e
    CodedD Γ i (fun_block p x t ps b) = (j : ℕ) → AtParams g (next g (next g (child g i))) (values ps) j → CodedB (extended (param_names (values ps)) Γ) j b
    CodedD Γ i (fun_rec_block p (at q x) t ps b) =
        (j : ℕ) → AtParams g (next g (next g (child g i))) (values ps) j → CodedB (x ∷ extended (param_names (values ps)) Γ) j b
    CodedD Γ i (var p x t) = Unit {0}
    CodedD Γ i (proc p x ps b) = (j : ℕ) → AtParams g (next g (child g i)) ps j → CodedB (extended (param_names ps) Γ) j b
    CodedD Γ i (proc_rec p (at q x) ps b) = (j : ℕ) → AtParams g (next g (child g i)) ps j → CodedB (x ∷ extended (param_names ps) Γ) j b

    pub CodedS : List Name → ℕ → Stat → Type 0
    CodedS Γ i (echo p e) = CodedE Γ (child g i) e
    CodedS Γ i (set p (at q x) e) = Used Γ (child g i) x × CodedE Γ (next g (child g i)) e
    CodedS Γ i (if_stat p e a b) = CodedE Γ (child g i) e × CodedB Γ (next g (child g i)) a × CodedB Γ (next g (next g (child g i))) b
    CodedS Γ i (while p e b) = CodedE Γ (child g i) e × CodedB Γ (next g (child g i)) b
    CodedS Γ i (call p (at q x) as') = Used Γ (child g i) x × CodedAs Γ (next g (child g i)) as'
    CodedS Γ i (return p e) = CodedE Γ (child g i) e

    pub CodedB : List Name → ℕ → Block → Type 0
    CodedB Γ i (block p cs) = CodedCs Γ (child g i) cs

  -- of a program
  abbrev pub Coded : Block → Type 0
  Coded b = CodedB [] 0 b

-- ---- codes that are right, by a pass down the tree

-- no text has more nodes
abbrev pub most_nodes : ℕ
most_nodes = 4096

module _ (g : Script) where
  -- the name at a node's place
  abbrev pub name_of : ℕ → Name
  name_of i = name_at g.text (place g i)

  -- the operator that the node i is; 0: none
  unfoldable pub operator_at : (k i : ℕ) → ℕ
  operator_at k i = pick (eqb k 19) (λ _. operator_no (operator_of (meaning (name_of i)))) λ _. 0

  -- the code of the node i of kind k, where the names Γ are in force
  unfoldable pub code_for : (k i : ℕ) → List Name → ℕ
  code_for k i Γ =
      pick (eqb k 18) (λ _. word_of_number (ranged (number_at g.text (place g i)))) λ _.
      pick (eqb k 19) (λ _. code_of Γ (name_of i)) λ _.
      pick (eqb k 23) (λ _. operator_at (kind g (child g i)) (child g i)) λ _. 0

  -- the names in force behind the node i of kind k: a definition's or a parameter's is one more
  unfoldable pub after : (k i : ℕ) → List Name → List Name
  after k i Γ =
      pick (ltb k 2) (λ _. Γ) λ _. pick (ltb k 8) (λ _. name_of (child g i) ∷ Γ) λ _. pick (is_param k) (λ _. name_of i ∷ Γ) λ _.
      pick (ltb k 32) (λ _. Γ) λ _. name_of (child g i) ∷ Γ

  -- the own name of the node i of kind k, if that is a recursive definition
  unfoldable pub own_of : (k i : ℕ) → Option Name
  own_of k i = pick (eqb k 4) (λ _. some (name_of (child g i))) λ _. pick (eqb k 7) (λ _. some (name_of (child g i))) λ _.
      pick (eqb k 33) (λ _. some (name_of (child g i))) λ _. none

  -- the names in force at the node i, where Γ are those of its row: the last child of a recursive definition is its body, in which its own name is one more
  unfoldable pub entry : (own : Option Name) → ℕ → List Name → List Name
  entry none i Γ = Γ
  entry (some f) i Γ = pick (eqb (next g i) 0) (λ _. f ∷ Γ) λ _. Γ

  -- the codes of the row from the node i on and of all below it, in text order: at most k nodes deep and long
  unfoldable pub row_codes : (k : ℕ) → List Name → (own : Option Name) → ℕ → List ℕ
  row_codes zero Γ own i = []
  row_codes (suc k) Γ own i =
      pick (eqb i 0) (λ _. []) λ _.
      code_for (kind g i) i (entry own i Γ) ∷
      row_codes k (entry own i Γ) (own_of (kind g i) i) (child g i) ++ row_codes k (after (kind g i) i (entry own i Γ)) own (next g i)

  -- of all nodes
  unfoldable pub codes_of : List ℕ
  codes_of = 0 ∷ row_codes most_nodes [] none (child g 0)
