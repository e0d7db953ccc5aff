-- Which tree a node of the tree words is: `AtE i e` says that the node number i, with the nodes below it, is the expression e, and so on for each sort of tree.
-- A place and a payload are what the node and the text have there; rows of siblings end with the next sibling 0.
-- Nothing of this is believed: that the tree words of a text that reads are its tree is shown from the table alone (`ReadAs`, at the end).
use Rattle.std.specs.Prelude.{ℕ, suc, ◌≤◌, ◌≡◌, List, [], ◌∷◌, length, get_or}
use Rattle.language.specs.Syntax.{Ident, at, TypeTree, bool, int, arrow, vec, TypeTrees, one_type, more_types, Arg, ArgP, val_arg, var_arg, Expr, num, name, if_expr, and, or, app, abs, alloc, nth_expr, len, vset, Exprs, one_expr, more_exprs, ExprP, val, adr, Cmds, last, def_then, stat_then, Def, const, fun, fun_rec, fun_block, fun_rec_block, var, proc, proc_rec, Stat, echo, set, if_stat, while, call, return, Block, block}
use Rattle.language.specs.Answers.{fine}
use Rattle.language.specs.Words.{name_at}
use Rattle.language.specs.Reading.{Reading}
use Rattle.language.specs.Table.{table}
use Rattle.language.specs.Types.{values}
use Rattle.nodes.specs.Nodes.{node_at}
use Rattle.nodes.specs.Written.{number_at, Numeral}

-- what is read together: the tree words, and the text that their places point into
pub record Script : Type 0 where
  pub tree : List ℕ
  pub text : List ℕ

module _ (g : Script) where
  abbrev pub kind : ℕ → ℕ
  kind i = (node_at g.tree i).kind

  abbrev pub place : ℕ → ℕ
  place i = (node_at g.tree i).place

  abbrev pub child : ℕ → ℕ
  child i = (node_at g.tree i).child

  abbrev pub next : ℕ → ℕ
  next i = (node_at g.tree i).next

  -- the name at a node's place
  abbrev pub ident : ℕ → Ident
  ident i = at (place i) (name_at g.text (place i))

  -- a node of kind k that is not the root, and one that has no children besides
  pub record Inner (i k : ℕ) : Type 0 where
    pub kind_is : kind i ≡ k
    pub there : i ≡ 0 → ⊥

  pub record Leaf (i k : ℕ) : Type 0 where
    pub kind_is : kind i ≡ k
    pub there : i ≡ 0 → ⊥
    pub childless : child i ≡ 0

  mutual
    -- TYPE
    pub data AtType : ℕ → TypeTree → Type 0 where
      at_bool : {i : ℕ} → Leaf i 15 → AtType i (bool (place i))
      at_int : {i : ℕ} → Leaf i 16 → AtType i (int (place i))
      at_arrow : {i j : ℕ} {ts : TypeTrees} {t : TypeTree} → Inner i 17 → AtTypes (child i) ts j → AtType j t → next j ≡ 0 → AtType i (arrow (place i) ts t)
      at_vec : {i : ℕ} {t : TypeTree} → Inner i 26 → AtType (child i) t → next (child i) ≡ 0 → AtType i (vec (place i) t)

    -- TYPES, from the node i up to the node j
    pub data AtTypes : ℕ → TypeTrees → ℕ → Type 0 where
      at_one_type : {i : ℕ} {t : TypeTree} → AtType i t → AtTypes i (one_type t) (next i)
      at_more_types : {i j : ℕ} {t : TypeTree} {ts : TypeTrees} → AtType i t → AtTypes (next i) ts j → AtTypes i (more_types t ts) j

  -- ARG and ARGP: a parameter's place is its name's and its only child is its type
  pub data AtParam : ℕ → ArgP → Type 0 where
    at_val_param : {i : ℕ} {t : TypeTree} → Inner i 13 → AtType (child i) t → next (child i) ≡ 0 → AtParam i (val_arg (ident i) t)
    at_var_param : {i : ℕ} {t : TypeTree} → Inner i 14 → AtType (child i) t → next (child i) ≡ 0 → AtParam i (var_arg (ident i) t)

  -- ARGS and ARGSP, from the node i up to the node j, which is no parameter; a function's parameters are those of a procedure that are all given by value
  pub data AtParams : ℕ → List ArgP → ℕ → Type 0 where
    at_no_param : {i : ℕ} → (kind i ≡ 13 → ⊥) → (kind i ≡ 14 → ⊥) → AtParams i [] i
    at_more_params : {i j : ℕ} {a : ArgP} {as' : List ArgP} → AtParam i a → AtParams (next i) as' j → AtParams i (a ∷ as') j

  mutual
    -- EXPR
    pub data AtE : ℕ → Expr → Type 0 where
      at_num : {i : ℕ} → Leaf i 18 → Numeral g.text (place i) → AtE i (num (place i) (number_at g.text (place i)))
      at_name : {i : ℕ} → Leaf i 19 → AtE i (name (ident i))
      at_if : {i : ℕ} {a b c : Expr} → Inner i 20 → AtE (child i) a → AtE (next (child i)) b → AtE (next (next (child i))) c →
          next (next (next (child i))) ≡ 0 → AtE i (if_expr (place i) a b c)
      at_and : {i : ℕ} {a b : Expr} → Inner i 21 → AtE (child i) a → AtE (next (child i)) b → next (next (child i)) ≡ 0 → AtE i (and (place i) a b)
      at_or : {i : ℕ} {a b : Expr} → Inner i 22 → AtE (child i) a → AtE (next (child i)) b → next (next (child i)) ≡ 0 → AtE i (or (place i) a b)
      at_app : {i : ℕ} {f : Expr} {es : Exprs} → Inner i 23 → AtE (child i) f → AtEs (next (child i)) es → AtE i (app (place i) f es)
      at_abs : {i j : ℕ} {ps : List Arg} {e : Expr} → Inner i 24 → AtParams (child i) (values ps) j → AtE j e → next j ≡ 0 → AtE i (abs (place i) ps e)
      at_alloc : {i : ℕ} {t : TypeTree} {e : Expr} → Inner i 27 → AtType (child i) t → AtE (next (child i)) e → next (next (child i)) ≡ 0 →
          AtE i (alloc (place i) t e)
      at_nth : {i : ℕ} {a b : Expr} → Inner i 28 → AtE (child i) a → AtE (next (child i)) b → next (next (child i)) ≡ 0 → AtE i (nth_expr (place i) a b)
      at_len : {i : ℕ} {a : Expr} → Inner i 29 → AtE (child i) a → next (child i) ≡ 0 → AtE i (len (place i) a)
      at_vset : {i : ℕ} {a b c : Expr} → Inner i 30 → AtE (child i) a → AtE (next (child i)) b → AtE (next (next (child i))) c →
          next (next (next (child i))) ≡ 0 → AtE i (vset (place i) a b c)

    -- EXPRS, from the node i to the end of the row
    pub data AtEs : ℕ → Exprs → Type 0 where
      at_one_expr : {i : ℕ} {e : Expr} → AtE i e → next i ≡ 0 → AtEs i (one_expr e)
      at_more_exprs : {i : ℕ} {e : Expr} {es : Exprs} → AtE i e → AtEs (next i) es → AtEs i (more_exprs e es)

  -- EXPRP
  pub data AtA : ℕ → ExprP → Type 0 where
    at_val : {i : ℕ} {e : Expr} → AtE i e → AtA i (val e)
    at_adr : {i : ℕ} → Inner i 25 → Leaf (child i) 19 → next (child i) ≡ 0 → AtA i (adr (place i) (ident (child i)))

  -- EXPRSP, from the node i to the end of the row
  pub data AtAs : ℕ → List ExprP → Type 0 where
    at_no_arg : AtAs 0 []
    at_more_args : {i : ℕ} {a : ExprP} {as' : List ExprP} → AtA i a → AtAs (next i) as' → AtAs i (a ∷ as')

  mutual
    -- CMDS, from the node i to the end of the row
    pub data AtCs : ℕ → Cmds → Type 0 where
      at_last : {i : ℕ} {c : Stat} → AtS i c → next i ≡ 0 → AtCs i (last c)
      at_def_then : {i : ℕ} {d : Def} {cs : Cmds} → AtD i d → AtCs (next i) cs → AtCs i (def_then d cs)
      at_stat_then : {i : ℕ} {c : Stat} {cs : Cmds} → AtS i c → AtCs (next i) cs → AtCs i (stat_then c cs)

    -- DEF: the name is the first child
    pub data AtD : ℕ → Def → Type 0 where
      at_const : {i : ℕ} {t : TypeTree} {e : Expr} → Inner i 2 → Leaf (child i) 19 → AtType (next (child i)) t → AtE (next (next (child i))) e →
          next (next (next (child i))) ≡ 0 → AtD i (const (place i) (ident (child i)) t e)
      at_fun : {i j : ℕ} {t : TypeTree} {ps : List Arg} {e : Expr} → Inner i 3 → Leaf (child i) 19 → AtType (next (child i)) t →
          AtParams (next (next (child i))) (values ps) j → AtE j e → next j ≡ 0 → AtD i (fun (place i) (ident (child i)) t ps e)
      at_fun_rec : {i j : ℕ} {t : TypeTree} {ps : List Arg} {e : Expr} → Inner i 4 → Leaf (child i) 19 → AtType (next (child i)) t →
          AtParams (next (next (child i))) (values ps) j → AtE j e → next j ≡ 0 → AtD i (fun_rec (place i) (ident (child i)) t ps e)
      at_fun_block : {i j : ℕ} {t : TypeTree} {ps : List Arg} {b : Block} → Inner i 32 → Leaf (child i) 19 → AtType (next (child i)) t →
          AtParams (next (next (child i))) (values ps) j → (j ≡ 0 → ⊥) → AtB j b → next j ≡ 0 → AtD i (fun_block (place i) (ident (child i)) t ps b)
      at_fun_rec_block : {i j : ℕ} {t : TypeTree} {ps : List Arg} {b : Block} → Inner i 33 → Leaf (child i) 19 → AtType (next (child i)) t →
          AtParams (next (next (child i))) (values ps) j → (j ≡ 0 → ⊥) → AtB j b → next j ≡ 0 → AtD i (fun_rec_block (place i) (ident (child i)) t ps b)
      at_var : {i : ℕ} {t : TypeTree} → Inner i 5 → Leaf (child i) 19 → AtType (next (child i)) t → next (next (child i)) ≡ 0 →
          AtD i (var (place i) (ident (child i)) t)
      at_proc : {i j : ℕ} {ps : List ArgP} {b : Block} → Inner i 6 → Leaf (child i) 19 → AtParams (next (child i)) ps j →
          (j ≡ 0 → ⊥) → AtB j b → next j ≡ 0 → AtD i (proc (place i) (ident (child i)) ps b)
      at_proc_rec : {i j : ℕ} {ps : List ArgP} {b : Block} → Inner i 7 → Leaf (child i) 19 → AtParams (next (child i)) ps j →
          (j ≡ 0 → ⊥) → AtB j b → next j ≡ 0 → AtD i (proc_rec (place i) (ident (child i)) ps b)

    -- STAT: the name is the first child, where there is one
    pub data AtS : ℕ → Stat → Type 0 where
      at_echo : {i : ℕ} {e : Expr} → Inner i 8 → AtE (child i) e → next (child i) ≡ 0 → AtS i (echo (place i) e)
      at_set : {i : ℕ} {e : Expr} → Inner i 9 → Leaf (child i) 19 → AtE (next (child i)) e → next (next (child i)) ≡ 0 →
          AtS i (set (place i) (ident (child i)) e)
      at_if_stat : {i : ℕ} {e : Expr} {a b : Block} → Inner i 10 → AtE (child i) e → (next (child i) ≡ 0 → ⊥) → AtB (next (child i)) a →
          (next (next (child i)) ≡ 0 → ⊥) → AtB (next (next (child i))) b →
          next (next (next (child i))) ≡ 0 → AtS i (if_stat (place i) e a b)
      at_while : {i : ℕ} {e : Expr} {b : Block} → Inner i 11 → AtE (child i) e → (next (child i) ≡ 0 → ⊥) → AtB (next (child i)) b → next (next (child i)) ≡ 0 →
          AtS i (while (place i) e b)
      at_call : {i : ℕ} {as' : List ExprP} → Inner i 12 → Leaf (child i) 19 → AtAs (next (child i)) as' → AtS i (call (place i) (ident (child i)) as')
      at_return : {i : ℕ} {e : Expr} → Inner i 31 → AtE (child i) e → next (child i) ≡ 0 → AtS i (return (place i) e)

    -- BLOCK
    pub data AtB : ℕ → Block → Type 0 where
      at_block : {i : ℕ} {cs : Cmds} → kind i ≡ 1 → AtCs (child i) cs → AtB i (block (place i) cs)

-- The text reads as the block b, and the tree words are its table and then zeros.
pub record ReadAs (g : Script) (b : Block) : Type 0 where
  pub reads : Reading g.text (fine b)
  pub short : length g.text ≤ 16384
  pub words : (j : ℕ) → get_or g.tree j 0 ≡ get_or (table b) j 0

-- how many expressions stand in a row
abbrev pub count_exprs : Exprs → ℕ
count_exprs (one_expr e) = 1
count_exprs (more_exprs e es) = suc (count_exprs es)
