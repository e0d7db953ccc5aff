-- Where TYPE and DOUBLE are reported (document 01, request 1): the first node, in the order in which nodes end, that cannot be typed.
-- Children end before their parents, so at the first such node every part is typed and the node's own rule cannot be met.
use Rattle.std.specs.Prelude.{◌∷◌, ◌++◌}
use Rattle.language.specs.Library.{ℕ, List, [], Option, none, some}
use Rattle.language.specs.Syntax.{Name, Ident, at, TypeTree, bool, int, arrow, vec, TypeTrees, one_type, more_types, ArgP, Expr, num, name, if_expr, and, or, app, abs, alloc, nth_expr, len, vset, Exprs, one_expr, more_exprs, ExprP, val, adr, Cmds, last, def_then, stat_then, Def, const, fun, fun_rec, fun_block, fun_rec_block, var, proc, proc_rec, Stat, echo, set, if_stat, while, call, return, Block, block}
use Rattle.language.specs.Places.{place_expr, place_param, place_def, place_stat, place_block}
use Rattle.language.specs.Answers.{Refusal, TYPE, DOUBLE}
use Rattle.language.specs.Names.{Op, head_operator}
use Rattle.language.specs.Types.{Ty, type_of, Par, value, ref, plain, procedure, Ctx, extend, values, pars, param_type, param_name, declared, fun_type, Flow}
use Rattle.language.specs.Typing.{Formed, Declarable, Single, HasE, HasA, GoesOn, HasB, HasD, HasS, Typable}

-- a node that a rule judges, with the names that it may use. Types but vec, names after a key word and operator heads have no rule of their own.
-- A statement that others follow and a program's block are judged once more, at themselves: what always returns stands last, and a program never returns
pub data JudgedNode : Type 0 where
  expr_node : Ctx → Expr → JudgedNode
  adr_node : Ctx → ℕ → Ident → JudgedNode
  vec_node : ℕ → TypeTree → JudgedNode
  param_node : ArgP → JudgedNode
  single_node : (before : List Name) → ArgP → JudgedNode  -- the same parameter, after its own rule: that its name is none of those before it
  def_node : Ctx → Def → JudgedNode
  stat_node followed_node : Ctx → Stat → JudgedNode
  block_node : Ctx → Block → JudgedNode
  prog_node : Block → JudgedNode

abbrev pub place_node : JudgedNode → ℕ
place_node =
    elim [
      | expr_node Γ e ↦ place_expr e
      | adr_node Γ p x ↦ p
      | vec_node p t ↦ p
      | param_node a ↦ place_param a
      | single_node xs a ↦ place_param a
      | def_node Γ d ↦ place_def d
      | stat_node Γ c ↦ place_stat c
      | followed_node Γ c ↦ place_stat c
      | block_node Γ b ↦ place_block b
      | prog_node b ↦ place_block b
    ]

abbrev pub refusal_node : JudgedNode → Refusal  -- what is said where a node cannot be typed
refusal_node =
    elim [
      | expr_node Γ e ↦ TYPE
      | adr_node Γ p x ↦ TYPE
      | vec_node p t ↦ TYPE
      | param_node a ↦ TYPE
      | single_node xs a ↦ DOUBLE
      | def_node Γ d ↦ TYPE
      | stat_node Γ c ↦ TYPE
      | followed_node Γ c ↦ TYPE
      | block_node Γ b ↦ TYPE
      | prog_node b ↦ TYPE
    ]

abbrev pub Typed : JudgedNode → Type 0  -- a node that can be typed
Typed (expr_node Γ e) = (t : Ty) × HasE Γ e t
Typed (adr_node Γ p x) = (q : Par) × HasA Γ (adr p x) q
Typed (vec_node p t) = Formed (vec p t)
Typed (param_node a) = Declarable a
Typed (single_node xs a) = Single xs a
Typed (def_node Γ d) = (Δ : Ctx) × HasD Γ d Δ
Typed (stat_node Γ c) = (f : Flow) × HasS Γ c f
Typed (followed_node Γ c) = (f : Flow) × HasS Γ c f × GoesOn f
Typed (block_node Γ b) = (f : Flow) × HasB Γ b f
Typed (prog_node b) = Typable b

abbrev pub after_def : Def → Ctx → Ctx  -- the names after a definition
after_def (const p (at q x) t e) Γ = (x, plain (value (type_of t))) ∷ Γ
after_def (fun p (at q x) t ps e) Γ = (x, plain (value (fun_type ps t))) ∷ Γ
after_def (fun_rec p (at q x) t ps e) Γ = (x, plain (value (fun_type ps t))) ∷ Γ
after_def (fun_block p (at q x) t ps b) Γ = (x, plain (value (fun_type ps t))) ∷ Γ
after_def (fun_rec_block p (at q x) t ps b) Γ = (x, plain (value (fun_type ps t))) ∷ Γ
after_def (var p (at q x) t) Γ = (x, plain (ref (type_of t))) ∷ Γ
after_def (proc p (at q x) ps b) Γ = (x, procedure (pars ps)) ∷ Γ
after_def (proc_rec p (at q x) ps b) Γ = (x, procedure (pars ps)) ∷ Γ

-- the vec nodes of a type, in the order in which they end: what a vec is of ends before it
unfoldable mutual
  pub nodes_type : TypeTree → List JudgedNode
  nodes_type (bool p) = []
  nodes_type (int p) = []
  nodes_type (arrow p ts t) = nodes_types ts ++ nodes_type t
  nodes_type (vec p t) = nodes_type t ++ (vec_node p t ∷ [])

  pub nodes_types : TypeTrees → List JudgedNode
  nodes_types (one_type t) = nodes_type t
  nodes_types (more_types t ts) = nodes_type t ++ nodes_types ts

abbrev pub nodes_after : List Name → List ArgP → List JudgedNode  -- parameters that follow those with the names `before`; at each TYPE comes first
nodes_after before [] = []
nodes_after before (a ∷ ps) = nodes_type (param_type a) ++ (param_node a ∷ single_node before a ∷ nodes_after (param_name a ∷ before) ps)

abbrev pub nodes_params : List ArgP → List JudgedNode  -- parameters end before the body, and their types before them
nodes_params ps = nodes_after [] ps

abbrev pub nodes_head : Option Op → List JudgedNode → List JudgedNode  -- an operator's name at the head is not judged
nodes_head none l = l
nodes_head (some o) l = []

-- the nodes of a tree in the order in which they end
unfoldable mutual
  pub nodes_expr : Ctx → Expr → List JudgedNode
  nodes_expr Γ (num p n) = expr_node Γ (num p n) ∷ []
  nodes_expr Γ (name x) = expr_node Γ (name x) ∷ []
  nodes_expr Γ (if_expr p a b c) = nodes_expr Γ a ++ (nodes_expr Γ b ++ (nodes_expr Γ c ++ (expr_node Γ (if_expr p a b c) ∷ [])))
  nodes_expr Γ (and p a b) = nodes_expr Γ a ++ (nodes_expr Γ b ++ (expr_node Γ (and p a b) ∷ []))
  nodes_expr Γ (or p a b) = nodes_expr Γ a ++ (nodes_expr Γ b ++ (expr_node Γ (or p a b) ∷ []))
  nodes_expr Γ (app p f es) = nodes_head (head_operator f) (nodes_expr Γ f) ++ (nodes_exprs Γ es ++ (expr_node Γ (app p f es) ∷ []))
  nodes_expr Γ (abs p ps e) = nodes_params (values ps) ++ (nodes_expr (extend (declared (values ps)) Γ) e ++ (expr_node Γ (abs p ps e) ∷ []))
  nodes_expr Γ (alloc p t e) = nodes_type t ++ (nodes_expr Γ e ++ (expr_node Γ (alloc p t e) ∷ []))
  nodes_expr Γ (nth_expr p a b) = nodes_expr Γ a ++ (nodes_expr Γ b ++ (expr_node Γ (nth_expr p a b) ∷ []))
  nodes_expr Γ (len p a) = nodes_expr Γ a ++ (expr_node Γ (len p a) ∷ [])
  nodes_expr Γ (vset p a b c) = nodes_expr Γ a ++ (nodes_expr Γ b ++ (nodes_expr Γ c ++ (expr_node Γ (vset p a b c) ∷ [])))

  pub nodes_exprs : Ctx → Exprs → List JudgedNode
  nodes_exprs Γ (one_expr e) = nodes_expr Γ e
  nodes_exprs Γ (more_exprs e es) = nodes_expr Γ e ++ nodes_exprs Γ es

abbrev pub nodes_arg : Ctx → ExprP → List JudgedNode
nodes_arg Γ (val e) = nodes_expr Γ e
nodes_arg Γ (adr p x) = adr_node Γ p x ∷ []

abbrev pub nodes_args : Ctx → List ExprP → List JudgedNode
nodes_args Γ [] = []
nodes_args Γ (a ∷ as') = nodes_arg Γ a ++ nodes_args Γ as'

unfoldable mutual
  pub nodes_block : Ctx → Block → List JudgedNode
  nodes_block Γ (block p cs) = nodes_cmds Γ cs ++ (block_node Γ (block p cs) ∷ [])

  pub nodes_cmds : Ctx → Cmds → List JudgedNode
  nodes_cmds Γ (def_then d cs) = nodes_def Γ d ++ nodes_cmds (after_def d Γ) cs
  nodes_cmds Γ (stat_then c cs) = nodes_stat Γ c ++ (followed_node Γ c ∷ nodes_cmds Γ cs)
  nodes_cmds Γ (last c) = nodes_stat Γ c

  pub nodes_def : Ctx → Def → List JudgedNode
  nodes_def Γ (const p x t e) = nodes_type t ++ (nodes_expr Γ e ++ (def_node Γ (const p x t e) ∷ []))
  nodes_def Γ (fun p x t ps e) =
      nodes_type t ++ (nodes_params (values ps) ++ (nodes_expr (extend (declared (values ps)) Γ) e ++ (def_node Γ (fun p x t ps e) ∷ [])))
  nodes_def Γ (fun_rec p (at q x) t ps e) =
      nodes_type t ++ (nodes_params (values ps) ++
      (nodes_expr ((x, plain (value (fun_type ps t))) ∷ extend (declared (values ps)) Γ) e ++ (def_node Γ (fun_rec p (at q x) t ps e) ∷ [])))
  nodes_def Γ (fun_block p x t ps b) =
      nodes_type t ++ (nodes_params (values ps) ++ (nodes_block (extend (declared (values ps)) Γ) b ++ (def_node Γ (fun_block p x t ps b) ∷ [])))
  nodes_def Γ (fun_rec_block p (at q x) t ps b) =
      nodes_type t ++ (nodes_params (values ps) ++
      (nodes_block ((x, plain (value (fun_type ps t))) ∷ extend (declared (values ps)) Γ) b ++ (def_node Γ (fun_rec_block p (at q x) t ps b) ∷ [])))
  nodes_def Γ (var p x t) = nodes_type t ++ (def_node Γ (var p x t) ∷ [])
  nodes_def Γ (proc p x ps b) = nodes_params ps ++ (nodes_block (extend (declared ps) Γ) b ++ (def_node Γ (proc p x ps b) ∷ []))
  nodes_def Γ (proc_rec p (at q x) ps b) =
      nodes_params ps ++ (nodes_block ((x, procedure (pars ps)) ∷ extend (declared ps) Γ) b ++ (def_node Γ (proc_rec p (at q x) ps b) ∷ []))

  pub nodes_stat : Ctx → Stat → List JudgedNode
  nodes_stat Γ (echo p e) = nodes_expr Γ e ++ (stat_node Γ (echo p e) ∷ [])
  nodes_stat Γ (set p x e) = nodes_expr Γ e ++ (stat_node Γ (set p x e) ∷ [])
  nodes_stat Γ (if_stat p e a b) = nodes_expr Γ e ++ (nodes_block Γ a ++ (nodes_block Γ b ++ (stat_node Γ (if_stat p e a b) ∷ [])))
  nodes_stat Γ (while p e b) = nodes_expr Γ e ++ (nodes_block Γ b ++ (stat_node Γ (while p e b) ∷ []))
  nodes_stat Γ (call p x as') = nodes_args Γ as' ++ (stat_node Γ (call p x as') ∷ [])
  nodes_stat Γ (return p e) = nodes_expr Γ e ++ (stat_node Γ (return p e) ∷ [])

abbrev pub nodes_prog : Block → List JudgedNode  -- those of a program
nodes_prog b = nodes_block [] b ++ (prog_node b ∷ [])

pub data FirstBad : List JudgedNode → Refusal → ℕ → Type 0 where  -- the first of the nodes that cannot be typed stands at q, and r is said there
  here : {n : JudgedNode} {l : List JudgedNode} → ¬ Typed n → FirstBad (n ∷ l) (refusal_node n) (place_node n)
  later : {n : JudgedNode} {l : List JudgedNode} {r : Refusal} {q : ℕ} → Typed n → FirstBad l r q → FirstBad (n ∷ l) r q

abbrev pub TypeRefused : Block → Refusal → ℕ → Type 0  -- a program is refused with r, TYPE or DOUBLE, at q
TypeRefused b r q = FirstBad (nodes_prog b) r q
