-- From where a tree's nodes stand to the tree at a node.
use Prim.Native.Nat.{ℕ, ◌+◌, ◌<◌}
use mathlib.Core.Path.{◌≡◌, refl, sym, ap, subst}
use mathlib.Core.List.{List, [], ◌∷◌}
use native.Mathlib.Omega.{arith}
use Rattle.language.specs.Syntax.{Ident, at, TypeTree, bool, int, arrow, vec, TypeTrees, one_type, more_types, Arg, arg, ArgP, val_arg, var_arg, Expr, num, name, if_expr, and, or, app, abs, alloc, nth_expr, len, vset, Exprs, one_expr, more_exprs, ExprP, val, adr, Cmds, last, def_then, stat_then, Def, const, fun, fun_rec, fun_block, fun_rec_block, var, proc, proc_rec, Stat, echo, set, if_stat, while, call, return, Block, block}
use Rattle.language.specs.Places.{place_ident}
use Rattle.language.specs.Words.{Word, named}
use Rattle.language.specs.Types.{values}
use Rattle.language.specs.Table.{Forest, none, leaf, fork, size, first, shape_type, shape_types, shape_arg, shape_args, shape_arg_p, shape_args_p, shape_expr, shape_exprs, shape_expr_p, shape_exprs_p, shape_cmds, shape_def, shape_stat, shape_block}
use Rattle.language.proofs.Reading.Standing.{Stands, InsideArg, InsideArgs, InsideArgP, InsideArgsP, InsideExpr, InsideExprs, InsideExprP, InsideExprsP, InsideCmds, InsideDef, InsideStat, InsideBlock}
use Rattle.language.proofs.Reading.Payload.{name_stands}
use Rattle.nodes.specs.Forests.{Laid, laid_leaf, laid_fork}
use Rattle.nodes.specs.Trees.{Script, kind, place, child, next, Inner, Leaf, AtType, at_bool, at_int, at_arrow, at_vec, AtTypes, at_one_type, at_more_types, AtParam, at_val_param, at_var_param, AtParams, at_no_param, at_more_params, AtE, at_num, at_name, at_if, at_and, at_or, at_app, at_abs, at_alloc, at_nth, at_len, at_vset, AtEs, at_one_expr, at_more_exprs, AtA, at_val, at_adr, AtAs, at_no_arg, at_more_args, AtCs, at_last, at_def_then, at_stat_then, AtD, at_const, at_fun, at_fun_rec, at_fun_block, at_fun_rec_block, at_var, at_proc, at_proc_rec, AtS, at_echo, at_set, at_if_stat, at_while, at_call, at_return, AtB, at_block}
use Rattle.nodes.specs.Trees as T
use Rattle.nodes.proofs.Written.{number_stands, numeral_stands}

-- a function's parameters as a procedure's
shape_values : (ps : List Arg) (z : Forest) → shape_args ps z ≡ shape_args_p (values ps) z
unfolding shape_arg shape_args shape_arg_p shape_args_p
shape_values [] z = refl
shape_values (arg x t ∷ ps) z = ap (λ s. fork 13 (place_ident x) (shape_type t none) s) (shape_values ps z)

in_values : (P : Word → Type 0) (ps : List Arg) → InsideArgs ps P → InsideArgsP (values ps) P
unfolding InsideArg InsideArgs InsideArgP InsideArgsP
in_values P [] h = tt
in_values P (arg x t ∷ ps) h = (h.0, in_values P ps h.1)

module _ (g : Script) where
  -- the link i leads to a forest
  abbrev pub Leads : ℕ → Forest → Type 0
  Leads i none = i ≡ 0
  Leads i (leaf k p s) = Leaf g i k × (place g i ≡ p) × Leads (next g i) s
  Leads i (fork k p c s) = Inner g i k × (place g i ≡ p) × Leads (child g i) c × Leads (next g i) s

  -- the link to where a forest stands leads to it
  pub leads : (f : Forest) (n : ℕ) → Laid g.tree f n → (n ≡ 0 → ⊥) → Leads (first f n) f
  unfolding first
  leads none n a z = refl
  leads (leaf k p s) n (laid_leaf x a) z = (
    record { kind_is = x.kind_is; there = z; childless = x.child_is },
    x.place_is,
    subst (λ j. Leads j s) (sym x.next_is) (leads s (n + 1) a (λ e. omega arith)),
  )
  leads (fork k p c s) n (laid_fork x a b) z = (
    record { kind_is = x.kind_is; there = z },
    x.place_is,
    subst (λ j. Leads j c) (sym x.child_is) (leads c (n + 1) a (λ e. omega arith)),
    subst (λ j. Leads j s) (sym x.next_is) (leads s (n + 1 + size c) b (λ e. omega arith)),
  )

  -- a name is the one at its node
  ident_is : (x : Ident) (i : ℕ) → place g i ≡ place_ident x → Stands g.text (named x) → x ≡ T.ident g i
  ident_is (at p x) i h s = rw (h, ← name_stands s)

  rest_type : (t : TypeTree) (i : ℕ) (f : Forest) → Leads i (shape_type t f) → Leads (next g i) f
  unfolding shape_type
  rest_type (bool p) i f h = h.2
  rest_type (int p) i f h = h.2
  rest_type (arrow p ts t) i f h = h.3
  rest_type (vec p t) i f h = h.3

  mutual
    unfolding shape_type

    pub at_type : (t : TypeTree) (i : ℕ) (f : Forest) → Leads i (shape_type t f) → AtType g i t
    at_type (bool p) i f h = rw (← h.1) (at_bool h.0)
    at_type (int p) i f h = rw (← h.1) (at_int h.0)
    at_type (arrow p ts t) i f h =
        let r = at_types ts _ _ h.2 in rw (← h.1) (at_arrow h.0 r.1 (at_type t _ _ r.2) (rest_type t _ _ r.2))
    at_type (vec p t) i f h = rw (← h.1) (at_vec h.0 (at_type t _ _ h.2) (rest_type t _ _ h.2))

    at_types : (ts : TypeTrees) (i : ℕ) (f : Forest) → Leads i (shape_types ts f) → (j : ℕ) × AtTypes g i ts j × Leads j f
    at_types (one_type t) i f h = (_, at_one_type (at_type t i f h), rest_type t i f h)
    at_types (more_types t ts) i f h = let r = at_types ts _ f (rest_type t i _ h) in (r.0, at_more_types (at_type t i _ h) r.1, r.2)

  -- what ends a row of parameters
  abbrev NoParam : ℕ → Type 0
  NoParam i = (kind g i ≡ 13 → ⊥) × (kind g i ≡ 14 → ⊥)

  high_kind : (i k : ℕ) → 14 < k → kind g i ≡ k → NoParam i
  high_kind i k l e = ((λ h. omega arith), λ h. omega arith)

  expr_no_param : (e : Expr) (i : ℕ) (f : Forest) → Leads i (shape_expr e f) → NoParam i
  unfolding shape_expr
  expr_no_param (num p z) i f h = high_kind i 18 (omega arith) h.0.kind_is
  expr_no_param (name x) i f h = high_kind i 19 (omega arith) h.0.kind_is
  expr_no_param (if_expr p a b c) i f h = high_kind i 20 (omega arith) h.0.kind_is
  expr_no_param (and p a b) i f h = high_kind i 21 (omega arith) h.0.kind_is
  expr_no_param (or p a b) i f h = high_kind i 22 (omega arith) h.0.kind_is
  expr_no_param (app p e es) i f h = high_kind i 23 (omega arith) h.0.kind_is
  expr_no_param (abs p ps e) i f h = high_kind i 24 (omega arith) h.0.kind_is
  expr_no_param (alloc p t e) i f h = high_kind i 27 (omega arith) h.0.kind_is
  expr_no_param (nth_expr p a b) i f h = high_kind i 28 (omega arith) h.0.kind_is
  expr_no_param (len p a) i f h = high_kind i 29 (omega arith) h.0.kind_is
  expr_no_param (vset p a b c) i f h = high_kind i 30 (omega arith) h.0.kind_is

  block_no_param : (b : Block) (i : ℕ) (f : Forest) → Leads i (shape_block b f) → NoParam i
  unfolding shape_cmds
  block_no_param (block p cs) i f h = let k = h.0.kind_is in ((λ e. omega arith), λ e. omega arith)

  pub at_param : (a : ArgP) (i : ℕ) (f : Forest) → Leads i (shape_arg_p a f) → InsideArgP a (Stands g.text) → AtParam g i a × Leads (next g i) f
  unfolding shape_arg_p InsideArgP
  at_param (val_arg x t) i f h s = (rw (ident_is x i h.1 s) (at_val_param h.0 (at_type t _ _ h.2) (rest_type t _ _ h.2)), h.3)
  at_param (var_arg x t) i f h s = (rw (ident_is x i h.1 s) (at_var_param h.0 (at_type t _ _ h.2) (rest_type t _ _ h.2)), h.3)

  at_params : (ps : List ArgP) (i : ℕ) (z : Forest) → Leads i (shape_args_p ps z) → InsideArgsP ps (Stands g.text) → ((j : ℕ) → Leads j z → NoParam j) →
      (j : ℕ) × AtParams g i ps j × Leads j z
  unfolding shape_args_p InsideArgsP
  at_params [] i z h s n = (i, at_no_param (n i h).0 (n i h).1, h)
  at_params (a ∷ ps) i z h s n = let q = at_param a i _ h s.0 in let r = at_params ps _ z q.1 s.1 n in (r.0, at_more_params q.0 r.1, r.2)

  at_args : (ps : List Arg) (i : ℕ) (z : Forest) → Leads i (shape_args ps z) → InsideArgs ps (Stands g.text) → ((j : ℕ) → Leads j z → NoParam j) →
      (j : ℕ) × AtParams g i (values ps) j × Leads j z
  at_args ps i z h s n = at_params (values ps) i z (subst (λ f. Leads i f) (shape_values ps z) h) (in_values (Stands g.text) ps s) n

  rest_expr : (e : Expr) (i : ℕ) (f : Forest) → Leads i (shape_expr e f) → Leads (next g i) f
  unfolding shape_expr
  rest_expr (num p z) i f h = h.2
  rest_expr (name x) i f h = h.2
  rest_expr (if_expr p a b c) i f h = h.3
  rest_expr (and p a b) i f h = h.3
  rest_expr (or p a b) i f h = h.3
  rest_expr (app p e es) i f h = h.3
  rest_expr (abs p ps e) i f h = h.3
  rest_expr (alloc p t e) i f h = h.3
  rest_expr (nth_expr p a b) i f h = h.3
  rest_expr (len p a) i f h = h.3
  rest_expr (vset p a b c) i f h = h.3

  mutual
    unfolding shape_expr InsideExpr

    pub at_expr : (e : Expr) (i : ℕ) (f : Forest) → Leads i (shape_expr e f) → InsideExpr e (Stands g.text) → AtE g i e
    at_expr (num p z) i f h s = rw (number_stands s, ← h.1) (at_num h.0 (rw h.1 (numeral_stands s)))
    at_expr (name x) i f h s = rw (ident_is x i h.1 s) (at_name h.0)
    at_expr (if_expr p a b c) i f h s =
        let j = rest_expr a _ _ h.2 in let k = rest_expr b _ _ j in
        rw (← h.1) (at_if h.0 (at_expr a _ _ h.2 s.0) (at_expr b _ _ j s.1) (at_expr c _ _ k s.2) (rest_expr c _ _ k))
    at_expr (and p a b) i f h s =
        let j = rest_expr a _ _ h.2 in rw (← h.1) (at_and h.0 (at_expr a _ _ h.2 s.0) (at_expr b _ _ j s.1) (rest_expr b _ _ j))
    at_expr (or p a b) i f h s =
        let j = rest_expr a _ _ h.2 in rw (← h.1) (at_or h.0 (at_expr a _ _ h.2 s.0) (at_expr b _ _ j s.1) (rest_expr b _ _ j))
    at_expr (app p e es) i f h s = rw (← h.1) (at_app h.0 (at_expr e _ _ h.2 s.0) (at_exprs es _ (rest_expr e _ _ h.2) s.1))
    at_expr (abs p ps e) i f h s =
        let r = at_args ps _ _ h.2 s.0 (λ j. expr_no_param e j none) in
        rw (← h.1) (at_abs h.0 r.1 (at_expr e _ _ r.2 s.1) (rest_expr e _ _ r.2))
    at_expr (alloc p t e) i f h s =
        let j = rest_type t _ _ h.2 in rw (← h.1) (at_alloc h.0 (at_type t _ _ h.2) (at_expr e _ _ j s) (rest_expr e _ _ j))
    at_expr (nth_expr p a b) i f h s =
        let j = rest_expr a _ _ h.2 in rw (← h.1) (at_nth h.0 (at_expr a _ _ h.2 s.0) (at_expr b _ _ j s.1) (rest_expr b _ _ j))
    at_expr (len p a) i f h s = rw (← h.1) (at_len h.0 (at_expr a _ _ h.2 s) (rest_expr a _ _ h.2))
    at_expr (vset p a b c) i f h s =
        let j = rest_expr a _ _ h.2 in let k = rest_expr b _ _ j in
        rw (← h.1) (at_vset h.0 (at_expr a _ _ h.2 s.0) (at_expr b _ _ j s.1) (at_expr c _ _ k s.2) (rest_expr c _ _ k))

    at_exprs : (es : Exprs) (i : ℕ) → Leads i (shape_exprs es none) → InsideExprs es (Stands g.text) → AtEs g i es
    at_exprs (one_expr e) i h s = at_one_expr (at_expr e i none h s) (rest_expr e i none h)
    at_exprs (more_exprs e es) i h s = at_more_exprs (at_expr e i _ h s.0) (at_exprs es _ (rest_expr e i _ h) s.1)

  pub at_arg : (a : ExprP) (i : ℕ) (f : Forest) → Leads i (shape_expr_p a f) → InsideExprP a (Stands g.text) → AtA g i a × Leads (next g i) f
  unfolding shape_expr_p InsideExprP
  at_arg (val e) i f h s = (at_val (at_expr e i f h s), rest_expr e i f h)
  at_arg (adr p x) i f h s = (rw (ident_is x (child g i) h.2.1 s, ← h.1) (at_adr h.0 h.2.0 h.2.2), h.3)

  at_arguments : (as' : List ExprP) (i : ℕ) → Leads i (shape_exprs_p as' none) → InsideExprsP as' (Stands g.text) → AtAs g i as'
  unfolding shape_exprs_p InsideExprsP
  at_arguments [] i h s = rw h at_no_arg
  at_arguments (a ∷ as') i h s = let r = at_arg a i _ h s.0 in at_more_args r.0 (at_arguments as' _ r.1 s.1)

  mutual
    unfolding shape_cmds InsideCmds

    pub at_cmds : (cs : Cmds) (i : ℕ) → Leads i (shape_cmds cs none) → InsideCmds cs (Stands g.text) → AtCs g i cs
    at_cmds (last c) i h s = let r = at_stat c i none h s in at_last r.0 r.1
    at_cmds (def_then d cs) i h s = let r = at_def d i _ h s.0 in at_def_then r.0 (at_cmds cs _ r.1 s.1)
    at_cmds (stat_then c cs) i h s = let r = at_stat c i _ h s.0 in at_stat_then r.0 (at_cmds cs _ r.1 s.1)

    pub at_def : (d : Def) (i : ℕ) (f : Forest) → Leads i (shape_def d f) → InsideDef d (Stands g.text) → AtD g i d × Leads (next g i) f
    at_def (const p x t e) i f h s =
        let j = h.2.2 in let k = rest_type t _ _ j in
        (rw (ident_is x (child g i) h.2.1 s.0, ← h.1) (at_const h.0 h.2.0 (at_type t _ _ j) (at_expr e _ _ k s.1) (rest_expr e _ _ k)), h.3)
    at_def (fun p x t ps e) i f h s =
        let j = h.2.2 in let r = at_args ps _ _ (rest_type t _ _ j) s.1 (λ j. expr_no_param e j none) in (
          rw (ident_is x (child g i) h.2.1 s.0, ← h.1)
              (at_fun h.0 h.2.0 (at_type t _ _ j) r.1 (at_expr e _ _ r.2 s.2) (rest_expr e _ _ r.2)),
          h.3,
        )
    at_def (fun_rec p x t ps e) i f h s =
        let j = h.2.2 in let r = at_args ps _ _ (rest_type t _ _ j) s.1 (λ j. expr_no_param e j none) in (
          rw (ident_is x (child g i) h.2.1 s.0, ← h.1)
              (at_fun_rec h.0 h.2.0 (at_type t _ _ j) r.1 (at_expr e _ _ r.2 s.2) (rest_expr e _ _ r.2)),
          h.3,
        )
    at_def (fun_block p x t ps b) i f h s =
        let j = h.2.2 in let r = at_args ps _ _ (rest_type t _ _ j) s.1 (λ j. block_no_param b j none) in let q = at_inner b _ none r.2 s.2 in
        (rw (ident_is x (child g i) h.2.1 s.0, ← h.1) (at_fun_block h.0 h.2.0 (at_type t _ _ j) r.1 q.0 q.1 q.2), h.3)
    at_def (fun_rec_block p x t ps b) i f h s =
        let j = h.2.2 in let r = at_args ps _ _ (rest_type t _ _ j) s.1 (λ j. block_no_param b j none) in let q = at_inner b _ none r.2 s.2 in
        (rw (ident_is x (child g i) h.2.1 s.0, ← h.1) (at_fun_rec_block h.0 h.2.0 (at_type t _ _ j) r.1 q.0 q.1 q.2), h.3)
    at_def (var p x t) i f h s =
        let j = h.2.2 in (rw (ident_is x (child g i) h.2.1 s, ← h.1) (at_var h.0 h.2.0 (at_type t _ _ j) (rest_type t _ _ j)), h.3)
    at_def (proc p x ps b) i f h s =
        let r = at_params ps _ _ h.2.2 s.1 (λ j. block_no_param b j none) in let q = at_inner b _ none r.2 s.2 in
        (rw (ident_is x (child g i) h.2.1 s.0, ← h.1) (at_proc h.0 h.2.0 r.1 q.0 q.1 q.2), h.3)
    at_def (proc_rec p x ps b) i f h s =
        let r = at_params ps _ _ h.2.2 s.1 (λ j. block_no_param b j none) in let q = at_inner b _ none r.2 s.2 in
        (rw (ident_is x (child g i) h.2.1 s.0, ← h.1) (at_proc_rec h.0 h.2.0 r.1 q.0 q.1 q.2), h.3)

    pub at_stat : (c : Stat) (i : ℕ) (f : Forest) → Leads i (shape_stat c f) → InsideStat c (Stands g.text) → AtS g i c × Leads (next g i) f
    at_stat (echo p e) i f h s = (rw (← h.1) (at_echo h.0 (at_expr e _ _ h.2 s) (rest_expr e _ _ h.2)), h.3)
    at_stat (set p x e) i f h s =
        let j = h.2.2 in (rw (ident_is x (child g i) h.2.1 s.0, ← h.1) (at_set h.0 h.2.0 (at_expr e _ _ j s.1) (rest_expr e _ _ j)), h.3)
    at_stat (if_stat p e a b) i f h s =
        let q = at_inner a _ _ (rest_expr e _ _ h.2) s.1 in let r = at_inner b _ _ q.2 s.2 in
        (rw (← h.1) (at_if_stat h.0 (at_expr e _ _ h.2 s.0) q.0 q.1 r.0 r.1 r.2), h.3)
    at_stat (while p e b) i f h s =
        let q = at_inner b _ _ (rest_expr e _ _ h.2) s.1 in
        (rw (← h.1) (at_while h.0 (at_expr e _ _ h.2 s.0) q.0 q.1 q.2), h.3)
    at_stat (call p x as') i f h s =
        (rw (ident_is x (child g i) h.2.1 s.0, ← h.1) (at_call h.0 h.2.0 (at_arguments as' _ h.2.2 s.1)), h.3)
    at_stat (return p e) i f h s = (rw (← h.1) (at_return h.0 (at_expr e _ _ h.2 s) (rest_expr e _ _ h.2)), h.3)

    pub at_inner : (b : Block) (i : ℕ) (f : Forest) → Leads i (shape_block b f) → InsideBlock b (Stands g.text) → (i ≡ 0 → ⊥) × AtB g i b × Leads (next g i) f
    at_inner (block p cs) i f h s = (h.0.there, rw (← h.1) (at_block h.0.kind_is (at_cmds cs _ h.2 s)), h.3)
