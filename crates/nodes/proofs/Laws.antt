-- What a tree at a node says of the node itself: it is there, and its place is the tree's.
use Prim.Native.Nat.{ℕ}
use mathlib.Core.Path.{◌≡◌, refl}
use mathlib.Core.List.{List}
use Rattle.language.specs.Syntax.{TypeTree, TypeTrees, ArgP, Expr, Exprs, ExprP, Cmds, Def, Stat}
use Rattle.language.specs.Places.{place_expr, place_arg, place_param, place_def, place_stat}
use Rattle.nodes.specs.Trees.{Script, place, child, AtType, at_bool, at_int, at_arrow, at_vec, AtTypes, at_one_type, at_more_types, AtParam, at_val_param, at_var_param, AtParams, at_no_param, at_more_params, AtE, at_num, at_name, at_if, at_and, at_or, at_app, at_abs, at_alloc, at_nth, at_len, at_vset, AtEs, at_one_expr, at_more_exprs, AtA, at_val, at_adr, AtCs, at_last, at_def_then, at_stat_then, AtD, at_const, at_fun, at_fun_rec, at_fun_block, at_fun_rec_block, at_var, at_proc, at_proc_rec, AtS, at_echo, at_set, at_if_stat, at_while, at_call, at_return}

module _ {g : Script} where
  pub type_there : {i : ℕ} {t : TypeTree} → AtType g i t → i ≡ 0 → ⊥
  type_there (at_bool k) = k.there
  type_there (at_int k) = k.there
  type_there (at_arrow k as' a e) = k.there
  type_there (at_vec k a e) = k.there

  pub types_there : {i j : ℕ} {ts : TypeTrees} → AtTypes g i ts j → i ≡ 0 → ⊥
  types_there (at_one_type a) = type_there a
  types_there (at_more_types a b) = type_there a

  pub param_there : {i : ℕ} {a : ArgP} → AtParam g i a → i ≡ 0 → ⊥
  param_there (at_val_param k a e) = k.there
  param_there (at_var_param k a e) = k.there

  -- a parameter's type is there
  pub param_child : {i : ℕ} {a : ArgP} → AtParam g i a → child g i ≡ 0 → ⊥
  param_child (at_val_param k t e) = type_there t
  param_child (at_var_param k t e) = type_there t

  -- where the row ends with a node, it begins with one
  pub params_there : {i j : ℕ} {ps : List ArgP} → AtParams g i ps j → (j ≡ 0 → ⊥) → i ≡ 0 → ⊥
  params_there (at_no_param a b) z = z
  params_there (at_more_params a b) z = param_there a

  pub expr_there : {i : ℕ} {e : Expr} → AtE g i e → i ≡ 0 → ⊥
  expr_there (at_num k n) = k.there
  expr_there (at_name k) = k.there
  expr_there (at_if k a b c e) = k.there
  expr_there (at_and k a b e) = k.there
  expr_there (at_or k a b e) = k.there
  expr_there (at_app k f es) = k.there
  expr_there (at_abs k ps b e) = k.there
  expr_there (at_alloc k t a e) = k.there
  expr_there (at_nth k a b e) = k.there
  expr_there (at_len k a e) = k.there
  expr_there (at_vset k a b c e) = k.there

  pub exprs_there : {i : ℕ} {es : Exprs} → AtEs g i es → i ≡ 0 → ⊥
  exprs_there (at_one_expr a e) = expr_there a
  exprs_there (at_more_exprs a b) = expr_there a

  pub arg_there : {i : ℕ} {a : ExprP} → AtA g i a → i ≡ 0 → ⊥
  arg_there (at_val a) = expr_there a
  arg_there (at_adr k x e) = k.there

  pub def_there : {i : ℕ} {d : Def} → AtD g i d → i ≡ 0 → ⊥
  def_there (at_const k x t e z) = k.there
  def_there (at_fun k x t ps e z) = k.there
  def_there (at_fun_rec k x t ps e z) = k.there
  def_there (at_fun_block k x t ps y b z) = k.there
  def_there (at_fun_rec_block k x t ps y b z) = k.there
  def_there (at_var k x t z) = k.there
  def_there (at_proc k x ps y b z) = k.there
  def_there (at_proc_rec k x ps y b z) = k.there

  pub stat_there : {i : ℕ} {c : Stat} → AtS g i c → i ≡ 0 → ⊥
  stat_there (at_echo k e z) = k.there
  stat_there (at_set k x e z) = k.there
  stat_there (at_if_stat k e y a w b z) = k.there
  stat_there (at_while k e y b z) = k.there
  stat_there (at_call k x as') = k.there
  stat_there (at_return k e z) = k.there

  pub cmds_there : {i : ℕ} {cs : Cmds} → AtCs g i cs → i ≡ 0 → ⊥
  cmds_there (at_last a z) = stat_there a
  cmds_there (at_def_then a b) = def_there a
  cmds_there (at_stat_then a b) = stat_there a

  pub param_place : {i : ℕ} {a : ArgP} → AtParam g i a → place_param a ≡ place g i
  param_place (at_val_param k a e) = refl
  param_place (at_var_param k a e) = refl

  pub expr_place : {i : ℕ} {e : Expr} → AtE g i e → place_expr e ≡ place g i
  expr_place (at_num k n) = refl
  expr_place (at_name k) = refl
  expr_place (at_if k a b c e) = refl
  expr_place (at_and k a b e) = refl
  expr_place (at_or k a b e) = refl
  expr_place (at_app k f es) = refl
  expr_place (at_abs k ps b e) = refl
  expr_place (at_alloc k t a e) = refl
  expr_place (at_nth k a b e) = refl
  expr_place (at_len k a e) = refl
  expr_place (at_vset k a b c e) = refl

  pub arg_place : {i : ℕ} {a : ExprP} → AtA g i a → place_arg a ≡ place g i
  arg_place (at_val a) = expr_place a
  arg_place (at_adr k x e) = refl

  pub def_place : {i : ℕ} {d : Def} → AtD g i d → place_def d ≡ place g i
  def_place (at_const k x t e z) = refl
  def_place (at_fun k x t ps e z) = refl
  def_place (at_fun_rec k x t ps e z) = refl
  def_place (at_fun_block k x t ps y b z) = refl
  def_place (at_fun_rec_block k x t ps y b z) = refl
  def_place (at_var k x t z) = refl
  def_place (at_proc k x ps y b z) = refl
  def_place (at_proc_rec k x ps y b z) = refl

  pub stat_place : {i : ℕ} {c : Stat} → AtS g i c → place_stat c ≡ place g i
  stat_place (at_echo k e z) = refl
  stat_place (at_set k x e z) = refl
  stat_place (at_if_stat k e y a w b z) = refl
  stat_place (at_while k e y b z) = refl
  stat_place (at_call k x as') = refl
  stat_place (at_return k e z) = refl
