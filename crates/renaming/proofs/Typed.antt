-- Trees that agree but for places and for names that correspond one to one have the same types.
use mathlib.Core.Path.{◌≡◌, refl, sym, ◌∙◌, ap, subst}
use mathlib.Core.Bool.{false}
use mathlib.Core.List.{List, [], ◌∷◌}
use Rattle.language.specs.Syntax.{Name, at, TypeTree, bool, int, arrow, vec, TypeTrees, one_type, more_types, Arg, ArgP, Expr, num, name, if_expr, and, or, app, abs, alloc, nth_expr, len, vset, Exprs, one_expr, more_exprs, ExprP, Cmds, last, def_then, stat_then, Def, const, fun, fun_rec, fun_block, fun_rec_block, var, proc, proc_rec, Stat, echo, set, if_stat, while, call, return, Block, block}
use Rattle.language.specs.Names.{lookup}
use Rattle.language.specs.Grammar.{BLOCK, CMDS, DEF, STAT, TYPE, TYPES, ARGS, ARGP, ARGSP, EXPR, EXPRS, EXPRP, EXPRSP}
use Rattle.language.specs.Types.{Ty, fn, vec_of, Tys, type_of, types_of, Par, value, ref, Entity, plain, procedure, Ctx, find, extend, values, par, pars, declared, arg_types, fun_type, Flow, always}
use Rattle.language.specs.Typing.{Free, IsBase, IsElement, Formed, AllFormed, among, DeclarableAfter, AllDeclarable, HasE, NUM, LITERAL, IDV, IDR, IF, AND, OR, PRIM, APP, ABS, ALLOC, NTH, LEN, VSET, HasEs, ONE, MORE, HasA, REF, VAL, HasAs, NO_ARGS, ARGS as ARGUMENTS, HasB, BLOC, HasC, DECS, STATS, END, HasD, CONST, FUN, FUNREC, FUNP, FUNRECP, VAR, PROC, PROCREC, HasS, ECHO, SET, IFS, WHILE, CALL, RET, Typable}
use Rattle.renaming.specs.Alike.{Alike, a_block, a_last, a_def_then, a_stat_then, a_const, a_fun, a_fun_rec, a_fun_block, a_fun_rec_block, a_var, a_proc, a_proc_rec, a_bool, a_int, a_arrow, a_vec, a_one_type, a_more_types, a_arg, a_no_args, a_args, a_val_arg, a_var_arg, a_no_argsp, a_argsp, a_echo, a_set, a_if_stat, a_while, a_call, a_return, a_val, a_adr, a_no_exprsp, a_exprsp, a_num, a_name, a_if_expr, a_and, a_or, a_app, a_abs, a_alloc, a_nth, a_len, a_vset, a_one_expr, a_more_exprs}
use Rattle.renaming.proofs.Corresponding.{Corresponds, SameNames, no_names, a_name_more, same_head}

-- ---- what types and parameters say

module _ {N : Name → Name → Type 0} where
  mutual
    said : (t : TypeTree) {u : TypeTree} → Alike N TYPE t u → type_of t ≡ type_of u
    said (bool p) a_bool = refl
    said (int p) a_int = refl
    said (arrow p a t) (a_arrow h k) = rw (all_said a h, said t k)
    said (vec p t) (a_vec h) = rw (said t h)

    all_said : (a : TypeTrees) {b : TypeTrees} → Alike N TYPES a b → types_of a ≡ types_of b
    all_said (one_type t) (a_one_type h) = rw (said t h)
    all_said (more_types t a) (a_more_types h k) = rw (said t h, all_said a k)

  pub same_type_tree : {t u : TypeTree} → Alike N TYPE t u → type_of t ≡ type_of u
  same_type_tree h = said _ h

  -- a vec is of bool, int or a vec in both
  mutual
    formed : (t : TypeTree) {u : TypeTree} → Alike N TYPE t u → Formed t → Formed u
    formed (bool p) a_bool d = tt
    formed (int p) a_int d = tt
    formed (arrow p a t) (a_arrow h k) d = (all_formed a h d.0, formed t k d.1)
    formed (vec p t) (a_vec h) d = (formed t h d.0, subst IsElement (said t h) d.1)

    all_formed : (a : TypeTrees) {b : TypeTrees} → Alike N TYPES a b → AllFormed a → AllFormed b
    all_formed (one_type t) (a_one_type h) d = formed t h d
    all_formed (more_types t a) (a_more_types h k) d = (formed t h d.0, all_formed a k d.1)

  stays_formed : {t u : TypeTree} → Alike N TYPE t u → Formed t → Formed u
  stays_formed h d = formed _ h d

  pub same_values : {a b : List Arg} → Alike N ARGS a b → Alike N ARGSP (values a) (values b)
  same_values a_no_args = a_no_argsp
  same_values (a_args (a_arg n t) k) = a_argsp (a_val_arg n t) (same_values k)

  same_arg_types : {a b : List Arg} → Alike N ARGS a b → arg_types a ≡ arg_types b
  same_arg_types a_no_args = refl
  same_arg_types (a_args (a_arg n t) k) = rw (same_type_tree t, same_arg_types k)

  same_par : {a b : ArgP} → Alike N ARGP a b → par a ≡ par b
  same_par (a_val_arg n t) = ap value (same_type_tree t)
  same_par (a_var_arg n t) = ap ref (same_type_tree t)

  same_pars : {a b : List ArgP} → Alike N ARGSP a b → pars a ≡ pars b
  same_pars a_no_argsp = refl
  same_pars (a_argsp h k) = rw (same_par h, same_pars k)

  same_fun_type : {a b : List Arg} {t u : TypeTree} → Alike N ARGS a b → Alike N TYPE t u → fun_type a t ≡ fun_type b u
  same_fun_type h k = rw (same_arg_types h, same_type_tree k)

-- ---- names in force

data SameCtx (N : Name → Name → Type 0) : Ctx → Ctx → Type 0 where
  no_name : SameCtx N [] []
  one_name : {x y : Name} {E F : Entity} {Γ Δ : Ctx} → N x y → E ≡ F → SameCtx N Γ Δ → SameCtx N ((x, E) ∷ Γ) ((y, F) ∷ Δ)

module _ {N : Name → Name → Type 0} (O : Corresponds N) where
  looked_up : {Γ Δ : Ctx} → SameCtx N Γ Δ → (x y : Name) → N x y → lookup Γ x ≡ lookup Δ y
  looked_up no_name x y n = refl
  looked_up (one_name {x = x₁} {y = y₁} m e c) x y n = rw (O.same_test x₁ x y₁ y m n, e, looked_up c x y n)

  found : {Γ Δ : Ctx} → SameCtx N Γ Δ → (x y : Name) → N x y → find Γ x ≡ find Δ y
  found c x y n = rw (O.same_meaning x y n, looked_up c x y n)

  stays_free : (x y : Name) → N x y → Free x → Free y
  stays_free x y n e = sym (O.same_meaning x y n) ∙ e

  -- a name that stands among others or does not
  still_among : {xs ys : List Name} → SameNames N xs ys → (x y : Name) → N x y → among x xs ≡ among y ys
  still_among no_names x y n = refl
  still_among (a_name_more {x = x₁} {y = y₁} m l) x y n = rw (O.same_test x₁ x y₁ y m n, still_among l x y n)

  stays_single : {xs ys : List Name} → SameNames N xs ys → (x y : Name) → N x y → among x xs ≡ false → among y ys ≡ false
  stays_single l x y n e = sym (still_among l x y n) ∙ e

  declares_after : {a b : List ArgP} {xs ys : List Name} → SameNames N xs ys → Alike N ARGSP a b → DeclarableAfter xs a → DeclarableAfter ys b
  declares_after l a_no_argsp d = tt
  declares_after l (a_argsp (a_val_arg {x = x} {y = y} n t) k) d =
      ((stays_free x y n d.0.0, stays_formed t d.0.1), stays_single l x y n d.1, declares_after (a_name_more n l) k d.2)
  declares_after l (a_argsp (a_var_arg {x = x} {y = y} n t) k) d =
      ((stays_free x y n d.0.0, subst IsBase (same_type_tree t) d.0.1), stays_single l x y n d.1, declares_after (a_name_more n l) k d.2)

  declares : {a b : List ArgP} → Alike N ARGSP a b → AllDeclarable a → AllDeclarable b
  declares k d = declares_after no_names k d

  extended : {a b : List ArgP} {Γ Δ : Ctx} → Alike N ARGSP a b → SameCtx N Γ Δ → SameCtx N (extend (declared a) Γ) (extend (declared b) Δ)
  extended a_no_argsp c = c
  extended (a_argsp (a_val_arg n t) k) c = extended k (one_name n (ap (λ (t : Ty). plain (value t)) (same_type_tree t)) c)
  extended (a_argsp (a_var_arg n t) k) c = extended k (one_name n (ap (λ (t : Ty). plain (ref t)) (same_type_tree t)) c)

  -- ---- typing

  mutual
    in_expr : (e : Expr) {Γ Δ : Ctx} {f : Expr} {t : Ty} → HasE Γ e t → Alike N EXPR e f → SameCtx N Γ Δ → HasE Δ f t
    in_expr (num p z) NUM a_num c = NUM
    in_expr (name (at p x)) (LITERAL m) (a_name {y = y} n) c = LITERAL (sym (O.same_meaning x y n) ∙ m)
    in_expr (name (at p x)) (IDV m) (a_name {y = y} n) c = IDV (sym (found c x y n) ∙ m)
    in_expr (name (at p x)) (IDR m) (a_name {y = y} n) c = IDR (sym (found c x y n) ∙ m)
    in_expr (if_expr p i j k) (IF h l m) (a_if_expr a b d) c = IF (in_expr i h a c) (in_expr j l b c) (in_expr k m d c)
    in_expr (and p i j) (AND h k) (a_and a b) c = AND (in_expr i h a c) (in_expr j k b c)
    in_expr (or p i j) (OR h k) (a_or a b) c = OR (in_expr i h a c) (in_expr j k b c)
    in_expr (app p i j) (PRIM m h) (a_app a b) c = PRIM (sym (same_head O a) ∙ m) (in_exprs j h b c)
    in_expr (app p i j) (APP h k) (a_app a b) c = APP (in_expr i h a c) (in_exprs j k b c)
    in_expr (abs p i j) {Δ = Δ} (ABS {t = t} d h) (a_abs {q = q} {b = b} {f = f} a k) c =
        let v = same_values a in subst (λ (ts : Tys). HasE Δ (abs q b f) (fn ts t)) (sym (same_arg_types a)) (ABS (declares v d) (in_expr j h k (extended v c)))
    in_expr (alloc p i j) {Δ = Δ} (ALLOC d h) (a_alloc {q = q} {u = u} {f = f} t k) c =
        subst (λ (t : Ty). HasE Δ (alloc q u f) (vec_of t)) (sym (same_type_tree t)) (ALLOC (stays_formed t d.0, subst IsElement (same_type_tree t) d.1) (in_expr j h k c))
    in_expr (nth_expr p i j) (NTH h k) (a_nth a b) c = NTH (in_expr i h a c) (in_expr j k b c)
    in_expr (len p i) (LEN h) (a_len a) c = LEN (in_expr i h a c)
    in_expr (vset p i j k) (VSET h l m) (a_vset a b d) c = VSET (in_expr i h a c) (in_expr j l b c) (in_expr k m d c)

    in_exprs : (e : Exprs) {Γ Δ : Ctx} {f : Exprs} {ts : Tys} → HasEs Γ e ts → Alike N EXPRS e f → SameCtx N Γ Δ → HasEs Δ f ts
    in_exprs (one_expr i) (ONE h) (a_one_expr a) c = ONE (in_expr i h a c)
    in_exprs (more_exprs i j) (MORE h k) (a_more_exprs a b) c = MORE (in_expr i h a c) (in_exprs j k b c)

  typed_expr : {Γ Δ : Ctx} {e f : Expr} {t : Ty} → HasE Γ e t → Alike N EXPR e f → SameCtx N Γ Δ → HasE Δ f t
  typed_expr h a c = in_expr _ h a c

  typed_arg : {Γ Δ : Ctx} {e f : ExprP} {q : Par} → HasA Γ e q → Alike N EXPRP e f → SameCtx N Γ Δ → HasA Δ f q
  typed_arg (REF m) (a_adr {x = x} {y = y} n) c = REF (sym (found c x y n) ∙ m)
  typed_arg (VAL h) (a_val a) c = VAL (typed_expr h a c)

  typed_args : {Γ Δ : Ctx} {e f : List ExprP} {q : List Par} → HasAs Γ e q → Alike N EXPRSP e f → SameCtx N Γ Δ → HasAs Δ f q
  typed_args NO_ARGS a_no_exprsp c = NO_ARGS
  typed_args (ARGUMENTS h k) (a_exprsp a b) c = ARGUMENTS (typed_arg h a c) (typed_args k b c)

  typed_as : {Δ : Ctx} {f : Expr} {t u : TypeTree} → Alike N TYPE t u → HasE Δ f (type_of t) → HasE Δ f (type_of u)
  typed_as {Δ} {f} a h = subst (HasE Δ f) (same_type_tree a) h

  always_as : {Δ : Ctx} {b : Block} {t u : TypeTree} → Alike N TYPE t u → HasB Δ b (always (type_of t)) → HasB Δ b (always (type_of u))
  always_as {Δ} {b} a h = subst (λ (t : Ty). HasB Δ b (always t)) (same_type_tree a) h

  mutual
    in_block : (a : Block) {Γ Δ : Ctx} {b : Block} {f : Flow} → HasB Γ a f → Alike N BLOCK a b → SameCtx N Γ Δ → HasB Δ b f
    in_block (block p i) (BLOC h) (a_block a) c = BLOC (in_cmds i h a c)

    in_cmds : (a : Cmds) {Γ Δ : Ctx} {b : Cmds} {f : Flow} → HasC Γ a f → Alike N CMDS a b → SameCtx N Γ Δ → HasC Δ b f
    in_cmds (def_then i j) (DECS h k) (a_def_then a b) c = let d = in_def i h a c in DECS d.1 (in_cmds j k b d.2)
    in_cmds (stat_then i j) (STATS h k l) (a_stat_then a b) c = STATS (in_stat i h a c) (in_cmds j k b c) l
    in_cmds (last i) (END h) (a_last a) c = END (in_stat i h a c)

    in_def : (a : Def) {Γ Γ₁ Δ : Ctx} {b : Def} → HasD Γ a Γ₁ → Alike N DEF a b → SameCtx N Γ Δ → (Δ₁ : Ctx) × HasD Δ b Δ₁ × SameCtx N Γ₁ Δ₁
    in_def (const p (at q x) i j) (CONST m g h) (a_const {y = y} n t e) c =
        (_, CONST (stays_free x y n m) (stays_formed t g) (typed_as t (typed_expr h e c)), one_name n (ap (λ (t : Ty). plain (value t)) (same_type_tree t)) c)
    in_def (fun p (at q x) i j k) (FUN m g d h) (a_fun {y = y} n t a e) c =
        let v = same_values a in
        (_, FUN (stays_free x y n m) (stays_formed t g) (declares v d) (typed_as t (typed_expr h e (extended v c))), one_name n (ap (λ (t : Ty). plain (value t)) (same_fun_type a t)) c)
    in_def (fun_rec p (at q x) i j k) (FUNREC m g d h) (a_fun_rec {y = y} n t a e) c =
        let v = same_values a in
        let w = ap (λ (t : Ty). plain (value t)) (same_fun_type a t) in
        (_, FUNREC (stays_free x y n m) (stays_formed t g) (declares v d) (typed_as t (typed_expr h e (one_name n w (extended v c)))), one_name n w c)
    in_def (fun_block p (at q x) i j k) (FUNP m g d h) (a_fun_block {y = y} n t a e) c =
        let v = same_values a in
        (_, FUNP (stays_free x y n m) (stays_formed t g) (declares v d) (always_as t (in_block k h e (extended v c))), one_name n (ap (λ (t : Ty). plain (value t)) (same_fun_type a t)) c)
    in_def (fun_rec_block p (at q x) i j k) (FUNRECP m g d h) (a_fun_rec_block {y = y} n t a e) c =
        let v = same_values a in
        let w = ap (λ (t : Ty). plain (value t)) (same_fun_type a t) in
        (_, FUNRECP (stays_free x y n m) (stays_formed t g) (declares v d) (always_as t (in_block k h e (one_name n w (extended v c)))), one_name n w c)
    in_def (var p (at q x) i) (VAR m b) (a_var {y = y} n t) c =
        (_, VAR (stays_free x y n m) (subst IsBase (same_type_tree t) b), one_name n (ap (λ (t : Ty). plain (ref t)) (same_type_tree t)) c)
    in_def (proc p (at q x) i j) (PROC m d h) (a_proc {y = y} n a b) c =
        (_, PROC (stays_free x y n m) (declares a d) (in_block j h b (extended a c)), one_name n (ap procedure (same_pars a)) c)
    in_def (proc_rec p (at q x) i j) (PROCREC m d h) (a_proc_rec {y = y} n a b) c =
        let w = ap procedure (same_pars a) in (_, PROCREC (stays_free x y n m) (declares a d) (in_block j h b (one_name n w (extended a c))), one_name n w c)

    in_stat : (a : Stat) {Γ Δ : Ctx} {b : Stat} {f : Flow} → HasS Γ a f → Alike N STAT a b → SameCtx N Γ Δ → HasS Δ b f
    in_stat (echo p i) (ECHO h) (a_echo a) c = ECHO (typed_expr h a c)
    in_stat (set p (at q x) i) (SET m h) (a_set {y = y} n a) c = SET (sym (found c x y n) ∙ m) (typed_expr h a c)
    in_stat (if_stat p i j k) (IFS h l m o) (a_if_stat a b d) c = IFS (typed_expr h a c) (in_block j l b c) (in_block k m d c) o
    in_stat (while p i j) (WHILE h k) (a_while a b) c = WHILE (typed_expr h a c) (in_block j k b c)
    in_stat (call p (at q x) i) (CALL m h) (a_call {y = y} n a) c = CALL (sym (found c x y n) ∙ m) (typed_args h a c)
    in_stat (return p i) (RET h) (a_return a) c = RET (typed_expr h a c)

  -- A tree that agrees with a typed one is typed.
  pub typed_alike : {b c : Block} → Alike N BLOCK b c → Typable b → Typable c
  typed_alike a h = in_block _ h a no_name
