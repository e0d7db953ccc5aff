-- A tree is the one that the descent builds: so the tree of a program's words is one.
use mathlib.Core.Path.{◌≡◌, refl, sym, ◌∙◌}
use mathlib.Core.List.{List, [], ◌∷◌}
use Prim.Native.Nat.{ℕ, zero, suc, ◌+◌, ◌*◌, ◌≤◌}
use native.Mathlib.Omega.{arith}
use lib.IntN.{ℤ}
use lib.ListN.{length}
use Rattle.language.specs.Syntax.{Ident, TypeTree, bool, int, arrow, vec, TypeTrees, one_type, more_types, Arg, arg, ArgP, val_arg, var_arg, Expr, num, name, if_expr, and, or, app, abs, alloc, nth_expr, len, vset, Exprs, one_expr, more_exprs, ExprP, val, adr, Cmds, last, def_then, stat_then, const, fun, fun_rec, fun_block, fun_rec_block, var, proc, proc_rec, echo, set, if_stat, while, call, return, Block, block}
use Rattle.language.specs.Words.{k_lbr, k_rbr, k_lpar, k_rpar, k_semi, k_colon, k_comma, k_star, k_arrow, k_const, k_fun, k_rec, k_var, k_proc, k_echo, k_set, k_if, k_while, k_call, k_return, kif, kand, kor, kbool, kint, kvar, kadr, kvec, kalloc, knth, klen, kvset, Word, mark, number, named}
use Rattle.language.specs.Grammar.{Sort, BLOCK, CMDS, DEF, STAT, TYPE, TYPES, ARG, ARGS, ARGP, ARGSP, EXPR, EXPRS, EXPRP, EXPRSP, TreeOf, Reads, r_block, r_last, r_def_then, r_stat_then, r_return, r_const, r_fun, r_fun_rec, r_fun_block, r_fun_rec_block, r_var, r_proc, r_proc_rec, r_bool, r_int, r_arrow, r_vec, r_one_type, r_more_types, r_arg, r_one_arg, r_more_args, r_val_arg, r_var_arg, r_one_argp, r_more_argsp, r_echo, r_set, r_if_stat, r_while, r_call, r_one_exprp, r_more_exprsp, r_val, r_adr, r_num, r_name, r_if_expr, r_and, r_or, r_app, r_abs, r_alloc, r_nth, r_len, r_vset, r_one_expr, r_more_exprs}
use Rattle.language.proofs.Reading.Descent.{miss, got, expect, Level, type_of, types_of, arg_of, args_of, argp_of, argsp_of, expr_of, exprs_of, exprp_of, exprsp_of, stat_of, def_of, cmds_of, block_of, descent, tree_of}
use Rattle.language.proofs.Reading.Complete.{Lit, lit, Closer, c_semi, c_rbr, Begun, begun, closes, begun_cmds}

-- `level m` is deep enough for the words from `ts` to `r`, for a step that takes `d` words less than 4 a word
abbrev Deep : ℕ → List Word → List Word → ℕ → Type 0
Deep m ts r d = 4 * length ts ≤ m + (4 * length r + d)

-- What is shown of each sort; some want the word behind them.
abbrev FactOf : (k : Sort) → TreeOf k → List Word → List Word → Type 0
FactOf BLOCK e ts r = (m : ℕ) → Deep m ts r 4 → block_of (descent m) ts ≡ got e r
FactOf CMDS e ts r = (r' : List Word) → Lit k_rbr r r' → (m : ℕ) → Deep m ts r 3 → cmds_of (descent m) ts ≡ got e r
FactOf DEF e ts r = ((L : Level) → stat_of L ts ≡ miss) × ((m : ℕ) → Deep m ts r 3 → def_of (descent m) ts ≡ got e r)
FactOf STAT e ts r = Closer r → (m : ℕ) → Deep m ts r 3 → stat_of (descent m) ts ≡ got e r
FactOf TYPE e ts r = (m : ℕ) → Deep m ts r 4 → type_of (descent m) ts ≡ got e r
FactOf TYPES e ts r = (r' : List Word) → Lit k_arrow r r' → (m : ℕ) → Deep m ts r 3 → types_of (descent m) ts ≡ got e r
FactOf ARG e ts r = (m : ℕ) → Deep m ts r 3 → arg_of (descent m) ts ≡ got e r
FactOf ARGS e ts r = (r' : List Word) → Lit k_rbr r r' → (m : ℕ) → Deep m ts r 3 → args_of (descent m) ts ≡ got e r
FactOf ARGP e ts r = (m : ℕ) → Deep m ts r 3 → argp_of (descent m) ts ≡ got e r
FactOf ARGSP e ts r = (r' : List Word) → Lit k_rbr r r' → (m : ℕ) → Deep m ts r 3 → argsp_of (descent m) ts ≡ got e r
FactOf EXPR e ts r = (m : ℕ) → Deep m ts r 4 → expr_of (descent m) ts ≡ got e r
FactOf EXPRS e ts r = (r' : List Word) → Lit k_rpar r r' → (m : ℕ) → Deep m ts r 3 → exprs_of (descent m) ts ≡ got e r
FactOf EXPRP e ts r = (m : ℕ) → Deep m ts r 3 → exprp_of (descent m) ts ≡ got e r
FactOf EXPRSP e ts r = Closer r → (m : ℕ) → Deep m ts r 3 → exprsp_of (descent m) ts ≡ got e r

record Fact (k : Sort) (e : TreeOf k) (ts r : List Word) : Type 0 where
  less : suc (length r) ≤ length ts
  get : FactOf k e ts r

use_block : {e : Block} {ts r : List Word} → Fact BLOCK e ts r → (m : ℕ) → Deep m ts r 3 → (descent m).block ts ≡ got e r
unfolding descent
use_block h zero b = absurd (omega (arith, b, h.less))
use_block h (suc m) b = h.get m (omega (arith, b))

use_cmds : {e : Cmds} {ts r : List Word} → Fact CMDS e ts r → (r' : List Word) → Lit k_rbr r r' → (m : ℕ) → Deep m ts r 2 → (descent m).cmds ts ≡ got e r
unfolding descent
use_cmds h r' c zero b = absurd (omega (arith, b, h.less))
use_cmds h r' c (suc m) b = h.get r' c m (omega (arith, b))

use_type : {e : TypeTree} {ts r : List Word} → Fact TYPE e ts r → (m : ℕ) → Deep m ts r 3 → (descent m).type ts ≡ got e r
unfolding descent
use_type h zero b = absurd (omega (arith, b, h.less))
use_type h (suc m) b = h.get m (omega (arith, b))

use_types : {e : TypeTrees} {ts r : List Word} → Fact TYPES e ts r → (r' : List Word) → Lit k_arrow r r' → (m : ℕ) → Deep m ts r 2 → (descent m).types ts ≡ got e r
unfolding descent
use_types h r' c zero b = absurd (omega (arith, b, h.less))
use_types h r' c (suc m) b = h.get r' c m (omega (arith, b))

use_args : {e : List Arg} {ts r : List Word} → Fact ARGS e ts r → (r' : List Word) → Lit k_rbr r r' → (m : ℕ) → Deep m ts r 2 → (descent m).args ts ≡ got e r
unfolding descent
use_args h r' c zero b = absurd (omega (arith, b, h.less))
use_args h r' c (suc m) b = h.get r' c m (omega (arith, b))

use_args_p : {e : List ArgP} {ts r : List Word} → Fact ARGSP e ts r → (r' : List Word) → Lit k_rbr r r' → (m : ℕ) → Deep m ts r 2 → (descent m).argsp ts ≡ got e r
unfolding descent
use_args_p h r' c zero b = absurd (omega (arith, b, h.less))
use_args_p h r' c (suc m) b = h.get r' c m (omega (arith, b))

use_expr : {e : Expr} {ts r : List Word} → Fact EXPR e ts r → (m : ℕ) → Deep m ts r 3 → (descent m).expr ts ≡ got e r
unfolding descent
use_expr h zero b = absurd (omega (arith, b, h.less))
use_expr h (suc m) b = h.get m (omega (arith, b))

use_exprs : {e : Exprs} {ts r : List Word} → Fact EXPRS e ts r → (r' : List Word) → Lit k_rpar r r' → (m : ℕ) → Deep m ts r 2 → (descent m).exprs ts ≡ got e r
unfolding descent
use_exprs h r' c zero b = absurd (omega (arith, b, h.less))
use_exprs h r' c (suc m) b = h.get r' c m (omega (arith, b))

use_exprs_p : {e : List ExprP} {ts r : List Word} → Fact EXPRSP e ts r → Closer r → (m : ℕ) → Deep m ts r 2 → (descent m).exprsp ts ≡ got e r
unfolding descent
use_exprs_p h c zero b = absurd (omega (arith, b, h.less))
use_exprs_p h c (suc m) b = h.get c m (omega (arith, b))

no_semi : {r r' : List Word} → Lit k_rbr r r' → expect k_semi r ≡ miss
no_semi lit = refl

no_star : {r r' : List Word} → Lit k_arrow r r' → expect k_star r ≡ miss
no_star lit = refl

no_comma : {r r' : List Word} → Lit k_rbr r r' → expect k_comma r ≡ miss
no_comma lit = refl

no_exprs : (m : ℕ) {r r' : List Word} → Lit k_rpar r r' → (descent m).exprs r ≡ miss
unfolding descent
no_exprs zero lit = refl
no_exprs (suc zero) lit = refl
no_exprs (suc (suc m)) lit = refl

no_exprsp : (m : ℕ) {r : List Word} → Closer r → (descent m).exprsp r ≡ miss
unfolding descent
no_exprsp zero c_semi = refl
no_exprsp (suc zero) c_semi = refl
no_exprsp (suc (suc m)) c_semi = refl
no_exprsp zero c_rbr = refl
no_exprsp (suc zero) c_rbr = refl
no_exprsp (suc (suc m)) c_rbr = refl

no_adr : (m p i : ℕ) (ts : List Word) → (descent m).expr (mark k_lpar p ∷ mark kadr i ∷ ts) ≡ miss
unfolding descent
no_adr zero p i ts = refl
no_adr (suc zero) p i ts = refl
no_adr (suc (suc m)) p i ts = refl

no_alloc : (m i : ℕ) (ts : List Word) → (descent m).expr (mark kalloc i ∷ ts) ≡ miss
unfolding descent
no_alloc zero i ts = refl
no_alloc (suc m) i ts = refl

no_nth : (m i : ℕ) (ts : List Word) → (descent m).expr (mark knth i ∷ ts) ≡ miss
unfolding descent
no_nth zero i ts = refl
no_nth (suc m) i ts = refl

no_len : (m i : ℕ) (ts : List Word) → (descent m).expr (mark klen i ∷ ts) ≡ miss
unfolding descent
no_len zero i ts = refl
no_len (suc m) i ts = refl

no_vset : (m i : ℕ) (ts : List Word) → (descent m).expr (mark kvset i ∷ ts) ≡ miss
unfolding descent
no_vset zero i ts = refl
no_vset (suc m) i ts = refl

no_vec : (m i : ℕ) (ts : List Word) → (descent m).types (mark kvec i ∷ ts) ≡ miss
unfolding descent
no_vec zero i ts = refl
no_vec (suc zero) i ts = refl
no_vec (suc (suc m)) i ts = refl

no_if : (m i : ℕ) (ts : List Word) → (descent m).expr (mark kif i ∷ ts) ≡ miss
unfolding descent
no_if zero i ts = refl
no_if (suc m) i ts = refl

no_and : (m i : ℕ) (ts : List Word) → (descent m).expr (mark kand i ∷ ts) ≡ miss
unfolding descent
no_and zero i ts = refl
no_and (suc m) i ts = refl

no_or : (m i : ℕ) (ts : List Word) → (descent m).expr (mark kor i ∷ ts) ≡ miss
unfolding descent
no_or zero i ts = refl
no_or (suc m) i ts = refl

-- a block is no expression
no_block : (m p : ℕ) {ts : List Word} → Begun ts → (descent m).expr (mark k_lbr p ∷ ts) ≡ miss
unfolding descent
no_block zero p b = refl
no_block (suc zero) p b = refl
no_block (suc (suc m)) p (begun c) = refl

down_block : {p i : ℕ} {c : TreeOf CMDS} {ts r : List Word} → Fact CMDS c ts (mark k_rbr i ∷ r) → Fact BLOCK (block p c) (mark k_lbr p ∷ ts) r
unfolding descent
down_block h = record { less = omega (arith, h.less); get = λ m b. rw (use_cmds h _ lit m (omega (arith, b))) refl }

down_last : {a : TreeOf STAT} {ts r : List Word} → Fact STAT a ts r → Fact CMDS (last a) ts r
unfolding descent
down_last h = record { less = omega (arith, h.less); get = λ r' c m b. rw (h.get (closes c) m (omega (arith, b)), no_semi c) refl }

down_def_then : {i : ℕ} {d : TreeOf DEF} {c : TreeOf CMDS} {ts us r : List Word} → Fact DEF d ts (mark k_semi i ∷ us) → Fact CMDS c us r → Fact CMDS (def_then d c) ts r
unfolding descent
down_def_then h k = record { less = omega (arith, h.less, k.less); get = λ r' c m b. rw (h.get.0 (descent m), h.get.1 m (omega (arith, b, k.less)), use_cmds k _ c m (omega (arith, b, h.less))) refl }

down_stat_then : {i : ℕ} {a : TreeOf STAT} {c : TreeOf CMDS} {ts us r : List Word} → Fact STAT a ts (mark k_semi i ∷ us) → Fact CMDS c us r → Fact CMDS (stat_then a c) ts r
unfolding descent
down_stat_then h k = record { less = omega (arith, h.less, k.less); get = λ r' c m b. rw (h.get c_semi m (omega (arith, b, k.less)), use_cmds k _ c m (omega (arith, b, h.less))) refl }

down_return : {p : ℕ} {e : TreeOf EXPR} {ts r : List Word} → Fact EXPR e ts r → Fact CMDS (last (return p e)) (mark k_return p ∷ ts) r
unfolding descent
down_return h = record { less = omega (arith, h.less); get = λ r' c m b. rw (use_expr h m (omega (arith, b))) refl }

down_const : {p : ℕ} {x : Ident} {t : TreeOf TYPE} {e : TreeOf EXPR} {ts us r : List Word} → Fact TYPE t ts us → Fact EXPR e us r → Fact DEF (const p x t e) (mark k_const p ∷ named x ∷ ts) r
unfolding descent
down_const h k = record { less = omega (arith, h.less, k.less); get = (λ L. refl, λ m b. rw (use_type h m (omega (arith, b, k.less)), use_expr k m (omega (arith, b, h.less))) refl) }

down_fun : {p i j : ℕ} {x : Ident} {t : TreeOf TYPE} {a : TreeOf ARGS} {e : TreeOf EXPR} {ts us vs r : List Word} → Fact TYPE t ts (mark k_lbr i ∷ us) → Fact ARGS a us (mark k_rbr j ∷ vs) → Fact EXPR e vs r → Fact DEF (fun p x t a e) (mark k_fun p ∷ named x ∷ ts) r
unfolding descent
down_fun h k l = record { less = omega (arith, h.less, k.less, l.less); get = (λ L. refl, λ m b. rw (use_type h m (omega (arith, b, k.less, l.less)), use_args k _ lit m (omega (arith, b, h.less, l.less)), use_expr l m (omega (arith, b, h.less, k.less))) refl) }

down_fun_rec : {p i j k : ℕ} {x : Ident} {t : TreeOf TYPE} {a : TreeOf ARGS} {e : TreeOf EXPR} {ts us vs r : List Word} → Fact TYPE t ts (mark k_lbr j ∷ us) → Fact ARGS a us (mark k_rbr k ∷ vs) → Fact EXPR e vs r → Fact DEF (fun_rec p x t a e) (mark k_fun p ∷ mark k_rec i ∷ named x ∷ ts) r
unfolding descent
down_fun_rec h k l = record { less = omega (arith, h.less, k.less, l.less); get = (λ L. refl, λ m b. rw (use_type h m (omega (arith, b, k.less, l.less)), use_args k _ lit m (omega (arith, b, h.less, l.less)), use_expr l m (omega (arith, b, h.less, k.less))) refl) }

down_fun_block : {p i j b : ℕ} {x : Ident} {t : TreeOf TYPE} {a : TreeOf ARGS} {c : TreeOf CMDS} {ts us vs r : List Word} → Fact TYPE t ts (mark k_lbr i ∷ us) → Fact ARGS a us (mark k_rbr j ∷ mark k_lbr b ∷ vs) → Begun vs → Fact BLOCK (block b c) (mark k_lbr b ∷ vs) r → Fact DEF (fun_block p x t a (block b c)) (mark k_fun p ∷ named x ∷ ts) r
unfolding descent
down_fun_block {b = z} h k n l = record { less = omega (arith, h.less, k.less, l.less); get = (λ L. refl, λ m b. rw (use_type h m (omega (arith, b, k.less, l.less)), use_args k _ lit m (omega (arith, b, h.less, l.less)), no_block m z n, use_block l m (omega (arith, b, h.less, k.less))) refl) }

down_fun_rec_block : {p i j k b : ℕ} {x : Ident} {t : TreeOf TYPE} {a : TreeOf ARGS} {c : TreeOf CMDS} {ts us vs r : List Word} → Fact TYPE t ts (mark k_lbr j ∷ us) → Fact ARGS a us (mark k_rbr k ∷ mark k_lbr b ∷ vs) → Begun vs → Fact BLOCK (block b c) (mark k_lbr b ∷ vs) r → Fact DEF (fun_rec_block p x t a (block b c)) (mark k_fun p ∷ mark k_rec i ∷ named x ∷ ts) r
unfolding descent
down_fun_rec_block {b = z} h k n l = record { less = omega (arith, h.less, k.less, l.less); get = (λ L. refl, λ m b. rw (use_type h m (omega (arith, b, k.less, l.less)), use_args k _ lit m (omega (arith, b, h.less, l.less)), no_block m z n, use_block l m (omega (arith, b, h.less, k.less))) refl) }

down_var : {p : ℕ} {x : Ident} {t : TreeOf TYPE} {ts r : List Word} → Fact TYPE t ts r → Fact DEF (var p x t) (mark k_var p ∷ named x ∷ ts) r
unfolding descent
down_var h = record { less = omega (arith, h.less); get = (λ L. refl, λ m b. rw (use_type h m (omega (arith, b))) refl) }

down_proc : {p i j : ℕ} {x : Ident} {a : TreeOf ARGSP} {b : TreeOf BLOCK} {ts us r : List Word} → Fact ARGSP a ts (mark k_rbr j ∷ us) → Fact BLOCK b us r → Fact DEF (proc p x a b) (mark k_proc p ∷ named x ∷ mark k_lbr i ∷ ts) r
unfolding descent
down_proc h k = record { less = omega (arith, h.less, k.less); get = (λ L. refl, λ m b. rw (use_args_p h _ lit m (omega (arith, b, k.less)), use_block k m (omega (arith, b, h.less))) refl) }

down_proc_rec : {p i j k : ℕ} {x : Ident} {a : TreeOf ARGSP} {b : TreeOf BLOCK} {ts us r : List Word} → Fact ARGSP a ts (mark k_rbr k ∷ us) → Fact BLOCK b us r → Fact DEF (proc_rec p x a b) (mark k_proc p ∷ mark k_rec i ∷ named x ∷ mark k_lbr j ∷ ts) r
unfolding descent
down_proc_rec h k = record { less = omega (arith, h.less, k.less); get = (λ L. refl, λ m b. rw (use_args_p h _ lit m (omega (arith, b, k.less)), use_block k m (omega (arith, b, h.less))) refl) }

down_bool : {p : ℕ} {r : List Word} → Fact TYPE (bool p) (mark kbool p ∷ r) r
unfolding descent
down_bool = record { less = omega (arith); get = λ m b. refl }

down_int : {p : ℕ} {r : List Word} → Fact TYPE (int p) (mark kint p ∷ r) r
unfolding descent
down_int = record { less = omega (arith); get = λ m b. refl }

down_arrow : {p i j : ℕ} {a : TreeOf TYPES} {t : TreeOf TYPE} {ts us r : List Word} → Fact TYPES a ts (mark k_arrow i ∷ us) → Fact TYPE t us (mark k_rpar j ∷ r) → Fact TYPE (arrow p a t) (mark k_lpar p ∷ ts) r
unfolding descent
down_arrow h k = record { less = omega (arith, h.less, k.less); get = λ m b. rw (use_types h _ lit m (omega (arith, b, k.less)), use_type k m (omega (arith, b, h.less))) refl }

down_vec : {p i j : ℕ} {t : TreeOf TYPE} {ts r : List Word} → Fact TYPE t ts (mark k_rpar j ∷ r) → Fact TYPE (vec p t) (mark k_lpar p ∷ mark kvec i ∷ ts) r
unfolding descent
down_vec {i = i} {ts = ts} h = record { less = omega (arith, h.less); get = λ m b. rw (no_vec m i ts, use_type h m (omega (arith, b))) refl }

down_one_type : {t : TreeOf TYPE} {ts r : List Word} → Fact TYPE t ts r → Fact TYPES (one_type t) ts r
unfolding descent
down_one_type h = record { less = omega (arith, h.less); get = λ r' c m b. rw (use_type h m (omega (arith, b)), no_star c) refl }

down_more_types : {i : ℕ} {t : TreeOf TYPE} {a : TreeOf TYPES} {ts us r : List Word} → Fact TYPE t ts (mark k_star i ∷ us) → Fact TYPES a us r → Fact TYPES (more_types t a) ts r
unfolding descent
down_more_types h k = record { less = omega (arith, h.less, k.less); get = λ r' c m b. rw (use_type h m (omega (arith, b, k.less)), use_types k _ c m (omega (arith, b, h.less))) refl }

down_arg : {i : ℕ} {x : Ident} {t : TreeOf TYPE} {ts r : List Word} → Fact TYPE t ts r → Fact ARG (arg x t) (named x ∷ mark k_colon i ∷ ts) r
unfolding descent
down_arg h = record { less = omega (arith, h.less); get = λ m b. rw (use_type h m (omega (arith, b))) refl }

down_one_arg : {a : TreeOf ARG} {ts r : List Word} → Fact ARG a ts r → Fact ARGS (a ∷ []) ts r
unfolding descent
down_one_arg h = record { less = omega (arith, h.less); get = λ r' c m b. rw (h.get m (omega (arith, b)), no_comma c) refl }

down_more_args : {i : ℕ} {a : TreeOf ARG} {b : TreeOf ARGS} {ts us r : List Word} → Fact ARG a ts (mark k_comma i ∷ us) → Fact ARGS b us r → Fact ARGS (a ∷ b) ts r
unfolding descent
down_more_args h k = record { less = omega (arith, h.less, k.less); get = λ r' c m b. rw (h.get m (omega (arith, b, k.less)), use_args k _ c m (omega (arith, b, h.less))) refl }

down_val_arg : {i : ℕ} {x : Ident} {t : TreeOf TYPE} {ts r : List Word} → Fact TYPE t ts r → Fact ARGP (val_arg x t) (named x ∷ mark k_colon i ∷ ts) r
unfolding descent
down_val_arg h = record { less = omega (arith, h.less); get = λ m b. rw (use_type h m (omega (arith, b))) refl }

down_var_arg : {i j : ℕ} {x : Ident} {t : TreeOf TYPE} {ts r : List Word} → Fact TYPE t ts r → Fact ARGP (var_arg x t) (mark kvar i ∷ named x ∷ mark k_colon j ∷ ts) r
unfolding descent
down_var_arg h = record { less = omega (arith, h.less); get = λ m b. rw (use_type h m (omega (arith, b))) refl }

down_one_argp : {a : TreeOf ARGP} {ts r : List Word} → Fact ARGP a ts r → Fact ARGSP (a ∷ []) ts r
unfolding descent
down_one_argp h = record { less = omega (arith, h.less); get = λ r' c m b. rw (h.get m (omega (arith, b)), no_comma c) refl }

down_more_argsp : {i : ℕ} {a : TreeOf ARGP} {b : TreeOf ARGSP} {ts us r : List Word} → Fact ARGP a ts (mark k_comma i ∷ us) → Fact ARGSP b us r → Fact ARGSP (a ∷ b) ts r
unfolding descent
down_more_argsp h k = record { less = omega (arith, h.less, k.less); get = λ r' c m b. rw (h.get m (omega (arith, b, k.less)), use_args_p k _ c m (omega (arith, b, h.less))) refl }

down_echo : {p : ℕ} {e : TreeOf EXPR} {ts r : List Word} → Fact EXPR e ts r → Fact STAT (echo p e) (mark k_echo p ∷ ts) r
unfolding descent
down_echo h = record { less = omega (arith, h.less); get = λ c m b. rw (use_expr h m (omega (arith, b))) refl }

down_set : {p : ℕ} {x : Ident} {e : TreeOf EXPR} {ts r : List Word} → Fact EXPR e ts r → Fact STAT (set p x e) (mark k_set p ∷ named x ∷ ts) r
unfolding descent
down_set h = record { less = omega (arith, h.less); get = λ c m b. rw (use_expr h m (omega (arith, b))) refl }

down_if_stat : {p : ℕ} {e : TreeOf EXPR} {b c : TreeOf BLOCK} {ts us vs r : List Word} → Fact EXPR e ts us → Fact BLOCK b us vs → Fact BLOCK c vs r → Fact STAT (if_stat p e b c) (mark k_if p ∷ ts) r
unfolding descent
down_if_stat h k l = record { less = omega (arith, h.less, k.less, l.less); get = λ c m b. rw (use_expr h m (omega (arith, b, k.less, l.less)), use_block k m (omega (arith, b, h.less, l.less)), use_block l m (omega (arith, b, h.less, k.less))) refl }

down_while : {p : ℕ} {e : TreeOf EXPR} {b : TreeOf BLOCK} {ts us r : List Word} → Fact EXPR e ts us → Fact BLOCK b us r → Fact STAT (while p e b) (mark k_while p ∷ ts) r
unfolding descent
down_while h k = record { less = omega (arith, h.less, k.less); get = λ c m b. rw (use_expr h m (omega (arith, b, k.less)), use_block k m (omega (arith, b, h.less))) refl }

down_call : {p : ℕ} {x : Ident} {a : TreeOf EXPRSP} {ts r : List Word} → Fact EXPRSP a ts r → Fact STAT (call p x a) (mark k_call p ∷ named x ∷ ts) r
unfolding descent
down_call h = record { less = omega (arith, h.less); get = λ c m b. rw (use_exprs_p h c m (omega (arith, b))) refl }

down_one_exprp : {a : TreeOf EXPRP} {ts r : List Word} → Fact EXPRP a ts r → Fact EXPRSP (a ∷ []) ts r
unfolding descent
down_one_exprp h = record { less = omega (arith, h.less); get = λ c m b. rw (h.get m (omega (arith, b)), no_exprsp m c) refl }

down_more_exprsp : {a : TreeOf EXPRP} {b : TreeOf EXPRSP} {ts us r : List Word} → Fact EXPRP a ts us → Fact EXPRSP b us r → Fact EXPRSP (a ∷ b) ts r
unfolding descent
down_more_exprsp h k = record { less = omega (arith, h.less, k.less); get = λ c m b. rw (h.get m (omega (arith, b, k.less)), use_exprs_p k c m (omega (arith, b, h.less))) refl }

down_val : {e : TreeOf EXPR} {ts r : List Word} → Fact EXPR e ts r → Fact EXPRP (val e) ts r
unfolding descent
down_val h = record { less = omega (arith, h.less); get = λ m b. rw (use_expr h m (omega (arith, b))) refl }

down_adr : {p i j : ℕ} {x : Ident} {r : List Word} → Fact EXPRP (adr p x) (mark k_lpar p ∷ mark kadr i ∷ named x ∷ mark k_rpar j ∷ r) r
unfolding descent
down_adr {p = p} {i = i} {j = j} {x = x} {r = r} = record { less = omega (arith); get = λ m b. rw (no_adr m p i (named x ∷ mark k_rpar j ∷ r)) refl }

down_num : {p : ℕ} {z : ℤ} {r : List Word} → Fact EXPR (num p z) (number p z ∷ r) r
unfolding descent
down_num = record { less = omega (arith); get = λ m b. refl }

down_name : {x : Ident} {r : List Word} → Fact EXPR (name x) (named x ∷ r) r
unfolding descent
down_name = record { less = omega (arith); get = λ m b. refl }

down_if_expr : {p i j : ℕ} {e f g : TreeOf EXPR} {ts us vs r : List Word} → Fact EXPR e ts us → Fact EXPR f us vs → Fact EXPR g vs (mark k_rpar j ∷ r) → Fact EXPR (if_expr p e f g) (mark k_lpar p ∷ mark kif i ∷ ts) r
unfolding descent
down_if_expr {i = i} {ts = ts} h k l = record { less = omega (arith, h.less, k.less, l.less); get = λ m b. rw (no_if m i ts, use_expr h m (omega (arith, b, k.less, l.less)), use_expr k m (omega (arith, b, h.less, l.less)), use_expr l m (omega (arith, b, h.less, k.less))) refl }

down_and : {p i j : ℕ} {e f : TreeOf EXPR} {ts us r : List Word} → Fact EXPR e ts us → Fact EXPR f us (mark k_rpar j ∷ r) → Fact EXPR (and p e f) (mark k_lpar p ∷ mark kand i ∷ ts) r
unfolding descent
down_and {i = i} {ts = ts} h k = record { less = omega (arith, h.less, k.less); get = λ m b. rw (no_and m i ts, use_expr h m (omega (arith, b, k.less)), use_expr k m (omega (arith, b, h.less))) refl }

down_or : {p i j : ℕ} {e f : TreeOf EXPR} {ts us r : List Word} → Fact EXPR e ts us → Fact EXPR f us (mark k_rpar j ∷ r) → Fact EXPR (or p e f) (mark k_lpar p ∷ mark kor i ∷ ts) r
unfolding descent
down_or {i = i} {ts = ts} h k = record { less = omega (arith, h.less, k.less); get = λ m b. rw (no_or m i ts, use_expr h m (omega (arith, b, k.less)), use_expr k m (omega (arith, b, h.less))) refl }

down_app : {p i : ℕ} {e : TreeOf EXPR} {a : TreeOf EXPRS} {ts us r : List Word} → Fact EXPR e ts us → Fact EXPRS a us (mark k_rpar i ∷ r) → Fact EXPR (app p e a) (mark k_lpar p ∷ ts) r
unfolding descent
down_app h k = record { less = omega (arith, h.less, k.less); get = λ m b. rw (use_expr h m (omega (arith, b, k.less)), use_exprs k _ lit m (omega (arith, b, h.less))) refl }

down_abs : {p i : ℕ} {a : TreeOf ARGS} {e : TreeOf EXPR} {ts us r : List Word} → Fact ARGS a ts (mark k_rbr i ∷ us) → Fact EXPR e us r → Fact EXPR (abs p a e) (mark k_lbr p ∷ ts) r
unfolding descent
down_abs h k = record { less = omega (arith, h.less, k.less); get = λ m b. rw (use_args h _ lit m (omega (arith, b, k.less)), use_expr k m (omega (arith, b, h.less))) refl }

down_alloc : {p i j : ℕ} {t : TreeOf TYPE} {e : TreeOf EXPR} {ts us r : List Word} → Fact TYPE t ts us → Fact EXPR e us (mark k_rpar j ∷ r) → Fact EXPR (alloc p t e) (mark k_lpar p ∷ mark kalloc i ∷ ts) r
unfolding descent
down_alloc {i = i} {ts = ts} h k = record { less = omega (arith, h.less, k.less); get = λ m b. rw (no_alloc m i ts, use_type h m (omega (arith, b, k.less)), use_expr k m (omega (arith, b, h.less))) refl }

down_nth : {p i j : ℕ} {e f : TreeOf EXPR} {ts us r : List Word} → Fact EXPR e ts us → Fact EXPR f us (mark k_rpar j ∷ r) → Fact EXPR (nth_expr p e f) (mark k_lpar p ∷ mark knth i ∷ ts) r
unfolding descent
down_nth {i = i} {ts = ts} h k = record { less = omega (arith, h.less, k.less); get = λ m b. rw (no_nth m i ts, use_expr h m (omega (arith, b, k.less)), use_expr k m (omega (arith, b, h.less))) refl }

down_len : {p i j : ℕ} {e : TreeOf EXPR} {ts r : List Word} → Fact EXPR e ts (mark k_rpar j ∷ r) → Fact EXPR (len p e) (mark k_lpar p ∷ mark klen i ∷ ts) r
unfolding descent
down_len {i = i} {ts = ts} h = record { less = omega (arith, h.less); get = λ m b. rw (no_len m i ts, use_expr h m (omega (arith, b))) refl }

down_vset : {p i j : ℕ} {e f g : TreeOf EXPR} {ts us vs r : List Word} → Fact EXPR e ts us → Fact EXPR f us vs → Fact EXPR g vs (mark k_rpar j ∷ r) → Fact EXPR (vset p e f g) (mark k_lpar p ∷ mark kvset i ∷ ts) r
unfolding descent
down_vset {i = i} {ts = ts} h k l = record { less = omega (arith, h.less, k.less, l.less); get = λ m b. rw (no_vset m i ts, use_expr h m (omega (arith, b, k.less, l.less)), use_expr k m (omega (arith, b, h.less, l.less)), use_expr l m (omega (arith, b, h.less, k.less))) refl }

down_one_expr : {e : TreeOf EXPR} {ts r : List Word} → Fact EXPR e ts r → Fact EXPRS (one_expr e) ts r
unfolding descent
down_one_expr h = record { less = omega (arith, h.less); get = λ r' c m b. rw (use_expr h m (omega (arith, b)), no_exprs m c) refl }

down_more_exprs : {e : TreeOf EXPR} {a : TreeOf EXPRS} {ts us r : List Word} → Fact EXPR e ts us → Fact EXPRS a us r → Fact EXPRS (more_exprs e a) ts r
unfolding descent
down_more_exprs h k = record { less = omega (arith, h.less, k.less); get = λ r' c m b. rw (use_expr h m (omega (arith, b, k.less)), use_exprs k _ c m (omega (arith, b, h.less))) refl }

descends : {k : Sort} {e : TreeOf k} {ts r : List Word} → Reads k e ts r → Fact k e ts r
descends (r_block h) = down_block (descends h)
descends (r_last h) = down_last (descends h)
descends (r_def_then h k) = down_def_then (descends h) (descends k)
descends (r_stat_then h k) = down_stat_then (descends h) (descends k)
descends (r_return h) = down_return (descends h)
descends (r_const h k) = down_const (descends h) (descends k)
descends (r_fun h k l) = down_fun (descends h) (descends k) (descends l)
descends (r_fun_rec h k l) = down_fun_rec (descends h) (descends k) (descends l)
descends (r_fun_block h k (r_block l)) = down_fun_block (descends h) (descends k) (begun_cmds l) (down_block (descends l))
descends (r_fun_rec_block h k (r_block l)) = down_fun_rec_block (descends h) (descends k) (begun_cmds l) (down_block (descends l))
descends (r_var h) = down_var (descends h)
descends (r_proc h k) = down_proc (descends h) (descends k)
descends (r_proc_rec h k) = down_proc_rec (descends h) (descends k)
descends r_bool = down_bool
descends r_int = down_int
descends (r_arrow h k) = down_arrow (descends h) (descends k)
descends (r_vec h) = down_vec (descends h)
descends (r_one_type h) = down_one_type (descends h)
descends (r_more_types h k) = down_more_types (descends h) (descends k)
descends (r_arg h) = down_arg (descends h)
descends (r_one_arg h) = down_one_arg (descends h)
descends (r_more_args h k) = down_more_args (descends h) (descends k)
descends (r_val_arg h) = down_val_arg (descends h)
descends (r_var_arg h) = down_var_arg (descends h)
descends (r_one_argp h) = down_one_argp (descends h)
descends (r_more_argsp h k) = down_more_argsp (descends h) (descends k)
descends (r_echo h) = down_echo (descends h)
descends (r_set h) = down_set (descends h)
descends (r_if_stat h k l) = down_if_stat (descends h) (descends k) (descends l)
descends (r_while h k) = down_while (descends h) (descends k)
descends (r_call h) = down_call (descends h)
descends (r_one_exprp h) = down_one_exprp (descends h)
descends (r_more_exprsp h k) = down_more_exprsp (descends h) (descends k)
descends (r_val h) = down_val (descends h)
descends r_adr = down_adr
descends r_num = down_num
descends r_name = down_name
descends (r_if_expr h k l) = down_if_expr (descends h) (descends k) (descends l)
descends (r_and h k) = down_and (descends h) (descends k)
descends (r_or h k) = down_or (descends h) (descends k)
descends (r_app h k) = down_app (descends h) (descends k)
descends (r_abs h k) = down_abs (descends h) (descends k)
descends (r_alloc h k) = down_alloc (descends h) (descends k)
descends (r_nth h k) = down_nth (descends h) (descends k)
descends (r_len h) = down_len (descends h)
descends (r_vset h k l) = down_vset (descends h) (descends k) (descends l)
descends (r_one_expr h) = down_one_expr (descends h)
descends (r_more_exprs h k) = down_more_exprs (descends h) (descends k)

pub built : {b : Block} {ts : List Word} → Reads BLOCK b ts [] → tree_of ts ≡ got b []
built {ts = ts} h = use_block (descends h) (4 * length ts) (omega arith)

got_tree : {a b : Block} {r s : List Word} → got a r ≡ got b s → a ≡ b
got_tree e = cc

-- The tree of a program's words is one.
pub one_tree : {b c : Block} {ts : List Word} → Reads BLOCK b ts [] → Reads BLOCK c ts [] → b ≡ c
one_tree h k = got_tree (sym (built h) ∙ built k)
