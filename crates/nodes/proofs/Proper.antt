-- Every node of a tree that the grammar reads has a kind from 1 to 33, the place of one of its words, and children where it is no leaf.
use Prim.Native.Nat.{ℕ, ◌<◌}
use mathlib.Core.Path.{◌≡◌, refl}
use mathlib.Core.Bool.{Bool, true, ◌&&◌}
use mathlib.Core.List.{List, []}
use lib.Dec.{leb}
use Rattle.language.specs.Syntax.{Ident, Block}
use Rattle.language.specs.Places.{place_ident}
use Rattle.language.specs.Words.{Word, place_word}
use Rattle.language.specs.Grammar.{Sort, BLOCK, CMDS, DEF, STAT, TYPE, TYPES, ARG, ARGS, ARGP, ARGSP, EXPR, EXPRS, EXPRP, EXPRSP, TreeOf, Reads, r_block, r_last, r_def_then, r_stat_then, r_return, r_const, r_fun, r_fun_rec, r_fun_block, r_fun_rec_block, r_var, r_proc, r_proc_rec, r_bool, r_int, r_arrow, r_vec, r_one_type, r_more_types, r_arg, r_one_arg, r_more_args, r_val_arg, r_var_arg, r_one_argp, r_more_argsp, r_echo, r_set, r_if_stat, r_while, r_call, r_one_exprp, r_more_exprsp, r_val, r_adr, r_num, r_name, r_if_expr, r_and, r_or, r_app, r_abs, r_alloc, r_nth, r_len, r_vset, r_one_expr, r_more_exprs}
use Rattle.language.specs.Table.{Forest, none, leaf, fork, ident, shape_type, shape_types, shape_arg, shape_args, shape_arg_p, shape_args_p, shape_expr, shape_exprs, shape_expr_p, shape_exprs_p, shape_cmds, shape_def, shape_stat, shape_block}
use Rattle.language.proofs.Reading.Payload.{All}

abbrev pub is_kind : ℕ → Bool
is_kind k = leb 1 k && leb k 33

-- it has a node
abbrev pub Filled : Forest → Type 0
Filled none = ⊥
Filled (leaf k p s) = Unit {0}
Filled (fork k p c s) = Unit {0}

abbrev pub Known : (kind place : ℕ) → Type 0
Known k p = (is_kind k ≡ true) × (p < 65536)

abbrev pub Proper : Forest → Type 0
Proper none = Unit {0}
Proper (leaf k p s) = Known k p × Proper s
Proper (fork k p c s) = Known k p × Filled c × Proper c × Proper s

abbrev pub shape_of : (k : Sort) → TreeOf k → Forest → Forest
shape_of BLOCK = shape_block
shape_of CMDS = shape_cmds
shape_of DEF = shape_def
shape_of STAT = shape_stat
shape_of TYPE = shape_type
shape_of TYPES = shape_types
shape_of ARG = shape_arg
shape_of ARGS = shape_args
shape_of ARGP = shape_arg_p
shape_of ARGSP = shape_args_p
shape_of EXPR = shape_expr
shape_of EXPRS = shape_exprs
shape_of EXPRP = shape_expr_p
shape_of EXPRSP = shape_exprs_p

-- nodes put before siblings
record Adds (f : Forest → Forest) : Type 0 where
  filled : (s : Forest) → Filled (f s)
  proper : (s : Forest) → Proper s → Proper (f s)

adds_leaf : (k p : ℕ) → Known k p → Adds (λ s. leaf k p s)
adds_leaf k p h = record { filled = λ s. tt; proper = λ s w. (h, w) }

adds_fork : (k p : ℕ) {f : Forest → Forest} → Known k p → Adds f → Adds (λ s. fork k p (f none) s)
adds_fork k p h a = record { filled = λ s. tt; proper = λ s w. (h, a.filled none, a.proper none tt, w) }

adds_both : {f h : Forest → Forest} → Adds f → Adds h → Adds (λ s. f (h s))
adds_both {f} {h} a b = record { filled = λ s. a.filled (h s); proper = λ s w. a.proper (h s) (b.proper s w) }

adds_name : (x : Ident) → place_ident x < 65536 → Adds (λ s. ident x s)
adds_name x h = adds_leaf 19 (place_ident x) (refl, h)

abbrev pub Low : Word → Type 0
Low w = place_word w < 65536

-- what a sort's words add, and that the words behind them are low too
adds : {k : Sort} {e : TreeOf k} {ts r : List Word} → Reads k e ts r → All Low ts → Adds (shape_of k e) × All Low r
unfolding shape_type shape_arg shape_args shape_arg_p shape_args_p shape_expr shape_expr_p shape_exprs_p shape_cmds
adds (r_block {p} h) a = let u = adds h a.1 in (adds_fork 1 p (refl, a.0) u.0, u.1.1)
adds (r_last h) a = adds h a
adds (r_def_then h k) a = let u = adds h a in let v = adds k u.1.1 in (adds_both u.0 v.0, v.1)
adds (r_stat_then h k) a = let u = adds h a in let v = adds k u.1.1 in (adds_both u.0 v.0, v.1)
adds (r_return {p} h) a = let u = adds h a.1 in (adds_fork 31 p (refl, a.0) u.0, u.1)
adds (r_const {p} {x} h k) a =
    let u = adds h a.1.1 in let v = adds k u.1 in
    (adds_fork 2 p (refl, a.0) (adds_both (adds_name x a.1.0) (adds_both u.0 v.0)), v.1)
adds (r_fun {p} {x = x} h k l) a =
    let u = adds h a.1.1 in let v = adds k u.1.1 in let w = adds l v.1.1 in
    (adds_fork 3 p (refl, a.0) (adds_both (adds_name x a.1.0) (adds_both u.0 (adds_both v.0 w.0))), w.1)
adds (r_fun_rec {p} {x = x} h k l) a =
    let u = adds h a.1.1.1 in let v = adds k u.1.1 in let w = adds l v.1.1 in
    (adds_fork 4 p (refl, a.0) (adds_both (adds_name x a.1.1.0) (adds_both u.0 (adds_both v.0 w.0))), w.1)
adds (r_fun_block {p} {x = x} h k l) a =
    let u = adds h a.1.1 in let v = adds k u.1.1 in let w = adds l v.1.1 in
    (adds_fork 32 p (refl, a.0) (adds_both (adds_name x a.1.0) (adds_both u.0 (adds_both v.0 w.0))), w.1)
adds (r_fun_rec_block {p} {x = x} h k l) a =
    let u = adds h a.1.1.1 in let v = adds k u.1.1 in let w = adds l v.1.1 in
    (adds_fork 33 p (refl, a.0) (adds_both (adds_name x a.1.1.0) (adds_both u.0 (adds_both v.0 w.0))), w.1)
adds (r_var {p} {x} h) a = let u = adds h a.1.1 in (adds_fork 5 p (refl, a.0) (adds_both (adds_name x a.1.0) u.0), u.1)
adds (r_proc {p} {x = x} h k) a =
    let u = adds h a.1.1.1 in let v = adds k u.1.1 in
    (adds_fork 6 p (refl, a.0) (adds_both (adds_name x a.1.0) (adds_both u.0 v.0)), v.1)
adds (r_proc_rec {p} {x = x} h k) a =
    let u = adds h a.1.1.1.1 in let v = adds k u.1.1 in
    (adds_fork 7 p (refl, a.0) (adds_both (adds_name x a.1.1.0) (adds_both u.0 v.0)), v.1)
adds (r_bool {p}) a = (adds_leaf 15 p (refl, a.0), a.1)
adds (r_int {p}) a = (adds_leaf 16 p (refl, a.0), a.1)
adds (r_arrow {p} h k) a = let u = adds h a.1 in let v = adds k u.1.1 in (adds_fork 17 p (refl, a.0) (adds_both u.0 v.0), v.1.1)
adds (r_vec {p} h) a = let u = adds h a.1.1 in (adds_fork 26 p (refl, a.0) u.0, u.1.1)
adds (r_one_type h) a = adds h a
adds (r_more_types h k) a = let u = adds h a in let v = adds k u.1.1 in (adds_both u.0 v.0, v.1)
adds (r_arg {x = x} h) a = let u = adds h a.1.1 in (adds_fork 13 (place_ident x) (refl, a.0) u.0, u.1)
adds (r_one_arg h) a = adds h a
adds (r_more_args h k) a = let u = adds h a in let v = adds k u.1.1 in (adds_both u.0 v.0, v.1)
adds (r_val_arg {x = x} h) a = let u = adds h a.1.1 in (adds_fork 13 (place_ident x) (refl, a.0) u.0, u.1)
adds (r_var_arg {x = x} h) a = let u = adds h a.1.1.1 in (adds_fork 14 (place_ident x) (refl, a.1.0) u.0, u.1)
adds (r_one_argp h) a = adds h a
adds (r_more_argsp h k) a = let u = adds h a in let v = adds k u.1.1 in (adds_both u.0 v.0, v.1)
adds (r_echo {p} h) a = let u = adds h a.1 in (adds_fork 8 p (refl, a.0) u.0, u.1)
adds (r_set {p} {x} h) a = let u = adds h a.1.1 in (adds_fork 9 p (refl, a.0) (adds_both (adds_name x a.1.0) u.0), u.1)
adds (r_if_stat {p} h k l) a =
    let u = adds h a.1 in let v = adds k u.1 in let w = adds l v.1 in
    (adds_fork 10 p (refl, a.0) (adds_both u.0 (adds_both v.0 w.0)), w.1)
adds (r_while {p} h k) a = let u = adds h a.1 in let v = adds k u.1 in (adds_fork 11 p (refl, a.0) (adds_both u.0 v.0), v.1)
adds (r_call {p} {x} h) a = let u = adds h a.1.1 in (adds_fork 12 p (refl, a.0) (adds_both (adds_name x a.1.0) u.0), u.1)
adds (r_one_exprp h) a = adds h a
adds (r_more_exprsp h k) a = let u = adds h a in let v = adds k u.1 in (adds_both u.0 v.0, v.1)
adds (r_val h) a = adds h a
adds (r_adr {p} {x = x}) a = (adds_fork 25 p (refl, a.0) (adds_name x a.1.1.0), a.1.1.1.1)
adds (r_num {p}) a = (adds_leaf 18 p (refl, a.0), a.1)
adds (r_name {x}) a = (adds_name x a.0, a.1)
adds (r_if_expr {p} h k l) a =
    let u = adds h a.1.1 in let v = adds k u.1 in let w = adds l v.1 in
    (adds_fork 20 p (refl, a.0) (adds_both u.0 (adds_both v.0 w.0)), w.1.1)
adds (r_and {p} h k) a = let u = adds h a.1.1 in let v = adds k u.1 in (adds_fork 21 p (refl, a.0) (adds_both u.0 v.0), v.1.1)
adds (r_or {p} h k) a = let u = adds h a.1.1 in let v = adds k u.1 in (adds_fork 22 p (refl, a.0) (adds_both u.0 v.0), v.1.1)
adds (r_app {p} h k) a = let u = adds h a.1 in let v = adds k u.1 in (adds_fork 23 p (refl, a.0) (adds_both u.0 v.0), v.1.1)
adds (r_abs {p} h k) a = let u = adds h a.1 in let v = adds k u.1.1 in (adds_fork 24 p (refl, a.0) (adds_both u.0 v.0), v.1)
adds (r_alloc {p} h k) a = let u = adds h a.1.1 in let v = adds k u.1 in (adds_fork 27 p (refl, a.0) (adds_both u.0 v.0), v.1.1)
adds (r_nth {p} h k) a = let u = adds h a.1.1 in let v = adds k u.1 in (adds_fork 28 p (refl, a.0) (adds_both u.0 v.0), v.1.1)
adds (r_len {p} h) a = let u = adds h a.1.1 in (adds_fork 29 p (refl, a.0) u.0, u.1.1)
adds (r_vset {p} h k l) a =
    let u = adds h a.1.1 in let v = adds k u.1 in let w = adds l v.1 in
    (adds_fork 30 p (refl, a.0) (adds_both u.0 (adds_both v.0 w.0)), w.1.1)
adds (r_one_expr h) a = adds h a
adds (r_more_exprs h k) a = let u = adds h a in let v = adds k u.1 in (adds_both u.0 v.0, v.1)

-- So the nodes of a program whose words have low places are proper.
pub proper : {b : Block} {ts : List Word} → Reads BLOCK b ts [] → All Low ts → Proper (shape_block b none)
proper h a = (adds h a).0.proper none tt
