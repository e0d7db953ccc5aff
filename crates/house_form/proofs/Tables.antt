-- Trees that agree have tables that differ in places alone.
use mathlib.Core.Path.{◌≡◌, refl, ◌∙◌, ap}
use mathlib.Core.List.{List, [], ◌∷◌, ◌++◌, map}
use Prim.Native.Nat.{ℕ, ◌+◌}
use Rattle.language.specs.Syntax.{Name, Block}
use Rattle.language.specs.Grammar.{Sort, BLOCK, TreeOf}
use Rattle.language.specs.Table.{Forest, none, leaf, fork, shape_type, shape_arg, shape_args, shape_arg_p, shape_args_p, shape_expr, shape_expr_p, shape_exprs_p, shape_cmds, shape_block, Node, node, size, first, enc}
use Rattle.language.proofs.Reading.Complete.{shape}
use Rattle.renaming.specs.Alike.{Alike, a_block, a_last, a_def_then, a_stat_then, a_const, a_fun, a_fun_rec, a_fun_block, a_fun_rec_block, a_var, a_proc, a_proc_rec, a_bool, a_int, a_arrow, a_vec, a_one_type, a_more_types, a_arg, a_no_args, a_args, a_val_arg, a_var_arg, a_no_argsp, a_argsp, a_echo, a_set, a_if_stat, a_while, a_call, a_return, a_val, a_adr, a_no_exprsp, a_exprsp, a_num, a_name, a_if_expr, a_and, a_or, a_app, a_abs, a_alloc, a_nth, a_len, a_vset, a_one_expr, a_more_exprs}
use Rattle.house_form.specs.HouseClaims.{placeless}

data SameForest : Forest → Forest → Type 0 where  -- forests that differ in places alone
  none_same : SameForest none none
  leaf_same : {k p q : ℕ} {s t : Forest} → SameForest s t → SameForest (leaf k p s) (leaf k q t)
  fork_same : {k p q : ℕ} {c d s t : Forest} → SameForest c d → SameForest s t → SameForest (fork k p c s) (fork k q d t)

same : {N : Name → Name → Type 0} {j : Sort} {e f : TreeOf j} → Alike N j e f → {s t : Forest} → SameForest s t → SameForest (shape j e s) (shape j f t)
unfolding shape_type shape_arg shape_args shape_arg_p shape_args_p shape_expr shape_expr_p shape_exprs_p shape_cmds
same (a_block h) q = fork_same (same h none_same) q
same (a_last h) q = same h q
same (a_def_then h k) q = same h (same k q)
same (a_stat_then h k) q = same h (same k q)
same (a_const n h k) q = fork_same (leaf_same (same h (same k none_same))) q
same (a_fun n h k l) q = fork_same (leaf_same (same h (same k (same l none_same)))) q
same (a_fun_rec n h k l) q = fork_same (leaf_same (same h (same k (same l none_same)))) q
same (a_fun_block n h k l) q = fork_same (leaf_same (same h (same k (same l none_same)))) q
same (a_fun_rec_block n h k l) q = fork_same (leaf_same (same h (same k (same l none_same)))) q
same (a_var n h) q = fork_same (leaf_same (same h none_same)) q
same (a_proc n h k) q = fork_same (leaf_same (same h (same k none_same))) q
same (a_proc_rec n h k) q = fork_same (leaf_same (same h (same k none_same))) q
same a_bool q = leaf_same q
same a_int q = leaf_same q
same (a_arrow h k) q = fork_same (same h (same k none_same)) q
same (a_vec h) q = fork_same (same h none_same) q
same (a_one_type h) q = same h q
same (a_more_types h k) q = same h (same k q)
same (a_arg n h) q = fork_same (same h none_same) q
same a_no_args q = q
same (a_args h k) q = same h (same k q)
same (a_val_arg n h) q = fork_same (same h none_same) q
same (a_var_arg n h) q = fork_same (same h none_same) q
same a_no_argsp q = q
same (a_argsp h k) q = same h (same k q)
same (a_echo h) q = fork_same (same h none_same) q
same (a_set n h) q = fork_same (leaf_same (same h none_same)) q
same (a_if_stat h k l) q = fork_same (same h (same k (same l none_same))) q
same (a_while h k) q = fork_same (same h (same k none_same)) q
same (a_call n h) q = fork_same (leaf_same (same h none_same)) q
same (a_return h) q = fork_same (same h none_same) q
same (a_val h) q = same h q
same (a_adr n) q = fork_same (leaf_same none_same) q
same a_no_exprsp q = q
same (a_exprsp h k) q = same h (same k q)
same a_num q = leaf_same q
same (a_name n) q = leaf_same q
same (a_if_expr h k l) q = fork_same (same h (same k (same l none_same))) q
same (a_and h k) q = fork_same (same h (same k none_same)) q
same (a_or h k) q = fork_same (same h (same k none_same)) q
same (a_app h k) q = fork_same (same h (same k none_same)) q
same (a_abs h k) q = fork_same (same h (same k none_same)) q
same (a_alloc h k) q = fork_same (same h (same k none_same)) q
same (a_nth h k) q = fork_same (same h (same k none_same)) q
same (a_len h) q = fork_same (same h none_same) q
same (a_vset h k l) q = fork_same (same h (same k (same l none_same))) q
same (a_one_expr h) q = same h q
same (a_more_exprs h k) q = same h (same k q)

same_size : {s t : Forest} → SameForest s t → size s ≡ size t
unfolding size
same_size none_same = refl
same_size (leaf_same h) = rw (same_size h)
same_size (fork_same h k) = rw (same_size h, same_size k)

same_first : {s t : Forest} → SameForest s t → (i : ℕ) → first s i ≡ first t i
unfolding first
same_first none_same i = refl
same_first (leaf_same h) i = refl
same_first (fork_same h k) i = refl

map_append : (a b : List Node) → map placeless (a ++ b) ≡ map placeless a ++ map placeless b
map_append [] b = refl
map_append (x ∷ a) b = ap (λ (l : List Node). placeless x ∷ l) (map_append a b)

-- the nodes of a fork: itself, its children's, its siblings'
forked : (k n f g : ℕ) (a b c d : List Node) → f ≡ g → map placeless a ≡ map placeless c → map placeless b ≡ map placeless d →
    node k 0 n f ∷ map placeless (a ++ b) ≡ node k 0 n g ∷ map placeless (c ++ d)
forked k n f g a b c d e h l = rw (e, map_append a b, map_append c d, h, l)

same_nodes : {s t : Forest} → SameForest s t → (n : ℕ) → map placeless (enc s n) ≡ map placeless (enc t n)
unfolding enc
same_nodes none_same n = refl
same_nodes (leaf_same {k = k} h) n = rw (same_first h (n + 1), same_nodes h (n + 1))
same_nodes (fork_same {k = k} {c = c} {d = d} {s = s} {t = t} h l) n =
    let e : n + 1 + size c ≡ n + 1 + size d = ap (λ (m : ℕ). n + 1 + m) (same_size h) in
    forked k (n + 1) (first s (n + 1 + size c)) (first t (n + 1 + size d)) (enc c (n + 1)) (enc s (n + 1 + size c)) (enc d (n + 1)) (enc t (n + 1 + size d))
    (same_first l (n + 1 + size c) ∙ ap (first t) e) (same_nodes h (n + 1)) (same_nodes l (n + 1 + size c) ∙ ap (λ (m : ℕ). map placeless (enc t m)) e)

pub same_table : {N : Name → Name → Type 0} (b c : Block) → Alike N BLOCK b c → map placeless (enc (shape_block b none) 0) ≡ map placeless (enc (shape_block c none) 0)
same_table b c a = same_nodes (same a none_same) 0
