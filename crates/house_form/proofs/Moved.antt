-- Words at other places are read as a tree that agrees with theirs.
use mathlib.Core.Path.{◌≡◌, refl, sym, ◌∙◌, ap, subst}
use mathlib.Core.Bool.{Bool, cond}
use mathlib.Core.List.{List, [], ◌∷◌, map}
use Prim.Native.Nat.{ℕ, ◌<◌}
use native.Mathlib.Omega.{arith}
use borrow.Author.Tests.{eq-eqb, ne_eqb}
use lib.Dec.{eqb}
use lib.ListN.{length, length-map}
use Rattle.language.specs.Syntax.{at, bool, int, arrow, vec, one_type, more_types, arg, val_arg, var_arg, num, name, if_expr, and, or, app, abs, alloc, nth_expr, len, vset, one_expr, more_exprs, val, adr, last, def_then, stat_then, const, fun, fun_rec, fun_block, fun_rec_block, var, proc, proc_rec, echo, set, if_stat, while, call, return, Block, block}
use Rattle.language.specs.Words.{Word, mark, number, named, place_word}
use Rattle.language.specs.Grammar.{Sort, BLOCK, TreeOf, Reads, r_block, r_last, r_def_then, r_stat_then, r_return, r_const, r_fun, r_fun_rec, r_fun_block, r_fun_rec_block, r_var, r_proc, r_proc_rec, r_bool, r_int, r_arrow, r_vec, r_one_type, r_more_types, r_arg, r_one_arg, r_more_args, r_val_arg, r_var_arg, r_one_argp, r_more_argsp, r_echo, r_set, r_if_stat, r_while, r_call, r_one_exprp, r_more_exprsp, r_val, r_adr, r_num, r_name, r_if_expr, r_and, r_or, r_app, r_abs, r_alloc, r_nth, r_len, r_vset, r_one_expr, r_more_exprs}
use Rattle.renaming.specs.Alike.{Alike, a_block, a_last, a_def_then, a_stat_then, a_const, a_fun, a_fun_rec, a_fun_block, a_fun_rec_block, a_var, a_proc, a_proc_rec, a_bool, a_int, a_arrow, a_vec, a_one_type, a_more_types, a_arg, a_no_args, a_args, a_val_arg, a_var_arg, a_no_argsp, a_argsp, a_echo, a_set, a_if_stat, a_while, a_call, a_return, a_val, a_adr, a_no_exprsp, a_exprsp, a_num, a_name, a_if_expr, a_and, a_or, a_app, a_abs, a_alloc, a_nth, a_len, a_vset, a_one_expr, a_more_exprs}
use Rattle.house_form.specs.House.{SameTree}
use Rattle.house_form.proofs.Spelled.{put}
use Rattle.house_form.proofs.Back.{bare}

-- words at places that `g` gives, for the count of words behind each
abbrev pub moved : (ℕ → ℕ) → List Word → List Word
moved g [] = []
moved g (w ∷ ws) = put (g (length ws)) w ∷ moved g ws

module _ (g : ℕ → ℕ) where
  pub re : {k : Sort} {e : TreeOf k} {ts r : List Word} → Reads k e ts r → (f : TreeOf k) × Reads k f (moved g ts) (moved g r) × Alike ◌≡◌ k e f
  re (r_block h) = let u = re h in (block _ u.0, r_block u.1, a_block u.2)
  re (r_last h) = let u = re h in (last u.0, r_last u.1, a_last u.2)
  re (r_def_then h k) = let u = re h in let v = re k in (def_then u.0 v.0, r_def_then u.1 v.1, a_def_then u.2 v.2)
  re (r_stat_then h k) = let u = re h in let v = re k in (stat_then u.0 v.0, r_stat_then u.1 v.1, a_stat_then u.2 v.2)
  re (r_return h) = let u = re h in (last (return _ u.0), r_return u.1, a_last (a_return u.2))
  re (r_const {x = at i x} h k) = let u = re h in let v = re k in (const _ (at _ x) u.0 v.0, r_const u.1 v.1, a_const refl u.2 v.2)
  re (r_fun {x = at i x} h k l) = let u = re h in let v = re k in let w = re l in (fun _ (at _ x) u.0 v.0 w.0, r_fun u.1 v.1 w.1, a_fun refl u.2 v.2 w.2)
  re (r_fun_rec {x = at i x} h k l) = let u = re h in let v = re k in let w = re l in (fun_rec _ (at _ x) u.0 v.0 w.0, r_fun_rec u.1 v.1 w.1, a_fun_rec refl u.2 v.2 w.2)
  re (r_fun_block {x = at i x} h k l) = let u = re h in let v = re k in let w = re l in (fun_block _ (at _ x) u.0 v.0 w.0, r_fun_block u.1 v.1 w.1, a_fun_block refl u.2 v.2 w.2)
  re (r_fun_rec_block {x = at i x} h k l) = let u = re h in let v = re k in let w = re l in (fun_rec_block _ (at _ x) u.0 v.0 w.0, r_fun_rec_block u.1 v.1 w.1, a_fun_rec_block refl u.2 v.2 w.2)
  re (r_var {x = at i x} h) = let u = re h in (var _ (at _ x) u.0, r_var u.1, a_var refl u.2)
  re (r_proc {x = at i x} h k) = let u = re h in let v = re k in (proc _ (at _ x) u.0 v.0, r_proc u.1 v.1, a_proc refl u.2 v.2)
  re (r_proc_rec {x = at i x} h k) = let u = re h in let v = re k in (proc_rec _ (at _ x) u.0 v.0, r_proc_rec u.1 v.1, a_proc_rec refl u.2 v.2)
  re r_bool = (bool _, r_bool, a_bool)
  re r_int = (int _, r_int, a_int)
  re (r_arrow h k) = let u = re h in let v = re k in (arrow _ u.0 v.0, r_arrow u.1 v.1, a_arrow u.2 v.2)
  re (r_vec h) = let u = re h in (vec _ u.0, r_vec u.1, a_vec u.2)
  re (r_one_type h) = let u = re h in (one_type u.0, r_one_type u.1, a_one_type u.2)
  re (r_more_types h k) = let u = re h in let v = re k in (more_types u.0 v.0, r_more_types u.1 v.1, a_more_types u.2 v.2)
  re (r_arg {x = at i x} h) = let u = re h in (arg (at _ x) u.0, r_arg u.1, a_arg refl u.2)
  re (r_one_arg h) = let u = re h in (u.0 ∷ [], r_one_arg u.1, a_args u.2 a_no_args)
  re (r_more_args h k) = let u = re h in let v = re k in (u.0 ∷ v.0, r_more_args u.1 v.1, a_args u.2 v.2)
  re (r_val_arg {x = at i x} h) = let u = re h in (val_arg (at _ x) u.0, r_val_arg u.1, a_val_arg refl u.2)
  re (r_var_arg {x = at i x} h) = let u = re h in (var_arg (at _ x) u.0, r_var_arg u.1, a_var_arg refl u.2)
  re (r_one_argp h) = let u = re h in (u.0 ∷ [], r_one_argp u.1, a_argsp u.2 a_no_argsp)
  re (r_more_argsp h k) = let u = re h in let v = re k in (u.0 ∷ v.0, r_more_argsp u.1 v.1, a_argsp u.2 v.2)
  re (r_echo h) = let u = re h in (echo _ u.0, r_echo u.1, a_echo u.2)
  re (r_set {x = at i x} h) = let u = re h in (set _ (at _ x) u.0, r_set u.1, a_set refl u.2)
  re (r_if_stat h k l) = let u = re h in let v = re k in let w = re l in (if_stat _ u.0 v.0 w.0, r_if_stat u.1 v.1 w.1, a_if_stat u.2 v.2 w.2)
  re (r_while h k) = let u = re h in let v = re k in (while _ u.0 v.0, r_while u.1 v.1, a_while u.2 v.2)
  re (r_call {x = at i x} h) = let u = re h in (call _ (at _ x) u.0, r_call u.1, a_call refl u.2)
  re (r_one_exprp h) = let u = re h in (u.0 ∷ [], r_one_exprp u.1, a_exprsp u.2 a_no_exprsp)
  re (r_more_exprsp h k) = let u = re h in let v = re k in (u.0 ∷ v.0, r_more_exprsp u.1 v.1, a_exprsp u.2 v.2)
  re (r_val h) = let u = re h in (val u.0, r_val u.1, a_val u.2)
  re (r_adr {x = at i x}) = (adr _ (at _ x), r_adr, a_adr refl)
  re r_num = (num _ _, r_num, a_num)
  re (r_name {x = at i x}) = (name (at _ x), r_name, a_name refl)
  re (r_if_expr h k l) = let u = re h in let v = re k in let w = re l in (if_expr _ u.0 v.0 w.0, r_if_expr u.1 v.1 w.1, a_if_expr u.2 v.2 w.2)
  re (r_and h k) = let u = re h in let v = re k in (and _ u.0 v.0, r_and u.1 v.1, a_and u.2 v.2)
  re (r_or h k) = let u = re h in let v = re k in (or _ u.0 v.0, r_or u.1 v.1, a_or u.2 v.2)
  re (r_app h k) = let u = re h in let v = re k in (app _ u.0 v.0, r_app u.1 v.1, a_app u.2 v.2)
  re (r_abs h k) = let u = re h in let v = re k in (abs _ u.0 v.0, r_abs u.1 v.1, a_abs u.2 v.2)
  re (r_alloc h k) = let u = re h in let v = re k in (alloc _ u.0 v.0, r_alloc u.1 v.1, a_alloc u.2 v.2)
  re (r_nth h k) = let u = re h in let v = re k in (nth_expr _ u.0 v.0, r_nth u.1 v.1, a_nth u.2 v.2)
  re (r_len h) = let u = re h in (len _ u.0, r_len u.1, a_len u.2)
  re (r_vset h k l) = let u = re h in let v = re k in let w = re l in (vset _ u.0 v.0 w.0, r_vset u.1 v.1 w.1, a_vset u.2 v.2 w.2)
  re (r_one_expr h) = let u = re h in (one_expr u.0, r_one_expr u.1, a_one_expr u.2)
  re (r_more_exprs h k) = let u = re h in let v = re k in (more_exprs u.0 v.0, r_more_exprs u.1 v.1, a_more_exprs u.2 v.2)

-- ---- which places lead from words to others that are equal but for their places

abbrev place_at : List Word → ℕ → ℕ  -- the place of the word with so many behind it
place_at [] n = 0
place_at (w ∷ ws) n = cond (eqb n (length ws)) (place_word w) (place_at ws n)

moved_as : (g h : ℕ → ℕ) (ws : List Word) → ((n : ℕ) → n < length ws → g n ≡ h n) → moved g ws ≡ moved h ws
moved_as g h [] e = refl
moved_as g h (w ∷ ws) e = rw (e (length ws) (omega arith), moved_as g h ws λ n l. e n (omega (arith, l)))

put_place : (w : Word) → put (place_word w) w ≡ w
put_place (mark m p) = refl
put_place (number p z) = refl
put_place (named (at p x)) = refl

put_bare : (i : ℕ) (w : Word) → put i (bare w) ≡ put i w
put_bare i (mark m p) = refl
put_bare i (number p z) = refl
put_bare i (named (at p x)) = refl

moved_self : (ws : List Word) → moved (place_at ws) ws ≡ ws
moved_self [] = refl
moved_self (w ∷ ws) =
    let q : place_at (w ∷ ws) (length ws) ≡ place_word w = ap (λ (t : Bool). cond t (place_word w) (place_at ws (length ws))) (eq-eqb (length ws) (length ws) refl) in
    let m = moved_as (place_at (w ∷ ws)) (place_at ws) ws λ n l. ap (λ (t : Bool). cond t (place_word w) (place_at ws n)) (ne_eqb n (length ws) λ e. omega (arith, e, l)) in
    ap (λ (j : ℕ). put j w ∷ moved (place_at (w ∷ ws)) ws) q ∙ (ap (λ (v : Word). v ∷ moved (place_at (w ∷ ws)) ws) (put_place w) ∙ ap (λ (l : List Word). w ∷ l) (m ∙ moved_self ws))

moved_bare : (g : ℕ → ℕ) (ws : List Word) → moved g (map bare ws) ≡ moved g ws
moved_bare g [] = refl
moved_bare g (w ∷ ws) = rw (length-map ws bare, put_bare (g (length ws)) w, moved_bare g ws)

moved_to : (ts us : List Word) → map bare ts ≡ map bare us → moved (place_at us) ts ≡ us
moved_to ts us e = sym (moved_bare (place_at us) ts) ∙ (ap (moved (place_at us)) e ∙ (moved_bare (place_at us) us ∙ moved_self us))

-- Words that are equal but for their places to those of a program are a program, and its tree agrees.
pub read_alike : {b : Block} (ts us : List Word) → map bare ts ≡ map bare us → Reads BLOCK b ts [] → (c : Block) × Reads BLOCK c us [] × SameTree b c
read_alike ts us e h = let x = re (place_at us) h in (x.0, subst (λ (l : List Word). Reads BLOCK x.0 l []) (moved_to ts us e) x.1, x.2)
