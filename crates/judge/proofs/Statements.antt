-- Statements: targets, arguments of a call, and each statement's own rule.
use Prim.Native.Nat.{ℕ, suc, ◌+◌, ◌%◌, ◌<◌, ◌≤◌}
use mathlib.Core.Path.{◌≡◌, refl, ap, sym, ◌∙◌, subst}
use mathlib.Core.Bool.{Bool, true, false}
use mathlib.Core.List.{List, [], ◌∷◌}
use mathlib.Core.Option.{Option, none, some}
use native.Mathlib.Omega.{arith}
use lib.Dec.{eqb}
use lib.ListN.{length, get_or}
use borrow.Author.Tests.{ne_eqb, eqb-false}
use Rattle.language.specs.Claims.{TyFits, AllNodes, Comparable}
use Rattle.language.specs.Answers.{Result, fine}
use Rattle.language.specs.Syntax.{Name, at, Expr, ExprP, val, adr}
use Rattle.language.specs.Places.{place_expr, place_arg}
use Rattle.language.specs.Names.{head_operator}
use Rattle.language.specs.Words.{name_at}
use Rattle.language.specs.Types.{Ty, INT, Par, value, ref, Entity, plain, procedure, Ctx, find, never}
use Rattle.language.specs.Typing.{IsBase}
use Rattle.language.specs.Order.{nodes_expr, nodes_arg, nodes_args}
use Rattle.language.proofs.Reading.Standing.{Stands, InsideExpr, InsideExprP, InsideExprsP}
use Rattle.language.proofs.Reading.Payload.{name_stands}
use Rattle.language.proofs.Typing.Judge.{and_then, judged, same_type, same_pars, judge_expr, type_referred, call_pars, fits_ref, fits_call, as_ref, judge_arg, judge_args, only}
use Rattle.judge.specs.Scopes.{pick, place_at, child_at, next_at, env_at, role_in, row_of, binds_of}
use Rattle.judge.specs.Types.{same}
use Rattle.judge.specs.Rules.{binder_of, ref_type, target_type, adr_rule, part_rule, set_rule, called, call_rule, stat_by, expr_by, own_by}
use Rattle.judge.proofs.Shapes.{Nodes, end, node, kind_expr, kids_expr, kind_arg, kids_arg, args_row}
use Rattle.judge.proofs.Scoping.{first}
use Rattle.judge.proofs.Spelling.{pos_not, Spells, same_right, Gives, gives_value, gives_ref, Args, args_none, args_more, Fitted, fitted, unfitted, fits_right}
use Rattle.judge.proofs.Verdicts.{Run, said_type, One, one_fine, one_bad, Kids, Own, own_fine, own_bad, Ends, ends, kids_bind, Sit, Seat, seat, kids_done, below, kids_then, kids_past, node_one}
use Rattle.judge.proofs.Looking.{Written, binds_value, binds_ref, binds_proc, Found, found_none, found, binder_found, Scope, scope_up, scope_inner, scope_outer}
use Rattle.judge.proofs.Flows.{standing, HasFlow, Gave, gave_pass, followed_one}
use Rattle.judge.proofs.Expressions.{expr_binds, all_front, all_rest, has_at, has_low, is_int, args_move, env_here, env_low, plain_role, behind', expr_one}
use Rattle.judge.proofs.Definitions.{silent_name, name_place}

-- what an argument is
pub arg_binds : (a : ExprP) → binds_of (kind_arg a) ≡ 0
unfolding binds_of
arg_binds (val e) = expr_binds e
arg_binds (adr p x) = refl

module _ (g : Run) where
  one_then : {A B : Type 0} {P : A → Type 0} {Q : B → Type 0} {n m : ℕ} {r : Result A} (f : A → B) → ((a : A) → P a → Q (f a)) → One g P n m r
      → One g Q n m (and_then r λ a. fine (f a))
  unfolding and_then
  one_then f h (one_fine p b c) = one_fine (h _ p) b c
  one_then f h (one_bad b c) = one_bad b c

  -- the type of a target, and where it is spelled
  data Target : Option Ty → ℕ → Type 0 where
    no_target : Target none 0
    a_target : {τ : Ty} (r : ℕ) → eqb (r % 65536) 0 ≡ false → Written g r τ → IsBase τ → Target (some τ) r

  found_target : {b : ℕ} (o : Option Entity) → Found g o b → Target (type_referred o) (pick (eqb b 0) (λ _. 0) λ _. ref_type g.tree b)
  found_target none found_none = no_target
  found_target (some (plain (value τ))) (found {b = b} nz (binds_value r e f w x y)) = rw (ne_eqb b 0 nz, x) no_target
  found_target (some (plain (ref τ))) (found {b = b} nz (binds_ref r e f w x y z)) = rw (ne_eqb b 0 nz, x) (a_target r f w y)
  found_target (some (procedure qs)) (found {b = b} nz (binds_proc e x y z)) = rw (ne_eqb b 0 nz, x) no_target

  -- of the node n, whose first child is the name at q
  module _ {k p n m row row' v role q : ℕ} {s c : Nodes} {x : Name} {Γ : Ctx} (h : Seat g k p (node 19 q end c) s n m row row' v) (l : m ≤ g.count)
      (sc : Scope g n v role Γ)
      (i : x ≡ name_at g.text q) where
    target_found : Found g (find Γ x) (binder_of g.text g.tree g.scopes (env_at g.scopes n) (place_at g.tree (child_at g.tree n)))
    target_found = rw (env_here g h l sc, name_place g h, i) (binder_found g (v % 65536) Γ q (env_low g h l sc) sc.looks)

    target_is : Target (type_referred (find Γ x)) (target_type g.text g.tree g.scopes n)
    unfolding target_type
    target_is = found_target (find Γ x) target_found

  -- what the argument n gives, by the notes from any node up to it
  abbrev pub Argument : ℕ → Par → Type 0
  Argument n q = (lo : ℕ) → lo ≤ n → Gives g.tree g.notes lo n q

  -- (adr x)
  adr_own : {n p r : ℕ} (o : Option Ty) → Target o r → Own g (Argument n) n p (pick (eqb r 0) (λ _. 65536) λ _. 131072 + r) (judged p (as_ref o))
  unfolding judged
  adr_own none no_target = own_bad said_type
  adr_own (some τ) (a_target r f w b) =
      rw (ne_eqb r 0 (λ e. eqb-false (r % 65536) 0 f (rw e)))
      (own_fine {a = ref τ} (ne_eqb ((131072 + r) % 65536) 0 (λ e. eqb-false (r % 65536) 0 f (omega arith))) (λ e lo l. gives_ref r e b (w g.notes lo)))

  arg_one : (a : ExprP) {n m row row' v : ℕ} {s : Nodes} {Γ : Ctx} (h : Seat g (kind_arg a) (place_arg a) (kids_arg a) s n m row row' v) → m ≤ g.count
      → 0 < n → Scope g n v 0 Γ → InsideExprP a (Stands g.text) → AllNodes Comparable (nodes_arg Γ a) → One g (Argument n) n h.mid (judge_arg Γ a)
  unfolding judge_arg InsideExprP own_by expr_by adr_rule role_in row_of
  arg_one (val e) h l z sc s q =
      one_then value (λ τ t lo y. gives_value t.1 (has_low g lo y t.0)) (expr_one g e h l z sc (plain_role g (head_operator e)) s q)
  arg_one (adr p (at q x)) {Γ = Γ} h l z sc s c =
      let d = seat g h.kids in
      node_one g h l (kids_past g d (omega arith) (silent_name g d (behind' g h l) (scope_inner g h {role = 1} refl refl (scope_up g (omega arith) sc)))
      (kids_done g d.rest (λ M ag.
      adr_own (type_referred (find Γ x)) (target_is h l sc (name_stands s)))))

  arg_before : {z i : ℕ} {q : Par} {qs : List Par} (lo : ℕ) → lo ≤ z → 0 < z → next_at g.tree z ≡ i → Argument z q → Args g.tree g.notes lo i qs
      → Args g.tree g.notes lo z (q ∷ qs)
  arg_before {z} {qs = qs} lo l y e f a = args_more l (pos_not z y) (f lo l) (subst (λ i. Args g.tree g.notes lo i qs) (sym e) a)

  pub args_kids : (as' : List ExprP) (lo : ℕ) {n hi row row' v : ℕ} {Γ : Ctx} → Sit g (args_row as' end) n hi row row' v → hi ≤ g.count → 0 < n → lo ≤ n
      → Scope g n v 0 Γ
      → InsideExprsP as' (Stands g.text) → AllNodes Comparable (nodes_args Γ as')
      → Kids g (Ends g (λ qs. Args g.tree g.notes lo (first (args_row as' end) n) qs)) (args_row as' end) n hi (judge_args Γ as')
  unfolding judge_args InsideExprsP
  args_kids [] lo k l z y sc s q = kids_done g k (ends args_none)
  args_kids (a ∷ as') lo {Γ = Γ} k l z y sc s q =
      let h = seat g k in
      kids_then g h z _ (arg_one a h l z sc s.0 (all_front (nodes_arg Γ a) _ q)) (λ p r t.
      kids_bind g (λ ps. fine (p ∷ ps))
      (args_kids as' lo h.rest l (omega (arith, below g h)) (omega (arith, below g h)) (scope_outer g h (arg_binds a) sc) s.1
      (all_rest (nodes_arg Γ a) q)) (λ ps r' b.
      ends (arg_before lo y z h.next t b)))

  -- CALL
  call_is : {b z : ℕ} (M : List ℕ) (lo : ℕ) (o : Option Entity) (ps : List Par) → Found g o b → Args g.tree M lo z ps
      → called g.tree M b z ≡ pick (fits_call (call_pars o) ps) (λ _. 65537) λ _. 65536
  unfolding called
  call_is M lo none ps found_none a = refl
  call_is M lo (some (plain (value τ))) ps (found {b = b} nz (binds_value r e f w x y)) a = rw (ne_eqb b 0 nz, y)
  call_is M lo (some (plain (ref τ))) ps (found {b = b} nz (binds_ref r e f w x y z)) a = rw (ne_eqb b 0 nz, z)
  call_is {z = z} M lo (some (procedure qs)) ps (found {b = b} nz (binds_proc e x y w)) a =
      rw (ne_eqb b 0 nz, y) (by-fit (same_pars ps qs) (fits_right g.tree M lo (length g.tree) (next_at g.tree (child_at g.tree b)) z qs ps (w M lo) a
      (omega arith)))
    where
      by-fit : {j : ℕ} (o : Bool) → Fitted g.tree M lo (λ i. Unit {0}) j o → pick {A = ℕ} (eqb j 0) (λ _. 65536) (λ _. 65537) ≡ pick o (λ _. 65537) λ _. 65536
      by-fit {j} true (fitted nj s) = rw (ne_eqb j 0 nj)
      by-fit false unfitted = refl

  pub call_one : (p q : ℕ) (x : Name) (as' : List ExprP) {n m row row' v role : ℕ} {s : Nodes} {Γ : Ctx}
      (h : Seat g 12 p (node 19 q end (args_row as' end)) s n m row row' v)
      → m ≤ g.count → (b : Bool) → eqb (next_at g.tree n) 0 ≡ b → Scope g n v role Γ → x ≡ name_at g.text q → InsideExprsP as' (Stands g.text) → AllNodes Comparable (nodes_args Γ as')
      → One g (HasFlow g n) n h.mid (standing b p (and_then (judge_args Γ as') λ ps. judged p (only (fits_call (call_pars (find Γ x)) ps) (some never))))
  unfolding own_by stat_by call_rule role_in row_of binds_of
  call_one p q x as' {n} {Γ = Γ} h l b e sc i s c =
      let d = seat g h.kids in
      let u = behind' g h l in
      let sd = scope_inner g h {role = 1} refl refl (scope_up g (omega arith) sc) in
      followed_one g h l b e (λ M. call_rule g.text g.tree g.scopes M n) (λ M. refl) (kids_past g d (omega arith) (silent_name g d u sd)
      (kids_bind g (λ ps. judged p (only (fits_call (call_pars (find Γ x)) ps) (some never)))
      (args_kids as' (suc n) d.rest u (omega (arith, below g d)) (omega (arith, below g d)) (scope_outer g d refl sd) s c)
      (λ ps r a M ag.
      let w = subst (λ j. Args g.tree M (suc n) j ps) (sym (ap (next_at g.tree) h.child ∙ d.next)) (args_move g (suc n) M ag a) in
      rw (call_is M (suc n) (find Γ x) ps (target_found h l sc i) w) (gave_pass g M (fits_call (call_pars (find Γ x)) ps)))))

  -- SET
  set_is : {r : ℕ} (M : List ℕ) (lo y : ℕ) (τ : Ty) (o : Option Ty) → Target o r → TyFits τ 128 → Spells g.tree M lo (get_or M y 0) τ
      → pick {A = ℕ} (eqb r 0) (λ _. 65536) (λ _. pick (same 128 g.tree M (get_or M y 0) r) (λ _. 65537) λ _. 65536) ≡ pick (fits_ref o τ) (λ _. 65537) λ _. 65536
  set_is M lo y τ none no_target k s = refl
  set_is M lo y τ (some σ) (a_target r f w b) k s =
      rw (ne_eqb r 0 (λ e. eqb-false (r % 65536) 0 f (rw e)), same_right g.tree M lo 128 (get_or M y 0) r τ σ k s (w M lo))

  pub set_one : (p q : ℕ) (x : Name) (e : Expr) {n m row row' v role : ℕ} {s : Nodes} {Γ : Ctx}
      (h : Seat g 9 p (node 19 q end (node (kind_expr e) (place_expr e) (kids_expr e) end)) s n m row row' v) → m ≤ g.count → (f : Bool)
      → eqb (next_at g.tree n) 0 ≡ f → Scope g n v role Γ
      → x ≡ name_at g.text q
      → InsideExpr e (Stands g.text) → AllNodes Comparable (nodes_expr Γ e)
      → One g (HasFlow g n) n h.mid (standing f p (and_then (judge_expr Γ e) λ τ. judged p (only (fits_ref (type_referred (find Γ x)) τ) (some never))))
  unfolding own_by stat_by set_rule role_in row_of binds_of
  set_one p q x e {n} {Γ = Γ} h l f j sc i s c =
      let d = seat g h.kids in
      let b = seat g d.rest in
      let u = behind' g h l in
      let sd = scope_inner g h {role = 1} refl refl (scope_up g (omega arith) sc) in
      let z : 0 < d.mid = omega (arith, below g d) in
      followed_one g h l f j (λ M. set_rule g.text g.tree g.scopes M n) (λ M. refl) (kids_past g d (omega arith) (silent_name g d u sd)
      (kids_then g b z _ (expr_one g e b u z (scope_outer g d refl sd) (plain_role g (head_operator e)) s c) (λ τ r t.
      kids_done g b.rest (λ M ag.
      let w : next_at g.tree (child_at g.tree n) ≡ d.mid = ap (next_at g.tree) h.child ∙ d.next in
      rw (w, set_is M (suc n) d.mid τ (type_referred (find Γ x)) (target_is h l sc i) t.1 (has_at g (suc n) M ag (omega (arith, below g d)) t.0))
      (gave_pass g M (fits_ref (type_referred (find Γ x)) τ))))))

  -- ECHO
  pub int_part : {n p : ℕ} (M : List ℕ) (y : ℕ) (τ : Ty) → Spells g.tree M (suc n) (get_or M y 0) τ
      → Gave g M n p (part_rule g.tree M 16 y) (judged p (only (same_type τ INT) (some never)))
  unfolding part_rule
  int_part {n} M y τ s = rw (is_int g M (suc n) y τ s) (gave_pass g M (same_type τ INT))
