-- Blocks, commands, definitions and statements: the notes of their nodes and the judge agree.
use Prim.Native.Nat.{ℕ, suc, ◌<◌, ◌≤◌}
use mathlib.Core.Path.{◌≡◌, refl, ap, sym, ◌∙◌, subst}
use mathlib.Core.Bool.{Bool, true, false}
use mathlib.Core.List.{List, [], ◌∷◌}
use mathlib.Core.Option.{Option}
use native.Mathlib.Omega.{arith}
use lib.Dec.{eqb}
use lib.ListN.{length, get_or}
use borrow.Author.Tests.{ne_eqb}
use Rattle.language.specs.Claims.{AllNodes, Comparable, one_more}
use Rattle.language.specs.Answers.{Result, fine, refuse}
use Rattle.language.specs.Syntax.{Name, at, Cmds, last, def_then, stat_then, Def, const, fun, fun_rec, fun_block, fun_rec_block, var, proc, proc_rec, Stat, echo, set, if_stat, while, call, return, Block, block}
use Rattle.language.specs.Places.{place_def, place_stat, place_expr, place_block}
use Rattle.language.specs.Names.{meaning, head_operator}
use Rattle.language.specs.Words.{name_at}
use Rattle.language.specs.Types.{type_of, value, plain, procedure, Entity, Ctx, extend, values, pars, declared, fun_type, Flow}
use Rattle.language.specs.Order.{after_def, nodes_params, nodes_expr, nodes_args, nodes_block, nodes_cmds, nodes_def, nodes_stat, nodes_type, JudgedNode, nodes_prog}
use Rattle.language.proofs.Reading.Standing.{Stands, InsideCmds, InsideDef, InsideStat, InsideBlock}
use Rattle.language.proofs.Reading.Payload.{name_stands}
use Rattle.language.proofs.Typing.Judge.{is_free, is_base, judge_block, judge_cmds, judge_def, judge_stat, and_then, judged, passes, is_never, sequel, judge}
use Rattle.language.proofs.Typing.Rows.{no_may, followed_then}
use Rattle.judge.specs.Scopes.{kind_at, place_at, child_at, role_in, row_of, binds_of, row_after, next_at}
use Rattle.judge.specs.Types.{is_fun, is_defined}
use Rattle.judge.specs.Rules.{is_proc, def_by, stat_by, own_by, part_rule, if_stat_rule, while_rule, return_rule, program_rule, block_rule}
use Rattle.judge.proofs.Shapes.{Nodes, end, kind_def, kind_stat, kids_block, cmds_row, kids_def, kids_stat, kind_expr, kids_expr}
use Rattle.judge.proofs.Scoping.{first}
use Rattle.judge.proofs.Spelling.{pos_not}
use Rattle.judge.proofs.Verdicts.{Run, One, Kids, one_map, Ends, ends, kids_map, Sit, Seat, seat, kids_done, below, kids_then, node_one, kids_bind}
use Rattle.judge.proofs.Looking.{Looks, Scope, scope_up, scope_inner, scope_rec, scope_outer, scope_def, Front, no_front, rec_front}
use Rattle.judge.proofs.Written.{here_low, here_in}
use Rattle.judge.proofs.Parameters.{both_true, base_true, in_values}
use Rattle.judge.proofs.Expressions.{expr_binds, all_front, all_rest, has_at, plain_role, behind', expr_one}
use Rattle.judge.proofs.Flows.{stat_fits, block_fits, standing, standing_fine, standing_goes, f_never, saw_none, HasFlow, FlowFit, flow_at, if_gave, while_gave, return_gave, followed_one, RowFlow, last_flow, on_flow, then_flow, block_own, program_own}
use Rattle.judge.proofs.Definitions.{name_place, def_looks, const_binder, var_binder, fun_binder, proc_binder, const_one, fun_one, var_one, proc_one, Done, body_one}
use Rattle.judge.proofs.Statements.{call_one, set_one, int_part}

def_binds : (d : Def) → binds_of (kind_def d) ≡ 1
unfolding binds_of
def_binds (const p x t e) = refl
def_binds (fun p x t ps e) = refl
def_binds (fun_rec p x t ps e) = refl
def_binds (fun_block p x t ps b) = refl
def_binds (fun_rec_block p x t ps b) = refl
def_binds (var p x t) = refl
def_binds (proc p x ps b) = refl
def_binds (proc_rec p x ps b) = refl

stat_binds : (c : Stat) → binds_of (kind_stat c) ≡ 0
unfolding binds_of
stat_binds (echo p e) = refl
stat_binds (set p x e) = refl
stat_binds (if_stat p e a b) = refl
stat_binds (while p e b) = refl
stat_binds (call p x as') = refl
stat_binds (return p e) = refl

first_cmds : (cs : Cmds) (s : Nodes) (n : ℕ) → first (cmds_row cs s) n ≡ n
first_cmds (last c) s n = refl
first_cmds (def_then d cs) s n = refl
first_cmds (stat_then c cs) s n = refl

then_assoc : {A B C : Type 0} (r : Result A) (f : A → Result B) (k : B → Result C) → and_then r (λ a. and_then (f a) k) ≡ and_then (and_then r f) k
unfolding and_then
then_assoc (fine a) f k = refl
then_assoc (refuse c p) f k = refl

-- a verdict with no more to say
abbrev pub Fine : Unit {0} → Type 0
Fine u = Unit {0}

all_tail : {P : JudgedNode → Type 0} {n : JudgedNode} {l : List JudgedNode} → AllNodes P (n ∷ l) → AllNodes P l
all_tail (one_more h k) = k

module _ (g : Run) where
  -- what stands last, and what does not
  no_more : {k p n m row row' v : ℕ} {c : Nodes} → Seat g k p c end n m row row' v → eqb (next_at g.tree n) 0 ≡ true
  no_more h = rw h.next

  more : (cs : Cmds) {k p n m row row' v : ℕ} {c : Nodes} (h : Seat g k p c (cmds_row cs end) n m row row' v) → eqb (next_at g.tree n) 0 ≡ false
  more cs {n = n} h = ne_eqb (next_at g.tree n) 0 (λ e. let w = below g h in omega (arith, h.next, first_cmds cs end h.mid))

  -- before the parameters of a definition, and of a REC one
  no_rec : {k : ℕ} (n row : ℕ) → kind_at g.tree n ≡ k → row_of k ≡ 2 → Front g (row_after g.tree n row) []
  unfolding row_after
  no_rec n row e f = no_front (rw (e, f))

  is_rec : {k : ℕ} (n row : ℕ) {x : Name} {F : Entity} → kind_at g.tree n ≡ k → row_of k ≡ 1 → 0 < n → name_at g.text (place_at g.tree (child_at g.tree n)) ≡ x
      → Front g (row_after g.tree n row) ((x, F) ∷ [])
  unfolding row_after
  is_rec n row e f z i = rw (e, f) (rec_front (pos_not n z) i)

  -- a definition does not return
  done_on : {n i : ℕ} {o : Result (Option Flow)} → next_at g.tree n ≡ i → n < i → n < length g.tree → get_or g.notes n 0 ≡ 65537 → Ends g (RowFlow g i) o
      → Ends g (RowFlow g n) o
  done_on e j t d (ends {a} f) = ends (on_flow g {o = a} e j t (f_never d) f)

  mutual
    unfolding judge_cmds nodes_cmds InsideCmds own_by def_by stat_by block_rule program_rule role_in row_of binds_of is_fun is_defined is_proc

    pub block_one : (b : Block) {n m row row' v role : ℕ} {s : Nodes} {Γ : Ctx} (h : Seat g 1 (place_block b) (kids_block b) s n m row row' v) → m ≤ g.count
        → 0 < n → Scope g (suc n) v role Γ → InsideBlock b (Stands g.text) → AllNodes Comparable (nodes_block Γ b) → One g (FlowFit g n) n h.mid (judge_block Γ b)
    block_one (block p cs) {n} {Γ = Γ} h l z sc s q =
        one_map g (λ φ e w. (w, block_fits (block p cs) Γ q e))
        (node_one g h l (kids_bind g (λ o. judged p o)
        (cmds_kids cs h.kids (behind' g h l) (omega arith) (scope_inner g h {role = 0} refl refl sc) s (all_front (nodes_cmds Γ cs) _ q)) (λ o e w M ag.
        rw (ne_eqb n 0 (pos_not n z), h.child, first_cmds cs end (suc n))
        (block_own g M ag (w M (suc n) (omega arith) ag no_may 0 (saw_none refl) (length g.tree) (omega arith))))))

    cmds_kids : (cs : Cmds) {n hi row row' v : ℕ} {Γ : Ctx} → Sit g (cmds_row cs end) n hi row row' v → hi ≤ g.count → 0 < n → Scope g n v 0 Γ
        → InsideCmds cs (Stands g.text) → AllNodes Comparable (nodes_cmds Γ cs) → Kids g (Ends g (RowFlow g n)) (cmds_row cs end) n hi (judge_cmds Γ cs)
    cmds_kids (last c) {Γ = Γ} k l z sc s q =
        let h = seat g k in
        kids_then g h z _ (stat_one c h l z true (no_more h) sc s q) (λ φ e w.
        kids_done g h.rest (ends (last_flow g h.next (here_in g h l) (w, stat_fits c Γ q e))))
    cmds_kids (def_then d cs) {Γ = Γ} k l z sc s q =
        let h = seat g k in
        kids_then g h z _ (def_one d h l z sc s.0 (all_front (nodes_def Γ d) _ q)) (λ u e f.
        kids_map g (λ w. done_on (h.next ∙ first_cmds cs end h.mid) (below g h) (here_in g h l) f.0 w)
        (cmds_kids cs h.rest l (omega (arith, below g h)) (scope_def g h (def_binds d) (here_low g h l) f.1) s.1 (all_rest (nodes_def Γ d) q)))
    cmds_kids (stat_then c cs) {n} {hi} {Γ = Γ} k l z sc s q =
        let h = seat g k in
        let qc = all_front (nodes_stat Γ c) _ q in
        subst (λ o. Kids g (Ends g (RowFlow g n)) (cmds_row (stat_then c cs) end) n hi o) (sym (followed_then Γ c cs))
        (kids_then g h z _ (stat_one c h l z false (more cs h) sc s.0 qc) (λ φ e w.
        kids_bind g (λ o. fine (sequel φ o))
        (cmds_kids cs h.rest l (omega (arith, below g h)) (scope_outer g h (stat_binds c) sc) s.1 (all_tail (all_rest (nodes_stat Γ c) q))) (λ o e' f.
        ends (then_flow g φ (h.next ∙ first_cmds cs end h.mid) (below g h) (here_in g h l) (standing_goes (place_stat c) (judge_stat Γ c) e)
        (w, stat_fits c Γ qc (standing_fine false (place_stat c) (judge_stat Γ c) e)) f))))

    def_one : (d : Def) {n m row row' v : ℕ} {s : Nodes} {Γ : Ctx} (h : Seat g (kind_def d) (place_def d) (kids_def d) s n m row row' v) → m ≤ g.count → 0 < n
        → Scope g n v 0 Γ → InsideDef d (Stands g.text) → AllNodes Comparable (nodes_def Γ d) → One g (λ u. Done g n u × Looks g n (after_def d Γ)) n h.mid (judge_def Γ d)
    def_one (const p (at i x) t e) {Γ = Γ} h l z sc s q =
        let w = name_stands s.0 in
        one_map g (λ u r f. (f, def_looks g h l sc refl w (const_binder g t h l refl))) (const_one g p i x t e h l sc w s.1 (all_front (nodes_expr Γ e) _ (all_rest (nodes_type t) q)))
    def_one (fun p (at i x) t ps e) {n} {row = row} {Γ = Γ} h l z sc s q =
        let w = name_stands s.0 in
        let Δ = extend (declared (values ps)) Γ in
        one_map g (λ u r f. (f, def_looks g h l sc refl w (fun_binder g t ps (kind_expr e) (place_expr e) (kids_expr e) h l z refl refl refl refl refl refl)))
        (fun_one g 3 p i x t ps e [] Γ h l (λ M. refl) (scope_inner g h {role = 1} refl refl (scope_up g (omega arith) sc)) (no_rec n row h.kind refl) w
        (in_values ps (Stands g.text) s.1) s.2 (all_front (nodes_expr Δ e) _ (all_rest (nodes_params (values ps)) (all_rest (nodes_type t) q))))
    def_one (fun_rec p (at i x) t ps e) {n} {row = row} {Γ = Γ} h l z sc s q =
        let w = name_stands s.0 in
        let d : Looks g n ((x, plain (value (fun_type ps t))) ∷ Γ) =
        def_looks g h l sc refl w (fun_binder g t ps (kind_expr e) (place_expr e) (kids_expr e) h l z refl refl refl refl refl refl) in
        let Δ : Ctx = (x, plain (value (fun_type ps t))) ∷ extend (declared (values ps)) Γ in
        one_map g (λ u r f. (f, d))
        (fun_one g 4 p i x t ps e ((x, plain (value (fun_type ps t))) ∷ []) Γ h l (λ M. refl) (scope_rec g h refl refl (here_low g h l) d)
        (is_rec n row h.kind refl z (ap (name_at g.text) (name_place g h) ∙ sym w)) w
        (in_values ps (Stands g.text) s.1) s.2 (all_front (nodes_expr Δ e) _ (all_rest (nodes_params (values ps)) (all_rest (nodes_type t) q))))
    def_one (fun_block p (at i x) t ps b) {n} {row = row} {Γ = Γ} h l z sc s q =
        let w = name_stands s.0 in
        let Δ = extend (declared (values ps)) Γ in
        let qb = all_front (nodes_block Δ b) _ (all_rest (nodes_params (values ps)) (all_rest (nodes_type t) q)) in
        one_map g (λ u r f. (f, def_looks g h l sc refl w (fun_binder g t ps 1 (place_block b) (kids_block b) h l z refl refl refl refl refl refl)))
        (body_one g 32 p i x t ps b [] Γ h l (λ M. refl) (scope_inner g h {role = 1} refl refl (scope_up g (omega arith) sc)) (no_rec n row h.kind refl) w
        (in_values ps (Stands g.text) s.1)
        (λ j ro ro' y rl r zj sj. block_one b (seat g r) (behind' g h l) zj (scope_up g (omega arith) sj) s.2 qb))
    def_one (fun_rec_block p (at i x) t ps b) {n} {row = row} {Γ = Γ} h l z sc s q =
        let w = name_stands s.0 in
        let d : Looks g n ((x, plain (value (fun_type ps t))) ∷ Γ) =
        def_looks g h l sc refl w (fun_binder g t ps 1 (place_block b) (kids_block b) h l z refl refl refl refl refl refl) in
        let Δ : Ctx = (x, plain (value (fun_type ps t))) ∷ extend (declared (values ps)) Γ in
        let qb = all_front (nodes_block Δ b) _ (all_rest (nodes_params (values ps)) (all_rest (nodes_type t) q)) in
        one_map g (λ u r f. (f, d))
        (body_one g 33 p i x t ps b ((x, plain (value (fun_type ps t))) ∷ []) Γ h l (λ M. refl) (scope_rec g h refl refl (here_low g h l) d)
        (is_rec n row h.kind refl z (ap (name_at g.text) (name_place g h) ∙ sym w)) w
        (in_values ps (Stands g.text) s.1)
        (λ j ro ro' y rl r zj sj. block_one b (seat g r) (behind' g h l) zj (scope_up g (omega arith) sj) s.2 qb))
    def_one (var p (at i x) t) h l z sc s q =
        let w = name_stands s in
        one_map g (λ u r f. (
          f.1,
          def_looks g h l sc refl w (var_binder g t h l refl
              (base_true (type_of t) (both_true (is_free (meaning x)) (is_base (type_of t)) f.0).1)),
        ))
        (var_one g p i x t h l sc w)
    def_one (proc p (at i x) ps b) {n} {row = row} {Γ = Γ} h l z sc s q =
        let w = name_stands s.0 in
        let Δ = extend (declared ps) Γ in
        let qb = all_front (nodes_block Δ b) _ (all_rest (nodes_params ps) q) in
        one_map g (λ u r f. (f, def_looks g h l sc refl w (proc_binder g ps b h l refl refl refl refl refl refl)))
        (proc_one g 6 p i x ps b [] Γ h l (λ M. refl) (scope_inner g h {role = 1} refl refl (scope_up g (omega arith) sc)) (no_rec n row h.kind refl) w
        s.1
        (λ j ro ro' y rl r zj sj. block_one b (seat g r) (behind' g h l) zj (scope_up g (omega arith) sj) s.2 qb))
    def_one (proc_rec p (at i x) ps b) {n} {row = row} {Γ = Γ} h l z sc s q =
        let w = name_stands s.0 in
        let d : Looks g n ((x, procedure (pars ps)) ∷ Γ) = def_looks g h l sc refl w (proc_binder g ps b h l refl refl refl refl refl refl) in
        let Δ : Ctx = (x, procedure (pars ps)) ∷ extend (declared ps) Γ in
        let qb = all_front (nodes_block Δ b) _ (all_rest (nodes_params ps) q) in
        one_map g (λ u r f. (f, d))
        (proc_one g 7 p i x ps b ((x, procedure (pars ps)) ∷ []) Γ h l (λ M. refl) (scope_rec g h refl refl (here_low g h l) d)
        (is_rec n row h.kind refl z (ap (name_at g.text) (name_place g h) ∙ sym w)) w s.1
        (λ j ro ro' y rl r zj sj. block_one b (seat g r) (behind' g h l) zj (scope_up g (omega arith) sj) s.2 qb))

    stat_one : (c : Stat) {n m row row' v : ℕ} {s : Nodes} {Γ : Ctx} (h : Seat g (kind_stat c) (place_stat c) (kids_stat c) s n m row row' v) → m ≤ g.count
        → 0 < n → (o : Bool) → eqb (next_at g.tree n) 0 ≡ o
        → Scope g n v 0 Γ → InsideStat c (Stands g.text) → AllNodes Comparable (nodes_stat Γ c)
        → One g (HasFlow g n) n h.mid (standing o (place_stat c) (judge_stat Γ c))
    stat_one (echo p e) {n} {Γ = Γ} h l z o i sc s q =
        let a = seat g h.kids in
        followed_one g h l o i (λ M. part_rule g.tree M 16 (child_at g.tree n)) (λ M. refl)
        (kids_then g a (omega arith) _
        (expr_one g e a (behind' g h l) (omega arith) (scope_inner g h {role = 0} refl refl (scope_up g (omega arith) sc))
        (plain_role g (head_operator e)) s (all_front (nodes_expr Γ e) _ q)) (λ τ r t.
        kids_done g a.rest (λ M ag. rw h.child (int_part g M (suc n) τ (has_at g (suc n) M ag (omega arith) t.0)))))
    stat_one (set p (at j x) e) {Γ = Γ} h l z o i sc s q = set_one g p j x e h l o i sc (name_stands s.0) s.1 (all_front (nodes_expr Γ e) _ q)
    stat_one (if_stat p e a b) {n} {Γ = Γ} h l z o i sc s q =
        let he = seat g h.kids in
        let ha = seat g he.rest in
        let hb = seat g ha.rest in
        let u = behind' g h l in
        let se = scope_inner g h {role = 0} refl refl (scope_up g (omega arith) sc) in
        let sa = scope_outer g he (expr_binds e) se in
        let sb = scope_outer g ha refl sa in
        let qr = all_rest (nodes_expr Γ e) q in
        let za : 0 < he.mid = omega (arith, below g he) in
        let zb : 0 < ha.mid = omega (arith, below g ha) in
        followed_one g h l o i (λ M. if_stat_rule g.tree M (child_at g.tree n)) (λ M. refl)
        (kids_then g he (omega arith) _ (expr_one g e he u (omega arith) se (plain_role g (head_operator e)) s.0 (all_front (nodes_expr Γ e) _ q)) (λ τ r t.
        kids_then g ha za _ (block_one a ha u za (scope_up g (omega arith) sa) s.1 (all_front (nodes_block Γ a) _ qr)) (λ φ ra fa.
        kids_then g hb zb _ (block_one b hb u zb (scope_up g (omega arith) sb) s.2
        (all_front (nodes_block Γ b) _ (all_rest (nodes_block Γ a) qr))) (λ ψ rb fb.
        kids_done g hb.rest (λ M ag. rw h.child
        (if_gave g M (suc n) he.mid ha.mid τ φ ψ he.next ha.next (has_at g (suc n) M ag (omega arith) t.0) fa.1
        (flow_at g (suc n) M ag (omega (arith, below g he)) fa.0) (flow_at g (suc n) M ag (omega (arith, below g he, below g ha)) fb.0)))))))
    stat_one (while p e b) {n} {Γ = Γ} h l z o i sc s q =
        let he = seat g h.kids in
        let hb = seat g he.rest in
        let u = behind' g h l in
        let se = scope_inner g h {role = 0} refl refl (scope_up g (omega arith) sc) in
        let zb : 0 < he.mid = omega (arith, below g he) in
        followed_one g h l o i (λ M. while_rule g.tree M (child_at g.tree n)) (λ M. refl)
        (kids_then g he (omega arith) _ (expr_one g e he u (omega arith) se (plain_role g (head_operator e)) s.0 (all_front (nodes_expr Γ e) _ q)) (λ τ r t.
        kids_then g hb zb _
        (block_one b hb u zb (scope_up g (omega arith) (scope_outer g he (expr_binds e) se)) s.1
        (all_front (nodes_block Γ b) _ (all_rest (nodes_expr Γ e) q))) (λ φ rb fb.
        kids_done g hb.rest (λ M ag. rw h.child
        (while_gave g M (suc n) he.mid τ φ he.next (has_at g (suc n) M ag (omega arith) t.0)
        (flow_at g (suc n) M ag (omega (arith, below g he)) fb.0))))))
    stat_one (call p (at j x) as') {Γ = Γ} h l z o i sc s q = call_one g p j x as' h l o i sc (name_stands s.0) s.1 (all_front (nodes_args Γ as') _ q)
    stat_one (return p e) {n} {Γ = Γ} h l z o i sc s q =
        let a = seat g h.kids in
        followed_one g h l o i (λ M. return_rule M (child_at g.tree n)) (λ M. refl)
        (kids_then g a (omega arith) _
        (expr_one g e a (behind' g h l) (omega arith) (scope_inner g h {role = 0} refl refl (scope_up g (omega arith) sc))
        (plain_role g (head_operator e)) s (all_front (nodes_expr Γ e) _ q)) (λ τ r t.
        kids_done g a.rest (λ M ag. rw h.child (return_gave g M (suc n) τ (has_at g (suc n) M ag (omega arith) t.0)))))

  -- the root
  pub program_one : (b : Block) {m row row' v role : ℕ} {s : Nodes} (h : Seat g 1 (place_block b) (kids_block b) s 0 m row row' v) → m ≤ g.count
      → Scope g 1 v role [] → InsideBlock b (Stands g.text) → AllNodes Comparable (nodes_prog b) → One g Fine 0 h.mid (judge b)
  unfolding judge_cmds nodes_cmds InsideCmds own_by block_rule program_rule role_in row_of
  program_one (block p cs) h l sc s q =
      subst (λ o. One g Fine 0 h.mid o) (then_assoc (judge_cmds [] cs) (λ o. judged p o) (λ φ. passes p (is_never φ)))
      (node_one g h l (kids_bind g (λ o. and_then (judged p o) λ φ. passes p (is_never φ))
      (cmds_kids cs h.kids (behind' g h l) (omega arith) (scope_inner g h {role = 0} refl refl sc) s
      (all_front (nodes_cmds [] cs) _ (all_front (nodes_block [] (block p cs)) _ q))) (λ o e w M ag.
      rw (h.child, first_cmds cs end 1)
      (program_own g M (w M 1 (omega arith) ag no_may 0 (saw_none refl) (length g.tree) (omega arith))))))
