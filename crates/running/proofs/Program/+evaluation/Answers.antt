-- The functions of the evaluator meet their contracts: one induction over the levels left.
use mathlib.Core.Path.{◌≡◌, refl, subst, ◌∙◌}
use Prim.Native.Nat.{ℕ, suc, ◌-◌}
use native.Mathlib.Omega.{arith}
use Rattle.machine.specs.declared.Ending.TheVariants.{Value}
use Rattle.stores.proofs.Laws.{exit, end_no_value}
use Rattle.running.proofs.Blocks.{alloc_goes, alloc_passes, len_goes, len_passes, nth_goes, nth_passes, nth_passes_2, vset_goes, vset_passes, vset_passes_2, vset_passes_3}
use Rattle.running.proofs.Commands.{block_ends, block_goes_on, block_passes, block_start, call_applies, call_none, cmd_call, cmd_const, cmd_echo, cmd_if, cmd_plain, cmd_return, cmd_rounds, cmd_set, cmd_stops, const_binds, const_passes, echo_goes, echo_passes, if_stat_goes, if_stat_none, if_stat_passes, inner_ends, inner_passes, return_goes, return_passes, round_ends, round_goes, round_passes, round_stops, rounds_end, rounds_go_on, rounds_pass, rounds_start, set_none, set_passes, set_stores}
use Rattle.running.proofs.Laws.{once_more, not_again, over}
use Rattle.running.proofs.Values.{apply_evaluates, apply_passes, apply_runs, apply_stops, args_end, args_keep, args_pass, args_start, body_evaluates, body_runs, call_done, call_goes, call_passes, expr_alloc, expr_and, expr_call, expr_if, expr_len, expr_nth, expr_operator, expr_or, expr_plain, expr_stops, expr_vset, if_goes, if_none, if_passes, operator_many, operator_one, operator_passes, operator_passes_2, operator_passes_3, operator_two, parts_end, parts_go, parts_pass}
use Rattle.entering.specs.Opening.{StandsFor}
use Rattle.running.proofs.Program.+evaluation.Goals as goal

-- a CALL's node is no application's
no_application : ◌≡◌ {A = ℕ} 12 23 → ⊥
no_application h = omega (arith, h)

pub alloc-returns-in_err-size-clause-came : goal.alloc-returns-in_err-size-clause-came
alloc-returns-in_err-size-clause-came t c =
    rw (exit _ _ c.from_residual.ensures.1) (alloc_passes _ _ _ _ _ _ _ c.next_at-i.ensures _ c.in_err-size.ensures.came (end_no_value _))

pub alloc-returns-clause-came : goal.alloc-returns-clause-came
alloc-returns-clause-came t c =
    alloc_goes _ _ _ _ _ _ _ c.next_at-i.ensures _ c.in_ok-size.ensures.came _ _ refl _ (c.make_cells.ensures.w_after _ _ _ _ _)

pub application-returns-in_err-head-clause-came : goal.application-returns-in_err-head-clause-came
application-returns-in_err-head-clause-came t c =
    rw (exit _ _ c.from_residual.ensures.1) (call_passes _ _ _ _ _ _ _ c.in_err-head.ensures.came (end_no_value _))

pub application-returns-clause-came : goal.application-returns-clause-came
application-returns-clause-came t c =
    call_goes _ _ _ _ _ _ _ c.in_ok-head.ensures.came _ _ refl _ (c.apply.ensures.came 23 refl)

pub apply-returns-in_err-given-clause-came : goal.apply-returns-in_err-given-clause-came
apply-returns-in_err-given-clause-came t c f stands =
    rw (exit _ _ c.from_residual.ensures.1) (apply_passes _ _ _ _ _ _ _ c.next_at-first.ensures _ c.in_err-given.ensures.came f _ _ (end_no_value _))

pub apply-returns-in_err-entered-clause-came : goal.apply-returns-in_err-entered-clause-came
apply-returns-in_err-entered-clause-came t c f stands =
    rw (exit _ _ c.from_residual-in_err-entered.ensures.1) (apply_stops _ _ _ _ _ _ _ c.next_at-first.ensures _ c.in_ok-given.ensures.came f _ _ _ _ refl _
    (c.in_err-entered.ensures.came f stands) (end_no_value _))

pub apply-returns-in-Application-clause-came : goal.apply-returns-in-Application-clause-came
apply-returns-in-Application-clause-came t c f stands =
    apply_evaluates _ _ _ _ _ _ _ c.next_at-first.ensures _ c.in_ok-given.ensures.came f _ _ _ _ refl _ (c.in_ok-entered.ensures.came f stands)
    _ _ refl _ (subst (StandsFor f) c.in-Application.is stands) c.body.ensures.came

pub apply-returns-in_err-inner-in-Call-clause-came : goal.apply-returns-in_err-inner-in-Call-clause-came
apply-returns-in_err-inner-in-Call-clause-came t c f stands =
    rw (exit _ _ c.from_residual-in_err-inner-in-Call.ensures.1) (apply_runs _ _ _ _ _ _ _ c.next_at-first.ensures _ c.in_ok-given.ensures.came f _ _ _ _ refl _
    (c.in_ok-entered.ensures.came f stands) _ _ refl _ (subst (StandsFor f) c.in-Call.is stands) (c.in_err-inner-in-Call.ensures.came 7 c.args.at.env))

pub apply-returns-in_ok-inner-in-Call-clause-came : goal.apply-returns-in_ok-inner-in-Call-clause-came
apply-returns-in_ok-inner-in-Call-clause-came t c f stands =
    apply_runs _ _ _ _ _ _ _ c.next_at-first.ensures _ c.in_ok-given.ensures.came f _ _ _ _ refl _ (c.in_ok-entered.ensures.came f stands)
    _ _ refl _ (subst (StandsFor f) c.in-Call.is stands) (c.in_ok-inner-in-Call.ensures.came 7 c.args.at.env)

pub argv-loop-node-init : goal.argv-loop-node-init
argv-loop-node-init t c = (
  record { left = suc c.args.lent.now.counts.units; more = omega arith; same = args_start _ _ _ _ _ _; spent = omega arith },
  omega arith,
  record { bindings = refl; cells = refl; output = refl; waiting = refl },
)

pub argv-returns-in_err-value-clause-came : goal.argv-returns-in_err-value-clause-came
argv-returns-in_err-value-clause-came t c =
    rw (exit _ _ c.from_residual.ensures.1) (args_pass _ _ _ _ _ _ _ _ _ c.loop-node.invariant.0.more c.loop-node-test.true _ c.in_err-value.ensures.came (end_no_value _) ∙ c.loop-node.invariant.0.same)

pub argv-overflow_add-many : goal.argv-overflow_add-many
argv-overflow_add-many t c =
    omega (arith, c.loop-node.invariant.0.spent, c.loop-node.invariant.1, c.in_ok-value.ensures.spent)

pub argv-loop-node-preserved : goal.argv-loop-node-preserved
argv-loop-node-preserved t c = (
  record {
    left = c.loop-node.invariant.0.left - 1;
    more = omega (arith, c.loop-node.invariant.0.more, c.in_ok-value.ensures.spent);
    same = args_keep _ _ _ _ _ _ _ _ _ c.loop-node.invariant.0.more c.loop-node-test.true _ c.in_ok-value.ensures.came _ _ refl _ c.next_at-next.ensures _ c.put_row.ensures _ c.row_after-top.ensures.value ∙
        c.loop-node.invariant.0.same;
    spent = omega (arith, c.loop-node.invariant.0.spent, c.in_ok-value.ensures.spent);
  },
  omega (arith, c.loop-node.invariant.1, c.in_ok-value.ensures.spent),
  record {
    bindings = c.in_ok-value.ensures.same.bindings ∙ c.loop-node.invariant.2.bindings;
    cells = c.in_ok-value.ensures.same.cells ∙ c.loop-node.invariant.2.cells;
    output = c.in_ok-value.ensures.same.output ∙ c.loop-node.invariant.2.output;
    waiting = c.in_ok-value.ensures.same.waiting ∙ c.loop-node.invariant.2.waiting;
  },
)

pub argv-returns-clause-came : goal.argv-returns-clause-came
argv-returns-clause-came t c =
    args_end _ _ _ _ _ _ _ _ _ c.loop-node.invariant.0.more c.loop-node-test.false ∙ c.loop-node.invariant.0.same

pub block-loop-node-init : goal.block-loop-node-init
block-loop-node-init t c =
    (record { left = suc c.args.lent.now.counts.units; more = omega arith; same = block_start _ _ _ _ _ _; spent = omega arith }, record { bindings = refl; cells = refl; output = refl; waiting = refl })

pub block-returns-in_err-env-clause-came : goal.block-returns-in_err-env-clause-came
block-returns-in_err-env-clause-came t c =
    rw (exit _ _ c.from_residual.ensures.1) (block_passes _ _ _ _ _ _ _ _ c.loop-node.invariant.0.more c.loop-node-test.true _ c.node_at-n.ensures _ c.in_err-env.ensures.came (end_no_value _) ∙ c.loop-node.invariant.0.same)

pub block-loop-node-preserved : goal.block-loop-node-preserved
block-loop-node-preserved t c = (
  record {
    left = c.loop-node.invariant.0.left - 1;
    more = omega (arith, c.loop-node.invariant.0.more, c.in_ok-env.ensures.spent);
    same = block_goes_on _ _ _ _ _ _ _ _ c.loop-node.invariant.0.more c.loop-node-test.true _ c.node_at-n.ensures _ c.in_ok-env.ensures.came _ _ refl ∙ c.loop-node.invariant.0.same;
    spent = omega (arith, c.loop-node.invariant.0.spent, c.in_ok-env.ensures.spent);
  },
  record {
    bindings = c.in_ok-env.ensures.same.bindings ∙ c.loop-node.invariant.1.bindings;
    cells = c.in_ok-env.ensures.same.cells ∙ c.loop-node.invariant.1.cells;
    output = c.in_ok-env.ensures.same.output ∙ c.loop-node.invariant.1.output;
    waiting = c.in_ok-env.ensures.same.waiting ∙ c.loop-node.invariant.1.waiting;
  },
)

pub block-returns-clause-came : goal.block-returns-clause-came
block-returns-clause-came t c =
    block_ends _ _ _ _ _ _ _ _ c.loop-node.invariant.0.more c.loop-node-test.false ∙ c.loop-node.invariant.0.same

pub body-returns-then-n-ne-BLOCK-clause-came : goal.body-returns-then-n-ne-BLOCK-clause-came
body-returns-then-n-ne-BLOCK-clause-came t c =
    body_evaluates _ _ _ _ _ _ _ c.node_at-n.ensures _ c.if-n-ne-BLOCK.true c.evaluate.ensures.came

pub body-returns-clause-came : goal.body-returns-clause-came
body-returns-clause-came t c =
    body_runs _ _ _ _ _ _ _ c.node_at-n.ensures _ c.if-n-ne-BLOCK.false c.block-done.ensures.came _ c.caught_value.ensures

pub call-returns-in_err-target-clause-came : goal.call-returns-in_err-target-clause-came
call-returns-in_err-target-clause-came t c =
    rw (exit _ _ c.from_residual.ensures.1) (call_none _ _ _ _ _ _ _ c.entry-code.ensures _ c.in_err-target.ensures (end_no_value _))

pub call-returns-in_err-done-clause-came : goal.call-returns-in_err-done-clause-came
call-returns-in_err-done-clause-came t c =
    rw (exit _ _ c.from_residual-in_err-done.ensures.1) (call_applies _ _ _ _ _ _ _ c.entry-code.ensures _ c.in_ok-target.ensures _ _ refl _ (c.in_err-done.ensures.came 12 no_application))

pub call-returns-clause-came : goal.call-returns-clause-came
call-returns-clause-came t c =
    call_applies _ _ _ _ _ _ _ c.entry-code.ensures _ c.in_ok-target.ensures _ _ refl _ (call_done _ _ no_application _ _ _ _ _ _ _ _ _ _ (c.in_ok-done.ensures.came 12 no_application))

pub command-returns-then-kind-eq-WHILE-clause-came : goal.command-returns-then-kind-eq-WHILE-clause-came
command-returns-then-kind-eq-WHILE-clause-came t c =
    cmd_rounds _ _ _ _ _ _ c.if-kind-eq-WHILE.true _ c.rounds.ensures.came

pub command-returns-in_err-depth-clause-came : goal.command-returns-in_err-depth-clause-came
command-returns-in_err-depth-clause-came t c =
    rw (exit _ _ c.from_residual.ensures.1) (cmd_stops _ _ _ _ _ _ c.if-kind-eq-WHILE.false _ (c.in_err-depth.ensures.by_index _ _ _ _) (end_no_value _))

pub command-returns-in-2-clause-came : goal.command-returns-in-2-clause-came
command-returns-in-2-clause-came t c =
    cmd_const _ _ _ _ _ _ c.if-kind-eq-WHILE.false _ (c.in_ok-depth.ensures.by_index _ _ _ _) _ _ refl c.in-2.is _ c.constant.ensures.came

pub command-returns-in-8-clause-came : goal.command-returns-in-8-clause-came
command-returns-in-8-clause-came t c =
    cmd_echo _ _ _ _ _ _ c.if-kind-eq-WHILE.false _ (c.in_ok-depth.ensures.by_index _ _ _ _) _ _ refl c.in-8.is _ c.echo.ensures.came

pub command-returns-in-9-clause-came : goal.command-returns-in-9-clause-came
command-returns-in-9-clause-came t c =
    cmd_set _ _ _ _ _ _ c.if-kind-eq-WHILE.false _ (c.in_ok-depth.ensures.by_index _ _ _ _) _ _ refl c.in-9.is _ c.set.ensures.came

pub command-returns-in-10-clause-came : goal.command-returns-in-10-clause-came
command-returns-in-10-clause-came t c =
    cmd_if _ _ _ _ _ _ c.if-kind-eq-WHILE.false _ (c.in_ok-depth.ensures.by_index _ _ _ _) _ _ refl c.in-10.is _ c.either.ensures.came

pub command-returns-in-12-clause-came : goal.command-returns-in-12-clause-came
command-returns-in-12-clause-came t c =
    cmd_call _ _ _ _ _ _ c.if-kind-eq-WHILE.false _ (c.in_ok-depth.ensures.by_index _ _ _ _) _ _ refl c.in-12.is _ c.call.ensures.came

pub command-returns-in-31-clause-came : goal.command-returns-in-31-clause-came
command-returns-in-31-clause-came t c =
    cmd_return _ _ _ _ _ _ c.if-kind-eq-WHILE.false _ (c.in_ok-depth.ensures.by_index _ _ _ _) _ _ refl c.in-31.is _ c.returned.ensures.came

pub command-returns-in_default-clause-came : goal.command-returns-in_default-clause-came
command-returns-in_default-clause-came t c =
    cmd_plain _ _ _ _ _ _ c.if-kind-eq-WHILE.false _ (c.in_ok-depth.ensures.by_index _ _ _ _) _ _ refl (omega arith) (omega arith) (omega arith) (omega arith) (omega arith) (omega arith) _ (c.plain_definition.ensures.by_index _ _ _)

pub constant-returns-in_err-value-clause-came : goal.constant-returns-in_err-value-clause-came
constant-returns-in_err-value-clause-came t c =
    rw (exit _ _ c.from_residual.ensures.1) (const_passes _ _ _ _ _ _ _ c.node_at-name.ensures _ c.next_at-i.ensures _ c.in_err-value.ensures.came (end_no_value _))

pub constant-returns-clause-came : goal.constant-returns-clause-came
constant-returns-clause-came t c =
    const_binds _ _ _ _ _ _ _ c.node_at-name.ensures _ c.next_at-i.ensures _ c.in_ok-value.ensures.came _ _ refl _ (c.bind_name.ensures.w_after _ _ _ _ _)

pub echo-returns-in_err-value-clause-came : goal.echo-returns-in_err-value-clause-came
echo-returns-in_err-value-clause-came t c =
    rw (exit _ _ c.from_residual.ensures.1) (echo_passes _ _ _ _ _ _ _ c.in_err-value.ensures.came (end_no_value _))

pub echo-returns-in_err-put_out-clause-came : goal.echo-returns-in_err-put_out-clause-came
echo-returns-in_err-put_out-clause-came t c =
    rw (exit _ _ c.from_residual-in_err-put_out.ensures.1) (echo_goes _ _ _ _ _ _ _ c.in_ok-value.ensures.came _ _ refl _ (c.in_err-put_out.ensures.w_after _ _ _ _ _ _))

pub echo-returns-clause-came : goal.echo-returns-clause-came
echo-returns-clause-came t c =
    echo_goes _ _ _ _ _ _ _ c.in_ok-value.ensures.came _ _ refl _ (c.in_ok-put_out.ensures.w_after _ _ _ _ _ _)

pub set-returns-in_err-cell-clause-came : goal.set-returns-in_err-cell-clause-came
set-returns-in_err-cell-clause-came t c =
    rw (exit _ _ c.from_residual.ensures.1) (set_none _ _ _ _ _ _ _ c.node_at-name.ensures _ c.entry-code.ensures _ c.in_err-cell.ensures (end_no_value _))

pub set-returns-in_err-value-clause-came : goal.set-returns-in_err-value-clause-came
set-returns-in_err-value-clause-came t c =
    rw (exit _ _ c.from_residual-in_err-value.ensures.1) (set_passes _ _ _ _ _ _ _ c.node_at-name.ensures _ c.entry-code.ensures _ c.in_ok-cell.ensures _ _ refl _ c.in_err-value.ensures.came (end_no_value _))

pub set-returns-in_err-store_cell-clause-came : goal.set-returns-in_err-store_cell-clause-came
set-returns-in_err-store_cell-clause-came t c =
    rw (exit _ _ c.from_residual-in_err-store_cell.ensures.1) (set_stores _ _ _ _ _ _ _ c.node_at-name.ensures _ c.entry-code.ensures _ c.in_ok-cell.ensures _ _ refl _ c.in_ok-value.ensures.came _ _ refl _ (c.in_err-store_cell.ensures _ _ _ (Value 7 c.args.at.env)))

pub set-returns-clause-came : goal.set-returns-clause-came
set-returns-clause-came t c =
    set_stores _ _ _ _ _ _ _ c.node_at-name.ensures _ c.entry-code.ensures _ c.in_ok-cell.ensures _ _ refl _ c.in_ok-value.ensures.came _ _ refl _ (c.in_ok-store_cell.ensures _ _ _ (Value 7 c.args.at.env))

pub either-returns-in_err-condition-clause-came : goal.either-returns-in_err-condition-clause-came
either-returns-in_err-condition-clause-came t c =
    rw (exit _ _ c.from_residual.ensures.1) (if_stat_passes _ _ _ _ _ _ _ c.in_err-condition.ensures.came (end_no_value _))

pub either-returns-in_err-part-clause-came : goal.either-returns-in_err-part-clause-came
either-returns-in_err-part-clause-came t c =
    rw (exit _ _ c.from_residual-in_err-part.ensures.1) (if_stat_none _ _ _ _ _ _ _ c.in_ok-condition.ensures.came _ _ refl _ c.next_at-first.ensures _ c.in_err-part.ensures (end_no_value _))

pub either-returns-in_err-inner-clause-came : goal.either-returns-in_err-inner-clause-came
either-returns-in_err-inner-clause-came t c =
    rw (exit _ _ c.from_residual-in_err-inner.ensures.1) (if_stat_goes _ _ _ _ _ _ _ c.in_ok-condition.ensures.came _ _ refl _ c.next_at-first.ensures _ c.in_ok-part.ensures _ _ refl _ (c.in_err-inner.ensures.came 7 c.args.at.env))

pub either-returns-clause-came : goal.either-returns-clause-came
either-returns-clause-came t c =
    if_stat_goes _ _ _ _ _ _ _ c.in_ok-condition.ensures.came _ _ refl _ c.next_at-first.ensures _ c.in_ok-part.ensures _ _ refl _ (c.in_ok-inner.ensures.came 7 c.args.at.env)

pub evaluate-returns-in_err-depth-clause-came : goal.evaluate-returns-in_err-depth-clause-came
evaluate-returns-in_err-depth-clause-came t c =
    rw (exit _ _ c.from_residual.ensures.1) (expr_stops _ _ _ _ _ _ _ c.node_at-n.ensures _ (c.in_err-depth.ensures.by_index _ _ _ _) (end_no_value _))

pub evaluate-returns-in-20-clause-came : goal.evaluate-returns-in-20-clause-came
evaluate-returns-in-20-clause-came t c =
    expr_if _ _ _ _ _ _ _ c.node_at-n.ensures _ (c.in_ok-depth.ensures.by_index _ _ _ _) _ _ refl c.in-20.is _ c.if_value.ensures.came

pub evaluate-returns-in-21-clause-came : goal.evaluate-returns-in-21-clause-came
evaluate-returns-in-21-clause-came t c =
    expr_and _ _ _ _ _ _ _ c.node_at-n.ensures _ (c.in_ok-depth.ensures.by_index _ _ _ _) _ _ refl c.in-21.is _ c.parts.ensures.came

pub evaluate-returns-in-22-clause-came : goal.evaluate-returns-in-22-clause-came
evaluate-returns-in-22-clause-came t c =
    expr_or _ _ _ _ _ _ _ c.node_at-n.ensures _ (c.in_ok-depth.ensures.by_index _ _ _ _) _ _ refl c.in-22.is _ c.parts-in-22.ensures.came

pub evaluate-returns-in-27-clause-came : goal.evaluate-returns-in-27-clause-came
evaluate-returns-in-27-clause-came t c =
    expr_alloc _ _ _ _ _ _ _ c.node_at-n.ensures _ (c.in_ok-depth.ensures.by_index _ _ _ _) _ _ refl c.in-27.is _ c.alloc.ensures.came

pub evaluate-returns-in-28-clause-came : goal.evaluate-returns-in-28-clause-came
evaluate-returns-in-28-clause-came t c =
    expr_nth _ _ _ _ _ _ _ c.node_at-n.ensures _ (c.in_ok-depth.ensures.by_index _ _ _ _) _ _ refl c.in-28.is _ c.nth.ensures.came

pub evaluate-returns-in-29-clause-came : goal.evaluate-returns-in-29-clause-came
evaluate-returns-in-29-clause-came t c =
    expr_len _ _ _ _ _ _ _ c.node_at-n.ensures _ (c.in_ok-depth.ensures.by_index _ _ _ _) _ _ refl c.in-29.is _ c.length.ensures.came

pub evaluate-returns-in-30-clause-came : goal.evaluate-returns-in-30-clause-came
evaluate-returns-in-30-clause-came t c =
    expr_vset _ _ _ _ _ _ _ c.node_at-n.ensures _ (c.in_ok-depth.ensures.by_index _ _ _ _) _ _ refl c.in-30.is _ c.vset.ensures.came

pub evaluate-returns-then-operator-lt-FIRST_OPERATOR-clause-came : goal.evaluate-returns-then-operator-lt-FIRST_OPERATOR-clause-came
evaluate-returns-then-operator-lt-FIRST_OPERATOR-clause-came t c =
    expr_call _ _ _ _ _ _ _ c.node_at-n.ensures _ (c.in_ok-depth.ensures.by_index _ _ _ _) _ _ refl c.in-23.is _ c.entry-operator.ensures c.if-operator-lt-FIRST_OPERATOR.true _ c.application.ensures.came

pub evaluate-returns-else-operator-lt-FIRST_OPERATOR-clause-came : goal.evaluate-returns-else-operator-lt-FIRST_OPERATOR-clause-came
evaluate-returns-else-operator-lt-FIRST_OPERATOR-clause-came t c =
    expr_operator _ _ _ _ _ _ _ c.node_at-n.ensures _ (c.in_ok-depth.ensures.by_index _ _ _ _) _ _ refl c.in-23.is _ c.entry-operator.ensures c.if-operator-lt-FIRST_OPERATOR.false _ c.operate.ensures.came

pub evaluate-returns-in_default-clause-came : goal.evaluate-returns-in_default-clause-came
evaluate-returns-in_default-clause-came t c =
    expr_plain _ _ _ _ _ _ _ c.node_at-n.ensures _ (c.in_ok-depth.ensures.by_index _ _ _ _) _ _ refl (omega arith) (omega arith) (omega arith) (omega arith) (omega arith) (omega arith) (omega arith) (omega arith) _ c.entry-code.ensures _ c.plain_value.ensures

pub if_value-returns-in_err-condition-clause-came : goal.if_value-returns-in_err-condition-clause-came
if_value-returns-in_err-condition-clause-came t c =
    rw (exit _ _ c.from_residual.ensures.1) (if_passes _ _ _ _ _ _ _ c.in_err-condition.ensures.came (end_no_value _))

pub if_value-returns-in_err-part-clause-came : goal.if_value-returns-in_err-part-clause-came
if_value-returns-in_err-part-clause-came t c =
    rw (exit _ _ c.from_residual-in_err-part.ensures.1) (if_none _ _ _ _ _ _ _ c.in_ok-condition.ensures.came _ _ refl _ c.next_at-first.ensures _ c.in_err-part.ensures (end_no_value _))

pub if_value-returns-clause-came : goal.if_value-returns-clause-came
if_value-returns-clause-came t c =
    if_goes _ _ _ _ _ _ _ c.in_ok-condition.ensures.came _ _ refl _ c.next_at-first.ensures _ c.in_ok-part.ensures _ _ refl _ c.evaluate-2.ensures.came

pub inner-returns-in_err-block-clause-came : goal.inner-returns-in_err-block-clause-came
inner-returns-in_err-block-clause-came t c =
    λ tag env. rw (exit _ _ c.from_residual.ensures.1) (inner_passes _ _ _ _ _ _ _ _ _ c.child_at-first.ensures _ c.in_err-block.ensures.came (end_no_value _))

pub inner-returns-clause-came : goal.inner-returns-clause-came
inner-returns-clause-came t c =
    λ tag env. inner_ends _ _ _ _ _ _ _ _ _ c.child_at-first.ensures _ c.in_ok-block.ensures.came _ _ refl

pub length-returns-in_err-block-clause-came : goal.length-returns-in_err-block-clause-came
length-returns-in_err-block-clause-came t c =
    rw (exit _ _ c.from_residual.ensures.1) (len_passes _ _ _ _ _ _ _ c.in_err-block.ensures.came (end_no_value _))

pub length-returns-clause-came : goal.length-returns-clause-came
length-returns-clause-came t c =
    len_goes _ _ _ _ _ _ _ c.in_ok-block.ensures.came _ _ refl _ c.length_value.ensures

pub nth-returns-in_err-block-clause-came : goal.nth-returns-in_err-block-clause-came
nth-returns-in_err-block-clause-came t c =
    rw (exit _ _ c.from_residual.ensures.1) (nth_passes _ _ _ _ _ _ _ c.in_err-block.ensures.came (end_no_value _))

pub nth-returns-in_err-index-clause-came : goal.nth-returns-in_err-index-clause-came
nth-returns-in_err-index-clause-came t c =
    rw (exit _ _ c.from_residual-in_err-index.ensures.1) (nth_passes_2 _ _ _ _ _ _ _ c.in_ok-block.ensures.came _ _ refl _ c.next_at-other.ensures _ c.in_err-index.ensures.came (end_no_value _))

pub nth-returns-clause-came : goal.nth-returns-clause-came
nth-returns-clause-came t c =
    nth_goes _ _ _ _ _ _ _ c.in_ok-block.ensures.came _ _ refl _ c.next_at-other.ensures _ c.in_ok-index.ensures.came _ _ refl _ c.element.ensures

pub operate-returns-in_err-left-clause-came : goal.operate-returns-in_err-left-clause-came
operate-returns-in_err-left-clause-came t c =
    rw (exit _ _ c.from_residual.ensures.1) (operator_passes _ _ _ _ _ _ _ _ c.next_at-first.ensures _ c.in_err-left.ensures.came (end_no_value _))

pub operate-returns-then-second-eq0-clause-came : goal.operate-returns-then-second-eq0-clause-came
operate-returns-then-second-eq0-clause-came t c =
    operator_one _ _ _ _ _ _ _ _ c.next_at-first.ensures _ c.in_ok-left.ensures.came _ _ refl _ c.next_at-second.ensures c.if-second-eq0.true _ c.negation.ensures

pub operate-returns-in_err-right-clause-came : goal.operate-returns-in_err-right-clause-came
operate-returns-in_err-right-clause-came t c =
    rw (exit _ _ c.from_residual-in_err-right.ensures.1) (operator_passes_2 _ _ _ _ _ _ _ _ c.next_at-first.ensures _ c.in_ok-left.ensures.came _ _ refl _ c.next_at-second.ensures c.if-second-eq0.false _ c.in_err-right.ensures.came (end_no_value _))

pub operate-returns-then-third-eq0-clause-came : goal.operate-returns-then-third-eq0-clause-came
operate-returns-then-third-eq0-clause-came t c =
    operator_two _ _ _ _ _ _ _ _ c.next_at-first.ensures _ c.in_ok-left.ensures.came _ _ refl _ c.next_at-second.ensures c.if-second-eq0.false _ c.in_ok-right.ensures.came _ _ refl _ c.next_at-third.ensures c.if-third-eq0.true _ c.combination.ensures

pub operate-returns-in_err-argv-clause-came : goal.operate-returns-in_err-argv-clause-came
operate-returns-in_err-argv-clause-came t c =
    rw (exit _ _ c.from_residual-in_err-argv.ensures.1) (operator_passes_3 _ _ _ _ _ _ _ _ c.next_at-first.ensures _ c.in_ok-left.ensures.came _ _ refl _ c.next_at-second.ensures c.if-second-eq0.false _ c.in_ok-right.ensures.came _ _ refl _ c.next_at-third.ensures c.if-third-eq0.false _ c.in_err-argv.ensures.came (end_no_value _))

pub operate-returns-clause-came : goal.operate-returns-clause-came
operate-returns-clause-came t c =
    operator_many _ _ _ _ _ _ _ _ c.next_at-first.ensures _ c.in_ok-left.ensures.came _ _ refl _ c.next_at-second.ensures c.if-second-eq0.false _ c.in_ok-right.ensures.came _ _ refl _ c.next_at-third.ensures c.if-third-eq0.false _ c.in_ok-argv.ensures.came _ _ refl

pub parts-returns-in_err-part-clause-came : goal.parts-returns-in_err-part-clause-came
parts-returns-in_err-part-clause-came t c =
    rw (exit _ _ c.from_residual.ensures.1) (parts_pass _ _ _ _ _ _ _ c.in_err-part.ensures.came (end_no_value _) _)

pub parts-returns-then-is_bit-clause-came : goal.parts-returns-then-is_bit-clause-came
parts-returns-then-is_bit-clause-came t c =
    parts_go _ _ _ _ _ _ _ c.in_ok-part.ensures.came _ _ refl _ c.next_at-second.ensures _ _ c.is_bit.ensures c.if-is_bit.true _ c.evaluate-then-is_bit.ensures.came

pub parts-returns-clause-came : goal.parts-returns-clause-came
parts-returns-clause-came t c =
    parts_end _ _ _ _ _ _ _ c.in_ok-part.ensures.came _ _ refl _ _ c.is_bit.ensures c.if-is_bit.false _ c.bit_answer.ensures

pub returned-returns-in_err-value-clause-came : goal.returned-returns-in_err-value-clause-came
returned-returns-in_err-value-clause-came t c =
    rw (exit _ _ c.from_residual.ensures.1) (return_passes _ _ _ _ _ _ _ c.in_err-value.ensures.came (end_no_value _))

pub returned-returns-clause-came : goal.returned-returns-clause-came
returned-returns-clause-came t c =
    return_goes _ _ _ _ _ _ _ c.in_ok-value.ensures.came _ _ refl

pub round-returns-in_err-depth-clause-came : goal.round-returns-in_err-depth-clause-came
round-returns-in_err-depth-clause-came t c =
    rw (exit _ _ c.from_residual.ensures.1) (round_stops _ _ _ _ _ _ _ (c.in_err-depth.ensures.by_index _ _ _ _) (end_no_value _))

pub round-returns-in_err-condition-clause-came : goal.round-returns-in_err-condition-clause-came
round-returns-in_err-condition-clause-came t c =
    rw (exit _ _ c.from_residual-in_err-condition.ensures.1) (round_passes _ _ _ _ _ _ _ (c.in_ok-depth.ensures.by_index _ _ _ _) _ _ refl _ c.in_err-condition.ensures.came (end_no_value _))

pub round-returns-in_err-inner-clause-came : goal.round-returns-in_err-inner-clause-came
round-returns-in_err-inner-clause-came t c =
    rw (exit _ _ c.from_residual-in_err-inner.ensures.1) (round_goes _ _ _ _ _ _ _ (c.in_ok-depth.ensures.by_index _ _ _ _) _ _ refl _ c.in_ok-condition.ensures.came _ _ refl _ c.is_bit.ensures c.if-is_bit.true _ c.next_at-part.ensures _ (c.in_err-inner.ensures.came 8 c.args.at.env))

pub round-returns-then-is_bit-clause-came : goal.round-returns-then-is_bit-clause-came
round-returns-then-is_bit-clause-came t c =
    round_goes _ _ _ _ _ _ _ (c.in_ok-depth.ensures.by_index _ _ _ _) _ _ refl _ c.in_ok-condition.ensures.came _ _ refl _ c.is_bit.ensures c.if-is_bit.true _ c.next_at-part.ensures _ (c.in_ok-inner.ensures.came 8 c.args.at.env)

pub round-returns-in_err-round_end-clause-came : goal.round-returns-in_err-round_end-clause-came
round-returns-in_err-round_end-clause-came t c =
    rw (exit _ _ c.from_residual-in_err-round_end.ensures.1) (round_ends _ _ _ _ _ _ _ (c.in_ok-depth.ensures.by_index _ _ _ _) _ _ refl _ c.in_ok-condition.ensures.came _ _ refl _ c.is_bit.ensures c.if-is_bit.false _ (c.in_err-round_end.ensures c.args.at.env))

pub round-returns-clause-came : goal.round-returns-clause-came
round-returns-clause-came t c =
    round_ends _ _ _ _ _ _ _ (c.in_ok-depth.ensures.by_index _ _ _ _) _ _ refl _ c.in_ok-condition.ensures.came _ _ refl _ c.is_bit.ensures c.if-is_bit.false _ (c.in_ok-round_end.ensures c.args.at.env)

pub rounds-loop-init : goal.rounds-loop-init
rounds-loop-init t c =
    (record { left = suc c.args.lent.now.counts.units; more = omega arith; same = rounds_start _ _ _ _ _ _; spent = omega arith }, record { bindings = refl; cells = refl; output = refl; waiting = refl })

pub rounds-returns-in_err-round-clause-came : goal.rounds-returns-in_err-round-clause-came
rounds-returns-in_err-round-clause-came t c =
    rw (exit _ _ c.from_residual.ensures.1) (rounds_pass _ _ _ _ _ _ _ _ c.loop.invariant.0.more _ c.in_err-round.ensures.came (end_no_value _) ∙ c.loop.invariant.0.same)

pub rounds-returns-clause-came : goal.rounds-returns-clause-came
rounds-returns-clause-came t c =
    over _ _ _ c.if-branch.false ∙
    rounds_end _ _ _ _ _ _ _ _ c.loop.invariant.0.more _ c.in_ok-round.ensures.came _ _ refl (not_again _ c.if-branch.false) ∙ c.loop.invariant.0.same

pub rounds-loop-preserved : goal.rounds-loop-preserved
rounds-loop-preserved t c = (
  record {
    left = c.loop.invariant.0.left - 1;
    more = omega (arith, c.loop.invariant.0.more, c.in_ok-round.ensures.spent);
    same = rounds_go_on _ _ _ _ _ _ _ _ c.loop.invariant.0.more _ c.in_ok-round.ensures.came _ _ refl (once_more _ c.if-branch.true) ∙ c.loop.invariant.0.same;
    spent = omega (arith, c.loop.invariant.0.spent, c.in_ok-round.ensures.spent);
  },
  record {
    bindings = c.in_ok-round.ensures.same.bindings ∙ c.loop.invariant.1.bindings;
    cells = c.in_ok-round.ensures.same.cells ∙ c.loop.invariant.1.cells;
    output = c.in_ok-round.ensures.same.output ∙ c.loop.invariant.1.output;
    waiting = c.in_ok-round.ensures.same.waiting ∙ c.loop.invariant.1.waiting;
  },
)

pub vset-returns-in_err-block-clause-came : goal.vset-returns-in_err-block-clause-came
vset-returns-in_err-block-clause-came t c =
    rw (exit _ _ c.from_residual.ensures.1) (vset_passes _ _ _ _ _ _ _ c.in_err-block.ensures.came (end_no_value _))

pub vset-returns-in_err-index-clause-came : goal.vset-returns-in_err-index-clause-came
vset-returns-in_err-index-clause-came t c =
    rw (exit _ _ c.from_residual-in_err-index.ensures.1) (vset_passes_2 _ _ _ _ _ _ _ c.in_ok-block.ensures.came _ _ refl _ c.next_at-spot.ensures _ c.in_err-index.ensures.came (end_no_value _))

pub vset-returns-in_err-value-clause-came : goal.vset-returns-in_err-value-clause-came
vset-returns-in_err-value-clause-came t c =
    rw (exit _ _ c.from_residual-in_err-value.ensures.1) (vset_passes_3 _ _ _ _ _ _ _ c.in_ok-block.ensures.came _ _ refl _ c.next_at-spot.ensures _ c.in_ok-index.ensures.came _ _ refl _ c.next_at-what.ensures _ c.in_err-value.ensures.came (end_no_value _))

pub vset-returns-clause-came : goal.vset-returns-clause-came
vset-returns-clause-came t c =
    vset_goes _ _ _ _ _ _ _ c.in_ok-block.ensures.came _ _ refl _ c.next_at-spot.ensures _ c.in_ok-index.ensures.came _ _ refl _ c.next_at-what.ensures _ c.in_ok-value.ensures.came _ _ refl _ (c.set_element.ensures _ _ _)
