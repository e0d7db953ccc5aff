-- By induction over the codes that are left: what is left of the row is written as the whole row is.
use native.Mathlib.Omega.{arith}
use Rattle.coding.proofs.Rows.{small_child, starts, row_ends, room_ends, inner_paid, inner_long, at_on, goes_on}
use Rattle.coding.proofs.+code_row.Goals as goal

pub loop-i-init : goal.loop-i-init
loop-i-init t c =
    starts _ _ _ _ _ _ _ (omega (arith, c.requires)) (omega (arith, c.requires)) (omega (arith, c.requires))

pub shape_of-scopes-then-at-ge-NODES : goal.shape_of-scopes-then-at-ge-NODES
shape_of-scopes-then-at-ge-NODES t c =
    c.loop-i.invariant.stack_same.size_kept

pub returns-then-at-ge-NODES : goal.returns-then-at-ge-NODES
returns-then-at-ge-NODES t c =
    room_ends _ _ _ _ _ _ _ _ _ _ _ _ c.loop-i.invariant c.if-at-ge-NODES.true

pub push-inner-requires : goal.push-inner-requires
push-inner-requires t c =
    omega (arith, c.loop-i.invariant)

pub node_code-requires : goal.node_code-requires
node_code-requires t c =
    record {
      depth_bound = let h = inner_paid _ _ _ _ _ _ _ _ _ _ _ _ c.loop-i.invariant c.loop-i-test.true c.if-at-ge-NODES.false (omega (arith, c.requires)) _ c.node_in-n.ensures _ c.when_last.ensures _ _ c.push-inner.ensures in omega (arith, h, c.if-at-ge-NODES.false);
      n_value = c.node_in-n.ensures;
    }

pub put_code-requires : goal.put_code-requires
put_code-requires t c =
    omega (arith, c.if-at-ge-NODES.false)

pub overflow_add-at : goal.overflow_add-at
overflow_add-at t c =
    omega (arith, c.if-at-ge-NODES.false)

pub code_row-at-requires : goal.code_row-at-requires
code_row-at-requires t c =
    let h = inner_paid _ _ _ _ _ _ _ _ _ _ _ _ c.loop-i.invariant c.loop-i-test.true c.if-at-ge-NODES.false (omega (arith, c.requires)) _ c.node_in-n.ensures _
    c.when_last.ensures _ _ c.push-inner.ensures in
    let l = inner_long _ _ _ _ _ _ _ _ _ _ _ _ c.loop-i.invariant c.loop-i-test.true c.if-at-ge-NODES.false
    (omega (arith, c.requires)) _ c.node_in-n.ensures _ c.when_last.ensures _ _ c.push-inner.ensures in
    let d = small_child _ _ _ c.node_in-n.ensures in
    omega (arith, h, l, d, c.if-at-ge-NODES.false, c.loop-i.invariant, c.requires)

pub push-depth-requires : goal.push-depth-requires
push-depth-requires t c =
    let h = inner_paid _ _ _ _ _ _ _ _ _ _ _ _ c.loop-i.invariant c.loop-i-test.true c.if-at-ge-NODES.false (omega (arith, c.requires)) _ c.node_in-n.ensures _
    c.when_last.ensures _ _ c.push-inner.ensures in omega (arith, h, c.if-at-ge-NODES.false)

pub loop-i-smaller : goal.loop-i-smaller
loop-i-smaller t c =
    let h = at_on _ _ _ _ _ _ _ _ _ _ _ _ c.loop-i.invariant c.loop-i-test.true c.if-at-ge-NODES.false (omega (arith, c.requires)) _ c.node_in-n.ensures _ c.when_last.ensures
    _ _ c.push-inner.ensures _ c.node_code.ensures _ c.put_code.ensures _ c.own_binder.ensures _ _ _ c.code_row-at.ensures _ c.binder_of.ensures _
    c.when_more.ensures _ _ c.push-depth.ensures in omega (arith, h, c.if-at-ge-NODES.false)

pub loop-i-preserved : goal.loop-i-preserved
loop-i-preserved t c =
    goes_on _ _ _ _ _ _ _ _ _ _ _ _ c.loop-i.invariant c.loop-i-test.true c.if-at-ge-NODES.false (omega (arith, c.requires)) _ c.node_in-n.ensures _ c.when_last.ensures _ _
    c.push-inner.ensures _ c.node_code.ensures _ c.put_code.ensures _ c.own_binder.ensures _ _ _ c.code_row-at.ensures _ c.binder_of.ensures _
    c.when_more.ensures _ _ c.push-depth.ensures

pub shape_of-scopes : goal.shape_of-scopes
shape_of-scopes t c =
    c.loop-i.invariant.stack_same.size_kept

pub returns : goal.returns
returns t c =
    row_ends _ _ _ _ _ _ _ _ _ _ _ _ c.loop-i.invariant c.loop-i-test.false
