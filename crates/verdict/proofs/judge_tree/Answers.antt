-- `judge_tree`: with no refused node the tree stays; else the refusal is read off it before it is cleared.
use Rattle.verdict.proofs.Clearing.{goes, part_long, stays}
use Rattle.std.proofs.Common.{rules}
use Rattle.verdict.proofs.judge_tree.Goals as goal

pub slice_bounds-settle-end-2 : goal.slice_bounds-settle-end-2
slice_bounds-settle-end-2 c = part_long 4096 c.args.tree.now (search rules)

pub slice_bounds-refusal_at-end-in-Err : goal.slice_bounds-refusal_at-end-in-Err
slice_bounds-refusal_at-end-in-Err c = part_long 4096 c.args.tree.now (search rules)

pub returns-in-Err : goal.returns-in-Err
returns-in-Err c = goes c.settle-judged.ensures c.in-Err.is c.refusal_at-refusal.ensures c.clear_words.ensures

pub returns : goal.returns
returns c = stays c.settle-judged.ensures c.in_default.is
