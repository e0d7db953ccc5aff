-- What falls at each call of the cycle: the levels left, and at one level the order in which its functions call each other.
use Rattle.std.proofs.Common.{◌+◌, ◌≤◌, ◌*◌}
use Rattle.machine.specs.Machine.{args, level, below, rounds, cmds, args_at, while_at, block_at}
use Rattle.running.specs.Lent.{program_of, tables_of, SameTables}
use Rattle.running.proofs.Laws.{Going}
use Rattle.running.proofs.Program.+evaluation.Given as goal

abbrev pub decreases-alloc : goal.decreases-alloc
decreases-alloc l = 8 * l.at.depth + 1

abbrev pub decreases-application : goal.decreases-application
decreases-application l = 8 * l.at.depth + 7

abbrev pub decreases-apply : goal.decreases-apply
decreases-apply l = 8 * l.at.depth + 6

abbrev pub decreases-argv : goal.decreases-argv
decreases-argv l = 8 * l.at.depth + 1

abbrev pub decreases-block : goal.decreases-block
decreases-block l = 8 * l.at.depth + 4

abbrev pub decreases-body : goal.decreases-body
decreases-body l = 8 * l.at.depth + 5

abbrev pub decreases-call : goal.decreases-call
decreases-call l = 8 * l.at.depth + 7

abbrev pub decreases-command : goal.decreases-command
decreases-command l = 8 * l.at.depth + 3

abbrev pub decreases-constant : goal.decreases-constant
decreases-constant l = 8 * l.at.depth + 1

abbrev pub decreases-echo : goal.decreases-echo
decreases-echo l = 8 * l.at.depth + 1

abbrev pub decreases-either : goal.decreases-either
decreases-either l = 8 * l.at.depth + 6

abbrev pub decreases-evaluate : goal.decreases-evaluate
decreases-evaluate l = 8 * l.at.depth + 0

abbrev pub decreases-if_value : goal.decreases-if_value
decreases-if_value l = 8 * l.at.depth + 1

abbrev pub decreases-inner : goal.decreases-inner
decreases-inner l = 8 * l.at.depth + 5

abbrev pub decreases-length : goal.decreases-length
decreases-length l = 8 * l.at.depth + 1

abbrev pub decreases-nth : goal.decreases-nth
decreases-nth l = 8 * l.at.depth + 1

abbrev pub decreases-operate : goal.decreases-operate
decreases-operate l = 8 * l.at.depth + 2

abbrev pub decreases-parts : goal.decreases-parts
decreases-parts l = 8 * l.at.depth + 1

abbrev pub decreases-returned : goal.decreases-returned
decreases-returned l = 8 * l.at.depth + 1

abbrev pub decreases-round : goal.decreases-round
decreases-round l = 8 * l.at.depth + 1

abbrev pub decreases-rounds : goal.decreases-rounds
decreases-rounds l = 8 * l.at.depth + 2

abbrev pub decreases-set : goal.decreases-set
decreases-set l = 8 * l.at.depth + 1

abbrev pub decreases-vset : goal.decreases-vset
decreases-vset l = 8 * l.at.depth + 1

abbrev pub invariant-argv-loop-node : goal.invariant-argv-loop-node
invariant-argv-loop-node l = Going
    (λ k. args (program_of l.self) k (level (program_of l.self) l.at.depth) l.at.env l.top l.many l.node (tables_of l.lent))
    (args_at (program_of l.self) l.at.depth l.at.env l.at.sp l.i (tables_of l.initial.lent))
    l.lent.counts.units l.initial.lent.counts.units × (l.many + l.lent.counts.units ≤ l.initial.lent.counts.units) × SameTables l.initial.lent l.lent

abbrev pub decreases-argv-loop-node : goal.decreases-argv-loop-node
decreases-argv-loop-node l = l.lent.counts.units

abbrev pub invariant-block-loop-node : goal.invariant-block-loop-node
invariant-block-loop-node l = Going
    (λ k. cmds (program_of l.self) k l.at.depth (below (program_of l.self) l.at.depth) l.env l.at.sp l.node (tables_of l.lent))
    (block_at (program_of l.self) l.at.depth l.at.env l.at.sp l.i (tables_of l.initial.lent))
    l.lent.counts.units l.initial.lent.counts.units × SameTables l.initial.lent l.lent

abbrev pub decreases-block-loop-node : goal.decreases-block-loop-node
decreases-block-loop-node l = l.lent.counts.units

abbrev pub invariant-rounds-loop : goal.invariant-rounds-loop
invariant-rounds-loop l = Going
    (λ k. rounds (program_of l.self) k l.at.depth (below (program_of l.self) l.at.depth) l.at.env l.at.sp l.n (tables_of l.lent))
    (while_at (program_of l.self) l.at.depth l.at.env l.at.sp l.n (tables_of l.initial.lent))
    l.lent.counts.units l.initial.lent.counts.units × SameTables l.initial.lent l.lent

abbrev pub decreases-rounds-loop : goal.decreases-rounds-loop
decreases-rounds-loop l = l.lent.counts.units
