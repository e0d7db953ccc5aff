use mathlib.Core.Path.{sym}
use native.Mathlib.Omega.{arith}
use lib.Seq.{length-take-le}
use Rattle.machine.specs.Shown.{fresh, program}
use Rattle.gate.specs.Steps.{numbers_of}
use Rattle.machine.specs.Program.{tree_in, codes_in}
use Rattle.gate.proofs.Came.{cleared_came, read_limits}
use Rattle.gate.proofs.Programs.{front_room}
use Rattle.gate.proofs.run_coded.Goals as goal

pub slice_bounds-run_program-end : goal.slice_bounds-run_program-end
slice_bounds-run_program-end c = sym (length-take-le 4096 c.args.prog.now (front_room c.args.prog.now c.requires.1))

pub run_program-evaluated-requires : goal.run_program-evaluated-requires
run_program-evaluated-requires c = omega (arith, c.number-most_bindings.ensures, c.requires.0.bindings_le)

pub overflow_mul-most_bindings : goal.overflow_mul-most_bindings
overflow_mul-most_bindings c = omega (arith, c.number-most_bindings.ensures, c.requires.0.bindings_le)

pub overflow_mul-most_cells : goal.overflow_mul-most_cells
overflow_mul-most_cells c = omega (arith, c.number-most_cells.ensures, c.requires.0.cells_le)

pub returns : goal.returns
unfolding tree_in codes_in
returns c =
    cleared_came 8192 (numbers_of c.args.limits) (λ M f. program (tree_in c.args.prog.now) (codes_in c.args.prog.now) M
    (fresh f c.args.bindings.now c.args.cells.now c.args.output.now c.args.waiting.now))
    c.number-fuel.result c.number-depth.result c.number-most_bindings.result c.number-most_cells.result c.number-most_numbers.result c.run_program-evaluated.result c.run_program-evaluated.new.waiting c.run_program-evaluated.new.bindings c.run_program-evaluated.new.cells c.run_program-evaluated.new.out
    c.run_program-evaluated.ensures.waiting_after (read_limits c.number-fuel.ensures c.number-depth.ensures c.number-most_bindings.ensures c.number-most_cells.ensures c.number-most_numbers.ensures)
    c.report_of.ensures c.clear_words.ensures c.clear_words-2.ensures c.clear_words-3.ensures
