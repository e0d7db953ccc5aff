use Rattle.gate.specs.Lent.{limits_of}
use Rattle.mahrullis.specs.Reports.{RunInto}
use Rattle.mahrullis.proofs.Ways.{ran_into}
use Rattle.mahrullis.proofs.mahrullis_run.Goals as goal

pub returns-then-report-lt-REPORT_ENTRIES : goal.returns-then-report-lt-REPORT_ENTRIES
returns-then-report-lt-REPORT_ENTRIES c = RunInto.unreported c.if-report-lt-REPORT_ENTRIES.true

pub returns : goal.returns
returns c =
    ran_into (limits_of c.args.fuel c.args.depth c.args.most_bindings c.args.most_cells c.args.most_numbers) c.args.text.now c.args.tree.now c.args.words.now c.args.stack.now
    c.args.scopes.now c.args.notes.now c.args.waiting.now c.args.bindings.now c.args.cells.now c.args.output.now c.args.report.now
    c.run-said.result c.if-report-lt-REPORT_ENTRIES.false c.run-said.ensures c.put_report.ensures
