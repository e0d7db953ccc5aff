use Rattle.mahrullis.specs.Reports.{CheckInto}
use Rattle.mahrullis.proofs.Ways.{checked_into}
use Rattle.mahrullis.proofs.mahrullis_check.Goals as goal

pub returns-then-report-lt-REPORT_ENTRIES : goal.returns-then-report-lt-REPORT_ENTRIES
returns-then-report-lt-REPORT_ENTRIES c = CheckInto.unreported c.if-report-lt-REPORT_ENTRIES.true

pub returns : goal.returns
returns c =
    checked_into c.args.text.now c.args.tree.now c.args.words.now c.args.stack.now c.args.scopes.now c.args.notes.now c.args.report.now c.check-verdict.result c.answer_to.result
    c.refused.result c.if-report-lt-REPORT_ENTRIES.false c.check-verdict.ensures c.answer_to.ensures c.refused.ensures c.put_report.ensures
