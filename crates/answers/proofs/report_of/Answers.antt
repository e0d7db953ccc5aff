use Rattle.answers.proofs.Ends.{reported_refused, reported_as}
use Rattle.answers.proofs.report_of.Goals as goal

pub returns-then-number_of-eq-TYPE : goal.returns-then-number_of-eq-TYPE
returns-then-number_of-eq-TYPE c = reported_refused c.args.fuel c.args.evaluated.ending c.args.evaluated.counts c.end_answer-answer.ensures c.number_of.ensures c.if-number_of-eq-TYPE.true c.refused.ensures

pub returns : goal.returns
returns c = reported_as c.args.fuel c.args.evaluated.ending c.args.evaluated.counts c.end_answer-answer.ensures c.number_of.ensures c.if-number_of-eq-TYPE.false c.saturating_sub.ensures
