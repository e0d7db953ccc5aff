use Rattle.writing.proofs.Pieces.{gap_none, gap_some, gap_none_set, gap_some_set}
use Rattle.writing.proofs.put_gap.Goals as goal

pub returns-then-n-eq0 : goal.returns-then-n-eq0
returns-then-n-eq0 c = (gap_none c.args.n c.if-n-eq0.true, gap_none_set c.args.page.now c.args.n c.if-n-eq0.true)

pub returns : goal.returns
returns c = (gap_some c.args.n c.if-n-eq0.false, gap_some_set c.args.page.now c.args.n c.if-n-eq0.false)
