use Rattle.writing.proofs.Pieces.{sign_some, sign_none, sign_some_set, sign_none_set}
use Rattle.writing.proofs.put_sign.Goals as goal

pub returns-then-minus : goal.returns-then-minus
returns-then-minus c = (sign_some c.args.n c.args.minus c.if-minus.true, sign_some_set c.args.page.now c.args.n c.args.minus c.if-minus.true)

pub returns : goal.returns
returns c = (sign_none c.args.n c.args.minus c.if-minus.false, sign_none_set c.args.page.now c.args.n c.args.minus c.if-minus.false)
