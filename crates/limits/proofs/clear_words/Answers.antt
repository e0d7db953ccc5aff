use Rattle.limits.proofs.Cleared.{front_filled}
use Rattle.limits.proofs.clear_words.Goals as goal

pub returns : goal.returns
returns c = front_filled 0 c.args.words.now c.args.n c.less_of-end.result c.fill.new.self c.less_of-end.ensures (c.fill.ensures.after (λ y e. e))
