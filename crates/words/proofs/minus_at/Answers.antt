use mathlib.Core.Path.{ap, ◌∙◌}
use Rattle.words.specs.Next.{found_there, read_found}
use Rattle.words.proofs.Fronts.{found_lone, found_arrow, found_minus}
use Rattle.words.proofs.minus_at.Goals as goal

pub returns-then-text-second : goal.returns-then-text-second
returns-then-text-second c = found_lone c.args.text.now c.args.start c.requires.start_in_bounds c.requires.start_value c.if-text-second.true

pub returns-then-text-second-eq62 : goal.returns-then-text-second-eq62
returns-then-text-second-eq62 c =
    found_arrow c.args.text.now c.args.start c.requires.start_in_bounds c.requires.start_value c.if-text-second.false c.if-text-second-eq62.true

pub returns : goal.returns
returns c =
    ap found_there c.number_found.ensures ∙ ap (λ n. found_there (read_found c.args.start n)) c.number_at.ensures
    ∙ found_minus c.args.text.now c.args.start c.requires.start_in_bounds c.requires.start_value c.if-text-second.false c.if-text-second-eq62.false
