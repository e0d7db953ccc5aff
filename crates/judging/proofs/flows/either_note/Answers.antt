use borrow.Author.Tests.{le-ltb, lt-ltb}
use lib.Dec.{ltb}
use Rattle.judge.specs.Rules.{either_note, looped_note}
use Rattle.judging.proofs.Laws.{twice}
use Rattle.judging.proofs.flows.either_note.Goals as goal

pub returns-then-h-lt-ALWAYS : goal.returns-then-h-lt-ALWAYS
unfolding either_note looped_note
returns-then-h-lt-ALWAYS c =
    rw (
      le-ltb _ 196608 c.if-f-lt-MAY.false,
      le-ltb _ 196608 c.if-h-lt-MAY.false,
      ← c.returned_type.ensures,
      ← c.returned_type-else-h-lt-MAY.ensures,
      ← c.same_type.ensures,
      c.if-not-same_type.false,
      lt-ltb _ 327680 c.if-h-lt-ALWAYS.true,
      c.looped_note-then-h-lt-ALWAYS.ensures,
    ) (twice (ltb c.args.f 327680) c.args.f _)
