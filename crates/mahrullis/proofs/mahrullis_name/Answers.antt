use Rattle.mahrullis.specs.Reports.{NameInto}
use Rattle.mahrullis.proofs.Ways.{named_into}
use Rattle.mahrullis.proofs.mahrullis_name.Goals as goal

pub returns-then-part-lt-PART_ENTRIES : goal.returns-then-part-lt-PART_ENTRIES
returns-then-part-lt-PART_ENTRIES c = NameInto.unreported c.if-part-lt-PART_ENTRIES.true

pub returns : goal.returns
returns c = named_into c.args.text.now c.args.part.now c.args.at c.if-part-lt-PART_ENTRIES.false c.name_at-name.ensures.result_value c.min-offset.ensures c.put_first.ensures
