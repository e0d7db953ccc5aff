use Rattle.writer.proofs.Promised.{accepted_readable, accepted_written, refused_unwritten}
use Rattle.std.proofs.Common.{rules}
use Rattle.writer.proofs.write.Goals as goal

pub write_accepted-requires : goal.write_accepted-requires
write_accepted-requires c = accepted_readable _ c.in_ok-check.was c.check.ensures

pub returns-in_err-check : goal.returns-in_err-check
returns-in_err-check c = refused_unwritten _ c.in_err-check.was c.check.ensures c.args.page.now (search rules)

pub returns : goal.returns
returns c = accepted_written _ c.in_ok-check.was c.check.ensures c.args.page.now _ _ c.write_accepted.ensures
