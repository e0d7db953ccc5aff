use mathlib.Core.Path.{sym, ◌∙◌}
use Rattle.purse_run.proofs.Laws.{charges_none, charges_some}
use Rattle.purse_run.proofs.charge.Goals as goal

pub returns-then-is_refused : goal.returns-then-is_refused
returns-then-is_refused c =
    charges_none c.args.n c.args.place c.args.p c.args.report c.args.held.now c.args.journal.now c.args.bank.now (sym c.is_refused.ensures ∙ c.if-is_refused.true)
    (c.requires.4 (sym c.is_refused.ensures ∙ c.if-is_refused.true))

pub returns : goal.returns
returns c =
    charges_some c.args.n c.args.place c.args.p c.args.report c.args.held.now c.args.journal.now c.args.bank.now _ _ (sym c.is_refused.ensures ∙ c.if-is_refused.false)
    c.make_steps.ensures
