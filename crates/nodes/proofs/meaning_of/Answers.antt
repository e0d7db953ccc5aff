-- Only the name that begins with the same byte is compared.
use mathlib.Core.Path.{◌∙◌, ap}
use Rattle.language.specs.Bytes.{same_bytes}
use Rattle.nodes.proofs.Bytes.{compared}
use Rattle.nodes.proofs.Nine.{no_bytes, begins, none_begins}
use Rattle.nodes.proofs.meaning_of.Goals as goal

pub returns-in_err-first : goal.returns-in_err-first
returns-in_err-first c = rw c.from_residual.ensures (no_bytes _ c.in_err-first.ensures.value)

pub returns-in_err-meaning : goal.returns-in_err-meaning
returns-in_err-meaning c =
    rw c.from_residual-in_err-meaning.ensures (none_begins _ _ c.in_ok-first.ensures.value (c.in_err-meaning.ensures.none cc))

pub returns : goal.returns
returns c =
    rw c.then_some.ensures (begins c.in_ok-meaning.meaning _ _ c.in_ok-first.ensures.value c.in_ok-meaning.ensures.some
    (c.eq.ensures ∙ compared c.bytes.result.now c.args.name.now ∙ ap (λ l. same_bytes l c.args.name.now) c.bytes.ensures))
