use Rattle.std.proofs.Common.{◌≡◌, ap, sym, ◌∙◌, arith, Ok, Err, Some, None, rules}
use Rattle.reader.specs.Past.{past_found}
use Rattle.scanning.specs.Scanning.{scan_ending}
use Rattle.scanning.proofs.Turns.{goes_on, ends, told_as, failed}
use Rattle.scanning.proofs.read_words.Goals as goal

pub take-scan-requires-clause-place : goal.take-scan-requires-clause-place
take-scan-requires-clause-place c =
    let found = c.in_ok-word.was ∙ ap Ok c.in-Some.is in
    let k = told_as c.args.text.now c.loop-word.reader.at c.next.result (Ok (Some c.in-Some.word)) c.loop-word.reader.text.now c.next.ensures.word c.loop-word.invariant.same_text found in
    omega (arith, k.place, c.requires)

pub loop-word-smaller : goal.loop-word-smaller
loop-word-smaller c =
    let found = c.in_ok-word.was ∙ ap Ok c.in-Some.is in
    let k = told_as c.args.text.now c.loop-word.reader.at c.next.result (Ok (Some c.in-Some.word)) c.loop-word.reader.text.now c.next.ensures.word c.loop-word.invariant.same_text found in
    let past : c.next.new.self.at ≡ c.in-Some.word.end = c.next.ensures.past ∙ ap (λ f. past_found f c.loop-word.reader.at) found in
    omega (arith, k.further, k.inside, past)

pub loop-word-preserved : goal.loop-word-preserved
loop-word-preserved c =
    let found = c.in_ok-word.was ∙ ap Ok c.in-Some.is in
    let k = told_as c.args.text.now c.loop-word.reader.at c.next.result (Ok (Some c.in-Some.word)) c.loop-word.reader.text.now c.next.ensures.word c.loop-word.invariant.same_text found in
    let past : c.next.new.self.at ≡ c.in-Some.word.end = c.next.ensures.past ∙ ap (λ f. past_found f c.loop-word.reader.at) found in
    record {
      same_text = ap (λ s. s.now) c.next.ensures.same_text ∙ c.loop-word.invariant.same_text;
      holds = rw (past, c.take-scan.ensures.stored, c.take-scan.ensures.words, c.take-scan.ensures.over)
          (goes_on c.args.text.now c.args.table.now c.loop-word.reader.at c.loop-word.table c.loop-word.scan.words c.loop-word.scan.over c.loop-word.invariant.holds c.in-Some.word k);
    }

pub returns-in_err-word : goal.returns-in_err-word
returns-in_err-word c =
    let k = told_as c.args.text.now c.loop-word.reader.at c.next.result (Err c.in_err-word.field-0.0) c.loop-word.reader.text.now c.next.ensures.word c.loop-word.invariant.same_text c.in_err-word.was in
    c.loop-word.invariant.holds.answer ∙ k c.loop-word.table _ _
    ∙ sym (ap (λ r. scan_ending r c.loop-word.table) (failed c.from_residual.result c.in_err-word.field-0.0 c.from_residual.ensures.1 (λ x e. search rules)))

pub returns : goal.returns
returns c =
    let k = told_as c.args.text.now c.loop-word.reader.at c.next.result (Ok None) c.loop-word.reader.text.now c.next.ensures.word c.loop-word.invariant.same_text (c.in_ok-word.was ∙ ap Ok c.in_default.is) in
    ends c.args.text.now c.args.table.now c.loop-word.reader.at c.loop-word.table c.loop-word.scan.words c.loop-word.scan.over c.loop-word.invariant.holds k
    ∙ sym (ap (λ r. scan_ending r c.loop-word.table) c.counted.ensures)
