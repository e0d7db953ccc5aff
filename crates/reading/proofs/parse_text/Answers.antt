use mathlib.Core.Path.{◌∙◌, sym, ap}
use Prim.Native.Nat.{ℕ, ◌≤◌}
use native.Mathlib.Omega.{arith}
use lib.ListN.{length}
use lib.Seq.{length-take-le}
use Rattle.std.specs.Prelude.{Ok, Err}
use Rattle.std.specs.Prelude.{Result as Outcome}
use Rattle.parsing.specs.declared.ParseError.{ParseError}
use Rattle.parsing.specs.Outcomes as parsing
use Rattle.reading.proofs.Lefts.{few, parsed, refused, parse_refused}
use Rattle.std.proofs.Common.{rules, ◌≡◌}
use Rattle.reading.proofs.parse_text.Goals as goal

pub returns-in_err-count : goal.returns-in_err-count
returns-in_err-count c =
    let e : c.read_words.result ≡ Err c.in_err-count.field-0.0 = search rules in
    refused c.args.text.now c.args.words.now c.read_words.new.table c.read_words.result c.requires.2 c.read_words.ensures c.args.tree.now c.args.tree.now c.in_err-count.field-0.0 e
    ∙ search rules

pub slice_bounds-parse-end : goal.slice_bounds-parse-end
slice_bounds-parse-end c =
    let e : c.read_words.result ≡ Ok c.in_ok-count.count = search rules in
    omega (arith, few c.args.text.now c.args.words.now c.read_words.new.table c.read_words.result c.requires.2 c.read_words.ensures c.in_ok-count.count e)

pub slice_bounds-parse-end-2 : goal.slice_bounds-parse-end-2
slice_bounds-parse-end-2 c =
    let e : c.read_words.result ≡ Ok c.in_ok-count.count = search rules in
    let counted = few c.args.text.now c.args.words.now c.read_words.new.table c.read_words.result c.requires.2 c.read_words.ensures c.in_ok-count.count e in
    sym (length-take-le c.in_ok-count.count c.read_words.new.table (omega (arith, counted)))

pub returns-in_err-nodes : goal.returns-in_err-nodes
returns-in_err-nodes c =
    let e : c.read_words.result ≡ Ok c.in_ok-count.count = search rules in
    let short : length c.args.text.now ≤ 65536 = omega arith in
    let said : c.parse.result ≡ Err c.in_err-nodes.field-0.0 = search rules in
    sym (parsed c.args.text.now c.args.words.now c.read_words.new.table c.read_words.result c.requires.2 c.read_words.ensures c.args.stack.now c.args.tree.now c.in_ok-count.count 4096 e
    short c.requires.3 c.requires.1)
    ∙ c.parse.ensures
    ∙ ap (λ (o : Outcome ℕ ParseError). parsing.ending o c.parse.new.tree) said
    ∙ parse_refused c.parse.new.tree c.parse.new.tree c.in_err-nodes.field-0.0
    ∙ search rules

pub returns : goal.returns
returns c =
    let e : c.read_words.result ≡ Ok c.in_ok-count.count = search rules in
    let short : length c.args.text.now ≤ 65536 = omega arith in
    let said : c.parse.result ≡ Ok c.in_ok-nodes.nodes = search rules in
    sym (parsed c.args.text.now c.args.words.now c.read_words.new.table c.read_words.result c.requires.2 c.read_words.ensures c.args.stack.now c.args.tree.now c.in_ok-count.count 4096 e
    short c.requires.3 c.requires.1)
    ∙ c.parse.ensures
    ∙ ap (λ (o : Outcome ℕ ParseError). parsing.ending o c.parse.new.tree) said
