use mathlib.Core.Path.{◌≡◌, ◌∙◌, ap, sym}
use mathlib.Core.List.{List}
use Prim.Native.Nat.{ℕ}
use Rattle.language.proofs.Reading.Reader.{read}
use Rattle.reading.specs.Outcomes.{ending, told, zeros}
use Rattle.reading.proofs.Lefts.{clears, clears_lent, outcome_is, tree_is}
use Rattle.std.proofs.Common.{rules}
use Rattle.reading.proofs.read_within.Goals as goal

pub returns : goal.returns
returns c =
    let clear = c.clear_words.ensures ∙ clears 4096 c.args.tree.now c.requires.1 in
    let said : told (zeros c.args.tree.now) (read c.args.text.now) ≡ ending c.parse_text-outcome.result c.parse_text-outcome.new.tree = ap (λ (l : List ℕ). told l (read c.args.text.now)) (sym clear) ∙ c.parse_text-outcome.ensures in
    record {
      outcome = outcome_is (zeros c.args.tree.now) (read c.args.text.now) c.parse_text-outcome.result c.parse_text-outcome.new.tree said;
      tree = c.clear_refused.ensures ∙ tree_is c.args.tree.now (read c.args.text.now) c.parse_text-outcome.result c.parse_text-outcome.new.tree (search rules) c.requires.1 said;
      works = (
        c.clear_words-2.ensures ∙ clears_lent 4096 c.parse_text-outcome.new.words c.args.words.now (search rules) c.requires.2,
        c.clear_words-3.ensures ∙ clears_lent 4097 c.parse_text-outcome.new.stack c.args.stack.now (search rules) c.requires.3,
      );
    }
