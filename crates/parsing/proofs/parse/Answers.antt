use mathlib.Core.Path.{◌∙◌, sym}
use native.Mathlib.Omega.{arith}
use lib.ListN.{length}
use Prim.Native.Nat.{◌<◌}
use Rattle.parsing.specs.Codes.{rule_list, rule_starts}
use Rattle.parsing.specs.Steps.{rule_for}
use Rattle.parsing.proofs.Loops.{turn, refused, deep, emptied, ended, short}
use Rattle.std.proofs.Common.{rules}
use Rattle.parsing.proofs.parse.Goals as goal

pub returns-then-at-stack : goal.returns-then-at-stack
returns-then-at-stack c =
    c.loop-word.invariant.4
    ∙ emptied c.args.end c.args.words.now c.loop-word.stack c.loop-word.tree c.loop-word.word-index c.loop-word.at c.loop-word.m c.loop-word-test.true c.if-at-stack.true

pub returns-in_default : goal.returns-in_default
unfolding rule_for rule_list rule_starts
returns-in_default c =
    let he : c.loop-word.at < length c.loop-word.stack = omega arith in
    c.loop-word.invariant.4
    ∙ refused c.args.end c.args.words.now c.loop-word.stack c.loop-word.tree c.loop-word.word-index c.loop-word.at c.loop-word.m c.loop-word-test.true he
    (sym c.rule_for.ensures ∙ c.in_default.is)

pub returns-then-too_deep : goal.returns-then-too_deep
unfolding rule_for rule_list rule_starts
returns-then-too_deep c =
    let he : c.loop-word.at < length c.loop-word.stack = omega arith in
    c.loop-word.invariant.4
    ∙ deep c.args.end c.args.words.now c.loop-word.stack c.loop-word.tree c.loop-word.word-index c.loop-word.at c.loop-word.m c.loop-word-test.true he
    c.in-Some.rule (sym c.rule_for.ensures ∙ c.in-Some.is) (search rules)

pub loop-word-preserved : goal.loop-word-preserved
unfolding rule_for rule_list rule_starts
loop-word-preserved c =
    let he : c.loop-word.at < length c.loop-word.stack = omega arith in (
      search rules,
      search rules,
      search rules,
      search rules,
      rw (c.replace_top-at.ensures.stack_after, c.write-m.ensures.table, c.write-m.ensures.counted.0)
          (c.loop-word.invariant.4
          ∙ turn c.args.end c.args.words.now c.loop-word.stack c.loop-word.tree c.loop-word.word-index c.loop-word.at c.loop-word.m c.loop-word-test.true he
          c.in-Some.rule (sym c.rule_for.ensures ∙ c.in-Some.is) (search rules)),
    )

pub returns-then-at-stack-2 : goal.returns-then-at-stack-2
returns-then-at-stack-2 c =
    c.loop-word.invariant.4
    ∙ short c.args.end c.args.words.now c.loop-word.stack c.loop-word.tree c.loop-word.word-index c.loop-word.at c.loop-word.m c.loop-word-test.false c.if-at-stack-2.true

pub returns : goal.returns
returns c =
    c.loop-word.invariant.4
    ∙ ended c.args.end c.args.words.now c.loop-word.stack c.loop-word.tree c.loop-word.word-index c.loop-word.at c.loop-word.m c.loop-word-test.false c.if-at-stack-2.false
