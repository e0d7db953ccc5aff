use Rattle.std.proofs.Common.{◌≡◌, ◌+◌, length, drop, rules, ap, ◌∙◌}
use Rattle.words.specs.Next.{told}
use Rattle.language.specs.Words.{is_sep, stretch}
use Rattle.words.proofs.Fronts.{past_gaps, found_end, answered_there}
use Rattle.words.proofs.Stretches.{behind_stretch}
use Rattle.words.proofs.word_at.Goals as goal

pub returns-then-text-start : goal.returns-then-text-start
returns-then-text-start c =
    let e : c.stretch_end-start.result ≡ c.args.at + length (stretch is_sep (drop c.args.at c.args.text.now)) = c.stretch_end-start.ensures is_sep (λ b r k. search rules) in
    found_end c.args.text.now c.args.at _ e c.if-text-start.true

pub front_at-requires : goal.front_at-requires
front_at-requires c =
    let e : c.stretch_end-start.result ≡ c.args.at + length (stretch is_sep (drop c.args.at c.args.text.now)) = c.stretch_end-start.ensures is_sep (λ b r k. search rules) in
    record {
      start_in_bounds = search rules;
      start_value = behind_stretch is_sep c.args.text.now c.args.at _ e (search rules);
    }

pub returns : goal.returns
returns c =
    let e : c.stretch_end-start.result ≡ c.args.at + length (stretch is_sep (drop c.args.at c.args.text.now)) = c.stretch_end-start.ensures is_sep (λ b r k. search rules) in
    answered_there _ _ c.map.ensures.cases (λ w o k. search rules)
    ∙ c.front_at.ensures ∙ ap told (past_gaps c.args.text.now c.args.at _ e)
