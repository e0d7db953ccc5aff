use Rattle.std.proofs.Common.{refl}
use Rattle.words.proofs.Fronts.{found_spelled}
use Rattle.words.proofs.Stretches.{name_whole}
use Rattle.words.proofs.spelled_at.Goals as goal

pub key_word-requires : goal.key_word-requires
key_word-requires c =
    name_whole c.args.text.now c.args.start c.requires.start_in_bounds c.requires.start_value _ c.name_at-word.ensures.result_value

pub returns : goal.returns
returns c =
    found_spelled c.args.text.now c.args.start c.requires.start_in_bounds c.requires.start_value _ _ c.key_word.result
    c.name_at-word.ensures.result_value refl c.key_word.ensures c.map_or-token.ensures
