use mathlib.Core.Path.{ap, ◌∙◌}
use Prim.Native.Nat.{ℕ}
use Rattle.language.specs.Words.{key_words}
use Rattle.words.specs.Marks.{mark_packed}
use Rattle.words.proofs.Packing.{key_word_lem}
use Rattle.words.proofs.key_word.Goals as goal

pub returns : goal.returns
returns c =
    c.key_packed.ensures ∙ ap (λ (v : ℕ). mark_packed v key_words) c.packed.ensures ∙ key_word_lem c.args.word.now c.requires
