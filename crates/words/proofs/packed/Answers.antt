use Rattle.std.proofs.Common.{◌≡◌, min, subst, refl, rules}
use Rattle.std.proofs.lemmas.Fn.{fold_over, slice_gives, fronts}
use Rattle.words.specs.Marks.{pack, cap}
use Rattle.words.proofs.Loops.{packed_push}
use Rattle.words.proofs.packed.Goals as goal

pub returns : goal.returns
returns c =
    subst (λ l. c.fold.result ≡ min (pack 0 l) cap) c.iter.ensures.rest
    (fold_over fronts (λ y. y.now) _ (λ ys v. v ≡ min (pack 0 ys) cap) _ (λ ys v x w f' j k. (packed_push ys x.now v w j (search rules), search rules))
    _ _ _ _ (slice_gives c.iter.result) refl c.fold.ensures.ran)
