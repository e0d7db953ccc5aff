-- The verdict on a text, made to run: `verdict s` is the one verdict on `s`. Nothing here is believed: the laws show that it is a verdict, and the only one.
use mathlib.Core.Path.{◌≡◌, refl, ◌∙◌, ap}
use mathlib.Core.List.{List}
use Prim.Native.Nat.{ℕ}
use Rattle.language.specs.Syntax.{Block}
use Rattle.language.specs.Answers.{Result, fine, refuse}
use Rattle.language.specs.Reading.{Reading}
use Rattle.language.specs.Limits.{Limits}
use Rattle.language.specs.Outcome.{Report, report_of}
use Rattle.language.specs.Promises.{Verdict, unread, untyped, typed}
use Rattle.language.proofs.Reading.Reader.{read}
use Rattle.language.proofs.Reading.Answer.{answers, only}
use Rattle.language.proofs.Typing.Judge.{judge}
use Rattle.language.proofs.Typing.Judged.{judge_accepts, judge_refuses}

-- a tree that was read is judged
unfoldable pub judged_tree : Block → Result (Unit {0}) → Result Block
judged_tree b (fine u) = fine b
judged_tree b (refuse r p) = refuse r p

unfoldable pub judged_text : Result Block → Result Block
judged_text (fine b) = judged_tree b (judge b)
judged_text (refuse r p) = refuse r p

unfoldable pub verdict : List ℕ → Result Block
verdict s = judged_text (read s)

-- what the rules say of a text, from reading to the run's end
unfoldable pub outcome : Limits → List ℕ → Report
outcome L s = report_of L (verdict s)

-- it is a verdict
tree_right : (s : List ℕ) (b : Block) → Reading s (fine b) → (v : Result (Unit {0})) → judge b ≡ v → Verdict s (judged_tree b v)
unfolding judged_tree
tree_right s b h (fine u) e = typed h ((judge_accepts b).0 e)
tree_right s b h (refuse r q) e = untyped h ((judge_refuses b r q).0 e)

text_right : (s : List ℕ) (a : Result Block) → Reading s a → Verdict s (judged_text a)
unfolding judged_text
text_right s (fine b) h = tree_right s b h (judge b) refl
text_right s (refuse r p) h = unread h

pub verdict_right : (s : List ℕ) → Verdict s (verdict s)
unfolding verdict
verdict_right s = text_right s (read s) (answers s)

-- and the only one
pub only_verdict : {s : List ℕ} {v : Result Block} → Verdict s v → verdict s ≡ v
unfolding verdict judged_text judged_tree
only_verdict (unread h) = ap judged_text (only h)
only_verdict (untyped {b} {r} {q} h t) = ap judged_text (only h) ∙ ap (judged_tree b) ((judge_refuses b r q).1 t)
only_verdict (typed {b} h t) = ap judged_text (only h) ∙ ap (judged_tree b) ((judge_accepts b).1 t)
