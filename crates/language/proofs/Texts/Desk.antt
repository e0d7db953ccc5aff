-- The desk's table, computed.
use mathlib.Core.Path.{refl}
use Rattle.language.specs.Names.{meaning}
use Rattle.language.specs.Words.{words_from}
use Rattle.language.specs.Rules.{bind, need, unless_returned, within, branch, give, give_cell, level}
use Rattle.language.specs.Desk.{AllHold, desk}
use Rattle.language.proofs.Reading.Machine.{set_sib, link, add_leaf, add_fork, retype, parse}
use Rattle.language.proofs.Reading.Descent.{descent}
use Rattle.language.proofs.Reading.Reader.{past, deep, read}
use Rattle.language.proofs.Typing.Judge.{and_then, judged, only, passes, single, same_type, judge_type, judge_after, judge_expr, judge_arg, judge_args, judge_cmds}
use Rattle.language.proofs.Texts.Verdicts.{judged_tree, judged_text, verdict, outcome}
use Rattle.language.proofs.Texts.Tables.{AllComputed, computed_holds}

desk_computed : AllComputed desk
unfolding outcome verdict judged_text judged_tree read words_from parse add_leaf add_fork link set_sib retype descent past deep level bind need unless_returned within branch give give_cell meaning and_then judged only passes single same_type judge_type judge_after judge_expr judge_arg judge_args judge_cmds
desk_computed = (refl, (refl, (refl, (refl, (refl, (refl, (refl, (refl, (refl, (refl, (refl, tt)))))))))))

pub desk_holds : AllHold desk
desk_holds = computed_holds desk desk_computed
