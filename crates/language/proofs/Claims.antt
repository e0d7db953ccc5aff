-- Each claim of specs/Claims.antt, proved.
use mathlib.Core.Path.{◌≡◌, refl, sym, ◌∙◌}
use mathlib.Core.Logic.{◌⊎◌, inl, inr}
use Prim.Native.Nat.{ℕ, ◌≤◌}
use mathlib.Core.List.{List, []}
use mathlib.Core.Option.{some}
use lib.ListN.{length}
use Rattle.language.specs.Syntax.{Block}
use Rattle.language.specs.Answers.{Stop, done, stopped, fine}
use Rattle.language.specs.Names.{meaning}
use Rattle.language.specs.Words.{Word, words_of, most}
use Rattle.language.specs.Grammar.{BLOCK, Reads}
use Rattle.language.specs.Levels.{levels, deepest}
use Rattle.language.specs.Reading.{Within, Reading, a_program}
use Rattle.language.specs.Typing.{Typable}
use Rattle.language.specs.Rules.{stop, no_rule, Outcome, ok, halt, bind, need, unless_returned, within, level, run}
use Rattle.language.specs.Outcome.{end_of}
use Rattle.language.specs.Promises.{Verdict, typed}
use Rattle.language.specs.Claims.{AcceptedExactly, OneVerdict, OneTree, OneLevels, TreeFits, InTextOrder, TypedOrRefused, UniqueTypes, UniqueFlows, Levels128, NoRule, NeverStuck, EndsByTheTable, SameUnderLargerLimits, NumbersBegin, CountsInLimits, LimitIsUsedUp, UnsetNamesItsCell, WhileRule, NoRuleIsReached, NoRuleForReturns, OneCheck, OneRun, DeskHolds, NothingGivenBack, CheckCarriesNothingOver, RunCarriesNothingOver, RoundsDown, AllocIsFresh, BlocksApart, StoresGoToCells}
use Rattle.language.proofs.Reading.Shown.{one_tree, levels_once, room, in_text_order}
use Rattle.language.proofs.Typing.Unique.{unique_types, unique_flows}
use Rattle.language.proofs.Typing.Judged.{one_verdict}
use Rattle.language.proofs.Typing.Levels128.{types_fit_128}
use Rattle.language.proofs.Typing.Depths.{fits_64}
use Rattle.language.proofs.Running.Sound.{sound}
use Rattle.language.proofs.Running.Stable.{same_under_larger_limits, numbers_begin}
use Rattle.language.proofs.Running.Counts.{counts_in_limits, limit_is_used_up, unset_names_its_cell}
use Rattle.language.proofs.Running.Rounds.{while_rule_lem}
use Rattle.language.proofs.Running.Kept.{nothing_given_back}
use Rattle.language.proofs.Running.Quotients.{rounds_down}
use Rattle.language.proofs.Running.Blocks.{alloc_is_fresh, blocks_apart}
use Rattle.language.proofs.Running.Stores.{stores_go_to_cells}
use Rattle.language.proofs.Texts.Verdicts.{verdict, verdict_right, only_verdict}
use Rattle.language.proofs.Texts.Promised.{one_check, one_run}
use Rattle.language.proofs.Texts.Afresh.{check_carries_nothing_over, run_carries_nothing_over}
use Rattle.language.proofs.Texts.Desk.{desk_holds}

pub accepted_exactly : AcceptedExactly
accepted_exactly s b = (to, from)
  where
    from-reading : Reading s (fine b) → Typable b → (ts : List Word) × (words_of s ≡ fine ts) × (length ts ≤ most) × Reads BLOCK b ts [] × Within deepest (levels b) × Typable b
    from-reading (a_program {ts} e h r w) t = (ts, e, h, r, w, t)

    to : Verdict s (fine b) → (ts : List Word) × (words_of s ≡ fine ts) × (length ts ≤ most) × Reads BLOCK b ts [] × Within deepest (levels b) × Typable b
    to (typed h t) = from-reading h t

    from : (ts : List Word) × (words_of s ≡ fine ts) × (length ts ≤ most) × Reads BLOCK b ts [] × Within deepest (levels b) × Typable b → Verdict s (fine b)
    from x = typed (a_program x.1 x.2 x.3 x.4) x.5

pub one_verdict_claim : OneVerdict
one_verdict_claim s = ((verdict s, verdict_right s), λ v w h k. sym (only_verdict h) ∙ only_verdict k)

pub one_tree_claim : OneTree
one_tree_claim = one_tree

pub one_levels_claim : OneLevels
one_levels_claim = levels_once

pub tree_fits : TreeFits
tree_fits = room

pub nodes_in_text_order : InTextOrder
nodes_in_text_order = in_text_order

pub typed_or_refused : TypedOrRefused
typed_or_refused = one_verdict

pub unique_types_claim : UniqueTypes
unique_types_claim = unique_types

pub levels_128 : Levels128
levels_128 b w = types_fit_128 b (fits_64 b w)

pub unique_flows_claim : UniqueFlows
unique_flows_claim = unique_flows

typed_of : {s : List ℕ} {b : Block} → Verdict s (fine b) → Typable b
typed_of (typed h t) = t

pub never_stuck : NeverStuck
never_stuck s b v L = sound L b (typed_of v)

by_the_table : {A : Type 0} (o : Outcome A) → ¬ NoRule o → (end_of o ≡ some done) ⊎ ((w : Stop) × (p : ℕ) × (end_of o ≡ some (stopped w p)))
by_the_table (ok a s) n = inl refl
by_the_table (halt (stop w) p s) n = inr (w, p, refl)
by_the_table (halt no_rule p s) n = absurd (n tt)

pub ends_by_the_table : EndsByTheTable
ends_by_the_table s b v L = by_the_table (run L b) (never_stuck s b v L)

pub same_under_larger_limits_claim : SameUnderLargerLimits
same_under_larger_limits_claim = same_under_larger_limits

pub numbers_begin_claim : NumbersBegin
numbers_begin_claim = numbers_begin

pub counts_in_limits_claim : CountsInLimits
counts_in_limits_claim = counts_in_limits

pub limit_is_used_up_claim : LimitIsUsedUp
limit_is_used_up_claim = limit_is_used_up

pub unset_names_its_cell_claim : UnsetNamesItsCell
unset_names_its_cell_claim = unset_names_its_cell

pub while_rule_claim : WhileRule
while_rule_claim = while_rule_lem

pub rounds_down_claim : RoundsDown
rounds_down_claim = rounds_down

pub no_rule_is_reached : NoRuleIsReached
unfolding level bind need within meaning
no_rule_is_reached = tt

pub no_rule_for_returns : NoRuleForReturns
unfolding level bind need unless_returned within meaning
no_rule_for_returns = (tt, tt)

pub one_check_claim : OneCheck
one_check_claim = one_check

pub one_run_claim : OneRun
one_run_claim = one_run

pub desk_claim : DeskHolds
desk_claim = desk_holds

pub nothing_given_back_claim : NothingGivenBack
nothing_given_back_claim = nothing_given_back

pub check_carries_nothing_over_claim : CheckCarriesNothingOver
check_carries_nothing_over_claim = check_carries_nothing_over

pub run_carries_nothing_over_claim : RunCarriesNothingOver
run_carries_nothing_over_claim = run_carries_nothing_over

pub alloc_is_fresh_claim : AllocIsFresh
alloc_is_fresh_claim = alloc_is_fresh

pub blocks_apart_claim : BlocksApart
blocks_apart_claim = blocks_apart

pub stores_go_to_cells_claim : StoresGoToCells
stores_go_to_cells_claim = stores_go_to_cells
