use mathlib.Core.Path.{refl}
use borrow.Author.Tests.{not-true, not-false}
use Rattle.stores.proofs.Laws.{exit, end_no_value}
use Rattle.entering.proofs.Laws.{room_word, enter_not, enter_full, enter_some}
use Rattle.std.proofs.Common.{rules}
use Rattle.entering.proofs.enter_call.Goals as goal

pub returns-in_err-body : goal.returns-in_err-body
returns-in_err-body c =
    record {
      by_index = (λ v k o. rw (exit _ _ c.from_residual.ensures.1) (enter_not _ _ _ _ _ _ _ c.in_err-body.ensures _ (end_no_value _)));
      units_value = refl;
    }

pub returns-then-not-has_room : goal.returns-then-not-has_room
returns-then-not-has_room c =
    record {
      by_index = (λ v k o. enter_full _ _ _ _ _ _ _ c.in_ok-body.ensures _ _ _ refl _ c.has_room.ensures (not-true c.has_room.result c.if-not-has_room.true-raw));
      units_value = refl;
    }

pub bind_all-within-requires : goal.bind_all-within-requires
bind_all-within-requires c = room_word _ _ _ c.has_room.ensures c.if-not-has_room.false-raw (search rules)

pub overflow_add-counts : goal.overflow_add-counts
overflow_add-counts c = record { fits = room_word _ _ _ c.has_room.ensures c.if-not-has_room.false-raw (search rules) }

pub returns : goal.returns
returns c =
    record {
      by_index = (λ v k o. enter_some _ _ _ _ _ _ _ c.in_ok-body.ensures _ _ _ refl _ c.has_room.ensures (not-false c.has_room.result c.if-not-has_room.false-raw)
          _ _ c.bind_all-within.ensures);
      units_value = refl;
    }
