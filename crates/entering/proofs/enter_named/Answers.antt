use mathlib.Core.Path.{refl}
use native.Mathlib.Omega.{arith}
use borrow.Author.Tests.{not-true, not-false}
use Rattle.stores.proofs.Laws.{exit, end_no_value}
use Rattle.entering.proofs.Laws.{room_there, named_not, named_full, named_some}
use Rattle.entering.proofs.enter_named.Goals as goal

pub returns-in_err-body : goal.returns-in_err-body
returns-in_err-body c =
    record {
      by_index = (λ v k o. rw (exit _ _ c.from_residual.ensures.1) (named_not _ _ _ _ _ _ _ c.in_err-body.ensures _ _ (end_no_value _)));
      units_value = refl;
    }

pub returns-then-not-has_room_for_name : goal.returns-then-not-has_room_for_name
returns-then-not-has_room_for_name c =
    record {
      by_index = (λ v k o. named_full _ _ _ _ _ _ _ c.in_ok-body.ensures _ _ _ _ refl _ c.has_room_for_name.ensures
          (not-true c.has_room_for_name.result c.if-not-has_room_for_name.true-raw));
      units_value = refl;
    }

pub bind_all-within-requires : goal.bind_all-within-requires
bind_all-within-requires c =
    let h = room_there c.has_room_for_name.result _ _ c.has_room_for_name.ensures c.if-not-has_room_for_name.false-raw in omega (arith, h, c.ranges)

pub overflow_add-last : goal.overflow_add-last
overflow_add-last c =
    let h = room_there c.has_room_for_name.result _ _ c.has_room_for_name.ensures c.if-not-has_room_for_name.false-raw in omega (arith, h, c.ranges)

pub overflow_add-newest : goal.overflow_add-newest
overflow_add-newest c =
    let h = room_there c.has_room_for_name.result _ _ c.has_room_for_name.ensures c.if-not-has_room_for_name.false-raw in omega (arith, h, c.ranges)

pub returns : goal.returns
returns c =
    record {
      by_index = (λ v k o. named_some _ _ _ _ _ _ _ c.in_ok-body.ensures _ _ _ _ refl _ c.has_room_for_name.ensures
          (not-false c.has_room_for_name.result c.if-not-has_room_for_name.false-raw) _ _ _ _ c.env_of-env.ensures c.bind_all-within.ensures c.add_binding.ensures);
      units_value = refl;
    }
