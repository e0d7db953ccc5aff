use mathlib.Core.Path.{refl}
use borrow.Author.Tests.{not-true, not-false}
use Rattle.entering.proofs.Laws.{room_word, allocate_none, allocate_below, allocate_full, allocate_some}
use Rattle.std.proofs.Common.{rules}
use Rattle.entering.proofs.make_cells.Goals as goal

pub returns-then-size-ne-NUMBER : goal.returns-then-size-ne-NUMBER
returns-then-size-ne-NUMBER c =
    record {
      w_after = (λ t v b w o. allocate_none _ _ _ _ c.if-size-ne-NUMBER.true);
      units_value = refl;
    }

pub returns-then-n-ge-FIRST_BELOW : goal.returns-then-n-ge-FIRST_BELOW
returns-then-n-ge-FIRST_BELOW c =
    record {
      w_after = (λ t v b w o. allocate_below _ _ _ _ c.if-size-ne-NUMBER.false c.if-n-ge-FIRST_BELOW.true);
      units_value = refl;
    }

pub returns-then-not-has_room : goal.returns-then-not-has_room
returns-then-not-has_room c =
    record {
      w_after = (λ t v b w o. allocate_full _ _ _ _ c.if-size-ne-NUMBER.false c.if-n-ge-FIRST_BELOW.false _ c.has_room.ensures (not-true c.has_room.result c.if-not-has_room.true-raw));
      units_value = refl;
    }

pub put_cells-requires : goal.put_cells-requires
put_cells-requires c = room_word _ _ _ c.has_room.ensures c.if-not-has_room.false-raw (search rules)

pub overflow_add-counts : goal.overflow_add-counts
overflow_add-counts c = record { fits = room_word _ _ _ c.has_room.ensures c.if-not-has_room.false-raw (search rules) }

pub returns : goal.returns
returns c =
    record {
      w_after = (λ t v b w o. allocate_some _ _ _ _ c.if-size-ne-NUMBER.false c.if-n-ge-FIRST_BELOW.false _ c.has_room.ensures (not-false c.has_room.result c.if-not-has_room.false-raw) _ _ _
          c.fresh_cell.ensures c.put_cells.ensures c.closure_word-block.ensures);
      units_value = refl;
    }
