use mathlib.Core.Path.{refl}
use Rattle.stores.proofs.Laws.{kept, echoed_none, echoed_full, echoed_some}
use Rattle.stores.proofs.put_out.Goals as goal

pub returns-then-value-ne-NUMBER : goal.returns-then-value-ne-NUMBER
returns-then-value-ne-NUMBER c =
    record {
      w_after = (λ t v b k w env. echoed_none _ _ _ _ _ _ c.if-value-ne-NUMBER.true);
      units_value = refl;
    }

pub returns-then-k-bounds : goal.returns-then-k-bounds
returns-then-k-bounds c =
    record {
      w_after = (λ t v b k w env. echoed_full _ _ _ _ _ _ c.if-value-ne-NUMBER.false c.if-k-bounds.true);
      units_value = refl;
    }

pub returns : goal.returns
returns c =
    record {
      w_after = (λ t v b k w env. echoed_some _ _ _ _ _ _ c.if-value-ne-NUMBER.false c.if-k-bounds.false _ _ c.put.ensures (kept c.from_word.result _ (record {
        sfits =
            c.from_word.type_inv;
      }) c.from_word.ensures));
      units_value = refl;
    }
