use mathlib.Core.Path.{sym, ◌∙◌}
use mathlib.Core.Bool.{true≢false}
use borrow.Author.Tests.{eq-eqb, ne_eqb}
use Rattle.judge.specs.Types.{same, same_parts}
use Rattle.types.proofs.Laws.{parts_more, parts_end, same_base, same_more, rounds_all}
use Rattle.types.proofs.+same_type.Goals as goal
use Rattle.types.proofs.+same_type.Goals.{then-levels-eq0-via-then-levels-eq0, then-levels-eq0-via-else-levels-eq0+then-not-is_function, then-levels-ne0, else-levels-ne0}
use Rattle.types.proofs.+same_type.Goals.{then-w-eq0-2-via-then-w-eq0-2, then-w-eq0-2-via-else-w-eq0-2+then-not-same_type}

pub returns-then-levels-eq0 : goal.returns-then-levels-eq0
unfolding same
returns-then-levels-eq0 t c =
    elim c.then-levels-eq0.branch [
      | then-levels-eq0-via-then-levels-eq0 w ↦
          rw (w.if-levels-eq0.true, ← c.note_kind-j.ensures, ← c.is_function.ensures, c.if-is_function.true)
      | then-levels-eq0-via-else-levels-eq0+then-not-is_function w ↦
          rw (
            same_more _ w.if-levels-eq0.false,
            ← c.note_kind-j.ensures,
            ← c.note_kind-k.ensures,
            ← c.is_function.ensures,
            c.if-is_function.true,
            ← w.is_function-else-levels-eq0.ensures,
            w.if-not-is_function.true,
          )
    ]

pub returns-then-is_vec-2 : goal.returns-then-is_vec-2
returns-then-is_vec-2 t c =
    elim c.if-levels-ne0.branch [
      | then-levels-ne0 w ↦
          rw (
            same_more _ w.if-levels-ne0.true,
            ← c.note_kind-j.ensures,
            ← c.note_kind-k.ensures,
            ← c.is_function.ensures,
            c.if-is_function.false,
            ← c.is_vec.ensures,
            c.if-is_vec.true,
            ← w.is_vec-then-levels-ne0.ensures,
            ← w.value-is,
            c.if-is_vec-2.true,
            ← c.child_at.ensures,
            ← c.child_at-then-is_vec-2.ensures,
            c.same_type.ensures,
          )
      | else-levels-ne0 w ↦ absurd (true≢false (sym c.if-is_vec-2.true ∙ (rw w.if-levels-ne0.false at w.value-is)))
    ]

pub returns-else-is_vec-2 : goal.returns-else-is_vec-2
unfolding same
returns-else-is_vec-2 t c =
    rw c.if-is_vec-2.false (elim c.if-levels-ne0.branch [
      | then-levels-ne0 w ↦
          rw (
            same_more _ w.if-levels-ne0.true,
            ← c.note_kind-j.ensures,
            ← c.note_kind-k.ensures,
            ← c.is_function.ensures,
            c.if-is_function.false,
            ← c.is_vec.ensures,
            c.if-is_vec.true,
            ← w.is_vec-then-levels-ne0.ensures,
            ← w.value-is,
            c.if-is_vec-2.false,
          )
      | else-levels-ne0 w ↦
          rw (
            w.if-levels-ne0.false,
            ← c.note_kind-j.ensures,
            ← c.is_function.ensures,
            c.if-is_function.false,
            ← c.is_vec.ensures,
            c.if-is_vec.true,
          )
    ])

pub returns-else-is_vec : goal.returns-else-is_vec
returns-else-is_vec t c =
    same_base _ _ _ _ _ c.note_kind-j.ensures c.note_kind-k.ensures c.is_function.ensures c.if-is_function.false c.is_vec.ensures c.if-is_vec.false

pub loop-step-init : goal.loop-step-init
loop-step-init t c =
    rw (
      same_more _ c.if-levels-eq0.false,
      ← c.note_kind-j.ensures,
      ← c.note_kind-k.ensures,
      ← c.is_function.ensures,
      c.if-is_function.true,
      ← c.is_function-else-levels-eq0.ensures,
      c.if-not-is_function.false,
      c.first_part-y.ensures,
      c.first_part-z.ensures,
      rounds_all,
    )

pub returns-then-w-eq0 : goal.returns-then-w-eq0
unfolding same_parts
returns-then-w-eq0 t c =
    rw (
      c.loop-step.invariant,
      parts_more _ _ c.loop-step-test.true,
      ← c.next_at-v.ensures,
      ← c.next_at-w.ensures,
      eq-eqb _ 0 c.if-v-eq0.true,
      eq-eqb _ 0 c.if-w-eq0.true,
      ← c.result_type-c.ensures,
      ← c.result_type-d.ensures,
      c.same_type-then-w-eq0.ensures,
    )

pub returns-then-v-eq0 : goal.returns-then-v-eq0
unfolding same_parts
returns-then-v-eq0 t c =
    rw (
      c.loop-step.invariant,
      parts_more _ _ c.loop-step-test.true,
      ← c.next_at-v.ensures,
      ← c.next_at-w.ensures,
      eq-eqb _ 0 c.if-v-eq0.true,
      ne_eqb _ 0 c.if-w-eq0.false,
    )

pub returns-then-w-eq0-2 : goal.returns-then-w-eq0-2
unfolding same_parts
returns-then-w-eq0-2 t c =
    rw (
      c.loop-step.invariant,
      parts_more _ _ c.loop-step-test.true,
      ← c.next_at-v.ensures,
      ← c.next_at-w.ensures,
      ne_eqb _ 0 c.if-v-eq0.false,
    ) (elim c.then-w-eq0-2.branch [
      | then-w-eq0-2-via-then-w-eq0-2 w ↦ rw (eq-eqb _ 0 w.if-w-eq0-2.true)
      | then-w-eq0-2-via-else-w-eq0-2+then-not-same_type w ↦
          rw (
            ne_eqb _ 0 w.if-w-eq0-2.false,
            ← w.param_type.ensures,
            ← w.param_type-else-w-eq0-2.ensures,
            ← w.same_type-else-w-eq0-2.ensures,
            w.if-not-same_type.true,
          )
    ])

pub loop-step-preserved : goal.loop-step-preserved
unfolding same_parts
loop-step-preserved t c =
    rw (
      c.loop-step.invariant,
      parts_more _ _ c.loop-step-test.true,
      ← c.next_at-v.ensures,
      ← c.next_at-w.ensures,
      ne_eqb _ 0 c.if-v-eq0.false,
      ne_eqb _ 0 c.if-w-eq0-2.false,
      ← c.param_type.ensures,
      ← c.param_type-else-w-eq0-2.ensures,
      ← c.same_type-else-w-eq0-2.ensures,
      c.if-not-same_type.false,
    )

pub returns : goal.returns
returns t c = rw (c.loop-step.invariant, parts_end _ _ c.loop-step-test.false)
