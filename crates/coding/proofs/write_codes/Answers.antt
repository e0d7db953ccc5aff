use native.Mathlib.Omega.{arith}
use Rattle.coding.proofs.Rows.{small_first, too_short, all_coded}
use Rattle.coding.proofs.write_codes.Goals as goal

pub returns-then-scopes-lt-BINDERS : goal.returns-then-scopes-lt-BINDERS
returns-then-scopes-lt-BINDERS c =
    too_short _ _ _ c.if-scopes-lt-BINDERS.true

pub code_row-requires : goal.code_row-requires
code_row-requires c =
    let h = small_first _ _ c.first_command-first.ensures.value in
    record { base_le_from = omega arith; from_bound = omega arith; first_bound = omega (arith, h); scopes_long = omega (arith, c.if-scopes-lt-BINDERS.false) }

pub returns : goal.returns
returns c =
    all_coded _ _ _ _ _ c.first_command-first.ensures.value c.first_command-first.ensures.prog_len c.put_code.ensures _ _ _ c.code_row.ensures
