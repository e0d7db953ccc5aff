use Prim.Native.Nat.{◌-◌, ◌+◌}
use mathlib.Core.Path.{◌≡◌, refl, sym, ◌∙◌}
use native.Mathlib.Omega.{arith}
use borrow.Author.Tests.{not-true, not-false}
use lib.ListN.{length, drop, length-drop}
use Rattle.language.specs.Words.{is_plain, stretch}
use Rattle.std.proofs.Common.{rules}
use Rattle.std.specs.Char.{is_ascii_alphanumeric}
use Rattle.words.proofs.Classes.{alphanumeric}
use Rattle.words.proofs.Stretches.{stretch_take, stretch_short, name_past, name_none, name_some}
use Rattle.words.proofs.name_at.Goals as goal
use Rattle.words.proofs.name_at.Goals.{After-stretch_end-e}

pub returns-then-end-at : goal.returns-then-end-at
returns-then-end-at c =
    let n = length c.args.text.now in
    let none : n - n ≡ 0 = omega arith in
    record {
      result_value = rw none (sym (name_past _ _ c.if-end-at.true));
      ref_ptr_value = (refl, omega arith);
    }

pub returns-then-not-is_ascii_alphabetic : goal.returns-then-not-is_ascii_alphabetic
returns-then-not-is_ascii_alphabetic c =
    let none : c.args.at - c.args.at ≡ 0 = omega arith in
    record {
      result_value = rw none (sym (name_none _ _ c.if-end-at.false (sym c.is_ascii_alphabetic.ensures.value ∙ not-true _ c.if-not-is_ascii_alphabetic.true-raw)));
      ref_ptr_value = (refl, omega arith);
    }

-- the stretch ends where the code says
ends : (c : After-stretch_end-e) → c.stretch_end-e.result ≡ c.args.at + length (stretch is_plain (drop c.args.at c.args.text.now))
ends c = c.stretch_end-e.ensures is_plain (λ b r k. let e : r ≡ is_ascii_alphanumeric b = search rules in e ∙ alphanumeric b)

pub slice_bounds-result-end-2 : goal.slice_bounds-result-end-2
slice_bounds-result-end-2 c =
    omega (arith, stretch_short is_plain (drop c.args.at c.args.text.now), length-drop c.args.at c.args.text.now, ends c)

pub slice_bounds-result-start-2 : goal.slice_bounds-result-start-2
slice_bounds-result-start-2 c = omega (arith, ends c)

pub slice_bounds-result-count-2 : goal.slice_bounds-result-count-2
slice_bounds-result-count-2 c = omega (arith, ends c)

pub returns : goal.returns
returns c =
    let n = length (stretch is_plain (drop c.args.at c.args.text.now)) in
    let e : c.stretch_end-e.result - c.args.at ≡ n = omega (arith, c.stretch_end-e.ensures is_plain (λ b r k. let e : r ≡ is_ascii_alphanumeric b = search rules in e ∙ alphanumeric b)) in
    let letter = sym c.is_ascii_alphabetic.ensures.value ∙ not-false _ c.if-not-is_ascii_alphabetic.false-raw in
    record {
      result_value = rw e (sym (stretch_take is_plain (drop c.args.at c.args.text.now))) ∙ sym (name_some _ _ c.if-end-at.false letter);
      ref_ptr_value = (refl, omega arith);
    }
