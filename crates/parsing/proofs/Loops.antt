-- One turn of the loop over the words is one step of the machine on numbers; and how the loop ends.
use mathlib.Core.Path.{◌≡◌, refl}
use mathlib.Core.Bool.{true, false}
use mathlib.Core.List.{List, [], ◌++◌}
use Prim.Native.Nat.{ℕ, ◌+◌, ◌%◌, ◌<◌, ◌≤◌}
use native.Mathlib.Numerals.{add-one}
use native.Mathlib.Omega.{arith}
use lib.ListN.{length, drop, get_or, drop_of_length-le}
use lib.Seq.{drop-cons}
use Rattle.std.specs.Prelude.{Some, None}
use Rattle.language.specs.Answers.{SYNTAX, LEVEL, refusal_number}
use Rattle.scanning.specs.Scanning.{whole, halted}
use Rattle.parsing.specs.declared.rules.Rule.{Rule}
use Rattle.parsing.specs.Steps.{above, beside, wrote, count, rule_for, level_opened, too_deep, run}

-- at word i, with the stack's top at e
module _ (end : ℕ) (ts s l : List ℕ) (i e m : ℕ) (hi : i < length ts) where
  pub emptied : e ≡ length s → run end (drop i ts) (drop e s) l m ≡ halted (refusal_number SYNTAX) (get_or ts i 0 % 65536)
  unfolding run
  emptied he = let d : drop e s ≡ [] = drop_of_length-le s {i = e} (omega arith) in rw (drop-cons ts i 0 hi, d) refl

  module _ (he : e < length s) where
    pub refused : rule_for (get_or s e 0) (get_or ts i 0) ≡ None → run end (drop i ts) (drop e s) l m ≡ halted (refusal_number SYNTAX) (get_or ts i 0 % 65536)
    unfolding run
    refused none = rw (drop-cons ts i 0 hi, drop-cons s e 0 he, none) refl

    module _ (r : Rule) (is : rule_for (get_or s e 0) (get_or ts i 0) ≡ Some r) where
      pub deep : too_deep (level_opened r (get_or s e 0)) ≡ true → run end (drop i ts) (drop e s) l m ≡ halted (refusal_number LEVEL) (get_or ts i 0 % 65536)
      unfolding run
      deep h = rw (drop-cons ts i 0 hi, drop-cons s e 0 he, is, h) refl

      pub turn : too_deep (level_opened r (get_or s e 0)) ≡ false
          → run end (drop i ts) (drop e s) l m
          ≡ run end (drop (i + 1) ts) (above r (get_or s e 0) (m + 1) ++ (beside r (get_or s e 0) (m + 1) ++ drop (e + 1) s))
          (wrote r (get_or s e 0) (get_or ts i 0 % 65536) m l) (count r m)
      unfolding run
      turn h = rw (drop-cons ts i 0 hi, drop-cons s e 0 he, is, h, add-one i, add-one e) refl

-- no word is left
module _ (end : ℕ) (ts s l : List ℕ) (i e m : ℕ) (hi : length ts ≤ i) where
  pub ended : length s ≤ e → run end (drop i ts) (drop e s) l m ≡ whole l m
  unfolding run
  ended he = let d : drop e s ≡ [] = drop_of_length-le s {i = e} he in let c : drop i ts ≡ [] = drop_of_length-le ts hi in rw (c, d) refl

  pub short : e < length s → run end (drop i ts) (drop e s) l m ≡ halted (refusal_number SYNTAX) end
  unfolding run
  short he = let c : drop i ts ≡ [] = drop_of_length-le ts hi in rw (c, drop-cons s e 0 he) refl
