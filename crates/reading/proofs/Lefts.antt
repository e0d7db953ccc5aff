-- What is left in the tables.
use mathlib.Core.Path.{◌≡◌, refl, sym, ◌∙◌, ap, subst}
use mathlib.Core.Bool.{true, false, cond}
use mathlib.Core.List.{List, [], ◌∷◌, ◌++◌, append_assoc, map}
use Prim.Native.Nat.{ℕ, zero, suc, ◌-◌, ◌<◌, ◌≤◌}
use native.Mathlib.Omega.{arith}
use lib.ListN.{length, take, drop, set, replicate, drop_of_length-le}
use lib.Seq.{length-take-le}
use lib.Dec.{eqb}
use borrow.Author.Tests.{le-leb, lt-leb}
use Rattle.language.specs.Syntax.{Block}
use Rattle.language.specs.Answers.{Refusal, LENGTH, LIMIT, TABLE, BYTE, NUMBER, TOKENS, SYNTAX, LEVEL, TYPE, DOUBLE, Result, fine, refuse, refusal_number}
use Rattle.language.specs.Words.{words_of, most}
use Rattle.language.specs.Table.{table}
use Rattle.language.specs.Promises.{text_bytes, tree_words, tree_table, large_enough, zeroed, tree_after}
use Rattle.language.proofs.Reading.Machine.{start}
use Rattle.language.proofs.Reading.Reader.{read}
use Rattle.language.proofs.Reading.Answer.{answers}
use Rattle.limits.specs.Cleared
use Rattle.std.specs.Prelude.{Ok, Err}
use Rattle.std.specs.Prelude.{Result as Outcome}
use Rattle.scanning.specs.declared.ScanError.{ScanError}
use Rattle.scanning.specs.declared.ScanError.TheVariants as scan
use Rattle.parsing.specs.declared.ParseError.{ParseError}
use Rattle.parsing.specs.declared.ParseError.TheVariants as parse
use Rattle.reading.specs.declared.ReadError.{ReadError}
use Rattle.reading.specs.declared.ReadError.TheVariants.{Scan, Parse}
use Rattle.parsing.specs.Codes.{entry_word}
use Rattle.parsing.specs.Steps.{run}
use Rattle.scanning.specs.Scanning.{whole, halted, scanned, scan_ending}
use Rattle.parsing.specs.Outcomes as parsing
use Rattle.reading.specs.Outcomes.{refusal_of, said, ending, told, zeros, filled, kept}
use Rattle.reading.specs.Promise.{Read, too_long, too_small, word_entries, stack_entries, working, outcome_of, left}
use Rattle.reading.specs.Promise as Promise
use Rattle.parsing.proofs.Stacks.{drop_set}
use Rattle.reading.proofs.Answered.{answered}
use Rattle.reading.proofs.Scanned.{scan_whole, scan_refused}

-- ---- the stack at the start: the program's entry at its end
bottom : (s : List ℕ) (n : ℕ) → length s ≡ suc n → drop n (set s n 0) ≡ map entry_word start
bottom s n h =
    let none : drop (suc n) s ≡ [] = drop_of_length-le s {i = suc n} (omega arith) in
    drop_set s n 0 (omega arith) ∙ ap (λ (l : List ℕ). 0 ∷ l) none

-- the loop over the words found n of them, or a refusal: `o` is its answer
module _ (text words words' : List ℕ) (o : Outcome ℕ ScanError) (size : length words ≡ most) (ended : scanned (words_of text) words 0 0 ≡ scan_ending o words') where
  pub few : (n : ℕ) → o ≡ Ok n → n ≤ most
  few n e = let w = scan_whole text words size words' n (ended ∙ ap (λ (x : Outcome ℕ ScanError). scan_ending x words') e) in omega (arith, w.2, w.3)

  -- their tree, or a refusal
  pub parsed : (stack tree : List ℕ) (n top : ℕ) → o ≡ Ok n → length text ≤ 65536 → length stack ≡ suc top → length tree ≡ most
      → run (length text) (take n words') (drop top (set stack top 0)) tree 0 ≡ told tree (read text)
  parsed stack tree n top e ht hs hl =
      let w = scan_whole text words size words' n (ended ∙ ap (λ (x : Outcome ℕ ScanError). scan_ending x words') e) in
      rw (w.4, bottom stack top hs) (answered text tree w.0 ht w.1 w.3 (omega arith))

  pub refused : (tree tree' : List ℕ) (e : ScanError) → o ≡ Err e → told tree (read text) ≡ ending (Err (Scan e)) tree'
  refused tree tree' (scan.Word w) e = scan_refused text words size tree _ _ (ended ∙ ap (λ (x : Outcome ℕ ScanError). scan_ending x words') e)
  refused tree tree' (scan.Tokens p) e = scan_refused text words size tree _ _ (ended ∙ ap (λ (x : Outcome ℕ ScanError). scan_ending x words') e)

-- a refusal of the parser is one of reading
pub parse_refused : (tree tree' : List ℕ) (e : ParseError) → parsing.ending (Err e) tree ≡ ending (Err (Parse e)) tree'
parse_refused tree tree' (parse.Syntax p) = refl
parse_refused tree tree' (parse.Level p) = refl

-- ---- cleared tables
cleared_all : (l : List ℕ) → Cleared.zeroed 0 (length l) l ≡ zeros l
cleared_all [] = refl
cleared_all (x ∷ l) = ap (λ (t : List ℕ). 0 ∷ t) (cleared_all l)

pub clears : (n : ℕ) (l : List ℕ) → length l ≡ n → Cleared.zeroed 0 n l ≡ zeros l
clears n l h = subst (λ (m : ℕ). Cleared.zeroed 0 m l ≡ zeros l) h (cleared_all l)

-- a table that is as long as it was lent
pub clears_lent : (n : ℕ) (l k : List ℕ) → length l ≡ length k → length k ≡ n → Cleared.zeroed 0 n l ≡ zeros k
clears_lent n l k e h = clears n l (e ∙ h) ∙ ap {B = List ℕ} (λ m. replicate m 0) e

drop_zeros : (k n : ℕ) → ◌≡◌ {A = List ℕ} (drop k (replicate n 0)) (replicate (n - k) 0)
drop_zeros zero n = let e : n ≡ n - 0 = omega arith in ap {B = List ℕ} (λ m. replicate m 0) e
drop_zeros (suc k) zero = let e : 0 ≡ 0 - suc k = omega arith in ap {B = List ℕ} (λ m. replicate m 0) e
drop_zeros (suc k) (suc n) = let e : n - k ≡ suc n - suc k = omega arith in drop_zeros k n ∙ ap {B = List ℕ} (λ m. replicate m 0) e

-- ---- the answer, from how the loops ended
no_tree : {l : List ℕ} {n c p : ℕ} → whole l n ≡ halted c p → ⊥
no_tree e = let z : ◌≡◌ {A = ℕ} 0 1 = cc in omega arith

same_count : {l k : List ℕ} {n m : ℕ} → whole l n ≡ whole k m → m ≡ n
same_count e = cc

same_tree : {l k : List ℕ} {n m : ℕ} → whole l n ≡ whole k m → k ≡ l
same_tree e = cc

same_place : {c d p q : ℕ} → halted c p ≡ halted d q → p ≡ q
same_place e = cc

same_number : {c d p q : ℕ} → halted c p ≡ halted d q → c ≡ d
same_number e = cc

-- a refusal's number is its own
refusal_at : ℕ → Refusal
refusal_at n =
    cond (eqb n 1) LENGTH
    (cond (eqb n 2) LIMIT
    (cond (eqb n 3) TABLE
    (cond (eqb n 4) BYTE (cond (eqb n 5) NUMBER (cond (eqb n 6) TOKENS (cond (eqb n 7) SYNTAX (cond (eqb n 8) LEVEL (cond (eqb n 9) TYPE DOUBLE))))))))

refusal_there : (r : Refusal) → refusal_at (refusal_number r) ≡ r
unfolding refusal_at
refusal_there LENGTH = refl
refusal_there LIMIT = refl
refusal_there TABLE = refl
refusal_there BYTE = refl
refusal_there NUMBER = refl
refusal_there TOKENS = refl
refusal_there SYNTAX = refl
refusal_there LEVEL = refl
refusal_there TYPE = refl
refusal_there DOUBLE = refl

one_refusal : (r s : Refusal) → refusal_number r ≡ refusal_number s → r ≡ s
one_refusal r s e = sym (refusal_there r) ∙ ap refusal_at e ∙ refusal_there s

pub outcome_is : (l : List ℕ) (v : Result Block) (r : Outcome ℕ ReadError) (t : List ℕ) → told l v ≡ ending r t → said r ≡ outcome_of v
outcome_is l (fine b) (Ok n) t e = ap fine (same_count e)
outcome_is l (fine b) (Err x) t e = absurd (no_tree e)
outcome_is l (refuse r p) (Ok n) t e = absurd (no_tree (sym e))
outcome_is l (refuse r p) (Err x) t e = rw (one_refusal (refusal_of x) r (sym (same_number e)), sym (same_place e)) refl

-- the tree table was clear before, and is cleared again after a refusal
pub tree_is : (l : List ℕ) (v : Result Block) (r : Outcome ℕ ReadError) (t : List ℕ) → length t ≡ length l → length l ≡ 4096
    → told (zeros l) v ≡ ending r t → kept r t ≡ filled l v
tree_is l (fine b) (Ok n) t h k e = same_tree e ∙ ap (λ (z : List ℕ). table b ++ z) (drop_zeros (length (table b)) (length l))
tree_is l (fine b) (Err x) t h k e = absurd (no_tree e)
tree_is l (refuse r p) (Ok n) t h k e = absurd (no_tree (sym e))
tree_is l (refuse r p) (Err x) t h k e = clears_lent 4096 t l h k

-- ---- the parts of the lent tables that are used, and what lies behind them
zeros_part : (n : ℕ) (l : List ℕ) → n ≤ length l → zeros (take n l) ++ drop n l ≡ zeroed n l
zeros_part n l h = ap (λ (m : ℕ). replicate m 0 ++ drop n l) (length-take-le n l h)

filled_part : (v : Result Block) (l : List ℕ) → tree_words ≤ length l → filled (take tree_words l) v ++ drop tree_words l ≡ tree_after v l
filled_part (fine b) l h =
    append_assoc (table b) (replicate (length (take tree_words l) - length (table b)) 0) (drop tree_words l)
    ∙ ap (λ (m : ℕ). table b ++ (replicate (m - length (table b)) 0 ++ drop tree_words l)) (length-take-le tree_words l h)
filled_part (refuse r p) l h = zeros_part tree_words l h

module _ (text tree words stack : List ℕ) where
  enough : tree_words ≤ length tree → word_entries ≤ length words → stack_entries ≤ length stack → large_enough (tree_table tree ∷ working words stack) ≡ true
  enough ht hw hs = rw (le-leb tree_words (length tree) ht, le-leb word_entries (length words) hw, le-leb stack_entries (length stack) hs) refl

  pub no_room_tree : length tree < tree_words → large_enough (tree_table tree ∷ working words stack) ≡ false
  no_room_tree ht = rw (lt-leb tree_words (length tree) ht) refl

  pub no_room_words : tree_words ≤ length tree → length words < word_entries → large_enough (tree_table tree ∷ working words stack) ≡ false
  no_room_words ht hw = rw (le-leb tree_words (length tree) ht, lt-leb word_entries (length words) hw) refl

  pub no_room_stack : tree_words ≤ length tree → word_entries ≤ length words → length stack < stack_entries
      → large_enough (tree_table tree ∷ working words stack) ≡ false
  no_room_stack ht hw hs = rw (le-leb tree_words (length tree) ht, le-leb word_entries (length words) hw, lt-leb stack_entries (length stack) hs) refl

  -- the promise, from what is left in the parts
  pub promised : (r : Outcome ℕ ReadError) (tree' words' stack' : List ℕ)
      → length text ≤ text_bytes → tree_words ≤ length tree → word_entries ≤ length words → stack_entries ≤ length stack
      → said r ≡ outcome_of (read text) → tree' ≡ filled (take tree_words tree) (read text)
      → words' ≡ zeros (take word_entries words) → stack' ≡ zeros (take stack_entries stack)
      → Read text tree (working words stack) (left r (tree' ++ drop tree_words tree) (words' ++ drop word_entries words) (stack' ++ drop stack_entries stack))
  promised r tree' words' stack' hl ht hw hs er et ew es =
      let left_tree : tree' ++ drop tree_words tree ≡ tree_after (read text) tree =
      ap (λ (l : List ℕ). l ++ drop tree_words tree) et ∙ filled_part (read text) tree ht in
      let words_left : words' ++ drop word_entries words ≡ zeroed word_entries words =
      ap (λ (l : List ℕ). l ++ drop word_entries words) ew ∙ zeros_part word_entries words hw in
      let stack-left : stack' ++ drop stack_entries stack ≡ zeroed stack_entries stack =
      ap (λ (l : List ℕ). l ++ drop stack_entries stack) es ∙ zeros_part stack_entries stack hs in
      rw (er, left_tree, words_left, stack-left) (Promise.answered hl (enough ht hw hs) (answers text))
