-- `read` answers as the promise of reading says, and no other answer is allowed.
use mathlib.Core.Path.{◌≡◌, refl, sym, ◌∙◌, ap, subst}
use mathlib.Core.Bool.{Bool, true, false, cond}
use mathlib.Core.List.{List, [], ◌∷◌, ◌++◌, append_assoc, append-nil}
use mathlib.Core.Option.{Option, none, some, some-injective, none-ne-some}
use Prim.Native.Nat.{ℕ, zero, suc, ◌≤◌, ◌<◌}
use native.Mathlib.Omega.{arith}
use lib.Dec.{ltb}
use borrow.Author.Tests.{lt-ltb, le-ltb, ltb-true, ltb-false}
use lib.ListN.{length, length-append}
use Rattle.language.specs.Syntax.{Block}
use Rattle.language.specs.Answers.{LEVEL, Result, fine, refuse}
use Rattle.language.specs.Words.{Word, place_word, words_of, most}
use Rattle.language.specs.Grammar.{BLOCK, Reads}
use Rattle.language.specs.Levels.{levels, deepest}
use Rattle.language.specs.Reading.{Opens, Within, no_level, a_level, Reading, bad_word, too_many_words, begins_none, opens_65th, a_program}
use Rattle.language.proofs.Reading.Machine.{Parsed, through, stuck, whole}
use Rattle.language.proofs.Reading.Descent.{Got}
use Rattle.language.proofs.Reading.Reader.{past, deep, levels_in, accept, ended, levelled, counted, scanned, read}
use Rattle.language.proofs.Reading.Complete.{complete}
use Rattle.language.proofs.Reading.Sound.{sound}
use Rattle.language.proofs.Reading.First.{done_levels, append_one, refused_at, stops_at, says_done, says_any}
use Rattle.language.proofs.Reading.One.{built}
use Rattle.language.proofs.Reading.Climb.{next_level}

-- TOKENS: the word after the first n
past_at : (pre : List Word) (x : Word) (rest : List Word) → past (length pre) (pre ++ (x ∷ rest)) ≡ some x
unfolding past
past_at [] x rest = refl
past_at (y ∷ pre) x rest = past_at pre x rest

past_within : (n : ℕ) (ts : List Word) → length ts ≤ n → past n ts ≡ none
unfolding past
past_within n [] h = refl
past_within zero (x ∷ ts) h = absurd (omega (arith, h))
past_within (suc n) (x ∷ ts) h = past_within n ts (omega (arith, h))

past_none : (n : ℕ) (ts : List Word) → past n ts ≡ none → length ts ≤ n
unfolding past
past_none n [] e = omega arith
past_none zero (x ∷ ts) e = absurd (none-ne-some x (sym e))
past_none (suc n) (x ∷ ts) e = let h = past_none n ts e in omega (arith, h)

past_some : (n : ℕ) (ts : List Word) (x : Word) → past n ts ≡ some x → (pre : List Word) × (rest : List Word) × (ts ≡ pre ++ (x ∷ rest)) × (length pre ≡ n)
unfolding past
past_some n [] x e = absurd (none-ne-some x e)
past_some zero (y ∷ ts) x e = ([], ts, ap (λ (z : Word). z ∷ ts) (some-injective y x e), refl)
past_some (suc n) (y ∷ ts) x e =
    let w = past_some n ts x e in
    (y ∷ w.0, w.1, ap (λ (l : List Word). y ∷ l) w.2, ap suc w.3)

-- LEVEL: the first word past the deepest level
pub deep_within : (ls : List ℕ) (ts : List Word) → Within deepest ls → deep ls ts ≡ none
unfolding deep
deep_within [] ts w = refl
deep_within (l ∷ ls) [] w = refl
deep_within (l ∷ ls) (x ∷ ts) (a_level h w) = rw (le-ltb deepest l h) (deep_within ls ts w)

deep_at : (ls : List ℕ) (l : ℕ) (more : List ℕ) (pre : List Word) (x : Word) (rest : List Word) → Within deepest ls → deepest < l → length ls ≡ length pre
    → deep (ls ++ (l ∷ more)) (pre ++ (x ∷ rest)) ≡ some x
unfolding deep
deep_at [] l more [] x rest w h e = rw (lt-ltb deepest l h) refl
deep_at [] l more (y ∷ pre) x rest w h e = absurd (omega (arith, e))
deep_at (k ∷ ls) l more [] x rest w h e = absurd (omega (arith, e))
deep_at (k ∷ ls) l more (y ∷ pre) x rest (a_level j w) h e = rw (le-ltb deepest k j) (deep_at ls l more pre x rest w h (omega (arith, e)))

-- where none is past the deepest, all are within it
deep_none : (ls : List ℕ) (ts : List Word) → length ls ≡ length ts → deep ls ts ≡ none → Within deepest ls
unfolding deep
deep_none [] ts h e = no_level
deep_none (l ∷ ls) [] h e = absurd (omega (arith, h))
deep_none (l ∷ ls) (x ∷ ts) h e = go (ltb deepest l) refl e (λ e'. deep_none ls ts (omega (arith, h)) e')
  where
    go : (b : Bool) → ltb deepest l ≡ b → cond b (some x) (deep ls ts) ≡ none → (deep ls ts ≡ none → Within deepest ls) → Within deepest (l ∷ ls)
    go true b e' ih = absurd (none-ne-some x (sym e'))
    go false b e' ih = a_level (ltb-false deepest l b) (ih e')

-- the first word past the deepest level, and what stands before it
record Deep (ls : List ℕ) (ts : List Word) (x : Word) : Type 0 where
  pre : List Word
  rest : List Word
  words : ts ≡ pre ++ (x ∷ rest)
  low : List ℕ
  level : ℕ
  more : List ℕ
  counted : ls ≡ low ++ (level ∷ more)
  each : length low ≡ length pre
  within : Within deepest low
  past_it : deepest < level

deep_some : (ls : List ℕ) (ts : List Word) (x : Word) → deep ls ts ≡ some x → Deep ls ts x
unfolding deep
deep_some [] ts x e = absurd (none-ne-some x e)
deep_some (l ∷ ls) [] x e = absurd (none-ne-some x e)
deep_some (l ∷ ls) (y ∷ ts) x e = go (ltb deepest l) refl e (λ e'. deep_some ls ts x e')
  where
    go : (b : Bool) → ltb deepest l ≡ b → cond b (some y) (deep ls ts) ≡ some x → (deep ls ts ≡ some x → Deep ls ts x) → Deep (l ∷ ls) (y ∷ ts) x
    go true b e' ih =
        record {
          pre = [];
          rest = ts;
          words = ap (λ (z : Word). z ∷ ts) (some-injective y x e');
          low = [];
          level = l;
          more = ls;
          counted = refl;
          each = refl;
          within = no_level;
          past_it = ltb-true deepest l b;
        }
    go false b e' ih =
        let w = ih e' in
        record {
          pre = y ∷ w.pre;
          rest = w.rest;
          words = ap (λ (z : List Word). y ∷ z) w.words;
          low = l ∷ w.low;
          level = w.level;
          more = w.more;
          counted = ap (λ (z : List ℕ). l ∷ z) w.counted;
          each = ap suc w.each;
          within = a_level (ltb-false deepest l b) w.within;
          past_it = w.past_it;
        }

-- only the words that were counted matter
deep_front : (ls : List ℕ) (pre rest : List Word) → length ls ≡ length pre → deep ls (pre ++ rest) ≡ deep ls pre
unfolding deep
deep_front [] pre rest h = refl
deep_front (l ∷ ls) [] rest h = absurd (omega (arith, h))
deep_front (l ∷ ls) (x ∷ pre) rest h = ap (λ (o : Option Word). cond (ltb deepest l) (some x) o) (deep_front ls pre rest (omega (arith, h)))

-- LEVEL, from the words that were read
level_answer : (s : List ℕ) (pre rest : List Word) (ls : List ℕ) (x : Word)
    → words_of s ≡ fine (pre ++ rest)
    → length (pre ++ rest) ≤ most
    → Opens pre ls
    → deep ls pre ≡ some x
    → Reading s (refuse LEVEL (place_word x))
level_answer s pre rest ls x e h o d =
    let w = deep_some ls pre x d in
    let cut : pre ++ rest ≡ w.pre ++ (x ∷ (w.rest ++ rest)) = ap (λ (l : List Word). l ++ rest) w.words ∙ append_assoc w.pre (x ∷ w.rest) rest in
    let front : pre ≡ (w.pre ++ (x ∷ [])) ++ w.rest = w.words ∙ sym (append_one w.pre x w.rest) in
    let whole-list : levels o.tree ≡ w.low ++ (w.level ∷ (w.more ++ o.more)) =
    o.opens ∙ (ap (λ (l : List ℕ). l ++ o.more) w.counted ∙ append_assoc w.low (w.level ∷ w.more) o.more) in
    let next : w.level ≡ suc deepest = next_level w.low w.level (w.more ++ o.more) o.reads whole-list w.within w.past_it in
    let listed : levels o.tree ≡ w.low ++ (suc deepest ∷ (w.more ++ o.more)) = subst (λ (n : ℕ). levels o.tree ≡ w.low ++ (n ∷ (w.more ++ o.more))) next whole-list in
    opens_65th w.pre x (w.rest ++ rest) w.low
    (e ∙ ap fine cut)
    (subst (λ (l : List Word). length l ≤ most) cut h)
    (record {
      rest = w.rest ++ o.rest;
      tree = o.tree;
      reads = subst (λ (l : List Word). Reads BLOCK o.tree l []) (ap (λ (l : List Word). l ++ o.rest) front ∙ append_assoc (w.pre ++ (x ∷ [])) w.rest o.rest) o.reads;
      more = w.more ++ o.more;
      opens = listed ∙ sym (append_assoc w.low (suc deepest ∷ []) (w.more ++ o.more));
      each = omega (arith, length-append w.low (suc deepest ∷ []), length-append w.pre (x ∷ []), w.each);
    })
    w.within

-- `read` answers as promised.
module _ (s : List ℕ) (ts : List Word) (e : words_of s ≡ fine ts) (h : length ts ≤ most) where
  judged_right : (r : Parsed) → whole ts ≡ r → (d : Option Word) → deep (levels_in r) ts ≡ d → Reading s (levelled s ts r d)
  judged_right (through t o) k (some x) d =
      level_answer s ts [] o x (e ∙ ap fine (sym (append-nil ts))) (subst (λ (l : List Word). length l ≤ most) (sym (append-nil ts)) h) (says_done k) d
  judged_right (stuck rest o) k (some x) d =
      let w = refused_at ts rest o k in
      let cut = w.1 in
      level_answer s w.0 rest o x (e ∙ ap fine cut) (subst (λ (l : List Word). length l ≤ most) cut h) w.2
      (sym (deep_front o w.0 rest w.2.each) ∙ (ap (deep o) (sym cut) ∙ d))
  judged_right (through t o) k none d =
      let p = sound ts t o k in
      let same : levels p.0 ≡ o = done_levels (sym (complete p.1) ∙ k) in
      let low : Within deepest o = deep_none o ts (says_done k).each d in
      subst (λ (g : Got Block). Reading s (accept g)) (sym (built p.1)) (a_program e h p.1 (subst (Within deepest) (sym same) low))
  judged_right (stuck rest o) k none d =
      let w = refused_at ts rest o k in
      let cut = w.1 in
      let low : Within deepest o = deep_none o w.0 w.2.each (sym (deep_front o w.0 rest w.2.each) ∙ (ap (deep o) (sym cut) ∙ d)) in
      begins_none w.0 rest (e ∙ ap fine cut) (subst (λ (l : List Word). length l ≤ most) cut h) w.2 low w.3

pub answers : (s : List ℕ) → Reading s (read s)
unfolding read
answers s = go (words_of s) refl
  where
    count : (ts : List Word) → words_of s ≡ fine ts → (c : Option Word) → past most ts ≡ c → Reading s (counted s ts c)
    count ts e none c = judged_right s ts e (past_none most ts c) (whole ts) refl (deep (levels_in (whole ts)) ts) refl
    count ts e (some x) c = let w = past_some most ts x c in too_many_words w.0 x w.1 (e ∙ ap fine w.2) w.3

    go : (w : (Result (List Word))) → words_of s ≡ w → Reading s (scanned s w)
    go (refuse n p) e = bad_word e
    go (fine ts) e = count ts e (past most ts) refl

-- And no other answer is allowed.
pub of_words : (s : List ℕ) (ts : List Word) → words_of s ≡ fine ts → length ts ≤ most → read s ≡ levelled s ts (whole ts) (deep (levels_in (whole ts)) ts)
unfolding read
of_words s ts e h = rw (e, past_within most ts h) refl

of_result : (s : List ℕ) (ts : List Word) (r : Parsed) → whole ts ≡ r → deep (levels_in r) ts ≡ none → levelled s ts (whole ts) (deep (levels_in (whole ts)) ts) ≡ ended s ts r
of_result s ts r e d = ap (λ (z : Parsed). levelled s ts z (deep (levels_in z) ts)) e ∙ ap (λ (o : Option Word). levelled s ts r o) d

pub only : {s : List ℕ} {a : (Result Block)} → Reading s a → read s ≡ a
unfolding read
only (bad_word e) = rw e refl
only {s} (too_many_words pre x rest e h) = ap (scanned s) e ∙ ap (counted s (pre ++ (x ∷ rest))) (subst (λ (n : ℕ). past n (pre ++ (x ∷ rest)) ≡ some x) h (past_at pre x rest))
only {s} (begins_none pre rest {ls} e h o w k) =
    of_words s (pre ++ rest) e h ∙ of_result s (pre ++ rest) (stuck rest ls) (stops_at rest o k) (deep_within ls (pre ++ rest) w)
only {s} (opens_65th pre x rest ls e h o w) =
    let ts = pre ++ (x ∷ rest) in
    let z = says_any rest o in
    let c : levels_in (whole ts) ≡ ls ++ (suc deepest ∷ z.0) = ap (λ (y : List Word). levels_in (whole y)) (sym (append_one pre x rest)) ∙ (z.1 ∙ append_assoc ls (suc deepest ∷ []) z.0) in
    let n : length ls ≡ length pre = omega (arith, o.each, length-append ls (suc deepest ∷ []), length-append pre (x ∷ [])) in
    let one_more : deepest < suc deepest = omega arith in
    of_words s ts e h ∙ ap (levelled s ts (whole ts)) (ap (λ (y : List ℕ). deep y ts) c ∙ deep_at ls (suc deepest) z.0 pre x rest w one_more n)
only {s} (a_program {ts} {b} e h r w) =
    of_words s ts e h ∙ (of_result s ts _ (complete r) (deep_within (levels b) ts w) ∙ ap accept (built r))

-- Two answers allowed for one text are equal.
pub one_answer : {s : List ℕ} {a b : (Result Block)} → Reading s a → Reading s b → a ≡ b
one_answer h k = sym (only h) ∙ only k
