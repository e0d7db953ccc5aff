-- One word after the other gives the words of a text: what a loop over them stands on.
use mathlib.Core.Path.{◌≡◌, refl, ap, ◌∙◌}
use mathlib.Core.Bool.{Bool, true, false, cond}
use mathlib.Core.List.{List, [], ◌∷◌}
use mathlib.Core.Option.{Option, none, some}
use Prim.Native.Nat.{ℕ, zero, suc, ◌+◌, ◌-◌, ◌≤◌, ◌<◌}
use native.Mathlib.Omega.{arith}
use lib.Dec.{eqb}
use lib.IntN.{ℤ, pos, neg_ℤ}
use lib.ListN.{length, drop, length-drop, drop_of_length-le}
use lib.Seq.{drop-drop}
use Rattle.language.specs.Syntax.{at}
use Rattle.language.specs.Answers.{Refusal, BYTE, NUMBER, Result, fine, refuse}
use Rattle.language.specs.Numbers.{in_range}
use Rattle.language.specs.Words.{Mark, Word, mark, number, named, place_word, is_sep, is_letter, is_digit, is_plain, stretch, symbols, key_words, mark_of}
use Rattle.language.specs.Words.{Front, gap, word, bad, spelled, decimal, numeral, minus, symbol, front, before, words_from, words_of}
use Rattle.words.specs.Next.{Next, no_more, next, stop, begun, next_in, next_from, refusal_of, place_of, error_for}
use Rattle.words.proofs.Stretches.{stretch_short}

-- ---- the words of a text are its next word and those after it
words_skip : (s : List ℕ) (k i : ℕ) → words_from s k i ≡ words_from (drop k s) 0 (i + k)
unfolding words_from
words_skip s zero i = let e : i ≡ i + 0 = omega arith in ap (words_from s 0) e
words_skip [] (suc k) i = refl
words_skip (b ∷ s) (suc k) i =
    let e : i + 1 + k ≡ i + suc k = omega arith in
    words_skip s k (i + 1) ∙ ap (words_from (drop k s) 0) e

abbrev pub words_after : (text : List ℕ) → Next → (Result (List Word))
words_after text no_more = fine []
words_after text (next w e) = before w (words_from (drop e text) 0 e)
words_after text (stop r p) = refuse r p

-- the bytes after the first
behind : (text : List ℕ) (i b : ℕ) (s : List ℕ) → b ∷ s ≡ drop i text → s ≡ drop (i + 1) text
behind text i b s e = ap (drop 1) e ∙ drop-drop 1 i text

words_in_lem : (text l : List ℕ) (i : ℕ) → l ≡ drop i text → words_from l 0 i ≡ words_after text (next_in l i)
unfolding words_from next_in
words_in_lem text [] i e = refl
words_in_lem text (b ∷ s) i e = by (front i b s) (words_in_lem text s (i + 1) (behind text i b s e))
  where
    by : (f : Front)
        → words_from s 0 (i + 1) ≡ words_after text (next_in s (i + 1))
        → elim f as (λ _. (Result (List Word))) [ gap ↦ words_from s 0 (i + 1) | word w more ↦ before w (words_from s more (i + 1)) | bad r ↦ refuse r i ]
        ≡ words_after text (begun i f (next_in s (i + 1)))
    by gap h = h
    by (word w more) h =
        let rest : drop more s ≡ drop (i + 1 + more) text = ap (drop more) (behind text i b s e) ∙ drop-drop more (i + 1) text in
        ap (before w) (words_skip s more (i + 1) ∙ ap (λ (l : List ℕ). words_from l 0 (i + 1 + more)) rest)
    by (bad r) h = refl

pub words_next : (text : List ℕ) (i : ℕ) → words_from (drop i text) 0 i ≡ words_after text (next_from text i)
words_next text i = words_in_lem text (drop i text) i refl

-- ---- where the next word stands
-- a refusal of words: an error says which it is, and where
abbrev pub Kept : Refusal → Type 0
Kept r = (p : ℕ) → (refusal_of (error_for r p) ≡ r) × (place_of (error_for r p) ≡ p)

-- what begins at place i with n bytes behind its first: a word has that place, and ends among them
abbrev Among : (i n : ℕ) → Front → Type 0
Among i n gap = Unit {0}
Among i n (word w more) = (place_word w ≡ i) × (more ≤ n)
Among i n (bad r) = Kept r

byte_among : (i n : ℕ) → Among i n (bad BYTE)
byte_among i n p = (refl, refl)

number_among : (i n : ℕ) → Among i n (bad NUMBER)
number_among i n p = (refl, refl)

either : (i n : ℕ) (t : Bool) (f g : Front) → Among i n f → Among i n g → Among i n (cond t f g)
either i n true f g p q = p
either i n false f g p q = q

numeral_among : (i n : ℕ) (z : ℤ) (more : ℕ) → more ≤ n → Among i n (numeral i z more)
numeral_among i n z more h = either i n (in_range z) (word (number i z) more) (bad NUMBER) (refl, h) (number_among i n)

spelled_among : (i n : ℕ) (w : List ℕ) → length w ≤ n + 1 → Among i n (spelled i w)
spelled_among i n w h = by (mark_of key_words w)
  where
    short : length w - 1 ≤ n
    short = omega arith

    by : (o : Option Mark) → Among i n (elim o as (λ _. Front) [ none ↦ word (named (at i w)) (length w - 1) | some m ↦ word (mark m i) (length w - 1) ])
    by none = (refl, short)
    by (some m) = (refl, short)

minus_among : (i : ℕ) (s : List ℕ) → Among i (length s) (minus i s)
minus_among i [] = byte_among i 0
minus_among i (b ∷ s) =
    either i (length (b ∷ s)) (eqb b 62) _ _ (refl, omega arith)
    (either i (length (b ∷ s)) (is_digit b) _ _
    (numeral_among i (length (b ∷ s)) (neg_ℤ (pos (decimal 0 (stretch is_digit (b ∷ s))))) _ (stretch_short is_digit (b ∷ s))) (byte_among i (length (b ∷ s))))

symbol_among : (i n b : ℕ) → Among i n (symbol i b)
symbol_among i n b = by (mark_of symbols (b ∷ []))
  where
    by : (o : Option Mark) → Among i n (elim o as (λ _. Front) [ none ↦ bad BYTE | some m ↦ word (mark m i) 0 ])
    by none = byte_among i n
    by (some m) = (refl, omega arith)

front_among : (i b : ℕ) (s : List ℕ) → Among i (length s) (front i b s)
front_among i b s =
    either i (length s) (is_sep b) gap _ tt
    (either i (length s) (is_letter b) _ _ (spelled_among i (length s) (stretch is_plain (b ∷ s)) (omega (arith, stretch_short is_plain (b ∷ s))))
    (either i (length s) (is_digit b) _ _ (numeral_among i (length s) (pos (decimal 0 (stretch is_digit (b ∷ s)))) _ (stretch_short is_digit s))
    (either i (length s) (eqb b 45) _ _ (minus_among i s) (symbol_among i (length s) b))))

-- the next word from place i on, in n bytes: it begins at i or after, has a byte at least, and ends among them; or what stops there
abbrev pub Ahead : (i n : ℕ) → Next → Type 0
Ahead i n no_more = Unit {0}
Ahead i n (next w e) = (i ≤ place_word w) × (place_word w < e) × (e ≤ n)
Ahead i n (stop r p) = (i ≤ p) × (p < n) × Kept r

begun_ahead : (i n : ℕ) (s : List ℕ) (f : Front) (a : Next) → n ≡ i + 1 + length s → Among i (length s) f → Ahead (i + 1) n a → Ahead i n (begun i f a)
begun_ahead i n s gap no_more e p q = tt
begun_ahead i n s gap (next w x) e p q = (omega (arith, q.0), q.1, q.2)
begun_ahead i n s gap (stop r x) e p q = (omega (arith, q.0), q.1, q.2)
begun_ahead i n s (word w more) a e p q = (omega (arith, p.0), omega (arith, p.0), omega (arith, p.1))
begun_ahead i n s (bad r) a e p q = (omega arith, omega arith, p)

ahead_in : (text l : List ℕ) (i : ℕ) → l ≡ drop i text → Ahead i (length text) (next_in l i)
unfolding next_in
ahead_in text [] i e = tt
ahead_in text (b ∷ s) i e =
    let n : length text ≡ i + 1 + length s = omega (arith, ap length e, length-drop i text) in
    begun_ahead i (length text) s (front i b s) (next_in s (i + 1)) n (front_among i b s) (ahead_in text s (i + 1) (behind text i b s e))

pub next_ahead : (text : List ℕ) (i : ℕ) → Ahead i (length text) (next_from text i)
next_ahead text i = ahead_in text (drop i text) i refl

-- ---- all of them, one after the other: at most n words from place i on
unfoldable pub words_by : (n : ℕ) → List ℕ → (i : ℕ) → (Result (List Word))
words_by zero text i = fine []
words_by (suc n) text i = elim (next_from text i) [ no_more ↦ fine [] | next w e ↦ before w (words_by n text e) | stop r p ↦ refuse r p ]

by_steps : (n : ℕ) (text : List ℕ) (i : ℕ) → length text < i + n → words_from (drop i text) 0 i ≡ words_by n text i
unfolding words_by words_from
by_steps zero text i h = let l : length text ≤ i = omega arith in ap (λ (r : List ℕ). words_from r 0 i) (drop_of_length-le text {i = i} l)
by_steps (suc n) text i h = words_next text i ∙ by (next_from text i) (next_ahead text i) (λ e l. by_steps n text e l)
  where
    by : (a : Next) → Ahead i (length text) a
        → ((e : ℕ) → length text < e + n → words_from (drop e text) 0 e ≡ words_by n text e)
        → words_after text a ≡ elim a as (λ _. (Result (List Word))) [ no_more ↦ fine [] | next w e ↦ before w (words_by n text e) | stop r p ↦ refuse r p ]
    by no_more p more = refl
    by (next w e) p more = ap (before w) (more e (omega (arith, p.0, p.1)))
    by (stop r x) p more = refl

-- the words of a text are its next words, one after the other
pub words_one_by_one : (text : List ℕ) → words_of text ≡ words_by (length text + 1) text 0
words_one_by_one text = by_steps (length text + 1) text 0 (omega arith)
