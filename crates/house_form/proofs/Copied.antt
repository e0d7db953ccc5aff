-- For the writer's code: how a word is spelled, from its own bytes in the text. Marks and names are copied; a number loses the zeros before it, and 0 its sign.
use mathlib.Core.Path.{◌≡◌, refl, sym, ◌∙◌, ap, subst}
use mathlib.Core.Bool.{Bool, true, false, cond, ◌||◌}
use mathlib.Core.List.{List, [], ◌∷◌}
use mathlib.Core.Option.{Option, none, some}
use Prim.Native.Nat.{ℕ, zero, suc, ◌-◌}
use native.Mathlib.Omega.{arith}
use borrow.Author.Tests.{eqb-true}
use lib.Dec.{T, eqb}
use lib.IntN.{ℤ, pos, neg_ℤ}
use lib.ListN.{length, take}
use Rattle.language.specs.Syntax.{Name, at}
use Rattle.language.specs.Bytes.{bytes_of, same_bytes}
use Rattle.language.specs.Answers.{BYTE, NUMBER}
use Rattle.language.specs.Numbers.{in_range}
use Rattle.language.specs.Words.{Mark, k_arrow, Word, mark, number, named, is_sep, is_letter, is_digit, is_plain, stretch, Spelling, means, symbols, key_words, mark_of, Front, gap, word, bad, spelled, decimal, numeral, minus, symbol, front}
use Rattle.language.proofs.Typing.Names.{same_names}
use Rattle.house_form.specs.House.{mark_text, digits, digits_in, number_text, spelling}
use Rattle.house_form.proofs.Fronts.{not_word}
use Rattle.house_form.proofs.Digits.{stretch_whole, plain_digits}
use Rattle.house_form.proofs.Spelled.{letter_no_digit, letter_no_minus}
use Rattle.house_form.proofs.Stripped.{stripped, digits_stripped}

abbrev pub signed : List ℕ → List ℕ  -- a `-` before digits that are not 0
signed [] = 45 ∷ []
signed (b ∷ l) = cond (eqb b 48) (b ∷ l) (45 ∷ b ∷ l)

abbrev pub behind_minus : List ℕ → List ℕ
behind_minus [] = 45 ∷ []
behind_minus (b ∷ l) = cond (is_digit b) (signed (stripped (b ∷ l))) (45 ∷ b ∷ l)

abbrev pub tidy : List ℕ → List ℕ  -- a word's bytes, as the form has them
tidy [] = []
tidy (b ∷ l) = cond (is_digit b) (stripped (b ∷ l)) (cond (eqb b 45) (behind_minus l) (b ∷ l))

-- ---- the spelling of a mark is the bytes that mean it

abbrev AllRight : List Spelling → Type 0
AllRight [] = Unit {0}
AllRight (means t m ∷ ms) = (bytes_of (mark_text m) ≡ bytes_of t) × AllRight ms

mark_right : (ms : List Spelling) → AllRight ms → (w : Name) (m : Mark) → mark_of ms w ≡ some m → bytes_of (mark_text m) ≡ w
mark_right [] a w m e = let z : ◌≡◌ {A = ℕ} 0 1 = cc in absurd (omega arith)
mark_right (means t k ∷ ms) a w m e = go (same_bytes (bytes_of t) w) (same_names (bytes_of t) w).0 e (mark_right ms a.1 w m)
  where
    go : (b : Bool) → (T b → bytes_of t ≡ w) → cond b (some k) (mark_of ms w) ≡ some m → (mark_of ms w ≡ some m → bytes_of (mark_text m) ≡ w) → bytes_of (mark_text m) ≡ w
    go true f e ih = let q : k ≡ m = cc in ap (λ (n : Mark). bytes_of (mark_text n)) (sym q) ∙ (a.0 ∙ f tt)
    go false f e ih = ih e

key_right : (w : Name) (m : Mark) → mark_of key_words w ≡ some m → bytes_of (mark_text m) ≡ w
key_right = mark_right key_words (refl, (refl, (refl, (refl, (refl, (refl, (refl, (refl, (refl, (refl, (refl, (refl, (refl, (refl, (refl, (refl, (refl, (refl, (refl, (refl, (refl, (refl, (refl, tt)))))))))))))))))))))))

symbol_right : (w : Name) (m : Mark) → mark_of symbols w ≡ some m → bytes_of (mark_text m) ≡ w
symbol_right = mark_right symbols (refl, (refl, (refl, (refl, (refl, (refl, (refl, (refl, tt))))))))

take_stretch : (p : ℕ → Bool) (l : List ℕ) → take (length (stretch p l)) l ≡ stretch p l
take_stretch p [] = refl
take_stretch p (x ∷ l) = go (p x) (take_stretch p l)
  where
    go : (t : Bool) → take (length (stretch p l)) l ≡ stretch p l → take (length (cond t (x ∷ stretch p l) [])) (x ∷ l) ≡ cond t (x ∷ stretch p l) []
    go true e = ap (λ (l : List ℕ). x ∷ l) e
    go false e = refl

-- a word was read as `v` with `n` bytes after its first: then it is `v`, and so is what is shown of `v`
as_read : {w v : Word} {m n : ℕ} (b : ℕ) (s : List ℕ) → word v n ≡ word w m → spelling v ≡ tidy (take (suc n) (b ∷ s)) → spelling w ≡ tidy (take (suc m) (b ∷ s))
as_read {w} {v} {m} {n} b s e h =
    let p : v ≡ w = cc in let q : n ≡ m = cc in
    subst (λ (x : Word). spelling x ≡ tidy (take (suc m) (b ∷ s))) p (subst (λ (j : ℕ). spelling v ≡ tidy (take (suc j) (b ∷ s))) q h)

tidy_plain : (b : ℕ) (l : List ℕ) → is_digit b ≡ false → eqb b 45 ≡ false → tidy (b ∷ l) ≡ b ∷ l
tidy_plain b l d e = ap (λ (t : Bool). cond t (stripped (b ∷ l)) (cond (eqb b 45) (behind_minus l) (b ∷ l))) d ∙ ap (λ (t : Bool). cond t (behind_minus l) (b ∷ l)) e

spelled_copied : (i b : ℕ) (s : List ℕ) (w : Word) (m : ℕ) → is_letter b ≡ true → spelled i (stretch is_plain (b ∷ s)) ≡ word w m → spelling w ≡ tidy (take (suc m) (b ∷ s))
spelled_copied i b s w m l e = go (stretch is_plain (b ∷ s)) first (take_stretch is_plain (b ∷ s)) (mark_of key_words (stretch is_plain (b ∷ s))) refl e
  where
    first : stretch is_plain (b ∷ s) ≡ b ∷ stretch is_plain s
    first = ap (λ (t : Bool). cond (t || is_digit b) (b ∷ stretch is_plain s) []) l

    bytes : (x : Name) → x ≡ b ∷ stretch is_plain s → take (length x) (b ∷ s) ≡ x → x ≡ tidy (take (suc (length x - 1)) (b ∷ s))
    bytes x q t =
        let r : length x ≡ suc (length (stretch is_plain s)) = ap length q in
        let n : suc (length x - 1) ≡ length x = omega arith in
        sym (ap (λ (j : ℕ). tidy (take j (b ∷ s))) n ∙ (ap tidy (t ∙ q) ∙ (tidy_plain b (stretch is_plain s) (letter_no_digit b l) (letter_no_minus b l) ∙ sym q)))

    go : (x : Name) → x ≡ b ∷ stretch is_plain s → take (length x) (b ∷ s) ≡ x → (o : Option Mark) → mark_of key_words x ≡ o →
        elim o as (λ _. Front) [ none ↦ word (named (at i x)) (length x - 1) | some k ↦ word (mark k i) (length x - 1) ] ≡ word w m → spelling w ≡ tidy (take (suc m) (b ∷ s))
    go x q t none k e' = as_read b s e' (bytes x q t)
    go x q t (some j) k e' = as_read b s e' (key_right x j k ∙ bytes x q t)

numeral_copied : (i : ℕ) (z : ℤ) (k b : ℕ) (s : List ℕ) (w : Word) (m : ℕ) → number_text z ≡ tidy (take (suc k) (b ∷ s)) → numeral i z k ≡ word w m → spelling w ≡ tidy (take (suc m) (b ∷ s))
numeral_copied i z k b s w m h e = go (in_range z) e
  where
    go : (t : Bool) → cond t (word (number i z) k) (bad NUMBER) ≡ word w m → spelling w ≡ tidy (take (suc m) (b ∷ s))
    go true e' = as_read b s e' h
    go false e' = absurd (not_word (bad NUMBER) e')

own_digits : (b : ℕ) (s : List ℕ) → is_digit b ≡ true → digits (decimal 0 (stretch is_digit (b ∷ s))) ≡ stripped (b ∷ stretch is_digit s)
own_digits b s e =
    let q : stretch is_digit (b ∷ s) ≡ b ∷ stretch is_digit s = ap (λ (t : Bool). cond t (b ∷ stretch is_digit s) []) e in
    ap (λ (l : List ℕ). digits (decimal 0 l)) q ∙ digits_stripped b (stretch is_digit s) (subst (λ (l : List ℕ). stretch is_digit l ≡ l) q (stretch_whole is_digit (b ∷ s)))

digits_copied : (b : ℕ) (s : List ℕ) → is_digit b ≡ true → number_text (pos (decimal 0 (stretch is_digit (b ∷ s)))) ≡ tidy (take (suc (length (stretch is_digit s))) (b ∷ s))
digits_copied b s e =
    own_digits b s e ∙ sym (ap (λ (l : List ℕ). tidy (b ∷ l)) (take_stretch is_digit s) ∙ ap (λ (t : Bool). cond t (stripped (b ∷ stretch is_digit s)) (cond (eqb b 45) (behind_minus (stretch is_digit s)) (b ∷ stretch is_digit s))) e)

-- a number below 0, or 0
signed_text : (d : ℕ) → number_text (neg_ℤ (pos d)) ≡ signed (digits d)
unfolding digits_in
signed_text zero = refl
signed_text (suc n) = go (digits (suc n)) (λ l e. ((plain_digits (suc n)).1 l e).0)
  where
    test : (t : Bool) (b : ℕ) (l : List ℕ) → (t ≡ true → suc n ≡ 0) → 45 ∷ b ∷ l ≡ cond t (b ∷ l) (45 ∷ b ∷ l)
    test true b l f = let z = f refl in absurd (omega (arith, z))
    test false b l f = refl

    go : (x : List ℕ) → ((l : List ℕ) → x ≡ 48 ∷ l → suc n ≡ 0) → 45 ∷ x ≡ signed x
    go [] f = refl
    go (b ∷ l) f = test (eqb b 48) b l λ e. f l (ap (λ (c : ℕ). c ∷ l) (eqb-true b 48 e))

minus_copied : (i : ℕ) (s : List ℕ) (w : Word) (m : ℕ) → minus i s ≡ word w m → spelling w ≡ tidy (take (suc m) (45 ∷ s))
minus_copied i [] w m e = absurd (not_word (bad BYTE) e)
minus_copied i (b ∷ s) w m e = go (eqb b 62) (is_digit b) refl refl e
  where
    below : is_digit b ≡ true → number_text (neg_ℤ (pos (decimal 0 (stretch is_digit (b ∷ s))))) ≡ tidy (take (suc (length (stretch is_digit (b ∷ s)))) (45 ∷ b ∷ s))
    below d =
        let q : stretch is_digit (b ∷ s) ≡ b ∷ stretch is_digit s = ap (λ (t : Bool). cond t (b ∷ stretch is_digit s) []) d in
        signed_text (decimal 0 (stretch is_digit (b ∷ s))) ∙
        (ap signed (own_digits b s d) ∙
        sym (ap (λ (l : List ℕ). tidy (45 ∷ l)) (take_stretch is_digit (b ∷ s) ∙ q) ∙ ap (λ (t : Bool). cond t (signed (stripped (b ∷ stretch is_digit s))) (45 ∷ b ∷ stretch is_digit s)) d))

    go : (t u : Bool) → eqb b 62 ≡ t → is_digit b ≡ u
        → cond t (word (mark k_arrow i) 1) (cond u (numeral i (neg_ℤ (pos (decimal 0 (stretch is_digit (b ∷ s))))) (length (stretch is_digit (b ∷ s)))) (bad BYTE)) ≡ word w m
        → spelling w ≡ tidy (take (suc m) (45 ∷ b ∷ s))
    go true u p d e' = as_read 45 (b ∷ s) e' (ap (λ (c : ℕ). tidy (45 ∷ c ∷ [])) (sym (eqb-true b 62 p)))
    go false true p d e' =
        numeral_copied i (neg_ℤ (pos (decimal 0 (stretch is_digit (b ∷ s))))) (length (stretch is_digit (b ∷ s))) 45 (b ∷ s) w m (below d) e'
    go false false p d e' = absurd (not_word (bad BYTE) e')

symbol_copied : (i b : ℕ) (s : List ℕ) (w : Word) (m : ℕ) → is_digit b ≡ false → eqb b 45 ≡ false → symbol i b ≡ word w m → spelling w ≡ tidy (take (suc m) (b ∷ s))
symbol_copied i b s w m d n e = go (mark_of symbols (b ∷ [])) refl e
  where
    go : (o : Option Mark) → mark_of symbols (b ∷ []) ≡ o → elim o as (λ _. Front) [ none ↦ bad BYTE | some k ↦ word (mark k i) 0 ] ≡ word w m → spelling w ≡ tidy (take (suc m) (b ∷ s))
    go none q e' = absurd (not_word (bad BYTE) e')
    go (some k) q e' = as_read b s e' (symbol_right (b ∷ []) k q ∙ sym (tidy_plain b [] d n))

-- A word that begins with the byte `b` before `s`, and has `m` bytes more, is spelled by its own bytes, tidied.
pub word_copied : (i b : ℕ) (s : List ℕ) (w : Word) (m : ℕ) → front i b s ≡ word w m → spelling w ≡ tidy (take (suc m) (b ∷ s))
word_copied i b s w m e = go (is_sep b) (is_letter b) (is_digit b) (eqb b 45) refl refl refl e
  where
    go : (t u v x : Bool) → is_letter b ≡ u → is_digit b ≡ v → eqb b 45 ≡ x
        → cond t gap (cond u (spelled i (stretch is_plain (b ∷ s))) (cond v (numeral i (pos (decimal 0 (stretch is_digit (b ∷ s)))) (length (stretch is_digit s))) (cond x (minus i s) (symbol i b)))) ≡ word w m
        → spelling w ≡ tidy (take (suc m) (b ∷ s))
    go true u v x l d n e' = absurd (not_word gap e')
    go false true v x l d n e' = spelled_copied i b s w m l e'
    go false false true x l d n e' = numeral_copied i (pos (decimal 0 (stretch is_digit (b ∷ s)))) (length (stretch is_digit s)) b s w m (digits_copied b s d) e'
    go false false false true l d n e' = subst (λ (c : ℕ). spelling w ≡ tidy (take (suc m) (c ∷ s))) (sym (eqb-true b 45 n)) (minus_copied i s w m e')
    go false false false false l d n e' = symbol_copied i b s w m d n e'
