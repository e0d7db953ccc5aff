-- One turn of the loop over a text's words: what the next word, as an entry, says of those from a place on.
use mathlib.Core.Path.{◌≡◌, refl, sym, ◌∙◌, ap}
use mathlib.Core.List.{List}
use Prim.Native.Nat.{ℕ, ◌+◌, ◌<◌, ◌≤◌}
use native.Mathlib.Omega.{arith}
use lib.ListN.{length, drop, set}
use Rattle.std.specs.Prelude.{None, Some, Ok, Err}
use Rattle.language.specs.Answers.{Result, fine, refuse, refusal_number}
use Rattle.language.specs.Words as language
use Rattle.language.specs.Words.{Word, mark, number, named, place_word, before, words_from}
use Rattle.language.proofs.Reading.Machine.{code, tag}
use Rattle.words.specs.declared.Word as found
use Rattle.words.specs.Marks.{meant, mark_for}
use Rattle.words.specs.Next.{Found, refusal_of, place_of, token_for, found_from}
use Rattle.words.proofs.Answers.{WordRead, Says, answered}
use Rattle.scanning.specs.Entries.{kind_of, entry_of}
use Rattle.scanning.specs.Scanning.{word_entry, Ended, halted, first_over, counted, scanned}

-- the words of a text from place i on, stored from the entry n of the table on
abbrev pub left : (text : List ℕ) (i : ℕ) → List ℕ → (n over : ℕ) → Ended
left text i l n over = scanned (words_from (drop i text) 0 i) l n over

-- a word first, then the others
stored_first : (w : Word) (r : Result (List Word)) (l : List ℕ) (n over : ℕ)
    → scanned (before w r) l n over ≡ scanned r (set l n (word_entry w)) (n + 1) (first_over n (length l) (place_word w) over)
stored_first w (fine ws) l n over = refl
stored_first w (refuse r p) l n over = refl

-- the code's mark has the number of the language's
numbered : (m : language.Mark) → code (meant (mark_for m)) ≡ code m
numbered language.k_lbr = refl
numbered language.k_rbr = refl
numbered language.k_lpar = refl
numbered language.k_rpar = refl
numbered language.k_semi = refl
numbered language.k_colon = refl
numbered language.k_comma = refl
numbered language.k_star = refl
numbered language.k_arrow = refl
numbered language.k_const = refl
numbered language.k_fun = refl
numbered language.k_rec = refl
numbered language.k_var = refl
numbered language.k_proc = refl
numbered language.k_echo = refl
numbered language.k_set = refl
numbered language.k_if = refl
numbered language.k_while = refl
numbered language.k_call = refl
numbered language.k_return = refl
numbered language.kif = refl
numbered language.kand = refl
numbered language.kor = refl
numbered language.kbool = refl
numbered language.kint = refl
numbered language.kvar = refl
numbered language.kadr = refl
numbered language.kvec = refl
numbered language.kalloc = refl
numbered language.knth = refl
numbered language.klen = refl
numbered language.kvset = refl

kind_right : (w : Word) → kind_of (token_for w) ≡ tag w
kind_right (mark m p) = numbered m
kind_right (number p z) = refl
kind_right (named x) = refl

entry_right : (word : found.Word) (w : Word) → word.token ≡ token_for w → place_word w ≡ word.start → entry_of word ≡ word_entry w
entry_right word w t p = omega (arith, ap kind_of t ∙ kind_right w, p)

-- what the next word says, and the place that the reader comes to
module _ (text : List ℕ) (i : ℕ) where
  pub record Took (word : found.Word) : Type 0 where
    pub further : i < word.end
    pub inside : word.end ≤ length text
    pub place : word.start < length text
    pub turn : (l : List ℕ) (n over : ℕ) → left text i l n over ≡ left text word.end (set l n (entry_of word)) (n + 1) (first_over n (length l) word.start over)

  abbrev pub Tells : Found → Type 0
  Tells (Ok (Some word)) = Took word
  Tells (Ok None) = (l : List ℕ) (n over : ℕ) → left text i l n over ≡ counted l n over
  Tells (Err e) = (l : List ℕ) (n over : ℕ) → left text i l n over ≡ halted (refusal_number (refusal_of e)) (place_of e)

  took : (word : found.Word) → WordRead text i word → Took word
  took word r =
      let entry : word_entry r.is ≡ entry_of word = sym (entry_right word r.is r.token r.place) in
      record {
        further = omega (arith, r.from, r.past);
        inside = r.within;
        place = omega (arith, r.past, r.within);
        turn = λ l n over.
            ap (λ (w : Result (List Word)). scanned w l n over) r.words
            ∙ stored_first r.is (words_from (drop word.end text) 0 word.end) l n over
            ∙ ap (λ (v : ℕ). left text word.end (set l n v) (n + 1) (first_over n (length l) (place_word r.is) over)) entry
            ∙ ap (λ (p : ℕ). left text word.end (set l n (entry_of word)) (n + 1) (first_over n (length l) p over)) r.place;
      }

  tells : (f : Found) → Says text i f → Tells f
  tells (Ok None) h = λ l n over. ap (λ (r : Result (List Word)). scanned r l n over) h
  tells (Ok (Some word)) h = took word h
  tells (Err e) h = λ l n over. ap (λ (r : Result (List Word)). scanned r l n over) h.words

  pub told : (f : Found) → f ≡ found_from text i → Tells f
  told f e = tells f (answered text i f e)
