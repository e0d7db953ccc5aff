-- The loops over a text's words: what is left to write, and one turn.
use mathlib.Core.Path.{◌≡◌, refl, sym, ◌∙◌, ap, subst}
use mathlib.Core.List.{List, [], ◌∷◌, ◌++◌, append_assoc}
use Rattle.std.specs.Prelude.{Option, None, Some}
use Prim.Native.Nat.{ℕ, zero, suc, ◌+◌, ◌-◌, ◌≤◌, ◌<◌}
use native.Mathlib.Omega.{arith}
use lib.ListN.{length, take, drop, length-append, length-take, length-drop}
use lib.Seq.{drop-drop, sets, sets-eq}
use Rattle.language.specs.Syntax.{at}
use Rattle.language.specs.Answers.{Result, fine, refuse}
use Rattle.language.specs.Words.{Word, mark, number, named, place_word, Front, gap, word, bad, front, before, words_from, words_of}
use Rattle.language.proofs.Reading.Payload.{same_words, not_are, front_right, right_place}
use Rattle.words.specs.declared.Word as found
use Rattle.words.specs.Next.{Next, no_more, next, stop, begun, next_in, next_from, told, found_from}
use Rattle.words.proofs.Following.{words_after, words_next, Ahead, next_ahead}
use Rattle.house_form.specs.House.{spelling, spaced, form, form_of, house_form_of}
use Rattle.house_form.proofs.Copied.{tidy, word_copied}
use Rattle.house_form.proofs.Length.{tidy_short}
use Rattle.writing.specs.Pieces as P
use Rattle.writing.specs.Pieces.{piece}
use Rattle.writing.specs.Parts.{word_in, between, Readable}
use Rattle.writing.proofs.Pieces.{tidy_as, skipped_less, gap_short, sets_append}

-- ---- a word's bytes in the text

behind : (text : List ℕ) (i b : ℕ) (s : List ℕ) → b ∷ s ≡ drop i text → s ≡ drop (i + 1) text
behind text i b s e = ap (drop 1) e ∙ drop-drop 1 i text

next_is : {w v : Word} {e f : ℕ} → next w e ≡ next v f → (w ≡ v) × (e ≡ f)
next_is q = (cc, cc)

not_next : {w : Word} {e : ℕ} (n : Next) → n ≡ next w e → (elim n as (λ _. Type 0) [ no_more ↦ ⊥ | next v f ↦ Unit {0} | stop r p ↦ ⊥ ])
not_next n e = subst (λ (m : Next). elim m as (λ _. Type 0) [ no_more ↦ ⊥ | next v f ↦ Unit {0} | stop r p ↦ ⊥ ]) (sym e) tt

-- the next word is spelled by its own bytes, tidied
spelled_in : (text l : List ℕ) (i : ℕ) → l ≡ drop i text → (w : Word) (e : ℕ) → next_in l i ≡ next w e → spelling w ≡ tidy (between text (place_word w) e)
unfolding next_in
spelled_in text [] i q w e h = absurd (not_next no_more h)
spelled_in text (b ∷ s) i q w e h = go (front i b s) refl h (spelled_in text s (i + 1) (behind text i b s q) w e)
  where
    at_place : (v : Word) (m : ℕ) → front i b s ≡ word v m → v ≡ w → i + 1 + m ≡ e → spelling w ≡ tidy (between text (place_word w) e)
    at_place v m f x y =
        let p : place_word w ≡ i = ap place_word (sym x) ∙ right_place i _ v (front_right i b s v m f) in
        let k : e - i ≡ suc m = omega (arith, y) in
        let c : take (suc m) (b ∷ s) ≡ between text i e = ap (take (suc m)) q ∙ ap (λ (j : ℕ). take j (drop i text)) (sym k) in
        ap spelling (sym x) ∙ word_copied i b s v m f ∙ ap tidy (c ∙ ap (λ (j : ℕ). between text j e) (sym p))

    go : (f : Front) → front i b s ≡ f → begun i f (next_in s (i + 1)) ≡ next w e → (next_in s (i + 1) ≡ next w e → spelling w ≡ tidy (between text (place_word w) e)) →
        spelling w ≡ tidy (between text (place_word w) e)
    go gap f h ih = ih h
    go (word v m) f h ih = let x = next_is h in at_place v m f x.0 x.1
    go (bad r) f h ih = absurd (not_next (stop r i) h)

-- a word stands from p up to e, the first of those from place i on
pub record WordThere (text : List ℕ) (i p e : ℕ) : Type 0 where
  pub is : Word
  pub words : words_from (drop i text) 0 i ≡ before is (words_from (drop e text) 0 e)
  pub spelled : spelling is ≡ tidy (between text p e)
  pub from : i ≤ p
  pub past : p < e
  pub within : e ≤ length text

-- the next word stands there; or there is none
pub data Seen (text : List ℕ) (i : ℕ) : Option found.Word → Type 0 where
  word_there : {w : found.Word} → WordThere text i w.start w.end → Seen text i (Some w)
  none_there : ((ws : List Word) → words_from (drop i text) 0 i ≡ fine ws → ws ≡ []) → Seen text i None

pub seen : (text : List ℕ) (i : ℕ) → Seen text i (word_in (found_from text i))
seen text i = by (next_from text i) refl
  where
    there : (w : Word) (e : ℕ) → next_from text i ≡ next w e → WordThere text i (place_word w) e
    there w e q =
        let a = subst (Ahead i (length text)) q (next_ahead text i) in
        record { is = w; words = words_next text i ∙ ap (words_after text) q; spelled = spelled_in text (drop i text) i refl w e q; from = a.0; past = a.1; within = a.2 }

    by : (n : Next) → next_from text i ≡ n → Seen text i (word_in (told n))
    by no_more q = none_there λ ws e. sym (same_words (sym (words_next text i ∙ ap (words_after text) q) ∙ e))
    by (next (mark m p) e) q = word_there (there (mark m p) e q)
    by (next (number p z) e) q = word_there (there (number p z) e q)
    by (next (named (at p x)) e) q = word_there (there (named (at p x)) e q)
    by (stop r p) q = none_there λ ws e. absurd (not_are (sym (words_next text i ∙ ap (words_after text) q) ∙ e))

-- as the code finds it
module _ (text : List ℕ) (i : ℕ) {q : Option found.Word} (e : q ≡ word_in (found_from text i)) where
  seen_so : Seen text i q
  seen_so = subst (Seen text i) (sym e) (seen text i)

  pub word_found : {w : found.Word} → q ≡ Some w → WordThere text i w.start w.end
  word_found {w} h = go (Some w) (subst (Seen text i) h seen_so) refl
    where
      go : (o : Option found.Word) → Seen text i o → o ≡ Some w → WordThere text i w.start w.end
      go _ (word_there {w = v} t) h = let v-is : v ≡ w = cc in subst (λ (v : found.Word). WordThere text i v.start v.end) v-is t
      go _ (none_there n) h = absurd cc

  pub none_found : q ≡ None → (ws : List Word) → words_from (drop i text) 0 i ≡ fine ws → ws ≡ []
  none_found h = go None (subst (Seen text i) h seen_so) refl
    where
      go : (o : Option found.Word) → Seen text i o → o ≡ None → (ws : List Word) → words_from (drop i text) 0 i ≡ fine ws → ws ≡ []
      go _ (word_there t) h = absurd cc
      go _ (none_there n) h = n

-- ---- what is left to write behind n bytes

abbrev pub rest : ℕ → List Word → List ℕ
rest zero ws = form ws
rest (suc n) ws = spaced ws

pub rest_none : (n : ℕ) → rest n [] ≡ []
rest_none zero = refl
rest_none (suc n) = refl

rest_word : (n : ℕ) (w : Word) (ws : List Word) → rest n (w ∷ ws) ≡ P.gap n ++ (spelling w ++ spaced ws)
rest_word zero w ws = refl
rest_word (suc n) w ws = refl

rest_some : (n : ℕ) (ws : List Word) → 0 < n → rest n ws ≡ spaced ws
rest_some zero ws h = absurd (omega (arith, h))
rest_some (suc n) ws h = refl

-- what a word adds, and what is left behind it
rest_piece : (n : ℕ) (w : Word) (ws : List Word) (l : List ℕ) → spelling w ≡ tidy l → rest n (w ∷ ws) ≡ piece n l ++ spaced ws
rest_piece n w ws l e = rest_word n w ws ∙ sym (append_assoc (P.gap n) (spelling w) (spaced ws)) ∙ ap (λ (s : List ℕ). (P.gap n ++ s) ++ spaced ws) e

tidy_some : (l : List ℕ) → 0 < length l → 0 < length (tidy l)
tidy_some l h =
    omega (arith, ap length (tidy_as l), length-append (P.sign (P.sign_kept l (P.skipped l))) (drop (P.skipped l) l), length-drop (P.skipped l) l, skipped_less l h)

-- ---- counting

-- n bytes are written before place i, and with what is left the form is whole
pub record Counting (text : List ℕ) (i n : ℕ) : Type 0 where
  pub inside : i ≤ length text
  pub few : n ≤ i + i
  pub left : List Word
  pub are : words_from (drop i text) 0 i ≡ fine left
  pub whole : n + length (rest n left) ≡ length (house_form_of text)

form_is : (text : List ℕ) (ws : List Word) → words_of text ≡ fine ws → house_form_of text ≡ form ws
unfolding house_form_of
form_is text ws e = ap form_of e

readable : (o : Result (List Word)) → Readable o → (ws : List Word) × (o ≡ fine ws)
readable (fine ws) h = (ws, refl)
readable (refuse r p) h = absurd h

pub counting_first : (text : List ℕ) → Readable (words_of text) → Counting text 0 0
counting_first text h =
    let r = readable (words_of text) h in
    record {
      inside = omega arith;
      few = omega arith;
      left = r.0;
      are = r.1;
      whole = let e : length (form r.0) ≡ length (house_form_of text) = ap length (sym (form_is text r.0 r.1)) in omega (arith, e);
    }

-- the words after the first
tail_are : (w : Word) (o : Result (List Word)) (ws : List Word) → before w o ≡ fine ws → (vs : List Word) × (o ≡ fine vs) × (ws ≡ w ∷ vs)
tail_are w (fine vs) ws e = (vs, refl, sym (same_words e))
tail_are w (refuse r p) ws e = absurd (not_are e)

module _ (text : List ℕ) (i n : ℕ) (c : Counting text i n) where
  -- the word that stands from p up to e
  module _ (p e : ℕ) (t : WordThere text i p e) where
    abbrev pub own : List ℕ
    own = between text p e

    pub own_length : length own ≡ e - p
    own_length = omega (arith, length-take (e - p) (drop p text), length-drop p text, t.within, t.past)

    pub own_some : 0 < length own
    own_some = omega (arith, own_length, t.past)

    abbrev pub after : ℕ
    after = n + length (piece n own)

    pub follows : (vs : List Word) × (words_from (drop e text) 0 e ≡ fine vs) × (c.left ≡ t.is ∷ vs)
    follows = tail_are t.is (words_from (drop e text) 0 e) c.left (sym t.words ∙ c.are)

    piece_some : 0 < length (piece n own)
    piece_some = omega (arith, length-append (P.gap n) (tidy own), tidy_some own own_some)

    pub rest_is : rest n c.left ≡ piece n own ++ rest after follows.0
    rest_is =
        ap (rest n) follows.2 ∙ rest_piece n t.is follows.0 own t.spelled ∙
        ap (λ (s : List ℕ). piece n own ++ s) (sym (rest_some after follows.0 (omega (arith, piece_some))))

    pub counting_more : Counting text e after
    counting_more = record {
      inside = t.within;
      few = omega (arith, c.few, t.from, t.past, own_length, length-append (P.gap n) (tidy own), gap_short n, tidy_short own);
      left = follows.0;
      are = follows.1;
      whole = omega (arith, c.whole, ap length rest_is, length-append (piece n own) (rest after follows.0));
    }

    -- the page has room for it
    pub room_for : after ≤ length (house_form_of text)
    room_for = omega (arith, c.whole, ap length rest_is, length-append (piece n own) (rest after follows.0))

  -- no word is left
  pub counting_done : c.left ≡ [] → n ≡ length (house_form_of text)
  counting_done h = omega (arith, c.whole, ap length (ap (rest n) h ∙ rest_none n))

-- ---- writing

-- and what is written so far, with what is left, is the form
pub record Writing (text page₀ page : List ℕ) (i n : ℕ) : Type 0 where
  pub counting : Counting text i n
  pub long : length page ≡ length page₀
  pub same : sets page n (rest n counting.left) ≡ sets page₀ 0 (house_form_of text)

pub writing_first : (text page : List ℕ) → Readable (words_of text) → Writing text page page 0 0
writing_first text page h =
    let c = counting_first text h in
    record { counting = c; long = refl; same = ap (sets page 0) (sym (form_is text c.left c.are)) }

module _ (text page₀ page : List ℕ) (i n : ℕ) (w : Writing text page₀ page i n) where
  pub writing_more : (p e : ℕ) (t : WordThere text i p e) (m : ℕ) (page₁ : List ℕ) → m ≡ n + length (piece n (between text p e)) → page₁ ≡ sets page n (piece n (between text p e)) →
      length page₁ ≡ length page → Writing text page₀ page₁ e m
  unfolding counting_more
  writing_more p e t m page₁ q r k =
      let a = n + length (piece n (between text p e)) in
      let c = counting_more text i n w.counting p e t in
      subst (λ (j : ℕ). Writing text page₀ page₁ e j) (sym q) (record {
        counting = c;
        long = k ∙ w.long;
        same = ap (λ (l : List ℕ). sets l a (rest a c.left)) r ∙ sym (sets_append (piece n (between text p e)) (rest a c.left) page n) ∙
            ap (sets page n) (sym (rest_is text i n w.counting p e t)) ∙ w.same;
      })

  pub writing_done : w.counting.left ≡ [] → length (house_form_of text) ≤ length page₀ → page ≡ house_form_of text ++ drop (length (house_form_of text)) page₀
  writing_done h k =
      let z : 0 + length (house_form_of text) ≡ length (house_form_of text) = omega arith in
      sym (ap (sets page n) (ap (rest n) h ∙ rest_none n)) ∙ w.same ∙ sets-eq (house_form_of text) page₀ 0 (omega (arith, k)) ∙ ap (λ (j : ℕ). house_form_of text ++ drop j page₀) z
