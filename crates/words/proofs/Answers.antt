-- What each answer of the code says of a text's words: the laws for a loop that goes by these answers.
use mathlib.Core.Path.{◌≡◌, refl, sym, ap, subst, ◌∙◌}
use mathlib.Core.List.{List, []}
use Prim.Native.Nat.{ℕ, ◌≤◌, ◌<◌}
use lib.ListN.{length, drop}
use Rattle.std.specs.Prelude.{None, Some, Ok, Err}
use Rattle.language.specs.Answers.{fine, refuse}
use Rattle.language.specs.Words.{Word, place_word, before, words_from}
use Rattle.words.specs.Next.{Next, no_more, next, stop, next_from, Found, refusal_of, place_of, error_for, token_for, told, found_from}
use Rattle.words.specs.declared.Word as found
use Rattle.words.specs.declared.WordError.{WordError}
use Rattle.words.proofs.Following.{words_after, words_next, Ahead, next_ahead}

-- the word that was found is the first of those from place i on
pub record WordRead (text : List ℕ) (i : ℕ) (word : found.Word) : Type 0 where
  pub is : Word
  pub token : word.token ≡ token_for is
  pub place : place_word is ≡ word.start
  pub words : words_from (drop i text) 0 i ≡ before is (words_from (drop word.end text) 0 word.end)
  pub from : i ≤ word.start
  pub past : word.start < word.end
  pub within : word.end ≤ length text

-- the words from place i on are refused, as the error says
pub record WordsRefused (text : List ℕ) (i : ℕ) (error : WordError) : Type 0 where
  pub words : words_from (drop i text) 0 i ≡ refuse (refusal_of error) (place_of error)
  pub from : i ≤ place_of error
  pub within : place_of error < length text

-- what an answer says of the words from place i on
abbrev pub Says : (text : List ℕ) → (i : ℕ) → Found → Type 0
Says text i (Ok None) = words_from (drop i text) 0 i ≡ fine []
Says text i (Ok (Some word)) = WordRead text i word
Says text i (Err error) = WordsRefused text i error

module _ (text : List ℕ) (i : ℕ) where
  by_next : (n : Next) → next_from text i ≡ n → Says text i (told n)
  by_next no_more q = words_next text i ∙ ap (words_after text) q
  by_next (next w e) q =
      let a = subst (Ahead i (length text)) q (next_ahead text i) in
      record { is = w; token = refl; place = refl; words = words_next text i ∙ ap (words_after text) q; from = a.0; past = a.1; within = a.2 }
  by_next (stop r p) q =
      let a = subst (Ahead i (length text)) q (next_ahead text i) in
      let k = a.2 p in
      record {
        words = words_next text i ∙ ap (words_after text) q ∙ sym (ap (λ s. refuse s (place_of (error_for r p))) k.0 ∙ ap (refuse r) k.1);
        from = subst (λ (n : ℕ). i ≤ n) (sym k.1) a.0;
        within = subst (λ (n : ℕ). n < length text) (sym k.1) a.1;
      }

  -- the code's answer is right about them
  pub answered : (f : Found) → f ≡ found_from text i → Says text i f
  answered f e = subst (Says text i) (sym e) (by_next (next_from text i) refl)
