-- The words of a text in a table: as many as it has room for, or TOKENS at the first for which it has none.
use mathlib.Core.Path.{◌≡◌, refl, sym, ◌∙◌, ap, subst}
use mathlib.Core.List.{List, [], ◌∷◌, ◌++◌, map}
use mathlib.Core.Option.{Option, none, some}
use mathlib.Core.Bool.{Bool, true, false}
use Prim.Native.Nat.{ℕ, zero, suc, ◌+◌, ◌-◌, ◌<◌, ◌≤◌}
use native.Mathlib.Omega.{arith}
use lib.Dec.{leb}
use lib.ListN.{length, take, drop, set, length-map, length-set, length-append}
use lib.Seq.{set-append_seam, append_snoc, take_at}
use borrow.Author.Tests.{eq-eqb, ne_eqb, le-leb, lt-leb, leb-true, leb-false}
use Rattle.language.specs.Answers.{TOKENS, Result, fine, refuse, refusal_number}
use Rattle.language.specs.Words.{Word, place_word, words_of, most}
use Rattle.language.proofs.Reading.Reader
use Rattle.language.proofs.Reading.Reader.{past, read}
use Rattle.scanning.specs.Scanning.{word_entry, whole, halted, stored, scanned}
use Rattle.reading.specs.Outcomes.{told}

-- as many words as there is room for stand in the table, behind those that stand there already
stored_room : (ws : List Word) (p q : List ℕ) (over : ℕ) → length ws ≤ length q
    → stored ws (p ++ q) (length p) over ≡ whole (p ++ (map word_entry ws ++ drop (length ws) q)) (length p + length ws)
stored_room [] p q over h =
    let fits : length p ≤ length (p ++ q) = omega (arith, length-append p q) in
    let same : length p ≡ length p + 0 = omega arith in
    rw (le-leb (length p) (length (p ++ q)) fits) (ap (whole (p ++ q)) same)
stored_room (w ∷ ws) p [] over h = absurd (omega arith)
stored_room (w ∷ ws) p (v ∷ q) over h =
    let a = word_entry w in
    let one : length (p ++ (a ∷ [])) ≡ length p + 1 = length-append p (a ∷ []) in
    let more : length (p ++ (a ∷ [])) + length ws ≡ length p + suc (length ws) = omega (arith, one) in
    rw (set-append_seam p v q a, ← append_snoc p a q, ← one, ← append_snoc p a (map word_entry ws ++ drop (length ws) q), ← more)
    (stored_room ws (p ++ (a ∷ [])) q _ (omega arith))

-- where the table is full, the first word that found no room is kept
stored_full : (ws : List Word) (l : List ℕ) (n over : ℕ) → length l < n → stored ws l n over ≡ halted (refusal_number TOKENS) over
stored_full [] l n over h = rw (lt-leb n (length l) h) refl
stored_full (w ∷ ws) l n over h =
    rw (ne_eqb n (length l) (λ z. omega arith)) (stored_full ws (set l n (word_entry w)) (n + 1) over (omega (arith, length-set l n (word_entry w))))

no_word : {x : Word} → ◌≡◌ {A = Option Word} none (some x) → ⊥
no_word e = let z : ◌≡◌ {A = ℕ} 0 1 = cc in omega arith

same_word : {x y : Word} → some x ≡ some y → x ≡ y
same_word e = cc

stored_over : (ws : List Word) (l : List ℕ) (n over : ℕ) (x : Word) → n ≤ length l → past (length l - n) ws ≡ some x
    → stored ws l n over ≡ halted (refusal_number TOKENS) (place_word x)
unfolding past
stored_over [] l n over x h e = absurd (no_word e)
stored_over (w ∷ ws) l n over x h e = go (leb (length l) n) refl (λ room k. stored_over ws (set l n (word_entry w)) (n + 1) over x room k)
  where
    kept : length (set l n (word_entry w)) ≡ length l
    kept = length-set l n (word_entry w)

    go : (b : Bool) → leb (length l) n ≡ b
        → (n + 1 ≤ length (set l n (word_entry w)) → past (length (set l n (word_entry w)) - (n + 1)) ws ≡ some x
        → stored ws (set l n (word_entry w)) (n + 1) over ≡ halted (refusal_number TOKENS) (place_word x))
        → stored (w ∷ ws) l n over ≡ halted (refusal_number TOKENS) (place_word x)
    go true b ih =
        let full : n ≡ length l = omega (arith, leb-true (length l) n b) in
        let none_left : length l - n ≡ 0 = omega arith in
        let is : w ≡ x = same_word (rw none_left at e) in
        rw (eq-eqb n (length l) full)
        (stored_full ws (set l n (word_entry w)) (n + 1) (place_word w) (omega (arith, kept))
        ∙ ap (λ (y : Word). halted (refusal_number TOKENS) (place_word y)) is)
    go false b ih =
        let room : n < length l = leb-false (length l) n b in
        let left : length l - n ≡ suc (length (set l n (word_entry w)) - (n + 1)) = omega (arith, kept) in
        rw (ne_eqb n (length l) (λ z. omega arith)) (ih (omega (arith, kept)) (rw left at e))

-- no more words than there is room for
within : (n : ℕ) (ts : List Word) → past n ts ≡ none → length ts ≤ n
unfolding past
within n [] e = omega arith
within zero (x ∷ ts) e = absurd (no_word (sym e))
within (suc n) (x ∷ ts) e = let h = within n ts e in omega (arith, h)

halts : {l : List ℕ} {n c p : ℕ} → whole l n ≡ halted c p → ⊥
halts e = let z : ◌≡◌ {A = ℕ} 0 1 = cc in omega arith

same_table : {l k : List ℕ} {n m : ℕ} → whole l n ≡ whole k m → l ≡ k
same_table e = cc

same_count : {l k : List ℕ} {n m : ℕ} → whole l n ≡ whole k m → n ≡ m
same_count e = cc

-- what the loop leaves of a text, in a table with room for the most words
module _ (s l : List ℕ) (size : length l ≡ most) where
  -- BYTE, NUMBER or TOKENS: the answer to the text
  pub scan_refused : (tree : List ℕ) (c p : ℕ) → scanned (words_of s) l 0 0 ≡ halted c p → told tree (read s) ≡ halted c p
  unfolding read
  scan_refused tree c p h = go (words_of s) h
    where
      count : (ts : List Word) (o : Option Word) → past most ts ≡ o → stored ts l 0 0 ≡ halted c p → told tree (Reader.counted s ts o) ≡ halted c p
      count ts (some x) e h =
          let z : most ≡ length l - 0 = omega arith in
          sym (stored_over ts l 0 0 x (omega arith) (subst (λ (n : ℕ). past n ts ≡ some x) z e)) ∙ h
      count ts none e h = absurd (halts (sym (stored_room ts [] l 0 (omega (arith, within most ts e))) ∙ h))

      go : (w : Result (List Word)) → scanned w l 0 0 ≡ halted c p → told tree (Reader.scanned s w) ≡ halted c p
      go (refuse r q) h = h
      go (fine ts) h = count ts (past most ts) refl h

  -- else the words, each at its entry
  pub scan_whole : (k : List ℕ) (n : ℕ) → scanned (words_of s) l 0 0 ≡ whole k n
      → (ts : List Word) × (words_of s ≡ fine ts) × (n ≡ length ts) × (length ts ≤ most) × (take n k ≡ map word_entry ts)
  scan_whole k n h = go (words_of s) refl h
    where
      count : (ts : List Word) → words_of s ≡ fine ts → (o : Option Word) → past most ts ≡ o → stored ts l 0 0 ≡ whole k n
          → (ts : List Word) × (words_of s ≡ fine ts) × (n ≡ length ts) × (length ts ≤ most) × (take n k ≡ map word_entry ts)
      count ts e (some x) p h =
          let z : most ≡ length l - 0 = omega arith in
          absurd (halts (sym h ∙ stored_over ts l 0 0 x (omega arith) (subst (λ (n : ℕ). past n ts ≡ some x) z p)))
      count ts e none p h =
          let few : length ts ≤ most = within most ts p in
          let all = stored_room ts [] l 0 (omega arith) in
          let many : n ≡ length ts = omega (arith, same_count (sym h ∙ all)) in
          let there : k ≡ map word_entry ts ++ drop (length ts) l = same_table (sym h ∙ all) in
          (ts, e, many, few, rw there (take_at (map word_entry ts) (drop (length ts) l) n (length-map ts word_entry ∙ sym many)))

      go : (w : Result (List Word)) → words_of s ≡ w → scanned w l 0 0 ≡ whole k n
          → (ts : List Word) × (words_of s ≡ fine ts) × (n ≡ length ts) × (length ts ≤ most) × (take n k ≡ map word_entry ts)
      go (refuse r q) e h = absurd (halts (sym h))
      go (fine ts) e h = count ts e (past most ts) refl h
