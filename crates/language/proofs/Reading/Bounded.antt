-- The machine that stops at the first word past the deepest level gives the answer of reading, and its table is that of the tree.
use mathlib.Core.Path.{◌≡◌, refl, sym, ◌∙◌, ap, subst}
use mathlib.Core.Bool.{Bool, true, false, cond}
use mathlib.Core.List.{List, [], ◌∷◌}
use mathlib.Core.Option.{Option, none, some}
use Prim.Native.Nat.{ℕ, ◌≤◌}
use lib.Dec.{ltb}
use lib.ListN.{length}
use Rattle.language.specs.Syntax.{Block}
use Rattle.language.specs.Answers.{fine}
use Rattle.language.specs.Words.{Word, place_word, words_of, most}
use Rattle.language.specs.Grammar.{BLOCK, Reads}
use Rattle.language.specs.Table.{Forest, shape_block, Node, enc}
use Rattle.language.specs.Levels.{levels, deepest}
use Rattle.language.specs.Reading.{Within}
use Rattle.language.proofs.Reading.Machine.{tag, Entry, ent, opened, Rule, rule, rules, pick, Parsed, through, stuck, parse, start, whole}
use Rattle.language.proofs.Reading.Reader.{deep, levels_in, levelled, read}
use Rattle.language.proofs.Reading.Bounds.{End, finished, wrong, too_deep, fire_b, bounded, answer_of}
use Rattle.language.proofs.Reading.Written.{written}
use Rattle.language.proofs.Reading.Answer.{deep_within, of_words}
use Rattle.language.proofs.Reading.Machine

abbrev end_of : Parsed → End
end_of (through t o) = finished t
end_of (stuck rest o) = wrong rest

-- no word past the deepest: the same end; else that word
abbrev Same : Option Word → Parsed → End → Type 0
Same none r e = e ≡ end_of r
Same (some x) r e = (rest : List Word) × (e ≡ too_deep (x ∷ rest))

same_end : (ts : List Word) (s : List Entry) (t : List Node) (f : List ℕ → List ℕ) → (z : List ℕ) × (levels_in (parse ts s t f) ≡ f z) × Same (deep z ts) (parse ts s t f) (bounded ts s t)
unfolding parse bounded deep
same_end [] [] t f = ([], refl, refl)
same_end [] (x ∷ s) t f = ([], refl, refl)
same_end (x ∷ ts) [] t f = ([], refl, refl)
same_end (x ∷ ts) (ent X q u ∷ s) t f = go (pick (tag x) (rules X)) (λ s' t' g. same_end ts s' t' g)
  where
    go : (c : Option Rule)
        → ((s' : List Entry) (t' : List Node) (g : List ℕ → List ℕ) → (z : List ℕ) × (levels_in (parse ts s' t' g) ≡ g z) × Same (deep z ts) (parse ts s' t' g) (bounded ts s' t'))
        → (z : List ℕ)
        × (levels_in (elim c as (λ _. Parsed) [ none ↦ stuck (x ∷ ts) (f []) | some ρ ↦ Machine.fire ρ (place_word x) q u s t f (λ s' t' g. parse ts s' t' g) ]) ≡ f z)
        × Same
        (deep z (x ∷ ts))
        (elim c as (λ _. Parsed) [ none ↦ stuck (x ∷ ts) (f []) | some ρ ↦ Machine.fire ρ (place_word x) q u s t f (λ s' t' g. parse ts s' t' g) ])
        (elim c as (λ _. End) [ none ↦ wrong (x ∷ ts) | some ρ ↦ fire_b ρ x ts q u s t (λ s' t'. bounded ts s' t') ])
    go none ih = ([], refl, refl)
    go (some (rule j a ps ns)) ih = let w = ih _ _ _ in (opened ps u ∷ w.0, w.1, past (ltb deepest (opened ps u)) w.0 _ _ w.2)
      where
        past : (b : Bool) (z : List ℕ) (r : Parsed) (e : End) → Same (deep z ts) r e → Same (cond b (some x) (deep z ts)) r (cond b (too_deep (x ∷ ts)) e)
        past true z r e h = (ts, refl)
        past false z r e h = h

same_answer : (s : List ℕ) (ts : List Word) (d : Option Word) (r : Parsed) (e : End) → Same d r e → levelled s ts r d ≡ answer_of s ts e
same_answer s ts none (through t o) e h = ap (answer_of s ts) (sym h)
same_answer s ts none (stuck rest o) e h = ap (answer_of s ts) (sym h)
same_answer s ts (some x) r e h = ap (answer_of s ts) (sym h.1)

-- The answer to at most so many words is that of the machine's end.
pub bounded_answer : (s : List ℕ) (ts : List Word) → words_of s ≡ fine ts → length ts ≤ most → read s ≡ answer_of s ts (bounded ts start [])
bounded_answer s ts e h =
    let w = same_end ts start [] (λ l. l) in
    of_words s ts e h ∙ same_answer s ts (deep (levels_in (whole ts)) ts) (whole ts) (bounded ts start []) (subst (λ (z : List ℕ). Same (deep z ts) (whole ts) (bounded ts start [])) (sym w.1) w.2)

-- Where it finishes, its table is that of the tree.
pub bounded_table : {b : Block} {ts : List Word} → Reads BLOCK b ts [] → Within deepest (levels b) → bounded ts start [] ≡ finished (enc (shape_block b Forest.none) 0)
bounded_table {b} {ts} h w =
    let v = same_end ts start [] (λ l. l) in
    let e : v.0 ≡ levels b = sym v.1 ∙ ap levels_in (written h) in
    let d : deep v.0 ts ≡ none = ap (λ (z : List ℕ). deep z ts) e ∙ deep_within (levels b) ts w in
    subst (λ (o : Option Word). Same o (whole ts) (bounded ts start [])) d v.2 ∙ ap end_of (written h)
