-- The machine on numbers gives the answer of reading: the tree's table, or the refusal's number and place.
use mathlib.Core.Path.{◌≡◌, refl, sym, ◌∙◌, ap}
use mathlib.Core.List.{List, [], ◌∷◌, ◌++◌, map}
use mathlib.Core.Option.{Option, none, some}
use mathlib.Core.Bool.{Bool, true, false, cond}
use Prim.Native.Nat.{ℕ, ◌<◌, ◌≤◌}
use native.Mathlib.Omega.{arith}
use lib.Dec.{ltb}
use lib.ListN.{length, drop, length-map}
use Rattle.language.specs.Syntax.{Block}
use Rattle.language.specs.Answers.{fine}
use Rattle.language.specs.Words.{Word, place_word, words_of, most}
use Rattle.language.specs.Table.{Forest, shape_block, Node, word_of, enc, table}
use Rattle.language.specs.Levels.{deepest}
use Rattle.language.proofs.Reading.Machine.{tag, Entry, ent, opened, Rule, rule, rules, pick, Parsed, through, stuck, parse, start, fire}
use Rattle.language.proofs.Reading.Bounds.{End, finished, wrong, too_deep, fire_b, bounded, answer_of}
use Rattle.language.proofs.Reading.Bounded.{bounded_answer}
use Rattle.language.proofs.Reading.Descent.{Got}
use Rattle.language.proofs.Reading.Reader.{accept, read}
use Rattle.language.proofs.Reading.Sound.{sound}
use Rattle.language.proofs.Reading.Written.{written}
use Rattle.language.proofs.Reading.One.{built}
use Rattle.language.proofs.Reading.Payload.{All, words_stand}
use Rattle.nodes.proofs.Proper.{Low, Proper, proper}
use Rattle.nodes.proofs.Standing.{low_places}
use Rattle.scanning.specs.Scanning.{word_entry, whole}
use Rattle.parsing.specs.Codes.{entry_word}
use Rattle.parsing.specs.Steps.{run}
use Rattle.reading.specs.Outcomes.{told}
use Rattle.reading.proofs.Trees.{word_in, fit_none}
use Rattle.reading.proofs.Narrow.{narrow}
use Rattle.reading.proofs.Simulated.{stacked_none, stacked_more, spoken, simulated}

-- where the bounded machine finishes, the unbounded one goes through, with the same nodes
abbrev Follows : End → Parsed → Type 0
Follows (finished t) r = (o : List ℕ) × (r ≡ through t o)
Follows (wrong rest) r = Unit {0}
Follows (too_deep rest) r = Unit {0}

follows : (ts : List Word) (s : List Entry) (t : List Node) (f : List ℕ → List ℕ) → Follows (bounded ts s t) (parse ts s t f)
unfolding parse bounded
follows [] [] t f = (f [], refl)
follows [] (x ∷ s) t f = tt
follows (x ∷ ts) [] t f = tt
follows (x ∷ ts) (ent X q u ∷ s) t f = go (pick (tag x) (rules X)) (λ s' t' g. follows ts s' t' g)
  where
    go : (o : Option Rule)
        → ((s' : List Entry) (t' : List Node) (g : List ℕ → List ℕ) → Follows (bounded ts s' t') (parse ts s' t' g))
        → Follows
        (elim o as (λ _. End) [ none ↦ wrong (x ∷ ts) | some ρ ↦ fire_b ρ x ts q u s t (λ s' t'. bounded ts s' t') ])
        (elim o as (λ _. Parsed) [ none ↦ stuck (x ∷ ts) (f []) | some ρ ↦ fire ρ (place_word x) q u s t f (λ s' t' g. parse ts s' t' g) ])
    go none ih = tt
    go (some (rule j a ps ns)) ih = within (ltb deepest (opened ps u)) _ _ (ih _ _ _)
      where
        within : (b : Bool) (e : End) (r : Parsed) → Follows e r → Follows (cond b (too_deep (x ∷ ts)) e) r
        within true e r h = tt
        within false e r h = h

same_nodes : {t t' : List Node} {o o' : List ℕ} → through t o ≡ through t' o' → t ≡ t'
same_nodes e = cc

told_nodes : (l : List ℕ) (b : Block) (t : List Node) → Proper (shape_block b Forest.none) → t ≡ enc (shape_block b Forest.none) 0
    → whole (map word_in t ++ drop (length t) l) (length t) ≡ told l (fine b)
unfolding table
told_nodes l b t h e = rw (e, narrow (shape_block b Forest.none) 0 h, length-map (enc (shape_block b Forest.none) 0) word_of) refl

spoken_told : (s l : List ℕ) (ts : List Word) → All Low ts → (e : End) → Follows e (parse ts start [] (λ z. z)) → spoken s l e ≡ told l (answer_of s ts e)
spoken_told s l ts low (wrong rest) h = refl
spoken_told s l ts low (too_deep rest) h = refl
spoken_told s l ts low (finished t) h =
    let p = sound ts t h.0 h.1 in
    let same : t ≡ enc (shape_block p.0 Forest.none) 0 = same_nodes (sym h.1 ∙ written p.1) in
    told_nodes l p.0 t (proper p.1 low) same ∙ ap (λ (g : Got Block). told l (accept g)) (sym (built p.1))

zero_fits : 0 < 65536
zero_fits = omega arith

-- the machine on the words of a text gives the answer to it
pub answered : (s l : List ℕ) (ts : List Word) → length s ≤ 65536 → words_of s ≡ fine ts → length ts ≤ most → most ≤ length l
    → run (length s) (map word_entry ts) (map entry_word start) l 0 ≡ told l (read s)
answered s l ts hs e h k =
    let low = low_places s hs ts (words_stand s ts e) in
    simulated s l ts start [] low
    (stacked_more zero_fits zero_fits (omega arith) stacked_none) fit_none (omega arith) (omega arith)
    ∙ spoken_told s l ts low (bounded ts start []) (follows ts start [] (λ z. z))
    ∙ ap (told l) (sym (bounded_answer s ts e h))
