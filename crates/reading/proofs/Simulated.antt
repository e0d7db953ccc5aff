-- The machine on numbers does what the language's bounded machine does.
use mathlib.Core.Path.{◌≡◌, refl, ◌∙◌, ap}
use mathlib.Core.List.{List, [], ◌∷◌, ◌++◌, map}
use mathlib.Core.Option.{Option, none, some}
use mathlib.Core.Bool.{Bool, true, false, cond}
use Prim.Native.Nat.{ℕ, suc, ◌+◌, ◌%◌, ◌<◌, ◌≤◌}
use native.Mathlib.Numerals.{add-one}
use native.Mathlib.Omega.{arith}
use lib.Dec.{ltb}
use lib.ListN.{length, drop}
use borrow.Author.Tests.{ltb-false}
use Rattle.language.specs.Answers.{SYNTAX, LEVEL, refusal_number}
use Rattle.language.specs.Words.{Word, place_word}
use Rattle.language.specs.Table.{Node}
use Rattle.language.specs.Levels.{deepest}
use Rattle.language.specs.Reading.{place_in}
use Rattle.language.proofs.Reading.Machine.{tag, cal, lev, Ctx, Sym, Push, kid, deep, same, body, back, call, Rule, rule, rules, pick, Entry}
use Rattle.language.proofs.Reading.Machine.{ent, act, opened, places, follow}
use Rattle.language.proofs.Reading.Bounds.{End, finished, wrong, too_deep, fire_b, bounded}
use Rattle.language.proofs.Reading.Payload.{All}
use Rattle.nodes.proofs.Proper.{Low}
use Rattle.scanning.specs.Scanning.{word_entry, Ended, whole, halted}
use Rattle.parsing.specs.Codes.{entry_word}
use Rattle.parsing.specs.Steps.{rule_for, run}
use Rattle.reading.proofs.Numbered.{act_kind, rule_of, rule_or_none, act_read, kind_read, link_of, call_of, rule_found, deep_found, pushed, kind_fits}
use Rattle.reading.proofs.Trees.{word_in, AllFit, wrote_words, counted_words, one_node, fit_act}

-- entries whose links have 16 bits, and whose level is none past the deepest
pub data Stacked : List Entry → Type 0 where
  stacked_none : Stacked []
  stacked_more : {X : Sym} {q : ℕ} {u : Ctx} {s : List Entry} → q < 65536 → cal u < 65536 → lev u ≤ deepest → Stacked s → Stacked (ent X q u ∷ s)

stacked_beside : (ns : Option Sym) (n : ℕ) (u : Ctx) (s : List Entry) → n < 65536 → cal u < 65536 → lev u ≤ deepest → Stacked s → Stacked (follow ns n u s)
stacked_beside none n u s hn hc hd h = h
stacked_beside (some X) n u s hn hc hd h = stacked_more hn hc hd h

zero_fits : 0 < 65536
zero_fits = omega arith

stacked_above : (ps : Option Push) (n q : ℕ) (u : Ctx) (s : List Entry) → n < 65536 → q < 65536 → cal u < 65536 → lev u ≤ deepest → opened ps u ≤ deepest
    → Stacked s → Stacked (places ps n q u s)
stacked_above none n q u s hn hq hc hd ho h = h
stacked_above (some (kid X)) n q u s hn hq hc hd ho h = stacked_more zero_fits hc hd h
stacked_above (some (deep X)) n q u s hn hq hc hd ho h = stacked_more zero_fits hc ho h
stacked_above (some (same X)) n q u s hn hq hc hd ho h = stacked_more hq hc hd h
stacked_above (some (body X)) n q u s hn hq hc hd ho h = stacked_more hq zero_fits hd h
stacked_above (some (back X)) n q u s hn hq hc hd ho h = stacked_more hc zero_fits hd h
stacked_above (some (call X)) n q u s hn hq hc hd ho h = stacked_more zero_fits hn hd h

-- what the end of the bounded machine is in numbers, for a text and a tree table
abbrev pub spoken : List ℕ → List ℕ → End → Ended
spoken text l (finished t) = whole (map word_in t ++ drop (length t) l) (length t)
spoken text l (wrong rest) = halted (refusal_number SYNTAX) (place_in text rest)
spoken text l (too_deep rest) = halted (refusal_number LEVEL) (place_in text rest)

place_of_word : (x : Word) → place_word x < 65536 → word_entry x % 65536 ≡ place_word x
place_of_word x h = omega arith

-- the table after the first nodes
abbrev table_after : List Node → List ℕ → List ℕ
table_after t l = map word_in t ++ drop (length t) l

module _ (text l : List ℕ) (x : Word) (ts : List Word) (X : Sym) (q : ℕ) (u : Ctx) (s : List Entry) (t : List Node)
    (hp : place_word x < 65536) (hq : q < 65536) (hc : cal u < 65536) (hd : lev u ≤ deepest) (n : AllFit t) (room : length t < length l) where
  at_rule : (ρ : Option Rule) → pick (tag x) (rules X) ≡ ρ → rule_for (entry_word (ent X q u)) (word_entry x) ≡ rule_or_none ρ
  at_rule ρ e = rule_found X q u hq hc (omega arith) x hp ∙ ap rule_or_none e

  refused_word : pick (tag x) (rules X) ≡ none
      → run (length text) (word_entry x ∷ map word_entry ts) (entry_word (ent X q u) ∷ map entry_word s) (table_after t l) (length t)
      ≡ halted (refusal_number SYNTAX) (place_word x)
  unfolding run
  refused_word e = rw (at_rule none e, place_of_word x hp) refl

  module _ (j : ℕ) (a : _) (ps : Option Push) (ns : Option Sym) (picked : pick (tag x) (rules X) ≡ some (rule j a ps ns)) where
    deep_word : ltb deepest (opened ps u) ≡ true
        → run (length text) (word_entry x ∷ map word_entry ts) (entry_word (ent X q u) ∷ map entry_word s) (table_after t l) (length t)
        ≡ halted (refusal_number LEVEL) (place_word x)
    unfolding run
    deep_word b =
        rw (
          at_rule (some (rule j a ps ns)) picked,
          deep_found X q u hq hc (omega arith) j a ps ns,
          b,
          place_of_word x hp,
        ) refl

    taken_word : ltb deepest (opened ps u) ≡ false
        → run (length text) (word_entry x ∷ map word_entry ts) (entry_word (ent X q u) ∷ map entry_word s) (table_after t l) (length t)
        ≡ run (length text) (map word_entry ts) (map entry_word (places ps (suc (length t)) q u (follow ns (suc (length t)) u s)))
        (table_after (act a (place_word x) q u t) l) (length (act a (place_word x) q u t))
    unfolding run
    taken_word b =
        let R = rule_of (rule j a ps ns) in
        let w = entry_word (ent X q u) in
        let hk : act_kind a < 32 = kind_fits (tag x) X (rule j a ps ns) picked in
        rw (
          at_rule (some (rule j a ps ns)) picked,
          deep_found X q u hq hc (omega arith) j a ps ns,
          b,
          place_of_word x hp,
          add-one (length t),
          pushed X q u hq hc (omega arith) j a ps ns (suc (length t)) s,
          wrote_words R w (place_word x) q u t l (link_of X q u hq hc (omega arith)) (call_of X q u hq hc (omega arith)) n room a hk (act_read j a ps ns hk) (kind_read j a ps ns hk),
          counted_words R (place_word x) q u t a (act_read j a ps ns hk),
        )
        refl

pub simulated : (text l : List ℕ) (ts : List Word) (s : List Entry) (t : List Node)
    → All Low ts → Stacked s → AllFit t → length t + length ts < 65535 → length t + length ts ≤ length l
    → run (length text) (map word_entry ts) (map entry_word s) (table_after t l) (length t) ≡ spoken text l (bounded ts s t)
unfolding run bounded
simulated text l [] [] t pl st n h k = refl
simulated text l [] (y ∷ s) t pl st n h k = refl
simulated text l (x ∷ ts) [] t pl st n h k = ap (halted (refusal_number SYNTAX)) (place_of_word x pl.0)
simulated text l (x ∷ ts) (ent X q u ∷ s) t pl (stacked_more hq hc hd st) n h k =
    go (pick (tag x) (rules X)) refl (λ s' t' st' n' h' k'. simulated text l ts s' t' pl.1 st' n' h' k')
  where
    hp : place_word x < 65536
    hp = pl.0

    room : length t < length l
    room = omega arith

    go : (o : Option Rule) → pick (tag x) (rules X) ≡ o
        → ((s' : List Entry) (t' : List Node) → Stacked s' → AllFit t' → length t' + length ts < 65535 → length t' + length ts ≤ length l
        → run (length text) (map word_entry ts) (map entry_word s') (table_after t' l) (length t') ≡ spoken text l (bounded ts s' t'))
        → run (length text) (word_entry x ∷ map word_entry ts) (entry_word (ent X q u) ∷ map entry_word s) (table_after t l) (length t)
        ≡ spoken text l (elim o as (λ _. End) [ none ↦ wrong (x ∷ ts) | some ρ ↦ fire_b ρ x ts q u s t (λ s' t'. bounded ts s' t') ])
    go none e ih = refused_word text l x ts X q u s t hp hq hc hd n room e
    go (some (rule j a ps ns)) e ih = level (ltb deepest (opened ps u)) refl
      where
        level : (b : Bool) → ltb deepest (opened ps u) ≡ b
            → run (length text) (word_entry x ∷ map word_entry ts) (entry_word (ent X q u) ∷ map entry_word s) (table_after t l) (length t)
            ≡ spoken text l (cond b (too_deep (x ∷ ts))
            (bounded ts (places ps (suc (length t)) q u (follow ns (suc (length t)) u s)) (act a (place_word x) q u t)))
        level true b = deep_word text l x ts X q u s t hp hq hc hd n room j a ps ns e b
        level false b =
            let ho : opened ps u ≤ deepest = ltb-false deepest (opened ps u) b in
            let hn : suc (length t) < 65536 = omega arith in
            let grown = one_node a (place_word x) q u t in
            taken_word text l x ts X q u s t hp hq hc hd n room j a ps ns e b
            ∙ ih (places ps (suc (length t)) q u (follow ns (suc (length t)) u s)) (act a (place_word x) q u t)
            (stacked_above ps (suc (length t)) q u (follow ns (suc (length t)) u s) hn hq hc hd ho (stacked_beside ns (suc (length t)) u s hn hc hd st))
            (fit_act a (place_word x) q u t hp (omega arith) n)
            (omega (arith, grown))
            (omega (arith, grown))
