-- Levels open one by one: the first past the deepest is the next.
use mathlib.Core.Path.{◌≡◌, refl, sym, ◌∙◌, ap, subst}
use mathlib.Core.List.{List, [], ◌∷◌, ◌++◌}
use mathlib.Core.Option.{Option, none, some}
use Prim.Native.Nat.{ℕ, suc, ◌≤◌, ◌<◌}
use native.Mathlib.Omega.{arith}
use lib.ListN.{length}
use Rattle.language.specs.Syntax.{Block}
use Rattle.language.specs.Words.{Word, place_word}
use Rattle.language.specs.Grammar.{BLOCK, Reads}
use Rattle.language.specs.Table.{Node}
use Rattle.language.specs.Levels.{levels, deepest}
use Rattle.language.specs.Reading.{Within, a_level}
use Rattle.language.proofs.Reading.Machine.{tag, Sym, Ctx, lev, Entry, ent, Push, kid, deep, same, body, back, call, opened, places, follow, Rule, rule, rules, pick, Parsed, stuck, parse, start}
use Rattle.language.proofs.Reading.Reader.{levels_in}
use Rattle.language.proofs.Reading.Complete.{complete}
use Rattle.language.proofs.Reading.Machine

-- each level is at most one more than the highest before it, or d
abbrev Climbs : ℕ → List ℕ → Type 0
Climbs d [] = Unit {0}
Climbs d (l ∷ ls) = (l ≤ suc d) × ((m : ℕ) → d ≤ m → l ≤ m → Climbs m ls)

abbrev Low : ℕ → List Entry → Type 0
Low d [] = Unit {0}
Low d (ent X q u ∷ s) = (lev u ≤ d) × Low d s

low_more : (d m : ℕ) (s : List Entry) → d ≤ m → Low d s → Low m s
low_more d m [] h a = tt
low_more d m (ent X q u ∷ s) h a = let k = a.0 in (omega (arith, k, h), low_more d m s h a.1)

low_follow : (ns : Option Sym) (n : ℕ) (u : Ctx) (s : List Entry) (m : ℕ) → lev u ≤ m → Low m s → Low m (follow ns n u s)
low_follow none n u s m h a = a
low_follow (some X) n u s m h a = (h, a)

low_places : (ps : Option Push) (n q : ℕ) (u : Ctx) (s : List Entry) (m : ℕ) → lev u ≤ m → opened ps u ≤ m → Low m s → Low m (places ps n q u s)
low_places none n q u s m h k a = a
low_places (some (kid X)) n q u s m h k a = (h, a)
low_places (some (deep X)) n q u s m h k a = (k, a)
low_places (some (same X)) n q u s m h k a = (h, a)
low_places (some (body X)) n q u s m h k a = (h, a)
low_places (some (back X)) n q u s m h k a = (h, a)
low_places (some (call X)) n q u s m h k a = (h, a)

opened_low : (ps : Option Push) (u : Ctx) (d : ℕ) → lev u ≤ d → opened ps u ≤ suc d
opened_low none u d h = omega arith
opened_low (some (kid X)) u d h = omega arith
opened_low (some (deep X)) u d h = omega (arith, h)
opened_low (some (same X)) u d h = omega arith
opened_low (some (body X)) u d h = omega arith
opened_low (some (back X)) u d h = omega arith
opened_low (some (call X)) u d h = omega arith

climb : (ts : List Word) (s : List Entry) (t : List Node) (f : List ℕ → List ℕ)
    → (z : List ℕ) × (levels_in (parse ts s t f) ≡ f z) × ((d : ℕ) → Low d s → Climbs d z)
unfolding parse
climb [] [] t f = ([], refl, λ d a. tt)
climb [] (x ∷ s) t f = ([], refl, λ d a. tt)
climb (x ∷ ts) [] t f = ([], refl, λ d a. tt)
climb (x ∷ ts) (ent X q u ∷ s) t f = go (pick (tag x) (rules X)) (λ s' t' g. climb ts s' t' g)
  where
    go : (c : Option Rule)
        → ((s' : List Entry) (t' : List Node) (g : List ℕ → List ℕ) → (z : List ℕ) × (levels_in (parse ts s' t' g) ≡ g z) × ((d : ℕ) → Low d s' → Climbs d z))
        → (z : List ℕ)
        × (levels_in (elim c as (λ _. Parsed) [ none ↦ stuck (x ∷ ts) (f []) | some ρ ↦ Machine.fire ρ (place_word x) q u s t f (λ s' t' g. parse ts s' t' g) ]) ≡ f z)
        × ((d : ℕ) → Low d (ent X q u ∷ s) → Climbs d z)
    go none ih = ([], refl, λ d a. tt)
    go (some (rule j a ps ns)) ih =
        let n = suc (length t) in
        let w = ih (places ps n q u (follow ns n u s)) (Machine.act a (place_word x) q u t) (λ l. f (opened ps u ∷ l)) in (
          opened ps u ∷ w.0,
          w.1,
          λ d b.
              let b0 = b.0 in (
                opened_low ps u d b0,
                λ m h k. let e : lev u ≤ m = omega (arith, b0, h) in w.2 m (low_places ps n q u (follow ns n u s) m e k (low_follow ns n u s m e (low_more d m s h b.1))),
              ),
        )

pub climbs : {b : Block} {ts : List Word} → Reads BLOCK b ts [] → Climbs 0 (levels b)
climbs {b} {ts} h =
    let w = climb ts start [] (λ l. l) in
    let zero-low : 0 ≤ 0 = omega arith in
    subst (Climbs 0) (sym w.1 ∙ ap levels_in (complete h)) (w.2 0 (zero-low, tt))

first_past : (ls : List ℕ) (l : ℕ) (more : List ℕ) (d : ℕ) → d ≤ deepest → Climbs d (ls ++ (l ∷ more)) → Within deepest ls → l ≤ suc deepest
first_past [] l more d h c w = let k = c.0 in omega (arith, k, h)
first_past (i ∷ ls) l more d h c (a_level k w) = let e : deepest ≤ deepest = omega arith in first_past ls l more deepest e (c.1 deepest h k) w

-- the first level past the deepest is the one after it
pub next_level : {b : Block} {ts : List Word} (ls : List ℕ) (l : ℕ) (more : List ℕ) → Reads BLOCK b ts [] → levels b ≡ ls ++ (l ∷ more) → Within deepest ls → deepest < l → l ≡ suc deepest
next_level ls l more r e w h =
    let z : 0 ≤ deepest = omega arith in
    let k = first_past ls l more 0 z (subst (Climbs 0) e (climbs r)) w in
    omega (arith, k, h)
