-- A tree has at most as many nodes as words.
use mathlib.Core.Path.{◌≡◌, refl, ap}
use mathlib.Core.List.{List, [], ◌∷◌, map}
use mathlib.Core.Option.{Option, none, some}
use Prim.Native.Nat.{ℕ, suc, ◌+◌, ◌≤◌}
use native.Mathlib.Omega.{arith}
use lib.ListN.{length, length-append}
use Rattle.language.specs.Syntax.{Block}
use Rattle.language.specs.Words.{Word, place_word}
use Rattle.language.specs.Grammar.{BLOCK, Reads}
use Rattle.language.specs.Table.{Forest, shape_block, Node, node, word_of, enc, table}
use Rattle.language.proofs.Reading.Machine.{tag, link, add_leaf, add_fork, retype, blocked, Ctx, cal, Entry, ent, Act, act, Rule, rule, rules, pick, Parsed, through, stuck, parse, start}
use Rattle.language.proofs.Reading.First.{no_stop}
use Rattle.language.proofs.Reading.Kinds.{length_link, length_retype, length_blocked, length_fork}
use Rattle.language.proofs.Reading.Written.{written}
use Rattle.language.proofs.Reading.Machine

-- a rule makes at most one node
one_node : (a : Act) (p q : ℕ) (u : Ctx) (t : List Node) → length (act a p q u t) ≤ suc (length t)
unfolding add_leaf add_fork
one_node Machine.skip p q u t = omega arith
one_node (Machine.leaf k) p q u t = omega (arith, length-append (link q (length t) t) (node k p 0 0 ∷ []), length_link q (length t) t)
one_node (Machine.fork k) p q u t = omega (arith, length-append (link q (length t) t) (node k p (suc (length t)) 0 ∷ []), length_link q (length t) t)
one_node (Machine.turn k) p q u t = omega (arith, length_retype k t)
one_node (Machine.lead k) p q u t = omega (arith, length_fork k p q (blocked (cal u) (retype 1 t)), length_blocked (cal u) (retype 1 t), length_retype 1 t)

pub done_table : {t t' : List Node} {o o' : List ℕ} → through t o ≡ through t' o' → t ≡ t'
done_table e = cc

few_nodes : (ts : List Word) (s : List Entry) (t : List Node) (f : List ℕ → List ℕ) (t' : List Node) (o : List ℕ) → parse ts s t f ≡ through t' o → length t' ≤ length t + length ts
unfolding parse
few_nodes [] [] t f t' o e = let h : length t ≡ length t' = ap length (done_table e) in omega (arith, h)
few_nodes [] (x ∷ s) t f t' o e = absurd (no_stop e)
few_nodes (x ∷ ts) [] t f t' o e = absurd (no_stop e)
few_nodes (x ∷ ts) (ent X q u ∷ s) t f t' o e = go (pick (tag x) (rules X)) e (λ s' tab g e'. few_nodes ts s' tab g t' o e')
  where
    go : (c : Option Rule)
        → elim c as (λ _. Parsed) [ none ↦ stuck (x ∷ ts) (f []) | some ρ ↦ Machine.fire ρ (place_word x) q u s t f (λ s' t' g. parse ts s' t' g) ] ≡ through t' o
        → ((s' : List Entry) (tab : List Node) (g : List ℕ → List ℕ) → parse ts s' tab g ≡ through t' o → length t' ≤ length tab + length ts)
        → length t' ≤ length t + length (x ∷ ts)
    go none e' ih = absurd (no_stop e')
    go (some (rule j a ps ns)) e' ih =
        let w = ih _ _ _ e' in
        let n = one_node a (place_word x) q u t in
        omega (arith, w, n)

length-map : (l : List Node) → length (map word_of l) ≡ length l
length-map [] = refl
length-map (x ∷ l) = ap suc (length-map l)

-- So the tree table of an accepted text has room in 4,096 words.
pub few_words : {b : Block} {ts : List Word} → Reads BLOCK b ts [] → length (table b) ≤ length ts
unfolding table
few_words {b} {ts} h =
    let n = few_nodes ts start [] (λ l. l) (enc (shape_block b Forest.none) 0) _ (written h) in
    let m = length-map (enc (shape_block b Forest.none) 0) in
    omega (arith, n, m)
