-- Words stand in the order of their places, and so do the nodes: each word makes at most one node, at its own place.
use mathlib.Core.Path.{◌≡◌, refl, sym, ◌∙◌, ap, subst}
use mathlib.Core.List.{List, [], ◌∷◌, ◌++◌, map}
use mathlib.Core.Option.{Option, none, some}
use Prim.Native.Nat.{ℕ, zero, suc, ◌+◌, ◌≤◌}
use native.Mathlib.Omega.{arith}
use Rattle.language.specs.Syntax.{Block}
use Rattle.language.specs.Answers.{Result, fine, refuse}
use Rattle.language.specs.Words.{Word, place_word, Front, gap, word, bad, front, before, words_from, words_of, name_from}
use Rattle.language.specs.Grammar.{BLOCK, Reads}
use Rattle.language.specs.Table.{Forest, shape_block, Node, node, enc}
use Rattle.language.specs.Claims.{Rising, end, next, place_of_node}
use Rattle.language.proofs.Reading.Machine.{sib, set_sib, link, add_leaf, add_fork, rekind, retype, set_block, blocked, Ctx, cal, Entry, ent, Act, act, Rule, rule, rules, tag, pick, Parsed, through, stuck, parse, start}
use Rattle.language.proofs.Reading.First.{no_stop}
use Rattle.language.proofs.Reading.Written.{written}
use Rattle.language.proofs.Reading.Fits.{done_table}
use Rattle.language.proofs.Reading.Payload.{front_right, right_place, same_words, not_are}
use Rattle.language.proofs.Reading.Machine

-- ---- words

later : {i j : ℕ} (l : List ℕ) → i ≤ j → Rising j l → Rising i l
later {i} [] h end = end
later {i} (p ∷ l) h (next k r) = next {i = i} {p = p} (omega (arith, h, k)) r

words_rise_from : (s : List ℕ) (k i : ℕ) (ts : List Word) → words_from s k i ≡ fine ts → Rising i (map place_word ts)
unfolding words_from
words_rise_from [] k i ts e = subst (λ (l : List Word). Rising i (map place_word l)) (same_words e) end
words_rise_from (b ∷ s) (suc k) i ts e = later _ (omega arith) (words_rise_from s k (i + 1) ts e)
words_rise_from (b ∷ s) zero i ts e = go (front i b s) refl e (λ k us e'. words_rise_from s k (i + 1) us e')
  where
    put : (w : Word) (v : (Result (List Word))) → place_word w ≡ i → before w v ≡ fine ts → ((us : List Word) → v ≡ fine us → Rising (i + 1) (map place_word us)) →
        Rising i (map place_word ts)
    put w (fine us) h e' ih =
        let r : Rising i (map place_word (w ∷ us)) = next {i = i} {p = place_word w} (omega (arith, h)) (later _ (omega (arith, h)) (ih us refl)) in
        subst (λ (l : List Word). Rising i (map place_word l)) (same_words e') r
    put w (refuse n p) h e' ih = absurd (not_are e')

    go : (f : Front)
        → front i b s ≡ f
        → elim f as (λ _. (Result (List Word))) [ gap ↦ words_from s 0 (i + 1) | word w more ↦ before w (words_from s more (i + 1)) | bad n ↦ refuse n i ] ≡ fine ts
        → ((k : ℕ) (us : List Word) → words_from s k (i + 1) ≡ fine us → Rising (i + 1) (map place_word us))
        → Rising i (map place_word ts)
    go gap f e' ih = later _ (omega arith) (ih 0 ts e')
    go (word w more) f e' ih = put w (words_from s more (i + 1)) (right_place i (name_from (b ∷ s)) w (front_right i b s w more f)) e' (λ us e''. ih more us e'')
    go (bad n) f e' ih = absurd (not_are e')

pub words_rise : (s : List ℕ) (ts : List Word) → words_of s ≡ fine ts → Rising 0 (map place_word ts)
words_rise s ts e = words_rise_from s 0 0 ts e

-- ---- nodes

abbrev places : List Node → List ℕ
places t = map place_of_node t

places_set_sib : (q m : ℕ) (t : List Node) → places (set_sib q m t) ≡ places t
unfolding set_sib
places_set_sib q m [] = refl
places_set_sib zero m (node k p c s ∷ t) = refl
places_set_sib (suc q) m (x ∷ t) = ap (λ (l : List ℕ). place_of_node x ∷ l) (places_set_sib q m t)

places_link : (q m : ℕ) (t : List Node) → places (link q m t) ≡ places t
unfolding link
places_link zero m t = refl
places_link (suc q) m t = places_set_sib q m t

places_retype : (k : ℕ) (t : List Node) → places (retype k t) ≡ places t
unfolding retype
places_retype k [] = refl
places_retype k (node j p c s ∷ []) = refl
places_retype k (x ∷ y ∷ t) = ap (λ (l : List ℕ). place_of_node x ∷ l) (places_retype k (y ∷ t))

places_set_block : (i : ℕ) (t : List Node) → places (set_block i t) ≡ places t
unfolding set_block
places_set_block i [] = refl
places_set_block zero (node k p c s ∷ t) = refl
places_set_block (suc i) (x ∷ t) = ap (λ (l : List ℕ). place_of_node x ∷ l) (places_set_block i t)

places_blocked : (c : ℕ) (t : List Node) → places (blocked c t) ≡ places t
unfolding blocked
places_blocked zero t = refl
places_blocked (suc i) t = places_set_block i t

places_add : (t : List Node) (x : Node) → places (t ++ (x ∷ [])) ≡ places t ++ (place_of_node x ∷ [])
places_add [] x = refl
places_add (y ∷ t) x = ap (λ (l : List ℕ). place_of_node y ∷ l) (places_add t x)

snoc_append : (a : List ℕ) (p : ℕ) (l : List ℕ) → (a ++ (p ∷ [])) ++ l ≡ a ++ (p ∷ l)
snoc_append [] p l = refl
snoc_append (x ∷ a) p l = ap (λ (z : List ℕ). x ∷ z) (snoc_append a p l)

-- what was written has these places, and then some that rise from i
abbrev Then : List ℕ → ℕ → List ℕ → Type 0
Then before i after = (l : List ℕ) × (after ≡ before ++ l) × Rising i l

-- a rule makes one node at the place of its word, or none
acted : (a : Act) (p q : ℕ) (u : Ctx) (t : List Node) (i : ℕ) (after : List ℕ) → i ≤ p → Then (places (act a p q u t)) (suc p) after → Then (places t) i after
unfolding add_leaf add_fork
acted Machine.skip p q u t i after h (l, e, r) = (l, e, later l (omega (arith, h)) r)
acted (Machine.leaf k) p q u t i after h (l, e, r) =
    let n = places_add (link q _ t) (node k p 0 0) ∙ ap (λ (z : List ℕ). z ++ (p ∷ [])) (places_link q _ t) in
    (p ∷ l, e ∙ (ap (λ (z : List ℕ). z ++ l) n ∙ snoc_append (places t) p l), next h r)
acted (Machine.fork k) p q u t i after h (l, e, r) =
    let n = places_add (link q _ t) (node k p _ 0) ∙ ap (λ (z : List ℕ). z ++ (p ∷ [])) (places_link q _ t) in
    (p ∷ l, e ∙ (ap (λ (z : List ℕ). z ++ l) n ∙ snoc_append (places t) p l), next h r)
acted (Machine.turn k) p q u t i after h (l, e, r) = (l, e ∙ ap (λ (z : List ℕ). z ++ l) (places_retype k t), later l (omega (arith, h)) r)
acted (Machine.lead k) p q u t i after h (l, e, r) =
    let b = blocked (cal u) (retype 1 t) in
    let same = places_blocked (cal u) (retype 1 t) ∙ places_retype 1 t in
    let n = places_add (link q _ b) (node k p _ 0) ∙ (ap (λ (z : List ℕ). z ++ (p ∷ [])) (places_link q _ b) ∙ ap (λ (z : List ℕ). z ++ (p ∷ [])) same) in
    (p ∷ l, e ∙ (ap (λ (z : List ℕ). z ++ l) n ∙ snoc_append (places t) p l), next h r)

append_none : (a : List ℕ) → a ≡ a ++ []
append_none [] = refl
append_none (x ∷ a) = ap (λ (z : List ℕ). x ∷ z) (append_none a)

nodes_rise_from : (ts : List Word) (s : List Entry) (t : List Node) (f : List ℕ → List ℕ) (t' : List Node) (o : List ℕ) (i : ℕ) →
    Rising i (map place_word ts) → parse ts s t f ≡ through t' o → Then (places t) i (places t')
unfolding parse
nodes_rise_from [] [] t f t' o i r e = ([], ap places (sym (done_table e)) ∙ append_none (places t), end)
nodes_rise_from [] (x ∷ s) t f t' o i r e = absurd (no_stop e)
nodes_rise_from (x ∷ ts) [] t f t' o i r e = absurd (no_stop e)
nodes_rise_from (x ∷ ts) (ent X q u ∷ s) t f t' o i (next h r) e = go (pick (tag x) (rules X)) e (λ s' tab g e'. nodes_rise_from ts s' tab g t' o (suc (place_word x)) r e')
  where
    go : (c : Option Rule)
        → elim c as (λ _. Parsed) [ none ↦ stuck (x ∷ ts) (f []) | some ρ ↦ Machine.fire ρ (place_word x) q u s t f (λ s' t' g. parse ts s' t' g) ] ≡ through t' o
        → ((s' : List Entry) (tab : List Node) (g : List ℕ → List ℕ) → parse ts s' tab g ≡ through t' o → Then (places tab) (suc (place_word x)) (places t'))
        → Then (places t) i (places t')
    go none e' ih = absurd (no_stop e')
    go (some (rule j a ps ns)) e' ih = acted a (place_word x) q u t i (places t') h (ih _ _ _ e')

-- The nodes of a program stand in the order of their places, and no two at one place.
pub nodes_rise : {b : Block} (s : List ℕ) (ts : List Word) → words_of s ≡ fine ts → Reads BLOCK b ts [] → Rising 0 (map place_of_node (enc (shape_block b Forest.none) 0))
nodes_rise {b} s ts e h =
    let n = nodes_rise_from ts start [] (λ l. l) (enc (shape_block b Forest.none) 0) _ 0 (words_rise s ts e) (written h) in
    subst (Rising 0) (sym n.1) n.2
