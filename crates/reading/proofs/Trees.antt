-- What the code writes to the tree table is what the grammar's machine does to its nodes; behind them the table stays as it was.
use mathlib.Core.Path.{◌≡◌, refl, sym, ◌∙◌, ap}
use mathlib.Core.List.{List, [], ◌∷◌, ◌++◌, map}
use mathlib.Core.Bool.{Bool, true, false, cond}
use Prim.Native.Nat.{ℕ, zero, suc, ◌+◌, ◌-◌, ◌*◌, ◌/◌, ◌%◌, ◌<◌, ◌≤◌}
use native.Mathlib.Numerals.{add-one}
use native.Mathlib.Omega.{arith}
use lib.Dec.{eqb, leb}
use lib.ListN.{length, drop, get_or, set, length-map, length-append}
use lib.Seq.{set_at, drop-cons}
use borrow.Author.Tests.{ne_eqb, leb-true, leb-false}
use Rattle.language.specs.Table.{Node, node, word_of}
use Rattle.language.proofs.Reading.Machine.{sib, set_sib, link, add_leaf, add_fork, rekind, retype, with_block, set_block, Ctx, cal, Act, skip, leaf, fork, turn, lead, act}
use Rattle.language.proofs.Reading.Machine
use Rattle.language.proofs.Reading.Kinds.{length_link, length_retype, length_blocked, length_fork}
use Rattle.parsing.specs.Steps.{act_in, kind_in, link_in, call_in, linked, retyped, blocked, wrote, count}
use Rattle.parsing.specs.declared.rules.Rule.{Rule as CodedRule}
use Rattle.reading.proofs.Numbered.{act_kind, act_of}

-- a node's word, its kind in 16 bits: that a kind never needs more is known where the tree is, not before
abbrev pub word_in : Node → ℕ
word_in (node k p c s) = word_of (node (k % 65536) p c s)

-- a node whose parts but its kind have 16 bits
pub data Fits : Node → Type 0 where
  fits : {k p c s : ℕ} → p < 65536 → c < 65536 → s < 65536 → Fits (node k p c s)

pub data AllFit : List Node → Type 0 where
  fit_none : AllFit []
  fit_more : {x : Node} {t : List Node} → Fits x → AllFit t → AllFit (x ∷ t)

-- the sibling before is linked
sib_word : (x : Node) (m : ℕ) → Fits x → word_in x / 65536 * 65536 + m ≡ word_in (sib m x)
sib_word (node k p c s) m (fits hp hc hs) = omega arith

linked_in : (t : List Node) (q m : ℕ) (x : List ℕ) → AllFit t → q < length t
    → set (map word_in t ++ x) q (get_or (map word_in t ++ x) q 0 / 65536 * 65536 + m) ≡ map word_in (set_sib q m t) ++ x
unfolding set_sib
linked_in [] q m x n h = absurd (omega arith)
linked_in (y ∷ t) zero m x (fit_more a n) h = ap (λ (v : ℕ). v ∷ (map word_in t ++ x)) (sib_word y m a)
linked_in (y ∷ t) (suc q) m x (fit_more a n) h = ap (λ (l : List ℕ). word_in y ∷ l) (linked_in t q m x n (omega arith))

linked_out : (t : List Node) (q m : ℕ) → length t ≤ q → set_sib q m t ≡ t
unfolding set_sib
linked_out [] q m h = refl
linked_out (y ∷ t) zero m h = absurd (omega arith)
linked_out (y ∷ t) (suc q) m h = ap (λ (l : List Node). y ∷ l) (linked_out t q m (omega arith))

linked_words : (t : List Node) (q : ℕ) (x : List ℕ) → AllFit t → linked q (length t) (map word_in t ++ x) ≡ map word_in (link q (length t) t) ++ x
unfolding linked link
linked_words t zero x n = refl
linked_words t (suc q) x n = go (leb (suc q) (length t)) refl
  where
    go : (b : Bool) → leb (suc q) (length t) ≡ b
        → cond (eqb (suc q) 0) (map word_in t ++ x)
        (cond (leb (suc q) (length t))
        (set (map word_in t ++ x) (suc q - 1) (get_or (map word_in t ++ x) (suc q - 1) 0 / 65536 * 65536 + length t)) (map word_in t ++ x))
        ≡ map word_in (set_sib q (length t) t) ++ x
    go true b =
        let h : q < length t = leb-true (suc q) (length t) b in
        let e : suc q - 1 ≡ q = omega arith in
        rw (ne_eqb (suc q) 0 (λ z. omega arith), b, e) (linked_in t q (length t) x n h)
    go false b =
        let h : length t ≤ q = omega (arith, leb-false (suc q) (length t) b) in
        rw (ne_eqb (suc q) 0 (λ z. omega arith), b, linked_out t q (length t) h) refl

-- the last node gets another kind
rekind_word : (x : Node) (k : ℕ) → k < 65536 → Fits x → k * 281474976710656 + word_in x % 281474976710656 ≡ word_in (rekind k x)
rekind_word (node j p c s) k hk (fits hp hc hs) = omega arith

retyped_in : (y : Node) (t : List Node) (k : ℕ) (x : List ℕ) → k < 65536 → AllFit (y ∷ t)
    → set (map word_in (y ∷ t) ++ x) (length t) (k * 281474976710656 + get_or (map word_in (y ∷ t) ++ x) (length t) 0 % 281474976710656)
    ≡ map word_in (retype k (y ∷ t)) ++ x
unfolding retype
retyped_in y [] k x hk (fit_more a n) = ap (λ (v : ℕ). v ∷ x) (rekind_word y k hk a)
retyped_in y (z ∷ t) k x hk (fit_more a n) = ap (λ (l : List ℕ). word_in y ∷ l) (retyped_in z t k x hk n)

retyped_words : (t : List Node) (k : ℕ) (x : List ℕ) → k < 65536 → AllFit t → retyped k (length t) (map word_in t ++ x) ≡ map word_in (retype k t) ++ x
unfolding retyped retype
retyped_words [] k x hk n = refl
retyped_words (y ∷ t) k x hk n =
    let e : suc (length t) - 1 ≡ length t = omega arith in
    rw (ne_eqb (suc (length t)) 0 (λ z. omega arith), e) (retyped_in y t k x hk n)

-- a function's node gets the kind that goes with a block
block_word_lem : (x : Node) → Fits x → (word_in x / 281474976710656 + 29) % 65536 * 281474976710656 + word_in x % 281474976710656 ≡ word_in (with_block x)
block_word_lem (node k p c s) (fits hp hc hs) = omega arith

blocked_in : (t : List Node) (i : ℕ) (x : List ℕ) → AllFit t → i < length t
    → set (map word_in t ++ x) i ((get_or (map word_in t ++ x) i 0 / 281474976710656 + 29) % 65536 * 281474976710656 + get_or (map word_in t ++ x) i 0 % 281474976710656)
    ≡ map word_in (set_block i t) ++ x
unfolding set_block
blocked_in [] i x n h = absurd (omega arith)
blocked_in (y ∷ t) zero x (fit_more a n) h = ap (λ (v : ℕ). v ∷ (map word_in t ++ x)) (block_word_lem y a)
blocked_in (y ∷ t) (suc i) x (fit_more a n) h = ap (λ (l : List ℕ). word_in y ∷ l) (blocked_in t i x n (omega arith))

blocked_out : (t : List Node) (i : ℕ) → length t ≤ i → set_block i t ≡ t
unfolding set_block
blocked_out [] i h = refl
blocked_out (y ∷ t) zero h = absurd (omega arith)
blocked_out (y ∷ t) (suc i) h = ap (λ (l : List Node). y ∷ l) (blocked_out t i (omega arith))

blocked_words : (t : List Node) (c : ℕ) (x : List ℕ) → AllFit t → blocked c (length t) (map word_in t ++ x) ≡ map word_in (Machine.blocked c t) ++ x
unfolding blocked Machine.blocked
blocked_words t zero x n = refl
blocked_words t (suc i) x n = go (leb (suc i) (length t)) refl
  where
    go : (b : Bool) → leb (suc i) (length t) ≡ b
        → cond (eqb (suc i) 0) (map word_in t ++ x)
        (cond (leb (suc i) (length t))
        (set (map word_in t ++ x) (suc i - 1)
        ((get_or (map word_in t ++ x) (suc i - 1) 0 / 281474976710656 + 29) % 65536 * 281474976710656 + get_or (map word_in t ++ x) (suc i - 1) 0 % 281474976710656))
        (map word_in t ++ x))
        ≡ map word_in (set_block i t) ++ x
    go true b =
        let h : i < length t = leb-true (suc i) (length t) b in
        let e : suc i - 1 ≡ i = omega arith in
        rw (ne_eqb (suc i) 0 (λ z. omega arith), b, e) (blocked_in t i x n h)
    go false b =
        let h : length t ≤ i = omega (arith, leb-false (suc i) (length t) b) in
        rw (ne_eqb (suc i) 0 (λ z. omega arith), b, blocked_out t i h) refl

-- a node is written behind the others
map_snoc : (t : List Node) (y : Node) (x : List ℕ) → map word_in t ++ (word_in y ∷ x) ≡ map word_in (t ++ (y ∷ [])) ++ x
map_snoc [] y x = refl
map_snoc (z ∷ t) y x = ap (λ (l : List ℕ). word_in z ∷ l) (map_snoc t y x)

fresh : (t : List Node) (k p c q : ℕ) (l : List ℕ) → k < 65536 → AllFit t → length t < length l
    → set (linked q (length t) (map word_in t ++ drop (length t) l)) (length t) (k * 281474976710656 + p * 4294967296 + c * 65536)
    ≡ map word_in (link q (length t) t ++ (node k p c 0 ∷ [])) ++ drop (suc (length t)) l
fresh t k p c q l hk n h =
    let e : k * 281474976710656 + p * 4294967296 + c * 65536 ≡ word_in (node k p c 0) = omega arith in
    let x = drop (suc (length t)) l in
    rw (drop-cons l (length t) 0 h, linked_words t q (get_or l (length t) 0 ∷ x) n, e)
    (set_at (map word_in (link q (length t) t)) (get_or l (length t) 0) x (word_in (node k p c 0)) (length t)
    (length-map (link q (length t) t) word_in ∙ length_link q (length t) t)
    ∙ map_snoc (link q (length t) t) (node k p c 0) x)

length_leaf : (k p q : ℕ) (t : List Node) → length (add_leaf k p q t) ≡ suc (length t)
unfolding add_leaf
length_leaf k p q t = omega (arith, length-append (link q (length t) t) (node k p 0 0 ∷ []), length_link q (length t) t)

-- the nodes keep to 16 bits
fit_sib : (t : List Node) (q m : ℕ) → m < 65536 → AllFit t → AllFit (set_sib q m t)
unfolding set_sib
fit_sib [] q m h n = n
fit_sib (node k p c s ∷ t) zero m h (fit_more (fits hp hc hs) n) = fit_more (fits hp hc h) n
fit_sib (y ∷ t) (suc q) m h (fit_more a n) = fit_more a (fit_sib t q m h n)

fit_link : (t : List Node) (q m : ℕ) → m < 65536 → AllFit t → AllFit (link q m t)
unfolding link
fit_link t zero m h n = n
fit_link t (suc q) m h n = fit_sib t q m h n

fit_snoc : (t : List Node) (y : Node) → Fits y → AllFit t → AllFit (t ++ (y ∷ []))
fit_snoc [] y a n = fit_more a n
fit_snoc (z ∷ t) y a (fit_more b n) = fit_more b (fit_snoc t y a n)

fit_retype : (k : ℕ) (t : List Node) → AllFit t → AllFit (retype k t)
unfolding retype
fit_retype k [] n = n
fit_retype k (node j p c s ∷ []) (fit_more (fits hp hc hs) n) = fit_more (fits hp hc hs) n
fit_retype k (y ∷ z ∷ t) (fit_more a n) = fit_more a (fit_retype k (z ∷ t) n)

fit_block : (i : ℕ) (t : List Node) → AllFit t → AllFit (set_block i t)
unfolding set_block
fit_block i [] n = n
fit_block zero (node k p c s ∷ t) (fit_more (fits hp hc hs) n) = fit_more (fits hp hc hs) n
fit_block (suc i) (y ∷ t) (fit_more a n) = fit_more a (fit_block i t n)

fit_blocked : (c : ℕ) (t : List Node) → AllFit t → AllFit (Machine.blocked c t)
unfolding Machine.blocked
fit_blocked zero t n = n
fit_blocked (suc i) t n = fit_block i t n

-- the nodes as the first command of a function's block finds them mended: the last one is a block's, and the function of link c has a block
abbrev led : ℕ → List Node → List Node
led c t = Machine.blocked c (retype 1 t)

length_led : (c : ℕ) (t : List Node) → length (led c t) ≡ length t
length_led c t = length_blocked c (retype 1 t) ∙ length_retype 1 t

fit_led : (c : ℕ) (t : List Node) → AllFit t → AllFit (led c t)
fit_led c t n = fit_blocked c (retype 1 t) (fit_retype 1 t n)

led_words : (t : List Node) (c : ℕ) (x : List ℕ) → AllFit t → blocked c (length t) (retyped 1 (length t) (map word_in t ++ x)) ≡ map word_in (led c t) ++ x
led_words t c x n = rw (retyped_words t 1 x (omega arith) n, ← length_retype 1 t) (blocked_words (retype 1 t) c x (fit_retype 1 t n))

leaf_written : (p q j : ℕ) (t : List Node) (l : List ℕ) → j < 65536 → AllFit t → length t < length l
    → set (linked q (length t) (map word_in t ++ drop (length t) l)) (length t) (j * 281474976710656 + p * 4294967296 + 0 * 65536)
    ≡ map word_in (add_leaf j p q t) ++ drop (suc (length t)) l
unfolding add_leaf
leaf_written p q j t l hj n room = fresh t j p 0 q l hj n room

fork_written : (p q j : ℕ) (t : List Node) (l : List ℕ) → j < 65536 → AllFit t → length t < length l
    → set (linked q (length t) (map word_in t ++ drop (length t) l)) (length t) (j * 281474976710656 + p * 4294967296 + suc (length t) * 65536)
    ≡ map word_in (add_fork j p q t) ++ drop (suc (length t)) l
unfolding add_fork
fork_written p q j t l hj n room = fresh t j p (suc (length t)) q l hj n room

lead_written : (p q c j : ℕ) (t : List Node) (l : List ℕ) → j < 65536 → AllFit t → length t < length l
    → set (linked q (length t) (map word_in (led c t) ++ drop (length t) l)) (length t) (j * 281474976710656 + p * 4294967296 + suc (length t) * 65536)
    ≡ map word_in (add_fork j p q (led c t)) ++ drop (suc (length t)) l
lead_written p q c j t l hj n room = rw (← length_led c t) (fork_written p q j (led c t) l hj (fit_led c t n) (omega (arith, length_led c t)))

length_lead : (k p q c : ℕ) (t : List Node) → length (add_fork k p q (led c t)) ≡ suc (length t)
length_lead k p q c t = length_fork k p q (led c t) ∙ ap suc (length_led c t)

module _ (r : CodedRule) (w p q : ℕ) (u : Ctx) (t : List Node) (l : List ℕ) (is-link : link_in w ≡ q) (is_call : call_in w ≡ cal u) (n : AllFit t)
    (room : length t < length l) where
  pub wrote_words : (a : Act) → act_kind a < 32 → act_in r ≡ act_of a → kind_in r ≡ act_kind a
      → wrote r w p (length t) (map word_in t ++ drop (length t) l) ≡ map word_in (act a p q u t) ++ drop (length (act a p q u t)) l
  wrote_words skip h e k = rw e refl
  wrote_words (leaf j) h e k = rw (e, k, is-link, length_leaf j p q t) (leaf_written p q j t l (omega arith) n room)
  wrote_words (fork j) h e k = rw (e, k, is-link, length_fork j p q t, add-one (length t)) (fork_written p q j t l (omega arith) n room)
  wrote_words (turn j) h e k = rw (e, k, length_retype j t) (retyped_words t j (drop (length t) l) (omega arith) n)
  wrote_words (lead j) h e k =
      rw (e, k, is-link, is_call, led_words t (cal u) (drop (length t) l) n, length_lead j p q (cal u) t, add-one (length t))
      (lead_written p q (cal u) j t l (omega arith) n room)

pub counted_words : (r : CodedRule) (p q : ℕ) (u : Ctx) (t : List Node) (a : Act) → act_in r ≡ act_of a → count r (length t) ≡ length (act a p q u t)
counted_words r p q u t skip e = rw e refl
counted_words r p q u t (leaf j) e = rw e (omega (arith, length_leaf j p q t))
counted_words r p q u t (fork j) e = rw e (omega (arith, length_fork j p q t))
counted_words r p q u t (turn j) e = rw e (sym (length_retype j t))
counted_words r p q u t (lead j) e = rw e (omega (arith, length_lead j p q (cal u) t))

pub one_node : (a : Act) (p q : ℕ) (u : Ctx) (t : List Node) → length (act a p q u t) ≤ length t + 1
one_node skip p q u t = omega arith
one_node (leaf k) p q u t = omega (arith, length_leaf k p q t)
one_node (fork k) p q u t = omega (arith, length_fork k p q t)
one_node (turn k) p q u t = omega (arith, length_retype k t)
one_node (lead k) p q u t = omega (arith, length_lead k p q (cal u) t)

fit_fork : (k p q : ℕ) (t : List Node) → p < 65536 → length t < 65535 → AllFit t → AllFit (add_fork k p q t)
unfolding add_fork
fit_fork k p q t hp ht n = fit_snoc _ _ (fits hp (omega arith) (omega arith)) (fit_link t q (length t) (omega arith) n)

pub fit_act : (a : Act) (p q : ℕ) (u : Ctx) (t : List Node) → p < 65536 → length t < 65535 → AllFit t → AllFit (act a p q u t)
unfolding add_leaf
fit_act skip p q u t hp ht n = n
fit_act (leaf k) p q u t hp ht n = fit_snoc _ _ (fits hp (omega arith) (omega arith)) (fit_link t q (length t) (omega arith) n)
fit_act (fork k) p q u t hp ht n = fit_fork k p q t hp ht n
fit_act (turn k) p q u t hp ht n = fit_retype k t n
fit_act (lead k) p q u t hp ht n = fit_fork k p q (led (cal u) t) hp (omega (arith, length_led (cal u) t)) (fit_led (cal u) t n)
