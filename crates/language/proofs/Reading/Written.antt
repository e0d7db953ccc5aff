-- What `put` writes, node by node, is `enc`.
use mathlib.Core.Path.{◌≡◌, refl, sym, ◌∙◌, ap}
use mathlib.Core.List.{List, [], ◌∷◌, ◌++◌, append_assoc, append-nil}
use Prim.Native.Nat.{ℕ, suc, ◌+◌}
use native.Mathlib.Numerals.{add-one}
use native.Mathlib.Omega.{arith}
use lib.ListN.{length, length-append}
use Rattle.language.specs.Syntax.{Block}
use Rattle.language.specs.Words.{Word}
use Rattle.language.specs.Grammar.{BLOCK, Reads}
use Rattle.language.specs.Table.{Forest, none, leaf, fork, shape_block, Node, node, size, first, enc}
use Rattle.language.specs.Levels.{levels}
use Rattle.language.proofs.Reading.Machine.{sib, set_sib, link, add_leaf, add_fork, put, through, whole}
pub use Rattle.language.proofs.Reading.Kinds.{length_link}
use Rattle.language.proofs.Reading.Complete.{complete}

set_sib_seam : (l : List Node) (x : Node) (u : List Node) (m : ℕ) → set_sib (length l) m (l ++ (x ∷ u)) ≡ l ++ (sib m x ∷ u)
unfolding set_sib
set_sib_seam [] x u m = refl
set_sib_seam (y ∷ l) x u m = ap (λ (z : List Node). y ∷ z) (set_sib_seam l x u m)

length_enc : (f : Forest) (n : ℕ) → length (enc f n) ≡ size f
unfolding enc size
length_enc none n = refl
length_enc (leaf k p s) n = omega (arith, length_enc s (n + 1))
length_enc (fork k p c s) n =
    omega (arith, length-append (enc c (n + 1)) (enc s (n + 1 + size c)), length_enc c (n + 1), length_enc s (n + 1 + size c))

-- the table, with the sibling before `f` linked to it
joined : Forest → ℕ → List Node → List Node
joined none q t = t
joined (leaf k p s) q t = link q (length t) t
joined (fork k p c s) q t = link q (length t) t

joined_none : (f : Forest) (t : List Node) → joined f 0 t ≡ t
unfolding joined link
joined_none none t = refl
joined_none (leaf k p s) t = refl
joined_none (fork k p c s) t = refl

joined_seam : (f : Forest) (l : List Node) (k p c : ℕ) (u : List Node)
    → joined f (suc (length l)) (l ++ (node k p c 0 ∷ u)) ≡ l ++ (node k p c (first f (length (l ++ (node k p c 0 ∷ u)))) ∷ u)
unfolding joined link first
joined_seam none l k p c u = refl
joined_seam (leaf k' p' s) l k p c u = set_sib_seam l (node k p c 0) u _
joined_seam (fork k' p' c' s) l k p c u = set_sib_seam l (node k p c 0) u _

-- what stands at the end of a table is followed by the siblings `s`
seam : (s : Forest) (l : List Node) (k p c : ℕ) (u : List Node) (n m : ℕ)
    → length l ≡ n
    → length (l ++ (node k p c 0 ∷ u)) ≡ m
    → ((q : ℕ) (t : List Node) → put s q t ≡ joined s q t ++ enc s (length t))
    → put s (suc n) (l ++ (node k p c 0 ∷ u)) ≡ l ++ (node k p c (first s m) ∷ (u ++ enc s m))
seam s l k p c u n m en em ih =
    rw
    (← en, ← em)
    (ih _ _ ∙ (ap (λ (z : List Node). z ++ enc s (length (l ++ (node k p c 0 ∷ u)))) (joined_seam s l k p c u) ∙ append_assoc l _ _))

length_snoc : (l : List Node) (x : Node) (n : ℕ) → length l ≡ n → length (l ++ (x ∷ [])) ≡ n + 1
length_snoc l x n e = omega (arith, length-append l (x ∷ []))

length_more : (l : List Node) (x : Node) (c : Forest) (n : ℕ) → length l ≡ n → length (l ++ (x ∷ enc c (n + 1))) ≡ n + 1 + size c
length_more l x c n e = omega (arith, length-append l (x ∷ enc c (n + 1)), length_enc c (n + 1))

-- the children of a node at the end of a table
kids : (c : Forest) (l : List Node) (k p n : ℕ)
    → length l ≡ n
    → ((q : ℕ) (t : List Node) → put c q t ≡ joined c q t ++ enc c (length t))
    → put c 0 (l ++ (node k p (suc n) 0 ∷ [])) ≡ l ++ (node k p (n + 1) 0 ∷ enc c (n + 1))
kids c l k p n e ih =
    let x = node k p (n + 1) 0 in
    let a = l ++ (x ∷ []) in
    rw
    (← add-one n)
    (ih 0 a
    ∙ (ap (λ (z : List Node). z ++ enc c (length a)) (joined_none c a)
    ∙ (ap (λ (i : ℕ). a ++ enc c i) (length_snoc l x n e) ∙ append_assoc l (x ∷ []) (enc c (n + 1)))))

put_enc : (f : Forest) (q : ℕ) (t : List Node) → put f q t ≡ joined f q t ++ enc f (length t)
unfolding put enc joined add_leaf add_fork
put_enc none q t = sym (append-nil t)
put_enc (leaf k p s) q t =
    let l = link q (length t) t in
    let e : length l ≡ length t = length_link q (length t) t in
    seam s l k p 0 [] (length t) (length t + 1) e (length_snoc l (node k p 0 0) (length t) e) (λ q t. put_enc s q t)
put_enc (fork k p c s) q t =
    let l = link q (length t) t in
    let e : length l ≡ length t = length_link q (length t) t in
    let n = length t + 1 in
    rw
    (kids c l k p (length t) e (λ q t. put_enc c q t))
    (seam s l k p n (enc c n) (length t) (n + size c) e (length_more l (node k p n 0) c (length t) e) (λ q t. put_enc s q t))

-- A program's table is the encoding of its tree.
pub written : {b : Block} {ts : List Word} → Reads BLOCK b ts [] → whole ts ≡ through (enc (shape_block b none) 0) (levels b)
written {b} h =
    complete h
    ∙ ap (λ (z : List Node). through z (levels b)) (put_enc (shape_block b none) 0 [] ∙ ap (λ (z : List Node). z ++ enc (shape_block b none) 0) (joined_none (shape_block b none) []))
