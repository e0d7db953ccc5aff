-- A verdict over a tree and the notes of its nodes agree: fine, and no node of it is refused; or what the note of its first refused node says, at its place.
-- Rows of siblings are judged one after the other, and a node by its own rule after its children.
use Prim.Native.Nat.{ℕ, zero, suc, ◌+◌, ◌%◌, ◌<◌, ◌≤◌}
use mathlib.Core.Path.{◌≡◌, refl, sym, ◌∙◌, subst}
use mathlib.Core.Bool.{Bool, true, false}
use mathlib.Core.List.{List}
use mathlib.Core.Logic.{⊎_elim}
use native.Mathlib.Omega.{arith}
use lib.Dec.{eqb}
use lib.ListN.{length, get_or}
use borrow.Author.Tests.{ne_eqb, eqb-false}
use Rattle.language.specs.Answers.{Refusal, TYPE, DOUBLE, Result, fine, refuse}
use Rattle.language.proofs.Typing.Judge.{and_then}
use Rattle.nodes.proofs.Links.{below_or_not}
use Rattle.judge.specs.Scopes.{pick, kind_at, place_at}
use Rattle.judge.specs.Rules.{own_by}
use Rattle.judge.specs.Judge.{fine_from, ruled, refuses, note_of}
use Rattle.judge.proofs.Shapes.{Nodes, end, node}
use Rattle.judge.proofs.Scoping.{first, Sits, sits_end, Cell, cell, sits_up}
use Rattle.judge.proofs.Noting.{Agree, Clean, Noted}

-- what both passes have left
pub record Run : Type 0 where
  pub text : List ℕ
  pub tree : List ℕ
  pub scopes : List ℕ
  pub notes : List ℕ
  pub count : ℕ
  pub few : count < 65536
  pub room : count ≤ length tree
  pub root : kind_at tree 0 ≡ 1
  pub noted : (i : ℕ) → i < count → Noted text tree scopes notes i

-- what the note of a refused node says
pub data Said : Refusal → ℕ → Type 0 where
  said_type : Said TYPE 65536
  said_double : Said DOUBLE 131072

pub said_refuses : {c : Refusal} {r : ℕ} → Said c r → refuses r ≡ true
unfolding refuses
said_refuses said_type = refl
said_refuses said_double = refl

said_ruled : {c : Refusal} {r : ℕ} → Said c r → ruled r ≡ r
unfolding ruled
said_ruled said_type = refl
said_ruled said_double = refl

said_bad : {c : Refusal} {r : ℕ} → Said c r → eqb (r % 65536) 0 ≡ true
said_bad said_type = refl
said_bad said_double = refl

-- any other note
fine_ruled : (r : ℕ) → eqb (r % 65536) 0 ≡ false → ruled r ≡ r
unfolding ruled
fine_ruled r b = rw b (by-test (eqb r 131072))
  where
    by-test : (o : Bool) → pick o (λ _. r) (λ _. r) ≡ r
    by-test true = refl
    by-test false = refl

fine_stays : (r : ℕ) → eqb (r % 65536) 0 ≡ false → refuses r ≡ false
unfolding refuses
fine_stays r b = rw (ne_eqb r 65536 (λ e. eqb-false (r % 65536) 0 b (rw e)), ne_eqb r 131072 (λ e. eqb-false (r % 65536) 0 b (rw e)))

module _ (g : Run) where
  -- a note that is a refusal
  abbrev pub bad : ℕ → Bool
  bad n = eqb (get_or g.notes n 0 % 65536) 0

  -- the first node that is refused itself, from lo up to hi, stands at q, and c is said there
  pub record First (lo hi : ℕ) (c : Refusal) (q : ℕ) : Type 0 where
    pub at : ℕ
    pub from : lo ≤ at
    pub upto : at < hi
    pub refused : Said c (get_or g.notes at 0)
    pub there : place_at g.tree at ≡ q
    pub before : Clean g.notes lo at

  -- a tree from the node n up to m
  pub data One {A : Type 0} (P : A → Type 0) (n m : ℕ) : Result A → Type 0 where
    one_fine : {a : A} → P a → bad n ≡ false → Clean g.notes n m → One P n m (fine a)
    one_bad : {c : Refusal} {q : ℕ} → bad n ≡ true → First n m c q → One P n m (refuse c q)

  -- a row of trees from lo up to hi
  pub data Kids {A : Type 0} (K : Result A → Type 0) (f : Nodes) (lo hi : ℕ) : Result A → Type 0 where
    kids_fine : {o : Result A} → K o → ((M : List ℕ) → Agree lo g.notes M → (b : ℕ) → hi ≤ b + lo → fine_from g.tree M b (first f lo) ≡ true)
        → Clean g.notes lo hi → Kids K f lo hi o
    kids_bad : {c : Refusal} {q : ℕ} → ((M : List ℕ) → Agree lo g.notes M → (b : ℕ) → hi ≤ b + lo → fine_from g.tree M b (first f lo) ≡ false)
        → First lo hi c q → Kids K f lo hi (refuse c q)

  -- the own rule of the node n gives the note r
  pub data Own {A : Type 0} (P : A → Type 0) (n p r : ℕ) : Result A → Type 0 where
    own_fine : {a : A} → eqb (r % 65536) 0 ≡ false → (get_or g.notes n 0 ≡ r → P a) → Own P n p r (fine a)
    own_bad : {c : Refusal} → Said c r → Own P n p r (refuse c p)

  pub one_map : {A : Type 0} {P Q : A → Type 0} {n m : ℕ} {r : Result A} → ((a : A) → r ≡ fine a → P a → Q a) → One P n m r → One Q n m r
  one_map f (one_fine p b c) = one_fine (f _ refl p) b c
  one_map f (one_bad b c) = one_bad b c

  clean_both : {lo mid hi : ℕ} → Clean g.notes lo mid → Clean g.notes mid hi → Clean g.notes lo hi
  clean_both {mid = mid} a b j l h = ⊎_elim (λ u. a j l u) (λ u. b j u h) (below_or_not j mid)

  first_wider : {lo mid hi q : ℕ} {c : Refusal} → mid ≤ hi → First lo mid c q → First lo hi c q
  first_wider l f =
      record { at = f.at; from = f.from; upto = let u = f.upto in omega arith; refused = f.refused; there = f.there; before = f.before }

  first_later : {lo mid hi q : ℕ} {c : Refusal} → lo ≤ mid → Clean g.notes lo mid → First mid hi c q → First lo hi c q
  first_later l cl f =
      record {
        at = f.at;
        from = let u = f.from in omega arith;
        upto = f.upto;
        refused = f.refused;
        there = f.there;
        before = clean_both cl f.before;
      }

  clean_one : (n : ℕ) → refuses (get_or g.notes n 0) ≡ false → Clean g.notes n (suc n)
  clean_one n h j l u = subst (λ k. refuses (get_or g.notes k 0) ≡ false) (here n j l u) h
    where
      here : (n j : ℕ) → n ≤ j → j < suc n → n ≡ j
      here n j l u = omega arith

  -- a row that was judged with a result
  pub data Ends {A : Type 0} (P : A → Type 0) : Result A → Type 0 where
    ends : {a : A} → P a → Ends P (fine a)

  pub kids_map : {A : Type 0} {K K' : Result A → Type 0} {f : Nodes} {lo hi : ℕ} {o : Result A} → (K o → K' o) → Kids K f lo hi o → Kids K' f lo hi o
  kids_map h (kids_fine k f c) = kids_fine (h k) f c
  kids_map h (kids_bad f b) = kids_bad f b

  pub kids_bind : {A B : Type 0} {P : B → Type 0} {K : Result A → Type 0} {f : Nodes} {lo hi : ℕ} {r : Result B} (k : B → Result A) → Kids (Ends P) f lo hi r
      → ((a : B) → r ≡ fine a → P a → K (k a)) → Kids K f lo hi (and_then r k)
  unfolding and_then
  kids_bind k (kids_fine (ends pa) f c) h = kids_fine (h _ refl pa) f c
  kids_bind k (kids_bad f b) h = kids_bad f b

  -- the end of a row
  pub kids_end : {A : Type 0} {K : Result A → Type 0} {n : ℕ} {o : Result A} → K o → Kids K end n n o
  unfolding fine_from
  kids_end k = kids_fine k (λ M a b l. none M b) (λ j l h. absurd (omega arith))
    where
      none : (M : List ℕ) (b : ℕ) → fine_from g.tree M b 0 ≡ true
      none M zero = refl
      none M (suc b) = refl

  abbrev pub Sit : Nodes → (n m row row' v : ℕ) → Type 0
  Sit f n m row row' v = Sits g.text g.tree g.scopes f n m row row' v

  abbrev pub Seat : ℕ → ℕ → Nodes → Nodes → (n m row row' v : ℕ) → Type 0
  Seat k p c s n m row row' v = Cell g.text g.tree g.scopes k p c s n m row row' v

  pub seat : {k p n m row row' v : ℕ} {c s : Nodes} → Sit (node k p c s) n m row row' v → Seat k p c s n m row row' v
  seat h = cell g.text g.tree h

  pub kids_done : {A : Type 0} {K : Result A → Type 0} {n m row row' v : ℕ} {o : Result A} → Sit end n m row row' v → K o → Kids K end n m o
  kids_done sits_end k = kids_end k

  module _ {k p n m row row' v : ℕ} {c s : Nodes} (h : Seat k p c s n m row row' v) where
    pub below : suc n ≤ h.mid
    below = sits_up g.text g.tree h.kids

    pub behind : h.mid ≤ m
    behind = sits_up g.text g.tree h.rest

  -- a row's first tree, and then the others
  module _ {k p n hi row row' v : ℕ} {c s : Nodes} (h : Seat k p c s n hi row row' v) (z : 0 < n) where
    row_bad : (M : List ℕ) → Agree n g.notes M → (b : ℕ) → hi ≤ b + n → bad n ≡ true → fine_from g.tree M b n ≡ false
    unfolding fine_from
    row_bad M a zero l e = absurd (omega (arith, below h, behind h))
    row_bad M a (suc b) l e = rw (ne_eqb n 0 (λ i. omega arith), ← a n (omega arith), e)

    row_on : (M : List ℕ) → Agree n g.notes M → (b : ℕ) → hi ≤ b + n → (o : Bool) → bad n ≡ false
        → ((b : ℕ) → hi ≤ b + h.mid → fine_from g.tree M b (first s h.mid) ≡ o) → fine_from g.tree M b n ≡ o
    unfolding fine_from
    row_on M a zero l o e f = absurd (omega (arith, below h, behind h))
    row_on M a (suc b) l o e f = rw (ne_eqb n 0 (λ i. omega arith), ← a n (omega arith), e, h.next) (f b (omega (arith, below h)))

    agree_later : (M : List ℕ) → Agree n g.notes M → Agree h.mid g.notes M
    agree_later M a j l = a j (omega (arith, below h))

    then_kids : {A : Type 0} {K : Result A → Type 0} {o : Result A} → bad n ≡ false → Clean g.notes n h.mid → Kids K s h.mid hi o
        → Kids K (node k p c s) n hi o
    then_kids b cl (kids_fine ko f cs) = kids_fine ko (λ M a d l. row_on M a d l true b (λ e. f M (agree_later M a) e)) (clean_both cl cs)
    then_kids b cl (kids_bad f fs) =
        kids_bad (λ M a d l. row_on M a d l false b (λ e. f M (agree_later M a) e)) (first_later (omega (arith, below h)) cl fs)

    pub kids_past : {A B : Type 0} {P : B → Type 0} {K : Result A → Type 0} {b : B} {o : Result A} → One P n h.mid (fine b) → Kids K s h.mid hi o
        → Kids K (node k p c s) n hi o
    kids_past (one_fine pa b cl) f = then_kids b cl f

    pub kids_then : {A B : Type 0} {P : B → Type 0} {K : Result A → Type 0} {r : Result B} (k' : B → Result A) → One P n h.mid r
        → ((a : B) → r ≡ fine a → P a → Kids K s h.mid hi (k' a)) → Kids K (node k p c s) n hi (and_then r k')
    unfolding and_then
    kids_then k' (one_fine {a} pa b cl) f = then_kids b cl (f a refl pa)
    kids_then k' (one_bad b fs) f = kids_bad (λ M a d l. row_bad M a d l b) (first_wider (behind h) fs)

  -- a row's last tree
  pub kids_last : {A : Type 0} {P : A → Type 0} {k p n hi row row' v : ℕ} {c : Nodes} {r : Result A} (h : Seat k p c end n hi row row' v) → 0 < n
      → One P n h.mid r → Kids (Ends P) (node k p c end) n hi r
  kids_last h z (one_fine pa b cl) = then_kids h z b cl (kids_done h.rest (ends pa))
  kids_last h z (one_bad b fs) = kids_bad (λ M a d l. row_bad h z M a d l b) (first_wider (behind h) fs)

  -- a node whose children were judged: its own rule
  module _ {k p n m row row' v : ℕ} {c s : Nodes} (h : Seat k p c s n m row row' v) (l : m ≤ g.count) where
    abbrev pub Rule : {A : Type 0} → (A → Type 0) → Result A → Type 0
    Rule P o = (M : List ℕ) → Agree (suc n) g.notes M → Own P n p (own_by k g.text g.tree g.scopes M n) o

    note : Noted g.text g.tree g.scopes g.notes n
    note = g.noted n (omega (arith, below h, behind h))

    -- the note where the children's test answers b
    noted_by : (b : Bool) → ((M : List ℕ) → Agree (suc n) g.notes M → (d : ℕ) → h.mid ≤ d + suc n → fine_from g.tree M d (first c (suc n)) ≡ b)
        → get_or g.notes n 0 ≡ pick b (λ _. ruled (own_by k g.text g.tree g.scopes note.M n)) λ _. 0
    unfolding note_of
    noted_by b f =
        note.is ∙ rw (h.kind, h.child, f note.M note.agree (length g.tree) (omega (arith, below h, behind h, g.room)))

    by_own : {A : Type 0} {P : A → Type 0} {o : Result A} → Clean g.notes (suc n) h.mid
        → get_or g.notes n 0 ≡ ruled (own_by k g.text g.tree g.scopes note.M n) → Own P n p (own_by k g.text g.tree g.scopes note.M n) o → One P n h.mid o
    by_own cl e (own_fine b f) =
        let r = own_by k g.text g.tree g.scopes note.M n in
        let w : get_or g.notes n 0 ≡ r = e ∙ fine_ruled r b in
        one_fine (f w) (rw w b) (clean_both (clean_one n (rw w (fine_stays r b))) cl)
    by_own cl e (own_bad {c} b) =
        let r = own_by k g.text g.tree g.scopes note.M n in
        let w : get_or g.notes n 0 ≡ r = e ∙ said_ruled b in
        one_bad (rw w (said_bad b)) (record {
          at = n;
          from = omega arith;
          upto = below h;
          refused = subst (Said c) (sym w) b;
          there = h.place;
          before = λ j a u. absurd (omega arith);
        })

    pub node_one : {A : Type 0} {P : A → Type 0} {o : Result A} → Kids (Rule P) c (suc n) h.mid o → One P n h.mid o
    unfolding refuses
    node_one (kids_fine k f cl) = by_own cl (noted_by true f) (k note.M note.agree)
    node_one (kids_bad f fs) =
        let w : get_or g.notes n 0 ≡ 0 = noted_by false f in
        one_bad (rw w) (first_later (omega arith) (clean_one n (rw w)) fs)
