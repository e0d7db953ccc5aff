-- Where the machine stops is the first word with which no program begins; and at each word it has counted the levels that the words before open.
use mathlib.Core.Path.{◌≡◌, refl, sym, ◌∙◌, ap, subst}
use mathlib.Core.List.{List, [], ◌∷◌, ◌++◌, append_assoc, append-nil}
use mathlib.Core.Option.{Option, none, some}
use Prim.Native.Nat.{ℕ, suc}
use native.Mathlib.Omega.{arith}
use lib.IntN.{pos}
use lib.ListN.{length}
use Rattle.language.specs.Syntax.{at, Block}
use Rattle.language.specs.Words.{k_lbr, k_rbr, k_rpar, k_semi, k_colon, k_arrow, k_echo, kbool, Word, mark, number, named, place_word}
use Rattle.language.specs.Grammar.{BLOCK, Reads, Begins}
use Rattle.language.specs.Table.{Node}
use Rattle.language.specs.Levels.{levels}
use Rattle.language.specs.Reading.{Opens, Ends}
use Rattle.language.proofs.Reading.Machine.{tag, Sym, sym_block, sym_body, sym_tail, sym_semi, sym_cn, sym_ct, sym_expr, sym_funh, sym_fn, sym_ft, sym_fl, sym_farg1, sym_farg0, sym_fbody, sym_fopen, sym_end, sym_arg1, sym_arg0, sym_colon, sym_type, sym_vn, sym_proch, sym_pn, sym_pl, sym_argp1, sym_argp0, sym_varn, sym_sn, sym_ic, sym_ib, sym_wc, sym_kn, sym_k1, sym_k0, sym_paren, sym_parenp, sym_e3, sym_e2, sym_e1, sym_rp, sym_args1, sym_args0, sym_an, sym_ts1, sym_ts0, sym_tr, sym_tp, sym_at, Ctx, Entry, ent, places, follow, Rule, rule, rules, pick, Parsed, through, stuck, parse, start, whole}
use Rattle.language.proofs.Reading.Reader.{levels_in}
use Rattle.language.proofs.Reading.Complete.{complete}
use Rattle.language.proofs.Reading.Sound.{sound}
use Rattle.language.proofs.Reading.Machine

-- the shortest words for each symbol
abbrev word : Sym → List Word
word sym_block = mark k_lbr 0 ∷ mark k_echo 0 ∷ number 0 (pos 0) ∷ mark k_rbr 0 ∷ []
word sym_body = mark k_echo 0 ∷ number 0 (pos 0) ∷ mark k_rbr 0 ∷ []
word sym_tail = mark k_rbr 0 ∷ []
word sym_semi = mark k_semi 0 ∷ mark k_echo 0 ∷ number 0 (pos 0) ∷ mark k_rbr 0 ∷ []
word sym_cn = named (at 0 []) ∷ mark kbool 0 ∷ number 0 (pos 0) ∷ []
word sym_ct = mark kbool 0 ∷ number 0 (pos 0) ∷ []
word sym_expr = number 0 (pos 0) ∷ []
word sym_funh = named (at 0 []) ∷ mark kbool 0 ∷ mark k_lbr 0 ∷ named (at 0 []) ∷ mark k_colon 0 ∷ mark kbool 0 ∷ mark k_rbr 0 ∷ number 0 (pos 0) ∷ []
word sym_fn = named (at 0 []) ∷ mark kbool 0 ∷ mark k_lbr 0 ∷ named (at 0 []) ∷ mark k_colon 0 ∷ mark kbool 0 ∷ mark k_rbr 0 ∷ number 0 (pos 0) ∷ []
word sym_ft = mark kbool 0 ∷ mark k_lbr 0 ∷ named (at 0 []) ∷ mark k_colon 0 ∷ mark kbool 0 ∷ mark k_rbr 0 ∷ number 0 (pos 0) ∷ []
word sym_fl = mark k_lbr 0 ∷ named (at 0 []) ∷ mark k_colon 0 ∷ mark kbool 0 ∷ mark k_rbr 0 ∷ number 0 (pos 0) ∷ []
word sym_farg1 = named (at 0 []) ∷ mark k_colon 0 ∷ mark kbool 0 ∷ mark k_rbr 0 ∷ number 0 (pos 0) ∷ []
word sym_farg0 = mark k_rbr 0 ∷ number 0 (pos 0) ∷ []
word sym_fbody = number 0 (pos 0) ∷ []
word sym_fopen = mark k_echo 0 ∷ number 0 (pos 0) ∷ mark k_rbr 0 ∷ []
word sym_end = mark k_rbr 0 ∷ []
word sym_arg1 = named (at 0 []) ∷ mark k_colon 0 ∷ mark kbool 0 ∷ mark k_rbr 0 ∷ number 0 (pos 0) ∷ []
word sym_arg0 = mark k_rbr 0 ∷ number 0 (pos 0) ∷ []
word sym_colon = mark k_colon 0 ∷ mark kbool 0 ∷ []
word sym_type = mark kbool 0 ∷ []
word sym_vn = named (at 0 []) ∷ mark kbool 0 ∷ []
word sym_proch = named (at 0 []) ∷ mark k_lbr 0 ∷ named (at 0 []) ∷ mark k_colon 0 ∷ mark kbool 0 ∷ mark k_rbr 0 ∷ mark k_lbr 0 ∷ mark k_echo 0 ∷ number 0 (pos 0) ∷ mark k_rbr 0 ∷ []
word sym_pn = named (at 0 []) ∷ mark k_lbr 0 ∷ named (at 0 []) ∷ mark k_colon 0 ∷ mark kbool 0 ∷ mark k_rbr 0 ∷ mark k_lbr 0 ∷ mark k_echo 0 ∷ number 0 (pos 0) ∷ mark k_rbr 0 ∷ []
word sym_pl = mark k_lbr 0 ∷ named (at 0 []) ∷ mark k_colon 0 ∷ mark kbool 0 ∷ mark k_rbr 0 ∷ mark k_lbr 0 ∷ mark k_echo 0 ∷ number 0 (pos 0) ∷ mark k_rbr 0 ∷ []
word sym_argp1 = named (at 0 []) ∷ mark k_colon 0 ∷ mark kbool 0 ∷ mark k_rbr 0 ∷ mark k_lbr 0 ∷ mark k_echo 0 ∷ number 0 (pos 0) ∷ mark k_rbr 0 ∷ []
word sym_argp0 = mark k_rbr 0 ∷ mark k_lbr 0 ∷ mark k_echo 0 ∷ number 0 (pos 0) ∷ mark k_rbr 0 ∷ []
word sym_varn = named (at 0 []) ∷ mark k_colon 0 ∷ mark kbool 0 ∷ []
word sym_sn = named (at 0 []) ∷ number 0 (pos 0) ∷ []
word sym_ic = number 0 (pos 0) ∷ mark k_lbr 0 ∷ mark k_echo 0 ∷ number 0 (pos 0) ∷ mark k_rbr 0 ∷ mark k_lbr 0 ∷ mark k_echo 0 ∷ number 0 (pos 0) ∷ mark k_rbr 0 ∷ []
word sym_ib = mark k_lbr 0 ∷ mark k_echo 0 ∷ number 0 (pos 0) ∷ mark k_rbr 0 ∷ mark k_lbr 0 ∷ mark k_echo 0 ∷ number 0 (pos 0) ∷ mark k_rbr 0 ∷ []
word sym_wc = number 0 (pos 0) ∷ mark k_lbr 0 ∷ mark k_echo 0 ∷ number 0 (pos 0) ∷ mark k_rbr 0 ∷ []
word sym_kn = named (at 0 []) ∷ number 0 (pos 0) ∷ mark k_rbr 0 ∷ []
word sym_k1 = number 0 (pos 0) ∷ mark k_rbr 0 ∷ []
word sym_k0 = mark k_rbr 0 ∷ []
word sym_paren = number 0 (pos 0) ∷ number 0 (pos 0) ∷ mark k_rpar 0 ∷ []
word sym_parenp = number 0 (pos 0) ∷ number 0 (pos 0) ∷ mark k_rpar 0 ∷ []
word sym_e3 = number 0 (pos 0) ∷ number 0 (pos 0) ∷ number 0 (pos 0) ∷ mark k_rpar 0 ∷ []
word sym_e2 = number 0 (pos 0) ∷ number 0 (pos 0) ∷ mark k_rpar 0 ∷ []
word sym_e1 = number 0 (pos 0) ∷ mark k_rpar 0 ∷ []
word sym_rp = mark k_rpar 0 ∷ []
word sym_args1 = number 0 (pos 0) ∷ mark k_rpar 0 ∷ []
word sym_args0 = mark k_rpar 0 ∷ []
word sym_an = named (at 0 []) ∷ mark k_rpar 0 ∷ []
word sym_ts1 = mark kbool 0 ∷ mark k_arrow 0 ∷ mark kbool 0 ∷ mark k_rpar 0 ∷ []
word sym_ts0 = mark k_arrow 0 ∷ mark kbool 0 ∷ mark k_rpar 0 ∷ []
word sym_tr = mark kbool 0 ∷ mark k_rpar 0 ∷ []
word sym_tp = mark kbool 0 ∷ mark k_arrow 0 ∷ mark kbool 0 ∷ mark k_rpar 0 ∷ []
word sym_at = mark kbool 0 ∷ number 0 (pos 0) ∷ mark k_rpar 0 ∷ []

word_read : (X : Sym) (q : ℕ) (u : Ctx) (s : List Entry) (t : List Node) (f : List ℕ → List ℕ)
    → (t' : List Node) × (f' : List ℕ → List ℕ) × ((w : List Word) → parse (word X ++ w) (ent X q u ∷ s) t f ≡ parse w s t' f')
unfolding parse
word_read sym_block q u s t f = (_, _, λ w. refl)
word_read sym_body q u s t f = (_, _, λ w. refl)
word_read sym_tail q u s t f = (_, _, λ w. refl)
word_read sym_semi q u s t f = (_, _, λ w. refl)
word_read sym_cn q u s t f = (_, _, λ w. refl)
word_read sym_ct q u s t f = (_, _, λ w. refl)
word_read sym_expr q u s t f = (_, _, λ w. refl)
word_read sym_funh q u s t f = (_, _, λ w. refl)
word_read sym_fn q u s t f = (_, _, λ w. refl)
word_read sym_ft q u s t f = (_, _, λ w. refl)
word_read sym_fl q u s t f = (_, _, λ w. refl)
word_read sym_farg1 q u s t f = (_, _, λ w. refl)
word_read sym_farg0 q u s t f = (_, _, λ w. refl)
word_read sym_fbody q u s t f = (_, _, λ w. refl)
word_read sym_fopen q u s t f = (_, _, λ w. refl)
word_read sym_end q u s t f = (_, _, λ w. refl)
word_read sym_arg1 q u s t f = (_, _, λ w. refl)
word_read sym_arg0 q u s t f = (_, _, λ w. refl)
word_read sym_colon q u s t f = (_, _, λ w. refl)
word_read sym_type q u s t f = (_, _, λ w. refl)
word_read sym_vn q u s t f = (_, _, λ w. refl)
word_read sym_proch q u s t f = (_, _, λ w. refl)
word_read sym_pn q u s t f = (_, _, λ w. refl)
word_read sym_pl q u s t f = (_, _, λ w. refl)
word_read sym_argp1 q u s t f = (_, _, λ w. refl)
word_read sym_argp0 q u s t f = (_, _, λ w. refl)
word_read sym_varn q u s t f = (_, _, λ w. refl)
word_read sym_sn q u s t f = (_, _, λ w. refl)
word_read sym_ic q u s t f = (_, _, λ w. refl)
word_read sym_ib q u s t f = (_, _, λ w. refl)
word_read sym_wc q u s t f = (_, _, λ w. refl)
word_read sym_kn q u s t f = (_, _, λ w. refl)
word_read sym_k1 q u s t f = (_, _, λ w. refl)
word_read sym_k0 q u s t f = (_, _, λ w. refl)
word_read sym_paren q u s t f = (_, _, λ w. refl)
word_read sym_parenp q u s t f = (_, _, λ w. refl)
word_read sym_e3 q u s t f = (_, _, λ w. refl)
word_read sym_e2 q u s t f = (_, _, λ w. refl)
word_read sym_e1 q u s t f = (_, _, λ w. refl)
word_read sym_rp q u s t f = (_, _, λ w. refl)
word_read sym_args1 q u s t f = (_, _, λ w. refl)
word_read sym_args0 q u s t f = (_, _, λ w. refl)
word_read sym_an q u s t f = (_, _, λ w. refl)
word_read sym_ts1 q u s t f = (_, _, λ w. refl)
word_read sym_ts0 q u s t f = (_, _, λ w. refl)
word_read sym_tr q u s t f = (_, _, λ w. refl)
word_read sym_tp q u s t f = (_, _, λ w. refl)
word_read sym_at q u s t f = (_, _, λ w. refl)

-- every stack can be read to its end
finish : (s : List Entry) (t : List Node) (f : List ℕ → List ℕ) → (w : List Word) × (t' : List Node) × (o : List ℕ) × (parse w s t f ≡ through t' o)
unfolding parse
finish [] t f = ([], t, f [], refl)
finish (ent X q u ∷ s) t f =
    let a = word_read X q u s t f in
    let b = finish s a.0 a.1 in
    (word X ++ b.0, b.1, b.2, a.2 b.0 ∙ b.3)

-- After the words `pre` the machine stands at `stack` and `tab`, and they opened the levels `opened`.
pub record At (pre : List Word) (s : List Entry) (t : List Node) (f : List ℕ → List ℕ) : Type 0 where
  pub stack : List Entry
  pub tab : List Node
  pub count : List ℕ → List ℕ
  pub opened : List ℕ
  pub moves : (r : List Word) → parse (pre ++ r) s t f ≡ parse r stack tab count
  pub counts : (l : List ℕ) → count l ≡ f (opened ++ l)
  pub each : length opened ≡ length pre

at_nil : (s : List Entry) (t : List Node) (f : List ℕ → List ℕ) → At [] s t f
at_nil s t f = record { stack = s; tab = t; count = f; opened = []; moves = λ r. refl; counts = λ l. refl; each = refl }

module _ {x : Word} {pre : List Word} {X : Sym} {q : ℕ} {u : Ctx} {s : List Entry} {t : List Node} {f : List ℕ → List ℕ} where
  at_step : (j : ℕ) (a : Machine.Act) (ps : Option Machine.Push) (ns : Option Sym) → pick (tag x) (rules X) ≡ some (rule j a ps ns)
      → At pre (places ps (suc (length t)) q u (follow ns (suc (length t)) u s)) (Machine.act a (place_word x) q u t) (λ l. f (Machine.opened ps u ∷ l))
      → At (x ∷ pre) (ent X q u ∷ s) t f
  unfolding parse
  at_step j a ps ns e w =
      record {
        stack = w.stack;
        tab = w.tab;
        count = w.count;
        opened = Machine.opened ps u ∷ w.opened;
        moves = λ r. rw (e, parse) (w.moves r);
        counts = λ l. w.counts l;
        each = ap suc w.each;
      }

pub done_levels : {t t' : List Node} {o o' : List ℕ} → through t o ≡ through t' o' → o ≡ o'
done_levels e = cc

stop_rest : {a b : List Word} {l m : List ℕ} → stuck a l ≡ stuck b m → a ≡ b
stop_rest e = cc

stop_levels : {a b : List Word} {l m : List ℕ} → stuck a l ≡ stuck b m → l ≡ m
stop_levels e = cc

pub no_stop : {ts : List Word} {l o : List ℕ} {t : List Node} → stuck ts l ≡ through t o → ⊥
no_stop e = subst (λ (r : Parsed). elim r as (λ _. Type 0) [ through t o ↦ ⊥ | stuck ts l ↦ Unit {0} ]) e tt

-- what is read to the end was read up to any of its words
pub advance : (pre r : List Word) (s : List Entry) (t : List Node) (f : List ℕ → List ℕ) (t' : List Node) (o : List ℕ) → parse (pre ++ r) s t f ≡ through t' o → At pre s t f
unfolding parse
advance [] r s t f t' o e = at_nil s t f
advance (x ∷ pre) r [] t f t' o e = absurd (no_stop e)
advance (x ∷ pre) r (ent X q u ∷ s) t f t' o e = go (pick (tag x) (rules X)) refl e (λ s' tab g e'. advance pre r s' tab g t' o e')
  where
    go : (c : Option Rule)
        → pick (tag x) (rules X) ≡ c
        → elim c as (λ _. Parsed) [ none ↦ stuck (x ∷ pre ++ r) (f []) | some ρ ↦ Machine.fire ρ (place_word x) q u s t f (λ s' t' g. parse (pre ++ r) s' t' g) ] ≡ through t' o
        → ((s' : List Entry) (tab : List Node) (g : List ℕ → List ℕ) → parse (pre ++ r) s' tab g ≡ through t' o → At pre s' tab g)
        → At (x ∷ pre) (ent X q u ∷ s) t f
    go none c e' ih = absurd (no_stop e')
    go (some (rule j a ps ns)) c e' ih = at_step j a ps ns c (ih _ _ _ e')

-- the levels that were opened stay
grows : (r : List Word) (s : List Entry) (t : List Node) (f : List ℕ → List ℕ) (t' : List Node) (o : List ℕ) → parse r s t f ≡ through t' o → (z : List ℕ) × (o ≡ f z)
unfolding parse
grows [] [] t f t' o e = ([], sym (done_levels e))
grows [] (x ∷ s) t f t' o e = absurd (no_stop e)
grows (x ∷ r) [] t f t' o e = absurd (no_stop e)
grows (x ∷ r) (ent X q u ∷ s) t f t' o e = go (pick (tag x) (rules X)) e (λ s' tab g e'. grows r s' tab g t' o e')
  where
    go : (c : Option Rule)
        → elim c as (λ _. Parsed) [ none ↦ stuck (x ∷ r) (f []) | some ρ ↦ Machine.fire ρ (place_word x) q u s t f (λ s' t' g. parse r s' t' g) ] ≡ through t' o
        → ((s' : List Entry) (tab : List Node) (g : List ℕ → List ℕ) → parse r s' tab g ≡ through t' o → (z : List ℕ) × (o ≡ g z))
        → (z : List ℕ) × (o ≡ f z)
    go none e' ih = absurd (no_stop e')
    go (some (rule j a ps ns)) e' ih = let w = ih _ _ _ e' in (Machine.opened ps u ∷ w.0, w.1)

-- from the start
abbrev pub Reached : List Word → Type 0
Reached pre = At pre start [] (λ l. l)

-- in every program that begins with `pre`, the words of `pre` open the levels that the machine has counted
same_levels : {pre : List Word} (A : Reached pre) (r : List Word) {b : Block} → Reads BLOCK b (pre ++ r) [] → (z : List ℕ) × (levels b ≡ A.opened ++ z)
same_levels A r {b} h =
    let g = grows r A.stack A.tab A.count _ _ (sym (A.moves r) ∙ complete h) in
    (g.0, g.1 ∙ A.counts g.0)

pub opens : {pre : List Word} (A : Reached pre) → Opens pre A.opened
opens {pre} A =
    let w = finish A.stack A.tab A.count in
    let p = sound (pre ++ w.0) w.1 w.2 (A.moves w.0 ∙ w.3) in
    let z = same_levels A w.0 p.1 in
    record { rest = w.0; tree = p.0; reads = p.1; more = z.0; opens = z.1; each = A.each }

pub reached : {pre : List Word} → Begins pre → Reached pre
reached {pre} b = advance pre b.0 start [] (λ l. l) _ _ (complete b.1.1)

cons_tail : {x y : ℕ} {a b : List ℕ} → x ∷ a ≡ y ∷ b → a ≡ b
cons_tail e = cc

cons_head : {x y : ℕ} {a b : List ℕ} → x ∷ a ≡ y ∷ b → x ≡ y
cons_head e = cc

same_front : (a b c d : List ℕ) → a ++ c ≡ b ++ d → length a ≡ length b → a ≡ b
same_front [] [] c d e h = refl
same_front [] (y ∷ b) c d e h = absurd (omega arith)
same_front (x ∷ a) [] c d e h = absurd (omega arith)
same_front (x ∷ a) (y ∷ b) c d e h =
    ap (λ (z : ℕ). z ∷ a) (cons_head e) ∙ ap (λ (z : List ℕ). y ∷ z) (same_front a b c d (cons_tail e) (omega arith))

pub begins : {pre : List Word} {ls : List ℕ} → Opens pre ls → Begins pre
begins o = (o.rest, (o.tree, o.reads))

-- the levels that words open are one list
pub one_levels : {pre : List Word} {ls : List ℕ} (A : Reached pre) → Opens pre ls → A.opened ≡ ls
one_levels {ls = ls} A o =
    let z = same_levels A o.rest o.reads in
    same_front A.opened ls z.0 o.more (sym z.1 ∙ o.opens) (A.each ∙ sym o.each)

-- The machine refuses the first word of `rest`, whatever follows, or the end.
abbrev pub Stuck : List Entry → List Node → List Word → Type 0
Stuck s t [] = (f : List ℕ → List ℕ) → parse [] s t f ≡ stuck [] (f [])
Stuck s t (x ∷ rest) = (y : List Word) (f : List ℕ → List ℕ) → parse (x ∷ y) s t f ≡ stuck (x ∷ y) (f [])

-- the machine came to `rest` and stops there, and says which levels were opened
pub record Stops (ts : List Word) (s : List Entry) (t : List Node) (f : List ℕ → List ℕ) (rest : List Word) (lv : List ℕ) : Type 0 where
  pre : List Word
  split : ts ≡ pre ++ rest
  point : At pre s t f
  stuck : Stuck point.stack point.tab rest
  says : lv ≡ point.count []

here : (ts : List Word) (s : List Entry) (t : List Node) (f : List ℕ → List ℕ) {rest : List Word} {lv : List ℕ} → Stuck s t ts → ts ≡ rest → f [] ≡ lv → Stops ts s t f rest lv
unfolding at_nil
here ts s t f {lv = lv} h e k =
    subst (λ (r : List Word). Stops ts s t f r lv) e (record { pre = []; split = refl; point = at_nil s t f; stuck = h; says = sym k })

pub no_done : {ts : List Word} {l o : List ℕ} {t : List Node} → through t o ≡ stuck ts l → ⊥
no_done e = no_stop (sym e)

reach : (ts : List Word) (s : List Entry) (t : List Node) (f : List ℕ → List ℕ) (rest : List Word) (lv : List ℕ) → parse ts s t f ≡ stuck rest lv → Stops ts s t f rest lv
unfolding parse at_nil at_step
reach [] [] t f rest lv e = absurd (no_done e)
reach [] (x ∷ s) t f rest lv e = here [] (x ∷ s) t f (λ g. refl) (stop_rest e) (stop_levels e)
reach (x ∷ ts) [] t f rest lv e = here (x ∷ ts) [] t f (λ y g. refl) (stop_rest e) (stop_levels e)
reach (x ∷ ts) (ent X q u ∷ s) t f rest lv e = go (pick (tag x) (rules X)) refl e (λ s' t' g e'. reach ts s' t' g rest lv e')
  where
    go : (c : Option Rule)
        → pick (tag x) (rules X) ≡ c
        → elim c as (λ _. Parsed) [ none ↦ stuck (x ∷ ts) (f []) | some ρ ↦ Machine.fire ρ (place_word x) q u s t f (λ s' t' g. parse ts s' t' g) ] ≡ stuck rest lv
        → ((s' : List Entry) (t' : List Node) (g : List ℕ → List ℕ) → parse ts s' t' g ≡ stuck rest lv → Stops ts s' t' g rest lv)
        → Stops (x ∷ ts) (ent X q u ∷ s) t f rest lv
    go none c e' ih = here (x ∷ ts) (ent X q u ∷ s) t f (λ y g. rw (c, parse) refl) (stop_rest e') (stop_levels e')
    go (some (rule j a ps ns)) c e' ih =
        let w = ih _ _ _ e' in
        record {
          pre = x ∷ w.pre;
          split = ap (λ (l : List Word). x ∷ l) w.split;
          point = at_step j a ps ns c w.point;
          stuck = w.stuck;
          says = w.says;
        }

pub append_one : (pre : List Word) (x : Word) (r : List Word) → (pre ++ (x ∷ [])) ++ r ≡ pre ++ (x ∷ r)
append_one pre x r = append_assoc pre (x ∷ []) r

pub ends : {pre : List Word} (A : Reached pre) (rest : List Word) → Stuck A.stack A.tab rest → Ends pre rest
ends {pre} A [] k = λ b. no_done (sym (complete b.1) ∙ (ap whole (sym (append-nil pre)) ∙ (A.moves [] ∙ k _)))
ends {pre} A (x ∷ rest) k = λ b. no_done (sym (complete b.1.1) ∙ (ap whole (append_one pre x b.0) ∙ (A.moves (x ∷ b.0) ∙ k b.0 _)))

-- Where the machine stops: the words before it begin a program and open the levels that it says, and with the next they do not.
pub refused_at : (ts rest : List Word) (lv : List ℕ) → whole ts ≡ stuck rest lv → (pre : List Word) × (ts ≡ pre ++ rest) × Opens pre lv × Ends pre rest
refused_at ts rest lv e =
    let w = reach ts start [] (λ l. l) rest lv e in
    let A = w.point in
    (w.pre, w.split, subst (Opens w.pre) (sym (w.says ∙ (A.counts [] ∙ append-nil A.opened))) (opens A), ends A rest w.stuck)

-- the machine is stuck at a word that it does not take, and at the end of what is no program
halts : (s : List Entry) (t : List Node) (f : List ℕ → List ℕ) (x : Word) → (At (x ∷ []) s t f → ⊥) → Stuck s t (x ∷ [])
unfolding parse
halts [] t f x h = λ y g. refl
halts (ent X q u ∷ s) t f x h = go (pick (tag x) (rules X)) refl
  where
    go : (c : Option Rule) → pick (tag x) (rules X) ≡ c → Stuck (ent X q u ∷ s) t (x ∷ [])
    go none c = λ y g. rw (c, parse) refl
    go (some (rule j a ps ns)) c = absurd (h (at_step j a ps ns c (at_nil _ _ _)))

halts_end : (s : List Entry) (t : List Node) (f : List ℕ → List ℕ) → (parse [] s t f ≡ through t (f []) → ⊥) → Stuck s t []
unfolding parse
halts_end [] t f h = absurd (h refl)
halts_end (x ∷ s) t f h = λ g. refl

goes_on : {pre : List Word} (A : Reached pre) (x : Word) → At (x ∷ []) A.stack A.tab A.count → Begins (pre ++ (x ∷ []))
goes_on {pre} A x B =
    let w = finish B.stack B.tab B.count in
    let e : whole ((pre ++ (x ∷ [])) ++ w.0) ≡ through w.1 w.2 = ap whole (append_one pre x w.0) ∙ (A.moves (x ∷ w.0) ∙ (B.moves w.0 ∙ w.3)) in
    (w.0, sound ((pre ++ (x ∷ [])) ++ w.0) w.1 w.2 e)

stuck_at : {pre : List Word} (A : Reached pre) (rest : List Word) → Ends pre rest → Stuck A.stack A.tab rest
stuck_at {pre} A [] h = halts_end A.stack A.tab A.count (λ e. h (sound pre _ _ (ap whole (sym (append-nil pre)) ∙ (A.moves [] ∙ e))))
stuck_at A (x ∷ rest) h = halts A.stack A.tab A.count x (λ B. h (goes_on A x B))

stuck_run : (s : List Entry) (t : List Node) (f : List ℕ → List ℕ) (rest : List Word) → Stuck s t rest → parse rest s t f ≡ stuck rest (f [])
stuck_run s t f [] h = h f
stuck_run s t f (x ∷ rest) h = h rest f

-- Where the words begin a program and with the next do not, the machine stops, and says which levels they open.
pub stops_at : {pre : List Word} {ls : List ℕ} (rest : List Word) → Opens pre ls → Ends pre rest → whole (pre ++ rest) ≡ stuck rest ls
stops_at {pre} {ls} rest o h =
    let A = reached (begins o) in
    let e : A.count [] ≡ ls = A.counts [] ∙ (append-nil A.opened ∙ one_levels A o) in
    A.moves rest ∙ (stuck_run A.stack A.tab A.count rest (stuck_at A rest h) ∙ ap (λ (l : List ℕ). stuck rest l) e)

end_levels : (s : List Entry) (t : List Node) (f : List ℕ → List ℕ) {t' : List Node} {o : List ℕ} → parse [] s t f ≡ through t' o → o ≡ f []
unfolding parse
end_levels [] t f e = sym (done_levels e)
end_levels (x ∷ s) t f e = absurd (no_stop e)

-- A program's words open the levels that the machine says.
pub says_done : {ts : List Word} {t : List Node} {o : List ℕ} → whole ts ≡ through t o → Opens ts o
says_done {ts} {t} {o} e =
    let p = sound ts t o e in
    let b : Begins ts = ([], (p.0, subst (λ (l : List Word). Reads BLOCK p.0 l []) (sym (append-nil ts)) p.1)) in
    let A = reached b in
    let h : o ≡ A.opened = end_levels A.stack A.tab A.count (sym (A.moves []) ∙ (ap whole (append-nil ts) ∙ e)) ∙ (A.counts [] ∙ append-nil A.opened) in
    subst (Opens ts) (sym h) (opens A)

-- whatever the end, the levels that were opened stay
stay : (r : List Word) (s : List Entry) (t : List Node) (f : List ℕ → List ℕ) → (z : List ℕ) × (levels_in (parse r s t f) ≡ f z)
unfolding parse
stay [] [] t f = ([], refl)
stay [] (x ∷ s) t f = ([], refl)
stay (x ∷ r) [] t f = ([], refl)
stay (x ∷ r) (ent X q u ∷ s) t f = go (pick (tag x) (rules X)) (λ s' tab g. stay r s' tab g)
  where
    go : (c : Option Rule)
        → ((s' : List Entry) (tab : List Node) (g : List ℕ → List ℕ) → (z : List ℕ) × (levels_in (parse r s' tab g) ≡ g z))
        → (z : List ℕ) × (levels_in (elim c as (λ _. Parsed) [ none ↦ stuck (x ∷ r) (f []) | some ρ ↦ Machine.fire ρ (place_word x) q u s t f (λ s' t' g. parse r s' t' g) ]) ≡ f z)
    go none ih = ([], refl)
    go (some (rule j a ps ns)) ih = let w = ih _ _ _ in (Machine.opened ps u ∷ w.0, w.1)

-- Whatever the answer to words that begin so, their levels begin with these.
pub says_any : {pre : List Word} {ls : List ℕ} (rest : List Word) → Opens pre ls → (z : List ℕ) × (levels_in (whole (pre ++ rest)) ≡ ls ++ z)
says_any {pre} {ls} rest o =
    let A = reached (begins o) in
    let w = stay rest A.stack A.tab A.count in
    (w.0, ap levels_in (A.moves rest) ∙ (w.1 ∙ (A.counts w.0 ∙ ap (λ (l : List ℕ). l ++ w.0) (one_levels A o))))
