-- The numbers of the tables say what the grammar's machine has there: kinds of words, symbols, rules, entries.
use mathlib.Core.Path.{◌≡◌, refl, ◌∙◌, ap, subst}
use mathlib.Core.List.{List, [], ◌∷◌, ◌++◌, map}
use mathlib.Core.Option.{Option, none, some, some-injective, none-ne-some}
use mathlib.Core.Bool.{Bool, true, false, cond, ◌&&◌}
use Prim.Native.Nat.{ℕ, zero, suc, ◌+◌, ◌*◌, ◌/◌, ◌%◌, ◌<◌}
use native.Mathlib.Numerals.{add-one}
use native.Mathlib.Omega.{arith}
use lib.Dec.{eqb, ltb}
use borrow.Author.Tests.{ltb-true}
use Rattle.language.specs.Levels.{deepest}
use Rattle.language.specs.Words.{Word, place_word}
use Rattle.language.proofs.Reading.Machine.{code, tag, cal, lev, ctx, Ctx, down, Sym, Act, Push, kid, deep, same, body, back, call, Rule, rule, rules}
use Rattle.language.proofs.Reading.Machine.{pick, Entry, ent, opened, places, follow}
use Rattle.language.proofs.Reading.Machine.{sym_block, sym_body, sym_tail, sym_semi, sym_cn, sym_ct, sym_expr, sym_funh, sym_fn, sym_ft, sym_fl, sym_arg1, sym_arg0, sym_colon, sym_type, sym_vn}
use Rattle.language.proofs.Reading.Machine.{sym_proch, sym_pn, sym_pl, sym_argp1, sym_argp0, sym_varn, sym_sn, sym_ic, sym_ib, sym_wc, sym_kn, sym_k1, sym_k0, sym_paren, sym_parenp, sym_e3, sym_e2}
use Rattle.language.proofs.Reading.Machine.{sym_e1, sym_rp, sym_args1, sym_args0, sym_an, sym_ts1, sym_ts0, sym_tr, sym_tp, sym_at, sym_farg1, sym_farg0, sym_fbody, sym_fopen, sym_end}
use Rattle.language.proofs.Reading.Machine
use Rattle.scanning.specs.Scanning.{word_entry}
use Rattle.parsing.specs.Codes
use Rattle.parsing.specs.Codes.{sym_code, rule_word, packed_rule, rule_list, rule_starts, entry_word}
use Rattle.parsing.specs.Steps.{sym_in, level_in, link_in, call_in, act_at, act_in, kind_in, how_at, how_in, push_by, push_in, beside_in, found, rules_at, rule_for}
use Rattle.parsing.specs.Steps.{opened_by, level_opened, too_deep, above_by, above, beside_by, beside}
use Rattle.std.specs.Prelude.{Some, None, unwrap_or}
use Rattle.std.specs.Prelude.{Option as Maybe}
use Rattle.parsing.specs.declared.rules.Rule.{Rule as CodedRule}
use Rattle.parsing.specs.declared.rules.Act.{Act as CodedAct}
use Rattle.parsing.specs.declared.rules.Act.TheVariants as act
use Rattle.parsing.specs.declared.rules.How.{How as CodedHow}
use Rattle.parsing.specs.declared.rules.How.TheVariants as how

-- the kind of node that a rule writes
abbrev pub act_kind : Act → ℕ
act_kind Machine.skip = 0
act_kind (Machine.leaf k) = k
act_kind (Machine.fork k) = k
act_kind (Machine.turn k) = k
act_kind (Machine.lead k) = k

abbrev pub rule_kind : Rule → ℕ
rule_kind (rule j a ps ns) = act_kind a

abbrev kinds_fit : List Rule → Bool
kinds_fit [] = true
kinds_fit (r ∷ rs) = ltb (rule_kind r) 32 && kinds_fit rs

-- a symbol's number is below 48, and the table has its rules there; they write kinds of nodes below 32
record Known (X : Sym) : Type 0 where
  small : sym_code X < 48
  listed : rules_at (sym_code X) ≡ map packed_rule (rules X)
  kinds : kinds_fit (rules X) ≡ true

known : (X : Sym) → Known X
unfolding rule_list rule_starts
known sym_block = record { small = omega arith; listed = refl; kinds = refl }
known sym_body = record { small = omega arith; listed = refl; kinds = refl }
known sym_tail = record { small = omega arith; listed = refl; kinds = refl }
known sym_semi = record { small = omega arith; listed = refl; kinds = refl }
known sym_cn = record { small = omega arith; listed = refl; kinds = refl }
known sym_ct = record { small = omega arith; listed = refl; kinds = refl }
known sym_expr = record { small = omega arith; listed = refl; kinds = refl }
known sym_funh = record { small = omega arith; listed = refl; kinds = refl }
known sym_fn = record { small = omega arith; listed = refl; kinds = refl }
known sym_ft = record { small = omega arith; listed = refl; kinds = refl }
known sym_fl = record { small = omega arith; listed = refl; kinds = refl }
known sym_arg1 = record { small = omega arith; listed = refl; kinds = refl }
known sym_arg0 = record { small = omega arith; listed = refl; kinds = refl }
known sym_colon = record { small = omega arith; listed = refl; kinds = refl }
known sym_type = record { small = omega arith; listed = refl; kinds = refl }
known sym_vn = record { small = omega arith; listed = refl; kinds = refl }
known sym_proch = record { small = omega arith; listed = refl; kinds = refl }
known sym_pn = record { small = omega arith; listed = refl; kinds = refl }
known sym_pl = record { small = omega arith; listed = refl; kinds = refl }
known sym_argp1 = record { small = omega arith; listed = refl; kinds = refl }
known sym_argp0 = record { small = omega arith; listed = refl; kinds = refl }
known sym_varn = record { small = omega arith; listed = refl; kinds = refl }
known sym_sn = record { small = omega arith; listed = refl; kinds = refl }
known sym_ic = record { small = omega arith; listed = refl; kinds = refl }
known sym_ib = record { small = omega arith; listed = refl; kinds = refl }
known sym_wc = record { small = omega arith; listed = refl; kinds = refl }
known sym_kn = record { small = omega arith; listed = refl; kinds = refl }
known sym_k1 = record { small = omega arith; listed = refl; kinds = refl }
known sym_k0 = record { small = omega arith; listed = refl; kinds = refl }
known sym_paren = record { small = omega arith; listed = refl; kinds = refl }
known sym_parenp = record { small = omega arith; listed = refl; kinds = refl }
known sym_e3 = record { small = omega arith; listed = refl; kinds = refl }
known sym_e2 = record { small = omega arith; listed = refl; kinds = refl }
known sym_e1 = record { small = omega arith; listed = refl; kinds = refl }
known sym_rp = record { small = omega arith; listed = refl; kinds = refl }
known sym_args1 = record { small = omega arith; listed = refl; kinds = refl }
known sym_args0 = record { small = omega arith; listed = refl; kinds = refl }
known sym_an = record { small = omega arith; listed = refl; kinds = refl }
known sym_ts1 = record { small = omega arith; listed = refl; kinds = refl }
known sym_ts0 = record { small = omega arith; listed = refl; kinds = refl }
known sym_tr = record { small = omega arith; listed = refl; kinds = refl }
known sym_tp = record { small = omega arith; listed = refl; kinds = refl }
known sym_at = record { small = omega arith; listed = refl; kinds = refl }
known sym_farg1 = record { small = omega arith; listed = refl; kinds = refl }
known sym_farg0 = record { small = omega arith; listed = refl; kinds = refl }
known sym_fbody = record { small = omega arith; listed = refl; kinds = refl }
known sym_fopen = record { small = omega arith; listed = refl; kinds = refl }
known sym_end = record { small = omega arith; listed = refl; kinds = refl }

and_left : (a b : Bool) → (a && b) ≡ true → a ≡ true
and_left true b e = refl
and_left false b e = e

pub and_right : (a b : Bool) → (a && b) ≡ true → b ≡ true
and_right true b e = e
and_right false b e = absurd (subst (λ (c : Bool). elim c as (λ _. Type 0) [ true ↦ ⊥ | false ↦ Unit {0} ]) e tt)

picked_kind : (k : ℕ) (rs : List Rule) (ρ : Rule) → kinds_fit rs ≡ true → pick k rs ≡ some ρ → rule_kind ρ < 32
picked_kind k [] ρ h e = absurd (none-ne-some ρ e)
picked_kind k (rule j a ps ns ∷ rs) ρ h e = go (eqb k j) e (λ e'. picked_kind k rs ρ (and_right (ltb (act_kind a) 32) (kinds_fit rs) h) e')
  where
    go : (b : Bool) → cond b (some (rule j a ps ns)) (pick k rs) ≡ some ρ → (pick k rs ≡ some ρ → rule_kind ρ < 32) → rule_kind ρ < 32
    go true e' ih =
        subst (λ (z : Rule). rule_kind z < 32) (some-injective (rule j a ps ns) ρ e')
        (ltb-true (act_kind a) 32 (and_left (ltb (act_kind a) 32) (kinds_fit rs) h))
    go false e' ih = ih e'

pub kind_fits : (k : ℕ) (X : Sym) (ρ : Rule) → pick k (rules X) ≡ some ρ → rule_kind ρ < 32
kind_fits k X ρ e = picked_kind k (rules X) ρ (known X).kinds e

sym_small : (X : Sym) → sym_code X < 64
sym_small X = let h = (known X).small in omega (arith, h)

-- the parts of a rule
how_small : (ps : Option Push) → Codes.how_code ps < 8
how_small none = omega arith
how_small (some (kid Y)) = omega arith
how_small (some (deep Y)) = omega arith
how_small (some (same Y)) = omega arith
how_small (some (body Y)) = omega arith
how_small (some (back Y)) = omega arith
how_small (some (call Y)) = omega arith

push_small : (ps : Option Push) → Codes.push_code ps < 64
push_small none = omega arith
push_small (some (kid Y)) = sym_small Y
push_small (some (deep Y)) = sym_small Y
push_small (some (same Y)) = sym_small Y
push_small (some (body Y)) = sym_small Y
push_small (some (back Y)) = sym_small Y
push_small (some (call Y)) = sym_small Y

flag_small : (ns : Option Sym) → Codes.flag_code ns < 2
flag_small none = omega arith
flag_small (some Y) = omega arith

next_small : (ns : Option Sym) → Codes.next_code ns < 64
next_small none = omega arith
next_small (some Y) = sym_small Y

-- how a rule writes: 1 a leaf, 2 a fork, 3 another kind, 4 the first command of a function's block
abbrev pub act_number : Act → ℕ
act_number Machine.skip = 0
act_number (Machine.leaf k) = 1
act_number (Machine.fork k) = 2
act_number (Machine.turn k) = 3
act_number (Machine.lead k) = 4

act_coded : (a : Act) → Codes.act_code a ≡ act_number a * 32 + act_kind a
act_coded Machine.skip = refl
act_coded (Machine.leaf k) = omega arith
act_coded (Machine.fork k) = omega arith
act_coded (Machine.turn k) = omega arith
act_coded (Machine.lead k) = omega arith

act_number_small : (a : Act) → act_number a < 8
act_number_small Machine.skip = omega arith
act_number_small (Machine.leaf k) = omega arith
act_number_small (Machine.fork k) = omega arith
act_number_small (Machine.turn k) = omega arith
act_number_small (Machine.lead k) = omega arith

-- a rule of the machine as the code has it
abbrev pub rule_of : Rule → CodedRule
rule_of ρ = record { bits = rule_word (some ρ) }

abbrev pub rule_or_none : Option Rule → Maybe CodedRule
rule_or_none none = None
rule_or_none (some ρ) = Some (rule_of ρ)

abbrev pub act_of : Act → CodedAct
act_of Machine.skip = act.Skip
act_of (Machine.leaf k) = act.Leaf
act_of (Machine.fork k) = act.Fork
act_of (Machine.turn k) = act.Turn
act_of (Machine.lead k) = act.Lead

act_numbered : (a : Act) → act_at (act_number a) ≡ act_of a
act_numbered Machine.skip = refl
act_numbered (Machine.leaf k) = refl
act_numbered (Machine.fork k) = refl
act_numbered (Machine.turn k) = refl
act_numbered (Machine.lead k) = refl

abbrev how_of : Option Push → Maybe CodedHow
how_of none = None
how_of (some (kid X)) = Some how.Kid
how_of (some (deep X)) = Some how.Deep
how_of (some (same X)) = Some how.Same
how_of (some (body X)) = Some how.Body
how_of (some (back X)) = Some how.Back
how_of (some (call X)) = Some how.Call

how_numbered : (ps : Option Push) → how_at (Codes.how_code ps) ≡ how_of ps
how_numbered none = refl
how_numbered (some (kid X)) = refl
how_numbered (some (deep X)) = refl
how_numbered (some (same X)) = refl
how_numbered (some (body X)) = refl
how_numbered (some (back X)) = refl
how_numbered (some (call X)) = refl

abbrev symbol_of : Option Sym → Maybe ℕ
symbol_of none = None
symbol_of (some X) = Some (sym_code X)

symbol_numbered : (ns : Option Sym) → cond (eqb (Codes.flag_code ns) 0) None (Some (Codes.next_code ns)) ≡ symbol_of ns
symbol_numbered none = refl
symbol_numbered (some X) = refl

module _ (k : ℕ) (a : Act) (ps : Option Push) (ns : Option Sym) where
  -- the bits of a rule are never 0
  pub no_zero : rule_word (some (rule k a ps ns)) ≡ 0 → ⊥
  no_zero z = omega arith

  how_read : how_in (rule_of (rule k a ps ns)) ≡ how_of ps
  how_read =
      let number : rule_word (some (rule k a ps ns)) / 16384 % 8 ≡ Codes.how_code ps = omega (arith, how_small ps, push_small ps, flag_small ns, next_small ns) in
      ap how_at number ∙ how_numbered ps

  push_read : push_in (rule_of (rule k a ps ns)) ≡ push_by (how_of ps) (Codes.push_code ps)
  push_read =
      let number : rule_word (some (rule k a ps ns)) / 256 % 64 ≡ Codes.push_code ps = omega (arith, how_small ps, push_small ps, flag_small ns, next_small ns) in
      ap (push_by (how_in (rule_of (rule k a ps ns)))) number ∙ ap (λ (h : Maybe CodedHow). push_by h (Codes.push_code ps)) how_read

  beside_read : beside_in (rule_of (rule k a ps ns)) ≡ symbol_of ns
  beside_read =
      let flag : rule_word (some (rule k a ps ns)) / 128 % 2 ≡ Codes.flag_code ns = omega (arith, how_small ps, push_small ps, flag_small ns, next_small ns) in
      let next : rule_word (some (rule k a ps ns)) / 2 % 64 ≡ Codes.next_code ns = omega (arith, how_small ps, push_small ps, flag_small ns, next_small ns) in
      rw (flag, next) (symbol_numbered ns)

  pub act_read : act_kind a < 32 → act_in (rule_of (rule k a ps ns)) ≡ act_of a
  act_read h =
      let number : rule_word (some (rule k a ps ns)) / 4194304 % 8 ≡ act_number a =
      omega (arith, act_coded a, act_number_small a, how_small ps, push_small ps, flag_small ns, next_small ns) in
      ap act_at number ∙ act_numbered a

  pub kind_read : act_kind a < 32 → kind_in (rule_of (rule k a ps ns)) ≡ act_kind a
  kind_read h = omega (arith, act_coded a, act_number_small a, how_small ps, push_small ps, flag_small ns, next_small ns)

-- the first rule for a kind of word is the one that the machine picks
found_picked : (k : ℕ) (rs : List Rule) → kinds_fit rs ≡ true → found k (map packed_rule rs) ≡ rule_or_none (pick k rs)
unfolding found
found_picked k [] h = refl
found_picked k (rule j a ps ns ∷ rs) h =
    let small : act_kind a < 32 = ltb-true (act_kind a) 32 (and_left (ltb (act_kind a) 32) (kinds_fit rs) h) in
    let below : rule_word (some (rule j a ps ns)) < 33554432 =
    omega (arith, small, act_coded a, act_number_small a, how_small ps, push_small ps, flag_small ns, next_small ns) in
    let kind : packed_rule (rule j a ps ns) / 33554432 ≡ j = omega arith in
    let word : packed_rule (rule j a ps ns) % 33554432 ≡ rule_word (some (rule j a ps ns)) = omega arith in
    rw (kind, word, found_picked k rs (and_right (ltb (act_kind a) 32) (kinds_fit rs) h)) (picked (eqb k j))
  where
    picked : (b : Bool) → cond b (Some (rule_of (rule j a ps ns))) (rule_or_none (pick k rs)) ≡ rule_or_none (cond b (some (rule j a ps ns)) (pick k rs))
    picked true = refl
    picked false = refl

-- a level by the machine's number of it
abbrev pub level_or_none : ℕ → Maybe ℕ
level_or_none zero = None
level_or_none (suc n) = Some (suc n)

level_deep : (n : ℕ) → too_deep (level_or_none n) ≡ ltb deepest n
level_deep zero = refl
level_deep (suc n) = refl

-- the parts of an entry
module _ (X : Sym) (q : ℕ) (u : Ctx) (hq : q < 65536) (hc : cal u < 65536) (hd : lev u < 256) where
  sym_of : sym_in (entry_word (ent X q u)) ≡ sym_code X
  sym_of = omega arith

  level_of : level_in (entry_word (ent X q u)) ≡ lev u
  level_of = omega arith

  pub link_of : link_in (entry_word (ent X q u)) ≡ q
  link_of = omega arith

  pub call_of : call_in (entry_word (ent X q u)) ≡ cal u
  call_of = omega arith

  -- the code finds the rule that the machine picks
  pub rule_found : (x : Word) → place_word x < 65536 → rule_for (entry_word (ent X q u)) (word_entry x) ≡ rule_or_none (pick (tag x) (rules X))
  unfolding rule_for
  rule_found x hp =
      let kind : word_entry x / 65536 ≡ tag x = omega arith in
      rw (sym_of, kind, (known X).listed) (found_picked (tag x) (rules X) (known X).kinds)

  -- the level that it opens, which the machine numbers 0 for none; and whether it is too deep
  pub opened_found : (k : ℕ) (a : Act) (ps : Option Push) (ns : Option Sym)
      → level_opened (rule_of (rule k a ps ns)) (entry_word (ent X q u)) ≡ level_or_none (opened ps u)
  opened_found k a ps ns = rw (how_read k a ps ns) (go ps)
    where
      go : (ps : Option Push) → opened_by (how_of ps) (entry_word (ent X q u)) ≡ level_or_none (opened ps u)
      go none = refl
      go (some (kid Y)) = refl
      go (some (deep Y)) = rw (level_of, add-one (lev u)) refl
      go (some (same Y)) = refl
      go (some (body Y)) = refl
      go (some (back Y)) = refl
      go (some (call Y)) = refl

  pub deep_found : (k : ℕ) (a : Act) (ps : Option Push) (ns : Option Sym)
      → too_deep (level_opened (rule_of (rule k a ps ns)) (entry_word (ent X q u))) ≡ ltb deepest (opened ps u)
  deep_found k a ps ns = ap too_deep (opened_found k a ps ns) ∙ level_deep (opened ps u)

  -- and what it pushes above and beside what lies below
  module _ (k : ℕ) (a : Act) (ps : Option Push) (ns : Option Sym) (n : ℕ) where
    pushed_above : (s : List Entry) → above (rule_of (rule k a ps ns)) (entry_word (ent X q u)) n ++ map entry_word s ≡ map entry_word (places ps n q u s)
    pushed_above s = rw (push_read k a ps ns, how_read k a ps ns) (go ps)
      where
        go : (ps : Option Push)
            → above_by (push_by (how_of ps) (Codes.push_code ps)) (unwrap_or (opened_by (how_of ps) (entry_word (ent X q u))) (level_in (entry_word (ent X q u))))
            (entry_word (ent X q u)) n ++ map entry_word s
            ≡ map entry_word (places ps n q u s)
        go none = refl
        go (some (kid Y)) = rw (level_of, call_of) refl
        go (some (deep Y)) = rw (level_of, call_of, add-one (lev u)) refl
        go (some (same Y)) = rw (level_of, link_of, call_of) refl
        go (some (body Y)) = rw (level_of, link_of) refl
        go (some (back Y)) = rw (level_of, call_of) refl
        go (some (call Y)) = rw level_of refl

    pushed_beside : (s : List Entry) → beside (rule_of (rule k a ps ns)) (entry_word (ent X q u)) n ++ map entry_word s ≡ map entry_word (follow ns n u s)
    pushed_beside s = rw (beside_read k a ps ns) (go ns)
      where
        go : (ns : Option Sym) → beside_by (symbol_of ns) (entry_word (ent X q u)) n ++ map entry_word s ≡ map entry_word (follow ns n u s)
        go none = refl
        go (some Y) = rw (level_of, call_of) refl

    -- what the code leaves on the stack is the machine's stack after the rule
    pub pushed : (s : List Entry)
        → above (rule_of (rule k a ps ns)) (entry_word (ent X q u)) n ++ (beside (rule_of (rule k a ps ns)) (entry_word (ent X q u)) n ++ map entry_word s)
        ≡ map entry_word (places ps n q u (follow ns n u s))
    pushed s =
        ap (λ (l : List ℕ). above (rule_of (rule k a ps ns)) (entry_word (ent X q u)) n ++ l) (pushed_beside s) ∙ pushed_above (follow ns n u s)
