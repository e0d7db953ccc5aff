-- The grammar's machine as numbers: what the rule table and the stack of the code hold.
use Rattle.std.specs.Prelude.{List, [], ◌∷◌, ◌++◌, map, ℕ, ◌+◌, ◌*◌, length}
use Rattle.std.proofs.Math.Option.{Option, none, some}
use Rattle.language.proofs.Reading.Machine.{cal, lev, Sym, Act, skip, leaf, fork, turn, lead, Push, kid, deep, same, body, back, call, Rule, rule}
use Rattle.language.proofs.Reading.Machine.{rules, Entry, ent}
use Rattle.language.proofs.Reading.Machine.{sym_block, sym_body, sym_tail, sym_semi, sym_cn, sym_ct, sym_expr, sym_funh, sym_fn, sym_ft, sym_fl, sym_arg1, sym_arg0, sym_colon, sym_type, sym_vn}
use Rattle.language.proofs.Reading.Machine.{sym_proch, sym_pn, sym_pl, sym_argp1, sym_argp0, sym_varn, sym_sn, sym_ic, sym_ib, sym_wc, sym_kn, sym_k1, sym_k0, sym_paren, sym_parenp, sym_e3, sym_e2}
use Rattle.language.proofs.Reading.Machine.{sym_e1, sym_rp, sym_args1, sym_args0, sym_an, sym_ts1, sym_ts0, sym_tr, sym_tp, sym_at, sym_farg1, sym_farg0, sym_fbody, sym_fopen, sym_end}

-- the symbols, numbered
abbrev pub sym_code : Sym → ℕ
sym_code sym_block = 0
sym_code sym_body = 1
sym_code sym_tail = 2
sym_code sym_semi = 3
sym_code sym_cn = 4
sym_code sym_ct = 5
sym_code sym_expr = 6
sym_code sym_funh = 7
sym_code sym_fn = 8
sym_code sym_ft = 9
sym_code sym_fl = 10
sym_code sym_arg1 = 11
sym_code sym_arg0 = 12
sym_code sym_colon = 13
sym_code sym_type = 14
sym_code sym_vn = 15
sym_code sym_proch = 16
sym_code sym_pn = 17
sym_code sym_pl = 18
sym_code sym_argp1 = 19
sym_code sym_argp0 = 20
sym_code sym_varn = 21
sym_code sym_sn = 22
sym_code sym_ic = 23
sym_code sym_ib = 24
sym_code sym_wc = 25
sym_code sym_kn = 26
sym_code sym_k1 = 27
sym_code sym_k0 = 28
sym_code sym_paren = 29
sym_code sym_parenp = 30
sym_code sym_e3 = 31
sym_code sym_e2 = 32
sym_code sym_e1 = 33
sym_code sym_rp = 34
sym_code sym_args1 = 35
sym_code sym_args0 = 36
sym_code sym_an = 37
sym_code sym_ts1 = 38
sym_code sym_ts0 = 39
sym_code sym_tr = 40
sym_code sym_tp = 41
sym_code sym_at = 42
sym_code sym_farg1 = 43
sym_code sym_farg0 = 44
sym_code sym_fbody = 45
sym_code sym_fopen = 46
sym_code sym_end = 47

abbrev pub syms : List Sym
syms =
    sym_block ∷ sym_body ∷ sym_tail ∷ sym_semi ∷ sym_cn ∷ sym_ct ∷ sym_expr ∷ sym_funh ∷ sym_fn ∷ sym_ft ∷ sym_fl ∷ sym_arg1 ∷ sym_arg0 ∷ sym_colon
    ∷ sym_type ∷ sym_vn ∷ sym_proch ∷ sym_pn ∷ sym_pl ∷ sym_argp1 ∷ sym_argp0 ∷ sym_varn ∷ sym_sn ∷ sym_ic ∷ sym_ib ∷ sym_wc ∷ sym_kn ∷ sym_k1
    ∷ sym_k0 ∷ sym_paren ∷ sym_parenp ∷ sym_e3 ∷ sym_e2 ∷ sym_e1 ∷ sym_rp ∷ sym_args1 ∷ sym_args0 ∷ sym_an ∷ sym_ts1 ∷ sym_ts0 ∷ sym_tr ∷ sym_tp ∷ sym_at
    ∷ sym_farg1 ∷ sym_farg0 ∷ sym_fbody ∷ sym_fopen ∷ sym_end ∷ []

-- what a rule writes: nothing, a node without children, a node with children, another kind for the last node; the first command of a function's block
abbrev pub act_code : Act → ℕ
act_code skip = 0
act_code (leaf k) = 32 + k
act_code (fork k) = 64 + k
act_code (turn k) = 96 + k
act_code (lead k) = 128 + k

-- how a rule pushes, and what
abbrev pub how_code : Option Push → ℕ
how_code none = 0
how_code (some (kid X)) = 1
how_code (some (deep X)) = 2
how_code (some (same X)) = 3
how_code (some (body X)) = 4
how_code (some (back X)) = 5
how_code (some (call X)) = 6

abbrev pub push_code : Option Push → ℕ
push_code none = 0
push_code (some (kid X)) = sym_code X
push_code (some (deep X)) = sym_code X
push_code (some (same X)) = sym_code X
push_code (some (body X)) = sym_code X
push_code (some (back X)) = sym_code X
push_code (some (call X)) = sym_code X

-- whether something comes beside the new node, and what
abbrev pub flag_code : Option Sym → ℕ
flag_code none = 0
flag_code (some X) = 1

abbrev pub next_code : Option Sym → ℕ
next_code none = 0
next_code (some X) = sym_code X

-- a rule: 8 bits of what it writes, 3 and 6 of what it pushes, 1 and 6 of what comes beside, and a last 1; 0 where there is no rule
abbrev pub rule_word : Option Rule → ℕ
rule_word none = 0
rule_word (some (rule k a ps ns)) = ((act_code a * 512 + (how_code ps * 64 + push_code ps)) * 128 + (flag_code ns * 64 + next_code ns)) * 2 + 1

-- a rule with the kind of word that it is for
abbrev pub packed_rule : Rule → ℕ
packed_rule (rule k a ps ns) = k * 33554432 + rule_word (some (rule k a ps ns))

-- the rules of some symbols, one symbol after the other, and where each symbol's start
abbrev pub rules_of : List Sym → List ℕ
rules_of [] = []
rules_of (X ∷ s) = map packed_rule (rules X) ++ rules_of s

abbrev pub starts_of : List Sym → ℕ → List ℕ
starts_of [] n = n ∷ []
starts_of (X ∷ s) n = n ∷ starts_of s (n + length (rules X))

unfoldable pub rule_list : List ℕ
rule_list = rules_of syms

unfoldable pub rule_starts : List ℕ
rule_starts = starts_of syms 0

-- an entry of the stack: its symbol, its level, the link of the sibling before it, the link of the CALL or the function that it stands in
abbrev pub entry_word : Entry → ℕ
entry_word (ent X q u) = sym_code X * 1099511627776 + lev u * 4294967296 + q * 65536 + cal u
