-- What the code's loop computes: the grammar's machine on numbers, a word at a time. Nothing here is believed: `Simulated` of reading ties it to the
-- language's bounded machine.
-- `r` is a rule, `w` the entry on top of the stack, `n` the link of the next node, `m` the number of nodes in the tree, `p` a place.
use Rattle.std.specs.Prelude.{Bool, false, cond, List, [], ◌∷◌, ◌++◌, ℕ, ◌+◌, ◌-◌, ◌*◌, ◌/◌, ◌%◌, eqb, leb, ltb, get_or, set, take, drop, Option, None, Some, unwrap_or}
use Rattle.language.specs.Answers.{SYNTAX, LEVEL, refusal_number}
use Rattle.language.specs.Levels.{deepest}
use Rattle.scanning.specs.Scanning.{Ended, whole, halted}
use Rattle.parsing.specs.declared.rules.Rule.{Rule}
use Rattle.parsing.specs.declared.rules.Act.{Act}
use Rattle.parsing.specs.declared.rules.Act.TheVariants.{Skip, Leaf, Fork, Turn, Lead}
use Rattle.parsing.specs.declared.rules.How.{How}
use Rattle.parsing.specs.declared.rules.How.TheVariants.{Kid, Deep, Same, Body, Back, Call}
use Rattle.parsing.specs.declared.rules.Push.{Push}
use Rattle.parsing.specs.Codes.{rule_list, rule_starts}

-- the parts of an entry of the stack
abbrev pub sym_in : ℕ → ℕ
sym_in w = w / 1099511627776

abbrev pub level_in : ℕ → ℕ
level_in w = w / 4294967296 % 256

abbrev pub link_in : ℕ → ℕ
link_in w = w / 65536 % 65536

abbrev pub call_in : ℕ → ℕ
call_in w = w % 65536

abbrev pub packed : (symbol level link call : ℕ) → ℕ
packed symbol level link call = symbol * 1099511627776 + level * 4294967296 + link * 65536 + call

-- the parts of a rule: what it writes and the kind of the node, how it pushes and what, and what comes beside the new node
abbrev pub act_at : ℕ → Act
act_at n = cond (eqb n 0) Skip (cond (eqb n 1) Leaf (cond (eqb n 3) Turn (cond (eqb n 4) Lead Fork)))

abbrev pub act_in : Rule → Act
act_in r = act_at (r.bits / 4194304 % 8)

abbrev pub kind_in : Rule → ℕ
kind_in r = r.bits / 131072 % 32

abbrev pub how_at : ℕ → Option How
how_at n =
    cond (eqb n 1) (Some Kid)
    (cond (eqb n 2) (Some Deep) (cond (eqb n 3) (Some Same) (cond (eqb n 4) (Some Body) (cond (eqb n 5) (Some Back) (cond (eqb n 6) (Some Call) None)))))

abbrev pub how_in : Rule → Option How
how_in r = how_at (r.bits / 16384 % 8)

abbrev pub push_by : Option How → (symbol : ℕ) → Option Push
push_by None symbol = None
push_by (Some how) symbol = Some (record { how = how; symbol = symbol })

abbrev pub push_in : Rule → Option Push
push_in r = push_by (how_in r) (r.bits / 256 % 64)

abbrev pub beside_in : Rule → Option ℕ
beside_in r = cond (eqb (r.bits / 128 % 2) 0) None (Some (r.bits / 2 % 64))

-- the rule for a kind of word among some
unfoldable pub found : ℕ → List ℕ → Option Rule
found k [] = None
found k (r ∷ rs) = cond (eqb k (r / 33554432)) (Some (record { bits = r % 33554432 })) (found k rs)

-- by a table of rules and one of where each symbol's start: the rules of the symbol y, up to where the next one's start; the rule for an entry and a word
abbrev pub rules_of_symbol : (rules starts : List ℕ) → ℕ → List ℕ
rules_of_symbol rules starts y = take (get_or starts (y + 1) 0 - get_or starts y 0) (drop (get_or starts y 0) rules)

abbrev pub rule_in : (rules starts : List ℕ) → ℕ → ℕ → Option Rule
rule_in rules starts w x = found (x / 65536) (rules_of_symbol rules starts (sym_in w))

-- the same by the grammar's tables
abbrev pub rules_at : ℕ → List ℕ
rules_at y = rules_of_symbol rule_list rule_starts y

unfoldable pub rule_for : ℕ → ℕ → Option Rule
rule_for w x = rule_in rule_list rule_starts w x

-- the level that a rule opens, if it opens one; and whether that is too deep
abbrev pub opened_by : Option How → ℕ → Option ℕ
opened_by None w = None
opened_by (Some Kid) w = None
opened_by (Some Deep) w = Some (level_in w + 1)
opened_by (Some Same) w = None
opened_by (Some Body) w = None
opened_by (Some Back) w = None
opened_by (Some Call) w = None

abbrev pub level_opened : Rule → ℕ → Option ℕ
level_opened r w = opened_by (how_in r) w

abbrev pub too_deep : Option ℕ → Bool
too_deep None = false
too_deep (Some level) = ltb deepest level

-- the parts of the entry that is pushed, by how it is pushed
abbrev pub link_pushed : How → ℕ → ℕ
link_pushed Kid w = 0
link_pushed Deep w = 0
link_pushed Same w = link_in w
link_pushed Body w = link_in w
link_pushed Back w = call_in w
link_pushed Call w = 0

abbrev pub call_pushed : How → ℕ → ℕ → ℕ
call_pushed Kid w n = call_in w
call_pushed Deep w n = call_in w
call_pushed Same w n = call_in w
call_pushed Body w n = 0
call_pushed Back w n = 0
call_pushed Call w n = n

abbrev pub above_by : Option Push → (level w n : ℕ) → List ℕ
above_by None level w n = []
above_by (Some push) level w n = packed push.symbol level (link_pushed push.how w) (call_pushed push.how w n) ∷ []

abbrev pub above : Rule → ℕ → ℕ → List ℕ
above r w n = above_by (push_in r) (unwrap_or (level_opened r w) (level_in w)) w n

-- what comes beside the new node
abbrev pub beside_by : Option ℕ → ℕ → ℕ → List ℕ
beside_by None w n = []
beside_by (Some symbol) w n = packed symbol (level_in w) n (call_in w) ∷ []

abbrev pub beside : Rule → ℕ → ℕ → List ℕ
beside r w n = beside_by (beside_in r) w n

-- the tree with the sibling before, by its link q, linked to the node m; 0 links nothing
unfoldable pub linked : ℕ → ℕ → List ℕ → List ℕ
linked q m l = cond (eqb q 0) l (cond (leb q m) (set l (q - 1) (get_or l (q - 1) 0 / 65536 * 65536 + m)) l)

-- the tree with the kind k for the last node
unfoldable pub retyped : ℕ → ℕ → List ℕ → List ℕ
retyped k m l = cond (eqb m 0) l (set l (m - 1) (k * 281474976710656 + get_or l (m - 1) 0 % 281474976710656))

-- the tree with the kind of a function with a block, 29 more, for the function of link c; 0 changes nothing
unfoldable pub blocked : ℕ → ℕ → List ℕ → List ℕ
blocked c m l =
    cond (eqb c 0) l
    (cond (leb c m)
    (set l (c - 1) ((get_or l (c - 1) 0 / 281474976710656 + 29) % 65536 * 281474976710656 + get_or l (c - 1) 0 % 281474976710656)) l)

-- the tree before the first command of a function's block: the bracket before it is a block's, and the function has a block
abbrev pub mended : (c m : ℕ) → List ℕ → List ℕ
mended c m l = blocked c m (retyped 1 m l)

-- the tree with the node m added, behind the sibling of link q
abbrev pub added : (q node m : ℕ) → List ℕ → List ℕ
added q node m l = set (linked q m l) m node

abbrev pub node_of : (kind place child : ℕ) → ℕ
node_of kind place child = kind * 281474976710656 + place * 4294967296 + child * 65536

-- the tree after a rule, by what it writes, and how many nodes it then has
abbrev pub wrote_by : Act → (kind w p m : ℕ) → List ℕ → List ℕ
wrote_by Skip kind w p m l = l
wrote_by Leaf kind w p m l = added (link_in w) (node_of kind p 0) m l
wrote_by Fork kind w p m l = added (link_in w) (node_of kind p (m + 1)) m l
wrote_by Turn kind w p m l = retyped kind m l
wrote_by Lead kind w p m l = added (link_in w) (node_of kind p (m + 1)) m (mended (call_in w) m l)

abbrev pub wrote : Rule → (w p m : ℕ) → List ℕ → List ℕ
wrote r w p m l = wrote_by (act_in r) (kind_in r) w p m l

abbrev pub count_by : Act → ℕ → ℕ
count_by Skip m = m
count_by Leaf m = m + 1
count_by Fork m = m + 1
count_by Turn m = m
count_by Lead m = m + 1

abbrev pub count : Rule → ℕ → ℕ
count r m = count_by (act_in r) m

-- what comes of a word for which there is a rule, or none
abbrev pub by_rule : Option Rule → Ended → (Rule → Ended) → Ended
by_rule None refused taken = refused
by_rule (Some r) refused taken = taken r

-- the words, the stack from its top on, the tree, how many nodes it has; `end` is the text's length
unfoldable pub run : (end : ℕ) → List ℕ → List ℕ → List ℕ → ℕ → Ended
run end [] [] l m = whole l m
run end [] (w ∷ s) l m = halted (refusal_number SYNTAX) end
run end (x ∷ ts) [] l m = halted (refusal_number SYNTAX) (x % 65536)
run end (x ∷ ts) (w ∷ s) l m =
    by_rule (rule_for w x) (halted (refusal_number SYNTAX) (x % 65536))
    (λ r. cond (too_deep (level_opened r w)) (halted (refusal_number LEVEL) (x % 65536))
    (run end ts (above r w (m + 1) ++ (beside r w (m + 1) ++ s)) (wrote r w (x % 65536) m l) (count r m)))
