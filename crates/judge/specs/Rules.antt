-- Each node's own rule, over the notes N of what ended before it: its note, or 65536 where the rule is not met (131072: a doubled parameter).
-- x is the text, t the tree table, S the scopes.
use Rattle.std.specs.Prelude.{ℕ, zero, suc, ◌+◌, ◌-◌, ◌%◌, Bool, true, false, List, eqb, ltb, length, get_or}
use Rattle.judge.specs.Names.{nine_at}
use Rattle.judge.specs.Scopes.{pick, kind_at, place_at, child_at, next_at, env_at, role_at, behind_at, find_from, named_from}
use Rattle.judge.specs.Types.{note_kind, is_fun, parts_of, result_type, same, fits_from, is_vec, returned}

-- this note if the test holds, else refused
abbrev pub passes : Bool → ℕ → ℕ
passes b r = pick b (λ _. r) λ _. 65536

-- what y has is a type of kind k
unfoldable pub has_kind : List ℕ → List ℕ → ℕ → ℕ → Bool
has_kind t N k y = eqb (note_kind t (get_or N y 0)) k

-- NAMES

-- the binder of the name at p, looked up from e outward; 0 where there is none and for the nine names
unfoldable pub binder_of : List ℕ → List ℕ → List ℕ → ℕ → ℕ → ℕ
binder_of x t S e p = pick (eqb (nine_at x p) 0) (λ _. find_from x t S p (length t) e) λ _. 0

-- the type of what a binder's name is as an expression: CONST and VAR, FUN and FUN REC; PROC and PROC REC have none; parameters
unfoldable pub read_type : List ℕ → ℕ → ℕ
read_type t b =
    pick (eqb (kind_at t b) 2) (λ _. next_at t (child_at t b)) λ _.
    pick (eqb (kind_at t b) 5) (λ _. next_at t (child_at t b)) λ _.
    pick (is_fun (kind_at t b)) (λ _. b) λ _.
    pick (ltb (kind_at t b) 8) (λ _. 65536) λ _. child_at t b

-- a name that may be bound
unfoldable pub bound_rule : List ℕ → List ℕ → List ℕ → ℕ → ℕ
bound_rule x t S i =
    pick (eqb (find_from x t S (place_at t i) (length t) (env_at S i)) 0) (λ _. 65536) λ _.
    read_type t (find_from x t S (place_at t i) (length t) (env_at S i))

-- a name: after a key word it is not judged; true and false; an operator stands only as a head
unfoldable pub name_type_rule : List ℕ → List ℕ → List ℕ → ℕ → ℕ
name_type_rule x t S i =
    pick (eqb (role_at S i) 1) (λ _. 65537) λ _.
    pick (eqb (nine_at x (place_at t i)) 0) (λ _. bound_rule x t S i) λ _.
    pick (ltb (nine_at x (place_at t i)) 3) (λ _. 65551) λ _.
    pick (eqb (role_at S i) 2) (λ _. 65555) λ _. 65536

-- the type of what may be stored to by a binder's name, VAR or a var parameter; else 0
unfoldable pub ref_type : List ℕ → ℕ → ℕ
ref_type t b = pick (eqb (kind_at t b) 5) (λ _. next_at t (child_at t b)) λ _. pick (eqb (kind_at t b) 14) (λ _. child_at t b) λ _. 0

-- the same for the target of i, its first child
unfoldable pub target_type : List ℕ → List ℕ → List ℕ → ℕ → ℕ
target_type x t S i =
    pick (eqb (binder_of x t S (env_at S i) (place_at t (child_at t i))) 0) (λ _. 0) λ _.
    ref_type t (binder_of x t S (env_at S i) (place_at t (child_at t i)))

-- EXPRESSIONS

-- (if a b c), with a its first part
unfoldable pub if_rule : List ℕ → List ℕ → ℕ → ℕ
if_rule t N a =
    pick (has_kind t N 15 a)
    (λ _. passes (same 128 t N (get_or N (next_at t (next_at t a)) 0) (get_or N (next_at t a) 0)) (get_or N (next_at t a) 0))
    λ _. 65536

-- (and a b) and (or a b)
unfoldable pub bools_rule : List ℕ → List ℕ → ℕ → ℕ
bools_rule t N a = pick (has_kind t N 15 a) (λ _. passes (has_kind t N 15 (next_at t a)) 65551) λ _. 65536

-- there is one argument, of a type of kind k; there are two, both int
unfoldable pub one_arg : List ℕ → List ℕ → ℕ → ℕ → Bool
one_arg t N k y = pick (eqb y 0) (λ _. false) λ _. pick (has_kind t N k y) (λ _. eqb (next_at t y) 0) λ _. false

unfoldable pub two_args : List ℕ → List ℕ → ℕ → Bool
two_args t N y = pick (has_kind t N 16 y) (λ _. one_arg t N 16 (next_at t y)) λ _. false

-- an application of the operator o: 3 not, 4 eq, 5 lt, 6 add, 7 sub, 8 mul, 9 div
unfoldable pub operated : List ℕ → List ℕ → ℕ → ℕ → ℕ
operated t N o y =
    pick (eqb o 3) (λ _. passes (one_arg t N 15 y) 65551) λ _.
    passes (two_args t N y) (pick (ltb o 6) (λ _. 65551) λ _. 65552)

-- an application of a function of type r to the arguments from z on
unfoldable pub applied : List ℕ → List ℕ → ℕ → ℕ → ℕ
applied t N r z =
    pick (is_fun (note_kind t r))
    (λ _. pick (eqb (fits_from t N (length t) (parts_of t r) z) 0) (λ _. 65536) λ _. result_type t N r (fits_from t N (length t) (parts_of t r) z))
    λ _. 65536

-- an application, with h its head
unfoldable pub app_rule : List ℕ → List ℕ → List ℕ → ℕ → ℕ
app_rule x t N h =
    pick (eqb (get_or N h 0) 65555) (λ _. operated t N (nine_at x (place_at t h)) (next_at t h)) λ _. applied t N (get_or N h 0) (next_at t h)

-- (adr x): a reference to what x stores
unfoldable pub adr_rule : List ℕ → List ℕ → List ℕ → ℕ → ℕ
adr_rule x t S i = pick (eqb (target_type x t S i) 0) (λ _. 65536) λ _. 131072 + target_type x t S i

-- BLOCKS OF CELLS

-- a block may be of any type but a function's
unfoldable pub is_element : ℕ → Bool
is_element k = pick (eqb k 17) (λ _. false) λ _. true

-- what y has is a block's type
unfoldable pub has_vec : List ℕ → List ℕ → ℕ → Bool
has_vec t N y = is_vec (note_kind t (get_or N y 0))

-- (alloc T e), the node i, with y its first part: it spells its own type
unfoldable pub alloc_type_rule : List ℕ → List ℕ → ℕ → ℕ → ℕ
alloc_type_rule t N i y = pick (is_element (kind_at t y)) (λ _. passes (has_kind t N 16 (next_at t y)) i) λ _. 65536

-- (nth a b): what the block is of
unfoldable pub nth_rule : List ℕ → List ℕ → ℕ → ℕ
nth_rule t N a = pick (has_vec t N a) (λ _. passes (has_kind t N 16 (next_at t a)) (child_at t (get_or N a 0))) λ _. 65536

-- (len a)
unfoldable pub len_rule : List ℕ → List ℕ → ℕ → ℕ
len_rule t N a = passes (has_vec t N a) 65552

-- (vset a b c): the block
unfoldable pub vset_rule : List ℕ → List ℕ → ℕ → ℕ
vset_rule t N a =
    pick (has_vec t N a)
    (λ _. pick (has_kind t N 16 (next_at t a))
    (λ _. passes (same 128 t N (get_or N (next_at t (next_at t a)) 0) (child_at t (get_or N a 0))) (get_or N a 0))
    λ _. 65536)
    λ _. 65536

-- DEFINITIONS AND PARAMETERS

-- the name at p is free to be bound
unfoldable pub free_rule : List ℕ → ℕ → ℕ
free_rule x p = passes (eqb (nine_at x p) 0) 65537

-- bool or int
unfoldable pub is_base_type : ℕ → Bool
is_base_type k = pick (eqb k 15) (λ _. true) λ _. eqb k 16

-- the name at p is free to be bound to a cell of type y
unfoldable pub cell_rule : List ℕ → List ℕ → ℕ → ℕ → ℕ
cell_rule x t p y = pick (eqb (nine_at x p) 0) (λ _. passes (is_base_type (kind_at t y)) 65537) λ _. 65536

-- the parameter i, whose own rule gives r: its name is none of those before it in its list
unfoldable pub single_rule : List ℕ → List ℕ → List ℕ → ℕ → ℕ → ℕ
single_rule x t S i r =
    pick (eqb r 65537) (λ _. pick (named_from x t S (place_at t i) (length t) (behind_at S i)) (λ _. 131072) λ _. 65537) λ _. 65536

-- the last of a row of siblings
unfoldable pub last_from : List ℕ → ℕ → ℕ → ℕ
last_from t zero y = y
last_from t (suc n) y = pick (eqb (next_at t y) 0) (λ _. y) λ _. last_from t n (next_at t y)

-- CONST, FUN, FUN REC with an expression: the name c is free to be bound, and what comes last has the written type
unfoldable pub def_type_rule : List ℕ → List ℕ → List ℕ → ℕ → ℕ
def_type_rule x t N c =
    pick (eqb (nine_at x (place_at t c)) 0)
    (λ _. passes (same 128 t N (get_or N (last_from t (length t) c) 0) (next_at t c)) 65537)
    λ _. 65536

-- FUN, FUN REC with a block: the block always returns the written type
unfoldable pub body_rule : List ℕ → List ℕ → List ℕ → ℕ → ℕ
body_rule x t N c =
    pick (eqb (nine_at x (place_at t c)) 0)
    (λ _. pick (ltb (get_or N (last_from t (length t) c) 0) 327680) (λ _. 65536) λ _.
    passes (same 128 t N (get_or N (last_from t (length t) c) 0 - 327680) (next_at t c)) 65537)
    λ _. 65536

-- PROC, PROC REC: the block never returns
unfoldable pub proc_rule : List ℕ → List ℕ → List ℕ → ℕ → ℕ
proc_rule x t N c =
    pick (eqb (nine_at x (place_at t c)) 0) (λ _. passes (ltb (get_or N (last_from t (length t) c) 0) 196608) 65537) λ _. 65536

-- STATEMENTS

-- ECHO: the first part has a type of kind k
unfoldable pub part_rule : List ℕ → List ℕ → ℕ → ℕ → ℕ
part_rule t N k y = passes (has_kind t N k y) 65537

-- SET: the target stores what the expression gives
unfoldable pub set_rule : List ℕ → List ℕ → List ℕ → List ℕ → ℕ → ℕ
set_rule x t S N i =
    pick (eqb (target_type x t S i) 0) (λ _. 65536) λ _.
    passes (same 128 t N (get_or N (next_at t (child_at t i)) 0) (target_type x t S i)) 65537

unfoldable pub is_proc : ℕ → Bool
is_proc k = pick (eqb k 6) (λ _. true) λ _. eqb k 7

-- a call of what the binder b defines, with the arguments from z on
unfoldable pub called : List ℕ → List ℕ → ℕ → ℕ → ℕ
called t N b z =
    pick (eqb b 0) (λ _. 65536) λ _.
    pick (is_proc (kind_at t b))
    (λ _. pick (eqb (fits_from t N (length t) (next_at t (child_at t b)) z) 0) (λ _. 65536) λ _. 65537)
    λ _. 65536

unfoldable pub call_rule : List ℕ → List ℕ → List ℕ → List ℕ → ℕ → ℕ
call_rule x t S N i = called t N (binder_of x t S (env_at S i) (place_at t (child_at t i))) (next_at t (child_at t i))

-- what may be returned where f is: WHILE, and IF where the other block never returns
unfoldable pub looped_note : ℕ → ℕ
looped_note f = pick (ltb f 327680) (λ _. f) λ _. f - 131072

-- IF, with blocks that return as f and h say
unfoldable pub either_note : List ℕ → List ℕ → ℕ → ℕ → ℕ
either_note t N f h =
    pick (ltb f 196608) (λ _. looped_note h) λ _.
    pick (ltb h 196608) (λ _. looped_note f) λ _.
    passes (same 128 t N (returned f) (returned h)) (pick (ltb f 327680) (λ _. f) λ _. pick (ltb h 327680) (λ _. looped_note f) λ _. f)

-- IF and WHILE, with c the condition
unfoldable pub if_stat_rule : List ℕ → List ℕ → ℕ → ℕ
if_stat_rule t N c = pick (has_kind t N 15 c) (λ _. either_note t N (get_or N (next_at t c) 0) (get_or N (next_at t (next_at t c)) 0)) λ _. 65536

unfoldable pub while_rule : List ℕ → List ℕ → ℕ → ℕ
while_rule t N c = pick (has_kind t N 15 c) (λ _. looped_note (get_or N (next_at t c) 0)) λ _. 65536

-- RETURN: always what the expression y has, whose note is below 131072
unfoldable pub return_rule : List ℕ → ℕ → ℕ
return_rule N y = 327680 + get_or N y 0 % 131072

-- the statement i, whose own rule gives r: what always returns stands last
unfoldable pub followed : List ℕ → ℕ → ℕ → ℕ
followed t i r = pick (eqb (next_at t i) 0) (λ _. r) λ _. pick (ltb r 327680) (λ _. r) λ _. 65536

-- BLOCKS

-- what may be returned so far (0: nothing) goes with what f says behind it
unfoldable pub goes_with : List ℕ → List ℕ → ℕ → ℕ → Bool
goes_with t N s f = pick (eqb s 0) (λ _. true) λ _. pick (ltb f 196608) (λ _. false) λ _. same 128 t N (returned f) (returned s)

-- n commands from y on, where s may be returned before them
unfoldable pub flow_from : List ℕ → List ℕ → ℕ → ℕ → ℕ → ℕ
flow_from t N zero s y = 65536
flow_from t N (suc n) s y =
    pick (eqb (next_at t y) 0) (λ _. passes (goes_with t N s (get_or N y 0)) (get_or N y 0)) λ _.
    pick (ltb (get_or N y 0) 196608) (λ _. flow_from t N n s (next_at t y)) λ _.
    pick (goes_with t N s (get_or N y 0)) (λ _. flow_from t N n (get_or N y 0) (next_at t y)) λ _. 65536

-- the root never returns
unfoldable pub program_rule : ℕ → ℕ → ℕ
program_rule i r = pick (eqb i 0) (λ _. passes (ltb r 196608) r) λ _. r

unfoldable pub block_rule : List ℕ → List ℕ → ℕ → ℕ
block_rule t N i = program_rule i (flow_from t N (length t) 0 (child_at t i))

-- BY KIND

-- a definition
unfoldable pub def_by : ℕ → List ℕ → List ℕ → List ℕ → ℕ → ℕ
def_by k x t N i =
    pick (ltb k 5) (λ _. def_type_rule x t N (child_at t i)) λ _.
    pick (eqb k 5) (λ _. cell_rule x t (place_at t (child_at t i)) (next_at t (child_at t i))) λ _. proc_rule x t N (child_at t i)

-- a statement
unfoldable pub stat_by : ℕ → List ℕ → List ℕ → List ℕ → List ℕ → ℕ → ℕ
stat_by k x t S N i =
    pick (eqb k 8) (λ _. part_rule t N 16 (child_at t i)) λ _.
    pick (eqb k 9) (λ _. set_rule x t S N i) λ _.
    pick (eqb k 12) (λ _. call_rule x t S N i) λ _.
    pick (eqb k 10) (λ _. if_stat_rule t N (child_at t i)) λ _. while_rule t N (child_at t i)

-- a parameter, a var parameter, a type
unfoldable pub param_by : ℕ → List ℕ → List ℕ → List ℕ → ℕ → ℕ
param_by k x t S i =
    pick (eqb k 13) (λ _. single_rule x t S i (free_rule x (place_at t i))) λ _.
    pick (eqb k 14) (λ _. single_rule x t S i (cell_rule x t (place_at t i) (child_at t i))) λ _. 65537

-- an expression, an adr
unfoldable pub expr_by : ℕ → List ℕ → List ℕ → List ℕ → List ℕ → ℕ → ℕ
expr_by k x t S N i =
    pick (eqb k 18) (λ _. 65552) λ _.
    pick (eqb k 19) (λ _. name_type_rule x t S i) λ _.
    pick (eqb k 20) (λ _. if_rule t N (child_at t i)) λ _.
    pick (eqb k 23) (λ _. app_rule x t N (child_at t i)) λ _.
    pick (eqb k 24) (λ _. i) λ _.
    pick (eqb k 25) (λ _. adr_rule x t S i) λ _. bools_rule t N (child_at t i)

-- a vec, and the expressions with blocks
unfoldable pub vec_by : ℕ → List ℕ → List ℕ → ℕ → ℕ
vec_by k t N i =
    pick (eqb k 26) (λ _. passes (is_element (kind_at t (child_at t i))) 65537) λ _.
    pick (eqb k 27) (λ _. alloc_type_rule t N i (child_at t i)) λ _.
    pick (eqb k 28) (λ _. nth_rule t N (child_at t i)) λ _.
    pick (eqb k 29) (λ _. len_rule t N (child_at t i)) λ _. vset_rule t N (child_at t i)

-- the own rule of the node i of kind k
unfoldable pub own_by : ℕ → List ℕ → List ℕ → List ℕ → List ℕ → ℕ → ℕ
own_by k x t S N i =
    pick (ltb k 2) (λ _. block_rule t N i) λ _.
    pick (ltb k 8) (λ _. def_by k x t N i) λ _.
    pick (ltb k 13) (λ _. followed t i (stat_by k x t S N i)) λ _.
    pick (ltb k 18) (λ _. param_by k x t S i) λ _.
    pick (ltb k 26) (λ _. expr_by k x t S N i) λ _.
    pick (ltb k 31) (λ _. vec_by k t N i) λ _.
    pick (eqb k 31) (λ _. followed t i (return_rule N (child_at t i))) λ _. body_rule x t N (child_at t i)
