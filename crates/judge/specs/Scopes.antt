-- The forward pass: each node's scope, over lists of numbers. x is the text, t the tree table, S the scopes.
-- A scope is a role times 65536 plus the innermost binder in force at the node (0: none). A binder's own scope is the next one out, so that the table is
-- at once the names in force at each node and, from there outward, the list of them. From 3 on a role says that the node stands behind the parameter whose
-- number is 2 less: so it is also the list of the parameters before one, those that a REC name hides among them.
use Rattle.std.specs.Prelude.{ℕ, zero, suc, ◌+◌, ◌-◌, ◌*◌, ◌/◌, ◌%◌, Bool, true, false, List, eqb, ltb, get_or, set}
use Rattle.nodes.specs.Nodes.{node_at}
use Rattle.judge.specs.Names.{same_name}

-- a test, whose two sides wait: a side is not computed before it is picked
abbrev pub pick : {A : Type 0} → Bool → (Unit {0} → A) → (Unit {0} → A) → A
pick true a b = a tt
pick false a b = b tt

-- the four parts of a node's word
abbrev pub kind_at : List ℕ → ℕ → ℕ
kind_at t i = (node_at t i).kind

abbrev pub place_at : List ℕ → ℕ → ℕ
place_at t i = (node_at t i).place

abbrev pub child_at : List ℕ → ℕ → ℕ
child_at t i = (node_at t i).child

abbrev pub next_at : List ℕ → ℕ → ℕ
next_at t i = (node_at t i).next

unfoldable pub env_at : List ℕ → ℕ → ℕ
env_at S i = get_or S i 0 % 65536

unfoldable pub role_at : List ℕ → ℕ → ℕ
role_at S i = get_or S i 0 / 65536

-- the parameter that the node i stands behind, or 0
unfoldable pub behind_at : List ℕ → ℕ → ℕ
behind_at S i = role_at S i - 2

-- the role of the first child of a node of kind k: 1 a name that is not judged, 2 an application's head, 0 any other
unfoldable pub role_in : ℕ → ℕ
role_in k =
    pick (ltb k 2) (λ _. 0) λ _. pick (ltb k 8) (λ _. 1) λ _.
    pick (eqb k 9) (λ _. 1) λ _. pick (eqb k 12) (λ _. 1) λ _. pick (eqb k 25) (λ _. 1) λ _.
    pick (eqb k 23) (λ _. 2) λ _. pick (ltb 31 k) (λ _. 1) λ _. 0

-- 1: a REC definition; 2: another node with parameters; 0: none of them
unfoldable pub row_of : ℕ → ℕ
row_of k =
    pick (eqb k 4) (λ _. 1) λ _. pick (eqb k 7) (λ _. 1) λ _.
    pick (eqb k 3) (λ _. 2) λ _. pick (eqb k 6) (λ _. 2) λ _. pick (eqb k 24) (λ _. 2) λ _.
    pick (eqb k 33) (λ _. 1) λ _. pick (eqb k 32) (λ _. 2) λ _. 0

-- 1: a definition; 2: a parameter; 0: no binder
unfoldable pub binds_of : ℕ → ℕ
binds_of k =
    pick (ltb k 2) (λ _. 0) λ _. pick (ltb k 8) (λ _. 1) λ _.
    pick (eqb k 13) (λ _. 2) λ _. pick (eqb k 14) (λ _. 2) λ _. pick (ltb 31 k) (λ _. 1) λ _. 0

-- the REC definition whose parameters come next, or 0: between a definition and its last parameter stand only names, types and parameters
unfoldable pub row_after : List ℕ → ℕ → ℕ → ℕ
row_after t i row = pick (eqb (row_of (kind_at t i)) 0) (λ _. row) λ _. pick (eqb (row_of (kind_at t i)) 1) (λ _. i) λ _. 0

-- the scope of i's first child: a REC name is in force there
unfoldable pub inner_at : List ℕ → List ℕ → ℕ → ℕ
inner_at t S i = role_in (kind_at t i) * 65536 + pick (eqb (row_of (kind_at t i)) 1) (λ _. i) λ _. env_at S i

-- the binder in force behind the parameter i: one that has the name of its REC definition is hidden
unfoldable pub shown_at : List ℕ → List ℕ → List ℕ → ℕ → ℕ → ℕ
shown_at x t S row i =
    pick (eqb row 0) (λ _. i) λ _.
    pick (same_name x (place_at t i) (place_at t (child_at t row))) (λ _. env_at S i) λ _. i

-- the scope of i's next sibling
unfoldable pub outer_at : List ℕ → List ℕ → List ℕ → ℕ → ℕ → ℕ
outer_at x t S row i =
    pick (eqb (binds_of (kind_at t i)) 0) (λ _. env_at S i) λ _.
    pick (eqb (binds_of (kind_at t i)) 1) (λ _. i) λ _. (i + 2) * 65536 + shown_at x t S row i

-- the scope of the node i, where there is one
unfoldable pub give : List ℕ → ℕ → ℕ → List ℕ
give S i v = pick (eqb i 0) (λ _. S) λ _. set S i v

unfoldable pub scope_step : List ℕ → List ℕ → List ℕ → ℕ → ℕ → List ℕ
scope_step x t S row i = give (give S (child_at t i) (inner_at t S i)) (next_at t i) (outer_at x t S row i)

-- the scopes of k nodes from i on
unfoldable pub scopes_from : List ℕ → List ℕ → ℕ → ℕ → ℕ → List ℕ → List ℕ
scopes_from x t zero i row S = S
scopes_from x t (suc k) i row S = scopes_from x t k (i + 1) (row_after t i row) (scope_step x t S row i)

-- the scopes of the first n nodes
unfoldable pub scopes_of : List ℕ → List ℕ → ℕ → List ℕ → List ℕ
scopes_of x t n S = scopes_from x t n 0 0 S

-- the place of a binder's name
unfoldable pub binder_place : List ℕ → ℕ → ℕ
binder_place t b = pick (eqb (binds_of (kind_at t b)) 2) (λ _. place_at t b) λ _. place_at t (child_at t b)

-- the innermost of n binders from e outward that has the name at p, or 0
unfoldable pub find_from : List ℕ → List ℕ → List ℕ → ℕ → ℕ → ℕ → ℕ
find_from x t S p zero e = 0
find_from x t S p (suc n) e =
    pick (eqb e 0) (λ _. 0) λ _.
    pick (same_name x (binder_place t e) p) (λ _. e) λ _.
    find_from x t S p n (env_at S e)

-- does one of n parameters from e on, the latest first, have the name at p?
unfoldable pub named_from : List ℕ → List ℕ → List ℕ → ℕ → ℕ → ℕ → Bool
named_from x t S p zero e = false
named_from x t S p (suc n) e =
    pick (eqb e 0) (λ _. false) λ _.
    pick (same_name x (place_at t e) p) (λ _. true) λ _.
    named_from x t S p n (behind_at S e)
