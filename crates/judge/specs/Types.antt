-- Types over the tree table t and the notes N. A note is 65536 + k for a type or an outcome of kind k (65551 bool, 65552 int, 65537 fine, 65555 an operator
-- as a head), the node that spells a type (a type, FUN, FUN REC in either form, an abstraction or an alloc), or 131072 more than such a node for a reference;
-- 65536 says that the node's own rule is not met, 131072 that it is a parameter named like one before it, and 0 that a node below is refused.
-- A statement or a block that never returns has the note 65537, one that may return a type 196608 more than the type's, and one that always does 327680 more.
-- All spellings of a function's type have one shape: a row of siblings, of which all but the last are parameters and the last is or has the result.
-- A block's type is spelled by a vec or an alloc: what it is of is the first child.
use Rattle.std.specs.Prelude.{ℕ, zero, suc, ◌-◌, Bool, true, false, List, eqb, ltb, length, get_or}
use Rattle.judge.specs.Scopes.{pick, kind_at, child_at, next_at}

-- the kind of what a note says
unfoldable pub note_kind : List ℕ → ℕ → ℕ
note_kind t r = pick (ltb r 65536) (λ _. kind_at t r) λ _. r - 65536

-- does a node of this kind spell a function's type?
unfoldable pub is_fun : ℕ → Bool
is_fun k =
    pick (eqb k 17) (λ _. true) λ _. pick (eqb k 24) (λ _. true) λ _. pick (eqb k 3) (λ _. true) λ _. pick (eqb k 4) (λ _. true) λ _.
    pick (eqb k 32) (λ _. true) λ _. eqb k 33

-- if so, is it a definition, with a name and a type before the parameters?
unfoldable pub is_defined : ℕ → Bool
is_defined k = pick (ltb k 5) (λ _. true) λ _. ltb 31 k

-- does a node of this kind spell a block's type?
unfoldable pub is_vec : ℕ → Bool
is_vec k = pick (eqb k 26) (λ _. true) λ _. eqb k 27

-- the first part: parameters, then the result or the body, each but the last with a sibling
unfoldable pub parts_of : List ℕ → ℕ → ℕ
parts_of t r = pick (is_defined (kind_at t r)) (λ _. next_at t (next_at t (child_at t r))) λ _. child_at t r

-- the type of the part y, a parameter or a type
unfoldable pub param_type_in : List ℕ → ℕ → ℕ
param_type_in t y = pick (eqb (kind_at t y) 13) (λ _. child_at t y) λ _. y

-- the result's type of r, whose last part is y
unfoldable pub result_type : List ℕ → List ℕ → ℕ → ℕ → ℕ
result_type t N r y =
    pick (is_defined (kind_at t r)) (λ _. next_at t (child_at t r)) λ _.
    pick (eqb (kind_at t r) 24) (λ _. get_or N y 0) λ _. y

-- the two rows of parts of a and b agree by f from y and z on, part by part
unfoldable pub same_parts : (ℕ → ℕ → Bool) → List ℕ → List ℕ → ℕ → ℕ → ℕ → ℕ → ℕ → Bool
same_parts f t N a b zero y z = false
same_parts f t N a b (suc n) y z =
    pick (eqb (next_at t y) 0)
    (λ _. pick (eqb (next_at t z) 0) (λ _. f (result_type t N a y) (result_type t N b z)) λ _. false) λ _.
    pick (eqb (next_at t z) 0) (λ _. false) λ _.
    pick (f (param_type_in t y) (param_type_in t z)) (λ _. same_parts f t N a b n (next_at t y) (next_at t z)) λ _. false

-- two types are the same, with so many levels left: bool and int have none, a function's type and a block's one more than their parts
unfoldable pub same : ℕ → List ℕ → List ℕ → ℕ → ℕ → Bool
same zero t N a b =
    pick (is_fun (note_kind t a)) (λ _. false) λ _. pick (is_vec (note_kind t a)) (λ _. false) λ _. eqb (note_kind t a) (note_kind t b)
same (suc l) t N a b =
    pick (is_fun (note_kind t a))
    (λ _. pick (is_fun (note_kind t b)) (λ _. same_parts (same l t N) t N a b (length t) (parts_of t a) (parts_of t b)) λ _. false) λ _.
    pick (is_vec (note_kind t a)) (λ _. pick (is_vec (note_kind t b)) (λ _. same l t N (child_at t a) (child_at t b)) λ _. false) λ _.
    eqb (note_kind t a) (note_kind t b)

-- the argument z is what the parameter y takes: a var parameter takes a reference, any other a value
unfoldable pub arg_fits : List ℕ → List ℕ → ℕ → ℕ → Bool
arg_fits t N y z =
    pick (eqb (kind_at t y) 14)
    (λ _. pick (ltb (get_or N z 0) 131072) (λ _. false) λ _. same 128 t N (get_or N z 0 - 131072) (child_at t y))
    λ _. same 128 t N (get_or N z 0) (param_type_in t y)

-- the last part of the row y, if the arguments from z on fit the others; else 0
unfoldable pub fits_from : List ℕ → List ℕ → ℕ → ℕ → ℕ → ℕ
fits_from t N zero y z = 0
fits_from t N (suc n) y z =
    pick (eqb (next_at t y) 0) (λ _. pick (eqb z 0) (λ _. y) λ _. 0) λ _.
    pick (eqb z 0) (λ _. 0) λ _.
    pick (arg_fits t N y z) (λ _. fits_from t N n (next_at t y) (next_at t z)) λ _. 0

-- the type that a note of a statement or a block says to be returned
unfoldable pub returned : ℕ → ℕ
returned f = pick (ltb f 327680) (λ _. f - 196608) λ _. f - 327680
