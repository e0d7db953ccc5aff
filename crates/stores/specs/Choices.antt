-- Parts of the evaluator's definition that evaluate nothing: what follows a value that was found, and expressions that stand by themselves.
use Rattle.std.specs.Prelude.{ℕ, Bool, false, List, eqb, ltb, leb, get_or}
use Rattle.std.specs.Int.{w64}
use Rattle.std.proofs.Common.{to_z}
use Rattle.nodes.specs.declared.Node.{Node}
use Rattle.nodes.specs.Nodes.{node_at}
use Rattle.machine.specs.declared.Binding.{Binding}
use Rattle.machine.specs.declared.Counts.{Counts}
use Rattle.machine.specs.declared.Ending.{Ending}
use Rattle.machine.specs.declared.Ending.TheVariants.{Value, Stop, NoRule}
use Rattle.machine.specs.Entries.{pick, number_tag, function_tag, done_tag, closure_word}
use Rattle.machine.specs.State.{Run, Tables, Ret, is, put_out_in}
use Rattle.machine.specs.Leaves.{code_in, name_value, address_of}

unfoldable pub is_bit : (tag word bit : ℕ) → Bool
is_bit t x b = pick (eqb t number_tag) (λ _. eqb x b) λ _. false

unfoldable pub bit_answer : (tag word : ℕ) → Ending
bit_answer t x = pick (is_bit t x 0) (λ _. Value number_tag 0) λ _. pick (is_bit t x 1) (λ _. Value number_tag 1) λ _. NoRule

-- the node i for 1, and the one behind it for 0
unfoldable pub branch_of : (tree : List ℕ) (i tag word : ℕ) → Ending
branch_of tree i t x = pick (is_bit t x 1) (λ _. Value done_tag i) λ _. pick (is_bit t x 0) (λ _. Value done_tag (node_at tree i).next) λ _. NoRule

unfoldable pub round_end : (tag word env : ℕ) → Ending
round_end t x env = pick (is_bit t x 0) (λ _. Value done_tag env) λ _. NoRule

-- one step from the binding x towards the code c: its jump, where that does not lead past it, or else its link
unfoldable pub outward : (bindings : List ℕ) (c : ℕ) → Binding → ℕ
outward b c x = pick (leb c (code_in b x.jump)) (λ _. x.jump) λ _. x.link

-- what one of the nine names is worth: only true and false are values
unfoldable pub truth_of : (c : ℕ) → Ending
truth_of c = pick (eqb c 1) (λ _. Value number_tag 1) λ _. pick (eqb c 2) (λ _. Value number_tag 0) λ _. NoRule

-- by the kind k and the code c of the node n
unfoldable pub plain_by : (k : ℕ) (codes bindings cells : List ℕ) → Counts → (env c : ℕ) → Node → Ending
plain_by k codes b cells counts env c n =
    pick (eqb k 18) (λ _. Value number_tag c) λ _.
    pick (eqb k 19) (λ _. name_value b cells c n.place counts.cells env) λ _.
    pick (eqb k 24) (λ _. Value function_tag (closure_word n.child env)) λ _.
    pick (eqb k 25) (λ _. address_of b (get_or codes n.child 0) env) λ _.
    NoRule

unfoldable pub plain_value : (codes bindings cells : List ℕ) → Counts → (env c : ℕ) → Node → Ending
plain_value codes b cells counts env c n = plain_by n.kind codes b cells counts env c n

-- the value t x goes out, for the ECHO at p
unfoldable pub echoed : Run → (p env tag word : ℕ) → Tables → Ret
echoed g p env t x m =
    pick (eqb t number_tag) (λ _.
    pick (ltb m.counts.numbers (g.bounds).output) (λ _. is (Value done_tag env) (put_out_in (to_z w64 x) m)) λ _. is (Stop 24 p) m)
    λ _. is NoRule m
