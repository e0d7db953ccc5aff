-- A node of the tree table, document 01: kind, place, first child and next sibling, 16 bits each, most significant first.
use Rattle.std.specs.Prelude.{ℕ, ◌/◌, ◌%◌, zero, suc, List, get_or, Option, Some, None}
use Rattle.nodes.specs.declared.Node.{Node}

-- the node number i of some tree words; past their end it is all zeros
unfoldable pub node_at : List ℕ → ℕ → Node
node_at tree i =
    record {
      kind = get_or tree i 0 / 281474976710656;
      place = get_or tree i 0 / 4294967296 % 65536;
      child = get_or tree i 0 / 65536 % 65536;
      next = get_or tree i 0 % 65536;
    }

-- a node by its number, where 0 stands for none
unfoldable pub some_node : ℕ → Option ℕ
some_node zero = None
some_node (suc i) = Some (suc i)
