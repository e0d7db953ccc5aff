use native.Mathlib.Omega.{arith}
use Rattle.reading.specs.Promise.{too_long, too_small}
use Rattle.reading.proofs.Lefts.{no_room_tree, no_room_words, no_room_stack, promised}
use Rattle.reading.proofs.read.Goals.{then-tree-lt-TREE_WORDS-via-then-tree-lt-TREE_WORDS, then-tree-lt-TREE_WORDS-via-else-tree-lt-TREE_WORDS+then-words-lt-WORD_ENTRIES, then-tree-lt-TREE_WORDS-via-else-tree-lt-TREE_WORDS+else-words-lt-WORD_ENTRIES+then-stack-lt-STACK_ENTRIES}
use Rattle.reading.proofs.read.Goals as goal

pub returns-then-text-gt-TEXT_BYTES : goal.returns-then-text-gt-TEXT_BYTES
returns-then-text-gt-TEXT_BYTES c = too_long (omega arith)

pub returns-then-tree-lt-TREE_WORDS : goal.returns-then-tree-lt-TREE_WORDS
returns-then-tree-lt-TREE_WORDS c =
    elim c.then-tree-lt-TREE_WORDS.branch [
      | then-tree-lt-TREE_WORDS-via-then-tree-lt-TREE_WORDS w ↦
          too_small c.if-text-gt-TEXT_BYTES.false (no_room_tree c.args.text.now c.args.tree.now c.args.words.now c.args.stack.now w.if-tree-lt-TREE_WORDS.true)
      | then-tree-lt-TREE_WORDS-via-else-tree-lt-TREE_WORDS+then-words-lt-WORD_ENTRIES w ↦
          too_small c.if-text-gt-TEXT_BYTES.false
          (no_room_words c.args.text.now c.args.tree.now c.args.words.now c.args.stack.now w.if-tree-lt-TREE_WORDS.false w.if-words-lt-WORD_ENTRIES.true)
      | then-tree-lt-TREE_WORDS-via-else-tree-lt-TREE_WORDS+else-words-lt-WORD_ENTRIES+then-stack-lt-STACK_ENTRIES w ↦
          too_small c.if-text-gt-TEXT_BYTES.false
          (no_room_stack c.args.text.now c.args.tree.now c.args.words.now c.args.stack.now w.if-tree-lt-TREE_WORDS.false w.if-words-lt-WORD_ENTRIES.false
          w.if-stack-lt-STACK_ENTRIES.true)
    ]

pub returns : goal.returns
returns c =
    promised c.args.text.now c.args.tree.now c.args.words.now c.args.stack.now c.read_within.result c.read_within.new.tree c.read_within.new.words c.read_within.new.stack
    c.if-text-gt-TEXT_BYTES.false c.if-tree-lt-TREE_WORDS.false c.if-words-lt-WORD_ENTRIES.false c.if-stack-lt-STACK_ENTRIES.false c.read_within.ensures.outcome
    c.read_within.ensures.tree c.read_within.ensures.works.0 c.read_within.ensures.works.1
