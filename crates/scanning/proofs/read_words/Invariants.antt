-- One reader goes through the text: so far the table and the scan hold what the words before the reader's place come to.
use Rattle.std.proofs.Common.{◌≡◌, ◌-◌, length}
use Rattle.scanning.proofs.Turns.{Holds}
use Rattle.scanning.proofs.read_words.Given as goal

abbrev pub invariant-loop-word : goal.invariant-loop-word
invariant-loop-word l = record {
  same_text : l.reader.text.now ≡ l.text;
  holds : Holds l.text l.initial.table l.reader.at l.table l.scan.words l.scan.over;
}

abbrev pub decreases-loop-word : goal.decreases-loop-word
decreases-loop-word l = length l.text - l.reader.at
