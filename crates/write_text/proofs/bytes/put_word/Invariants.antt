-- `bytes::put_word`: the word's bytes from the next one on are left to put.
use Rattle.write_text.proofs.Putting.{WordLeft}
use Rattle.write_text.proofs.bytes.put_word.Given as goal

abbrev pub invariant-loop-byte : goal.invariant-loop-byte
invariant-loop-byte l = WordLeft l.initial.out l.out l.to l.at l.word l.byte-index
