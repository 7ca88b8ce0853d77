-- The values of the calls on blocks as text are three, and begin with a number that two bytes hold: by cases on the block's reading, or on what the text gets. Assumes nothing.
use mathlib.Core.Path.{refl}
use mathlib.Core.Bool.{Bool, true, false, cond}
use mathlib.Core.List.{List, ◌++◌}
use Prim.Native.Nat.{ℕ, ◌+◌}
use lib.Dec.{lit≤, ltb}
use lib.ListN.{length}
use Rattle.block.specs.Format.{reading}
use Rattle.writing.specs.Written.{header_bytes}
use Rattle.writing.specs.Answers.{refuses, roomed, wrote_owed}
use Rattle.text.specs.Meaning.{Blocked}
use Rattle.text.specs.Tokens.{tokens_placed}
use Rattle.text.specs.Shown.{shown, text_bytes}
use Rattle.text.specs.Reader.{Outcome, stands, outside, over, begun, read_placed, checked, block_of, owed, text_read}
use Rattle.write_text.specs.WriteText.{text_writing, text_writing_of}
use Rattle.values.specs.Whole.{text_owed, block_owed}
use Rattle.values.proofs.Counts.{Counted, by_reading}
use Rattle.values.proofs.WholeCounts.{fit_counted}

pub text_counted : (b out : List ℕ) → Counted 3 (text_owed b out)
unfolding text_writing text_writing_of roomed wrote_owed
text_counted b out =
    by_reading (λ x. wrote_owed (roomed (text_writing_of x) (length out))) b (λ g. fit_counted (length out) (text_bytes (shown g.header g.body)))
    (λ n at l. record { counted = refl; small = l })

-- The block that a text stands for.
blocked_counted : (lent : ℕ) (b : Blocked) → Counted 3 (wrote_owed (roomed (block_of b) lent))
unfolding block_of roomed wrote_owed
blocked_counted lent b = go (ltb 64 (b.header.inputs + b.header.outputs + b.header.locals))
  where
    bytes : List ℕ
    bytes = header_bytes b.header ++ b.records

    go : (t : Bool) → Counted 3 (wrote_owed (roomed (cond t (refuses 4 0) (checked bytes (reading bytes))) lent))
    go true = record { counted = refl; small = lit≤ tt }
    go false = by_reading (λ x. wrote_owed (roomed (checked bytes x) lent)) bytes (λ g. fit_counted lent bytes) (λ n at l. record { counted = refl; small = l })

pub block_counted : (text out : List ℕ) → Counted 3 (block_owed text out)
unfolding text_read owed roomed wrote_owed
block_counted text out = go (read_placed begun (tokens_placed text) (length text))
  where
    go : (o : Outcome) → Counted 3 (wrote_owed (roomed (owed o) (length out)))
    go (stands b) = blocked_counted (length out) b
    go (outside at) = record { counted = refl; small = lit≤ tt }
    go over = record { counted = refl; small = lit≤ tt }
