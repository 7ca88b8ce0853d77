-- What the converter writes: the bytes of the conversion, a block of edition 1 with the header else kept. Assumes nothing.
use Rattle.std.specs.Prelude.{cond, List, ℕ}
use Rattle.block.specs.Format.{LIMIT, Header}
use Rattle.writing.specs.Written.{block_bytes}
use Rattle.writing.specs.Answers.{Writing, writes, refuses}
use Rattle.doubled.specs.Copies.{within_limits}
use Rattle.everyday.specs.Statements.{Everyday}
use Rattle.everyday.specs.Conversion.{converted}
use Rattle.converting.specs.Format.{Reading₂, good₂, turned_down₂, reading₂}

-- 4 with place 0 where the result passes a limit.
unfoldable pub converting_tree : Header → Everyday → Writing
unfolding within_limits converted block_bytes
converting_tree h p = cond (within_limits h (converted p)) (writes (block_bytes h (converted p))) (refuses LIMIT 0)

-- After 1 to 8 of the block itself.
unfoldable pub converting_of : Reading₂ → Writing
unfolding converting_tree
converting_of (turned_down₂ n at) = refuses n at
converting_of (good₂ h p) = converting_tree h p

unfoldable pub converting : List ℕ → Writing
unfolding reading₂
converting b = converting_of (reading₂ b)
