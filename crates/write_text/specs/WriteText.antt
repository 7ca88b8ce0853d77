-- What is to be written for a block, and what its parts owe. Assumes nothing.
use Rattle.std.specs.Prelude.{◌≡◌, List, ℕ, ◌+◌, ◌≤◌, length, Result}
use Rattle.std.proofs.lemmas.List.Edits.{sets}
use Rattle.rules.specs.Statements.{Stmt}
use Rattle.tables.specs.declared.Table.{Table}
use Rattle.tables.specs.Table.{Small}
use Rattle.block.specs.Format.{Header, Reading, good, turned_down, reading}
use Rattle.block.specs.Good.{path}
use Rattle.block.specs.declared.whole.Summary.{Summary}
use Rattle.writing.specs.Answers.{Writing, writes, refuses, roomed, wrote_values, wrote_owed, out_owed}
use Rattle.refusals.specs.declared.Refused.{Refused}
use Rattle.text.specs.Shown.{shown, text_bytes}
use Rattle.write_text.specs.Spots.{Stands}

-- The text of a good block; else 1 to 8 of the block itself.
unfoldable pub text_writing_of : Reading → Writing
unfolding shown text_bytes
text_writing_of (turned_down n at) = refuses n at
text_writing_of (good g) = writes (text_bytes (shown g.header g.body))

unfoldable pub text_writing : List ℕ → Writing
unfolding reading text_writing_of
text_writing b = text_writing_of (reading b)

-- The table has a good block's tree, and the summary its header.
pub record Shows (tab : Table) (s : Summary) (h : Header) (t : Stmt) : Type 0 where
  pub stands : Stands tab 0 t
  pub small : Small t
  pub short_path : path t ≤ 64
  pub its_version : h.version ≡ s.version
  pub its_inputs : h.inputs ≡ s.inputs
  pub its_outputs : h.outputs ≡ s.outputs
  pub signals : h.inputs + h.outputs ≤ 64

-- Some bytes were put from the first lent byte on, as far as these reach; and how many there are.
pub record Filled (bs before after : List ℕ) (size : ℕ) : Type 0 where
  pub sized : size ≡ length bs
  pub stored : after ≡ sets before 0 bs

-- What is owed where so much is lent: the answer and every byte.
pub record Answers (w : Writing) (before after : List ℕ) (r : Result ℕ Refused) : Type 0 where
  pub answered : wrote_values r ≡ wrote_owed (roomed w (length before))
  pub stored : after ≡ out_owed (roomed w (length before)) before
