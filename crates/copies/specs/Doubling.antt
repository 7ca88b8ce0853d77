-- The call's parts: the limits by the measures, and a good block's table. Assumes nothing.
use Rattle.std.specs.Prelude.{◌≡◌, Bool, ◌&&◌, List, ℕ, ◌+◌, ◌≤◌, leb, length, Result}
use Rattle.rules.specs.Statements.{Stmt}
use Rattle.tables.specs.declared.Table.{Table}
use Rattle.block.specs.Format.{Header}
use Rattle.block.specs.Good.{nested_traps, nested_locals}
use Rattle.block.specs.declared.whole.Summary.{Summary}
use Rattle.writing.specs.Answers.{Writing, roomed, wrote_values, wrote_owed, out_owed}
use Rattle.refusals.specs.declared.Refused.{Refused}
use Rattle.copies.specs.Nodes.{Lies}
use Rattle.copies.specs.declared.sizes.Size.{Size}

-- The limits that doubling can pass.
unfoldable pub size_within : ℕ → Size → Bool
size_within signals s = leb (signals + s.locals) 64 && (leb s.statements 512 && (leb s.pauses 128 && leb s.path 64))

-- The table has a good block's tree, and the summary its header.
pub record Doubles (tab : Table) (s : Summary) (h : Header) (t : Stmt) : Type 0 where
  pub lies : Lies tab 0 t
  pub traps_nested : nested_traps t ≤ 16
  pub locals_nested : nested_locals t ≤ 6
  pub its_version : h.version ≡ s.version
  pub its_inputs : h.inputs ≡ s.inputs
  pub its_outputs : h.outputs ≡ s.outputs
  pub signals : h.inputs + h.outputs ≤ 64

-- What is owed where so much is lent: the answer and every byte.
pub record Doubled (w : Writing) (before after : List ℕ) (r : Result ℕ Refused) : Type 0 where
  pub answered : wrote_values r ≡ wrote_owed (roomed w (length before))
  pub stored : after ≡ out_owed (roomed w (length before)) before
