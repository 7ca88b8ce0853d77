-- The block that a text stands for, by what was counted in it, and what is owed for it. Assumes nothing.
use Rattle.std.specs.Prelude.{◌≡◌, List, ℕ, ◌-◌, length, Result}
use Rattle.writing.specs.Answers.{Writing, roomed, wrote_values, wrote_owed, out_owed}
use Rattle.refusals.specs.declared.Refused.{Refused}
use Rattle.text.specs.Meaning.{Blocked}

-- What is owed where so much is lent: the answer and every byte.
pub record Answers (w : Writing) (before after : List ℕ) (r : Result ℕ Refused) : Type 0 where
  pub answered : wrote_values r ≡ wrote_owed (roomed w (length before))
  pub stored : after ≡ out_owed (roomed w (length before)) before

-- Inputs are numbered from 0, then outputs, then locals: how many numbers there are after the inputs, after the outputs and after the locals.
abbrev pub blocked : ℕ → ℕ → ℕ → ℕ → List ℕ → Blocked
blocked v i s n rs = record { header = record { version = v; inputs = i; outputs = s - i; locals = n - s }; records = rs }
