-- `bytes::put_row`: the line and its words, one behind the other.
use mathlib.Core.Path.{sym, ap, ◌∙◌}
use mathlib.Core.Bool.{true≢false}
use Rattle.std.proofs.Common.{rules, tests, length, List, ℕ}
use Rattle.std.specs.Bool.{◌==◌}
use Rattle.std.proofs.lemmas.List.{nil_from_length}
use Rattle.write_text.proofs.Putting.{row_none, row_put}
use Rattle.write_text.proofs.bytes.put_row.Goals as goal

pub returns-then-is_empty : goal.returns-then-is_empty
returns-then-is_empty c = row_none _ _ _ _ (nil_from_length _ (search (rules, tests)))

pub returns : goal.returns
returns c =
    row_put _ _ _ _ (λ e. true≢false (ap (λ (l : List ℕ). length l == 0) (sym e) ∙ sym c.is_empty.ensures ∙ c.if-is_empty.false))
    c.put_line-begun.ensures.puts c.put_word-worded.ensures.puts c.put_name-named.ensures.puts c.put_word.ensures.puts
