-- The log record: its fields, the refusal 12, and a log with a record written at its present end. Assumes nothing.
use Rattle.std.specs.Prelude.{Bool, ◌||◌, List, [], ◌∷◌, ◌++◌, ℕ, ◌+◌, ◌-◌, ltb, length, take, drop}
use Rattle.records.specs.Fields.{size, laid}

-- What is logged of an answered instant: the inputs heard present and those heard absent, the present outputs (bits by signal number), the
-- code, the rounds.
pub record Logged : Type 0 where
  pub inputs_present : ℕ
  pub inputs_absent : ℕ
  pub outputs_present : ℕ
  pub code : ℕ
  pub rounds : ℕ

-- The fields and how many bytes each has: length, kind, inputs present, inputs absent, outputs present, code, rounds.
abbrev pub log_widths : List ℕ
log_widths = 2 ∷ 2 ∷ 8 ∷ 8 ∷ 8 ∷ 2 ∷ 2 ∷ []

abbrev pub log_size : ℕ
log_size = size log_widths

-- Their values: the kind is 3.
abbrev pub log_values : Logged → List ℕ
log_values l = log_size ∷ 3 ∷ l.inputs_present ∷ l.inputs_absent ∷ l.outputs_present ∷ l.code ∷ l.rounds ∷ []

unfoldable pub log_record : Logged → List ℕ
unfolding laid
log_record l = laid log_widths (log_values l)

-- ROOM: the end is beyond the log, or fewer bytes are after it than the record has.
unfoldable pub no_room : List ℕ → ℕ → Bool
no_room log end = ltb (length log) end || ltb (length log - end) log_size

-- The log with a record written from its end on; nothing before or after it changes.
unfoldable pub logged_at : List ℕ → ℕ → Logged → List ℕ
unfolding log_record
logged_at log end l = take end log ++ (log_record l ++ drop (end + log_size) log)
