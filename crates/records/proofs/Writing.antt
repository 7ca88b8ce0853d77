-- Writing the records: the fields that are stored make the whole record in front of what lies behind it.
-- Assumes nothing.
use mathlib.Core.Path.{◌≡◌, refl, sym, ap, ap₂, ◌∙◌}
use mathlib.Core.List.{List, [], ◌∷◌, ◌++◌, append-nil}
use Prim.Native.Nat.{ℕ, ◌-◌, ◌≤◌, ◌<◌, ◌^◌}
use native.Mathlib.Omega.{arith}
use lib.Dec.{ltb}
use lib.ListN.{length, get_or, take, drop, length-drop, drop_of_length-le}
use lib.Seq.{sets, drop-drop, take_all}
use borrow.Author.Tests.{lt-ltb, le-ltb}
use native.Mathlib.Nat.{le_of_eq}
use mathlib.Core.Bool.{Bool, true, ◌||◌}
use Rattle.sets.specs.Words.{word, set_of}
use Rattle.sets.proofs.Members.{ext}
use Rattle.rules.specs.States.{State, fresh, finished, phase_of, active_of}
use Rattle.records.specs.Fields.{laid}
use Rattle.records.specs.StateRecord.{state_widths, state_size, state_values, state_record, upper}
use Rattle.records.specs.LogRecord.{Logged, log_widths, log_size, log_values, log_record, no_room, logged_at}
use Rattle.records.specs.Held.{words_of, state_bytes}
use Rattle.records.proofs.Widths.{laid_front, laid_whole}
use Rattle.records.proofs.TwoWords.{words_low, words_high, set_of_none}

-- The state's fields over all the lent bytes.
pub state_stored : (s : List ℕ) (version statements phase : ℕ) (ws : List ℕ) {s' : List ℕ} → length s ≡ state_size
    → s' ≡ sets s 0 (laid state_widths (state_values version statements phase (get_or ws 0 0) (get_or ws 1 0))) → s' ≡ state_bytes version statements phase ws
unfolding state_bytes
state_stored s version statements phase ws l e =
    e ∙ laid_whole state_widths (state_values version statements phase (get_or ws 0 0) (get_or ws 1 0)) s l

-- A phase and its number make the same record.
pub same_phase : (version statements : ℕ) (ws : List ℕ) {p q : ℕ} → p ≡ q → state_bytes version statements p ws ≡ state_bytes version statements q ws
same_phase version statements ws e = ap (λ (phase : ℕ). state_bytes version statements phase ws) e

-- The bytes of a state's own phase and words are the state's record, whatever block it names.
module _ (version statements : ℕ) where
  pub state_written : (st : State) → state_bytes version statements (phase_of st) (words_of (active_of st)) ≡ state_record version statements st
  unfolding state_bytes state_record
  state_written st = refl

  pub written_state : (st : State) (phase : ℕ) (ws : List ℕ) → get_or ws 0 0 < 2 ^ 64 → get_or ws 1 0 < 2 ^ 64
      → phase ≡ phase_of st → set_of ws ≡ active_of st → state_bytes version statements phase ws ≡ state_record version statements st
  unfolding state_bytes state_record
  written_state st phase ws l h p a =
      let low : get_or ws 0 0 ≡ word 64 (active_of st) = sym (words_low (get_or ws 0 0) (get_or ws 1 0) l h) ∙ ap (word 64) a in
      let high : get_or ws 1 0 ≡ word 64 (upper (active_of st)) = sym (words_high (get_or ws 0 0) (get_or ws 1 0) l h) ∙ ap (λ A. word 64 (upper A)) a in
      ap₂ (λ (x y : ℕ). laid state_widths (state_values version statements phase x y)) low high
      ∙ ap (λ (n : ℕ). laid state_widths (state_values version statements n (word 64 (active_of st)) (word 64 (upper (active_of st))))) p

  pub fresh_written : state_bytes version statements 0 (0 ∷ 0 ∷ []) ≡ state_record version statements fresh
  unfolding phase_of active_of
  fresh_written = written_state fresh 0 (0 ∷ 0 ∷ []) (omega arith) (omega arith) refl (ext set_of_none)

  pub finished_written : state_bytes version statements 2 (0 ∷ 0 ∷ []) ≡ state_record version statements finished
  unfolding phase_of active_of
  finished_written = written_state finished 2 (0 ∷ 0 ∷ []) (omega arith) (omega arith) refl (ext set_of_none)

-- The log record's fields, in front of what lies behind them.
pub log_stored : (s : List ℕ) (l : Logged) {s' : List ℕ} → log_size ≤ length s → s' ≡ sets s 0 (laid log_widths (log_values l))
    → s' ≡ log_record l ++ drop log_size s
unfolding log_record
log_stored s l h e = e ∙ laid_front log_widths (log_values l) s h

-- A record written into the part of a log from its end on, and the part put back, is the log with the record.
pub lent_on : (log : List ℕ) (end : ℕ) (l : Logged) {part : List ℕ} → part ≡ log_record l ++ drop log_size (take (length log - end) (drop end log))
    → take end log ++ (part ++ drop (length log - end) (drop end log)) ≡ logged_at log end l
unfolding logged_at
lent_on log end l {part} e =
    let n : length (drop end log) ≤ length log - end = le_of_eq (length-drop end log) in
    ap₂ (λ (p r : List ℕ). take end log ++ (p ++ r)) e (drop_of_length-le (drop end log) n)
    ∙ ap (λ (r : List ℕ). take end log ++ r) (append-nil (log_record l ++ drop log_size (take (length log - end) (drop end log))))
    ∙ ap (λ (r : List ℕ). take end log ++ (log_record l ++ drop log_size r)) (take_all (length log - end) (drop end log) n)
    ∙ ap (λ (r : List ℕ). take end log ++ (log_record l ++ r)) (drop-drop log_size end log)

-- The same of the part alone: what lies before the end, then the record and what lies behind it.
pub from_the_end : (log : List ℕ) (end : ℕ) (l : Logged) → take end log ++ (log_record l ++ drop log_size (drop end log)) ≡ logged_at log end l
unfolding logged_at
from_the_end log end l = ap (λ (r : List ℕ). take end log ++ (log_record l ++ r)) (drop-drop log_size end log)

-- ROOM, by the log's length.
pub beyond_log : (log : List ℕ) (end : ℕ) {len : ℕ} → length log ≡ len → len < end → true ≡ no_room log end
unfolding no_room
beyond_log log end {len} e h =
    sym (ap (λ (n : ℕ). ltb n end || ltb (n - end) log_size) e ∙ ap (λ (b : Bool). b || ltb (len - end) log_size) (lt-ltb len end h))

pub within_log : (log : List ℕ) (end : ℕ) {len : ℕ} → length log ≡ len → end ≤ len → ltb (len - end) log_size ≡ no_room log end
unfolding no_room
within_log log end {len} e h =
    sym (ap (λ (n : ℕ). ltb n end || ltb (n - end) log_size) e ∙ ap (λ (b : Bool). b || ltb (len - end) log_size) (le-ltb len end h))
