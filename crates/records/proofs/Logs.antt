-- A log with a record written at its end: its length, what lies before and behind, and the record. Assumes nothing.
use mathlib.Core.Path.{◌≡◌, sym, ap, ap₂, ◌∙◌}
use mathlib.Core.Bool.{Bool, false, ◌||◌}
use mathlib.Core.List.{List, ◌++◌}
use Prim.Native.Nat.{ℕ, ◌+◌, ◌-◌, ◌≤◌}
use native.Mathlib.Omega.{arith}
use lib.Dec.{ltb, not_T, nltb→le}
use lib.ListN.{length, take, drop, length-append, length-drop}
use lib.Seq.{take_at, drop_at, drop-drop, length-take-le}
use borrow.Author.Tests.{le-ltb}
use Rattle.sets.proofs.Members.{of_false, or_left, or_right}
use Rattle.records.specs.LogRecord.{Logged, log_size, log_record, no_room, logged_at}
use Rattle.records.proofs.Back.{log_length}

-- Where there is room the record fits behind the end, and only there.
pub has_room : (log : List ℕ) (end : ℕ) → no_room log end ≡ false → end + log_size ≤ length log
unfolding no_room
has_room log end e =
    let before : Bool = ltb (length log) end in
    let short : Bool = ltb (length log - end) log_size in
    let a : end ≤ length log = nltb→le (length log) end (not_T before (λ t. of_false e (or_left before short t))) in
    let b : log_size ≤ length log - end = nltb→le (length log - end) log_size (not_T short (λ t. of_false e (or_right before short t))) in
    omega arith

pub room_has : (log : List ℕ) (end : ℕ) → end + log_size ≤ length log → no_room log end ≡ false
unfolding no_room
room_has log end h = ap₂ (λ (x y : Bool). x || y) (le-ltb (length log) end (omega arith)) (le-ltb (length log - end) log_size (omega arith))

module _ (log : List ℕ) (end : ℕ) (l : Logged) (h : end + log_size ≤ length log) where
  front : length (take end log) ≡ end
  front = length-take-le end log (omega arith)

  rest : drop end (logged_at log end l) ≡ log_record l ++ drop (end + log_size) log
  unfolding logged_at
  rest = drop_at (take end log) (log_record l ++ drop (end + log_size) log) end front

  pub logged_before : take end (logged_at log end l) ≡ take end log
  unfolding logged_at
  logged_before = take_at (take end log) (log_record l ++ drop (end + log_size) log) end front

  pub logged_record : take log_size (drop end (logged_at log end l)) ≡ log_record l
  logged_record = ap (take log_size) rest ∙ take_at (log_record l) (drop (end + log_size) log) log_size (log_length l)

  pub logged_after : drop (end + log_size) (logged_at log end l) ≡ drop (end + log_size) log
  logged_after =
      sym (drop-drop log_size end (logged_at log end l)) ∙ ap (drop log_size) rest ∙ drop_at (log_record l) (drop (end + log_size) log) log_size (log_length l)

  pub logged_length : length (logged_at log end l) ≡ length log
  unfolding logged_at
  logged_length =
      length-append (take end log) (log_record l ++ drop (end + log_size) log)
      ∙ ap₂ ◌+◌ front (length-append (log_record l) (drop (end + log_size) log) ∙ ap₂ ◌+◌ (log_length l) (length-drop (end + log_size) log)) ∙ omega arith
