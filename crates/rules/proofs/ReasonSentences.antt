-- What must be reached and what is a test, sentence by sentence: each is an equation about the definitions that holds by computation; where a sentence has a
-- condition, it is put in first. Assumes nothing.
use mathlib.Core.Path.{◌≡◌, refl, ap, ◌∙◌}
use mathlib.Core.Bool.{cond, or-false}
use Prim.Native.Nat.{ℕ, ◌+◌}
use lib.Dec.{T}
use Rattle.sets.specs.Numbers.{Numbers, empty, single, union, only_if}
use Rattle.sets.proofs.Members.{ext, union_right, only_if_in}
use Rattle.rules.specs.Statements.{Stmt, present?◌then◌else◌, suspend◌on◌, loop, ◌parallel◌, local, statements}
use Rattle.rules.specs.Events.{Status, present, unknown, Event, giving}
use Rattle.rules.specs.Instant.{active, started, resumed}
use Rattle.rules.specs.MustCan.{must, gives}
use Rattle.rules.specs.States.{finished, executed_as, kept_by}
use Rattle.rules.specs.Taken.{Wanted, every, undecided_test, wants, wants_test, itself_if, taken_started, taken_resumed, taken}

module _ (E : Event) (A : Numbers) (i : ℕ) (p q : Stmt) (s : ℕ) where
  -- a present started with its signal undecided is named, and nothing below it is reached
  undecided_present : E s ≡ unknown → taken_started undecided_test i (present? s then p else q) E ≡ single i
  unfolding taken_started
  undecided_present e =
      ap (λ (v : Status). union (itself_if (wants_test undecided_test v) i) (kept_by v (taken_started undecided_test (i + 1) p E) (taken_started undecided_test (i + 1 + statements p) q E))) e
      ∙ ext (λ n. or-false (single i n))

  -- and so is a suspend resumed
  undecided_suspend : E s ≡ unknown → taken_resumed undecided_test A i (suspend p on s) E ≡ single i
  unfolding taken_resumed
  undecided_suspend e =
      ap (λ (v : Status). union (itself_if (wants_test undecided_test v) i) (kept_by v empty (taken_resumed undecided_test A (i + 1) p E))) e ∙ ext (λ n. or-false (single i n))

  -- a suspend started tests nothing, and a present resumed neither
  suspend_started : taken_started undecided_test i (suspend p on s) E ≡ taken_started undecided_test (i + 1) p E
  unfolding taken_started
  suspend_started = refl

  present_resumed : taken_resumed undecided_test A i (present? s then p else q) E
      ≡ cond (active A p) (taken_resumed undecided_test A (i + 1) p E) (taken_resumed undecided_test A (i + 1 + statements p) q E)
  unfolding taken_resumed
  present_resumed = refl

  -- both arms of a parallel are reached, whatever the other arm's code
  both_arms : (w : Wanted) → taken_started w i (p parallel q) E
      ≡ union (itself_if (wants w) i) (union (taken_started w (i + 1) p E) (taken_started w (i + 1 + statements p) q E))
  unfolding taken_started
  both_arms w = refl

  -- a local's body is reached with the status that must settles for its signal
  local_body : (w : Wanted) → taken_started w i (local s p) E ≡ union (itself_if (wants w) i) (taken_started w (i + 1) p (giving E s (executed_as s (started p) E)))
  unfolding taken_started
  local_body w = refl

  -- "Started again in a loop counts as reached"
  started_again : (w : Wanted) (k : ℕ) → T ((gives must (resumed A p) E).codes 0) → T (taken_started w (i + 1) p E k) → T (taken_resumed w A i (loop p) E k)
  unfolding taken_resumed
  started_again w k z t =
      union_right (itself_if (wants w) i) (union (taken_resumed w A (i + 1) p E) (only_if ((gives must (resumed A p) E).codes 0) (taken_started w (i + 1) p E))) k
      (union_right (taken_resumed w A (i + 1) p E) (only_if ((gives must (resumed A p) E).codes 0) (taken_started w (i + 1) p E)) k
      (only_if_in ((gives must (resumed A p) E).codes 0) (taken_started w (i + 1) p E) k z t))

  -- a suspend that holds its body is executed, and its body is not
  held_body : E s ≡ present → taken_resumed every A i (suspend p on s) E ≡ single i
  unfolding taken_resumed
  held_body e =
      ap (λ (v : Status). union (itself_if (wants_test every v) i) (kept_by v empty (taken_resumed every A (i + 1) p E))) e ∙ ext (λ n. or-false (single i n))

  -- finished, nothing is reached: every path is cut off at the root
  none_finished : (w : Wanted) → taken w p finished E ≡ empty
  unfolding taken
  none_finished w = refl
