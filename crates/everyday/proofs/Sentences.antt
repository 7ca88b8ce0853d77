-- The meaning of the four, sentence by sentence, in the words in which the rules are written: each is an equation about the definitions. What halt, sustain and
-- await give is theirs alone; what abort gives is said by what its body gives. Assumes nothing.
use mathlib.Core.Path.{◌≡◌, refl, ◌∙◌, ap}
use Prim.Native.Nat.{ℕ}
use lib.Dec.{eqb}
use Rattle.sets.specs.Numbers.{Numbers, empty, single, union}
use Rattle.sets.proofs.Members.{ext}
use Rattle.rules.specs.Events.{present, absent, unknown, Event}
use Rattle.rules.specs.Instant.{done, stay, say, test, chain}
use Rattle.rules.specs.MustCan.{Mark, opened, Question, must, can, Given, gives}
use Rattle.rules.specs.States.{kept_by, kept}
use Rattle.everyday.specs.Statements.{halt, sustain, await, abort_when, Everyday, alone, around}
use Rattle.everyday.specs.Meaning.{held₂, started₂, resumed₂}
use Rattle.everyday.proofs.Abort.{after_end, or_none}
use Rattle.everyday.proofs.Forms.{kept_tested}

abbrev given : Numbers → Numbers → Given
given ss cs = record { signals = ss; codes = cs }

module _ (E : Event) (i : ℕ) where
  -- STARTED, the stop having the number i; both for must and can (k is either, with any mark)
  -- halt gives 1
  started_halt : (k : Question) → gives k (started₂ i (alone halt)) E ≡ given empty (single 1)
  unfolding gives started₂
  started_halt k = refl

  -- sustain s gives s and 1
  sustain_gives : (k : Question) (s : ℕ) → gives k (chain (say s) (stay (single i))) E ≡ given (single s) (single 1)
  unfolding gives
  sustain_gives k s = λ t. given (ext (λ n. or_none (eqb n s)) t) (after_end (given empty (single 1)) t).codes

  started_sustain : (k : Question) (s : ℕ) → gives k (started₂ i (alone (sustain s))) E ≡ given (single s) (single 1)
  unfolding started₂
  started_sustain k s = sustain_gives k s

  -- await gives 1: it does not look at its signal when it starts
  started_await : (k : Question) (s : ℕ) → gives k (started₂ i (alone (await s))) E ≡ given empty (single 1)
  unfolding gives started₂
  started_await k s = refl

  -- abort: as the body
  started_abort : (k : Question) (s : ℕ) (p : Everyday) → gives k (started₂ i (around (abort_when s) p)) E ≡ gives k (started₂ i p) E
  unfolding started₂
  started_abort k s p = refl

  -- RESUMED, with A active
  module _ (A : Numbers) (s : ℕ) where
    -- halt gives 1
    resumed_halt : (k : Question) → gives k (resumed₂ i A (alone halt)) E ≡ given empty (single 1)
    unfolding gives resumed₂
    resumed_halt k = refl

    -- sustain s gives s and 1
    resumed_sustain : (k : Question) → gives k (resumed₂ i A (alone (sustain s))) E ≡ given (single s) (single 1)
    unfolding resumed₂
    resumed_sustain k = sustain_gives k s

    -- await s: present gives 0, absent 1
    resumed_await_present : (k : Question) → E s ≡ present → gives k (resumed₂ i A (alone (await s))) E ≡ given empty (single 0)
    unfolding gives resumed₂
    resumed_await_present k e = rw e

    resumed_await_absent : (k : Question) → E s ≡ absent → gives k (resumed₂ i A (alone (await s))) E ≡ given empty (single 1)
    unfolding gives resumed₂
    resumed_await_absent k e = rw e

    -- unknown: must is empty, can is the codes 0 and 1
    resumed_await_must : E s ≡ unknown → gives must (resumed₂ i A (alone (await s))) E ≡ given empty empty
    unfolding gives resumed₂
    resumed_await_must e = rw e

    resumed_await_can : (m : Mark) → E s ≡ unknown → gives (can m) (resumed₂ i A (alone (await s))) E ≡ given empty (union (single 0) (single 1))
    unfolding gives resumed₂
    resumed_await_can m e = rw e

    module _ (p : Everyday) where
      -- abort when s: present gives code 0 and no signal; absent, the body resumed
      resumed_abort_present : (k : Question) → E s ≡ present → gives k (resumed₂ i A (around (abort_when s) p)) E ≡ given empty (single 0)
      unfolding gives resumed₂
      resumed_abort_present k e = rw e

      resumed_abort_absent : (k : Question) → E s ≡ absent → gives k (resumed₂ i A (around (abort_when s) p)) E ≡ gives k (resumed₂ i A p) E
      unfolding gives resumed₂
      resumed_abort_absent k e = rw e

      -- unknown: must is empty, can is the body's under open mark, and the codes 0 and 1 besides
      resumed_abort_must : E s ≡ unknown → gives must (resumed₂ i A (around (abort_when s) p)) E ≡ given empty empty
      unfolding gives resumed₂
      resumed_abort_must e = rw e

      resumed_abort_can : (m : Mark) → E s ≡ unknown
          → gives (can m) (resumed₂ i A (around (abort_when s) p)) E ≡ given
          (gives (can opened) (resumed₂ i A p) E).signals
          (union (single 0) (union (single 1) (gives (can opened) (resumed₂ i A p) E).codes))
      unfolding gives resumed₂
      resumed_abort_can m e = rw e

  -- NEXT STATE: halt, sustain and await keep their own stop when they give 1
  kept_halt : kept (started₂ i (alone halt)) E ≡ single i
  unfolding kept started₂
  kept_halt = refl

  kept_sustain : (s : ℕ) → kept (started₂ i (alone (sustain s))) E ≡ single i
  unfolding kept gives started₂
  kept_sustain s = refl

  kept_await : (s : ℕ) → kept (started₂ i (alone (await s))) E ≡ single i
  unfolding kept started₂
  kept_await s = refl

  kept_halt_again : (A : Numbers) → kept (resumed₂ i A (alone halt)) E ≡ single i
  unfolding kept resumed₂
  kept_halt_again A = refl

  kept_sustain_again : (A : Numbers) (s : ℕ) → kept (resumed₂ i A (alone (sustain s))) E ≡ single i
  unfolding kept gives resumed₂
  kept_sustain_again A s = refl

  kept_await_again : (A : Numbers) (s : ℕ) → E s ≡ absent → kept (resumed₂ i A (alone (await s))) E ≡ single i
  unfolding kept gives resumed₂
  kept_await_again A s e = rw e

  -- an abort keeps what its body keeps, and nothing where its signal is present
  kept_abort : (s : ℕ) (p : Everyday) → kept (started₂ i (around (abort_when s) p)) E ≡ kept (started₂ i p) E
  unfolding started₂
  kept_abort s p = refl

  kept_abort_again : (A : Numbers) (s : ℕ) (p : Everyday) → kept (resumed₂ i A (around (abort_when s) p)) E ≡ kept_by (E s) empty (kept_by (E s) (held₂ i A p) (kept (resumed₂ i A p) E))
  unfolding kept resumed₂
  kept_abort_again A s p =
      kept_tested s done (test s (stay (held₂ i A p)) (resumed₂ i A p)) E ∙ ap (kept_by (E s) empty) (kept_tested s (stay (held₂ i A p)) (resumed₂ i A p) E)
