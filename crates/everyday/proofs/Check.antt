-- The check of a conversion: it has the codes of its statement, sent where the exits go, so its loops pass exactly where the statement's do; its exits find their
-- traps; and its pauses are numbered. By induction over the statement. Assumes nothing.
use mathlib.Core.Path.{◌≡◌, refl, sym, ◌∙◌, ap, ap₂, subst⁻¹}
use mathlib.Core.Bool.{Bool, true, not, ◌&&◌, and-true}
use mathlib.Core.List.{List}
use Prim.Native.Nat.{ℕ, zero, suc, ◌+◌, ◌<◌}
use native.Mathlib.Omega.{arith}
use lib.Dec.{T}
use lib.ListN.{length}
use Rattle.sets.specs.Numbers.{Numbers, empty, single, union, without, maxima, downs}
use Rattle.sets.proofs.Members.{single_out, without_in, without_member, ext_T}
use Rattle.rules.specs.Statements.{Depth, depth, code, Stmt, suspend◌on◌, ◌⨾◌, pauses, from, Numbered, Trapped}
use Rattle.rules.specs.Loops.{codes_of, loops_pass}
use Rattle.rules.specs.MustCan.{Given}
use Rattle.rules.specs.States.{fresh, Legal}
use Rattle.theorems.specs.Checked.{Checked}
use Rattle.theorems.specs.Traces.{InputSet}
use Rattle.theorems.specs.Demand.{NeverStuck}
use Rattle.theorems.proofs.Demand3.{a_block_that_passes_the_check_never_gets_stuck}
use Rattle.likeness.specs.Likeness.{Image}
use Rattle.likeness.proofs.Images.{image_closed, image_single}
use Rattle.everyday.specs.Statements.{Alone, nothing, pause, halt, emit, sustain, await, exit, suspend_on, loop, trap, local, abort_when}
use Rattle.everyday.specs.Statements.{Between, present_then_else, in_sequence, in_parallel, Everyday, alone, around, between}
use Rattle.everyday.specs.Conversion.{watch, deeper, past_trap, pauses_made, as_it_is, convert, converted}
use Rattle.everyday.specs.Check.{codes_between, codes₂, loops_pass₂, Trapped₂}
use Rattle.everyday.specs.Instants.{Block₂}
use Rattle.everyday.proofs.Sent.{sent, Rising, rising_deeper, rising_past_trap, sent_keeps_zero, sent_keeps_one, sent_exit}
use Rattle.everyday.proofs.Sent.{zero_same, image_without, image_only_if, image_maxima, image_downs, Sent}
use Rattle.everyday.proofs.Abort.{waits, after_end, not_after, form_waits, caught_waits}
use Rattle.everyday.proofs.Agree.{pauses_are}
use Rattle.everyday.proofs.Runs.{stays_rising, conversion}

-- A loop whose body gives only 1.
one_alone : without 0 (single 1) ≡ single 1
one_alone = ext_T (without_member 0 (single 1)) (λ n t. without_in 0 (single 1) n t (λ e. let q = single_out 1 n t in absurd (omega arith)))

watch_codes : (s j : ℕ) → codes_of (watch s j) ≡ single 1
unfolding codes_of code
watch_codes s j = ap (λ (g : Given). without 0 g.codes) (not_after waits (record { signals = empty; codes = union (single 2) (single 0) }) refl) ∙ one_alone

between_codes : {out : Depth → Depth} → Rising out → (o : Between) {A B A' B' : Numbers} → Image (sent out) A A' → Image (sent out) B B'
    → Image (sent out) (codes_between o A B) (codes_between o A' B')
between_codes {out} r (present_then_else s) f g = (image_closed (sent out)).both f g
between_codes {out} r in_sequence {A} {B} {A'} {B'} f g =
    (image_closed (sent out)).both (image_without out f) (image_only_if (A' 0) (A 0) (zero_same out f) g)
between_codes {out} r in_parallel f g = image_maxima r f g

alone_codes : (out : Depth → Depth) (j : ℕ) (a : Alone) → Image (sent out) (codes_of (convert out j (alone a))) (codes₂ (alone a))
unfolding codes_of convert codes₂
alone_codes out j nothing = image_single (sent out) 0 0 (sent_keeps_zero out)
alone_codes out j pause = image_single (sent out) 1 1 (sent_keeps_one out)
alone_codes out j halt = subst⁻¹ (λ (A : Numbers). Image (sent out) A (single 1)) one_alone (image_single (sent out) 1 1 (sent_keeps_one out))
alone_codes out j (emit s) = image_single (sent out) 0 0 (sent_keeps_zero out)
alone_codes out j (sustain s) =
    subst⁻¹ (λ (A : Numbers). Image (sent out) A (single 1)) (ap (λ (g : Given). without 0 g.codes) (after_end waits) ∙ one_alone)
    (image_single (sent out) 1 1 (sent_keeps_one out))
alone_codes out j (await s) =
    subst⁻¹ (λ (A : Numbers). Image (sent out) A (single 1)) (ap downs (watch_codes s j) ∙ caught_waits) (image_single (sent out) 1 1 (sent_keeps_one out))
alone_codes out j (exit d) = image_single (sent out) (code d) (code (out d)) (sent_exit out d)

pub made_codes : {out : Depth → Depth} → Rising out → (j : ℕ) (p : Everyday) → Image (sent out) (codes_of (convert out j p)) (codes₂ p)
unfolding codes_of convert codes₂ code
made_codes {out} r j (alone a) = alone_codes out j a
made_codes r j (around (suspend_on s) p) = made_codes r j p
made_codes {out} r j (around loop p) = image_without out (made_codes r j p)
made_codes {out} r j (around trap p) = image_downs out (made_codes (rising_past_trap r) j p)
made_codes r j (around (local s) p) = made_codes r j p
made_codes {out} r j (around (abort_when s) p) =
    let body : Sent (λ d. deeper (out d)) (record { signals = empty; codes = codes₂ p }) (record { signals = empty; codes = codes_of (convert (λ d. deeper (out d)) j p) }) =
    record { of_signals = refl; of_codes = made_codes (rising_deeper r) j p } in
    subst⁻¹ (λ (W : Numbers). Image (sent out) (downs (maxima (codes_of ((suspend (convert (λ d. deeper (out d)) j p) on s) ⨾ Stmt.exit (depth 0))) W)) (codes₂ p))
    (watch_codes s (j + pauses_made p)) (form_waits out body).of_codes
made_codes r j (between (present_then_else s) p q) = between_codes r (present_then_else s) (made_codes r j p) (made_codes r (j + pauses_made p) q)
made_codes r j (between in_sequence p q) = between_codes r in_sequence (made_codes r j p) (made_codes r (j + pauses_made p) q)
made_codes r j (between in_parallel p q) = between_codes r in_parallel (made_codes r j p) (made_codes r (j + pauses_made p) q)

-- The loops of a conversion pass exactly where those of its statement do.
pub made_loops : {out : Depth → Depth} → Rising out → (j : ℕ) (p : Everyday) → loops_pass (convert out j p) ≡ loops_pass₂ p
unfolding loops_pass convert loops_pass₂ codes_of code
made_loops r j (alone nothing) = refl
made_loops r j (alone pause) = refl
made_loops r j (alone halt) = refl
made_loops r j (alone (emit s)) = refl
made_loops r j (alone (sustain s)) = refl
made_loops r j (alone (await s)) = refl
made_loops r j (alone (exit d)) = refl
made_loops r j (around (suspend_on s) p) = made_loops r j p
made_loops {out} r j (around loop p) = ap₂ (λ (x y : Bool). not x && y) (zero_same out (made_codes r j p)) (made_loops r j p)
made_loops r j (around trap p) = made_loops (rising_past_trap r) j p
made_loops r j (around (local s) p) = made_loops r j p
made_loops {out} r j (around (abort_when s) p) =
    let e = made_loops (rising_deeper r) j p in
    and-true (loops_pass (convert (λ d. deeper (out d)) j p) && true) ∙ and-true (loops_pass (convert (λ d. deeper (out d)) j p)) ∙ e
made_loops r j (between (present_then_else s) p q) = ap₂ ◌&&◌ (made_loops r j p) (made_loops r (j + pauses_made p) q)
made_loops r j (between in_sequence p q) = ap₂ ◌&&◌ (made_loops r j p) (made_loops r (j + pauses_made p) q)
made_loops r j (between in_parallel p q) = ap₂ ◌&&◌ (made_loops r j p) (made_loops r (j + pauses_made p) q)

-- Exits: those below k traps are sent below k'.
pub level : Depth → ℕ
level (depth d) = d

pub record Sends (k k' : ℕ) (out : Depth → Depth) : Type 0 where
  pub below : (d : ℕ) → d < k → level (out (depth d)) < k'

level_deeper : (d : Depth) → level (deeper d) ≡ suc (level d)
unfolding level
level_deeper (depth d) = refl

sends_deeper : {k k' : ℕ} {out : Depth → Depth} → Sends k k' out → Sends k (suc k') (λ d. deeper (out d))
sends_deeper {out = out} s = record { below = λ d l. let h = s.below d l in let e = level_deeper (out (depth d)) in omega arith }

sends_past_trap : {k k' : ℕ} {out : Depth → Depth} → Sends k k' out → Sends (suc k) (suc k') (past_trap out)
unfolding level
sends_past_trap {k} {k'} {out} s = record { below = go }
  where
    go : (d : ℕ) → d < suc k → level (past_trap out (depth d)) < suc k'
    go zero l = omega arith
    go (suc d) l = (sends_deeper s).below d (omega arith)

exit_trapped : (k : ℕ) (d : Depth) → level d < k → Trapped k (Stmt.exit d)
unfolding Trapped level
exit_trapped k (depth d) l = l

pub made_trapped : {k k' : ℕ} {out : Depth → Depth} → Sends k k' out → (j : ℕ) (p : Everyday) → Trapped₂ k p → Trapped k' (convert out j p)
unfolding Trapped convert Trapped₂
made_trapped s j (alone nothing) t = tt
made_trapped s j (alone pause) t = tt
made_trapped s j (alone halt) t = tt
made_trapped s j (alone (emit n)) t = tt
made_trapped s j (alone (sustain n)) t = (tt, tt)
made_trapped s j (alone (await n)) t = (tt, (omega arith, tt))
made_trapped {k' = k'} {out = out} s j (alone (exit (depth d))) t = exit_trapped k' (out (depth d)) (s.below d t)
made_trapped s j (around (suspend_on n) p) t = made_trapped s j p t
made_trapped s j (around loop p) t = made_trapped s j p t
made_trapped s j (around trap p) t = made_trapped (sends_past_trap s) j p t
made_trapped s j (around (local n) p) t = made_trapped s j p t
made_trapped s j (around (abort_when n) p) t = ((made_trapped (sends_deeper s) j p t, omega arith), (tt, (omega arith, tt)))
made_trapped s j (between (present_then_else n) p q) t = (made_trapped s j p t.0, made_trapped s (j + pauses_made p) q t.1)
made_trapped s j (between in_sequence p q) t = (made_trapped s j p t.0, made_trapped s (j + pauses_made p) q t.1)
made_trapped s j (between in_parallel p q) t = (made_trapped s j p t.0, made_trapped s (j + pauses_made p) q t.1)

-- Pauses are numbered from 0 in preorder.
pub length_from : (i n : ℕ) → length (from i n) ≡ n
unfolding from
length_from i zero = refl
length_from i (suc n) = ap suc (length_from (suc i) n)

pub made_numbered : (out : Depth → Depth) (j : ℕ) (p : Everyday) → Numbered j (convert out j p)
unfolding Numbered
made_numbered out j p =
    let e = pauses_are out j p in
    e ∙ ap (from j) (sym (ap (λ (xs : List ℕ). length xs) e ∙ length_from j (pauses_made p)))

-- The conversion of a block that passes the check passes the check, and so never gets stuck.
module _ (b : Block₂) (loops : T (loops_pass₂ b.body)) (exits : Trapped₂ 0 b.body) where
  pub conversion_checked : Checked (conversion b)
  unfolding converted
  conversion_checked = record {
    loops_are_good = subst⁻¹ T (made_loops stays_rising 0 b.body) loops;
    exits_are_trapped = made_trapped (record { below = λ d l. absurd (omega arith) }) 0 b.body exits;
    pauses_are_numbered = made_numbered as_it_is 0 b.body;
  }

  pub conversion_never_stuck : (givens : List (InputSet (conversion b))) → NeverStuck (conversion b) fresh givens
  unfolding Legal
  conversion_never_stuck givens = a_block_that_passes_the_check_never_gets_stuck (conversion b) conversion_checked fresh tt givens
