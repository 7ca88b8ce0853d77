-- A statement's codes, endless loops and sizes from those of the statements below it: at each of the fifteen kinds by computation. Assumes nothing.
use mathlib.Core.Path.{◌≡◌, refl, sym, ◌∙◌, ap, subst}
use mathlib.Core.Bool.{Bool, true, false, not, cond, ◌&&◌}
use mathlib.Core.Option.{Option, none, some}
use Prim.Native.Nat.{ℕ, ◌+◌, ◌*◌, ◌≤◌, ◌<◌, max}
use native.Mathlib.Omega.{arith}
use lib.Dec.{eqb, ltb}
use borrow.Author.Tests.{ne_eqb, le-ltb, lt-ltb}
use mathlib.Core.Logic.{⊎_elim}
use Rattle.std.specs.Prelude.{Option as Answer, Some, None}
use Rattle.std.specs.Option.{option_or}
use Rattle.sets.specs.Numbers.{Numbers}
use Rattle.sets.specs.Words.{bits}
use Rattle.block.specs.declared.Cursor.{Cursor}
use Rattle.block.proofs.Views.{is?}
use Rattle.tables.specs.Codes.{codes_for}
use Rattle.everyday.specs.Statements.{Alone, nothing, pause, halt, emit, sustain, await, exit, Around, suspend_on, loop, trap, local, abort_when}
use Rattle.everyday.specs.Statements.{Between, present_then_else, in_sequence, in_parallel, Everyday, alone, around, between, is_stop}
use Rattle.everyday.specs.Check.{codes_alone, codes_around, codes_between, may_stand, codes₂}
use Rattle.everyday.specs.Conversion.{watches, pauses_made}
use Rattle.converting.specs.Format.{Sort, of_none, of_one, of_two, record_length, or_else, bytes₂, lowest_endless₂}
use Rattle.converting.specs.Sizes.{size₂}
use Rattle.converting.proofs.Sorts.{IsSort, is_nothing, is_pause, is_emit, is_present, is_suspend, is_sequence, is_loop, is_parallel, is_trap, is_exit}
use Rattle.converting.proofs.Sorts.{is_local, is_halt, is_sustain, is_await, is_abort}
use Rattle.convert.specs.Scans.{tested_as, coded_as, sized_as, alone_sizes, onto_sizes, abort_sizes, around_sizes, both_sizes, between_sizes}
use Rattle.convert.specs.Scans.{SmallSizes, OfNone, OfOne, OfTwo, Takes, records_in, answer_of, over_limits}
use Rattle.convert.specs.declared.scan.Sizes.{Sizes}
use Rattle.convert.specs.declared.scan.Measured.{Measured}

-- What the code has by the kind alone.
pub coded_stop : (k : ℕ) → 32 ≤ k → k ≤ 34 → coded_as k ≡ 17
unfolding coded_as
coded_stop k lo hi = ⊎_elim (λ e. ap coded_as e) (λ a. ⊎_elim (λ e. ap coded_as e) (λ b. ap coded_as (last a b)) (is? k 33)) (is? k 32)
  where
    last : (k ≡ 32 → ⊥) → (k ≡ 33 → ⊥) → k ≡ 34
    last a b = omega arith

pub coded_plain : (k : ℕ) → (k ≡ 32 → ⊥) → (k ≡ 33 → ⊥) → (k ≡ 34 → ⊥) → (k ≡ 35 → ⊥) → coded_as k ≡ k
unfolding coded_as
coded_plain k a b c d = simp (ne_eqb k 32 a, ne_eqb k 33 b, ne_eqb k 34 c, ne_eqb k 35 d)

pub alone_plain : (k : ℕ) → (k ≡ 17 → ⊥) → (k ≡ 18 → ⊥) → (k ≡ 25 → ⊥) → (k ≡ 32 → ⊥) → (k ≡ 33 → ⊥) → (k ≡ 34 → ⊥) → alone_sizes k ≡ sized_as 1 0 1 0 4
unfolding alone_sizes
alone_plain k a b c d e f = simp (ne_eqb k 17 a, ne_eqb k 18 b, ne_eqb k 25 c, ne_eqb k 32 d, ne_eqb k 33 e, ne_eqb k 34 f)

pub suspend_sizes : (k : ℕ) (p : Sizes) → k ≡ 20 → onto_sizes p 0 0 6 ≡ around_sizes k p
unfolding around_sizes
suspend_sizes k p e = ap (λ (k : ℕ). around_sizes k p) (sym e)

pub trap_sizes : (k : ℕ) (p : Sizes) → k ≡ 24 → onto_sizes p 1 0 4 ≡ around_sizes k p
unfolding around_sizes
trap_sizes k p e = ap (λ (k : ℕ). around_sizes k p) (sym e)

pub local_sizes : (k : ℕ) (p : Sizes) → k ≡ 26 → onto_sizes p 0 1 6 ≡ around_sizes k p
unfolding around_sizes
local_sizes k p e = ap (λ (k : ℕ). around_sizes k p) (sym e)

pub form_sizes : (k : ℕ) (p : Sizes) → k ≡ 35 → abort_sizes p ≡ around_sizes k p
unfolding around_sizes
form_sizes k p e = ap (λ (k : ℕ). around_sizes k p) (sym e)

pub around_plain : (k : ℕ) (p : Sizes) → (k ≡ 20 → ⊥) → (k ≡ 24 → ⊥) → (k ≡ 26 → ⊥) → (k ≡ 35 → ⊥) → around_sizes k p ≡ onto_sizes p 0 0 4
unfolding around_sizes
around_plain k p a b c d = simp (ne_eqb k 20 a, ne_eqb k 24 b, ne_eqb k 26 c, ne_eqb k 35 d)

pub present_sizes : (k : ℕ) (p q : Sizes) → k ≡ 19 → both_sizes 6 p q ≡ between_sizes k p q
unfolding between_sizes
present_sizes k p q e = ap (λ (k : ℕ). between_sizes k p q) (sym e)

pub between_plain : (k : ℕ) (p q : Sizes) → (k ≡ 19 → ⊥) → between_sizes k p q ≡ both_sizes 4 p q
unfolding between_sizes
between_plain k p q a = simp (ne_eqb k 19 a)

pub abort_is : (p : Sizes) (n : ℕ) → n ≡ max (4 + p.path) 6
    → record { statements = 11 + p.statements; pauses = 1 + p.pauses; path = n; traps = 1 + p.traps; nested = p.nested; bytes = 52 + p.bytes } ≡ abort_sizes p
abort_is p n e = λ i. record { statements = 11 + p.statements; pauses = 1 + p.pauses; path = e i; traps = 1 + p.traps; nested = p.nested; bytes = 52 + p.bytes }

pub both_is : (own : ℕ) (p q : Sizes) (l t n : ℕ) → l ≡ max p.path q.path → t ≡ max p.traps q.traps → n ≡ max p.nested q.nested
    → record { statements = 1 + p.statements + q.statements; pauses = p.pauses + q.pauses; path = 1 + l; traps = t; nested = n; bytes = own + p.bytes + q.bytes } ≡ both_sizes own p q
both_is own p q l t n d e f =
    λ i. record { statements = 1 + p.statements + q.statements; pauses = p.pauses + q.pauses; path = 1 + d i; traps = e i; nested = f i; bytes = own + p.bytes + q.bytes }

-- A statement's measures: j is the kind whose codes it has, and w, l and s are its codes, its lowest endless loop and its sizes.
module _ (k x j w : ℕ) (s : Sizes) (coded : j ≡ coded_as k) where
  abbrev codes_known : ℕ → Numbers → Numbers → Type 0
  codes_known j P Q = (j ≡ 25 → x < 16) → bits w ≡ codes_for j x P Q

  pub of_none_is : (after : Cursor) → codes_known j (bits 0) (bits 0) → s ≡ alone_sizes k → OfNone k x after (record { after = after; codes = w; endless = None; sizes = s })
  of_none_is after f e = record { its_end = refl; its_codes = subst (λ (j : ℕ). codes_known j (bits 0) (bits 0)) coded f; its_loops = refl; its_sizes = e }

  pub of_one_is : (at : ℕ) (l : Answer ℕ) (p : Measured) → codes_known j (bits p.codes) (bits 0) → l ≡ cond (eqb k 22 && bits p.codes 0) (Some at) p.endless → s ≡ around_sizes k p.sizes
      → OfOne k x at p (record { after = p.after; codes = w; endless = l; sizes = s })
  of_one_is at l p f o e = record { its_end = refl; its_codes = subst (λ (j : ℕ). codes_known j (bits p.codes) (bits 0)) coded f; its_loops = o; its_sizes = e }

  pub of_two_is : (l : Answer ℕ) (p q : Measured) → codes_known j (bits p.codes) (bits q.codes) → l ≡ option_or p.endless q.endless
      → s ≡ between_sizes k p.sizes q.sizes → OfTwo k x p q (record { after = q.after; codes = w; endless = l; sizes = s })
  of_two_is l p q f o e = record { its_end = refl; its_codes = subst (λ (j : ℕ). codes_known j (bits p.codes) (bits q.codes)) coded f; its_loops = o; its_sizes = e }

-- The limits, by the first that is passed.
module _ (s : Sizes) where
  pub over_statements : 512 < s.statements → over_limits s ≡ true
  unfolding over_limits
  over_statements l = simp (lt-ltb 512 s.statements l)

  module _ (a : s.statements ≤ 512) where
    pub over_pauses : 128 < s.pauses → over_limits s ≡ true
    unfolding over_limits
    over_pauses l = simp (le-ltb 512 s.statements a, lt-ltb 128 s.pauses l)

    module _ (b : s.pauses ≤ 128) where
      pub over_traps : 16 < s.traps → over_limits s ≡ true
      unfolding over_limits
      over_traps l = simp (le-ltb 512 s.statements a, le-ltb 128 s.pauses b, lt-ltb 16 s.traps l)

      module _ (c : s.traps ≤ 16) where
        pub over_nested : 6 < s.nested → over_limits s ≡ true
        unfolding over_limits
        over_nested l = simp (le-ltb 512 s.statements a, le-ltb 128 s.pauses b, le-ltb 16 s.traps c, lt-ltb 6 s.nested l)

        pub over_path : s.nested ≤ 6 → over_limits s ≡ ltb 64 s.path
        unfolding over_limits
        over_path l = simp (le-ltb 512 s.statements a, le-ltb 128 s.pauses b, le-ltb 16 s.traps c, le-ltb 6 s.nested l)

-- The codes.
pub exit_coded : {k x : ℕ} {s : Sort} → IsSort k x s → coded_as k ≡ 25 → tested_as k ≡ 25
unfolding coded_as tested_as
exit_coded is_nothing e = e
exit_coded is_pause e = e
exit_coded is_emit e = e
exit_coded is_present e = e
exit_coded is_suspend e = e
exit_coded is_sequence e = e
exit_coded is_loop e = e
exit_coded is_parallel e = e
exit_coded is_trap e = e
exit_coded is_exit e = e
exit_coded is_local e = e
exit_coded is_halt e = absurd (omega arith)
exit_coded is_sustain e = absurd (omega arith)
exit_coded is_await e = absurd (omega arith)
exit_coded is_abort e = e

pub alone_coded : {k x : ℕ} {l : Alone} (P Q : Numbers) → IsSort k x (of_none l) → codes_for (coded_as k) x P Q ≡ codes_alone l
unfolding codes_for coded_as
alone_coded P Q is_nothing = refl
alone_coded P Q is_pause = refl
alone_coded P Q is_emit = refl
alone_coded P Q is_exit = refl
alone_coded P Q is_halt = refl
alone_coded P Q is_sustain = refl
alone_coded P Q is_await = refl

pub around_coded : {k x : ℕ} {f : Around} (P Q : Numbers) → IsSort k x (of_one f) → codes_for (coded_as k) x P Q ≡ codes_around f P
unfolding codes_for coded_as
around_coded P Q is_suspend = refl
around_coded P Q is_loop = refl
around_coded P Q is_trap = refl
around_coded P Q is_local = refl
around_coded P Q is_abort = refl

pub between_coded : {k x : ℕ} {o : Between} (P Q : Numbers) → IsSort k x (of_two o) → codes_for (coded_as k) x P Q ≡ codes_between o P Q
unfolding codes_for coded_as
between_coded P Q is_present = refl
between_coded P Q is_sequence = refl
between_coded P Q is_parallel = refl

-- The lowest endless loop. Where the statement's record is not at 0, neither is it.
pub endless_later : (at : ℕ) (p : Everyday) (n : ℕ) → lowest_endless₂ at p ≡ some n → at ≤ n
unfolding lowest_endless₂
endless_later at (alone a) n e = let z : ◌≡◌ {A = ℕ} 0 1 = cc in absurd (omega arith)
endless_later at (around f p) n e = go (may_stand f (codes₂ p)) e (endless_later (at + record_length (of_one f)) p n)
  where
    go : (z : Bool) → cond z (lowest_endless₂ (at + record_length (of_one f)) p) (some at) ≡ some n
        → (lowest_endless₂ (at + record_length (of_one f)) p ≡ some n → at + record_length (of_one f) ≤ n) → at ≤ n
    go true e k = let l = k e in omega arith
    go false e k = let q : at ≡ n = cc in omega arith
endless_later at (between o p q) n e =
    go (lowest_endless₂ (at + record_length (of_two o)) p) refl e (endless_later (at + record_length (of_two o)) p n) (endless_later (at + record_length (of_two o) + bytes₂ p) q n)
  where
    go : (y : Option ℕ) → lowest_endless₂ (at + record_length (of_two o)) p ≡ y → or_else y (lowest_endless₂ (at + record_length (of_two o) + bytes₂ p) q) ≡ some n
        → (lowest_endless₂ (at + record_length (of_two o)) p ≡ some n → at + record_length (of_two o) ≤ n)
        → (lowest_endless₂ (at + record_length (of_two o) + bytes₂ p) q ≡ some n → at + record_length (of_two o) + bytes₂ p ≤ n) → at ≤ n
    go none d e f g = let l = g e in omega arith
    go (some m) d e f g = let l = f (d ∙ e) in omega arith

chosen : (z : Bool) (at : ℕ) (o : Option ℕ) → cond z (Some at) (answer_of o) ≡ answer_of (cond (not z) o (some at))
chosen true at o = refl
chosen false at o = refl

pub around_endless : {k x : ℕ} {f : Around} (at : ℕ) (p : Everyday) → IsSort k x (of_one f)
    → cond (eqb k 22 && codes₂ p 0) (Some at) (answer_of (lowest_endless₂ (at + record_length (of_one f)) p)) ≡ answer_of (lowest_endless₂ at (around f p))
unfolding lowest_endless₂
around_endless at p is_suspend = refl
around_endless at p is_loop = chosen (codes₂ p 0) at (lowest_endless₂ (at + 4) p)
around_endless at p is_trap = refl
around_endless at p is_local = refl
around_endless at p is_abort = refl

either_one : (y z : Option ℕ) → option_or (answer_of y) (answer_of z) ≡ answer_of (or_else y z)
either_one none z = refl
either_one (some i) z = refl

pub between_endless : (at at₂ : ℕ) (o : Between) (p q : Everyday) → at₂ ≡ at + record_length (of_two o) + bytes₂ p
    → option_or (answer_of (lowest_endless₂ (at + record_length (of_two o)) p)) (answer_of (lowest_endless₂ at₂ q)) ≡ answer_of (lowest_endless₂ at (between o p q))
unfolding lowest_endless₂
between_endless at at₂ o p q s =
    ap (λ (j : ℕ). option_or (answer_of (lowest_endless₂ (at + record_length (of_two o)) p)) (answer_of (lowest_endless₂ j q))) s
    ∙ either_one (lowest_endless₂ (at + record_length (of_two o)) p) (lowest_endless₂ (at + record_length (of_two o) + bytes₂ p) q)

-- The sizes.
takes : {s : Sizes} {p : Everyday} → s.statements ≡ (size₂ p).statements → s.pauses ≡ pauses_made p → s.path ≡ (size₂ p).path → s.traps ≡ (size₂ p).traps
    → s.nested ≡ (size₂ p).nested → s.bytes ≡ (size₂ p).bytes → Takes s p
takes a b c d e f = record { its_statements = a; its_pauses = b; its_path = c; its_traps = d; its_nested = e; its_bytes = f }

pub alone_takes : {k x : ℕ} {l : Alone} → IsSort k x (of_none l) → Takes (alone_sizes k) (alone l)
unfolding alone_sizes size₂ pauses_made is_stop
alone_takes is_nothing = takes refl refl refl refl refl refl
alone_takes is_pause = takes refl refl refl refl refl refl
alone_takes is_emit = takes refl refl refl refl refl refl
alone_takes is_exit = takes refl refl refl refl refl refl
alone_takes is_halt = takes refl refl refl refl refl refl
alone_takes is_sustain = takes refl refl refl refl refl refl
alone_takes is_await = takes refl refl refl refl refl refl

pub around_takes : {k x : ℕ} {s : Sizes} {p : Everyday} {f : Around} → Takes s p → IsSort k x (of_one f) → Takes (around_sizes k s) (around f p)
unfolding around_sizes size₂ pauses_made watches
around_takes t is_suspend = takes (omega arith) (omega arith) (omega arith) (omega arith) (omega arith) (omega arith)
around_takes t is_loop = takes (omega arith) (omega arith) (omega arith) (omega arith) (omega arith) (omega arith)
around_takes t is_trap = takes (omega arith) (omega arith) (omega arith) (omega arith) (omega arith) (omega arith)
around_takes t is_local = takes (omega arith) (omega arith) (omega arith) (omega arith) (omega arith) (omega arith)
around_takes t is_abort = takes (omega arith) (omega arith) (omega arith) (omega arith) (omega arith) (omega arith)

pub between_takes : {k x : ℕ} {s u : Sizes} {p q : Everyday} {o : Between} → Takes s p → Takes u q → IsSort k x (of_two o) → Takes (between_sizes k s u) (between o p q)
unfolding between_sizes size₂ pauses_made
between_takes t w is_present = takes (omega arith) (omega arith) (omega arith) (omega arith) (omega arith) (omega arith)
between_takes t w is_sequence = takes (omega arith) (omega arith) (omega arith) (omega arith) (omega arith) (omega arith)
between_takes t w is_parallel = takes (omega arith) (omega arith) (omega arith) (omega arith) (omega arith) (omega arith)

-- At most 52 for each record.
record Few (n : ℕ) (p : Everyday) : Type 0 where
  statements_few : (size₂ p).statements ≤ 52 * n
  pauses_few : pauses_made p ≤ 52 * n
  path_short : (size₂ p).path ≤ 52 * n
  traps_few : (size₂ p).traps ≤ 52 * n
  nested_few : (size₂ p).nested ≤ 52 * n
  bytes_few : (size₂ p).bytes ≤ 52 * n

few : {n : ℕ} {p : Everyday} → (size₂ p).statements ≤ 52 * n → pauses_made p ≤ 52 * n → (size₂ p).path ≤ 52 * n → (size₂ p).traps ≤ 52 * n → (size₂ p).nested ≤ 52 * n
    → (size₂ p).bytes ≤ 52 * n → Few n p
few a b c d e f = record { statements_few = a; pauses_few = b; path_short = c; traps_few = d; nested_few = e; bytes_few = f }

few_alone : (l : Alone) → Few 1 (alone l)
unfolding size₂ pauses_made is_stop
few_alone nothing = few (omega arith) (omega arith) (omega arith) (omega arith) (omega arith) (omega arith)
few_alone pause = few (omega arith) (omega arith) (omega arith) (omega arith) (omega arith) (omega arith)
few_alone halt = few (omega arith) (omega arith) (omega arith) (omega arith) (omega arith) (omega arith)
few_alone (emit s) = few (omega arith) (omega arith) (omega arith) (omega arith) (omega arith) (omega arith)
few_alone (sustain s) = few (omega arith) (omega arith) (omega arith) (omega arith) (omega arith) (omega arith)
few_alone (await s) = few (omega arith) (omega arith) (omega arith) (omega arith) (omega arith) (omega arith)
few_alone (exit d) = few (omega arith) (omega arith) (omega arith) (omega arith) (omega arith) (omega arith)

few_around : (n : ℕ) (f : Around) (p : Everyday) → Few n p → Few (1 + n) (around f p)
unfolding size₂ pauses_made watches
few_around n (suspend_on s) p t = few (omega arith) (omega arith) (omega arith) (omega arith) (omega arith) (omega arith)
few_around n loop p t = few (omega arith) (omega arith) (omega arith) (omega arith) (omega arith) (omega arith)
few_around n trap p t = few (omega arith) (omega arith) (omega arith) (omega arith) (omega arith) (omega arith)
few_around n (local s) p t = few (omega arith) (omega arith) (omega arith) (omega arith) (omega arith) (omega arith)
few_around n (abort_when s) p t = few (omega arith) (omega arith) (omega arith) (omega arith) (omega arith) (omega arith)

few_between : (n m : ℕ) (o : Between) (p q : Everyday) → Few n p → Few m q → Few (1 + (n + m)) (between o p q)
unfolding size₂ pauses_made
few_between n m (present_then_else s) p q t u = few (omega arith) (omega arith) (omega arith) (omega arith) (omega arith) (omega arith)
few_between n m in_sequence p q t u = few (omega arith) (omega arith) (omega arith) (omega arith) (omega arith) (omega arith)
few_between n m in_parallel p q t u = few (omega arith) (omega arith) (omega arith) (omega arith) (omega arith) (omega arith)

few_in : (p : Everyday) → Few (records_in p) p
unfolding records_in
few_in (alone l) = few_alone l
few_in (around f p) = few_around (records_in p) f p (few_in p)
few_in (between o p q) = few_between (records_in p) (records_in q) o p q (few_in p) (few_in q)

pub small_sizes : {s : Sizes} (p : Everyday) → records_in p ≤ 512 → Takes s p → SmallSizes s
small_sizes p l t =
    let f = few_in p in
    record {
      few_statements = omega (arith, l, f.statements_few, t.its_statements);
      few_pauses = omega (arith, l, f.pauses_few, t.its_pauses);
      short_path = omega (arith, l, f.path_short, t.its_path);
      few_traps = omega (arith, l, f.traps_few, t.its_traps);
      few_nested = omega (arith, l, f.nested_few, t.its_nested);
      few_bytes = omega (arith, l, f.bytes_few, t.its_bytes);
    }
