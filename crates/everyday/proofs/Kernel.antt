-- The eleven statements of edition 1 mean in edition 2 what they meant: a block of edition 1 is its own conversion, by induction over its tree, and so from fresh
-- every run by the direct meaning is the run that it had. Assumes nothing.
use mathlib.Core.Path.{◌≡◌, refl, sym, ◌∙◌, ap, ap₂, subst, fun_ext}
use mathlib.Core.List.{List, [], ◌∷◌, ◌++◌, map}
use Prim.Native.Nat.{ℕ, zero, suc, ◌+◌}
use native.Mathlib.Nat.{add-zero}
use lib.ListN.{length, length-append}
use Rattle.rules.specs.Statements.{Depth, depth, Block, Stmt, nothing, pause, emit, present?◌then◌else◌, suspend◌on◌, ◌⨾◌, loop, ◌parallel◌, trap, exit, local}
use Rattle.rules.specs.Statements.{pauses, from, Numbered}
use Rattle.rules.specs.States.{fresh}
use Rattle.theorems.specs.Traces.{InputSet, run}
use Rattle.theorems.proofs.Numbering.{split_from}
use Rattle.likeness.specs.Runs.{SameRun}
use Rattle.likeness.proofs.Runs.{with_body, heard_there}
use Rattle.everyday.specs.Statements.{is_stop}
use Rattle.everyday.specs.Conversion.{past_trap, watches, pauses_made, as_it_is, convert, converted}
use Rattle.everyday.specs.Instants.{interface, run₂}
use Rattle.everyday.specs.Kernel.{kernel, kernel_block}
use Rattle.everyday.proofs.Runs.{the_conversion_agrees}

-- Traps alone send no exit elsewhere.
past_traps : past_trap as_it_is ≡ as_it_is
past_traps = fun_ext go
  where
    go : (d : Depth) → past_trap as_it_is d ≡ d
    go (depth zero) = refl
    go (depth (suc d)) = refl

pauses_kept : (p : Stmt) → pauses_made (kernel p) ≡ length (pauses p)
unfolding pauses_made kernel pauses is_stop watches
pauses_kept nothing = refl
pauses_kept (pause n) = refl
pauses_kept (emit s) = refl
pauses_kept (present? s then p else q) = ap₂ ◌+◌ (pauses_kept p) (pauses_kept q) ∙ sym (length-append (pauses p) (pauses q))
pauses_kept (suspend p on s) = add-zero (pauses_made (kernel p)) ∙ pauses_kept p
pauses_kept (p ⨾ q) = ap₂ ◌+◌ (pauses_kept p) (pauses_kept q) ∙ sym (length-append (pauses p) (pauses q))
pauses_kept (loop p) = add-zero (pauses_made (kernel p)) ∙ pauses_kept p
pauses_kept (p parallel q) = ap₂ ◌+◌ (pauses_kept p) (pauses_kept q) ∙ sym (length-append (pauses p) (pauses q))
pauses_kept (trap p) = add-zero (pauses_made (kernel p)) ∙ pauses_kept p
pauses_kept (exit d) = refl
pauses_kept (local s p) = add-zero (pauses_made (kernel p)) ∙ pauses_kept p

-- Two parts, each of them its own conversion.
two_same : (make : Stmt → Stmt → Stmt) (j : ℕ) (p q : Stmt) → pauses p ++ pauses q ≡ from j (length (pauses p ++ pauses q))
    → (Numbered j p → convert as_it_is j (kernel p) ≡ p) → ((k : ℕ) → Numbered k q → convert as_it_is k (kernel q) ≡ q)
    → make (convert as_it_is j (kernel p)) (convert as_it_is (j + pauses_made (kernel p)) (kernel q)) ≡ make p q
unfolding Numbered
two_same make j p q n f g =
    let h = split_from (pauses p) (pauses q) j n in
    ap₂ make (f h.0) (ap (λ (k : ℕ). convert as_it_is (j + k) (kernel q)) (pauses_kept p) ∙ g (j + length (pauses p)) h.1)

pub kernel_same : (j : ℕ) (p : Stmt) → Numbered j p → convert as_it_is j (kernel p) ≡ p
unfolding convert kernel Numbered pauses from
kernel_same j nothing n = refl
kernel_same j (pause k) n = ap pause (sym (first n))
  where
    first : (k ∷ []) ≡ (j ∷ []) → k ≡ j
    first e = cc
kernel_same j (emit s) n = refl
kernel_same j (present? s then p else q) n = two_same (λ x y. present? s then x else y) j p q n (kernel_same j p) (λ k. kernel_same k q)
kernel_same j (suspend p on s) n = ap (λ (x : Stmt). suspend x on s) (kernel_same j p n)
kernel_same j (p ⨾ q) n = two_same (λ x y. x ⨾ y) j p q n (kernel_same j p) (λ k. kernel_same k q)
kernel_same j (loop p) n = ap loop (kernel_same j p n)
kernel_same j (p parallel q) n = two_same (λ x y. x parallel y) j p q n (kernel_same j p) (λ k. kernel_same k q)
kernel_same j (trap p) n = ap (λ (out : Depth → Depth). trap (convert out j (kernel p))) past_traps ∙ ap trap (kernel_same j p n)
kernel_same j (exit d) n = refl
kernel_same j (local s p) n = ap (local s) (kernel_same j p n)

-- From fresh, a block of edition 1 runs in edition 2 as it did.
pub as_in_edition_1 : (b : Block) → Numbered 0 b.body → (givens : List (InputSet (interface (kernel_block b))))
    → SameRun (run₂ (kernel_block b) fresh givens) (run b fresh (map (heard_there (interface (kernel_block b)) b.body) givens))
unfolding converted
as_in_edition_1 b n givens =
    subst (λ (t : Stmt). SameRun (run₂ (kernel_block b) fresh givens) (run (with_body b t) fresh (map (heard_there (interface (kernel_block b)) t) givens)))
    (kernel_same 0 b.body n) (the_conversion_agrees (kernel_block b) givens)
