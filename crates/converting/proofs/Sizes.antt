-- The size of a conversion is the one computed from the statement: by one induction over it, whatever its pauses and exits are. Assumes nothing.
use mathlib.Core.Path.{◌≡◌, refl, ◌∙◌, ap, ap₂}
use mathlib.Core.Bool.{◌&&◌}
use mathlib.Core.List.{List, [], ◌∷◌}
use Prim.Native.Nat.{ℕ, ◌+◌}
use native.Mathlib.Omega.{arith}
use lib.Dec.{leb}
use lib.ListN.{length, length-append}
use Rattle.sets.specs.Numbers.{listed}
use Rattle.rules.specs.Statements.{Depth, depth, Stmt, suspend◌on◌, ◌⨾◌, pauses, statements, from}
use Rattle.tables.specs.Table.{kind_of}
use Rattle.block.specs.Format.{Header, preorder, bytes}
use Rattle.tables.specs.Kinds.{shape, length_of}
use Rattle.block.specs.Good.{path, nested_traps, nested_locals}
use Rattle.block.proofs.Built.{bytes_append}
use Rattle.writing.proofs.Back.{length_records}
use Rattle.records.specs.Numerals.{in_bytes}
use Rattle.writing.specs.Written.{records, header_bytes, block_bytes}
use Rattle.doubled.specs.Copies.{within_limits}
use Rattle.everyday.specs.Statements.{nothing, pause, halt, emit, sustain, await, exit, suspend_on, loop, trap, local, abort_when}
use Rattle.everyday.specs.Statements.{Between, present_then_else, in_sequence, in_parallel, Everyday, alone, around, between}
use Rattle.everyday.specs.Conversion.{watch, deeper, past_trap, pauses_made, around_made, between_made, as_it_is, convert, converted}
use Rattle.everyday.proofs.Agree.{pauses_are}
use Rattle.everyday.proofs.Check.{length_from}
use Rattle.converting.specs.Sizes.{Size, size, around_size, between_size, size₂, fits}

-- Equal in each number.
same_size : {a b : Size} → a.statements ≡ b.statements → a.path ≡ b.path → a.traps ≡ b.traps → a.nested ≡ b.nested → a.bytes ≡ b.bytes → a ≡ b
same_size s p t n y = λ i. record { statements = s i; path = p i; traps = t i; nested = n i; bytes = y i }

form_size : (s w : ℕ) (c : Stmt) → size (around_made (abort_when s) w c) ≡ around_size (abort_when s) (size c)
unfolding size statements path nested_traps nested_locals preorder bytes length_of shape listed kind_of
form_size s w c =
    let one = bytes_append (preorder c) (Stmt.exit (depth 0) ∷ []) in
    let both = bytes_append (preorder ((suspend c on s) ⨾ Stmt.exit (depth 0))) (preorder (watch s w)) in
    same_size (omega arith) (omega arith) (omega arith) (omega arith) (omega (arith, one, both))

between_sized : (o : Between) (c c' : Stmt) → size (between_made o c c') ≡ between_size o (size c) (size c')
unfolding size statements path nested_traps nested_locals preorder bytes length_of shape listed kind_of
between_sized (present_then_else s) c c' = same_size refl refl refl refl (ap (λ (n : ℕ). 6 + n) (bytes_append (preorder c) (preorder c')))
between_sized in_sequence c c' = same_size refl refl refl refl (ap (λ (n : ℕ). 4 + n) (bytes_append (preorder c) (preorder c')))
between_sized in_parallel c c' = same_size refl refl refl refl (ap (λ (n : ℕ). 4 + n) (bytes_append (preorder c) (preorder c')))

pub size_made : (out : Depth → Depth) (j : ℕ) (p : Everyday) → size (convert out j p) ≡ size₂ p
unfolding size size₂ convert statements path nested_traps nested_locals preorder bytes length_of shape listed kind_of
size_made out j (alone nothing) = refl
size_made out j (alone pause) = refl
size_made out j (alone halt) = refl
size_made out j (alone (emit n)) = refl
size_made out j (alone (sustain n)) = refl
size_made out j (alone (await n)) = refl
size_made out j (alone (exit d)) = refl
size_made out j (around (suspend_on n) p) = ap (around_size (suspend_on n)) (size_made out j p)
size_made out j (around loop p) = ap (around_size loop) (size_made out j p)
size_made out j (around trap p) = ap (around_size trap) (size_made (past_trap out) j p)
size_made out j (around (local n) p) = ap (around_size (local n)) (size_made out j p)
size_made out j (around (abort_when n) p) =
    form_size n (j + pauses_made p) (convert (λ d. deeper (out d)) j p) ∙ ap (around_size (abort_when n)) (size_made (λ d. deeper (out d)) j p)
size_made out j (between o p q) =
    between_sized o (convert out j p) (convert out (j + pauses_made p) q) ∙ ap₂ (between_size o) (size_made out j p) (size_made out (j + pauses_made p) q)

-- So the limits of the result are those of the size,
pub limits_by_size : (h : Header) (p : Everyday) → within_limits h (converted p) ≡ fits h (size₂ p) (pauses_made p)
unfolding within_limits converted fits size
limits_by_size h p =
    let e = size_made as_it_is 0 p in
    let n = ap (λ (xs : List ℕ). length xs) (pauses_are as_it_is 0 p) ∙ length_from 0 (pauses_made p) in
    λ i. leb (h.inputs + h.outputs + h.locals) 64
    && (leb (e i).statements 512 && (leb (n i) 128 && (leb (e i).traps 16 && (leb (e i).nested 6 && leb (e i).path 64))))

-- and so is the number of bytes that are written.
pub bytes_by_size : (h : Header) (p : Everyday) → length (block_bytes h (converted p)) ≡ 14 + (size₂ p).bytes
unfolding block_bytes header_bytes in_bytes size converted
bytes_by_size h p =
    length-append (header_bytes h) (records (preorder (converted p)))
    ∙ ap (λ (n : ℕ). 14 + n) (length_records (preorder (converted p)) ∙ ap (λ (s : Size). s.bytes) (size_made as_it_is 0 p))
