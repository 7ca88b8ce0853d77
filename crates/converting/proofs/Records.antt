-- The records of a conversion are those that are written for its statement, by induction over it; and where its exits go is known by the traps and aborts around it.
-- Assumes nothing.
use mathlib.Core.Path.{◌≡◌, refl, sym, ◌∙◌, ap, ap₂, fun_ext}
use mathlib.Core.Bool.{Bool, true, false}
use mathlib.Core.List.{List, [], ◌∷◌, ◌++◌, append-nil, append_assoc}
use Prim.Native.Nat.{ℕ, zero, suc, ◌+◌}
use Rattle.sets.specs.Numbers.{listed}
use Rattle.rules.specs.Statements.{Depth, depth, Stmt, preorder}
use Rattle.tables.specs.Table.{kind_of, operand_of}
use Rattle.tables.specs.Kinds.{shape}
use Rattle.records.specs.Numerals.{in_bytes}
use Rattle.writing.specs.Written.{shaped_bytes, record_bytes, records}
use Rattle.writing.proofs.Records.{records_append}
use Rattle.everyday.specs.Statements.{nothing, pause, halt, emit, sustain, await, exit, suspend_on, loop, trap, local, abort_when}
use Rattle.everyday.specs.Statements.{Between, present_then_else, in_sequence, in_parallel, Everyday, alone, around, between}
use Rattle.everyday.specs.Conversion.{watch, deeper, past_trap, pauses_made, around_made, between_made, convert}
use Rattle.converting.specs.Records.{bytes_before, bytes_behind, bytes_between, made_bytes, out_by}

between_records : (o : Between) (c c' : Stmt) → records (preorder (between_made o c c')) ≡ bytes_between o ++ (records (preorder c) ++ records (preorder c'))
unfolding records preorder kind_of operand_of
between_records (present_then_else s) c c' = ap (λ (l : List ℕ). record_bytes 19 s ++ l) (records_append (preorder c) (preorder c'))
between_records in_sequence c c' = ap (λ (l : List ℕ). record_bytes 21 0 ++ l) (records_append (preorder c) (preorder c'))
between_records in_parallel c c' = ap (λ (l : List ℕ). record_bytes 23 0 ++ l) (records_append (preorder c) (preorder c'))

-- A form, its records being of known bytes.
form_records : (s w : ℕ) (c : Stmt) → records (preorder (around_made (abort_when s) w c)) ≡ bytes_before (abort_when s) ++ (records (preorder c) ++ bytes_behind (abort_when s))
unfolding records preorder kind_of operand_of shaped_bytes in_bytes shape listed
form_records s w c =
    ap (λ (l : List ℕ). bytes_before (abort_when s) ++ l)
    (records_append (preorder c ++ Stmt.exit (depth 0) ∷ []) (preorder (watch s w))
    ∙ ap (λ (l : List ℕ). l ++ records (preorder (watch s w))) (records_append (preorder c) (Stmt.exit (depth 0) ∷ []))
    ∙ append_assoc (records (preorder c)) (records (Stmt.exit (depth 0) ∷ [])) (records (preorder (watch s w))))

pub records_made : (out : Depth → Depth) (j : ℕ) (p : Everyday) → records (preorder (convert out j p)) ≡ made_bytes out p
unfolding records preorder convert made_bytes kind_of operand_of shaped_bytes in_bytes shape listed
records_made out j (alone nothing) = refl
records_made out j (alone pause) = refl
records_made out j (alone halt) = refl
records_made out j (alone (emit s)) = refl
records_made out j (alone (sustain s)) = refl
records_made out j (alone (await s)) = refl
records_made out j (alone (exit d)) = append-nil (record_bytes 25 (operand_of (Stmt.exit (out d))))
records_made out j (around (suspend_on s) p) = ap (λ (l : List ℕ). record_bytes 20 s ++ l) (records_made out j p ∙ sym (append-nil (made_bytes out p)))
records_made out j (around loop p) = ap (λ (l : List ℕ). record_bytes 22 0 ++ l) (records_made out j p ∙ sym (append-nil (made_bytes out p)))
records_made out j (around trap p) = ap (λ (l : List ℕ). record_bytes 24 0 ++ l) (records_made (past_trap out) j p ∙ sym (append-nil (made_bytes (past_trap out) p)))
records_made out j (around (local s) p) = ap (λ (l : List ℕ). record_bytes 26 s ++ l) (records_made out j p ∙ sym (append-nil (made_bytes out p)))
records_made out j (around (abort_when s) p) =
    form_records s (j + pauses_made p) (convert (λ d. deeper (out d)) j p)
    ∙ ap (λ (l : List ℕ). bytes_before (abort_when s) ++ (l ++ bytes_behind (abort_when s))) (records_made (λ d. deeper (out d)) j p)
records_made out j (between o p q) =
    between_records o (convert out j p) (convert out (j + pauses_made p) q)
    ∙ ap₂ (λ (l r : List ℕ). bytes_between o ++ (l ++ r)) (records_made out j p) (records_made out (j + pauses_made p) q)

-- Under a trap and under an abort.
pub out_trap : (ms : List Bool) → past_trap (out_by ms) ≡ out_by (true ∷ ms)
unfolding out_by
out_trap ms = fun_ext go
  where
    go : (d : Depth) → past_trap (out_by ms) d ≡ out_by (true ∷ ms) d
    go (depth zero) = refl
    go (depth (suc d)) = refl

pub out_abort : (ms : List Bool) → (λ d. deeper (out_by ms d)) ≡ out_by (false ∷ ms)
unfolding out_by
out_abort ms = refl
