-- What a text stands for: its names and the records of its block. Assumes nothing.
use Rattle.std.specs.Prelude.{Bool, true, false, cond, ◌||◌, List, [], ◌∷◌, ◌++◌, ℕ, suc, ◌+◌, ◌-◌, length}
use Rattle.std.proofs.Math.Option.{Option, none, some}
use Rattle.block.specs.Format.{Header}
use Rattle.writing.specs.Written.{record_bytes}
use Rattle.text.specs.Tokens.{same}
use Rattle.text.specs.Grammar.{Arms, only, ◌beside◌, Chain, alone, ◌before◌, Basic, Nothing, Pause, Emit, Exit, Present, Suspend, Loop, Trap, Signal, Bracket, Text}

-- What is declared around a statement, the innermost first: signals with their numbers, and traps. They share the names.
pub data Declaration : Type 0 where
  signal_named : List ℕ → ℕ → Declaration
  trap_named : List ℕ → Declaration

abbrev pub its_name : Declaration → List ℕ
its_name (signal_named x s) = x
its_name (trap_named x) = x

abbrev pub its_signal : Declaration → Option ℕ
its_signal (signal_named x s) = some s
its_signal (trap_named x) = none

abbrev pub its_depth : Declaration → Option ℕ
its_depth (signal_named x s) = none
its_depth (trap_named x) = some 0

-- To go on with what there is; none gives none.
abbrev pub go_on : {A B : Type 0} → Option A → (A → Option B) → Option B
go_on none f = none
go_on (some a) f = f a

-- An exit passes over each trap that stands between it and its own.
abbrev pub passed_over : Declaration → Option ℕ → Option ℕ
passed_over (signal_named x s) o = o
passed_over (trap_named x) o = go_on o λ d. some (suc d)

-- The number of the signal that a name is of, or the depth of an exit of the trap that it is of; none where it is of no such thing.
unfoldable pub signal_in : List Declaration → List ℕ → Option ℕ
signal_in [] x = none
signal_in (d ∷ ds) x = cond (same (its_name d) x) (its_signal d) (signal_in ds x)

unfoldable pub depth_in : List Declaration → List ℕ → Option ℕ
depth_in [] x = none
depth_in (d ∷ ds) x = cond (same (its_name d) x) (its_depth d) (passed_over d (depth_in ds x))

-- A name is not declared where it is already declared.
unfoldable pub declared : List Declaration → List ℕ → Bool
declared [] x = false
declared (d ∷ ds) x = same (its_name d) x || declared ds x

abbrev pub if_new : {A : Type 0} → Bool → Option A → Option A
if_new true o = none
if_new false o = o

-- The records of a part of a text, and the number of the next local after it.
pub record Part : Type 0 where
  pub records : List ℕ
  pub next : ℕ

-- A record before those of one part, or of two.
abbrev pub above : List ℕ → Option Part → Option Part
above r o = go_on o λ p. some (record { records = r ++ p.records; next = p.next })

abbrev pub joined : List ℕ → Option Part → (ℕ → Option Part) → Option Part
joined r o f = go_on o λ p. go_on (f p.next) λ q. some (record { records = r ++ (p.records ++ q.records); next = q.next })

-- The statements of document 01 in preorder. `p || q` is a parallel (23), `p ; q` a sequence (21), `[ p ]` is p. Locals are numbered
-- in the order of the text. None where a name is not declared as what it is used for, or declared again.
unfoldable mutual
  unfolding signal_in depth_in declared

  pub arms_means : Arms → List Declaration → ℕ → Option Part
  arms_means (only c) ds n = chain_means c ds n
  arms_means (c beside p) ds n = joined (record_bytes 23 0) (chain_means c ds n) λ m. arms_means p ds m

  pub chain_means : Chain → List Declaration → ℕ → Option Part
  chain_means (alone b) ds n = basic_means b ds n
  chain_means (b before c) ds n = joined (record_bytes 21 0) (basic_means b ds n) λ m. chain_means c ds m

  pub basic_means : Basic → List Declaration → ℕ → Option Part
  basic_means Nothing ds n = some (record { records = record_bytes 16 0; next = n })
  basic_means Pause ds n = some (record { records = record_bytes 17 0; next = n })
  basic_means (Emit x) ds n = go_on (signal_in ds x) λ s. some (record { records = record_bytes 18 s; next = n })
  basic_means (Exit x) ds n = go_on (depth_in ds x) λ d. some (record { records = record_bytes 25 d; next = n })
  basic_means (Present x p q) ds n = go_on (signal_in ds x) λ s. joined (record_bytes 19 s) (arms_means p ds n) λ m. arms_means q ds m
  basic_means (Suspend p x) ds n = go_on (signal_in ds x) λ s. above (record_bytes 20 s) (arms_means p ds n)
  basic_means (Loop p) ds n = above (record_bytes 22 0) (arms_means p ds n)
  basic_means (Trap x p) ds n = if_new (declared ds x) (above (record_bytes 24 0) (arms_means p (trap_named x ∷ ds) n))
  basic_means (Signal x p) ds n = if_new (declared ds x) (above (record_bytes 26 n) (arms_means p (signal_named x n ∷ ds) (suc n)))
  basic_means (Bracket p) ds n = arms_means p ds n

-- The names of the header, numbered as they are declared; a name's scope begins behind it.
unfoldable pub declaring : List Declaration → ℕ → List (List ℕ) → Option (List Declaration)
unfolding declared
declaring ds n [] = some ds
declaring ds n (x ∷ xs) = if_new (declared ds x) (declaring (signal_named x n ∷ ds) (suc n) xs)

-- A block before its limits are looked at: its header's numbers, which may be of any size, and the records of its statements.
pub record Blocked : Type 0 where
  pub header : Header
  pub records : List ℕ

-- Inputs from 0, then outputs, then locals. The block has as many of each as are declared. Nothing is declared around the text.
unfoldable pub text_means_with : List Declaration → Text → Option Blocked
unfolding declaring arms_means
text_means_with ds t =
    let i = length t.inputs in
    let o = length t.outputs in
    go_on (declaring ds 0 t.inputs) λ ds. go_on (declaring ds i t.outputs) λ es. go_on (arms_means t.body es (i + o)) λ p.
    some (record { header = record { version = t.version; inputs = i; outputs = o; locals = p.next - (i + o) }; records = p.records })

abbrev pub text_means : Text → Option Blocked
text_means t = text_means_with [] t
