-- What a record builds: kind, kept operand, statements, bytes and pauses of the statement, by the view of its kind.
use mathlib.Core.Path.{◌≡◌, refl, ap}
use mathlib.Core.Bool.{cond}
use mathlib.Core.List.{List, [], ◌∷◌, ◌++◌}
use Prim.Native.Nat.{ℕ, ◌+◌}
use native.Mathlib.Nat.{add_assoc}
use native.Mathlib.Omega.{arith}
use lib.Dec.{eqb}
use Rattle.sets.specs.Numbers.{listed}
use Rattle.rules.specs.Statements.{Stmt, pauses}
use Rattle.tables.specs.Table.{kind_of, operand_of, statements}
use Rattle.block.specs.Format.{leaf, above, joined, preorder, bytes}
use Rattle.tables.specs.Kinds.{shape, length_of, operands_of}
use Rattle.tables.specs.Table.{kept_operand}
use Rattle.block.proofs.Views.{Leaf, Above, Joined, a_nothing, a_pause, an_emit, an_exit, a_suspend, a_loop, a_trap, a_local, a_present, a_sequence, a_parallel}

pub bytes_append : (ps qs : List Stmt) → bytes (ps ++ qs) ≡ bytes ps + bytes qs
unfolding bytes
bytes_append [] qs = omega arith
bytes_append (p ∷ ps) qs = omega (arith, bytes_append ps qs)

-- What the code has of a statement: its kind, the operand that the table keeps, statements, bytes and pauses.
pub record Builds (k x n m size : ℕ) (ps : List ℕ) (t : Stmt) : Type 0 where
  pub its_kind : kind_of t ≡ k
  pub its_operand : operand_of t ≡ kept_operand k x n
  pub its_statements : statements t ≡ 1 + m
  pub its_bytes : bytes (preorder t) ≡ length_of k + size
  pub its_pauses : pauses t ≡ ps

pub leaf_builds : {k : ℕ} (x n : ℕ) → Leaf k → Builds k x n 0 0 (cond (eqb k 17) (n ∷ []) []) (leaf k x n)
unfolding kind_of operand_of statements bytes preorder pauses leaf kept_operand shape length_of operands_of listed
leaf_builds x n a_nothing = record { its_kind = refl; its_operand = refl; its_statements = refl; its_bytes = refl; its_pauses = refl }
leaf_builds x n a_pause = record { its_kind = refl; its_operand = refl; its_statements = refl; its_bytes = refl; its_pauses = refl }
leaf_builds x n an_emit = record { its_kind = refl; its_operand = refl; its_statements = refl; its_bytes = refl; its_pauses = refl }
leaf_builds x n an_exit = record { its_kind = refl; its_operand = refl; its_statements = refl; its_bytes = refl; its_pauses = refl }

pub above_builds : {k : ℕ} (x n : ℕ) (p : Stmt) → Above k → Builds k x n (statements p) (bytes (preorder p)) (pauses p) (above k x p)
unfolding kind_of operand_of statements bytes preorder pauses above kept_operand shape length_of operands_of listed
above_builds x n p a_suspend = record { its_kind = refl; its_operand = refl; its_statements = refl; its_bytes = refl; its_pauses = refl }
above_builds x n p a_loop = record { its_kind = refl; its_operand = refl; its_statements = refl; its_bytes = refl; its_pauses = refl }
above_builds x n p a_trap = record { its_kind = refl; its_operand = refl; its_statements = refl; its_bytes = refl; its_pauses = refl }
above_builds x n p a_local = record { its_kind = refl; its_operand = refl; its_statements = refl; its_bytes = refl; its_pauses = refl }

pub joined_builds : {k : ℕ} (x n : ℕ) (p q : Stmt) → Joined k
    → Builds k x n (statements p + statements q) (bytes (preorder p) + bytes (preorder q)) (pauses p ++ pauses q) (joined k x p q)
unfolding kind_of operand_of statements bytes preorder pauses joined kept_operand shape length_of operands_of listed
joined_builds x n p q a_present = record {
  its_kind = refl;
  its_operand = refl;
  its_statements = add_assoc 1 (statements p) (statements q);
  its_bytes = ap (λ (m : ℕ). 6 + m)
      (bytes_append (preorder p) (preorder q));
  its_pauses = refl;
}
joined_builds x n p q a_sequence = record {
  its_kind = refl;
  its_operand = refl;
  its_statements = add_assoc 1 (statements p) (statements q);
  its_bytes = ap (λ (m : ℕ). 4 + m)
      (bytes_append (preorder p) (preorder q));
  its_pauses = refl;
}
joined_builds x n p q a_parallel = record {
  its_kind = refl;
  its_operand = refl;
  its_statements = add_assoc 1 (statements p) (statements q);
  its_bytes = ap (λ (m : ℕ). 4 + m)
      (bytes_append (preorder p) (preorder q));
  its_pauses = refl;
}
