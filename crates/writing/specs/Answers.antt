-- What a call that writes into lent bytes owes: its answer and every byte. Assumes nothing.
use Rattle.std.specs.Prelude.{cond, List, [], ◌∷◌, ◌++◌, ℕ, ltb, length, drop, Result, Ok, Err}
use Rattle.refusals.specs.Refusals.{number}
use Rattle.refusals.specs.declared.Refused.{Refused}

-- What is to be written, or the number and the place of a refusal.
pub data Writing : Type 0 where
  writes : List ℕ → Writing
  refuses : ℕ → ℕ → Writing

-- ROOM, with place 0, where fewer bytes are lent than are to be written. It comes after every other refusal.
unfoldable pub roomed : Writing → ℕ → Writing
roomed (writes bs) lent = cond (ltb lent (length bs)) (refuses 12 0) (writes bs)
roomed (refuses n at) lent = refuses n at

-- The answer: number, place and size. All fields not named are 0.
unfoldable pub wrote_values : Result ℕ Refused → List ℕ
wrote_values (Ok n) = 0 ∷ 0 ∷ n ∷ []
wrote_values (Err e) = number e.why ∷ e.place ∷ 0 ∷ []

unfoldable pub wrote_owed : Writing → List ℕ
wrote_owed (writes bs) = 0 ∷ 0 ∷ length bs ∷ []
wrote_owed (refuses n at) = n ∷ at ∷ 0 ∷ []

-- The lent bytes afterwards: what was written and what lay behind it, or as they were.
unfoldable pub out_owed : Writing → List ℕ → List ℕ
out_owed (writes bs) out = bs ++ drop (length bs) out
out_owed (refuses n at) out = out
