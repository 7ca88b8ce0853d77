-- The pieces of a text as the code puts them, each before what follows it. Nobody has to believe them: the call's contract does not name
-- them. Assumes nothing.
use Rattle.std.specs.Prelude.{◌≡◌, cond, List, [], ◌∷◌, ◌++◌, ℕ, zero, suc, ◌+◌, ◌-◌, ◌/◌, ◌%◌, eqb, length}
use Rattle.std.proofs.lemmas.List.Edits.{sets}
use Rattle.sets.specs.Numbers.{listed}
use Rattle.text.specs.Shown.{line, signal_word, trap_word, names_text}

-- To put what F gives from `to` on is now to put what G gives from `at` on, whatever follows: the bytes and where they end.
pub record Left (before after : List ℕ) (to at : ℕ) (F G : List ℕ → List ℕ) : Type 0 where
  pub stores : (r : List ℕ) → sets after at (G r) ≡ sets before to (F r)
  pub ends : (r : List ℕ) → at + length (G r) ≡ to + length (F r)

-- All of it was put.
abbrev pub Puts : List ℕ → List ℕ → ℕ → ℕ → (List ℕ → List ℕ) → Type 0
Puts before after to at F = Left before after to at F (λ r. r)

-- The bytes of a number, the lowest first, up to the last that is not 0; and the eight that a name may have.
unfoldable pub coded_in : ℕ → ℕ → List ℕ
coded_in zero n = []
coded_in (suc f) n = cond (eqb n 0) [] ((n % 256) ∷ coded_in f (n / 256))

abbrev pub coded : ℕ → List ℕ
coded n = coded_in 8 n

-- A line of up to three words, the second a name; nothing where the first is empty.
unfoldable pub row_text : ℕ → List ℕ → List ℕ → List ℕ → List ℕ → List ℕ
row_text d [] name last r = r
row_text d (b ∷ first) name last r = line d ((b ∷ first) ++ (name ++ (last ++ r)))

-- The name behind a statement's first word, by its kind and operand, among so many traps; and the one behind its last.
unfoldable pub opening_name : ℕ → ℕ → ℕ → ℕ → ℕ → List ℕ
opening_name k x traps i o =
    cond (eqb k 24) (trap_word traps) (cond (eqb k 25) (trap_word (traps - 1 - x)) (cond (listed (18 ∷ 19 ∷ 26 ∷ []) k) (signal_word i o x) []))

unfoldable pub closing_name : ℕ → ℕ → ℕ → ℕ → List ℕ
closing_name k x i o = cond (eqb k 20) (signal_word i o x) []

-- The names of a part of the header behind its first word; nothing where there are none.
unfoldable pub names_part : List ℕ → List (List ℕ) → List ℕ → List ℕ
unfolding names_text
names_part w [] r = r
names_part w (x ∷ xs) r = w ++ names_text x xs r
