-- Where a text is at fault, said of the grammar alone: the first token with which the tokens so far begin no text whose names are in
-- order. Assumes nothing.
use Rattle.std.specs.Prelude.{◌≡◌, List, [], ◌∷◌, ◌++◌, ℕ}
use Rattle.std.proofs.Math.Option.{some}
use Rattle.text.specs.Tokens.{Token, Placed, tokens_of}
use Rattle.text.specs.Grammar.{Text, spelt}
use Rattle.text.specs.Meaning.{Declaration, signal_named, trap_named, Blocked, text_means_with, text_means}

-- A signal and a trap with names that nobody can write: one has no byte, the other a byte that stands in no word. They are declared
-- around a text that goes on from some tokens, so that `emit` is not at fault already where no signal is declared: its name will be.
abbrev pub unwritten : List Declaration
unwritten = signal_named [] 0 ∷ trap_named (0 ∷ []) ∷ []

-- The tokens begin a text whose names are in order.
pub record Begins (ts : List Token) : Type 0 where
  pub text : Text
  pub block : Blocked
  pub rest : List Token
  pub its_tokens : ts ++ rest ≡ spelt text
  pub in_order : text_means_with unwritten text ≡ some block

-- The tokens are those of a text whose names are in order.
pub record Ends (ts : List Token) : Type 0 where
  pub text : Text
  pub block : Blocked
  pub its_tokens : ts ≡ spelt text
  pub in_order : text_means text ≡ some block

-- The place at fault: the tokens before it begin some text, and with the one that stands there they begin none; or it is the end, and
-- the tokens begin some text and are none.
pub data Fault (end : ℕ) : List Placed → ℕ → Type 0 where
  at_token : (before : List Placed) (p : Placed) (behind : List Placed) → Begins (tokens_of before) → (Begins (tokens_of before ++ (p.token ∷ [])) → ⊥)
      → Fault end (before ++ (p ∷ behind)) p.place
  too_early : (all : List Placed) → Begins (tokens_of all) → (Ends (tokens_of all) → ⊥) → Fault end all end
