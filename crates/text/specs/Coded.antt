-- Tokens as the code holds them, and the token at the front of some bytes. Assumes nothing.
use Rattle.std.specs.Prelude.{◌≡◌, cond, List, [], ◌∷◌, ℕ, suc, ◌+◌, ◌*◌, eqb, length, drop, Option as Returned, Some, None}
use Rattle.std.proofs.Math.Option.{Option, none, some}
use Rattle.records.specs.Numerals.{as_number}
use Rattle.text.specs.Tokens.{Token, sign, name, number, no_token, keywords, keyword_from, in_word, is_number, value_from, word_token, word_of, mark_token, mark_size, spaces_of}
use Rattle.text.specs.Tokens.{Placed, placed}
use Rattle.text.specs.declared.tokens.Token.{Token as CodedToken}
use Rattle.text.specs.declared.tokens.Kind.{Kind}
use Rattle.text.specs.declared.tokens.Kind.TheVariants.{Sign, Name, Number, Nothing, End}

-- An answer of the code, which has an option of its own.
unfoldable pub returned : Option ℕ → Returned ℕ
returned none = None
returned (some k) = Some k

-- The number of the keyword that a word is.
abbrev pub keyword_number : List ℕ → Returned ℕ
keyword_number w = returned (keyword_from 0 keywords w)

-- What a word stands for where it is a number.
abbrev pub number_value : List ℕ → Returned ℕ
number_value w = cond (is_number w) (Some (value_from 0 w)) None

-- A token as the code has it, which leaves a name in the text.
unfoldable pub kind_of : Token → Kind
kind_of (sign k) = Sign k
kind_of (name w) = Name
kind_of (number v) = Number v
kind_of no_token = Nothing

-- What stands at the front of bytes that do not begin with a space, and how many bytes it has.
unfoldable pub front : List ℕ → Option Token
front [] = none
front (b ∷ bs) = some (cond (in_word b) (word_token (word_of (b ∷ bs))) (mark_token b bs))

unfoldable pub front_size : List ℕ → ℕ
front_size [] = 0
front_size (b ∷ bs) = cond (in_word b) (length (word_of (b ∷ bs))) (mark_size b bs)

unfoldable pub kind_held : Option Token → Kind
unfolding kind_of
kind_held none = End
kind_held (some t) = kind_of t

-- The token of a kind, where a word stands.
unfoldable pub from_kind : Kind → List ℕ → Token
from_kind (Sign k) w = sign k
from_kind Name w = name w
from_kind (Number v) w = number v
from_kind Nothing w = no_token
from_kind End w = no_token

-- The code's token is what stands at the front from a place on, which is no space; or from a place on, behind its spaces.
pub record FrontAt (text : List ℕ) (at : ℕ) (r : CodedToken) : Type 0 where
  pub its_kind : r.kind ≡ kind_held (front (drop at text))
  pub its_start : r.start ≡ at
  pub its_end : r.end ≡ at + front_size (drop at text)

abbrev pub past_spaces : List ℕ → ℕ → ℕ
past_spaces text at = at + spaces_of (drop at text)

-- The tokens of a text from a place on.
abbrev pub tokens_from : List ℕ → ℕ → List Placed
tokens_from text at = placed (length text) at (drop at text)

-- A token at a place before others; none before none.
unfoldable pub fronted : Option Token → ℕ → List Placed → List Placed
fronted none at ps = []
fronted (some t) at ps = record { place = at; token = t } ∷ ps

-- A word of at most seven bytes as one number, its length in the lowest three bits; and the first word of a list with such a number.
abbrev pub key : List ℕ → ℕ
key w = as_number w * 8 + length w

unfoldable pub keyed : ℕ → List (List ℕ) → ℕ → Returned ℕ
unfolding as_number
keyed i [] k = None
keyed i (w ∷ ws) k = cond (eqb k (key w)) (Some i) (keyed (suc i) ws k)
