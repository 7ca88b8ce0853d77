-- The tokens of a text: its bytes, words, keywords, names and numbers (document 02, Ticket 1). Assumes nothing.
use Rattle.std.specs.Prelude.{Bool, true, false, cond, ◌&&◌, ◌||◌, List, [], ◌∷◌, ℕ, zero, suc, ◌+◌, ◌-◌, ◌*◌, eqb, leb, length, get_or, drop}
use Rattle.std.proofs.Math.Option.{Option, none, some}

-- A space is a tab, a line feed, a carriage return or a blank. A word is a run of letters and digits.
abbrev pub is_space : ℕ → Bool
is_space b = eqb b 9 || (eqb b 10 || (eqb b 13 || eqb b 32))

abbrev pub is_digit : ℕ → Bool
is_digit b = leb 48 b && leb b 57

abbrev pub is_letter : ℕ → Bool
is_letter b = leb 65 b && leb b 90 || leb 97 b && leb b 122

abbrev pub in_word : ℕ → Bool
in_word b = is_letter b || is_digit b

-- The seventeen keywords, in lower case only, each with its number here: `nothing` is 0, `pause` 1, and so on.
abbrev pub keywords : List (List ℕ)
keywords =
    (110 ∷ 111 ∷ 116 ∷ 104 ∷ 105 ∷ 110 ∷ 103 ∷ [])
    ∷ (112 ∷ 97 ∷ 117 ∷ 115 ∷ 101 ∷ [])
    ∷ (101 ∷ 109 ∷ 105 ∷ 116 ∷ [])
    ∷ (112 ∷ 114 ∷ 101 ∷ 115 ∷ 101 ∷ 110 ∷ 116 ∷ [])
    ∷ (116 ∷ 104 ∷ 101 ∷ 110 ∷ [])
    ∷ (101 ∷ 108 ∷ 115 ∷ 101 ∷ [])
    ∷ (101 ∷ 110 ∷ 100 ∷ [])
    ∷ (115 ∷ 117 ∷ 115 ∷ 112 ∷ 101 ∷ 110 ∷ 100 ∷ [])
    ∷ (119 ∷ 104 ∷ 101 ∷ 110 ∷ [])
    ∷ (108 ∷ 111 ∷ 111 ∷ 112 ∷ [])
    ∷ (116 ∷ 114 ∷ 97 ∷ 112 ∷ [])
    ∷ (105 ∷ 110 ∷ [])
    ∷ (101 ∷ 120 ∷ 105 ∷ 116 ∷ [])
    ∷ (115 ∷ 105 ∷ 103 ∷ 110 ∷ 97 ∷ 108 ∷ [])
    ∷ (118 ∷ 101 ∷ 114 ∷ 115 ∷ 105 ∷ 111 ∷ 110 ∷ [])
    ∷ (105 ∷ 110 ∷ 112 ∷ 117 ∷ 116 ∷ [])
    ∷ (111 ∷ 117 ∷ 116 ∷ 112 ∷ 117 ∷ 116 ∷ [])
    ∷ []

abbrev pub NOTHING : ℕ
NOTHING = 0

abbrev pub PAUSE : ℕ
PAUSE = 1

abbrev pub EMIT : ℕ
EMIT = 2

abbrev pub PRESENT : ℕ
PRESENT = 3

abbrev pub THEN : ℕ
THEN = 4

abbrev pub ELSE : ℕ
ELSE = 5

abbrev pub END : ℕ
END = 6

abbrev pub SUSPEND : ℕ
SUSPEND = 7

abbrev pub WHEN : ℕ
WHEN = 8

abbrev pub LOOP : ℕ
LOOP = 9

abbrev pub TRAP : ℕ
TRAP = 10

abbrev pub IN : ℕ
IN = 11

abbrev pub EXIT : ℕ
EXIT = 12

abbrev pub SIGNAL : ℕ
SIGNAL = 13

abbrev pub VERSION : ℕ
VERSION = 14

abbrev pub INPUT : ℕ
INPUT = 15

abbrev pub OUTPUT : ℕ
OUTPUT = 16

-- The five marks, by the byte that they begin with: `,` `;` `[` `]` and `||`.
abbrev pub COMMA : ℕ
COMMA = 44

abbrev pub SEMICOLON : ℕ
SEMICOLON = 59

abbrev pub BRACKET : ℕ
BRACKET = 91

abbrev pub CLOSED : ℕ
CLOSED = 93

abbrev pub BESIDE : ℕ
BESIDE = 124

-- A token is a keyword or a mark, a name, or a number; every other word, and every other byte that is no space, is none.
pub data Token : Type 0 where
  sign : ℕ → Token
  name : List ℕ → Token
  number : ℕ → Token
  no_token : Token

-- Two runs of bytes are the same.
unfoldable pub same : List ℕ → List ℕ → Bool
same [] [] = true
same [] (b ∷ bs) = false
same (a ∷ l) [] = false
same (a ∷ l) (b ∷ bs) = eqb a b && same l bs

-- The number of the keyword that a word is.
unfoldable pub keyword_from : ℕ → List (List ℕ) → List ℕ → Option ℕ
keyword_from i [] w = none
keyword_from i (k ∷ ks) w = cond (same k w) (some i) (keyword_from (suc i) ks w)

unfoldable pub all_digits : List ℕ → Bool
all_digits [] = true
all_digits (b ∷ bs) = is_digit b && all_digits bs

-- What decimal digits stand for, with the value of those before them.
unfoldable pub value_from : ℕ → List ℕ → ℕ
value_from v [] = v
value_from v (b ∷ bs) = value_from (v * 10 + (b - 48)) bs

-- A name is a word of at most sixteen letters and digits that begins with a letter and is no keyword.
abbrev pub is_name : List ℕ → Bool
is_name w = is_letter (get_or w 0 0) && leb (length w) 16

-- A number is a word of one to five digits, of at most 65,535.
unfoldable pub is_number : List ℕ → Bool
unfolding all_digits value_from
is_number w = all_digits w && (leb (length w) 5 && leb (value_from 0 w) 65535)

unfoldable pub no_keyword : List ℕ → Token
unfolding is_number value_from
no_keyword w = cond (is_name w) (name w) (cond (is_number w) (number (value_from 0 w)) no_token)

unfoldable pub word_or : List ℕ → Option ℕ → Token
unfolding no_keyword
word_or w none = no_keyword w
word_or w (some k) = sign k

unfoldable pub word_token : List ℕ → Token
unfolding word_or keyword_from
word_token w = word_or w (keyword_from 0 keywords w)

-- A run of letters and digits goes on as far as it can.
unfoldable pub word_of : List ℕ → List ℕ
word_of [] = []
word_of (b ∷ bs) = cond (in_word b) (b ∷ word_of bs) []

-- What stands at the front, where it is no space and no word: a mark, or no token; and how many bytes it has. One `|` alone is none.
abbrev pub is_mark : ℕ → Bool
is_mark b = eqb b COMMA || (eqb b SEMICOLON || (eqb b BRACKET || eqb b CLOSED))

abbrev pub mark_token : ℕ → List ℕ → Token
mark_token b bs = cond (is_mark b) (sign b) (cond (eqb b BESIDE && eqb (get_or bs 0 0) BESIDE) (sign BESIDE) no_token)

abbrev pub mark_size : ℕ → List ℕ → ℕ
mark_size b bs = cond (eqb b BESIDE && eqb (get_or bs 0 0) BESIDE) 2 1

-- A token with the place of its first byte.
pub record Placed : Type 0 where
  pub place : ℕ
  pub token : Token

-- The tokens of some bytes, the first of which has the given place. Each step passes over a byte, so there are never more steps
-- than bytes.
unfoldable pub placed : ℕ → ℕ → List ℕ → List Placed
unfolding word_of
placed zero at bs = []
placed (suc n) at [] = []
placed (suc n) at (b ∷ bs) =
    let w = word_of (b ∷ bs) in
    let word : List Placed = record { place = at; token = word_token w } ∷ placed n (at + length w) (drop (length w) (b ∷ bs)) in
    let z = mark_size b bs in
    let mark : List Placed = record { place = at; token = mark_token b bs } ∷ placed n (at + z) (drop z (b ∷ bs)) in
    let rest = placed n (at + 1) bs in
    cond (is_space b) rest (cond (in_word b) word mark)

unfoldable pub tokens_of : List Placed → List Token
tokens_of [] = []
tokens_of (p ∷ ps) = p.token ∷ tokens_of ps

-- The tokens of a text, with their places and without.
abbrev pub tokens_placed : List ℕ → List Placed
tokens_placed text = placed (length text) 0 text

abbrev pub tokens : List ℕ → List Token
tokens text = tokens_of (tokens_placed text)

-- How many spaces stand at the front.
unfoldable pub spaces_of : List ℕ → ℕ
spaces_of [] = 0
spaces_of (b ∷ bs) = cond (is_space b) (suc (spaces_of bs)) 0
