-- The grammar of a text: its trees, and the tokens that spell each with what follows it. Nothing here reads. Assumes nothing.
--
--     text       =  "version" number ";" [ "input" names ";" ] [ "output" names ";" ] statement
--     names      =  name { "," name }
--     statement  =  sequence [ "||" statement ]
--     sequence   =  basic [ ";" sequence ]
--     basic      =  "nothing"  |  "pause"  |  "emit" name  |  "exit" name
--                |  "present" name "then" statement "else" statement "end"
--                |  "suspend" statement "when" name
--                |  "loop" statement "end"
--                |  "trap" name "in" statement "end"
--                |  "signal" name "in" statement "end"
--                |  "[" statement "]"
use Rattle.std.specs.Prelude.{List, [], ◌∷◌, ℕ}
use Rattle.text.specs.Tokens.{Token, sign, name, number, NOTHING, PAUSE, EMIT, PRESENT, THEN, ELSE, END, SUSPEND, WHEN, LOOP, TRAP, IN, EXIT, SIGNAL, VERSION, INPUT, OUTPUT}
use Rattle.text.specs.Tokens.{COMMA, SEMICOLON, BRACKET, CLOSED, BESIDE}

infixr 25 ◌beside◌
infixr 30 ◌before◌
mutual
  -- A statement: a sequence, or one beside more; a sequence: a basic statement, or one before more.
  pub data Arms : Type 0 where
    only : Chain → Arms
    ◌beside◌ : Chain → Arms → Arms

  pub data Chain : Type 0 where
    alone : Basic → Chain
    ◌before◌ : Basic → Chain → Chain

  pub data Basic : Type 0 where
    Nothing : Basic
    Pause : Basic
    Emit : List ℕ → Basic
    Exit : List ℕ → Basic
    Present : List ℕ → Arms → Arms → Basic
    Suspend : Arms → List ℕ → Basic
    Loop : Arms → Basic
    Trap : List ℕ → Arms → Basic
    Signal : List ℕ → Arms → Basic
    Bracket : Arms → Basic

-- The tokens of a tree, and then k.
unfoldable mutual
  pub arms : Arms → List Token → List Token
  arms (only c) k = chain c k
  arms (c beside p) k = chain c (sign BESIDE ∷ arms p k)

  pub chain : Chain → List Token → List Token
  chain (alone b) k = basic b k
  chain (b before c) k = basic b (sign SEMICOLON ∷ chain c k)

  pub basic : Basic → List Token → List Token
  basic Nothing k = sign NOTHING ∷ k
  basic Pause k = sign PAUSE ∷ k
  basic (Emit x) k = sign EMIT ∷ name x ∷ k
  basic (Exit x) k = sign EXIT ∷ name x ∷ k
  basic (Present x p q) k = sign PRESENT ∷ name x ∷ sign THEN ∷ arms p (sign ELSE ∷ arms q (sign END ∷ k))
  basic (Suspend p x) k = sign SUSPEND ∷ arms p (sign WHEN ∷ name x ∷ k)
  basic (Loop p) k = sign LOOP ∷ arms p (sign END ∷ k)
  basic (Trap x p) k = sign TRAP ∷ name x ∷ sign IN ∷ arms p (sign END ∷ k)
  basic (Signal x p) k = sign SIGNAL ∷ name x ∷ sign IN ∷ arms p (sign END ∷ k)
  basic (Bracket p) k = sign BRACKET ∷ arms p (sign CLOSED ∷ k)

-- A text: its version, its inputs and outputs by name, and its statement.
pub record Text : Type 0 where
  pub version : ℕ
  pub inputs : List (List ℕ)
  pub outputs : List (List ℕ)
  pub body : Arms

-- Names with commas between them and a semicolon behind; a part with no name is left out.
unfoldable pub names : List ℕ → List (List ℕ) → List Token → List Token
names x [] k = name x ∷ sign SEMICOLON ∷ k
names x (y ∷ ys) k = name x ∷ sign COMMA ∷ names y ys k

unfoldable pub part : ℕ → List (List ℕ) → List Token → List Token
unfolding names
part s [] k = k
part s (x ∷ xs) k = sign s ∷ names x xs k

unfoldable pub spelt : Text → List Token
unfolding part arms
spelt t = sign VERSION ∷ number t.version ∷ sign SEMICOLON ∷ part INPUT t.inputs (part OUTPUT t.outputs (arms t.body []))
