-- The tokens of a written text are those of its tree: each piece of the layout before bytes with known tokens has its own tokens before
-- those. Assumes nothing.
use mathlib.Core.Path.{◌≡◌, refl, sym, ap, ap₂, ◌∙◌, subst}
use mathlib.Core.Bool.{Bool, true, false, cond, ◌&&◌, ◌||◌}
use mathlib.Core.List.{List, [], ◌∷◌, ◌++◌}
use Prim.Native.Nat.{ℕ, zero, suc, ◌+◌, ◌*◌, ◌≤◌, ◌<◌}
use native.Mathlib.Omega.{arith}
use borrow.Author.Tests.{ne_eqb}
use lib.Dec.{T, leb, leb→le}
use lib.ListN.{length, get_or, drop, replicate, length-append}
use lib.Seq.{drop-append_seam}
use mathlib.Core.Logic.{⊎_elim}
use Rattle.sets.proofs.Members.{or_out}
use Rattle.text.specs.Tokens.{Token, sign, name, number, is_space, is_digit, is_letter, in_word, keywords, same, keyword_from}
use Rattle.text.specs.Tokens.{word_or, word_token, word_of, Placed, placed, tokens_of, tokens}
use Rattle.text.specs.Tokens.{NOTHING, PAUSE, EMIT, PRESENT, THEN, ELSE, END, SUSPEND, WHEN, LOOP, TRAP, IN, EXIT, SIGNAL, VERSION, INPUT, OUTPUT, COMMA, SEMICOLON, BRACKET, CLOSED, BESIDE}
use Rattle.text.specs.Grammar.{Arms, only, ◌beside◌, Chain, alone, ◌before◌, Basic, Nothing, Pause, Emit, Exit, Present, Suspend, Loop, Trap, Signal, Bracket, Text, arms, chain, basic}
use Rattle.text.specs.Grammar.{names, part, spelt}
use Rattle.text.specs.Shown.{decimal, line, word, blank, arms_text, chain_text, basic_text, names_text, part_text, text_bytes}
use Rattle.text.proofs.Words.{both_so, true_so, wordy, Nameable, decimal_wordy, decimal_some, version_token}

-- The bytes have these tokens, wherever they stand.
pub record Lexes (bs : List ℕ) (ts : List Token) : Type 0 where
  pub lexes : (n at : ℕ) → length bs ≤ n → tokens_of (placed n at bs) ≡ ts

-- The bytes do not begin with a letter or a digit.
abbrev Stops : List ℕ → Type 0
Stops r = in_word (get_or r 0 0) ≡ false

no_bytes : Lexes [] []
unfolding placed tokens_of
no_bytes = record { lexes = λ n at l. none_left n at }
  where
    none_left : (n at : ℕ) → tokens_of (placed n at []) ≡ []
    none_left zero at = refl
    none_left (suc n) at = refl

-- A space; a mark of one byte, or of two.
a_space : (b : ℕ) {r : List ℕ} {ts : List Token} → is_space b ≡ true → Lexes r ts → Lexes (b ∷ r) ts
unfolding placed
a_space b {r} {ts} e g = record { lexes = go }
  where
    chosen : (z : Bool) (x y : List Placed) → z ≡ true → tokens_of x ≡ ts → tokens_of (cond z x y) ≡ ts
    chosen z x y e h = ap (λ (z : Bool). tokens_of (cond z x y)) e ∙ h

    go : (n at : ℕ) → length (b ∷ r) ≤ n → tokens_of (placed n at (b ∷ r)) ≡ ts
    go zero at l = absurd (omega (arith, l))
    go (suc n) at l = chosen (is_space b) _ _ e (g.lexes n (at + 1) (omega (arith, l)))

module _ {r : List ℕ} {ts : List Token} (g : Lexes r ts) where
  abbrev Marks : ℕ → Type 0
  Marks b = (n at : ℕ) → length (b ∷ r) ≤ n → tokens_of (placed n at (b ∷ r)) ≡ sign b ∷ ts

  marked : (b : ℕ) → ((n at : ℕ) → tokens_of (placed (suc n) at (b ∷ r)) ≡ sign b ∷ tokens_of (placed n (at + 1) r)) → Lexes (b ∷ r) (sign b ∷ ts)
  marked b first = record { lexes = go }
    where
      go : Marks b
      go zero at l = absurd (omega (arith, l))
      go (suc n) at l = first n at ∙ ap (λ (l : List Token). sign b ∷ l) (g.lexes n (at + 1) (omega (arith, l)))

  a_semicolon : Lexes (SEMICOLON ∷ r) (sign SEMICOLON ∷ ts)
  unfolding placed tokens_of
  a_semicolon = marked SEMICOLON (λ n at. refl)

  a_comma : Lexes (COMMA ∷ r) (sign COMMA ∷ ts)
  unfolding placed tokens_of
  a_comma = marked COMMA (λ n at. refl)

  a_bracket : Lexes (BRACKET ∷ r) (sign BRACKET ∷ ts)
  unfolding placed tokens_of
  a_bracket = marked BRACKET (λ n at. refl)

  a_closed : Lexes (CLOSED ∷ r) (sign CLOSED ∷ ts)
  unfolding placed tokens_of
  a_closed = marked CLOSED (λ n at. refl)

  a_beside : Lexes (BESIDE ∷ BESIDE ∷ r) (sign BESIDE ∷ ts)
  unfolding placed tokens_of
  a_beside = record { lexes = go }
    where
      go : (n at : ℕ) → length (BESIDE ∷ BESIDE ∷ r) ≤ n → tokens_of (placed n at (BESIDE ∷ BESIDE ∷ r)) ≡ sign BESIDE ∷ ts
      go zero at l = absurd (omega (arith, l))
      go (suc n) at l = ap (λ (l : List Token). sign BESIDE ∷ l) (g.lexes n (at + 2) (omega (arith, l)))

blanks : (m : ℕ) {r : List ℕ} {ts : List Token} → Lexes r ts → Lexes (replicate m 32 ++ r) ts
blanks zero g = g
blanks (suc m) g = a_space 32 refl (blanks m g)

a_line : (d : ℕ) {r : List ℕ} {ts : List Token} → Lexes r ts → Lexes (line d r) ts
a_line d g = a_space 10 refl (blanks (2 * d) g)

-- A word that stops.
word_stops : (w r : List ℕ) → T (wordy w) → Stops r → word_of (w ++ r) ≡ w
unfolding word_of
word_stops [] [] t s = refl
word_stops [] (c ∷ r) t s = ap (λ (z : Bool). cond z (c ∷ word_of r) []) s
word_stops (b ∷ w) r t s =
    let q = both_so (in_word b) (wordy w) t in
    ap (λ (z : Bool). cond z (b ∷ word_of (w ++ r)) []) (true_so (in_word b) q.0) ∙ ap (λ (l : List ℕ). b ∷ l) (word_stops w r q.1 s)

no_space : (b : ℕ) → T (in_word b) → is_space b ≡ false
no_space b t =
    let low : 48 ≤ b = ⊎_elim letters (λ d. leb→le 48 b (both_so (leb 48 b) (leb b 57) d).0) (or_out (is_letter b) (is_digit b) t) in
    λ c. ne_eqb b 9 (λ e. omega (arith, e, low)) c || (ne_eqb b 10 (λ e. omega (arith, e, low)) c || (ne_eqb b 13 (λ e. omega (arith, e, low)) c || ne_eqb b 32 (λ e. omega (arith, e, low)) c))
  where
    letters : T (is_letter b) → 48 ≤ b
    letters d =
        ⊎_elim (λ x. let h = leb→le 65 b (both_so (leb 65 b) (leb b 90) x).0 in omega (arith, h)) (λ x. let h = leb→le 97 b (both_so (leb 97 b) (leb b 122) x).0 in omega (arith, h))
        (or_out (leb 65 b && leb b 90) (leb 97 b && leb b 122) d)

a_word : (b : ℕ) (w : List ℕ) {r : List ℕ} {ts : List Token} → T (wordy (b ∷ w)) → Stops r → Lexes r ts → Lexes ((b ∷ w) ++ r) (word_token (b ∷ w) ∷ ts)
unfolding placed tokens_of
a_word b w {r} {ts} t s g = record { lexes = go }
  where
    chosen : (y z : Bool) (u v x : List Placed) → y ≡ false → z ≡ true → tokens_of v ≡ word_token (b ∷ w) ∷ ts → tokens_of (cond y u (cond z v x)) ≡ word_token (b ∷ w) ∷ ts
    chosen y z u v x e f h = ap₂ (λ (y z : Bool). tokens_of (cond y u (cond z v x))) e f ∙ h

    go : (n at : ℕ) → length ((b ∷ w) ++ r) ≤ n → tokens_of (placed n at ((b ∷ w) ++ r)) ≡ word_token (b ∷ w) ∷ ts
    go zero at l = absurd (omega (arith, l))
    go (suc n) at l =
        let rest : length r ≤ n = omega (arith, l, length-append w r) in
        chosen (is_space b) (in_word b) _ _ _ (no_space b (both_so (in_word b) (wordy w) t).0) (true_so (in_word b) (both_so (in_word b) (wordy w) t).0)
        (ap (λ (x : List ℕ). word_token x ∷ tokens_of (placed n (at + length x) (drop (length x) ((b ∷ w) ++ r)))) (word_stops (b ∷ w) r t s)
        ∙ ap (λ (x : List ℕ). word_token (b ∷ w) ∷ tokens_of (placed n (at + length (b ∷ w)) x)) (drop-append_seam (b ∷ w) r)
        ∙ ap (λ (x : List Token). word_token (b ∷ w) ∷ x) (g.lexes n (at + length (b ∷ w)) rest))

a_token : (x : List ℕ) (t : Token) {r : List ℕ} {ts : List Token} → T (wordy x) → (x ≡ [] → ⊥) → word_token x ≡ t → Stops r → Lexes r ts → Lexes (x ++ r) (t ∷ ts)
a_token [] t {r} {ts} v n e s g = absurd (n refl)
a_token (b ∷ w) t {r} {ts} v n e s g = subst (λ (z : Token). Lexes ((b ∷ w) ++ r) (z ∷ ts)) e (a_word b w v s g)

-- A keyword, and a name.
a_key : (k : ℕ) {r : List ℕ} {ts : List Token} → T (wordy (get_or keywords k [])) → (get_or keywords k [] ≡ [] → ⊥) → word_token (get_or keywords k []) ≡ sign k → Stops r → Lexes r ts
    → Lexes (word k r) (sign k ∷ ts)
a_key k v n e s g = a_token (get_or keywords k []) (sign k) v n e s g

some_byte : {b : ℕ} {w : List ℕ} → b ∷ w ≡ [] → ⊥
some_byte e = let z : ◌≡◌ {A = ℕ} 0 1 = cc in omega arith

a_name : (x : List ℕ) {r : List ℕ} {ts : List Token} → Nameable x → Stops r → Lexes r ts → Lexes (x ++ r) (name x ∷ ts)
a_name x n s g = a_token x (name x) n.is_word (λ e. some_byte (sym n.is_it ∙ e)) n.its_token s g

-- All names of a tree are names.
unfoldable mutual
  pub arms_named : Arms → Type 0
  arms_named (only c) = chain_named c
  arms_named (c beside p) = chain_named c × arms_named p

  pub chain_named : Chain → Type 0
  chain_named (alone b) = basic_named b
  chain_named (b before c) = basic_named b × chain_named c

  pub basic_named : Basic → Type 0
  basic_named Nothing = Unit {0}
  basic_named Pause = Unit {0}
  basic_named (Emit x) = Nameable x
  basic_named (Exit x) = Nameable x
  basic_named (Present x p q) = Nameable x × arms_named p × arms_named q
  basic_named (Suspend p x) = arms_named p × Nameable x
  basic_named (Loop p) = arms_named p
  basic_named (Trap x p) = Nameable x × arms_named p
  basic_named (Signal x p) = Nameable x × arms_named p
  basic_named (Bracket p) = arms_named p

-- A statement begins on a new line.
mutual
  unfolding arms_text

  arms_stop : (p : Arms) (d : ℕ) (r : List ℕ) → Stops (arms_text p d r)
  arms_stop (only c) d r = chain_stop c d r
  arms_stop (c beside p) d r = chain_stop c d (line d (BESIDE ∷ BESIDE ∷ arms_text p d r))

  chain_stop : (c : Chain) (d : ℕ) (r : List ℕ) → Stops (chain_text c d r)
  chain_stop (alone b) d r = basic_stop b d r
  chain_stop (b before c) d r = basic_stop b d (SEMICOLON ∷ chain_text c d r)

  basic_stop : (b : Basic) (d : ℕ) (r : List ℕ) → Stops (basic_text b d r)
  basic_stop Nothing d r = refl
  basic_stop Pause d r = refl
  basic_stop (Emit x) d r = refl
  basic_stop (Exit x) d r = refl
  basic_stop (Present x p q) d r = refl
  basic_stop (Suspend p x) d r = refl
  basic_stop (Loop p) d r = refl
  basic_stop (Trap x p) d r = refl
  basic_stop (Signal x p) d r = refl
  basic_stop (Bracket p) d r = refl

mutual
  unfolding arms_text arms arms_named word_token word_or keyword_from same

  arms_lex : (p : Arms) (d : ℕ) (r : List ℕ) (k : List Token) → arms_named p → Stops r → Lexes r k → Lexes (arms_text p d r) (arms p k)
  arms_lex (only c) d r k n s g = chain_lex c d r k n s g
  arms_lex (c beside p) d r k n s g = chain_lex c d (line d (BESIDE ∷ BESIDE ∷ arms_text p d r)) (sign BESIDE ∷ arms p k) n.0 refl (a_line d (a_beside (arms_lex p d r k n.1 s g)))

  chain_lex : (c : Chain) (d : ℕ) (r : List ℕ) (k : List Token) → chain_named c → Stops r → Lexes r k → Lexes (chain_text c d r) (chain c k)
  chain_lex (alone b) d r k n s g = basic_lex b d r k n s g
  chain_lex (b before c) d r k n s g = basic_lex b d (SEMICOLON ∷ chain_text c d r) (sign SEMICOLON ∷ chain c k) n.0 refl (a_semicolon (chain_lex c d r k n.1 s g))

  basic_lex : (b : Basic) (d : ℕ) (r : List ℕ) (k : List Token) → basic_named b → Stops r → Lexes r k → Lexes (basic_text b d r) (basic b k)
  basic_lex Nothing d r k n s g = a_line d (a_key NOTHING tt some_byte refl s g)
  basic_lex Pause d r k n s g = a_line d (a_key PAUSE tt some_byte refl s g)
  basic_lex (Emit x) d r k n s g = a_line d (a_key EMIT tt some_byte refl refl (a_space 32 refl (a_name x n s g)))
  basic_lex (Exit x) d r k n s g = a_line d (a_key EXIT tt some_byte refl refl (a_space 32 refl (a_name x n s g)))
  basic_lex (Present x p q) d r k n s g =
      let last = a_line d (a_key END tt some_byte refl s g) in
      let second = a_line d (a_key ELSE tt some_byte refl (arms_stop q (suc d) _) (arms_lex q (suc d) (line d (word END r)) (sign END ∷ k) n.2 refl last)) in
      let first = arms_lex p (suc d) (line d (word ELSE (arms_text q (suc d) (line d (word END r))))) (sign ELSE ∷ arms q (sign END ∷ k)) n.1 refl second in
      a_line d (a_key PRESENT tt some_byte refl refl (a_space 32 refl (a_name x n.0 refl (a_space 32 refl (a_key THEN tt some_byte refl (arms_stop p (suc d) _) first)))))
  basic_lex (Suspend p x) d r k n s g =
      let last = a_line d (a_key WHEN tt some_byte refl refl (a_space 32 refl (a_name x n.1 s g))) in
      a_line d (a_key SUSPEND tt some_byte refl (arms_stop p (suc d) _) (arms_lex p (suc d) (line d (word WHEN (blank (x ++ r)))) (sign WHEN ∷ name x ∷ k) n.0 refl last))
  basic_lex (Loop p) d r k n s g =
      let last = a_line d (a_key END tt some_byte refl s g) in
      a_line d (a_key LOOP tt some_byte refl (arms_stop p (suc d) _) (arms_lex p (suc d) (line d (word END r)) (sign END ∷ k) n refl last))
  basic_lex (Trap x p) d r k n s g =
      let last = a_line d (a_key END tt some_byte refl s g) in
      let body = a_key IN tt some_byte refl (arms_stop p (suc d) _) (arms_lex p (suc d) (line d (word END r)) (sign END ∷ k) n.1 refl last) in
      a_line d (a_key TRAP tt some_byte refl refl (a_space 32 refl (a_name x n.0 refl (a_space 32 refl body))))
  basic_lex (Signal x p) d r k n s g =
      let last = a_line d (a_key END tt some_byte refl s g) in
      let body = a_key IN tt some_byte refl (arms_stop p (suc d) _) (arms_lex p (suc d) (line d (word END r)) (sign END ∷ k) n.1 refl last) in
      a_line d (a_key SIGNAL tt some_byte refl refl (a_space 32 refl (a_name x n.0 refl (a_space 32 refl body))))
  basic_lex (Bracket p) d r k n s g =
      a_line d (a_bracket (arms_lex p (suc d) (line d (CLOSED ∷ r)) (sign CLOSED ∷ k) n refl (a_line d (a_closed g))))

-- The header.
unfoldable pub AllNamed : List (List ℕ) → Type 0
AllNamed [] = Unit {0}
AllNamed (x ∷ xs) = Nameable x × AllNamed xs

names_lex : (xs : List (List ℕ)) (x : List ℕ) (r : List ℕ) (k : List Token) → Nameable x → AllNamed xs → Lexes r k → Lexes (names_text x xs r) (names x xs k)
unfolding names_text names AllNamed
names_lex [] x r k n ns g = a_name x n refl (a_semicolon g)
names_lex (y ∷ ys) x r k n ns g = a_name x n refl (a_comma (a_space 32 refl (names_lex ys y r k ns.0 ns.1 g)))

part_lex : (s : ℕ) (xs : List (List ℕ)) (r : List ℕ) (k : List Token) → T (wordy (get_or keywords s [])) → (get_or keywords s [] ≡ [] → ⊥) → word_token (get_or keywords s []) ≡ sign s → AllNamed xs
    → Lexes r k → Lexes (part_text s xs r) (part s xs k)
unfolding part_text part AllNamed
part_lex s [] r k v n e ns g = g
part_lex s (x ∷ xs) r k v n e ns g = a_line 0 (a_key s v n e refl (a_space 32 refl (names_lex xs x r k ns.0 ns.1 g)))

-- The whole text.
pub text_lex : (t : Text) → t.version < 65536 → AllNamed t.inputs → AllNamed t.outputs → arms_named t.body → tokens (text_bytes t) ≡ spelt t
unfolding text_bytes spelt word_token word_or keyword_from same
text_lex t l i o n =
    let body = arms_lex t.body 0 (10 ∷ []) [] n refl (a_space 10 refl no_bytes) in
    let outs = part_lex OUTPUT t.outputs (arms_text t.body 0 (10 ∷ [])) (arms t.body []) tt some_byte refl o body in
    let ins = part_lex INPUT t.inputs (part_text OUTPUT t.outputs (arms_text t.body 0 (10 ∷ []))) (part OUTPUT t.outputs (arms t.body [])) tt some_byte refl i outs in
    (a_key VERSION tt some_byte refl refl (a_space 32 refl
    (a_token (decimal t.version) (number t.version) (decimal_wordy t.version) (λ e. decimal_some t.version t.version [] e) (version_token t.version l) refl (a_semicolon ins)))
    ).lexes (length (text_bytes t)) 0 (omega arith)
