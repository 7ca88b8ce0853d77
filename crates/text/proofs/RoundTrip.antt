-- Reading what was written gives back the same block bytes: the text of a good block has the tokens of its tree, which stands for the
-- block's header and records, and these are the block. Assumes nothing.
use mathlib.Core.Path.{◌≡◌, refl, sym, ap, ap₂, ◌∙◌, subst}
use mathlib.Core.Bool.{Bool, true, false, cond, ◌||◌}
use mathlib.Core.Logic.{⊎_elim}
use mathlib.Core.List.{List, [], ◌∷◌, ◌++◌, map}
use mathlib.Core.Option.{some}
use Prim.Native.Nat.{ℕ, zero, suc, ◌+◌, ◌-◌, ◌≤◌, ◌<◌}
use native.Mathlib.Nat.{add-zero, zero-add}
use native.Mathlib.Omega.{arith}
use borrow.Author.Tests.{le-ltb}
use lib.Dec.{T, ltb, ltb→lt, eqb, eqb→eq, eqb_refl}
use lib.ListN.{length}
use Rattle.sets.specs.Numbers.{empty}
use Rattle.sets.proofs.Members.{or_out}
use Rattle.rules.specs.Statements.{depth, Stmt, nothing, pause, emit, present?◌then◌else◌, suspend◌on◌, ◌⨾◌, loop, ◌parallel◌, trap, exit, local, Trapped, from}
use Rattle.tables.specs.Table.{Small}
use Rattle.block.specs.Format.{Header, Good, good, reading, preorder}
use Rattle.block.specs.Good.{nested_traps, locals}
use Rattle.block.proofs.GoodReadings.{sound}
use Rattle.records.specs.Numerals.{Bytes}
use Rattle.writing.specs.Written.{header_bytes, records, block_bytes, Writable}
use Rattle.writing.specs.Answers.{writes, refuses}
use Rattle.writing.proofs.Same.{same_bytes, good_writable}
use Rattle.text.specs.Tokens.{same, tokens}
use Rattle.text.specs.Grammar.{Text, spelt}
use Rattle.text.specs.Meaning.{Declaration, signal_named, signal_in, declared, if_new, Part, declaring, arms_means, text_means}
use Rattle.text.specs.Reader.{checked, block_of, text_read}
use Rattle.text.specs.Shown.{signal_word, trap_word, forms, shown, text_bytes}
use Rattle.text.proofs.ShownMeans.{Around, same_self, shown_means}
use Rattle.text.proofs.Words.{signal_nameable, trap_nameable, names_apart}
use Rattle.text.proofs.Lexing.{arms_named, chain_named, basic_named, AllNamed, text_lex}
use Rattle.text.proofs.Exactly.{meaning_of}
use Rattle.text.proofs.Places.{text_gets}

module _ (i o : ℕ) where
  abbrev f : ℕ → List ℕ
  f = signal_word i o

  -- The three forms of a statement have the same names.
  chain_too : (p : Stmt) (k : ℕ) → arms_named (forms f trap_word k p).as_arms → chain_named (forms f trap_word k p).as_chain
  unfolding forms arms_named
  chain_too nothing k n = n
  chain_too (pause m) k n = n
  chain_too (emit s) k n = n
  chain_too (present? s then p else q) k n = n
  chain_too (suspend p on s) k n = n
  chain_too (p ⨾ q) k n = n
  chain_too (loop p) k n = n
  chain_too (p parallel q) k n = n
  chain_too (trap p) k n = n
  chain_too (exit (depth d)) k n = n
  chain_too (local s p) k n = n

  basic_too : (p : Stmt) (k : ℕ) → arms_named (forms f trap_word k p).as_arms → basic_named (forms f trap_word k p).as_basic
  unfolding forms arms_named
  basic_too nothing k n = n
  basic_too (pause m) k n = n
  basic_too (emit s) k n = n
  basic_too (present? s then p else q) k n = n
  basic_too (suspend p on s) k n = n
  basic_too (p ⨾ q) k n = n
  basic_too (loop p) k n = n
  basic_too (p parallel q) k n = n
  basic_too (trap p) k n = n
  basic_too (exit (depth d)) k n = n
  basic_too (local s p) k n = n

  -- All names that are shown are names.
  shown_named : (p : Stmt) (k : ℕ) → Small p → Trapped k p → k + nested_traps p < 64 → arms_named (forms f trap_word k p).as_arms
  unfolding forms arms_named Small Trapped nested_traps
  shown_named nothing k s t l = tt
  shown_named (pause m) k s t l = tt
  shown_named (emit x) k s t l = signal_nameable i o x s
  shown_named (present? x then p else q) k s t l =
      (signal_nameable i o x s.0, shown_named p k s.1 t.0 (omega (arith, l)), shown_named q k s.2 t.1 (omega (arith, l)))
  shown_named (suspend p on x) k s t l = (shown_named p k s.1 t l, signal_nameable i o x s.0)
  shown_named (p ⨾ q) k s t l =
      (basic_too p k (shown_named p k s.0 t.0 (omega (arith, l))), chain_too q k (shown_named q k s.1 t.1 (omega (arith, l))))
  shown_named (loop p) k s t l = shown_named p k s t l
  shown_named (p parallel q) k s t l = (chain_too p k (shown_named p k s.0 t.0 (omega (arith, l))), shown_named q k s.1 t.1 (omega (arith, l)))
  shown_named (trap p) k s t l = (trap_nameable k (omega (arith, l)), shown_named p (suc k) s t (omega (arith, l)))
  shown_named (exit (depth d)) k s t l = trap_nameable (k - 1 - d) (omega (arith, l))
  shown_named (local x p) k s t l = (signal_nameable i o x s.0, shown_named p k s.1 t l)

  header_named : (m n : ℕ) → n + m ≤ 64 → AllNamed (map f (from n m))
  unfolding AllNamed from
  header_named zero n l = tt
  header_named (suc m) n l = (signal_nameable i o n (omega (arith, l)), header_named m (suc n) (omega (arith, l)))

  -- The header declares its signals by their numbers, and nothing else.
  record Counted (n : ℕ) (ds : List Declaration) : Type 0 where
    signals : (s : ℕ) → s < n → signal_in ds (f s) ≡ some s
    new_signals : (s : ℕ) → n ≤ s → declared ds (f s) ≡ false
    new_traps : (j : ℕ) → declared ds (trap_word j) ≡ false

  neither : {y z : Bool} → y ≡ false → z ≡ false → (y || z) ≡ false
  neither e h = ap₂ (λ (y z : Bool). y || z) e h

  one_more : {n : ℕ} {ds : List Declaration} → Counted n ds → Counted (suc n) (signal_named (f n) n ∷ ds)
  unfolding signal_in declared
  one_more {n} {ds} a = record {
    signals = λ s l. its s (eqb n s) refl l;
    new_signals = λ s l. neither ((names_apart i o).signals_apart n s (λ e. omega (arith, e, l))) (a.new_signals s (omega (arith, l)));
    new_traps = λ j. neither ((names_apart i o).signal_trap n j) (a.new_traps j);
  }
    where
      less : (n s : ℕ) → (n ≡ s → ⊥) → s < suc n → s < n
      less n s other l = omega (arith, other, l)

      its : (s : ℕ) (z : Bool) → eqb n s ≡ z → s < suc n → cond (same (f n) (f s)) (some n) (signal_in ds (f s)) ≡ some s
      its s true q l =
          let e = eqb→eq n s (subst T (sym q) tt) in
          subst (λ (m : ℕ). cond (same (f n) (f m)) (some n) (signal_in ds (f m)) ≡ some m) e (ap (λ (z : Bool). cond z (some n) (signal_in ds (f n))) (same_self (f n)))
      its s false q l =
          let other : n ≡ s → ⊥ = λ e. subst T q (subst (λ (m : ℕ). T (eqb n m)) e (eqb_refl n)) in
          ap (λ (z : Bool). cond z (some n) (signal_in ds (f s))) ((names_apart i o).signals_apart n s other) ∙ a.signals s (less n s other l)

  declares : (m n : ℕ) (ds : List Declaration) → Counted n ds → (es : List Declaration) × (declaring ds n (map f (from n m)) ≡ some es) × Counted (n + m) es
  unfolding declaring from
  declares zero n ds a = (ds, refl, subst (λ (k : ℕ). Counted k ds) (sym (add-zero n)) a)
  declares (suc m) n ds a =
      let r = declares m (suc n) (signal_named (f n) n ∷ ds) (one_more a) in
      let count : suc n + m ≡ n + suc m = omega arith in (
        r.0,
        ap (λ (z : Bool). if_new z (declaring (signal_named (f n) n ∷ ds) (suc n) (map f (from (suc n) m)))) (a.new_signals n (omega arith)) ∙ r.1,
        subst (λ (k : ℕ). Counted k r.0) count r.2,
      )

  around_start : {es : List Declaration} → Counted (i + o) es → Around f trap_word (names_apart i o) i o empty 0 (i + o) es
  around_start a = record {
    signals = λ s t. ⊎_elim (λ l. a.signals s (ltb→lt s (i + o) l)) (λ l. absurd l) (or_out (ltb s (i + o)) false t);
    traps = λ d l. absurd (omega (arith, l));
    new_signals = a.new_signals;
    new_traps = λ j l. a.new_traps j;
  }

length_row : (f : ℕ → List ℕ) (n m : ℕ) → length (map f (from n m)) ≡ m
unfolding from
length_row f n zero = refl
length_row f n (suc m) = ap suc (length_row f (suc n) m)

-- What the text of a block means: the block's header and records.
module _ (h : Header) (p : Stmt) (w : Writable h p) where
  abbrev t : Text
  t = shown h p

  text_stands : text_means (shown h p) ≡ some (record { header = h; records = records (preorder p) })
  unfolding shown declaring signal_in declared
  text_stands =
      let i = h.inputs in
      let o = h.outputs in
      let f = signal_word i o in
      let li : length (map f (from 0 i)) ≡ i = length_row f 0 i in
      let lo : length (map f (from i o)) ≡ o = length_row f i o in
      let both : length (map f (from 0 i)) + length (map f (from i o)) ≡ i + o = omega (arith, li, lo) in
      let a = declares i o i 0 [] (record { signals = λ s l. absurd (omega (arith, l)); new_signals = λ s l. refl; new_traps = λ j. refl }) in
      let a₁ = subst (λ (k : ℕ). Counted i o k a.0) (zero-add i) a.2 in
      let b = declares i o o i a.0 a₁ in
      let outs : declaring a.0 (length (map f (from 0 i))) (map f (from i o)) ≡ some b.0 = ap (λ (k : ℕ). declaring a.0 k (map f (from i o))) li ∙ b.1 in
      let body = shown_means f trap_word (names_apart i o) i o p empty 0 (i + o) b.0 (around_start i o b.2) w.trapped w.scoped w.locals_next in
      let part : Part = record { records = records (preorder p); next = i + o + length (locals p) } in
      let means = meaning_of [] t a.0 b.0 part a.1 outs (ap (λ (k : ℕ). arms_means t.body b.0 k) both ∙ body) in
      let counted : i + o + length (locals p) - (length (map f (from 0 i)) + length (map f (from i o))) ≡ h.locals = omega (arith, both, w.locals_counted) in
      means ∙ (λ c. some (record { header = record { version = h.version; inputs = li c; outputs = lo c; locals = counted c }; records = records (preorder p) }))

  text_tokens : Small p → tokens (text_bytes (shown h p)) ≡ spelt (shown h p)
  unfolding shown
  text_tokens s =
      text_lex t w.version_fits (header_named h.inputs h.outputs h.inputs 0 (omega (arith, w.signals)))
      (header_named h.inputs h.outputs h.outputs h.inputs (omega (arith, w.signals)))
      (shown_named h.inputs h.outputs p 0 s w.trapped (omega (arith, w.traps_nested)))

-- The round trip.
pub round_trip : (b : List ℕ) (g : Good) → Bytes b → reading b ≡ good g → text_read (text_bytes (shown g.header g.body)) ≡ writes b
unfolding block_of block_bytes
round_trip b g s e =
    let h = g.header in
    let w = good_writable b s g e in
    let back : header_bytes h ++ records (preorder g.body) ≡ b = same_bytes b s g e in
    text_gets (text_bytes (shown h g.body)) (shown h g.body) (record { header = h; records = records (preorder g.body) })
    (text_tokens h g.body w (sound b g e).small) (text_stands h g.body w)
    ∙ ap (λ (z : Bool). cond z (refuses 4 0) (checked (header_bytes h ++ records (preorder g.body)) (reading (header_bytes h ++ records (preorder g.body)))))
    (le-ltb 64 (h.inputs + h.outputs + h.locals) w.signals)
    ∙ ap (λ (l : List ℕ). checked l (reading l)) back ∙ ap (checked b) e
