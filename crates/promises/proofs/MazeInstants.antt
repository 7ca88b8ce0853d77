-- The first instant of a block of the maze's form: what is told of it are the final statuses, and its code is known exactly where every output is decided, since such a block has
-- no pause, exit or local: by induction on the form. Assumes nothing.
use mathlib.Core.Path.{◌≡◌, refl, sym, ap, ap₂, ◌∙◌, subst}
use mathlib.Core.Logic.{◌⊎◌, inl, inr}
use mathlib.Core.Bool.{Bool, true, false, cond, ◌&&◌, ◌||◌}
use mathlib.Core.List.{List, [], ◌∷◌}
use mathlib.Core.Option.{Option, none, some}
use Prim.Native.Nat.{ℕ, zero, suc, ◌+◌, ◌-◌, ◌≤◌, ◌<◌}
use native.Mathlib.Omega.{arith}
use lib.Dec.{T, eqb, ltb, ltb→lt}
use lib.ListN.{length, get_or}
use borrow.Author.Tests.{ltb-false, le-ltb, le-leb}
use Rattle.sets.specs.Numbers.{Numbers, empty, lowest}
use Rattle.sets.specs.Words.{bits, word}
use Rattle.sets.proofs.Members.{is_true, cases, or_out}
use Rattle.sets.proofs.Counts.{lowest_some, lowest_none}
use Rattle.sets.proofs.Maxima.{maxima_in}
use Rattle.sets.proofs.Words.{bits_word_in}
use Rattle.rules.specs.Statements.{Block, Stmt}
use Rattle.rules.specs.Events.{Status, present, absent, unknown, known, Event, Hearing, all_heard, event}
use Rattle.rules.specs.Instant.{started}
use Rattle.rules.specs.MustCan.{must, choose, Given, gives}
use Rattle.rules.specs.States.{fresh, step, kept}
use Rattle.rules.specs.Rounds.{same, outputs_with, undecided, final_of, answer, code_width, react}
use Rattle.theorems.specs.Reach.{at_first}
use Rattle.theorems.proofs.Reach.{event_output, reached_length}
use Rattle.theorems.proofs.RoundsEnd.{final, last_unchanged, last_reached, none_undecided}
use Rattle.block.specs.Format.{Good}
use Rattle.block.specs.Good.{Scoped}
use Rattle.reaction.specs.Instants.{NOT_CONSTRUCTIVE, block_of, Told, told_reaction}
use Rattle.mazes.specs.Mazes.{OfForm, an_emit, with_then, with_else, a_parallel}
use Rattle.mazes.specs.AsRounds.{final_status}
use Rattle.mazes.proofs.AsRounds.{input_is}
use Rattle.promises.specs.Mazes.{told_status}

-- With every tested signal decided the code is 0.
chosen : (v : Status) (P Q P? Q? : Given) → (v ≡ unknown → ⊥) → T (P.codes 0) → T (Q.codes 0) → T ((choose must v P Q P? Q?).codes 0)
chosen present P Q P? Q? f s t = s
chosen absent P Q P? Q? f s t = t
chosen unknown P Q P? Q? f s t = absurd (f refl)

module _ (i o : ℕ) (E : Event) (decided : (s : ℕ) → s < i + o → E s ≡ unknown → ⊥) where
  declared : (s : ℕ) → T (ltb s (i + o) || false) → s < i + o
  declared s t = go (or_out (ltb s (i + o)) false t)
    where
      go : T (ltb s (i + o)) ⊎ T false → s < i + o
      go (inl u) = ltb→lt s (i + o) u
      go (inr u) = absurd u

  code_known : {p : Stmt} → OfForm p → Scoped i o empty p → T ((gives must (started p) E).codes 0)
  unfolding gives started Scoped
  code_known (an_emit s) c = tt
  code_known (with_then s f) c = chosen (E s) _ _ _ _ (decided s (declared s c.0)) (code_known f c.1) tt
  code_known (with_else s f) c = chosen (E s) _ _ _ _ (decided s (declared s c.0)) tt (code_known f c.2)
  code_known (a_parallel {p} {q} f g) c = maxima_in (gives must (started p) E).codes (gives must (started q) E).codes 0 0 (code_known f c.0) (code_known g c.1)

-- Statuses of which none, or some, are undecided.
none_left : (vs : List Status) → undecided vs ≡ 0 → (i : ℕ) → i < length vs → get_or vs i unknown ≡ unknown → ⊥
unfolding undecided
none_left [] e i l q = omega arith
none_left (present ∷ vs) e zero l q = let z : ◌≡◌ {A = ℕ} 0 1 = cc in absurd (omega arith)
none_left (absent ∷ vs) e zero l q = let z : ◌≡◌ {A = ℕ} 0 1 = cc in absurd (omega arith)
none_left (unknown ∷ vs) e zero l q = omega arith
none_left (v ∷ vs) e (suc i) l q = none_left vs (omega (arith, e)) i (omega arith) q

some_left : (vs : List Status) → (undecided vs ≡ 0 → ⊥) → (i : ℕ) × (i < length vs) × (get_or vs i unknown ≡ unknown)
unfolding undecided
some_left [] f = absurd (f refl)
some_left (present ∷ vs) f = let r = some_left vs (λ e. f (omega (arith, e))) in (suc r.0, omega (arith, r.1), r.2)
some_left (absent ∷ vs) f = let r = some_left vs (λ e. f (omega (arith, e))) in (suc r.0, omega (arith, r.1), r.2)
some_left (unknown ∷ vs) f = (0, omega arith, refl)

-- What is told of an output is its status.
by_words : (v : Status) → cond (same v present) present (cond (same v absent || false) absent unknown) ≡ v
by_words present = refl
by_words absent = refl
by_words unknown = refl

by_answer : (v : Status) (z : Bool) → (v ≡ unknown → ⊥) → cond (same v present) present (cond (z || true) absent unknown) ≡ v
by_answer present z f = refl
by_answer absent true f = refl
by_answer absent false f = refl
by_answer unknown z f = absurd (f refl)

module _ (g : Good) (set : ℕ) (few : g.header.inputs + g.header.outputs ≤ 64) where
  abbrev b : Block
  b = block_of g

  abbrev heard : Hearing
  heard = all_heard b (bits set)

  abbrev vs : List Status
  vs = (final_of b fresh heard).statuses

  abbrev codes : Numbers
  codes = (gives must (step b.body fresh) (event b heard vs)).codes

  told_output : (t : Told) (n : ℕ) → ltb n g.header.inputs ≡ false
      → told_status g set t n ≡ cond (bits t.present_outputs n) present (cond (bits t.absent_outputs n || eqb t.number 0) absent unknown)
  unfolding told_status
  told_output t n e =
      ap (λ (z : Bool). cond z (known (bits set n)) (cond (bits t.present_outputs n) present (cond (bits t.absent_outputs n || eqb t.number 0) absent unknown))) e

  told_input : (t : Told) (n : ℕ) → T (ltb n g.header.inputs) → told_status g set t n ≡ known (bits set n)
  unfolding told_status
  told_input t n u =
      ap (λ (z : Bool). cond z (known (bits set n)) (cond (bits t.present_outputs n) present (cond (bits t.absent_outputs n || eqb t.number 0) absent unknown)))
      (is_true (ltb n g.header.inputs) u)

  all_outputs : length vs ≡ b.outputs
  all_outputs = reached_length b (step b.body fresh) heard (last_reached b (step b.body fresh) heard at_first (final b fresh heard).ends)

  -- Where the code is known no output is undecided.
  none_open : (c : ℕ) → T (codes c) → (i : ℕ) → i < b.outputs → get_or vs i unknown ≡ unknown → ⊥
  none_open c t i l =
      none_left vs (none_undecided b (step b.body fresh) heard vs (last_unchanged b (step b.body fresh) heard (final b fresh heard).ends) c t) i (omega (arith, all_outputs))

  module _ (n : ℕ) (out : ltb n g.header.inputs ≡ false) (l : n < g.header.inputs + g.header.outputs) where
    word_at : (v : Status) → bits (word 64 (outputs_with v b vs)) n ≡ same (get_or vs (n - g.header.inputs) unknown) v
    unfolding outputs_with
    word_at v =
        bits_word_in 64 (outputs_with v b vs) (omega arith)
        ∙ ap (λ (z : Bool). z && same (get_or vs (n - g.header.inputs) unknown) v) (le-leb g.header.inputs n (ltb-false n g.header.inputs out))

    output_told : (o : Option ℕ) → lowest code_width codes ≡ o → (A : Numbers) → told_status g set (told_reaction b (answer (final_of b fresh heard) o A)) n ≡ get_or vs (n - g.header.inputs) unknown
    unfolding answer
    output_told none q A =
        told_output (told_reaction b (answer (final_of b fresh heard) none A)) n out
        ∙ ap₂ (λ (x y : Bool). cond x present (cond (y || false) absent unknown)) (word_at present) (word_at absent) ∙ by_words (get_or vs (n - g.header.inputs) unknown)
    output_told (some c) q A =
        let h = ltb-false n g.header.inputs out in
        told_output (told_reaction b (answer (final_of b fresh heard) (some c) A)) n out
        ∙ ap (λ (x : Bool). cond x present (cond (bits 0 n || true) absent unknown)) (word_at present)
        ∙ by_answer (get_or vs (n - g.header.inputs) unknown) (bits 0 n) (none_open c (lowest_some code_width codes q).1 (n - g.header.inputs) (omega arith))

  -- What is told of a declared signal is its final status.
  pub told_is_final : (n : ℕ) → n < g.header.inputs + g.header.outputs → told_status g set (told_reaction b (react b fresh heard)) n ≡ final_status b (bits set) n
  unfolding react final_status
  told_is_final n l = go (cases (ltb n g.header.inputs))
    where
      go : T (ltb n g.header.inputs) ⊎ (ltb n g.header.inputs ≡ false) → told_status g set (told_reaction b (react b fresh heard)) n ≡ final_status b (bits set) n
      go (inl t) = told_input (told_reaction b (react b fresh heard)) n t ∙ sym (input_is b (bits set) vs n t)
      go (inr e) =
          output_told n e l (lowest code_width codes) refl (kept (step b.body fresh) (event b heard vs))
          ∙ sym (event_output b heard vs (n - g.header.inputs) n e refl)

  -- Some output is undecided exactly where 13 is told.
  pub status_out : (i : ℕ) → final_status b (bits set) (g.header.inputs + i) ≡ get_or vs i unknown
  unfolding final_status
  status_out i = event_output b heard vs i (g.header.inputs + i) (le-ltb (g.header.inputs + i) g.header.inputs (omega arith)) (omega arith)

  known_apart : (z : Bool) → known z ≡ unknown → ⊥
  known_apart true e = let z : ◌≡◌ {A = ℕ} 0 1 = cc in absurd (omega arith)
  known_apart false e = let z : ◌≡◌ {A = ℕ} 0 1 = cc in absurd (omega arith)

  all_known : undecided vs ≡ 0 → (s : ℕ) → s < g.header.inputs + g.header.outputs → final_status b (bits set) s ≡ unknown → ⊥
  unfolding final_status
  all_known e s l q = go (cases (ltb s g.header.inputs))
    where
      go : T (ltb s g.header.inputs) ⊎ (ltb s g.header.inputs ≡ false) → ⊥
      go (inl t) = known_apart (bits set s) (sym (input_is b (bits set) vs s t) ∙ q)
      go (inr f) =
          let h = ltb-false s g.header.inputs f in
          none_left vs e (s - g.header.inputs) (omega (arith, all_outputs)) (sym (event_output b heard vs (s - g.header.inputs) s f refl) ∙ q)

  abbrev pub Open : Type 0
  Open = (i : ℕ) × (i < g.header.outputs) × (get_or vs i unknown ≡ unknown)

  pub drawn_open : (n : ℕ) → n < g.header.inputs + g.header.outputs → final_status b (bits set) n ≡ unknown → Open
  unfolding final_status
  drawn_open n l q = go (cases (ltb n g.header.inputs))
    where
      go : T (ltb n g.header.inputs) ⊎ (ltb n g.header.inputs ≡ false) → Open
      go (inl t) = absurd (known_apart (bits set n) (sym (input_is b (bits set) vs n t) ∙ q))
      go (inr f) =
          let h = ltb-false n g.header.inputs f in
          (n - g.header.inputs, omega arith, sym (event_output b heard vs (n - g.header.inputs) n f refl) ∙ q)

  by_code : (o : Option ℕ) → lowest code_width codes ≡ o → (A : Numbers) → Open → (told_reaction b (answer (final_of b fresh heard) o A)).number ≡ NOT_CONSTRUCTIVE
  unfolding answer
  by_code none q A x = refl
  by_code (some c) q A x = absurd (none_open c (lowest_some code_width codes q).1 x.0 x.1 x.2)

  pub open_is_13 : Open → (told_reaction b (react b fresh heard)).number ≡ NOT_CONSTRUCTIVE
  unfolding react
  open_is_13 = by_code (lowest code_width codes) refl (kept (step b.body fresh) (event b heard vs))

  module _ (formed : OfForm g.body) (scoped : Scoped g.header.inputs g.header.outputs empty g.body) where
    code_there : undecided vs ≡ 0 → T (codes 0)
    unfolding final_status step
    code_there e = code_known g.header.inputs g.header.outputs (event b heard vs) (all_known e) formed scoped

    by_number : (o : Option ℕ) → lowest code_width codes ≡ o → (A : Numbers) → (told_reaction b (answer (final_of b fresh heard) o A)).number ≡ NOT_CONSTRUCTIVE → Open
    unfolding answer
    by_number none q A e =
        let r = some_left vs (λ z. lowest_none code_width codes q 0 (omega arith) (code_there z)) in
        (r.0, subst (λ (k : ℕ). r.0 < k) all_outputs r.1, r.2)
    by_number (some c) q A e = let z : ◌≡◌ {A = ℕ} 0 13 = e in absurd (omega arith)

    pub thirteen_is_open : (told_reaction b (react b fresh heard)).number ≡ NOT_CONSTRUCTIVE → Open
    unfolding react
    thirteen_is_open = by_number (lowest code_width codes) refl (kept (step b.body fresh) (event b heard vs))
