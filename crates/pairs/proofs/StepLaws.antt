-- One instant of both blocks over words: one lemma for each way through the code. Assumes nothing.
use mathlib.Core.Path.{◌≡◌, refl, sym, ap, ap₂, ◌∙◌, subst}
use mathlib.Core.Bool.{Bool, not, ◌&&◌, and-false}
use mathlib.Core.List.{List}
use Prim.Native.Nat.{ℕ, ◌^◌, ◌<◌}
use lib.Dec.{eqb}
use borrow.Author.Tests.{eq-eqb, ne_eqb}
use Rattle.std.specs.Prelude.{Option, None, Some}
use Rattle.sets.specs.Numbers.{Numbers}
use Rattle.sets.specs.Words.{bits, word, set_of}
use Rattle.sets.proofs.Words.{is_word}
use Rattle.rules.specs.Statements.{Block}
use Rattle.rules.specs.Events.{Status, present, Hearing, all_heard}
use Rattle.rules.specs.States.{State, active_of, next}
use Rattle.rules.specs.Rounds.{outputs_with, Answer, answered, not_constructive, react}
use Rattle.theorems.specs.Traces.{after}
use Rattle.evaluate.specs.Reacts.{state_of, OutputsAre, IsAnswer, Reacts}
use Rattle.evaluate.specs.declared.rounds.Done.{Done}
use Rattle.evaluate.specs.declared.rounds.Reacted.{Reacted}
use Rattle.pairs.specs.Blocks.{States, told_alike, says, both_after, told_apart}
use Rattle.pairs.specs.Rows.{Words, Holds, Told, Stepped}
use Rattle.pairs.specs.declared.rows.Pair.{Pair}

-- the present outputs as a word
its_present : (b : Block) (outs : List Status) (n : ℕ) (r : Reacted) → r.marks.present < 2 ^ 64 → OutputsAre b outs n r → r.marks.present ≡ word 64 (outputs_with present b outs)
its_present b outs n r f o = is_word 64 (record { bit = λ k. ap (λ (A : Numbers). A k) o.present_is }) f

module _ (r q : Reacted) (fr : r.marks.present < 2 ^ 64) (fq : q.marks.present < 2 ^ 64) (b d : Block) (p : Pair) where
  -- both are answered
  module _ {x y : Done} (t : r.done ≡ Some x) (u : q.done ≡ Some y) where
    both_answered : (a c : Answer) → IsAnswer b a r → IsAnswer d c q → told_alike b a d c ≡ (eqb r.marks.present q.marks.present && eqb x.code.0 y.code.0)
    unfolding IsAnswer told_alike
    both_answered (answered outs e st n) (answered pres k su l) g h =
        let gx : g.done ≡ x = let i = g.done_is in cc in
        let hy : h.done ≡ y = let i = h.done_is in cc in
        ap₂ ◌&&◌ (ap₂ eqb (sym (its_present b outs n r fr g.outputs_are)) (sym (its_present d pres l q fq h.outputs_are)))
        (ap₂ eqb (sym g.done_as.code_is ∙ ap (λ (z : Done). z.code.0) gx) (sym h.done_as.code_is ∙ ap (λ (z : Done). z.code.0) hy))
    both_answered (answered outs e st n) (not_constructive pres l) g h = let i = h.done_is in let z : ⊥ = cc in absurd z
    both_answered (not_constructive outs n) c g h = let i = g.done_is in let z : ⊥ = cc in absurd z

    pub outputs_apart : (r.marks.present ≡ q.marks.present → ⊥) → (a c : Answer) → IsAnswer b a r → IsAnswer d c q → Told b d p a c None
    unfolding Told
    outputs_apart n a c g h = both_answered a c g h ∙ ap (λ (w : Bool). w && eqb x.code.0 y.code.0) (ne_eqb r.marks.present q.marks.present n)

    pub codes_apart : (x.code.0 ≡ y.code.0 → ⊥) → (a c : Answer) → IsAnswer b a r → IsAnswer d c q → Told b d p a c None
    unfolding Told
    codes_apart n a c g h =
        both_answered a c g h ∙ ap (λ (w : Bool). eqb r.marks.present q.marks.present && w) (ne_eqb x.code.0 y.code.0 n) ∙ and-false (eqb r.marks.present q.marks.present)

    -- alike: the next states
    module _ (o : r.marks.present ≡ q.marks.present) (same : x.code.0 ≡ y.code.0) (n : Pair) (goes : (A : Numbers) → next x.code.0 A ≡ state_of n.phase A)
        (wx : (n.first ≡ x.kept) × Words n.first) (wy : (n.second ≡ y.kept) × Words n.second) where
      one : (a : Answer) (st : State) → IsAnswer b a r → (after st a ≡ state_of n.phase (set_of n.first)) × (active_of (after st a) ≡ set_of n.first)
      unfolding IsAnswer
      one (answered outs e su k) st g =
          let gx : g.done ≡ x = let i = g.done_is in cc in
          let kept : g.done.kept ≡ n.first = ap (λ (z : Done). z.kept) gx ∙ sym wx.0 in
          let code : g.done.code.0 ≡ x.code.0 = ap (λ (z : Done). z.code.0) gx in (
            g.done_as.state_is ∙ ap₂ next (sym g.done_as.code_is ∙ code) (ap set_of kept) ∙ goes (set_of n.first),
            sym g.done_as.kept_is ∙ ap set_of kept,
          )
      one (not_constructive outs k) st g = let i = g.done_is in let z : ⊥ = cc in absurd z

      two : (c : Answer) (st : State) → IsAnswer d c q → (after st c ≡ state_of n.phase (set_of n.second)) × (active_of (after st c) ≡ set_of n.second)
      unfolding IsAnswer
      two (answered outs e su k) st h =
          let hy : h.done ≡ y = let i = h.done_is in cc in
          let kept : h.done.kept ≡ n.second = ap (λ (z : Done). z.kept) hy ∙ sym wy.0 in
          let code : h.done.code.0 ≡ x.code.0 = ap (λ (z : Done). z.code.0) hy ∙ sym same in (
            h.done_as.state_is ∙ ap₂ next (sym h.done_as.code_is ∙ code) (ap set_of kept) ∙ goes (set_of n.second),
            sym h.done_as.kept_is ∙ ap set_of kept,
          )
      two (not_constructive outs k) st h = let i = h.done_is in let z : ⊥ = cc in absurd z

      pub both_go : (a c : Answer) → IsAnswer b a r → IsAnswer d c q → Told b d p a c (Some n)
      unfolding Told
      both_go a c g h = (
        both_answered a c g h ∙ ap₂ ◌&&◌ (eq-eqb r.marks.present q.marks.present o) (eq-eqb x.code.0 y.code.0 same),
        λ st k.
            let e = one a st.of_first g in
            let f = two c st.of_second h in
            record { first_is = e.0; second_is = f.0; first_active = e.1; second_active = f.1; first_words = wx.1; second_words = wy.1 },
      )

  -- both are 13, and keep their states
  pub both_stay : r.done ≡ None → q.done ≡ None → (a c : Answer) → IsAnswer b a r → IsAnswer d c q → Told b d p a c (Some p)
  unfolding IsAnswer told_alike Told
  both_stay t u (answered outs e st n) c g h = let i = g.done_is in let z : ⊥ = cc in absurd z
  both_stay t u (not_constructive outs n) (answered pres k su l) g h = let i = h.done_is in let z : ⊥ = cc in absurd z
  both_stay t u (not_constructive outs n) (not_constructive pres l) g h = (refl, λ x k. k)

  -- one is 13, and the other is answered
  pub first_only : {x : Done} → r.done ≡ Some x → q.done ≡ None → (a c : Answer) → IsAnswer b a r → IsAnswer d c q → Told b d p a c None
  unfolding IsAnswer told_alike Told
  first_only t u (answered outs e st n) (answered pres k su l) g h = let i = h.done_is in let z : ⊥ = cc in absurd z
  first_only t u (answered outs e st n) (not_constructive pres l) g h = refl
  first_only t u (not_constructive outs n) c g h = let i = g.done_is in let z : ⊥ = cc in absurd z

  pub second_only : {y : Done} → r.done ≡ None → q.done ≡ Some y → (a c : Answer) → IsAnswer b a r → IsAnswer d c q → Told b d p a c None
  unfolding IsAnswer told_alike Told
  second_only t u (answered outs e st n) c g h = let i = g.done_is in let z : ⊥ = cc in absurd z
  second_only t u (not_constructive outs n) (answered pres k su l) g h = refl
  second_only t u (not_constructive outs n) (not_constructive pres l) g h = let i = h.done_is in let z : ⊥ = cc in absurd z

-- the whole step
module _ (b d : Block) (p : Pair) (set : ℕ) (heard : Hearing) (r q : Reacted)
    (i : ℕ) (hears : (x : Block) → x.inputs ≡ i → heard ≡ all_heard x (bits set)) (of_b : b.inputs ≡ i) (of_d : d.inputs ≡ i)
    (first_reacts : Reacts b p.phase (set_of p.first) heard r) (second_reacts : Reacts d p.phase (set_of p.second) heard q) where
  said_first : (x : States) → Holds x p → IsAnswer b (says b x.of_first set) r
  unfolding Reacts
  said_first x h = subst (λ (y : Answer). IsAnswer b y r) (ap₂ (react b) (sym h.first_is) (hears b of_b)) first_reacts

  said_second : (x : States) → Holds x p → IsAnswer d (says d x.of_second set) q
  unfolding Reacts
  said_second x h = subst (λ (y : Answer). IsAnswer d y q) (ap₂ (react d) (sym h.second_is) (hears d of_d)) second_reacts

  pub both_step : (n : Option Pair) → ((b d : Block) (a c : Answer) → IsAnswer b a r → IsAnswer d c q → Told b d p a c n) → Stepped b d p set n
  unfolding Stepped Told told_apart both_after
  both_step None t = λ x h. ap not (t b d _ _ (said_first x h) (said_second x h))
  both_step (Some n) t = λ x h. let y = t b d _ _ (said_first x h) (said_second x h) in (ap not y.0, y.1 x h)
