-- What the answer to a whole reading says of the reading, for those who call the reader.
use mathlib.Core.Path.{◌≡◌, refl, sym, ◌∙◌, ap, subst}
use mathlib.Core.List.{List}
use Prim.Native.Nat.{ℕ}
use Rattle.refusals.specs.Refusals.{number, why_of}
use Rattle.refusals.proofs.Laws.{number_back, of_a_block}
use Rattle.tables.specs.Table.{Has}
use Rattle.tables.specs.declared.Table.{Table}
use Rattle.block.specs.Format.{Good, Reading, good, turned_down, reading}
use Rattle.block.specs.Told.{refusal_of, summary_of, answer_to, InTable, ReadWhole}
use Rattle.block.specs.declared.whole.Summary.{Summary}
use Rattle.std.specs.Prelude.{Result, Ok, Err}
use Rattle.refusals.specs.declared.Refused.{Refused}
use Rattle.block.proofs.GoodReadings.{numbers}

answered_good : (x : Reading) (s : Summary) → answer_to x ≡ Ok s → (g : Good) × (x ≡ good g) × (summary_of g ≡ s)
unfolding answer_to
answered_good (good g) s e = (g, refl, cc)
answered_good (turned_down n at) s e = let z : ⊥ = cc in absurd z

answered_refused : (x : Reading) {e : Refused} → answer_to x ≡ Err e → (n : ℕ) × (x ≡ turned_down n e.place) × (why_of n ≡ e.why)
unfolding answer_to
answered_refused (good g) q = let z : ⊥ = cc in absurd z
answered_refused (turned_down n at) {e} q =
    let w : refusal_of n at ≡ e = cc in
    (n, (λ i. turned_down n ((w i).place)), (λ i. (w i).why))

module _ {x : Reading} {tab : Table} {a : Result Summary Refused} (w : ReadWhole x tab a) where
  -- A good answer: the reading is good, with the answer's values.
  pub was_good : {s : Summary} → a ≡ Ok s → (g : Good) × (x ≡ good g) × (summary_of g ≡ s)
  was_good {s} e = answered_good x s (sym w.answered ∙ e)

  -- The table has the tree of a good reading.
  pub has_body : {g : Good} → x ≡ good g → Has tab 0 g.body
  unfolding InTable
  has_body e = subst (λ (y : Reading). InTable y tab) e w.stands

-- A refusal: the reading is turned down with its number, which is one of 1 to 8 and so has that name.
pub was_turned_down : (b : List ℕ) {tab : Table} {a : Result Summary Refused} → ReadWhole (reading b) tab a → {e : Refused} → a ≡ Err e → reading b ≡ turned_down (number e.why) e.place
was_turned_down b w {e} q =
    let r = answered_refused (reading b) (sym w.answered ∙ q) in
    let k = numbers b r.0 e.place r.1 in
    let n : r.0 ≡ number e.why = sym (number_back r.0 (of_a_block r.0 k.0 k.1)) ∙ ap number r.2 in
    r.1 ∙ ap (λ (n : ℕ). turned_down n e.place) n
