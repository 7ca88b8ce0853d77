-- Must is inside can under plus, at any event and by either reading: by induction over the step. A local has the same status for both, since
-- both readings ask under plus where the mark is plus. Assumes nothing.
use mathlib.Core.Path.{◌≡◌, refl, ◌∙◌, ap, ap₂, subst, subst⁻¹}
use mathlib.Core.Bool.{Bool, true, false}
use lib.Dec.{T}
use Rattle.rules.specs.Events.{Status, present, absent, unknown, Event, giving}
use Rattle.rules.specs.Instant.{Step, done, stay, say, leave, test, catch, scope, chain, beside}
use Rattle.rules.specs.MustCan.{Mark, plus, Question, must, can, Given, in_doubt, choose, caught, both, followed, onward, absence_asked, local_status, hidden, gives}
use Rattle.theorems.specs.Order.{Inside}
use Rattle.theorems.specs.Before.{Reading, remark, absence_read, gives_by}
use Rattle.theorems.proofs.Forms.{inside_refl, inside_nothing, caught_inside, hidden_inside, both_inside, followed_inside}

-- The reading in force is the remark's.
asked_is_read : (k : Question) → absence_read remark k ≡ absence_asked k
asked_is_read must = refl
asked_is_read (can m) = refl

pub in_force : (k : Question) (p : Step) (E : Event) → gives_by remark k p E ≡ gives k p E
unfolding gives_by gives
in_force k done E = refl
in_force k (stay A) E = refl
in_force k (say s) E = refl
in_force k (leave d) E = refl
in_force k (test s p q) E = λ i. choose k (E s) (in_force k p E i) (in_force k q E i) (in_force (in_doubt k) p E i) (in_force (in_doubt k) q E i)
in_force k (catch p) E = ap caught (in_force k p E)
in_force k (chain p q) E =
    ap₂ followed (in_force k p E)
    (in_force (onward k ((gives_by remark must p E).codes 0)) q E ∙ ap (λ (g : Given). gives (onward k (g.codes 0)) q E) (in_force must p E))
in_force k (beside p q) E = ap₂ both (in_force k p E) (in_force k q E)
in_force k (scope s p) E =
    let D = giving E s unknown in
    let asked : gives_by remark (absence_read remark k) p D ≡ gives (absence_asked k) p D =
    in_force (absence_read remark k) p D ∙ ap (λ (q : Question). gives q p D) (asked_is_read k) in
    ap (hidden s)
    (in_force k p (giving E s (local_status k s (gives_by remark must p D) (gives_by remark (absence_read remark k) p D)))
    ∙ ap₂ (λ (x y : Given). gives k p (giving E s (local_status k s x y))) (in_force must p D) asked)

choose_within : (v : Status) {p q : Given} (p' q' p? q? : Given) → Inside p p' → Inside q q' → Inside (choose must v p q p q) (choose (can plus) v p' q' p? q?)
choose_within present p' q' p? q? f g = f
choose_within absent p' q' p? q? f g = g
choose_within unknown p' q' p? q? f g = inside_nothing

module _ (r : Reading) (at_plus : r plus ≡ plus) where
  onward_within : (b : Bool) (q : Step) (E : Event) → Inside (gives_by r must q E) (gives_by r (can plus) q E) → T b
      → Inside (gives_by r must q E) (gives_by r (onward (can plus) b) q E)
  onward_within true q E f t = f
  onward_within false q E f t = absurd t

  pub must_in_can_by : (p : Step) (E : Event) → Inside (gives_by r must p E) (gives_by r (can plus) p E)
  unfolding gives_by
  must_in_can_by done E = inside_refl
  must_in_can_by (stay A) E = inside_refl
  must_in_can_by (say s) E = inside_refl
  must_in_can_by (leave d) E = inside_refl
  must_in_can_by (test s p q) E = choose_within (E s) _ _ _ _ (must_in_can_by p E) (must_in_can_by q E)
  must_in_can_by (catch p) E = caught_inside (must_in_can_by p E)
  must_in_can_by (scope s p) E =
      let M = gives_by r must p (giving E s unknown) in
      hidden_inside s
      (subst⁻¹ (λ (m : Mark). Inside (gives_by r must p (giving E s (local_status must s M (gives_by r (can plus) p (giving E s unknown)))))
      (gives_by r (can plus) p (giving E s (local_status (can plus) s M (gives_by r (can m) p (giving E s unknown))))))
      at_plus (must_in_can_by p (giving E s (local_status must s M (gives_by r (can plus) p (giving E s unknown))))))
  must_in_can_by (chain p q) E = followed_inside (must_in_can_by p E) (onward_within ((gives_by r must p E).codes 0) q E (must_in_can_by q E))
  must_in_can_by (beside p q) E = both_inside (must_in_can_by p E) (must_in_can_by q E)

pub must_in_can : (p : Step) (E : Event) → Inside (gives must p E) (gives (can plus) p E)
must_in_can p E =
    subst (λ (g : Given). Inside g (gives (can plus) p E)) (in_force must p E)
    (subst (λ (g : Given). Inside (gives_by remark must p E) g) (in_force (can plus) p E) (must_in_can_by remark refl p E))
