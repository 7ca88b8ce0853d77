-- Where must has a code, can under plus gives nothing more: by induction over the step. With a code known each test on the way is
-- decided, and the first of a sequence has either 0 and no other code, or another and no 0. Assumes nothing.
use mathlib.Core.Path.{◌≡◌}
use mathlib.Core.Logic.{◌⊎◌, inl, inr}
use mathlib.Core.Bool.{Bool, true, false}
use Prim.Native.Nat.{ℕ}
use lib.Dec.{T}
use Rattle.sets.specs.Numbers.{without, only_if}
use Rattle.sets.proofs.Members.{union_out, without_member, without_other, only_if_test, only_if_member}
use Rattle.sets.proofs.Maxima.{maxima_out, downs_out}
use Rattle.rules.specs.Events.{Status, present, absent, unknown, Event, giving}
use Rattle.rules.specs.Instant.{Step, done, stay, say, leave, test, catch, scope, chain, beside}
use Rattle.rules.specs.MustCan.{plus, opened, must, can, Given, choose, followed, onward, absence_asked, local_status, gives}
use Rattle.rules.proofs.OneCode.{one_code}
use Rattle.theorems.specs.Order.{Inside}
use Rattle.theorems.proofs.Forms.{inside_refl, inside_antisym, caught_inside, hidden_inside, both_inside, followed_inside}
use Rattle.theorems.proofs.MustInCan.{must_in_can}

-- What the code of a sequence comes from.
pub data FirstOrBoth (a b : Given) (c : ℕ) : Type 0 where
  only_first : T (a.codes c) → (c ≡ 0 → ⊥) → FirstOrBoth a b c
  then_second : T (a.codes 0) → T (b.codes c) → FirstOrBoth a b c

pub first_or_both : (a b : Given) (c : ℕ) → T ((followed a b).codes c) → FirstOrBoth a b c
first_or_both a b c t = go (union_out (without 0 a.codes) (only_if (a.codes 0) b.codes) c t)
  where
    go : T (without 0 a.codes c) ⊎ T (only_if (a.codes 0) b.codes c) → FirstOrBoth a b c
    go (inl s) = only_first (without_member 0 a.codes c s) (without_other 0 a.codes c s)
    go (inr s) = then_second (only_if_test (a.codes 0) b.codes c s) (only_if_member (a.codes 0) b.codes c s)

choose_exact : (v : Status) {p q : Given} (p' q' p? q? : Given) (c : ℕ) → (T (p.codes c) → Inside p' p) → (T (q.codes c) → Inside q' q)
    → T ((choose must v p q p q).codes c) → Inside (choose (can plus) v p' q' p? q?) (choose must v p q p q)
choose_exact present p' q' p? q? c f g t = f t
choose_exact absent p' q' p? q? c f g t = g t
choose_exact unknown p' q' p? q? c f g t = absurd t

onward_plus : (b : Bool) (q : Step) (E : Event) (g : Given) → T b → Inside (gives (can plus) q E) g → Inside (gives (onward (can plus) b) q E) g
onward_plus true q E g t f = f
onward_plus false q E g t f = absurd t

module _ (p q : Step) (E : Event) (c : ℕ) (f : (d : ℕ) → T ((gives must p E).codes d) → Inside (gives (can plus) p E) (gives must p E))
    (g : (d : ℕ) → T ((gives must q E).codes d) → Inside (gives (can plus) q E) (gives must q E)) where
  chain_exact : FirstOrBoth (gives must p E) (gives must q E) c
      → Inside (followed (gives (can plus) p E) (gives (onward (can plus) ((gives must p E).codes 0)) q E)) (followed (gives must p E) (gives must q E))
  chain_exact (only_first t n) =
      followed_inside (f c t) (λ z. absurd (n ((one_code p E).equal c 0 t ((f c t).of_codes.at 0 z))))
  chain_exact (then_second z t) =
      followed_inside (f 0 z) (λ y. onward_plus ((gives must p E).codes 0) q E (gives must q E) z (g c t))

pub can_in_must : (p : Step) (E : Event) (c : ℕ) → T ((gives must p E).codes c) → Inside (gives (can plus) p E) (gives must p E)
unfolding gives
can_in_must done E c t = inside_refl
can_in_must (stay A) E c t = inside_refl
can_in_must (say s) E c t = inside_refl
can_in_must (leave d) E c t = inside_refl
can_in_must (test s p q) E c t =
    choose_exact (E s) (gives (can plus) p E) (gives (can plus) q E) (gives (can opened) p E) (gives (can opened) q E) c
    (can_in_must p E c) (can_in_must q E c) t
can_in_must (catch p) E c t = let r = downs_out (gives must p E).codes c t in caught_inside (can_in_must p E r.0 r.1)
can_in_must (scope s p) E c t =
    hidden_inside s
    (can_in_must p (giving E s (local_status must s (gives must p (giving E s unknown)) (gives (absence_asked must) p (giving E s unknown)))) c t)
can_in_must (chain p q) E c t =
    chain_exact p q E c (can_in_must p E) (can_in_must q E) (first_or_both (gives must p E) (gives must q E) c t)
can_in_must (beside p q) E c t =
    let r = maxima_out (gives must p E).codes (gives must q E).codes c t in
    both_inside (can_in_must p E r.0 r.2) (can_in_must q E r.1 r.3)

-- Where must has a code, can under plus is equal to it, in signals and codes.
pub exact : (p : Step) (E : Event) (c : ℕ) → T ((gives must p E).codes c) → gives (can plus) p E ≡ gives must p E
exact p E c t = inside_antisym (can_in_must p E c t) (must_in_can p E)
