-- Statuses that are the same, and a round output by output: by cases on the statuses, and by induction on their list. Assumes nothing.
use mathlib.Core.Path.{◌≡◌, refl, sym, ◌∙◌, ap, ap₂}
use mathlib.Core.List.{List, [], ◌∷◌}
use Prim.Native.Nat.{ℕ, zero, suc, ◌+◌, ◌<◌}
use native.Mathlib.Nat.{add-zero, add-suc, suc-add, le_of_suc-le-suc, not-suc-le-zero}
use lib.Dec.{T}
use lib.ListN.{length, get_or}
use Rattle.sets.proofs.Members.{and_in, and_left, and_right}
use Rattle.rules.specs.Events.{Status, present, absent, unknown}
use Rattle.rules.specs.MustCan.{Given, marked}
use Rattle.rules.specs.Rounds.{same, all_same, marks}

-- Statuses that are the same.
pub same_is : (v w : Status) → T (same v w) → v ≡ w
same_is present present t = refl
same_is present absent t = absurd t
same_is present unknown t = absurd t
same_is absent present t = absurd t
same_is absent absent t = refl
same_is absent unknown t = absurd t
same_is unknown present t = absurd t
same_is unknown absent t = absurd t
same_is unknown unknown t = refl

pub same_refl : (v : Status) → T (same v v)
same_refl present = tt
same_refl absent = tt
same_refl unknown = tt

pub all_same_is : (vs ws : List Status) → T (all_same vs ws) → vs ≡ ws
unfolding all_same
all_same_is [] [] t = refl
all_same_is [] (w ∷ ws) t = absurd t
all_same_is (v ∷ vs) [] t = absurd t
all_same_is (v ∷ vs) (w ∷ ws) t =
    ap₂ (λ (x : Status) (xs : List Status). x ∷ xs) (same_is v w (and_left (same v w) (all_same vs ws) t)) (all_same_is vs ws (and_right (same v w) (all_same vs ws) t))

pub all_same_refl : (vs : List Status) → T (all_same vs vs)
unfolding all_same
all_same_refl [] = tt
all_same_refl (v ∷ vs) = and_in (same v v) (all_same vs vs) (same_refl v) (all_same_refl vs)

-- A round, output by output.
pub marks_length : (m c : Given) (s : ℕ) (vs : List Status) → length (marks m c s vs) ≡ length vs
unfolding marks
marks_length m c s [] = refl
marks_length m c s (v ∷ vs) = ap suc (marks_length m c (suc s) vs)

pub marks_at : (m c : Given) (s : ℕ) (vs : List Status) (i : ℕ) → i < length vs
    → get_or (marks m c s vs) i unknown ≡ marked (m.signals (s + i)) (c.signals (s + i)) (get_or vs i unknown)
unfolding marks
marks_at m c s [] i h = absurd (not-suc-le-zero h)
marks_at m c s (v ∷ vs) zero h = sym (ap (λ (n : ℕ). marked (m.signals n) (c.signals n) v) (add-zero s))
marks_at m c s (v ∷ vs) (suc i) h =
    marks_at m c (suc s) vs i (le_of_suc-le-suc h)
    ∙ ap (λ (n : ℕ). marked (m.signals n) (c.signals n) (get_or vs i unknown)) (suc-add s i ∙ sym (add-suc s i))
