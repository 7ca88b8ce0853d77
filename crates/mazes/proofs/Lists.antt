-- The corridors of a list by their numbers: none of an empty list, the one of a single, and of two lists merged those of either. By induction on the list. Assumes nothing.
use mathlib.Core.Path.{◌≡◌, refl, subst}
use mathlib.Core.Logic.{◌⊎◌, inl, inr}
use mathlib.Core.List.{List, [], ◌∷◌, ◌++◌}
use mathlib.Core.Option.{some, some-injective, none-ne-some}
use Prim.Native.Nat.{ℕ, zero, suc}
use Rattle.mazes.specs.Mazes.{Corridor, nth, OneOf}

pub none_of : {c : Corridor} → OneOf [] c → ⊥
unfolding nth
none_of {c} h = none-ne-some c h.is_there

pub the_first : (c : Corridor) (cs : List Corridor) → OneOf (c ∷ cs) c
unfolding nth
the_first c cs = record { number = 0; is_there = refl }

pub a_later : (d : Corridor) {cs : List Corridor} {c : Corridor} → OneOf cs c → OneOf (d ∷ cs) c
unfolding nth
a_later d h = record { number = suc h.number; is_there = h.is_there }

pub first_or_later : {d c : Corridor} {cs : List Corridor} → OneOf (d ∷ cs) c → (d ≡ c) ⊎ OneOf cs c
unfolding nth
first_or_later {d} {c} {cs} h = go h.number h.is_there
  where
    go : (n : ℕ) → nth (d ∷ cs) n ≡ some c → (d ≡ c) ⊎ OneOf cs c
    go zero e = inl (some-injective d c e)
    go (suc n) e = inr (record { number = n; is_there = e })

pub the_only : {d c : Corridor} → OneOf (d ∷ []) c → d ≡ c
the_only {d} {c} h = go (first_or_later h)
  where
    go : (d ≡ c) ⊎ OneOf [] c → d ≡ c
    go (inl e) = e
    go (inr k) = absurd (none_of k)

pub of_first : (cs ds : List Corridor) {c : Corridor} → OneOf cs c → OneOf (cs ++ ds) c
of_first [] ds h = absurd (none_of h)
of_first (d ∷ cs) ds {c} h = go (λ k. of_first cs ds k) (first_or_later h)
  where
    go : (OneOf cs c → OneOf (cs ++ ds) c) → (d ≡ c) ⊎ OneOf cs c → OneOf (d ∷ cs ++ ds) c
    go f (inl e) = subst (OneOf (d ∷ cs ++ ds)) e (the_first d (cs ++ ds))
    go f (inr k) = a_later d (f k)

pub of_second : (cs ds : List Corridor) {c : Corridor} → OneOf ds c → OneOf (cs ++ ds) c
of_second [] ds h = h
of_second (d ∷ cs) ds h = a_later d (of_second cs ds h)

pub of_either : (cs ds : List Corridor) {c : Corridor} → OneOf (cs ++ ds) c → OneOf cs c ⊎ OneOf ds c
of_either [] ds h = inr h
of_either (d ∷ cs) ds {c} h = go (λ k. of_either cs ds k) (first_or_later h)
  where
    onward : OneOf cs c ⊎ OneOf ds c → OneOf (d ∷ cs) c ⊎ OneOf ds c
    onward (inl k) = inl (a_later d k)
    onward (inr k) = inr k

    go : (OneOf (cs ++ ds) c → OneOf cs c ⊎ OneOf ds c) → (d ≡ c) ⊎ OneOf (cs ++ ds) c → OneOf (d ∷ cs) c ⊎ OneOf ds c
    go f (inl e) = inl (subst (OneOf (d ∷ cs)) e (the_first d cs))
    go f (inr k) = onward (f k)
