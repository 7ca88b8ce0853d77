-- Options taken apart: what went on had something to go on with. Assumes nothing.
use mathlib.Core.Path.{◌≡◌, refl}
use mathlib.Core.Bool.{Bool, true, false}
use mathlib.Core.Option.{Option, none, some, some-injective, some-ne-none}
use mathlib.Core.Path.{sym}
use Rattle.text.specs.Meaning.{go_on, if_new}

pub no_some : {A : Type 0} {a : A} → none ≡ some a → ⊥
no_some {a = a} e = some-ne-none a (sym e)

pub went_on : {A B : Type 0} (o : Option A) (f : A → Option B) {b : B} → go_on o f ≡ some b → (a : A) × (o ≡ some a) × (f a ≡ some b)
went_on none f e = absurd (no_some e)
went_on (some a) f e = (a, refl, e)

pub was_new : {A : Type 0} (z : Bool) (o : Option A) {a : A} → if_new z o ≡ some a → (z ≡ false) × (o ≡ some a)
was_new true o e = absurd (no_some e)
was_new false o e = (refl, e)

pub one_value : {A : Type 0} {a b : A} → some a ≡ some b → a ≡ b
one_value {a = a} {b} e = some-injective a b e
