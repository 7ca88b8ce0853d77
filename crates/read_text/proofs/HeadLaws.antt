-- The header's table is that of the text's reader: each test of one is a test of the other. Assumes nothing.
use mathlib.Core.Path.{◌≡◌, refl}
use mathlib.Core.Bool.{Bool, true, false, cond}
use mathlib.Core.Option.{Option}
use Prim.Native.Nat.{ℕ}
use lib.Dec.{eqb}
use Rattle.text.specs.Tokens.{VERSION, INPUT, OUTPUT, COMMA, SEMICOLON}
use Rattle.text.specs.Reader.{Due, version_due, number_due, version_closed, inputs_due, outputs_due, input_name, input_named, output_name, output_named, body_due, Heading, Reader, heading_sign}
use Rattle.std.specs.Prelude.{None}
use Rattle.read_text.specs.Reading.{after_name}
use Rattle.read_text.specs.Heads.{awaits_of, due_of, head_sign, headed}
use Rattle.read_text.specs.declared.heading.Awaits.{Awaits}
use Rattle.read_text.specs.declared.heading.Awaits.TheVariants.{VersionDue, NumberDue, VersionClosed, InputsDue, OutputsDue, InputName, InputNamed, OutputName, OutputNamed, BodyDue, Statement}
use Rattle.read_text.specs.declared.heading.Lead.{Lead}
use Rattle.read_text.specs.declared.heading.Lead.TheVariants.{Fault as NoLead, Next, InputsEnd, Body}

-- A choice of leads does what the chosen one does.
first_or : (g : Heading) (k : ℕ) (z : Bool) (m n : Lead) {o : Option Reader} → headed g k n ≡ o → headed g k (cond z m n) ≡ cond z (headed g k m) o
first_or g k true m n e = refl
first_or g k false m n e = e

pub sign_headed : (d : Due) (g : Heading) (k : ℕ) → headed g k (head_sign (awaits_of d) k) ≡ heading_sign d g k
unfolding headed head_sign awaits_of due_of heading_sign
sign_headed version_due g k = first_or g k (eqb k VERSION) (Next NumberDue) NoLead refl
sign_headed number_due g k = refl
sign_headed version_closed g k = first_or g k (eqb k SEMICOLON) (Next InputsDue) NoLead refl
sign_headed inputs_due g k = first_or g k (eqb k INPUT) (Next InputName) _ (first_or g k (eqb k OUTPUT) (Next OutputName) Body refl)
sign_headed outputs_due g k = first_or g k (eqb k OUTPUT) (Next OutputName) Body refl
sign_headed input_name g k = refl
sign_headed input_named g k = first_or g k (eqb k COMMA) (Next InputName) _ (first_or g k (eqb k SEMICOLON) InputsEnd NoLead refl)
sign_headed output_name g k = refl
sign_headed output_named g k = first_or g k (eqb k COMMA) (Next OutputName) _ (first_or g k (eqb k SEMICOLON) (Next BodyDue) NoLead refl)
sign_headed body_due g k = refl

-- No lead skips the statement's first token: what is awaited next is in the header.
abbrev pub Stays : Lead → Type 0
Stays NoLead = Unit {0}
Stays (Next a) = awaits_of (due_of a) ≡ a
Stays InputsEnd = Unit {0}
Stays Body = Unit {0}

one_of : (z : Bool) (m n : Lead) → Stays m → Stays n → Stays (cond z m n)
one_of true m n p q = p
one_of false m n p q = q

pub sign_stays : (a : Awaits) (k : ℕ) → Stays (head_sign a k)
unfolding head_sign awaits_of due_of
sign_stays VersionDue k = one_of (eqb k VERSION) _ _ refl tt
sign_stays NumberDue k = tt
sign_stays VersionClosed k = one_of (eqb k SEMICOLON) _ _ refl tt
sign_stays InputsDue k = one_of (eqb k INPUT) _ _ refl (one_of (eqb k OUTPUT) _ _ refl tt)
sign_stays OutputsDue k = one_of (eqb k OUTPUT) _ _ refl tt
sign_stays InputName k = tt
sign_stays InputNamed k = one_of (eqb k COMMA) _ _ refl (one_of (eqb k SEMICOLON) _ _ tt tt)
sign_stays OutputName k = tt
sign_stays OutputNamed k = one_of (eqb k COMMA) _ _ refl (one_of (eqb k SEMICOLON) _ _ refl tt)
sign_stays BodyDue k = tt
sign_stays Statement k = tt

-- What is in no row.
pub head_other : (a : Awaits) (k : ℕ) → (a ≡ VersionDue → ⊥) → (a ≡ VersionClosed → ⊥) → (a ≡ InputsDue → ⊥) → (a ≡ OutputsDue → ⊥) → (a ≡ InputNamed → ⊥) → (a ≡ OutputNamed → ⊥)
    → (a ≡ BodyDue → ⊥) → NoLead ≡ head_sign a k
unfolding head_sign
head_other VersionDue k p q r s t u v = absurd (p refl)
head_other NumberDue k p q r s t u v = refl
head_other VersionClosed k p q r s t u v = absurd (q refl)
head_other InputsDue k p q r s t u v = absurd (r refl)
head_other OutputsDue k p q r s t u v = absurd (s refl)
head_other InputName k p q r s t u v = refl
head_other InputNamed k p q r s t u v = absurd (t refl)
head_other OutputName k p q r s t u v = refl
head_other OutputNamed k p q r s t u v = absurd (u refl)
head_other BodyDue k p q r s t u v = absurd (v refl)
head_other Statement k p q r s t u v = refl

pub name_other : (a : Awaits) → (a ≡ InputName → ⊥) → (a ≡ OutputName → ⊥) → None ≡ after_name a
unfolding after_name
name_other VersionDue p q = refl
name_other NumberDue p q = refl
name_other VersionClosed p q = refl
name_other InputsDue p q = refl
name_other OutputsDue p q = refl
name_other InputName p q = absurd (p refl)
name_other InputNamed p q = refl
name_other OutputName p q = absurd (q refl)
name_other OutputNamed p q = refl
name_other BodyDue p q = refl
name_other Statement p q = refl
