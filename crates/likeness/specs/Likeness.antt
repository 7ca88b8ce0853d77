-- Two steps that do the same, with other names for the signals and other numbers for the pauses. Assumes nothing.
use Rattle.std.specs.Prelude.{◌≡◌, cond, ℕ, T, eqb}
use Rattle.sets.specs.Numbers.{Numbers, empty, union}
use Rattle.rules.specs.Events.{Event}
use Rattle.rules.specs.Instant.{Step}
use Rattle.rules.specs.MustCan.{Question, Given, gives}
use Rattle.rules.specs.States.{kept}

-- The names with the signal s called n.
abbrev pub naming : (ℕ → ℕ) → ℕ → ℕ → ℕ → ℕ
naming ρ s n x = cond (eqb x s) n (ρ x)

-- No two signals of D have the same name.
pub record Distinct (D : Numbers) (ρ : ℕ → ℕ) : Type 0 where
  pub same_signal : (s t : ℕ) → T (D s) → T (D t) → ρ s ≡ ρ t → s ≡ t

-- The same status for each signal of D and for its name.
pub record SameEvent (D : Numbers) (ρ : ℕ → ℕ) (E E' : Event) : Type 0 where
  pub at : (s : ℕ) → T (D s) → E' (ρ s) ≡ E s

-- The same codes, and the same signals of D by their names.
pub record SameGiven (D : Numbers) (ρ : ℕ → ℕ) (a a' : Given) : Type 0 where
  pub of_signals : (s : ℕ) → T (D s) → a'.signals (ρ s) ≡ a.signals s
  pub of_codes : a'.codes ≡ a.codes

-- A relation of kept sets that goes through every form: none to none, and what is kept of two parts to what is kept of two parts.
pub record Closed (R : Numbers → Numbers → Type 0) : Type 0 where
  pub none : R empty empty
  pub both : {A A' B B' : Numbers} → R A A' → R B B' → R (union A B) (union A' B')

-- The steps give the same to every question at every event, and keep related sets.
pub record Like (R : Numbers → Numbers → Type 0) (D : Numbers) (ρ : ℕ → ℕ) (S S' : Step) : Type 0 where
  pub gives_same : (k : Question) {E E' : Event} → SameEvent D ρ E E' → SameGiven D ρ (gives k S E) (gives k S' E')
  pub keeps : {E E' : Event} → SameEvent D ρ E E' → R (kept S E) (kept S' E')

-- The steps are the same in all that they give and keep.
pub record Alike (S S' : Step) : Type 0 where
  pub gives_alike : (k : Question) (E : Event) → gives k S E ≡ gives k S' E
  pub kept_alike : (E : Event) → kept S E ≡ kept S' E

-- The pauses of B stand for those of A: pause m of B for pause o m of A.
pub record Image (o : ℕ → ℕ) (A B : Numbers) : Type 0 where
  pub there : (m : ℕ) → T (B m) → T (A (o m))
  pub back : (n : ℕ) → T (A n) → (m : ℕ) × T (B m) × (o m ≡ n)
