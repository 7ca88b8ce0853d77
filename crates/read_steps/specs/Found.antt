-- What a name stands for, as the code looks it up. Assumes nothing.
use Rattle.std.specs.Prelude.{Option, Some, None, cond, List, [], ◌∷◌, ℕ, suc, ◌+◌, ◌<◌, ltb, drop}
use Rattle.text.specs.Tokens.{Token, sign, name, number, no_token, Placed, same, word_of}
use Rattle.text.specs.Meaning.{Declaration, signal_named, trap_named, its_name}
use Rattle.text.specs.Coded.{tokens_from}
use Rattle.text.specs.declared.tokens.Kind.{Kind}
use Rattle.text.specs.declared.tokens.Kind.TheVariants.{Sign, Name, Number, Nothing as NoToken, End}
use Rattle.read_steps.specs.Levels.{levels_in}
use Rattle.read_steps.specs.declared.levels.Level.{Level}
use Rattle.read_steps.specs.declared.levels.Scope.{Scope}
use Rattle.read_steps.specs.declared.levels.Scope.TheVariants.{Outermost, ThenPart, EndPart, SuspendBody, InBrackets, TrapBody, SignalBody}
use Rattle.read_steps.specs.declared.found.Passed.{Passed}
use Rattle.read_steps.specs.declared.found.Found.{Found}
use Rattle.read_steps.specs.declared.found.Found.TheVariants.{Nothing, Signal, Trap}

-- The depth of an exit of a trap is below a number.
unfoldable pub TrapBelow : ℕ → Found → Type 0
TrapBelow n Nothing = Unit {0}
TrapBelow n (Signal s) = Unit {0}
TrapBelow n (Trap d) = d < n

unfoldable pub beyond_trap : Found → Found
beyond_trap Nothing = Nothing
beyond_trap (Signal s) = Signal s
beyond_trap (Trap d) = Trap (d + 1)

-- What a declaration is, what lies beyond it, and what a name stands for among declarations, the innermost first.
abbrev pub its_found : Declaration → Found
its_found (signal_named x s) = Signal s
its_found (trap_named x) = Trap 0

abbrev pub beyond : Declaration → Found → Found
beyond (signal_named x s) f = f
beyond (trap_named x) f = beyond_trap f

unfoldable pub found_in : List Declaration → List ℕ → Found
unfolding beyond_trap
found_in [] x = Nothing
found_in (d ∷ ds) x = cond (same (its_name d) x) (its_found d) (beyond d (found_in ds x))

-- What a level declares, by what opened it, with a name and a signal's number.
unfoldable pub opens : Scope → List ℕ → ℕ → List Declaration
opens Outermost x n = []
opens ThenPart x n = []
opens EndPart x n = []
opens SuspendBody x n = []
opens InBrackets x n = []
opens TrapBody x n = trap_named x ∷ []
opens SignalBody x n = signal_named x n ∷ []

abbrev pub word_at : List ℕ → ℕ → List ℕ
word_at text at = word_of (drop at text)

abbrev pub level_declares : List ℕ → Level → List Declaration
level_declares text l = opens l.kind (word_at text l.name) l.number

-- What a name x stands for inside a level that may declare y.
unfoldable pub through_scope : Scope → List ℕ → ℕ → List ℕ → Found → Found
unfolding beyond_trap
through_scope Outermost y n x f = f
through_scope ThenPart y n x f = f
through_scope EndPart y n x f = f
through_scope SuspendBody y n x f = f
through_scope InBrackets y n x f = f
through_scope TrapBody y n x f = cond (same y x) (Trap 0) (beyond_trap f)
through_scope SignalBody y n x f = cond (same y x) (Signal n) f

abbrev pub through : List ℕ → Level → List ℕ → Found → Found
through text l x f = through_scope l.kind (word_at text l.name) l.number x f

-- One token of the header: only a name counts.
unfoldable pub passed_name : List ℕ → Kind → ℕ → List ℕ → Passed → Passed
passed_name text (Sign k) start x p = p
passed_name text Name start x p = record { count = p.count + 1; found = cond (same (word_at text start) x) (Some p.count) p.found }
passed_name text (Number v) start x p = p
passed_name text NoToken start x p = p
passed_name text End start x p = p

unfoldable pub found_as : Option ℕ → Found
found_as None = Nothing
found_as (Some n) = Signal n

-- The names of the header: those of the tokens that begin before a place.
abbrev pub and_named : Token → ℕ → List Declaration → List Declaration
and_named (sign k) n ds = ds
and_named (name x) n ds = signal_named x n ∷ ds
and_named (number v) n ds = ds
and_named no_token n ds = ds

abbrev pub and_counted : Token → ℕ → ℕ
and_counted (sign k) n = n
and_counted (name x) n = suc n
and_counted (number v) n = n
and_counted no_token n = n

unfoldable pub names_until : ℕ → List Declaration → ℕ → List Placed → List Declaration
names_until end ds n [] = ds
names_until end ds n (p ∷ ps) = cond (ltb p.place end) (names_until end (and_named p.token n ds) (and_counted p.token n) ps) ds

abbrev pub header_names : List ℕ → ℕ → List Declaration
header_names text end = names_until end [] 0 (tokens_from text 0)

abbrev pub header_found : List ℕ → ℕ → List ℕ → Found
header_found text end x = found_in (header_names text end) x

-- Through all levels, the innermost last.
unfoldable pub through_all : List ℕ → List Level → List ℕ → Found → Found
unfolding through_scope
through_all text [] x f = f
through_all text (l ∷ ls) x f = through text l x (through_all text ls x f)

abbrev pub names_found : List ℕ → List Level → ℕ → Level → ℕ → List ℕ → Found
names_found text levels depth top end x = through_all text (top ∷ levels_in levels depth) x (header_found text end x)
