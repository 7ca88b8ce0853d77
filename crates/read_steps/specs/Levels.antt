-- The levels in the lent array. Assumes nothing.
use Rattle.std.specs.Prelude.{List, [], ◌∷◌, ℕ, zero, suc, get_or}
use Rattle.read_steps.specs.declared.levels.Level.{Level}
use Rattle.read_steps.specs.declared.levels.Scope.TheVariants.{Outermost}

-- The outermost level, at which nothing stands yet.
abbrev pub outermost : Level
outermost = record { kind = Outermost; start = 0; arm = 0; link = 0; name = 0; number = 0; brackets = 0 }

abbrev pub level_in : List Level → ℕ → Level
level_in levels i = get_or levels i outermost

-- The levels below a number, the innermost first.
unfoldable pub levels_in : List Level → ℕ → List Level
levels_in levels zero = []
levels_in levels (suc n) = level_in levels n ∷ levels_in levels n
