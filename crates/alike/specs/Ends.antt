-- One turn of the search, and how it ends. Assumes nothing.
use Rattle.std.specs.Prelude.{◌≡◌, true, false, List, ℕ, ◌+◌, ◌≤◌, ◌<◌, Option, None, Some, Result, Ok, Err, get_or, set}
use Rattle.refusals.specs.declared.Why.{Why}
use Rattle.refusals.specs.declared.Why.TheVariants.{Pairs}
use Rattle.pairs.specs.Runs as runs
use Rattle.pairs.specs.Runs.{Run, start, ◌▸◌, Comparison, First, Over}
use Rattle.pairs.specs.Rows.{row_at, NotAmong, Pushed}
use Rattle.pairs.specs.declared.rows.Pair.{Pair}
use Rattle.pairs.specs.declared.rows.Rows.{Rows}
use Rattle.alike.specs.declared.search.Link.{Link}
use Rattle.alike.specs.declared.search.Search.{Search}

-- How many pairs there is room for.
abbrev pub most : ℕ
most = 1024

-- How the pair of a row was found.
abbrev pub link_at : List Link → ℕ → Link
link_at links k = get_or links k (record { parent = 0; set = 0 })

-- The runs to the pairs below a count: a pair's is the run to its parent, and then its set.
pub record Linked (links : List Link) (walk : ℕ → Run) (count : ℕ) : Type 0 where
  pub begins : walk 0 ≡ start
  pub falls : (k : ℕ) → 0 < k → k < count → (link_at links k).parent < k
  pub linked : (k : ℕ) → 0 < k → k < count → walk k ≡ walk (link_at links k).parent ▸ (link_at links k).set

-- A pair was found before, was left out, or got a row.
pub data Kept (rows rows' : Rows) (links links' : List Link) (s : Search) (p : Pair) (r : Search) : Type 0 where
  again : (k : ℕ) → k < rows.count → row_at rows k ≡ p → rows' ≡ rows → links' ≡ links → r ≡ s → Kept rows rows' links links' s p r
  left_out : NotAmong rows rows.count p → most ≤ rows.count → rows' ≡ rows → links' ≡ links → r ≡ record s { more = true } → Kept rows rows' links links' s p r
  stored : NotAmong rows rows.count p → rows.count < most → Pushed rows p rows' → links' ≡ set links rows.count (record { parent = s.at; set = s.set })
      → r ≡ s → Kept rows rows' links links' s p r

-- The step after a step.
pub data Turns (s : Search) (count width : ℕ) : Result (Option Search) Why → Type 0 where
  next_set : s.set + 1 < width → Turns s count width (Ok (Some (record s { set = s.set + 1 })))
  next_pair : width ≤ s.set + 1 → s.at + 1 < s.stop → Turns s count width (Ok (Some (record s { at = s.at + 1; set = 0 })))
  next_level : width ≤ s.set + 1 → s.stop ≤ s.at + 1 → s.more ≡ false → s.stop < count
      → Turns s count width (Ok (Some (record s { at = s.at + 1; set = 0; stop = count })))
  ends_over : width ≤ s.set + 1 → s.stop ≤ s.at + 1 → s.more ≡ true → Turns s count width (Err Pairs)
  ends_same : width ≤ s.set + 1 → s.stop ≤ s.at + 1 → s.more ≡ false → count ≤ s.stop → Turns s count width (Ok None)

-- The run to a difference can be read off the links.
pub record Shown (m : Comparison) (links : List Link) (last : Link) : Type 0 where
  pub walk : ℕ → Run
  pub its_links : Linked links walk (last.parent + 1)
  pub in_rows : last.parent < most
  pub is_first : First m (walk last.parent ▸ last.set)
  pub not_over : Over most m → ⊥

pub record NoneShown (m : Comparison) : Type 0 where
  pub same : runs.Same m
  pub not_over : Over most m → ⊥

unfoldable pub Ends : Comparison → List Link → Result (Option Link) Why → Type 0
Ends m links (Ok None) = NoneShown m
Ends m links (Ok (Some last)) = Shown m links last
Ends m links (Err why) = (why ≡ Pairs) × Over most m
