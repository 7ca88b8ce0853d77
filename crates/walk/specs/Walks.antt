-- What the walk over the table gives. Assumes nothing.
use Rattle.std.specs.Prelude.{◌≡◌, Bool, List, ℕ}
use Rattle.sets.specs.Numbers.{Numbers}
use Rattle.rules.specs.Instant.{Step}
use Rattle.rules.specs.MustCan.{Mark, plus, must, can, Question, nothing_known, either, caught, both, followed, hidden, gives}
use Rattle.tables.specs.declared.Table.{Table}
use Rattle.words.specs.declared.events.Heard.{Heard}
use Rattle.words.specs.declared.given.GivenWords.{GivenWords}
use Rattle.words.specs.declared.given.MustCan.{MustCan}
use Rattle.forms.specs.declared.form.Form.{Form}
use Rattle.words.specs.Words.{event_of, given_of}
use Rattle.forms.specs.Forms.{Live, Shows}

-- Each rule, for must and for can.
pub record Doubted (r : MustCan) (p q : GivenWords) : Type 0 where
  pub in_must : given_of r.must ≡ nothing_known
  pub in_can : given_of r.can ≡ either (given_of p) (given_of q)

pub record Caught (r a : MustCan) : Type 0 where
  pub in_must : given_of r.must ≡ caught (given_of a.must)
  pub in_can : given_of r.can ≡ caught (given_of a.can)

pub record Both (r a b : MustCan) : Type 0 where
  pub in_must : given_of r.must ≡ both (given_of a.must) (given_of b.must)
  pub in_can : given_of r.can ≡ both (given_of a.can) (given_of b.can)

pub record Followed (r a : MustCan) (m c : GivenWords) : Type 0 where
  pub in_must : given_of r.must ≡ followed (given_of a.must) (given_of m)
  pub in_can : given_of r.can ≡ followed (given_of a.can) (given_of c)

pub record Hidden (r : MustCan) (s : ℕ) (a : MustCan) : Type 0 where
  pub in_must : given_of r.must ≡ hidden s (given_of a.must)
  pub in_can : given_of r.can ≡ hidden s (given_of a.can)

-- The words are what the question gives, for whatever the form shows; a task is the form `Same`.
pub record Gives (k : Question) (tab : Table) (live : List Bool) (f : Form) (e : Heard) (x : GivenWords) : Type 0 where
  pub at : (A : Numbers) → Live tab A live → (p : Step) → Shows tab A f p → given_of x ≡ gives k p (event_of e)

-- Can under a mark, and must if the mark is plus.
pub record Walked (m : Mark) (tab : Table) (live : List Bool) (f : Form) (e : Heard) (r : MustCan) : Type 0 where
  pub in_must : m ≡ plus → Gives must tab live f e r.must
  pub in_can : Gives (can m) tab live f e r.can
