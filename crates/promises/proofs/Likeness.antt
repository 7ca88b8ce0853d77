-- Request 10 over the calls, sentence by sentence (`specs/Likeness`). By cases on how the tests of `alike` come out, each with what it found: a refusal is that of the
-- first test that applies, and where the two blocks are compared the run that is told is a first one of theirs, along which the calls go. Assumes nothing.
use mathlib.Core.Path.{◌≡◌, refl, sym, ap, ◌∙◌, subst, subst⁻¹}
use mathlib.Core.Logic.{◌⊎◌, inl, inr, ◌≢◌}
use mathlib.Core.Bool.{Bool, true, false, cond, ◌&&◌}
use mathlib.Core.List.{List, [], ◌∷◌, ◌++◌}
use Prim.Native.Nat.{ℕ, ◌≤◌, ◌<◌}
use native.Mathlib.Omega.{arith}
use lib.Dec.{eqb, ltb}
use lib.ListN.{length, take, drop}
use lib.Seq.{take_at, drop_at}
use borrow.Author.Tests.{eqb-true, eqb-false, ltb-true, ltb-false}
use Rattle.refusals.specs.Refusals.{number, first_with}
use Rattle.block.specs.Format.{Good, Reading, good, turned_down, reading}
use Rattle.records.specs.Numerals.{Bytes}
use Rattle.reaction.specs.Instants.{ROOM, block_of}
use Rattle.pairs.specs.Runs.{Run, size, bytes_of, Over, First as FirstRun}
use Rattle.pairs.specs.Blocks.{comparison}
use Rattle.alike.specs.Ends.{most}
use Rattle.alike.specs.Calls.{INTERFACE, WIDE, PAIRS, Front, first_stopped, second_stopped, stopped, ready, try_both, try_second, try_first, front, Compared, Owed}
use Rattle.foldheron.specs.Answers.{Likeness}
use Rattle.alike.specs.declared.NotCompared.{NotCompared}
use Rattle.std.specs.Prelude.{Ok, Err, Some, None}
use Rattle.alike.proofs.OneAnswer.{one_likeness}
use Rattle.alike.proofs.alike.Kinds as alike_kinds
use Rattle.alike.proofs.alike.Reads as alike_reads
use Rattle.alike.proofs.alike.Statement as alike_statement
use Rattle.alike.proofs.alike.Met as alike_met
use Rattle.promises.specs.Calls.{AlikeCalled}
use Rattle.promises.specs.Tests.{Test, First}
use Rattle.promises.specs.FirstRecord.{Decides}
use Rattle.promises.specs.Demand1.{Returns, one_to_8, block_tests}
use Rattle.promises.specs.Likeness.{FirstDifference, TrueLikeness, likeness_number, BothGood, OtherInterface, TooWide, TooManyPairs, alike_tests}
use Rattle.promises.proofs.Learnt.{alike_says}
use Rattle.promises.proofs.Exists.{named_in_block}
use Rattle.promises.proofs.FirstRecord.{turned_down_decides}
use Rattle.promises.proofs.FirstRefusal.{past_block, of_the_block}
use Rattle.promises.proofs.Beside.{told_from_fresh}
use Rattle.promises.proofs.LikeRuns.{bytes_size, never_apart, none_shorter, none_before, parts_at_last}

-- Two blocks that are compared.
record Comparable (g h : Good) (lent : ℕ) : Type 0 where
  same_inputs : g.header.inputs ≡ h.header.inputs
  same_outputs : g.header.outputs ≡ h.header.outputs
  few : g.header.inputs ≤ 6
  room : most ≤ lent

-- How the tests come out, each with what it found.
module _ (first second run : List ℕ) (P : Front → Type 0) (one_bad : (n at : ℕ) → reading first ≡ turned_down n at → P (first_stopped n at))
    (other_bad : (g : Good) → reading first ≡ good g → (n at : ℕ) → reading second ≡ turned_down n at → P (second_stopped n at))
    (unlike : (g h : Good) → reading first ≡ good g → reading second ≡ good h
    → (g.header.inputs ≢ h.header.inputs) ⊎ (g.header.outputs ≢ h.header.outputs) → P (stopped INTERFACE))
    (wide : (g h : Good) → reading first ≡ good g → reading second ≡ good h → g.header.inputs ≡ h.header.inputs → g.header.outputs ≡ h.header.outputs
    → 6 < g.header.inputs → P (stopped WIDE))
    (short : (g h : Good) → reading first ≡ good g → reading second ≡ good h → g.header.inputs ≡ h.header.inputs → g.header.outputs ≡ h.header.outputs
    → g.header.inputs ≤ 6 → length run < most → P (stopped ROOM))
    (compared : (g h : Good) → reading first ≡ good g → reading second ≡ good h → Comparable g h (length run) → P (ready g h)) where
  by_front : P (front first second run)
  unfolding try_first try_second try_both
  by_front = one (reading first) refl
    where
      tests : (g h : Good) → reading first ≡ good g → reading second ≡ good h → (x y z w : Bool) → eqb g.header.inputs h.header.inputs ≡ x
          → eqb g.header.outputs h.header.outputs ≡ y → ltb 6 g.header.inputs ≡ z → ltb (length run) most ≡ w
          → P (cond (x && y) (cond z (stopped WIDE) (cond w (stopped ROOM) (ready g h))) (stopped INTERFACE))
      tests g h e d false y z w p q k l = unlike g h e d (inl (eqb-false _ _ p))
      tests g h e d true false z w p q k l = unlike g h e d (inr (eqb-false _ _ q))
      tests g h e d true true true w p q k l = wide g h e d (eqb-true _ _ p) (eqb-true _ _ q) (ltb-true 6 _ k)
      tests g h e d true true false true p q k l = short g h e d (eqb-true _ _ p) (eqb-true _ _ q) (ltb-false 6 _ k) (ltb-true _ most l)
      tests g h e d true true false false p q k l =
          compared g h e d (record { same_inputs = eqb-true _ _ p; same_outputs = eqb-true _ _ q; few = ltb-false 6 _ k; room = ltb-false _ most l })

      two : (g : Good) → reading first ≡ good g → (x : Reading) → reading second ≡ x → P (try_second g x (length run))
      two g e (turned_down n at) d = other_bad g e n at d
      two g e (good h) d = tests g h e d _ _ _ _ refl refl refl refl

      one : (x : Reading) → reading first ≡ x → P (try_first x (reading second) (length run))
      one (turned_down n at) e = one_bad n at e
      one (good g) e = two g e (reading second) refl

-- Nothing is asked of a caller, and the call returns.
pub alike_returns : Returns 3 alike_kinds.ps alike_reads.Asked alike_statement.statement
alike_returns = record { nothing_asked = λ κs a. tt; returns = λ M. alike_met.met }

-- A block has one reading.
pub one_reading : (b : List ℕ) (g x : Good) → reading b ≡ good g → reading b ≡ good x → x ≡ g
one_reading b g x e q = let d : good x ≡ good g = sym q ∙ e in cc

module _ (first second : List ℕ) where
  -- Two blocks under the runs of their comparison.
  module _ (bytes_one : Bytes first) (bytes_other : Bytes second) (g h : Good) (e : reading first ≡ good g) (d : reading second ≡ good h) (lent : ℕ) (k : Comparable g h lent) where
    its_difference : (v : Run) → FirstRun (comparison (block_of g) (block_of h)) v → FirstDifference first second (bytes_of v)
    its_difference v f = record {
      shown = λ rs rs' x y. parts_at_last g h k.same_inputs v f (told_from_fresh first g e bytes_one x) (told_from_fresh second h d bytes_other y);
      none_shorter =
          λ vs l rs rs' x y. none_shorter g h k.same_inputs k.few v f vs (subst (λ (n : ℕ). length vs < n) (bytes_size v) l)
          (told_from_fresh first g e bytes_one x) (told_from_fresh second h d bytes_other y);
      none_before =
          λ vs l b rs rs' x y. none_before g h k.same_inputs k.few v f vs (l ∙ bytes_size v) b
          (told_from_fresh first g e bytes_one x) (told_from_fresh second h d bytes_other y);
    }

    compared_true : (run run' : List ℕ) (r : Likeness) → Compared (comparison (block_of g) (block_of h)) r run run' → TrueLikeness first second run r run'
    unfolding Compared
    compared_true run run' (Ok None) o =
        (λ ws rs rs' x y. never_apart g h k.same_inputs o.0 ws (told_from_fresh first g e bytes_one x) (told_from_fresh second h d bytes_other y), o.2)
    compared_true run run' (Ok (Some n)) o =
        let v = o.0 in
        let size_is : length (bytes_of v) ≡ n = bytes_size v ∙ sym o.3 in
        let front_is : take n run' ≡ bytes_of v = ap (take n) o.4 ∙ take_at (bytes_of v) (drop (size v) run) n size_is in (
          subst⁻¹ (FirstDifference first second) front_is (its_difference v o.1),
          ap length front_is ∙ size_is,
          ap (drop n) o.4 ∙ drop_at (bytes_of v) (drop (size v) run) n size_is ∙ ap (λ (i : ℕ). drop i run) (sym o.3),
        )
    compared_true run run' (Err e) o = subst⁻¹ (λ (x : NotCompared). TrueLikeness first second run (Err x) run') o.0 o.2

  -- "Tell whether from fresh they give the same outputs, code and 13 in every instant under every input run. If not, write a shortest run of input sets that shows it, the first in
  -- numeric order among those." What is told is so of the calls of `fresh` and `instant` on the two blocks.
  pub what_alike_tells_is_so : Bytes first → Bytes second → {run run' : List ℕ} {r : Likeness} → AlikeCalled first second run r run' → TrueLikeness first second run r run'
  unfolding Owed
  what_alike_tells_is_so bytes_one bytes_other {run} {run'} {r} c =
      by_front first second run (λ f. Owed f r run run' → TrueLikeness first second run r run')
      (λ n at e o. subst⁻¹ Is o.0 (subst⁻¹ (λ (i : ℕ). Decides first i at) (named_in_block first n at e) (turned_down_decides first n at e), o.1))
      (λ g e n at d o. subst⁻¹ Is o.0 ((g, e), subst⁻¹ (λ (i : ℕ). Decides second i at) (named_in_block second n at d) (turned_down_decides second n at d), o.1))
      (λ g h e d u o. subst⁻¹ Is o.0 o.1)
      (λ g h e d p q u o. subst⁻¹ Is o.0 o.1)
      (λ g h e d p q l u o. subst⁻¹ Is o.0 o.1)
      (λ g h e d k o. compared_true bytes_one bytes_other g h e d (length run) k run run' r o) (alike_says c)
    where
      Is : Likeness → Type 0
      Is x = TrueLikeness first second run x run'

  -- No two answers, with two contents of the lent bytes afterwards, meet the contract;
  pub alike_has_one_answer : {run run' run'' : List ℕ} {r q : Likeness} → AlikeCalled first second run r run' → AlikeCalled first second run q run'' → (r ≡ q) × (run' ≡ run'')
  alike_has_one_answer {run} {run'} {run''} {r} {q} c d = one_likeness first second run r q run' run'' (alike_says c) (alike_says d)

  -- a refusal leaves every lent byte;
  leaves : (f : Front) (run run' : List ℕ) (r : Likeness) → Owed f r run run' → likeness_number r ≢ 0 → run' ≡ run
  unfolding Owed Compared
  leaves (first_stopped n at) run run' r o h = o.1
  leaves (second_stopped n at) run run' r o h = o.1
  leaves (stopped n) run run' r o h = o.1
  leaves (ready g k) run run' (Ok None) o h = o.2
  leaves (ready g k) run run' (Ok (Some n)) o h = absurd (h refl)
  leaves (ready g k) run run' (Err e) o h = o.2

  pub a_refused_alike_changes_nothing : {run run' : List ℕ} {r : Likeness} → AlikeCalled first second run r run' → likeness_number r ≢ 0 → run' ≡ run
  a_refused_alike_changes_nothing {run} {run'} {r} c = leaves (front first second run) run run' r (alike_says c)

  -- and its number is that of the first test in the written order that applies, 0 where none does.
  module _ (run : List ℕ) where
    abbrev late : List Test
    late =
        record { number = INTERFACE; Applies = OtherInterface first second }
        ∷ record { number = WIDE; Applies = TooWide first }
        ∷ record { number = ROOM; Applies = length run < most }
        ∷ record { number = PAIRS; Applies = TooManyPairs first second }
        ∷ []

    module _ (g h : Good) (e : reading first ≡ good g) (d : reading second ≡ good h) where
      past_both : (n : ℕ) → First late n → First (alike_tests first second run) n
      past_both n f = past_block first g e one_to_8 (block_tests second ++ late) n (past_block second h d one_to_8 late n f)

      abbrev these : BothGood first second
      these = record { one = g; other = h; one_read = e; other_read = d }

      not_unlike : g.header.inputs ≡ h.header.inputs → g.header.outputs ≡ h.header.outputs → OtherInterface first second → ⊥
      not_unlike p q t = go t.differs
        where
          one_is : t.both.one ≡ g
          one_is = one_reading first g t.both.one e t.both.one_read

          other_is : t.both.other ≡ h
          other_is = one_reading second h t.both.other d t.both.other_read

          go : (t.both.one.header.inputs ≢ t.both.other.header.inputs) ⊎ (t.both.one.header.outputs ≢ t.both.other.header.outputs) → ⊥
          go (inl n) = n (ap (λ (x : Good). x.header.inputs) one_is ∙ p ∙ sym (ap (λ (x : Good). x.header.inputs) other_is))
          go (inr n) = n (ap (λ (x : Good). x.header.outputs) one_is ∙ q ∙ sym (ap (λ (x : Good). x.header.outputs) other_is))

      not_wide : g.header.inputs ≤ 6 → TooWide first → ⊥
      not_wide l t =
          let k : 6 < g.header.inputs = subst (λ (x : Good). 6 < x.header.inputs) (one_reading first g t.block e t.is_good) t.over in
          omega arith

      not_many : (Over most (comparison (block_of g) (block_of h)) → ⊥) → TooManyPairs first second → ⊥
      not_many f t =
          f (subst (λ (x : Good). Over most (comparison (block_of g) (block_of x))) (one_reading second h t.both.other d t.both.other_read)
          (subst (λ (x : Good). Over most (comparison (block_of x) (block_of t.both.other))) (one_reading first g t.both.one e t.both.one_read) t.over))

      compared_first : Comparable g h (length run) → (run' : List ℕ) (r : Likeness) → Compared (comparison (block_of g) (block_of h)) r run run'
          → First (alike_tests first second run) (likeness_number r)
      unfolding Compared number first_with
      compared_first k run' r o = past_both (likeness_number r) (inr (not_unlike k.same_inputs k.same_outputs, inr (not_wide k.few, inr ((λ l. short l k.room), go r o))))
        where
          short : length run < most → most ≤ length run → ⊥
          short l m = omega arith

          go : (x : Likeness) → Compared (comparison (block_of g) (block_of h)) x run run' → First (record { number = PAIRS; Applies = TooManyPairs first second } ∷ []) (likeness_number x)
          go (Ok None) q = inr (not_many q.1, refl)
          go (Ok (Some n)) q = inr (not_many q.2, refl)
          go (Err e) q = inl (record { both = these; over = q.1 }, ap (λ (x : NotCompared). likeness_number (Err x)) q.0)

    pub alike_gives_the_first : {run' : List ℕ} {r : Likeness} → AlikeCalled first second run r run' → First (alike_tests first second run) (likeness_number r)
    unfolding Owed number first_with
    alike_gives_the_first {run'} {r} c =
        by_front first second run (λ f. Owed f r run run' → First (alike_tests first second run) (likeness_number r))
        (λ n at e o. subst⁻¹ Is o.0 (subst⁻¹ (First (alike_tests first second run)) (named_in_block first n at e) (of_the_block first n at e (block_tests second ++ late))))
        (λ g e n at d o. subst⁻¹ Is o.0 (subst⁻¹ (First (alike_tests first second run)) (named_in_block second n at d)
        (past_block first g e one_to_8 (block_tests second ++ late) n (of_the_block second n at d late))))
        (λ g h e d u o. subst⁻¹ Is o.0 (past_both g h e d 23 (inl (record { both = these g h e d; differs = u }, refl))))
        (λ g h e d p q u o. subst⁻¹ Is o.0 (past_both g h e d 24 (inr (not_unlike g h e d p q, inl (record { block = g; is_good = e; over = u }, refl)))))
        (λ g h e d p q l u o. subst⁻¹ Is o.0 (past_both g h e d 12 (inr (not_unlike g h e d p q, inr (not_wide g h e d l, inl (u, refl))))))
        (λ g h e d k o. compared_first g h e d k run' r o) (alike_says c)
      where
        Is : Likeness → Type 0
        Is x = First (alike_tests first second run) (likeness_number x)
