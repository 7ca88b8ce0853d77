-- There is an answer to every call, by its contract: each thing that the definitions come to has an answer that says it. Assumes nothing.
use mathlib.Core.Path.{◌≡◌, refl, ap}
use mathlib.Core.Bool.{Bool, true, false, cond}
use mathlib.Core.List.{List, [], ◌∷◌, ◌++◌}
use Prim.Native.Nat.{ℕ, zero, suc, ◌+◌, ◌≤◌, ◌<◌}
use native.Mathlib.Omega.{arith}
use lib.Dec.{eqb, ltb}
use lib.ListN.{length, get_or, take, drop}
use borrow.Author.Tests.{ltb-true}
use Rattle.rules.specs.Statements.{Stmt, nothing, pause, emit, present?◌then◌else◌, suspend◌on◌, ◌⨾◌, loop, ◌parallel◌, trap, exit, local}
use Rattle.rules.specs.Rounds.{answered, not_constructive}
use Rattle.block.specs.Format.{Good, Reading, good, turned_down, reading, preorder, numbered, bytes, offset}
use Rattle.block.specs.Told.{summary_of}
use Rattle.block.proofs.GoodReadings.{numbers, sound}
use Rattle.block.proofs.Built.{bytes_append}
use Rattle.tables.proofs.Places.{all_counted}
use Rattle.reaction.specs.Instants.{Verdict, refused, clash, reacted, told, told_refusal, verdict}
use Rattle.refusals.specs.declared.Why.TheVariants as Why
use Rattle.foldheron.specs.Answers.{Checked}
use Rattle.foldheron.specs.Answers.{Begun}
use Rattle.reaction.specs.declared.Given.{Given}
use Rattle.foldheron.specs.Answers.{Instant, refusal_at}
use Rattle.reaction.specs.declared.Unanswered.{Unanswered}
use Rattle.std.specs.Prelude.{Ok, Err, IfOk}
use Rattle.records.specs.Parts.{LiesAt}
use Rattle.promises.specs.Calls.{Place, ◌holds◌}
use Rattle.refusals.specs.Refusals.{number, why_of}
use Rattle.refusals.proofs.Laws.{number_back, of_a_block}
use Rattle.foldheron.specs.Answers.{check_values, check_owed, begun_values, begun_owed, PartTold, absent_part, FoundPart, part_told, part_owed, Excerpt, excerpted_as}
use Rattle.reaction.specs.Answers.{instant_told}
use Rattle.foldheron.proofs.Calls.{Leaves, leaves}
use Rattle.promises.proofs.OneAnswer.{remade, told_down}

-- A refusal of a block has its name.
pub named_in_block : (b : List ℕ) (n at : ℕ) → reading b ≡ turned_down n at → number (why_of n) ≡ n
named_in_block b n at e = let r = numbers b n at e in number_back n (of_a_block n r.0 r.1)

pub a_check : (b : List ℕ) → (r : Checked) × (check_values r ≡ check_owed (reading b))
unfolding check_values check_owed
a_check b = go (reading b) refl
  where
    go : (x : Reading) → reading b ≡ x → (r : Checked) × (check_values r ≡ check_owed x)
    go (good g) e = (Ok (summary_of g), refl)
    go (turned_down n at) e =
        (Err (refusal_at (why_of n) at), ap (λ (m : ℕ). m ∷ at ∷ 0 ∷ 0 ∷ 0 ∷ 0 ∷ 0 ∷ 0 ∷ []) (named_in_block b n at e))

pub a_beginning : (b s : List ℕ) → (r : Begun) × (begun_values r ≡ begun_owed (reading b) s)
unfolding begun_values begun_owed number
a_beginning b s = go (reading b) refl
  where
    sized : (x : Bool) → (r : Begun) × (begun_values r ≡ cond x (0 ∷ 0 ∷ []) (9 ∷ 0 ∷ []))
    sized true = (Ok tt, refl)
    sized false = (Err (refusal_at Why.State 0), refl)

    go : (x : Reading) → reading b ≡ x → (r : Begun) × (begun_values r ≡ begun_owed x s)
    go (good g) e = sized (eqb (length s) 26)
    go (turned_down n at) e = (Err (refusal_at (why_of n) at), ap (λ (m : ℕ). m ∷ at ∷ []) (named_in_block b n at e))

pub an_instant : (b s : List ℕ) (w : Given) (roomless : Bool) → (r : Instant) × (instant_told r ≡ told (verdict b s w roomless))
unfolding told instant_told remade Leaves
an_instant b s w roomless = go (verdict b s w roomless) (leaves b s w roomless)
  where
    go : (v : Verdict) → Leaves v s roomless → (r : Instant) × (instant_told r ≡ told v)
    go (refused n at) l = (told_down (why_of n) at, ap (λ (m : ℕ). told_refusal m at 0 0) (number_back n l))
    go (clash pair) l = (Err (Unanswered.Clash pair.first pair.second), refl)
    go (reacted b (answered vs c st n)) l = (remade (told (reacted b (answered vs c st n))), refl)
    go (reacted b (not_constructive vs n)) l = (remade (told (reacted b (not_constructive vs n))), refl)

-- A part lies in its block: what stands before a statement, with the statement and all below it, is no longer than the whole.
unfoldable AllFit : List Stmt → Type 0
AllFit ps = (n : ℕ) → n < length ps → bytes (take n ps) + bytes (preorder (get_or ps n nothing)) ≤ bytes ps

behind : (p : Stmt) (ps : List Stmt) → bytes (preorder p) ≤ bytes (p ∷ ps) → AllFit ps → AllFit (p ∷ ps)
unfolding AllFit bytes
behind p ps h f zero l = omega (arith, h)
behind p ps h f (suc n) l = let k : n < length ps = omega arith in omega (arith, f n k)

first_fits : (p : Stmt) (ps : List Stmt) → AllFit (p ∷ ps) → bytes (preorder p) ≤ bytes (p ∷ ps)
unfolding AllFit bytes
first_fits p ps f = omega (arith, f 0 (omega arith))

rest_fits : (p : Stmt) (ps : List Stmt) → AllFit (p ∷ ps) → AllFit ps
unfolding AllFit bytes
rest_fits p ps f n l = omega (arith, f (suc n) (omega arith))

both_fit : (ps qs : List Stmt) → AllFit ps → AllFit qs → AllFit (ps ++ qs)
unfolding bytes
both_fit [] qs f g = g
both_fit (p ∷ ps) qs f g =
    behind p (ps ++ qs) (omega (arith, first_fits p ps f, bytes_append ps qs)) (both_fit ps qs (rest_fits p ps f) g)

none_fit : AllFit []
unfolding AllFit
none_fit n l = absurd (omega arith)

all_fit : (t : Stmt) → AllFit (preorder t)
unfolding preorder
all_fit nothing = behind nothing [] (omega arith) none_fit
all_fit (pause n) = behind (pause n) [] (omega arith) none_fit
all_fit (emit s) = behind (emit s) [] (omega arith) none_fit
all_fit (present? s then p else q) = behind (present? s then p else q) (preorder p ++ preorder q) (omega arith) (both_fit (preorder p) (preorder q) (all_fit p) (all_fit q))
all_fit (suspend p on s) = behind (suspend p on s) (preorder p) (omega arith) (all_fit p)
all_fit (p ⨾ q) = behind (p ⨾ q) (preorder p ++ preorder q) (omega arith) (both_fit (preorder p) (preorder q) (all_fit p) (all_fit q))
all_fit (loop p) = behind (loop p) (preorder p) (omega arith) (all_fit p)
all_fit (p parallel q) = behind (p parallel q) (preorder p ++ preorder q) (omega arith) (both_fit (preorder p) (preorder q) (all_fit p) (all_fit q))
all_fit (trap p) = behind (trap p) (preorder p) (omega arith) (all_fit p)
all_fit (exit d) = behind (exit d) [] (omega arith) none_fit
all_fit (local s p) = behind (local s p) (preorder p) (omega arith) (all_fit p)

pub part_within : (b : List ℕ) (n : ℕ) → (part_owed (reading b) n).offset + (part_owed (reading b) n).size ≤ length b
unfolding part_owed offset AllFit
part_within b n = go (reading b) refl
  where
    counted : (g : Good) → reading b ≡ good g → (x : Bool) → ltb n g.statements ≡ x
        → (cond x (record { number = 0; place = 0; offset = offset g.body n; size = bytes (preorder (numbered g.body n)) }) (absent_part 14 0)).offset
        + (cond x (record { number = 0; place = 0; offset = offset g.body n; size = bytes (preorder (numbered g.body n)) }) (absent_part 14 0)).size ≤ length b
    counted g e true q =
        let s = sound b g e in
        let l : n < g.statements = ltb-true n g.statements q in
        let k : n < length (preorder g.body) = omega (arith, s.counted, all_counted g.body) in
        omega (arith, all_fit g.body n k, s.whole)
    counted g e false q = omega arith

    go : (x : Reading) → reading b ≡ x → (part_owed x n).offset + (part_owed x n).size ≤ length b
    go (good g) e = counted g e (ltb n g.statements) refl
    go (turned_down k at) e = omega arith

-- A part found, or its refusal; and an excerpt, whose part lies in the lent block.
pub a_part : (b : List ℕ) (n : ℕ) → (r : FoundPart) × (part_told r ≡ part_owed (reading b) n) × IfOk r (λ p. p.offset + p.size ≤ length b)
unfolding part_told part_owed number
a_part b n = let f = go (reading b) refl in (f.0, f.1, bounded f.0 f.1)
  where
    found : (g : Good) (x : Bool) → (r : FoundPart)
        × (part_told r ≡ cond x (record { number = 0; place = 0; offset = offset g.body n; size = bytes (preorder (numbered g.body n)) }) (absent_part 14 0))
    found g true = (Ok (record { offset = offset g.body n; size = bytes (preorder (numbered g.body n)) }), refl)
    found g false = (Err (refusal_at Why.Index 0), refl)

    go : (x : Reading) → reading b ≡ x → (r : FoundPart) × (part_told r ≡ part_owed x n)
    go (good g) e = found g (ltb n g.statements)
    go (turned_down k at) e = (Err (refusal_at (why_of k) at), ap (λ (m : ℕ). absent_part m at) (named_in_block b k at e))

    bounded : (r : FoundPart) → part_told r ≡ part_owed (reading b) n → IfOk r (λ p. p.offset + p.size ≤ length b)
    bounded (Ok p) e = omega (arith, part_within b n, ap (λ (t : PartTold). t.offset) e, ap (λ (t : PartTold). t.size) e)
    bounded (Err r) e = tt

module _ (b : List ℕ) (n : ℕ) (lent : Place) where
  abbrev owed : PartTold
  owed = part_owed (reading b) n

  pub an_excerpt : (x : Excerpt) × (excerpted_as x ≡ record { number = owed.number; place = owed.place; part = take owed.size (drop owed.offset b) })
      × IfOk x (λ y. LiesAt y (lent holds b) owed.offset owed.size)
  unfolding excerpted_as part_told
  an_excerpt = go (a_part b n).0 (a_part b n).1
    where
      go : (r : FoundPart) → part_told r ≡ owed
          → (x : Excerpt) × (excerpted_as x ≡ record { number = owed.number; place = owed.place; part = take owed.size (drop owed.offset b) })
          × IfOk x (λ y. LiesAt y (lent holds b) owed.offset owed.size)
      go (Ok p) e = (
        Ok (record { ref_ptr = (lent.ptr.0, lent.ptr.1 + owed.offset); now = take owed.size (drop owed.offset b) }),
        (λ i. record { number = (e i).number; place = (e i).place; part = take owed.size (drop owed.offset b) }),
        record { in_its_memory = refl; from_offset = refl; within = part_within b n; its_bytes = refl },
      )
      go (Err r) e = (Err r, (λ i. record { number = (e i).number; place = (e i).place; part = take (e i).size (drop owed.offset b) }), tt)
