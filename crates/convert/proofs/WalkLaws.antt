-- The walk, by the statement that it stands at: no statement below it, one or two. What is written for its record, for those below it and behind them, one after
-- the other, is what is written for the statement; and the room, the marks and the traps that it asks for are there for those below. Assumes nothing.
use mathlib.Core.Path.{◌≡◌, refl, sym, ap, ap₂, ◌∙◌, subst, subst⁻¹}
use mathlib.Core.List.{List, ◌++◌}
use mathlib.Core.Option.{some}
use Prim.Native.Nat.{ℕ, ◌+◌, ◌-◌, ◌≤◌, ◌<◌}
use native.Mathlib.Omega.{arith}
use lib.ListN.{length}
use lib.Seq.{length-sets}
use Rattle.sets.specs.Numbers.{listed}
use Rattle.rules.specs.Statements.{Depth, depth, preorder}
use Rattle.tables.specs.Kinds.{shape}
use Rattle.records.specs.Numerals.{in_bytes}
use Rattle.writing.specs.Written.{shaped_bytes}
use Rattle.writing.proofs.Back.{length_records}
use Rattle.everyday.specs.Statements.{Alone, nothing, pause, halt, emit, sustain, await, exit, Around, suspend_on, loop, trap, local, abort_when}
use Rattle.everyday.specs.Statements.{Between, present_then_else, in_sequence, in_parallel, Everyday, alone, around, between}
use Rattle.everyday.specs.Conversion.{convert}
use Rattle.everyday.specs.Check.{traps_inside, TrappedAlone, Trapped₂}
use Rattle.converting.specs.Format.{Sort, of_none, of_one, of_two, sort_of, record_length, bytes₂}
use Rattle.converting.specs.Sizes.{Size, size, size₂}
use Rattle.converting.specs.Records.{made_bytes}
use Rattle.converting.proofs.Sizes.{size_made}
use Rattle.converting.proofs.Records.{records_made}
use Rattle.convert.specs.Walk.{sort_at, Recorded, own_sort, HeadAt, first_bytes, last_bytes, first_size, last_size, sends, marks_by}
use Rattle.convert.specs.Walk.{FewMarks, MarksInside, RoomFirst, RoomLast, Puts, Walks, WrittenOut}
use Rattle.convert.specs.declared.walk.Head.{Head}
use Rattle.convert.specs.declared.walk.Marks.{Marks}
use Rattle.convert.specs.declared.walk.Spot.{Spot}
use Rattle.convert.proofs.FormLaws.{Stored, and_stored}

-- A statement's own record.
pub own_recorded : (b : List ℕ) (at : ℕ) (p : Everyday) → Recorded b at p → sort_at b at ≡ some (own_sort p)
unfolding Recorded
own_recorded b at (alone a) r = r
own_recorded b at (around f p) r = r.0
own_recorded b at (between o p q) r = r.0

-- How many bytes are written, for a record and for a statement.
alone_length : (out : Depth → Depth) (a : Alone) → length (first_bytes out (of_none a)) ≡ first_size (of_none a)
unfolding first_size shaped_bytes in_bytes shape listed
alone_length out nothing = refl
alone_length out pause = refl
alone_length out halt = refl
alone_length out (emit s) = refl
alone_length out (sustain s) = refl
alone_length out (await s) = refl
alone_length out (exit d) = refl

pub first_length : (out : Depth → Depth) (s : Sort) → length (first_bytes out s) ≡ first_size s
unfolding first_size shaped_bytes in_bytes shape listed
first_length out (of_none a) = alone_length out a
first_length out (of_one (suspend_on s)) = refl
first_length out (of_one loop) = refl
first_length out (of_one trap) = refl
first_length out (of_one (local s)) = refl
first_length out (of_one (abort_when s)) = refl
first_length out (of_two (present_then_else s)) = refl
first_length out (of_two in_sequence) = refl
first_length out (of_two in_parallel) = refl

pub last_length : (s : Sort) → length (last_bytes s) ≡ last_size s
unfolding last_size shaped_bytes in_bytes shape listed
last_length (of_none a) = refl
last_length (of_one (suspend_on s)) = refl
last_length (of_one loop) = refl
last_length (of_one trap) = refl
last_length (of_one (local s)) = refl
last_length (of_one (abort_when s)) = refl
last_length (of_two o) = refl

made_length : (out : Depth → Depth) (p : Everyday) → length (made_bytes out p) ≡ (size₂ p).bytes
unfolding size
made_length out p =
    ap (λ (l : List ℕ). length l) (sym (records_made out 0 p)) ∙ length_records (preorder (convert out 0 p)) ∙ ap (λ (s : Size). s.bytes) (size_made out 0 p)

alone_bytes_are : (a : Alone) → (size₂ (alone a)).bytes ≡ first_size (of_none a)
unfolding size₂ first_size
alone_bytes_are a = refl

around_bytes : (f : Around) (p : Everyday) → (size₂ (around f p)).bytes ≡ first_size (of_one f) + ((size₂ p).bytes + last_size (of_one f))
unfolding size₂ first_size last_size
around_bytes (suspend_on s) p = omega arith
around_bytes loop p = omega arith
around_bytes trap p = omega arith
around_bytes (local s) p = omega arith
around_bytes (abort_when s) p = omega arith

between_bytes : (o : Between) (p q : Everyday) → (size₂ (between o p q)).bytes ≡ first_size (of_two o) + ((size₂ p).bytes + (size₂ q).bytes)
unfolding size₂ first_size
between_bytes (present_then_else s) p q = refl
between_bytes in_sequence p q = refl
between_bytes in_parallel p q = refl

own_room : (p : Everyday) → first_size (own_sort p) ≤ (size₂ p).bytes
own_room (alone a) = omega (arith, alone_bytes_are a)
own_room (around f p) = omega (arith, around_bytes f p)
own_room (between o p q) = omega (arith, between_bytes o p q)

-- How many traps nest in the conversion.
around_nested : (f : Around) (p : Everyday) → (size₂ (around f p)).traps ≡ marks_by (of_one f) + (size₂ p).traps
unfolding size₂ marks_by
around_nested (suspend_on s) p = omega arith
around_nested loop p = omega arith
around_nested trap p = omega arith
around_nested (local s) p = omega arith
around_nested (abort_when s) p = omega arith

between_nested : (o : Between) (p q : Everyday) → ((size₂ p).traps ≤ (size₂ (between o p q)).traps) × ((size₂ q).traps ≤ (size₂ (between o p q)).traps)
unfolding size₂
between_nested (present_then_else s) p q = (omega arith, omega arith)
between_nested in_sequence p q = (omega arith, omega arith)
between_nested in_parallel p q = (omega arith, omega arith)

no_mark_of_two : (o : Between) → marks_by (of_two o) ≡ 0
unfolding marks_by
no_mark_of_two o = refl

traps_few : (f : Around) (k n : ℕ) → k ≤ n → traps_inside f k ≤ n + marks_by (of_one f)
unfolding marks_by
traps_few (suspend_on s) k n l = omega arith
traps_few loop k n l = omega arith
traps_few trap k n l = omega arith
traps_few (local s) k n l = omega arith
traps_few (abort_when s) k n l = omega arith

-- Every record has some bytes.
record_some : (s : Sort) → 4 ≤ record_length s
record_some (of_none nothing) = omega arith
record_some (of_none pause) = omega arith
record_some (of_none halt) = omega arith
record_some (of_none (emit s)) = omega arith
record_some (of_none (sustain s)) = omega arith
record_some (of_none (await s)) = omega arith
record_some (of_none (exit d)) = omega arith
record_some (of_one (suspend_on s)) = omega arith
record_some (of_one loop) = omega arith
record_some (of_one trap) = omega arith
record_some (of_one (local s)) = omega arith
record_some (of_one (abort_when s)) = omega arith
record_some (of_two (present_then_else s)) = omega arith
record_some (of_two in_sequence) = omega arith
record_some (of_two in_parallel) = omega arith

own_some : (p : Everyday) → 4 ≤ bytes₂ p
unfolding bytes₂
own_some (alone a) = record_some (of_none a)
own_some (around f p) = omega (arith, record_some (of_one f))
own_some (between o p q) = omega (arith, record_some (of_two o))

pub place_small : {b : List ℕ} {spot : Spot} {m : Marks} {lent : ℕ} {p : Everyday} → Walks b spot m lent p → spot.at < 3086
place_small {p = p} w = omega (arith, w.within, own_some p)

pub marks_few : {b : List ℕ} {spot : Spot} {m : Marks} {lent : ℕ} {p : Everyday} → Walks b spot m lent p → FewMarks m
marks_few w = record { few = omega (arith, w.nested); none_beyond = w.none_beyond }

-- From what a call left.
put_stored : {bs : List ℕ} {size at behind : ℕ} {before now : List ℕ} → length bs ≡ size → Puts bs size at behind before now → Stored before at bs now behind
put_stored {at = at} e g = record { stored = g.stored; ends = g.ends ∙ ap (λ (n : ℕ). at + n) (sym e) }

written_stored : {p : Everyday} {m : Marks} {spot after : Spot} {before now : List ℕ} → WrittenOut p m spot after before now
    → Stored before spot.to (made_bytes (sends m) p) now after.to
written_stored {p} {m} {spot} g = record { stored = g.stored; ends = g.ends ∙ ap (λ (n : ℕ). spot.to + n) (sym (made_length (sends m) p)) }

written_as : (p : Everyday) (m : Marks) (spot after : Spot) {before now : List ℕ} → Stored before spot.to (made_bytes (sends m) p) now after.to
    → after.at ≡ spot.at + bytes₂ p → WrittenOut p m spot after before now
written_as p m spot after g e = record { stored = g.stored; ends = g.ends ∙ ap (λ (n : ℕ). spot.to + n) (made_length (sends m) p); read = e }

put_same : {bs : List ℕ} {size at behind : ℕ} {before now : List ℕ} → Puts bs size at behind before now → length now ≡ length before
put_same g = simp length-sets at (ap (λ (l : List ℕ). length l) g.stored)

written_same : {p : Everyday} {m : Marks} {spot after : Spot} {before now : List ℕ} → WrittenOut p m spot after before now → length now ≡ length before
written_same g = simp length-sets at (ap (λ (l : List ℕ). length l) g.stored)

-- The places rise, and none is past the end.
pub falls_to : {at i n : ℕ} → 3086 - at ≡ n → at < i → i < 3086 → 3086 - i < n
falls_to e l k = omega arith

-- An exit that finds its trap.
abbrev ExitBelow : ℕ → Sort → Type 0
ExitBelow k (of_none a) = TrappedAlone k a
ExitBelow k (of_one f) = Unit {0}
ExitBelow k (of_two o) = Unit {0}

own_exit : (p : Everyday) (k : ℕ) → Trapped₂ k p → ExitBelow k (own_sort p)
unfolding Trapped₂
own_exit (alone a) k t = t
own_exit (around f p) k t = tt
own_exit (between o p q) k t = tt

exit_small : (j x : ℕ) (p : Everyday) (k : ℕ) → Trapped₂ k p → k ≤ 16 → sort_of j x ≡ some (own_sort p) → j ≡ 25 → x < 1024
unfolding sort_of
exit_small j x p k t l e q =
    let e₂ : some (of_none (exit (depth x))) ≡ some (own_sort p) = ap (λ (j : ℕ). sort_of j x) (sym q) ∙ e in
    let y : of_none (exit (depth x)) ≡ own_sort p = cc in
    let n : x < k = subst⁻¹ (ExitBelow k) y (own_exit p k t) in
    omega arith

-- What the code has at hand: the record's head, what was written first, and the marks inside.
module _ {b : List ℕ} (spot : Spot) (m : Marks) {h : Head} (head : HeadAt b spot.at h) where
  sorted : {s : Sort} → sort_at b spot.at ≡ some s → sort_of h.kind h.operand ≡ some s
  sorted e = ap₂ sort_of head.its_kind head.its_operand ∙ e

  pub room_first : {lent : ℕ} (p : Everyday) → Walks b spot m lent p → RoomFirst h.kind h.operand spot.to lent m
  room_first p w =
      let e = sorted (own_recorded b spot.at p w.recorded) in
      record {
        sort = own_sort p;
        its_sort = e;
        room = omega (arith, w.room, own_room p);
        exits = exit_small h.kind h.operand p w.traps w.trapped (omega (arith, w.fewer, w.nested)) e;
        few = omega (arith, w.nested);
      }

  -- Where those below stand.
  first_at : (s : Sort) (p : Everyday) → sort_at b spot.at ≡ some s → Recorded b (spot.at + record_length s) p → Recorded b h.behind p
  first_at s p e r = subst⁻¹ (λ (k : ℕ). Recorded b k p) (head.its_behind s e) r

  module _ {to : ℕ} {before now₁ : List ℕ}
      (first : (s : Sort) → sort_of h.kind h.operand ≡ some s → Puts (first_bytes (sends m) s) (first_size s) spot.to to before now₁) where
    first_stored : (s : Sort) → sort_at b spot.at ≡ some s → Stored before spot.to (first_bytes (sends m) s) now₁ to
    first_stored s e = put_stored (first_length (sends m) s) (first s (sorted e))

    pub none_below : h.children ≡ 0 → (p : Everyday) → Recorded b spot.at p → WrittenOut p m spot (record { at = h.behind; to = to }) before now₁
    unfolding Recorded made_bytes bytes₂
    none_below z (alone a) r = written_as (alone a) m spot (record { at = h.behind; to = to }) (first_stored (of_none a) r) (head.its_behind (of_none a) r)
    none_below z (around f p) r = absurd (omega (arith, head.its_children (of_one f) r.0))
    none_below z (between o p q) r = absurd (omega (arith, head.its_children (of_two o) r.0))

    module _ {inner : Marks} (marks : (x : ℕ) (s : Sort) → sort_of h.kind x ≡ some s → MarksInside s m inner) where
      marks_are : (s : Sort) → sort_at b spot.at ≡ some s → MarksInside s m inner
      marks_are s e = marks h.operand s (sorted e)

      abbrev under : Spot
      under = record { at = h.behind; to = to }

      -- The first statement below.
      pub below_walks : (h.children ≡ 0 → ⊥) → (p : Everyday) → Walks b spot m (length before) p → (spot.at < h.behind) × ((q : Everyday) × Walks b under inner (length now₁) q)
      unfolding Recorded bytes₂ Trapped₂
      below_walks n (alone a) w = absurd (n (head.its_children (of_none a) w.recorded))
      below_walks n (around f p) w =
          let e = w.recorded.0 in
          let k = head.its_behind (of_one f) e in
          let i = marks_are (of_one f) e in
          let g = first (of_one f) (sorted e) in (
            omega (arith, k, record_some (of_one f)),
            (
              p,
              record {
                recorded = first_at (of_one f) p e w.recorded.1;
                within = omega (arith, k, w.within);
                room = omega (arith, g.ends, w.room, around_bytes f p, put_same g);
                nested = omega (arith, i.counted, w.nested, around_nested f p);
                none_beyond = i.none_beyond;
                traps = traps_inside f w.traps;
                trapped = w.trapped;
                fewer = omega (arith, traps_few f w.traps m.count w.fewer, i.counted);
              },
            ),
          )
      below_walks n (between o p q) w =
          let e = w.recorded.0 in
          let k = head.its_behind (of_two o) e in
          let i = marks_are (of_two o) e in
          let g = first (of_two o) (sorted e) in (
            omega (arith, k, record_some (of_two o)),
            (
              p,
              record {
                recorded = first_at (of_two o) p e w.recorded.1;
                within = omega (arith, k, w.within);
                room = omega (arith, g.ends, w.room, between_bytes o p q, put_same g);
                nested = omega (arith, i.counted, w.nested, (between_nested o p q).0, no_mark_of_two o);
                none_beyond = i.none_beyond;
                traps = w.traps;
                trapped = w.trapped.0;
                fewer = omega (arith, w.fewer, i.counted, no_mark_of_two o);
              },
            ),
          )

      module _ {after : Spot} {now₂ : List ℕ} (below : (q : Everyday) → Recorded b h.behind q → WrittenOut q inner under after now₁ now₂) where
        -- One statement below: the form's end is behind it.
        pub room_last : h.children ≡ 1 → (p : Everyday) → Walks b spot m (length before) p → RoomLast h.kind h.operand after.to (length now₂)
        unfolding Recorded
        room_last z (alone a) w = absurd (omega (arith, head.its_children (of_none a) w.recorded))
        room_last z (around f p) w =
            let e = w.recorded.0 in
            let g = first (of_one f) (sorted e) in
            let c = below p (first_at (of_one f) p e w.recorded.1) in
            record { sort = of_one f; its_sort = sorted e; room = omega (arith, g.ends, c.ends, w.room, around_bytes f p, put_same g, written_same c) }
        room_last z (between o p q) w = absurd (omega (arith, head.its_children (of_two o) w.recorded.0))

        pub one_below : {end : ℕ} {now₃ : List ℕ} → ((s : Sort) → sort_of h.kind h.operand ≡ some s → Puts (last_bytes s) (last_size s) after.to end now₂ now₃)
            → h.children ≡ 1 → (p : Everyday) → Recorded b spot.at p → WrittenOut p m spot (record { at = after.at; to = end }) before now₃
        unfolding Recorded made_bytes bytes₂
        one_below last z (alone a) r = absurd (omega (arith, head.its_children (of_none a) r))
        one_below {end} {now₃} last z (around f p) r =
            let s = of_one f in
            let c = below p (first_at s p r.0 r.1) in
            let all = and_stored (first_stored s r.0) (and_stored (written_stored c) (put_stored (last_length s) (last s (sorted r.0)))) in
            written_as (around f p) m spot (record { at = after.at; to = end })
            (subst (λ (out : Depth → Depth). Stored before spot.to (first_bytes (sends m) s ++ (made_bytes out p ++ last_bytes s)) now₃ end) (marks_are s r.0).sent all)
            (omega (arith, c.read, head.its_behind s r.0))
        one_below last z (between o p q) r = absurd (omega (arith, head.its_children (of_two o) r.0))

        -- Two statements below: the second is behind the first.
        pub second_walks : (h.children ≡ 0 → ⊥) → (h.children ≡ 1 → ⊥) → (p : Everyday) → Walks b spot m (length before) p
            → (spot.at < after.at) × ((q : Everyday) × Walks b after m (length now₂) q)
        unfolding Recorded bytes₂ Trapped₂
        second_walks n n₁ (alone a) w = absurd (n (head.its_children (of_none a) w.recorded))
        second_walks n n₁ (around f p) w = absurd (n₁ (head.its_children (of_one f) w.recorded.0))
        second_walks n n₁ (between o p q) w =
            let e = w.recorded.0 in
            let k = head.its_behind (of_two o) e in
            let g = first (of_two o) (sorted e) in
            let c = below p (first_at (of_two o) p e w.recorded.1) in
            let i : after.at ≡ spot.at + record_length (of_two o) + bytes₂ p = omega (arith, c.read, k) in (
              omega (arith, i, record_some (of_two o)),
              (
                q,
                record {
                  recorded = subst⁻¹ (λ (k : ℕ). Recorded b k q) i w.recorded.2;
                  within = omega (arith, i, w.within);
                  room = omega (arith, g.ends, c.ends, w.room, between_bytes o p q, put_same g, written_same c);
                  nested = omega (arith, w.nested, (between_nested o p q).1);
                  none_beyond = w.none_beyond;
                  traps = w.traps;
                  trapped = w.trapped.1;
                  fewer = w.fewer;
                },
              ),
            )

        pub two_below : {end : Spot} {now₃ : List ℕ} → ((q : Everyday) → Recorded b after.at q → WrittenOut q m after end now₂ now₃) → (h.children ≡ 0 → ⊥) → (h.children ≡ 1 → ⊥)
            → (p : Everyday) → Recorded b spot.at p → WrittenOut p m spot end before now₃
        unfolding Recorded made_bytes bytes₂
        two_below second n n₁ (alone a) r = absurd (n (head.its_children (of_none a) r))
        two_below second n n₁ (around f p) r = absurd (n₁ (head.its_children (of_one f) r.0))
        two_below {end} {now₃} second n n₁ (between o p q) r =
            let s = of_two o in
            let c = below p (first_at s p r.0 r.1) in
            let i : after.at ≡ spot.at + record_length s + bytes₂ p = omega (arith, c.read, head.its_behind s r.0) in
            let d = second q (subst⁻¹ (λ (k : ℕ). Recorded b k q) i r.2) in
            let all = and_stored (first_stored s r.0) (and_stored (written_stored c) (written_stored d)) in
            written_as (between o p q) m spot end
            (subst (λ (out : Depth → Depth). Stored before spot.to (first_bytes (sends m) s ++ (made_bytes out p ++ made_bytes (sends m) q)) now₃ end.to) (marks_are s r.0).sent all)
            (omega (arith, d.read, i))
