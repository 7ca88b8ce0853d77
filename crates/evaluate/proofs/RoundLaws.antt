-- The rounds over words: masks, marks, and the statuses that the words stand for. Assumes nothing.
use mathlib.Core.Path.{◌≡◌, refl, sym, ap, ap₂, ◌∙◌, subst, subst₂, fun_ext}
use mathlib.Core.Bool.{Bool, true, false, not, cond, ◌&&◌, ◌||◌, and_comm, and-false, or-false}
use mathlib.Core.List.{List, [], ◌∷◌}
use mathlib.Core.Option.{Option, none, some}
use Prim.Native.Nat.{ℕ, zero, suc, ◌+◌, ◌-◌, ◌*◌, ◌%◌, ◌^◌, ◌≤◌, ◌<◌}
use native.Mathlib.Nat.{zero-add, add-zero, le_of_suc-le-suc, not-suc-le-zero}
use native.Mathlib.Decide.{dec_lt, dec_le}
use native.Mathlib.Omega.{arith}
use lib.Dec.{T, eqb, leb, ltb, lt→ltb, ltb→lt, le→leb, leb→le}
use lib.ListN.{get_or}
use lib.Pow.{pow_pos}
use lib.Bits.{bit_and, bit_or, bit_xor, and_mask}
use borrow.Author.Tests.{eq-eqb}
use Rattle.sets.specs.Numbers.{Numbers, empty, count, lowest}
use Rattle.sets.specs.Words.{bits, set_of}
use Rattle.sets.proofs.Members.{is_true, is_false, of_true, of_false, ext, and_in, and_left, and_right}
use Rattle.sets.proofs.Counts.{count_add, count_cong, count_none, count_first, lowest_some, lowest_in, lowest_empty}
use Rattle.sets.proofs.Words.{below_power, bits_zero, bits_and, bits_or, bits_less, bits_ext}
use Rattle.rules.specs.Statements.{Block, Stmt}
use Rattle.rules.specs.Events.{Status, present, absent, unknown, Event, Hearing, all_heard, status_of, event}
use Rattle.rules.specs.Instant.{Step}
use Rattle.rules.specs.MustCan.{plus, must, can, Given, marked, gives}
use Rattle.rules.specs.States.{State, fresh, running, finished, active_of, step, kept, next}
use Rattle.rules.specs.Rounds as rules
use Rattle.tables.specs.declared.Table.{Table}
use Rattle.theorems.specs.Reach.{Reached, at_first, settling}
use Rattle.theorems.proofs.Reach.{round_settles}
use Rattle.theorems.proofs.RoundsEnd.{nothing_left}
use Rattle.words.specs.declared.events.Heard.{Heard}
use Rattle.words.specs.declared.given.MustCan.{MustCan}
use Rattle.forms.specs.declared.form.Task.{Task}
use Rattle.forms.specs.declared.form.Form.TheVariants.{Same}
use Rattle.words.specs.declared.pauses.Kept.{Kept}
use Rattle.evaluate.specs.declared.rounds.Ended.{Ended}
use Rattle.records.specs.declared.state.Phase.{Phase}
use Rattle.evaluate.specs.declared.rounds.Done.{Done}
use Rattle.evaluate.specs.declared.rounds.Reacted.{Reacted}
use Rattle.words.specs.Words.{event_of, given_of, hearing_of}
use Rattle.forms.specs.Forms.{At, Live, step_of, Does, Shows}
use Rattle.walk.specs.Walks.{Walked}
use Rattle.evaluate.specs.Next.{Keeping}
use Rattle.rules.specs.Rounds.{undecided, outputs_with}
use Rattle.evaluate.specs.Reacts.{outs_from, statuses, marks_of, Fine, Marks, Sized, Rounded, Ends, state_of, OutputsAre, DoneAs, Answered, Undecided, IsAnswer, Reacts}
use Rattle.records.specs.Held.{phase_held}
use Rattle.std.specs.Prelude.{Some}
use Rattle.std.proofs.lemmas.Option.{same_Some}
use Rattle.words.proofs.WordLaws.{shifted, power_of}

-- Masks.
pub shift_pos : (w s : ℕ) → s < w → 1 ≤ (1 * 2 ^ s) % 2 ^ w
shift_pos w s h = omega (arith, power_of ((1 * 2 ^ s) % 2 ^ w) s (shifted w h), pow_pos s)

pub below_is : (n : ℕ) → n < 64 → (k : ℕ) → bits ((1 * 2 ^ n) % 2 ^ 64 - 1) k ≡ ltb k n
below_is n h k = ap (λ (x : ℕ). bits (x - 1) k) (power_of ((1 * 2 ^ n) % 2 ^ 64) n (shifted 64 h)) ∙ below_power n k

pub below_all : (n : ℕ) → n ≤ 64 → 64 ≤ n → (k : ℕ) → bits 18446744073709551615 k ≡ ltb k n
below_all n h l k = let e : 64 ≡ n = omega arith in below_power 64 k ∙ ap (ltb k) e

not_below : (i k : ℕ) → not (ltb k i) ≡ leb i k
not_below i k = go (dec_lt k i)
  where
    go : Dec (k < i) → not (ltb k i) ≡ leb i k
    go (yes l) = ap not (is_true (ltb k i) (lt→ltb k i l)) ∙ sym (is_false (leb i k) (λ t. let h = leb→le i k t in omega arith))
    go (no l) = ap not (is_false (ltb k i) (λ t. l (ltb→lt k i t))) ∙ sym (is_true (leb i k) (le→leb i k (omega arith)))

pub outs_is : (i n first all : ℕ) → ((k : ℕ) → bits first k ≡ ltb k i) → ((k : ℕ) → bits all k ≡ ltb k (i + n)) → (k : ℕ) → bits (bit_and all (bit_xor all first)) k ≡ outs_from i n k
outs_is i n first all f g k =
    bits_less all first k ∙ ap₂ (λ (x y : Bool). x && not y) (g k) (f k) ∙ and_comm (ltb k (i + n)) (not (ltb k i)) ∙ ap (λ (x : Bool). x && ltb k (i + n)) (not_below i k)

-- The statuses, one by one.
pub status_in : (m : Heard) (s n j : ℕ) → j < n → get_or (statuses s n m) j unknown ≡ event_of m (s + j)
unfolding statuses
status_in m s zero j h = absurd (not-suc-le-zero h)
status_in m s (suc n) zero h = ap (event_of m) (sym (add-zero s))
status_in m s (suc n) (suc j) h = status_in m (suc s) n j (le_of_suc-le-suc h) ∙ ap (event_of m) (omega arith)

pub status_out : (m : Heard) (s n j : ℕ) → n ≤ j → get_or (statuses s n m) j unknown ≡ unknown
unfolding statuses
status_out m s zero j h = refl
status_out m s (suc n) zero h = absurd (not-suc-le-zero h)
status_out m s (suc n) (suc j) h = status_out m (suc s) n j (le_of_suc-le-suc h)

in_outs : (i n k : ℕ) → i ≤ k → k < i + n → outs_from i n k ≡ true
in_outs i n k h l = is_true (outs_from i n k) (and_in (leb i k) (ltb k (i + n)) (le→leb i k h) (lt→ltb k (i + n) l))

not_outs : (i n k : ℕ) → (i ≤ k → k < i + n → ⊥) → outs_from i n k ≡ false
not_outs i n k f = is_false (outs_from i n k) (λ t. f (leb→le i k (and_left (leb i k) (ltb k (i + n)) t)) (ltb→lt k (i + n) (and_right (leb i k) (ltb k (i + n)) t)))

module _ {S : Numbers} {m : Heard} (f : Fine S m) where
  pub no_present : (k : ℕ) → S k ≡ false → bits m.present k ≡ false
  no_present k e = f.in_present k ∙ ap (λ (b : Bool). b && bits m.present k) e

  pub no_absent : (k : ℕ) → S k ≡ false → bits m.absent k ≡ false
  no_absent k e = f.in_absent k ∙ ap (λ (b : Bool). b && bits m.absent k) e

  pub no_mark : (k : ℕ) → S k ≡ false → event_of m k ≡ unknown
  unfolding event_of
  no_mark k e = ap₂ status_of (no_present k e) (no_absent k e)

pub status_at : (m : Heard) (i n k : ℕ) → Fine (outs_from i n) m → i ≤ k → get_or (statuses i n m) (k - i) unknown ≡ event_of m k
status_at m i n k f h = go (dec_lt k (i + n))
  where
    go : Dec (k < i + n) → get_or (statuses i n m) (k - i) unknown ≡ event_of m k
    go (yes l) = status_in m i n (k - i) (omega arith) ∙ ap (event_of m) (omega arith)
    go (no l) = status_out m i n (k - i) (omega arith) ∙ sym (no_mark f k (not_outs i n k (λ a b. l b)))

-- The event of a round.
masked : (w x first : ℕ) (b : Block) (k : ℕ) → bits first k ≡ ltb k b.inputs → bits (bit_or (bit_and first w) x) k ≡ (ltb k b.inputs && bits w k || bits x k)
masked w x first b k e = bits_or (bit_and first w) x k ∙ ap (λ (y : Bool). y || bits x k) (bits_and first w k ∙ ap (λ (y : Bool). y && bits w k) e)

no_mark_here : (g h p a : Bool) → p ≡ false → a ≡ false → status_of (g || p) (h || a) ≡ status_of g h
no_mark_here g h p a e f = ap₂ (λ (x y : Bool). status_of (g || x) (h || y)) e f ∙ ap₂ status_of (or-false g) (or-false h)

pub heard_event : (b : Block) (first : ℕ) (given m : Heard) → ((k : ℕ) → bits first k ≡ ltb k b.inputs) → Fine (outs_from b.inputs b.outputs) m
    → event_of (record { present = bit_or (bit_and first given.present) m.present; absent = bit_or (bit_and first given.absent) m.absent }) ≡ event b (hearing_of given) (marks_of b m)
unfolding event event_of
heard_event b first given m f fine =
    fun_ext (λ k. ap₂ status_of (masked given.present m.present first b k (f k)) (masked given.absent m.absent first b k (f k)) ∙ go k (dec_lt k b.inputs))
  where
    at : ℕ → Bool → Status
    at k x = status_of (x && bits given.present k || bits m.present k) (x && bits given.absent k || bits m.absent k)

    is : ℕ → Bool → Status
    is k x = cond x (status_of (bits given.present k) (bits given.absent k)) (get_or (marks_of b m) (k - b.inputs) unknown)

    go : (k : ℕ) → Dec (k < b.inputs) → at k (ltb k b.inputs) ≡ is k (ltb k b.inputs)
    go k (yes l) =
        let e = is_true (ltb k b.inputs) (lt→ltb k b.inputs l) in
        let o = not_outs b.inputs b.outputs k (λ h q. omega arith) in
        ap (at k) e
        ∙ no_mark_here (bits given.present k) (bits given.absent k) (bits m.present k) (bits m.absent k) (no_present fine k o) (no_absent fine k o)
        ∙ ap (is k) (sym e)
    go k (no l) =
        let e = is_false (ltb k b.inputs) (λ t. l (ltb→lt k b.inputs t)) in
        ap (at k) e ∙ sym (status_at m b.inputs b.outputs k fine (omega arith)) ∙ ap (is k) (sym e)

-- No unknowns: the rest of the inputs is absent.
pub heard_all : (b : Block) (first given : ℕ) {i : ℕ} → ((k : ℕ) → bits first k ≡ ltb k i) → b.inputs ≡ i
    → hearing_of (record { present = given; absent = bit_and first (bit_xor first given) }) ≡ all_heard b (bits given)
heard_all b first given f e = λ j. record {
  heard_present = bits given;
  heard_absent = fun_ext (λ n. bits_less first given n ∙ ap (λ (x : Bool). x && not (bits given n)) (f n ∙ ap (ltb n) (sym e))) j;
}

-- A round's marks, bit by bit.
marks_apart : (o m c p a : Bool) → (p && a) ≡ false → ((o && (m || p && c)) && ((o && (a || o && not c)) && not m)) ≡ false
marks_apart false m c p a h = refl
marks_apart true true c p a h = and-false (a || not c)
marks_apart true false c false a h = refl
marks_apart true false false true a h = refl
marks_apart true false true true true h = h
marks_apart true false true true false h = refl

marks_at : (m c p a : Bool) → status_of (true && (m || p && c)) ((true && (a || true && not c)) && not m) ≡ marked m c (status_of p a)
marks_at true c p a = refl
marks_at false true true a = refl
marks_at false true false true = refl
marks_at false true false false = refl
marks_at false false true true = refl
marks_at false false true false = refl
marks_at false false false true = refl
marks_at false false false false = refl

inside : (o x : Bool) → (o && x) ≡ (o && (o && x))
inside true x = refl
inside false x = refl

inside_both : (o x y : Bool) → ((o && x) && y) ≡ (o && ((o && x) && y))
inside_both true x y = refl
inside_both false x y = refl

pub marks_are : (o : ℕ) (m : Heard) (a : MustCan)
    → Marks (bits o) m a (record {
      present = bit_and o (bit_or a.must.signals (bit_and m.present a.can.signals));
      absent = bit_and (bit_and o (bit_or m.absent (bit_and o (bit_xor o a.can.signals)))) (bit_xor (bit_and o (bit_or m.absent (bit_and o (bit_xor o a.can.signals)))) a.must.signals);
    })
unfolding event_of
marks_are o m a = record {
  fine = λ f. record {
    in_present = λ k. there k ∙ inside (bits o k) (u k || p k && c k) ∙ ap (λ (x : Bool). bits o k && x) (sym (there k));
    in_absent = λ k. away k ∙ inside_both (bits o k) (q k || bits o k && not (c k)) (not (u k)) ∙ ap (λ (x : Bool). bits o k && x) (sym (away k));
    apart = λ k. ap₂ (λ (x y : Bool). x && y) (there k) (away k) ∙ marks_apart (bits o k) (u k) (c k) (p k) (q k) (f.apart k);
  };
  marks = λ k e.
      ap₂ status_of (there k) (away k)
      ∙ ap (λ (x : Bool). status_of (x && (u k || p k && c k)) ((x && (q k || x && not (c k))) && not (u k))) e ∙ marks_at (u k) (c k) (p k) (q k);
}
  where
    u : Numbers
    u = bits a.must.signals

    c : Numbers
    c = bits a.can.signals

    p : Numbers
    p = bits m.present

    q : Numbers
    q = bits m.absent

    off : ℕ
    off = bit_and o (bit_or m.absent (bit_and o (bit_xor o a.can.signals)))

    there : (k : ℕ) → bits (bit_and o (bit_or a.must.signals (bit_and m.present a.can.signals))) k ≡ (bits o k && (u k || p k && c k))
    there k =
        bits_and o (bit_or a.must.signals (bit_and m.present a.can.signals)) k
        ∙ ap (λ (x : Bool). bits o k && x) (bits_or a.must.signals (bit_and m.present a.can.signals) k ∙ ap (λ (x : Bool). u k || x) (bits_and m.present a.can.signals k))

    off_is : (k : ℕ) → bits off k ≡ (bits o k && (q k || bits o k && not (c k)))
    off_is k =
        bits_and o (bit_or m.absent (bit_and o (bit_xor o a.can.signals))) k
        ∙ ap (λ (x : Bool). bits o k && x) (bits_or m.absent (bit_and o (bit_xor o a.can.signals)) k ∙ ap (λ (x : Bool). q k || x) (bits_less o a.can.signals k))

    away : (k : ℕ) → bits (bit_and off (bit_xor off a.must.signals)) k ≡ ((bits o k && (q k || bits o k && not (c k))) && not (u k))
    away k = bits_less off a.must.signals k ∙ ap (λ (x : Bool). x && not (u k)) (off_is k)

-- The marks of a list of statuses are those of the words.
marks_statuses : (M C : Given) (m r : Heard) (s n : ℕ) → ((k : ℕ) → s ≤ k → k < s + n → event_of r k ≡ marked (M.signals k) (C.signals k) (event_of m k))
    → statuses s n r ≡ rules.marks M C s (statuses s n m)
unfolding statuses rules.marks
marks_statuses M C m r s zero f = refl
marks_statuses M C m r s (suc n) f =
    ap₂ (λ (v : Status) (vs : List Status). v ∷ vs) (f s (omega arith) (omega arith)) (marks_statuses M C m r (suc s) n (λ k h l. f k (omega arith) (omega arith)))

pub same_set : {S R : Numbers} {m r : Heard} {a : MustCan} → ((k : ℕ) → S k ≡ R k) → Marks S m a r → Marks R m a r
same_set {m = m} {r} {a} e h = subst (λ (X : Numbers). Marks X m a r) (ext e) h

pub fine_block : {b : Block} {i n : ℕ} {m : Heard} → Sized b i n → Fine (outs_from i n) m → Fine (outs_from b.inputs b.outputs) m
fine_block {m = m} z f = subst₂ (λ (x y : ℕ). Fine (outs_from x y) m) (sym z.its_inputs) (sym z.its_outputs) f

pub rounded_is : {tab : Table} {live : List Bool} {c : Task} (i n : ℕ) {given : Heard} {m r e : Heard} {a : MustCan}
    → ((b : Block) (k : ℕ) → Sized b i k → Fine (outs_from i k) m → event_of e ≡ event b (hearing_of given) (marks_of b m))
    → Walked plus tab live (Same c) e a → Marks (outs_from i n) m a r → Rounded tab live c i n given m r
unfolding rules.round given_of Shows
rounded_is i n {given} {m} {r} {e} {a} ev w mk = record {
  fine = mk.fine;
  rounds = λ A l p d b z f.
      let E = event b (hearing_of given) (marks_of b m) in
      let u : given_of a.must ≡ gives must p E = (w.in_must refl).at A l p d ∙ ap (gives must p) (ev b n z f) in
      let v : given_of a.can ≡ gives (can plus) p E = w.in_can.at A l p d ∙ ap (gives (can plus) p) (ev b n z f) in
      marks_statuses (gives must p E) (gives (can plus) p E) m r b.inputs b.outputs
      (λ k h q.
      mk.marks k (in_outs i n k (subst (λ (x : ℕ). x ≤ k) z.its_inputs h) (subst₂ (λ (x y : ℕ). k < x + y) z.its_inputs z.its_outputs q))
      ∙ ap₂ (λ (x y : Given). marked (x.signals k) (y.signals k) (event_of m k)) u v);
}

-- Equal statuses, equal words.
status_present : (p a q b : Bool) → (p && a) ≡ false → (q && b) ≡ false → status_of p a ≡ status_of q b → p ≡ q
status_present true a true b f g e = refl
status_present true a false true f g e = absurd (let z : ◌≡◌ {A = ℕ} 0 1 = cc in omega arith)
status_present true a false false f g e = absurd (let z : ◌≡◌ {A = ℕ} 0 1 = cc in omega arith)
status_present false true true b f g e = absurd (let z : ◌≡◌ {A = ℕ} 0 1 = cc in omega arith)
status_present false false true b f g e = absurd (let z : ◌≡◌ {A = ℕ} 0 1 = cc in omega arith)
status_present false a false b f g e = refl

status_absent : (p a q b : Bool) → (p && a) ≡ false → (q && b) ≡ false → status_of p a ≡ status_of q b → a ≡ b
status_absent true a true b f g e = f ∙ sym g
status_absent true a false true f g e = absurd (let z : ◌≡◌ {A = ℕ} 0 1 = cc in omega arith)
status_absent true a false false f g e = absurd (let z : ◌≡◌ {A = ℕ} 0 1 = cc in omega arith)
status_absent false true true b f g e = absurd (let z : ◌≡◌ {A = ℕ} 0 1 = cc in omega arith)
status_absent false false true b f g e = absurd (let z : ◌≡◌ {A = ℕ} 0 1 = cc in omega arith)
status_absent false true false true f g e = refl
status_absent false true false false f g e = absurd (let z : ◌≡◌ {A = ℕ} 0 1 = cc in omega arith)
status_absent false false false true f g e = absurd (let z : ◌≡◌ {A = ℕ} 0 1 = cc in omega arith)
status_absent false false false false f g e = refl

module _ {S : Numbers} {m r : Heard} (f : Fine S m) (g : Fine S r) (same_at : (k : ℕ) → S k ≡ true → event_of m k ≡ event_of r k) where
  at_each : (k : ℕ) → (bits m.present k ≡ bits r.present k) × (bits m.absent k ≡ bits r.absent k)
  unfolding event_of
  at_each k = go (S k) refl
    where
      go : (b : Bool) → S k ≡ b → (bits m.present k ≡ bits r.present k) × (bits m.absent k ≡ bits r.absent k)
      go true e = (
        status_present (bits m.present k) (bits m.absent k) (bits r.present k) (bits r.absent k) (f.apart k) (g.apart k) (same_at k e),
        status_absent (bits m.present k) (bits m.absent k) (bits r.present k) (bits r.absent k) (f.apart k) (g.apart k) (same_at k e),
      )
      go false e = (no_present f k e ∙ sym (no_present g k e), no_absent f k e ∙ sym (no_absent g k e))

  same_present : m.present ≡ r.present
  same_present = bits_ext (λ k. (at_each k).0)

  same_absent : m.absent ≡ r.absent
  same_absent = bits_ext (λ k. (at_each k).1)

-- Lists of statuses that are the same.
same_eq : (v w : Status) → rules.same v w ≡ true → v ≡ w
same_eq present present e = refl
same_eq present absent e = absurd (of_true e)
same_eq present unknown e = absurd (of_true e)
same_eq absent present e = absurd (of_true e)
same_eq absent absent e = refl
same_eq absent unknown e = absurd (of_true e)
same_eq unknown present e = absurd (of_true e)
same_eq unknown absent e = absurd (of_true e)
same_eq unknown unknown e = refl

same_self : (v : Status) → rules.same v v ≡ true
same_self present = refl
same_self absent = refl
same_self unknown = refl

all_eq : (vs ws : List Status) → T (rules.all_same vs ws) → vs ≡ ws
unfolding rules.all_same
all_eq [] [] t = refl
all_eq [] (w ∷ ws) t = absurd t
all_eq (v ∷ vs) [] t = absurd t
all_eq (v ∷ vs) (w ∷ ws) t =
    ap₂ (λ (x : Status) (xs : List Status). x ∷ xs) (same_eq v w (is_true (rules.same v w) (and_left (rules.same v w) (rules.all_same vs ws) t)))
    (all_eq vs ws (and_right (rules.same v w) (rules.all_same vs ws) t))

all_self : (vs : List Status) → rules.all_same vs vs ≡ true
unfolding rules.all_same
all_self [] = refl
all_self (v ∷ vs) = ap₂ (λ (x y : Bool). x && y) (same_self v) (all_self vs)

module _ (b : Block) (p : Step) (G : Hearing) where
  pub settle_stop : (f : ℕ) (outs : List Status) → rules.all_same (rules.round b p G outs) outs ≡ true → rules.settle b p G (suc f) outs ≡ record { statuses = outs; rounds = 1 }
  unfolding rules.settle
  settle_stop f outs e = ap (λ (z : Bool). elim z as (λ _. rules.Settled) [ true ↦ record { statuses = outs; rounds = 1 } | false ↦ rules.one_more (rules.settle b p G f (rules.round b p G outs)) ]) e

  pub settle_on : (f : ℕ) (outs : List Status) → rules.all_same (rules.round b p G outs) outs ≡ false → rules.settle b p G (suc f) outs ≡ rules.one_more (rules.settle b p G f (rules.round b p G outs))
  unfolding rules.settle
  settle_on f outs e = ap (λ (z : Bool). elim z as (λ _. rules.Settled) [ true ↦ record { statuses = outs; rounds = 1 } | false ↦ rules.one_more (rules.settle b p G f (rules.round b p G outs)) ]) e

  pub settle_none : (outs : List Status) → rules.settle b p G 0 outs ≡ record { statuses = outs; rounds = 0 }
  unfolding rules.settle
  settle_none outs = refl

-- From these statuses with this fuel as from those with that, k rounds on.
pub record SameEnd (b : Block) (p : Step) (G : Hearing) (f : ℕ) (outs : List Status) (g : ℕ) (now : List Status) (k : ℕ) : Type 0 where
  pub statuses_eq : (rules.settle b p G f outs).statuses ≡ (rules.settle b p G g now).statuses
  pub rounds_eq : (rules.settle b p G f outs).rounds ≡ k + (rules.settle b p G g now).rounds

-- What holds after k rounds.
pub record Progress (tab : Table) (live : List Bool) (c : Task) (i n : ℕ) (given : Heard) (m : Heard) (k : ℕ) : Type 0 where
  pub fine : Fine (outs_from i n) m
  pub goes : (A : Numbers) → Live tab A live → (p : Step) → Does tab A c p → (b : Block) → Sized b i n → SameEnd b p (hearing_of given) (suc n) (rules.begin b) (suc n - k) (marks_of b m) k
  pub reached : (A : Numbers) → Live tab A live → (p : Step) → Does tab A c p → (b : Block) → Sized b i n → Reached b p (hearing_of given) (marks_of b m)

abbrev no_marks : Heard
no_marks = record { present = 0; absent = 0 }

none_marked : (s n : ℕ) → rules.begin (record { inputs = s; outputs = n; body = Rattle.rules.specs.Statements.nothing }) ≡ statuses s n no_marks
unfolding rules.begin statuses event_of
none_marked s zero = refl
none_marked s (suc n) = ap₂ (λ (v : Status) (vs : List Status). v ∷ vs) (sym (ap₂ status_of (bits_zero s) (bits_zero s))) (none_marked (suc s) n)

begins : (b : Block) → rules.begin b ≡ marks_of b no_marks
unfolding rules.begin
begins b = none_marked b.inputs b.outputs

all_left : (n : ℕ) → suc n ≡ suc n - 0
all_left n = omega arith

pub progress_none : {tab : Table} {live : List Bool} {c : Task} (i n : ℕ) {given : Heard} → Progress tab live c i n given (record { present = 0; absent = 0 }) 0
progress_none i n {given} = record {
  fine = record {
    in_present = λ k. bits_zero k ∙ sym (ap (λ (x : Bool). outs_from i n k && x) (bits_zero k) ∙ and-false (outs_from i n k));
    in_absent = λ k. bits_zero k ∙ sym (ap (λ (x : Bool). outs_from i n k && x) (bits_zero k) ∙ and-false (outs_from i n k));
    apart = λ k. ap (λ (x : Bool). x && bits 0 k) (bits_zero k);
  };
  goes = λ A l p d b z. record {
    statuses_eq = ap₂ (λ (f : ℕ) (vs : List Status). (rules.settle b p (hearing_of given) f vs).statuses) (all_left n) (begins b);
    rounds_eq = ap₂ (λ (f : ℕ) (vs : List Status). (rules.settle b p (hearing_of given) f vs).rounds) (all_left n) (begins b)
        ∙ sym (zero-add (rules.settle b p (hearing_of given) (suc n - 0) (marks_of b no_marks)).rounds);
  };
  reached = λ A l p d b z. subst (Reached b p (hearing_of given)) (begins b) at_first;
}

-- The next round is the last where it changes nothing, and so where no output is undecided.
module _ {tab : Table} {live : List Bool} {c : Task} {i n : ℕ} {given : Heard} {m : Heard} {k : ℕ} (q : Progress tab live c i n given m k) (h : k ≤ n) where
  pub ends_here : ((A : Numbers) → Live tab A live → (p : Step) → Does tab A c p → (b : Block) → Sized b i n → rules.round b p (hearing_of given) (marks_of b m) ≡ marks_of b m)
      → Ends tab live c i n given (record { marks = m; rounds = k + 1 })
  ends_here v = record {
    fine = q.fine;
    statuses_are = λ A l p d b z. sym ((q.goes A l p d b z).statuses_eq ∙ ap (λ (x : rules.Settled). x.statuses) (stop A l p d b z));
    rounds_are = λ A l p d b z. sym ((q.goes A l p d b z).rounds_eq ∙ ap (λ (x : rules.Settled). k + x.rounds) (stop A l p d b z));
  }
    where
      left : suc n - k ≡ suc (n - k)
      left = omega arith

      stop : (A : Numbers) → Live tab A live → (p : Step) → Does tab A c p → (b : Block) → Sized b i n
          → rules.settle b p (hearing_of given) (suc n - k) (marks_of b m) ≡ record { statuses = marks_of b m; rounds = 1 }
      stop A l p d b z =
          ap (λ (f : ℕ). rules.settle b p (hearing_of given) f (marks_of b m)) left
          ∙ settle_stop b p (hearing_of given) (n - k) (marks_of b m) (ap (λ (vs : List Status). rules.all_same vs (marks_of b m)) (v A l p d b z) ∙ all_self (marks_of b m))

  pub progress_decided : undecided (statuses i n m) ≡ 0 → Ends tab live c i n given (record { marks = m; rounds = k + 1 })
  progress_decided e = ends_here (λ A l p d b z. nothing_left b p (hearing_of given) (q.reached A l p d b z) (ap₂ (λ (x y : ℕ). undecided (statuses x y m)) z.its_inputs z.its_outputs ∙ e))

module _ {tab : Table} {live : List Bool} {c : Task} {i n : ℕ} {given : Heard} {m r : Heard} {k : ℕ} (q : Progress tab live c i n given m k) (h : k ≤ n) (w : Rounded tab live c i n given m r) where
  changed : (b : Block) → Sized b i n → (eqb r.present m.present && eqb r.absent m.absent) ≡ false → marks_of b r ≡ marks_of b m → ⊥
  changed b z e v =
      of_false e (and_in (eqb r.present m.present) (eqb r.absent m.absent) (of_true (eq-eqb r.present m.present (same_present fr fm same_at)))
      (of_true (eq-eqb r.absent m.absent (same_absent fr fm same_at))))
    where
      fm : Fine (outs_from b.inputs b.outputs) m
      fm = fine_block z q.fine

      fr : Fine (outs_from b.inputs b.outputs) r
      fr = fine_block z (w.fine q.fine)

      same_at : (j : ℕ) → outs_from b.inputs b.outputs j ≡ true → event_of r j ≡ event_of m j
      same_at j e =
          let t = of_true e in
          let l = leb→le b.inputs j (and_left (leb b.inputs j) (ltb j (b.inputs + b.outputs)) t) in
          sym (status_at r b.inputs b.outputs j fr l) ∙ ap (λ (vs : List Status). get_or vs (j - b.inputs) unknown) v ∙ status_at m b.inputs b.outputs j fm l

  left : suc n - k ≡ suc (n - k)
  left = omega arith

  pub progress_more : (eqb r.present m.present && eqb r.absent m.absent) ≡ false → Progress tab live c i n given r (k + 1)
  progress_more e = record {
    fine = w.fine q.fine;
    goes = λ A l p d b z.
        let u = q.goes A l p d b z in
        let v = w.rounds A l p d b z q.fine in
        let still = is_false (rules.all_same (rules.round b p (hearing_of given) (marks_of b m)) (marks_of b m))
        (λ t. changed b z e (v ∙ all_eq (rules.round b p (hearing_of given) (marks_of b m)) (marks_of b m) t)) in
        let on = ap (λ (f : ℕ). rules.settle b p (hearing_of given) f (marks_of b m)) left ∙ settle_on b p (hearing_of given) (n - k) (marks_of b m) still in
        let next : rules.settle b p (hearing_of given) (n - k) (rules.round b p (hearing_of given) (marks_of b m)) ≡ rules.settle b p (hearing_of given) (suc n - (k + 1))
        (marks_of b r) = ap₂ (rules.settle b p (hearing_of given)) (omega arith) (sym v) in
        record {
          statuses_eq = u.statuses_eq ∙ ap (λ (x : rules.Settled). x.statuses) on ∙ ap (λ (x : rules.Settled). x.statuses) next;
          rounds_eq = u.rounds_eq ∙ ap (λ (x : rules.Settled). k + x.rounds) on ∙ omega (arith, ap (λ (x : rules.Settled). x.rounds) next);
        };
    reached = λ A l p d b z. subst (Reached b p (hearing_of given)) (sym (w.rounds A l p d b z q.fine)) (settling (q.reached A l p d b z) (round_settles b p (hearing_of given) (marks_of b m)));
  }

  pub progress_stop : (eqb r.present m.present && eqb r.absent m.absent) ≡ true → Ends tab live c i n given (record { marks = m; rounds = k + 1 })
  progress_stop e = ends_here q h (λ A l p d b z. sym (w.rounds A l p d b z q.fine) ∙ ap (marks_of b) same_words)
    where
      same_words : r ≡ m
      same_words =
          let t = of_true e in
          λ j. record {
            present = lib.Dec.eqb→eq r.present m.present (and_left (eqb r.present m.present) (eqb r.absent m.absent) t) j;
            absent = lib.Dec.eqb→eq r.absent m.absent (and_right (eqb r.present m.present) (eqb r.absent m.absent) t) j;
          }

pub progress_end : {tab : Table} {live : List Bool} {c : Task} {i n : ℕ} {given : Heard} {m : Heard} {k : ℕ} → Progress tab live c i n given m k → n < k → k ≤ n + 1
    → Ends tab live c i n given (record { marks = m; rounds = k })
progress_end {n = n} {given} {m} {k} q h l = record {
  fine = q.fine;
  statuses_are = λ A y p d b z. sym ((q.goes A y p d b z).statuses_eq ∙ ap (λ (x : rules.Settled). x.statuses) (none p b));
  rounds_are = λ A y p d b z. sym ((q.goes A y p d b z).rounds_eq ∙ ap (λ (x : rules.Settled). k + x.rounds) (none p b) ∙ add-zero k);
}
  where
    none : (p : Step) (b : Block) → rules.settle b p (hearing_of given) (suc n - k) (marks_of b m) ≡ record { statuses = marks_of b m; rounds = 0 }
    none p b = ap (λ (f : ℕ). rules.settle b p (hearing_of given) f (marks_of b m)) (omega arith) ∙ settle_none b p (hearing_of given) (marks_of b m)

-- Which outputs have a status, by the words.
present_bit : (p a : Bool) → rules.same (status_of p a) present ≡ p
present_bit true a = refl
present_bit false true = refl
present_bit false false = refl

absent_bit : (p a : Bool) → (p && a) ≡ false → rules.same (status_of p a) absent ≡ a
absent_bit true a e = sym e
absent_bit false true e = refl
absent_bit false false e = refl

unknown_bit : (p a : Bool) → rules.same (status_of p a) unknown ≡ not (p || a)
unknown_bit true a = refl
unknown_bit false true = refl
unknown_bit false false = refl

module _ (b : Block) (m : Heard) (f : Fine (outs_from b.inputs b.outputs) m) where
  -- A word of the marks has the outputs with a status.
  with_status : (v : Status) (w : Numbers) → ((k : ℕ) → outs_from b.inputs b.outputs k ≡ false → w k ≡ false) → ((k : ℕ) → rules.same (event_of m k) v ≡ w k)
      → w ≡ outputs_with v b (marks_of b m)
  unfolding outputs_with
  with_status v w gone each = ext (λ k. go k (dec_le b.inputs k))
    where
      with_bit : (x : Bool) (k : ℕ) → leb b.inputs k ≡ x → outputs_with v b (marks_of b m) k ≡ (x && rules.same (get_or (marks_of b m) (k - b.inputs) unknown) v)
      with_bit x k e = ap (λ (y : Bool). y && rules.same (get_or (marks_of b m) (k - b.inputs) unknown) v) e

      go : (k : ℕ) → Dec (b.inputs ≤ k) → w k ≡ outputs_with v b (marks_of b m) k
      go k (yes h) =
          sym (with_bit true k (is_true (leb b.inputs k) (le→leb b.inputs k h)) ∙ ap (λ (x : Status). rules.same x v) (status_at m b.inputs b.outputs k f h) ∙ each k)
      go k (no g) = gone k (not_outs b.inputs b.outputs k (λ h l. g h)) ∙ sym (with_bit false k (is_false (leb b.inputs k) (λ t. g (leb→le b.inputs k t))))

  pub present_words : bits m.present ≡ outputs_with present b (marks_of b m)
  unfolding event_of
  present_words = with_status present (bits m.present) (no_present f) (λ k. present_bit (bits m.present k) (bits m.absent k))

  pub absent_words : bits m.absent ≡ outputs_with absent b (marks_of b m)
  unfolding event_of
  absent_words = with_status absent (bits m.absent) (no_absent f) (λ k. absent_bit (bits m.present k) (bits m.absent k) (f.apart k))

-- How many outputs have no mark.
undecided_count : (m : Heard) (s n : ℕ) → undecided (statuses s n m) ≡ count n (λ j. rules.same (event_of m (s + j)) unknown)
unfolding undecided statuses count
undecided_count m s zero = refl
undecided_count m s (suc n) =
    ap₂ (λ (x : Bool) (y : ℕ). cond x 1 0 + y) (ap (λ (x : ℕ). rules.same (event_of m x) unknown) (sym (add-zero s)))
    (undecided_count m (suc s) n ∙ count_cong n (λ j. rules.same (event_of m (suc s + j)) unknown) (λ j. rules.same (event_of m (s + suc j)) unknown)
    (λ j l. ap (λ (x : ℕ). rules.same (event_of m x) unknown) (later j)))
    ∙ sym (count_first n (λ j. rules.same (event_of m (s + j)) unknown))
  where
    later : (j : ℕ) → suc s + j ≡ s + suc j
    later j = omega arith

count_between : (f : Numbers) (i n r : ℕ) → count (i + (n + r)) (λ k. outs_from i n k && f k) ≡ count n (λ j. f (i + j))
count_between f i n r =
    count_add i (n + r) g
    ∙ ap₂ (λ (x y : ℕ). x + y) (count_none i g (λ k l t. let h = leb→le i k (and_left (leb i k) (ltb k (i + n)) (and_left (outs_from i n k) (f k) t)) in absurd (omega arith)))
    (count_add n r (λ k. g (i + k))
    ∙ ap₂ (λ (x y : ℕ). x + y) (count_cong n (λ k. g (i + k)) (λ k. f (i + k)) (λ k l. ap (λ (b : Bool). b && f (i + k)) (in_outs i n (i + k) (omega arith) (omega arith))))
    (count_none r (λ k. g (i + (n + k))) (λ k l t. let h = ltb→lt (i + (n + k)) (i + n)
    (and_right (leb i (i + (n + k))) (ltb (i + (n + k)) (i + n)) (and_left (outs_from i n (i + (n + k))) (f (i + (n + k))) t)) in absurd (omega arith)))
    ∙ add-zero (count n (λ k. f (i + k))))
    ∙ zero-add (count n (λ j. f (i + j)))
  where
    g : Numbers
    g k = outs_from i n k && f k

pub undecided_is : (m : Heard) (i n o d : ℕ) → i + n ≤ 64 → ((k : ℕ) → bits o k ≡ outs_from i n k) → d ≡ bit_or m.present m.absent
    → count 64 (bits (bit_and o (bit_xor o d))) ≡ undecided (statuses i n m)
unfolding event_of
undecided_is m i n o d h e q =
    ap (λ (f : Numbers). count 64 f) (ext (λ k.
    bits_less o d k ∙ ap₂ (λ (x y : Bool). x && not y) (e k) (ap (λ (x : ℕ). bits x k) q ∙ bits_or m.present m.absent k)))
    ∙ ap (λ (w : ℕ). count w (λ k. outs_from i n k && not (bits m.present k || bits m.absent k))) width
    ∙ count_between (λ k. not (bits m.present k || bits m.absent k)) i n (64 - (i + n))
    ∙ count_cong n (λ j. not (bits m.present (i + j) || bits m.absent (i + j))) (λ j. rules.same (event_of m (i + j)) unknown)
    (λ j l. sym (unknown_bit (bits m.present (i + j)) (bits m.absent (i + j))))
    ∙ sym (undecided_count m i n)
  where
    width : 64 ≡ i + (n + (64 - (i + n)))
    width = omega arith

-- The code.
pub legal_is : (c n : ℕ) → bits (c % 2 ^ 18) n ≡ (ltb n 18 && bits c n)
legal_is c n =
    ap (λ (x : ℕ). bits x n) (sym (and_mask c 18)) ∙ bits_and c (2 ^ 18 - 1) n ∙ ap (λ (b : Bool). bits c n && b) (below_power 18 n) ∙ and_comm (bits c n) (ltb n 18)

module _ (c w : ℕ) (legal : (n : ℕ) → bits w n ≡ (ltb n 18 && bits c n)) where
  pub no_code : w ≡ 0 → lowest 18 (bits c) ≡ none
  no_code e =
      lowest_empty 18 (bits c) (λ j l t.
      of_false (ap (λ (x : ℕ). bits x j) e ∙ bits_zero j) (subst T (sym (legal j)) (and_in (ltb j 18) (bits c j) (lt→ltb j 18 l) t)))

  pub the_code : (k : ℕ) → lowest 32 (bits w) ≡ some k → lowest 18 (bits c) ≡ some k
  the_code k e =
      let r = lowest_some 32 (bits w) e in
      let t = subst T (legal k) r.1 in
      let b : k < 18 = ltb→lt k 18 (and_left (ltb k 18) (bits c k) t) in
      lowest_in 18 (bits c) b (and_right (ltb k 18) (bits c k) t)
      (λ j l s. r.2 j l (subst T (sym (legal j)) (and_in (ltb j 18) (bits c j) (lt→ltb j 18 (omega arith)) s)))

-- The answer.
module _ {b : Block} {i n : ℕ} {m : Heard} (z : Sized b i n) (f : Fine (outs_from i n) m) where
  pub outputs_stand : {r : Reacted} → r.marks.present ≡ m.present → r.marks.absent ≡ m.absent → r.undecided ≡ undecided (statuses i n m) → (k : ℕ) → r.rounds ≡ k → OutputsAre b (marks_of b m) k r
  outputs_stand p a u k e = record {
    present_is = ap bits p ∙ present_words b m (fine_block z f);
    absent_is = ap bits a ∙ absent_words b m (fine_block z f);
    undecided_is = u ∙ ap₂ (λ (x y : ℕ). undecided (statuses x y m)) (sym z.its_inputs) (sym z.its_outputs);
    rounds_is = e;
  }

pub state_active : (c : ℕ) (A : Numbers) → active_of (next c A) ≡ cond (eqb c 1) A empty
unfolding next active_of
state_active c A = go (eqb c 1)
  where
    go : (x : Bool) → active_of (cond x (running A) finished) ≡ cond x A empty
    go true = refl
    go false = refl

pub state_next : (c : ℕ) (A : Numbers) → next c A ≡ next c (cond (eqb c 1) A empty)
unfolding next
state_next c A = go (eqb c 1)
  where
    go : (x : Bool) → cond x (running A) finished ≡ cond x (running (cond x A empty)) finished
    go true = refl
    go false = refl

module _ {b : Block} {e : rules.Settled} {r : Reacted} where
  pub not_known : (o : Option ℕ) (A : Numbers) → o ≡ none → Undecided b e.statuses e.rounds r → IsAnswer b (rules.answer e o A) r
  unfolding IsAnswer rules.answer
  not_known o A q u = subst (λ (x : Option ℕ). IsAnswer b (rules.answer e x A) r) (sym q) u

  pub is_known : (o : Option ℕ) (A : Numbers) (c : ℕ) → o ≡ some c → Answered b e.statuses c (next c A) e.rounds r → IsAnswer b (rules.answer e o A) r
  unfolding IsAnswer rules.answer
  is_known o A c q u = subst (λ (x : Option ℕ). IsAnswer b (rules.answer e x A) r) (sym q) u

pub kept_done : {d : Done} (c : ℕ) (A : Numbers) → d.code.0 ≡ c → set_of d.kept ≡ cond (eqb c 1) A empty → d.active ≡ count 128 (set_of d.kept)
    → DoneAs c (next c A) d
kept_done c A cd kp ac = record {
  code_is = cd;
  kept_is = kp ∙ sym (state_active c A);
  state_is = state_next c A ∙ ap (next c) (sym kp);
  active_is = ac;
}

-- What is done in an answer is what its field has.
pub done_there : {b : Block} {outs : List Status} {c n : ℕ} {st : State} {r : Reacted} {d : Done} → Answered b outs c st n r → r.done ≡ Some d → DoneAs c st d
done_there {c = c} {st = st} {d = d} a e = subst (λ (x : Done). DoneAs c st x) (same_Some a.done d (sym a.done_is ∙ e)) a.done_as

-- A state is the one of its phase and its active set.
pub state_of_held : (st : State) → state_of (phase_held st) (active_of st) ≡ st
unfolding phase_held active_of
state_of_held fresh = refl
state_of_held (running A) = refl
state_of_held finished = refl

-- One instant, put together.
pub reacts_is : (b : Block) (ph : Phase) (A : Numbers) (G : Hearing) (r : Reacted) (m : Heard) (k : ℕ) (C K : Numbers)
    → let p = step b.body (state_of ph A) in let z = rules.settle b p G (suc b.outputs) (rules.begin b) in let E = event b G (marks_of b m) in
    marks_of b m ≡ z.statuses → k ≡ z.rounds → C ≡ (gives must p E).codes → K ≡ kept p E
    → IsAnswer b (rules.answer (record { statuses = marks_of b m; rounds = k }) (lowest rules.code_width C) K) r → Reacts b ph A G r
unfolding Reacts rules.react rules.final_of
reacts_is b ph A G r m k C K s n c q a =
    let p = step b.body (state_of ph A) in
    let z = rules.settle b p G (suc b.outputs) (rules.begin b) in
    let e : record { statuses = marks_of b m; rounds = k } ≡ z = λ j. record { statuses = s j; rounds = n j } in
    let first = subst₂ (λ (X Y : Numbers). IsAnswer b (rules.answer (record { statuses = marks_of b m; rounds = k }) (lowest rules.code_width X) Y) r) c q a in
    subst (λ (x : rules.Settled). IsAnswer b (rules.answer x (lowest rules.code_width (gives must p (event b G x.statuses)).codes) (kept p (event b G x.statuses))) r) e first

pub instant_is : {tab : Table} {live : List Bool} {A : Numbers} {c : Task} {e : Heard} {end : Ended} {last : Kept} (r : Reacted) (i n : ℕ) (given : Heard) (ph : Phase) (body : Stmt)
    → At tab c.at body
    → ((B : Numbers) (t : Stmt) → step_of c.going B t ≡ step t (state_of ph B)) → Live tab A live → Ends tab live c i n given end
    → ((b : Block) (k : ℕ) → Sized b i k → Fine (outs_from i k) end.marks → event_of e ≡ event b (hearing_of given) (marks_of b end.marks)) → Keeping A tab live (Same c) e last
    → ((b : Block) → Sized b i n → Fine (outs_from i n) end.marks
    → IsAnswer b (rules.answer (record { statuses = marks_of b end.marks; rounds = end.rounds }) (lowest rules.code_width (bits last.codes)) (set_of last.pauses)) r)
    → Reacts (record { inputs = i; outputs = n; body = body }) ph A (hearing_of given) r
unfolding Shows
instant_is {tab} {live} {A} {c} {e} {end} {last} r i n given ph body there going l ends ev keeps answers =
    let b : Block = record { inputs = i; outputs = n; body = body } in
    let z : Sized b i n = record { its_inputs = refl; its_outputs = refl } in
    let p = step body (state_of ph A) in
    let d : Does tab A c p = record { tree = body; there = there; its_step = sym (going A body) } in
    let k = keeps.at l p d in
    let E = ev b n z ends.fine in
    reacts_is b ph A (hearing_of given) r end.marks end.rounds (bits last.codes) (set_of last.pauses) (ends.statuses_are A l p d b z) (ends.rounds_are A l p d b z)
    (k.codes_are ∙ ap (λ (F : Event). (gives must p F).codes) E) (k.pauses_are ∙ ap (kept p) E) (answers b z ends.fine)
