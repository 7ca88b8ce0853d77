-- Which refusals a text of the grammar with its names in order can get: 4, 8, and 5 where an input is emitted. The records of a tree stand one behind the other, each whole and
-- of a known kind, its signals and traps are declared around it, and the locals are numbered on; so each part is read to its end or gets 4 or 5. By induction on the tree. Assumes nothing.
use mathlib.Core.Path.{◌≡◌, refl, sym, ap, ap₂, ◌∙◌, subst, subst₂}
use mathlib.Core.Bool.{Bool, true, false, not, cond, ◌&&◌, ◌||◌}
use mathlib.Core.Logic.{◌⊎◌, inl, inr, ⊎_elim}
use mathlib.Core.List.{List, [], ◌∷◌, ◌++◌, append_assoc, append-nil}
use mathlib.Core.Option.{Option, none, some}
use Prim.Native.Nat.{ℕ, zero, suc, ◌+◌, ◌-◌, ◌/◌, ◌%◌, ◌≤◌, ◌<◌}
use native.Mathlib.Nat.{add_assoc}
use native.Mathlib.Decide.{dec_le}
use native.Mathlib.Omega.{arith}
use borrow.Author.Tests.{lt-ltb, le-ltb, lt-leb, eq-eqb, leb-false, eqb-false}
use lib.Dec.{T, eqb, ltb, leb}
use lib.ListN.{length, get_or, drop, length-append}
use Rattle.sets.specs.Numbers.{listed}
use Rattle.sets.proofs.Members.{is_true, of_true, or_left, or_right, or_out, eqb_in}
use Rattle.rules.specs.Statements.{Stmt}
use Rattle.tables.specs.Codes.{lowest_endless}
use Rattle.tables.specs.Kinds.{shape, length_of, children_of}
use Rattle.block.specs.Format.{Header, header, header_fault, is_broken, Around, Sofar, Got, got, refused, and_then, Good, Reading, good, turned_down, reading}
use Rattle.block.specs.Format.{two_bytes, kind_at, length_at, declared_here, operand_at, over_limit, wrong_signal, wrong_exit, statement_fault}
use Rattle.block.specs.Format.{past, inside, leaf, above, joined, read, ended, loops_checked, outermost, begun}
use Rattle.block.proofs.Views.{Leaf, Above, Joined, Kind, leafs, aboves, joins, a_nothing, a_pause, an_emit, an_exit, a_suspend, a_loop, a_trap, a_local, a_present, a_sequence, a_parallel}
use Rattle.block.proofs.Views.{leaf_children, above_children, joined_children, known_length}
use Rattle.block.proofs.Passes.{is_whole}
use Rattle.block.proofs.Parse.{read_fault, read_leaf, read_above, read_joined}
use Rattle.block.proofs.Tests.{fault_due, as_limit, as_signal, as_last, signal_emit, signal_test, signal_local, signal_none, exit_depth, exit_none, header_signals}
use Rattle.block.proofs.GoodReadings.{reading_is, statements_read}
use Rattle.records.specs.Numerals.{in_bytes}
use Rattle.writing.specs.Written.{shaped_bytes, record_bytes, header_bytes}
use Rattle.writing.specs.Answers.{refuses}
use Rattle.writing.proofs.Back.{behind_header}
use Rattle.writing.proofs.Records.{byte_there, two_there, operand_there, RecordAt, record_at, left_after, length_record}
use Rattle.text.specs.Tokens.{same, tokens}
use Rattle.text.specs.Grammar.{Arms, only, ◌beside◌, Chain, alone, ◌before◌, Basic, Nothing, Pause, Emit, Exit, Present, Suspend, Loop, Trap, Signal, Bracket, Text, spelt}
use Rattle.text.specs.Meaning.{Declaration, signal_named, trap_named, passed_over, signal_in, depth_in, declared, Part, arms_means, chain_means, basic_means, declaring}
use Rattle.text.specs.Meaning.{Blocked, text_means_with, text_means}
use Rattle.text.specs.Reader.{checked, block_of, text_read}
use Rattle.text.proofs.Options.{no_some, went_on, was_new, one_value}
use Rattle.text.proofs.Places.{text_gets}
use Rattle.read_text.proofs.EndingLaws.{signals, bytes, many_signals, few_signals, whole_length}

-- How many traps are declared; an exit's depth is below it.
unfoldable traps_of : List Declaration → ℕ
traps_of [] = 0
traps_of (signal_named x s ∷ ds) = traps_of ds
traps_of (trap_named x ∷ ds) = suc (traps_of ds)

depth_below : (ds : List Declaration) (x : List ℕ) (d : ℕ) → depth_in ds x ≡ some d → d < traps_of ds
unfolding depth_in traps_of
depth_below [] x d e = absurd (no_some e)
depth_below (signal_named y s ∷ ds) x d e = go (same y x) e (depth_below ds x d)
  where
    go : (z : Bool) → cond z none (depth_in ds x) ≡ some d → (depth_in ds x ≡ some d → d < traps_of ds) → d < traps_of ds
    go true e ih = absurd (no_some e)
    go false e ih = ih e
depth_below (trap_named y ∷ ds) x d e = go (same y x) e (λ c. depth_below ds x c)
  where
    go : (z : Bool) → cond z (some 0) (passed_over (trap_named y) (depth_in ds x)) ≡ some d → ((c : ℕ) → depth_in ds x ≡ some c → c < traps_of ds) → d < suc (traps_of ds)
    go true e ih = omega (arith, one_value e)
    go false e ih = let w = went_on (depth_in ds x) _ e in omega (arith, one_value w.2, ih w.0 w.1)

-- Locals are numbered on.
same_next : {v w : Part} → some v ≡ some w → v.next ≡ w.next
same_next e = ap (λ (p : Part). p.next) (one_value e)

mutual
  unfolding arms_means

  arms_on : (p : Arms) (ds : List Declaration) (n : ℕ) (w : Part) → arms_means p ds n ≡ some w → n ≤ w.next
  arms_on (only c) ds n w e = chain_on c ds n w e
  arms_on (c beside p) ds n w e =
      let u = went_on (chain_means c ds n) _ e in
      let v = went_on (arms_means p ds u.0.next) _ u.2 in
      omega (arith, chain_on c ds n u.0 u.1, arms_on p ds u.0.next v.0 v.1, same_next v.2)

  chain_on : (c : Chain) (ds : List Declaration) (n : ℕ) (w : Part) → chain_means c ds n ≡ some w → n ≤ w.next
  chain_on (alone i) ds n w e = basic_on i ds n w e
  chain_on (i before c) ds n w e =
      let u = went_on (basic_means i ds n) _ e in
      let v = went_on (chain_means c ds u.0.next) _ u.2 in
      omega (arith, basic_on i ds n u.0 u.1, chain_on c ds u.0.next v.0 v.1, same_next v.2)

  basic_on : (i : Basic) (ds : List Declaration) (n : ℕ) (w : Part) → basic_means i ds n ≡ some w → n ≤ w.next
  basic_on Nothing ds n w e = omega (arith, same_next e)
  basic_on Pause ds n w e = omega (arith, same_next e)
  basic_on (Emit x) ds n w e = omega (arith, same_next (went_on (signal_in ds x) _ e).2)
  basic_on (Exit x) ds n w e = omega (arith, same_next (went_on (depth_in ds x) _ e).2)
  basic_on (Present x p q) ds n w e =
      let u = went_on (arms_means p ds n) _ (went_on (signal_in ds x) _ e).2 in
      let v = went_on (arms_means q ds u.0.next) _ u.2 in
      omega (arith, arms_on p ds n u.0 u.1, arms_on q ds u.0.next v.0 v.1, same_next v.2)
  basic_on (Suspend p x) ds n w e =
      let u = went_on (arms_means p ds n) _ (went_on (signal_in ds x) _ e).2 in omega (arith, arms_on p ds n u.0 u.1, same_next u.2)
  basic_on (Loop p) ds n w e = let u = went_on (arms_means p ds n) _ e in omega (arith, arms_on p ds n u.0 u.1, same_next u.2)
  basic_on (Trap x p) ds n w e =
      let u = went_on (arms_means p (trap_named x ∷ ds) n) _ (was_new (declared ds x) _ e).1 in
      omega (arith, arms_on p (trap_named x ∷ ds) n u.0 u.1, same_next u.2)
  basic_on (Signal x p) ds n w e =
      let u = went_on (arms_means p (signal_named x n ∷ ds) (suc n)) _ (was_new (declared ds x) _ e).1 in
      omega (arith, arms_on p (signal_named x n ∷ ds) (suc n) u.0 u.1, same_next u.2)
  basic_on (Bracket p) ds n w e = arms_on p ds n w e

-- An input is emitted at a place of a block.
pub record InputEmitted (b : List ℕ) (inputs at : ℕ) : Type 0 where
  pub an_emit_there : kind_at b at ≡ 18
  pub of_an_input : operand_at b at < inputs

module _ (b : List ℕ) (h : Header) (few : h.inputs + h.outputs + h.locals ≤ 64) where
  abbrev base : ℕ
  base = h.inputs + h.outputs

  abbrev Early : ℕ → ℕ → Type 0
  Early m at = (m ≡ 4) ⊎ ((m ≡ 5) × InputEmitted b h.inputs at)

  -- What reading a part comes to: a statement, behind its records, with the number of the next local; or 4, or 5.
  data Comes (room : ℕ) (a : Around) (r : Sofar) (size next : ℕ) : Type 0 where
    is_got : (t : Stmt) (q : Sofar) → read room b h a r ≡ got t q → q.place ≡ r.place + size → base + q.locals ≡ next → Comes room a r size next
    is_refused : (m at : ℕ) → read room b h a r ≡ refused m at → Early m at → Comes room a r size next

  -- What is right with a record of a tree: its exit's depth, and its signal, but for an emit of an input.
  record Right (a : Around) (r : Sofar) (k : ℕ) : Type 0 where
    exits : wrong_exit a k (operand_at b r.place) ≡ false
    signals : wrong_signal h a r k (operand_at b r.place) ≡ true → (k ≡ 18) × (operand_at b r.place < h.inputs)

  module _ (a : Around) (r : Sofar) {k : ℕ} {rest : List ℕ} (w : RecordAt b r.place k rest) (v : Kind k) (right : Right a r k) where
    abbrev x : ℕ
    x = operand_at b r.place

    long : 4 ≤ length_of k
    long = (known_length v).0

    due : r.place < length b
    due = omega (arith, long, w.ends)

    whole : is_broken b r.place ≡ false
    whole = is_whole b r.place (omega (arith, long, w.ends)) (omega (arith, long, w.its_length)) (omega (arith, w.ends, w.its_length))

    limit : (room : ℕ) → over_limit room a r k ≡ true → statement_fault room b h a r ≡ 4
    limit room e = fault_due room b h a r due k (sym w.its_kind) ∙ as_limit room b h a r k whole (length_at b r.place) refl (sym w.its_length) e

    faults : (room : ℕ) → (statement_fault room b h a r ≡ 0) ⊎ Early (statement_fault room b h a r) r.place
    faults room = go (over_limit room a r k) refl (wrong_signal h a r k x) refl
      where
        go : (y : Bool) → over_limit room a r k ≡ y → (z : Bool) → wrong_signal h a r k x ≡ z
            → (statement_fault room b h a r ≡ 0) ⊎ Early (statement_fault room b h a r) r.place
        go true e z f = inr (inl (limit room e))
        go false e true f =
            let i = right.signals f in
            inr (inr (
              fault_due room b h a r due k (sym w.its_kind) ∙ as_signal room b h a r k whole (length_at b r.place) refl (sym w.its_length) e x refl f,
              record { an_emit_there = w.its_kind ∙ i.0; of_an_input = i.1 },
            ))
        go false e false f =
            inl
            (fault_due room b h a r due k (sym w.its_kind) ∙
            as_last room b h a r k whole (length_at b r.place) refl (sym w.its_length) e x refl f false (sym right.exits))

    not_none : {n : ℕ} → Early n r.place → n ≡ 0 → ⊥
    not_none (inl e) f = omega (arith, e, f)
    not_none (inr e) f = omega (arith, e.0, f)

    refused_here : (room size next : ℕ) → Early (statement_fault room b h a r) r.place → Comes room a r size next
    unfolding read
    refused_here zero size next e = is_refused _ r.place refl e
    refused_here (suc room) size next e = is_refused _ r.place (read_fault b h room a r (not_none e)) e

    -- Where no room is left the record gets 4; else it is good, or gets 4 or 5.
    by_room : (room size next : ℕ) → ((n : ℕ) → statement_fault (suc n) b h a r ≡ 0 → Comes (suc n) a r size next) → Comes room a r size next
    unfolding over_limit
    by_room zero size next f = refused_here zero size next (inl (limit zero refl))
    by_room (suc n) size next f = ⊎_elim (f n) (refused_here (suc n) size next) (faults (suc n))

    leaf_comes : (room next : ℕ) → Leaf k → base + (past k r).locals ≡ next → Comes room a r (length_of k) next
    unfolding past
    leaf_comes room next u e =
        by_room room (length_of k) next λ n fine.
        is_got (leaf k x r.pauses) (past k r) (read_leaf b h n a r fine (ap children_of w.its_kind ∙ leaf_children u)
        ∙ (λ i. got (leaf (w.its_kind i) x r.pauses) (past (w.its_kind i) r))) refl e

    above_comes : (room size next : ℕ) → Above k → ((n : ℕ) → Comes n (inside k x a) (past k r) size next) → Comes room a r (length_of k + size) next
    unfolding past
    above_comes room size next u child = by_room room (length_of k + size) next λ n fine. go n fine (child n)
      where
        is_above : (n : ℕ) → statement_fault (suc n) b h a r ≡ 0 → read (suc n) b h a r ≡ and_then (read n b h (inside k x a) (past k r)) (λ p q. got (above k x p) q)
        is_above n fine =
            read_above b h n a r fine (ap children_of w.its_kind ∙ above_children u)
            ∙ (λ i. and_then (read n b h (inside (w.its_kind i) x a) (past (w.its_kind i) r)) (λ p q. got (above (w.its_kind i) x p) q))

        go : (n : ℕ) → statement_fault (suc n) b h a r ≡ 0 → Comes n (inside k x a) (past k r) size next → Comes (suc n) a r (length_of k + size) next
        go n fine (is_got t q e p l) = is_got (above k x t) q (is_above n fine ∙ ap (λ (g : Got). and_then g (λ p q. got (above k x p) q)) e) (omega (arith, p)) l
        go n fine (is_refused m at e f) = is_refused m at (is_above n fine ∙ ap (λ (g : Got). and_then g (λ p q. got (above k x p) q)) e) f

    joined_comes : (room first mid second next : ℕ) → Joined k → ((n : ℕ) → Comes n (inside k x a) (past k r) first mid)
        → ((n : ℕ) (q : Sofar) → q.place ≡ r.place + length_of k + first → base + q.locals ≡ mid → Comes n (inside k x a) q second next)
        → Comes room a r (length_of k + (first + second)) next
    unfolding past
    joined_comes room first mid second next u one two = by_room room (length_of k + (first + second)) next λ n fine. go n fine (one n)
      where
        behind : ℕ → Stmt → Sofar → Got
        behind n p q = and_then (read n b h (inside k x a) q) (λ p' q'. got (joined k x p p') q')

        is_joined : (n : ℕ) → statement_fault (suc n) b h a r ≡ 0 → read (suc n) b h a r ≡ and_then (read n b h (inside k x a) (past k r)) (behind n)
        is_joined n fine =
            read_joined b h n a r fine (ap children_of w.its_kind ∙ joined_children u)
            ∙ (λ i. and_then (read n b h (inside (w.its_kind i) x a) (past (w.its_kind i) r))
            (λ p q. and_then (read n b h (inside (w.its_kind i) x a) q) (λ p' q'. got (joined (w.its_kind i) x p p') q')))

        then_two : (n : ℕ) → statement_fault (suc n) b h a r ≡ 0 → (t : Stmt) (q : Sofar) → read n b h (inside k x a) (past k r) ≡ got t q → q.place ≡ r.place + length_of k + first
            → Comes n (inside k x a) q second next → Comes (suc n) a r (length_of k + (first + second)) next
        then_two n fine t q e p (is_got t' q' e' p' l) =
            is_got (joined k x t t') q' (is_joined n fine ∙ ap (λ (g : Got). and_then g (behind n)) e ∙ ap (λ (g : Got). and_then g (λ p' q'. got (joined k x t p') q')) e')
            (omega (arith, p, p')) l
        then_two n fine t q e p (is_refused m at e' f) =
            is_refused m at (is_joined n fine ∙ ap (λ (g : Got). and_then g (behind n)) e ∙ ap (λ (g : Got). and_then g (λ p' q'. got (joined k x t p') q')) e') f

        go : (n : ℕ) → statement_fault (suc n) b h a r ≡ 0 → Comes n (inside k x a) (past k r) first mid → Comes (suc n) a r (length_of k + (first + second)) next
        go n fine (is_got t q e p l) = then_two n fine t q e p (two n q p l)
        go n fine (is_refused m at e f) = is_refused m at (is_joined n fine ∙ ap (λ (g : Got). and_then g (behind n)) e) f

  -- The declarations around a part and what stands around its first record, with the number of the next local.
  record Env (ds : List Declaration) (n : ℕ) (a : Around) : Type 0 where
    its_traps : traps_of ds ≡ a.traps
    known : (y : List ℕ) (s : ℕ) → signal_in ds y ≡ some s → (s < n) × T (declared_here h a s)

  env_on : {ds : List Declaration} {n m : ℕ} {a : Around} → n ≤ m → Env ds n a → Env ds m a
  env_on l v = record { its_traps = v.its_traps; known = λ y s e. (omega (arith, l, (v.known y s e).0), (v.known y s e).1) }

  env_joined : {k : ℕ} {ds : List Declaration} {n : ℕ} {a : Around} (y : ℕ) → Joined k → Env ds n a → Env ds n (inside k y a)
  unfolding inside
  env_joined y a_present v = record { its_traps = omega (arith, v.its_traps); known = v.known }
  env_joined y a_sequence v = record { its_traps = omega (arith, v.its_traps); known = v.known }
  env_joined y a_parallel v = record { its_traps = omega (arith, v.its_traps); known = v.known }

  -- A part of a text where its records stand, and a record of it.
  abbrev ComesSo : List Declaration → ℕ → Part → Type 0
  ComesSo ds n w = (room : ℕ) (a : Around) (r : Sofar) (rest : List ℕ) → Env ds n a → base + r.locals ≡ n → w.next ≤ base + h.locals → r.place ≤ length b
      → drop r.place b ≡ w.records ++ rest → Comes room a r (length w.records) w.next

  abbrev RightSo : ℕ → ℕ → List Declaration → ℕ → ℕ → Type 0
  RightSo k x ds n next = (a : Around) (r : Sofar) (rest : List ℕ) → Env ds n a → base + r.locals ≡ n → next ≤ base + h.locals → drop r.place b ≡ record_bytes k x ++ rest → Right a r k

  sized : {room : ℕ} {a : Around} {r : Sofar} {size other next : ℕ} → size ≡ other → Comes room a r size next → Comes room a r other next
  sized {room} {a} {r} {next = next} e c = subst (λ (s : ℕ). Comes room a r s next) e c

  leaf_so : {k : ℕ} (u : Leaf k) (x n : ℕ) (ds : List Declaration) → RightSo k x ds n n → ComesSo ds n (record { records = record_bytes k x; next = n })
  unfolding past
  leaf_so {k} u x n ds right room a r rest t l top p e =
      let w = record_at b r.place k x rest (leafs u) p e in
      sized (sym (length_record x (leafs u))) (leaf_comes a r w (leafs u) (right a r rest t l top e) room n u (past_leaf u ∙ l))
    where
      past_leaf : {k : ℕ} → Leaf k → base + (past k r).locals ≡ base + r.locals
      past_leaf a_nothing = omega arith
      past_leaf a_pause = omega arith
      past_leaf an_emit = omega arith
      past_leaf an_exit = omega arith

  above_so : {k : ℕ} (u : Above k) (x n : ℕ) (ds es : List Declaration) (m : ℕ) (w : Part) → m ≡ n + cond (eqb k 26) 1 0 → RightSo k x ds n w.next
      → ((a : Around) (r : Sofar) (rest : List ℕ) → Env ds n a → w.next ≤ base + h.locals → drop r.place b ≡ record_bytes k x ++ rest → Env es m (inside k (operand_at b r.place) a))
      → ComesSo es m w → ComesSo ds n (record { records = record_bytes k x ++ w.records; next = w.next })
  unfolding past
  above_so {k} u x n ds es m w g right env child room a r rest t l top p e =
      let d = e ∙ append_assoc (record_bytes k x) w.records rest in
      let c = record_at b r.place k x (w.records ++ rest) (aboves u) p d in
      let size = length-append (record_bytes k x) w.records ∙ ap (λ (i : ℕ). i + length w.records) (length_record x (aboves u)) in
      sized (sym size) (above_comes a r c (aboves u) (right a r (w.records ++ rest) t l top d) room (length w.records) w.next u
      (λ i. child i (inside k (operand_at b r.place) a) (past k r) rest (env a r (w.records ++ rest) t top d) (omega (arith, l, g)) top c.ends c.after))

  joined_so : {k : ℕ} (u : Joined k) (x n : ℕ) (ds : List Declaration) (v w : Part) → n ≤ v.next → v.next ≤ w.next → RightSo k x ds n w.next → ComesSo ds n v → ComesSo ds v.next w
      → ComesSo ds n (record { records = record_bytes k x ++ (v.records ++ w.records); next = w.next })
  unfolding past
  joined_so {k} u x n ds v w low high right one two room a r rest t l top p e =
      let d = e ∙ append_assoc (record_bytes k x) (v.records ++ w.records) rest in
      let c = record_at b r.place k x ((v.records ++ w.records) ++ rest) (joins u) p d in
      let after = c.after ∙ append_assoc v.records w.records rest in
      let left = left_after b (r.place + length_of k) v.records (w.records ++ rest) c.ends after in
      let y = operand_at b r.place in
      let env = env_joined y u t in
      let size = length-append (record_bytes k x) (v.records ++ w.records) ∙ ap₂ (λ (i j : ℕ). i + j) (length_record x (joins u)) (length-append v.records w.records) in
      sized (sym size) (joined_comes a r c (joins u) (right a r ((v.records ++ w.records) ++ rest) t l top d) room (length v.records) v.next (length w.records) w.next u
      (λ i. one i (inside k y a) (past k r) (w.records ++ rest) env (omega (arith, l, no_local u)) (omega (arith, high, top)) c.ends after)
      (λ i q f g. two i (inside k y a) q rest (env_on low env) g top (omega (arith, f, left.0)) (ap (λ (at : ℕ). drop at b) f ∙ left.1)))
    where
      no_local : {k : ℕ} → Joined k → ◌≡◌ {A = ℕ} (cond (eqb k 26) 1 0) 0
      no_local a_present = refl
      no_local a_sequence = refl
      no_local a_parallel = refl

  -- What is right, kind by kind.
  never : {z : Bool} → z ≡ false → z ≡ true → ⊥
  never e f = let z : ◌≡◌ {A = ℕ} 0 1 = cc in omega arith

  -- An exit's operand, of which two bytes are kept, is no more than its depth.
  right_exit : (ds : List Declaration) (n d : ℕ) → d < traps_of ds → RightSo 25 d ds n n
  unfolding shaped_bytes shape listed in_bytes
  right_exit ds n d l a r rest t m top e =
      let at = r.place in
      let low : get_or b (at + 4) 0 ≡ d % 256 = byte_there b at 4 e in
      let high : get_or b (at + 4 + 1) 0 ≡ d / 256 % 256 = ap (λ (i : ℕ). get_or b i 0) (add_assoc at 4 1) ∙ byte_there b at 5 e in
      let small : d / 256 % 256 ≤ d / 256 = omega arith in
      let most : operand_at b at ≤ d = omega (arith, low, high, small) in
      record {
        exits = exit_depth a 25 (operand_at b at) refl ∙ lt-leb a.traps (operand_at b at) (omega (arith, most, l, t.its_traps));
        signals = λ z. absurd (never (signal_none h a r 25 _ (λ e. omega (arith, e)) (λ e. omega (arith, e)) (λ e. omega (arith, e)) (λ e. omega (arith, e))) z);
      }

  -- A signal that is declared around the record: no fault, but for an emit of an input.
  right_emit : (ds : List Declaration) (n s : ℕ) (y : List ℕ) → signal_in ds y ≡ some s → RightSo 18 s ds n n
  unfolding shape listed
  right_emit ds n s y i a r rest t m top e =
      let k = t.known y s i in
      let o : operand_at b r.place ≡ s = operand_there b r.place 18 s rest refl (omega (arith, k.0, top, few)) e in
      let here : declared_here h a (operand_at b r.place) ≡ true = ap (λ (x : ℕ). declared_here h a x) o ∙ is_true _ k.1 in
      record {
        exits = exit_none a 18 _ (λ e. omega (arith, e));
        signals = λ z. (refl, leb-false _ _ (go (leb h.inputs (operand_at b r.place)) (declared_here h a (operand_at b r.place)) here (sym (signal_emit h a r 18 _ refl) ∙ z)));
      }
    where
      go : (x y : Bool) → y ≡ true → not (x && y) ≡ true → x ≡ false
      go false y e f = refl
      go true true e f = let z : ◌≡◌ {A = ℕ} 0 1 = cc in absurd (omega arith)
      go true false e f = let z : ◌≡◌ {A = ℕ} 0 1 = cc in absurd (omega arith)

  right_test : (k : ℕ) (ds : List Declaration) (n next s : ℕ) (y : List ℕ) → n ≤ next → (k ≡ 19) ⊎ (k ≡ 20) → signal_in ds y ≡ some s → RightSo k s ds n next
  unfolding shape listed
  right_test k ds n next s y l c i a r rest t m top e =
      let q = t.known y s i in
      let small : s < 65536 = omega (arith, q.0, top, few, l) in
      let o : operand_at b r.place ≡ s = there c small e in
      let here : declared_here h a (operand_at b r.place) ≡ true = ap (λ (x : ℕ). declared_here h a x) o ∙ is_true _ q.1 in
      record { exits = exit_none a k _ (no_exit c); signals = λ z. absurd (never (signal_test h a r k _ c ∙ ap not here) z) }
    where
      no_exit : {k : ℕ} → (k ≡ 19) ⊎ (k ≡ 20) → k ≡ 25 → ⊥
      no_exit (inl e) f = omega (arith, e, f)
      no_exit (inr e) f = omega (arith, e, f)

      there : {k : ℕ} → (k ≡ 19) ⊎ (k ≡ 20) → s < 65536 → drop r.place b ≡ record_bytes k s ++ rest → operand_at b r.place ≡ s
      there (inl e) l f = operand_there b r.place 19 s rest refl l (f ∙ ap (λ (k : ℕ). record_bytes k s ++ rest) e)
      there (inr e) l f = operand_there b r.place 20 s rest refl l (f ∙ ap (λ (k : ℕ). record_bytes k s ++ rest) e)

  right_local : (ds : List Declaration) (n next : ℕ) → n < next → RightSo 26 n ds n next
  unfolding shape listed
  right_local ds n next l a r rest t m top e =
      let o : operand_at b r.place ≡ n = operand_there b r.place 26 n rest refl (omega (arith, l, top, few)) e in
      let more : ltb r.locals h.locals ≡ true = lt-ltb r.locals h.locals (omega (arith, m, l, top)) in
      let its : eqb (operand_at b r.place) (h.inputs + h.outputs + r.locals) ≡ true = eq-eqb _ _ (o ∙ sym m) in
      record {
        exits = exit_none a 26 _ (λ e. omega (arith, e));
        signals = λ z. absurd (never (signal_local h a r 26 _ refl ∙ ap₂ (λ (x y : Bool). not (x && y)) more its) z);
      }

  env_local : (ds : List Declaration) (n next : ℕ) (x : List ℕ) → n < next → (a : Around) (r : Sofar) (rest : List ℕ) → Env ds n a → next ≤ base + h.locals
      → drop r.place b ≡ record_bytes 26 n ++ rest → Env (signal_named x n ∷ ds) (suc n) (inside 26 (operand_at b r.place) a)
  unfolding shape listed inside traps_of signal_in
  env_local ds n next x l a r rest t top e =
      let o : operand_at b r.place ≡ n = operand_there b r.place 26 n rest refl (omega (arith, l, top, few)) e in
      record { its_traps = omega (arith, t.its_traps); known = λ y s f. go (same x y) y s o f }
    where
      go : (z : Bool) (y : List ℕ) (s : ℕ) {q : ℕ} → q ≡ n → cond z (some n) (signal_in ds y) ≡ some s → (s < suc n) × T (ltb s (h.inputs + h.outputs) || (eqb s q || a.scope s))
      go true y s {q} o f = (omega (arith, one_value f), or_right (ltb s (h.inputs + h.outputs)) _ (or_left (eqb s q) _ (eqb_in (sym (one_value f) ∙ sym o))))
      go false y s {q} o f =
          let k = t.known y s f in
          let low = ltb s (h.inputs + h.outputs) in
          (omega (arith, k.0), ⊎_elim (λ i. or_left low _ i) (λ i. or_right low _ (or_right (eqb s q) _ i)) (or_out low (a.scope s) k.1))

  env_trap : (ds : List Declaration) (n : ℕ) (x : List ℕ) (a : Around) (y : ℕ) → Env ds n a → Env (trap_named x ∷ ds) n (inside 24 y a)
  unfolding inside traps_of signal_in
  env_trap ds n x a y t = record { its_traps = omega (arith, t.its_traps); known = λ y s e. go (same x y) y s e }
    where
      go : (z : Bool) (y : List ℕ) (s : ℕ) → cond z none (signal_in ds y) ≡ some s → (s < n) × T (declared_here h a s)
      go true y s e = absurd (no_some e)
      go false y s e = t.known y s e

  told : (ds : List Declaration) (n : ℕ) {v w : Part} → v ≡ w → ComesSo ds n v → ComesSo ds n w
  told ds n e c = subst (λ (p : Part). ComesSo ds n p) e c

  -- A record whose kind has neither a signal nor a depth.
  plain : (k : ℕ) → eqb k 18 ≡ false → eqb k 19 ≡ false → eqb k 20 ≡ false → eqb k 25 ≡ false → eqb k 26 ≡ false → (ds : List Declaration) (n next : ℕ) → RightSo k 0 ds n next
  plain k e f g i j ds n next a r rest t m top d = record {
    exits = exit_none a k _ (eqb-false k 25 i);
    signals = λ z. absurd (never (signal_none h a r k _ (eqb-false k 18 e) (eqb-false k 19 f) (eqb-false k 20 g) (eqb-false k 26 j)) z);
  }

  mutual
    unfolding arms_means traps_of inside

    arms_so : (p : Arms) (ds : List Declaration) (n : ℕ) (w : Part) → arms_means p ds n ≡ some w → ComesSo ds n w
    arms_so (only c) ds n w e = chain_so c ds n w e
    arms_so (c beside p) ds n w e =
        let u = went_on (chain_means c ds n) _ e in
        let v = went_on (arms_means p ds u.0.next) _ u.2 in
        told ds n (one_value v.2) (joined_so a_parallel 0 n ds u.0 v.0 (chain_on c ds n u.0 u.1) (arms_on p ds u.0.next v.0 v.1)
        (plain 23 refl refl refl refl refl ds n v.0.next)
        (chain_so c ds n u.0 u.1) (arms_so p ds u.0.next v.0 v.1))

    chain_so : (c : Chain) (ds : List Declaration) (n : ℕ) (w : Part) → chain_means c ds n ≡ some w → ComesSo ds n w
    chain_so (alone i) ds n w e = basic_so i ds n w e
    chain_so (i before c) ds n w e =
        let u = went_on (basic_means i ds n) _ e in
        let v = went_on (chain_means c ds u.0.next) _ u.2 in
        told ds n (one_value v.2) (joined_so a_sequence 0 n ds u.0 v.0 (basic_on i ds n u.0 u.1) (chain_on c ds u.0.next v.0 v.1)
        (plain 21 refl refl refl refl refl ds n v.0.next)
        (basic_so i ds n u.0 u.1) (chain_so c ds u.0.next v.0 v.1))

    basic_so : (i : Basic) (ds : List Declaration) (n : ℕ) (w : Part) → basic_means i ds n ≡ some w → ComesSo ds n w
    basic_so Nothing ds n w e =
        told ds n (one_value e) (leaf_so a_nothing 0 n ds
        (plain 16 refl refl refl refl refl ds n n))
    basic_so Pause ds n w e =
        told ds n (one_value e) (leaf_so a_pause 0 n ds
        (plain 17 refl refl refl refl refl ds n n))
    basic_so (Emit x) ds n w e = let u = went_on (signal_in ds x) _ e in told ds n (one_value u.2) (leaf_so an_emit u.0 n ds (right_emit ds n u.0 x u.1))
    basic_so (Exit x) ds n w e =
        let u = went_on (depth_in ds x) _ e in told ds n (one_value u.2) (leaf_so an_exit u.0 n ds (right_exit ds n u.0 (depth_below ds x u.0 u.1)))
    basic_so (Present x p q) ds n w e =
        let s = went_on (signal_in ds x) _ e in
        let u = went_on (arms_means p ds n) _ s.2 in
        let v = went_on (arms_means q ds u.0.next) _ u.2 in
        let low = arms_on p ds n u.0 u.1 in
        let high = arms_on q ds u.0.next v.0 v.1 in
        told ds n (one_value v.2) (joined_so a_present s.0 n ds u.0 v.0 low high (right_test 19 ds n v.0.next s.0 x (omega (arith, low, high)) (inl refl) s.1)
        (arms_so p ds n u.0 u.1) (arms_so q ds u.0.next v.0 v.1))
    basic_so (Suspend p x) ds n w e =
        let s = went_on (signal_in ds x) _ e in
        let u = went_on (arms_means p ds n) _ s.2 in
        told ds n (one_value u.2) (above_so a_suspend s.0 n ds ds n u.0 (omega arith)
        (right_test 20 ds n u.0.next s.0 x (arms_on p ds n u.0 u.1) (inr refl) s.1)
        (λ a r rest t top d. record { its_traps = omega (arith, t.its_traps); known = t.known }) (arms_so p ds n u.0 u.1))
    basic_so (Loop p) ds n w e =
        let u = went_on (arms_means p ds n) _ e in
        told ds n (one_value u.2) (above_so a_loop 0 n ds ds n u.0 (omega arith)
        (plain 22 refl refl refl refl refl ds n u.0.next)
        (λ a r rest t top d. record { its_traps = omega (arith, t.its_traps); known = t.known }) (arms_so p ds n u.0 u.1))
    basic_so (Trap x p) ds n w e =
        let s = was_new (declared ds x) _ e in
        let u = went_on (arms_means p (trap_named x ∷ ds) n) _ s.1 in
        told ds n (one_value u.2) (above_so a_trap 0 n ds (trap_named x ∷ ds) n u.0 (omega arith)
        (plain 24 refl refl refl refl refl ds n u.0.next)
        (λ a r rest t top d. env_trap ds n x a (operand_at b r.place) t) (arms_so p (trap_named x ∷ ds) n u.0 u.1))
    basic_so (Signal x p) ds n w e =
        let s = was_new (declared ds x) _ e in
        let u = went_on (arms_means p (signal_named x n ∷ ds) (suc n)) _ s.1 in
        let more : n < u.0.next = omega (arith, arms_on p (signal_named x n ∷ ds) (suc n) u.0 u.1) in
        told ds n (one_value u.2) (above_so a_local n n ds (signal_named x n ∷ ds) (suc n) u.0 (omega arith) (right_local ds n u.0.next more)
        (λ a r rest t top d. env_local ds n u.0.next x more a r rest t top d) (arms_so p (signal_named x n ∷ ds) (suc n) u.0 u.1))
    basic_so (Bracket p) ds n w e = arms_so p ds n w e

-- The header's names declare no trap, and signals numbered on.
no_traps : (xs : List (List ℕ)) (ds es : List Declaration) (n : ℕ) → declaring ds n xs ≡ some es → traps_of es ≡ traps_of ds
unfolding declaring traps_of
no_traps [] ds es n e = sym (ap traps_of (one_value e))
no_traps (x ∷ xs) ds es n e = no_traps xs (signal_named x n ∷ ds) es (suc n) (was_new (declared ds x) _ e).1

small_names : (xs : List (List ℕ)) (ds es : List Declaration) (n : ℕ) → declaring ds n xs ≡ some es → ((y : List ℕ) (s : ℕ) → signal_in ds y ≡ some s → s < n)
    → (y : List ℕ) (s : ℕ) → signal_in es y ≡ some s → s < n + length xs
unfolding declaring signal_in
small_names [] ds es n e f y s g = omega (arith, f y s (ap (λ (d : List Declaration). signal_in d y) (one_value e) ∙ g))
small_names (x ∷ xs) ds es n e f y s g =
    omega (arith, small_names xs (signal_named x n ∷ ds) es (suc n) (was_new (declared ds x) _ e).1 (λ z c i. one_more (same x z) z c i) y s g)
  where
    one_more : (z : Bool) (y : List ℕ) (s : ℕ) → cond z (some n) (signal_in ds y) ≡ some s → s < suc n
    one_more true y s i = omega (arith, one_value i)
    one_more false y s i = omega (arith, f y s i)

module _ (h : Header) (rs : List ℕ) (few : h.inputs + h.outputs + h.locals ≤ 64) where
  abbrev bs : List ℕ
  bs = header_bytes h ++ rs

  -- A block that is turned down.
  abbrev Late : ℕ → ℕ → Type 0
  Late n at = (n ≡ 4) ⊎ (((n ≡ 5) × InputEmitted bs h.inputs at) ⊎ (n ≡ 8))

  turned : {n m at place : ℕ} → turned_down m place ≡ turned_down n at → Late m place → Late n at
  turned {n} {m} {at} {place} e o = let f : m ≡ n = cc in let g : place ≡ at = cc in subst₂ Late f g o

  inputs_there : (header bs).inputs ≡ h.inputs
  unfolding header header_bytes in_bytes
  inputs_there = two_there bs 0 8 {x = h.inputs} refl (omega (arith, few)) refl refl

  outputs_there : (header bs).outputs ≡ h.outputs
  unfolding header header_bytes in_bytes
  outputs_there = two_there bs 0 10 {x = h.outputs} refl (omega (arith, few)) refl refl

  locals_there : (header bs).locals ≡ h.locals
  unfolding header header_bytes in_bytes
  locals_there = two_there bs 0 12 {x = h.locals} refl (omega (arith, few)) refl refl

  still_few : (header bs).inputs + (header bs).outputs + (header bs).locals ≤ 64
  still_few = omega (arith, few, inputs_there, outputs_there, locals_there)

  no_header_fault : header_fault bs ≡ 0
  unfolding header header_bytes in_bytes header_fault
  no_header_fault =
      header_signals 1 bs (is_whole bs 0 (omega arith) (omega arith) (omega arith)) refl refl refl false
      (sym (le-ltb 64 (two_bytes bs 8 + two_bytes bs 10 + two_bytes bs 12) still_few))

  late : {n at : ℕ} → Early bs (header bs) still_few n at → Late n at
  late (inl e) = inl e
  late {at = at} (inr e) = inr (inl (e.0, subst (λ (i : ℕ). InputEmitted bs i at) inputs_there e.1))

  -- All bytes were read, and all locals.
  ended_numbers : (next : ℕ) → h.locals ≡ next - (h.inputs + h.outputs) → Comes bs (header bs) still_few 64 outermost begun (length rs) next → (n at : ℕ)
      → ended bs (header bs) (read 64 bs (header bs) outermost begun) ≡ turned_down n at → Late n at
  unfolding ended loops_checked
  ended_numbers next k (is_refused m place e f) n at d = turned (sym (ap (ended bs (header bs)) e) ∙ d) (late f)
  ended_numbers next k (is_got t q e p l) n at d =
      let g : Good = record { header = header bs; body = t; statements = q.statements; pauses = q.pauses } in
      let all : eqb q.place (length bs) ≡ true = eq-eqb q.place (length bs) (omega (arith, p, whole_length (record { header = h; records = rs }))) in
      let named : eqb q.locals (header bs).locals ≡ true = eq-eqb q.locals (header bs).locals (omega (arith, k, l, inputs_there, outputs_there, locals_there)) in
      by_loops g (lowest_endless t)
      (sym (ap (ended bs (header bs)) e ∙ ap₂ (λ (y z : Bool). cond (y && z) (loops_checked g (lowest_endless t)) (turned_down 7 q.place)) all named) ∙ d)
    where
      by_loops : (g : Good) (o : Option ℕ) → loops_checked g o ≡ turned_down n at → Late n at
      by_loops g none e = let z : ◌≡◌ {A = ℕ} 0 1 = cc in absurd (omega arith)
      by_loops g (some i) e = turned e (inr (inr refl))

  reading_numbers : (next : ℕ) → h.locals ≡ next - (h.inputs + h.outputs) → Comes bs (header bs) still_few 64 outermost begun (length rs) next → (n at : ℕ)
      → reading bs ≡ turned_down n at → Late n at
  reading_numbers next k c n at e =
      go (ltb 3086 (length bs)) (sym (reading_is bs ∙ ap (λ (m : ℕ). cond (ltb 3086 (length bs)) (turned_down 4 0) (cond (eqb m 0) (statements_read bs) (turned_down m 0))) no_header_fault) ∙ e)
    where
      go : (z : Bool) → cond z (turned_down 4 0) (statements_read bs) ≡ turned_down n at → Late n at
      go true e = turned e (inl refl)
      go false e = ended_numbers next k c n at e

refused_so : {n m at place : ℕ} → refuses m place ≡ refuses n at → m ≡ n
refused_so e = cc

not_checked : (b : List ℕ) (x : Reading) (n at : ℕ) → checked b x ≡ refuses n at → x ≡ turned_down n at
not_checked b (good g) n at e = let z : ◌≡◌ {A = ℕ} 0 1 = cc in absurd (omega arith)
not_checked b (turned_down m place) n at e = cc

-- The refusals of a text's block: 4; 5, where an input is emitted; 8.
abbrev pub OfBlock : Blocked → ℕ → ℕ → Type 0
OfBlock b n at = (n ≡ 4) ⊎ (((n ≡ 5) × InputEmitted (bytes b) b.header.inputs at) ⊎ (n ≡ 8))

block_numbers : (v i o : ℕ) (body : Arms) (es : List Declaration) (p : Part) → traps_of es ≡ 0 → ((y : List ℕ) (s : ℕ) → signal_in es y ≡ some s → s < i + o)
    → arms_means body es (i + o) ≡ some p → (b : Blocked) → record { header = record { version = v; inputs = i; outputs = o; locals = p.next - (i + o) }; records = p.records } ≡ b → (n at : ℕ)
    → block_of b ≡ refuses n at → OfBlock b n at
block_numbers v i o body es p none_around small m b same n at =
    subst (λ (b : Blocked). block_of b ≡ refuses n at → OfBlock b n at) same (λ e. go e (dec_le (signals c) 64))
  where
    c : Blocked
    c = record { header = record { version = v; inputs = i; outputs = o; locals = p.next - (i + o) }; records = p.records }

    comes : (few : signals c ≤ 64) → Comes (bytes c) (header (bytes c)) (still_few c.header p.records few) 64 outermost begun (length p.records) p.next
    comes few =
        let h = header (bytes c) in
        let ins = inputs_there c.header p.records few in
        let outs = outputs_there c.header p.records few in
        let loc = locals_there c.header p.records few in
        let k = still_few c.header p.records few in
        let env : Env (bytes c) h k es (i + o) outermost = record {
          its_traps = none_around;
          known = λ y s e. (small y s e, or_left (ltb s (h.inputs + h.outputs)) false (of_true (lt-ltb s (h.inputs + h.outputs) (omega (arith, small y s e, ins, outs)))));
        } in
        arms_so (bytes c) h k body es (i + o) p m 64 outermost begun [] env (omega (arith, ins, outs)) (omega (arith, ins, outs, loc)) (omega (arith, whole_length c))
        (behind_header c.header p.records ∙ sym (append-nil p.records))

    go : block_of c ≡ refuses n at → Dec (signals c ≤ 64) → OfBlock c n at
    go e (yes few) = reading_numbers c.header p.records few p.next refl (comes few) n at (not_checked (bytes c) (reading (bytes c)) n at (sym (few_signals c few) ∙ e))
    go e (no many) = inl (sym (refused_so (sym (many_signals c (omega (arith, many))) ∙ e)))

-- A text of the grammar with its names in order gets, where it is refused, 4, or 5 where an input is emitted, or 8.
pub grammar_refusals : (text : List ℕ) (t : Text) (b : Blocked) → tokens text ≡ spelt t → text_means t ≡ some b → (n at : ℕ) → text_read text ≡ refuses n at → OfBlock b n at
unfolding text_means_with traps_of signal_in
grammar_refusals text t b s m n at e =
    let i = length t.inputs in
    let o = length t.outputs in
    let u = went_on (declaring [] 0 t.inputs) _ m in
    let v = went_on (declaring u.0 i t.outputs) _ u.2 in
    let w = went_on (arms_means t.body v.0 (i + o)) _ v.2 in
    let no_trap = no_traps t.outputs u.0 v.0 i v.1 ∙ no_traps t.inputs [] u.0 0 u.1 in
    let first : (y : List ℕ) (s : ℕ) → signal_in u.0 y ≡ some s → s < i = λ y s e. omega (arith, small_names t.inputs [] u.0 0 u.1 (λ y s e. absurd (no_some e)) y s e) in
    block_numbers t.version i o t.body v.0 w.0 no_trap (small_names t.outputs u.0 v.0 i v.1 first) w.1 b (one_value w.2) n at
    (sym (text_gets text t b s m) ∙ e)
