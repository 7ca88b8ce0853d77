-- Over 1,024 places open at once make a block over its limits: each place that is open has a record before the next begins, and no step
-- makes the block shorter. Assumes nothing.
use mathlib.Core.Path.{◌≡◌, refl, sym, ◌∙◌, subst}
use mathlib.Core.Bool.{Bool, true, false, cond}
use mathlib.Core.List.{List, [], ◌∷◌, ◌++◌}
use mathlib.Core.Option.{some}
use Prim.Native.Nat.{ℕ, ◌+◌, ◌*◌, ◌≤◌}
use native.Mathlib.Omega.{arith}
use lib.Dec.{T, eqb, eqb_refl}
use lib.ListN.{length, take, drop, length-append, length-take, length-drop}
use lib.Seq.{length-sets}
use Rattle.sets.specs.Numbers.{listed}
use Rattle.tables.specs.Kinds.{shape}
use Rattle.records.specs.Numerals.{in_bytes}
use Rattle.writing.specs.Written.{shaped_bytes, record_bytes}
use Rattle.text.specs.Tokens.{Token, sign, name, number, no_token, NOTHING, PAUSE, EMIT, PRESENT, THEN, ELSE, END, SUSPEND, WHEN, LOOP, TRAP, IN, EXIT, SIGNAL}
use Rattle.text.specs.Tokens.{SEMICOLON, BRACKET, CLOSED, BESIDE}
use Rattle.text.specs.Meaning.{Declaration, signal_in, depth_in, declared}
use Rattle.text.specs.Machine.{Closer, at_the_end, by_else, by_end, by_when, by_bracket, Level, Mode, due, after, emit_name, exit_name, present_name, trap_name, signal_name, when_name}
use Rattle.text.specs.Machine.{then_due, in_due, State, around, to, put, opened, popped, inserted, turned}
use Rattle.text.specs.Machine.{sequenced, paralleled, operand_set, whened, due_step, closed, after_step, by_sign, by_name, step}
use Rattle.text.specs.Reader.{places}
use Rattle.text.proofs.Options.{no_some, went_on, was_new, one_value}
use Rattle.text.proofs.Backward.{either}

-- Nothing stands between two places, or at least a record does.
pub data Gap (a b : ℕ) : Type 0 where
  no_gap : a ≡ b → Gap a b
  a_gap : a + 4 ≤ b → Gap a b

gap_on : {a b c : ℕ} → Gap a b → Gap b c → Gap a c
gap_on (no_gap e) (no_gap f) = no_gap (e ∙ f)
gap_on (no_gap e) (a_gap f) = a_gap (omega (arith, e, f))
gap_on (a_gap e) (no_gap f) = a_gap (omega (arith, e, f))
gap_on (a_gap e) (a_gap f) = a_gap (omega (arith, e, f))

gap_le : {a b : ℕ} → Gap a b → a ≤ b
gap_le (no_gap e) = omega (arith, e)
gap_le (a_gap e) = omega (arith, e)

unfoldable pub Spaced : ℕ → List Level → Type 0
Spaced at [] = Unit {0}
Spaced at (l ∷ ls) = Gap l.start at × Spaced l.start ls

further : {a b : ℕ} (ls : List Level) → Gap a b → Spaced a ls → Spaced b ls
unfolding Spaced
further [] g s = tt
further (l ∷ ls) g s = (gap_on s.0 g, s.1)

-- As many places as there are, so many records stand before the last.
few_places : (at : ℕ) (ls : List Level) → Spaced at ls → 4 * places at ls ≤ at + 4
unfolding places Spaced
few_places at [] s = omega arith
few_places at (l ∷ ls) s = go (eqb l.start at) refl s.0 (few_places l.start ls s.1) (λ g. few_places at ls (further ls g s.1))
  where
    go : (z : Bool) → eqb l.start at ≡ z → Gap l.start at → 4 * places l.start ls ≤ l.start + 4 → (Gap l.start at → 4 * places at ls ≤ at + 4)
        → 4 * cond z (places at ls) (1 + places l.start ls) ≤ at + 4
    go true q g f h = h g
    go false q (a_gap g) f h = omega (arith, f, g)
    go false q (no_gap g) f h =
        absurd (subst T q (subst (λ (n : ℕ). T (eqb l.start n)) g (eqb_refl l.start)))

pub record Sparse (s : State) : Type 0 where
  pub in_top : Gap s.top.start (length s.block)
  pub below_top : Spaced s.top.start s.below

pub record Grown (s u : State) : Type 0 where
  pub sparse : Sparse u
  pub longer : length s.block ≤ length u.block

grown_by : (s : State) {u v : State} → some v ≡ some u → Grown s v → Grown s u
grown_by s e g = subst (λ (w : State). Grown s w) (one_value e) g

put_length : (b : List ℕ) (k x : ℕ) → 4 ≤ length (record_bytes k x) → length b + 4 ≤ length (b ++ record_bytes k x)
put_length b k x h = omega (arith, h, length-append b (record_bytes k x))

insert_length : (k at : ℕ) (b : List ℕ) → 4 ≤ length (record_bytes k 0) → length b + 4 ≤ length (inserted k at b)
insert_length k at b h =
    omega (arith, h, length-append (take at b) (record_bytes k 0 ++ drop at b), length-append (record_bytes k 0) (drop at b), length-take at b, length-drop at b)

module _ (s : State) (f : Sparse s) where
  same_block : (m : Mode) → Grown s (to s m)
  same_block m = record { sparse = record { in_top = f.in_top; below_top = f.below_top }; longer = omega arith }

  with_record : (k x : ℕ) (m : Mode) → 4 ≤ length (record_bytes k x) → Grown s (put s k x m)
  with_record k x m h =
      let l = put_length s.block k x h in
      record { sparse = record { in_top = gap_on f.in_top (a_gap l); below_top = f.below_top }; longer = omega (arith, l) }

  with_level : (c : Closer) (ds : List Declaration) (n : ℕ) (m : Mode) → Grown s (opened s c ds n m)
  unfolding Spaced
  with_level c ds n m = record { sparse = record { in_top = no_gap refl; below_top = (f.in_top, f.below_top) }; longer = omega arith }

  with_both : (k x : ℕ) (c : Closer) (ds : List Declaration) (n : ℕ) (m : Mode) → 4 ≤ length (record_bytes k x) → Grown s (opened (put s k x due) c ds n m)
  unfolding Spaced
  with_both k x c ds n m h =
      let l = put_length s.block k x h in
      record { sparse = record { in_top = no_gap refl; below_top = (gap_on f.in_top (a_gap l), f.below_top) }; longer = omega (arith, l) }

  without_level : (ls : List Level) (m : Mode) {u : State} → Spaced s.top.start ls → popped ls s m ≡ some u → Grown s u
  unfolding popped Spaced
  without_level [] m g e = absurd (no_some e)
  without_level (l ∷ ls) m g e = grown_by s e (record { sparse = record { in_top = gap_on g.0 f.in_top; below_top = g.1 }; longer = omega arith })

  turned_grown : Grown s (turned s)
  turned_grown = record { sparse = record { in_top = no_gap refl; below_top = further s.below f.in_top f.below_top }; longer = omega arith }

  sequenced_grown : Grown s (sequenced s)
  unfolding shaped_bytes in_bytes shape listed
  sequenced_grown =
      let l = insert_length 21 s.top.link s.block (omega arith) in
      record { sparse = record { in_top = gap_on f.in_top (a_gap l); below_top = f.below_top }; longer = omega (arith, l) }

  paralleled_grown : Grown s (paralleled s)
  unfolding shaped_bytes in_bytes shape listed
  paralleled_grown =
      let l = insert_length 23 s.top.arm s.block (omega arith) in
      record { sparse = record { in_top = gap_on f.in_top (a_gap l); below_top = f.below_top }; longer = omega (arith, l) }

  whened_grown : (x : ℕ) → Grown s (whened s x)
  unfolding operand_set in_bytes
  whened_grown x =
      let l = length-sets s.block (s.top.link + 4) (in_bytes 2 x) in
      record { sparse = record { in_top = gap_on f.in_top (no_gap (sym l)); below_top = f.below_top }; longer = omega (arith, l) }

  module _ {u : State} where
    due_grown : (k : ℕ) → due_step s k ≡ some u → Grown s u
    unfolding due_step shaped_bytes in_bytes shape listed
    due_grown k e =
        either k NOTHING _ _ e (λ q e. grown_by s e (with_record 16 0 after (omega arith))) λ e.
        either k PAUSE _ _ e (λ q e. grown_by s e (with_record 17 0 after (omega arith))) λ e.
        either k EMIT _ _ e (λ q e. grown_by s e (same_block emit_name)) λ e.
        either k EXIT _ _ e (λ q e. grown_by s e (same_block exit_name)) λ e.
        either k PRESENT _ _ e (λ q e. grown_by s e (same_block present_name)) λ e.
        either k TRAP _ _ e (λ q e. grown_by s e (same_block trap_name)) λ e.
        either k SIGNAL _ _ e (λ q e. grown_by s e (same_block signal_name)) λ e.
        either k SUSPEND _ _ e (λ q e. grown_by s e (with_both 20 0 by_when [] s.next due (omega arith))) λ e.
        either k LOOP _ _ e (λ q e. grown_by s e (with_both 22 0 by_end [] s.next due (omega arith))) λ e.
        either k BRACKET _ _ e (λ q e. grown_by s e (with_level by_bracket [] s.next due)) λ e. absurd (no_some e)

    closed_grown : (c : Closer) (k : ℕ) → closed c s k ≡ some u → Grown s u
    unfolding closed
    closed_grown at_the_end k e = absurd (no_some e)
    closed_grown by_else k e = either k ELSE _ _ e (λ q e. grown_by s e turned_grown) λ e. absurd (no_some e)
    closed_grown by_end k e = either k END _ _ e (λ q e. without_level s.below after f.below_top e) λ e. absurd (no_some e)
    closed_grown by_when k e = either k WHEN _ _ e (λ q e. without_level s.below when_name f.below_top e) λ e. absurd (no_some e)
    closed_grown by_bracket k e = either k CLOSED _ _ e (λ q e. without_level s.below after f.below_top e) λ e. absurd (no_some e)

    sign_grown : (m : Mode) (k : ℕ) → by_sign m s k ≡ some u → Grown s u
    unfolding by_sign after_step
    sign_grown due k e = due_grown k e
    sign_grown after k e =
        either k SEMICOLON _ _ e (λ q e. grown_by s e sequenced_grown) λ e. either k BESIDE _ _ e (λ q e. grown_by s e paralleled_grown) λ e. closed_grown s.top.closer k e
    sign_grown emit_name k e = absurd (no_some e)
    sign_grown exit_name k e = absurd (no_some e)
    sign_grown present_name k e = absurd (no_some e)
    sign_grown trap_name k e = absurd (no_some e)
    sign_grown signal_name k e = absurd (no_some e)
    sign_grown when_name k e = absurd (no_some e)
    sign_grown then_due k e = either k THEN _ _ e (λ q e. grown_by s e (same_block due)) λ e. absurd (no_some e)
    sign_grown in_due k e = either k IN _ _ e (λ q e. grown_by s e (same_block due)) λ e. absurd (no_some e)

    name_grown : (m : Mode) (x : List ℕ) → by_name m s x ≡ some u → Grown s u
    unfolding by_name shaped_bytes in_bytes shape listed
    name_grown due x e = absurd (no_some e)
    name_grown after x e = absurd (no_some e)
    name_grown emit_name x e = let w = went_on (signal_in (around s) x) _ e in grown_by s w.2 (with_record 18 w.0 after (omega arith))
    name_grown exit_name x e = let w = went_on (depth_in (around s) x) _ e in grown_by s w.2 (with_record 25 w.0 after (omega arith))
    name_grown present_name x e = let w = went_on (signal_in (around s) x) _ e in grown_by s w.2 (with_both 19 w.0 by_else [] s.next then_due (omega arith))
    name_grown trap_name x e = let w = was_new (declared (around s) x) _ e in grown_by s w.1 (with_both 24 0 by_end _ s.next in_due (omega arith))
    name_grown signal_name x e = let w = was_new (declared (around s) x) _ e in grown_by s w.1 (with_both 26 s.next by_end _ _ in_due (omega arith))
    name_grown when_name x e = let w = went_on (signal_in (around s) x) _ e in grown_by s w.2 (whened_grown w.0)
    name_grown then_due x e = absurd (no_some e)
    name_grown in_due x e = absurd (no_some e)

    pub step_grown : (t : Token) → step s t ≡ some u → Grown s u
    unfolding step
    step_grown (sign k) e = sign_grown s.mode k e
    step_grown (name x) e = name_grown s.mode x e
    step_grown (number v) e = absurd (no_some e)
    step_grown no_token e = absurd (no_some e)

  -- So many places are so many records.
  pub many_records : 4 * places s.top.start s.below ≤ length s.block + 4
  many_records = omega (arith, few_places s.top.start s.below f.below_top, gap_le f.in_top)
