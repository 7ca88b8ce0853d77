-- State records and legal states: for a good block a record is found legal exactly when it holds a legal state, since the reading counts
-- the tree's pauses; and what is written is made of bytes. Assumes nothing.
use mathlib.Core.Path.{◌≡◌, sym, ap, ap₂, ◌∙◌, subst}
use mathlib.Core.Bool.{Bool, false, not, ◌&&◌, ◌||◌}
use mathlib.Core.List.{List, [], ◌∷◌, ◌++◌}
use Prim.Native.Nat.{ℕ, zero, suc, ◌+◌, ◌/◌, ◌%◌, ◌≤◌, ◌<◌}
use native.Mathlib.Omega.{arith}
use lib.Dec.{T, eqb}
use lib.ListN.{get_or}
use Rattle.sets.specs.Words.{bits, word}
use Rattle.sets.proofs.Members.{of_true, is_false, and_left, and_right}
use Rattle.sets.proofs.Maxima.{some_to_out}
use Rattle.sets.proofs.Words.{bits_ext, bits_shift, bits_zero}
use Rattle.rules.specs.States.{State, phase_of, active_of, Legal}
use Rattle.theorems.specs.Checked.{Checked}
use Rattle.block.specs.Format.{Header, header, Good, good, reading}
use Rattle.block.proofs.GoodReadings.{Sound, sound}
use Rattle.records.specs.Numerals.{Bytes, in_bytes}
use Rattle.records.specs.Fields.{place, laid}
use Rattle.records.specs.StateRecord.{upper, state_widths, state_values, state, state_record, read_state, undeclared_input, in_both, bad_inputs}
use Rattle.records.proofs.Reading.{named_version}
use Rattle.records.proofs.Back.{written_names}
use Rattle.records.proofs.LegalStates.{field_lt, found_legal, legal_found, legal_clear}
use Rattle.reaction.specs.Fronts.{wrong_inputs}
use Rattle.reaction.specs.Instants.{block_of, heard_of}
use Rattle.reaction.specs.declared.Given.{Given}
use Rattle.reaction.specs.declared.Given.TheVariants.{All, Two}
use Rattle.promises.specs.Promised.{Holds, Inputs}

-- Bytes written.
pub no_bytes : Bytes []
no_bytes = record { byte = λ i. omega arith }

more_bytes : (x : ℕ) (xs : List ℕ) → x < 256 → Bytes xs → Bytes (x ∷ xs)
more_bytes x xs h r = record { byte = at }
  where
    at : (i : ℕ) → get_or (x ∷ xs) i 0 < 256
    at zero = h
    at (suc i) = r.byte i

rest_bytes : (x : ℕ) (xs : List ℕ) → Bytes (x ∷ xs) → Bytes xs
rest_bytes x xs r = record { byte = λ i. r.byte (suc i) }

pub both_bytes : (xs ys : List ℕ) → Bytes xs → Bytes ys → Bytes (xs ++ ys)
both_bytes [] ys f h = h
both_bytes (x ∷ xs) ys f h = more_bytes x (xs ++ ys) (f.byte 0) (both_bytes xs ys (rest_bytes x xs f) h)

pub in_bytes_bytes : (n x : ℕ) → Bytes (in_bytes n x)
unfolding in_bytes
in_bytes_bytes zero x = no_bytes
in_bytes_bytes (suc n) x = more_bytes (x % 256) (in_bytes n (x / 256)) (omega arith) (in_bytes_bytes n (x / 256))

laid_bytes : (ws xs : List ℕ) → Bytes (laid ws xs)
unfolding laid
laid_bytes [] xs = no_bytes
laid_bytes (w ∷ ws) [] = both_bytes (in_bytes w 0) (laid ws []) (in_bytes_bytes w 0) (laid_bytes ws [])
laid_bytes (w ∷ ws) (x ∷ xs) = both_bytes (in_bytes w x) (laid ws xs) (in_bytes_bytes w x) (laid_bytes ws xs)

pub record_bytes : (v n : ℕ) (st : State) → Bytes (state_record v n st)
unfolding state_record
record_bytes v n st = laid_bytes state_widths (state_values v n (phase_of st) (word 64 (active_of st)) (word 64 (upper (active_of st))))

-- No bit at or above the number of inputs, and no signal in both sets: not the refusal 11.
pub none_above : (k w : ℕ) → ((n : ℕ) → T (bits w n) → n < k) → undeclared_input k w ≡ false
unfolding undeclared_input
none_above k w f = ap (λ (x : ℕ). not (eqb x 0)) (bits_ext (λ n. sym (bits_shift w k n) ∙ clear n ∙ sym (bits_zero n)))
  where
    clear : (n : ℕ) → bits w (k + n) ≡ false
    clear n = is_false (bits w (k + n)) (λ t. let l : k + n < k = f (k + n) t in omega arith)

nothing_shared : (p a : ℕ) → ((n : ℕ) → T (bits p n) → T (bits a n) → ⊥) → in_both p a ≡ false
unfolding in_both
nothing_shared p a f = is_false (in_both p a) no
  where
    no : T (in_both p a) → ⊥
    no t =
        let m = some_to_out (λ n. bits p n && bits a n) 63 t in
        f m.0 (and_left (bits p m.0) (bits a m.0) m.2) (and_right (bits p m.0) (bits a m.0) m.2)

pub inputs_pass : (g : Good) (w : Inputs g) → wrong_inputs g.header.inputs w.given ≡ false
unfolding wrong_inputs bad_inputs
inputs_pass g w = go w.given w.present_declared w.absent_declared w.apart
  where
    go : (x : Given) → ((n : ℕ) → T ((heard_of g x).heard_present n) → n < g.header.inputs) → ((n : ℕ) → T ((heard_of g x).heard_absent n) → n < g.header.inputs)
        → ((n : ℕ) → T ((heard_of g x).heard_present n) → T ((heard_of g x).heard_absent n) → ⊥) → wrong_inputs g.header.inputs x ≡ false
    go (All set) f h d = none_above g.header.inputs set f
    go (Two p a) f h d =
        ap₂ (λ (x y : Bool). x || y) (none_above g.header.inputs p f)
        (ap₂ (λ (x y : Bool). x || y) (none_above g.header.inputs a h) (nothing_shared p a d))

module _ (b : List ℕ) (g : Good) (e : reading b ≡ good g) where
  read : Sound b g
  read = sound b g e

  pub checked : Checked (block_of g)
  checked = record {
    loops_are_good = of_true read.loops;
    exits_are_trapped = read.trapped;
    pauses_are_numbered = read.pauses_numbered;
  }

  pub held_is_legal : (s : List ℕ) (st : State) → Holds g s st → Legal g.body st
  held_is_legal s st h =
      found_legal g.body s h.bytes st (subst (λ (n : ℕ). read_state n s ≡ state st) read.paused h.found) h.no_clash

  -- A version in bytes has two of them.
  pub version_fits : Bytes b → g.header.version < 65536
  unfolding header
  version_fits c =
      let low : get_or b 6 0 < 256 = c.byte 6 in
      let high : get_or b 7 0 < 256 = c.byte 7 in
      subst (λ (h : Header). h.version < 65536) (sym read.its_header) (omega arith)

  -- A record that is found legal is bytes and names the block, so the version fits.
  pub held_version_fits : (s : List ℕ) (st : State) → Holds g s st → g.header.version < 65536
  held_version_fits s st h =
      subst (λ (v : ℕ). v < 65536) (named_version g.header.version g.statements s h.names_it) (field_lt s h.bytes (place state_widths 2) 2)

  pub legal_is_held : g.header.version < 65536 → (st : State) → Legal g.body st → Holds g (state_record g.header.version g.statements st) st
  legal_is_held v st l = record {
    bytes = record_bytes g.header.version g.statements st;
    found =
        subst (λ (n : ℕ). read_state n (state_record g.header.version g.statements st) ≡ state st) (sym read.paused)
        (legal_found g.header.version g.statements g.body (subst (λ (n : ℕ). n ≤ 128) read.paused read.few_pauses) st l);
    names_it = written_names g.header.version g.statements st v (let h : g.statements ≤ 512 = read.few_statements in omega arith);
    no_clash = legal_clear g.body st l;
  }
