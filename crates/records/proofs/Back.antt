-- Both ways: what is written is read back, and a state that is found without a clash is a legal one. Assumes nothing.
use mathlib.Core.Path.{◌≡◌, refl, sym, ap, ap₂, ◌∙◌, subst⁻¹}
use mathlib.Core.List.{List}
use mathlib.Core.Bool.{Bool, true, false, cond, ◌&&◌, and_comm}
use Prim.Native.Nat.{ℕ, ◌^◌, ◌≤◌, ◌<◌}
use native.Mathlib.Omega.{arith}
use lib.Dec.{T, eqb, eqb→eq}
use borrow.Author.Tests.{eq-eqb}
use lib.ListN.{length, get_or}
use Rattle.sets.specs.Numbers.{Numbers, empty, listed}
use Rattle.sets.specs.Words.{word, two_words}
use Rattle.sets.proofs.Members.{is_false, of_false, and_left, and_right}
use Rattle.sets.proofs.Words.{word_lt, word_empty}
use Rattle.rules.specs.Statements.{Stmt, nothing, pause, emit, present?◌then◌else◌, suspend◌on◌, ◌⨾◌, loop, ◌parallel◌, trap, exit, local, pauses}
use Rattle.rules.specs.States.{State, fresh, running, finished, holds_both, lowest_above, is_parallel, compatible, phase_of, active_of}
use Rattle.records.specs.Fields.{value}
use Rattle.records.specs.StateRecord.{state, upper, state_widths, state_size, state_values, state_record, length_in, kind_in, version_in, statements_in}
use Rattle.records.specs.StateRecord.{phase_in, low_in, high_in, beyond, in_phase, read_state, names_block}
use Rattle.records.specs.LogRecord.{Logged, log_widths, log_size, log_values, log_record}
use Rattle.records.proofs.Widths.{length_laid, value_laid}
use Rattle.records.proofs.TwoWords.{set_of_words, set_of_none, beyond_out}
use Rattle.records.proofs.Reading.{choose, in_phase_of, read_whole}

-- The log record, field by field.
module _ (l : Logged) where
  pub log_length : length (log_record l) ≡ log_size
  unfolding log_record
  log_length = length_laid log_widths (log_values l)

  log_back : (i : ℕ) → i < 7 → get_or (log_values l) i 0 < 256 ^ get_or log_widths i 0 → value log_widths i (log_record l) ≡ get_or (log_values l) i 0
  unfolding log_record
  log_back = value_laid log_widths (log_values l)

  pub log_sized : value log_widths 0 (log_record l) ≡ log_size
  log_sized = log_back 0 (omega arith) (omega arith)

  pub log_kind : value log_widths 1 (log_record l) ≡ 3
  log_kind = log_back 1 (omega arith) (omega arith)

  pub log_inputs_present : l.inputs_present < 2 ^ 64 → value log_widths 2 (log_record l) ≡ l.inputs_present
  log_inputs_present = log_back 2 (omega arith)

  pub log_inputs_absent : l.inputs_absent < 2 ^ 64 → value log_widths 3 (log_record l) ≡ l.inputs_absent
  log_inputs_absent = log_back 3 (omega arith)

  pub log_outputs_present : l.outputs_present < 2 ^ 64 → value log_widths 4 (log_record l) ≡ l.outputs_present
  log_outputs_present = log_back 4 (omega arith)

  pub log_code : l.code < 2 ^ 16 → value log_widths 5 (log_record l) ≡ l.code
  log_code = log_back 5 (omega arith)

  pub log_rounds : l.rounds < 2 ^ 16 → value log_widths 6 (log_record l) ≡ l.rounds
  log_rounds = log_back 6 (omega arith)

-- The state record, field by field.
module _ (version statements : ℕ) (st : State) where
  abbrev its_values : List ℕ
  its_values = state_values version statements (phase_of st) (word 64 (active_of st)) (word 64 (upper (active_of st)))

  abbrev its_bytes : List ℕ
  its_bytes = state_record version statements st

  pub state_length : length its_bytes ≡ state_size
  unfolding state_record
  state_length = length_laid state_widths its_values

  state_back : (i : ℕ) → i < 7 → get_or its_values i 0 < 256 ^ get_or state_widths i 0 → value state_widths i its_bytes ≡ get_or its_values i 0
  unfolding state_record
  state_back = value_laid state_widths its_values

  state_sized : length_in its_bytes ≡ state_size
  state_sized = state_back 0 (omega arith) (omega arith)

  state_kind : kind_in its_bytes ≡ 2
  state_kind = state_back 1 (omega arith) (omega arith)

  pub state_version : version < 2 ^ 16 → version_in its_bytes ≡ version
  state_version = state_back 2 (omega arith)

  pub state_statements : statements < 2 ^ 16 → statements_in its_bytes ≡ statements
  state_statements = state_back 3 (omega arith)

  state_phase : phase_of st < 256 ^ 2 → phase_in its_bytes ≡ phase_of st
  state_phase = state_back 4 (omega arith)

  state_low : low_in its_bytes ≡ word 64 (active_of st)
  state_low = state_back 5 (omega arith) (word_lt 64 (active_of st))

  state_high : high_in its_bytes ≡ word 64 (upper (active_of st))
  state_high = state_back 6 (omega arith) (word_lt 64 (upper (active_of st)))

  read_record : (n : ℕ) → read_state n its_bytes ≡ in_phase (phase_in its_bytes) n its_bytes
  read_record n = sym (read_whole n its_bytes state_length state_sized state_kind)

  -- What is written names the block.
  pub written_names : version < 2 ^ 16 → statements < 2 ^ 16 → names_block version statements its_bytes ≡ true
  unfolding names_block
  written_names v n =
      ap₂ (λ (x y : Bool). x && y)
      (ap₂ (λ (x y : Bool). x && y) (eq-eqb (length its_bytes) state_size state_length) (eq-eqb (version_in its_bytes) version (state_version v)))
      (eq-eqb (statements_in its_bytes) statements (state_statements n))

-- What is written is read back.
module _ (version statements : ℕ) where
  abbrev written : State → List ℕ
  written st = state_record version statements st

  bare : (st : State) (p : ℕ) → phase_of st ≡ p → p < 256 ^ 2 → active_of st ≡ empty → (n : ℕ)
      → read_state n (written st) ≡ choose p true (beyond n (two_words 64 0 0)) (two_words 64 0 0)
  bare st p e h a n =
      let low : low_in (written st) ≡ 0 = state_low version statements st ∙ ap (word 64) a ∙ word_empty 64 in
      let high : high_in (written st) ≡ 0 = state_high version statements st ∙ ap (λ (A : Numbers). word 64 (upper A)) a ∙ word_empty 64 in
      read_record version statements st n
      ∙ ap (λ (k : ℕ). in_phase k n (written st)) (state_phase version statements st (subst⁻¹ (λ (k : ℕ). k < 256 ^ 2) e h) ∙ e)
      ∙ in_phase_of p n (written st) low high

  pub fresh_back : (n : ℕ) → read_state n (written fresh) ≡ state fresh
  unfolding phase_of active_of
  fresh_back n = bare fresh 0 refl (omega arith) refl n

  pub finished_back : (n : ℕ) → read_state n (written finished) ≡ state finished
  unfolding phase_of active_of
  finished_back n = bare finished 2 refl (omega arith) refl n

  module _ (n : ℕ) (A : Numbers) (h : n ≤ 128) (f : (k : ℕ) → T (A k) → k < n) where
    own : two_words 64 (word 64 A) (word 64 (upper A)) ≡ A
    own = set_of_words A (λ k t. let l : k < n = f k t in omega arith)

    not_far : beyond n (two_words 64 (word 64 A) (word 64 (upper A))) ≡ false
    not_far =
        ap (beyond n) own ∙ is_false (beyond n A) (λ t. let r = beyond_out n A t in let l : r.0 < n = f r.0 r.3 in omega (arith, r.2))

    not_clear : (k : ℕ) × T (A k) → (eqb (word 64 A) 0 && eqb (word 64 (upper A)) 0) ≡ false
    not_clear m =
        is_false (eqb (word 64 A) 0 && eqb (word 64 (upper A)) 0)
        (λ t. of_false
        (ap (λ (B : Numbers). B m.0) (sym own)
        ∙ ap₂ (λ (x y : ℕ). two_words 64 x y m.0) (eqb→eq (word 64 A) 0 (and_left (eqb (word 64 A) 0) (eqb (word 64 (upper A)) 0) t))
        (eqb→eq (word 64 (upper A)) 0 (and_right (eqb (word 64 A) 0) (eqb (word 64 (upper A)) 0) t))
        ∙ set_of_none m.0) m.1)

    pub running_back : (k : ℕ) × T (A k) → read_state n (written (running A)) ≡ state (running A)
    unfolding phase_of active_of
    running_back m =
        read_record version statements (running A) n
        ∙ ap (λ (k : ℕ). in_phase k n (written (running A))) (state_phase version statements (running A) (omega arith))
        ∙ in_phase_of 1 n (written (running A)) (state_low version statements (running A)) (state_high version statements (running A))
        ∙ ap₂ (λ (x y : Bool). choose 1 x y (two_words 64 (word 64 A) (word 64 (upper A)))) (not_clear m) not_far
        ∙ ap (λ (B : Numbers). state (running B)) own

-- Compatibility goes both ways.
holds_both_sym : (p : Stmt) (m n : ℕ) → holds_both p m n ≡ holds_both p n m
unfolding holds_both
holds_both_sym p m n = and_comm (listed (pauses p) m) (listed (pauses p) n)

two_sym : (p q r : Stmt) (m n : ℕ) → lowest_above q m n ≡ lowest_above q n m → lowest_above r m n ≡ lowest_above r n m
    → cond (holds_both q m n) (lowest_above q m n) (cond (holds_both r m n) (lowest_above r m n) p)
    ≡ cond (holds_both q n m) (lowest_above q n m) (cond (holds_both r n m) (lowest_above r n m) p)
two_sym p q r m n e f =
    ap₂ (λ (x y : Bool). cond x (lowest_above q m n) (cond y (lowest_above r m n) p)) (holds_both_sym q m n) (holds_both_sym r m n)
    ∙ ap₂ (λ (x y : Stmt). cond (holds_both q n m) x (cond (holds_both r n m) y p)) e f

lowest_above_sym : (p : Stmt) (m n : ℕ) → lowest_above p m n ≡ lowest_above p n m
unfolding lowest_above
lowest_above_sym nothing m n = refl
lowest_above_sym (pause k) m n = refl
lowest_above_sym (emit s) m n = refl
lowest_above_sym (exit d) m n = refl
lowest_above_sym (suspend p on s) m n = lowest_above_sym p m n
lowest_above_sym (loop p) m n = lowest_above_sym p m n
lowest_above_sym (trap p) m n = lowest_above_sym p m n
lowest_above_sym (local s p) m n = lowest_above_sym p m n
lowest_above_sym (present? s then p else q) m n = two_sym (present? s then p else q) p q m n (lowest_above_sym p m n) (lowest_above_sym q m n)
lowest_above_sym (p ⨾ q) m n = two_sym (p ⨾ q) p q m n (lowest_above_sym p m n) (lowest_above_sym q m n)
lowest_above_sym (p parallel q) m n = two_sym (p parallel q) p q m n (lowest_above_sym p m n) (lowest_above_sym q m n)

pub compatible_sym : (p : Stmt) (m n : ℕ) → compatible p m n ≡ compatible p n m
unfolding compatible
compatible_sym p m n = ap is_parallel (lowest_above_sym p m n)
