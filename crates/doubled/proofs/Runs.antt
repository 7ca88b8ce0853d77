-- From fresh, any run of a good block and of its doubled block is the same: final statuses, codes, rounds and NOT CONSTRUCTIVE. The
-- doubled block is a copy that passes the check, and a state of the one stands for a state of the other: never both copies of a loop
-- body are active, since the doubled block's state is legal. And it can be written exactly where it is within the limits. Assumes nothing.
use mathlib.Core.Path.{◌≡◌, refl, sym, ◌∙◌, ap, subst, subst⁻¹}
use mathlib.Core.Logic.{◌⊎◌, inl, inr}
use mathlib.Core.Bool.{Bool, true, false, ◌&&◌, ◌||◌}
use mathlib.Core.List.{List, map}
use Prim.Native.Nat.{ℕ, ◌+◌, ◌≤◌, ◌<◌}
use native.Mathlib.Nat.{zero-add, le_refl}
use native.Mathlib.Omega.{arith}
use lib.Dec.{T, ltb, leb, leb→le, le→leb, ltb→lt}
use lib.ListN.{length, get_or}
use Rattle.sets.specs.Numbers.{Numbers, empty, listed}
use Rattle.sets.proofs.Members.{is_true, of_true, and_in, and_left, and_right, or_left, or_out}
use Rattle.rules.specs.Statements.{Block, Stmt, pauses, from, Numbered, Trapped}
use Rattle.rules.specs.Instant.{held, started}
use Rattle.rules.specs.Loops.{loops_pass}
use Rattle.rules.specs.States.{State, fresh, running, finished, step, Legal, Running}
use Rattle.theorems.specs.Checked.{Checked}
use Rattle.theorems.specs.Traces.{InputSet, run}
use Rattle.theorems.proofs.Numbering.{from_in}
use Rattle.tables.specs.Table.{statements}
use Rattle.block.specs.Format.{Header, Good}
use Rattle.block.specs.Good.{Scoped, path, nested_traps, nested_locals, Next, Apart}
use Rattle.likeness.specs.Likeness.{Distinct, Like, Image}
use Rattle.likeness.specs.Runs.{SameRun, SamePhase, both_fresh, both_running, both_finished}
use Rattle.likeness.proofs.Forms.{like_done}
use Rattle.likeness.proofs.Images.{image_closed}
use Rattle.likeness.proofs.Runs.{declared, with_body, heard_there, fresh_run_same}
use Rattle.writing.specs.Written.{Writable}
use Rattle.writing.proofs.Back.{Orderly}
use Rattle.doubled.specs.Copies.{copies, renamed, itself, doubled, doubled_header, within_limits}
use Rattle.doubled.proofs.Copied.{Copy, copy_into, copy_trapped, copy_passes}
use Rattle.doubled.proofs.Twins.{Stands, started_like, resumed_like}
use Rattle.doubled.proofs.Made.{origins, Stretch, Scope, Below, made, copies_numbered, renamed_pauses, renamed_next, made_scoped, Named}

itself_distinct : (D : Numbers) → Distinct D itself
itself_distinct D = record { same_signal = λ s t d e q. q }

-- What the check of a block's bytes finds, as far as it is needed here.
pub record Sane (h : Header) (t : Stmt) : Type 0 where
  pub writable : Writable h t
  pub apart : Apart empty t

abbrev pub block_of : Header → Stmt → Block
block_of h t = record { inputs = h.inputs; outputs = h.outputs; body = t }

module _ (h : Header) (t : Stmt) (sane : Sane h t) where
  abbrev pub t' : Stmt
  t' = doubled h t

  -- What pause m of the doubled block stands for.
  abbrev pub origin : ℕ → ℕ
  origin m = get_or (origins t) m 0

  pub is_copy : Copy origin (declared (block_of h t)) itself t t'
  unfolding doubled
  is_copy =
      made t 0 (h.inputs + h.outputs) h.inputs h.outputs empty (declared (block_of h t)) itself (record { at = λ i l. ap origin (zero-add i) })
      sane.writable.scoped sane.apart
      (record { in_scope = λ x d. now x (or_out (ltb x (h.inputs + h.outputs)) false d); only = λ x d. or_left (ltb x (h.inputs + h.outputs)) false d })
      (record { below = λ x d. ltb→lt x (h.inputs + h.outputs) d })
    where
      now : (x : ℕ) → T (ltb x (h.inputs + h.outputs)) ⊎ T false → T (ltb x (h.inputs + h.outputs))
      now x (inl d) = d
      now x (inr d) = absurd d

  pub doubled_numbered : Numbered 0 t'
  unfolding doubled Numbered
  doubled_numbered =
      let e = renamed_pauses itself (h.inputs + h.outputs) (copies 0 t) in
      subst⁻¹ (λ (xs : List ℕ). xs ≡ from 0 (length xs)) e (copies_numbered 0 t)

  loops_good : T (loops_pass t)
  loops_good = of_true sane.writable.loops

  pub doubled_checked : Checked (block_of h t')
  doubled_checked = record {
    loops_are_good = (copy_passes is_copy loops_good).passes;
    exits_are_trapped = copy_trapped is_copy 0 sane.writable.trapped;
    pauses_are_numbered = doubled_numbered;
  }

  -- A legal state's active pauses are the doubled block's own, so that their images are all.
  state_stands : (A B : Numbers) → Image origin A B → Running t' B → Stands origin A B t t'
  unfolding held Numbered
  state_stands A B f r = record { stand = record { there = to; back = back_to } }
    where
      to : (m : ℕ) → T (B m && listed (pauses t') m) → T (A (origin m) && listed (pauses t) (origin m))
      to m s =
          and_in (A (origin m)) (listed (pauses t) (origin m)) (f.there m (and_left (B m) (listed (pauses t') m) s))
          (copy_into is_copy m (and_right (B m) (listed (pauses t') m) s))

      back_to : (n : ℕ) → T (A n && listed (pauses t) n) → (m : ℕ) × T (B m && listed (pauses t') m) × (origin m ≡ n)
      back_to n s =
          let x = f.back n (and_left (A n) (listed (pauses t) n) s) in
          let l : x.0 < length (pauses t') = r.in_block x.0 x.1 in
          let i = subst⁻¹ (λ (xs : List ℕ). T (listed xs x.0)) doubled_numbered (from_in 0 (length (pauses t')) x.0 (omega arith) (omega arith)) in
          (x.0, and_in (B x.0) (listed (pauses t') x.0) x.1 i, x.2)

  steps_like : (st st' : State) → SamePhase (Image origin) st st' → Legal t' st' → Like (Image origin) (declared (block_of h t)) itself (step t st) (step t' st')
  unfolding step Legal started
  steps_like st st' both_fresh l = started_like origin is_copy (itself_distinct (declared (block_of h t))) loops_good
  steps_like st st' (both_running {A = A} {A' = B} f) l =
      resumed_like origin A B is_copy (itself_distinct (declared (block_of h t))) loops_good 0 0 sane.writable.pauses_numbered doubled_numbered
      (record { pairwise = λ m n s t i j e. l.all_compatible m n s t e }) (state_stands A B f l)
  steps_like st st' both_finished l = like_done (image_closed origin)

  -- From fresh, any run is the same on both blocks.
  pub from_fresh_any_run_is_the_same : (givens : List (InputSet (block_of h t)))
      → SameRun (run (block_of h t) fresh givens) (run (block_of h t') fresh (map (heard_there (block_of h t) t') givens))
  from_fresh_any_run_is_the_same = fresh_run_same (block_of h t) t' doubled_checked steps_like

  scoped_there : Scoped h.inputs h.outputs empty t'
  unfolding doubled
  scoped_there =
      made_scoped t 0 (h.inputs + h.outputs) h.inputs h.outputs empty empty itself sane.writable.scoped (le_refl (h.inputs + h.outputs))
      (record { kept = λ x l. refl; there = λ x t. t; above = λ x t. absurd t })

  next_there : Next (h.inputs + h.outputs) t'
  unfolding doubled
  next_there = renamed_next itself (h.inputs + h.outputs) (copies 0 t)

  -- All of the doubled block is in order but, it may be, the limits;
  pub doubled_orderly : Orderly (doubled_header h t) t'
  unfolding doubled_header
  doubled_orderly = record {
    version_fits = sane.writable.version_fits;
    interface = omega (arith, sane.writable.signals);
    trapped = copy_trapped is_copy 0 sane.writable.trapped;
    pauses_numbered = doubled_numbered;
    scoped = scoped_there;
    locals_counted = refl;
    locals_next = next_there;
    loops = is_true (loops_pass t') (copy_passes is_copy loops_good).passes;
  }

  -- within them it can be written,
  pub doubled_writable : T (within_limits (doubled_header h t) t') → Writable (doubled_header h t) t'
  unfolding within_limits
  doubled_writable w =
      let d = doubled_header h t in
      let o = doubled_orderly in
      let w₁ = and_right (leb (d.inputs + d.outputs + d.locals) 64) _ w in
      let w₂ = and_right (leb (statements t') 512) _ w₁ in
      let w₃ = and_right (leb (length (pauses t')) 128) _ w₂ in
      let w₄ = and_right (leb (nested_traps t') 16) _ w₃ in
      record {
        version_fits = o.version_fits;
        signals = leb→le _ 64 (and_left (leb (d.inputs + d.outputs + d.locals) 64) _ w);
        few_statements = leb→le _ 512 (and_left (leb (statements t') 512) _ w₁);
        few_pauses = leb→le _ 128 (and_left (leb (length (pauses t')) 128) _ w₂);
        traps_nested = leb→le _ 16 (and_left (leb (nested_traps t') 16) _ w₃);
        locals_nested = leb→le _ 6 (and_left (leb (nested_locals t') 6) _ w₄);
        paths = leb→le _ 64 (and_right (leb (nested_locals t') 6) _ w₄);
        trapped = o.trapped;
        pauses_numbered = o.pauses_numbered;
        scoped = o.scoped;
        locals_counted = o.locals_counted;
        locals_next = o.locals_next;
        loops = o.loops;
      }

  -- and only within them.
  pub writable_within : Writable (doubled_header h t) t' → T (within_limits (doubled_header h t) t')
  unfolding within_limits
  writable_within w =
      let d = doubled_header h t in
      and_in (leb (d.inputs + d.outputs + d.locals) 64) _ (le→leb _ 64 w.signals)
      (and_in (leb (statements t') 512) _ (le→leb _ 512 w.few_statements)
      (and_in (leb (length (pauses t')) 128) _ (le→leb _ 128 w.few_pauses)
      (and_in (leb (nested_traps t') 16) _ (le→leb _ 16 w.traps_nested)
      (and_in (leb (nested_locals t') 6) _ (le→leb _ 6 w.locals_nested) (le→leb _ 64 w.paths)))))
