-- The call's ways: what each test turns down, and what the search's ends come to in the answer and the lent bytes. Assumes nothing.
use mathlib.Core.Path.{◌≡◌, refl, sym, ap, ap₂, ◌∙◌, subst}
use mathlib.Core.Bool.{Bool, true, cond, ◌&&◌, and-false}
use mathlib.Core.List.{List, ◌++◌}
use mathlib.Core.Logic.{◌⊎◌, inl, inr}
use Prim.Native.Nat.{ℕ, ◌+◌, ◌≤◌, ◌<◌}
use native.Mathlib.Omega.{arith}
use lib.Dec.{eqb, ltb}
use lib.ListN.{drop}
use borrow.Author.Tests.{eq-eqb, ne_eqb, lt-ltb, le-ltb}
use Rattle.refusals.specs.Refusals.{number, why_of}
use Rattle.std.specs.Prelude.{Option, None, Some, Result, Ok, Err}
use Rattle.std.specs.Result.{MatchResult, IsErrAnd}
use Rattle.std.proofs.lemmas.Result.{err_from_is_err_and}
use Rattle.refusals.specs.declared.Refused.{Refused}
use Rattle.refusals.specs.declared.Why.{Why}
use Rattle.refusals.specs.declared.Why.TheVariants.{Interface, Wide, Room, Pairs}
use Rattle.refusals.proofs.Laws.{why_back}
use Rattle.rules.specs.Statements.{Block}
use Rattle.tables.specs.declared.Table.{Table}
use Rattle.block.specs.Format.{Good, Reading, good, reading}
use Rattle.block.specs.Told.{ReadWhole}
use Rattle.block.specs.declared.whole.Summary.{Summary}
use Rattle.block.proofs.Answered.{was_turned_down}
use Rattle.reaction.specs.Instants.{block_of}
use Rattle.reaction.specs.Outcomes.{Opened}
use Rattle.pairs.specs.Runs.{Run, ◌▸◌, size, bytes_of, Comparison}
use Rattle.pairs.specs.Blocks.{comparison}
use Rattle.alike.specs.Ends.{most, Linked, Shown, Ends}
use Rattle.alike.specs.Calls.{stopped, ready, try_both, try_second, try_first, Compared, Owed}
use Rattle.alike.specs.declared.NotCompared.{NotCompared}
use Rattle.alike.specs.declared.NotCompared.TheVariants.{First as TheFirst, Second as TheSecond, Both}
use Rattle.alike.specs.declared.search.Link.{Link}

-- what an error made of another says of the result that had it
module _ {A E F : Type 0} {m : Result A F} (P : E → F → Type 0) where
  pub was_ok : (q : Result A E) → MatchResult q (λ x. m ≡ Ok x) (λ e. IsErrAnd m (P e)) → {r : A} → m ≡ Ok r → q ≡ Ok r
  was_ok (Ok x) e {r} z =
      let n : ◌≡◌ {A = Result A F} (Ok x) (Ok r) = sym e ∙ z in
      let y : x ≡ r = cc in
      ap Ok y
  was_ok (Err f) e {r} z =
      let p = err_from_is_err_and m e in
      let n : Err p.0 ≡ Ok r = sym p.1 ∙ z in
      let y : ⊥ = cc in
      absurd y

  pub was_err : (q : Result A E) → MatchResult q (λ x. m ≡ Ok x) (λ e. IsErrAnd m (P e)) → {f : F} → m ≡ Err f → (e : E) × (q ≡ Err e) × P e f
  was_err (Ok x) e {f} z = let y : ⊥ = cc in absurd y
  was_err (Err k) e {f} z =
      let p = err_from_is_err_and m e in
      let n : ◌≡◌ {A = Result A F} (Err p.0) (Err f) = sym p.1 ∙ z in
      let y : p.0 ≡ f = cc in
      (k, refl, subst (P k) y p.2)

-- a block is turned down
module _ (b : List ℕ) {tab : Table} {x : Result Summary Refused} (w : ReadWhole (reading b) tab x) {r : Refused} (e : x ≡ Err r) (run : List ℕ) where
  told : ◌≡◌ {A = Refused} r (record { why = why_of (number r.why); place = r.place })
  told = λ i. record { why = sym (why_back r.why) i; place = r.place }

  pub first_fails : (y : Reading) (n : ℕ) → Owed (try_first (reading b) y n) (Err (TheFirst r)) run run
  unfolding try_first Owed
  first_fails y n =
      subst (λ (z : Reading). Owed (try_first z y n) (Err (TheFirst r)) run run) (sym (was_turned_down b w e))
      (ap (λ (v : Refused). Err (TheFirst v)) told, refl)

  pub second_fails : (g : Good) (n : ℕ) → Owed (try_second g (reading b) n) (Err (TheSecond r)) run run
  unfolding try_second Owed
  second_fails g n =
      subst (λ (z : Reading). Owed (try_second g z n) (Err (TheSecond r)) run run) (sym (was_turned_down b w e))
      (ap (λ (v : Refused). Err (TheSecond v)) told, refl)

-- or read
pub first_reads : (b : List ℕ) {g : Good} (y : Reading) (n : ℕ) (a : Result (Option ℕ) NotCompared) (run after : List ℕ) → reading b ≡ good g
    → Owed (try_second g y n) a run after → Owed (try_first (reading b) y n) a run after
unfolding try_first
first_reads b y n a run after e o = subst (λ (z : Reading). Owed (try_first z y n) a run after) (sym e) o

pub second_reads : (b : List ℕ) (g : Good) {h : Good} (n : ℕ) (a : Result (Option ℕ) NotCompared) (run after : List ℕ) → reading b ≡ good h
    → Owed (try_both g h n) a run after → Owed (try_second g (reading b) n) a run after
unfolding try_second
second_reads b g n a run after e o = subst (λ (z : Reading). Owed (try_second g z n) a run after) (sym e) o

stopped_with : (why : Why) (run : List ℕ) → Owed (stopped (number why)) (Err (Both why)) run run
unfolding Owed
stopped_with why run = (ap (λ (v : Why). Err (Both v)) (sym (why_back why)), refl)

-- the tests of both
module _ {tab tab2 : Table} {s t : Summary} {g h : Good} (o : Opened tab s g) (p : Opened tab2 t h) where
  si : s.inputs ≡ g.header.inputs
  si = ap (λ (x : Summary). x.inputs) o.summed

  so : s.outputs ≡ g.header.outputs
  so = ap (λ (x : Summary). x.outputs) o.summed

  ti : t.inputs ≡ h.header.inputs
  ti = ap (λ (x : Summary). x.inputs) p.summed

  to : t.outputs ≡ h.header.outputs
  to = ap (λ (x : Summary). x.outputs) p.summed

  -- by the three tests, as they come out
  both_are : {x y z : Bool} (n : ℕ) (a : Result (Option ℕ) NotCompared) (run after : List ℕ)
      → (eqb g.header.inputs h.header.inputs && eqb g.header.outputs h.header.outputs) ≡ x → ltb 6 g.header.inputs ≡ y → ltb n most ≡ z
      → Owed (cond x (cond y (stopped 24) (cond z (stopped 12) (ready g h))) (stopped 23)) a run after → Owed (try_both g h n) a run after
  unfolding try_both
  both_are {x} {y} {z} n a run after e f k w =
      subst (λ (u : Bool). Owed (cond u (cond (ltb 6 g.header.inputs) (stopped 24) (cond (ltb n most) (stopped 12) (ready g h))) (stopped 23)) a run after) (sym e)
      (subst (λ (u : Bool). Owed (cond x (cond u (stopped 24) (cond (ltb n most) (stopped 12) (ready g h))) (stopped 23)) a run after) (sym f)
      (subst (λ (u : Bool). Owed (cond x (cond y (stopped 24) (cond u (stopped 12) (ready g h))) (stopped 23)) a run after) (sym k) w))

  pub interface_way : (s.inputs ≡ t.inputs → ⊥) ⊎ ((s.inputs ≡ t.inputs) × (s.outputs ≡ t.outputs → ⊥)) → (n : ℕ) (run : List ℕ) → Owed (try_both g h n) (Err (Both Interface)) run run
  unfolding number
  interface_way (inl d) n run =
      both_are n _ run run (ap (λ (u : Bool). u && eqb g.header.outputs h.header.outputs) (ne_eqb g.header.inputs h.header.inputs (λ e. d (si ∙ e ∙ sym ti)))) refl refl
      (stopped_with Interface run)
  interface_way (inr d) n run =
      both_are n _ run run
      (ap (λ (u : Bool). eqb g.header.inputs h.header.inputs && u) (ne_eqb g.header.outputs h.header.outputs (λ e. d.1 (so ∙ e ∙ sym to)))
      ∙ and-false (eqb g.header.inputs h.header.inputs)) refl refl (stopped_with Interface run)

  module _ (ei : s.inputs ≡ t.inputs) (eo : s.outputs ≡ t.outputs) where
    same_signals : (eqb g.header.inputs h.header.inputs && eqb g.header.outputs h.header.outputs) ≡ true
    same_signals = ap₂ ◌&&◌ (eq-eqb g.header.inputs h.header.inputs (sym si ∙ ei ∙ ti)) (eq-eqb g.header.outputs h.header.outputs (sym so ∙ eo ∙ to))

    pub wide_way : 6 < s.inputs → (n : ℕ) (run : List ℕ) → Owed (try_both g h n) (Err (Both Wide)) run run
    unfolding number
    wide_way l n run = both_are n _ run run same_signals (lt-ltb 6 g.header.inputs (omega (arith, l, si))) refl (stopped_with Wide run)

    pub room_way : s.inputs ≤ 6 → (n : ℕ) → n < 1024 → (run : List ℕ) → Owed (try_both g h n) (Err (Both Room)) run run
    unfolding number
    room_way l n k run = both_are n _ run run same_signals (le-ltb 6 g.header.inputs (omega (arith, l, si))) (lt-ltb n most k) (stopped_with Room run)

    first_block : ◌≡◌ {A = Block} (record { inputs = s.inputs; outputs = s.outputs; body = g.body }) (block_of g)
    first_block = λ i. record { inputs = si i; outputs = so i; body = g.body }

    second_block : ◌≡◌ {A = Block} (record { inputs = s.inputs; outputs = s.outputs; body = h.body }) (block_of h)
    second_block = λ i. record { inputs = (ei ∙ ti) i; outputs = (eo ∙ to) i; body = h.body }

    pub compared_way : s.inputs ≤ 6 → (n : ℕ) → 1024 ≤ n → (a : Result (Option ℕ) NotCompared) (run after : List ℕ)
        → Compared (comparison (record { inputs = s.inputs; outputs = s.outputs; body = g.body }) (record { inputs = s.inputs; outputs = s.outputs; body = h.body })) a run after
        → Owed (try_both g h n) a run after
    unfolding Owed
    compared_way l n k a run after c =
        both_are n a run after same_signals (le-ltb 6 g.header.inputs (omega (arith, l, si))) (le-ltb n most k)
        (subst (λ (x : Block). Compared (comparison x (block_of h)) a run after) first_block
        (subst (λ (x : Block). Compared (comparison (record { inputs = s.inputs; outputs = s.outputs; body = g.body }) x) a run after) second_block c))

-- the ends of the search
pub same_compared : (m : Comparison) (links : List Link) (run : List ℕ) → Ends m links (Ok None) → Compared m (Ok None) run run
unfolding Ends Compared
same_compared m links run n = (n.same, n.not_over, refl)

pub over_compared : (m : Comparison) (links : List Link) (run : List ℕ) (w : Why) → Ends m links (Err w) → Compared m (Err (Both w)) run run
unfolding Ends Compared number
over_compared m links run w x = (ap Both (x.0 ∙ sym (why_back Pairs)), x.1, refl)

pub shown_by : (m : Comparison) (links : List Link) (last : Link) → Ends m links (Ok (Some last)) → Shown m links last
unfolding Ends
shown_by m links last x = x

pub shown_compared : (m : Comparison) (links : List Link) (last : Link) (n : ℕ) (run after : List ℕ) → Shown m links last
    → ((walk : ℕ → Run) → Linked links walk (last.parent + 1) → n ≡ size (walk last.parent ▸ last.set))
    → ((walk : ℕ → Run) → Linked links walk (last.parent + 1)
    → after ≡ bytes_of (walk last.parent ▸ last.set) ++ drop (size (walk last.parent ▸ last.set)) run)
    → Compared m (Ok (Some n)) run after
unfolding Compared
shown_compared m links last n run after x e f =
    (x.walk last.parent ▸ last.set, x.is_first, x.not_over, e x.walk x.its_links, f x.walk x.its_links)
