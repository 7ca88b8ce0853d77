-- Every run of a step and every coherent reaction of an instant, as lists that compute: the assignments are tried, and each is executed by the
-- definition itself. That the lists have these and no others goes by induction over the step. Assumes nothing.
use mathlib.Core.Path.{◌≡◌, refl, sym, ◌∙◌, ap, subst}
use mathlib.Core.Logic.{◌↔◌, ◌⊎◌, inl, inr}
use mathlib.Core.Bool.{Bool, true, false, not, cond, ◌&&◌, true≢false, false≢true}
use mathlib.Core.List.{List, [], ◌∷◌, ◌++◌}
use Prim.Native.Nat.{ℕ, zero, suc, ◌+◌, ◌<◌}
use native.Mathlib.Omega.{arith}
use lib.Dec.{eqb}
use lib.ListN.{length, get_or}
use Rattle.sets.specs.Numbers.{Numbers, without}
use Rattle.sets.proofs.Members.{is_true, of_true, and_left, and_right}
use Rattle.rules.specs.Statements.{Block}
use Rattle.rules.specs.Instant.{Step, done, stay, say, leave, test, catch, scope, chain, beside}
use Rattle.rules.specs.States.{State, step, next}
use Rattle.rules.specs.Coherence.{Locals, Execution, assigning, run_on, execute, LocalsAgree, world, Coherent}
use Rattle.rules.proofs.LawSentences.{execution, Run, together, trapped, some_locals, coherent}

-- LISTS

-- it is in the list
abbrev pub In : {A : Type 0} → A → List A → Type 0
In x [] = ⊥
In x (y ∷ ys) = (x ≡ y) ⊎ In x ys

-- what each member of a list gives
abbrev pub each : {A B : Type 0} → (A → List B) → List A → List B
each f [] = []
each f (x ∷ xs) = f x ++ each f xs

-- one member, or none
abbrev pub if : {A : Type 0} → Bool → A → List A
if b x = cond b (x ∷ []) []

in_left : {A : Type 0} (x : A) (xs ys : List A) → In x xs → In x (xs ++ ys)
in_left x [] ys h = absurd h
in_left x (y ∷ xs) ys (inl e) = inl e
in_left x (y ∷ xs) ys (inr h) = inr (in_left x xs ys h)

in_right : {A : Type 0} (x : A) (xs ys : List A) → In x ys → In x (xs ++ ys)
in_right x [] ys h = h
in_right x (y ∷ xs) ys h = inr (in_right x xs ys h)

in_either : {A : Type 0} (x : A) (xs ys : List A) → In x (xs ++ ys) → In x xs ⊎ In x ys
in_either x [] ys h = inr h
in_either x (y ∷ xs) ys (inl e) = inl (inl e)
in_either x (y ∷ xs) ys (inr h) = go (in_either x xs ys h)
  where
    go : In x xs ⊎ In x ys → In x (y ∷ xs) ⊎ In x ys
    go (inl i) = inl (inr i)
    go (inr i) = inr i

module _ {A B : Type 0} (f : A → List B) (x : B) where
  in_each : (y : A) (ys : List A) → In y ys → In x (f y) → In x (each f ys)
  in_each y [] h i = absurd h
  in_each y (z ∷ ys) (inl e) i = in_left x (f z) (each f ys) (subst (λ (w : A). In x (f w)) e i)
  in_each y (z ∷ ys) (inr h) i = in_right x (f z) (each f ys) (in_each y ys h i)

  each_in : (ys : List A) → In x (each f ys) → (y : A) × In y ys × In x (f y)
  each_in [] h = absurd h
  each_in (z ∷ ys) h = go (in_either x (f z) (each f ys) h) (each_in ys)
    where
      go : In x (f z) ⊎ In x (each f ys) → (In x (each f ys) → (y : A) × In y ys × In x (f y)) → (y : A) × In y (z ∷ ys) × In x (f y)
      go (inl i) g = (z, inl refl, i)
      go (inr i) g = let r = g i in (r.0, inr r.1, r.2)

in_one : {A : Type 0} {x y : A} → In x (y ∷ []) → x ≡ y
in_one (inl e) = e
in_one (inr h) = absurd h

in_if : {A : Type 0} {x y : A} (b : Bool) → b ≡ true → x ≡ y → In x (if b y)
in_if true t e = inl e
in_if false t e = absurd (false≢true t)

if_in : {A : Type 0} {x y : A} (b : Bool) → In x (if b y) → (b ≡ true) × (x ≡ y)
if_in true h = (refl, in_one h)
if_in false h = absurd h

-- a status and whether it was emitted
abbrev as_emitted : Bool → Bool → Bool
as_emitted true e = e
as_emitted false e = not e

emitted_as : (v e : Bool) → v ≡ e → as_emitted v e ≡ true
emitted_as true true h = refl
emitted_as true false h = absurd (true≢false h)
emitted_as false true h = absurd (false≢true h)
emitted_as false false h = refl

as_emitted_is : (v e : Bool) → as_emitted v e ≡ true → v ≡ e
as_emitted_is true true h = refl
as_emitted_is true false h = absurd (false≢true h)
as_emitted_is false true h = absurd (false≢true h)
as_emitted_is false false h = refl

abbrev either_status : List Bool
either_status = true ∷ false ∷ []

in_either_status : (v : Bool) → In v either_status
in_either_status true = inl refl
in_either_status false = inr (inl refl)

-- EVERY RUN

-- The assignments that agree, each local tried present and absent where its body is executed; where it is not it is left absent.
unfoldable pub assigned : (P : Step) → Numbers → List (Locals P)
assigned done W = tt ∷ []
assigned (stay A) W = tt ∷ []
assigned (say s) W = tt ∷ []
assigned (leave d) W = tt ∷ []
assigned (test s P Q) W = cond (W s) (each (λ l. (l, some_locals Q) ∷ []) (assigned P W)) (each (λ l. (some_locals P, l) ∷ []) (assigned Q W))
assigned (catch P) W = assigned P W
assigned (scope s P) W =
    each (λ v. each (λ l. if (as_emitted v ((execute P l (assigning W s v)).emitted s)) (v, l)) (assigned P (assigning W s v))) either_status
assigned (chain P Q) W =
    each (λ l. cond (eqb (execute P l W).completes 0) (each (λ m. (l, m) ∷ []) (assigned Q W)) ((l, some_locals Q) ∷ [])) (assigned P W)
assigned (beside P Q) W = each (λ l. each (λ m. (l, m) ∷ []) (assigned Q W)) (assigned P W)

-- What is executed with each of them.
unfoldable pub runs : Step → Numbers → List Execution
unfolding assigned
runs P W = each (λ l. execute P l W ∷ []) (assigned P W)

-- Those listed agree; and every assignment that agrees is executed as one of those listed.
pub record Complete (P : Step) (W : Numbers) (ls : List (Locals P)) : Type 0 where
  pub agrees : (l : Locals P) → In l ls → LocalsAgree P l W
  pub found : (l : Locals P) → LocalsAgree P l W → (m : Locals P) × In m ls × (execute P m W ≡ execute P l W)

module _ (W : Numbers) (P Q : Step) (ps : List (Locals P)) (qs : List (Locals Q)) (f : Complete P W ps) (g : Complete Q W qs) where
  test_complete : (s : ℕ) (b : Bool) → W s ≡ b
      → Complete (test s P Q) W (cond b (each (λ l. (l, some_locals Q) ∷ []) ps) (each (λ l. (some_locals P, l) ∷ []) qs))
  unfolding execute LocalsAgree
  test_complete s true e = record {
    agrees = λ l h.
        let r = each_in (λ l. (l, some_locals Q) ∷ []) l ps h in
        rw e (subst (λ (k : Locals P). LocalsAgree P k W) (sym (ap (λ (k : Locals P × Locals Q). k.0) (in_one r.2))) (f.agrees r.0 r.1));
    found = λ l a.
        let r = f.found l.0 (rw e at a) in
        ((r.0, some_locals Q), in_each (λ l. (l, some_locals Q) ∷ []) (r.0, some_locals Q) r.0 ps r.1 (inl refl), rw e r.2);
  }
  test_complete s false e = record {
    agrees = λ l h.
        let r = each_in (λ l. (some_locals P, l) ∷ []) l qs h in
        rw e (subst (λ (k : Locals Q). LocalsAgree Q k W) (sym (ap (λ (k : Locals P × Locals Q). k.1) (in_one r.2))) (g.agrees r.0 r.1));
    found = λ l a.
        let r = g.found l.1 (rw e at a) in
        ((some_locals P, r.0), in_each (λ l. (some_locals P, l) ∷ []) (some_locals P, r.0) r.0 qs r.1 (inl refl), rw e r.2);
  }

  catch_complete : Complete (catch P) W ps
  unfolding execute LocalsAgree
  catch_complete = record {
    agrees = f.agrees;
    found = λ l a. let r = f.found l a in (r.0, r.1, ap trapped r.2);
  }

  beside_complete : Complete (beside P Q) W (each (λ l. each (λ m. (l, m) ∷ []) qs) ps)
  unfolding execute LocalsAgree
  beside_complete = record {
    agrees = λ l h.
        let r = each_in (λ k. each (λ m. (k, m) ∷ []) qs) l ps h in
        let t = each_in (λ m. (r.0, m) ∷ []) l qs r.2 in
        subst (λ (k : Locals P × Locals Q). LocalsAgree P k.0 W × LocalsAgree Q k.1 W) (sym (in_one t.2))
        (f.agrees r.0 r.1, g.agrees t.0 t.1);
    found = λ l a.
        let r = f.found l.0 a.0 in
        let t = g.found l.1 a.1 in (
          (r.0, t.0),
          in_each (λ k. each (λ m. (k, m) ∷ []) qs) (r.0, t.0) r.0 ps r.1 (in_each (λ m. (r.0, m) ∷ []) (r.0, t.0) t.0 qs t.1 (inl refl)),
          ap (λ (y : Execution). together y (execute Q t.0 W)) r.2 ∙ ap (together (execute P l.0 W)) t.2,
        );
  }

  -- a sequence goes on from the first part's assignment, or ends with it
  abbrev pairs_with : Locals P → List (Locals P × Locals Q)
  pairs_with l = each (λ m. (l, m) ∷ []) qs

  abbrev on_from : Locals P → List (Locals P × Locals Q)
  on_from l = cond (eqb (execute P l W).completes 0) (pairs_with l) ((l, some_locals Q) ∷ [])

  on_agrees : (k : Locals P) (l : Locals P × Locals Q) (b : Bool) → eqb (execute P k W).completes 0 ≡ b
      → In l (cond b (pairs_with k) ((k, some_locals Q) ∷ [])) → LocalsAgree P k W → LocalsAgree (chain P Q) l W
  unfolding LocalsAgree
  on_agrees k l true e h a =
      let t = each_in (λ m. (k, m) ∷ []) l qs h in
      subst (λ (j : Locals P × Locals Q). LocalsAgree P j.0 W × cond (eqb (execute P j.0 W).completes 0) (LocalsAgree Q j.1 W) (Unit {0}))
      (sym (in_one t.2)) (a, rw e (g.agrees t.0 t.1))
  on_agrees k l false e h a =
      subst (λ (j : Locals P × Locals Q). LocalsAgree P j.0 W × cond (eqb (execute P j.0 W).completes 0) (LocalsAgree Q j.1 W) (Unit {0}))
      (sym (in_one h)) (a, rw e tt)

  on_found : (l : Locals P × Locals Q) (b : Bool) → eqb (execute P l.0 W).completes 0 ≡ b → LocalsAgree (chain P Q) l W
      → (m : Locals P × Locals Q) × In m (each on_from ps)
      × (execute (chain P Q) m W ≡ execute (chain P Q) l W)
  unfolding execute LocalsAgree
  on_found l true e a =
      let r = f.found l.0 a.0 in
      let t = g.found l.1 (rw e at a.1) in
      let goes_on : eqb (execute P r.0 W).completes 0 ≡ true = ap (λ (y : Execution). eqb y.completes 0) r.2 ∙ e in (
        (r.0, t.0),
        in_each on_from (r.0, t.0) r.0 ps r.1 (rw goes_on (in_each (λ m. (r.0, m) ∷ []) (r.0, t.0) t.0 qs t.1 (inl refl))),
        ap (λ (y : Execution). run_on y (execute Q t.0 W)) r.2 ∙ ap (run_on (execute P l.0 W)) t.2,
      )
  on_found l false e a =
      let r = f.found l.0 a.0 in
      let ends : eqb (execute P r.0 W).completes 0 ≡ false = ap (λ (y : Execution). eqb y.completes 0) r.2 ∙ e in (
        (r.0, some_locals Q),
        in_each on_from (r.0, some_locals Q) r.0 ps r.1 (rw ends (inl refl)),
        ap (λ (y : Execution). run_on y (execute Q (some_locals Q) W)) r.2 ∙ rw e,
      )

  chain_complete : Complete (chain P Q) W (each on_from ps)
  chain_complete = record {
    agrees = λ l h.
        let r = each_in on_from l ps h in
        on_agrees r.0 l (eqb (execute P r.0 W).completes 0) refl r.2 (f.agrees r.0 r.1);
    found = λ l a. on_found l (eqb (execute P l.0 W).completes 0) refl a;
  }

module _ (W : Numbers) (s : ℕ) (P : Step) (ps : Bool → List (Locals P)) (f : (v : Bool) → Complete P (assigning W s v) (ps v)) where
  abbrev was_emitted : Bool → Locals P → Bool
  was_emitted v l = (execute P l (assigning W s v)).emitted s

  abbrev agreeing : Bool → List (Bool × Locals P)
  agreeing v = each (λ l. if (as_emitted v (was_emitted v l)) (v, l)) (ps v)

  scope_complete : Complete (scope s P) W (each agreeing either_status)
  unfolding execute LocalsAgree
  scope_complete = record {
    agrees = λ l h.
        let r = each_in agreeing l either_status h in
        let t = each_in (λ k. if (as_emitted r.0 (was_emitted r.0 k)) (r.0, k)) l (ps r.0) r.2 in
        let u = if_in (as_emitted r.0 (was_emitted r.0 t.0)) t.2 in
        subst (λ (k : Bool × Locals P). (k.0 ≡ was_emitted k.0 k.1) × LocalsAgree P k.1 (assigning W s k.0)) (sym u.1)
        (as_emitted_is r.0 (was_emitted r.0 t.0) u.0, (f r.0).agrees t.0 t.1);
    found = λ l a.
        let r = (f l.0).found l.1 a.1 in
        let same : l.0 ≡ was_emitted l.0 r.0 = a.0 ∙ ap (λ (y : Execution). y.emitted s) (sym r.2) in (
          (l.0, r.0),
          in_each agreeing (l.0, r.0) l.0 either_status (in_either_status l.0)
              (in_each (λ k. if (as_emitted l.0 (was_emitted l.0 k)) (l.0, k)) (l.0, r.0) r.0 (ps l.0) r.1
              (in_if (as_emitted l.0 (was_emitted l.0 r.0)) (emitted_as l.0 (was_emitted l.0 r.0) same) refl)),
          ap (λ (y : Execution). execution (without s y.emitted) y.completes y.keeps) r.2,
        );
  }

complete : (P : Step) (W : Numbers) → Complete P W (assigned P W)
unfolding assigned execute LocalsAgree
complete done W = record { agrees = λ l h. tt; found = λ l a. (tt, inl refl, refl) }
complete (stay A) W = record { agrees = λ l h. tt; found = λ l a. (tt, inl refl, refl) }
complete (say s) W = record { agrees = λ l h. tt; found = λ l a. (tt, inl refl, refl) }
complete (leave d) W = record { agrees = λ l h. tt; found = λ l a. (tt, inl refl, refl) }
complete (test s P Q) W = test_complete W P Q (assigned P W) (assigned Q W) (complete P W) (complete Q W) s (W s) refl
complete (catch P) W = catch_complete W P P (assigned P W) (assigned P W) (complete P W) (complete P W)
complete (scope s P) W = scope_complete W s P (λ v. assigned P (assigning W s v)) (λ v. complete P (assigning W s v))
complete (chain P Q) W = chain_complete W P Q (assigned P W) (assigned Q W) (complete P W) (complete Q W)
complete (beside P Q) W = beside_complete W P Q (assigned P W) (assigned Q W) (complete P W) (complete Q W)

-- the runs of a step are those listed
pub all_runs : (P : Step) (W : Numbers) (x : Execution) → In x (runs P W) ↔ Run P W x
unfolding runs
all_runs P W x = (
  λ h. let r = each_in (λ l. execute P l W ∷ []) x (assigned P W) h in (r.0, (complete P W).agrees r.0 r.1, sym (in_one r.2)),
  λ r.
      let m = (complete P W).found r.0 r.1 in
      in_each (λ l. execute P l W ∷ []) x m.0 (assigned P W) m.1 (inl (sym r.2 ∙ sym m.2)),
)

-- EVERY COHERENT REACTION

-- every way for so many outputs to be present or absent
unfoldable pub all_outs : ℕ → List (List Bool)
all_outs zero = [] ∷ []
all_outs (suc n) = each (λ v. each (λ vs. (v ∷ vs) ∷ []) (all_outs n)) either_status

out_of : (n : ℕ) (outs : List Bool) → In outs (all_outs n) → length outs ≡ n
unfolding all_outs
out_of zero outs h = ap (λ (vs : List Bool). length vs) (in_one h)
out_of (suc n) outs h =
    let r = each_in (λ v. each (λ vs. (v ∷ vs) ∷ []) (all_outs n)) outs either_status h in
    let t = each_in (λ vs. (r.0 ∷ vs) ∷ []) outs (all_outs n) r.2 in
    ap (λ (vs : List Bool). length vs) (in_one t.2) ∙ ap suc (out_of n t.0 t.1)

in_outs : (n : ℕ) (outs : List Bool) → length outs ≡ n → In outs (all_outs n)
unfolding all_outs
in_outs zero [] e = inl refl
in_outs zero (v ∷ vs) e = absurd (omega arith)
in_outs (suc n) [] e = absurd (omega arith)
in_outs (suc n) (v ∷ vs) e =
    in_each (λ w. each (λ us. (w ∷ us) ∷ []) (all_outs n)) (v ∷ vs) v either_status (in_either_status v)
    (in_each (λ us. (v ∷ us) ∷ []) (v ∷ vs) vs (all_outs n) (in_outs n vs (omega (arith, e))) (inl refl))

-- each output, from signal s on, as it was emitted
unfoldable pub outs_agree : Numbers → ℕ → List Bool → Bool
outs_agree emitted s [] = true
outs_agree emitted s (v ∷ vs) = as_emitted v (emitted s) && outs_agree emitted (suc s) vs

agreed : (emitted : Numbers) (s : ℕ) (outs : List Bool) → outs_agree emitted s outs ≡ true
    → (i : ℕ) → i < length outs → get_or outs i false ≡ emitted (s + i)
unfolding outs_agree
agreed emitted s [] h i l = absurd (omega arith)
agreed emitted s (v ∷ vs) h zero l =
    as_emitted_is v (emitted s) (is_true (as_emitted v (emitted s)) (and_left (as_emitted v (emitted s)) (outs_agree emitted (suc s) vs) (of_true h)))
    ∙ ap emitted (omega arith)
agreed emitted s (v ∷ vs) h (suc i) l =
    let rest : outs_agree emitted (suc s) vs ≡ true =
    is_true (outs_agree emitted (suc s) vs) (and_right (as_emitted v (emitted s)) (outs_agree emitted (suc s) vs) (of_true h)) in
    agreed emitted (suc s) vs rest i (omega (arith, l)) ∙ ap emitted (omega arith)

agree_all : (emitted : Numbers) (s : ℕ) (outs : List Bool) → ((i : ℕ) → i < length outs → get_or outs i false ≡ emitted (s + i))
    → outs_agree emitted s outs ≡ true
unfolding outs_agree
agree_all emitted s [] f = refl
agree_all emitted s (v ∷ vs) f =
    rw (emitted_as v (emitted s) (f 0 (omega arith) ∙ ap emitted (omega arith))) (agree_all emitted (suc s) vs (λ i l. f (suc i) (omega (arith, l)) ∙ ap emitted (omega arith)))

-- a reaction: outputs, code and next state
pub record Reaction : Type 0 where
  pub outs : List Bool
  pub code : ℕ
  pub leaves : State

abbrev pub reaction_of : List Bool → Execution → Reaction
reaction_of vs x = record { outs = vs; code = x.completes; leaves = next x.completes x.keeps }

module _ (b : Block) (st : State) (given : Numbers) where
  abbrev with_outs : List Bool → List Reaction
  with_outs vs = each (λ x. if (outs_agree x.emitted b.inputs vs) (reaction_of vs x)) (runs (step b.body st) (world b given vs))

  unfoldable pub reactions : List Reaction
  unfolding runs outs_agree all_outs
  reactions = each with_outs (all_outs b.outputs)

  -- the coherent reactions are those listed: each output and each local, each time its body is run, was tried present and absent
  pub all_coherent : (r : Reaction) → In r reactions ↔ Coherent b st given r.outs r.code r.leaves
  unfolding reactions
  all_coherent r = (there, back)
    where
      tried : List Bool → Execution → List Reaction
      tried vs x = if (outs_agree x.emitted b.inputs vs) (reaction_of vs x)

      there : In r (each with_outs (all_outs b.outputs)) → Coherent b st given r.outs r.code r.leaves
      there h =
          let t = each_in with_outs r (all_outs b.outputs) h in
          let u = each_in (tried t.0) r (runs (step b.body st) (world b given t.0)) t.2 in
          let w = if_in (outs_agree u.0.emitted b.inputs t.0) u.2 in
          let long : length t.0 ≡ b.outputs = out_of b.outputs t.0 t.1 in
          let run : Run (step b.body st) (world b given t.0) u.0 = (all_runs (step b.body st) (world b given t.0) u.0).0 u.1 in
          subst (λ (q : Reaction). Coherent b st given q.outs q.code q.leaves) (sym w.1)
          ((coherent b given t.0 st u.0.completes (next u.0.completes u.0.keeps)).1
          (long, u.0, run, λ i l. agreed u.0.emitted b.inputs t.0 w.0 i (subst (λ (n : ℕ). i < n) (sym long) l), refl, refl))

      back : Coherent b st given r.outs r.code r.leaves → In r (each with_outs (all_outs b.outputs))
      back h =
          let k = (coherent b given r.outs st r.code r.leaves).0 h in
          let x : Execution = k.1 in
          let its_code : r.code ≡ x.completes = sym k.4 in
          let its_next : r.leaves ≡ next x.completes x.keeps = sym k.5 ∙ ap (λ (c : ℕ). next c x.keeps) its_code in
          in_each with_outs r r.outs (all_outs b.outputs) (in_outs b.outputs r.outs k.0)
          (in_each (tried r.outs) r x (runs (step b.body st) (world b given r.outs))
          ((all_runs (step b.body st) (world b given r.outs) x).1 k.2)
          (in_if (outs_agree x.emitted b.inputs r.outs)
          (agree_all x.emitted b.inputs r.outs (λ i l. k.3 i (subst (λ (n : ℕ). i < n) k.0 l)))
          (λ i. record { outs = r.outs; code = its_code i; leaves = its_next i })))
