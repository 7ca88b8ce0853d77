-- Two good blocks with as many inputs under runs of input sets: along the calls goes a run of the comparison, which shows a difference exactly in an instant in which the two
-- do not agree. So they agree as long as no run on the way shows one, and in the last instant of a first one they part. Assumes nothing.
use mathlib.Core.Path.{◌≡◌, refl, sym, ap, ap₂, ◌∙◌, subst, subst⁻¹}
use mathlib.Core.Logic.{◌⊎◌, inl, inr}
use mathlib.Core.Bool.{Bool, true, false, not, ◌&&◌, true≢false}
use mathlib.Core.List.{List, [], ◌∷◌, ◌++◌, map, append_assoc}
use Prim.Native.Nat.{ℕ, suc, ◌+◌, ◌*◌, ◌^◌, ◌≤◌, ◌<◌}
use native.Mathlib.Decide.{dec_lt}
use native.Mathlib.Omega.{arith}
use lib.Dec.{T, eqb}
use lib.ListN.{length, length-append}
use lib.Pow.{pow_mono}
use borrow.Author.Tests.{eqb-true, eq-eqb}
use Rattle.sets.specs.Words.{bits, word}
use Rattle.sets.proofs.Members.{is_true, of_true, is_false, of_false, and_left, and_right, or_out}
use Rattle.sets.proofs.Words.{is_bits, is_lt, bits_high}
use Rattle.rules.specs.Statements.{Block}
use Rattle.rules.specs.States.{State, fresh}
use Rattle.rules.specs.Events.{present}
use Rattle.rules.specs.Rounds.{outputs_with, Answer, answered, not_constructive}
use Rattle.theorems.specs.Traces.{after}
use Rattle.block.specs.Format.{Good}
use Rattle.reaction.specs.declared.Given.{Given}
use Rattle.reaction.specs.declared.Given.TheVariants.{All}
use Rattle.foldheron.specs.Answers.{Instant}
use Rattle.reaction.specs.Fronts.{wrong_inputs}
use Rattle.reaction.specs.Instants.{block_of, told_reaction}
use Rattle.pairs.specs.Runs.{Run, start, ◌▸◌, size, bytes_of, numeric, Comparison, Input, reach, shows, First, Same}
use Rattle.pairs.specs.Blocks.{told_alike, States, both_after, told_apart, comparison}
use Rattle.promises.specs.Beside.{Each, ButTheLast, the_last, and_then, Agree}
use Rattle.promises.specs.Likeness.{Before}
use Rattle.promises.proofs.Records.{none_above}
use Rattle.promises.proofs.Tests.{or_none, inputs_none}
use Rattle.promises.proofs.Beside.{in_present, answer_from, ToldFrom, nothing_told, refused_11, reacts, beside, as_told}

-- A run and the sets that come after it.
onto : Run → List ℕ → Run
onto r [] = r
onto r (w ∷ ws) = onto (r ▸ w) ws

onto_append : (r : Run) (xs ys : List ℕ) → onto r (xs ++ ys) ≡ onto (onto r xs) ys
unfolding onto
onto_append r [] ys = refl
onto_append r (x ∷ xs) ys = onto_append (r ▸ x) xs ys

onto_bytes : (v : Run) → onto start (bytes_of v) ≡ v
unfolding onto bytes_of
onto_bytes start = refl
onto_bytes (v ▸ s) = onto_append start (bytes_of v) (s ∷ []) ∙ ap (λ (r : Run). r ▸ s) (onto_bytes v)

pub bytes_size : (v : Run) → length (bytes_of v) ≡ size v
unfolding bytes_of size
bytes_size start = refl
bytes_size (v ▸ s) = let h = bytes_size v in length-append (bytes_of v) (s ∷ []) ∙ omega (arith, h)

size_onto : (r : Run) (ws : List ℕ) → size (onto r ws) ≡ size r + length ws
unfolding onto size
size_onto r [] = omega arith
size_onto r (w ∷ ws) = let h = size_onto (r ▸ w) ws in omega (arith, h)

-- Before in numeric order.
before_last : (xs ys : List ℕ) (s t : ℕ) → length xs ≡ length ys → Before (xs ++ (s ∷ [])) (ys ++ (t ∷ [])) → Before xs ys ⊎ ((xs ≡ ys) × (s < t))
before_last [] [] s t e (inl l) = inr (refl, l)
before_last [] [] s t e (inr b) = absurd b.1
before_last [] (y ∷ ys) s t e b = absurd (omega arith)
before_last (x ∷ xs) [] s t e b = absurd (omega arith)
before_last (x ∷ xs) (y ∷ ys) s t e (inl l) = inl (inl l)
before_last (x ∷ xs) (y ∷ ys) s t e (inr b) = go (before_last xs ys s t (omega arith) b.1)
  where
    go : Before xs ys ⊎ ((xs ≡ ys) × (s < t)) → Before (x ∷ xs) (y ∷ ys) ⊎ ((x ∷ xs ≡ y ∷ ys) × (s < t))
    go (inl c) = inl (inr (b.0, c))
    go (inr c) = inr (ap₂ (λ (z : ℕ) (zs : List ℕ). z ∷ zs) b.0 c.0, c.1)

module _ (m : Comparison) (few : m.sets ≤ 256) where
  before_lower : (q v : Run) → Input m q → Input m v → size q ≡ size v → Before (bytes_of q) (bytes_of v) → numeric q < numeric v
  unfolding bytes_of size numeric Input
  before_lower start v i j e b = absurd b
  before_lower (q ▸ s) start i j e b = absurd (omega arith)
  before_lower (q ▸ s) (v ▸ t) i j e b = go (before_last (bytes_of q) (bytes_of v) s t (bytes_size q ∙ same ∙ sym (bytes_size v)) b) (before_lower q v i.0 j.0 same)
    where
      same : size q ≡ size v
      same = omega arith

      go : Before (bytes_of q) (bytes_of v) ⊎ ((bytes_of q ≡ bytes_of v) × (s < t)) → (Before (bytes_of q) (bytes_of v) → numeric q < numeric v)
          → numeric q * 256 + s < numeric v * 256 + t
      go (inl c) f = let l : numeric q < numeric v = f c in let k : s < m.sets = i.1 in omega (arith, few)
      go (inr c) f =
          let d : q ≡ v = sym (onto_bytes q) ∙ ap (onto start) c.0 ∙ onto_bytes v in
          let n : numeric q ≡ numeric v = ap numeric d in
          let l : s < t = c.1 in
          omega arith

input_onto : (m : Comparison) (r : Run) (ws : List ℕ) → Input m (onto r ws) → Input m r
unfolding onto Input
input_onto m r [] i = i
input_onto m r (w ∷ ws) i = (input_onto m (r ▸ w) ws i).0

-- What is compared of two answers is what is told of them.
both_equal : (x y c e : ℕ) → (eqb x y && eqb c e) ≡ true → (x ≡ y) × (c ≡ e)
both_equal x y c e q = (
  eqb-true x y (is_true (eqb x y) (and_left (eqb x y) (eqb c e) (of_true q))),
  eqb-true c e (is_true (eqb c e) (and_right (eqb x y) (eqb c e) (of_true q))),
)

agree_by : (b d : Block) (x y : Answer) → told_alike b x d y ≡ true → Agree (told_reaction b x) (told_reaction d y)
unfolding told_alike
agree_by b d (answered vs c st n) (answered us e su k) q = record {
  same_number = refl;
  same_outputs = λ z. (both_equal (word 64 (outputs_with present b vs)) (word 64 (outputs_with present d us)) c e q).0;
  same_code = λ z. (both_equal (word 64 (outputs_with present b vs)) (word 64 (outputs_with present d us)) c e q).1;
}
agree_by b d (answered vs c st n) (not_constructive us k) q = absurd (true≢false (sym q))
agree_by b d (not_constructive vs n) (answered us e su k) q = absurd (true≢false (sym q))
agree_by b d (not_constructive vs n) (not_constructive us k) q = record { same_number = refl; same_outputs = λ z. absurd (omega arith); same_code = λ z. absurd (omega arith) }

alike_by : (b d : Block) (x y : Answer) → Agree (told_reaction b x) (told_reaction d y) → told_alike b x d y ≡ true
unfolding told_alike
alike_by b d (answered vs c st n) (answered us e su k) q = rw (eq-eqb _ _ (q.same_outputs refl), eq-eqb _ _ (q.same_code refl))
alike_by b d (answered vs c st n) (not_constructive us k) q = let z : ◌≡◌ {A = ℕ} 0 13 = q.same_number in absurd (omega arith)
alike_by b d (not_constructive vs n) (answered us e su k) q = let z : ◌≡◌ {A = ℕ} 13 0 = q.same_number in absurd (omega arith)
alike_by b d (not_constructive vs n) (not_constructive us k) q = refl

module _ (g h : Good) (same : g.header.inputs ≡ h.header.inputs) where
  abbrev m : Comparison
  m = comparison (block_of g) (block_of h)

  abbrev pair : State → State → States
  pair st su = record { of_first = st; of_second = su }

  -- A set is below 2 to the number of inputs exactly where it is declared.
  set_below : (w : ℕ) → wrong_inputs g.header.inputs (All w) ≡ false → w < 2 ^ g.header.inputs
  set_below w e = is_lt g.header.inputs (is_bits w) (in_present g (All w) (inputs_none g.header.inputs (All w) e))

  below_declared : (w : ℕ) → w < 2 ^ g.header.inputs → wrong_inputs g.header.inputs (All w) ≡ false
  unfolding wrong_inputs
  below_declared w l = none_above g.header.inputs w (λ n t. not_high n t (dec_lt n g.header.inputs))
    where
      not_high : (n : ℕ) → T (bits w n) → Dec (n < g.header.inputs) → n < g.header.inputs
      not_high n t (yes k) = k
      not_high n t (no k) = absurd (of_false (bits_high g.header.inputs l (omega arith)) t)

  -- An instant that no run shows is told alike.
  apart_at : (r : Run) (w : ℕ) {st su : State} → reach m r ≡ pair st su
      → m.differs (reach m r) w ≡ not (told_alike (block_of g) (answer_from g st (All w)) (block_of h) (answer_from h su (All w)))
  unfolding told_apart
  apart_at r w e = ap (λ (x : States). told_apart (block_of g) (block_of h) x w) e

  agree_at : (r : Run) (w : ℕ) {st su : State} → reach m r ≡ pair st su → shows m (r ▸ w) ≡ false
      → Agree (told_reaction (block_of g) (answer_from g st (All w))) (told_reaction (block_of h) (answer_from h su (All w)))
  unfolding shows
  agree_at r w {st} {su} e n =
      agree_by (block_of g) (block_of h) (answer_from g st (All w)) (answer_from h su (All w))
      (not_apart _ (sym (apart_at r w e) ∙ (or_none (shows m r) (m.differs (reach m r) w) n).1))
    where
      not_apart : (z : Bool) → not z ≡ false → z ≡ true
      not_apart true q = refl
      not_apart false q = absurd (true≢false q)

  onward_to : (r : Run) (w : ℕ) {st su : State} → reach m r ≡ pair st su → reach m (r ▸ w) ≡ pair (after st (answer_from g st (All w))) (after su (answer_from h su (All w)))
  unfolding reach both_after
  onward_to r w e = ap (λ (x : States). both_after (block_of g) (block_of h) x w) e

  -- Along the calls goes a run, of which and of the sets to come P holds.
  module _ (P : Run → List ℕ → Type 0) (kept : (r : Run) (w : ℕ) (ws : List ℕ) → P r (w ∷ ws) → P r ws)
      (none : (r : Run) (w : ℕ) (ws : List ℕ) → Input m (r ▸ w) → P r (w ∷ ws) → shows m (r ▸ w) ≡ false)
      (more : (r : Run) (w : ℕ) (ws : List ℕ) → P r (w ∷ ws) → P (r ▸ w) ws) where
    record Along (st su : State) (given : List Given) : Type 0 where
      run : Run
      sets : List ℕ
      reached : reach m run ≡ pair st su
      is_input : Input m run
      their_sets : given ≡ map All sets
      holds : P run sets

    record Ahead (st su : State) (w : Given) (ws : List Given) : Type 0 where
      run : Run
      set : ℕ
      sets : List ℕ
      reached : reach m run ≡ pair st su
      is_input : Input m run
      its_set : w ≡ All set
      their_sets : ws ≡ map All sets
      holds : P run (set ∷ sets)

    first_given : Given → List Given → Given
    first_given d [] = d
    first_given d (w ∷ ws) = w

    rest_given : List Given → List Given
    rest_given [] = []
    rest_given (w ∷ ws) = ws

    ahead : (st su : State) (w : Given) (ws : List Given) → Along st su (w ∷ ws) → Ahead st su w ws
    unfolding first_given rest_given
    ahead st su w ws a = go a.sets a.their_sets a.holds
      where
        go : (vs : List ℕ) → w ∷ ws ≡ map All vs → P a.run vs → Ahead st su w ws
        go [] e p = let z : ◌≡◌ {A = ℕ} 0 1 = cc in absurd (omega arith)
        go (v ∷ vs) e p = record {
          run = a.run;
          set = v;
          sets = vs;
          reached = a.reached;
          is_input = a.is_input;
          its_set = ap (first_given w) e;
          their_sets = ap rest_given e;
          holds = p;
        }

    passed : (st su : State) (w : Given) (ws : List Given) → Along st su (w ∷ ws) → Along st su ws
    passed st su w ws a =
        let x = ahead st su w ws a in
        record {
          run = x.run;
          sets = x.sets;
          reached = x.reached;
          is_input = x.is_input;
          their_sets = x.their_sets;
          holds = kept x.run x.set x.sets x.holds;
        }

    onward : (st su : State) (w : Given) (ws : List Given) → wrong_inputs g.header.inputs w ≡ false → Along st su (w ∷ ws)
        → Agree (told_reaction (block_of g) (answer_from g st w)) (told_reaction (block_of h) (answer_from h su w))
        × Along (after st (answer_from g st w)) (after su (answer_from h su w)) ws
    unfolding Input
    onward st su w ws f a = subst⁻¹ Onward x.its_set (
      agree_at x.run x.set x.reached (none x.run x.set x.sets fits x.holds),
      record {
        run = x.run ▸ x.set;
        sets = x.sets;
        reached = onward_to x.run x.set x.reached;
        is_input = fits;
        their_sets = x.their_sets;
        holds = more x.run x.set x.sets x.holds;
      },
    )
      where
        x : Ahead st su w ws
        x = ahead st su w ws a

        Onward : Given → Type 0
        Onward y =
            Agree (told_reaction (block_of g) (answer_from g st y)) (told_reaction (block_of h) (answer_from h su y))
            × Along (after st (answer_from g st y)) (after su (answer_from h su y)) ws

        fits : Input m (x.run ▸ x.set)
        fits = (x.is_input, set_below x.set (sym (ap (wrong_inputs g.header.inputs) x.its_set) ∙ f))

    all_agree : (vs : List ℕ) → P start vs → {rs rs' : List Instant} → ToldFrom g fresh (map All vs) rs → ToldFrom h fresh (map All vs) rs' → Each Agree rs rs'
    unfolding reach Input
    all_agree vs p t t' =
        beside g h same Agree (record { same_number = refl; same_outputs = λ z. refl; same_code = λ z. refl }) Along passed onward t t'
        (record { run = start; sets = vs; reached = refl; is_input = tt; their_sets = refl; holds = p })

  -- No run shows a difference.
  pub never_apart : Same m → (vs : List ℕ) {rs rs' : List Instant} → ToldFrom g fresh (map All vs) rs → ToldFrom h fresh (map All vs) rs' → Each Agree rs rs'
  never_apart s vs = all_agree (λ r ws. Unit {0}) (λ r w ws p. tt) (λ r w ws i p. s.none_shows (r ▸ w) i) (λ r w ws p. tt) vs tt

  -- A first one: none shorter shows a difference, and none of its length that is before it.
  module _ (few : g.header.inputs ≤ 6) (v : Run) (f : First m v) where
    few_sets : 2 ^ g.header.inputs ≤ 256
    few_sets = let l : 2 ^ g.header.inputs ≤ 2 ^ 6 = pow_mono few in omega (arith, l)

    abbrev Sooner : Run → List ℕ → Type 0
    Sooner r ws = (size r + length ws < size v) ⊎ ((size r + length ws ≡ size v) × Before (bytes_of r ++ ws) (bytes_of v))

    sooner_kept : (r : Run) (w : ℕ) (ws : List ℕ) → Sooner r (w ∷ ws) → Sooner r ws
    sooner_kept r w ws (inl l) = inl (omega arith)
    sooner_kept r w ws (inr p) = let e : size r + suc (length ws) ≡ size v = p.0 in inl (omega arith)

    sooner_more : (r : Run) (w : ℕ) (ws : List ℕ) → Sooner r (w ∷ ws) → Sooner (r ▸ w) ws
    unfolding size bytes_of
    sooner_more r w ws (inl l) = inl (omega arith)
    sooner_more r w ws (inr p) =
        let e : size r + suc (length ws) ≡ size v = p.0 in
        inr (omega arith, subst (λ (l : List ℕ). Before l (bytes_of v)) (sym (append_assoc (bytes_of r) (w ∷ []) ws)) p.1)

    sooner_none : (r : Run) (w : ℕ) (ws : List ℕ) → Input m (r ▸ w) → Sooner r (w ∷ ws) → shows m (r ▸ w) ≡ false
    unfolding size bytes_of
    sooner_none r w ws i p = is_false (shows m (r ▸ w)) λ t. go ws p t
      where
        go : (us : List ℕ) → Sooner r (w ∷ us) → T (shows m (r ▸ w)) → ⊥
        go us (inl l) t = let k : size v ≤ suc (size r) = f.shortest (r ▸ w) i t in omega arith
        go [] (inr q) t =
            let e : suc (size r) ≡ size v = (let d : size r + 1 ≡ size v = q.0 in omega arith) in
            let k : numeric v ≤ numeric (r ▸ w) = f.first (r ▸ w) i t e in
            let l : numeric (r ▸ w) < numeric v = before_lower m few_sets (r ▸ w) v i f.is_input e q.1 in
            omega arith
        go (u ∷ us) (inr q) t =
            let e : size r + suc (suc (length us)) ≡ size v = q.0 in
            let k : size v ≤ suc (size r) = f.shortest (r ▸ w) i t in
            omega arith

    none_sooner : (vs : List ℕ) → Sooner start vs → {rs rs' : List Instant} → ToldFrom g fresh (map All vs) rs → ToldFrom h fresh (map All vs) rs' → Each Agree rs rs'
    none_sooner = all_agree Sooner sooner_kept sooner_none sooner_more

    pub none_shorter : (vs : List ℕ) → length vs < size v → {rs rs' : List Instant} → ToldFrom g fresh (map All vs) rs → ToldFrom h fresh (map All vs) rs' → Each Agree rs rs'
    unfolding size
    none_shorter vs l = none_sooner vs (inl (omega arith))

    pub none_before : (vs : List ℕ) → length vs ≡ size v → Before vs (bytes_of v) → {rs rs' : List Instant}
        → ToldFrom g fresh (map All vs) rs → ToldFrom h fresh (map All vs) rs' → Each Agree rs rs'
    unfolding size bytes_of
    none_before vs e p = none_sooner vs (inr (omega arith, p))

  -- In its last instant the two part.
  last_differs : (r : Run) (w : ℕ) → First m (r ▸ w) → T (m.differs (reach m r) w)
  unfolding shows size Input
  last_differs r w f = go (or_out (shows m r) (m.differs (reach m r) w) f.is_shown)
    where
      shorter : T (shows m r) → ⊥
      shorter t = let l : suc (size r) ≤ size r = f.shortest r f.is_input.0 t in omega arith

      go : T (shows m r) ⊎ T (m.differs (reach m r) w) → T (m.differs (reach m r) w)
      go (inl t) = absurd (shorter t)
      go (inr t) = t

  set_of_run : (r : Run) (w : ℕ) (ws : List ℕ) → First m (onto r (w ∷ ws)) → w < 2 ^ g.header.inputs
  unfolding onto Input
  set_of_run r w ws f = (input_onto m (r ▸ w) ws f.is_input).1

  not_yet : (r : Run) (w u : ℕ) (us : List ℕ) → First m (onto r (w ∷ u ∷ us)) → shows m (r ▸ w) ≡ false
  unfolding onto size
  not_yet r w u us f = is_false (shows m (r ▸ w)) λ t.
      let l : size (onto (r ▸ w) (u ∷ us)) ≤ suc (size r) = f.shortest (r ▸ w) (input_onto m (r ▸ w) (u ∷ us) f.is_input) t in
      let k : size (onto (r ▸ w) (u ∷ us)) ≡ suc (size r) + suc (length us) = size_onto (r ▸ w) (u ∷ us) in
      omega (arith, l, k)

  last_parts : (r : Run) (w : ℕ) {st su : State} → reach m r ≡ pair st su → First m (r ▸ w)
      → Agree (told_reaction (block_of g) (answer_from g st (All w))) (told_reaction (block_of h) (answer_from h su (All w))) → ⊥
  last_parts r w {st} {su} e f a =
      let alike = alike_by (block_of g) (block_of h) (answer_from g st (All w)) (answer_from h su (All w)) a in
      of_false (apart_at r w e ∙ ap not alike) (last_differs r w f)

  -- What the first block takes, the second takes.
  second_takes : (w : ℕ) → wrong_inputs g.header.inputs (All w) ≡ false → wrong_inputs h.header.inputs (All w) ≡ true → ⊥
  second_takes w x y = true≢false (sym y ∙ ap (λ (n : ℕ). wrong_inputs n (All w)) (sym same) ∙ x)

  parts_from : (ws : List ℕ) (r : Run) (w : ℕ) {st su : State} → reach m r ≡ pair st su → First m (onto r (w ∷ ws)) → {rs rs' : List Instant}
      → ToldFrom g st (map All (w ∷ ws)) rs → ToldFrom h su (map All (w ∷ ws)) rs' → ButTheLast Agree rs rs'
  unfolding onto
  parts_from [] r w e f (refused_11 x t k) t' = absurd (true≢false (sym x ∙ below_declared w (set_of_run r w [] f)))
  parts_from [] r w e f (reacts x t k) (refused_11 y t' k') = absurd (second_takes w x y)
  parts_from [] r w {st} {su} e f (reacts x t nothing_told) (reacts y t' nothing_told) = the_last (λ a. last_parts r w e f (as_told Agree (sym t) (sym t') a))
  parts_from (u ∷ us) r w e f (refused_11 x t k) t' = absurd (true≢false (sym x ∙ below_declared w (set_of_run r w (u ∷ us) f)))
  parts_from (u ∷ us) r w e f (reacts x t k) (refused_11 y t' k') = absurd (second_takes w x y)
  parts_from (u ∷ us) r w {st} {su} e f (reacts x t k) (reacts y t' k') =
      and_then (as_told Agree t t' (agree_at r w e (not_yet r w u us f))) (parts_from us (r ▸ w) u (onward_to r w e) f k k')

  begins : reach m start ≡ pair fresh fresh
  unfolding reach
  begins = refl

  none_yet : First m (onto start []) → ⊥
  unfolding onto shows
  none_yet f = f.is_shown

  pub parts_at_last : (v : Run) → First m v → {rs rs' : List Instant} → ToldFrom g fresh (map All (bytes_of v)) rs → ToldFrom h fresh (map All (bytes_of v)) rs'
      → ButTheLast Agree rs rs'
  parts_at_last v f = go (bytes_of v) (subst⁻¹ (First m) (onto_bytes v) f)
    where
      go : (ws : List ℕ) → First m (onto start ws) → {rs rs' : List Instant} → ToldFrom g fresh (map All ws) rs → ToldFrom h fresh (map All ws) rs' → ButTheLast Agree rs rs'
      go [] k t t' = absurd (none_yet k)
      go (w ∷ ws) k t t' = parts_from ws start w begins k t t'
