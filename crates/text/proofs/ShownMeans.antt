-- The tree that is shown for a statement stands for its records, for any names that keep different things apart: by induction on the
-- statement, with what is declared around it. Assumes nothing.
use mathlib.Core.Path.{◌≡◌, refl, sym, ap, ap₂, ◌∙◌, subst}
use mathlib.Core.Bool.{Bool, true, false, cond, ◌&&◌, ◌||◌}
use mathlib.Core.Logic.{⊎_elim}
use mathlib.Core.List.{List, [], ◌∷◌, ◌++◌, append-nil}
use mathlib.Core.Option.{Option, none, some}
use Prim.Native.Nat.{ℕ, zero, suc, ◌+◌, ◌-◌, ◌≤◌, ◌<◌}
use native.Mathlib.Nat.{add-zero}
use native.Mathlib.Omega.{arith}
use lib.Dec.{T, ltb, eqb, eqb→eq, eqb_refl}
use lib.ListN.{length, length-append}
use Rattle.sets.specs.Numbers.{Numbers, single, union, listed}
use Rattle.sets.proofs.Members.{or_out, or_left, or_right}
use Rattle.rules.specs.Statements.{depth, Stmt, nothing, pause, emit, present?◌then◌else◌, suspend◌on◌, ◌⨾◌, loop, ◌parallel◌, trap, exit, local, Trapped}
use Rattle.tables.specs.Table.{kind_of, operand_of}
use Rattle.block.specs.Format.{preorder}
use Rattle.tables.specs.Kinds.{shape}
use Rattle.block.specs.Good.{Scoped, locals, Next}
use Rattle.block.proofs.Nesting.{rows_of, row_tail}
use Rattle.writing.specs.Written.{record_bytes, shaped_bytes, records}
use Rattle.writing.proofs.Records.{records_append}
use Rattle.text.specs.Tokens.{same}
use Rattle.text.specs.Meaning.{Declaration, signal_named, trap_named, signal_in, depth_in, declared, go_on, if_new, Part, above, joined, arms_means, chain_means, basic_means}
use Rattle.text.specs.Shown.{forms}

pub same_self : (x : List ℕ) → same x x ≡ true
unfolding same
same_self [] = refl
same_self (a ∷ x) = go (eqb a a) (eqb_refl a) (same_self x)
  where
    go : (z : Bool) → T z → same x x ≡ true → (z && same x x) ≡ true
    go true t e = e
    go false t e = absurd t

-- The names: different signals have different names, different traps too, and no signal has a trap's name.
pub record Naming (f g : ℕ → List ℕ) : Type 0 where
  pub signals_apart : (a b : ℕ) → (a ≡ b → ⊥) → same (f a) (f b) ≡ false
  pub traps_apart : (a b : ℕ) → (a ≡ b → ⊥) → same (g a) (g b) ≡ false
  pub signal_trap : (a b : ℕ) → same (f a) (g b) ≡ false
  pub trap_signal : (a b : ℕ) → same (g a) (f b) ≡ false

module _ (f g : ℕ → List ℕ) (w : Naming f g) (i o : ℕ) where
  -- What is declared around a statement: the signals in its scope and its k traps by their names, and no signal from n on.
  pub record Around (S : Numbers) (k n : ℕ) (ds : List Declaration) : Type 0 where
    pub signals : (s : ℕ) → T (ltb s (i + o) || S s) → signal_in ds (f s) ≡ some s
    pub traps : (d : ℕ) → d < k → depth_in ds (g (k - 1 - d)) ≡ some d
    pub new_signals : (s : ℕ) → n ≤ s → declared ds (f s) ≡ false
    pub new_traps : (j : ℕ) → k ≤ j → declared ds (g j) ≡ false

  passed : {A : Type 0} {z : Bool} (x y : A) → z ≡ false → cond z x y ≡ y
  passed x y e = ap (λ (z : Bool). cond z x y) e

  neither : {y z : Bool} → y ≡ false → z ≡ false → (y || z) ≡ false
  neither e h = ap₂ (λ (y z : Bool). y || z) e h

  -- A local more, and a trap more.
  more_signal : {S : Numbers} {k n : ℕ} {ds : List Declaration} → Around S k n ds → Around (union (single n) S) k (suc n) (signal_named (f n) n ∷ ds)
  unfolding signal_in depth_in declared
  more_signal {S} {k} {n} {ds} a = record {
    signals = λ s t. its s (eqb n s) refl t;
    traps = λ d l. passed none _ (w.signal_trap n (k - 1 - d)) ∙ a.traps d l;
    new_signals = λ s l. neither (w.signals_apart n s (λ e. omega (arith, e, l))) (a.new_signals s (omega (arith, l)));
    new_traps = λ j l. neither (w.signal_trap n j) (a.new_traps j l);
  }
    where
      other : (s : ℕ) → eqb n s ≡ false → T (ltb s (i + o) || (eqb s n || S s)) → T (ltb s (i + o) || S s)
      other s q t =
          ⊎_elim (λ x. or_left (ltb s (i + o)) (S s) x)
          (λ x. ⊎_elim (λ y. absurd (subst T q (subst (λ (m : ℕ). T (eqb m s)) (eqb→eq s n y) (eqb_refl s)))) (λ y. or_right (ltb s (i + o)) (S s) y) (or_out (eqb s n) (S s) x))
          (or_out (ltb s (i + o)) (eqb s n || S s) t)

      its : (s : ℕ) (z : Bool) → eqb n s ≡ z → T (ltb s (i + o) || (eqb s n || S s)) → cond (same (f n) (f s)) (some n) (signal_in ds (f s)) ≡ some s
      its s true q t =
          let e = eqb→eq n s (subst T (sym q) tt) in
          subst (λ (m : ℕ). cond (same (f n) (f m)) (some n) (signal_in ds (f m)) ≡ some m) e (ap (λ (z : Bool). cond z (some n) (signal_in ds (f n))) (same_self (f n)))
      its s false q t =
          passed (some n) (signal_in ds (f s)) (w.signals_apart n s (λ e. subst T q (subst (λ (m : ℕ). T (eqb n m)) e (eqb_refl n)))) ∙ a.signals s (other s q t)

  more_trap : {S : Numbers} {k n : ℕ} {ds : List Declaration} → Around S k n ds → Around S (suc k) n (trap_named (g k) ∷ ds)
  unfolding signal_in depth_in declared
  more_trap {S} {k} {n} {ds} a = record {
    signals = λ s t. passed none (signal_in ds (f s)) (w.trap_signal k s) ∙ a.signals s t;
    traps = its;
    new_signals = λ s l. neither (w.trap_signal k s) (a.new_signals s l);
    new_traps = λ j l. neither (w.traps_apart k j (λ e. omega (arith, e, l))) (a.new_traps j (omega (arith, l)));
  }
    where
      its : (d : ℕ) → d < suc k → cond (same (g k) (g (suc k - 1 - d))) (some 0) (go_on (depth_in ds (g (suc k - 1 - d))) λ d. some (suc d)) ≡ some d
      its zero l =
          let e : suc k - 1 - 0 ≡ k = omega arith in
          subst (λ (m : ℕ). cond (same (g k) (g m)) (some 0) (go_on (depth_in ds (g m)) λ d. some (suc d)) ≡ some 0) (sym e)
          (ap (λ (z : Bool). cond z (some 0) (go_on (depth_in ds (g k)) λ d. some (suc d))) (same_self (g k)))
      its (suc d) l =
          let e : suc k - 1 - suc d ≡ k - 1 - d = omega arith in
          subst (λ (m : ℕ). cond (same (g k) (g m)) (some 0) (go_on (depth_in ds (g m)) λ d. some (suc d)) ≡ some (suc d)) (sym e)
          (passed (some 0) _ (w.traps_apart k (k - 1 - d) (λ e. omega (arith, e, l))) ∙ ap (λ (x : Option ℕ). go_on x λ d. some (suc d)) (a.traps d (omega (arith, l))))

  later : {S : Numbers} {k n : ℕ} {ds : List Declaration} → Around S k n ds → (m : ℕ) → Around S k (n + m) ds
  later a m = record { signals = a.signals; traps = a.traps; new_signals = λ s l. a.new_signals s (omega (arith, l)); new_traps = a.new_traps }

  -- The three forms of a statement mean the same.
  chain_same : (p : Stmt) (k : ℕ) (ds : List Declaration) (n : ℕ) → chain_means (forms f g k p).as_chain ds n ≡ arms_means (forms f g k p).as_arms ds n
  unfolding forms arms_means
  chain_same nothing k ds n = refl
  chain_same (pause m) k ds n = refl
  chain_same (emit s) k ds n = refl
  chain_same (present? s then p else q) k ds n = refl
  chain_same (suspend p on s) k ds n = refl
  chain_same (p ⨾ q) k ds n = refl
  chain_same (loop p) k ds n = refl
  chain_same (p parallel q) k ds n = refl
  chain_same (trap p) k ds n = refl
  chain_same (exit (depth d)) k ds n = refl
  chain_same (local s p) k ds n = refl

  basic_same : (p : Stmt) (k : ℕ) (ds : List Declaration) (n : ℕ) → basic_means (forms f g k p).as_basic ds n ≡ arms_means (forms f g k p).as_arms ds n
  unfolding forms arms_means
  basic_same nothing k ds n = refl
  basic_same (pause m) k ds n = refl
  basic_same (emit s) k ds n = refl
  basic_same (present? s then p else q) k ds n = refl
  basic_same (suspend p on s) k ds n = refl
  basic_same (p ⨾ q) k ds n = refl
  basic_same (loop p) k ds n = refl
  basic_same (p parallel q) k ds n = refl
  basic_same (trap p) k ds n = refl
  basic_same (exit (depth d)) k ds n = refl
  basic_same (local s p) k ds n = refl

  -- What a statement stands for.
  abbrev stands_for : Stmt → ℕ → Part
  stands_for p n = record { records = records (preorder p); next = n + length (locals p) }

  leaf_part : (r : List ℕ) (n : ℕ) → ◌≡◌ {A = Option Part} (some (record { records = r; next = n })) (some (record { records = r ++ []; next = n + 0 }))
  leaf_part r n = λ c. some (record { records = sym (append-nil r) c; next = sym (add-zero n) c })

  one_part : (r : List ℕ) {o : Option Part} {u : Part} → o ≡ some u → above r o ≡ some (record { records = r ++ u.records; next = u.next })
  one_part r e = ap (λ (x : Option Part). above r x) e

  two_parts : (r : List ℕ) (p q : Stmt) (n : ℕ) {x : Option Part} (y : ℕ → Option Part) → x ≡ some (stands_for p n) → y (n + length (locals p)) ≡ some (stands_for q (n + length (locals p)))
      → joined r x y ≡ some (record { records = r ++ records (preorder p ++ preorder q); next = n + length (locals p ++ locals q) })
  two_parts r p q n y e h =
      let count : n + length (locals p) + length (locals q) ≡ n + length (locals p ++ locals q) = omega (arith, length-append (locals p) (locals q)) in
      ap (λ (z : Option Part). joined r z y) e
      ∙ ap (λ (z : Option Part). go_on z λ v. some (record { records = r ++ (records (preorder p) ++ v.records); next = v.next })) h
      ∙ (λ c. some (record { records = r ++ sym (records_append (preorder p) (preorder q)) c; next = count c }))

  found : {x : Option ℕ} {s : ℕ} (y : ℕ → Option Part) → x ≡ some s → go_on x y ≡ y s
  found y e = ap (λ (z : Option ℕ). go_on z y) e

  is_new : {z : Bool} (y : Option Part) → z ≡ false → if_new z y ≡ y
  is_new y e = ap (λ (z : Bool). if_new z y) e

  pub shown_means : (p : Stmt) (S : Numbers) (k n : ℕ) (ds : List Declaration) → Around S k n ds → Trapped k p → Scoped i o S p → Next n p
      → arms_means (forms f g k p).as_arms ds n ≡ some (stands_for p n)
  unfolding forms arms_means records preorder locals Trapped Scoped Next kind_of operand_of shaped_bytes shape listed
  shown_means nothing S k n ds a t s e = leaf_part (record_bytes 16 0) n
  shown_means (pause m) S k n ds a t s e = leaf_part (record_bytes 17 0) n
  shown_means (emit x) S k n ds a t s e = found (λ x. some (record { records = record_bytes 18 x; next = n })) (a.signals x s.1) ∙ leaf_part (record_bytes 18 x) n
  shown_means (present? x then p else q) S k n ds a t s e =
      let r = rows_of n (locals p) (locals q) e in
      found (λ x. joined (record_bytes 19 x) (arms_means (forms f g k p).as_arms ds n) λ m. arms_means (forms f g k q).as_arms ds m) (a.signals x s.0)
      ∙ two_parts (record_bytes 19 x) p q n (λ m. arms_means (forms f g k q).as_arms ds m) (shown_means p S k n ds a t.0 s.1 r.0)
      (shown_means q S k (n + length (locals p)) ds (later a (length (locals p))) t.1 s.2 r.1)
  shown_means (suspend p on x) S k n ds a t s e =
      found (λ x. above (record_bytes 20 x) (arms_means (forms f g k p).as_arms ds n)) (a.signals x s.0) ∙ one_part (record_bytes 20 x) (shown_means p S k n ds a t s.1 e)
  shown_means (p ⨾ q) S k n ds a t s e =
      let r = rows_of n (locals p) (locals q) e in
      two_parts (record_bytes 21 0) p q n (λ m. chain_means (forms f g k q).as_chain ds m) (basic_same p k ds n ∙ shown_means p S k n ds a t.0 s.0 r.0)
      (chain_same q k ds (n + length (locals p)) ∙ shown_means q S k (n + length (locals p)) ds (later a (length (locals p))) t.1 s.1 r.1)
  shown_means (loop p) S k n ds a t s e = one_part (record_bytes 22 0) (shown_means p S k n ds a t s e)
  shown_means (p parallel q) S k n ds a t s e =
      let r = rows_of n (locals p) (locals q) e in
      two_parts (record_bytes 23 0) p q n (λ m. arms_means (forms f g k q).as_arms ds m) (chain_same p k ds n ∙ shown_means p S k n ds a t.0 s.0 r.0)
      (shown_means q S k (n + length (locals p)) ds (later a (length (locals p))) t.1 s.1 r.1)
  shown_means (trap p) S k n ds a t s e =
      is_new _ (a.new_traps k (omega arith)) ∙ one_part (record_bytes 24 0) (shown_means p S (suc k) n (trap_named (g k) ∷ ds) (more_trap a) t s e)
  shown_means (exit (depth d)) S k n ds a t s e = found (λ x. some (record { records = record_bytes 25 x; next = n })) (a.traps d t) ∙ leaf_part (record_bytes 25 d) n
  shown_means (local x p) S k n ds a t s e =
      let r = row_tail n x (locals p) e in
      let more = subst (λ (m : ℕ). Around (union (single m) S) k (suc n) (signal_named (f m) n ∷ ds)) (sym r.0) (more_signal a) in
      let count : suc n + length (locals p) ≡ n + suc (length (locals p)) = omega arith in
      is_new _ (a.new_signals x (omega (arith, r.0)))
      ∙ one_part (record_bytes 26 n) (shown_means p (union (single x) S) k (suc n) (signal_named (f x) n ∷ ds) more t s.1 r.1)
      ∙ (λ c. some (record { records = record_bytes 26 (sym r.0 c) ++ records (preorder p); next = count c }))
