-- The pauses that an execution keeps are pairwise compatible: by induction over the statement, started and resumed. Only a parallel
-- keeps pauses of two parts, and these have no pause in common. What is compatible in a part is compatible above it, and the
-- other way round. Assumes nothing.
use mathlib.Core.Path.{◌≡◌, refl, sym, ◌∙◌, ap, ap₂, subst, subst⁻¹}
use mathlib.Core.Logic.{◌⊎◌, inl, inr, ◌≢◌}
use mathlib.Core.Bool.{Bool, false, cond, ◌||◌}
use mathlib.Core.List.{List, ◌++◌}
use Prim.Native.Nat.{ℕ, ◌+◌, max}
use lib.Dec.{T, eqb}
use lib.ListN.{length}
use Rattle.sets.specs.Numbers.{Numbers, empty, single, union, down, listed, Within}
use Rattle.sets.proofs.Members.{is_true, is_false, and_in, and_left, and_right, or_left, or_right, single_out, union_out, within_only_if}
use Rattle.sets.proofs.Counts.{listed_append}
use Rattle.rules.specs.Statements.{Depth, Stmt, nothing, pause, emit, present?◌then◌else◌, suspend◌on◌, ◌⨾◌, loop, ◌parallel◌, trap, exit, local, pauses, from, Numbered}
use Rattle.rules.specs.Instant.{Step, done, stay, say, leave, test, catch, scope, chain, beside, active, held, started, resumed}
use Rattle.rules.specs.States.{holds_both, lowest_above, is_parallel, compatible}
use Rattle.rules.specs.Coherence.{Locals, Execution, assigning, execute}
use Rattle.theorems.proofs.Cases.{by_test, by_first}
use Rattle.theorems.proofs.Numbering.{split_from, apart}

-- A set of a statement's pauses, any two of them compatible.
pub record Fits (p : Stmt) (K : Numbers) : Type 0 where
  pub held_in : (n : ℕ) → T (K n) → T (listed (pauses p) n)
  pub agreeing : (m n : ℕ) → T (K m) → T (K n) → m ≢ n → T (compatible p m n)

-- Those of a set's members that the statement holds are compatible.
pub record Agrees (p : Stmt) (A : Numbers) : Type 0 where
  pub pairwise : (m n : ℕ) → T (A m) → T (A n) → T (listed (pauses p) m) → T (listed (pauses p) n) → m ≢ n → T (compatible p m n)

-- A statement with two parts, which have no pause in common.
pub record TwoParts (r p q : Stmt) : Type 0 where
  pub listed_is : (n : ℕ) → listed (pauses r) n ≡ (listed (pauses p) n || listed (pauses q) n)
  pub lowest_is : (m n : ℕ) → lowest_above r m n ≡ cond (holds_both p m n) (lowest_above p m n) (cond (holds_both q m n) (lowest_above q m n) r)
  pub none_common : (n : ℕ) → T (listed (pauses p) n) → T (listed (pauses q) n) → ⊥

module _ {r p q : Stmt} (two : TwoParts r p q) where
  pub in_one : (n : ℕ) → T (listed (pauses p) n) → T (listed (pauses r) n)
  in_one n t = subst⁻¹ T (two.listed_is n) (or_left (listed (pauses p) n) (listed (pauses q) n) t)

  pub in_other : (n : ℕ) → T (listed (pauses q) n) → T (listed (pauses r) n)
  in_other n t = subst⁻¹ T (two.listed_is n) (or_right (listed (pauses p) n) (listed (pauses q) n) t)

  compatible_one : (m n : ℕ) → T (listed (pauses p) m) → T (listed (pauses p) n) → compatible r m n ≡ compatible p m n
  unfolding compatible holds_both
  compatible_one m n s t =
      ap is_parallel (two.lowest_is m n
      ∙ ap (λ (z : Bool). cond z (lowest_above p m n) (cond (holds_both q m n) (lowest_above q m n) r))
      (is_true (holds_both p m n) (and_in (listed (pauses p) m) (listed (pauses p) n) s t)))

  compatible_other : (m n : ℕ) → T (listed (pauses q) m) → T (listed (pauses q) n) → compatible r m n ≡ compatible q m n
  unfolding compatible holds_both
  compatible_other m n s t =
      ap is_parallel (two.lowest_is m n
      ∙ ap₂ (λ (y z : Bool). cond y (lowest_above p m n) (cond z (lowest_above q m n) r))
      (is_false (holds_both p m n) (λ h. two.none_common m (and_left (listed (pauses p) m) (listed (pauses p) n) h) s))
      (is_true (holds_both q m n) (and_in (listed (pauses q) m) (listed (pauses q) n) s t)))

  -- A pause of each part.
  pub lowest_across : (m n : ℕ) → (T (listed (pauses p) m) → T (listed (pauses p) n) → ⊥) → (T (listed (pauses q) m) → T (listed (pauses q) n) → ⊥) → lowest_above r m n ≡ r
  unfolding holds_both
  lowest_across m n f g =
      two.lowest_is m n
      ∙ ap₂ (λ (y z : Bool). cond y (lowest_above p m n) (cond z (lowest_above q m n) r))
      (is_false (holds_both p m n) (λ h. f (and_left (listed (pauses p) m) (listed (pauses p) n) h) (and_right (listed (pauses p) m) (listed (pauses p) n) h)))
      (is_false (holds_both q m n) (λ h. g (and_left (listed (pauses q) m) (listed (pauses q) n) h) (and_right (listed (pauses q) m) (listed (pauses q) n) h)))

  fits_one : {K : Numbers} → Fits p K → Fits r K
  fits_one f = record {
    held_in = λ n t. in_one n (f.held_in n t);
    agreeing = λ m n s t e. subst⁻¹ T (compatible_one m n (f.held_in m s) (f.held_in n t)) (f.agreeing m n s t e);
  }

  fits_other : {K : Numbers} → Fits q K → Fits r K
  fits_other f = record {
    held_in = λ n t. in_other n (f.held_in n t);
    agreeing = λ m n s t e. subst⁻¹ T (compatible_other m n (f.held_in m s) (f.held_in n t)) (f.agreeing m n s t e);
  }

  pub agrees_one : {A : Numbers} → Agrees r A → Agrees p A
  agrees_one a = record {
    pairwise = λ m n s t i j e. subst T (compatible_one m n i j) (a.pairwise m n s t (in_one m i) (in_one n j) e);
  }

  pub agrees_other : {A : Numbers} → Agrees r A → Agrees q A
  agrees_other a = record {
    pairwise = λ m n s t i j e. subst T (compatible_other m n i j) (a.pairwise m n s t (in_other m i) (in_other n j) e);
  }

-- Two arms side by side.
module _ {p q : Stmt} (two : TwoParts (p parallel q) p q) where
  across : (m n : ℕ) → (T (listed (pauses p) m) → T (listed (pauses p) n) → ⊥) → (T (listed (pauses q) m) → T (listed (pauses q) n) → ⊥) → T (compatible (p parallel q) m n)
  unfolding compatible
  across m n f g = subst⁻¹ (λ (x : Stmt). T (is_parallel x)) (lowest_across two m n f g) tt

  fits_both : {K L : Numbers} → Fits p K → Fits q L → Fits (p parallel q) (union K L)
  fits_both {K} {L} f g = record { held_in = λ n t. inside n (union_out K L n t); agreeing = λ m n s t e. pairs m n (union_out K L m s) (union_out K L n t) e }
    where
      inside : (n : ℕ) → T (K n) ⊎ T (L n) → T (listed (pauses (p parallel q)) n)
      inside n (inl t) = in_one two n (f.held_in n t)
      inside n (inr t) = in_other two n (g.held_in n t)

      pairs : (m n : ℕ) → T (K m) ⊎ T (L m) → T (K n) ⊎ T (L n) → m ≢ n → T (compatible (p parallel q) m n)
      pairs m n (inl s) (inl t) e = (fits_one two f).agreeing m n s t e
      pairs m n (inl s) (inr t) e =
          across m n (λ i j. two.none_common n j (g.held_in n t)) (λ i j. two.none_common m (f.held_in m s) i)
      pairs m n (inr s) (inl t) e =
          across m n (λ i j. two.none_common m i (g.held_in m s)) (λ i j. two.none_common n (f.held_in n t) j)
      pairs m n (inr s) (inr t) e = (fits_other two g).agreeing m n s t e

-- Fewer pauses fit too, and none.
fits_within : {p : Stmt} {K L : Numbers} → Within K L → Fits p L → Fits p K
fits_within h f = record { held_in = λ n t. f.held_in n (h.at n t); agreeing = λ m n s t e. f.agreeing m n (h.at m s) (h.at n t) e }

fits_none : {p : Stmt} → Fits p empty
fits_none = record { held_in = λ n t. absurd t; agreeing = λ m n s t e. absurd s }

-- What every execution of a step keeps fits a statement.
pub record KeepsIn (p : Stmt) (S : Step) : Type 0 where
  pub fits : (l : Locals S) (W : Numbers) → Fits p (execute S l W).keeps

pub keeps_done : (p : Stmt) → KeepsIn p done
unfolding execute
keeps_done p = record { fits = λ l W. fits_none }

keeps_say : (p : Stmt) (s : ℕ) → KeepsIn p (say s)
unfolding execute
keeps_say p s = record { fits = λ l W. fits_none }

keeps_leave : (p : Stmt) (d : Depth) → KeepsIn p (leave d)
unfolding execute
keeps_leave p d = record { fits = λ l W. fits_none }

keeps_test : {p : Stmt} (s : ℕ) {S S' : Step} → KeepsIn p S → KeepsIn p S' → KeepsIn p (test s S S')
unfolding execute
keeps_test {p} s {S} {S'} f g = record { fits = λ l W. by_test (λ (r : Execution). Fits p r.keeps) (W s) (execute S l.0 W) (execute S' l.1 W) (λ t. f.fits l.0 W) (λ e. g.fits l.1 W) }

keeps_catch : {p : Stmt} {S : Step} → KeepsIn p S → KeepsIn p (catch S)
unfolding execute
keeps_catch {S = S} f = record { fits = λ l W. fits_within (within_only_if (eqb (down (execute S l W).completes) 1) (execute S l W).keeps) (f.fits l W) }

keeps_scope : {p : Stmt} (s : ℕ) {S : Step} → KeepsIn p S → KeepsIn p (scope s S)
unfolding execute
keeps_scope s f = record { fits = λ l W. f.fits l.1 (assigning W s l.0) }

keeps_chain : {p : Stmt} {S S' : Step} → KeepsIn p S → KeepsIn p S' → KeepsIn p (chain S S')
unfolding execute
keeps_chain {p} {S} {S'} f g = record {
  fits = λ l W. by_first (λ (r : Execution). Fits p r.keeps) (execute S l.0 W) (execute S' l.1 W) (λ t. g.fits l.1 W) (λ e. f.fits l.0 W);
}

keeps_beside : {p q : Stmt} {S S' : Step} → TwoParts (p parallel q) p q → KeepsIn p S → KeepsIn q S' → KeepsIn (p parallel q) (beside S S')
unfolding execute
keeps_beside {S = S} {S' = S'} two f g = record {
  fits = λ l W.
      let a = execute S l.0 W in
      let b = execute S' l.1 W in
      fits_within (within_only_if (eqb (max a.completes b.completes) 1) (union a.keeps b.keeps)) (fits_both two (f.fits l.0 W) (g.fits l.1 W));
}

keeps_one : {r p q : Stmt} {S : Step} → TwoParts r p q → KeepsIn p S → KeepsIn r S
keeps_one two f = record { fits = λ l W. fits_one two (f.fits l W) }

keeps_other : {r p q : Stmt} {S : Step} → TwoParts r p q → KeepsIn q S → KeepsIn r S
keeps_other two f = record { fits = λ l W. fits_other two (f.fits l W) }

-- A statement with one part: the same pauses, and the same statement above two of them.
pub record OnePart (r p : Stmt) : Type 0 where
  pub same_pauses : pauses r ≡ pauses p
  pub same_compatible : (m n : ℕ) → compatible r m n ≡ compatible p m n

pub part_suspend : (p : Stmt) (s : ℕ) → OnePart (suspend p on s) p
unfolding pauses compatible lowest_above
part_suspend p s = record { same_pauses = refl; same_compatible = λ m n. refl }

pub part_loop : (p : Stmt) → OnePart (loop p) p
unfolding pauses compatible lowest_above
part_loop p = record { same_pauses = refl; same_compatible = λ m n. refl }

pub part_trap : (p : Stmt) → OnePart (trap p) p
unfolding pauses compatible lowest_above
part_trap p = record { same_pauses = refl; same_compatible = λ m n. refl }

pub part_local : (s : ℕ) (p : Stmt) → OnePart (local s p) p
unfolding pauses compatible lowest_above
part_local s p = record { same_pauses = refl; same_compatible = λ m n. refl }

pub numbered_part : {r p : Stmt} (i : ℕ) → OnePart r p → Numbered i r → Numbered i p
unfolding Numbered
numbered_part i o h = subst (λ (xs : List ℕ). xs ≡ from i (length xs)) o.same_pauses h

keeps_part : {r p : Stmt} {S : Step} → OnePart r p → KeepsIn p S → KeepsIn r S
keeps_part o f = record {
  fits = λ l W.
      let k = f.fits l W in
      record {
        held_in = λ n t. subst⁻¹ (λ (xs : List ℕ). T (listed xs n)) o.same_pauses (k.held_in n t);
        agreeing = λ m n s t e. subst⁻¹ T (o.same_compatible m n) (k.agreeing m n s t e);
      };
}

pub agrees_part : {r p : Stmt} {A : Numbers} → OnePart r p → Agrees r A → Agrees p A
agrees_part o a = record {
  pairwise = λ m n s t i j e.
      subst T (o.same_compatible m n) (a.pairwise m n s t (subst⁻¹ (λ (xs : List ℕ). T (listed xs m)) o.same_pauses i) (subst⁻¹ (λ (xs : List ℕ). T (listed xs n)) o.same_pauses j) e);
}

-- Numbered in preorder, a statement with two parts has two stretches.
pub record Halves (i : ℕ) (r p q : Stmt) : Type 0 where
  pub first : Numbered i p
  pub second : Numbered (i + length (pauses p)) q
  pub two : TwoParts r p q

halves : (i : ℕ) (r p q : Stmt) → pauses r ≡ pauses p ++ pauses q
    → ((m n : ℕ) → lowest_above r m n ≡ cond (holds_both p m n) (lowest_above p m n) (cond (holds_both q m n) (lowest_above q m n) r))
    → Numbered i r → Halves i r p q
unfolding Numbered
halves i r p q e f h =
    let g = split_from (pauses p) (pauses q) i (subst (λ (xs : List ℕ). xs ≡ from i (length xs)) e h) in
    record {
      first = g.0;
      second = g.1;
      two = record {
        listed_is = λ n. ap (λ (xs : List ℕ). listed xs n) e ∙ listed_append (pauses p) (pauses q) n;
        lowest_is = f;
        none_common = λ n. apart (pauses p) (pauses q) i n g.0 g.1;
      };
    }

pub present_halves : (i s : ℕ) (p q : Stmt) → Numbered i (present? s then p else q) → Halves i (present? s then p else q) p q
unfolding pauses lowest_above
present_halves i s p q h = halves i (present? s then p else q) p q refl (λ m n. refl) h

pub sequence_halves : (i : ℕ) (p q : Stmt) → Numbered i (p ⨾ q) → Halves i (p ⨾ q) p q
unfolding pauses lowest_above
sequence_halves i p q h = halves i (p ⨾ q) p q refl (λ m n. refl) h

pub parallel_halves : (i : ℕ) (p q : Stmt) → Numbered i (p parallel q) → Halves i (p parallel q) p q
unfolding pauses lowest_above
parallel_halves i p q h = halves i (p parallel q) p q refl (λ m n. refl) h

keeps_pause : (n : ℕ) → KeepsIn (pause n) (stay (single n))
unfolding execute pauses listed
keeps_pause n = record {
  fits = λ l W. record {
    held_in = λ k t. or_left (eqb k n) false t;
    agreeing = λ k m s t e. absurd (e (single_out n k s ∙ sym (single_out n m t)));
  };
}

-- Suspended, the old set in the body is kept.
keeps_held : (A : Numbers) (p : Stmt) → Agrees p A → KeepsIn p (stay (held A p))
unfolding execute held
keeps_held A p a = record {
  fits = λ l W. record {
    held_in = λ n t. and_right (A n) (listed (pauses p) n) t;
    agreeing = λ m n s t e.
        a.pairwise m n (and_left (A m) (listed (pauses p) m) s) (and_left (A n) (listed (pauses p) n) t)
        (and_right (A m) (listed (pauses p) m) s) (and_right (A n) (listed (pauses p) n) t) e;
  };
}

pub keeps_started : (p : Stmt) (i : ℕ) → Numbered i p → KeepsIn p (started p)
unfolding started
keeps_started nothing i h = keeps_done nothing
keeps_started (pause n) i h = keeps_pause n
keeps_started (emit s) i h = keeps_say (emit s) s
keeps_started (present? s then p else q) i h =
    let v = present_halves i s p q h in
    keeps_test s (keeps_one v.two (keeps_started p i v.first)) (keeps_other v.two (keeps_started q (i + length (pauses p)) v.second))
keeps_started (suspend p on s) i h = keeps_part (part_suspend p s) (keeps_started p i (numbered_part i (part_suspend p s) h))
keeps_started (p ⨾ q) i h =
    let v = sequence_halves i p q h in
    keeps_chain (keeps_one v.two (keeps_started p i v.first)) (keeps_other v.two (keeps_started q (i + length (pauses p)) v.second))
keeps_started (loop p) i h = keeps_part (part_loop p) (keeps_started p i (numbered_part i (part_loop p) h))
keeps_started (p parallel q) i h =
    let v = parallel_halves i p q h in
    keeps_beside v.two (keeps_started p i v.first) (keeps_started q (i + length (pauses p)) v.second)
keeps_started (trap p) i h = keeps_catch (keeps_part (part_trap p) (keeps_started p i (numbered_part i (part_trap p) h)))
keeps_started (exit d) i h = keeps_leave (exit d) d
keeps_started (local s p) i h = keeps_scope s (keeps_part (part_local s p) (keeps_started p i (numbered_part i (part_local s p) h)))

pub keeps_resumed : (A : Numbers) (p : Stmt) (i : ℕ) → Numbered i p → Agrees p A → KeepsIn p (resumed A p)
unfolding resumed
keeps_resumed A nothing i h a = keeps_done nothing
keeps_resumed A (pause n) i h a = keeps_done (pause n)
keeps_resumed A (emit s) i h a = keeps_done (emit s)
keeps_resumed A (present? s then p else q) i h a =
    let v = present_halves i s p q h in
    by_test (KeepsIn (present? s then p else q)) (active A p) (resumed A p) (resumed A q)
    (λ t. keeps_one v.two (keeps_resumed A p i v.first (agrees_one v.two a)))
    (λ e. keeps_other v.two (keeps_resumed A q (i + length (pauses p)) v.second (agrees_other v.two a)))
keeps_resumed A (suspend p on s) i h a =
    let b = agrees_part (part_suspend p s) a in
    keeps_part (part_suspend p s) (keeps_test s (keeps_held A p b) (keeps_resumed A p i (numbered_part i (part_suspend p s) h) b))
keeps_resumed A (p ⨾ q) i h a =
    let v = sequence_halves i p q h in
    by_test (KeepsIn (p ⨾ q)) (active A p) (chain (resumed A p) (started q)) (resumed A q)
    (λ t. keeps_chain (keeps_one v.two (keeps_resumed A p i v.first (agrees_one v.two a)))
    (keeps_other v.two (keeps_started q (i + length (pauses p)) v.second)))
    (λ e. keeps_other v.two (keeps_resumed A q (i + length (pauses p)) v.second (agrees_other v.two a)))
keeps_resumed A (loop p) i h a =
    let n = numbered_part i (part_loop p) h in
    keeps_part (part_loop p) (keeps_chain (keeps_resumed A p i n (agrees_part (part_loop p) a)) (keeps_started p i n))
keeps_resumed A (p parallel q) i h a =
    let v = parallel_halves i p q h in
    keeps_beside v.two
    (by_test (KeepsIn p) (active A p) (resumed A p) done (λ t. keeps_resumed A p i v.first (agrees_one v.two a)) (λ e. keeps_done p))
    (by_test (KeepsIn q) (active A q) (resumed A q) done (λ t. keeps_resumed A q (i + length (pauses p)) v.second (agrees_other v.two a)) (λ e. keeps_done q))
keeps_resumed A (trap p) i h a =
    keeps_catch (keeps_part (part_trap p) (keeps_resumed A p i (numbered_part i (part_trap p) h) (agrees_part (part_trap p) a)))
keeps_resumed A (exit d) i h a = keeps_done (exit d)
keeps_resumed A (local s p) i h a =
    keeps_scope s (keeps_part (part_local s p) (keeps_resumed A p i (numbered_part i (part_local s p) h) (agrees_part (part_local s p) a)))
