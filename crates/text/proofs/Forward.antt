-- The machine on the tokens of a tree with its names in order goes on behind them, its levels as they were, the block longer by the
-- tree's records. By induction on the tree, one equation for each step. Assumes nothing.
use mathlib.Core.Path.{◌≡◌, refl, sym, ap, ap₂, ◌∙◌}
use mathlib.Core.Bool.{Bool, false}
use mathlib.Core.List.{List, [], ◌∷◌, ◌++◌, append_assoc}
use mathlib.Core.Option.{Option, some}
use Prim.Native.Nat.{ℕ, suc, ◌+◌, ◌/◌, ◌%◌}
use native.Mathlib.Omega.{arith}
use lib.ListN.{length, set, length-append}
use lib.Seq.{take-append_seam, drop-append_seam, append_snoc, set_at, sets}
use Rattle.sets.specs.Numbers.{listed}
use Rattle.tables.specs.Kinds.{shape}
use Rattle.records.specs.Numerals.{in_bytes}
use Rattle.writing.specs.Written.{shaped_bytes, record_bytes}
use Rattle.text.specs.Tokens.{Token, sign, name, THEN, ELSE, END, WHEN, IN, SEMICOLON, CLOSED, BESIDE}
use Rattle.text.specs.Grammar.{Arms, only, ◌beside◌, Chain, alone, ◌before◌, Basic, Nothing, Pause, Emit, Exit, Present, Suspend, Loop, Trap, Signal, Bracket, arms, chain, basic}
use Rattle.text.specs.Meaning.{Declaration, signal_named, trap_named, signal_in, depth_in, declared, go_on, if_new, Part, arms_means, chain_means, basic_means}
use Rattle.text.specs.Machine.{by_else, by_end, by_when, by_bracket, Level, level_at, moved, due}
use Rattle.text.specs.Machine.{after, then_due, in_due}
use Rattle.text.specs.Machine.{State, state, declared_by, inserted, operand_set, popped, due_step, closed, after_step, by_sign, by_name, step, run}
use Rattle.text.proofs.Options.{went_on, was_new, one_value}

-- A record put in before the last part, and the operand of a record stored.
insert_there : (k : ℕ) (b r : List ℕ) (at : ℕ) → at ≡ length b → inserted k at (b ++ r) ≡ b ++ (record_bytes k 0 ++ r)
insert_there k b r at e =
    ap (λ (n : ℕ). inserted k n (b ++ r)) e ∙ ap₂ (λ (u v : List ℕ). u ++ (record_bytes k 0 ++ v)) (take-append_seam b r) (drop-append_seam b r)

two_set : (p r : List ℕ) (y z v w n : ℕ) → length p ≡ n → sets (p ++ y ∷ z ∷ r) n (v ∷ w ∷ []) ≡ p ++ v ∷ w ∷ r
two_set p r y z v w n e =
    ap (λ (l : List ℕ). set l (suc n) w) (set_at p y (z ∷ r) v n e ∙ sym (append_snoc p v (z ∷ r)))
    ∙ set_at (p ++ (v ∷ [])) z r w (suc n) (omega (arith, length-append p (v ∷ []), e)) ∙ append_snoc p v (w ∷ r)

operand_there : (b r : List ℕ) (x at : ℕ) → at ≡ length b → operand_set x at ((b ++ record_bytes 20 0) ++ r) ≡ b ++ (record_bytes 20 x ++ r)
unfolding operand_set shaped_bytes in_bytes shape listed
operand_there b r x at e =
    let front : List ℕ = 6 ∷ 0 ∷ 20 ∷ 0 ∷ [] in
    ap (λ (l : List ℕ). operand_set x at l) (append_assoc b (record_bytes 20 0) r ∙ sym (append_assoc b front (0 ∷ 0 ∷ r)))
    ∙ two_set (b ++ front) r 0 0 (x % 256) (x / 256 % 256) (at + 4) (omega (arith, length-append b front, e)) ∙ append_assoc b front (x % 256 ∷ x / 256 % 256 ∷ r)

-- The end of a proof: the records of two parts behind a record, or a part that was told.
ending : {A : Type 0} (b r q : List ℕ) (v w : Part) → record { records = r ++ (q ++ v.records); next = v.next } ≡ w → (f : List ℕ → ℕ → A)
    → f ((b ++ (r ++ q)) ++ v.records) v.next ≡ f (b ++ w.records) w.next
ending b r q v w e f =
    ap (λ (l : List ℕ). f l v.next) (append_assoc b (r ++ q) v.records ∙ ap (λ (l : List ℕ). b ++ l) (append_assoc r q v.records))
    ∙ ap (λ (p : Part). f (b ++ p.records) p.next) e

-- A step that had its signal or its depth, or a new name.
by_signal : {o : Option ℕ} {s : ℕ} (f : ℕ → State) (k : List Token) → o ≡ some s → go_on (go_on o (λ s. some (f s))) (λ u. run u k) ≡ run (f s) k
by_signal f k e = ap (λ (o : Option ℕ). go_on (go_on o (λ s. some (f s))) (λ u. run u k)) e

if_so : {z : Bool} (u : State) (k : List Token) → z ≡ false → go_on (if_new z (some u)) (λ u. run u k) ≡ run u k
if_so u k e = ap (λ (z : Bool). go_on (if_new z (some u)) (λ u. run u k)) e

-- A part whose records stand behind others, bracketed to the right.
module _ (h : List Declaration) where
  told : (l : Level) (ls : List Level) (b : List ℕ) (k : List Token) {v w : Part} → v ≡ w
      → run (state h after l ls (b ++ v.records) v.next) k ≡ run (state h after l ls (b ++ w.records) w.next) k
  told l ls b k e = ap (λ (p : Part). run (state h after l ls (b ++ p.records) p.next) k) e

  abbrev here : Level → List Level → List Declaration
  here l ls = l.declares ++ declared_by h ls

  mutual
    unfolding arms arms_means run step by_sign by_name due_step after_step closed popped declared_by

    pub go_arms : (p : Arms) (l : Level) (ls : List Level) (b : List ℕ) (n : ℕ) (k : List Token) (w : Part) → l.arm ≡ length b → l.link ≡ length b → arms_means p (here l ls) n ≡ some w
        → (x : ℕ) × (y : ℕ) × (run (state h due l ls b n) (arms p k) ≡ run (state h after (moved l x y) ls (b ++ w.records) w.next) k)
    go_arms (only c) l ls b n k w a e m = let r = go_chain c l ls b n k w e m in (l.arm, r.0, r.1)
    go_arms (c beside p) l ls b n k w a e m =
        let u = went_on (chain_means c (here l ls) n) _ m in
        let v = went_on (arms_means p (here l ls) u.0.next) _ u.2 in
        let r = go_chain c l ls b n (sign BESIDE ∷ arms p k) u.0 e u.1 in
        let c' = b ++ (record_bytes 23 0 ++ u.0.records) in
        let q = go_arms p (moved l (length c') (length c')) ls c' u.0.next k v.0 refl refl v.1 in (
          q.0,
          q.1,
          r.1 ∙ ap (λ (d : List ℕ). run (state h due (moved l (length d) (length d)) ls d u.0.next) (arms p k)) (insert_there 23 b u.0.records l.arm a)
              ∙ q.2 ∙ ending b (record_bytes 23 0) u.0.records v.0 w (one_value v.2) (λ d m. run (state h after (moved l q.0 q.1) ls d m) k),
        )

    pub go_chain : (c : Chain) (l : Level) (ls : List Level) (b : List ℕ) (n : ℕ) (k : List Token) (w : Part) → l.link ≡ length b → chain_means c (here l ls) n ≡ some w
        → (y : ℕ) × (run (state h due l ls b n) (chain c k) ≡ run (state h after (moved l l.arm y) ls (b ++ w.records) w.next) k)
    go_chain (alone c) l ls b n k w e m = (l.link, go_basic c l ls b n k w e m)
    go_chain (c before d) l ls b n k w e m =
        let u = went_on (basic_means c (here l ls) n) _ m in
        let v = went_on (chain_means d (here l ls) u.0.next) _ u.2 in
        let r = go_basic c l ls b n (sign SEMICOLON ∷ chain d k) u.0 e u.1 in
        let c' = b ++ (record_bytes 21 0 ++ u.0.records) in
        let q = go_chain d (moved l l.arm (length c')) ls c' u.0.next k v.0 refl v.1 in (
          q.0,
          r ∙ ap (λ (f : List ℕ). run (state h due (moved l l.arm (length f)) ls f u.0.next) (chain d k)) (insert_there 21 b u.0.records l.link e)
              ∙ q.1 ∙ ending b (record_bytes 21 0) u.0.records v.0 w (one_value v.2) (λ f m. run (state h after (moved l l.arm q.0) ls f m) k),
        )

    pub go_basic : (c : Basic) (l : Level) (ls : List Level) (b : List ℕ) (n : ℕ) (k : List Token) (w : Part) → l.link ≡ length b → basic_means c (here l ls) n ≡ some w
        → run (state h due l ls b n) (basic c k) ≡ run (state h after l ls (b ++ w.records) w.next) k
    go_basic Nothing l ls b n k w e m = told l ls b k (one_value m)
    go_basic Pause l ls b n k w e m = told l ls b k (one_value m)
    go_basic (Emit x) l ls b n k w e m =
        let u = went_on (signal_in (here l ls) x) _ m in
        by_signal (λ s. state h after l ls (b ++ record_bytes 18 s) n) k u.1 ∙ told l ls b k (one_value u.2)
    go_basic (Exit x) l ls b n k w e m =
        let u = went_on (depth_in (here l ls) x) _ m in
        by_signal (λ s. state h after l ls (b ++ record_bytes 25 s) n) k u.1 ∙ told l ls b k (one_value u.2)
    go_basic (Present x p q) l ls b n k w e m =
        let u = went_on (signal_in (here l ls) x) _ m in
        let v = went_on (arms_means p (here l ls) n) _ u.2 in
        let z = went_on (arms_means q (here l ls) v.0.next) _ v.2 in
        let b₁ = b ++ record_bytes 19 u.0 in
        let b₂ = b₁ ++ v.0.records in
        let first = go_arms p (level_at by_else [] (length b₁)) (l ∷ ls) b₁ n (sign ELSE ∷ arms q (sign END ∷ k)) v.0 refl refl v.1 in
        let second = go_arms q (level_at by_end [] (length b₂)) (l ∷ ls) b₂ v.0.next (sign END ∷ k) z.0 refl refl z.1 in
        by_signal (λ s. state h then_due (level_at by_else [] (length (b ++ record_bytes 19 s))) (l ∷ ls) (b ++ record_bytes 19 s) n)
        (sign THEN ∷ arms p (sign ELSE ∷ arms q (sign END ∷ k))) u.1
        ∙ first.2 ∙ second.2
        ∙ ap (λ (f : List ℕ). run (state h after l ls (f ++ z.0.records) z.0.next) k) (append_assoc b (record_bytes 19 u.0) v.0.records)
        ∙ ending b (record_bytes 19 u.0) v.0.records z.0 w (one_value z.2) (λ f m. run (state h after l ls f m) k)
    go_basic (Suspend p x) l ls b n k w e m =
        let u = went_on (signal_in (here l ls) x) _ m in
        let v = went_on (arms_means p (here l ls) n) _ u.2 in
        let b₁ = b ++ record_bytes 20 0 in
        let first = go_arms p (level_at by_when [] (length b₁)) (l ∷ ls) b₁ n (sign WHEN ∷ name x ∷ k) v.0 refl refl v.1 in
        first.2 ∙ by_signal (λ s. state h after l ls (operand_set s l.link (b₁ ++ v.0.records)) v.0.next) k u.1
        ∙ ap (λ (f : List ℕ). run (state h after l ls f v.0.next) k) (operand_there b v.0.records u.0 l.link e)
        ∙ told l ls b k (one_value v.2)
    go_basic (Loop p) l ls b n k w e m =
        let v = went_on (arms_means p (here l ls) n) _ m in
        let b₁ = b ++ record_bytes 22 0 in
        let first = go_arms p (level_at by_end [] (length b₁)) (l ∷ ls) b₁ n (sign END ∷ k) v.0 refl refl v.1 in
        first.2 ∙ ap (λ (f : List ℕ). run (state h after l ls f v.0.next) k) (append_assoc b (record_bytes 22 0) v.0.records) ∙ told l ls b k (one_value v.2)
    go_basic (Trap x p) l ls b n k w e m =
        let u = was_new (declared (here l ls) x) _ m in
        let v = went_on (arms_means p (trap_named x ∷ here l ls) n) _ u.1 in
        let b₁ = b ++ record_bytes 24 0 in
        let first = go_arms p (level_at by_end (trap_named x ∷ []) (length b₁)) (l ∷ ls) b₁ n (sign END ∷ k) v.0 refl refl v.1 in
        if_so (state h in_due (level_at by_end (trap_named x ∷ []) (length b₁)) (l ∷ ls) b₁ n) (sign IN ∷ arms p (sign END ∷ k)) u.0
        ∙ first.2 ∙ ap (λ (f : List ℕ). run (state h after l ls f v.0.next) k) (append_assoc b (record_bytes 24 0) v.0.records) ∙ told l ls b k (one_value v.2)
    go_basic (Signal x p) l ls b n k w e m =
        let u = was_new (declared (here l ls) x) _ m in
        let v = went_on (arms_means p (signal_named x n ∷ here l ls) (suc n)) _ u.1 in
        let b₁ = b ++ record_bytes 26 n in
        let first = go_arms p (level_at by_end (signal_named x n ∷ []) (length b₁)) (l ∷ ls) b₁ (suc n) (sign END ∷ k) v.0 refl refl v.1 in
        if_so (state h in_due (level_at by_end (signal_named x n ∷ []) (length b₁)) (l ∷ ls) b₁ (suc n)) (sign IN ∷ arms p (sign END ∷ k)) u.0
        ∙ first.2 ∙ ap (λ (f : List ℕ). run (state h after l ls f v.0.next) k) (append_assoc b (record_bytes 26 n) v.0.records) ∙ told l ls b k (one_value v.2)
    go_basic (Bracket p) l ls b n k w e m =
        let first = go_arms p (level_at by_bracket [] (length b)) (l ∷ ls) b n (sign CLOSED ∷ k) w refl refl m in
        first.2
