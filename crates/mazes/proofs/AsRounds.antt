-- Winning, losing and draw are present, absent and undecided: the statuses of each round are played for, by induction along the rounds, and at the final ones, which a round
-- leaves as they are, every play is claimed. Assumes nothing.
use mathlib.Core.Path.{◌≡◌, refl, sym, ◌∙◌, ap, ap₂, subst, subst⁻¹}
use mathlib.Core.Logic.{◌⊎◌, inl, inr, ◌↔◌}
use mathlib.Core.Bool.{Bool, true, false, not, cond, ◌&&◌}
use mathlib.Core.List.{List, [], ◌∷◌}
use Prim.Native.Nat.{ℕ, ◌+◌, ◌-◌, ◌<◌}
use native.Mathlib.Decide.{dec_lt}
use native.Mathlib.Omega.{arith}
use lib.Dec.{T, eqb, ltb, ltb→lt, lt→ltb}
use lib.ListN.{length, get_or, get_or-eq_default}
use borrow.Author.Tests.{ltb-false, le-ltb}
use Rattle.sets.specs.Numbers.{Numbers, empty}
use Rattle.sets.proofs.Members.{is_true, cases}
use Rattle.rules.specs.Statements.{Block, Stmt}
use Rattle.rules.specs.Events.{Status, present, absent, unknown, Event, known, Hearing, status_of, input_status, all_heard, event}
use Rattle.rules.specs.Instant.{Step, started}
use Rattle.rules.specs.MustCan.{plus, must, can, marked, gives}
use Rattle.rules.specs.States.{fresh, step}
use Rattle.rules.specs.Rounds.{round, begin, final_of}
use Rattle.theorems.specs.Reach.{Settling, Reached, at_first, settling}
use Rattle.theorems.proofs.Reach.{begin_at, in_must, in_can, must_can, event_input, event_output, round_at, reached_length}
use Rattle.theorems.proofs.RoundsEnd.{final, last_unchanged, last_reached}
use Rattle.block.specs.Good.{Scoped}
use Rattle.mazes.specs.Mazes.{OfForm, signal, dungeon, visible, maze_of, Wins, Loses, Draws}
use Rattle.mazes.specs.AsRounds.{final_status, AsRounds}
use Rattle.mazes.proofs.Standing.{at_root}
use Rattle.mazes.proofs.Played.{SomeGains, AllDeny, room_wins, room_loses, Played, as_input, as_output, emit_gains, no_emit_denies, must_gains, cannot_deny}
use Rattle.mazes.proofs.Claimed.{Settled, Fits, Won, Lost, won, lost}

module _ (b : Block) (given : Numbers) where
  -- Every input is known.
  known_status : (x y : Bool) → T y → status_of x (y && not x) ≡ known x
  known_status true y t = refl
  known_status false true t = refl
  known_status false false t = absurd t

  pub input_is : (vs : List Status) (s : ℕ) → T (ltb s b.inputs) → event b (all_heard b given) vs s ≡ known (given s)
  input_is vs s t = event_input b (all_heard b given) vs s t ∙ known_status (given s) (ltb s b.inputs) t

  -- What a status says of a signal's room.
  abbrev Backs : Status → ℕ → Type 0
  Backs present s = Wins (maze_of b given) (signal s)
  Backs absent s = Loses (maze_of b given) (signal s)
  Backs unknown s = Unit {0}

  input_backs : (s : ℕ) → T (ltb s b.inputs) → (z : Bool) → given s ≡ z → Backs (known z) s
  input_backs s t true e =
      room_wins (maze_of b given) (subst⁻¹ (SomeGains (maze_of b given)) (as_input b given s t ∙ ap (λ (z : Bool). cond z (visible dungeon ∷ []) []) e) (emit_gains b given true tt))
  input_backs s t false e =
      room_loses (maze_of b given) (subst⁻¹ (AllDeny (maze_of b given)) (as_input b given s t ∙ ap (λ (z : Bool). cond z (visible dungeon ∷ []) []) e) (no_emit_denies b given false (λ u. u)))

  record AllBack (vs : List Status) : Type 0 where
    at : (i : ℕ) → i < length vs → Backs (get_or vs i unknown) (b.inputs + i)

  event_backs : (vs : List Status) → AllBack vs → (s : ℕ) → Backs (event b (all_heard b given) vs s) s
  event_backs vs f s = go (cases (ltb s b.inputs))
    where
      out : ltb s b.inputs ≡ false → Dec (s - b.inputs < length vs) → Backs (get_or vs (s - b.inputs) unknown) s
      out e (yes l) = let h = ltb-false s b.inputs e in subst (Backs (get_or vs (s - b.inputs) unknown)) (omega arith) (f.at (s - b.inputs) l)
      out e (no l) = subst⁻¹ (λ (v : Status). Backs v s) (get_or-eq_default vs unknown {n = s - b.inputs} (omega arith)) tt

      go : T (ltb s b.inputs) ⊎ (ltb s b.inputs ≡ false) → Backs (event b (all_heard b given) vs s) s
      go (inl t) = subst⁻¹ (λ (v : Status). Backs v s) (input_is vs s t) (input_backs s t (given s) refl)
      go (inr e) =
          subst⁻¹ (λ (v : Status). Backs v s) (event_output b (all_heard b given) vs (s - b.inputs) s e refl) (out e (dec_lt (s - b.inputs) (length vs)))

  all_played : (vs : List Status) → AllBack vs → Played b given (event b (all_heard b given) vs)
  all_played vs f = record {
    present_wins = λ s e. subst (λ (v : Status). Backs v s) e (event_backs vs f s);
    absent_loses = λ s e. subst (λ (v : Status). Backs v s) e (event_backs vs f s);
  }

  marked_backs : (s : ℕ) (v : Status) (m c : Bool) → Backs v s → (T m → Wins (maze_of b given) (signal s)) → ((T c → ⊥) → Loses (maze_of b given) (signal s)) → Backs (marked m c v) s
  marked_backs s v true c h f g = f tt
  marked_backs s v false true h f g = h
  marked_backs s v false false h f g = g (λ t. t)

  marked_present : (v : Status) (m c : Bool) → T m → marked m c v ≡ present
  marked_present v true c t = refl
  marked_present v false c t = absurd t

  marked_absent : (v : Status) (m c : Bool) → (T m → T c) → (T c → ⊥) → marked m c v ≡ absent
  marked_absent v true c f g = absurd (g (f tt))
  marked_absent v false true f g = absurd (g tt)
  marked_absent v false false f g = refl

  beyond_inputs : (i : ℕ) → ltb (b.inputs + i) b.inputs ≡ false
  beyond_inputs i = le-ltb (b.inputs + i) b.inputs (omega arith)

  drawn : (s : ℕ) (v : Status) → Backs v s → Draws (maze_of b given) (signal s) → v ≡ unknown
  drawn s present h d = absurd (d.no_win h)
  drawn s absent h d = absurd (d.no_loss h)
  drawn s unknown h d = refl

  undecided_draws : (s : ℕ) (v : Status) → (Wins (maze_of b given) (signal s) → v ≡ present) → (Loses (maze_of b given) (signal s) → v ≡ absent) → v ≡ unknown
      → Draws (maze_of b given) (signal s)
  undecided_draws s v f g e = record {
    no_win = λ h. let x = f h in let z : ◌≡◌ {A = ℕ} 0 1 = cc in absurd (omega arith);
    no_loss = λ h. let x = g h in let z : ◌≡◌ {A = ℕ} 0 1 = cc in absurd (omega arith);
  }

  module _ (formed : OfForm b.body) where
    abbrev heard : Hearing
    heard = all_heard b given

    round_backs : (vs : List Status) → AllBack vs → (i : ℕ) → i < length vs → Backs (get_or (round b (started b.body) heard vs) i unknown) (b.inputs + i)
    round_backs vs f i l =
        let s = b.inputs + i in
        let E = event b heard vs in
        subst⁻¹ (λ (v : Status). Backs v s) (round_at b (started b.body) heard vs i l)
        (marked_backs s (get_or vs i unknown) (in_must b (started b.body) heard vs i) (in_can b (started b.body) heard vs i) (f.at i l)
        (λ t. room_wins (maze_of b given) (subst⁻¹ (SomeGains (maze_of b given)) (as_output b given s (beyond_inputs i))
        (must_gains b given E (all_played vs f) s formed 0 (at_root b.body) t)))
        (λ n. room_loses (maze_of b given) (subst⁻¹ (AllDeny (maze_of b given)) (as_output b given s (beyond_inputs i))
        (cannot_deny b given E (all_played vs f) s formed plus 0 (at_root b.body) n))))

    -- Whatever is reached by settling is played for.
    reached_backs : {vs : List Status} → Reached b (started b.body) heard vs → AllBack vs
    unfolding begin
    reached_backs at_first = record { at = λ i l. subst⁻¹ (λ (v : Status). Backs v (b.inputs + i)) (begin_at b.outputs i) tt }
    reached_backs (settling {vs = us} {ws = vs} r s) =
        let f = reached_backs r in
        record { at = λ i l. go f i (subst (λ (n : ℕ). i < n) s.same_length l) (s.each i (subst (λ (n : ℕ). i < n) s.same_length l)) }
      where
        go : AllBack us → (i : ℕ) → i < length us
            → (get_or vs i unknown ≡ get_or us i unknown) ⊎ (get_or vs i unknown ≡ get_or (round b (started b.body) heard us) i unknown) → Backs (get_or vs i unknown) (b.inputs + i)
        go f i l (inl e) = subst⁻¹ (λ (v : Status). Backs v (b.inputs + i)) e (f.at i l)
        go f i l (inr e) = subst⁻¹ (λ (v : Status). Backs v (b.inputs + i)) e (round_backs us f i l)

    -- The final statuses are left as they are by a round.
    settled_at : (vs : List Status) → round b (started b.body) heard vs ≡ vs → length vs ≡ b.outputs → Settled b given (event b heard vs)
    settled_at vs e n = record {
      input_known = input_is vs;
      must_present = λ s f d t.
          status s f d ∙ marked_present (get_or vs (s - b.inputs) unknown) (in_must b p heard vs (s - b.inputs)) (in_can b p heard vs (s - b.inputs))
          (subst⁻¹ (λ (k : ℕ). T ((gives must p (event b heard vs)).signals k)) (again s f) t);
      cannot_absent = λ s f d t.
          status s f d ∙ marked_absent (get_or vs (s - b.inputs) unknown) (in_must b p heard vs (s - b.inputs)) (in_can b p heard vs (s - b.inputs))
          (must_can b p heard vs (s - b.inputs)) (λ u. t (subst (λ (k : ℕ). T ((gives (can plus) p (event b heard vs)).signals k)) (again s f) u));
    }
      where
        p : Step
        p = started b.body

        again : (s : ℕ) → ltb s b.inputs ≡ false → b.inputs + (s - b.inputs) ≡ s
        again s f = let h = ltb-false s b.inputs f in omega arith

        status : (s : ℕ) → ltb s b.inputs ≡ false → T (ltb s (b.inputs + b.outputs))
            → event b heard vs s ≡ marked (in_must b p heard vs (s - b.inputs)) (in_can b p heard vs (s - b.inputs)) (get_or vs (s - b.inputs) unknown)
        status s f d =
            let h = ltb-false s b.inputs f in
            let l = ltb→lt s (b.inputs + b.outputs) d in
            event_output b heard vs (s - b.inputs) s f refl ∙ ap (λ (ws : List Status). get_or ws (s - b.inputs) unknown) (sym e) ∙ round_at b p heard vs (s - b.inputs) (omega (arith, n))

    pub as_rounds : Scoped b.inputs b.outputs empty b.body → (s : ℕ) → s < b.inputs + b.outputs → AsRounds b given s
    unfolding final_status step Won Lost
    as_rounds scoped s l =
        let vs = (final_of b fresh heard).statuses in
        let ended = (final b fresh heard).ends in
        let unchanged = last_unchanged b (started b.body) heard ended in
        let reached = last_reached b (started b.body) heard at_first ended in
        let backs = event_backs vs (reached_backs reached) s in
        let settled = settled_at vs unchanged (reached_length b (started b.body) heard reached) in
        let fits : Fits b given (event b heard vs) 0 b.body = record { its_form = formed; stands = at_root b.body; scoped = scoped } in
        let declared : T (ltb s (b.inputs + b.outputs)) = lt→ltb s (b.inputs + b.outputs) l in
        let wins : Wins (maze_of b given) (signal s) → event b heard vs s ≡ present = λ h. won b given (event b heard vs) settled fits h declared in
        let loses : Loses (maze_of b given) (signal s) → event b heard vs s ≡ absent = λ h. lost b given (event b heard vs) settled fits h declared in
        record {
          winning_is_present = (wins, λ e. subst (λ (v : Status). Backs v s) e backs);
          losing_is_absent = (loses, λ e. subst (λ (v : Status). Backs v s) e backs);
          draw_is_undecided = (drawn s (event b heard vs s) backs, λ e. undecided_draws s (event b heard vs s) wins loses e);
        }
