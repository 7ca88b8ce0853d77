-- The search over its rows: what is known before each step, and one lemma for each way through the code. Assumes nothing.
use mathlib.Core.Path.{◌≡◌, refl, sym, ap, ◌∙◌, subst}
use mathlib.Core.Bool.{true, false}
use mathlib.Core.List.{List, [], ◌∷◌}
use Prim.Native.Nat.{ℕ, suc, ◌+◌, ◌-◌, ◌*◌, ◌^◌, ◌≤◌, ◌<◌}
use native.Mathlib.Omega.{arith}
use native.Mathlib.Decide.{dec_lt}
use native.Mathlib.Nat.{zero-lt-suc}
use lib.ListN.{get_or, length, set}
use lib.Seq.{get_or-set_same, get_or-set_other}
use lib.Pow.{pow_mono, pow_pos}
use Rattle.std.specs.Prelude.{None, Some, Ok, Err}
use Rattle.refusals.specs.declared.Why.{Why}
use Rattle.refusals.specs.declared.Why.TheVariants.{Pairs}
use Rattle.sets.specs.Numbers.{empty}
use Rattle.sets.specs.Words.{two_words}
use Rattle.sets.proofs.Members.{ext}
use Rattle.records.proofs.TwoWords.{set_of_none}
use Rattle.rules.specs.Statements.{Block, Stmt}
use Rattle.tables.specs.declared.Table.{Table}
use Rattle.forms.specs.Forms.{At, Placed}
use Rattle.rules.specs.States.{active_of}
use Rattle.pairs.specs.Runs.{Run, start, ◌▸◌, Comparison, reach, Over}
use Rattle.pairs.specs.Blocks.{States, told_apart, comparison}
use Rattle.pairs.specs.Rows.{both_fresh, no_pair, row_at, NotAmong, Pushed, Words, Holds, Stepped}
use Rattle.alike.specs.Ends.{most, link_at, Linked, Kept, again, left_out, stored, Turns, next_set, next_pair, next_level, ends_over, ends_same, Shown, NoneShown}
use Rattle.pairs.specs.declared.rows.Pair.{Pair}
use Rattle.pairs.specs.declared.rows.Rows.{Rows}
use Rattle.alike.specs.declared.search.Link.{Link}
use Rattle.alike.specs.declared.search.Search.{Search}
use Rattle.pairs.proofs.RowLaws.{same_states, same_pair}
use Rattle.alike.proofs.SearchLaws as search
use Rattle.alike.proofs.SearchLaws.{Searched, Levels, adding, added_new, added_old, begun, step_found, step_out, step_added, ends_different, different_not_over}

-- What is known between two steps, with the set of the next step for `n`.
pub record Known (b d : Block) (rows : Rows) (links : List Link) (s : Search) (n : ℕ) : Type 0 where
  pub walk : ℕ → Run
  pub searched : Searched (comparison b d) most walk rows.count s.at n s.stop s.more
  pub hold : (k : ℕ) → k < rows.count → Holds (reach (comparison b d) (walk k)) (row_at rows k)
  pub its_links : Linked links walk rows.count

-- Before a step, and after it.
pub record Going (b d : Block) (rows : Rows) (links : List Link) (s : Search) : Type 0 where
  pub known : Known b d rows links s s.set
  pub here : s.set < 2 ^ b.inputs

pub record Went (b d : Block) (rows : Rows) (links : List Link) (s : Search) : Type 0 where
  pub known : Known b d rows links s (suc s.set)
  pub here : s.set < 2 ^ b.inputs

-- a row stored
other_row : {rows rows' : Rows} {p : Pair} → Pushed rows p rows' → (j : ℕ) → (j ≡ rows.count → ⊥) → row_at rows' j ≡ row_at rows j
other_row {rows} {rows'} {p} a j n = ap (λ (l : List Pair). get_or l j no_pair) a.new_pairs ∙ get_or-set_other rows.pairs rows.count j p no_pair n

this_row : {rows rows' : Rows} {p : Pair} → rows.count < 1024 → Pushed rows p rows' → row_at rows' rows.count ≡ p
this_row {rows} {rows'} {p} h a =
    ap (λ (l : List Pair). get_or l rows.count no_pair) a.new_pairs ∙ get_or-set_same rows.pairs rows.count p no_pair (omega (arith, rows.all, h))

-- a link stored
module _ (links : List Link) (k : ℕ) (l : Link) where
  other_link : (i : ℕ) → (i ≡ k → ⊥) → link_at (set links k l) i ≡ link_at links i
  other_link i n = get_or-set_other links k i l (record { parent = 0; set = 0 }) n

  this_link : length links ≡ 1024 → k < 1024 → link_at (set links k l) k ≡ l
  this_link f h = get_or-set_same links k l (record { parent = 0; set = 0 }) (omega (arith, f, h))

  linked_more : length links ≡ 1024 → k < 1024 → l.parent < k → {walk : ℕ → Run} → Linked links walk k
      → Linked (set links k l) (adding walk k (walk l.parent ▸ l.set)) (suc k)
  linked_more f h less {walk} w = record {
    begins = added_old walk k (walk l.parent ▸ l.set) 0 (omega arith) ∙ w.begins;
    falls = λ i a b. falls_in i a b (dec_lt i k);
    linked = λ i a b. linked_in i a b (dec_lt i k);
  }
    where
      links' : List Link
      links' = set links k l

      walk' : ℕ → Run
      walk' = adding walk k (walk l.parent ▸ l.set)

      at_k : (i : ℕ) → i < suc k → (i < k → ⊥) → i ≡ k
      at_k i a b = omega arith

      falls_in : (i : ℕ) → 0 < i → i < suc k → Dec (i < k) → (link_at (set links k l) i).parent < i
      falls_in i a b (yes c) = subst (λ (x : Link). x.parent < i) (sym (other_link i (λ z. omega arith))) (w.falls i a c)
      falls_in i a b (no c) =
          let z : i ≡ k = at_k i b c in
          let e : link_at (set links k l) i ≡ l = ap (link_at (set links k l)) z ∙ this_link f h in
          subst (λ (x : Link). x.parent < i) (sym e) (omega arith)

      linked_in : (i : ℕ) → 0 < i → i < suc k → Dec (i < k) → walk' i ≡ walk' (link_at (set links k l) i).parent ▸ (link_at (set links k l) i).set
      linked_in i a b (yes c) =
          let x : (link_at links i).parent < i = w.falls i a c in
          subst (λ (y : Link). walk' i ≡ walk' y.parent ▸ y.set) (sym (other_link i (λ z. omega arith)))
          (added_old walk k (walk l.parent ▸ l.set) i c ∙ w.linked i a c
          ∙ ap (λ (r : Run). r ▸ (link_at links i).set) (sym (added_old walk k (walk l.parent ▸ l.set) (link_at links i).parent (omega arith))))
      linked_in i a b (no c) =
          let z : i ≡ k = at_k i b c in
          let e : link_at (set links k l) i ≡ l = ap (link_at (set links k l)) z ∙ this_link f h in
          subst (λ (y : Link). walk' i ≡ walk' y.parent ▸ y.set) (sym e)
          (ap walk' z ∙ added_new walk k (walk l.parent ▸ l.set) ∙ ap (λ (r : Run). r ▸ l.set) (sym (added_old walk k (walk l.parent ▸ l.set) l.parent less)))

reach_more : (m : Comparison) (r : Run) (s : ℕ) → reach m (r ▸ s) ≡ m.leads (reach m r) s
unfolding reach
reach_more m r s = refl

few_sets : (n : ℕ) → n ≤ 6 → 2 ^ n ≤ 256
few_sets n h = let e : 2 ^ n ≤ 2 ^ 6 = pow_mono h in omega (arith, e)

-- At the beginning.
module _ (b d : Block) where
  none : empty ≡ two_words 64 0 0
  none = sym (ext set_of_none)

  first_holds : Holds (reach (comparison b d) start) both_fresh
  unfolding reach active_of
  first_holds = record {
    first_is = refl;
    second_is = refl;
    first_active = none;
    second_active = none;
    first_words = no_words;
    second_words = no_words;
  }
    where
      no_words : Words (0 ∷ 0 ∷ [])
      no_words = record { two = refl; low_fits = zero-lt-suc (2 ^ 64 - 1); high_fits = zero-lt-suc (2 ^ 64 - 1) }

  pub first_known : {rows : Rows} (links : List Link) → (rows.count ≡ 1) × (row_at rows 0 ≡ both_fresh)
      → Going b d rows links (record { at = 0; set = 0; stop = 1; more = false })
  first_known {rows} links f = record {
    known = record {
      walk = λ k. start;
      searched = subst (λ (n : ℕ). Searched (comparison b d) most (λ k. start) n 0 0 1 false) (sym f.0) (begun (comparison b d) most (λ k. start) (omega arith) refl);
      hold = λ k h.
          let z : 0 ≡ k = omega (arith, f.0) in
          subst (λ (j : ℕ). Holds (reach (comparison b d) start) (row_at rows j)) z (subst (Holds _) (sym f.1) first_holds);
      its_links = record { begins = refl; falls = λ k h l. absurd (omega (arith, f.0)); linked = λ k h l. absurd (omega (arith, f.0)) };
    };
    here = pow_pos b.inputs;
  }

-- A step.
module _ (b d : Block) (few : b.inputs ≤ 6) {rows : Rows} {links : List Link} {s : Search} (g : Going b d rows links s) where
  m : Comparison
  m = comparison b d

  little : 2 ^ b.inputs ≤ 256
  little = few_sets b.inputs few

  pub at_found : s.at < rows.count
  at_found = let x = g.known.searched.levels.here in let y = g.known.searched.levels.within in omega (arith, x, y)

  pub at_most : s.at < 1024
  at_most = let x = g.known.searched.roomy in omega (arith, x, at_found)

  holds_here : Holds (reach (comparison b d) (g.known.walk s.at)) (row_at rows s.at)
  holds_here = g.known.hold s.at at_found

  -- it shows a difference
  pub differing : Stepped b d (row_at rows s.at) s.set None → Shown (comparison b d) links (record { parent = s.at; set = s.set })
  unfolding Stepped
  differing st = record {
    walk = g.known.walk;
    its_links = record {
      begins = g.known.its_links.begins;
      falls = λ k h l. g.known.its_links.falls k h (omega (arith, l, at_found));
      linked = λ k h l. g.known.its_links.linked k h (omega (arith, l, at_found));
    };
    in_rows = at_most;
    is_first = ends_different (comparison b d) little g.known.searched g.here (st _ holds_here);
    not_over = different_not_over (comparison b d) little g.known.searched g.here (st _ holds_here);
  }

  -- it shows none, and its pair is kept
  module _ (n : Pair) (st : Stepped b d (row_at rows s.at) s.set (Some n)) where
    same_here : told_apart b d (reach (comparison b d) (g.known.walk s.at)) s.set ≡ false
    unfolding Stepped
    same_here = (st _ holds_here).0

    holds_next : Holds (reach (comparison b d) (g.known.walk s.at ▸ s.set)) n
    unfolding Stepped
    holds_next = subst (λ (x : States). Holds x n) (sym (reach_more (comparison b d) (g.known.walk s.at) s.set)) (st _ holds_here).1

    was_found : (k : ℕ) → k < rows.count → row_at rows k ≡ n → reach (comparison b d) (g.known.walk k) ≡ reach (comparison b d) (g.known.walk s.at ▸ s.set)
    was_found k h x = same_states (g.known.hold k h) (subst (Holds _) (sym x) holds_next)

    is_new : NotAmong rows rows.count n
        → (k : ℕ) → k < rows.count → reach (comparison b d) (g.known.walk k) ≡ reach (comparison b d) (g.known.walk s.at ▸ s.set) → ⊥
    is_new f k h x = f k h (same_pair (g.known.hold k h) (subst (λ (y : States). Holds y n) (sym x) holds_next))

    went_again : (k : ℕ) → k < rows.count → row_at rows k ≡ n → Went b d rows links s
    went_again k h x = record {
      known = record {
        walk = g.known.walk;
        searched = step_found (comparison b d) little g.known.searched g.here same_here k h (was_found k h x);
        hold = g.known.hold;
        its_links = g.known.its_links;
      };
      here = g.here;
    }

    went_out : NotAmong rows rows.count n → most ≤ rows.count → Went b d rows links (record s { more = true })
    went_out f h = record {
      known = record {
        walk = g.known.walk;
        searched = let x : rows.count ≤ 1024 = rows.few in step_out (comparison b d) little g.known.searched g.here same_here (is_new f) (omega arith);
        hold = g.known.hold;
        its_links = g.known.its_links;
      };
      here = g.here;
    }

    module _ (f : NotAmong rows rows.count n) (h : rows.count < most) (all_links : length links ≡ 1024)
        {rows' : Rows} (a : Pushed rows n rows') where
      one_more : rows'.count ≡ suc rows.count
      one_more = let e : rows'.count ≡ rows.count + 1 = a.new_count in omega arith

      hold' : (k : ℕ) → k < suc rows.count → Holds (reach (comparison b d) (adding g.known.walk rows.count (g.known.walk s.at ▸ s.set) k)) (row_at rows' k)
      hold' k l = go (dec_lt k rows.count)
        where
          go : Dec (k < rows.count) → Holds (reach (comparison b d) (adding g.known.walk rows.count (g.known.walk s.at ▸ s.set) k)) (row_at rows' k)
          go (yes c) =
              subst (λ (y : Run). Holds (reach (comparison b d) y) (row_at rows' k)) (sym (added_old g.known.walk rows.count (g.known.walk s.at ▸ s.set) k c))
              (subst (Holds _) (sym (other_row a k (λ z. omega arith))) (g.known.hold k c))
          go (no c) =
              let z : rows.count ≡ k = omega arith in
              subst (λ (i : ℕ). Holds (reach (comparison b d) (adding g.known.walk rows.count (g.known.walk s.at ▸ s.set) i)) (row_at rows' i)) z
              (subst (λ (y : Run). Holds (reach (comparison b d) y) (row_at rows' rows.count)) (sym (added_new g.known.walk rows.count (g.known.walk s.at ▸ s.set)))
              (subst (Holds _) (sym (this_row h a)) holds_next))

      went_on : Went b d rows' (set links rows.count (record { parent = s.at; set = s.set })) s
      went_on = record {
        known = record {
          walk = adding g.known.walk rows.count (g.known.walk s.at ▸ s.set);
          searched = subst (λ (c : ℕ). Searched (comparison b d) most (adding g.known.walk rows.count (g.known.walk s.at ▸ s.set)) c s.at (suc s.set) s.stop s.more) (sym one_more)
              (step_added (comparison b d) little g.known.searched g.here same_here (is_new f) h);
          hold = λ k l. hold' k (omega (arith, one_more));
          its_links = subst (Linked (set links rows.count (record { parent = s.at; set = s.set })) (adding g.known.walk rows.count (g.known.walk s.at ▸ s.set))) (sym one_more)
              (linked_more links rows.count (record { parent = s.at; set = s.set }) all_links h at_found g.known.its_links);
        };
        here = g.here;
      }

    pub stepped : {rows' : Rows} {links' : List Link} {u : Search} → length links ≡ 1024 → Kept rows rows' links links' s n u → Went b d rows' links' u
    stepped {rows'} {links'} {u} all_links (again k h x y z w) = rw y (rw z (rw w (went_again k h x)))
    stepped {rows'} {links'} {u} all_links (left_out f h y z w) = rw y (rw z (rw w (went_out f h)))
    stepped {rows'} {links'} {u} all_links (stored f h a z w) = rw z (rw w (went_on f h all_links a))

-- The turn after it.
module _ (b d : Block) (few : b.inputs ≤ 6) {rows : Rows} {links : List Link} {s : Search} (g : Went b d rows links s) where
  small : 2 ^ b.inputs ≤ 256
  small = few_sets b.inputs few

  all_sets_past : 2 ^ b.inputs ≤ s.set + 1 → Searched (comparison b d) most g.known.walk rows.count s.at (2 ^ b.inputs) s.stop s.more
  all_sets_past h =
      let l : s.set < 2 ^ b.inputs = g.here in
      let e : suc s.set ≡ 2 ^ b.inputs = omega (arith, h, l) in
      subst (λ (n : ℕ). Searched (comparison b d) most g.known.walk rows.count s.at n s.stop s.more) e g.known.searched

  stop_in : s.stop ≤ rows.count
  stop_in = g.known.searched.levels.within

  at_in_stop : s.at < s.stop
  at_in_stop = g.known.searched.levels.here

  on_set : s.set + 1 < 2 ^ b.inputs → Going b d rows links (record s { set = s.set + 1 })
  on_set h = record {
    known = record {
      walk = g.known.walk;
      searched = let e : suc s.set ≡ s.set + 1 = omega arith in
          subst (λ (n : ℕ). Searched (comparison b d) most g.known.walk rows.count s.at n s.stop s.more) e g.known.searched;
      hold = g.known.hold;
      its_links = g.known.its_links;
    };
    here = h;
  }

  on_pair : 2 ^ b.inputs ≤ s.set + 1 → s.at + 1 < s.stop → Going b d rows links (record s { at = s.at + 1; set = 0 })
  on_pair h l = record {
    known = record {
      walk = g.known.walk;
      searched = let e : suc s.at ≡ s.at + 1 = omega arith in
          subst (λ (n : ℕ). Searched (comparison b d) most g.known.walk rows.count n 0 s.stop s.more) e
          (search.next_pair (comparison b d) small (all_sets_past h) (omega (arith, l, stop_in)) (omega (arith, l)));
      hold = g.known.hold;
      its_links = g.known.its_links;
    };
    here = pow_pos b.inputs;
  }

  on_level : 2 ^ b.inputs ≤ s.set + 1 → s.stop ≤ s.at + 1 → s.more ≡ false → s.stop < rows.count
      → Going b d rows links (record s { at = s.at + 1; set = 0; stop = rows.count })
  on_level h l x y = record {
    known = record {
      walk = g.known.walk;
      searched = let e : suc s.at ≡ s.at + 1 = omega arith in
          subst (λ (n : ℕ). Searched (comparison b d) most g.known.walk rows.count n 0 rows.count s.more) e
          (search.next_level (comparison b d) small (all_sets_past h) (omega (arith, y, at_in_stop, l)) (omega (arith, l, at_in_stop)) x);
      hold = g.known.hold;
      its_links = g.known.its_links;
    };
    here = pow_pos b.inputs;
  }

  last_pair : s.stop ≤ s.at + 1 → suc s.at ≡ s.stop
  last_pair l = omega (arith, l, at_in_stop)

  -- how it may go on or end
  pub goes_on : {u : Search} → Turns s rows.count (2 ^ b.inputs) (Ok (Some u)) → Going b d rows links u
  goes_on (next_set h) = on_set h
  goes_on (next_pair h l) = on_pair h l
  goes_on (next_level h l y z) = on_level h l y z

  pub same_end : Turns s rows.count (2 ^ b.inputs) (Ok None) → NoneShown (comparison b d)
  same_end (ends_same h l y z) =
      let k : s.stop ≡ rows.count = omega (arith, z, stop_in) in
      record {
        same = search.ends_same (comparison b d) small (all_sets_past h) (last_pair l) y k;
        not_over = search.same_not_over (comparison b d) small (all_sets_past h) (last_pair l) y k;
      }

  pub over_end : {w : Why} → Turns s rows.count (2 ^ b.inputs) (Err w) → (w ≡ Pairs) × Over most (comparison b d)
  over_end (ends_over h l y) = (refl, search.ends_over (comparison b d) small (all_sets_past h) (last_pair l) y)

  -- the place of the next step is bounded
  pub went_bound : s.at < 1024
  went_bound = let x = g.known.searched.roomy in omega (arith, x, stop_in, at_in_stop)

-- Each turn is a step further: what a step keeps, and what comes after it.
same_place : {rows rows' : Rows} {links links' : List Link} {s r : Search} {p : Pair} → Kept rows rows' links links' s p r → (r.at ≡ s.at) × (r.set ≡ s.set)
same_place (again k h e x y z) = (ap (λ (v : Search). v.at) z, ap (λ (v : Search). v.set) z)
same_place (left_out n h x y z) = (ap (λ (v : Search). v.at) z, ap (λ (v : Search). v.set) z)
same_place (stored n h a j z) = (ap (λ (v : Search). v.at) z, ap (λ (v : Search). v.set) z)

further : {s u : Search} {n w : ℕ} → w ≤ 64 → s.set < w → Turns s n w (Ok (Some u)) → s.at * 64 + s.set < u.at * 64 + u.set
further h l (next_set i) = omega arith
further h l (next_pair i k) = omega arith
further h l (next_level i k y q) = omega arith

-- What is known in the loop, for whatever trees stand in the tables.
abbrev pub Everywhere : Table → Table → ℕ → ℕ → Rows → List Link → Search → Type 0
Everywhere tab tab2 i o rows links s = (t u : Stmt) → At tab 0 t → At tab2 0 u
    → Going (record { inputs = i; outputs = o; body = t }) (record { inputs = i; outputs = o; body = u }) rows links s

-- the place of the next step is bounded
pub in_rows : {tab tab2 : Table} (i o : ℕ) (rows : Rows) (links : List Link) (s : Search) → i ≤ 6 → Placed tab 0 → Placed tab2 0
    → Everywhere tab tab2 i o rows links s → s.at < 1024
in_rows i o rows links s h p q g = at_most _ _ h (g p.tree q.tree p.there q.there)

-- the set of a step that was made is below the number of sets, however that number is had
pub sets_in : {b d : Block} {rows : Rows} {links : List Link} {s : Search} {w : ℕ} → Went b d rows links s → w ≡ 2 ^ b.inputs → s.set < w
sets_in {b} {d} {rows} {links} {s} {w} g e = subst (λ (x : ℕ). s.set < x) (sym e) g.here

-- a turn that goes on leaves fewer steps
pub step_less : {b d : Block} {rows rows' : Rows} {links links' : List Link} {s r u : Search} {p : Pair} → b.inputs ≤ 6 → Went b d rows' links' r
    → Kept rows rows' links links' s p r → Turns r rows'.count (2 ^ b.inputs) (Ok (Some u)) → 65536 - (u.at * 64 + u.set) < 65536 - (s.at * 64 + s.set)
step_less {b} {d} {rows} {rows'} {links} {links'} {s} {r} {u} h g k t =
    let w : 2 ^ b.inputs ≤ 2 ^ 6 = pow_mono h in
    let a = same_place k in
    let x : r.at ≡ s.at = a.0 in
    let y : r.set ≡ s.set = a.1 in
    let z : r.at * 64 + r.set < u.at * 64 + u.set = further (omega (arith, w)) g.here t in
    let v : r.at < 1024 = went_bound b d h g in
    let o : r.set < 2 ^ b.inputs = g.here in
    omega (arith, w, x, y, z, v, o)
