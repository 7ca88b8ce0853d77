-- Legal entries: what it is to fit, that fitting goes entry by entry, that both quotas are kept and that two quotas are the whole shelf,
-- so that whatever fits has room. Assumes nothing.
use mathlib.Core.Path.{◌≡◌, refl, sym, ap, ◌∙◌, subst}
use mathlib.Core.Bool.{Bool, true, false, not, cond, ◌&&◌}
use mathlib.Core.List.{List, [], ◌∷◌, ◌++◌, append_assoc, append-nil}
use Prim.Native.Nat.{ℕ, ◌+◌, ◌-◌, ◌≤◌, ◌<◌}
use native.Mathlib.Omega.{arith}
use lib.Dec.{T, eqb, ltb, leb, leb→le, ltb→lt, le→leb, lt→ltb, T_not, not_T}
use lib.ListN.{length, replicate, length-append, length-replicate}
use borrow.Author.Tests.{eqb-true, eqb-false, eq-eqb, ne_eqb}
use Rattle.sets.proofs.Members.{is_false, of_false, and_in, and_left, and_right}
use Rattle.block.specs.Format.{Good, Reading, good, turned_down, reading}
use Rattle.block.proofs.GoodReadings.{sound}
use Rattle.shelf.specs.Entries.{SHELF_SIZE, QUOTA_SIZE, Entry, size, laid_out, in_use, shelf_of, those, own, taken, is_good, fits, all_fit, Legal}
use Rattle.shelf.proofs.Lists.{those_append, those_turn, in_use_append, in_use_fewer, not_taken_fewer, length_laid}

-- A good block has a good reading, and so at most 3,086 bytes.
pub was_good : (r : Reading) → T (is_good r) → (g : Good) × (r ≡ good g)
unfolding is_good
was_good (good g) t = (g, refl)
was_good (turned_down n at) t = absurd t

pub good_size : (b : List ℕ) → T (is_good (reading b)) → length b ≤ 3086
good_size b t = let w = was_good (reading b) t in (sound b w.0 w.1).size

-- What it is to fit.
pub record Fitting (before : List Entry) (e : Entry) : Type 0 where
  pub its_party : e.party ≤ 1
  pub its_name : e.name < 65536
  pub not_taken : taken e.name (own e.party before) ≡ false
  pub quota_kept : in_use (own e.party before) + size e ≤ 32768
  pub its_block : T (is_good (reading e.block))

pub fitting : (before : List Entry) (e : Entry) → T (fits before e) → Fitting before e
unfolding fits
fitting before e t =
    let p = leb e.party 1 in
    let n = ltb e.name 65536 in
    let k = not (taken e.name (own e.party before)) in
    let q = leb (in_use (own e.party before) + size e) QUOTA_SIZE in
    let g = is_good (reading e.block) in
    let t₁ = and_right p (n && (k && (q && g))) t in
    let t₂ = and_right n (k && (q && g)) t₁ in
    let t₃ = and_right k (q && g) t₂ in
    record {
      its_party = leb→le e.party 1 (and_left p (n && (k && (q && g))) t);
      its_name = ltb→lt e.name 65536 (and_left n (k && (q && g)) t₁);
      not_taken = is_false (taken e.name (own e.party before)) (T_not (taken e.name (own e.party before)) (and_left k (q && g) t₂));
      quota_kept = leb→le (in_use (own e.party before) + size e) 32768 (and_left q g t₃);
      its_block = and_right q g t₃;
    }

pub fits_so : (before : List Entry) (e : Entry) → Fitting before e → T (fits before e)
unfolding fits
fits_so before e f =
    let p = leb e.party 1 in
    let n = ltb e.name 65536 in
    let k = not (taken e.name (own e.party before)) in
    let q = leb (in_use (own e.party before) + size e) QUOTA_SIZE in
    let g = is_good (reading e.block) in
    and_in p (n && (k && (q && g))) (le→leb e.party 1 f.its_party)
    (and_in n (k && (q && g)) (lt→ltb e.name 65536 f.its_name)
    (and_in k (q && g) (not_T (taken e.name (own e.party before)) (of_false f.not_taken))
    (and_in q g (le→leb (in_use (own e.party before) + size e) 32768 f.quota_kept) f.its_block)))

-- An entry that fits has a size and a party of two bytes.
pub small_size : {before : List Entry} (e : Entry) → Fitting before e → size e < 65536
small_size e f = omega (arith, good_size e.block f.its_block)

-- Entry by entry, and list by list.
pub fit_first : (before : List Entry) (e : Entry) (es : List Entry) → T (all_fit before (e ∷ es)) → Fitting before e
unfolding all_fit
fit_first before e es t = fitting before e (and_left (fits before e) (all_fit (before ++ (e ∷ [])) es) t)

pub fit_rest : (before : List Entry) (e : Entry) (es : List Entry) → T (all_fit before (e ∷ es)) → T (all_fit (before ++ (e ∷ [])) es)
unfolding all_fit
fit_rest before e es t = and_right (fits before e) (all_fit (before ++ (e ∷ [])) es) t

pub fit_cons : (before : List Entry) (e : Entry) (es : List Entry) → Fitting before e → T (all_fit (before ++ (e ∷ [])) es) → T (all_fit before (e ∷ es))
unfolding all_fit
fit_cons before e es f t = and_in (fits before e) (all_fit (before ++ (e ∷ [])) es) (fits_so before e f) t

one_more : (before : List Entry) (e : Entry) (es : List Entry) → before ++ (e ∷ []) ++ es ≡ before ++ e ∷ es
one_more before e es = append_assoc before (e ∷ []) es

pub fit_append : (before a b : List Entry) → T (all_fit before a) → T (all_fit (before ++ a) b) → T (all_fit before (a ++ b))
fit_append before [] b t u = subst (λ (l : List Entry). T (all_fit l b)) (append-nil before) u
fit_append before (e ∷ a) b t u =
    fit_cons before e (a ++ b) (fit_first before e a t)
    (fit_append (before ++ (e ∷ [])) a b (fit_rest before e a t) (subst (λ (l : List Entry). T (all_fit l b)) (sym (one_more before e a)) u))

pub fit_left : (before a b : List Entry) → T (all_fit before (a ++ b)) → T (all_fit before a)
unfolding all_fit
fit_left before [] b t = tt
fit_left before (e ∷ a) b t = fit_cons before e a (fit_first before e (a ++ b) t) (fit_left (before ++ (e ∷ [])) a b (fit_rest before e (a ++ b) t))

pub fit_right : (before a b : List Entry) → T (all_fit before (a ++ b)) → T (all_fit (before ++ a) b)
fit_right before [] b t = subst (λ (l : List Entry). T (all_fit l b)) (sym (append-nil before)) t
fit_right before (e ∷ a) b t = subst (λ (l : List Entry). T (all_fit l b)) (one_more before e a) (fit_right (before ++ (e ∷ [])) a b (fit_rest before e (a ++ b) t))

pub none_legal : Legal []
unfolding all_fit
none_legal = record { each_fits = tt }

pub legal_more : (es : List Entry) (e : Entry) → Legal es → Fitting es e → Legal (es ++ (e ∷ []))
unfolding all_fit
legal_more es e l f = record { each_fits = fit_append [] es (e ∷ []) l.each_fits (fit_cons es e [] f tt) }

-- One's own entries: an entry of one's own, and one of another.
pub own_mine : (p : ℕ) (e : Entry) (es : List Entry) → e.party ≡ p → own p (e ∷ es) ≡ e ∷ own p es
unfolding those
own_mine p e es h = simp (eq-eqb e.party p h)

pub own_other : (p : ℕ) (e : Entry) (es : List Entry) → (e.party ≡ p → ⊥) → own p (e ∷ es) ≡ own p es
unfolding those
own_other p e es h = simp (ne_eqb e.party p h)

-- Legal entries stay legal when some are taken out.
fits_fewer : (f : Entry → Bool) (before : List Entry) (e : Entry) → Fitting before e → Fitting (those f before) e
fits_fewer f before e w =
    let q : own e.party (those f before) ≡ those f (own e.party before) = those_turn f (λ x. eqb x.party e.party) before in
    record {
      its_party = w.its_party;
      its_name = w.its_name;
      not_taken = ap (taken e.name) q ∙ not_taken_fewer e.name f (own e.party before) w.not_taken;
      quota_kept = omega (arith, ap in_use q, in_use_fewer f (own e.party before), w.quota_kept);
      its_block = w.its_block;
    }

fit_those : (f : Entry → Bool) (before es : List Entry) → T (all_fit before es) → T (all_fit (those f before) (those f es))
unfolding those all_fit
fit_those f before [] t = tt
fit_those f before (e ∷ es) t = go (f e) refl (fit_those f (before ++ (e ∷ [])) es (fit_rest before e es t))
  where
    go : (z : Bool) → f e ≡ z → T (all_fit (those f (before ++ (e ∷ []))) (those f es)) → T (all_fit (those f before) (cond z (e ∷ those f es) (those f es)))
    go true q ih =
        let k : those f (before ++ (e ∷ [])) ≡ those f before ++ (e ∷ []) = those_append f before (e ∷ []) ∙ ap (λ (z : Bool). those f before ++ cond z (e ∷ []) []) q in
        fit_cons (those f before) e (those f es) (fits_fewer f before e (fit_first before e es t)) (subst (λ (l : List Entry). T (all_fit l (those f es))) k ih)
    go false q ih =
        let k : those f (before ++ (e ∷ [])) ≡ those f before = those_append f before (e ∷ []) ∙ ap (λ (z : Bool). those f before ++ cond z (e ∷ []) []) q ∙ append-nil (those f before) in
        subst (λ (l : List Entry). T (all_fit l (those f es))) k ih

pub legal_those : (f : Entry → Bool) (es : List Entry) → Legal es → Legal (those f es)
unfolding those
legal_those f es l = record { each_fits = fit_those f [] es l.each_fits }

-- A party's quota is kept.
quota_from : (p : ℕ) (before es : List Entry) → T (all_fit before es) → in_use (own p before) ≤ 32768 → in_use (own p (before ++ es)) ≤ 32768
unfolding in_use those
quota_from p before [] t h = subst (λ (l : List Entry). in_use (own p l) ≤ 32768) (sym (append-nil before)) h
quota_from p before (e ∷ es) t h =
    subst (λ (l : List Entry). in_use (own p l) ≤ 32768) (one_more before e es) (quota_from p (before ++ (e ∷ [])) es (fit_rest before e es t) (go (eqb e.party p) refl))
  where
    f : Fitting before e
    f = fit_first before e es t

    split : in_use (own p (before ++ (e ∷ []))) ≡ in_use (own p before) + in_use (own p (e ∷ []))
    split = ap in_use (those_append (λ e. eqb e.party p) before (e ∷ [])) ∙ in_use_append (own p before) (own p (e ∷ []))

    go : (z : Bool) → eqb e.party p ≡ z → in_use (own p (before ++ (e ∷ []))) ≤ 32768
    go true q =
        let m : e.party ≡ p = eqb-true e.party p q in
        let a : in_use (own p before) ≡ in_use (own e.party before) = ap (λ (n : ℕ). in_use (own n before)) (sym m) in
        let b : in_use (own p (e ∷ [])) ≡ size e = ap in_use (own_mine p e [] m) ∙ omega arith in
        omega (arith, split, a, b, f.quota_kept)
    go false q =
        let b : in_use (own p (e ∷ [])) ≡ 0 = ap in_use (own_other p e [] (eqb-false e.party p q)) in
        omega (arith, split, b)

pub quota : (p : ℕ) (es : List Entry) → Legal es → in_use (own p es) ≤ 32768
unfolding in_use those
quota p es l = quota_from p [] es l.each_fits (omega arith)

-- Both parties' entries together are all entries, so two quotas are the whole shelf.
both : (before es : List Entry) → T (all_fit before es) → in_use es ≡ in_use (own 0 es) + in_use (own 1 es)
unfolding in_use those
both before [] t = refl
both before (e ∷ es) t = go (eqb e.party 0) refl (both (before ++ (e ∷ [])) es (fit_rest before e es t))
  where
    f : Fitting before e
    f = fit_first before e es t

    go : (z : Bool) → eqb e.party 0 ≡ z → in_use es ≡ in_use (own 0 es) + in_use (own 1 es)
        → in_use (e ∷ es) ≡ in_use (own 0 (e ∷ es)) + in_use (own 1 (e ∷ es))
    go true q ih =
        let m : e.party ≡ 0 = eqb-true e.party 0 q in
        let a : in_use (own 0 (e ∷ es)) ≡ size e + in_use (own 0 es) = ap in_use (own_mine 0 e es m) in
        let b : in_use (own 1 (e ∷ es)) ≡ in_use (own 1 es) = ap in_use (own_other 1 e es (λ k. absurd (omega (arith, k, m)))) in
        omega (arith, a, b, ih)
    go false q ih =
        let n : e.party ≡ 1 = omega (arith, f.its_party, eqb-false e.party 0 q) in
        let a : in_use (own 0 (e ∷ es)) ≡ in_use (own 0 es) = ap in_use (own_other 0 e es (eqb-false e.party 0 q)) in
        let b : in_use (own 1 (e ∷ es)) ≡ size e + in_use (own 1 es) = ap in_use (own_mine 1 e es n) in
        omega (arith, a, b, ih)

pub whole : (es : List Entry) → Legal es → in_use es ≤ 65536
whole es l = omega (arith, both [] es l.each_fits, quota 0 es l, quota 1 es l)

-- Whatever fits has room: there is no other lack of it.
pub has_room : (es : List Entry) (e : Entry) → Legal es → Fitting es e → in_use es + size e ≤ 65536
unfolding in_use
has_room es e l f = omega (arith, whole (es ++ (e ∷ [])) (legal_more es e l f), in_use_append es (e ∷ []))

pub shelf_length : (es : List Entry) → Legal es → length (shelf_of es) ≡ 65536
unfolding shelf_of
shelf_length es l =
    length-append (laid_out es) (replicate (SHELF_SIZE - in_use es) 0)
    ∙ omega (arith, length_laid es, length-replicate {A = ℕ} (SHELF_SIZE - in_use es) 0, whole es l)
