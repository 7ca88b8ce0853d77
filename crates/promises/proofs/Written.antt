-- Calls that write into lent bytes by `roomed`, whatever is to be written: there is an answer, no other has its values, a refusal leaves every lent byte, and what was written stands in
-- front of those that stay. By cases on what is to be written and on the room. Assumes nothing.
use mathlib.Core.Path.{◌≡◌, refl, sym, ap, ◌∙◌}
use mathlib.Core.Logic.{◌≢◌}
use mathlib.Core.Bool.{Bool, true, false, cond}
use mathlib.Core.List.{List, [], ◌∷◌}
use Prim.Native.Nat.{ℕ}
use native.Mathlib.Omega.{arith}
use lib.Dec.{ltb}
use lib.ListN.{length, get_or, take, drop}
use lib.Seq.{take_at, drop_at}
use Rattle.std.specs.Prelude.{Ok, Err}
use Rattle.refusals.specs.Refusals.{number, why_of}
use Rattle.refusals.specs.declared.Why.TheVariants as Why
use Rattle.refusals.proofs.Laws.{numbers_differ, number_above}
use Rattle.foldheron.specs.Answers.{Wrote, refusal_at}
use Rattle.writing.specs.Answers.{Writing, writes, refuses, roomed, wrote_values, wrote_owed, out_owed}
use Rattle.promises.specs.Demand1.{number_in}

nth : ℕ → List ℕ → ℕ
nth n l = get_or l n 0

pub wrote_told_apart : (x y : Wrote) → wrote_values x ≡ wrote_values y → x ≡ y
unfolding wrote_values nth
wrote_told_apart (Ok n) (Ok k) e = ap Ok (ap (nth 2) e)
wrote_told_apart (Ok n) (Err r) e = absurd (number_above r.why (sym (ap (nth 0) e)))
wrote_told_apart (Err r) (Ok k) e = absurd (number_above r.why (ap (nth 0) e))
wrote_told_apart (Err r) (Err q) e = λ i. Err (refusal_at (numbers_differ r.why q.why (ap (nth 0) e) i) (ap (nth 1) e i))

-- A refusal has its name.
unfoldable pub Named : Writing → Type 0
Named (writes bs) = Unit {0}
Named (refuses n at) = number (why_of n) ≡ n

pub an_answer : (w : Writing) (lent : ℕ) → Named w → (r : Wrote) × (wrote_values r ≡ wrote_owed (roomed w lent))
unfolding Named wrote_values wrote_owed roomed number
an_answer (refuses n at) lent h = (Err (refusal_at (why_of n) at), ap (λ (m : ℕ). m ∷ at ∷ 0 ∷ []) h)
an_answer (writes bs) lent h = go (ltb lent (length bs))
  where
    go : (x : Bool) → (r : Wrote) × (wrote_values r ≡ wrote_owed (cond x (refuses 12 0) (writes bs)))
    go true = (Err (refusal_at Why.Room 0), refl)
    go false = (Ok (length bs), refl)

pub refused_stays : (w : Writing) (out : List ℕ) → number_in (wrote_owed w) ≢ 0 → out_owed w out ≡ out
unfolding wrote_owed out_owed
refused_stays (writes bs) out k = absurd (k refl)
refused_stays (refuses n at) out k = refl

-- What was written, and the rest.
pub record InFront (w : Writing) (out : List ℕ) (n : ℕ) (out' : List ℕ) : Type 0 where
  pub bytes : List ℕ
  pub to_write : w ≡ writes bytes
  pub in_front : take n out' ≡ bytes
  pub n_of_them : length (take n out') ≡ n
  pub rest_stays : drop n out' ≡ drop n out

pub written_in_front : (w : Writing) → Named w → (out : List ℕ) (n : ℕ) (out' : List ℕ) → wrote_values (Ok n) ≡ wrote_owed (roomed w (length out))
    → out' ≡ out_owed (roomed w (length out)) out → InFront w out n out'
unfolding Named wrote_values wrote_owed roomed out_owed nth
written_in_front (refuses k at) h out n out' v q = absurd (number_above (why_of k) (h ∙ sym (ap (nth 0) v)))
written_in_front (writes bs) h out n out' v q = go (ltb (length out) (length bs)) v q
  where
    go : (x : Bool) → 0 ∷ 0 ∷ n ∷ [] ≡ wrote_owed (cond x (refuses 12 0) (writes bs)) → out' ≡ out_owed (cond x (refuses 12 0) (writes bs)) out → InFront (writes bs) out n out'
    go true v q = let z : ◌≡◌ {A = ℕ} 0 12 = ap (nth 0) v in absurd (omega arith)
    go false v q =
        let k : n ≡ length bs = ap (nth 2) v in
        let front_is : take n out' ≡ bs = ap (take n) q ∙ take_at bs (drop (length bs) out) n (sym k) in
        record {
          bytes = bs;
          to_write = refl;
          in_front = front_is;
          n_of_them = ap length front_is ∙ sym k;
          rest_stays = ap (drop n) q ∙ drop_at bs (drop (length bs) out) n (sym k) ∙ ap (λ (i : ℕ). drop i out) (sym k);
        }
