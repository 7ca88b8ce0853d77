-- Records stored one after the other make the form that they are the records of. Assumes nothing.
use mathlib.Core.Path.{◌≡◌, refl, sym, ap, ◌∙◌, subst⁻¹}
use mathlib.Core.Logic.{⊎_elim}
use mathlib.Core.List.{List, [], ◌∷◌, ◌++◌, append-nil, append_assoc}
use Rattle.std.specs.Prelude.{Option}
use Prim.Native.Nat.{ℕ, suc, ◌+◌, ◌≤◌, ◌<◌}
use native.Mathlib.Omega.{arith}
use lib.ListN.{length, get_or, take, drop, length-append, take-append-drop}
use lib.Seq.{sets, length-sets, take-suc}
use Rattle.sets.specs.Numbers.{listed}
use Rattle.tables.specs.declared.kinds.Shape.{Shape}
use Rattle.tables.specs.Kinds.{shape, length_of}
use Rattle.tables.proofs.Shapes.{no_length}
use Rattle.block.proofs.Views.{Kind, shape?}
use Rattle.records.specs.Numerals.{in_bytes}
use Rattle.records.proofs.Bytes.{sets_append}
use Rattle.writing.specs.Written.{shaped_bytes, record_bytes}
use Rattle.writing.proofs.Records.{length_record}
use Rattle.everyday.specs.Statements.{await, abort_when}
use Rattle.everyday.specs.Conversion.{as_it_is}
use Rattle.converting.specs.Records.{watch_bytes, alone_bytes, bytes_behind}
use Rattle.convert.specs.Walk.{bytes_of}

-- From s to s' some bytes were stored at a place, and `to` is the place behind them.
pub record Stored (s : List ℕ) (at : ℕ) (bs s' : List ℕ) (to : ℕ) : Type 0 where
  pub stored : s' ≡ sets s at bs
  pub ends : to ≡ at + length bs

-- What `put_record` tells of a kind that there is.
pub one_stored : {k : ℕ} (s : List ℕ) (at x : ℕ) {s' : List ℕ} {to : ℕ} → Kind k → to ≡ at + length_of k → s' ≡ sets s at (record_bytes k x) → Stored s at (record_bytes k x) s' to
one_stored s at x v e f = record { stored = f; ends = e ∙ ap (λ (n : ℕ). at + n) (sym (length_record x v)) }

pub and_stored : {s s₁ s₂ : List ℕ} {at to end : ℕ} {xs ys : List ℕ} → Stored s at xs s₁ to → Stored s₁ to ys s₂ end → Stored s at (xs ++ ys) s₂ end
and_stored {s} {s₁} {s₂} {at} {to} {end} {xs} {ys} f g =
    let l = length-append xs ys in
    let p = f.ends in
    let q = g.ends in
    record {
      stored = g.stored ∙ ap (λ (l : List ℕ). sets l to ys) f.stored ∙ ap (λ (k : ℕ). sets (sets s at xs) k ys) p ∙ sym (sets_append xs ys s at);
      ends = omega arith;
    }

-- Records one after the other.
length_any : (k x : ℕ) → length (record_bytes k x) ≡ length_of k
unfolding shaped_bytes
length_any k x = ⊎_elim (λ v. length_record x v) (λ e. ap (λ (o : Option Shape). length (shaped_bytes k x o)) e ∙ sym (no_length k e)) (shape? k)

bytes_append : (rs qs : List (ℕ × ℕ)) → bytes_of (rs ++ qs) ≡ bytes_of rs ++ bytes_of qs
unfolding bytes_of
bytes_append [] qs = refl
bytes_append (r ∷ rs) qs = ap (λ (l : List ℕ). record_bytes r.0 r.1 ++ l) (bytes_append rs qs) ∙ sym (append_assoc (record_bytes r.0 r.1) (bytes_of rs) (bytes_of qs))

pub none_stored : (s : List ℕ) (at : ℕ) → Stored s at (bytes_of []) s at
unfolding bytes_of
none_stored s at = record { stored = refl; ends = omega arith }

module _ (rs : List (ℕ × ℕ)) (i : ℕ) (h : i < length rs) where
  abbrev r : ℕ × ℕ
  r = get_or rs i (0, 0)

  one_more : bytes_of (take (i + 1) rs) ≡ bytes_of (take i rs) ++ record_bytes r.0 r.1
  unfolding bytes_of
  one_more =
      let n : i + 1 ≡ suc i = omega arith in
      ap (λ (j : ℕ). bytes_of (take j rs)) n ∙ ap bytes_of (take-suc rs i (0, 0) h) ∙ bytes_append (take i rs) (r ∷ [])
      ∙ ap (λ (l : List ℕ). bytes_of (take i rs) ++ l) (append-nil (record_bytes r.0 r.1))

  module _ {s s₁ : List ℕ} {at to : ℕ} (w : Stored s at (bytes_of (take i rs)) s₁ to) where
    pub record_fits : at + length (bytes_of rs) ≤ length s → to + length_of r.0 ≤ length s₁
    record_fits l =
        let parts : length (bytes_of rs) ≡ length (bytes_of (take (i + 1) rs)) + length (bytes_of (drop (i + 1) rs)) =
        ap (λ (l : List (ℕ × ℕ)). length (bytes_of l)) (sym (take-append-drop (i + 1) rs)) ∙ ap length (bytes_append (take (i + 1) rs) (drop (i + 1) rs)) ∙ length-append (bytes_of (take (i + 1) rs)) (bytes_of (drop (i + 1) rs)) in
        let more : length (bytes_of (take (i + 1) rs)) ≡ length (bytes_of (take i rs)) + length_of r.0 =
        ap length one_more ∙ length-append (bytes_of (take i rs)) (record_bytes r.0 r.1) ∙ ap (λ (n : ℕ). length (bytes_of (take i rs)) + n) (length_any r.0 r.1) in
        omega (arith, w.ends, parts, more, ap length w.stored, length-sets s at (bytes_of (take i rs)))

    pub record_stored : {s₂ : List ℕ} {end : ℕ} → end ≡ to + length_of r.0 → s₂ ≡ sets s₁ to (record_bytes r.0 r.1) → Stored s at (bytes_of (take (i + 1) rs)) s₂ end
    record_stored {s₂} {end} e f =
        subst⁻¹ (λ (bs : List ℕ). Stored s at bs s₂ end) one_more
        (and_stored w (record { stored = f; ends = e ∙ ap (λ (n : ℕ). to + n) (sym (length_any r.0 r.1)) }))

watch_length : (x : ℕ) → length (watch_bytes x) ≡ 28
unfolding shaped_bytes in_bytes shape listed
watch_length x = refl

-- What `put_watch` tells.
pub watch_as_stored : (s : List ℕ) (at x : ℕ) {s' : List ℕ} {to : ℕ} → to ≡ at + 28 → s' ≡ sets s at (watch_bytes x) → Stored s at (watch_bytes x) s' to
watch_as_stored s at x e f = record { stored = f; ends = e ∙ ap (λ (n : ℕ). at + n) (sym (watch_length x)) }

-- The ends of the forms.
pub put_await_ends : (at x : ℕ) → at + length (alone_bytes as_it_is (await x)) ≡ at + 32
unfolding shaped_bytes in_bytes shape listed
put_await_ends at x = refl

pub put_abort_end_ends : (at x : ℕ) → at + length (bytes_behind (abort_when x)) ≡ at + 34
unfolding shaped_bytes in_bytes shape listed
put_abort_end_ends at x = refl
