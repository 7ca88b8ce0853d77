-- Must has at most one code: each form makes at most one code of at most one, by induction over the step. Assumes nothing.
use mathlib.Core.Path.{◌≡◌, sym, ◌∙◌, ap, ap₂}
use mathlib.Core.Logic.{◌⊎◌, inl, inr}
use Prim.Native.Nat.{ℕ, max}
use lib.Dec.{T}
use Rattle.sets.specs.Numbers.{Numbers, empty, single, without, only_if, maxima, down, downs}
use Rattle.sets.proofs.Members.{single_out, union_out, without_member, without_other, only_if_test, only_if_member}
use Rattle.sets.proofs.Maxima.{maxima_out, downs_out}
use Rattle.rules.specs.Statements.{code}
use Rattle.rules.specs.Events.{Status, present, absent, unknown, Event, giving}
use Rattle.rules.specs.Instant.{Step, done, stay, say, leave, test, catch, scope, chain, beside}
use Rattle.rules.specs.MustCan.{must, Given, choose, caught, both, followed, absence_asked, local_status, hidden, gives}

pub record OneCode (g : Given) : Type 0 where
  pub equal : (c d : ℕ) → T (g.codes c) → T (g.codes d) → c ≡ d

pub one_single : (a : Numbers) (k : ℕ) → OneCode (record { signals = a; codes = single k })
one_single a k = record { equal = λ c d s t. single_out k c s ∙ sym (single_out k d t) }

pub one_choose : (v : Status) {p q : Given} → OneCode p → OneCode q → OneCode (choose must v p q p q)
one_choose present o r = o
one_choose absent o r = r
one_choose unknown o r = record { equal = λ c d s t. absurd s }

pub one_caught : {a : Given} → OneCode a → OneCode (caught a)
one_caught {a} o = record { equal = go }
  where
    go : (c d : ℕ) → T (downs a.codes c) → T (downs a.codes d) → c ≡ d
    go c d s t =
        let x = downs_out a.codes c s in
        let y = downs_out a.codes d t in
        sym x.2 ∙ ap down (o.equal x.0 y.0 x.1 y.1) ∙ y.2

pub one_hidden : (s : ℕ) {a : Given} → OneCode a → OneCode (hidden s a)
one_hidden s o = record { equal = o.equal }

-- Where 0 is in the first's codes it is the only one, and only the second's are left.
pub one_followed : {a b : Given} → OneCode a → OneCode b → OneCode (followed a b)
one_followed {a} {b} o p = record { equal = λ c d s t. go c d (union_out first second c s) (union_out first second d t) }
  where
    first : Numbers
    first = without 0 a.codes

    second : Numbers
    second = only_if (a.codes 0) b.codes

    clash : (c d : ℕ) → T (first c) → T (second d) → ⊥
    clash c d s t =
        without_other 0 a.codes c s (o.equal c 0 (without_member 0 a.codes c s) (only_if_test (a.codes 0) b.codes d t))

    go : (c d : ℕ) → T (first c) ⊎ T (second c) → T (first d) ⊎ T (second d) → c ≡ d
    go c d (inl s) (inl t) = o.equal c d (without_member 0 a.codes c s) (without_member 0 a.codes d t)
    go c d (inl s) (inr t) = absurd (clash c d s t)
    go c d (inr s) (inl t) = absurd (clash d c t s)
    go c d (inr s) (inr t) = p.equal c d (only_if_member (a.codes 0) b.codes c s) (only_if_member (a.codes 0) b.codes d t)

pub one_both : {a b : Given} → OneCode a → OneCode b → OneCode (both a b)
one_both {a} {b} o p = record { equal = go }
  where
    go : (c d : ℕ) → T (maxima a.codes b.codes c) → T (maxima a.codes b.codes d) → c ≡ d
    go c d s t =
        let x = maxima_out a.codes b.codes c s in
        let y = maxima_out a.codes b.codes d t in
        sym x.4 ∙ ap₂ max (o.equal x.0 y.0 x.2 y.2) (p.equal x.1 y.1 x.3 y.3) ∙ y.4

pub one_code : (p : Step) (E : Event) → OneCode (gives must p E)
unfolding gives
one_code done E = one_single empty 0
one_code (stay A) E = one_single empty 1
one_code (say s) E = one_single (single s) 0
one_code (leave d) E = one_single empty (code d)
one_code (test s p q) E = one_choose (E s) (one_code p E) (one_code q E)
one_code (catch p) E = one_caught (one_code p E)
one_code (scope s p) E =
    one_hidden s
    (one_code p (giving E s (local_status must s (gives must p (giving E s unknown)) (gives (absence_asked must) p (giving E s unknown)))))
one_code (chain p q) E = one_followed (one_code p E) (one_code q E)
one_code (beside p q) E = one_both (one_code p E) (one_code q E)

pub must_has_at_most_one_code : (p : Step) (E : Event) (c d : ℕ) → T ((gives must p E).codes c) → T ((gives must p E).codes d) → c ≡ d
must_has_at_most_one_code p E = (one_code p E).equal
