-- Each move on what the code holds: the places of the state after it, and that the code holds them. Assumes nothing.
use mathlib.Core.Path.{◌≡◌, refl, sym, ap, ap₂, ◌∙◌, subst}
use mathlib.Core.Bool.{Bool, true, false, cond}
use mathlib.Core.List.{List, [], ◌∷◌, ◌++◌}
use mathlib.Core.Option.{some}
use Rattle.std.specs.Prelude.{Option, Some, None, Result, Ok, Err}
use Prim.Native.Nat.{ℕ, zero, suc, ◌+◌, ◌-◌, ◌/◌, ◌%◌, ◌≤◌, ◌<◌}
use native.Mathlib.Omega.{arith}
use borrow.Author.Tests.{ne_eqb, eq-eqb}
use lib.Dec.{eqb}
use lib.ListN.{length, length-append, set, take, drop, length-take, length-drop}
use lib.Seq.{length-sets}
use Rattle.sets.specs.Numbers.{listed}
use Rattle.tables.specs.declared.kinds.Shape.{Shape}
use Rattle.tables.specs.Kinds.{shape, length_of}
use Rattle.records.specs.Numerals.{in_bytes}
use Rattle.writing.specs.Written.{operand_bytes, shaped_bytes, record_bytes}
use Rattle.text.specs.Machine.{by_bracket, by_end, Level, level_at, Mode, due, after, state, to, put, opened, popped, inserted, sequenced, paralleled, turned, operand_set, whened}
use Rattle.text.specs.Reader.{places}
use Rattle.read_steps.specs.Levels.{level_in, levels_in}
use Rattle.read_steps.specs.Found.{opens, level_declares, word_at}
use Rattle.read_steps.specs.Records.{Sized, Short, Written, Grown}
use Rattle.read_steps.specs.Moves.{mode_of, closer_of, next_after, made}
use Rattle.read_steps.specs.Holding.{Place, level_of, around_it, levels_of, Course, course, state_of, Rising, Kept, KeptAll, codes, FreshAt, FreshIn, Holds, Steps}
use Rattle.read_steps.specs.Holding.{faulted, went, burst, Valid, Does}
use Rattle.read_steps.specs.declared.levels.Level.{Level as CodeLevel}
use Rattle.read_steps.specs.declared.modes.Mode.{Mode as CodeMode}
use Rattle.read_steps.specs.declared.modes.Mode.TheVariants.{Due, After}
use Rattle.read_steps.specs.declared.levels.Scope.{Scope}
use Rattle.read_steps.specs.declared.levels.Scope.TheVariants.{Outermost, ThenPart, EndPart, SuspendBody, InBrackets, TrapBody, SignalBody}
use Rattle.read_steps.specs.declared.steps.Stage.{Stage}
use Rattle.read_steps.specs.declared.steps.Fault.{Fault as Refused}
use Rattle.read_steps.specs.declared.steps.Fault.TheVariants.{Grammar, Deep}
use Rattle.read_steps.specs.declared.moves.Move.{Move}
use Rattle.read_steps.specs.declared.moves.Move.TheVariants.{To, Open, Bracket, Close, Turn}
use Rattle.read_steps.proofs.LevelLaws.{levels_count}

-- The kinds of records that the moves write.
pub sized_16 : Sized 16
unfolding shaped_bytes in_bytes length_of shape listed
sized_16 = record { its_bytes = λ x. refl; few_bytes = omega arith; some_bytes = omega arith }

pub sized_17 : Sized 17
unfolding shaped_bytes in_bytes length_of shape listed
sized_17 = record { its_bytes = λ x. refl; few_bytes = omega arith; some_bytes = omega arith }

pub sized_18 : Sized 18
unfolding shaped_bytes in_bytes length_of shape listed
sized_18 = record { its_bytes = λ x. refl; few_bytes = omega arith; some_bytes = omega arith }

pub sized_19 : Sized 19
unfolding shaped_bytes in_bytes length_of shape listed
sized_19 = record { its_bytes = λ x. refl; few_bytes = omega arith; some_bytes = omega arith }

pub sized_20 : Sized 20
unfolding shaped_bytes in_bytes length_of shape listed
sized_20 = record { its_bytes = λ x. refl; few_bytes = omega arith; some_bytes = omega arith }

pub sized_21 : Sized 21
unfolding shaped_bytes in_bytes length_of shape listed
sized_21 = record { its_bytes = λ x. refl; few_bytes = omega arith; some_bytes = omega arith }

pub sized_22 : Sized 22
unfolding shaped_bytes in_bytes length_of shape listed
sized_22 = record { its_bytes = λ x. refl; few_bytes = omega arith; some_bytes = omega arith }

pub sized_23 : Sized 23
unfolding shaped_bytes in_bytes length_of shape listed
sized_23 = record { its_bytes = λ x. refl; few_bytes = omega arith; some_bytes = omega arith }

pub sized_24 : Sized 24
unfolding shaped_bytes in_bytes length_of shape listed
sized_24 = record { its_bytes = λ x. refl; few_bytes = omega arith; some_bytes = omega arith }

pub sized_25 : Sized 25
unfolding shaped_bytes in_bytes length_of shape listed
sized_25 = record { its_bytes = λ x. refl; few_bytes = omega arith; some_bytes = omega arith }

pub sized_26 : Sized 26
unfolding shaped_bytes in_bytes length_of shape listed
sized_26 = record { its_bytes = λ x. refl; few_bytes = omega arith; some_bytes = omega arith }

pub short_21 : Short 21
unfolding length_of shape listed
short_21 = record { sized = sized_21; four_bytes = refl }

pub short_23 : Short 23
unfolding length_of shape listed
short_23 = record { sized = sized_23; four_bytes = refl }

-- What is kept stays so while the records and the text read grow.
kept_one : {size size' at at' : ℕ} {p : Place} → Kept size at p → size ≤ size' → at ≤ at' → Kept size' at' p
kept_one k l m = record {
  start_is = λ h. k.start_is (omega (arith, h, l));
  arm_is = λ h. k.arm_is (omega (arith, h, l));
  link_is = λ h. k.link_is (omega (arith, h, l));
  few_brackets = omega (arith, k.few_brackets, m);
}

kept_more : {size size' at at' : ℕ} (ps : List Place) → size ≤ size' → at ≤ at' → KeptAll size at ps → KeptAll size' at' ps
unfolding KeptAll
kept_more [] l m k = tt
kept_more (p ∷ ps) l m k = (kept_one k.0 l m, kept_more ps l m k.1)

-- Two places with the same kind, declarations and start have the same levels.
record Alike (text : List ℕ) (p q : Place) : Type 0 where
  same_closer : closer_of p.code.kind ≡ closer_of q.code.kind
  same_names : level_declares text p.code ≡ level_declares text q.code
  same_start : p.start ≡ q.start

alike_level : {text : List ℕ} {p q : Place} → Alike text p q → (n a k : ℕ) → level_of text p n a k ≡ level_of text q n a k
unfolding level_of
alike_level s zero a k = λ i. record { closer = s.same_closer i; declares = s.same_names i; start = s.same_start i; arm = a; link = k }
alike_level s (suc n) a k = λ i. record { closer = by_bracket; declares = []; start = s.same_start i; arm = a; link = k }

alike_around : {text : List ℕ} {p q : Place} → Alike text p q → (n : ℕ) (ls : List Level) → around_it text p n ls ≡ around_it text q n ls
unfolding around_it
alike_around s zero ls = refl
alike_around {text} {p} {q} s (suc n) ls =
    ap₂ (λ (l : Level) (m : List Level). l ∷ m) (alike_level s n p.start p.start ∙ ap₂ (level_of text q n) s.same_start s.same_start) (alike_around s n ls)

-- The levels of one place begin at one place.
level_start : (text : List ℕ) (p : Place) (n a k : ℕ) → (level_of text p n a k).start ≡ p.start
unfolding level_of
level_start text p zero a k = refl
level_start text p (suc n) a k = refl

one_place : (text : List ℕ) (p : Place) (n : ℕ) (ls : List Level) → places p.start (around_it text p n ls) ≡ places p.start ls
unfolding places around_it
one_place text p zero ls = refl
one_place text p (suc n) ls =
    ap (λ (z : Bool). cond z (places p.start (around_it text p n ls)) (1 + places (level_of text p n p.start p.start).start (around_it text p n ls)))
    (ap (λ (s : ℕ). eqb s p.start) (level_start text p n p.start p.start) ∙ eq-eqb p.start p.start refl) ∙ one_place text p n ls

count_places : (text : List ℕ) (at : ℕ) (ps : List Place) → Rising at ps → places at (levels_of text ps) ≡ suc (length ps)
unfolding places levels_of Rising
count_places text at [] r = refl
count_places text at (p ∷ ps) r =
    let n = p.code.brackets in
    let s = level_start text p n p.arm p.link in
    let ls = around_it text p n (levels_of text ps) in
    ap (λ (x : ℕ). cond (eqb x at) (places at ls) (1 + places x ls)) s
    ∙ ap (λ (z : Bool). cond z (places at ls) (1 + places p.start ls)) (ne_eqb p.start at (λ e. omega (arith, e, r.0)))
    ∙ ap (λ (x : ℕ). 1 + x) (one_place text p n (levels_of text ps) ∙ count_places text p.start ps r.1) ∙ (let e : 1 + suc (length ps) ≡ suc (suc (length ps)) = omega arith in e)

codes_count : (ps : List Place) → length (codes ps) ≡ length ps
unfolding codes
codes_count [] = refl
codes_count (p ∷ ps) = ap suc (codes_count ps)

-- An operand's two bytes are those of its remainder.
low_byte : (x : ℕ) → x % 65536 % 256 ≡ x % 256
low_byte x = omega arith

high_byte : (x : ℕ) → x % 65536 / 256 % 256 ≡ x / 256 % 256
high_byte x =
    let q : x % 65536 / 256 ≡ x / 256 % 256 = omega arith in
    let r : x / 256 % 256 % 256 ≡ x / 256 % 256 = omega arith in
    ap (λ (n : ℕ). n % 256) q ∙ r

pub short_operand : (k x : ℕ) → record_bytes k (x % 65536) ≡ record_bytes k x
unfolding shaped_bytes in_bytes
short_operand k x = go (shape k)
  where
    both : (n : ℕ) → operand_bytes n (x % 65536) ≡ operand_bytes n x
    both zero = refl
    both (suc n) = ap₂ (λ (a b : ℕ). a ∷ b ∷ []) (low_byte x) (high_byte x)

    go : (o : Option Shape) → shaped_bytes k (x % 65536) o ≡ shaped_bytes k x o
    go None = refl
    go (Some s) = ap (λ (l : List ℕ). in_bytes 2 s.length ++ (in_bytes 2 k ++ l)) (both s.operands)

short_set : (x a : ℕ) (b : List ℕ) → operand_set (x % 65536) a b ≡ operand_set x a b
unfolding operand_set in_bytes
short_set x a b =
    ap₂ (λ (c d : ℕ). set (set b (a + 4) c) (suc (a + 4)) d) (low_byte x) (high_byte x)

set_long : (x a : ℕ) (b : List ℕ) → length (operand_set x a b) ≡ length b
unfolding operand_set
set_long x a b = length-sets b (a + 4) (in_bytes 2 x)

further : {a b : ℕ} (ps : List Place) → a ≤ b → Rising a ps → Rising b ps
unfolding Rising
further [] l r = tt
further (p ∷ ps) l r = (omega (arith, l, r.0), r.1)

module _ {levels : List CodeLevel} {out : List ℕ} {at : ℕ} {s : Stage} {g : Course} (text : List ℕ) (h : Holds levels out at s g) where
  nothing_more : Grown out s.size s.size g.block
  nothing_more = record { written = h.written; no_less = omega arith }

  -- Another innermost place, with the same around it.
  on_top : {out' : List ℕ} {r : ℕ} (m : Mode) (k : CodeMode) (f : Bool) (q : Place) (b : List ℕ) {c : CodeLevel} → mode_of k ≡ m → q.code ≡ c → Rising q.start g.under → q.start ≤ length b
      → FreshIn m f q (length b) → Grown out' s.size r b → Kept r (at + 1) q
      → Holds levels out' (at + 1) (record { mode = k; fresh = f; size = r; depth = s.depth; next = s.next; top = c }) (course m g.header q g.under b g.next)
  unfolding KeptAll
  on_top m k f q b e t r l x w p = record {
    its_mode = e;
    its_next = h.its_next;
    few_locals = omega (arith, h.few_locals);
    its_top = t;
    its_levels = h.its_levels;
    few_levels = h.few_levels;
    rising = r;
    begun = l;
    its_fresh = x;
    written = w.written;
    kept = (p, kept_more g.under w.no_less (omega arith) h.kept.1);
  }

  -- A record at the end.
  pub put_held : {out' : List ℕ} {r : ℕ} (k v : ℕ) → Grown out' s.size r (g.block ++ record_bytes k (v % 65536))
      → Steps text (Ok (record { mode = After; fresh = s.fresh; size = r; depth = s.depth; next = s.next; top = s.top })) (Holds levels out' (at + 1)) (some (put
      (state_of text g) k v after))
  unfolding state_of mode_of FreshIn KeptAll
  put_held {out'} {r} k v w =
      let e = short_operand k v in
      let w' = subst (λ (x : List ℕ). Grown out' s.size r (g.block ++ x)) e w in
      went (course after g.header g.here g.under (g.block ++ record_bytes k v) g.next) refl (on_top after After s.fresh g.here (g.block ++ record_bytes k v) (refl)
      h.its_top h.rising (omega (arith, h.begun, length-append g.block (record_bytes k v))) (tt) w'
      (kept_one h.kept.0 w'.no_less (omega arith)))

  -- Over 1,024 places.
  too_many : (l : ℕ) → s.depth ≡ 1024 → g.here.start < l → 1025 < places l (levels_of text (g.here ∷ g.under))
  unfolding Rising
  too_many l e m =
      let n = count_places text l (g.here ∷ g.under) (m, h.rising) in
      let c = codes_count g.under in
      let d = ap length h.its_levels ∙ levels_count levels s.depth in
      omega (arith, n, c, d, e)

  -- A level that begins at the end, behind a record or none.
  new_level : {levels' : List CodeLevel} {out' : List ℕ} {r : ℕ} (b : List ℕ) (m : Mode) (k : CodeMode) (l : Scope) (name next : ℕ) → levels_in levels' (s.depth + 1) ≡ s.top ∷ levels_in levels s.depth → (s.depth ≡ 1024 → ⊥)
      → Grown out' s.size r b → g.here.start < length b → mode_of k ≡ m → ((p : Place) (end : ℕ) → FreshAt true p end → FreshIn m true p end) → next ≤ at + 1
      → Holds levels' out' (at + 1)
      (record { mode = k; fresh = true; size = r; depth = s.depth + 1; next = next; top = record { kind = l; start = r; arm = r; link = r; name = name; number = s.next; brackets = 0 } })
      (course m g.header
      (record { code = record { kind = l; start = r; arm = r; link = r; name = name; number = s.next; brackets = 0 }; start = length b; arm = length b; link = length b })
      (g.here ∷ g.under) b next)
  unfolding KeptAll Rising codes FreshAt
  new_level {levels'} {out'} {r} b m k l name next t d w lt e f few =
      let exact : r ≤ 3072 → r ≡ length b = λ h. sym (w.written.counted h) in
      record {
        its_mode = e;
        its_next = refl;
        few_locals = few;
        its_top = refl;
        its_levels = ap₂ (λ (x : CodeLevel) (xs : List CodeLevel). x ∷ xs) h.its_top h.its_levels ∙ sym t;
        few_levels = omega (arith, h.few_levels, d);
        rising = (lt, h.rising);
        begun = omega arith;
        its_fresh = f _ _ (refl, refl, refl);
        written = w.written;
        kept = (record { start_is = exact; arm_is = exact; link_is = exact; few_brackets = omega arith }, kept_more (g.here ∷ g.under) w.no_less (omega arith) h.kept);
      }

  pub open_held : {levels' : List CodeLevel} {out' : List ℕ} {r nx : ℕ} (k v : ℕ) (l : Scope) (m : CodeMode) (name : ℕ) → Sized k → Valid g (Open k v l m) → levels_in levels' (s.depth + 1) ≡ s.top ∷ levels_in levels s.depth → (s.depth ≡ 1024 → ⊥)
      → Grown out' s.size r (g.block ++ record_bytes k (v % 65536)) → nx ≡ next_after l s.next
      → Steps text (Ok (record { mode = m; fresh = true; size = r; depth = s.depth + 1; next = nx; top = record { kind = l; start = r; arm = r; link = r; name = name; number = s.next; brackets = 0 } })) (Holds levels' out' (at + 1))
      (made (word_at text name) (state_of text g) (Open k v l m))
  unfolding state_of made levels_of Valid level_of around_it next_after
  open_held {levels'} {out'} {r} {nx} k v l m name z ok t d w e =
      let b = g.block ++ record_bytes k v in
      let w' = subst (λ (x : List ℕ). Grown out' s.size r (g.block ++ x)) (short_operand k v) w in
      let code : CodeLevel = record { kind = l; start = r; arm = r; link = r; name = name; number = s.next; brackets = 0 } in
      let more : g.here.start < length b = omega (arith, h.begun, length-append g.block (record_bytes k v), z.its_bytes v, z.some_bytes) in
      let held = new_level b (mode_of m) m l name nx t d w' more refl ok (few_next l e) in
      let same = ap (opens l (word_at text name)) h.its_next in
      let after_it : nx ≡ next_after l g.next = e ∙ ap (next_after l) h.its_next in
      subst (Steps text (Ok (record { mode = m; fresh = true; size = r; depth = s.depth + 1; next = nx; top = code })) (Holds levels' out' (at + 1)))
      (λ i. some (state g.header (mode_of m) (level_at (closer_of l) (same i) (length b)) (level_of text g.here g.here.code.brackets g.here.arm g.here.link
      ∷ around_it text g.here g.here.code.brackets (levels_of text g.under)) b (after_it i)))
      (went _ refl held)
    where
      few_next : (l : Scope) → nx ≡ next_after l s.next → nx ≤ at + 1
      few_next Outermost e = omega (arith, e, h.few_locals)
      few_next ThenPart e = omega (arith, e, h.few_locals)
      few_next EndPart e = omega (arith, e, h.few_locals)
      few_next SuspendBody e = omega (arith, e, h.few_locals)
      few_next InBrackets e = omega (arith, e, h.few_locals)
      few_next TrapBody e = omega (arith, e, h.few_locals)
      few_next SignalBody e = omega (arith, e, h.few_locals)

  pub open_burst : {levels' : List CodeLevel} {out' : List ℕ} (k v : ℕ) (l : Scope) (m : CodeMode) (name : ℕ) → Sized k → s.depth ≡ 1024
      → Steps text (Err Deep) (Holds levels' out' (at + 1)) (made (word_at text name) (state_of text g) (Open k v l m))
  unfolding state_of made levels_of
  open_burst k v l m name z e =
      burst refl (too_many (length (g.block ++ record_bytes k v)) e (omega (arith, h.begun, length-append g.block (record_bytes k v), z.its_bytes v, z.some_bytes)))

  -- A bracket of the same place.
  pub bracket_held : {t : CodeLevel} → Valid g Bracket → s.fresh ≡ true
      → t ≡ record { kind = s.top.kind; start = s.top.start; arm = s.top.arm; link = s.top.link; name = s.top.name; number = s.top.number; brackets = s.top.brackets + 1 }
      → Steps text (Ok (record { mode = Due; fresh = s.fresh; size = s.size; depth = s.depth; next = s.next; top = t })) (Holds levels out (at + 1)) (some (opened
      (state_of text g) by_bracket [] g.next due))
  unfolding state_of level_of around_it Valid FreshIn FreshAt mode_of KeptAll opens
  bracket_held {t} ok e f =
      let p = g.here in
      let n = p.code.brackets in
      let c : CodeLevel = record { kind = p.code.kind; start = p.code.start; arm = p.code.arm; link = p.code.link; name = p.code.name; number = p.code.number; brackets = suc n } in
      let q : Place = record { code = c; start = p.start; arm = p.arm; link = p.link } in
      let fr : FreshAt true p (length g.block) = subst (λ (z : Bool). FreshAt z p (length g.block)) e (ok s.fresh h.its_fresh) in
      let alike : Alike text q p = record { same_closer = refl; same_names = refl; same_start = refl } in
      let more : t ≡ c = f ∙ sym (λ i. record {
        kind = (h.its_top i).kind;
        start = (h.its_top i).start;
        arm = (h.its_top i).arm;
        link = (h.its_top i).link;
        name = (h.its_top i).name;
        number = (h.its_top i).number;
        brackets = (h.its_top i).brackets + 1;
      }) ∙
      (let a : n + 1 ≡ suc n = omega arith in λ i. record {
        kind = p.code.kind;
        start = p.code.start;
        arm = p.code.arm;
        link = p.code.link;
        name = p.code.name;
        number = p.code.number;
        brackets = a i;
      }) in
      let k = h.kept.0 in
      subst (Steps text (Ok (record { mode = Due; fresh = s.fresh; size = s.size; depth = s.depth; next = s.next; top = t })) (Holds levels out (at + 1)))
      (λ i. some (state g.header due (record { closer = by_bracket; declares = []; start = fr.0 i; arm = (fr.1 ∙ fr.0) i; link = (fr.2 ∙ fr.0) i })
      ((alike_level alike n p.start p.start ∙ ap₂ (level_of text p n) (sym fr.1) (sym fr.2)) i ∷ alike_around alike n (levels_of text g.under) i) g.block g.next))
      (went (course due g.header q g.under g.block g.next) refl (on_top due Due s.fresh q g.block (refl) (sym more) h.rising h.begun (subst (λ (z : Bool). FreshAt z q
      (length g.block)) (sym e) fr) nothing_more
      (record { start_is = k.start_is; arm_is = k.arm_is; link_is = k.link_is; few_brackets = omega (arith, k.few_brackets) })))

  -- A bracket that begins a place.
  begins : Valid g Bracket → s.fresh ≡ false → g.here.start < length g.block
  unfolding Valid FreshAt
  begins ok e = subst (λ (z : Bool). FreshAt z g.here (length g.block)) e (ok s.fresh h.its_fresh)

  pub bracket_opened : {levels' : List CodeLevel} → Valid g Bracket → s.fresh ≡ false → levels_in levels' (s.depth + 1) ≡ s.top ∷ levels_in levels s.depth → (s.depth ≡ 1024 → ⊥)
      → Steps text (Ok (record {
        mode = Due;
        fresh = true;
        size = s.size;
        depth = s.depth + 1;
        next = s.next;
        top = record { kind = InBrackets; start = s.size; arm = s.size; link = s.size; name = 0; number = 0; brackets = 0 };
      })) (Holds levels' out (at + 1))
      (some (opened (state_of text g) by_bracket [] g.next due))
  unfolding state_of level_of around_it levels_of opens closer_of mode_of FreshIn KeptAll Rising codes FreshAt
  bracket_opened {levels'} ok e t d =
      let exact : s.size ≤ 3072 → s.size ≡ length g.block = λ k. sym (h.written.counted k) in
      went (course due g.header (record {
        code = record { kind = InBrackets; start = s.size; arm = s.size; link = s.size; name = 0; number = 0; brackets = 0 };
        start = length g.block;
        arm = length g.block;
        link = length g.block;
      }) (g.here ∷ g.under) g.block g.next) refl (record {
        its_mode = refl;
        its_next = h.its_next;
        few_locals = omega (arith, h.few_locals);
        its_top = refl;
        its_levels = ap₂ (λ (x : CodeLevel) (xs : List CodeLevel). x ∷ xs) h.its_top h.its_levels ∙ sym t;
        few_levels = omega (arith, h.few_levels, d);
        rising = (begins ok e, h.rising);
        begun = omega arith;
        its_fresh = (refl, refl, refl);
        written = h.written;
        kept = (record { start_is = exact; arm_is = exact; link_is = exact; few_brackets = omega arith }, kept_more (g.here ∷ g.under) (omega arith) (omega arith) h.kept);
      })

  pub bracket_burst : {levels' : List CodeLevel} → Valid g Bracket → s.fresh ≡ false → s.depth ≡ 1024
      → Steps text (Err Deep) (Holds levels' out (at + 1)) (some (opened (state_of text g) by_bracket [] g.next due))
  unfolding state_of levels_of
  bracket_burst ok e d = burst refl (too_many (length g.block) d (begins ok e))

  -- A bracket of the place closed, and the place closed.
  pub close_bracket : {t : CodeLevel} (m : CodeMode) → Valid g (Close m) → 0 < s.top.brackets
      → t ≡ record { kind = s.top.kind; start = s.top.start; arm = s.top.start; link = s.top.start; name = s.top.name; number = s.top.number; brackets = s.top.brackets - 1 }
      → Steps text (Ok (record { mode = m; fresh = s.fresh; size = s.size; depth = s.depth; next = s.next; top = t })) (Holds levels out (at + 1)) (popped
      (state_of text g).below (state_of text g) (mode_of m))
  unfolding state_of around_it popped Valid KeptAll opens
  close_bracket {t} m ok l f = go g.here.code.brackets refl
    where
      go : (n : ℕ) → g.here.code.brackets ≡ n
          → Steps text (Ok (record { mode = m; fresh = s.fresh; size = s.size; depth = s.depth; next = s.next; top = t })) (Holds levels out (at + 1))
          (popped (around_it text g.here n (levels_of text g.under)) (state g.header g.mode (level_of text g.here n g.here.arm g.here.link)
          (around_it text g.here n (levels_of text g.under)) g.block g.next) (mode_of m))
      go zero e = absurd (omega (arith, l, e, ap (λ (c : CodeLevel). c.brackets) h.its_top))
      go (suc n) e =
          let c : CodeLevel = record {
            kind = g.here.code.kind;
            start = g.here.code.start;
            arm = g.here.code.start;
            link = g.here.code.start;
            name = g.here.code.name;
            number = g.here.code.number;
            brackets = n;
          } in
          let q : Place = record { code = c; start = g.here.start; arm = g.here.start; link = g.here.start } in
          let alike : Alike text q g.here = record { same_closer = refl; same_names = refl; same_start = refl } in
          let b : s.top.brackets - 1 ≡ n = omega (arith, e, ap (λ (c : CodeLevel). c.brackets) h.its_top) in
          let it = sym h.its_top in
          let less : t ≡ c = f ∙ (λ i. record {
            kind = (it i).kind;
            start = (it i).start;
            arm = (it i).start;
            link = (it i).start;
            name = (it i).name;
            number = (it i).number;
            brackets = b i;
          }) in
          let k = h.kept.0 in
          subst (Steps text (Ok (record { mode = m; fresh = s.fresh; size = s.size; depth = s.depth; next = s.next; top = t })) (Holds levels out (at + 1)))
          (λ i. some (state g.header (mode_of m) (alike_level alike n g.here.start g.here.start i) (alike_around alike n (levels_of text g.under) i) g.block g.next))
          (went (course (mode_of m) g.header q g.under g.block g.next) refl (on_top (mode_of m) m s.fresh q g.block refl (sym less) h.rising h.begun
          (ok _ _ _) nothing_more
          (record { start_is = k.start_is; arm_is = k.start_is; link_is = k.start_is; few_brackets = omega (arith, k.few_brackets, e) })))

  pub close_none : (m : CodeMode) → s.top.brackets ≡ 0 → s.depth ≡ 0 → Steps text (Err Grammar) (Holds levels out (at + 1)) (popped (state_of text g).below (state_of text g)
      (mode_of m))
  unfolding state_of around_it popped levels_of levels_in codes
  close_none m b d = go g.here.code.brackets g.under (ap (λ (c : CodeLevel). c.brackets) h.its_top ∙ b) (ap length h.its_levels ∙ levels_count levels s.depth ∙ d)
    where
      go : (n : ℕ) (ps : List Place) → n ≡ 0 → length (codes ps) ≡ 0
          → Steps text (Err Grammar) (Holds levels out (at + 1)) (popped (around_it text g.here n (levels_of text ps)) (state_of text g) (mode_of m))
      go zero [] e f = faulted refl
      go zero (p ∷ ps) e f = absurd (omega (arith, f))
      go (suc n) ps e f = absurd (omega (arith, e))

  pub close_place : {l : CodeLevel} (m : CodeMode) → Valid g (Close m) → s.top.brackets ≡ 0 → (s.depth ≡ 0 → ⊥) → l ≡ level_in levels (s.depth - 1)
      → Steps text (Ok (record { mode = m; fresh = s.fresh; size = s.size; depth = s.depth - 1; next = s.next; top = l })) (Holds levels out (at + 1))
      (popped (state_of text g).below (state_of text g) (mode_of m))
  unfolding state_of around_it popped levels_of levels_in codes Valid Rising KeptAll
  close_place {l} m ok b d f =
      go g.here.code.brackets g.under (ap (λ (c : CodeLevel). c.brackets) h.its_top ∙ b) s.depth refl h.its_levels h.rising h.kept.1
    where
      go : (n : ℕ) (ps : List Place) → n ≡ 0 → (i : ℕ) → s.depth ≡ i → codes ps ≡ levels_in levels i → Rising g.here.start ps → KeptAll s.size at ps
          → Steps text (Ok (record { mode = m; fresh = s.fresh; size = s.size; depth = s.depth - 1; next = s.next; top = l })) (Holds levels out (at + 1))
          (popped (around_it text g.here n (levels_of text ps)) (state_of text g) (mode_of m))
      go (suc n) ps e i j c r k = absurd (omega (arith, e))
      go zero ps e zero j c r k = absurd (d j)
      go zero [] e (suc i) j c r k = absurd (omega (arith, ap length c))
      go zero (p ∷ ps) e (suc i) j c r k =
          let x : s.depth - 1 ≡ i = omega (arith, j) in
          let hd : p.code ≡ level_in levels i = cc in
          let tl : codes ps ≡ levels_in levels i = cc in
          went (course (mode_of m) g.header p ps g.block g.next) refl (record {
            its_mode = refl;
            its_next = h.its_next;
            few_locals = omega (arith, h.few_locals);
            its_top = hd ∙ sym (f ∙ ap (level_in levels) x);
            its_levels = tl ∙ sym (ap (levels_in levels) x);
            few_levels = omega (arith, h.few_levels, j);
            rising = r.1;
            begun = omega (arith, h.begun, r.0);
            its_fresh = ok _ _ _;
            written = h.written;
            kept = kept_more (p ∷ ps) (omega arith) (omega arith) k;
          })

  -- A record before the last basic statement, and before the last arm.
  between_held : {out' : List ℕ} {r : ℕ} (b : List ℕ) (a : ℕ) (ca : ℕ) → Grown out' s.size r b → length g.block < length b → (r ≤ 3072 → ca ≡ a)
      → Holds levels out' (at + 1) (record {
        mode = Due;
        fresh = false;
        size = r;
        depth = s.depth;
        next = s.next;
        top = record { kind = s.top.kind; start = s.top.start; arm = ca; link = r; name = s.top.name; number = s.top.number; brackets = s.top.brackets };
      })
      (course due g.header
      (record {
        code = record { kind = s.top.kind; start = s.top.start; arm = ca; link = r; name = s.top.name; number = s.top.number; brackets = s.top.brackets };
        start = g.here.start;
        arm = a;
        link = length b;
      }) g.under b g.next)
  unfolding mode_of FreshIn FreshAt KeptAll
  between_held {out'} {r} b a ca w l e =
      let k = h.kept.0 in
      let st : s.top.start ≡ g.here.code.start = ap (λ (c : CodeLevel). c.start) (sym h.its_top) in
      let br : s.top.brackets ≡ g.here.code.brackets = ap (λ (c : CodeLevel). c.brackets) (sym h.its_top) in
      on_top due Due false _ b (refl) (refl) h.rising (omega (arith, h.begun, l)) (omega (arith, h.begun, l)) w
      (record { start_is = λ x. st ∙ k.start_is (omega (arith, x, w.no_less)); arm_is = e; link_is = λ x. sym (w.written.counted x); few_brackets = omega (arith, k.few_brackets, br) })

  -- The place after it is alike the place before.
  still_alike : (a k ca ck : ℕ) → Alike text
      (record {
        code = record { kind = s.top.kind; start = s.top.start; arm = ca; link = ck; name = s.top.name; number = s.top.number; brackets = s.top.brackets };
        start = g.here.start;
        arm = a;
        link = k;
      }) g.here
  unfolding opens
  still_alike a k ca ck =
      let e = sym h.its_top in
      record { same_closer = ap (λ (c : CodeLevel). closer_of c.kind) e; same_names = ap (level_declares text) e; same_start = refl }

  longer_by : (k a : ℕ) → Short k → length g.block < length (inserted k a g.block)
  longer_by k a z =
      let b = g.block in
      omega (arith, length-append (take a b) (record_bytes k 0 ++ drop a b), length-append (record_bytes k 0) (drop a b), length-take a b, length-drop a b, z.sized.its_bytes 0, z.four_bytes)

  -- The state after it, by its parts.
  sequenced_as : (n : ℕ) (ls : List Level) → sequenced (state g.header g.mode (level_of text g.here n g.here.arm g.here.link) ls g.block g.next)
      ≡ state g.header due (level_of text g.here n g.here.arm (length (inserted 21 g.here.link g.block))) ls (inserted 21 g.here.link g.block) g.next
  unfolding level_of
  sequenced_as zero ls = refl
  sequenced_as (suc n) ls = refl

  paralleled_as : (n : ℕ) (ls : List Level) → paralleled (state g.header g.mode (level_of text g.here n g.here.arm g.here.link) ls g.block g.next)
      ≡ state g.header due (level_of text g.here n (length (inserted 23 g.here.arm g.block)) (length (inserted 23 g.here.arm g.block))) ls (inserted 23 g.here.arm
      g.block) g.next
  unfolding level_of
  paralleled_as zero ls = refl
  paralleled_as (suc n) ls = refl

  whened_as : (n v : ℕ) (ls : List Level) → whened (state g.header g.mode (level_of text g.here n g.here.arm g.here.link) ls g.block g.next) v
      ≡ state g.header after (level_of text g.here n g.here.arm g.here.link) ls (operand_set v g.here.link g.block) g.next
  unfolding level_of
  whened_as zero v ls = refl
  whened_as (suc n) v ls = refl

  -- The same levels at a place that is alike, with as many brackets.
  put_back : (q : Place) (m : Mode) (b : List ℕ) → Alike text q g.here → q.code.brackets ≡ g.here.code.brackets
      → state_of text (course m g.header q g.under b g.next)
      ≡ state g.header m (level_of text g.here g.here.code.brackets q.arm q.link) (around_it text g.here g.here.code.brackets (levels_of text g.under)) b g.next
  unfolding state_of
  put_back q m b e f =
      let n = g.here.code.brackets in
      ap₂ (λ (l : Level) (ls : List Level). state g.header m l ls b g.next)
      (ap (λ (i : ℕ). level_of text q i q.arm q.link) f ∙ alike_level e n q.arm q.link)
      (ap (λ (i : ℕ). around_it text q i (levels_of text g.under)) f ∙ alike_around e n (levels_of text g.under))

  pub sequence_held : {out' : List ℕ} {r : ℕ} → Short 21 → Grown out' s.size r (inserted 21 g.here.link g.block)
      → Steps text (Ok (record {
        mode = Due;
        fresh = false;
        size = r;
        depth = s.depth;
        next = s.next;
        top = record { kind = s.top.kind; start = s.top.start; arm = s.top.arm; link = r; name = s.top.name; number = s.top.number; brackets = s.top.brackets };
      })) (Holds levels out' (at + 1))
      (some (sequenced (state_of text g)))
  unfolding state_of KeptAll
  sequence_held {out'} {r} z w =
      let n = g.here.code.brackets in
      let b = inserted 21 g.here.link g.block in
      let ar : s.top.arm ≡ g.here.code.arm = ap (λ (c : CodeLevel). c.arm) (sym h.its_top) in
      let br : s.top.brackets ≡ n = ap (λ (c : CodeLevel). c.brackets) (sym h.its_top) in
      subst (Steps text (Ok (record {
        mode = Due;
        fresh = false;
        size = r;
        depth = s.depth;
        next = s.next;
        top = record { kind = s.top.kind; start = s.top.start; arm = s.top.arm; link = r; name = s.top.name; number = s.top.number; brackets = s.top.brackets };
      })) (Holds levels out' (at + 1)))
      (ap some (put_back _ due b (still_alike g.here.arm (length b) s.top.arm r) br ∙ sym (sequenced_as n (around_it text g.here n (levels_of text g.under)))))
      (went _ refl (between_held b g.here.arm s.top.arm w (longer_by 21 g.here.link z) (λ x. ar ∙ h.kept.0.arm_is (omega (arith, x, w.no_less)))))

  pub parallel_held : {out' : List ℕ} {r : ℕ} → Short 23 → Grown out' s.size r (inserted 23 g.here.arm g.block)
      → Steps text (Ok (record {
        mode = Due;
        fresh = false;
        size = r;
        depth = s.depth;
        next = s.next;
        top = record { kind = s.top.kind; start = s.top.start; arm = r; link = r; name = s.top.name; number = s.top.number; brackets = s.top.brackets };
      })) (Holds levels out' (at + 1))
      (some (paralleled (state_of text g)))
  unfolding state_of KeptAll
  parallel_held {out'} {r} z w =
      let n = g.here.code.brackets in
      let b = inserted 23 g.here.arm g.block in
      let br : s.top.brackets ≡ n = ap (λ (c : CodeLevel). c.brackets) (sym h.its_top) in
      subst (Steps text (Ok (record {
        mode = Due;
        fresh = false;
        size = r;
        depth = s.depth;
        next = s.next;
        top = record { kind = s.top.kind; start = s.top.start; arm = r; link = r; name = s.top.name; number = s.top.number; brackets = s.top.brackets };
      })) (Holds levels out' (at + 1)))
      (ap some (put_back _ due b (still_alike (length b) (length b) r r) br ∙ sym (paralleled_as n (around_it text g.here n (levels_of text g.under)))))
      (went _ refl (between_held b (length b) r w (longer_by 23 g.here.arm z) (λ x. sym (w.written.counted x))))

  -- The second part of a present.
  pub turn_held : Valid g Turn
      → Steps text (Ok (record {
        mode = Due;
        fresh = true;
        size = s.size;
        depth = s.depth;
        next = s.next;
        top = record { kind = EndPart; start = s.size; arm = s.size; link = s.size; name = 0; number = 0; brackets = 0 };
      })) (Holds levels out (at + 1))
      (some (turned (state_of text g)))
  unfolding state_of level_of around_it opens closer_of mode_of FreshIn FreshAt KeptAll Valid
  turn_held ok =
      let exact : s.size ≤ 3072 → s.size ≡ length g.block = λ k. sym (h.written.counted k) in
      subst (Steps text (Ok (record {
        mode = Due;
        fresh = true;
        size = s.size;
        depth = s.depth;
        next = s.next;
        top = record { kind = EndPart; start = s.size; arm = s.size; link = s.size; name = 0; number = 0; brackets = 0 };
      })) (Holds levels out (at + 1)))
      (ap (λ (n : ℕ). some (state g.header due (level_at by_end [] (length g.block)) (around_it text g.here n (levels_of text g.under)) g.block g.next)) (sym ok))
      (went (course due g.header (record {
        code = record { kind = EndPart; start = s.size; arm = s.size; link = s.size; name = 0; number = 0; brackets = 0 };
        start = length g.block;
        arm = length g.block;
        link = length g.block;
      }) g.under g.block g.next) refl (on_top due Due true _ g.block (refl) (refl) (further g.under h.begun h.rising) (omega arith) ((refl, refl, refl)) nothing_more
      (record { start_is = exact; arm_is = exact; link_is = exact; few_brackets = omega arith })))

  -- The signal of a suspend.
  pub when_held : {out' : List ℕ} (v : ℕ) → Written out' s.size (operand_set (v % 65536) g.here.link g.block)
      → Steps text (Ok (record { mode = After; fresh = s.fresh; size = s.size; depth = s.depth; next = s.next; top = s.top })) (Holds levels out' (at + 1)) (some (whened
      (state_of text g) v))
  unfolding state_of mode_of FreshIn KeptAll
  when_held {out'} v w =
      let n = g.here.code.brackets in
      let w' = subst (Written out' s.size) (short_set v g.here.link g.block) w in
      let same = set_long v g.here.link g.block in
      subst (Steps text (Ok (record { mode = After; fresh = s.fresh; size = s.size; depth = s.depth; next = s.next; top = s.top })) (Holds levels out' (at + 1)))
      (ap some (sym (whened_as n v (around_it text g.here n (levels_of text g.under)))))
      (went (course after g.header g.here g.under (operand_set v g.here.link g.block) g.next) refl (on_top after After s.fresh g.here (operand_set v g.here.link
      g.block) (refl) h.its_top h.rising (omega (arith, h.begun, same)) (tt) (record { written = w'; no_less = omega arith })
      (kept_one h.kept.0 (omega arith) (omega arith))))

  -- The code's marks while the records are kept.
  pub link_right : s.size ≤ 3072 → s.top.link ≡ g.here.link
  unfolding KeptAll
  link_right l = ap (λ (c : CodeLevel). c.link) (sym h.its_top) ∙ h.kept.0.link_is l

  pub arm_right : s.size ≤ 3072 → s.top.arm ≡ g.here.arm
  unfolding KeptAll
  arm_right l = ap (λ (c : CodeLevel). c.arm) (sym h.its_top) ∙ h.kept.0.arm_is l

  -- Another mode.
  pub to_held : (m : CodeMode) → Valid g (To m)
      → Steps text (Ok (record { mode = m; fresh = s.fresh; size = s.size; depth = s.depth; next = s.next; top = s.top })) (Holds levels out (at + 1)) (some (to
      (state_of text g) (mode_of m)))
  unfolding state_of Valid KeptAll
  to_held m ok =
      went (course (mode_of m) g.header g.here g.under g.block g.next) refl (on_top (mode_of m) m s.fresh g.here g.block refl h.its_top h.rising
      h.begun (ok _ h.its_fresh) nothing_more
      (kept_one h.kept.0 (omega arith) (omega arith)))

pub same_move : {levels : List CodeLevel} {out : List ℕ} {s : Stage} {name : ℕ} {m m' : Move} {levels' : List CodeLevel} {out' : List ℕ} {r : Result Stage Refused} → m ≡ m' → Does levels out s name m' levels' out' r
    → Does levels out s name m levels' out' r
same_move {levels} {out} {s} {name} {m} {m'} {levels'} {out'} {r} e d = subst (λ (x : Move). Does levels out s name x levels' out' r) (sym e) d

-- What is held stays so while more of the text is read; and not over 1,024 places are open.
pub held_on : {levels : List CodeLevel} {out : List ℕ} {at to : ℕ} {s : Stage} {g : Course} → at ≤ to → Holds levels out at s g → Holds levels out to s g
held_on {g = g} l h = record {
  its_mode = h.its_mode;
  its_next = h.its_next;
  few_locals = omega (arith, h.few_locals, l);
  its_top = h.its_top;
  its_levels = h.its_levels;
  few_levels = h.few_levels;
  rising = h.rising;
  begun = h.begun;
  its_fresh = h.its_fresh;
  written = h.written;
  kept = kept_more (g.here ∷ g.under) (omega arith) l h.kept;
}

pub few_places : {levels : List CodeLevel} {out : List ℕ} {at : ℕ} {s : Stage} {g : Course} (text : List ℕ) → Holds levels out at s g → places (state_of text g).top.start (state_of text g).below ≤ 1025
unfolding state_of
few_places {levels} {s = s} {g = g} text h =
    let p = g.here in
    let n = p.code.brackets in
    let e = ap (λ (x : ℕ). places x (around_it text p n (levels_of text g.under))) (level_start text p n p.arm p.link) ∙ one_place text p n (levels_of text g.under)
    ∙ count_places text p.start g.under h.rising in
    let c = codes_count g.under in
    let d = ap length h.its_levels ∙ levels_count levels s.depth in
    omega (arith, e, c, d, h.few_levels)
