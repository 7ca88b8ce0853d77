-- The corridors of a part, row by row: what stands ahead is a list of statements of the form one after the other, a parallel's arms take its place, and every other statement gives at most
-- one corridor and is passed with all below it. One lemma for each way round the loop. Assumes nothing.
use mathlib.Core.Path.{◌≡◌, refl, sym, ◌∙◌, ap, ap₂, subst, subst⁻¹}
use mathlib.Core.Bool.{Bool, true, false, cond, true≢false}
use mathlib.Core.List.{List, [], ◌∷◌, ◌++◌, append-nil, append_assoc}
use mathlib.Core.Option.{none, some}
use Prim.Native.Nat.{ℕ, zero, suc, ◌+◌, ◌-◌, ◌≤◌, ◌<◌}
use native.Mathlib.Omega.{arith}
use lib.Dec.{eqb}
use lib.ListN.{get_or}
use Rattle.rules.specs.Statements.{Stmt, nothing, emit, present?◌then◌else◌, ◌parallel◌}
use Rattle.tables.specs.Table.{Has, kind_of, operand_of, statements}
use Rattle.tables.specs.declared.Table.{Table}
use Rattle.tables.proofs.Rows.{has_row, some_statement}
use Rattle.mazes.specs.Mazes.{OfForm, an_emit, with_then, with_else, a_parallel, Corridor, visible, gate, dungeon, corridors, nth}
use Rattle.maze.specs.declared.Corridor.TheVariants.{NoMore}
use Rattle.maze.specs.Ways.{Way, way_by, corridor_told, gives_one, all_rows, all_corridors, Stand}

module _ (tab : Table) (a i : ℕ) (t : Stmt) (n : ℕ) where
  pub record Going (j left : ℕ) : Type 0 where
    pub rest : List Stmt
    pub stand : Stand tab j rest
    pub reach : j + all_rows rest ≡ i + statements t
    pub same_way : nth (corridors a i t) n ≡ nth (all_corridors a j rest) left

  pub begins : OfForm t → Has tab i t → Going i n
  unfolding Stand all_rows all_corridors
  begins f h = record {
    rest = t ∷ [];
    stand = (f, h, tt);
    reach = omega arith;
    same_way = ap (λ (cs : List Corridor). nth cs n) (sym (append-nil (corridors a i t)));
  }

  pub ends : {j left : ℕ} → Going j left → i + statements t ≤ j → nth (corridors a i t) n ≡ none
  unfolding all_rows all_corridors nth
  ends {j} {left} g l = go g.rest g.reach g.same_way
    where
      go : (ps : List Stmt) → j + all_rows ps ≡ i + statements t → nth (corridors a i t) n ≡ nth (all_corridors a j ps) left → nth (corridors a i t) n ≡ none
      go [] e w = w
      go (p ∷ ps) e w = absurd (omega (arith, some_statement p))

-- What the first of the statements ahead gives, by its row's kind k and operand x, and how far it is passed: one corridor, none, or its arms come next.
module _ (tab : Table) (a : ℕ) where
  data Head (j on k x : ℕ) (p : Stmt) : Type 0 where
    one : corridors a j p ≡ visible (cond (eqb k 19) (gate j a) dungeon) ∷ [] → on ≡ statements p → gives_one k x a ≡ true → Head j on k x p
    not_one : corridors a j p ≡ [] → on ≡ statements p → gives_one k x a ≡ false → Head j on k x p
    arms : (q r : Stmt) → OfForm q → OfForm r → Has tab (j + 1) q → Has tab (j + 1 + statements q) r → p ≡ (q parallel r) → on ≡ 1 → gives_one k x a ≡ false → Head j on k x p

  at_emit : (j on s : ℕ) → on ≡ 1 → Head j on 18 s (emit s)
  unfolding gives_one corridors statements
  at_emit j on s e = go (eqb a s) refl
    where
      go : (z : Bool) → eqb a s ≡ z → Head j on 18 s (emit s)
      go true q = one (ap (λ (y : Bool). cond y (visible dungeon ∷ []) []) q) e q
      go false q = not_one (ap (λ (y : Bool). cond y (visible dungeon ∷ []) []) q) e q

  at_test : (j on s : ℕ) (p q : Stmt) → on ≡ statements (present? s then p else q) → Head j on 19 s (present? s then p else q)
  unfolding gives_one corridors
  at_test j on s p q e = one refl e refl

  at_arms : (j on : ℕ) (q r : Stmt) → OfForm q → OfForm r → Has tab j (q parallel r) → on ≡ 1 → Head j on 23 0 (q parallel r)
  unfolding gives_one Has
  at_arms j on q r f g h e = arms q r f g h.1 h.2 refl e refl

  not_a_test : (k : ℕ) {m : ℕ} → m ≡ k → (m ≡ 19 → ⊥) → k ≡ 19 → ⊥
  not_a_test k e f d = f (e ∙ d)

  head : (j on k x size : ℕ) {p : Stmt} → OfForm p → Has tab j p → k ≡ get_or tab.kinds j 0 → x ≡ get_or tab.operands j 0 → size ≡ get_or tab.sizes j 0
      → (k ≡ 19 → 1 ≤ size → on ≡ size) → ((k ≡ 19 → ⊥) → on ≡ 1) → Head j on k x p
  unfolding kind_of operand_of
  head j on k x size (an_emit s) h ek ex en f g =
      let r = has_row (emit s) h in
      let dk : k ≡ 18 = ek ∙ r.its_kind in
      let dx : x ≡ s = ex ∙ r.its_operand in
      subst⁻¹ (λ (m : ℕ). Head j on m x (emit s)) dk
      (subst⁻¹ (λ (m : ℕ). Head j on 18 m (emit s)) dx (at_emit j on s (g (λ e. let z : 18 ≡ 19 = sym dk ∙ e in absurd (omega arith)))))
  head j on k x size (with_then s {p} u) h ek ex en f g =
      let r = has_row (present? s then p else nothing) h in
      let dk : k ≡ 19 = ek ∙ r.its_kind in
      let dx : x ≡ s = ex ∙ r.its_operand in
      let dn : size ≡ statements (present? s then p else nothing) = en ∙ r.its_size in
      subst⁻¹ (λ (m : ℕ). Head j on m x (present? s then p else nothing)) dk
      (subst⁻¹ (λ (m : ℕ). Head j on 19 m (present? s then p else nothing)) dx
      (at_test j on s p nothing (f dk (subst⁻¹ (λ (m : ℕ). 1 ≤ m) dn (some_statement (present? s then p else nothing))) ∙ dn)))
  head j on k x size (with_else s {q} u) h ek ex en f g =
      let r = has_row (present? s then nothing else q) h in
      let dk : k ≡ 19 = ek ∙ r.its_kind in
      let dx : x ≡ s = ex ∙ r.its_operand in
      let dn : size ≡ statements (present? s then nothing else q) = en ∙ r.its_size in
      subst⁻¹ (λ (m : ℕ). Head j on m x (present? s then nothing else q)) dk
      (subst⁻¹ (λ (m : ℕ). Head j on 19 m (present? s then nothing else q)) dx
      (at_test j on s nothing q (f dk (subst⁻¹ (λ (m : ℕ). 1 ≤ m) dn (some_statement (present? s then nothing else q))) ∙ dn)))
  head j on k x size (a_parallel {p} {q} u v) h ek ex en f g =
      let r = has_row (p parallel q) h in
      let dk : k ≡ 23 = ek ∙ r.its_kind in
      let dx : x ≡ 0 = ex ∙ r.its_operand in
      subst⁻¹ (λ (m : ℕ). Head j on m x (p parallel q)) dk
      (subst⁻¹ (λ (m : ℕ). Head j on 23 m (p parallel q)) dx (at_arms j on p q u v h (g (λ e. let z : 23 ≡ 19 = sym dk ∙ e in absurd (omega arith)))))

drop_one : (c : Corridor) (cs : List Corridor) (left : ℕ) → (left ≡ 0 → ⊥) → nth (c ∷ cs) left ≡ nth cs (left - 1)
unfolding nth
drop_one c cs zero f = absurd (f refl)
drop_one c cs (suc m) f = ap (nth cs) (omega arith)

-- Round the loop: the corridor is found, or one is passed, or a row without one.
module _ (tab : Table) (a i : ℕ) (t : Stmt) (n j left on k x size : ℕ) (g : Going tab a i t n j left) (l : j < i + statements t)
    (ek : k ≡ get_or tab.kinds j 0) (ex : x ≡ get_or tab.operands j 0) (en : size ≡ get_or tab.sizes j 0)
    (f : k ≡ 19 → 1 ≤ size → on ≡ size) (f' : (k ≡ 19 → ⊥) → on ≡ 1) where
  pub found : gives_one k x a ≡ true → left ≡ 0 → nth (corridors a i t) n ≡ some (visible (cond (eqb k 19) (gate j a) dungeon))
  unfolding all_rows all_corridors Stand nth
  found z e = go g.rest g.stand g.reach g.same_way
    where
      go : (ps : List Stmt) → Stand tab j ps → j + all_rows ps ≡ i + statements t → nth (corridors a i t) n ≡ nth (all_corridors a j ps) left
          → nth (corridors a i t) n ≡ some (visible (cond (eqb k 19) (gate j a) dungeon))
      go [] st rc w = absurd (omega (arith, rc, l))
      go (p ∷ ps) st rc w = by (head tab a j on k x size st.0 st.1 ek ex en f f')
        where
          by : Head tab a j on k x p → nth (corridors a i t) n ≡ some (visible (cond (eqb k 19) (gate j a) dungeon))
          by (one c o y) = w ∙ ap₂ (λ (cs : List Corridor) (m : ℕ). nth (cs ++ all_corridors a (j + statements p) ps) m) c e
          by (not_one c o y) = absurd (true≢false (sym z ∙ y))
          by (arms q r u v hq hr c o y) = absurd (true≢false (sym z ∙ y))

  pub further : gives_one k x a ≡ true → (left ≡ 0 → ⊥) → Going tab a i t n (j + on) (left - 1)
  unfolding all_rows all_corridors Stand
  further z e = go g.rest g.stand g.reach g.same_way
    where
      go : (ps : List Stmt) → Stand tab j ps → j + all_rows ps ≡ i + statements t → nth (corridors a i t) n ≡ nth (all_corridors a j ps) left
          → Going tab a i t n (j + on) (left - 1)
      go [] st rc w = absurd (omega (arith, rc, l))
      go (p ∷ ps) st rc w = by (head tab a j on k x size st.0 st.1 ek ex en f f')
        where
          by : Head tab a j on k x p → Going tab a i t n (j + on) (left - 1)
          by (one c o y) = record {
            rest = ps;
            stand = subst⁻¹ (λ (m : ℕ). Stand tab (j + m) ps) o st.2;
            reach = omega (arith, o, rc);
            same_way = w ∙ ap (λ (cs : List Corridor). nth (cs ++ all_corridors a (j + statements p) ps) left) c
                ∙ drop_one (visible (cond (eqb k 19) (gate j a) dungeon)) (all_corridors a (j + statements p) ps) left e
                ∙ ap (λ (m : ℕ). nth (all_corridors a (j + m) ps) (left - 1)) (sym o);
          }
          by (not_one c o y) = absurd (true≢false (sym z ∙ y))
          by (arms q r u v hq hr c o y) = absurd (true≢false (sym z ∙ y))

  pub passing : gives_one k x a ≡ false → Going tab a i t n (j + on) left
  unfolding all_rows all_corridors Stand corridors statements
  passing z = go g.rest g.stand g.reach g.same_way
    where
      go : (ps : List Stmt) → Stand tab j ps → j + all_rows ps ≡ i + statements t → nth (corridors a i t) n ≡ nth (all_corridors a j ps) left
          → Going tab a i t n (j + on) left
      go [] st rc w = absurd (omega (arith, rc, l))
      go (p ∷ ps) st rc w = by (head tab a j on k x size st.0 st.1 ek ex en f f')
        where
          by : Head tab a j on k x p → Going tab a i t n (j + on) left
          by (one c o y) = absurd (true≢false (sym y ∙ z))
          by (not_one c o y) = record {
            rest = ps;
            stand = subst⁻¹ (λ (m : ℕ). Stand tab (j + m) ps) o st.2;
            reach = omega (arith, o, rc);
            same_way = w ∙ ap (λ (cs : List Corridor). nth (cs ++ all_corridors a (j + statements p) ps) left) c
                ∙ ap (λ (m : ℕ). nth (all_corridors a (j + m) ps) left) (sym o);
          }
          by (arms q r u v hq hr c o y) =
              let sp : statements p ≡ 1 + statements q + statements r = ap statements c in
              let at : j + statements p ≡ j + 1 + statements q + statements r = omega (arith, sp) in
              let R = all_corridors a (j + statements p) ps in
              record {
                rest = q ∷ r ∷ ps;
                stand = subst⁻¹ (λ (m : ℕ). Stand tab (j + m) (q ∷ r ∷ ps)) o (u, hq, (v, hr, subst (λ (m : ℕ). Stand tab m ps) at st.2));
                reach = omega (arith, o, rc, sp);
                same_way = w ∙ ap (λ (cs : List Corridor). nth (cs ++ R) left) (ap (corridors a j) c)
                    ∙ ap (λ (cs : List Corridor). nth cs left) (append_assoc (corridors a (j + 1) q) (corridors a (j + 1 + statements q) r) R)
                    ∙ ap (λ (m : ℕ). nth (corridors a (j + 1) q ++ (corridors a (j + 1 + statements q) r ++ all_corridors a m ps)) left) at
                    ∙ ap (λ (m : ℕ). nth (all_corridors a (j + m) (q ∷ r ∷ ps)) left) (sym o);
              }

-- What is told of the end and of the corridor found.
pub none_told : (cs : List Corridor) (n : ℕ) → nth cs n ≡ none → corridor_told NoMore ≡ way_by (nth cs n)
unfolding corridor_told
none_told cs n e = ap way_by (sym e)

pub one_told : {w : Way} (cs : List Corridor) (n : ℕ) (c : Corridor) → w ≡ way_by (nth (c ∷ []) 0) → nth cs n ≡ some c → w ≡ way_by (nth cs n)
unfolding nth
one_told cs n c d e = d ∙ ap way_by (sym e)
