-- Writing a good reading gives the same bytes, and its header and tree can be written: each record that passed is made of its kind
-- and operand, one after the other from the header to the last byte. Assumes nothing.
use mathlib.Core.Path.{◌≡◌, sym, ap, ap₂, ◌∙◌, subst}
use mathlib.Core.List.{List, ◌++◌, append_assoc, append-nil}
use Prim.Native.Nat.{ℕ, suc, ◌<◌}
use native.Mathlib.Omega.{arith}
use lib.ListN.{drop}
use lib.Seq.{drop-length}
use Rattle.rules.specs.Statements.{Stmt}
use Rattle.block.specs.Format.{Header, header, Around, Sofar, Good, good, reading, two_bytes, kind_at, operand_at, statement_fault, past, preorder}
use Rattle.block.specs.Format.{outermost, begun}
use Rattle.block.proofs.Passes.{passes, right_length}
use Rattle.block.proofs.Parse.{Parsed, at_leaf, at_above, at_joined, parsed}
use Rattle.block.proofs.GoodReadings.{Headed, headed, sound, read_whole}
use Rattle.records.specs.Numerals.{in_bytes, Bytes}
use Rattle.writing.specs.Written.{record_bytes, records, header_bytes, block_bytes, Writable}
use Rattle.writing.proofs.Records.{next_two, two_small, record_back, leaf_records, above_records, joined_records}

module _ (b : List ℕ) (s : Bytes b) where
  -- A record that passed, and what lies behind it.
  own_record : (h : Header) (room : ℕ) (a : Around) (r : Sofar) → statement_fault room b h a r ≡ 0
      → drop r.place b ≡ record_bytes (kind_at b r.place) (operand_at b r.place) ++ drop (past (kind_at b r.place) r).place b
  unfolding past
  own_record h room a r passed =
      let p = passes room b h a r passed in record_back b r.place s p.its_kind (right_length room b h a r passed) p.ends

  tree_back : (h : Header) {room : ℕ} {a : Around} {r r₁ : Sofar} {t : Stmt} → Parsed b h room a r t r₁
      → drop r.place b ≡ records (preorder t) ++ drop r₁.place b
  tree_back h (at_leaf {room = room} {a = a} {r = r} passed v) =
      let k = kind_at b r.place in
      let x = operand_at b r.place in
      own_record h (suc room) a r passed
      ∙ ap (λ (l : List ℕ). l ++ drop (past k r).place b) (sym (leaf_records x r.pauses v ∙ append-nil (record_bytes k x)))
  tree_back h (at_above {room = room} {a = a} {r = r} {p = p} {r₁ = r₁} passed v d) =
      let k = kind_at b r.place in
      let x = operand_at b r.place in
      own_record h (suc room) a r passed ∙ ap (λ (l : List ℕ). record_bytes k x ++ l) (tree_back h d)
      ∙ sym (append_assoc (record_bytes k x) (records (preorder p)) (drop r₁.place b))
      ∙ ap (λ (l : List ℕ). l ++ drop r₁.place b) (sym (above_records x p v))
  tree_back h (at_joined {room = room} {a = a} {r = r} {p = p} {q = q} {r₂ = r₂} passed v d e) =
      let k = kind_at b r.place in
      let x = operand_at b r.place in
      own_record h (suc room) a r passed
      ∙ ap (λ (l : List ℕ). record_bytes k x ++ l)
      (tree_back h d ∙ ap (λ (l : List ℕ). records (preorder p) ++ l) (tree_back h e)
      ∙ sym (append_assoc (records (preorder p)) (records (preorder q)) (drop r₂.place b)))
      ∙ sym (append_assoc (record_bytes k x) (records (preorder p) ++ records (preorder q)) (drop r₂.place b))
      ∙ ap (λ (l : List ℕ). l ++ drop r₂.place b) (sym (joined_records x p q v))

  -- The header's seven numbers.
  header_there : Headed b → b ≡ header_bytes (header b) ++ drop 14 b
  unfolding header header_bytes in_bytes
  header_there w =
      let l = w.there in
      next_two b 0 s (omega arith) ∙ ap₂ (λ (n : ℕ) (r : List ℕ). in_bytes 2 n ++ r) w.its_length
      (next_two b 2 s (omega arith) ∙ ap₂ (λ (n : ℕ) (r : List ℕ). in_bytes 2 n ++ r) w.its_kind
      (next_two b 4 s (omega arith) ∙ ap₂ (λ (n : ℕ) (r : List ℕ). in_bytes 2 n ++ r) w.its_edition
      (next_two b 6 s (omega arith) ∙ ap (λ (r : List ℕ). in_bytes 2 (two_bytes b 6) ++ r)
      (next_two b 8 s (omega arith) ∙ ap (λ (r : List ℕ). in_bytes 2 (two_bytes b 8) ++ r)
      (next_two b 10 s (omega arith) ∙ ap (λ (r : List ℕ). in_bytes 2 (two_bytes b 10) ++ r)
      (next_two b 12 s (omega arith)))))))

  module _ (g : Good) (e : reading b ≡ good g) where
    -- Writing a good reading gives the same bytes.
    pub same_bytes : block_bytes g.header g.body ≡ b
    unfolding block_bytes
    same_bytes =
        let w = read_whole b g e in
        let t = tree_back (header b) (parsed b (header b) 64 outermost begun _ _ w.its_tree) in
        let rest : drop 14 b ≡ records (preorder g.body) =
        t ∙ ap (λ (l : List ℕ). records (preorder g.body) ++ l) (drop-length b) ∙ append-nil (records (preorder g.body)) in
        ap₂ (λ (h : Header) (l : List ℕ). header_bytes h ++ l) w.its_header (sym rest) ∙ sym (header_there (headed b w.no_fault))

    -- What was read can be written.
    pub good_writable : Writable g.header g.body
    unfolding header
    good_writable =
        let f = sound b g e in
        record {
          version_fits = subst (λ (h : Header). h.version < 65536) (sym f.its_header) (two_small b 6 s);
          signals = f.signals;
          few_statements = omega (arith, f.counted, f.few_statements);
          few_pauses = omega (arith, f.paused, f.few_pauses);
          traps_nested = f.traps_nested;
          locals_nested = f.locals_nested;
          paths = f.paths;
          trapped = f.trapped;
          pauses_numbered = f.pauses_numbered;
          scoped = f.scoped;
          locals_counted = f.locals_counted;
          locals_next = f.locals_next;
          loops = f.loops;
        }
