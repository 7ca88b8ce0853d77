-- Every text gets one of three things, and each says what the text is: by cases on how its reading ends. So the reader needs no belief. Assumes nothing.
use mathlib.Core.Path.{◌≡◌, refl, ap}
use mathlib.Core.List.{List, []}
use mathlib.Core.Option.{some}
use Prim.Native.Nat.{ℕ}
use lib.ListN.{length}
use Rattle.writing.specs.Answers.{refuses}
use Rattle.text.specs.Tokens.{tokens_placed, tokens}
use Rattle.text.specs.Grammar.{Text, spelt}
use Rattle.text.specs.Meaning.{Blocked, text_means}
use Rattle.text.specs.Faults.{Fault}
use Rattle.text.specs.Reader.{begun, Outcome, stands, outside, over, read_placed, block_of, owed, text_read}
use Rattle.text.proofs.Exactly.{only_texts}
use Rattle.text.proofs.Places.{stands_read, text_gets, outside_none, TooManyOpen, over_means}
use Rattle.text.proofs.FaultPlace.{place_at_fault}

-- It is a text of the grammar with its names in order, and gets what its block gets; or it is none, and gets 15 at the place at fault; or over 1,024 places
-- are open at once in it, and it gets 4 at place 0.
pub data Gets (text : List ℕ) : Type 0 where
  in_order : (t : Text) (b : Blocked) → tokens text ≡ spelt t → text_means t ≡ some b → text_read text ≡ block_of b → Gets text
  at_fault : (at : ℕ) → ((t : Text) (b : Blocked) → tokens text ≡ spelt t → text_means t ≡ some b → ⊥) → Fault (length text) (tokens_placed text) at → text_read text ≡ refuses 15 at → Gets text
  deep : TooManyOpen (tokens text) → text_read text ≡ refuses 4 0 → Gets text

pub every_text : (text : List ℕ) → Gets text
unfolding text_read owed
every_text text = go (read_placed begun (tokens_placed text) (length text)) refl
  where
    go : (o : Outcome) → read_placed begun (tokens_placed text) (length text) ≡ o → Gets text
    go (stands b) e =
        let r = stands_read (tokens_placed text) begun (length text) b e in
        let t = only_texts [] (tokens text) r.0 b r.1 r.2 in
        in_order t.0 b t.1 t.2 (text_gets text t.0 b t.1 t.2)
    go (outside at) e = at_fault at (outside_none text at e) (place_at_fault text at e) (ap owed e)
    go over e = deep (over_means text e) (ap owed e)
