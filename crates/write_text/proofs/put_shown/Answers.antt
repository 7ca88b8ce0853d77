-- `put_shown`: what was counted decides the room, and what is then put is the text. Assumes nothing.
use Rattle.write_text.proofs.TextLaws.{no_room, in_it}
use Rattle.std.proofs.lemmas.Result.{err_from_is_err_and}
use Rattle.write_text.proofs.put_shown.Goals as goal

pub returns-in_err-bytes : goal.returns-in_err-bytes
returns-in_err-bytes c =
    λ h t d.
    let p = err_from_is_err_and c.from_residual.result c.from_residual.ensures.1 in
    rw (p.1, p.2) (no_room (c.put_text-size.ensures h t d).sized c.in_room.ensures c.in_err-bytes.was)

pub returns : goal.returns
returns c = λ h t d. in_it (c.put_text-size.ensures h t d).sized c.in_room.ensures c.in_ok-bytes.was (c.put_text.ensures h t d).stored
