-- `put_text`: the header, the statement and a line feed, one behind the other. Assumes nothing.
use native.Mathlib.Omega.{arith}
use Rattle.write_text.proofs.TextLaws.{front_put, text_asks, body_ends, text_filled, filled_size}
use Rattle.write_text.proofs.put_text.Goals as goal

pub put_names-first-requires : goal.put_names-first-requires
put_names-first-requires c =
    record { word_bound = omega arith; to_bound = omega (arith, c.put_word-closed.ensures.upper_bound, c.put_name-numbered.ensures.upper_bound, c.put_word-worded.ensures.upper_bound); count_bound = omega (arith, c.requires.1.1.signals, c.requires.1.1.its_inputs, c.requires.1.1.its_outputs) }

pub put_names-second-requires : goal.put_names-second-requires
put_names-second-requires c =
    record { word_bound = omega arith; to_bound = omega (arith, c.put_names-first.ensures.upper_bound, c.put_word-closed.ensures.upper_bound, c.put_name-numbered.ensures.upper_bound, c.put_word-worded.ensures.upper_bound); count_bound = omega (arith, c.requires.1.1.signals, c.requires.1.1.its_inputs, c.requires.1.1.its_outputs) }

pub put_statement-done-requires : goal.put_statement-done-requires
put_statement-done-requires c =
    let p = front_put c.args.s.version c.args.s.inputs c.args.s.outputs c.digits.result c.put_word-worded.ensures.puts c.digits.ensures.result_value c.put_name-numbered.ensures.puts c.put_word-closed.ensures.puts
    c.put_names-first.ensures.puts c.put_names-second.ensures.puts in
    text_asks c.requires.1.1 c.digits.result c.digits.ensures.result_value p

pub put_word-requires : goal.put_word-requires
put_word-requires c =
    let p = front_put c.args.s.version c.args.s.inputs c.args.s.outputs c.digits.result c.put_word-worded.ensures.puts c.digits.ensures.result_value c.put_name-numbered.ensures.puts c.put_word-closed.ensures.puts
    c.put_names-first.ensures.puts c.put_names-second.ensures.puts in
    record { to_bound = body_ends c.requires.1.1 c.digits.result c.digits.ensures.result_value p (c.put_statement-done.ensures c.requires.1.0 c.requires.1.1.stands); word_bound = omega arith }

pub returns : goal.returns
returns c =
    let p = front_put c.args.s.version c.args.s.inputs c.args.s.outputs c.digits.result c.put_word-worded.ensures.puts c.digits.ensures.result_value c.put_name-numbered.ensures.puts c.put_word-closed.ensures.puts
    c.put_names-first.ensures.puts c.put_names-second.ensures.puts in
    λ h t d. text_filled d c.digits.result c.digits.ensures.result_value p (c.put_statement-done.ensures t d.stands) c.put_word.ensures.puts

pub shape_of-out : goal.shape_of-out
shape_of-out c = filled_size {before = c.args.out.now} (returns c c.requires.0 c.requires.1.0 c.requires.1.1)
