-- `put_sustain`: its four records make the form, by computation. Assumes nothing.
use Rattle.sets.specs.Numbers.{listed}
use Rattle.tables.specs.Kinds.{shape}
use Rattle.records.specs.Numerals.{in_bytes}
use Rattle.writing.specs.Written.{shaped_bytes}
use Rattle.convert.specs.Walk.{bytes_of}
use Rattle.convert.proofs.put_sustain.Goals as goal

pub put_records-requires : goal.put_records-requires
unfolding bytes_of shaped_bytes in_bytes shape listed
put_records-requires c = c.requires

pub returns : goal.returns
unfolding bytes_of shaped_bytes in_bytes shape listed
returns c = record { value = c.put_records.ensures.value; out_after = c.put_records.ensures.out_after }
