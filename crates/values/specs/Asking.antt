-- What the code asks for what is asked or named by number. Assumes nothing.
use Rattle.std.proofs.Math.Option.{Option, none, some}
use Rattle.rules.specs.Reasons.{Asked, not_executed}
use Rattle.mazes.specs.Mazes.{Room, signal}

-- Where nothing is asked, the question about statement 512, which no block has.
unfoldable pub question_for : Option Asked → Asked
question_for (some q) = q
question_for none = not_executed 512

-- Where no room is named, the room of signal 64, which no block has.
unfoldable pub room_for : Option Room → Room
room_for (some r) = r
room_for none = signal 64
