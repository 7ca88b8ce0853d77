-- The refusals and their numbers: document 01's, and later requests' as they come. The numbers need not be without gaps. Assumes nothing.
use Rattle.std.specs.Prelude.{Bool, true, false, cond, List, [], ◌∷◌, ℕ, eqb}
use Rattle.refusals.specs.declared.Why.{Why}
use Rattle.refusals.specs.declared.Why.TheVariants.{Broken, Kind, Edition, Limit, Signal, Exit, Shape, Loop, State, Clash, Input, Room, NotConstructive}
use Rattle.refusals.specs.declared.Why.TheVariants.{Index, Text, Question, OtherBlock, Party, Shelf, Taken, Quota, Absent, Interface, Wide, Pairs, Form}

-- The numbers given back when a call is turned down.
unfoldable pub number : Why → ℕ
number Broken = 1
number Kind = 2
number Edition = 3
number Limit = 4
number Signal = 5
number Exit = 6
number Shape = 7
number Loop = 8
number State = 9
number Clash = 10
number Input = 11
number Room = 12
number NotConstructive = 13
number Index = 14
number Text = 15
number Question = 16
number OtherBlock = 17
number Party = 18
number Shelf = 19
number Taken = 20
number Quota = 21
number Absent = 22
number Interface = 23
number Wide = 24
number Pairs = 25
number Form = 26

-- All of them, by rising numbers.
abbrev pub refusals : List Why
refusals =
    Broken ∷ Kind ∷ Edition ∷ Limit ∷ Signal ∷ Exit ∷ Shape ∷ Loop ∷ State ∷ Clash ∷ Input ∷ Room ∷ NotConstructive ∷ Index ∷
    Text ∷ Question ∷ OtherBlock ∷ Party ∷ Shelf ∷ Taken ∷ Quota ∷ Absent ∷ Interface ∷ Wide ∷ Pairs ∷ Form ∷ []

-- Whether one of a list has a number, and which one has it first; INDEX, where none has it.
unfoldable pub has_number : List Why → ℕ → Bool
has_number [] n = false
has_number (w ∷ ws) n = cond (eqb n (number w)) true (has_number ws n)

unfoldable pub first_with : List Why → ℕ → Why
first_with [] n = Index
first_with (w ∷ ws) n = cond (eqb n (number w)) w (first_with ws n)

-- The numbers that are there, and the refusal of a number.
abbrev pub has_refusal : ℕ → Bool
has_refusal n = has_number refusals n

abbrev pub why_of : ℕ → Why
why_of n = first_with refusals n
