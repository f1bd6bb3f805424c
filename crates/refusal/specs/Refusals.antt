-- REQUIREMENTS 7.1, the table of refusals, and those of document 02: the number of each.
use Rattle.std.specs.Prelude.{ℕ}
use Rattle.refusal.specs.declared.Refusal.{Refusal}
use Rattle.refusal.specs.declared.Refusal.TheVariants.{Modulus, Order, Exponent, Variant, Room, Length, Word, Mismatch, Register, Position, Base, Range, Index, Count}

abbrev pub number_of : Refusal → ℕ
number_of Modulus = 1
number_of Order = 2
number_of Exponent = 3
number_of Variant = 4
number_of Room = 5
number_of Length = 6
number_of Word = 7
number_of Mismatch = 8
number_of Register = 9
number_of Position = 10
number_of Base = 11
number_of Range = 12
number_of Index = 13
number_of Count = 14
