-- What `==` answers of two opcodes: whether they are the same.
use Rattle.std.specs.Prelude.{◌≡◌, ◌≢◌, Bool, true, false}
use mathlib.Core.Path.{refl}
use denote.Enum.Bare.{sameb}
use Rattle.tape.specs.contracts.Opcode.{the_type}
use Rattle.tape.specs.declared.Opcode.{Opcode}
use Rattle.tape.specs.declared.Opcode.TheVariants.{Mul, Div, Swp}

pub same_opcode : (o k : Opcode) → sameb the_type o k ≡ true → o ≡ k
same_opcode Mul Mul e = refl
same_opcode Div Div e = refl
same_opcode Swp Swp e = refl
same_opcode Mul Div e = cc
same_opcode Mul Swp e = cc
same_opcode Div Mul e = cc
same_opcode Div Swp e = cc
same_opcode Swp Mul e = cc
same_opcode Swp Div e = cc

each_opcode : (o : Opcode) → sameb the_type o o ≡ true
each_opcode Mul = refl
each_opcode Div = refl
each_opcode Swp = refl

pub other_opcode : (o k : Opcode) → sameb the_type o k ≡ false → o ≢ k
other_opcode o k other is = let alike = each_opcode o in let f = rw is at other in let g = rw is at alike in cc
