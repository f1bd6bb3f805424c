-- `Modulus::new` meets its contract: its turns of Newton's iteration are those of the definition.
use mathlib.Core.Path.{refl}
use Rattle.montgomery.specs.Inner.Forms.{word_inverse}
use Rattle.montgomery.proofs.Modulus.new.Goals as goal

pub returns : goal.returns
unfolding word_inverse
returns c =
    record {
      value_is = refl;
      inverse_is = rw (c.lifted-5.ensures, c.lifted-4.ensures, c.lifted-3.ensures, c.lifted-2.ensures, c.lifted.ensures);
      square_is = c.square_of.ensures;
    }
