-- `is_bad_modulus` meets its contract: p's bounds decide, and between them whether it is prime.
use Rattle.std.proofs.Common.{sym, ap, ◌∙◌, not, arith}
use Rattle.named.proofs.Laws.Parameters.{modulus_low, modulus_high, modulus_between}
use Rattle.parameters.proofs.is_bad_modulus.Goals as goal
use Rattle.parameters.proofs.is_bad_modulus.Goals.{then-p-lt3-via-then-p-lt3, then-p-lt3-via-else-p-lt3+then-p-ge-NUMBER_LIMIT}

pub returns-then-p-lt3 : goal.returns-then-p-lt3
returns-then-p-lt3 c =
    elim c.then-p-lt3.branch [
      | then-p-lt3-via-then-p-lt3 w ↦ sym (modulus_low _ w.if-p-lt3.true)
      | then-p-lt3-via-else-p-lt3+then-p-ge-NUMBER_LIMIT w ↦ sym (modulus_high _ w.if-p-ge-NUMBER_LIMIT.true)
    ]

pub returns : goal.returns
returns c = ap not c.is_prime.ensures ∙ sym (modulus_between _ (omega arith) (omega arith))
