-- `numbers::in_base` meets its contract: with some digits read, the text comes to what its rest does behind their number.
use Rattle.std.proofs.Common.{◌≡◌, ◌≤◌, drop}
use Rattle.text.specs.Reading.{number_from, in_base}
use Rattle.parsing.proofs.numbers.in_base.Given as goal

abbrev pub invariant-loop-byte : goal.invariant-loop-byte
invariant-loop-byte l = record {
  small : l.n ≤ l.most;
  rest : in_base l.base l.most l.text ≡ number_from l.base l.most l.n (drop l.byte-index l.text);
}
