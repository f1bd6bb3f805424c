-- `fibexp_listing` meets its contract: the number and the row are the service's, and a count of 0 says that there was no room.
use mathlib.Core.Path.{sym, ap}
use native.Mathlib.Omega.{arith}
use Rattle.listing.specs.declared.Listed.{Listed}
use Rattle.listing.proofs.Laws.Lengths.{none_written, some_written}
use Rattle.capi.proofs.fibexp_listing.Goals as goal

pub returns-then-listed-eq0 : goal.returns-then-listed-eq0
returns-then-listed-eq0 c =
    record {
      value = ap (λ (l : Listed). l.number) c.listing-listed.ensures.value;
      lines_after = c.listing-listed.ensures.lines_after;
      written_after = sym (none_written _ _ _ _ c.listing-listed.ensures.value c.if-listed-eq0.true);
    }

pub overflow_cast-written : goal.overflow_cast-written
overflow_cast-written c =
    record { fits = omega (arith, (some_written _ _ 0 _ c.listing-listed.ensures.value c.if-listed-eq0.false).1) }

pub returns : goal.returns
returns c =
    record {
      value = ap (λ (l : Listed). l.number) c.listing-listed.ensures.value;
      lines_after = c.listing-listed.ensures.lines_after;
      written_after = sym (some_written _ _ _ _ c.listing-listed.ensures.value c.if-listed-eq0.false).0;
    }
