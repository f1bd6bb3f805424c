-- `fibonacci_of` meets its contract: its table passes the test of `fibonacci` Laws/Tables, which antt computes.
use Rattle.std.proofs.Common.{◌≡◌, List, ℕ, Option, Some, None, Bor, refl, sym, ◌∙◌}
use Rattle.std.proofs.lemmas.Option.{slice_get_past, slice_get_read}
use Rattle.std.specs.List.{slice_get}
use Rattle.std.specs.Option.{option_copied}
use Rattle.std.specs.Slice.{IsItemAt}
use Rattle.golden.specs.declared.TheConstants.{FIBONACCI}
use Rattle.fibonacci.proofs.Laws.Tables.{are_fibonacci, fibonacci_listed}
use Rattle.golden.proofs.fibonacci_of.Goals as goal

-- what a lent entry is a copy of
copied : (xs : List ℕ) (i : ℕ) (r : Option (Bor ℕ)) → IsItemAt xs i r → option_copied r ≡ slice_get xs i
copied xs i None item = sym (slice_get_past xs i item.3)
copied xs i (Some x) item = sym (slice_get_read xs _ i x.now refl item.3.0 item.1)

pub returns : goal.returns
unfolding are_fibonacci
returns c = c.copied.ensures ∙ copied FIBONACCI c.args.index _ c.get.ensures.lookup ∙ fibonacci_listed FIBONACCI refl refl c.args.index
