-- `between` meets its contract: outside the row there is no part, so the empty one is answered, and inside it is the slice.
use Rattle.std.proofs.Common.{◌≡◌, sym, ◌∙◌, [], List, ℕ, Bor, Option, Some, None, ap, inl, inr}
use Rattle.std.specs.Option.{UnwrapsOrElse}
use Rattle.std.specs.Slice.{IsGetRangeResult}
use Rattle.tape.specs.Layout.{part}
use Rattle.tape.proofs.Laws.Rows.{part_reversed, part_past, part_inside, slice_from}
use Rattle.parts.proofs.between.Goals as goal

got : (row : List ℕ) (begin end : ℕ) (o : Option (Bor (List ℕ))) (r : Bor (List ℕ)) → IsGetRangeResult row begin end o
    → UnwrapsOrElse o (λ (x : Bor (List ℕ)). x.now ≡ []) r → r.now ≡ part row begin end
got row begin end None r get default =
    default ∙ sym (elim get.0 [ inl h ↦ part_reversed row begin end h | inr h ↦ part_past row begin end h ])
got row begin end (Some x) r get e =
    ap (λ (p : Bor (List ℕ)). p.now) e ∙ get.0.2 ∙ sym (part_inside row begin end get.0.0 get.0.1 ∙ slice_from begin end row)

pub returns : goal.returns
returns c = got _ _ _ _ _ c.get.ensures.lookup c.unwrap_or_default.ensures
