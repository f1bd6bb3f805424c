-- Build by cases: the first test that fails gives the refusal and keeps the row; where all four pass, what is left is the room, which
-- is tested where the words are written.
use Rattle.std.specs.Prelude.{Result}
use mathlib.Core.Path.{◌≡◌, sym, ap, ◌∙◌}
use mathlib.Core.Bool.{true, false}
use mathlib.Core.List.{List}
use Prim.Native.Nat.{ℕ}
use lib.ListN.{length}
use Rattle.refusal.specs.declared.Refusal.{Refusal}
use Rattle.refusal.specs.Outcomes.{Outcome, refused, outcome_of, gives, passes, buffer_after, row_kept}
use Rattle.modular.specs.Inverses.{inverse, bad_exponent}
use Rattle.named.specs.Named.{named_words}
use Rattle.named.specs.Parameters.{bad_modulus, bad_order, bad_variant}
use Rattle.named.proofs.Laws.Parameters.{good_modulus_lem, order_small}
use Rattle.program.specs.Services.{room_outcome, build_outcome, build_buffer}
use Rattle.program.specs.Inner.Forms.{Invertible}
use Rattle.program.specs.Inner.Building.{Writable, Built}

module _ (p r k variant : ℕ) (row : List ℕ) where
  -- what build promises of its answer and of the row at exit
  abbrev pub BuildContract : Outcome ℕ → List ℕ → Type 0
  BuildContract o after = (o ≡ build_outcome p r k variant (length row)) × (after ≡ build_buffer p r k variant row)

  kept : {n : ℕ} → build_outcome p r k variant (length row) ≡ refused n → BuildContract (refused n) row
  unfolding build_buffer
  kept e = (sym e, sym (row_kept (named_words p r k variant) row e))

  pub modulus_refused : bad_modulus p ≡ true → BuildContract (refused 1) row
  unfolding build_outcome
  modulus_refused bad = kept (gives _ _ _ bad)

  module _ (modulus : bad_modulus p ≡ false) where
    pub order_refused : bad_order p r ≡ true → BuildContract (refused 2) row
    unfolding build_outcome
    order_refused bad = kept (passes _ _ _ modulus ∙ gives _ _ _ bad)

    module _ (order : bad_order p r ≡ false) where
      pub exponent_refused : bad_exponent k r ≡ true → BuildContract (refused 3) row
      unfolding build_outcome
      exponent_refused bad = kept (passes _ _ _ modulus ∙ passes _ _ _ order ∙ gives _ _ _ bad)

      module _ (exponent : bad_exponent k r ≡ false) where
        pub variant_refused : bad_variant variant ≡ true → BuildContract (refused 4) row
        unfolding build_outcome
        variant_refused bad = kept (passes _ _ _ modulus ∙ passes _ _ _ order ∙ passes _ _ _ exponent ∙ gives _ _ _ bad)

        pub left_to_room : bad_variant variant ≡ false → {answer : Result ℕ Refusal} {after : List ℕ} → Built (named_words p r k variant) row answer after
            → BuildContract (outcome_of answer) after
        unfolding build_outcome build_buffer room_outcome
        left_to_room is_named_lem b =
            let words : List ℕ = named_words p r k variant in
            let e : room_outcome words (length row) ≡ build_outcome p r k variant (length row) =
            sym (passes _ _ _ modulus ∙ passes _ _ _ order ∙ passes _ _ _ exponent ∙ passes _ _ _ is_named_lem) in
            (b.outcome_is ∙ e, b.row_is ∙ ap (λ (o : Outcome ℕ). buffer_after o words row) e)

-- ---- what the tests leave

module _ (p r k : ℕ) (modulus : bad_modulus p ≡ false) (order : bad_order p r ≡ false) (exponent : bad_exponent k r ≡ false) where
  pub invertible : {K : ℕ} → K ≡ inverse r k → Invertible r k K
  invertible e = record { order = order_small p r modulus order; exponent = exponent; inverse_is = e }

  pub writable : (variant : ℕ) → bad_variant variant ≡ false → Writable p r k variant
  writable variant named =
      record { modulus = (good_modulus_lem p modulus).high; order = order_small p r modulus order; exponent = exponent; named = named }
