-- What holds of every program that the table allows, once for all variants: each row's laws say that its programs are programs for
-- the k-th power, and the rows are numbered from 1 on, so that each number that build takes has a row.
use mathlib.Core.Path.{◌≡◌, refl, sym, ◌∙◌}
use mathlib.Core.Bool.{Bool, true, false, ◌&&◌, true≢false}
use mathlib.Core.List.{List, [], ◌∷◌, map}
use Prim.Native.Nat.{ℕ, suc, ◌+◌, ◌≤◌, ◌<◌}
use native.Mathlib.Omega.{arith}
use lib.Dec.{eqb}
use lib.ListN.{length, length-map}
use borrow.Author.Tests.{eqb-true, eqb-false}
use Rattle.refusal.proofs.Laws.Tests.{test_true, by_test, both}
use Rattle.modular.specs.Inverses.{bad_exponent}
use Rattle.tape.specs.declared.Step.{Step}
use Rattle.tape.specs.Words.{number_limit}
use Rattle.named.specs.Generators.{Forms, generated}
use Rattle.named.specs.Named.{Variant, basic_forms, dual_forms, hybrid_forms, variants, forms_in, forms_for, programs_for, named_steps}
use Rattle.named.specs.Promises.{FormsFit, IsProgram}
use Rattle.named.specs.Members.{Member}
use Rattle.named.specs.Parameters.{bad_variant}
use Rattle.named.proofs.Laws.Members.{only_member, first_member, first_only, member_map}
use Rattle.named.proofs.Laws.Parameters.{named_some, named_most}
use Rattle.named.proofs.Laws.Basic.{basic_fits, basic_program}
use Rattle.named.proofs.Laws.Dual.{dual_fits, dual_program}
use Rattle.named.proofs.Laws.Hybrid.{hybrid_fits, hybrid_program}

-- ---- the rows

abbrev pub AllRows : (Variant → Type 0) → List Variant → Type 0
AllRows P [] = Unit {0}
AllRows P (row ∷ rows) = P row × AllRows P rows

-- what a row promises: one program for each r and k, and where r and k are not refused what Promises says
pub record VariantPromises (row : Variant) : Type 0 where
  pub one : (r k : ℕ) → length (row.forms r k) ≡ 1
  pub kept : (r k : ℕ) → bad_exponent k r ≡ false → (f : Forms) → Member f (row.forms r k) → (r < number_limit → FormsFit f) × IsProgram r k (generated f)

promised : {number : ℕ} {name : List ℕ} (forms : ℕ → ℕ → Forms)
    → ((r k : ℕ) → bad_exponent k r ≡ false → r < number_limit → FormsFit (forms r k))
    → ((r k : ℕ) → bad_exponent k r ≡ false → IsProgram r k (generated (forms r k)))
    → VariantPromises (record { number = number; name = name; forms = λ (r k : ℕ). forms r k ∷ [] })
promised forms fits program = record {
  one = λ r k. refl;
  kept = λ r k good f m. rw (only_member m) (fits r k good, program r k good);
}

all_promised : AllRows VariantPromises variants
all_promised = (
  promised basic_forms basic_fits basic_program,
  (promised dual_forms dual_fits dual_program, (promised hybrid_forms hybrid_fits hybrid_program, tt)),
)

-- ---- over any table

numbered : ℕ → List Variant → Bool
numbered n [] = true
numbered n (row ∷ rows) = eqb row.number n && numbered (suc n) rows

-- What holds of each row's forms holds of what a table gives, and of none where the rows, numbered from n on, don't have the number.
by_row : (P : List Forms → Type 0) (variant r k n : ℕ) (rows : List Variant) → AllRows VariantPromises rows → numbered n rows ≡ true
    → ((n ≤ variant → variant < n + length rows → ⊥) → P []) → ((row : Variant) → VariantPromises row → P (row.forms r k)) → P (forms_in rows variant r k)
unfolding forms_in numbered
by_row P variant r k n [] all e none some = none (λ low high. omega arith)
by_row P variant r k n (row ∷ rows) all e none some =
    let h = both (eqb row.number n) (numbered (suc n) rows) e in
    let is : row.number ≡ n = eqb-true row.number n h.0 in
    by_test (eqb variant row.number) (λ here. rw here (some row all.0))
    (λ other.
    let not_here : variant ≡ row.number → ⊥ = eqb-false variant row.number other in
    rw other (by_row P variant r k (suc n) rows all.1 h.1 (λ out. none (λ low high. out (omega (arith, not_here)) (omega arith))) some))

-- ---- the programs of the table

module _ (variant r k : ℕ) where
  -- for a variant that has none, and for each
  by_variant : (P : List Forms → Type 0) → (bad_variant variant ≡ true → P []) → ((row : Variant) → VariantPromises row → P (row.forms r k)) → P (forms_for variant r k)
  unfolding numbered
  by_variant P none some =
      by_row P variant r k 1 variants all_promised refl
      (λ out. none (test_true (bad_variant variant) (λ is. out (omega (arith, named_some variant is)) (omega (arith, named_most variant is))))) some

  kept_forms : bad_exponent k r ≡ false → (f : Forms) → Member f (forms_for variant r k) → (r < number_limit → FormsFit f) × IsProgram r k (generated f)
  kept_forms good =
      by_variant (λ (fs : List Forms). (f : Forms) → Member f fs → (r < number_limit → FormsFit f) × IsProgram r k (generated f)) (λ un f m. absurd m)
      (λ row q. q.kept r k good)

  pub member_fits : bad_exponent k r ≡ false → r < number_limit → (f : Forms) → Member f (forms_for variant r k) → FormsFit f
  member_fits good small f m = (kept_forms good f m).0 small

  pub member_program : bad_exponent k r ≡ false → (xs : List Step) → Member xs (programs_for variant r k) → IsProgram r k xs
  member_program good = member_map (IsProgram r k) generated (forms_for variant r k) (λ f m. (kept_forms good f m).1)

  -- today a variant allows one program
  pub only_program : (xs : List Step) → Member xs (programs_for variant r k) → xs ≡ named_steps variant r k
  unfolding named_steps
  only_program xs =
      first_only (programs_for variant r k) [] xs
      (by_variant (λ (fs : List Forms). length (map generated fs) ≤ 1) (λ un. omega arith)
      (λ row q. omega (arith, length-map (row.forms r k) generated, q.one r k)))

  pub named_member : bad_variant variant ≡ false → Member (named_steps variant r k) (programs_for variant r k)
  unfolding named_steps
  named_member named =
      first_member (programs_for variant r k) []
      (by_variant (λ (fs : List Forms). 0 < length (map generated fs)) (λ un. absurd (true≢false (sym un ∙ named)))
      (λ row q. omega (arith, length-map (row.forms r k) generated, q.one r k)))

  pub named_program_lem : bad_exponent k r ≡ false → bad_variant variant ≡ false → IsProgram r k (named_steps variant r k)
  named_program_lem good named = member_program good (named_steps variant r k) (named_member named)
