-- The variants as the code has them: the number of each, and what a number names.
use Rattle.std.specs.Prelude.{◌≡◌, true, ℕ}
use Rattle.std.specs.declared.result.Result.{Result}
use Rattle.std.specs.declared.result.Result.TheVariants.{Ok, Err}
use Rattle.refusal.specs.declared.Refusal.{Refusal}
use Rattle.refusal.specs.declared.Refusal.TheVariants.{Variant as VariantRefused}
use Rattle.named.specs.declared.Variant.{Variant}
use Rattle.named.specs.declared.Variant.TheVariants.{Basic, Dual, Hybrid}
use Rattle.named.specs.Parameters.{bad_variant}

-- the number in the table of variants
abbrev pub variant_number : Variant → ℕ
variant_number Basic = 1
variant_number Dual = 2
variant_number Hybrid = 3

-- a variant, or refusal 4 where no variant of the table has the number
abbrev pub Names : ℕ → Result Variant Refusal → Type 0
Names number (Ok variant) = number ≡ variant_number variant
Names number (Err e) = (bad_variant number ≡ true) × (e ≡ VariantRefused)
