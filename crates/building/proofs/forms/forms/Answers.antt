-- `forms::forms` meets its contract: the variant picks its row of the table.
use Rattle.std.proofs.Common.{ap}
use Rattle.named.specs.Variants.{variant_number}
use Rattle.program.proofs.Laws.Forms.{given_basic, given_dual, given_hybrid}
use Rattle.building.proofs.forms.forms.Goals as goal

pub returns-in-Basic : goal.returns-in-Basic
returns-in-Basic c = given_basic _ _ _ c.requires.inverse_is (ap variant_number c.in-Basic.is) c.basic_forms.ensures

pub returns-in-Dual : goal.returns-in-Dual
returns-in-Dual c = given_dual _ _ _ (ap variant_number c.in-Dual.is) c.dual_forms.ensures

pub returns-in-Hybrid : goal.returns-in-Hybrid
returns-in-Hybrid c = given_hybrid _ _ _ (ap variant_number c.in-Hybrid.is) c.hybrid_forms.ensures
