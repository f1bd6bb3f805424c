-- `hofstadter` meets its contract: n + 1 times F_47 is divided by F_48, and the remainder tells whether the quotient is G or one more (Laws/Quotients).
use mathlib.Core.Path.{◌≡◌, refl, sym}
use Prim.Native.Nat.{ℕ, suc, ◌+◌, ◌*◌, ◌-◌, ◌/◌, ◌%◌, ◌≤◌, ◌<◌}
use native.Mathlib.Omega.{arith}
use Rattle.fibonacci.proofs.Laws.Hofstadter.{pair_g}
use Rattle.fibonacci.proofs.Laws.Quotients.{quotient_is, quotient_less}
use Rattle.golden.proofs.hofstadter.Goals as goal

abbrev short : ℕ
short = 2971215073

abbrev long : ℕ
long = 4807526976

abbrev lucas : ℕ
lucas = 10749957122

-- what is left of n + 1 once n was divided, times F_47
abbrev part : ℕ → ℕ
part n = (n % long + 1) * short

divided : (n : ℕ) → (n / long * short + part n / long) * long + part n % long ≡ suc n * short
divided n = omega arith

-- the test of the remainder: half of n + 1 is divided by half of L_48
within : (n t : ℕ) → t ≤ (n - n / 2) / 5374978561 → t * lucas ≤ suc n
within n t h = omega arith

beyond : (n t : ℕ) → (n - n / 2) / 5374978561 < t → suc n < t * lucas
beyond n t h = omega arith

pub returns-then-part-half : goal.returns-then-part-half
returns-then-part-half c =
    let n = c.args.n in
    sym (pair_g (quotient_less short long lucas refl refl (omega arith) _ (part n % long) n (divided n) (omega arith) (omega arith) (within n _ (omega arith))))

pub returns : goal.returns
returns c =
    let n = c.args.n in
    sym (pair_g (quotient_is short long lucas refl refl (omega arith) _ (part n % long) n (divided n) (omega arith) (beyond n _ c.if-part-half.false)))
