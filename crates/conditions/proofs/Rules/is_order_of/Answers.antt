-- `Rules::is_order_of` meets its contract: the power of r decides, and then those of r divided by each of its prime divisors (`order_by_primes` of
-- `orders`). Where none of those so far is 1, the divisors that are left decide.
use Rattle.std.proofs.Common.{◌≡◌, sym, ap, ◌∙◌, true, false, List, [], ◌∷◌, ℕ, suc, ◌+◌, ◌/◌, ◌%◌, ◌^◌, ◌≤◌, ◌<◌, arith, length, get_or, drop, drop_of_length-le}
use lib.Seq.{drop-cons}
use Rattle.tape.specs.declared.Header.{Header}
use Rattle.modular.specs.Residues.{remainder}
use Rattle.modular.proofs.Laws.Residues.{remainder_is}
use Rattle.orders.specs.Orders.{is_order}
use Rattle.orders.specs.PrimeDivisors.{primes_of, none_gives_one}
use Rattle.orders.proofs.Laws.Factors.{primes_two}
use Rattle.orders.proofs.Laws.Deciding.{order_of_zero, order_no_power, order_by_list, one_given, one_not_given, none_left}
use Rattle.conditions.proofs.Rules.is_order_of.Goals as goal
use Rattle.conditions.proofs.Rules.is_order_of.Goals.{then-r-eq0-via-then-r-eq0, then-r-eq0-via-else-r-eq0+then-power-ne1}

-- the modulus that is read is that of the contract
modulus : {read now : Header} → read ≡ now → 1 ≤ now.modulus → 1 ≤ read.modulus
modulus e some = rw e some

-- the code's power is that of numbers
power_is : (n : ℕ) {p x : ℕ} → 1 ≤ p → x ≡ remainder n p → n % p ≡ x
power_is n some e = sym (e ∙ remainder_is _ _ some)

-- each prime divisor is at least 2
positive : (r i : ℕ) (primes : List ℕ) → primes ≡ primes_of r → i < length primes → 0 < get_or primes i 0
positive r i primes all inside = rw all (omega (arith, primes_two r r i (omega (arith, ap length all))))

module _ (p a r i : ℕ) (primes : List ℕ) where
  -- what is left of the list decides, where r gives 1 and none of those so far does
  decided : 1 ≤ r → a ^ r % p ≡ 1 → primes ≡ primes_of r → none_gives_one p a r (drop i primes) ≡ none_gives_one p a r primes
      → none_gives_one p a r (drop i primes) ≡ is_order p a r
  decided some one all left = left ∙ ap (none_gives_one p a r) all ∙ sym (order_by_list p a r some one)

  -- of which the next divisor is the first
  next : i < length primes → none_gives_one p a r (get_or primes i 0 ∷ drop (suc i) primes) ≡ none_gives_one p a r (drop i primes)
  next inside = ap (none_gives_one p a r) (sym (drop-cons primes i 0 inside))

  stops : i < length primes → a ^ (r / get_or primes i 0) % p ≡ 1 → false ≡ none_gives_one p a r (drop i primes)
  stops inside one = sym (one_given _ _ _ _ _ one) ∙ next inside

  goes_on : i < length primes → ¬ (a ^ (r / get_or primes i 0) % p ≡ 1) → none_gives_one p a r (drop (i + 1) primes) ≡ none_gives_one p a r (drop i primes)
  goes_on inside other =
      let more : i + 1 ≡ suc i = omega arith in
      ap (λ (n : ℕ). none_gives_one p a r (drop n primes)) more ∙ sym (one_not_given _ _ _ _ _ other) ∙ next inside

  ends : length primes ≤ i → true ≡ none_gives_one p a r (drop i primes)
  ends past = let none : drop i primes ≡ [] = drop_of_length-le primes {i = i} past in sym (ap (none_gives_one p a r) none ∙ none_left _ _ _)

pub returns-then-r-eq0 : goal.returns-then-r-eq0
returns-then-r-eq0 c =
    let some = modulus c.self.view_is c.requires in
    rw (← c.self.view_is)
    (elim c.then-r-eq0.branch [
      | then-r-eq0-via-then-r-eq0 w ↦ sym (order_of_zero _ _ _ w.if-r-eq0.true)
      | then-r-eq0-via-else-r-eq0+then-power-ne1 w ↦ sym (order_no_power _ _ _ (λ one. w.if-power-ne1.true (sym (power_is _ some w.power.ensures) ∙ one)))
    ])

pub nonzero_div-r : goal.nonzero_div-r
nonzero_div-r c = positive _ _ _ (c.primes-q-items.ensures ∙ c.self.invariant) (omega arith)

pub returns-then-power-eq1 : goal.returns-then-power-eq1
returns-then-power-eq1 c =
    let some = modulus c.self.view_is c.requires in
    let one = power_is _ some c.power.ensures ∙ c.if-power-ne1.false in
    let primes = c.primes-q-items.result.now in
    rw (← c.self.view_is)
    (stops _ _ _ _ primes (omega arith) (power_is _ some c.power-in-loop-q.ensures ∙ c.if-power-eq1.true)
    ∙ decided _ _ _ _ primes (omega arith) one (c.primes-q-items.ensures ∙ c.self.invariant) c.loop-q.invariant)

pub loop-q-preserved : goal.loop-q-preserved
loop-q-preserved c =
    let some = modulus c.self.view_is c.requires in
    goes_on _ _ _ _ c.primes-q-items.result.now (omega arith) (λ one. c.if-power-eq1.false (sym (power_is _ some c.power-in-loop-q.ensures) ∙ one))
    ∙ c.loop-q.invariant

pub returns : goal.returns
returns c =
    let one = power_is _ (modulus c.self.view_is c.requires) c.power.ensures ∙ c.if-power-ne1.false in
    let primes = c.primes-q-items.result.now in
    rw (← c.self.view_is)
    (ends _ _ _ _ primes (omega arith) ∙ decided _ _ _ _ primes (omega arith) one (c.primes-q-items.ensures ∙ c.self.invariant) c.loop-q.invariant)
