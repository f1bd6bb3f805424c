-- Demand 3, chain: the registers stay (1, a^E, 1, 1). A run end to end of a named program raises b = a^E to b^k, or undone to b^K, and
-- b^r = 1 too, so its exponent may be reduced modulo r; a refused run changes neither registers nor E. E is a product of numbers that have an
-- inverse modulo r, so a^E has a's order where that is r.
use mathlib.Core.Path.{◌≡◌, refl, sym, ap, ap₂, subst, subst₂, ◌∙◌}
use mathlib.Core.Logic.{◌⊎◌, inl, inr, ⊎_elim}
use mathlib.Core.Bool.{true, false}
use mathlib.Core.List.{List, [], ◌∷◌}
use Prim.Native.Nat.{ℕ, ◌*◌, ◌%◌, ◌^◌, ◌<◌}
use native.Mathlib.Nat.{mod-eq_of_lt, mul_comm}
use native.Mathlib.Omega.{arith}
use lib.Dec.{ltb}
use lib.ListN.{length}
use lib.Seq.{sets}
use borrow.Author.Tests.{lt-ltb, le-ltb, eqb-false, not-true}
use Rattle.refusal.specs.Outcomes.{Outcome, refused, answered, after}
use Rattle.refusal.proofs.Laws.Tests.{by_test}
use Rattle.modular.specs.Primes.{Prime}
use Rattle.modular.specs.Residues.{Residue}
use Rattle.modular.specs.Inverses.{Inverse, inverse}
use Rattle.modular.proofs.Laws.Inverses.{inverse_order}
use Rattle.modular.proofs.Laws.Powers.{pow_pow, pow_order, power_one, order_power, residue_pow}
use Rattle.orders.specs.Orders.{OrderOf}
use Rattle.orders.proofs.Laws.Orders.{Invertible, invertible_one, invertible_times, order_again}
use Rattle.tape.specs.declared.Step.{Step}
use Rattle.tape.specs.Layout.{header_of, steps_of}
use Rattle.tape.proofs.Laws.Layout.{steps_count}
use Rattle.machine.specs.Machine.{reg, run, start}
use Rattle.machine.proofs.Laws.Steps.{residues_start}
use Rattle.machine.proofs.Laws.Runs.{run_forward, run_backward}
use Rattle.named.specs.Promises.{IsProgram}
use Rattle.program.specs.Services.{is_named, check_outcome}
use Rattle.program.proofs.Laws.Checking.{AcceptedNamed, accepted_named_lem}
use Rattle.program.proofs.Laws.Accepting.{accepted_program}
use Rattle.sequencer.specs.Records.{Record}
use Rattle.sequencer.specs.Services.{start_record, load_outcome}
use Rattle.sequencer.specs.Lists.{Turn, none, to, turned, Request, given, answer_to, record_after, after_all, numbers_all, CompletedRun, unless_refused, performed}
use Rattle.sequencer.specs.Demand.{EndToEnd, AllEndToEnd, Chain, TurnedEndToEnd, TurnedOrRefused, factor, exponent_after, power_after, ChainEnds}
use Rattle.sequencer.proofs.Laws.Answers.{steps_sound, prime_of, load_answered, run_answered, each_as_said_lem}
use Rattle.sequencer.proofs.Laws.Orders.{load_order, order_loads, free_loads}

-- a turn leaves the registers
turned_registers : (t : Turn) (s : Record) → (turned t s).registers ≡ s.registers
turned_registers none s = refl
turned_registers (to n) s = refl

end_named : {p r : ℕ} {q : CompletedRun} → EndToEnd p r q → AcceptedNamed q.tape
end_named {q = q} end = accepted_named_lem 0 q.tape end.accepted (eqb-false _ 0 (not-true _ end.named))

-- ---- the registers

module _ (p : ℕ) (pr : Prime p) (r a : ℕ) (ra : Residue p a) (ord : a ^ r % p ≡ 1) where
  -- (1, a^n, 1, 1) by n modulo r, from a power of the power of a before
  reduced : (E n : ℕ) → start ((a ^ E % p) ^ n % p) ≡ start (a ^ (E * n % r) % p)
  reduced E n = ap start (pow_pow p a E n ∙ sym (pow_order p a r (E * n) ord))

  -- one run end to end, at (1, a^E, 1, 1)
  module _ (q : CompletedRun) (end : EndToEnd p r q) (E : ℕ) where
    abbrev xs : List Step
    xs = steps_of q.tape

    abbrev k : ℕ
    k = (header_of q.tape).exponent

    abbrev b : ℕ
    b = a ^ E % p

    residue : Residue p b
    residue = residue_pow p pr a E ra

    is_program_lem : IsProgram r k xs
    is_program_lem = subst (λ (n : ℕ). IsProgram n k xs) end.order (accepted_program q.tape (end_named end))

    goal_is : (header_of q.tape).steps ≡ length xs
    goal_is = sym (steps_count q.tape)

    forward : q.from ≡ 0 → q.goal ≡ length xs → run p xs q.from q.goal (start b) ≡ start (a ^ (E * factor r q % r) % p)
    forward e f =
        let up : ltb q.from q.goal ≡ true = lt-ltb q.from q.goal (omega (arith, is_program_lem.some)) in
        ap₂ (λ (i j : ℕ). run p xs i j (start b)) e f
        ∙ run_forward p pr xs (steps_sound q.tape) (start b) (residues_start p pr b residue)
        ∙ is_program_lem.raises p pr b residue (order_power p pr a r E ord)
        ∙ rw up (reduced E k)

    backward : q.from ≡ length xs → q.goal ≡ 0 → run p xs q.from q.goal (start b) ≡ start (a ^ (E * factor r q % r) % p)
    backward e f =
        let down : ltb q.from q.goal ≡ false = le-ltb q.from q.goal (omega arith) in
        ap₂ (λ (i j : ℕ). run p xs i j (start b)) e f
        ∙ run_backward p pr xs (steps_sound q.tape) (start b) (residues_start p pr b residue)
        ∙ is_program_lem.undone_raises p pr b residue (order_power p pr a r E ord)
        ∙ rw down (reduced E (inverse r k))

    pub linked : run (header_of q.tape).modulus xs q.from q.goal (start b) ≡ start (a ^ (E * factor r q % r) % p)
    linked =
        ap (λ (n : ℕ). run n xs q.from q.goal (start b)) end.modulus
        ∙ ⊎_elim (λ e. forward e.0 (e.1 ∙ goal_is)) (λ e. backward (e.0 ∙ goal_is) e.1) end.ends

  from_there : (qs : List Request) (E : ℕ) (s : Record) → s.registers ≡ start (a ^ E % p) → AllEndToEnd p r (performed qs s)
      → (after_all qs s).registers ≡ start (a ^ exponent_after r (performed qs s) E % p)
  unfolding after_all performed AllEndToEnd exponent_after
  from_there [] E s e h = e
  from_there (q ∷ qs) E s e h = go (answer_to q s) refl (from_there qs) h
    where
      began : (given q s).registers ≡ start (a ^ E % p)
      began = turned_registers q.turn s ∙ e

      done : CompletedRun
      done = record { tape = q.tape; from = (given q s).position; goal = q.goal }

      go : (answer : Outcome Record) → answer_to q s ≡ answer
          → ((E' : ℕ) (s' : Record) → s'.registers ≡ start (a ^ E' % p) → AllEndToEnd p r (performed qs s')
          → (after_all qs s').registers ≡ start (a ^ exponent_after r (performed qs s') E' % p))
          → AllEndToEnd p r (unless_refused answer done (performed qs (after answer (given q s))))
          → (after_all qs (after answer (given q s))).registers
          ≡ start (a ^ exponent_after r (unless_refused answer done (performed qs (after answer (given q s)))) E % p)
      go (refused n) was rest links = rest E (given q s) began links
      go (answered t) was rest links =
          rest (E * factor r done % r) t
          (ap (λ (u : Record). u.registers) (run_answered q.tape (given q s) q.goal was)
          ∙ ap (run (header_of q.tape).modulus (steps_of q.tape) (given q s).position q.goal) began
          ∙ linked done links.0 E)
          links.1

-- ---- the order of the power

module _ (p r : ℕ) where
  -- of k and its inverse modulo r each is the other's inverse
  factor_invertible : (q : CompletedRun) → EndToEnd p r q → Invertible r (factor r q)
  factor_invertible q end =
      let k = (header_of q.tape).exponent in
      let i = subst (λ (n : ℕ). Inverse n k (inverse n k)) end.order (inverse_order k (header_of q.tape).order (end_named end).exponent) in
      let more : 1 < r = omega (arith, i.low, i.high) in
      let one = i.one ∙ sym (mod-eq_of_lt more) in
      by_test (ltb q.from q.goal)
      (λ up. rw up (inverse r k, one))
      (λ down. rw down (k, ap (λ (n : ℕ). n % r) (mul_comm (inverse r k) k) ∙ one))

  -- so E, a product of such factors, has an inverse
  exponent_invertible : (qs : List CompletedRun) (E : ℕ) → AllEndToEnd p r qs → Invertible r E → Invertible r (exponent_after r qs E)
  unfolding AllEndToEnd exponent_after
  exponent_invertible [] E links i = i
  exponent_invertible (q ∷ qs) E links i =
      exponent_invertible qs (E * factor r q % r) links.1 (invertible_times r E (factor r q) i (factor_invertible q links.0))

-- ---- both

module _ {p r a : ℕ} {qs : List Request} {s : Record} (c : Chain p r a qs s) where
  chain_prime : Prime p
  chain_prime = subst Prime c.modulus (prime_of c.tape c.accepted)

  chain_base : Residue p a
  chain_base = subst (λ (n : ℕ). Residue n a) c.modulus (load_answered c.tape a (start_record a) c.loaded).base

pub chain_ends_lem : (qs : List Request) (s : Record) (row : List ℕ) → ChainEnds qs s (sets row 0 (numbers_all qs s)) (after_all qs s)
chain_ends_lem qs s row p r a c =
    let pr = chain_prime c in
    let ra = chain_base c in (
      each_as_said_lem qs s row,
      from_there p pr r a ra c.power qs 1 s (c.registers ∙ ap start (sym (power_one p pr a ra))) c.links,
      order_again p pr a r (exponent_after r (performed qs s) 1) (exponent_invertible p r (performed qs s) 1 c.links (invertible_one r)),
    )

-- DOCUMENT 02, T-06. The result of a base of order r, which is in register 1, is loaded by every accepted named program for p and r.
pub result_loads : (p r a : ℕ) (qs : List Request) (s : Record) → Chain p r a qs s → OrderOf p a r
    → (tape : List ℕ) → check_outcome tape ≡ answered 0 → is_named (header_of tape) ≡ true → (header_of tape).modulus ≡ p → (header_of tape).order ≡ r
    → let b = reg (after_all qs s).registers 1 in load_outcome tape b ≡ answered (start_record b)
result_loads p r a qs s c o tape accepted named modulus order =
    let b : ℕ = power_after p r a qs s in
    let residue : Residue p b = residue_pow p (chain_prime c) a (exponent_after r (performed qs s) 1) (chain_base c) in
    let ends = chain_ends_lem qs s [] p r a c in
    subst (λ (v : List ℕ). load_outcome tape (reg v 1) ≡ answered (start_record (reg v 1))) (sym ends.1)
    (order_loads tape b accepted (subst (λ (n : ℕ). Residue n b) (sym modulus) residue) named
    (subst₂ (λ (m n : ℕ). OrderOf m b n) (sym modulus) (sym order) (ends.2 o)))

-- A chain whose base was loaded on a named program for r is from a base of order r.
pub chain_order : (p r a : ℕ) (qs : List Request) (s : Record) (c : Chain p r a qs s) → is_named (header_of c.tape) ≡ true
    → (header_of c.tape).order ≡ r → OrderOf p a r
chain_order p r a qs s c named order = subst₂ (λ (m n : ℕ). OrderOf m a n) c.modulus order (load_order c.tape a c.loaded named)

-- ---- document 02's own words

-- runs that are refused or have a turn before them, to 0 for a forward run and to the step count for a backward one, are links of a chain
turned_links : (p r : ℕ) (qs : List Request) (s : Record) → TurnedOrRefused p r qs s → AllEndToEnd p r (performed qs s)
unfolding performed TurnedOrRefused AllEndToEnd
turned_links p r [] s all = tt
turned_links p r (q ∷ qs) s all = go (answer_to q s) refl (turned_links p r qs (record_after q s) all.1) all.0
  where
    begun : ℕ → CompletedRun
    begun i = record { tape = q.tape; from = i; goal = q.goal }

    go : (answer : Outcome Record) → answer_to q s ≡ answer → AllEndToEnd p r (performed qs (after answer (given q s)))
        → ((n : ℕ) × (answer ≡ refused n)) ⊎ TurnedEndToEnd p r q
        → AllEndToEnd p r (unless_refused answer (begun (given q s).position) (performed qs (after answer (given q s))))
    go (refused n) e rest either = rest
    go (answered t) e rest (inl refusal) = let z : ◌≡◌ {A = ℕ} 0 1 = cc in absurd (omega arith)
    go (answered t) e rest (inr turn) =
        (subst (λ (i : ℕ). EndToEnd p r (begun i)) (sym (ap (λ (u : Turn). (turned u s).position) turn.1.0)) turn.1.1, rest)

-- so a list of such runs, from what load answered on an accepted program of that p, with a^r = 1 modulo p, is a chain
pub turned_chain : (p r a : ℕ) (qs : List Request) (tape : List ℕ) → check_outcome tape ≡ answered 0 → (header_of tape).modulus ≡ p
    → load_outcome tape a ≡ answered (start_record a) → a ^ r % p ≡ 1 → TurnedOrRefused p r qs (start_record a) → Chain p r a qs (start_record a)
turned_chain p r a qs tape accepted modulus loaded power turned =
    record {
      tape = tape;
      accepted = accepted;
      modulus = modulus;
      loaded = loaded;
      registers = refl;
      power = power;
      links = turned_links p r qs (start_record a) turned;
    }

-- and from a base that an accepted named program for p and r has loaded, whose order is r then
pub loaded_chain : (p r a : ℕ) (qs : List Request) (tape : List ℕ) → check_outcome tape ≡ answered 0 → is_named (header_of tape) ≡ true
    → (header_of tape).modulus ≡ p → (header_of tape).order ≡ r → load_outcome tape a ≡ answered (start_record a)
    → TurnedOrRefused p r qs (start_record a) → Chain p r a qs (start_record a) × OrderOf p a r
loaded_chain p r a qs tape accepted named modulus order loaded turned =
    let o = subst₂ (λ (m n : ℕ). OrderOf m a n) modulus order (load_order tape a loaded named) in
    (turned_chain p r a qs tape accepted modulus loaded o.one turned, o)

-- and from any base with a^r = 1, of whatever order, on a program made by hand
pub free_chain : (p r a : ℕ) (qs : List Request) (tape : List ℕ) → check_outcome tape ≡ answered 0 → is_named (header_of tape) ≡ false
    → (header_of tape).modulus ≡ p → Residue p a → a ^ r % p ≡ 1 → TurnedOrRefused p r qs (start_record a) → Chain p r a qs (start_record a)
free_chain p r a qs tape accepted free modulus base power turned =
    turned_chain p r a qs tape accepted modulus (free_loads tape a accepted (subst (λ (n : ℕ). Residue n a) (sym modulus) base) free) power turned
