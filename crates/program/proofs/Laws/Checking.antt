-- Check by cases: past the layout and the variant, a free program is tested for its modulus, and check of a named program is build
-- into the longest tape, then the test of the steps, which is a comparison of the words. So an accepted tape has passed each rule.
use mathlib.Core.Path.{◌≡◌, refl, sym, ap, ap₂, ◌∙◌}
use mathlib.Core.Bool.{Bool, true, false, not, ◌&&◌, true≢false}
use mathlib.Core.List.{List, [], ◌∷◌, ◌++◌}
use Prim.Native.Nat.{ℕ, ◌≤◌}
use native.Mathlib.Omega.{arith}
use lib.Dec.{ltb}
use lib.ListN.{length, take}
use lib.Seq.{take_at}
use borrow.Author.Tests.{ltb-false, le-ltb, eq-eqb, ne_eqb, not-false}
use Rattle.refusal.specs.declared.Refusal.{Refusal}
use Rattle.refusal.specs.declared.Refusal.TheVariants.{Modulus, Order, Exponent, Variant, Room, Mismatch}
use Rattle.refusal.specs.Refusals.{number_of}
use Rattle.refusal.specs.Outcomes.{Outcome, Rule, refused, answered, outcome, and_then, ◌given_if◌, gives, passes, answers, row_written}
use Rattle.refusal.proofs.Laws.Rules.{passed, refused_by, answer_is}
use Rattle.refusal.proofs.Laws.Tests.{by_test, test_false}
use Rattle.modular.specs.Inverses.{bad_exponent}
use Rattle.tape.specs.declared.Header.{Header}
use Rattle.tape.specs.declared.Step.{Step}
use Rattle.tape.specs.Layout.{max_words, step_count, header_of, steps_of, is_length, laid_out, header_outcome, read_outcome, program_words}
use Rattle.tape.proofs.Laws.Layout.{LawfulProgram, words_program, program_laid_out, program_steps}
use Rattle.tape.proofs.Laws.Reading.{ReadAs, read_word, reading_refused, reading_passed}
use Rattle.named.specs.Named.{last_variant, programs_for, named_program, named_words}
use Rattle.named.specs.Members.{Member, is_one_of}
use Rattle.named.specs.Parameters.{bad_modulus, bad_order, bad_variant}
use Rattle.named.proofs.Laws.Parameters.{named, named_some, named_most}
use Rattle.named.proofs.Laws.Members.{one_of_member, member_one_of}
use Rattle.named.proofs.Laws.Table.{only_program, named_member}
use Rattle.program.specs.Services.{build_outcome, build_buffer, is_named, check_rules, accept_outcome}
use Rattle.program.specs.Same.{same_words}
use Rattle.program.specs.Inner.Building.{Writable, refused_past}
use Rattle.program.proofs.Laws.Building.{named_lawful, named_short}
use Rattle.program.proofs.Laws.Answering.{writable}
use Rattle.program.proofs.Laws.Same.{same_itself, same_equal}

-- ---- lists of rules

-- two lists that begin alike: the second is the first, where what follows there refuses nothing, and then what follows in it
alike : {A B : Type 0} (front more more' : List Rule) (x : A) (y : B) → (outcome front x ≡ answered x → outcome more x ≡ answered x)
    → outcome (front ++ more') y ≡ and_then (outcome (front ++ more) x) (λ z. outcome more' y)
unfolding outcome
alike [] more more' x y f = rw (f refl)
alike ((e given_if true) ∷ front) more more' x y f = refl
alike ((e given_if false) ∷ front) more more' x y f = alike front more more' x y f

-- ---- build that answers

-- it has passed its tests, and the words fit the row
pub record Passed (p r k variant room n : ℕ) : Type 0 where
  pub writable : Writable p r k variant
  pub count : length (named_words p r k variant) ≡ n
  pub fits : n ≤ room

module _ (p r k variant room n : ℕ) (built : build_outcome p r k variant room ≡ answered n) where
  build_passed : Passed p r k variant room n
  unfolding build_outcome
  build_passed =
      let words : List ℕ = named_words p r k variant in
      let a = passed _ _ _ _ _ built in
      let b = passed _ _ _ _ _ a.1 in
      let c = passed _ _ _ _ _ b.1 in
      let d = passed _ _ _ _ _ c.1 in
      let e = passed _ _ _ _ _ d.1 in
      let count : length words ≡ n = sym (answer_is [] (length words) e.1) in
      record {
        writable = writable p r k a.0 b.0 c.0 variant d.0;
        count = count;
        fits = omega (arith, ltb-false room (length words) e.0);
      }

  -- and the longest tape
  pub build_count : (length (named_words p r k variant) ≡ n) × (n ≤ room) × (n ≤ max_words)
  build_count = let b = build_passed in (b.count, b.fits, omega (arith, b.count, named_short p r k variant b.writable))

-- and stand at its front
pub build_words : (p r k variant n : ℕ) (row : List ℕ) → build_outcome p r k variant (length row) ≡ answered n
    → take n (build_buffer p r k variant row) ≡ named_words p r k variant
unfolding build_buffer
build_words p r k variant n row built =
    let words : List ℕ = named_words p r k variant in
    ap (take n) (row_written words row built) ∙ take_at words _ n (build_count p r k variant (length row) n built).0

-- ---- the cases

-- the steps are those of a program that is allowed
abbrev allowed : List ℕ → Header → Bool
allowed tape h = is_one_of (steps_of tape) (programs_for h.variant h.order h.exponent)

-- the rules past the variant
abbrev rules_past : Bool → List ℕ → Header → List Rule
rules_past is_named_lem tape h =
    (Modulus given_if bad_modulus h.modulus)
    ∷ (Order given_if (is_named_lem && bad_order h.modulus h.order))
    ∷ (Exponent given_if (is_named_lem && bad_exponent h.exponent h.order))
    ∷ (Mismatch given_if (is_named_lem && not (allowed tape h)))
    ∷ []

-- the words that build writes for a header
abbrev pub built_for : Header → List ℕ
built_for h = named_words h.modulus h.order h.exponent h.variant

abbrev pub build_for : Header → Outcome ℕ
build_for h = build_outcome h.modulus h.order h.exponent h.variant max_words

module _ {A : Type 0} (x : A) (tape : List ℕ) where
  pub check_unmeasured : (n : ℕ) → header_outcome tape ≡ refused n → outcome (check_rules tape) x ≡ refused n
  unfolding check_rules header_outcome
  check_unmeasured n e = let r = refused_by _ _ _ e in gives _ _ _ r.0 ∙ ap refused r.1

  pub check_unread : (n : ℕ) → read_outcome tape ≡ refused n → outcome (check_rules tape) x ≡ refused n
  unfolding check_rules
  check_unread n e = reading_refused tape _ x n e

module _ {A : Type 0} (x : A) (tape : List ℕ) (h : Header) (read : ReadAs tape h) where
  past_layout : outcome (check_rules tape) x ≡ outcome ((Variant given_if ltb last_variant h.variant) ∷ rules_past (is_named h) tape h) x
  unfolding check_rules
  past_layout =
      reading_passed tape _ x h read
      ∙ ap (λ (g : Header). outcome ((Variant given_if ltb last_variant g.variant) ∷ rules_past (is_named g) tape g) x) (sym read.header)

  pub check_variant : bad_variant h.variant ≡ true → ¬ (h.variant ≡ 0) → outcome (check_rules tape) x ≡ refused (number_of Variant)
  check_variant bad some =
      past_layout
      ∙ gives _ _ _
      (by_test (ltb last_variant h.variant) (λ above. above)
      (λ most. absurd (true≢false (sym bad ∙ named h.variant some (ltb-false last_variant h.variant most)))))

  past_variant : (is_named_lem : Bool) → is_named h ≡ is_named_lem → h.variant ≤ last_variant → outcome (check_rules tape) x ≡ outcome (rules_past is_named_lem tape h) x
  past_variant is_named_lem e most =
      past_layout ∙ passes _ _ _ (le-ltb last_variant h.variant most) ∙ ap (λ (t : Bool). outcome (rules_past t tape h) x) e

  module _ (free : h.variant ≡ 0) where
    past_free : outcome (check_rules tape) x ≡ outcome (rules_past false tape h) x
    past_free = past_variant false (ap not (eq-eqb h.variant 0 free)) (omega arith)

    pub check_free_modulus : bad_modulus h.modulus ≡ true → outcome (check_rules tape) x ≡ refused (number_of Modulus)
    check_free_modulus bad = past_free ∙ gives _ _ _ bad

    pub check_free : bad_modulus h.modulus ≡ false → outcome (check_rules tape) x ≡ answered x
    check_free good = past_free ∙ passes _ _ _ good ∙ passes _ _ _ refl ∙ passes _ _ _ refl ∙ passes _ _ _ refl ∙ answers x

  module _ (is : bad_variant h.variant ≡ false) where
    pub past_named : outcome (check_rules tape) x ≡ outcome (rules_past true tape h) x
    past_named = past_variant true (ap not (ne_eqb h.variant 0 (named_some h.variant is))) (named_most h.variant is)

    -- build refuses by its first three rules or not at all: the number names a variant, and the longest tape has room
    as_built : outcome (check_rules tape) x ≡ and_then (build_for h) (λ n. outcome ((Mismatch given_if not (allowed tape h)) ∷ []) x)
    unfolding build_outcome
    as_built =
        past_named
        ∙ alike
        ((Modulus given_if bad_modulus h.modulus) ∷ (Order given_if bad_order h.modulus h.order) ∷ (Exponent given_if bad_exponent h.exponent h.order) ∷ [])
        ((Variant given_if bad_variant h.variant) ∷ (Room given_if ltb max_words (length (built_for h))) ∷ [])
        ((Mismatch given_if not (allowed tape h)) ∷ [])
        (length (built_for h)) x
        (λ e.
        let m = passed _ _ _ _ _ e in
        let o = passed _ _ _ _ _ m.1 in
        let x = passed _ _ _ _ _ o.1 in
        let short = named_short _ _ _ _ (writable _ _ _ m.0 o.0 x.0 h.variant is) in
        passes _ _ _ is ∙ passes _ _ _ (le-ltb max_words (length (built_for h)) short) ∙ answers _)

-- ---- a tape that build's words are compared with

module _ (tape : List ℕ) (h : Header) (n : ℕ) (built : build_for h ≡ answered n) where
  lawful : LawfulProgram (named_program h.modulus h.order h.exponent h.variant)
  lawful = named_lawful _ _ _ _ (build_passed _ _ _ _ max_words n built).writable

  -- it is laid out where its words are those built for its header, and its steps are allowed
  same_laid : tape ≡ built_for h → laid_out tape ≡ true
  same_laid e = ap laid_out e ∙ program_laid_out _ lawful

  same_allowed : tape ≡ built_for h → allowed tape h ≡ true
  same_allowed e =
      ap (λ (xs : List Step). is_one_of xs (programs_for h.variant h.order h.exponent)) (ap steps_of e ∙ program_steps _ lawful)
      ∙ member_one_of _ _ (named_member h.variant h.order h.exponent (build_passed _ _ _ _ max_words n built).writable.named)

-- and one that is laid out and has steps that are allowed has those words
allowed_same : (tape : List ℕ) (h : Header) → h ≡ header_of tape → laid_out tape ≡ true → allowed tape h ≡ true → tape ≡ built_for h
allowed_same tape h is laid e =
    sym (words_program tape laid)
    ∙ ap₂ (λ (g : Header) (xs : List Step). program_words (record { variant = g.variant; modulus = g.modulus; order = g.order; exponent = g.exponent; steps = xs }))
    (sym is) (only_program h.variant h.order h.exponent (steps_of tape) (one_of_member _ _ e))

pub measured : (tape : List ℕ) (h : Header) → header_outcome tape ≡ answered h → (is_length tape ≡ true) × (h ≡ header_of tape)
unfolding header_outcome
measured tape h e = let a = passed _ _ _ _ _ e in (not-false _ a.0, answer_is [] _ a.1)

module _ (tape : List ℕ) (h : Header) (m : header_outcome tape ≡ answered h) (is : bad_variant h.variant ≡ false) where
  read_as : laid_out tape ≡ true → ReadAs tape h
  read_as laid = record { long = (measured tape h m).0; laid = laid; header = (measured tape h m).1 }

  -- a refusal that stands where the tape is laid out comes after those of the layout
  refused_past_lem : (e : Refusal) → (laid_out tape ≡ true → accept_outcome tape ≡ refused (number_of e)) → refused_past tape e ≡ accept_outcome tape
  unfolding check_rules
  refused_past_lem e f =
      by_test (laid_out tape)
      (λ laid. reading_passed tape _ _ h (read_as laid) ∙ gives _ _ _ refl ∙ sym (f laid))
      (λ other. let read = read_word tape (measured tape h m).0 other in reading_refused tape _ _ _ read ∙ sym (reading_refused tape _ _ _ read))

  by_build : laid_out tape ≡ true → accept_outcome tape ≡ and_then (build_for h) (λ n. outcome ((Mismatch given_if not (allowed tape h)) ∷ []) (header_of tape))
  by_build laid = as_built (header_of tape) tape h (read_as laid) is

  pub check_not_built : (e : Refusal) → build_for h ≡ refused (number_of e) → refused_past tape e ≡ accept_outcome tape
  check_not_built e not_built = refused_past_lem e (λ laid. by_build laid ∙ rw not_built)

  module _ (n : ℕ) (built : build_for h ≡ answered n) where
    pub check_same : same_words tape (built_for h) ≡ true → answered h ≡ accept_outcome tape
    check_same e =
        let same = same_equal tape (built_for h) e in
        ap answered (measured tape h m).1
        ∙ sym (by_build (same_laid tape h n built same) ∙ rw built (passes _ _ _ (ap not (same_allowed tape h n built same)) ∙ answers _))

    pub check_other : same_words tape (built_for h) ≡ false → refused_past tape Mismatch ≡ accept_outcome tape
    check_other e =
        let differ : laid_out tape ≡ true → allowed tape h ≡ false =
        λ laid.
        test_false (allowed tape h)
        (λ is_allowed.
        true≢false (sym (ap (same_words tape) (sym (allowed_same tape h (measured tape h m).1 laid is_allowed)) ∙ same_itself tape) ∙ e)) in
        refused_past_lem Mismatch (λ laid. by_build laid ∙ rw built (gives _ _ _ (ap not (differ laid))))

-- ---- an accepted tape

pub record Accepted (tape : List ℕ) : Type 0 where
  pub long : is_length tape ≡ true
  pub laid : laid_out tape ≡ true
  pub variant : (header_of tape).variant ≤ last_variant
  pub modulus : bad_modulus (header_of tape).modulus ≡ false

pub accepted : {A : Type 0} (x : A) {y : A} (tape : List ℕ) → outcome (check_rules tape) x ≡ answered y → Accepted tape
unfolding check_rules
accepted x tape e =
    let a = passed _ _ _ _ _ e in
    let b = passed _ _ _ _ _ a.1 in
    let c = passed _ _ _ _ _ b.1 in
    let d = passed _ _ _ _ _ c.1 in
    record { long = not-false _ a.0; laid = not-false _ b.0; variant = ltb-false last_variant _ c.0; modulus = d.0 }

-- one of a named program
pub record AcceptedNamed (tape : List ℕ) : Type 0 where
  pub named : bad_variant (header_of tape).variant ≡ false
  pub variant : (header_of tape).variant ≤ last_variant
  pub modulus : bad_modulus (header_of tape).modulus ≡ false
  pub order : bad_order (header_of tape).modulus (header_of tape).order ≡ false
  pub exponent : bad_exponent (header_of tape).exponent (header_of tape).order ≡ false
  pub member : Member (steps_of tape) (programs_for (header_of tape).variant (header_of tape).order (header_of tape).exponent)

pub accepted_named_lem : {A : Type 0} (x : A) {y : A} (tape : List ℕ) → outcome (check_rules tape) x ≡ answered y → ¬ ((header_of tape).variant ≡ 0) → AcceptedNamed tape
accepted_named_lem x tape e some =
    let all = accepted x tape e in
    let is = named (header_of tape).variant some all.variant in
    let read : ReadAs tape (header_of tape) = record { long = all.long; laid = all.laid; header = refl } in
    let m = passed _ _ _ _ _ (sym (past_named _ tape (header_of tape) read is) ∙ e) in
    let o = passed _ _ _ _ _ m.1 in
    let x = passed _ _ _ _ _ o.1 in
    let s = passed _ _ _ _ _ x.1 in
    record {
      named = is;
      variant = all.variant;
      modulus = m.0;
      order = o.0;
      exponent = x.0;
      member = one_of_member _ _ (not-false _ s.0);
    }

-- ---- the header of an accepted tape

module _ (tape : List ℕ) (h : Header) (e : accept_outcome tape ≡ answered h) where
  pub header_is : h ≡ header_of tape
  header_is = answer_is (check_rules tape) (header_of tape) e

  pub steps_are : h.steps ≡ step_count tape
  steps_are = ap (λ (g : Header). g.steps) header_is
