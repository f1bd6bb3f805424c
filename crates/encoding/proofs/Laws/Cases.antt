-- The tape that bytes give, by cases: those that are no tape give no words.
use mathlib.Core.Path.{◌≡◌}
use mathlib.Core.Bool.{true, false}
use mathlib.Core.List.{List, []}
use Prim.Native.Nat.{ℕ, ◌%◌, ◌≤◌, ◌<◌}
use native.Mathlib.Omega.{arith}
use lib.Dec.{ltb}
use lib.ListN.{length}
use borrow.Author.Tests.{ltb-false, lt-ltb, le-ltb, eq-eqb, ne_eqb}
use Rattle.refusal.proofs.Laws.Tests.{by_test, neither}
use Rattle.tape.specs.Layout.{max_words, is_length}
use Rattle.encoding.specs.Encoding.{max_bytes, tape_of, no_tape, tape_in}
use Rattle.encoding.proofs.Laws.Tapes.{tape_length}

module _ (bytes : List ℕ) where
  pub words_long : max_bytes < length bytes → tape_in bytes ≡ []
  unfolding tape_in no_tape
  words_long h = rw (lt-ltb max_bytes (length bytes) h)

  module _ (most : length bytes ≤ max_bytes) where
    pub words_odd : ¬ (length bytes % 4 ≡ 0) → tape_in bytes ≡ []
    unfolding tape_in no_tape
    words_odd h = rw (le-ltb max_bytes (length bytes) most, ne_eqb (length bytes % 4) 0 h)

    pub words_whole : length bytes % 4 ≡ 0 → tape_in bytes ≡ tape_of bytes
    unfolding tape_in no_tape
    words_whole h = rw (le-ltb max_bytes (length bytes) most, eq-eqb (length bytes % 4) 0 h)

  -- at most as many as a tape has
  pub words_most : length (tape_in bytes) ≤ max_words
  unfolding tape_in no_tape
  words_most =
      by_test (no_tape bytes)
      (λ no. rw no (omega arith))
      (λ some. rw some (omega (arith, tape_length bytes, ltb-false max_bytes (length bytes) (neither (ltb max_bytes (length bytes)) _ some).0)))

  -- what is no tape gives words of a length that the layout doesn't have
  pub words_none : no_tape bytes ≡ true → is_length (tape_in bytes) ≡ false
  unfolding tape_in is_length
  words_none e = rw e
