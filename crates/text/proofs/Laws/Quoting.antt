-- A word quoted: which bytes are plain, bytes escaped one after another, a word put whole or cut, and how long it is at most.
use mathlib.Core.Path.{◌≡◌, refl, sym}
use mathlib.Core.Bool.{Bool, true, false, not, cond}
use mathlib.Core.List.{List, [], ◌∷◌, ◌++◌, append_assoc, append-nil}
use Prim.Native.Nat.{ℕ, ◌+◌, ◌*◌, ◌/◌, ◌%◌, ◌≤◌, ◌<◌}
use Prim.Native.Char.{code}
use native.Mathlib.Numerals.{add-one}
use native.Mathlib.Omega.{arith}
use lib.Dec.{leb, eqb}
use lib.ListN.{length, get_or, take, length-append, length-take}
use lib.Seq.{take-suc, take_all}
use borrow.Author.Tests.{le-leb, lt-leb, ne_eqb}
use Rattle.refusal.proofs.Laws.Tests.{by_test}
use Rattle.text.specs.Text.{ascii}
use Rattle.text.specs.Rows.{Put}
use Rattle.text.specs.Quoting.{quote, backslash, hex_digit, is_plain, escaped, escapes, shown, quoted}
use Rattle.text.proofs.Laws.Puts.{puts_join}

-- ---- plain bytes

module _ (byte : ℕ) where
  pub plain_low : byte < 32 → is_plain byte ≡ false
  unfolding is_plain
  plain_low h = rw (lt-leb 32 byte h)

  pub plain_high : 126 < byte → is_plain byte ≡ false
  unfolding is_plain
  plain_high h = rw (le-leb 32 byte (omega arith), lt-leb byte 126 h)

  pub plain_quote : byte ≡ quote → is_plain byte ≡ false
  unfolding is_plain
  plain_quote e = rw e

  pub plain_else : 32 ≤ byte → byte ≤ 126 → ¬ (byte ≡ quote) → is_plain byte ≡ not (eqb byte backslash)
  unfolding is_plain
  plain_else low high other = rw (le-leb 32 byte low, le-leb byte 126 high, ne_eqb byte quote other)

  pub escaped_plain : is_plain byte ≡ true → escaped byte ≡ byte ∷ []
  unfolding escaped
  escaped_plain e = rw e

  pub escaped_else : is_plain byte ≡ false → escaped byte ≡ backslash ∷ code "x" ∷ hex_digit (byte / 16) ∷ hex_digit (byte % 16) ∷ []
  unfolding escaped
  escaped_else e = rw e

-- ---- bytes one after another

escapes_append : (xs ys : List ℕ) → escapes (xs ++ ys) ≡ escapes xs ++ escapes ys
unfolding escapes
escapes_append [] ys = refl
escapes_append (x ∷ xs) ys = rw (escapes_append xs ys) (sym (append_assoc (escaped x) (escapes xs) (escapes ys)))

escapes_one : (byte : ℕ) → escapes (byte ∷ []) ≡ escaped byte
unfolding escapes
escapes_one byte = append-nil (escaped byte)

-- the byte at i, behind those in front of it
pub escapes_more : (bytes : List ℕ) (i : ℕ) → i < length bytes → escapes (take (i + 1) bytes) ≡ escapes (take i bytes) ++ escaped (get_or bytes i 0)
escapes_more bytes i h =
    rw (add-one i, take-suc bytes i 0, escapes_append (take i bytes) (get_or bytes i 0 ∷ []), escapes_one (get_or bytes i 0))

-- ---- its length

escaped_most : (byte : ℕ) → length (escaped byte) ≤ 4
escaped_most byte = by_test (is_plain byte) (λ yes. rw (escaped_plain byte yes) (omega arith)) (λ no. rw (escaped_else byte no) (omega arith))

escapes_most : (bytes : List ℕ) → length (escapes bytes) ≤ length bytes * 4
unfolding escapes
escapes_most [] = omega arith
escapes_most (byte ∷ bytes) = omega (arith, length-append (escaped byte) (escapes bytes), escaped_most byte, escapes_most bytes)

dots_most : (t : Bool) → length (cond t [] (ascii "...")) ≤ 3
dots_most true = omega arith
dots_most false = omega arith

pub quoted_most : (word : List ℕ) → length (quoted word) ≤ 64 * 4 + 5
unfolding quoted
quoted_most word =
    let part = escapes (take shown word) in
    let dots = cond (leb (length word) shown) [] (ascii "...") in
    omega (
      arith,
      length-append (quote ∷ [] ++ part ++ dots) (quote ∷ []),
      length-append (quote ∷ [] ++ part) dots,
      length-append (quote ∷ []) part,
      escapes_most (take shown word),
      length-take shown word,
      dots_most (leb (length word) shown),
    )
