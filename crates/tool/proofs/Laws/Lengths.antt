-- How many bytes the texts of replies have at most: each is parts one after another, and a table's longest entry is found by a test.
use mathlib.Core.Path.{◌≡◌, refl}
use mathlib.Core.Bool.{Bool, true, false, ◌&&◌, cond}
use mathlib.Core.List.{List, [], ◌∷◌, ◌++◌, map}
use Prim.Native.Nat.{ℕ, zero, suc, ◌≤◌, ◌<◌}
use native.Mathlib.Omega.{arith}
use lib.Dec.{leb, eqb}
use lib.ListN.{length, get_or, length-append}
use borrow.Author.Tests.{leb-true}
use Rattle.refusal.specs.Reasons.{reasons, own_reasons}
use Rattle.refusal.proofs.Laws.Tests.{both}
use Rattle.text.specs.Text.{ascii, decimal_within, decimal, newline}
use Rattle.text.specs.Quoting.{quoted}
use Rattle.text.proofs.Laws.Decimal.{decimal_32, decimal_64}
use Rattle.text.proofs.Laws.Quoting.{quoted_most}
use Rattle.tool.specs.declared.Row.{Row}
use Rattle.tool.specs.Verbs.{is_variant}
use Rattle.tool.specs.Texts.{reason_for, refusal_line, no_verb_line, from_text, count_text, wrong_count_line, listed, variants_text, unread_text, unread_line, script_line, lines, usage}
use Rattle.tool.specs.Rows.{max_text}
use Rattle.tool.specs.Inner.Understood.{longest_name}

-- of two texts, by a test
either_most : (t : Bool) (a b : List ℕ) (most : ℕ) → length a ≤ most → length b ≤ most → length (cond t a b) ≤ most
either_most true a b most ha hb = ha
either_most false a b most ha hb = hb

-- ---- refusals

abbrev all_within : ℕ → List (List ℕ) → Bool
all_within most [] = true
all_within most (text ∷ texts) = leb (length text) most && all_within most texts

each_within : (most : ℕ) (texts : List (List ℕ)) → all_within most texts ≡ true → (n : ℕ) → length (get_or texts n []) ≤ most
each_within most [] all n = omega arith
each_within most (text ∷ texts) all zero = leb-true (length text) most (both (leb (length text) most) (all_within most texts) all).0
each_within most (text ∷ texts) all (suc n) = each_within most texts (both (leb (length text) most) (all_within most texts) all).1 n

reason_within : (n : ℕ) → length (get_or (map ascii reasons) n []) ≤ 80
unfolding reasons
reason_within n = each_within 80 (map ascii reasons) refl n

own_within : (n : ℕ) → length (get_or (map ascii own_reasons) n []) ≤ 80
unfolding own_reasons
own_within n = each_within 80 (map ascii own_reasons) refl n

pub reason_most : (own n : ℕ) → length (reason_for own n) ≤ 80
unfolding reason_for
reason_most own n = either_most (eqb n own) (get_or (map ascii own_reasons) n []) (get_or (map ascii reasons) n []) 80 (own_within n) (reason_within n)

pub refusal_most : (own n : ℕ) → n < 4294967296 → length (refusal_line own n) ≤ 120
unfolding refusal_line
refusal_most own n h =
    let number = ascii "fibexp: refused " ++ decimal n in
    let reason = reason_for own n in
    omega (
      arith,
      length-append (number ++ ascii ": " ++ reason) (newline ∷ []),
      length-append (number ++ ascii ": ") reason,
      length-append number (ascii ": "),
      length-append (ascii "fibexp: refused ") (decimal n),
      decimal_32 n h,
      reason_most own n,
    )

-- ---- complaints

pub no_verb_most : (word : List ℕ) → length (no_verb_line word) ≤ max_text
unfolding no_verb_line
no_verb_most word =
    let told = ascii "fibexp: " ++ quoted word in
    let rest = ascii ": no such verb; fibexp help lists them" in
    omega (
      arith,
      length-append (told ++ rest) (newline ∷ []),
      length-append told rest,
      length-append (ascii "fibexp: ") (quoted word),
      quoted_most word,
    )

from_most : (least most : ℕ) → least < 18446744073709551616 → length (from_text least most) ≤ 24
unfolding from_text
from_most least most h =
    either_most (eqb least most) [] (decimal least ++ ascii " to ") 24 (omega arith)
    (omega (arith, length-append (decimal least) (ascii " to "), decimal_64 least h))

count_most : (least most : ℕ) → least < 18446744073709551616 → most < 18446744073709551616 → length (count_text least most) ≤ 55
unfolding count_text
count_most least most h k =
    let from = from_text least most in
    let last = cond (eqb most 1) (ascii " parameter") (ascii " parameters") in
    omega (
      arith,
      length-append (from ++ decimal most) last,
      length-append from (decimal most),
      from_most least most h,
      decimal_64 most k,
      either_most (eqb most 1) (ascii " parameter") (ascii " parameters") 11 (omega arith) (omega arith),
    )

pub wrong_count_most : (name : List ℕ) (row : Row) (given : ℕ) → length name ≤ longest_name → row.least < 18446744073709551616
    → row.most < 18446744073709551616 → given < 18446744073709551616 → length (wrong_count_line name row given) ≤ max_text
unfolding wrong_count_line
wrong_count_most name row given short h k g =
    let a = ascii "fibexp: " ++ name in
    let b = a ++ ascii " takes " in
    let count = count_text row.least row.most in
    let c = b ++ count in
    let d = c ++ ascii ", " in
    let e = d ++ decimal given in
    let f = e ++ ascii " given" in
    omega (
      arith,
      length-append f (newline ∷ []),
      length-append e (ascii " given"),
      length-append d (decimal given),
      length-append c (ascii ", "),
      length-append b count,
      length-append a (ascii " takes "),
      length-append (ascii "fibexp: ") name,
      count_most row.least row.most h k,
      decimal_64 given g,
    )

no_variant_most : length (ascii ": no variant; " ++ variants_text) ≤ 100
unfolding variants_text listed decimal decimal_within
no_variant_most = leb-true (length (ascii ": no variant; " ++ variants_text)) 100 refl

unread_text_most : (row : Row) (place : ℕ) → row.largest < 18446744073709551616 → length (unread_text row place) ≤ 100
unfolding unread_text
unread_text_most row place h =
    let before = ascii ": not a whole number from 0 to " in
    either_most (is_variant row.verb place) (ascii ": no variant; " ++ variants_text) (before ++ decimal row.largest) 100 no_variant_most
    (omega (arith, length-append before (decimal row.largest), decimal_64 row.largest h))

pub unread_most : (word : List ℕ) (row : Row) (place : ℕ) → row.largest < 18446744073709551616 → length (unread_line word row place) ≤ max_text
unfolding unread_line
unread_most word row place h =
    let told = ascii "fibexp: " ++ quoted word in
    let text = unread_text row place in
    omega (
      arith,
      length-append (told ++ text) (newline ∷ []),
      length-append told text,
      length-append (ascii "fibexp: ") (quoted word),
      quoted_most word,
      unread_text_most row place h,
    )

pub script_most : length script_line ≤ max_text
script_most = omega arith

pub usage_most : length usage ≤ max_text
unfolding usage lines variants_text listed decimal decimal_within
usage_most = leb-true (length usage) max_text refl
