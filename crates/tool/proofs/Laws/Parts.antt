-- Replies put part by part: a part with its last byte behind it, lines of a name and numbers, lines of exponents, and how long they are;
-- a complaint whose line was put.
use mathlib.Core.Path.{◌≡◌, refl}
use mathlib.Core.List.{List, [], ◌∷◌, ◌++◌, map, append_assoc}
use Prim.Native.Nat.{ℕ, suc, ◌^◌, ◌≤◌, ◌<◌}
use native.Mathlib.Omega.{arith}
use lib.IntN.{ℤ, pos, negsuc}
use lib.ListN.{length, length-append}
use lib.Signed.{mag}
use Rattle.text.specs.Text.{decimal, whole, blank, newline, line}
use Rattle.text.specs.Rows.{Put}
use Rattle.text.proofs.Laws.Decimal.{decimal_32, decimal_64}
use Rattle.text.proofs.Laws.Puts.{puts_join}
use Rattle.text.proofs.Laws.Lines.{put_word, put_last, line_length}
use Rattle.tool.specs.declared.Reply.{Reply}
use Rattle.tool.specs.Replies.{complains}
use Rattle.tool.specs.Rows.{max_text, Told}

-- a text, and what is put behind it with its end
pub puts_then : {a b c : List ℕ} {at m n : ℕ} {vs : List ℕ} (ws us : List ℕ) → Put a at vs m b → Put b m (ws ++ us) n c → Put a at (vs ++ ws ++ us) n c
puts_then {vs = vs} ws us v w = rw (append_assoc vs ws us) (puts_join v w)

-- ---- a name and numbers

pub one_put : {a b c : List ℕ} {at m k : ℕ} (name : List ℕ) (n : ℕ) → Put a at (name ++ blank ∷ []) m b → Put b m (decimal n ++ newline ∷ []) k c
    → Put a at (line (name ∷ decimal n ∷ [])) k c
one_put name n v w = put_word name (decimal n) [] v (put_last (decimal n) w)

pub one_short : (name : List ℕ) (n : ℕ) → length name ≤ 7 → n < 4294967296 → length (line (name ∷ decimal n ∷ [])) ≤ max_text
one_short name n short h = omega (arith, line_length name (decimal n ∷ []), decimal_32 n h)

pub two_put : {a b c d : List ℕ} {at l k p : ℕ} (name : List ℕ) (m n : ℕ) → Put a at (name ++ blank ∷ []) l b → Put b l (decimal m ++ blank ∷ []) k c
    → Put c k (decimal n ++ newline ∷ []) p d → Put a at (line (name ∷ decimal m ∷ decimal n ∷ [])) p d
two_put name m n v w x = put_word name (decimal m) (decimal n ∷ []) v (one_put (decimal m) n w x)

pub two_short : (name : List ℕ) (m n : ℕ) → length name ≤ 7 → m < 4294967296 → n < 4294967296
    → length (line (name ∷ decimal m ∷ decimal n ∷ [])) ≤ max_text
two_short name m n short h k = omega (arith, line_length name (decimal m ∷ decimal n ∷ []), decimal_32 m h, decimal_32 n k)

-- ---- exponents

pub whole_short : (z : ℤ) → mag z < 2 ^ 63 → length (whole z) ≤ 21
unfolding whole
whole_short (pos n) h = omega (arith, decimal_64 n (omega arith))
whole_short (negsuc n) h = omega (arith, decimal_64 (suc n) (omega arith))

pub four_put : {a b c d e : List ℕ} {at k l m n : ℕ} (w x y z : ℤ) → Put a at (whole w ++ blank ∷ []) k b → Put b k (whole x ++ blank ∷ []) l c
    → Put c l (whole y ++ blank ∷ []) m d → Put d m (whole z ++ newline ∷ []) n e → Put a at (line (map whole (w ∷ x ∷ y ∷ z ∷ []))) n e
four_put w x y z p q r s =
    put_word (whole w) (whole x) (whole y ∷ whole z ∷ []) p
    (put_word (whole x) (whole y) (whole z ∷ []) q (put_word (whole y) (whole z) [] r (put_last (whole z) s)))

pub four_short : (w x y z : ℤ) → length (whole w) ≤ 21 → length (whole x) ≤ 21 → length (whole y) ≤ 21 → length (whole z) ≤ 21
    → length (line (map whole (w ∷ x ∷ y ∷ z ∷ []))) ≤ 88
four_short w x y z a b c d = omega (arith, line_length (whole w) (whole x ∷ whole y ∷ whole z ∷ []))

-- four such lines
pub lines_short : (a b c d : List ℕ) → length a ≤ 88 → length b ≤ 88 → length c ≤ 88 → length d ≤ 88 → length (a ++ b ++ c ++ d) ≤ max_text
lines_short a b c d i j k l = omega (arith, length-append (a ++ b ++ c) d, length-append (a ++ b) c, length-append a b)

-- ---- complaints

pub complained : {before after text : List ℕ} {length' : ℕ} {r : Reply} → Put before 0 text length' after → length text ≤ max_text
    → r ≡ record { status = 2; length = length' } → Told before (complains text) r after
complained w short e = rw e (record { status = refl; text = w; short = short })
