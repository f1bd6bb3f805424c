-- A text is a line's where it is the line with byte 10 behind it; the verdict says so.
use mathlib.Core.Path.{◌≡◌, refl, sym, ap, ◌∙◌}
use mathlib.Core.Bool.{Bool, true, false, cond}
use mathlib.Core.List.{List, [], ◌∷◌, ◌++◌, append_assoc}
use Prim.Native.Nat.{ℕ, suc, ◌+◌, ◌≤◌}
use native.Mathlib.Omega.{arith}
use lib.ListN.{length, get_or, take, drop, length-append, take-append-drop, drop_of_length-le}
use lib.Seq.{take-append_seam, get_or-append_seam, drop-cons}
use Rattle.refusal.proofs.Laws.Tests.{test_false}
use Rattle.text.specs.Text.{ascii, newline}
use Rattle.text.specs.Rows.{Put}
use Rattle.text.proofs.Laws.Puts.{puts_join}
use Rattle.program.specs.Same.{same_words}
use Rattle.program.proofs.Laws.Same.{same_itself, same_equal, same_lengths}
use Rattle.scripting.specs.Script.{verdict}

module _ (text line : List ℕ) where
  pub line_length : ¬ (length text ≡ length line + 1) → same_words text (line ++ newline ∷ []) ≡ false
  line_length h = same_lengths text (line ++ newline ∷ []) (λ e. h (e ∙ length-append line (newline ∷ [])))

  pub line_end : ¬ (get_or text (length line) 0 ≡ newline) → same_words text (line ++ newline ∷ []) ≡ false
  line_end h =
      test_false (same_words text (line ++ newline ∷ []))
      (λ e. h (ap (λ (l : List ℕ). get_or l (length line) 0) (same_equal text (line ++ newline ∷ []) e) ∙ get_or-append_seam line newline [] 0))

  module _ (size : length text ≡ length line + 1) (last : get_or text (length line) 0 ≡ newline) where
    rest : drop (length line) text ≡ newline ∷ []
    rest =
        drop-cons text (length line) 0 (omega arith)
        ∙ rw last
        (ap (λ (l : List ℕ). newline ∷ l) (drop_of_length-le text {i = suc (length line)} (omega arith)))

    joined : take (length line) text ≡ line → text ≡ line ++ newline ∷ []
    joined e = sym (take-append-drop (length line) text) ∙ rw (e, rest)

    pub line_same : (r : Bool) → (r ≡ true → take (length line) text ≡ line) × (take (length line) text ≡ line → r ≡ true)
        → r ≡ same_words text (line ++ newline ∷ [])
    line_same true p = sym (rw (joined (p.0 refl)) (same_itself (line ++ newline ∷ [])))
    line_same false p =
        sym
        (test_false (same_words text (line ++ newline ∷ []))
        (λ e. let t : false ≡ true = p.1 (ap (take (length line)) (same_equal text (line ++ newline ∷ []) e) ∙ take-append_seam line (newline ∷ [])) in let z : ◌≡◌ {A = ℕ} 0 1 = cc in omega arith))

-- yes or no
module _ {a b c d : List ℕ} {at m n end : ℕ} (text said : List ℕ) (v : Put a at (ascii "= ") m b) (w : Put b m said n c) where
  verdict_by : (t : Bool) (word : List ℕ) → word ≡ cond t (ascii ": yes") (ascii ": no") → t ≡ same_words text (said ++ newline ∷ [])
      → Put c n (word ++ newline ∷ []) end d → Put a at (verdict text said) end d
  unfolding verdict
  verdict_by t word e f x =
      rw (← f, ← e, append_assoc (ascii "= " ++ said) word (newline ∷ [])) (puts_join (puts_join v w) x)

  pub verdict_yes : {t : Bool} → t ≡ same_words text (said ++ newline ∷ []) → t ≡ true → Put c n (ascii ": yes" ++ newline ∷ []) end d
      → Put a at (verdict text said) end d
  verdict_yes f e x = verdict_by true (ascii ": yes") refl (sym e ∙ f) x

  pub verdict_no : {t : Bool} → t ≡ same_words text (said ++ newline ∷ []) → t ≡ false → Put c n (ascii ": no" ++ newline ∷ []) end d
      → Put a at (verdict text said) end d
  verdict_no f e x = verdict_by false (ascii ": no") refl (sym e ∙ f) x

word_short : (t : Bool) → length (cond t (ascii ": yes") (ascii ": no")) ≤ 5
word_short true = omega arith
word_short false = omega arith

pub verdict_short : (text said : List ℕ) → length (verdict text said) ≤ length said + 8
unfolding verdict
verdict_short text said = simp length-append (omega (arith, word_short (same_words text (said ++ newline ∷ []))))
