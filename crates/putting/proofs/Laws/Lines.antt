-- A line put word by word, each with its blank or with byte 10 behind it.
use Rattle.std.proofs.Common.{ℕ, List, [], ◌∷◌, ◌++◌}
use Rattle.text.specs.Text.{blank, newline, line}
use Rattle.putting.specs.declared.Buffer.{Buffer}
use Rattle.putting.specs.Buffers.{Puts}
use Rattle.putting.proofs.Laws.Buffers.{puts_both}

pub puts_word : {a b c : Buffer} (w v : List ℕ) (words : List (List ℕ)) → Puts a (w ++ blank ∷ []) b → Puts b (line (v ∷ words)) c
    → Puts a (line (w ∷ v ∷ words)) c
unfolding line
puts_word w v words p q = puts_both p q

pub puts_last : {a b : Buffer} (w : List ℕ) → Puts a (w ++ newline ∷ []) b → Puts a (line (w ∷ [])) b
unfolding line
puts_last w p = p
