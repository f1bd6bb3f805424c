-- A list in the front of a row of zeros: the zeros stay past it where it grows by one, and so it tells the row.
use Rattle.std.proofs.Common.{◌≡◌, ℕ, List, ◌++◌, ◌+◌, ◌-◌, ◌≤◌, take, drop, set, replicate, length, sym, ap, ◌∙◌, arith, take-append-drop, length-take-le}
use Rattle.std.proofs.lemmas.List.{drop-set-lt, drop-drop, drop-replicate}

module _ (most : ℕ) (row : List ℕ) (count : ℕ) (zeros : drop count row ≡ replicate (most - count) 0) where
  pub zeros_more : (x : ℕ) → drop (count + 1) (set row count x) ≡ replicate (most - (count + 1)) 0
  zeros_more x =
      drop-set-lt (count + 1) row count x (omega arith)
      ∙ sym (drop-drop 1 count row)
      ∙ ap (drop 1) zeros
      ∙ drop-replicate 1 (most - count) 0
      ∙ ap (λ n. replicate n 0) (omega arith)

  pub row_told : count ≤ length row → take count row ++ replicate (most - length (take count row)) 0 ≡ row
  row_told fits = rw (length-take-le count row fits, ← zeros) (take-append-drop count row)
