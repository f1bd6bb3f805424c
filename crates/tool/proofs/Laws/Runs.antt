-- A row that a list of runs is told in: the record is written before the numbers, which went past its five places first; and how many
-- numbers there are, one for four words of requests.
use mathlib.Core.Path.{◌≡◌, refl, sym, ap, ◌∙◌}
use mathlib.Core.List.{List, [], ◌∷◌, ◌++◌, append-nil}
use Prim.Native.Nat.{ℕ, suc, ◌+◌, ◌*◌, ◌-◌, ◌/◌, ◌≤◌}
use native.Mathlib.Omega.{arith}
use lib.ListN.{length, take, drop, length-append, length-drop, drop_of_length-le}
use lib.Seq.{sets, length-sets, take_all}
use borrow.Rule.Slice.PartMut.{mid_of, post_of, put_mid, same_len_mid}
use Rattle.sequencer.specs.Records.{Record, row_of, record_in}
use Rattle.sequencer.specs.Lists.{Request, record_after, after_all, numbers_all, requests_of}
use Rattle.text.specs.Text.{numbers_line}
use Rattle.text.specs.Rows.{Put}
use Rattle.tool.specs.Verbs.{max_parameters}
use Rattle.tool.specs.Replies.{runs_told, played}
use Rattle.tool.specs.Rows.{Told}

-- writing past the first element leaves it
sets_behind : (x : ℕ) (l vs : List ℕ) (i : ℕ) → sets (x ∷ l) (suc i) vs ≡ x ∷ sets l i vs
sets_behind x l [] i = refl
sets_behind x l (v ∷ vs) i = sets_behind x _ vs (suc i)

-- five values before numbers that stand behind their places already
sets_front : (told ns : List ℕ) (c d e f n : ℕ) → 5 ≤ length told
    → sets (take 5 told ++ sets (drop 5 told) 0 ns) 0 (c ∷ d ∷ e ∷ f ∷ n ∷ []) ≡ sets told 0 (c ∷ d ∷ e ∷ f ∷ n ∷ ns)
sets_front [] ns c d e f n h = absurd (omega arith)
sets_front (a ∷ []) ns c d e f n h = absurd (omega arith)
sets_front (a ∷ b ∷ []) ns c d e f n h = absurd (omega arith)
sets_front (a ∷ b ∷ g ∷ []) ns c d e f n h = absurd (omega arith)
sets_front (a ∷ b ∷ g ∷ y ∷ []) ns c d e f n h = absurd (omega arith)
sets_front (a ∷ b ∷ g ∷ y ∷ z ∷ told) ns c d e f n h =
    sym
    (sets_behind c (d ∷ e ∷ f ∷ n ∷ told) ns 4
    ∙ ap (λ (l : List ℕ). c ∷ l) (sets_behind d (e ∷ f ∷ n ∷ told) ns 3)
    ∙ ap (λ (l : List ℕ). c ∷ d ∷ l) (sets_behind e (f ∷ n ∷ told) ns 2)
    ∙ ap (λ (l : List ℕ). c ∷ d ∷ e ∷ l) (sets_behind f (n ∷ told) ns 1)
    ∙ ap (λ (l : List ℕ). c ∷ d ∷ e ∷ f ∷ l) (sets_behind n told ns 0))

-- a row whose part behind the first five places has numbers put into it
module _ (told ns : List ℕ) (fits : 5 ≤ length told) where
  abbrev behind : List ℕ
  behind = put_mid 5 (length told - 5) told (sets (mid_of 5 (length told - 5) told) 0 ns)

  pub behind_length : length behind ≡ length told
  behind_length = same_len_mid 5 (length told - 5) told (sets (mid_of 5 (length told - 5) told) 0 ns) (length-sets (mid_of 5 (length told - 5) told) 0 ns)

  pub behind_front : (c d e f n : ℕ) → sets behind 0 (c ∷ d ∷ e ∷ f ∷ n ∷ []) ≡ sets told 0 (c ∷ d ∷ e ∷ f ∷ n ∷ ns)
  behind_front c d e f n =
      let most : length (drop 5 told) ≤ length told - 5 = omega (arith, length-drop 5 told) in
      let part : mid_of 5 (length told - 5) told ≡ drop 5 told = take_all (length told - 5) (drop 5 told) most in
      let none : post_of 5 (length told - 5) told ≡ [] = drop_of_length-le (drop 5 told) {i = length told - 5} most in
      let row : behind ≡ take 5 told ++ sets (drop 5 told) 0 ns = rw (none, part, append-nil) in
      ap (λ (l : List ℕ). sets l 0 (c ∷ d ∷ e ∷ f ∷ n ∷ [])) row ∙ sets_front told ns c d e f n fits

numbers_count : (qs : List Request) (s : Record) → length (numbers_all qs s) ≡ length qs
unfolding numbers_all
numbers_count [] s = refl
numbers_count (q ∷ qs) s = ap suc (numbers_count qs (record_after q s))

requests_count : (tapes words : List ℕ) → length (requests_of tapes words) ≡ length words / 4
unfolding requests_of
requests_count tapes [] = refl
requests_count tapes (a ∷ []) = refl
requests_count tapes (a ∷ b ∷ []) = refl
requests_count tapes (a ∷ b ∷ c ∷ []) = refl
requests_count tapes (a ∷ b ∷ c ∷ d ∷ words) = omega (arith, requests_count tapes words)

-- the record and the numbers, as many as are told
pub runs_count : (tapes words : List ℕ) (s : Record) (c d e f n : ℕ) → record { registers = c ∷ d ∷ e ∷ f ∷ []; position = n } ≡ after_all (requests_of tapes words) s
    → 5 + length words / 4 ≡ 0 + length (runs_told (requests_of tapes words) s)
runs_count tapes words s c d e f n is =
    let qs : List Request = requests_of tapes words in
    omega (
      arith,
      length-append (row_of (after_all qs s)) (numbers_all qs s),
      ap (λ (t : Record). length (row_of t)) is,
      numbers_count qs s,
      requests_count tapes words,
    )

-- their line stands in the row, and they are no more than the parameters
pub runs_told_lem : {before after line : List ℕ} {next : ℕ} (v tapes : List ℕ) → line ≡ runs_told (requests_of tapes (drop 5 v)) (record_in v)
    → Put before 0 (numbers_line line) next after → length (numbers_line line) ≤ 11 * length line + 1 → length line ≤ max_parameters
    → Told before (played v tapes) (record { status = 0; length = next }) after
runs_told_lem v tapes is put bound few = rw (← is) (record { status = refl; text = put; short = omega arith })
