-- The words from an index of the bytes on: the word of the next four bytes and the words past them, or none.
use mathlib.Core.Path.{◌≡◌, refl, ap, ◌∙◌}
use mathlib.Core.List.{List, [], ◌∷◌}
use Prim.Native.Nat.{ℕ, zero, suc, ◌+◌, ◌*◌, ◌/◌, ◌≤◌, ◌<◌}
use native.Mathlib.Omega.{arith}
use lib.ListN.{length, get_or, take, drop, length-drop}
use mir.Syntax.{w32}
use Rattle.std.specs.Int.{from_le_bytes}
use Rattle.std.specs.Simd.{first_chunks}
use Rattle.std.proofs.lemmas.List.{get_or-take, get_or-drop, drop-drop}
use Rattle.tape.proofs.Laws.Rows.{drop_next}
use Rattle.encoding.specs.Encoding.{word_of, tape_of}

pub tape_next : (bytes : List ℕ) (at : ℕ) → at + 4 ≤ length bytes
    → tape_of (drop at bytes)
    ≡ word_of (get_or bytes at 0) (get_or bytes (at + 1) 0) (get_or bytes (at + 2) 0) (get_or bytes (at + 3) 0) ∷ tape_of (drop (at + 4) bytes)
unfolding tape_of
tape_next bytes at h =
    let a = drop_next bytes at (at + 1) 0 refl (omega arith) in
    let b = drop_next bytes (at + 1) (at + 2) 0 (omega arith) (omega arith) in
    let c = drop_next bytes (at + 2) (at + 3) 0 (omega arith) (omega arith) in
    let d = drop_next bytes (at + 3) (at + 4) 0 (omega arith) (omega arith) in
    ap tape_of (a ∙ ap (λ (l : List ℕ). get_or bytes at 0 ∷ l) (b ∙ ap (λ (l : List ℕ). get_or bytes (at + 1) 0 ∷ l) (c ∙ ap (λ (l : List ℕ). get_or bytes (at + 2) 0 ∷ l) d)))

few : (bytes : List ℕ) → length bytes < 4 → tape_of bytes ≡ []
unfolding tape_of
few [] h = refl
few (a ∷ []) h = refl
few (a ∷ b ∷ []) h = refl
few (a ∷ b ∷ c ∷ []) h = refl
few (a ∷ b ∷ c ∷ d ∷ bytes) h = absurd (omega arith)

pub tape_end : (bytes : List ℕ) (at : ℕ) → length bytes < at + 4 → tape_of (drop at bytes) ≡ []
tape_end bytes at h = few (drop at bytes) (omega (arith, length-drop at bytes))

-- as many words as bytes / 4
pub tape_length : (bytes : List ℕ) → length (tape_of bytes) ≡ length bytes / 4
unfolding tape_of
tape_length [] = refl
tape_length (a ∷ []) = refl
tape_length (a ∷ b ∷ []) = refl
tape_length (a ∷ b ∷ c ∷ []) = refl
tape_length (a ∷ b ∷ c ∷ d ∷ bytes) = omega (arith, tape_length bytes)

-- ---- bytes in chunks of four

pub chunk_at : (k : ℕ) (bytes : List ℕ) (i : ℕ) → i < k → get_or (first_chunks 4 k bytes) i [] ≡ take 4 (drop (4 * i) bytes)
chunk_at zero bytes i h = absurd (omega arith)
chunk_at (suc k) bytes zero h = refl
chunk_at (suc k) bytes (suc i) h =
    let e : 4 + 4 * i ≡ 4 * suc i = omega arith in
    chunk_at k (drop 4 bytes) i (omega arith) ∙ ap (take 4) (drop-drop (4 * i) 4 bytes ∙ ap (λ (n : ℕ). drop n bytes) e)

pub chunk_word : (bytes : List ℕ) (at : ℕ) → from_le_bytes w32 (take 4 (drop at bytes))
    ≡ word_of (get_or bytes at 0) (get_or bytes (at + 1) 0) (get_or bytes (at + 2) 0) (get_or bytes (at + 3) 0)
chunk_word bytes at =
    let l = take 4 (drop at bytes) in
    let read : from_le_bytes w32 l ≡ get_or l 0 0 + get_or l 1 0 * 256 + get_or l 2 0 * 65536 + get_or l 3 0 * 16777216 = refl in
    let byte : (j n : ℕ) → j < 4 → at + j ≡ n → get_or l j 0 ≡ get_or bytes n 0 =
    λ j n h e. get_or-take 4 (drop at bytes) j 0 h ∙ get_or-drop at bytes j 0 ∙ ap (λ (k : ℕ). get_or bytes k 0) e in
    read
    ∙ omega (
      arith,
      byte 0 at (omega arith) (omega arith),
      byte 1 (at + 1) (omega arith) refl,
      byte 2 (at + 2) (omega arith) refl,
      byte 3 (at + 3) (omega arith) refl,
    )
