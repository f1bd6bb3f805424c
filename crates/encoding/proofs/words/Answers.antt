-- `words` meets its contract: with i words written, those of the bytes from the index 4 i on are left.
use Rattle.std.proofs.Common.{◌≡◌, ℕ, ◌+◌, ◌*◌, ◌/◌, List, [], ◌∷◌, length, get_or, drop, sym, ap, ◌∙◌, arith}
use mir.Syntax.{w32}
use Rattle.std.specs.Int.{from_le_bytes}
use Rattle.text.proofs.Laws.Puts.{all_left, nothing_left, left_next, put_one}
use Rattle.encoding.specs.Encoding.{tape_of}
use Rattle.encoding.proofs.Laws.Tapes.{tape_next, tape_end, chunk_at, chunk_word}
use Rattle.encoding.proofs.words.Goals as goal
use Rattle.encoding.proofs.words.Goals.{After-from_le_bytes}

pub loop-i-init : goal.loop-i-init
loop-i-init c = all_left _ _ _

-- the word that is written is the next that is left
coming : (c : After-from_le_bytes) → let bytes = c.args.bytes.now in
    tape_of (drop (4 * c.loop-i.i) bytes) ≡ c.from_le_bytes.result ∷ tape_of (drop (4 * (c.loop-i.i + 1)) bytes)
coming c =
    let bytes = c.args.bytes.now in
    let i = c.loop-i.i in
    let past : 4 * i + 4 ≡ 4 * (i + 1) = omega arith in
    let chunk = ap (λ (l : List (List ℕ)). get_or l i []) c.as_chunks.ensures.front ∙ chunk_at (length bytes / 4) bytes i (omega (arith, c.as_chunks.ensures.front_len)) in
    let word = c.from_le_bytes.ensures ∙ ap (from_le_bytes w32) chunk ∙ chunk_word bytes (4 * i) in
    rw (word, ← past) (tape_next bytes (4 * i) (omega (arith, c.as_chunks.ensures.front_len)))

pub loop-i-preserved : goal.loop-i-preserved
loop-i-preserved c = left_next (c.from_le_bytes.result ∷ []) _ (rw (coming c) at c.loop-i.invariant) (put_one _ _ _ (omega (arith, c.as_chunks.ensures.front_len)))

pub returns : goal.returns
returns c =
    let count : length c.as_chunks.result.0.now ≡ c.loop-i.i = omega arith in
    rw count (nothing_left (rw (tape_end c.args.bytes.now (4 * c.loop-i.i) (omega (arith, c.as_chunks.ensures.front_len))) at c.loop-i.invariant))
