-- The words of a tape: bits 31 to 28 are the kind, bits 27 to 0 the payload; bits without a meaning are 0.
use Rattle.std.specs.Prelude.{Bool, not, ◌&&◌, cond, ℕ, ◌+◌, ◌*◌, ◌/◌, ◌%◌, ◌^◌, ltb, eqb}
use Rattle.tape.specs.declared.Step.{Step}
use Rattle.tape.specs.declared.Step.TheVariants.{Mul, Div, Swp}
use Rattle.tape.specs.declared.Decoded.{Decoded}
use Rattle.tape.specs.declared.Decoded.TheVariants.{Heading, P, R, K, Action, End, Bad}

-- payloads, so p, r, k and the count of steps, are below this
abbrev pub number_limit : ℕ
number_limit = 2 ^ 28

-- variants are below this
abbrev pub variant_limit : ℕ
variant_limit = 16

abbrev pub kind_of : ℕ → ℕ
kind_of w = w / number_limit

abbrev pub payload_of : ℕ → ℕ
payload_of w = w % number_limit

abbrev pub packed_word : ℕ → ℕ → ℕ
packed_word kind payload = kind * number_limit + payload

-- kind 1: bits 0-7 are the format, which is 1; bits 8-11 the variant
unfoldable pub heading_in : ℕ → Decoded
heading_in payload = cond (eqb (payload % 256) 1 && ltb payload 4096) (Heading (payload / 256)) Bad

-- kinds 5, 6, 7: bits 0-1 are the target, bits 2-3 the source, which differ; in swp the target is the smaller
abbrev pub are_distinct : ℕ → Bool
are_distinct payload = ltb payload 16 && not (eqb (payload % 4) (payload / 4))

unfoldable pub action_in : (ℕ → ℕ → Step) → ℕ → Decoded
action_in step payload = cond (are_distinct payload) (Action (step (payload % 4) (payload / 4))) Bad

unfoldable pub swap_in : ℕ → Decoded
swap_in payload = cond (ltb payload 16 && ltb (payload % 4) (payload / 4)) (Action (Swp (payload % 4) (payload / 4))) Bad

-- how many kinds from 5 on take a target and a source, for the contract of an inner function
unfoldable pub kinds_of : ℕ → ℕ → ℕ
kinds_of target source = cond (ltb target source) 3 (cond (ltb source target) 2 0)

-- what a word means; kinds 0 and 8 to 14 have no meaning
unfoldable pub decoded : ℕ → Decoded
decoded w =
    cond (eqb (kind_of w) 1) (heading_in (payload_of w))
    (cond (eqb (kind_of w) 2) (P (payload_of w))
    (cond (eqb (kind_of w) 3) (R (payload_of w))
    (cond (eqb (kind_of w) 4) (K (payload_of w))
    (cond (eqb (kind_of w) 5) (action_in Mul (payload_of w))
    (cond (eqb (kind_of w) 6) (action_in Div (payload_of w))
    (cond (eqb (kind_of w) 7) (swap_in (payload_of w))
    (cond (eqb (kind_of w) 15) (End (payload_of w))
    Bad)))))))

-- the word of a step
unfoldable pub step_word : Step → ℕ
step_word (Mul t s) = packed_word 5 (t + 4 * s)
step_word (Div t s) = packed_word 6 (t + 4 * s)
step_word (Swp t s) = packed_word 7 (t + 4 * s)

-- the word with a meaning (`decoded_encoded` and `encoded_decoded` of proofs/Laws/Words); a word without one is 0
unfoldable pub encoded : Decoded → ℕ
encoded (Heading variant) = packed_word 1 (1 + 256 * variant)
encoded (P p) = packed_word 2 p
encoded (R r) = packed_word 3 r
encoded (K k) = packed_word 4 k
encoded (Action step) = step_word step
encoded (End count) = packed_word 15 count
encoded Bad = 0
