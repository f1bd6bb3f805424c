-- Texts put one after another are one text put: what fits of it is what fits of each behind those before.
use mathlib.Core.Path.{◌≡◌, refl, ap, ◌∙◌}
use mathlib.Core.List.{List, [], ◌∷◌, ◌++◌}
use Prim.Native.Nat.{ℕ, zero, suc, ◌+◌, ◌-◌, ◌≤◌, ◌<◌}
use native.Mathlib.Nat.{sub-zero}
use native.Mathlib.Omega.{arith}
use native.Mathlib.Numerals.{add-one}
use lib.ListN.{length, get_or, take, drop, set, length-take, take-append-drop}
use lib.Seq.{take-nil, take_all, take-suc}
use Rattle.std.proofs.Common.{min}
use Rattle.std.proofs.lemmas.List.{take_min}
use Rattle.std.proofs.lemmas.List.Edits.{sets}
use Rattle.refusal.specs.Rows.{Wrote}
use Rattle.refusal.proofs.Laws.Rows.{wrote_none, wrote_length, wrote_next, wrote_taken}
use Rattle.text.specs.Rows.{Put}

-- what fits is written
pub put_wrote : {a b : List ℕ} {at n : ℕ} {ws : List ℕ} → Put a at ws n b → Wrote a at (take (length a - at) ws) n b
put_wrote v = record { next_is = v.next_is; after_is = v.after_is }

wrote_put : {a b : List ℕ} {at n : ℕ} {ws : List ℕ} → Wrote a at (take (length a - at) ws) n b → Put a at ws n b
wrote_put v = record { next_is = v.next_is; after_is = v.after_is }

pub put_length : {a b : List ℕ} {at n : ℕ} {ws : List ℕ} → Put a at ws n b → length b ≡ length a
put_length v = wrote_length (put_wrote v)

-- what fits of two texts: what fits of the first, and of the second what fits behind it
fitting_both : (room : ℕ) (vs ws : List ℕ) → take room (vs ++ ws) ≡ take room vs ++ take (room - length (take room vs)) ws
fitting_both room [] ws = rw (take-nil {A = ℕ} room, sub-zero room)
fitting_both zero (v ∷ vs) ws = refl
fitting_both (suc room) (v ∷ vs) ws =
    let e : room - length (take room vs) ≡ suc room - suc (length (take room vs)) = omega arith in
    ap (λ (l : List ℕ). v ∷ l) (fitting_both room vs ws ∙ ap (λ (k : ℕ). take room vs ++ take k ws) e)

pub puts_join : {a b c : List ℕ} {at m n : ℕ} {vs ws : List ℕ} → Put a at vs m b → Put b m ws n c → Put a at (vs ++ ws) n c
puts_join {a} {b} {at = at} {m} {vs = vs} {ws} v w =
    let first = take (length a - at) vs in
    let left : length a - at - length first ≡ length b - m = omega (arith, v.next_is, put_length v) in
    wrote_put (wrote_next (put_wrote v) (put_wrote w) (fitting_both (length a - at) vs ws ∙ ap (λ (k : ℕ). first ++ take k ws) left))

pub put_none : (row : List ℕ) (at : ℕ) → Put row at [] at row
put_none row at = wrote_put (rw take-nil (wrote_none row at))

pub put_one : (row : List ℕ) (at x : ℕ) → at < length row → Put row at (x ∷ []) (at + 1) (set row at x)
put_one row at x h = wrote_put (rw (take_all (length row - at) (x ∷ []) (omega arith)) (record { next_is = refl; after_is = refl }))

-- a row that is full
pub put_full : {A : Type 0} (row text : List A) (at : ℕ) → length row ≤ at → Put row at text at row
put_full row text at h =
    let none : length row - at ≡ 0 = omega arith in
    record { next_is = rw none (omega arith); after_is = rw none refl }

-- what fits, written in one go
pub put_part : {A : Type 0} (row text part : List A) (at n : ℕ) → at < length row → n ≡ min (length row - at) (length text) → part ≡ take n text
    → Put row at text (at + n) (sets row at part)
put_part row text part at n h e f =
    let fits : part ≡ take (length row - at) text = f ∙ rw e (take_min (length row - at) text) in
    record { next_is = rw (← fits) (omega (arith, ap length f, length-take n text)); after_is = rw fits }

-- ---- a loop that puts a text byte by byte

-- the byte at i, behind those in front of it
pub put_next : {a b : List ℕ} {at m : ℕ} (text : List ℕ) (i : ℕ) → i < length text → m < length b → Put a at (take i text) m b
    → Put a at (take (i + 1) text) (m + 1) (set b m (get_or text i 0))
put_next {b = b} {m = m} text i h room v = rw (add-one i, take-suc text i 0) (puts_join v (put_one b m (get_or text i 0) room))

-- the rest of a text, into a full row
pub put_rest : {a b : List ℕ} {at m : ℕ} (text : List ℕ) (i : ℕ) → length b ≤ m → Put a at (take i text) m b → Put a at text m b
put_rest {b = b} {m = m} text i full v = rw take-append-drop at (puts_join v (put_full b (drop i text) m full))

-- ---- a loop that puts a text part by part

-- what is left of a text: the whole is put once the rest is
pub record RestToPut (before : List ℕ) (at : ℕ) (text : List ℕ) (next : ℕ) (now rest : List ℕ) : Type 0 where
  pub whole : {end : ℕ} {after : List ℕ} → Put now next rest end after → Put before at text end after

pub all_left : (row : List ℕ) (at : ℕ) (text : List ℕ) → RestToPut row at text at row text
all_left row at text = record { whole = λ w. w }

module _ {before : List ℕ} {at : ℕ} {text : List ℕ} {next : ℕ} {now : List ℕ} where
  pub nothing_left : RestToPut before at text next now [] → Put before at text next now
  nothing_left left = left.whole (put_none now next)

  pub left_next : (one rest : List ℕ) → RestToPut before at text next now (one ++ rest) → {next' : ℕ} {now' : List ℕ} → Put now next one next' now'
      → RestToPut before at text next' now' rest
  left_next one rest left w = record { whole = λ v. left.whole (puts_join w v) }

-- ---- a text that fits

pub put_fits : {a b : List ℕ} {at n : ℕ} {text : List ℕ} → Put a at text n b → at + length text ≤ length a → Wrote a at text n b
put_fits {a} {at = at} {text = text} v h = rw (take_all (length a - at) text (omega arith)) at (put_wrote v)

-- put from the start on, the row begins with what fits, and so with a text that fits
pub put_front : {a b : List ℕ} {n : ℕ} {text : List ℕ} → Put a 0 text n b → take n b ≡ take (length a) text
put_front {a} {text = text} v =
    wrote_taken (put_wrote v) (omega (arith, length-take (length a - 0) text)) ∙ ap (λ (k : ℕ). take k text) (sub-zero (length a))

pub put_taken : {a b : List ℕ} {n : ℕ} {text : List ℕ} → Put a 0 text n b → length text ≤ length a → take n b ≡ text
put_taken {a} {text = text} v h = put_front v ∙ take_all (length a) text h

-- and `next` is never past the row, where `at` isn't
pub put_inside : {a b : List ℕ} {at n : ℕ} {text : List ℕ} → Put a at text n b → at ≤ length a → n ≤ length b
put_inside {a} {at = at} {text = text} v h = omega (arith, v.next_is, length-take (length a - at) text, put_length v)
