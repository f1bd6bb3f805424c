-- Writes one after another are one write of the words one after another.
use mathlib.Core.Path.{◌≡◌, refl, sym, ap, ◌∙◌}
use mathlib.Core.List.{List, [], ◌∷◌, ◌++◌}
use Prim.Native.Nat.{ℕ, suc, ◌+◌, ◌≤◌}
use native.Mathlib.Nat.{add-zero, zero-add, add-suc, suc-add}
use native.Mathlib.Omega.{arith}
use lib.ListN.{length, set, take, drop, length-append}
use lib.Seq.{sets, sets-eq, length-sets, take_at}
use Rattle.refusal.specs.Rows.{Wrote}

pub sets_append : (vs ws l : List ℕ) (i : ℕ) → sets (sets l i vs) (i + length vs) ws ≡ sets l i (vs ++ ws)
sets_append [] ws l i = rw add-zero
sets_append (v ∷ vs) ws l i = rw (add-suc, ← suc-add) (sets_append vs ws (set l i v) (suc i))

pub wrote_none : (row : List ℕ) (at : ℕ) → Wrote row at [] at row
wrote_none row at = record { next_is = sym (add-zero at); after_is = refl }

pub wrote_more : {a b c : List ℕ} {at m n : ℕ} {vs ws : List ℕ} → Wrote a at vs m b → Wrote b m ws n c → Wrote a at (vs ++ ws) n c
wrote_more {a} {b} {c} {at} {m} {n} {vs} {ws} v w =
    record {
      next_is = omega (arith, v.next_is, w.next_is, length-append vs ws);
      after_is = w.after_is ∙ rw (v.after_is, v.next_is) (sets_append vs ws a at);
    }

pub wrote_length : {a b : List ℕ} {at n : ℕ} {ws : List ℕ} → Wrote a at ws n b → length b ≡ length a
wrote_length {a} {at = at} {ws = ws} w = ap length w.after_is ∙ length-sets a at ws

-- written from the start, the row is the words with what stood past them
pub wrote_front : {a b : List ℕ} {n : ℕ} {ws : List ℕ} → Wrote a 0 ws n b → length ws ≤ length a → b ≡ ws ++ drop (length ws) a
wrote_front {a} {ws = ws} w h = w.after_is ∙ sets-eq ws a 0 (omega arith) ∙ rw zero-add

-- so it begins with them
pub wrote_taken : {a b : List ℕ} {n : ℕ} {ws : List ℕ} → Wrote a 0 ws n b → length ws ≤ length a → take n b ≡ ws
wrote_taken {n = n} {ws} w h = ap (take n) (wrote_front w h) ∙ take_at ws _ n (omega (arith, w.next_is))

-- a loop that writes a total part by part: there is room for the next part, and then it is written too
pub wrote_room : {a b done done' : List ℕ} {at m : ℕ} (one total rest : List ℕ) → Wrote a at done m b → done' ≡ done ++ one → total ≡ done' ++ rest
    → at + length total ≤ length a → m + length one ≤ length b
wrote_room {done = done} {done'} one total rest w e f h =
    omega (arith, w.next_is, wrote_length w, ap length e ∙ length-append done one, ap length f ∙ length-append done' rest)

pub wrote_next : {a b c done done' one : List ℕ} {at m n : ℕ} → Wrote a at done m b → Wrote b m one n c → done' ≡ done ++ one → Wrote a at done' n c
wrote_next w v e = rw e (wrote_more w v)
