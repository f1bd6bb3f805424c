-- Texts put one after another are one text put; a loop puts a text part by part; what is put from the start on stands at the row's start.
use Rattle.std.proofs.Common.{◌≡◌, ℕ, List, [], ◌++◌, append_assoc, refl, ◌∙◌}
use Rattle.std.specs.Borrow.{MutBor}
use Rattle.text.specs.Rows.{Put}
use Rattle.text.proofs.Laws.Puts.{put_none, puts_join}
use Rattle.putting.specs.declared.Buffer.{Buffer}
use Rattle.putting.specs.Buffers.{Puts, Fresh}

pub puts_none : (a : Buffer) → Puts a [] a
puts_none a = record { same_row = refl; put = put_none _ _ }

pub puts_both : {a b c : Buffer} {vs ws : List ℕ} → Puts a vs b → Puts b ws c → Puts a (vs ++ ws) c
puts_both v w = record { same_row = w.same_row ∙ v.same_row; put = puts_join v.put w.put }

-- a text, and what is put behind it with its end
pub puts_then : {a b c : Buffer} {vs : List ℕ} (ws us : List ℕ) → Puts a vs b → Puts b (ws ++ us) c → Puts a (vs ++ ws ++ us) c
puts_then {vs = vs} ws us v w = rw (append_assoc vs ws us) (puts_both v w)

-- into a row that is filled from its start
pub put_fresh : {row : MutBor (List ℕ)} {a : Buffer} {text after : List ℕ} {n : ℕ} → Fresh row a → Put a.row.now a.next text n after → Put row.now 0 text n after
put_fresh fresh v = rw (fresh.same_bytes, fresh.at_start) at v

pub puts_fresh : {row : MutBor (List ℕ)} {a b : Buffer} {text : List ℕ} → Fresh row a → Puts a text b → Put row.now 0 text b.next b.row.now
puts_fresh fresh v = put_fresh fresh v.put

-- ---- a loop that puts a text part by part

-- what is left of a text: the whole is put once the rest is
pub record RestOf (before : Buffer) (text : List ℕ) (now : Buffer) (rest : List ℕ) : Type 0 where
  pub whole : {after : Buffer} → Puts now rest after → Puts before text after

pub rest_all : (a : Buffer) (text : List ℕ) → RestOf a text a text
rest_all a text = record { whole = λ w. w }

module _ {a b : Buffer} {text : List ℕ} where
  pub rest_none : RestOf a text b [] → Puts a text b
  rest_none left = left.whole (puts_none b)

  pub rest_next : (one rest : List ℕ) → RestOf a text b (one ++ rest) → {c : Buffer} → Puts b one c → RestOf a text c rest
  rest_next one rest left w = record { whole = λ v. left.whole (puts_both w v) }
