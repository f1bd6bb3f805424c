-- Writes one after another are one write of the words one after another, and the room for the whole has room for each part.
use Rattle.std.proofs.Common.{◌≡◌, refl, ap, ◌∙◌, List, [], ◌∷◌, ◌++◌, ℕ, ◌+◌, ◌<◌, ◌≤◌, length, get_or, take, length-append, arith}
use Rattle.std.proofs.Common.{add-one}
use Rattle.std.specs.List.{flat_map}
use Rattle.std.proofs.Math.Seq.{take-suc, take_all}
use Rattle.std.proofs.lemmas.Grind.{flat_map-append}
use Rattle.std.proofs.lemmas.List.{append-nil}
use Rattle.std.proofs.lemmas.List.Folds.{length-flat_map-take}
use Rattle.refusal.proofs.Laws.Rows.{wrote_none, wrote_more}
use Rattle.building.specs.declared.writer.Writer.{Writer}
use Rattle.building.specs.Writing.{HasRoom, Writes}

pub writes_none : (w : Writer) → Writes w [] w
writes_none w = record { same_row = refl; same_length = refl; wrote = wrote_none _ _ }

pub writes_more : {a b c : Writer} {vs ws : List ℕ} → Writes a vs b → Writes b ws c → Writes a (vs ++ ws) c
writes_more v w = record {
  same_row = w.same_row ∙ v.same_row;
  same_length = w.same_length ∙ v.same_length;
  wrote = wrote_more v.wrote w.wrote;
}

-- a loop that writes a total part by part: there is room for the next part, and then it is written too
pub writes_room : {a b : Writer} {done done' : List ℕ} (one total rest : List ℕ) → Writes a done b → done' ≡ done ++ one → total ≡ done' ++ rest
    → HasRoom a total → HasRoom b one
writes_room {done = done} {done'} one total rest w e f h =
    omega (arith, w.wrote.next_is, w.same_length, ap length e ∙ length-append done one, ap length f ∙ length-append done' rest)

pub writes_next : {a b c : Writer} {done done' one : List ℕ} → Writes a done b → Writes b one c → done' ≡ done ++ one → Writes a done' c
writes_next w v e = rw e (writes_more w v)

-- ---- a loop that writes f of each item of a list, n of which are written

module _ {A : Type 0} (f : A → List ℕ) (all : List A) {init now : Writer} (n : ℕ) where
  module _ (so_far : Writes init (flat_map f (take n all)) now) where
    module _ {x : A} (item : (n < length all) × (x ≡ get_or all n x)) where
      pub item_room : HasRoom init (flat_map f all) → HasRoom now (f x)
      item_room room =
          let size : length (flat_map f (take n all)) + length (f x) ≤ length (flat_map f all) =
          rw (ap (λ (y : A). length (f y)) item.1) (length-flat_map-take f all n x item.0) in
          omega (arith, so_far.wrote.next_is, so_far.same_length, size)

      pub item_written : {after : Writer} {m : ℕ} → m ≡ n + 1 → Writes now (f x) after → Writes init (flat_map f (take m all)) after
      item_written e w =
          rw (e, add-one, take-suc all n x item.0)
          (rw (flat_map-append f (take n all) (get_or all n x ∷ []))
          (writes_more so_far (rw (append-nil, ← item.1) w)))

    pub all_written : n ≡ length all → Writes init (flat_map f all) now
    all_written e = rw (take_all n all (omega arith)) at so_far
