-- An answered place tells whether the row has one.
use Rattle.std.proofs.Common.{◌≡◌, refl, Bool, true, false, cond, ℕ, Some, None}
use Rattle.tape.specs.declared.Header.{Header}
use Rattle.tape.specs.Layout.{has_place, lay_begin}
use Rattle.laying.specs.Place.{lay_place}

pub place_none : (h : Header) (room : ℕ) → None ≡ lay_place h room → has_place h room ≡ false
place_none h room e = go (has_place h room) e
  where
    go : (t : Bool) → None ≡ cond t (Some (lay_begin h room)) None → t ≡ false
    go true e = absurd (cc)
    go false e = refl

pub place_some : (h : Header) (room : ℕ) {at : ℕ} → Some at ≡ lay_place h room → (has_place h room ≡ true) × (at ≡ lay_begin h room)
place_some h room {at} e = go (has_place h room) e
  where
    go : (t : Bool) → Some at ≡ cond t (Some (lay_begin h room)) None → (t ≡ true) × (at ≡ lay_begin h room)
    go true e = (refl, cc)
    go false e = absurd (cc)
