-- `put` meets its contract: a full row takes nothing; into any other what fits is written, one element after another.
use Rattle.std.proofs.Common.{◌≡◌, ℕ, suc, ◌+◌, ◌<◌, List, [], ◌∷◌, ◌++◌, length, take, set, get_or, sym, ap, ◌∙◌, arith, add-zero, add-suc, suc-add, length-take-le}
use Rattle.std.proofs.lemmas.List.{take_more}
use Rattle.std.proofs.lemmas.List.Edits.{sets}
use Rattle.text.proofs.Laws.Puts.{put_full}
use Rattle.putting.proofs.put.Goals as goal

-- one element more behind those that stand in a row already
set_behind : {A : Type 0} (part row : List A) (at : ℕ) (x : A) → set (sets row at part) (at + length part) x ≡ sets row at (part ++ x ∷ [])
set_behind [] row at x = rw add-zero
set_behind (y ∷ part) row at x = rw (add-suc, ← suc-add) (set_behind part (set row at y) (suc at) x)

-- the next element of a text behind those before it
set_next : {A : Type 0} (row items : List A) (at i : ℕ) (x : A) → i < length items → x ≡ get_or items i x
    → set (sets row at (take i items)) (at + i) x ≡ sets row at (take (i + 1) items)
set_next row items at i x there is =
    ap (λ n. set (sets row at (take i items)) (at + n) x) (sym (length-take-le i items (omega arith)))
    ∙ set_behind (take i items) row at x
    ∙ ap (sets row at) (sym (take_more items i x there ∙ ap (λ y. take i items ++ y ∷ []) (sym is)))

pub returns-then-row-at : goal.returns-then-row-at
returns-then-row-at g c = put_full _ _ _ c.if-row-at.true

pub loop-i-preserved : goal.loop-i-preserved
loop-i-preserved g c =
    let items = c.args.items.now in
    let there : c.loop-i.i < length items = omega (arith, c.min-count.ensures, c.loop-i-test.true) in
    ap (λ row. set row (c.args.at + c.loop-i.i) c.index-items-i.result) c.loop-i.invariant
    ∙ set_next c.args.row.now items c.args.at c.loop-i.i c.index-items-i.result there c.index-items-i.is
