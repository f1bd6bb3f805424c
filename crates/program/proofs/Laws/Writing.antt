-- The words of a loop are those of its places one after another: going up from the lowest place, taken back and coming down from
-- the highest.
use mathlib.Core.Path.{◌≡◌, refl, sym, ap, ap₂, ◌∙◌}
use mathlib.Core.Bool.{Bool, true, false, cond}
use mathlib.Core.List.{List, [], ◌∷◌, ◌++◌, map, map-append, append-nil, append_assoc, reverse, reverse-cons}
use Prim.Native.Nat.{ℕ, zero, suc, ◌+◌}
use native.Mathlib.Nat.{suc_inj}
use native.Mathlib.Omega.{arith}
use lib.ListN.{length, length-append, length-map}
use Rattle.std.specs.List.{zip, flat_map}
use Rattle.std.proofs.lemmas.Grind.{flat_map-append}
use Rattle.std.proofs.lemmas.List.{length-reverse}
use borrow.Author.Tests.{eq-eqb, ne_eqb}
use Rattle.fibonacci.specs.Forms.{pad}
use Rattle.fibonacci.specs.Services.{bit}
use Rattle.tape.specs.declared.Step.{Step}
use Rattle.tape.specs.declared.Step.TheVariants.{Mul, Div, Swp}
use Rattle.tape.specs.Words.{step_word}
use Rattle.machine.specs.Machine.{inverse_step, inverted}
use Rattle.machine.proofs.Laws.Steps.{inverted_append}
use Rattle.named.specs.declared.Figure.{Figure}
use Rattle.named.specs.declared.Figure.TheVariants.{Two, Four, Six}
use Rattle.named.specs.Generators.{select, ascend, descend, basic, dual, hybrid, drawn}
use Rattle.named.specs.Promises.{Alone}
use Rattle.program.specs.declared.FormRows.{FormRows}
use Rattle.program.specs.Inner.Forms.{bits_in}
use Rattle.program.specs.Inner.Writing.{is_set, form_in, chosen, ascend_words, ascend_back_words, descend_words, up_words, back_words, down_words, front_words, drawn_words}

-- ---- one place

select_words : (x : Step) (b : Bool) (xs : List Step) → map step_word (select b x xs) ≡ cond b (step_word x ∷ []) [] ++ map step_word xs
select_words x true xs = refl
select_words x false xs = refl

pub up_words_lem : (s t : ℕ) → up_words s t ≡ step_word (Mul 0 1) ∷ step_word (Swp 0 1) ∷ (chosen s (step_word (Mul 2 1)) ++ chosen t (step_word (Mul 3 1)))
unfolding ascend
up_words_lem s t =
    ap (λ (l : List ℕ). step_word (Mul 0 1) ∷ step_word (Swp 0 1) ∷ l)
    (select_words (Mul 2 1) (is_set s) (select (is_set t) (Mul 3 1) [])
    ∙ ap (λ (l : List ℕ). chosen s (step_word (Mul 2 1)) ++ l) (select_words (Mul 3 1) (is_set t) [] ∙ append-nil _))

pub back_words_lem : (s t : ℕ) → back_words s t ≡ chosen t (step_word (Div 3 1)) ++ (chosen s (step_word (Div 2 1)) ++ step_word (Swp 0 1) ∷ step_word (Div 0 1) ∷ [])
unfolding ascend inverted inverse_step
back_words_lem s t = go (is_set s) (is_set t)
  where
    go : (a b : Bool) → map step_word (inverted (Mul 0 1 ∷ Swp 0 1 ∷ select a (Mul 2 1) (select b (Mul 3 1) [])))
        ≡ cond b (step_word (Div 3 1) ∷ []) [] ++ (cond a (step_word (Div 2 1) ∷ []) [] ++ step_word (Swp 0 1) ∷ step_word (Div 0 1) ∷ [])
    go true true = refl
    go true false = refl
    go false true = refl
    go false false = refl

pub down_words_lem : (b : ℕ) → down_words b ≡ chosen b (step_word (Mul 2 0)) ++ step_word (Mul 1 2) ∷ step_word (Swp 1 2) ∷ []
unfolding descend
down_words_lem b = select_words (Mul 2 0) (is_set b) (Mul 1 2 ∷ Swp 1 2 ∷ [])

-- ---- loops in two parts

select_append : (b : Bool) (x : Step) (xs ys : List Step) → select b x (xs ++ ys) ≡ select b x xs ++ ys
select_append true x xs ys = refl
select_append false x xs ys = refl

ascend_append : (ss us ts ws : List Bool) → length ss ≡ length ts → ascend (ss ++ us) (ts ++ ws) ≡ ascend ss ts ++ ascend us ws
unfolding ascend
ascend_append [] us [] ws e = refl
ascend_append [] us (t ∷ ts) ws e = absurd (omega arith)
ascend_append (s ∷ ss) us [] ws e = absurd (omega arith)
ascend_append (s ∷ ss) us (t ∷ ts) ws e =
    ap (λ (l : List Step). Mul 0 1 ∷ Swp 0 1 ∷ l)
    (ap (λ (l : List Step). select s (Mul 2 1) (select t (Mul 3 1) l)) (ascend_append ss us ts ws (suc_inj e))
    ∙ ap (λ (l : List Step). select s (Mul 2 1) l) (select_append t (Mul 3 1) (ascend ss ts) (ascend us ws))
    ∙ select_append s (Mul 2 1) (select t (Mul 3 1) (ascend ss ts)) (ascend us ws))

descend_append : (xs ys : List Bool) → descend (xs ++ ys) ≡ descend ys ++ descend xs
unfolding descend
descend_append [] ys = sym (append-nil (descend ys))
descend_append (x ∷ xs) ys =
    ap (λ (l : List Step). l ++ select x (Mul 2 0) (Mul 1 2 ∷ Swp 1 2 ∷ [])) (descend_append xs ys)
    ∙ append_assoc (descend ys) (descend xs) (select x (Mul 2 0) (Mul 1 2 ∷ Swp 1 2 ∷ []))

same_length : (fs ss : List ℕ) → length fs ≡ length ss → length (form_in fs) ≡ length (form_in ss)
same_length fs ss e = length-map fs is_set ∙ e ∙ sym (length-map ss is_set)

-- the same for rows of bits
pub ascend_words_lem : (fs gs ss ts : List ℕ) → length fs ≡ length ss → ascend_words (fs ++ gs) (ss ++ ts) ≡ ascend_words fs ss ++ ascend_words gs ts
ascend_words_lem fs gs ss ts e =
    ap₂ (λ (x y : List Bool). map step_word (ascend x y)) (map-append is_set fs gs) (map-append is_set ss ts)
    ∙ ap (map step_word) (ascend_append (form_in fs) (form_in gs) (form_in ss) (form_in ts) (same_length fs ss e))
    ∙ map-append step_word (ascend (form_in fs) (form_in ss)) (ascend (form_in gs) (form_in ts))

pub ascend_back_words_lem : (fs gs ss ts : List ℕ) → length fs ≡ length ss
    → ascend_back_words (fs ++ gs) (ss ++ ts) ≡ ascend_back_words gs ts ++ ascend_back_words fs ss
ascend_back_words_lem fs gs ss ts e =
    ap₂ (λ (x y : List Bool). map step_word (inverted (ascend x y))) (map-append is_set fs gs) (map-append is_set ss ts)
    ∙ ap (λ (x : List Step). map step_word (inverted x)) (ascend_append (form_in fs) (form_in gs) (form_in ss) (form_in ts) (same_length fs ss e))
    ∙ ap (map step_word) (inverted_append (ascend (form_in fs) (form_in ss)) (ascend (form_in gs) (form_in ts)))
    ∙ map-append step_word (inverted (ascend (form_in gs) (form_in ts))) (inverted (ascend (form_in fs) (form_in ss)))

pub descend_words_lem : (fs gs : List ℕ) → descend_words (fs ++ gs) ≡ descend_words gs ++ descend_words fs
descend_words_lem fs gs =
    ap (λ (x : List Bool). map step_word (descend x)) (map-append is_set fs gs)
    ∙ ap (map step_word) (descend_append (form_in fs) (form_in gs))
    ∙ map-append step_word (descend (form_in gs)) (descend (form_in fs))

-- ---- a loop by its places, in the order in which it writes them

-- the words of two bits
abbrev pub up_pair : ℕ × ℕ → List ℕ
up_pair p = up_words p.0 p.1

abbrev pub back_pair : ℕ × ℕ → List ℕ
back_pair p = back_words p.0 p.1

pub ascend_each : (fs ss : List ℕ) → length fs ≡ length ss → ascend_words fs ss ≡ flat_map up_pair (zip fs ss)
unfolding ascend
ascend_each [] ss e = refl
ascend_each (f ∷ fs) [] e = absurd (omega arith)
ascend_each (f ∷ fs) (s ∷ ss) e =
    ascend_words_lem (f ∷ []) fs (s ∷ []) ss refl ∙ ap (λ (l : List ℕ). up_words f s ++ l) (ascend_each fs ss (suc_inj e))

-- pairs of rows of one length, one after the other
zip_append : (fs ss gs ts : List ℕ) → length fs ≡ length ss → zip (fs ++ gs) (ss ++ ts) ≡ zip fs ss ++ zip gs ts
zip_append [] [] gs ts e = refl
zip_append [] (s ∷ ss) gs ts e = absurd (omega arith)
zip_append (f ∷ fs) [] gs ts e = absurd (omega arith)
zip_append (f ∷ fs) (s ∷ ss) gs ts e = ap (λ (l : List (ℕ × ℕ)). (f, s) ∷ l) (zip_append fs ss gs ts (suc_inj e))

pub ascend_back_each : (fs ss : List ℕ) → length fs ≡ length ss → ascend_back_words fs ss ≡ flat_map back_pair (zip (reverse fs) (reverse ss))
unfolding ascend inverted
ascend_back_each [] [] e = refl
ascend_back_each [] (s ∷ ss) e = absurd (omega arith)
ascend_back_each (f ∷ fs) [] e = absurd (omega arith)
ascend_back_each (f ∷ fs) (s ∷ ss) e =
    let one : length (reverse fs) ≡ length (reverse ss) = length-reverse fs ∙ suc_inj e ∙ sym (length-reverse ss) in
    ascend_back_words_lem (f ∷ []) fs (s ∷ []) ss refl
    ∙ ap (λ (l : List ℕ). l ++ back_words f s) (ascend_back_each fs ss (suc_inj e))
    ∙ rw (reverse-cons f fs, reverse-cons s ss, zip_append (reverse fs) (reverse ss) (f ∷ []) (s ∷ []) one)
    (sym (flat_map-append back_pair (zip (reverse fs) (reverse ss)) ((f, s) ∷ []) ∙ ap (λ (l : List ℕ). flat_map back_pair (zip (reverse fs) (reverse ss)) ++ l) (append-nil (back_words f s))))

pub descend_each : (bs : List ℕ) → descend_words bs ≡ flat_map down_words (reverse bs)
unfolding descend
descend_each [] = refl
descend_each (b ∷ bs) =
    descend_words_lem (b ∷ []) bs
    ∙ ap (λ (l : List ℕ). l ++ down_words b) (descend_each bs)
    ∙ rw (reverse-cons b bs)
    (sym (flat_map-append down_words (reverse bs) (b ∷ []) ∙ ap (λ (l : List ℕ). flat_map down_words (reverse bs) ++ l) (append-nil (down_words b))))

-- ---- a word for a bit

pub chosen_set : (bit word : ℕ) → bit ≡ 1 → chosen bit word ≡ word ∷ []
chosen_set bit word e = rw (eq-eqb bit 1 e)

pub chosen_clear : (bit word : ℕ) → (bit ≡ 1 → ⊥) → chosen bit word ≡ []
chosen_clear bit word ne = rw (ne_eqb bit 1 ne)

-- ---- how long the words of a place are

module _ (s t : ℕ) where
  pub up_length : length (up_words s t) ≡ 2 + (length (chosen s (step_word (Mul 2 1))) + length (chosen t (step_word (Mul 3 1))))
  up_length = ap length (up_words_lem s t) ∙ omega (arith, length-append (chosen s (step_word (Mul 2 1))) (chosen t (step_word (Mul 3 1))))

  pub back_length : length (back_words s t) ≡ length (chosen t (step_word (Div 3 1))) + (length (chosen s (step_word (Div 2 1))) + 2)
  back_length =
      ap length (back_words_lem s t)
      ∙ length-append (chosen t (step_word (Div 3 1))) _
      ∙ ap (λ (n : ℕ). length (chosen t (step_word (Div 3 1))) + n) (length-append (chosen s (step_word (Div 2 1))) _)

pub down_length : (b : ℕ) → length (down_words b) ≡ length (chosen b (step_word (Mul 2 0))) + 2
down_length b = ap length (down_words_lem b) ∙ length-append (chosen b (step_word (Mul 2 0))) _

-- ---- the figures by their parts

form_bits : (bs : List Bool) → form_in (map bit bs) ≡ bs
form_bits [] = refl
form_bits (true ∷ bs) = ap (λ (l : List Bool). true ∷ l) (form_bits bs)
form_bits (false ∷ bs) = ap (λ (l : List Bool). false ∷ l) (form_bits bs)

-- places past the end of a form aren't set
ascend_pad : (n : ℕ) (ss ts : List Bool) → ascend ss (pad n ts) ≡ ascend ss ts
unfolding ascend pad
ascend_pad n [] ts = refl
ascend_pad zero (s ∷ ss) ts = refl
ascend_pad (suc n) (s ∷ ss) [] = ap (λ (l : List Step). Mul 0 1 ∷ Swp 0 1 ∷ select s (Mul 2 1) l) (ascend_pad n ss [])
ascend_pad (suc n) (s ∷ ss) (t ∷ ts) =
    ap (λ (l : List Step). Mul 0 1 ∷ Swp 0 1 ∷ select s (Mul 2 1) (select t (Mul 3 1) l)) (ascend_pad n ss ts)

up_form : (n : ℕ) (ss ts : List Bool) → ascend (form_in (map bit ss)) (form_in (map bit (pad n ts))) ≡ ascend ss ts
up_form n ss ts = ap₂ ascend (form_bits ss) (form_bits (pad n ts)) ∙ ascend_pad n ss ts

-- the words that a figure writes are those of the steps that it draws
pub drawn_words_lem : (figure : Figure) (ss ts Ss Ts : List Bool) → Alone figure ts → Alone figure Ts
    → front_words figure (map bit ss) (map bit (pad (length ss) ts)) (map bit (pad (length Ss) Ts)) ++ ascend_back_words (map bit Ss) (map bit (pad (length Ss) Ts))
    ≡ map step_word (drawn figure ss ts Ss Ts)
unfolding drawn basic dual hybrid
drawn_words_lem Two ss ts Ss Ts e E =
    rw (e, E, up_form (length ss) ss [], up_form (length ss) (pad (length ss) []) [], up_form (length Ss) Ss [], up_form (length Ss) (pad (length Ss) []) [])
    (simp (map-append, append_assoc))
drawn_words_lem Four ss ts Ss Ts e E = rw (up_form (length ss) ss ts, up_form (length Ss) Ss Ts) (simp (map-append, append_assoc))
drawn_words_lem Six ss ts Ss Ts e E =
    rw (E, form_bits ss, up_form (length Ss) Ss [])
    (ap (λ (l : List ℕ). step_word (Swp 0 1) ∷ l)
    (append_assoc (map step_word (descend ss)) (step_word (Swp 0 1) ∷ step_word (Swp 1 2) ∷ []) (map step_word (inverted (ascend Ss [])))
    ∙ sym (map-append step_word (descend ss) (Swp 0 1 ∷ Swp 1 2 ∷ inverted (ascend Ss [])))))

-- ---- how long they are

pub size_2 : (first none none_last : List ℕ)
    → length (front_words Two first none none_last) ≡ length (ascend_words first none) + (length (ascend_back_words none none) + suc (length (ascend_words none_last none_last)))
size_2 first none none_last =
    length-append (ascend_words first none) _ ∙ ap (λ (n : ℕ). length (ascend_words first none) + n) (length-append (ascend_back_words none none) _)

pub size_4 : (first beside : List ℕ) → length (front_words Four first beside []) ≡ length (ascend_words first beside) + 2
size_4 first beside = length-append (ascend_words first beside) _

pub size_6 : (first : List ℕ) → length (front_words Six first [] []) ≡ suc (length (descend_words first) + 2)
size_6 first = ap suc (length-append (descend_words first) _)

pub drawn_size : (rows : FormRows)
    → length (drawn_words rows)
    ≡ length (front_words rows.figure (bits_in rows.first) (bits_in rows.beside) (bits_in rows.beside_last))
    + length (ascend_back_words (bits_in rows.last) (bits_in rows.beside_last))
drawn_size rows = length-append (front_words rows.figure (bits_in rows.first) (bits_in rows.beside) (bits_in rows.beside_last)) _
