-- `places` meets its contract: the count is known before the buffer is written, and the buffer's front is the list of n.
use Rattle.std.proofs.Common.{◌≡◌, ℕ, ◌<◌, ◌≤◌, List, [], length, sym, ap, ◌∙◌, arith, le-ltb, lt-ltb}
use Rattle.refusal.specs.declared.Refusal.TheVariants.{Room}
use Rattle.refusal.specs.Outcomes.{refused, answered, gives, passes, answers, row_kept, row_written}
use Rattle.fibonacci.specs.Services.{places_of, places_outcome, places_buffer}
use Rattle.places.proofs.places.Goals as goal

short : (n room : ℕ) → room < length (places_of n) → places_outcome n room ≡ refused 5
unfolding places_outcome
short n room h = gives Room [] (length (places_of n)) (lt-ltb room (length (places_of n)) h)

enough : (n room : ℕ) → length (places_of n) ≤ room → places_outcome n room ≡ answered (length (places_of n))
unfolding places_outcome
enough n room h = passes Room [] (length (places_of n)) (le-ltb room (length (places_of n)) h) ∙ answers (length (places_of n))

pub returns-then-buffer-count : goal.returns-then-buffer-count
unfolding places_buffer
returns-then-buffer-count c =
    let buffer = c.args.buffer.now in
    let count = ap length (c.places-list.ensures ∙ c.zeckendorf-form.ensures) in
    let e = short c.args.n (length buffer) (omega (arith, count)) in
    record {
      result_value = sym e;
      buffer_after = sym (row_kept (places_of c.args.n) buffer e);
    }

pub returns : goal.returns
unfolding places_buffer
returns c =
    let n = c.args.n in
    let buffer = c.args.buffer.now in
    let listed = c.places-list.ensures ∙ c.zeckendorf-form.ensures in
    let e = enough n (length buffer) (omega (arith, ap length listed)) in
    record {
      result_value = ap (λ (l : List ℕ). answered (length l)) listed ∙ sym e;
      buffer_after = rw (c.copy_from_slice.ensures.after, listed) (sym (row_written (places_of n) buffer e));
    }
