-- `rules::are_steps` meets its contract: all words pass the test exactly where each does.
use Rattle.std.proofs.Common.{rules, refl, ap, ◌∙◌, ◌≡◌, List, [], ◌∷◌, ℕ, Bool, true}
use Rattle.std.specs.Prelude.{◌&&◌, ◌↔◌, IsTrue, All, eqb}
use Rattle.std.specs.List.{list_all}
use Rattle.std.proofs.lemmas.List.Sums.{AllPass-from_list_all, list_all-from_AllPass}
use Rattle.refusal.proofs.Laws.Tests.{agree}
use Rattle.tape.specs.Words.{decoded}
use Rattle.tape.specs.Layout.{sort_of, all_steps}
use Rattle.layout.proofs.rules.are_steps.Goals as goal

passes : ℕ → Bool
passes w = eqb (sort_of (decoded w)) 5

all_pass : (words : List ℕ) → list_all passes words ≡ all_steps words
unfolding passes all_steps
all_pass [] = refl
all_pass (w ∷ words) = ap (λ (b : Bool). passes w && b) (all_pass words)

pub returns : goal.returns
unfolding passes
returns c =
    let words = c.args.words.now in
    let each : IsTrue c.all.result ↔ All (λ w. passes w ≡ true) words = search rules in
    agree _ _ (λ e. list_all-from_AllPass passes words (each.0 e)) (λ e. each.1 (AllPass-from_list_all passes words e)) ∙ all_pass words
