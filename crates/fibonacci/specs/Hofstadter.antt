-- Hofstadter's G.
use Rattle.std.specs.Prelude.{ℕ, zero, suc, ◌-◌}

-- G(0) = 0, G(1) = 1, G(n) = n - G(G(n-1)), with calls at most `depth` deep
unfoldable pub hofstadter_to : ℕ → ℕ → ℕ
hofstadter_to zero n = 0
hofstadter_to (suc depth) zero = 0
hofstadter_to (suc depth) (suc zero) = 1
hofstadter_to (suc depth) (suc (suc n)) = suc (suc n) - hofstadter_to depth (hofstadter_to depth (suc n))

-- The depth never matters: `G-zero`, `G-one`, `G-next` of proofs/Laws/Hofstadter are document 01's equations, and `G-only` says that they determine it.
unfoldable pub G : ℕ → ℕ
G n = hofstadter_to n n
