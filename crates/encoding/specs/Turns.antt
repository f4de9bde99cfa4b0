-- The turns of words: no public contract speaks of them.
use Rattle.std.specs.Prelude.{◌≡◌, ◌⊎◌, ℕ, ◌+◌, ◌<◌}

-- After the last word the first has its turn.
abbrev pub NextWord : ℕ → ℕ → ℕ → Type 0
NextWord i word next = ((word + 1 ≡ i) × (next ≡ 0)) ⊎ ((word + 1 < i) × (next ≡ word + 1))
