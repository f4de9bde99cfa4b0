-- What the shared checks promise each other: the beginnings that several orders have in common. No public contract speaks of them.
use Rattle.std.specs.Prelude.{List, [], ◌∷◌, ℕ}
use Rattle.refusals.specs.Order.{Check}
use Rattle.refusals.specs.Calls.{strength, depth, fill, allowance, rate, register, place, holding}

-- The checks of every call on words: 1, 2 and 3.
abbrev pub word_parameters : ℕ → ℕ → ℕ → List Check
word_parameters e i q = strength e ∷ depth i ∷ fill e q ∷ []

-- The checks of every call that takes a block: 1 to 4.
abbrev pub allowed_parameters : ℕ → ℕ → ℕ → ℕ → List Check
allowed_parameters e i q s = strength e ∷ depth i ∷ fill e q ∷ allowance e s ∷ []

-- The checks of both calls of the coder: 7 in its four forms.
abbrev pub coder_parameters : ℕ → ℕ → ℕ → ℕ → List Check
coder_parameters r bits at held = rate r ∷ register bits ∷ place r at ∷ holding held ∷ []
