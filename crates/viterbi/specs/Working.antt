-- How the search goes, back over the symbols and then forward: what the private functions compute. The public promise speaks of none of it.
use Rattle.std.specs.Prelude.{◌≡◌, cond, List, [], ◌∷◌, ◌++◌, ℕ, ◌+◌, ◌-◌, ◌*◌, ◌/◌, ◌%◌, ◌^◌, ◌≤◌, ◌<◌, min, ltb, length, get_or, drop}
use Rattle.codewords.specs.Words.{Octets, differing}
use Rattle.viterbi.specs.declared.Column.{Column}
use Rattle.convolution.specs.Coder.{low_bits, bits_of, symbols_at, next_register, register_after}

-- In how many places the symbols of one bit differ from two received ones.
unfoldable pub branch : ℕ → ℕ → ℕ → ℕ → ℕ
branch register bit a b = differing (symbols_at 1 register 0 bit) (a ∷ b ∷ [])

-- The cost to go: the fewest differing places from a register on.
abbrev pub to_go : List ℕ → ℕ → ℕ
to_go [] register = 0
to_go (a ∷ []) register = 0
to_go (a ∷ (b ∷ later)) register =
    min (branch register 0 a b + to_go later (next_register register 0)) (branch register 1 a b + to_go later (next_register register 1))

-- The same by way of a bit; the bit 1 is chosen only if its way is cheaper.
abbrev pub via : ℕ → ℕ → ℕ → List ℕ → ℕ → ℕ
via register a b later bit = branch register bit a b + to_go later (next_register register bit)

abbrev pub choice : ℕ → ℕ → ℕ → List ℕ → ℕ
choice register a b later = cond (ltb (via register a b later 1) (via register a b later 0)) 1 0

-- The bits chosen one after the other.
abbrev pub path : List ℕ → ℕ → List ℕ
path [] register = []
path (a ∷ []) register = []
path (a ∷ (b ∷ later)) register = choice register a b later ∷ path later (next_register register (choice register a b later))

-- The pair of symbols of bit t, as a number.
pub record Pair (received : List ℕ) (t pair : ℕ) : Type 0 where
  pub small : pair < 4
  pub split : drop (2 * t) received ≡ pair / 2 ∷ (pair % 2 ∷ drop (2 * t + 2) received)

abbrev pub pair_branch : ℕ → ℕ → ℕ → ℕ
pair_branch pair register bit = branch register bit (pair / 2) (pair % 2)

-- A register turned round has its six bits in the other order, the newest highest. That is its place in a column.
abbrev pub turned : ℕ → ℕ
turned register =
    register % 2 * 32 + register / 2 % 2 * 16 + register / 4 % 2 * 8 + register / 8 % 2 * 4 + register / 16 % 2 * 2 + register / 32 % 2

abbrev pub of_register : List ℕ → ℕ → ℕ
of_register list register = get_or list (turned register) 0

-- A listed cost serves four branches, those of two registers side by side, since both vectors have the present and the oldest bit.
pub record Serves (pair k cost : ℕ) : Type 0 where
  pub most : cost ≤ 2
  pub zero_even : cost ≡ pair_branch pair (turned (2 * k)) 0
  pub one_even : 2 - cost ≡ pair_branch pair (turned (2 * k)) 1
  pub zero_odd : 2 - cost ≡ pair_branch pair (turned (2 * k + 1)) 0
  pub one_odd : cost ≡ pair_branch pair (turned (2 * k + 1)) 1

-- The cost to go one bit earlier by way of a bit, from the costs behind it.
abbrev pub by : List ℕ → ℕ → ℕ → ℕ → ℕ
by costs pair register bit = pair_branch pair register bit + of_register costs (next_register register bit)

-- One bit earlier each register has the cheaper cost, and its way; the bit 1 has the given weight in the way.
pub record Earlier (column : Column) (pair weight : ℕ) (after : Column) : Type 0 where
  pub cost : (register : ℕ) → register < 64 → of_register after.costs register ≡ min (by column.costs pair register 0) (by column.costs pair register 1)
  pub way : (register : ℕ) → register < 64 →
      of_register after.ways register
      ≡ cond (ltb (by column.costs pair register 1) (by column.costs pair register 0))
      (of_register column.ways (next_register register 1) + weight)
      (of_register column.ways (next_register register 0))

-- Bounds of all 64 numbers.
pub record Below (most : ℕ) (list : List ℕ) : Type 0 where
  pub at : (place : ℕ) → place < 64 → get_or list place 0 ≤ most

pub record Under (limit : ℕ) (list : List ℕ) : Type 0 where
  pub at : (place : ℕ) → place < 64 → get_or list place 0 < limit

pub record Above (taken : ℕ) (list : List ℕ) : Type 0 where
  pub at : (place : ℕ) → place < 64 → taken ≤ get_or list place 0

-- The same is taken from each.
pub record Lowered (taken : ℕ) (list after : List ℕ) : Type 0 where
  pub at : (place : ℕ) → place < 64 → get_or after place 0 + taken ≡ get_or list place 0

-- The next k bits of the path from bit t and a register on.
pub record Ahead (received : List ℕ) (t k register way : ℕ) : Type 0 where
  pub small : way < 2 ^ k
  pub walked :
      path (drop (2 * t) received) register
      ≡ low_bits k way ++ path (drop (2 * (t + k)) received) (register_after register (low_bits k way))

-- The costs to go at bit t, above a base; and with them the next k bits of each way.
pub record ToGo (received : List ℕ) (t base : ℕ) (costs : List ℕ) : Type 0 where
  pub at : (register : ℕ) → register < 64 → base + of_register costs register ≡ to_go (drop (2 * t) received) register

pub record Stands (received : List ℕ) (t k base : ℕ) (column : Column) : Type 0 where
  pub cost : ToGo received t base column.costs
  pub ahead : (register : ℕ) → register < 64 → Ahead received t k register (of_register column.ways register)

-- From the costs behind octet i to the column in front of it, whatever the base.
pub record OctetBack (received : List ℕ) (i : ℕ) (behind : List ℕ) (after : Column) : Type 0 where
  pub at : (base : ℕ) → ToGo received (8 * i + 8) base behind → Stands received (8 * i) 8 base after

-- The rows from octet i up to n have the octet of the path from each register.
pub record Rows (received : List ℕ) (i n : ℕ) (rows : List (List ℕ)) : Type 0 where
  pub at : (k : ℕ) → i ≤ k → k < n → (register : ℕ) → register < 64 → Ahead received (8 * k) 8 register (of_register (get_or rows k []) register)

-- The whole path from a register is in the data, and leads to `end`.
pub record Walked (received : List ℕ) (register : ℕ) (before after : List ℕ) (end : ℕ) : Type 0 where
  pub long : length after ≡ length before
  pub octets : Octets after
  pub bits : bits_of after ≡ path received register
  pub reached : end ≡ register_after register (bits_of after)
