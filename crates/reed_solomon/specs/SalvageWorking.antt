-- What salvage does on the way, word by word and octet by octet: what its private functions promise each other.
use Rattle.std.specs.Prelude.{◌≡◌, ◌≢◌, List, ◌++◌, ℕ, ◌+◌, ◌-◌, ◌*◌, ◌≤◌, ◌<◌, length, take, drop, get_or}
use Rattle.encoding.specs.Blocks.{sent_from}
use Rattle.reed_solomon.specs.Changes.{change, changes_from}
use Rattle.reed_solomon.specs.Salvaging.{WordSalvaged}

-- Word w stands salvaged in its places, and the symbols of the other words are as they were.
pub record WordPut (e i q s : ℕ) (block : List ℕ) (w : ℕ) (before : List ℕ) (mark count : ℕ) (after : List ℕ) : Type 0 where
  pub size : length after ≡ length before
  pub others : (k v : ℕ) → v < i → v ≢ w → get_or after (k * i + v) 0 ≡ get_or before (k * i + v) 0
  pub here : WordSalvaged e q s (sent_from i block w 0 (255 - q)) mark count (sent_from i after w 0 (255 - q))

-- The words before w stand salvaged; marks and counts are theirs, and zero from w on.
pub record WordsPut (e i q s : ℕ) (block : List ℕ) (w : ℕ) (marks counts after : List ℕ) : Type 0 where
  pub each : (v : ℕ) → v < w → WordSalvaged e q s (sent_from i block v 0 (255 - q)) (get_or marks v 0) (get_or counts v 0) (sent_from i after v 0 (255 - q))
  pub beyond : (v : ℕ) → w ≤ v → (get_or marks v 0 ≡ 0) × (get_or counts v 0 ≡ 0)
  pub sizes : (length marks ≡ 8) × (length counts ≡ 8)

-- The first w of eight marks are set.
pub record MarksSet (w : ℕ) (marks : List ℕ) : Type 0 where
  pub marked : (v : ℕ) → v < w → get_or marks v 0 ≡ 1
  pub beyond : (v : ℕ) → w ≤ v → get_or marks v 0 ≡ 0
  pub size : length marks ≡ 8

-- From octet `from` up to `end` both have the same octets.
abbrev pub Alike : ℕ → ℕ → List ℕ → List ℕ → Type 0
Alike from end block mended = (at : ℕ) → from ≤ at → at < end → get_or block at 0 ≡ get_or mended at 0

-- The entry of one octet, if it changed, stands behind so many others; what follows it is as it was.
pub record ChangePut (at old new entries : ℕ) (before : List ℕ) (entries' : ℕ) (after : List ℕ) : Type 0 where
  pub entered : 4 * entries' ≡ 4 * entries + length (change at old new)
  pub list : after ≡ take (4 * entries) before ++ (change at old new ++ drop (4 * entries') before)
  pub size : length after ≡ length before

-- The list when the first `at` octets have been looked at: their entries, and behind them it is as it was.
pub record Listed (block mended before : List ℕ) (at entries : ℕ) (after : List ℕ) : Type 0 where
  pub entered : 4 * entries ≡ length (changes_from 0 (take at block) (take at mended))
  pub list : after ≡ changes_from 0 (take at block) (take at mended) ++ drop (4 * entries) before
  pub size : length after ≡ length before
  pub few : entries ≤ at
