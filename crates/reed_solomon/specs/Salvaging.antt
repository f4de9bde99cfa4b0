-- What salvage promises: each word repaired or left as received, and a list of the octets that changed (document 02, (vii)).
use Rattle.std.specs.Prelude.{◌≡◌, ◌≢◌, ◌⊎◌, Result, Ok, Err, List, ◌++◌, ℕ, ◌-◌, ◌*◌, ◌≤◌, ◌<◌, length, take, drop, get_or, replicate}
use Rattle.refusals.specs.Order.{FirstOf}
use Rattle.refusals.specs.Numbers.{Verdict, verdict_number}
use Rattle.refusals.specs.Calls.{salvage_order}
use Rattle.refusals.specs.declared.Parameter.{Parameter}
use Rattle.reed_solomon.specs.declared.SalvageReport.{SalvageReport}
use Rattle.codewords.specs.Words.{Good, differing, with_fill}
use Rattle.encoding.specs.Blocks.{sent_from}
use Rattle.reed_solomon.specs.Changes.{changes_from}

-- A word is repaired: with its fill it is a codeword that is good for what was received; its mark is 1, its count the number of symbols that differ.
pub record Mended (e q s : ℕ) (received : List ℕ) (mark count : ℕ) (after : List ℕ) : Type 0 where
  pub marked : mark ≡ 1
  pub good : Good e q s (with_fill q received) (with_fill q after)
  pub counted : count ≡ differing (with_fill q received) (with_fill q after)

-- A word is not repaired: no codeword is good for it; it stays as received, with mark 0 and count 0.
pub record Unmended (e q s : ℕ) (received : List ℕ) (mark count : ℕ) (after : List ℕ) : Type 0 where
  pub unmarked : mark ≡ 0
  pub uncounted : count ≡ 0
  pub kept : after ≡ received
  pub lost : (codeword : List ℕ) → Good e q s (with_fill q received) codeword → ⊥

-- What becomes of a word, by the symbols that were received of it alone.
abbrev pub WordSalvaged : ℕ → ℕ → ℕ → List ℕ → ℕ → ℕ → List ℕ → Type 0
WordSalvaged e q s received mark count after = Mended e q s received mark count after ⊎ Unmended e q s received mark count after

-- A salvaged block: of each word what becomes of it, in the repaired block; marks and counts beyond the depth are zero; the frame is the repaired block's
-- front; the list begins with the entries of all octets that changed, and stays behind them.
pub record Salvaged (e i q s : ℕ) (block marks counts : List ℕ) (entries : ℕ) (frame listed list : List ℕ) : Type 0 where
  pub repaired : List ℕ
  pub size : length repaired ≡ length block
  pub words : (w : ℕ) → w < i → WordSalvaged e q s (sent_from i block w 0 (255 - q)) (get_or marks w 0) (get_or counts w 0) (sent_from i repaired w 0 (255 - q))
  pub beyond : (w : ℕ) → i ≤ w → (get_or marks w 0 ≡ 0) × (get_or counts w 0 ≡ 0)
  pub front : frame ≡ take (length frame) repaired
  pub entered : 4 * entries ≡ length (changes_from 0 block repaired)
  pub told : list ≡ changes_from 0 block repaired ++ drop (4 * entries) listed

-- What salvage reports: the marks and counts of eight words, and how many entries the list has; all zero on a refusal.
abbrev pub marks_of : Result SalvageReport Parameter → List ℕ
marks_of (Ok report) = report.marks
marks_of (Err p) = replicate 8 0

abbrev pub repairs_of : Result SalvageReport Parameter → List ℕ
repairs_of (Ok report) = report.counts
repairs_of (Err p) = replicate 8 0

abbrev pub entries_of : Result SalvageReport Parameter → ℕ
entries_of (Ok report) = report.entries
entries_of (Err p) = 0

-- Salvage checks in its order. After a refusal frame and list are as they were, and marks, counts and entries are zero.
pub record SalvageOutcome (e i q s : ℕ) (block before listed : List ℕ) (answer : Verdict) (marks counts : List ℕ) (entries : ℕ) (frame list : List ℕ) : Type 0 where
  pub number : FirstOf (salvage_order e i q s (length block) (length before) (length listed)) (verdict_number answer)
  pub size : (length frame ≡ length before) × (length list ≡ length listed) × (length marks ≡ 8) × (length counts ≡ 8)
  pub refused : verdict_number answer ≢ 0 → (frame ≡ before) × (list ≡ listed) × (marks ≡ replicate 8 0) × (counts ≡ replicate 8 0) × (entries ≡ 0)
  pub salvaged : verdict_number answer ≡ 0 → Salvaged e i q s block marks counts entries frame listed list
