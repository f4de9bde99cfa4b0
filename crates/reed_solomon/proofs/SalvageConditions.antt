-- What any permitted outcome of salvage says, over all E, I, Q and s at once: each word stands alone, a larger allowance keeps what was repaired, all words
-- together are decode, and the list tells all.
use Rattle.reed_solomon.specs.Outcome.{Decoded, Delivered}
use mathlib.Core.Path.{◌≡◌, refl, sym, ap, ◌∙◌, subst}
use mathlib.Core.Logic.{◌↔◌, inl, inr}
use mathlib.Core.List.{List, []}
use Prim.Native.Nat.{ℕ, ◌+◌, ◌-◌, ◌*◌, ◌≤◌, ◌<◌}
use native.Mathlib.Omega.{arith}
use lib.ListN.{length, take, drop, get_or}
use lib.Seq.{take_at, get_or-take}
use Rattle.refusals.specs.Order.{FirstOf}
use Rattle.refusals.specs.Sizes.{information}
use Rattle.refusals.specs.Numbers.{verdict_number}
use Rattle.refusals.specs.Calls.{decode_parameters, salvage_order}
use Rattle.refusals.specs.Numbers.{Verdict}
use Rattle.encoding.specs.Blocks.{sent_from, word_of, sum}
use Rattle.reed_solomon.specs.Outcome.{Delivery, DecodeOutcome, decoded_number}
use Rattle.reed_solomon.specs.Changes.{changes_from, applied, Tells}
use Rattle.reed_solomon.specs.Salvaging.{Mended, WordSalvaged, Salvaged, SalvageOutcome}
use Rattle.encoding.proofs.Interleaving.{place-below, sent_symbol, word_at}
use Rattle.reed_solomon.proofs.Deliveries.{LegalBlock}
use Rattle.reed_solomon.proofs.Deliverable.{Passed, delivered_is, same_counts, same-frame}
use Rattle.reed_solomon.proofs.Conditions.{condition_three_exactly_if}
use Rattle.reed_solomon.proofs.ListTells.{applied_changes, tells_changes}
use Rattle.reed_solomon.proofs.Salvages.{salvage_decodes, salvage_legal}
use Rattle.reed_solomon.proofs.SalvageSettled.{word_larger, word_settled}

-- The block with the entries of a list applied.
abbrev pub relisted : List ℕ → ℕ → List ℕ → List ℕ
relisted block entries list = applied (take (4 * entries) list) block

-- ---- a call that was accepted

module _ (e i q s : ℕ) (block before listed : List ℕ) (v : Verdict) (marks counts : List ℕ) (entries : ℕ) (frame list : List ℕ)
    (O : SalvageOutcome e i q s block before listed v marks counts entries frame list) (accepted : verdict_number v ≡ 0) where
  abbrev S : Salvaged e i q s block marks counts entries frame listed list
  S = O.salvaged accepted

  passed : FirstOf (salvage_order e i q s (length block) (length before) (length listed)) 0
  passed = subst (FirstOf (salvage_order e i q s (length block) (length before) (length listed))) accepted O.number

  legal : LegalBlock e i q s (length block) (length before)
  legal = salvage_legal e i q s (length block) (length before) (length listed) passed

  told : take (4 * entries) list ≡ changes_from 0 block S.repaired
  told = ap (take (4 * entries)) S.told ∙ take_at (changes_from 0 block S.repaired) (drop (4 * entries) listed) (4 * entries) (sym S.entered)

  -- the list makes the repaired block
  whole : relisted block entries list ≡ S.repaired
  whole = ap (λ (l : List ℕ). applied l block) told ∙ applied_changes block S.repaired [] 0 refl (sym S.size)

  abbrev symbols : ℕ → List ℕ
  symbols w = sent_from i (relisted block entries list) w 0 (255 - q)

  word : (w : ℕ) → w < i → WordSalvaged e q s (sent_from i block w 0 (255 - q)) (get_or marks w 0) (get_or counts w 0) (symbols w)
  word w h =
      subst (λ (l : List ℕ). WordSalvaged e q s (sent_from i block w 0 (255 - q)) (get_or marks w 0) (get_or counts w 0) (sent_from i l w 0 (255 - q))) (sym whole) (S.words w h)

  -- symbol k of word w in the frame is that of the salvaged word
  frame_symbol : (k w : ℕ) → k < information e - q → w < i → get_or frame (k * i + w) 0 ≡ get_or (symbols w) k 0
  frame_symbol k w h l =
      ap (λ (x : List ℕ). get_or x (k * i + w) 0) S.front
      ∙ get_or-take (length frame) S.repaired (k * i + w) 0 (omega (arith, O.size.0, legal.room, place-below i k (information e - q) w h l))
      ∙ ap (λ (x : List ℕ). get_or x (k * i + w) 0) (sym whole) ∙ sym (sent_symbol i (relisted block entries list) w (255 - q) k (omega arith))

-- ---- two calls that were accepted

module _ (e q : ℕ) (i s : ℕ) (block before listed : List ℕ) (v : Verdict) (marks counts : List ℕ) (entries : ℕ) (frame list : List ℕ)
    (j t : ℕ) (block' before' listed' : List ℕ) (v' : Verdict) (marks' counts' : List ℕ) (entries' : ℕ) (frame' list' : List ℕ)
    (O : SalvageOutcome e i q s block before listed v marks counts entries frame list) (P : SalvageOutcome e j q t block' before' listed' v' marks' counts' entries' frame' list')
    (z : verdict_number v ≡ 0) (z' : verdict_number v' ≡ 0) (w w' : ℕ) (h : w < i) (h' : w' < j) where
  -- A word of the one and a word of the other have the same mark, count, information symbols in the frame, and symbols in the block with the list applied.
  pub record SameWord : Type 0 where
    pub mark : get_or marks w 0 ≡ get_or marks' w' 0
    pub count : get_or counts w 0 ≡ get_or counts' w' 0
    pub frame-symbols : (k : ℕ) → k < information e - q → get_or frame (k * i + w) 0 ≡ get_or frame' (k * j + w') 0
    pub symbols-same : sent_from i (relisted block entries list) w 0 (255 - q) ≡ sent_from j (relisted block' entries' list') w' 0 (255 - q)

  same_word : (get_or marks w 0 ≡ get_or marks' w' 0) × (get_or counts w 0 ≡ get_or counts' w' 0)
      × (sent_from i (relisted block entries list) w 0 (255 - q) ≡ sent_from j (relisted block' entries' list') w' 0 (255 - q)) → SameWord
  same_word same =
      record {
        mark = same.0;
        count = same.1;
        frame-symbols = λ k l. frame_symbol e i q s block before listed v marks counts entries frame list O z k w l h ∙ ap (λ (x : List ℕ). get_or x k 0) same.2
            ∙ sym (frame_symbol e j q t block' before' listed' v' marks' counts' entries' frame' list' P z' k w' l h');
        symbols-same = same.2;
      }

  -- the second word's salvage, of the first word's symbols
  other : sent_from i block w 0 (255 - q) ≡ sent_from j block' w' 0 (255 - q)
      → WordSalvaged e q t (sent_from i block w 0 (255 - q)) (get_or marks' w' 0) (get_or counts' w' 0) (sent_from j (relisted block' entries' list') w' 0 (255 - q))
  other same =
      subst (λ (sent : List ℕ). WordSalvaged e q t sent (get_or marks' w' 0) (get_or counts' w' 0) (sent_from j (relisted block' entries' list') w' 0 (255 - q))) (sym same)
      (word e j q t block' before' listed' v' marks' counts' entries' frame' list' P z' w' h')

  small : t ≤ e
  small = (legal e j q t block' before' listed' v' marks' counts' entries' frame' list' P z').allowance

  strong : e ≤ 16
  strong = (legal e j q t block' before' listed' v' marks' counts' entries' frame' list' P z').words.strong

  -- A word's symbols, count and mark depend only on its received symbols and on E, Q and s: whatever the depths, the other words and the place of the word are.
  pub word_alone : s ≡ t → sent_from i block w 0 (255 - q) ≡ sent_from j block' w' 0 (255 - q) → SameWord
  word_alone equal same =
      same_word
      (word_settled e q t (sent_from i block w 0 (255 - q)) (get_or marks w 0) (get_or marks' w' 0) (get_or counts w 0) (get_or counts' w' 0)
      (sent_from i (relisted block entries list) w 0 (255 - q)) (sent_from j (relisted block' entries' list') w' 0 (255 - q)) strong small
      (subst (λ (a : ℕ). WordSalvaged e q a (sent_from i block w 0 (255 - q)) (get_or marks w 0) (get_or counts w 0) (sent_from i (relisted block entries list) w 0 (255 - q))) equal
      (word e i q s block before listed v marks counts entries frame list O z w h)) (other same))

  -- A word that is repaired stays repaired with a larger allowance, with the same symbols and count.
  pub larger_allowance_keeps : s ≤ t → sent_from i block w 0 (255 - q) ≡ sent_from j block' w' 0 (255 - q) → get_or marks w 0 ≡ 1 → SameWord
  larger_allowance_keeps order same marked = which (word e i q s block before listed v marks counts entries frame list O z w h)
    where
      which : WordSalvaged e q s (sent_from i block w 0 (255 - q)) (get_or marks w 0) (get_or counts w 0) (sent_from i (relisted block entries list) w 0 (255 - q)) → SameWord
      which (inl x) =
          same_word
          (word_larger e q s t (sent_from i block w 0 (255 - q)) (get_or marks w 0) (get_or marks' w' 0) (get_or counts w 0) (get_or counts' w' 0)
          (sent_from i (relisted block entries list) w 0 (255 - q)) (sent_from j (relisted block' entries' list') w' 0 (255 - q)) strong order small x (other same))
      which (inr x) = absurd (omega (arith, x.unmarked))

-- ---- all words, and the list

module _ (e i q s : ℕ) (block before listed : List ℕ) (v : Verdict) (marks counts : List ℕ) (entries : ℕ) (frame list : List ℕ)
    (O : SalvageOutcome e i q s block before listed v marks counts entries frame list) (accepted : verdict_number v ≡ 0) where
  -- Every word is marked as repaired.
  abbrev pub AllMended : Type 0
  AllMended = (w : ℕ) → w < i → get_or marks w 0 ≡ 1

  each : (w : ℕ) → w < i
      → WordSalvaged e q s (sent_from i block w 0 (255 - q)) (get_or marks w 0) (get_or counts w 0) (sent_from i (relisted block entries list) w 0 (255 - q))
  each w h = word e i q s block before listed v marks counts entries frame list O accepted w h

  mended : AllMended → (w : ℕ) → w < i → Mended e q s (sent_from i block w 0 (255 - q)) (get_or marks w 0) (get_or counts w 0) (sent_from i (relisted block entries list) w 0 (255 - q))
  mended all w h = which (each w h)
    where
      which : WordSalvaged e q s (sent_from i block w 0 (255 - q)) (get_or marks w 0) (get_or counts w 0) (sent_from i (relisted block entries list) w 0 (255 - q))
          → Mended e q s (sent_from i block w 0 (255 - q)) (get_or marks w 0) (get_or counts w 0) (sent_from i (relisted block entries list) w 0 (255 - q))
      which (inl x) = x
      which (inr x) = absurd (omega (arith, x.unmarked, all w h))

  mended_delivery : AllMended → Delivery e i q s block frame counts (sum counts)
  mended_delivery all =
      record {
        codewords = λ w. word_of i q (relisted block entries list) w;
        good = λ w h. (mended all w h).good;
        symbols = λ k w h l. frame_symbol e i q s block before listed v marks counts entries frame list O accepted k w h l
            ∙ sent_symbol i (relisted block entries list) w (255 - q) k (omega arith) ∙ sym (word_at i q (relisted block entries list) w k (omega arith));
        count = λ w h. (mended all w h).counted;
        beyond = λ w h. ((O.salvaged accepted).beyond w h).1;
        summed = refl;
      }

  -- All words are repaired exactly if decode delivers, and then frame and counts are decode's: any outcome that decode's contract permits, into a list as long as the frame.
  pub salvage_as_decode : (out : List ℕ) → length out ≡ length before → (answer : Decoded) (found : List ℕ) (total : ℕ) (after : List ℕ)
      → DecodeOutcome e i q s block out answer found total after → (AllMended ↔ (answer ≡ Delivered)) × (answer ≡ Delivered → (frame ≡ after) × (counts ≡ found))
  salvage_as_decode out size answer found total after P = ((forth, back), λ is. same (ap decoded_number is) (back is))
    where
      L : LegalBlock e i q s (length block) (length before)
      L = legal e i q s block before listed v marks counts entries frame list O accepted

      passes : Passed e i q s block out
      passes =
          subst (λ (n : ℕ). FirstOf (decode_parameters e i q s (length block) n) 0) (sym size)
          (salvage_decodes e i q s (length block) (length before) (length listed) (passed e i q s block before listed v marks counts entries frame list O accepted))

      forth : AllMended → answer ≡ Delivered
      forth all =
          delivered_is answer ((condition_three_exactly_if e i q s block out passes answer found total after P).1 (λ w h. ((mended_delivery all).codewords w, (mended_delivery all).good w h)))

      back : answer ≡ Delivered → AllMended
      back is w h = which (each w h)
        where
          which : WordSalvaged e q s (sent_from i block w 0 (255 - q)) (get_or marks w 0) (get_or counts w 0) (sent_from i (relisted block entries list) w 0 (255 - q)) → get_or marks w 0 ≡ 1
          which (inl x) = x.marked
          which (inr x) = absurd (x.lost ((P.delivered (ap decoded_number is)).codewords w) ((P.delivered (ap decoded_number is)).good w h))

      same : decoded_number answer ≡ 0 → AllMended → (frame ≡ after) × (counts ≡ found)
      same z all = (
        same-frame e i q s s block strong (omega arith) L.allowance L.words.some frame counts (sum counts) after found total D E (O.size.0 ∙ L.room) (P.size.0 ∙ size ∙ L.room),
        same_counts e i q s s block strong (omega arith) L.allowance L.words.some frame counts (sum counts) after found total D E O.size.3 P.size.1,
      )
        where
          D : Delivery e i q s block frame counts (sum counts)
          D = mended_delivery all

          E : Delivery e i q s block after found total
          E = P.delivered z

          strong : e ≤ 128
          strong = omega (arith, L.words.strong)

  -- The list tells all that was changed: its places rise, each with the octet received and another one; the block with the entries applied has the salvaged
  -- words, checks among them; and the frame is its front.
  pub list_tells_all : Tells 0 block (take (4 * entries) list)
      × ((w : ℕ) → w < i
      → WordSalvaged e q s (sent_from i block w 0 (255 - q)) (get_or marks w 0) (get_or counts w 0) (sent_from i (relisted block entries list) w 0 (255 - q)))
      × (frame ≡ take (length frame) (relisted block entries list))
  list_tells_all = (
    subst (Tells 0 block) (sym (told e i q s block before listed v marks counts entries frame list O accepted))
        (tells_changes block (O.salvaged accepted).repaired [] 0 refl (sym (O.salvaged accepted).size)),
    each,
    (O.salvaged accepted).front ∙ ap (take (length frame)) (sym (whole e i q s block before listed v marks counts entries frame list O accepted)),
  )
