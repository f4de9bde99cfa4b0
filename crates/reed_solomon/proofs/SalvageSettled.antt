-- salvage is settled: what becomes of a word is settled by what was received of it, so two outcomes that the contract permits are equal.
use mathlib.Core.Path.{◌≡◌, sym, ap, ap₂, ◌∙◌, subst}
use mathlib.Core.Logic.{inl, inr}
use mathlib.Core.List.{List, ◌++◌}
use Prim.Native.Nat.{ℕ, ◌-◌, ◌*◌, ◌≤◌, ◌<◌}
use native.Mathlib.Omega.{arith}
use native.Mathlib.Decide.{ℕ_discrete, dec_lt}
use lib.ListN.{length, take, drop, get_or}
use lib.Seq.{ext_get_or}
use Rattle.refusals.specs.Order.{FirstOf}
use Rattle.refusals.specs.Numbers.{verdict_number}
use Rattle.refusals.specs.Calls.{salvage_order}
use Rattle.refusals.specs.Numbers.{Verdict}
use Rattle.refusals.proofs.Settled.{salvage_parameters_settled}
use Rattle.codewords.specs.Words.{differing, with_fill}
use Rattle.codewords.proofs.Codewords.{good_unique, good_more_allowance}
use Rattle.encoding.specs.Blocks.{sent_from}
use Rattle.reed_solomon.specs.Changes.{changes_from}
use Rattle.reed_solomon.specs.Salvaging.{Mended, WordSalvaged, Salvaged, SalvageOutcome}
use Rattle.encoding.proofs.Interleaving.{unfilled, known_by_words}
use Rattle.reed_solomon.proofs.Deliveries.{LegalBlock}
use Rattle.reed_solomon.proofs.Salvages.{salvage_legal}

-- ---- one word

-- A word that is repaired with one allowance is repaired with any larger one, to the same symbols and count.
pub word_larger : (e q s t : ℕ) (received : List ℕ) (m n c d : ℕ) (a b : List ℕ) → e ≤ 16 → s ≤ t → t ≤ e → Mended e q s received m c a → WordSalvaged e q t received n d b
    → (m ≡ n) × (c ≡ d) × (a ≡ b)
word_larger e q s t received m n c d a b strong order small x (inl y) =
    let same : with_fill q a ≡ with_fill q b =
    good_unique e q t (with_fill q received) (with_fill q a) (with_fill q b) (omega arith) small (good_more_allowance e q s t (with_fill q received) (with_fill q a) order x.good) y.good in
    (x.marked ∙ sym y.marked, x.counted ∙ ap (differing (with_fill q received)) same ∙ sym y.counted, unfilled q a b same)
word_larger e q s t received m n c d a b strong order small x (inr y) =
    absurd (y.lost (with_fill q a) (good_more_allowance e q s t (with_fill q received) (with_fill q a) order x.good))

-- What was received of a word, with e, q and s, settles its symbols, its mark and its count.
pub word_settled : (e q s : ℕ) (received : List ℕ) (m n c d : ℕ) (a b : List ℕ) → e ≤ 16 → s ≤ e → WordSalvaged e q s received m c a → WordSalvaged e q s received n d b
    → (m ≡ n) × (c ≡ d) × (a ≡ b)
word_settled e q s received m n c d a b strong small (inl x) y = word_larger e q s s received m n c d a b strong (omega arith) small x y
word_settled e q s received m n c d a b strong small (inr x) (inl y) = absurd (x.lost (with_fill q b) y.good)
word_settled e q s received m n c d a b strong small (inr x) (inr y) = (x.unmarked ∙ sym y.unmarked, x.uncounted ∙ sym y.uncounted, x.kept ∙ sym y.kept)

-- ---- salvage

module _ (e i q s : ℕ) (block before listed : List ℕ) where
  pub salvage_settled : (v u : Verdict) (m n c d : List ℕ) (x y : ℕ) (f g l k : List ℕ) → SalvageOutcome e i q s block before listed v m c x f l
      → SalvageOutcome e i q s block before listed u n d y g k → (v ≡ u) × (m ≡ n) × (c ≡ d) × (x ≡ y) × (f ≡ g) × (l ≡ k)
  salvage_settled v u m n c d x y f g l k A B = (answers, rest.0, rest.1, rest.2, rest.3, rest.4)
    where
      answers : v ≡ u
      answers = salvage_parameters_settled v u e i q s (length block) (length before) (length listed) A.number B.number

      accepted : verdict_number v ≡ 0 → (m ≡ n) × (c ≡ d) × (x ≡ y) × (f ≡ g) × (l ≡ k)
      accepted z = (marks, counts, entries, frames, lists)
        where
          S : Salvaged e i q s block m c x f listed l
          S = A.salvaged z

          T : Salvaged e i q s block n d y g listed k
          T = B.salvaged (ap verdict_number (sym answers) ∙ z)

          L : LegalBlock e i q s (length block) (length before)
          L = salvage_legal e i q s (length block) (length before) (length listed) (subst (FirstOf (salvage_order e i q s (length block) (length before) (length listed))) z A.number)

          word : (w : ℕ) → w < i → (get_or m w 0 ≡ get_or n w 0) × (get_or c w 0 ≡ get_or d w 0) × (sent_from i S.repaired w 0 (255 - q) ≡ sent_from i T.repaired w 0 (255 - q))
          word w h =
              word_settled e q s (sent_from i block w 0 (255 - q)) (get_or m w 0) (get_or n w 0) (get_or c w 0) (get_or d w 0) (sent_from i S.repaired w 0 (255 - q)) (sent_from i T.repaired w 0 (255 - q))
              L.words.strong L.allowance (S.words w h) (T.words w h)

          marks : m ≡ n
          marks =
              ext_get_or 0 m n (A.size.2 ∙ sym B.size.2)
              (λ w h. elim (dec_lt w i) [ yes l ↦ (word w l).0 | no o ↦ (S.beyond w (omega arith)).0 ∙ sym (T.beyond w (omega arith)).0 ])

          counts : c ≡ d
          counts =
              ext_get_or 0 c d (A.size.3 ∙ sym B.size.3)
              (λ w h. elim (dec_lt w i) [ yes l ↦ (word w l).1 | no o ↦ (S.beyond w (omega arith)).1 ∙ sym (T.beyond w (omega arith)).1 ])

          repaired : S.repaired ≡ T.repaired
          repaired =
              known_by_words i (255 - q) S.repaired T.repaired (omega (arith, L.words.some)) (S.size ∙ L.received) (T.size ∙ L.received) (λ w h. (word w h).2)

          entries : x ≡ y
          entries = omega (arith, S.entered ∙ ap (λ (r : List ℕ). length (changes_from 0 block r)) repaired ∙ sym T.entered)

          frames : f ≡ g
          frames = S.front ∙ ap₂ take (A.size.0 ∙ sym B.size.0) repaired ∙ sym T.front

          lists : l ≡ k
          lists = S.told ∙ ap₂ {C = List ℕ} (λ (r : List ℕ) (t : ℕ). changes_from 0 block r ++ drop (4 * t) listed) repaired entries ∙ sym T.told

      rest : (m ≡ n) × (c ≡ d) × (x ≡ y) × (f ≡ g) × (l ≡ k)
      rest =
          elim (ℕ_discrete (verdict_number v) 0) [
            | yes z ↦ accepted z
            | no r ↦ let a = A.refused r in
                let b = B.refused (λ z. r (ap verdict_number answers ∙ z)) in
                (a.2 ∙ sym b.2, a.3 ∙ sym b.3, a.4 ∙ sym b.4, a.0 ∙ sym b.0, a.1 ∙ sym b.1)
          ]
