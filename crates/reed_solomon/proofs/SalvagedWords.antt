-- A word of a block and its salvage: with its errors added it stands repaired, or as received, in its places; and so do the words one after the other.
use mathlib.Core.Path.{◌≡◌, refl, sym, ap, ap₂, ◌∙◌, subst}
use mathlib.Core.Bool.{Bool, true, false}
use mathlib.Core.Logic.{inl, inr}
use mathlib.Core.List.{List, [], ◌∷◌}
use Prim.Native.Nat.{ℕ, zero, suc, ◌+◌, ◌-◌, ◌*◌, ◌≤◌, ◌<◌}
use native.Mathlib.Nat.{zero-add}
use native.Mathlib.Omega.{arith}
use native.Mathlib.Decide.{ℕ_discrete}
use lib.Bits.{bit_xor}
use lib.ListN.{length, get_or, set, replicate, length-set}
use lib.Seq.{get_or-set_same, get_or-set_other}
use Rattle.refusals.proofs.Legal.{strength_bounds}
use Rattle.field.proofs.Sum.{⊕_is, ⊕-zero}
use Rattle.codewords.specs.Words.{with_fill, Good, differing}
use Rattle.words.specs.Outcome.{repaired, WordOutcome}
use Rattle.words.proofs.Arrays.{zero-at}
use Rattle.encoding.specs.Blocks.{sent_from}
use Rattle.reed_solomon.specs.DecoderWorking.{Put, Fitting}
use Rattle.reed_solomon.specs.Salvaging.{WordSalvaged}
use Rattle.reed_solomon.specs.SalvageWorking.{WordPut, WordsPut, MarksSet}
use Rattle.encoding.proofs.Interleaving.{sent-length, sent_is, sent_symbol, sent-same}
use Rattle.reed_solomon.proofs.WordRepairs.{repaired-at, fill_is, lost, few}

-- ---- the symbols of a repaired word

repaired_size : (sent errors : List ℕ) → length (repaired sent errors) ≡ length sent
unfolding repaired
repaired_size [] errors = refl
repaired_size (x ∷ sent) [] = refl
repaired_size (x ∷ sent) (error ∷ errors) = ap suc (repaired_size sent errors)

repaired-zeros : (sent : List ℕ) (n : ℕ) → repaired sent (replicate n 0) ≡ sent
unfolding repaired
repaired-zeros [] n = refl
repaired-zeros (x ∷ sent) zero = refl
repaired-zeros (x ∷ sent) (suc n) = ap₂ {C = List ℕ} (λ (y : ℕ) (word : List ℕ). y ∷ word) (⊕-zero x) (repaired-zeros sent n)

-- ---- one word

module _ (e i q s : ℕ) (block : List ℕ) (w : ℕ) (F : Fitting e i q s block) (found : Bool) (count : ℕ) (errors : List ℕ)
    (O : WordOutcome e s (sent_from i block w 0 (255 - q)) found count errors) where
  abbrev sent : List ℕ
  sent = sent_from i block w 0 (255 - q)

  pub few_found : found ≡ true → count ≤ 16
  few_found y = omega (arith, few e i q s block w F found count errors O y, F.allowance, (strength_bounds e F.strength).1)

  module _ (before after : List ℕ) (P : Put i w (255 - q) block errors before after) where
    -- the word's symbols afterwards
    put_sent : sent_from i after w 0 (255 - q) ≡ repaired sent errors
    put_sent =
        sent_is i after w 0 (255 - q) (repaired sent errors) (repaired_size sent errors ∙ sent-length i block w 0 (255 - q))
        (λ j h. ap (λ (n : ℕ). get_or after (n * i + w) 0) (zero-add j) ∙ P.here j h ∙ ap (λ (x : ℕ). bit_xor x (get_or errors j 0)) (sym (sent_symbol i block w (255 - q) j h))
        ∙ sym (⊕_is (get_or sent j 0) (get_or errors j 0))
        ∙ sym (repaired-at sent errors j (omega (arith, sent-length i block w 0 (255 - q))) (omega (arith, sent-length i block w 0 (255 - q), O.size))))

    pub word_mended : found ≡ true → WordPut e i q s block w before 1 count after
    word_mended y =
        record {
          size = P.size;
          others = P.others;
          here = inl (record {
            marked = refl;
            good = subst (λ (word : List ℕ). Good e q s (with_fill q sent) (with_fill q word)) (sym put_sent)
                (subst (λ (f : ℕ). Good e f s (with_fill f sent) (with_fill f (repaired sent errors))) (fill_is e i q s block w F) (O.when_found y).good);
            counted = (O.when_found y).counted ∙ ap (λ (f : ℕ). differing (with_fill f sent) (with_fill f (repaired sent errors))) (fill_is e i q s block w F)
                ∙ ap (λ (word : List ℕ). differing (with_fill q sent) (with_fill q word)) (sym put_sent);
          });
        }

    pub word_kept : found ≡ false → WordPut e i q s block w before 0 0 after
    word_kept n =
        record {
          size = P.size;
          others = P.others;
          here = inr (record {
            unmarked = refl;
            uncounted = refl;
            kept = put_sent ∙ ap (repaired sent) (O.when_not n).empty ∙ repaired-zeros sent 255;
            lost = lost e i q s block w F found count errors O n;
          });
        }

-- ---- the words one after the other

module _ (e i q s : ℕ) (block : List ℕ) where
  pub words_start : (after : List ℕ) → WordsPut e i q s block 0 (replicate 8 0) (replicate 8 0) after
  words_start after = record { each = λ v h. absurd (omega arith); beyond = λ v h. (zero-at 8 v, zero-at 8 v); sizes = (refl, refl) }

  pub words_turn : (w : ℕ) (marks counts before : List ℕ) (mark count : ℕ) (after : List ℕ) → w < i → i ≤ 8 → WordsPut e i q s block w marks counts before
      → WordPut e i q s block w before mark count after → WordsPut e i q s block (w + 1) (set marks w mark) (set counts w count) after
  words_turn w marks counts before mark count after inside deep W P =
      record {
        each = λ v h. elim (ℕ_discrete v w) [
          | yes e' ↦ rw (e', get_or-set_same marks w mark 0 (omega (arith, W.sizes.0)), get_or-set_same counts w count 0 (omega (arith, W.sizes.1))) P.here
          | no d ↦ subst (λ (word : List ℕ). WordSalvaged e q s (sent_from i block v 0 (255 - q)) (get_or (set marks w mark) v 0) (get_or (set counts w count) v 0) word)
              (sym (sent-same i after before v 0 (255 - q) (λ j l. P.others (0 + j) v (omega arith) d)))
              (rw (get_or-set_other marks w v mark 0 d, get_or-set_other counts w v count 0 d) (W.each v (omega arith)))
        ];
        beyond = λ v h. (get_or-set_other marks w v mark 0 (omega arith) ∙ (W.beyond v (omega arith)).0, get_or-set_other counts w v count 0 (omega arith) ∙ (W.beyond v (omega arith)).1);
        sizes = (length-set marks w mark ∙ W.sizes.0, length-set counts w count ∙ W.sizes.1);
      }

-- ---- marks alone

pub marks_start : MarksSet 0 (replicate 8 0)
marks_start = record { marked = λ v h. absurd (omega arith); beyond = λ v h. zero-at 8 v; size = refl }

pub marks_turn : (w : ℕ) (marks : List ℕ) → w < 8 → MarksSet w marks → MarksSet (w + 1) (set marks w 1)
marks_turn w marks inside M =
    record {
      marked = λ v h. elim (ℕ_discrete v w) [
        | yes e ↦ ap (λ (n : ℕ). get_or (set marks w 1) n 0) e ∙ get_or-set_same marks w 1 0 (omega (arith, M.size))
        | no d ↦ get_or-set_other marks w v 1 0 d ∙ M.marked v (omega arith)
      ];
      beyond = λ v h. get_or-set_other marks w v 1 0 (omega arith) ∙ M.beyond v (omega arith);
      size = length-set marks w 1 ∙ M.size;
    }
