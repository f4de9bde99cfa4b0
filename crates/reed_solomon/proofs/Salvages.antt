-- What `salvage` answers: refused for a parameter; or each word salvaged, the frame copied out and the list written.
use mathlib.Core.Path.{◌≡◌, refl, sym, ap, ap₂, ◌∙◌, subst}
use mathlib.Core.Logic.{inl}
use mathlib.Core.List.{List, [], ◌∷◌, ◌++◌}
use Prim.Native.Nat.{ℕ, suc, ◌+◌, ◌-◌, ◌*◌, ◌≤◌, ◌<◌}
use native.Mathlib.Omega.{arith}
use lib.ListN.{length, take, drop, get_or, replicate}
use lib.Seq.{get_or-take, length-take-le, take_all, take-take}
use Rattle.octets.specs.Copies.{copied_over}
use Rattle.octets.proofs.Laws.{copied_length, copied_front}
use Rattle.refusals.specs.Order.{FirstOf}
use Rattle.refusals.specs.Numbers.{parameter_number}
use Rattle.refusals.specs.Calls.{decode_parameters, salvage_order}
use Rattle.refusals.specs.declared.Parameter.{Parameter}
use Rattle.std.specs.Prelude.{Ok, Err}
use Rattle.refusals.proofs.Legal.{accepted_salvage}
use Rattle.refusals.proofs.Verdicts.{parameter_nonzero}
use Rattle.codewords.proofs.LineWords.{differing_self}
use Rattle.words.proofs.Arrays.{zero-at}
use Rattle.encoding.specs.Blocks.{sent_from, word_of}
use Rattle.encoding.specs.Rows.{no_rows}
use Rattle.encoding.specs.Rows.{RowsOn}
use Rattle.reed_solomon.specs.DecoderWorking.{Standing}
use Rattle.reed_solomon.specs.Changes.{changes_from}
use Rattle.reed_solomon.specs.Salvaging.{WordSalvaged, SalvageOutcome}
use Rattle.reed_solomon.specs.SalvageWorking.{WordsPut, MarksSet, Listed}
use Rattle.encoding.proofs.Interleaving.{place-below, sent-same}
use Rattle.reed_solomon.proofs.Deliveries.{LegalBlock, legal_block, coded_room, standing_good}
use Rattle.reed_solomon.proofs.ChangeLists.{change_none}

-- ---- what passed parameters say

module _ (e i q s block frame list : ℕ) (f : FirstOf (salvage_order e i q s block frame list) 0) where
  -- decode accepts them too
  pub salvage_decodes : FirstOf (decode_parameters e i q s block frame) 0
  salvage_decodes = (accepted_salvage e i q s block frame list f).0

  pub salvage_legal : LegalBlock e i q s block frame
  salvage_legal = legal_block e i q s block frame salvage_decodes

  pub list_room : list ≡ 4 * block
  list_room = (accepted_salvage e i q s block frame list f).1 ∙ ap (λ (n : ℕ). 4 * n) (sym salvage_legal.received)

-- ---- the answers

module _ (e i q s : ℕ) (block before listed : List ℕ) where
  pub salvage_refuses : (p : Parameter) → FirstOf (salvage_order e i q s (length block) (length before) (length listed)) (parameter_number p)
      → SalvageOutcome e i q s block before listed (Err p) (replicate 8 0) (replicate 8 0) 0 before listed
  salvage_refuses p f =
      record {
        number = f;
        size = (refl, refl, refl, refl);
        refused = λ n. (refl, refl, refl, refl, refl);
        salvaged = λ z. absurd (parameter_nonzero p z);
      }

  module _ (f : FirstOf (salvage_order e i q s (length block) (length before) (length listed)) 0) where
    room : (0 < i) × (i ≤ 8) × (length before ≤ length block) × (length block ≤ length before + 32 * i) × (length block ≤ 2040)
    room = coded_room e i q s (length block) (length before) (salvage_decodes e i q s (length block) (length before) (length listed) f)

    -- the frame that is copied out of a list is its front
    front_copied : (repaired frame : List ℕ) → length before ≤ length repaired → frame ≡ copied_over (take (length before) repaired) before
        → (length frame ≡ length before) × (frame ≡ take (length frame) repaired)
    front_copied repaired frame fits copied = (long, front ∙ ap (λ (n : ℕ). take n repaired) (sym long))
      where
        first : List ℕ
        first = take (length before) repaired

        first_size : length first ≡ length before
        first_size = length-take-le (length before) repaired fits

        long : length frame ≡ length before
        long = ap length copied ∙ copied_length first before

        front : frame ≡ take (length before) repaired
        front = sym (take_all (length first) frame (omega (arith, long, first_size))) ∙ ap (take (length first)) copied ∙ copied_front first before (omega (arith, first_size))

    module _ (marks counts mended : List ℕ) (W : WordsPut e i q s block i marks counts mended) (size : length mended ≡ 2040) where
      abbrev part : List ℕ
      part = take (length block) mended

      pub block_fits : length block ≤ length mended
      block_fits = omega (arith, size, room.4)

      pub frame_fits : length before ≤ length mended
      frame_fits = omega (arith, block_fits, room.2)

      part_size : length part ≡ length block
      part_size = length-take-le (length block) mended block_fits

      pub changes_room : (length block ≤ 2040) × (length (take (length block) mended) ≡ length block) × (length listed ≡ 4 * length block)
      changes_room = (room.4, part_size, list_room e i q s (length block) (length before) (length listed) f)

      -- the words of the front are those of the whole
      same_sent : (w : ℕ) → w < i → sent_from i mended w 0 (255 - q) ≡ sent_from i part w 0 (255 - q)
      same_sent w h =
          sent-same i mended part w 0 (255 - q)
          (λ j l. sym (get_or-take (length block) mended ((0 + j) * i + w) 0
          (omega (arith, (salvage_legal e i q s (length block) (length before) (length listed) f).received, place-below i (0 + j) (255 - q) w (omega arith) h))))

      pub salvages : (frame list : List ℕ) (entries : ℕ) → frame ≡ copied_over (take (length before) mended) before → Listed block part listed (length block) entries list
          → SalvageOutcome e i q s block before listed (Ok tt) marks counts entries frame list
      salvages frame list entries copied C =
          record {
            number = f;
            size = (front.0, C.size, W.sizes.0, W.sizes.1);
            refused = λ n. absurd (n refl);
            salvaged = λ z. record {
              repaired = part;
              size = part_size;
              words = λ w h. subst (WordSalvaged e q s (sent_from i block w 0 (255 - q)) (get_or marks w 0) (get_or counts w 0)) (same_sent w h) (W.each w h);
              beyond = W.beyond;
              front = front.1 ∙ sym (take-take (length frame) (length block) mended (omega (arith, front.0, room.2)));
              entered = C.entered ∙ ap length all;
              told = C.list ∙ ap {B = List ℕ} (λ (entries' : List ℕ). entries' ++ drop (4 * entries) listed) all;
            };
          }
        where
          front : (length frame ≡ length before) × (frame ≡ take (length frame) mended)
          front = front_copied mended frame frame_fits copied

          all : changes_from 0 (take (length block) block) (take (length block) part) ≡ changes_from 0 block part
          all = ap₂ (changes_from 0) (take_all (length block) block (omega arith)) (take_all (length block) part (omega (arith, part_size)))

    -- ---- a block that is coded as it stands: every word is repaired as it is

    no_changes : (at : ℕ) (octets : List ℕ) → changes_from at octets octets ≡ []
    unfolding changes_from
    no_changes at [] = refl
    no_changes at (x ∷ octets) = ap {B = List ℕ} (λ (l : List ℕ). l ++ changes_from (suc at) octets octets) (change_none at x x refl) ∙ no_changes (suc at) octets

    module _ (octets : (m : ℕ) → get_or block m 0 < 256) (rows : List (List ℕ)) (R : RowsOn e i 0 no_rows (take (length before) block) rows) (S : Standing rows i (length before) block) where
      pub salvages_coded : (marks frame : List ℕ) → MarksSet i marks → frame ≡ copied_over (take (length before) block) before
          → SalvageOutcome e i q s block before listed (Ok tt) marks (replicate 8 0) 0 frame listed
      salvages_coded marks frame told copied =
          record {
            number = f;
            size = (front.0, refl, told.size, refl);
            refused = λ n. absurd (n refl);
            salvaged = λ z. record {
              repaired = block;
              size = refl;
              words = λ w h. inl (record {
                marked = told.marked w h;
                good = standing_good e i q s block before (salvage_decodes e i q s (length block) (length before) (length listed) f) octets rows R S w h;
                counted = zero-at 8 w ∙ sym (differing_self (word_of i q block w));
              });
              beyond = λ w h. (told.beyond w h, zero-at 8 w);
              front = front.1;
              entered = ap length (sym (no_changes 0 block));
              told = ap {B = List ℕ} (λ (l : List ℕ). l ++ drop 0 listed) (sym (no_changes 0 block));
            };
          }
        where
          front : (length frame ≡ length before) × (frame ≡ take (length frame) block)
          front = front_copied block frame room.2 copied
