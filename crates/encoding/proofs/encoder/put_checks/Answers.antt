-- `put_checks` writes the rows interleaved: the next octet is that of the row whose turn it is, at `check`.
use mathlib.Core.Path.{◌≡◌, ap, ◌∙◌, subst}
use mathlib.Core.List.{List, []}
use Prim.Native.Nat.{ℕ, ◌+◌, ◌<◌}
use native.Mathlib.Omega.{arith}
use lib.ListN.{get_or, set}
use borrow.Author.Rules.{rules}
use Rattle.std.proofs.lemmas.List.Edits.{fill_by_more}
use Rattle.std.proofs.lemmas.Slice.{overwrites}
use Rattle.encoding.specs.Turns.{NextWord}
use Rattle.encoding.proofs.Interleaving.{interleaved, interleaved-at, next_place, checks_put}
use Rattle.encoding.proofs.encoder.put_checks.Goals as goal
use Rattle.encoding.proofs.encoder.put_checks.Goals.{then-turn-eq0, else-turn-eq0}

pub loop-octet-preserved : goal.loop-octet-preserved
loop-octet-preserved c =
    let loop = c.loop-octet in
    let rows : List (List ℕ) = c.args.rows in
    let written : (n : ℕ) → n < loop.octet-index + 1 → get_or (set loop.octet-items loop.octet-index (get_or (get_or rows loop.turn.word []) loop.check 0)) n 0 ≡ interleaved rows c.args.depth n =
    λ n h. ap (λ (x : ℕ). get_or (set loop.octet-items loop.octet-index x) n 0) (interleaved-at rows c.args.depth loop.octet-index loop.check loop.turn.word loop.invariant.1 (omega (arith, loop.turn.within, loop.invariant.0)))
    ∙ fill_by_more (interleaved rows c.args.depth) loop.octet-items loop.octet-index 0 (omega arith) loop.invariant.2 n h in
    let step : NextWord c.args.depth loop.turn.word c.next-turn.result.word = subst (λ (i : ℕ). NextWord i loop.turn.word c.next-turn.result.word) loop.invariant.0 c.next-turn.ensures.word in (
      c.next-turn.ensures.depth ∙ loop.invariant.0,
      elim c.if-turn-eq0.branch [
        | then-turn-eq0 w ↦ next_place _ _ _ _ _ _ loop.invariant.1 step (λ z. w.check-is) (λ n. absurd (n w.if-turn-eq0.true))
        | else-turn-eq0 w ↦ next_place _ _ _ _ _ _ loop.invariant.1 step (λ z. absurd (w.if-turn-eq0.false z)) (λ n. w.check-is)
      ],
      written,
    )

pub returns : goal.returns
returns c = checks_put _ _ _ _ _ (omega arith) (search (rules, overwrites)) (λ n h. c.loop-octet.invariant.2 n (omega arith)) (search (rules, overwrites))
