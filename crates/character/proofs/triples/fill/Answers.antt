-- `character::triples::fill` meets its contract. The loop's invariant: the buffer's first entries are the list's. Assumes nothing.
use mathlib.Core.Path.{◌≡◌, sym, ◌∙◌}
use native.Mathlib.Omega.{arith}
use lib.ListN.{length}
use borrow.Author.Tests.{eq-eqb, ne_eqb}
use Rattle.character.specs.Triples.{filled, answered}
use Rattle.character.proofs.Entries.{length_triples, triples_at, thousand_made}
use Rattle.word.proofs.Filling.{fills_none, whole_next, whole_all}
use Rattle.character.proofs.triples.fill.Goals as goal

pub returns-then-buffer-ne-COUNT : goal.returns-then-buffer-ne-COUNT
unfolding filled answered
returns-then-buffer-ne-COUNT c =
    let other = ne_eqb (length c.args.buffer.now) 1000 (λ e. omega arith) in
    (rw other, rw other)

pub loop-k-init : goal.loop-k-init
loop-k-init c = fills_none (length_triples 1000) (omega arith)

pub loop-k-preserved : goal.loop-k-preserved
loop-k-preserved c =
    let l = c.loop-k in
    whole_next l.invariant (omega arith) 0 (c.entry.ensures ∙ sym (triples_at 1000 l.k (omega arith)))

pub returns : goal.returns
unfolding filled answered
returns c =
    let l = c.loop-k in
    let before = c.args.buffer.now in
    let long : length before ≡ 1000 = omega arith in
    let test = eq-eqb (length before) 1000 long in
    (rw test (omega arith), rw test (whole_all l.invariant (omega arith) long ∙ sym thousand_made))
