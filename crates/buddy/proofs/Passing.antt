-- Trees passed one after the other, up to an end: those left, and the number with the blocks of those passed, give what all of them gave.
-- Assumes nothing.
use Rattle.std.proofs.Common.{◌≡◌, ℕ, zero, suc, ◌+◌, ◌-◌, ◌*◌, ◌<◌, ◌≤◌, true, List, get_or, take, drop, sym, refl, ap, ◌∙◌, arith, get_or-drop, get_or-take}
use Rattle.word.proofs.Pred.{times_pred}
use Rattle.word.proofs.Tests.{by_leb}
use Rattle.block.specs.Blocks.{size}
use Rattle.block.proofs.Size.{size_pos}
use Rattle.buddy.specs.Marks.{is_tag, counted, all_counted, Passing, WholeTrees}
use Rattle.buddy.proofs.Parts.{count_block}
use Rattle.buddy.proofs.Keeping.{count_on, count_off, count_end}

-- none is passed yet
pub pass_none : {k : ℕ} {m : List ℕ} {end from before left : ℕ} → from + left * size k ≡ end → Passing k m end from before from before left
pass_none {left = left} fills = record { rest = left; fills = fills; onward = omega arith; same = refl; few = omega arith }

none_left : (n k : ℕ) → n ≡ 0 → n * size k ≡ 0
none_left n k e = rw e (omega arith)

module _ {k : ℕ} {m : List ℕ} {end from before left at sum : ℕ} (p : Passing k m end from before at sum left) where
  -- a tree is left before the end
  some_left : at < end → 0 < p.rest
  some_left h = by_leb (λ _. 0 < p.rest) 1 p.rest (λ l. l) (λ l. absurd (omega (arith, p.fills, none_left p.rest k (omega arith))))

  -- it lies before the end
  pub room_left : at < end → at + size k ≤ end
  room_left h = omega (arith, p.fills, times_pred (size k) p.rest (some_left h))

  -- it is passed, with its blocks
  pub pass_on : (n next : ℕ) → n ≡ size k → at < end → next ≡ counted k (take (at + n - at) (drop at m)) → (next ≡ 0 → ⊥) → next ≤ 256
      → Passing k m end from before (at + n) (sum + next) left
  pass_on n next e h is some most =
      let more = some_left h in
      let less = times_pred (size k) p.rest more in
      record {
        rest = p.rest - 1;
        fills = omega (arith, p.fills);
        onward = omega (arith, p.onward);
        same = p.same ∙ count_on k n at sum m e p.rest next more is some;
        few = omega (arith, p.few);
      }

  -- one that is a block alone
  pub pass_block : (n : ℕ) → n ≡ size k → at < end → is_tag k (get_or m at 0) ≡ true → Passing k m end from before (at + n) (sum + 1) left
  pass_block n e h tag =
      let part = take (at + n - at) (drop at m) in
      let first : get_or part 0 0 ≡ get_or m at 0
      = get_or-take (at + n - at) (drop at m) 0 0 (omega (arith, size_pos k))
      ∙ get_or-drop at m 0 0
      ∙ (let same : at + 0 ≡ at = omega arith in rw same) in
      pass_on n 1 e h (sym (count_block k part (ap (is_tag k) first ∙ tag))) (λ z. omega arith) (omega arith)

  -- a broken one makes the answer 0
  pub pass_broken : (n next : ℕ) → n ≡ size k → at < end → next ≡ counted k (take (at + n - at) (drop at m)) → next ≡ 0
      → all_counted k left before (drop from m) ≡ 0
  pass_broken n next e h is none = p.same ∙ count_off k n at sum m e p.rest next (some_left h) is none

  -- more trees passed from there on
  pub pass_more : {to count : ℕ} → Passing k m end at sum to count p.rest → Passing k m end from before to count left
  pass_more q = record {
    rest = q.rest;
    fills = q.fills;
    onward = omega (arith, p.onward, q.onward);
    same = p.same ∙ q.same;
    few = omega (arith, p.few, q.few);
  }

  -- at the end the number is the answer
  pub pass_end : end ≤ at → all_counted k left before (drop from m) ≡ sum
  pass_end h = p.same ∙ count_end k p.rest sum (drop at m) none
    where
      none : p.rest ≡ 0
      none =
          by_leb (λ _. p.rest ≡ 0) 1 p.rest
          (λ l. absurd (omega (arith, p.fills, size_pos k, times_pred (size k) p.rest l))) (λ l. omega arith)

-- the same by other names
pass_same : {k : ℕ} {m : List ℕ} {end from before left at sum at' sum' : ℕ} → at ≡ at' → sum ≡ sum' → Passing k m end from before at sum left
    → Passing k m end from before at' sum' left
pass_same e f p = rw (← e, ← f) p

-- so many that are a block each
every_block : (k : ℕ) {m : List ℕ} {end from before left at sum : ℕ} → Passing k m end from before at sum left → (many : ℕ) → WholeTrees k m end at many
    → Passing k m end from before (at + many * size k) (sum + many) left
every_block k {at = at} {sum = sum} p zero w =
    let same : at ≡ at + 0 * size k = omega arith in
    let none : sum ≡ sum + 0 = omega arith in
    pass_same same none p
every_block k {at = at} {sum = sum} p (suc many) w =
    let so_far = every_block k p many (record { within = λ t h. w.within t (omega arith); whole = λ t h. w.whole t (omega arith) }) in
    let there : at + many * size k + size k ≡ at + suc many * size k = omega arith in
    let more : sum + many + 1 ≡ sum + suc many = omega arith in
    pass_same there more (pass_block so_far (size k) refl (w.within many (omega arith)) (w.whole many (omega arith)))

pub pass_blocks : (k : ℕ) {m : List ℕ} {end from before left at sum : ℕ} → Passing k m end from before at sum left → (many n : ℕ) → n ≡ size k
    → WholeTrees k m end at many → Passing k m end from before (at + many * n) (sum + many) left
pass_blocks k {at = at} {sum = sum} p many n e w = pass_same (ap (λ (x : ℕ). at + many * x) (sym e)) refl (every_block k p many w)
