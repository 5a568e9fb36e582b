-- A map keeps the section "Blocks" if its trees, none of which is broken, have as many blocks as bytes that are not zero, and the rest is
-- zero; and the trees one by one, as a loop meets them. Assumes nothing.
use Rattle.std.proofs.Common.{◌≡◌, ℕ, zero, suc, ◌+◌, ◌-◌, ◌*◌, ◌/◌, ◌<◌, ◌≤◌, Bool, true, false, cond, ◌&&◌, eqb, List, ◌++◌, length, take, drop, replicate, sym, refl, ap, ◌∙◌, ap₂, arith, length-drop, length-take-le, drop-drop, take-add, eq-eqb, ne_eqb}
use Rattle.word.proofs.Pred.{one_less}
use Rattle.word.proofs.Tests.{by_test, by_eqb}
use Rattle.block.specs.declared.SetUp.{SetUp}
use Rattle.block.specs.Blocks.{size}
use Rattle.block.specs.SetUp.{top, words}
use Rattle.block.specs.Map.{written, told, canonical, same, all_written, all_told, all_canonical, trees, map_of, keeps}
use Rattle.buddy.specs.Marks.{marks, counted, all_counted}
use Rattle.block.proofs.Map.{length_all_written, length_trees}
use Rattle.buddy.proofs.Marks.{marks_append, Thinned, none, thinned_append, thinned_same}
use Rattle.buddy.proofs.Parts.{same_append, and_assoc, count_pos, told_thinned}

-- the counted of the trees that the bytes tell
all_counted_lem : (k c sum : ℕ) (m : List ℕ)
    → all_counted k c sum m ≡ cond (all_canonical k (all_told k c m)) (sum + marks (all_written k (all_told k c m))) 0
unfolding all_counted all_canonical all_told all_written marks
all_counted_lem k zero sum m = omega arith
all_counted_lem k (suc c) sum m =
    let t = told k (take (size k) m) in
    let ts = all_told k c (drop (size k) m) in
    by_test (λ b. canonical k t ≡ b → cond (eqb (counted k (take (size k) m)) 0) 0 (all_counted k c (sum + counted k (take (size k) m)) (drop (size k) m))
    ≡ cond (b && all_canonical k ts) (sum + marks (written k t ++ all_written k ts)) 0) (canonical k t)
    (λ e h.
    let some : counted k (take (size k) m) ≡ marks (written k t) = unfold counted in rw h in
    let more : sum + marks (written k t) + marks (all_written k ts) ≡ sum + marks (written k t ++ all_written k ts) = rw marks_append (omega arith) in
    rw (some, ne_eqb (marks (written k t)) 0 (λ z. omega (arith, count_pos k t h)))
    (all_counted_lem k c (sum + marks (written k t)) (drop (size k) m) ∙ ap (λ (n : ℕ). cond (all_canonical k ts) n 0) more))
    (λ e h.
    let broken : counted k (take (size k) m) ≡ 0 = unfold counted in rw h in
    rw (broken))
    refl

-- what is written of them is their bytes, or zero
all_thinned : (k c : ℕ) (m : List ℕ) → c * size k ≤ length m → Thinned (all_written k (all_told k c m)) (take (c * size k) m)
unfolding all_told all_written
all_thinned k zero m h = let z : 0 * size k ≡ 0 = omega arith in rw z none
all_thinned k (suc c) m h =
    let more : suc c * size k ≡ size k + c * size k = omega arith in
    rw (more, take-add)
    (thinned_append (told_thinned k (take (size k) m) (length-take-le (size k) m (omega arith)))
    (all_thinned k c (drop (size k) m) (rw length-drop (omega arith))))

-- numbers that are compared after a test
tested : (b : Bool) (x y : ℕ) → (b && eqb x y) ≡ eqb (cond b (1 + x) 0) (1 + y)
tested true x y = by_eqb (λ t. t ≡ eqb (1 + x) (1 + y)) x y (λ e. sym (eq-eqb (1 + x) (1 + y) (omega arith)))
    (λ f. sym (ne_eqb (1 + x) (1 + y) (λ e. f (omega arith))))
tested false x y = sym (ne_eqb 0 (1 + y) (λ e. omega arith))

-- a map keeps the section if its trees' tags are all that is not zero
pub keeps_counted : (u : SetUp) (m : List ℕ) → let k = top u.d in let end = words u / size k * size k in end ≤ length m
    → keeps u m ≡ (eqb (all_counted k (words u / size k) 1 m) (1 + marks (take end m)) && same (replicate (length m - words u) 0) (drop end m))
unfolding keeps trees map_of
keeps_counted u m h =
    let k = top u.d in
    let c = words u / size k in
    let zeros = replicate {A = ℕ} (length m - words u) 0 in
    let ts = all_told k c m in
    let long : length (all_written k ts) ≡ c * size k = length_all_written k ts ∙ ap (λ (n : ℕ). n * size k) (length_trees u m) in
    let bytes : same (all_written k ts ++ zeros) m ≡ (eqb (marks (all_written k ts)) (marks (take (c * size k) m)) && same zeros (drop (c * size k) m))
    = same_append (all_written k ts) zeros m
    ∙ ap (λ (n : ℕ). same (all_written k ts) (take n m) && same zeros (drop n m)) long
    ∙ ap (λ (b : Bool). b && same zeros (drop (c * size k) m)) (thinned_same (all_thinned k c m h)) in
    ap (λ (b : Bool). all_canonical k ts && b) bytes
    ∙ and_assoc (all_canonical k ts) _ _
    ∙ ap (λ (b : Bool). b && same zeros (drop (c * size k) m))
    (tested (all_canonical k ts) (marks (all_written k ts)) (marks (take (c * size k) m))
    ∙ ap (λ (n : ℕ). eqb n (1 + marks (take (c * size k) m))) (sym (all_counted_lem k c 1 m)))

-- no tree is left
pub count_end : (k left sum : ℕ) (m : List ℕ) → left ≡ 0 → all_counted k left sum m ≡ sum
unfolding all_counted
count_end k zero sum m e = refl
count_end k (suc left) sum m e = absurd (omega arith)

module _ (k n i sum : ℕ) (m : List ℕ) (e : n ≡ size k) where
  -- the bytes of the next tree as a part of the slice
  next_tree : take (i + n - i) (drop i m) ≡ take (size k) (drop i m)
  next_tree = ap (λ (c : ℕ). take c (drop i m)) (let same : i + n - i ≡ n = omega arith in same ∙ e)

  next_rest : drop (size k) (drop i m) ≡ drop (i + n) m
  next_rest = drop-drop (size k) i m ∙ ap (λ (c : ℕ). drop (i + c) m) (sym e)

  -- one tree more
  count_next : (left : ℕ) → 0 < left → let next = counted k (take (i + n - i) (drop i m)) in
      all_counted k left sum (drop i m) ≡ cond (eqb next 0) 0 (all_counted k (left - 1) (sum + next) (drop (i + n) m))
  count_next =
      one_less (λ left rest. let next = counted k (take (i + n - i) (drop i m)) in
      all_counted k left sum (drop i m) ≡ cond (eqb next 0) 0 (all_counted k rest (sum + next) (drop (i + n) m)))
      (λ rest. unfold all_counted in
      ap₂ (λ (xs ys : List ℕ). cond (eqb (counted k xs) 0) 0 (all_counted k rest (sum + counted k xs) ys)) (sym next_tree) next_rest)

  module _ (left next : ℕ) (some : 0 < left) (is : next ≡ counted k (take (i + n - i) (drop i m))) where
    pub count_on : (next ≡ 0 → ⊥) → all_counted k left sum (drop i m) ≡ all_counted k (left - 1) (sum + next) (drop (i + n) m)
    count_on f = count_next left some ∙ rw (← is, ne_eqb next 0 f)

    pub count_off : next ≡ 0 → all_counted k left sum (drop i m) ≡ 0
    count_off z = count_next left some ∙ rw (← is, eq-eqb next 0 z)
