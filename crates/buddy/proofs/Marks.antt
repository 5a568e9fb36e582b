-- Bytes that are not zero, counted: of lists put together, and of a list that is another with bytes made zero, which are the same exactly if
-- they have as many. Assumes nothing.
use Rattle.std.proofs.Common.{◌≡◌, ℕ, zero, suc, ◌+◌, ◌-◌, ◌*◌, ◌/◌, ◌<◌, ◌≤◌, ◌&&◌, eqb, List, [], ◌∷◌, ◌++◌, length, get_or, take, drop, replicate, sym, refl, ap, ◌∙◌, add-one, arith, take-suc, take-add, length-drop, length-take-le, eq-eqb, ne_eqb}
use Rattle.std.specs.Simd.{first_chunks}
use Rattle.std.proofs.lemmas.List.{drop-drop}
use lib.Seq.{take-length}
use Rattle.buddy.proofs.Halves.{upper}
use Rattle.word.proofs.Tests.{by_eqb}
use Rattle.block.specs.Map.{same}
use Rattle.buddy.specs.Marks.{mark, marks}

pub marks_append : (xs ys : List ℕ) → marks (xs ++ ys) ≡ marks xs + marks ys
unfolding marks
marks_append [] ys = omega arith
marks_append (x ∷ xs) ys = rw (marks_append xs ys) (omega arith)

pub marks_zeros : (n : ℕ) → marks (replicate n 0) ≡ 0
unfolding marks mark
marks_zeros zero = refl
marks_zeros (suc n) = rw (marks_zeros n) (omega arith)

-- one byte more, and a part more
pub marks_next : (l : List ℕ) (i : ℕ) → i < length l → marks (take (i + 1) l) ≡ marks (take i l) + mark (get_or l i 0)
unfolding marks
marks_next l i h = rw (add-one, take-suc l i 0, marks_append) (omega arith)

pub marks_part : (l : List ℕ) (i e : ℕ) → i ≤ e → marks (take e l) ≡ marks (take i l) + marks (take (e - i) (drop i l))
marks_part l i e h =
    let whole : e ≡ i + (e - i) = omega arith in
    ap (λ (n : ℕ). marks (take n l)) whole ∙ ap marks (take-add i (e - i) l) ∙ marks_append (take i l) (take (e - i) (drop i l))

-- a mark is one at most, and none is
pub mark_most : (x : ℕ) → mark x ≤ 1
unfolding mark
mark_most zero = omega arith
mark_most (suc x) = omega arith

pub mark_some : (x : ℕ) → (x ≡ 0 → ⊥) → mark x ≡ 1
unfolding mark
mark_some zero f = absurd (f refl)
mark_some (suc x) f = refl

-- a list has at most as many as bytes
pub marks_most : (l : List ℕ) → marks l ≤ length l
unfolding marks
marks_most [] = omega arith
marks_most (x ∷ xs) = omega (arith, mark_most x, marks_most xs)

-- the parts of 128 bytes of a list, in order
pub chunk_at : (k i : ℕ) (xs : List ℕ) → i < k → get_or (first_chunks 128 k xs) i [] ≡ take 128 (drop (i * 128) xs)
chunk_at zero i xs h = absurd (omega arith)
chunk_at (suc k) zero xs h = refl
chunk_at (suc k) (suc i) xs h =
    let e : 128 + i * 128 ≡ suc i * 128 = omega arith in
    chunk_at k i (drop 128 xs) (omega arith) ∙ rw (drop-drop, e) refl

module _ (xs : List ℕ) where
  abbrev rest : ℕ
  rest = marks (drop (length xs / 128 * 128) xs)

  -- those past all parts, those of the first parts, one part more, and all
  pub chunks_none : rest ≡ rest + marks (take (0 * 128) xs)
  unfolding marks
  chunks_none = omega arith

  pub chunks_next : {parts : List (List ℕ)} → parts ≡ first_chunks 128 (length xs / 128) xs → (i : ℕ) → i < length xs / 128
      → marks (take ((i + 1) * 128) xs) ≡ marks (take (i * 128) xs) + marks (get_or parts i [])
  chunks_next e i h =
      let few : (i + 1) * 128 - i * 128 ≡ 128 = omega arith in
      marks_part xs (i * 128) ((i + 1) * 128) (omega arith) ∙ rw (few, e, chunk_at (length xs / 128) i xs h) refl

  pub chunks_few : (i : ℕ) → i ≤ length xs / 128 → rest + marks (take (i * 128) xs) ≤ length xs
  chunks_few i h =
      omega (
        arith,
        marks_most (drop (length xs / 128 * 128) xs),
        length-drop (length xs / 128 * 128) xs,
        marks_most (take (i * 128) xs),
        length-take-le (i * 128) xs (omega arith),
      )

  pub chunks_all : rest + marks (take (length xs / 128 * 128) xs) ≡ marks xs
  chunks_all =
      omega (arith, marks_part xs (length xs / 128 * 128) (length xs) (omega arith), ap marks (upper (length xs / 128 * 128) xs), ap marks (take-length xs))

-- each byte of a list is the other's, or zero
pub data Thinned : List ℕ → List ℕ → Type 0 where
  none : Thinned [] []
  gap : {y : ℕ} {xs ys : List ℕ} → Thinned xs ys → Thinned (0 ∷ xs) (y ∷ ys)
  kept : {x : ℕ} {xs ys : List ℕ} → Thinned xs ys → Thinned (x ∷ xs) (x ∷ ys)

pub thinned_append : {xs ys us vs : List ℕ} → Thinned xs us → Thinned ys vs → Thinned (xs ++ ys) (us ++ vs)
thinned_append none h = h
thinned_append (gap b) h = gap (thinned_append b h)
thinned_append (kept b) h = kept (thinned_append b h)

pub thinned_zeros : (m : List ℕ) → Thinned (replicate (length m) 0) m
thinned_zeros [] = none
thinned_zeros (x ∷ xs) = gap (thinned_zeros xs)

thinned_marks : {xs ys : List ℕ} → Thinned xs ys → marks xs ≤ marks ys
unfolding marks mark
thinned_marks none = omega arith
thinned_marks (gap b) = let h = thinned_marks b in omega arith
thinned_marks (kept b) = let h = thinned_marks b in omega arith

-- equal first bytes leave the others to compare
eqb_add : (x a b : ℕ) → eqb (x + a) (x + b) ≡ eqb a b
eqb_add x a b = by_eqb (λ t. eqb (x + a) (x + b) ≡ t) a b (λ e. eq-eqb (x + a) (x + b) (omega arith)) (λ f. ne_eqb (x + a) (x + b) (λ e. f (omega arith)))

-- so they are the same if they have as many
pub thinned_same : {xs ys : List ℕ} → Thinned xs ys → same xs ys ≡ eqb (marks xs) (marks ys)
unfolding same marks
thinned_same none = refl
thinned_same (gap {y} {xs} {ys} b) =
    let h = thinned_marks b in
    by_eqb (λ t. (t && same xs ys) ≡ eqb (mark 0 + marks xs) (mark y + marks ys)) 0 y
    (λ e. thinned_same b ∙ sym (eqb_add (mark 0) (marks xs) (marks ys)) ∙ ap (λ (n : ℕ). eqb (mark 0 + marks xs) (mark n + marks ys)) e)
    (λ f.
    let one = mark_some y (λ e. f (sym e)) in
    let no : mark 0 ≡ 0 = unfold mark in refl in
    sym (ne_eqb (mark 0 + marks xs) (mark y + marks ys) (λ e. omega arith)))
thinned_same (kept {x} {xs} {ys} b) = rw (eq-eqb x x refl) (thinned_same b ∙ sym (eqb_add (mark x) (marks xs) (marks ys)))
