-- Numbers put one after the other at the start of an output: those that are found fill it, and the others are left. Assumes nothing.
use Prim.Native.Nat.{ℕ, ◌+◌, ◌<◌, ◌≤◌}
use native.Mathlib.Nat.{zero-add}
use native.Mathlib.Omega.{arith}
use mathlib.Core.Bool.{Bool, true, false, cond}
use mathlib.Core.List.{List, [], ◌∷◌, ◌++◌}
use mathlib.Core.Path.{◌≡◌, refl, sym, ap, ◌∙◌}
use lib.ListN.{length, get_or, drop, set, length-drop}
use lib.Seq.{drop-cons, drop-drop}
use Rattle.word.proofs.Filling.{Fills, fills_none, fills_all, whole_next}
use Rattle.silence.specs.Silence.{Test, picked}
use Rattle.silence.proofs.Picking.{left_at, LeftBy, left_none}

-- the first n numbers of a list stand in the output, whose others are as before; these are left
pub record Put (found before : List ℕ) (n : ℕ) (rest output : List ℕ) : Type 0 where
  pub filled : Fills 0 (length found) found before output n
  pub left : drop n found ≡ rest

module _ {found before : List ℕ} where
  pub put_start : length found ≤ length before → Put found before 0 found before
  put_start room = record { filled = fills_none refl (omega arith); left = refl }

  module _ {n : ℕ} {output : List ℕ} where
    pub put_all : Put found before n [] output → output ≡ found ++ drop (length found) before
    put_all p = fills_all p.filled (omega (arith, ap length p.left, length-drop n found)) ∙ rw (zero-add (length found))

    module _ {x : ℕ} {rest : List ℕ} (p : Put found before n (x ∷ rest) output) where
      pub put_inside : n < length found
      put_inside = omega (arith, ap length p.left, length-drop n found)

      pub put_more : Put found before (n + 1) rest (set output n x)
      put_more =
          record {
            filled = whole_next p.filled put_inside 0 (sym (ap (λ (l : List ℕ). get_or l 0 0) (sym (drop-cons found n 0 put_inside) ∙ p.left)));
            left = sym (drop-drop 1 n found) ∙ ap (drop 1) p.left;
          }

-- the stops that a test picks, before a place
abbrev pub Putting : Test → List ℕ → List ℕ → ℕ → ℕ → List ℕ → Type 0
Putting test stops before i n output = Put (picked test [] stops) before n (left_at test stops i) output

module _ (test : Test) (stops before : List ℕ) where
  module _ (i n : ℕ) (more : i < length stops) {output : List ℕ} (p : Putting test stops before i n output) where
    -- the stop there is left to be put, where it is picked
    abbrev Here : Type 0
    Here = Put (picked test [] stops) before n (get_or stops i 0 ∷ left_at test stops (i + 1)) output

    here : left_at test stops i ≡ get_or stops i 0 ∷ left_at test stops (i + 1) → Here
    here e = record { filled = p.filled; left = p.left ∙ e }

    pub putting_room : (is : Bool) → LeftBy test stops i more is → is ≡ true → n < length output
    putting_room true e so = omega (arith, put_inside (here e), p.filled.room, p.filled.long)
    putting_room false e so = let z : ◌≡◌ {A = ℕ} 0 1 = cc in absurd (omega arith)

    pub putting_next : (is : Bool) → LeftBy test stops i more is
        → Putting test stops before (i + 1) (cond is (n + 1) n) (cond is (set output n (get_or stops i 0)) output)
    putting_next true e = put_more (here e)
    putting_next false e = record { filled = p.filled; left = p.left ∙ e }

  pub putting_done : (i n : ℕ) {output : List ℕ} → length stops ≤ i → Putting test stops before i n output
      → output ≡ picked test [] stops ++ drop (length (picked test [] stops)) before
  putting_done i n h p =
      put_all (record { filled = p.filled; left = p.left ∙ left_none test stops i h })
