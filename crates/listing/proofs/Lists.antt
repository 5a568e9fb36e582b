-- Blocks counted, and their numbers put, as a map is passed. Assumes nothing.
use mathlib.Core.Path.{◌≡◌, refl, sym, ap, ◌∙◌}
use mathlib.Core.Bool.{Bool, true, false}
use mathlib.Core.List.{List, [], ◌∷◌, ◌++◌, append_assoc, append-nil}
use mir.Val.{bool_byte}
use Prim.Native.Nat.{ℕ, ◌+◌, ◌-◌, ◌*◌, ◌/◌, ◌≤◌, ◌<◌}
use native.Mathlib.Omega.{arith}
use lib.ListN.{length, get_or, length-append}
use Rattle.block.specs.Blocks.{size, Block}
use Rattle.block.proofs.Size.{size_pos}
use Rattle.machine.specs.Storage.{placed}
use Rattle.layout.proofs.Placing.{Put, start, more, same_length, whole}
use Rattle.listing.specs.Listing.{numbers_of, wanted, pair_if}
use Rattle.listing.proofs.Passing.{listed, Passed, Meets, meets, passed_all}

length_listed : (t : Bool) (at n : ℕ) (others : List Block) → length (listed t at n others) ≡ bool_byte t + length others
unfolding listed
length_listed true at n others = omega arith
length_listed false at n others = omega arith

pub byte_most : (t : Bool) → bool_byte t ≤ 1
byte_most true = omega arith
byte_most false = omega arith

listed_first : (t : Bool) (at n : ℕ) (others : List Block) → listed t at n others ≡ listed t at n [] ++ others
unfolding listed
listed_first true at n others = refl
listed_first false at n others = refl

numbers_listed : (t : Bool) (at n : ℕ) → numbers_of (listed t at n []) ≡ pair_if t at n
unfolding listed numbers_of pair_if
numbers_listed true at n = refl
numbers_listed false at n = refl

numbers_append : (xs ys : List Block) → numbers_of (xs ++ ys) ≡ numbers_of xs ++ numbers_of ys
unfolding numbers_of
numbers_append [] ys = refl
numbers_append (x ∷ xs) ys = ap (λ (ns : List ℕ). x.address ∷ x.size ∷ ns) (numbers_append xs ys)

pub length_numbers : (xs : List Block) → length (numbers_of xs) ≡ 2 * length xs
unfolding numbers_of
length_numbers [] = refl
length_numbers (x ∷ xs) = omega (arith, length_numbers xs)

module _ (w : Bool) (s n : ℕ) (m : List ℕ) (all : List Block) where
  -- c blocks are counted up to word i
  pub record Counting (i c : ℕ) : Type 0 where
    pub rest : List Block
    pub passed : Passed w s n m rest i
    pub counts : c + length rest ≡ length all
    pub few : c ≤ i

  pub counting_none : Passed w s n m all 0 → Counting 0 0
  counting_none p = record { rest = all; passed = p; counts = omega arith; few = omega arith }

  module _ {i c : ℕ} (so_far : Counting i c) (some : i < n) where
    pub met : Meets w s n m so_far.rest i
    met = meets w s n m i so_far.passed some

    pub counting_next : {t : Bool} {z : ℕ} → t ≡ wanted w (get_or m i 0) → z ≡ size ((get_or m i 0 - 1) / 2) → Counting (i + z) (c + bool_byte t)
    counting_next e f =
        let is = ap length met.is ∙ length_listed _ (s + i) (size ((get_or m i 0 - 1) / 2)) met.others in
        rw (e, f)
        (record {
          rest = met.others;
          passed = met.passed;
          counts = omega (arith, so_far.counts, is);
          few = omega (
            arith,
            so_far.few,
            byte_most (wanted w (get_or m i 0)),
            size_pos ((get_or m i 0 - 1) / 2),
          );
        })

  pub counting_all : {i c : ℕ} → Counting i c → n ≤ i → c ≡ length all
  counting_all {i} so_far h = omega (arith, so_far.counts, ap length (passed_all w s n m i so_far.passed h))

  -- the numbers of those up to word i are put
  module _ (list₀ : List ℕ) (long : length list₀ ≡ length (numbers_of all)) where
    pub record Listing (list : List ℕ) (i c : ℕ) : Type 0 where
      pub done : List Block
      pub rest : List Block
      pub passed : Passed w s n m rest i
      pub is : done ++ rest ≡ all
      pub put : Put 0 (numbers_of done) list₀ list
      pub far : c ≡ length (numbers_of done)

    pub listing_none : Passed w s n m all 0 → Listing list₀ 0 0
    unfolding numbers_of
    listing_none p = record { done = []; rest = all; passed = p; is = refl; put = start 0 list₀ (omega arith); far = refl }

    module _ {list : List ℕ} {i c : ℕ} (so_far : Listing list i c) (some : i < n) where
      pub found : Meets w s n m so_far.rest i
      found = meets w s n m i so_far.passed some

      abbrev z : ℕ
      z = size ((get_or m i 0 - 1) / 2)

      abbrev t : Bool
      t = wanted w (get_or m i 0)

      whole_list : (so_far.done ++ listed t (s + i) z []) ++ found.others ≡ all
      whole_list =
          append_assoc so_far.done (listed t (s + i) z []) found.others
          ∙ ap (λ (xs : List Block). so_far.done ++ xs) (sym (found.is ∙ listed_first t (s + i) z found.others))
          ∙ so_far.is

      now_done : numbers_of (so_far.done ++ listed t (s + i) z []) ≡ numbers_of so_far.done ++ pair_if t (s + i) z
      now_done = numbers_append so_far.done (listed t (s + i) z []) ∙ ap (λ (ns : List ℕ). numbers_of so_far.done ++ ns) (numbers_listed t (s + i) z)

      room_for : c + length (pair_if t (s + i) z) ≤ length list₀
      room_for =
          let before = so_far.done ++ listed t (s + i) z [] in
          let sum = ap length (ap numbers_of (sym whole_list) ∙ numbers_append before found.others)
          ∙ length-append (numbers_of before) (numbers_of found.others) in
          let first = ap length now_done ∙ length-append (numbers_of so_far.done) (pair_if t (s + i) z) in
          omega (arith, so_far.far, sum, first)

      pub room : {asked : Bool} {n : ℕ} → asked ≡ t → n ≡ z → c + length (pair_if asked (s + i) n) ≤ length list
      room e f = rw (e, f, same_length so_far.put) room_for

      pub listing_next : {asked : Bool} {n c' : ℕ} {list' : List ℕ} → asked ≡ t → n ≡ z → list' ≡ placed c (pair_if asked (s + i) n) list
          → c' ≡ c + length (pair_if asked (s + i) n) → Listing list' (i + n) c'
      listing_next {c' = c'} {list'} e f is far =
          let here : 0 + length (numbers_of so_far.done) ≡ c = omega (arith, so_far.far) in
          let put = more so_far.put (pair_if t (s + i) z) here (rw (e, f) at is) room_for in
          rw f
          (record {
            done = so_far.done ++ listed t (s + i) z [];
            rest = found.others;
            passed = found.passed;
            is = whole_list;
            put = rw now_done put;
            far = far ∙ rw (e, f) (omega (arith, so_far.far, ap length now_done, length-append (numbers_of so_far.done) (pair_if t (s + i) z)));
          })

    pub listing_all : {list : List ℕ} {i c : ℕ} → Listing list i c → n ≤ i → list ≡ numbers_of all
    listing_all {i = i} so_far h =
        let none = passed_all w s n m i so_far.passed h in
        let every : so_far.done ≡ all = sym (append-nil so_far.done) ∙ ap (λ (xs : List Block). so_far.done ++ xs) (sym none) ∙ so_far.is in
        so_far.put.same ∙ ap (λ (xs : List Block). placed 0 (numbers_of xs) list₀) every ∙ whole (numbers_of all) list₀ (sym long)
