-- A state comes back from its bytes. Assumes nothing.
use Prim.Native.Nat.{ℕ, ◌+◌}
use mathlib.Core.List.{List, [], ◌++◌, append_assoc, append-nil}
use mathlib.Core.Path.{◌≡◌, sym, ap, ◌∙◌}
use lib.ListN.{length, take, drop, get_or}
use lib.Seq.{take_at, drop_at, drop-drop}
use Rattle.octets.specs.Octets.{low_first, bytes_of}
use Rattle.octets.proofs.RoundTrip.{length_bytes, number_of_bytes}
use Rattle.machine.specs.declared.State.{State}
use Rattle.machine.specs.State.{tests_of, undefined}
use Rattle.layout.specs.Records.{number_at, bytes_of_all, records_of}
use Rattle.layout.specs.Layout.{bytes_of_place, place_of, bytes_of_definition, definition_of, bytes_of_numbers, bytes_of_arrays}
use Rattle.layout.specs.Layout.{bytes_of_state, state_of}
use Rattle.layout.specs.Ranged.{Array, Bytes, RangedPlace, RangedDefinition, Ranged}
use Rattle.layout.proofs.Records.{length_array, records_back}
use Rattle.layout.proofs.Widths.{place_back, definition_back}
use Rattle.layout.specs.Lengths.{length_place, length_definition}

-- what stands after xs, which stand from a place on
past : (t xs ys : List ℕ) (at n : ℕ) → drop at t ≡ xs ++ ys → length xs ≡ n → drop (at + n) t ≡ ys
past t xs ys at n is h = sym (drop-drop n at t) ∙ ap (drop n) is ∙ drop_at xs ys n h

-- the number that stands there
number : (t ys : List ℕ) (at n v : ℕ) → drop at t ≡ bytes_of n v ++ ys → Bytes n v → number_at at n t ≡ v
unfolding number_at
number t ys at n v is h = ap (λ (b : List ℕ). low_first (take n b)) is ∙ ap low_first (take_at (bytes_of n v) ys n (length_bytes n v)) ∙ number_of_bytes n v h

-- records of w bytes that come back come back as an array
module _ {A : Type 0} (Range : A → Type 0) (none : A) (put : A → List ℕ) (read : List ℕ → A) (w : ℕ) (wide : (x : A) → length (put x) ≡ w)
    (back : (x : A) → Range x → read (put x) ≡ x) (n : ℕ) (xs : List A) (ok : Array Range none n xs) where
  array_back : (t ys : List ℕ) (at : ℕ) → drop at t ≡ bytes_of_all put xs ++ ys → records_of read w n (drop at t) ≡ xs
  array_back t ys at is =
      ap (records_of read w n) is
      ∙ ap (λ (k : ℕ). records_of read w k (bytes_of_all put xs ++ ys)) (sym ok.long)
      ∙ records_back put none w wide read xs ys (λ i h. back (get_or xs i none) (ok.each i (rw ok.long at h)))

-- the state of bytes that are a state's in a row, and nothing after them
module _ (s : State) (ok : Ranged s) (t : List ℕ) where
  abbrev r6675 : List ℕ
  r6675 = bytes_of 1 s.width ++ []

  abbrev r2579 : List ℕ
  r2579 = bytes_of_all (bytes_of 1) s.map ++ r6675

  abbrev r1939 : List ℕ
  r1939 = bytes_of_all bytes_of_place s.core.calls.entries ++ r2579

  abbrev r1427 : List ℕ
  r1427 = bytes_of_all bytes_of_definition s.core.saved.entries ++ r1939

  abbrev r1283 : List ℕ
  r1283 = bytes_of_all bytes_of_definition s.core.definitions ++ r1427

  abbrev r259 : List ℕ
  r259 = bytes_of_all (bytes_of 8) s.core.contents.entries ++ r1283

  abbrev r51 : List ℕ
  r51 = bytes_of_all (bytes_of 8) s.core.bugs ++ r259

  abbrev r43 : List ℕ
  r43 = bytes_of 8 s.core.calls.count ++ r51

  abbrev r35 : List ℕ
  r35 = bytes_of 8 s.core.saved.count ++ r43

  abbrev r27 : List ℕ
  r27 = bytes_of 8 s.core.contents.count ++ r35

  abbrev r25 : List ℕ
  r25 = bytes_of 2 s.core.setup.s2 ++ r27

  abbrev r23 : List ℕ
  r23 = bytes_of 2 s.core.setup.s1 ++ r25

  abbrev r21 : List ℕ
  r21 = bytes_of 2 s.core.setup.d ++ r23

  abbrev r13 : List ℕ
  r13 = bytes_of 8 s.core.written ++ r21

  abbrev r5 : List ℕ
  r5 = bytes_of 8 s.core.taken ++ r13

  abbrev r0 : List ℕ
  r0 = bytes_of_place s.core.place ++ r5

  -- it is what stands from each place on
  module _ (is : t ≡ r0) where
    d5 : drop 5 t ≡ r5
    d5 = past t (bytes_of_place s.core.place) r5 0 5 is (length_place s.core.place)

    d13 : drop 13 t ≡ r13
    d13 = past t (bytes_of 8 s.core.taken) r13 5 8 d5 (length_bytes 8 s.core.taken)

    d21 : drop 21 t ≡ r21
    d21 = past t (bytes_of 8 s.core.written) r21 13 8 d13 (length_bytes 8 s.core.written)

    d23 : drop 23 t ≡ r23
    d23 = past t (bytes_of 2 s.core.setup.d) r23 21 2 d21 (length_bytes 2 s.core.setup.d)

    d25 : drop 25 t ≡ r25
    d25 = past t (bytes_of 2 s.core.setup.s1) r25 23 2 d23 (length_bytes 2 s.core.setup.s1)

    d27 : drop 27 t ≡ r27
    d27 = past t (bytes_of 2 s.core.setup.s2) r27 25 2 d25 (length_bytes 2 s.core.setup.s2)

    d35 : drop 35 t ≡ r35
    d35 = past t (bytes_of 8 s.core.contents.count) r35 27 8 d27 (length_bytes 8 s.core.contents.count)

    d43 : drop 43 t ≡ r43
    d43 = past t (bytes_of 8 s.core.saved.count) r43 35 8 d35 (length_bytes 8 s.core.saved.count)

    d51 : drop 51 t ≡ r51
    d51 = past t (bytes_of 8 s.core.calls.count) r51 43 8 d43 (length_bytes 8 s.core.calls.count)

    d259 : drop 259 t ≡ r259
    d259 = past t (bytes_of_all (bytes_of 8) s.core.bugs) r259 51 208 d51 (length_array (bytes_of 8) 0 8 (length_bytes 8) s.core.bugs
        ok.arrays.bugs.long)

    d1283 : drop 1283 t ≡ r1283
    d1283 = past t (bytes_of_all (bytes_of 8) s.core.contents.entries) r1283 259 1024 d259
        (length_array (bytes_of 8) 0 8 (length_bytes 8) s.core.contents.entries ok.arrays.contents.long)

    d1427 : drop 1427 t ≡ r1427
    d1427 = past t (bytes_of_all bytes_of_definition s.core.definitions) r1427 1283 144 d1283
        (length_array bytes_of_definition undefined 4 length_definition s.core.definitions ok.arrays.definitions.long)

    d1939 : drop 1939 t ≡ r1939
    d1939 = past t (bytes_of_all bytes_of_definition s.core.saved.entries) r1939 1427 512 d1427
        (length_array bytes_of_definition undefined 4 length_definition s.core.saved.entries ok.arrays.saved.long)

    d2579 : drop 2579 t ≡ r2579
    d2579 = past t (bytes_of_all bytes_of_place s.core.calls.entries) r2579 1939 640 d1939 (length_array bytes_of_place (tests_of 0) 5 length_place
        s.core.calls.entries ok.arrays.calls.long)

    d6675 : drop 6675 t ≡ r6675
    d6675 = past t (bytes_of_all (bytes_of 1) s.map) r6675 2579 4096 d2579 (length_array (bytes_of 1) 0 1 (length_bytes 1) s.map ok.map.long)

    pub state_same : state_of t ≡ s
    unfolding state_of
    state_same =
        let place : place_of (take 5 t) ≡ s.core.place = ap (λ (b : List ℕ). place_of (take 5 b)) is
        ∙ ap place_of (take_at (bytes_of_place s.core.place) r5 5 (length_place s.core.place))
        ∙ place_back s.core.place ok.numbers.place in
        let n5 = number t r13 5 8 s.core.taken d5 ok.numbers.taken in
        let n13 = number t r21 13 8 s.core.written d13 ok.numbers.written in
        let n21 = number t r23 21 2 s.core.setup.d d21 ok.numbers.d in
        let n23 = number t r25 23 2 s.core.setup.s1 d23 ok.numbers.s1 in
        let n25 = number t r27 25 2 s.core.setup.s2 d25 ok.numbers.s2 in
        let n27 = number t r35 27 8 s.core.contents.count d27 ok.numbers.contents in
        let n35 = number t r43 35 8 s.core.saved.count d35 ok.numbers.saved in
        let n43 = number t r51 43 8 s.core.calls.count d43 ok.numbers.calls in
        let a51 = array_back (Bytes 8) 0 (bytes_of 8) low_first 8 (length_bytes 8) (number_of_bytes 8) 26 s.core.bugs ok.arrays.bugs t r259 51 d51 in
        let a259 = array_back (Bytes 8) 0 (bytes_of 8) low_first 8 (length_bytes 8) (number_of_bytes 8) 128 s.core.contents.entries
        ok.arrays.contents t r1283 259 d259 in
        let a1283 = array_back RangedDefinition undefined bytes_of_definition definition_of 4 length_definition definition_back 36 s.core.definitions
        ok.arrays.definitions t r1427 1283 d1283 in
        let a1427 = array_back RangedDefinition undefined bytes_of_definition definition_of 4 length_definition definition_back 128
        s.core.saved.entries ok.arrays.saved t r1939 1427 d1427 in
        let a1939 = array_back RangedPlace (tests_of 0) bytes_of_place place_of 5 length_place place_back 128 s.core.calls.entries
        ok.arrays.calls t r2579 1939 d1939 in
        let a2579 = array_back (Bytes 1) 0 (bytes_of 1) low_first 1 (length_bytes 1) (number_of_bytes 1) 4096 s.map ok.map t r6675 2579 d2579 in
        let n6675 = number t [] 6675 1 s.width d6675 ok.width in
        rw (place, n5, n13, n21, n23, n25, n27, n35, n43, a51, a259, a1283, a1427, a1939, a2579, n6675)

-- every value of the type comes back from its bytes
pub state_back : (s : State) → Ranged s → state_of (bytes_of_state s) ≡ s
unfolding bytes_of_state bytes_of_numbers bytes_of_arrays
state_back s ok = state_same s ok (bytes_of_state s) (simp append_assoc (rw (append-nil (bytes_of 1 s.width))))
