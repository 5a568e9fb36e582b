-- The parts of a state put one after the other: numbers, arrays, map, width. Assumes nothing.
use Prim.Native.Nat.{ℕ}
use native.Mathlib.Omega.{arith}
use mathlib.Core.List.{List, ◌++◌, append_assoc}
use mathlib.Core.Path.{◌≡◌, sym, ap, ◌∙◌}
use lib.ListN.{length, length-append}
use Rattle.octets.specs.Octets.{bytes_of}
use Rattle.octets.proofs.RoundTrip.{length_bytes}
use Rattle.machine.specs.declared.Core.{Core}
use Rattle.machine.specs.declared.State.{State}
use Rattle.machine.specs.State.{tests_of, undefined}
use Rattle.machine.specs.Storage.{placed}
use Rattle.layout.specs.Records.{bytes_of_all}
use Rattle.layout.specs.Layout.{state_length, bytes_of_place, bytes_of_definition, bytes_of_numbers, bytes_of_arrays, bytes_of_state}
use Rattle.layout.specs.Ranged.{RangedArrays, Ranged}
use Rattle.layout.proofs.Placing.{row_first, row_more, three_row, four_row, whole}
use Rattle.layout.proofs.Records.{length_array}
use Rattle.layout.specs.Lengths.{length_place, length_definition}

module _ (c : Core) where
  -- the three groups of numbers
  abbrev pub streams : List ℕ
  streams = bytes_of_place c.place ++ (bytes_of 8 c.taken ++ bytes_of 8 c.written)

  abbrev pub setup : List ℕ
  setup = bytes_of 2 c.setup.d ++ (bytes_of 2 c.setup.s1 ++ bytes_of 2 c.setup.s2)

  abbrev pub counts : List ℕ
  counts = bytes_of 8 c.contents.count ++ (bytes_of 8 c.saved.count ++ bytes_of 8 c.calls.count)

  pub length_numbers : length (bytes_of_numbers c) ≡ 51
  unfolding bytes_of_numbers
  length_numbers = simp (length-append, length_place, length_bytes)

  pub numbers_put : (t : List ℕ) {t₁ t₂ t₃ : List ℕ} → length t ≡ state_length → t₁ ≡ placed 0 streams t → t₂ ≡ placed 21 setup t₁ → t₃ ≡ placed 27 counts t₂
      → t₃ ≡ placed 0 (bytes_of_numbers c) t
  unfolding bytes_of_numbers
  numbers_put t h e f g =
      let row = three_row 0 21 6 24 streams setup counts t (simp (length-append, length_place, length_bytes)) (simp (length-append, length_bytes))
      (simp (length-append, length_bytes)) e f g (omega arith) in
      row.put.same ∙ ap (λ (xs : List ℕ). placed 0 xs t) (simp append_assoc)

  module _ (ok : RangedArrays c) where
    bugs_long : length (bytes_of_all (bytes_of 8) c.bugs) ≡ 208
    bugs_long = length_array (bytes_of 8) 0 8 (length_bytes 8) c.bugs ok.bugs.long

    contents_long : length (bytes_of_all (bytes_of 8) c.contents.entries) ≡ 1024
    contents_long = length_array (bytes_of 8) 0 8 (length_bytes 8) c.contents.entries ok.contents.long

    definitions_long : length (bytes_of_all bytes_of_definition c.definitions) ≡ 144
    definitions_long = length_array bytes_of_definition undefined 4 length_definition c.definitions ok.definitions.long

    saved_long : length (bytes_of_all bytes_of_definition c.saved.entries) ≡ 512
    saved_long = length_array bytes_of_definition undefined 4 length_definition c.saved.entries ok.saved.long

    calls_long : length (bytes_of_all bytes_of_place c.calls.entries) ≡ 640
    calls_long = length_array bytes_of_place (tests_of 0) 5 length_place c.calls.entries ok.calls.long

    pub length_arrays : length (bytes_of_arrays c) ≡ 2528
    unfolding bytes_of_arrays
    length_arrays = simp length-append (omega (arith, bugs_long, contents_long, definitions_long, saved_long, calls_long))

    pub arrays_put : (t : List ℕ) {t₁ t₂ t₃ t₄ t₅ : List ℕ} → length t ≡ state_length → t₁ ≡ placed 51 (bytes_of_all (bytes_of 8) c.bugs) t
        → t₂ ≡ placed 259 (bytes_of_all (bytes_of 8) c.contents.entries) t₁
        → t₃ ≡ placed 1283 (bytes_of_all bytes_of_definition c.definitions) t₂
        → t₄ ≡ placed 1427 (bytes_of_all bytes_of_definition c.saved.entries) t₃
        → t₅ ≡ placed 1939 (bytes_of_all bytes_of_place c.calls.entries) t₄ → t₅ ≡ placed 51 (bytes_of_arrays c) t
    unfolding bytes_of_arrays
    arrays_put t h e f g i j =
        let one = row_first 51 208 (bytes_of_all (bytes_of 8) c.bugs) t e bugs_long (omega arith) in
        let two = row_more 1024 (bytes_of_all (bytes_of 8) c.contents.entries) one f contents_long (omega arith) in
        let three = row_more 144 (bytes_of_all bytes_of_definition c.definitions) two g definitions_long (omega arith) in
        let four = row_more 512 (bytes_of_all bytes_of_definition c.saved.entries) three i saved_long (omega arith) in
        let five = row_more 640 (bytes_of_all bytes_of_place c.calls.entries) four j calls_long (omega arith) in
        five.put.same ∙ ap (λ (xs : List ℕ). placed 51 xs t) (simp append_assoc)

-- a whole state
module _ (s : State) (ok : Ranged s) where
  map_long : length (bytes_of_all (bytes_of 1) s.map) ≡ 4096
  map_long = length_array (bytes_of 1) 0 1 (length_bytes 1) s.map ok.map.long

  -- it has as many bytes as a state has
  pub length_state : length (bytes_of_state s) ≡ state_length
  unfolding bytes_of_state
  length_state =
      simp length-append (omega (arith, length_numbers s.core, length_arrays s.core ok.arrays, map_long, length_bytes 1 s.width))

  pub state_put : (t : List ℕ) {t₁ t₂ t₃ t₄ : List ℕ} → length t ≡ state_length → t₁ ≡ placed 0 (bytes_of_numbers s.core) t
      → t₂ ≡ placed 51 (bytes_of_arrays s.core) t₁ → t₃ ≡ placed 2579 (bytes_of_all (bytes_of 1) s.map) t₂
      → t₄ ≡ placed 6675 (bytes_of 1 s.width) t₃ → t₄ ≡ bytes_of_state s
  unfolding bytes_of_state
  state_put t h e f g i =
      let row = four_row 0 51 2528 4096 (bytes_of_numbers s.core) (bytes_of_arrays s.core) (bytes_of_all (bytes_of 1) s.map) t (length_numbers s.core)
      (length_arrays s.core ok.arrays) map_long 1 (bytes_of 1 s.width) (length_bytes 1 s.width) e f g i (omega arith) in
      row.put.same ∙ whole _ t (length_state ∙ sym h)
