-- What the numbers that are read make of a place, a definition and a state. Assumes nothing.
use Prim.Native.Nat.{ℕ, ◌+◌, ◌≤◌, ◌<◌}
use native.Mathlib.Nat.{add-zero}
use native.Mathlib.Omega.{arith}
use mathlib.Core.Bool.{not}
use mathlib.Core.List.{List}
use mathlib.Core.Path.{◌≡◌, sym, ap, ◌∙◌}
use lib.Dec.{eqb}
use lib.ListN.{length, take, drop, get_or}
use Rattle.octets.specs.Octets.{low_first}
use Rattle.block.specs.declared.SetUp.{SetUp}
use Rattle.machine.specs.declared.Place.{Place}
use Rattle.machine.specs.declared.Definition.{Definition}
use Rattle.machine.specs.declared.Core.{Core}
use Rattle.machine.specs.declared.State.{State}
use Rattle.layout.specs.Records.{number_at, records_of}
use Rattle.layout.specs.Layout.{state_length, place_of, definition_of, state_of}
use Rattle.layout.proofs.Widths.{number_within, byte_at}

module _ (bytes : List ℕ) (at : ℕ) where
  -- a byte of a record of w bytes
  byte_within : (w m : ℕ) → m + 1 ≤ w → at + m < length bytes → get_or bytes (at + m) 0 ≡ number_at m 1 (take w (drop at bytes))
  byte_within w m h k = sym (number_within at w m 1 bytes h ∙ byte_at (at + m) bytes k)

  first_within : (w : ℕ) → 1 ≤ w → at < length bytes → get_or bytes at 0 ≡ number_at 0 1 (take w (drop at bytes))
  first_within w h k = ap (λ (n : ℕ). get_or bytes n 0) (sym (add-zero at)) ∙ byte_within w 0 h (rw (add-zero at) k)

  pub place_read : {row line : ℕ} → at + 5 ≤ length bytes → row ≡ number_at (at + 1) 2 bytes → line ≡ number_at (at + 3) 2 bytes
      → ◌≡◌ {A = Place} (record { kind = get_or bytes at 0; row = row; line = line }) (place_of (take 5 (drop at bytes)))
  unfolding place_of
  place_read h r l =
      let kind = first_within 5 (omega arith) (omega arith) in
      let row_same = r ∙ sym (number_within at 5 1 2 bytes (omega arith)) in
      let line_same = l ∙ sym (number_within at 5 3 2 bytes (omega arith)) in
      rw (kind, row_same, line_same)

  pub definition_read : at + 4 ≤ length bytes
      → ◌≡◌ {A = Definition} (record {
        defined = not (eqb (get_or bytes at 0) 0);
        word = get_or bytes (at + 1) 0;
        left = get_or bytes (at + 2) 0;
        right = get_or bytes (at + 3) 0;
      })
      (definition_of (take 4 (drop at bytes)))
  unfolding definition_of
  definition_read h =
      let defined = first_within 4 (omega arith) (omega arith) in
      let word = byte_within 4 1 (omega arith) (omega arith) in
      let left = byte_within 4 2 (omega arith) (omega arith) in
      let right = byte_within 4 3 (omega arith) (omega arith) in
      rw (defined, word, left, right)

-- all that is read of a state but its map and its width
pub core_read : (bytes : List ℕ) {place : Place} {bugs words : List ℕ} {definitions saved : List Definition} {calls : List Place}
    {contents-count saved-count calls_count taken written : ℕ}
    {setup : SetUp} → bugs ≡ records_of low_first 8 26 (drop 51 bytes) → words ≡ records_of low_first 8 128 (drop 259 bytes)
    → definitions ≡ records_of definition_of 4 36 (drop 1283 bytes) → saved ≡ records_of definition_of 4 128 (drop 1427 bytes)
    → calls ≡ records_of place_of 5 128 (drop 1939 bytes) → place ≡ place_of (take 5 bytes)
    → contents-count ≡ number_at 27 8 bytes → saved-count ≡ number_at 35 8 bytes → calls_count ≡ number_at 43 8 bytes
    → setup ≡ (state_of bytes).core.setup → taken ≡ number_at 5 8 bytes → written ≡ number_at 13 8 bytes
    → ◌≡◌ {A = Core}
    (record {
      place = place;
      bugs = bugs;
      definitions = definitions;
      contents = record { entries = words; count = contents-count };
      saved = record { entries = saved; count = saved-count };
      calls = record { entries = calls; count = calls_count };
      setup = setup;
      taken = taken;
      written = written;
    })
    (state_of bytes).core
unfolding state_of
core_read bytes b w d s c p m n k u t o = rw (b, w, d, s, c, p, m, n, k, u, t, o)

-- and with them
pub width_read : (bytes : List ℕ) → length bytes ≡ state_length → get_or bytes 6675 0 ≡ (state_of bytes).width
unfolding state_of
width_read bytes long = sym (byte_at 6675 bytes (omega arith))

pub state_read : (bytes : List ℕ) {width : ℕ} {core : Core} {map : List ℕ} → width ≡ (state_of bytes).width → core ≡ (state_of bytes).core
    → map ≡ records_of low_first 1 4096 (drop 2579 bytes) → ◌≡◌ {A = State} (record { width = width; core = core; map = map }) (state_of bytes)
unfolding state_of
state_read bytes w c m = rw (w, c, m)
