-- That a place and a definition come back from their bytes, and where a number in a record stands. Assumes nothing.
use Prim.Native.Nat.{ℕ, zero, suc, ◌+◌, ◌*◌, ◌%◌, ◌≤◌, ◌<◌}
use native.Mathlib.Numerals.{add-one}
use native.Mathlib.Omega.{arith}
use mathlib.Core.Bool.{Bool, true, false, not, cond}
use lib.Dec.{eqb}
use mathlib.Core.List.{List, [], ◌∷◌}
use mathlib.Core.Path.{◌≡◌, refl, ap, ◌∙◌}
use lib.ListN.{length, take, drop, get_or, length-drop}
use lib.Seq.{take-take, drop-drop, drop-cons}
use Rattle.octets.specs.Octets.{low_first, bytes_of}
use Rattle.octets.proofs.RoundTrip.{number_of_bytes}
use Rattle.machine.specs.declared.Place.{Place}
use Rattle.machine.specs.declared.Definition.{Definition}
use Rattle.layout.specs.Records.{number_at, bytes_of_all, records_of}
use Rattle.layout.specs.Layout.{state_length, bytes_of_place, place_of, bytes_of_definition, definition_of, state_of}
use Rattle.layout.specs.Ranged.{RangedPlace, RangedDefinition}

-- they come back from their bytes
pub place_back : (p : Place) → RangedPlace p → place_of (bytes_of_place p) ≡ p
unfolding place_of bytes_of_place number_at bytes_of
place_back p ok =
    let made : ℕ → ℕ → ℕ → Place = λ kind row line. record { kind = kind; row = row; line = line } in
    ap (λ (n : ℕ). made n (low_first (bytes_of 2 p.row)) (low_first (bytes_of 2 p.line))) (number_of_bytes 1 p.kind ok.kind)
    ∙ ap (λ (n : ℕ). made p.kind n (low_first (bytes_of 2 p.line))) (number_of_bytes 2 p.row ok.row)
    ∙ ap (λ (n : ℕ). made p.kind p.row n) (number_of_bytes 2 p.line ok.line)

-- a flag
flag_back : (t : Bool) → not (eqb (low_first (bytes_of 1 (cond t 1 0))) 0) ≡ t
unfolding bytes_of low_first
flag_back true = refl
flag_back false = refl

pub definition_back : (x : Definition) → RangedDefinition x → definition_of (bytes_of_definition x) ≡ x
unfolding definition_of bytes_of_definition number_at bytes_of
definition_back x ok =
    let made : Bool → ℕ → ℕ → ℕ → Definition = λ defined word left right. record { defined = defined; word = word; left = left; right = right } in
    ap (λ (t : Bool). made t (low_first (bytes_of 1 x.word)) (low_first (bytes_of 1 x.left)) (low_first (bytes_of 1 x.right))) (flag_back x.defined)
    ∙ ap (λ (n : ℕ). made x.defined n (low_first (bytes_of 1 x.left)) (low_first (bytes_of 1 x.right))) (number_of_bytes 1 x.word ok.word)
    ∙ ap (λ (n : ℕ). made x.defined x.word n (low_first (bytes_of 1 x.right))) (number_of_bytes 1 x.left ok.left)
    ∙ ap (λ (n : ℕ). made x.defined x.word x.left n) (number_of_bytes 1 x.right ok.right)

take_drop : (m n w : ℕ) (l : List ℕ) → m + n ≤ w → take n (drop m (take w l)) ≡ take n (drop m l)
take_drop zero n w l h = take-take n w l (omega arith)
take_drop (suc m) n zero l h = absurd (omega arith)
take_drop (suc m) n (suc w) [] h = refl
take_drop (suc m) n (suc w) (x ∷ l) h = take_drop m n w l (omega arith)

-- a number in a record of w bytes
pub number_within : (at w m n : ℕ) (bytes : List ℕ) → m + n ≤ w → number_at m n (take w (drop at bytes)) ≡ number_at (at + m) n bytes
unfolding number_at
number_within at w m n bytes h = ap low_first (take_drop m n w (drop at bytes) h ∙ ap (take n) (drop-drop m at bytes))

-- a number of one byte, and of two
pub byte_at : (at : ℕ) (bytes : List ℕ) → at < length bytes → number_at at 1 bytes ≡ get_or bytes at 0
unfolding number_at low_first
byte_at at bytes h = rw (drop-cons bytes at 0 h) (omega arith)

pub short_at : (at : ℕ) (bytes : List ℕ) → at + 2 ≤ length bytes → number_at at 2 bytes ≡ get_or bytes at 0 + 256 * get_or bytes (at + 1) 0
unfolding number_at low_first
short_at at bytes h =
    rw (drop-cons bytes at 0 (omega arith), drop-cons bytes (suc at) 0 (omega arith)) (omega (arith, ap (λ (k : ℕ). get_or bytes k 0) (add-one at)))

-- bytes as records of one byte are themselves
pub bytes_are : (n : ℕ) (bytes : List ℕ) → n ≤ length bytes → records_of low_first 1 n bytes ≡ take n bytes
unfolding records_of low_first
bytes_are zero bytes h = refl
bytes_are (suc n) [] h = absurd (omega arith)
bytes_are (suc n) (x ∷ xs) h =
    let same : x + 256 * 0 ≡ x = omega arith in
    ap (λ (y : ℕ). y ∷ records_of low_first 1 n xs) same ∙ ap (λ (ys : List ℕ). x ∷ ys) (bytes_are n xs (omega arith))

-- and the bytes of bytes are these
pub bytes_same : (xs : List ℕ) → ((i : ℕ) → i < length xs → get_or xs i 0 < 256) → bytes_of_all (bytes_of 1) xs ≡ xs
unfolding bytes_of_all bytes_of
bytes_same [] h = refl
bytes_same (x ∷ xs) h =
    let small : x < 256 = h 0 (omega arith) in
    let same : x % 256 ≡ x = omega arith in
    rw (same, bytes_same xs (λ i k. h (suc i) (omega arith)))

-- so the map is the bytes from its place on
pub map_is : (bytes : List ℕ) → length bytes ≡ state_length → (state_of bytes).map ≡ take 4096 (drop 2579 bytes)
unfolding state_of
map_is bytes h = bytes_are 4096 (drop 2579 bytes) (omega (arith, length-drop 2579 bytes))
