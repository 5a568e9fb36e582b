-- Packed definitions: each number stands for the definition that it was made of, and so do all. Assumes nothing.
use Prim.Native.Nat.{ℕ, zero, suc, ◌+◌, ◌*◌, ◌/◌, ◌%◌, ◌≤◌, ◌<◌}
use native.Mathlib.Omega.{arith}
use mathlib.Core.Bool.{Bool, true, false, not}
use mathlib.Core.List.{List, [], ◌∷◌}
use mathlib.Core.Path.{◌≡◌, refl, ap}
use lib.Dec.{eqb}
use mir.Val.{bool_byte}
use lib.ListN.{length, get_or, set, length-map}
use Rattle.machine.specs.declared.Definition.{Definition}
use Rattle.machine.specs.State.{undefined}
use Rattle.operands.specs.Packing.{unpacked, unpacked_all}

-- a flag is 0 or 1
pub flag_small : (t : Bool) → bool_byte t ≤ 1
flag_small true = omega arith
flag_small false = omega arith

-- a number of four parts
pub packed_is : (x : Definition) → x.word < 256 → x.left < 256 → x.right < 256
    → unpacked (bool_byte x.defined + x.word * 256 + x.left * 65536 + x.right * 16777216) ≡ x
unfolding unpacked
packed_is x = go x.defined x.word x.left x.right
  where
    go : (d : Bool) (word left right : ℕ) → word < 256 → left < 256 → right < 256
        → ◌≡◌ {A = Definition} (record {
          defined = not (eqb ((bool_byte d + word * 256 + left * 65536 + right * 16777216) % 256) 0);
          word = (bool_byte d + word * 256 + left * 65536 + right * 16777216) / 256 % 256;
          left = (bool_byte d + word * 256 + left * 65536 + right * 16777216) / 65536 % 256;
          right = (bool_byte d + word * 256 + left * 65536 + right * 16777216) / 16777216;
        }) (record { defined = d; word = word; left = left; right = right })
    go true word left right w l r = parts {n = (1 + word * 256 + left * 65536 + right * 16777216) % 256} (omega arith) (omega arith) (omega arith) (omega arith)
      where
        parts : {n : ℕ} → n ≡ 1 → {a b c : ℕ} → a ≡ word → b ≡ left → c ≡ right
            → ◌≡◌ {A = Definition} (record { defined = not (eqb n 0); word = a; left = b; right = c })
            (record { defined = true; word = word; left = left; right = right })
        parts e f g h = rw (e, f, g, h)
    go false word left right w l r = parts {n = (0 + word * 256 + left * 65536 + right * 16777216) % 256} (omega arith) (omega arith) (omega arith)
        (omega arith)
      where
        parts : {n : ℕ} → n ≡ 0 → {a b c : ℕ} → a ≡ word → b ≡ left → c ≡ right
            → ◌≡◌ {A = Definition} (record { defined = not (eqb n 0); word = a; left = b; right = c })
            (record { defined = false; word = word; left = left; right = right })
        parts e f g h = rw (e, f, g, h)

-- one of all
pub unpacked_at : (fields : List ℕ) (i : ℕ) → unpacked (get_or fields i 0) ≡ get_or (unpacked_all fields) i undefined
unfolding unpacked unpacked_all undefined
unpacked_at [] i = refl
unpacked_at (x ∷ xs) zero = refl
unpacked_at (x ∷ xs) (suc i) = unpacked_at xs i

-- one of all replaced
pub unpacked_set : (fields : List ℕ) (i x : ℕ) → unpacked_all (set fields i x) ≡ set (unpacked_all fields) i (unpacked x)
unfolding unpacked_all
unpacked_set [] i x = refl
unpacked_set (y ∷ ys) zero x = refl
unpacked_set (y ∷ ys) (suc i) x = ap (λ (l : List Definition). unpacked y ∷ l) (unpacked_set ys i x)

pub length_unpacked : (fields : List ℕ) → length (unpacked_all fields) ≡ length fields
unfolding unpacked_all
length_unpacked fields = length-map fields unpacked
