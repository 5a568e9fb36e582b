-- `character::pack_input` meets its contract. The loop's invariant: the bytes that are left, after those that were packed, come to the result.
-- Assumes nothing.
use mathlib.Core.Path.{◌≡◌, refl, sym, ◌∙◌}
use Prim.Native.Nat.{◌+◌, ◌-◌, ◌*◌, ◌^◌, ◌<◌, ℕ}
use native.Mathlib.Nat.{sub-zero}
use native.Mathlib.Omega.{arith}
use mathlib.Core.List.{List}
use lib.ListN.{take, drop}
use Rattle.character.specs.Character.{number, packed, all_below}
use Rattle.word.specs.Told.{gives, refuses}
use Rattle.character.specs.Converted.{told_packed, packing}
use Rattle.character.proofs.Digits.{growing, grown, grown_fits, answer, answer_next, answer_stop, taken_inside, taken_past, taken_first}
use Rattle.character.proofs.pack_input.Goals as goal
use Rattle.character.proofs.pack_input.Goals.{Else-next-ge-CODES}

pub loop-byte-init : goal.loop-byte-init
unfolding answer packing packed
loop-byte-init c = (rw sub-zero (growing c.args.count), refl)

pub returns-then-next-ge-CODES : goal.returns-then-next-ge-CODES
unfolding told_packed
returns-then-next-ge-CODES c =
    let l = c.loop-byte in
    let a = c.args in
    let rest : List ℕ = drop (l.byte-index + 1) (take a.count (drop a.at a.input.now)) in
    let first = taken_first a.input.now a.at a.count l.byte-index c.requires.1 c.loop-byte-test.true c.from-next.ensures in
    sym (answer_stop gives (refuses 4) 64 l.made c.from-next.result rest c.if-next-ge-CODES.true)
    ∙ rw first at l.invariant.1

-- the value still fits after a turn
room : (c : Else-next-ge-CODES) → c.loop-byte.made * 64 + c.from-next.result < 2 ^ 64
room c =
    let a = c.args in
    let l = c.loop-byte in
    let inside = taken_inside a.input.now a.at a.count l.byte-index c.requires.1 c.loop-byte-test.true in
    grown_fits l.invariant.0 (omega (arith, inside)) 64 c.from-next.result (omega arith) c.if-next-ge-CODES.false c.requires.0

pub overflow_mul-made : goal.overflow_mul-made
overflow_mul-made c = omega (arith, room c)

pub overflow_add-made : goal.overflow_add-made
overflow_add-made c = record { fits = room c }

pub loop-byte-preserved : goal.loop-byte-preserved
loop-byte-preserved c =
    let l = c.loop-byte in
    let a = c.args in
    let rest : List ℕ = drop (l.byte-index + 1) (take a.count (drop a.at a.input.now)) in
    let inside = taken_inside a.input.now a.at a.count l.byte-index c.requires.1 c.loop-byte-test.true in
    let first = taken_first a.input.now a.at a.count l.byte-index c.requires.1 c.loop-byte-test.true c.from-next.ensures in
    let left : a.count - (l.byte-index + 1) ≡ a.count - l.byte-index - 1 = omega (arith, inside) in (
      rw left (grown l.invariant.0 (omega (arith, inside)) 64 c.from-next.result (omega arith) c.if-next-ge-CODES.false),
      sym (answer_next gives (refuses 4) 64 l.made c.from-next.result rest c.if-next-ge-CODES.false) ∙ rw first at l.invariant.1,
    )

pub returns : goal.returns
unfolding answer number all_below told_packed
returns c =
    let l = c.loop-byte in
    let a = c.args in
    let past = taken_past a.input.now a.at a.count l.byte-index c.requires.1 c.loop-byte-test.false in
    rw past at l.invariant.1
