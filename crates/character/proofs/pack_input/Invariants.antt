use mathlib.Core.Path.{◌≡◌}
use Prim.Native.Nat.{◌-◌}
use lib.ListN.{take, drop}
use Rattle.word.specs.Told.{gives, refuses}
use Rattle.character.specs.Converted.{packing}
use Rattle.character.proofs.Digits.{Growing, answer}
use Rattle.character.proofs.pack_input.Given as goal

abbrev pub invariant-loop-byte : goal.invariant-loop-byte
invariant-loop-byte l =
    let taken = take l.count (drop l.at l.input) in
    Growing l.count (l.count - l.byte-index) l.made
    × (answer gives (refuses 4) 64 l.made (drop l.byte-index taken) ≡ packing taken)
