-- What references rely on, by the tests that show it. Assumes nothing.
use Rattle.std.proofs.Common.{◌≡◌, ℕ, ◌^◌, true, ltb, List, length, inl, arith}
use Rattle.block.specs.declared.SetUp.{SetUp}
use Rattle.block.specs.SetUp.{fitting}
use Rattle.block.specs.Map.{keeps}
use Rattle.machine.specs.Sound.{every, is_definition}
use Rattle.operands.specs.Packing.{unpacked_all}
use Rattle.operands.specs.Reading.{seen, Readable}
use Rattle.operands.proofs.Readable.{numbers}

pub tested_readable : (bugs fields : List ℕ) (u : SetUp) (m ws : List ℕ) → fitting (length ws) u ≡ true → keeps u m ≡ true
    → every (is_definition 36) (unpacked_all fields) ≡ true → every (λ x. ltb x (2 ^ 36)) bugs ≡ true → Readable 36 (seen bugs fields u m ws)
tested_readable bugs fields u m ws fits kept defined below =
    let k = numbers (length ws) u (inl fits) in
    record {
      width = omega arith;
      numbers = rw fits;
      first = k.first;
      last = k.last;
      whole = k.whole;
      kept = kept;
      room = k.room;
      definitions = defined;
      bugs = below;
    }
