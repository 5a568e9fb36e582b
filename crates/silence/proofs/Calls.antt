-- The calls by the room for what is counted. Assumes nothing.
use Prim.Native.Nat.{ℕ, ◌<◌, ◌≤◌}
use mathlib.Core.List.{List, ◌++◌}
use mathlib.Core.Path.{◌≡◌}
use borrow.Author.Tests.{le-leb, lt-leb}
use lib.ListN.{length, drop}
use Rattle.std.proofs.Common.{Ok, Err}
use Rattle.silence.specs.Silence.{telling, told_listed, telling_told, Tells}

module _ (found output : List ℕ) where
  pub tells_short : length output < length found → Tells found output (Err (record {})) output
  unfolding telling told_listed telling_told
  tells_short h =
      let short = lt-leb (length found) (length output) h in
      record { left = rw short; numbered = rw short }

  pub tells_all : {n : ℕ} {after : List ℕ} → n ≡ length found → length found ≤ length output → after ≡ found ++ drop (length found) output
      → Tells found output (Ok n) after
  unfolding telling told_listed telling_told
  tells_all is h put =
      let room = le-leb (length found) (length output) h in
      record { left = rw (room, put, is); numbered = rw (room, is) }
