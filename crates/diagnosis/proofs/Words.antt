-- The parts of a line once all are put, and the table that was read. Assumes nothing.
use Prim.Native.Nat.{ℕ, ◌+◌}
use mathlib.Core.List.{List, [], ◌++◌, append-nil}
use mathlib.Core.Path.{◌≡◌, ap, subst, ◌∙◌}
use lib.ListN.{length, take}
use Rattle.tour.specs.Tour.{table_of}
use Rattle.tour.specs.Put.{put_before}
use Rattle.tour.proofs.Putting.{Put}
use Rattle.tour.proofs.Tables.{take_put}

-- nothing stands after the last part
pub nothing_after : (before number after : List ℕ) {at : ℕ} {t now : List ℕ} {place : ℕ} → Put at (before ++ (number ++ (after ++ []))) t now place
    → (place + length (before ++ (number ++ after)) ≡ at) × (now ≡ put_before at (before ++ (number ++ after)) t)
nothing_after before number after {at} {t} {now} {place} p =
    let q : Put at (before ++ (number ++ after)) t now place = subst (λ (xs : List ℕ). Put at (before ++ (number ++ xs)) t now place) (append-nil after) p in
    (q.starts, q.buffer)

-- what was read is the file's table
pub table_read : (tab first : List ℕ) {table : List ℕ} {count : ℕ} → count ≡ length (table_of tab) → table ≡ put_before count (table_of tab) first
    → take count table ≡ table_of tab
table_read tab first {table} {count} n t = ap (take count) t ∙ take_put (table_of tab) first count n
