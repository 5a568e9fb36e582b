-- What a call that counts leaves in the count lent to it. Assumes nothing.
use Rattle.std.specs.Prelude.{ℕ, Result, Ok, Err}

-- how many were written, otherwise the count as it was
unfoldable pub count_after : {E : Type 0} → Result ℕ E → ℕ → ℕ
count_after (Ok n) count = n
count_after (Err e) count = count
