-- Text and numbers put into a buffer from its end towards its start. Assumes nothing.
use Rattle.std.specs.Prelude.{ℕ, ◌-◌, List, ◌++◌, length, take, drop}

-- a buffer with these put before a place
unfoldable pub put_before : ℕ → List ℕ → List ℕ → List ℕ
put_before at xs buffer = take (at - length xs) buffer ++ (xs ++ drop at buffer)
