-- Text put before a place of a buffer, no longer than a bound. Assumes nothing.
use Rattle.std.specs.Prelude.{ℕ, ◌+◌, ◌≤◌, ◌<◌, List, ◌≡◌, length}
use Rattle.std.specs.Borrow.{MutBor}
use Rattle.tour.specs.Put.{put_before}

-- these, of at most so many characters, put before a place of a buffer: where they start, and the buffer then
pub record Puts (xs : List ℕ) (most at : ℕ) (before : List ℕ) (place : ℕ) (after : List ℕ) : Type 0 where
  pub starts : place + length xs ≡ at
  pub buffer : after ≡ put_before at xs before
  pub few : length xs ≤ most

-- calls that put the line of a place before a place of a buffer may be made for each place below n, where there is room for a line
abbrev pub MayPut : (MutBor (List ℕ) → ℕ → ℕ → Type 0) → ℕ → Type 0
MayPut Pre n = (t : MutBor (List ℕ)) (place i : ℕ) → i < n → 96 ≤ place → place ≤ length t.now → Pre t place i

-- and put f's line of it
abbrev pub PutsLines : (MutBor (List ℕ) → ℕ → ℕ → ℕ → MutBor (List ℕ) → Type 0) → (ℕ → List ℕ) → ℕ → Type 0
PutsLines Post f n =
    (t : MutBor (List ℕ)) (place i r : ℕ) (u : MutBor (List ℕ)) → i < n → Post t place i r u → Puts (f i) 96 place t.now r u.now
