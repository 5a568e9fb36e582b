-- Storage kept by bit columns: words in groups of eight, one byte for each bit place. Document 02, ticket 13. Assumes nothing.
use Rattle.std.specs.Prelude.{ℕ, zero, suc, ◌+◌, ◌-◌, ◌*◌, ◌/◌, ◌%◌, ◌^◌, Bool, true, ◌&&◌, cond, List, [], ◌∷◌, ◌++◌, eqb, leb, ltb, length, get_or, take, drop, replicate, Result, Ok, Err}
use Rattle.word.specs.Word.{is_width}
use Rattle.word.specs.Told.{Told, gives, refuses}
use Rattle.character.specs.Character.{digits, number}
use Rattle.columns.specs.declared.KeepError.{KeepError}
use Rattle.columns.specs.declared.KeepError.TheVariants.{NoWidth, WordTooWide, NotSaved, OutputShort}

-- the first of each row, and the others
unfoldable pub heads : List (List ℕ) → List ℕ
heads [] = []
heads (row ∷ rows) = get_or row 0 0 ∷ heads rows

unfoldable pub tails : List (List ℕ) → List (List ℕ)
tails [] = []
tails (row ∷ rows) = drop 1 row ∷ tails rows

-- rows of n numbers each, written below each other and read by columns, the leftmost column first
unfoldable pub columns : ℕ → List (List ℕ) → List (List ℕ)
columns zero rows = []
columns (suc n) rows = heads rows ∷ columns n (tails rows)

-- the rows of bits of numbers of n bits, and the numbers that rows of bits make, leftmost bits first
unfoldable pub bit_rows : ℕ → List ℕ → List (List ℕ)
bit_rows n [] = []
bit_rows n (x ∷ xs) = digits 2 n x ∷ bit_rows n xs

unfoldable pub numbers : List (List ℕ) → List ℕ
numbers [] = []
numbers (row ∷ rows) = number 2 0 row ∷ numbers rows

-- for each of n bit places, leftmost first, the number that holds that bit of each of these numbers, the first one's highest
unfoldable pub turned : ℕ → List ℕ → List ℕ
turned n xs = numbers (columns n (bit_rows n xs))

-- bit p of each of these numbers of n bits
unfoldable pub bits_at : ℕ → ℕ → List ℕ → List ℕ
bits_at n p [] = []
bits_at n p (x ∷ xs) = (x / 2 ^ (n - suc p) % 2) ∷ bits_at n p xs

-- the same for each of so many groups of m numbers, one after the other
unfoldable pub turned_groups : ℕ → ℕ → ℕ → List ℕ → List ℕ
turned_groups n m zero xs = []
turned_groups n m (suc groups) xs = turned n (take m xs) ++ turned_groups n m groups (drop m xs)

-- how many groups of eight so many words have
unfoldable pub groups_of : ℕ → ℕ
groups_of words = (words + 7) / 8

-- the last group is filled up with zero words
unfoldable pub filled_up : List ℕ → List ℕ
filled_up ws = ws ++ replicate (8 * groups_of (length ws) - length ws) 0

-- the bytes of words of b bits
unfoldable pub saved : ℕ → List ℕ → List ℕ
saved b ws = turned_groups b 8 (groups_of (length ws)) (filled_up ws)

-- the words of bytes, those that fill up included, and the first n of them
unfoldable pub all_loaded : ℕ → ℕ → List ℕ → List ℕ
all_loaded b n bytes = turned_groups 8 b (groups_of n) bytes

unfoldable pub loaded : ℕ → ℕ → List ℕ → List ℕ
loaded b n bytes = take n (all_loaded b n bytes)

-- each of these is below a bound
unfoldable pub each_below : ℕ → List ℕ → Bool
each_below bound [] = true
each_below bound (x ∷ xs) = ltb x bound && each_below bound xs

-- 33: a word to save does not fit the width
unfoldable pub fits_width : ℕ → List ℕ → Bool
fits_width b = each_below (2 ^ b)

-- 34: the byte count is not b times the groups, or a fill bit is one
unfoldable pub is_saved : ℕ → ℕ → List ℕ → Bool
is_saved b n bytes = eqb (length bytes) (b * groups_of n) && each_below 1 (drop n (all_loaded b n bytes))

-- what a call answers and what it leaves in its output
pub record Left : Type 0 where
  pub answer : Result ℕ KeepError
  pub output : List ℕ

-- these written from the start of an output that has room, and how many they are; 35 where it has none
unfoldable pub written : List ℕ → List ℕ → Left
written xs output =
    cond (leb (length xs) (length output)) (record { answer = Ok (length xs); output = xs ++ drop (length xs) output })
    (record { answer = Err OutputShort; output = output })

-- saving: 31, 33, 35
unfoldable pub saving : ℕ → List ℕ → List ℕ → Left
saving b ws output =
    cond (is_width b)
    (cond (fits_width b ws) (written (saved b ws) output) (record { answer = Err WordTooWide; output = output }))
    (record { answer = Err NoWidth; output = output })

-- loading: 31, 34, 35
unfoldable pub loading : ℕ → ℕ → List ℕ → List ℕ → Left
loading b n bytes output =
    cond (is_width b)
    (cond (is_saved b n bytes) (written (loaded b n bytes) output) (record { answer = Err NotSaved; output = output }))
    (record { answer = Err NoWidth; output = output })

-- answers in numbers: the count, or the refusal
unfoldable pub told_kept : Result ℕ KeepError → Told ℕ
told_kept (Ok n) = gives n
told_kept (Err NoWidth) = refuses 31
told_kept (Err WordTooWide) = refuses 33
told_kept (Err NotSaved) = refuses 34
told_kept (Err OutputShort) = refuses 35

-- what saving and loading tell: 31, 33, 35 and 31, 34, 35
unfoldable pub written_told : List ℕ → List ℕ → Told ℕ
written_told xs output = cond (leb (length xs) (length output)) (gives (length xs)) (refuses 35)

unfoldable pub saving_told : ℕ → List ℕ → List ℕ → Told ℕ
saving_told b ws output = cond (is_width b) (cond (fits_width b ws) (written_told (saved b ws) output) (refuses 33)) (refuses 31)

unfoldable pub loading_told : ℕ → ℕ → List ℕ → List ℕ → Told ℕ
loading_told b n bytes output =
    cond (is_width b) (cond (is_saved b n bytes) (written_told (loaded b n bytes) output) (refuses 34)) (refuses 31)
