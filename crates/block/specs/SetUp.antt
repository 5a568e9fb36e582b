-- The numbers of a set-up, the words that they set up, and the aligned runs there.
-- Document 01: "Words and set-up" and "Blocks". Assumes nothing.
use Rattle.std.specs.Prelude.{ℕ, suc, ◌-◌, ◌/◌, ◌%◌, Bool, ◌&&◌, cond, List, eqb, leb, ltb}
use Rattle.block.specs.declared.SetUp.{SetUp}
use Rattle.block.specs.Blocks.{size, level, Block, runs_from}

-- d is 1, 2, 4, .. or 128: the place of its size among the sizes
unfoldable pub top : ℕ → ℕ
top d = level 7 d

-- the set-up words: n = s2 - s1 + 1 of them, none before a set-up
unfoldable pub words : SetUp → ℕ
words u = cond (eqb u.d 0) 0 (suc u.s2 - u.s1)

-- the numbers d, s1, s2 fit a lent storage of this length; otherwise refusal 3
unfoldable pub fitting : ℕ → SetUp → Bool
fitting lent u =
    eqb (size (top u.d)) u.d
    && ltb 0 u.s1
    && eqb (u.s1 % u.d) 0
    && leb u.s1 u.s2
    && leb u.s2 32767
    && eqb (words u % u.d) 0
    && leb (words u) 4096
    && leb (words u) lent

-- before a set-up all three are zero
unfoldable pub absent : SetUp → Bool
absent u = eqb u.d 0 && eqb u.s1 0 && eqb u.s2 0

-- the aligned runs of n words in the set-up words that lie outside these blocks, lowest first
unfoldable pub runs : ℕ → SetUp → List Block → List ℕ
runs n u live = runs_from n u.s1 live (words u / n)
