-- The operands that each code takes.
-- Document 01: "The table" and "Operations". Assumes nothing.
use Rattle.std.specs.Prelude.{ℕ, ◌^◌, Bool, true, false, ◌&&◌, ◌||◌, List, [], ◌∷◌, eqb, leb, ltb}
use Rattle.table.specs.declared.Pair.{Pair}
use Rattle.table.specs.declared.Operand.{Operand}
use Rattle.table.specs.declared.Operand.TheVariants.{Absent, Literal, Reference, Either, ReferenceOrAbsent, ReferenceOrZero}
use Rattle.table.specs.declared.Operand.TheVariants.{Line}
use Rattle.table.specs.declared.Shape.{Shape}
use Rattle.table.specs.Reference.{is_reference}

-- form 0, absent: its value is unused and so zero
abbrev pub is_absent : Pair → Bool
is_absent p = eqb p.form 0 && eqb p.value 0

-- form 1, a literal below 2 ^ b
abbrev pub is_literal : ℕ → Pair → Bool
is_literal b p = eqb p.form 1 && ltb p.value (2 ^ b)

-- form 2, a reference
abbrev pub is_ref : Pair → Bool
is_ref p = eqb p.form 2 && is_reference p.value

-- the literal 0
abbrev pub is_zero : Pair → Bool
is_zero p = eqb p.form 1 && eqb p.value 0

-- a pair is such an operand, in a table of this many rows
abbrev pub takes : ℕ → ℕ → Operand → Pair → Bool
takes b rows Absent p = is_absent p
takes b rows Literal p = is_literal b p
takes b rows Reference p = is_ref p
takes b rows Either p = is_literal b p || is_ref p
takes b rows ReferenceOrAbsent p = is_ref p || is_absent p
takes b rows ReferenceOrZero p = is_ref p || is_zero p
takes b rows Line p = is_literal b p && (leb 1 p.value && ltb p.value rows)

-- the shape of a code with no name, and of one with a name
abbrev pub shape : Operand → Operand → Operand → Shape
shape x y z = record { named = false; first = x; second = y; third = z }

abbrev pub named_shape : Operand → Operand → Operand → Shape
named_shape x y z = record { named = true; first = x; second = y; third = z }

-- a test: (c, code, cd)
abbrev pub test_shape : Shape
test_shape = shape Reference Either Absent

-- the 36 operations' operands, in the order of their codes
unfoldable pub shapes : List Shape
shapes =
    shape Literal Literal Literal  -- 1 set up (d, s1, s2)
    ∷ named_shape Either Either Either  -- 2 define name (word, left, right)
    ∷ shape Reference Either ReferenceOrAbsent  -- 3 get (a, size, optional a2)
    ∷ shape Reference ReferenceOrZero Absent  -- 4 free (a, c or literal 0)
    ∷ shape Reference Reference Absent  -- 5 duplicate (a, c)
    ∷ shape Reference Either Absent  -- 6 copy (a, cd)
    ∷ shape Reference Reference Absent  -- 7 interchange (a1, a2)
    ∷ shape Reference Either Absent  -- 8 add (a, cd)
    ∷ shape Reference Either Absent  -- 9 subtract (a, cd)
    ∷ shape Reference Either Absent  -- 10 multiply (a, cd)
    ∷ shape Reference Either Absent  -- 11 divide (a, cd)
    ∷ shape Reference Either Absent  -- 12 or (a, cd)
    ∷ shape Reference Either Absent  -- 13 and (a, cd)
    ∷ shape Reference Either Absent  -- 14 exclusive or (a, cd)
    ∷ shape Reference Either Absent  -- 15 complement (a, cd)
    ∷ shape Reference Reference Absent  -- 16 count ones (a, c)
    ∷ shape Reference Reference Absent  -- 17 count zeros (a, c)
    ∷ shape Reference Reference Absent  -- 18 leftmost one (a, c)
    ∷ shape Reference Reference Absent  -- 19 rightmost one (a, c)
    ∷ shape Reference Reference Absent  -- 20 leftmost zero (a, c)
    ∷ shape Reference Reference Absent  -- 21 rightmost zero (a, c)
    ∷ shape Reference Either Absent  -- 22 left shift (a, cd)
    ∷ shape Reference Either Absent  -- 23 right shift (a, cd)
    ∷ shape Reference Either Absent  -- 24 input (a, cd)
    ∷ shape Either Either Absent  -- 25 print (cd, cd)
    ∷ shape Reference Reference Absent  -- 26 blanks to zeros (a, c)
    ∷ shape Reference Reference Absent  -- 27 decimal to binary (a, c)
    ∷ shape Reference Reference Absent  -- 28 octal to binary (a, c)
    ∷ shape Reference Reference Absent  -- 29 binary to decimal (a, c)
    ∷ shape Reference Reference Absent  -- 30 binary to octal (a, c)
    ∷ shape Reference Reference Absent  -- 31 zeros to blanks (a, c)
    ∷ shape Reference Absent Absent  -- 32 save contents (a)
    ∷ shape Reference Absent Absent  -- 33 restore contents (a)
    ∷ named_shape Absent Absent Absent  -- 34 save the definition of name
    ∷ named_shape Absent Absent Absent  -- 35 restore the definition of name
    ∷ shape Line Absent Absent  -- 36 DO (a row)
    ∷ []
