-- What the call answers and leaves: by the refusal of its text, or by its rows. Assumes nothing.
use Prim.Native.Nat.{ℕ, suc, ◌*◌, ◌≤◌}
use native.Mathlib.Omega.{arith}
use mathlib.Core.Path.{◌≡◌, refl, ap, ap₂, sym, subst, ◌∙◌}
use mathlib.Core.Bool.{true, false, cond}
use mathlib.Core.List.{List, [], ◌∷◌, ◌++◌}
use mathlib.Core.Option.{Option, some}
use borrow.Author.Tests.{eq-eqb, ne_eqb}
use lib.Dec.{eqb}
use lib.ListN.{length, drop}
use Rattle.word.specs.Word.{is_width}
use Rattle.word.proofs.Tests.{by_test, by_eqb}
use Rattle.std.specs.Prelude.{Result, Ok, Err}
use Rattle.lines.specs.declared.ReadError.{ReadError}
use Rattle.lines.specs.declared.ReadError.TheVariants.{NoWidth, BadLine, BadLabel, TooLong}
use Rattle.lines.specs.Grammar.{Line, Typed}
use Rattle.lines.specs.Reading.{read_lines}
use Rattle.word.specs.Told.{Told, tells, gives, value}
use Rattle.lines.specs.Program.{table_of, row_count, kept_lines, bad_labels, too_long, fault_of, Refusal, lowest_fault}
use Rattle.lines.specs.Program.{refusal_of, program, Left, refused, reading, read_at, told_read, refusal_told, read_told}
use Rattle.lines.proofs.Accepted.{Accepted, accepted}
use Rattle.faults.specs.Places.{lines_in}
use Rattle.faults.proofs.Faults.{error_refused}
use Rattle.faults.proofs.Judged.{lines_cut, program_lines, nothing_typed}
use Rattle.typed.specs.Putting.{reading_told, Roomy}

-- no two answers are told alike
same_read : {a b : Result ℕ ReadError} → told_read a ≡ told_read b → a ≡ b
unfolding told_read value
same_read {a} {b} e = sym (back a) ∙ ap numbered e ∙ back b
  where
    numbered : Told ℕ → Result ℕ ReadError
    numbered (tells n xs) =
        let x = value (tells n xs) in
        cond (eqb n 0) (Ok x)
        (Err (cond (eqb n 23) (BadLine x) (cond (eqb n 24) (BadLabel x) (cond (eqb n 25) (TooLong x) NoWidth))))

    back : (a : Result ℕ ReadError) → numbered (told_read a) ≡ a
    back (Ok n) = refl
    back (Err NoWidth) = refl
    back (Err (BadLine line)) = refl
    back (Err (BadLabel line)) = refl
    back (Err (TooLong line)) = refl

module _ (b : ℕ) (text table : List ℕ) where
  abbrev its : Refusal
  its = refusal_of b (length table) text

  -- a refusal
  pub refused_table : (e : ReadError) (n : ℕ) → told_read (Err e) ≡ refusal_told its n → table ≡ (reading b text table).table
  unfolding reading
  refused_table e n told = rw (ne_eqb its.number 0 (error_refused e its n told))

  -- none
  module _ (clear : its.number ≡ 0) where
    typed_some : length text ≡ 0 → ⊥
    typed_some z = let e = ap (λ (q : Refusal). q.number) (nothing_typed b (length table) text z) in omega (arith, clear)

    accepted_here : Accepted b (length table) text
    accepted_here = accepted b (length table) text clear

    same_lines : program b text ≡ lines_in b text
    same_lines = program_lines b text typed_some

    pub accepted_few : row_count (lines_in b text) ≤ 800
    accepted_few = subst (λ (ls : List Line). row_count ls ≤ 800) same_lines accepted_here.short

    pub accepted_roomy : Roomy b text table
    accepted_roomy =
        record {
          lines = accepted_here.lines;
          good = sym (lines_cut b text typed_some) ∙ accepted_here.whole;
          room = subst (λ (ls : List Line). 10 * row_count ls ≤ length table) same_lines accepted_here.fits_in;
        }

    pub accepted_table : {after : List ℕ} → after ≡ table_of b (lines_in b text) ++ drop (10 * row_count (lines_in b text)) table
        → after ≡ (reading b text table).table
    unfolding reading
    accepted_table f =
        rw (eq-eqb its.number 0 clear) (f ∙ ap (λ (ls : List Line). table_of b ls ++ drop (10 * row_count ls) table) (sym same_lines))

-- the numbers of an answer
one_of : (b lent : ℕ) (every before : List Line) (o : Option Typed) (P : ℕ → Type 0) → P 0 → P 23 → P 24 → P 25 → P (fault_of b lent every before o)
unfolding fault_of
one_of b lent every before Option.none P none line label long = line
one_of b lent every before (some t) P none line label long =
    by_test (λ x. P (cond x 24 (cond (too_long lent (row_count (before ++ t.line ∷ []))) 25 0))) (bad_labels b every before t.line) (λ _. label)
    (λ _. by_test (λ x. P (cond x 25 0)) (too_long lent (row_count (before ++ t.line ∷ []))) (λ _. long) (λ _. none))

-- a refusal by one of the numbers is told with its line
Fair : Refusal → Type 0
Fair r = (r.number ≡ 0 → ⊥) → told_read (Err (refused r)) ≡ tells r.number (r.line ∷ [])

fair_fault : (b lent : ℕ) (every before : List Line) (o : Option Typed) (line : ℕ) → Fair (record { number = fault_of b lent every before o; line = line })
unfolding Fair refused told_read
fair_fault b lent every before o line =
    one_of b lent every before o (λ n. (n ≡ 0 → ⊥) → told_read (Err (refused (record { number = n; line = line }))) ≡ tells n (line ∷ [])) (λ h. absurd (h refl))
    (λ _. refl) (λ _. refl) (λ _. refl)

fair : (b lent : ℕ) (every before : List Line) (line : ℕ) (ts : List (Option Typed)) → Fair (lowest_fault b lent every before line ts)
unfolding Fair lowest_fault
fair b lent every before line [] = λ h. absurd (h refl)
fair b lent every before line (t ∷ ts) =
    let later = fair b lent every (before ++ kept_lines (t ∷ [])) (suc line) ts in
    by_eqb (λ x. Fair (cond x (lowest_fault b lent every (before ++ kept_lines (t ∷ [])) (suc line) ts)
    (record { number = fault_of b lent every before t; line = line })))
    (fault_of b lent every before t) 0 (λ _. later) (λ _. fair_fault b lent every before t line)

fair_text : (b lent : ℕ) (text : List ℕ) → Fair (refusal_of b lent text)
unfolding refusal_of
fair_text b lent text = fair b lent (kept_lines (read_lines b text)) [] 1 (read_lines b text)

answer_is : (b : ℕ) (text table : List ℕ)
    → (reading b text table).answer ≡ cond (eqb (refusal_of b (length table) text).number 0) (Ok (row_count (program b text)))
    (Err (refused (refusal_of b (length table) text)))
unfolding reading
answer_is b text table =
    by_test (λ x. (cond {A = Left} x
    (record { answer = Ok (row_count (program b text)); table = table_of b (program b text) ++ drop (10 * row_count (program b text)) table })
    (record { answer = Err (refused (refusal_of b (length table) text)); table = table })).answer ≡ cond x (Ok (row_count (program b text)))
    (Err (refused (refusal_of b (length table) text))))
    (eqb (refusal_of b (length table) text).number 0) (λ _. refl) (λ _. refl)

told_by : (r : Refusal) → Fair r → (n : ℕ) → told_read (cond (eqb r.number 0) (Ok n) (Err (refused r))) ≡ refusal_told r n
unfolding Fair told_read refusal_told
told_by r f n =
    by_eqb (λ x. told_read (cond x (Ok n) (Err (refused r))) ≡ cond x (gives n) (tells r.number (r.line ∷ []))) r.number 0 (λ _. refl) f

module _ (b : ℕ) (text table : List ℕ) where
  -- a width that is none
  pub no_width_reading : is_width b ≡ false
      → (record { answer = Err NoWidth; table = table } ≡ read_at b text table) × (told_read (Err NoWidth) ≡ read_told b text table)
  unfolding read_at told_read read_told
  no_width_reading w = (rw w, rw w)

  -- otherwise a reading and its numbers
  reading_told_lem : told_read (reading b text table).answer ≡ reading_told b text table
  reading_told_lem =
      ap told_read (answer_is b text table)
      ∙ told_by (refusal_of b (length table) text) (fair_text b (length table) text) (row_count (program b text))

  module _ {answer : Result ℕ ReadError} {after : List ℕ} where
    pub numbers : is_width b ≡ true → told_read answer ≡ reading_told b text table → after ≡ (reading b text table).table
        → (record { answer = answer; table = after } ≡ read_at b text table) × (told_read answer ≡ read_told b text table)
    unfolding read_at read_told
    numbers w told left =
        let is = ap₂ {C = Left} (λ (a : Result ℕ ReadError) (t : List ℕ). record { answer = a; table = t }) (same_read (told ∙ sym reading_told_lem)) left in
        (rw w is, rw w told)
