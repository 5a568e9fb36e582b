-- The public check's answer, from what each part of it answers.
-- Assumes nothing.
use Prim.Native.Nat.{ℕ}
use mathlib.Core.Bool.{Bool, true, false, cond}
use mathlib.Core.List.{List, [], ◌∷◌}
use mathlib.Core.Path.{◌≡◌, refl, ap, sym, ◌∙◌}
use lib.Dec.{eqb}
use borrow.Author.Tests.{eq-eqb, ne_eqb}
use Rattle.word.specs.Word.{is_width}
use Rattle.table.specs.Row.{length_fits}
use Rattle.std.specs.Prelude.{Option, Some, None, Err}
use Rattle.defined.specs.declared.FieldsError.TheVariants.{NoWidth, BadLength, IllFormed, WrongKind}
use Rattle.defined.specs.declared.Use.{Use}
use Rattle.defined.specs.declared.accepted.Table.{Table}
use Rattle.std.proofs.Common.{Bor, ap₂}
use Rattle.defined.specs.Kinds.{wrong_row}
use Rattle.defined.specs.Search.{first_use, told_first_use, first_use_told}
use Rattle.word.specs.Told.{Told, tells, gives, refuses}
use Rattle.defined.specs.Answer.{ill_formed_row, FieldsCheck, saying, fields_checked, Meant, told_fields, fields_told}
use Rattle.defined.proofs.Decides.{meant, passing}
use Rattle.defined.proofs.Loops.{accepted}
use Rattle.defined.proofs.Telling.{first_use_is, first_use_told_lem}

-- no width
pub no_width : (b : ℕ) (table : List ℕ) → is_width b ≡ false → Err NoWidth ≡ fields_checked b table
unfolding fields_checked
no_width b table w = rw w

module _ (b : ℕ) (table : List ℕ) (wide : is_width b ≡ true) where
  pub bad_length : length_fits table ≡ false → Err BadLength ≡ fields_checked b table
  unfolding fields_checked
  bad_length short = rw (wide, short)

  module _ (long : length_fits table ≡ true) {r : ℕ} (is : r ≡ ill_formed_row b table) where
    pub ill_formed_lem : (r ≡ 0 → ⊥) → Err (IllFormed r) ≡ fields_checked b table
    unfolding fields_checked
    ill_formed_lem o = rw (wide, long, ← is, ne_eqb r 0 o)

    module _ (z : r ≡ 0) where
      none : ill_formed_row b table ≡ 0
      none = sym is ∙ z

      pub wrong_kind : {w : ℕ} → (wrong_row table ≡ 0 → ⊥) × (w ≡ wrong_row table) → Err (WrongKind w) ≡ fields_checked b table
      unfolding fields_checked
      wrong_kind {w} found = rw (wide, long, eq-eqb _ 0 none, ne_eqb _ 0 found.0, found.1)

-- a table that is accepted, and what is found in it
pub answered : (t : Table) {b : ℕ} {numbers : Bor (List ℕ)} → (t.width ≡ b) × (t.numbers ≡ numbers) → (u : Option Use)
    → told_first_use u ≡ first_use_told t.numbers.now → saying u ≡ fields_checked b numbers.now
answered t same u told =
    ap saying (first_use_is t.numbers.now told) ∙ sym (passing t.width t.numbers.now (accepted t).passes)
    ∙ ap₂ (λ w (n : Bor (List ℕ)). fields_checked w n.now) same.0 same.1

-- the promises: equality with what is computed, what it means, and the papers' numbers
pub promised : (b : ℕ) (table : List ℕ) {x : FieldsCheck} → x ≡ fields_checked b table
    → (x ≡ fields_checked b table) × (Meant b table x × (told_fields x ≡ fields_told b table))
unfolding fields_checked told_fields told_first_use fields_told saying
promised b table {x} is =
    let ill = ill_formed_row b table in
    let wrong = wrong_row table in
    let so = tell (is_width b) (length_fits table) (eqb ill 0) (eqb wrong 0) (first_use table) ill wrong (first_use_told_lem table) in
    (is, (meant b table x is, ap told_fields is ∙ so))
  where
    tell : (w x y z : Bool) (u : Option Use) (ill wrong : ℕ) {t : Told ℕ} → told_first_use u ≡ t
        → told_fields (cond w (cond x (cond y (cond z (saying u) (Err (WrongKind wrong))) (Err (IllFormed ill))) (Err BadLength)) (Err NoWidth))
        ≡ cond w (cond x (cond y (cond z t (tells 30 (wrong ∷ []))) (gives ill)) (refuses 1)) (refuses 31)
    tell true true true true (Some u) ill wrong k = k
    tell true true true true None ill wrong k = k
    tell true true true false u ill wrong k = refl
    tell true true false z u ill wrong k = refl
    tell true false y z u ill wrong k = refl
    tell false x y z u ill wrong k = refl
