-- What the search answers in numbers: no two answers are told alike, and what is told of the definitions' answers is what they tell.
-- Assumes nothing.
use Prim.Native.Nat.{ℕ, zero, suc, ◌-◌}
use native.Mathlib.Omega.{arith}
use mathlib.Core.Bool.{true, false, cond}
use mathlib.Core.List.{List, [], ◌∷◌}
use mathlib.Core.Path.{◌≡◌, refl, ap, sym, ◌∙◌}
use Rattle.word.specs.Told.{Told, tells, gives}
use Rattle.table.specs.declared.FieldName.{FieldName}
use Rattle.table.specs.Row.{rows, row_at}
use Rattle.std.specs.Prelude.{Option, Some, None}
use Rattle.defined.specs.declared.Use.{Use}
use Rattle.defined.specs.Kinds.{is_kind}
use Rattle.defined.specs.Paths.{fields_of}
use Rattle.defined.specs.Search.{has, Sets, set_at, final_marks, first_in, use_at, or_later, lowest_using, lowest_use, first_use}
use Rattle.defined.specs.Search.{told_used, told_first_use, first_told, use_told, later_told, using_told, lowest_told, first_use_told}

same_used : (u v : Option ℕ) → told_used u ≡ told_used v → u ≡ v
unfolding told_used
same_used (Some m) (Some n) e = let same : m ≡ n = cc in ap Some same
same_used (Some m) None e = absurd (let z : ◌≡◌ {A = ℕ} 0 1 = cc in omega arith)
same_used None (Some n) e = absurd (let z : ◌≡◌ {A = ℕ} 0 1 = cc in omega arith)
same_used None None e = refl

same_first_use : (u v : Option Use) → told_first_use u ≡ told_first_use v → u ≡ v
unfolding told_first_use
same_first_use (Some u) (Some v) e =
    let row : u.row ≡ v.row = cc in
    let field : u.field ≡ v.field = cc in
    let same : record { row = u.row; field = u.field } ≡ v = rw (row, field) in ap Some same
same_first_use (Some u) None e = absurd (let z : ◌≡◌ {A = ℕ} 0 1 = cc in omega arith)
same_first_use None (Some v) e = absurd (let z : ◌≡◌ {A = ℕ} 0 1 = cc in omega arith)
same_first_use None None e = refl

first_told_lem : (fs : List FieldName) (x : ℕ) → told_used (first_in fs x) ≡ first_told fs x
unfolding told_used first_in first_told
first_told_lem [] x = refl
first_told_lem (f ∷ fs) x =
    elim (has x f.0) as (λ t. told_used (cond t (Some f.0) (first_in fs x)) ≡ cond t (gives f.0) (first_told fs x)) [
      | true ↦ refl
      | false ↦ first_told_lem fs x
    ]

use_told_lem : (table : List ℕ) (r x : ℕ) → told_used (use_at table r x) ≡ use_told table r x
unfolding told_used use_at use_told
use_told_lem table r x =
    elim (is_kind table 1 r) as (λ t. told_used (cond t None (first_in (fields_of (row_at table r)) x))
    ≡ cond t (tells 0 []) (first_told (fields_of (row_at table r)) x)) [
      | true ↦ refl
      | false ↦ first_told_lem (fields_of (row_at table r)) x
    ]

later_told_lem : (r : ℕ) (u : Option ℕ) (later : Option Use) {t : Told ℕ} → told_first_use later ≡ t → told_first_use (or_later r u later) ≡ later_told r u t
unfolding told_first_use or_later later_told
later_told_lem r (Some n) later e = refl
later_told_lem r None later e = e

using_told_lem : (count : ℕ) (table : List ℕ) (r : ℕ) (marks : Sets) → told_first_use (lowest_using count table r marks) ≡ using_told count table r marks
unfolding told_first_use lowest_using using_told
using_told_lem zero table r marks = refl
using_told_lem (suc count) table r marks = later_told_lem r (use_at table r (set_at marks r)) _ (using_told_lem count table (suc r) marks)

lowest_told_lem : (table : List ℕ) (marks : Sets) → told_first_use (lowest_use table marks) ≡ lowest_told table marks
unfolding lowest_use lowest_told
lowest_told_lem table marks = using_told_lem (rows table - 1) table 1 marks

pub first_use_told_lem : (table : List ℕ) → told_first_use (first_use table) ≡ first_use_told table
unfolding first_use first_use_told
first_use_told_lem table = lowest_told_lem table (final_marks table)

-- an answer that is the definition's tells what the definition tells, and the other way round
module _ (fs : List FieldName) (x : ℕ) {u : Option ℕ} where
  pub first_tells : u ≡ first_in fs x → told_used u ≡ first_told fs x
  first_tells e = ap told_used e ∙ first_told_lem fs x

  pub first_is : told_used u ≡ first_told fs x → u ≡ first_in fs x
  first_is e = same_used _ _ (e ∙ sym (first_told_lem fs x))

module _ (table : List ℕ) (r x : ℕ) {u : Option ℕ} where
  pub use_tells : u ≡ use_at table r x → told_used u ≡ use_told table r x
  use_tells e = ap told_used e ∙ use_told_lem table r x

  pub use_is : told_used u ≡ use_told table r x → u ≡ use_at table r x
  use_is e = same_used _ _ (e ∙ sym (use_told_lem table r x))

pub lowest_tells : (table : List ℕ) (marks : Sets) {u : Option Use} → u ≡ lowest_use table marks → told_first_use u ≡ lowest_told table marks
lowest_tells table marks e = ap told_first_use e ∙ lowest_told_lem table marks

pub first_use_is : (table : List ℕ) {u : Option Use} → told_first_use u ≡ first_use_told table → u ≡ first_use table
first_use_is table e = same_first_use _ _ (e ∙ sym (first_use_told_lem table))
