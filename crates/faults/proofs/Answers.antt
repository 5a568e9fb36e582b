-- Walks and scans in numbers: no two are told alike, and what is told of a scan says which line it read. Assumes nothing.
use Prim.Native.Nat.{ℕ}
use mathlib.Core.Bool.{cond}
use mathlib.Core.List.{List, [], ◌∷◌}
use mathlib.Core.Option.{Option, none, some}
use mathlib.Core.Path.{◌≡◌, refl, sym, ap, ◌∙◌}
use lib.Dec.{eqb}
use Rattle.word.specs.Told.{Told, tells}
use Rattle.lines.specs.Grammar.{Line, Typed}
use Rattle.faults.specs.declared.Scan.{Scan}
use Rattle.faults.specs.declared.Walk.{Walk}
use Rattle.faults.specs.declared.Walk.TheVariants.{Start, Broken, Mode, Tests, Then, Operations, End}
use Rattle.faults.specs.Checking.{Scanned}
use Rattle.std.specs.Prelude.{Some, None}
use Rattle.faults.specs.Checking.{scanned_line, line_read, line_told, typed_told, told_scanned, told_walk}

pub same_walk : {a b : Walk} → told_walk a ≡ told_walk b → a ≡ b
unfolding told_walk
same_walk {a} {b} e = sym (back a) ∙ ap walk_of e ∙ back b
  where
    walk_of : Told (ℕ × Scan) → Walk
    walk_of (tells n []) = cond (eqb n 0) Start Broken
    walk_of (tells n ((k, c) ∷ xs)) =
        cond (eqb k 1) (Mode c) (cond (eqb k 2) (Tests c) (cond (eqb k 3) (Then c) (cond (eqb k 4) (Operations c) (End c))))

    back : (a : Walk) → walk_of (told_walk a) ≡ a
    back Start = refl
    back Broken = refl
    back (Mode c) = refl
    back (Tests c) = refl
    back (Then c) = refl
    back (Operations c) = refl
    back (End c) = refl

pub same_scanned : {a b : Scanned} → told_scanned a ≡ told_scanned b → a ≡ b
same_scanned {a} {b} e = sym (back a) ∙ ap scanned_of e ∙ back b
  where
    scanned_of : Told Scan → Scanned
    scanned_of (tells n []) = None
    scanned_of (tells n (c ∷ cs)) = Some c

    back : (a : Scanned) → scanned_of (told_scanned a) ≡ a
    back (Some c) = refl
    back None = refl

module _ (s : List ℕ) (x : Option Typed) where
  pub scan_tells : (r : Scanned) → scanned_line s r ≡ line_read x → line_told s (told_scanned r) ≡ typed_told x
  unfolding line_told scanned_line line_read typed_told
  scan_tells r e = by_scan r ∙ ap line_of e ∙ by_read x
    where
      line_of : Option Line → Told Line
      line_of none = tells 23 []
      line_of (some l) = tells 0 (l ∷ [])

      by_scan : (r : Scanned) → line_told s (told_scanned r) ≡ line_of (scanned_line s r)
      by_scan (Some c) = refl
      by_scan None = refl

      by_read : (x : Option Typed) → line_of (line_read x) ≡ typed_told x
      by_read none = refl
      by_read (some t) = refl

  pub scan_is : (r : Scanned) → line_told s (told_scanned r) ≡ typed_told x → scanned_line s r ≡ line_read x
  unfolding line_told scanned_line line_read typed_told
  scan_is r e = sym (by_scan r) ∙ ap line_of e ∙ by_read x
    where
      line_of : Told Line → Option Line
      line_of (tells n []) = none
      line_of (tells n (l ∷ ls)) = some l

      by_scan : (r : Scanned) → line_of (line_told s (told_scanned r)) ≡ scanned_line s r
      by_scan (Some c) = refl
      by_scan None = refl

      by_read : (x : Option Typed) → line_of (typed_told x) ≡ line_read x
      by_read none = refl
      by_read (some t) = refl
