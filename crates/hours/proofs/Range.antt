-- A row that is answered is one from 1 to 799, so the number 0 says that there is none. Assumes nothing.
use Prim.Native.Nat.{ℕ, ◌%◌, ◌≤◌}
use native.Mathlib.Omega.{arith}
use mathlib.Core.Bool.{Bool, true, false, ◌&&◌, cond}
use mathlib.Core.List.{List, [], ◌∷◌}
use mathlib.Core.Path.{◌≡◌, refl}
use borrow.Author.Tests.{eqb-true, leb-true}
use lib.Dec.{eqb, leb, ltb}
use lib.ListN.{length}
use Rattle.word.proofs.Tests.{and_true}
use Rattle.hours.specs.declared.Entry.{Entry}
use Rattle.hours.specs.declared.BadHours.{BadHours}
use Rattle.std.proofs.Common.{Some, Result, Ok, Err, Option}
use Rattle.hours.specs.Hours.{weekday, window, exception, entries, has_hours, has_zeros, keeps, all_keep_of, holds}
use Rattle.hours.specs.Hours.{any_names, naming, counting, first_holding, list_keeps, accepts, open_at}
use Rattle.hours.proofs.Laws.{kept, closed_never_holds}

module _ (n : ℕ) (e : Entry) (so : keeps n e ≡ true) where
  -- an entry that holds a minute is not closed
  pub holding_open : (minute : ℕ) → holds minute e ≡ true → has_hours e ≡ true
  holding_open minute held = pick (eqb e.closed 0) (kept e n so)
    where
      pick : (t : Bool) → cond t (has_hours e) (eqb e.closed 1 && has_zeros e) ≡ true → has_hours e ≡ true
      pick true is = is
      pick false is =
          let shut : e.closed ≡ 1 = eqb-true _ _ (and_true (eqb e.closed 1) (has_zeros e) is).0 in
          let never : holds minute e ≡ false = closed_never_holds e n so shut minute in
          cc

  row_held : (minute : ℕ) → holds minute e ≡ true → (1 ≤ e.row) × (e.row ≤ 799)
  row_held minute held =
      let hours = holding_open minute held in
      let late = (and_true (ltb e.opening e.closing) _ hours).1 in
      let row = (and_true (leb e.closing 1440) (leb 1 e.row && leb e.row 799) late).1 in
      let (low, high) = and_true (leb 1 e.row) (leb e.row 799) row in
      (leb-true 1 e.row low, leb-true e.row 799 high)

keeps_naming : (n k : ℕ) (es : List Entry) → all_keep_of n es ≡ true → all_keep_of n (naming k es) ≡ true
unfolding all_keep_of naming
keeps_naming n k [] all = refl
keeps_naming n k (e ∷ es) all =
    let (first, rest) = and_true (keeps n e) (all_keep_of n es) all in
    pick (eqb e.name k) first (keeps_naming n k es rest)
  where
    pick : (t : Bool) → keeps n e ≡ true → all_keep_of n (naming k es) ≡ true → all_keep_of n (cond t (e ∷ naming k es) (naming k es)) ≡ true
    pick true first rest = rw (first, rest)
    pick false first rest = rest

found_row : (n minute r : ℕ) (es : List Entry) → all_keep_of n es ≡ true → first_holding minute es ≡ Some r → (1 ≤ r) × (r ≤ 799)
unfolding all_keep_of first_holding
found_row n minute r [] all is = cc
found_row n minute r (e ∷ es) all is =
    let (first, rest) = and_true (keeps n e) (all_keep_of n es) all in
    pick (holds minute e) refl first (found_row n minute r es rest) is
  where
    pick : (t : Bool) → holds minute e ≡ t → keeps n e ≡ true → (first_holding minute es ≡ Some r → (1 ≤ r) × (r ≤ 799))
        → cond t (Some e.row) (first_holding minute es) ≡ Some r → (1 ≤ r) × (r ≤ 799)
    pick true held first later is =
        let same : e.row ≡ r = cc in
        let (low, high) = row_held n e first minute held in
        (omega arith, omega arith)
    pick false held first later is = later is

-- a row that is answered is one from 1 to 799
pub row_in_range : (windows exceptions : List ℕ) (day minute r : ℕ) → open_at windows exceptions day minute ≡ Ok (Some r) → (1 ≤ r) × (r ≤ 799)
unfolding open_at accepts list_keeps counting
row_in_range windows exceptions day minute r = tested (accepts windows exceptions minute) refl
  where
    one_list : (n k : ℕ) (xs : List ℕ) → list_keeps n xs ≡ true → first_holding minute (naming k (entries n xs)) ≡ Some r → (1 ≤ r) × (r ≤ 799)
    one_list n k xs list is =
        found_row n minute r (naming k (entries n xs))
        (keeps_naming n k (entries n xs) (and_true (eqb (length xs % n) 0) (all_keep_of n (entries n xs)) list).1) is

    by_day : (t : Bool) → list_keeps window windows ≡ true → list_keeps exception exceptions ≡ true
        → first_holding minute (cond t (naming day (entries exception exceptions)) (naming (weekday day) (entries window windows))) ≡ Some r
        → (1 ≤ r) × (r ≤ 799)
    by_day true w x is = one_list exception day exceptions x is
    by_day false w x is = one_list window (weekday day) windows w is

    tested : (t : Bool) → accepts windows exceptions minute ≡ t
        → ◌≡◌ {A = Result (Option ℕ) BadHours}
        (cond t (Ok (first_holding minute (counting day (entries window windows) (entries exception exceptions)))) (Err (record {}))) (Ok (Some r))
        → (1 ≤ r) × (r ≤ 799)
    tested false so is = cc
    tested true so is =
        let (w, both) = and_true (list_keeps window windows) (list_keeps exception exceptions && leb minute 1439) so in
        let found : first_holding minute (counting day (entries window windows) (entries exception exceptions)) ≡ Some r = cc in
        by_day (any_names day (entries exception exceptions)) w (and_true (list_keeps exception exceptions) (leb minute 1439) both).0 found
