-- What a reader may take from the definitions of opening hours. Assumes nothing.
use Prim.Native.Nat.{ℕ, ◌+◌, ◌%◌, ◌<◌}
use native.Mathlib.Omega.{arith}
use mathlib.Core.Bool.{Bool, true, false, ◌&&◌, cond}
use mathlib.Core.List.{List, [], ◌∷◌, Memᴰ}
use mathlib.Core.Path.{◌≡◌, refl, sym, ap, ◌∙◌}
use borrow.Author.Tests.{eqb-true, le-leb, lt-ltb, le-ltb}
use lib.Dec.{eqb, leb}
use lib.ListN.{length}
use Rattle.word.proofs.Tests.{and_true, and_false}
use Rattle.hours.specs.declared.Entry.{Entry}
use Rattle.std.proofs.Common.{Option, None, Ok}
use Rattle.hours.specs.Hours.{weekday, window, exception, entries, has_hours, has_zeros, has_name, keeps, all_keep_of, holds}
use Rattle.hours.specs.Hours.{any_names, naming, counting, first_holding, list_keeps, accepts, open_at}

-- day 0 is a Saturday, day 2 a Monday, and a week later is the same weekday
pub first_days : (weekday 0 ≡ 5) × (weekday 2 ≡ 0)
first_days = (refl, refl)

pub week_later : (day : ℕ) → weekday (day + 7) ≡ weekday day
week_later day = omega arith

module _ (e : Entry) where
  -- the opening minute is open, the closing minute is closed
  pub opening_open : e.opening < e.closing → holds e.opening e ≡ true
  opening_open some = rw (le-leb e.opening e.opening (omega arith), lt-ltb _ _ some)

  pub closing_closed : e.opening < e.closing → holds e.closing e ≡ false
  closing_closed some = rw (le-leb e.opening e.closing (omega arith), le-ltb e.closing e.closing (omega arith))

  -- what an entry that keeps the rules has besides its name
  pub kept : (n : ℕ) → keeps n e ≡ true → cond (eqb e.closed 0) (has_hours e) (eqb e.closed 1 && has_zeros e) ≡ true
  unfolding keeps
  kept n so = (and_true (has_name n e) (cond (eqb e.closed 0) (has_hours e) (eqb e.closed 1 && has_zeros e)) so).1

  -- a closed exception never answers
  pub closed_never_holds : (n : ℕ) → keeps n e ≡ true → e.closed ≡ 1 → (minute : ℕ) → holds minute e ≡ false
  closed_never_holds n so is minute =
      let zeros : has_zeros e ≡ true = rw is at (kept n so) in
      let rest : (eqb e.closing 0 && eqb e.row 0) ≡ true = (and_true (eqb e.opening 0) _ zeros).1 in
      let none : e.closing ≡ 0 = eqb-true _ _ (and_true (eqb e.closing 0) (eqb e.row 0) rest).0 in
      rw (le-ltb minute e.closing (omega arith)) (and_false (leb e.opening minute))

-- every entry of a list that keeps the rules keeps them
pub keeps_each : (n : ℕ) {e : Entry} {es : List Entry} → all_keep_of n es ≡ true → Memᴰ e es → keeps n e ≡ true
unfolding all_keep_of
keeps_each n {e} all (Memᴰ.head {x = x} {xs = xs} is) = ap (keeps n) is ∙ (and_true (keeps n x) (all_keep_of n xs) all).0
keeps_each n {e} all (Memᴰ.tail {x = x} {xs = xs} m) = keeps_each n (and_true (keeps n x) (all_keep_of n xs) all).1 m

-- where none that is named holds the minute, the answer is closed
none_hold : (k minute : ℕ) (es : List Entry) → ((e : Entry) → Memᴰ e es → e.name ≡ k → holds minute e ≡ false)
    → first_holding minute (naming k es) ≡ None
unfolding naming first_holding
none_hold k minute [] h = refl
none_hold k minute (e ∷ es) h = pick (eqb e.name k) refl (none_hold k minute es (λ x m. h x (Memᴰ.tail m)))
  where
    pick : (t : Bool) → eqb e.name k ≡ t → first_holding minute (naming k es) ≡ None
        → first_holding minute (cond t (e ∷ naming k es) (naming k es)) ≡ None
    pick true is rest = rw (h e (Memᴰ.head refl) (eqb-true _ _ is)) rest
    pick false is rest = rest

module _ (exceptions : List ℕ) (day minute : ℕ) (some : any_names day (entries exception exceptions) ≡ true) where
  by_day : (windows : List ℕ) → accepts windows exceptions minute ≡ true
      → open_at windows exceptions day minute ≡ Ok (first_holding minute (naming day (entries exception exceptions)))
  unfolding open_at counting
  by_day windows so = rw (so, some)

  -- where an exception names the day, windows have no bearing
  pub windows_no_bearing : (one other : List ℕ) → accepts one exceptions minute ≡ true → accepts other exceptions minute ≡ true
      → open_at one exceptions day minute ≡ open_at other exceptions day minute
  windows_no_bearing one other h h' = by_day one h ∙ sym (by_day other h')

  -- a closed exception hides the windows of its day: where those that name the day are closed, the answer is closed
  pub closed_hides : (windows : List ℕ) → accepts windows exceptions minute ≡ true
      → ((e : Entry) → Memᴰ e (entries exception exceptions) → e.name ≡ day → e.closed ≡ 1) → open_at windows exceptions day minute ≡ Ok None
  unfolding accepts list_keeps
  closed_hides windows so shut =
      let both = (and_true (list_keeps window windows) (list_keeps exception exceptions && leb minute 1439) so).1 in
      let list = (and_true (list_keeps exception exceptions) (leb minute 1439) both).0 in
      let all = (and_true (eqb (length exceptions % exception) 0) (all_keep_of exception (entries exception exceptions)) list).1 in
      by_day windows so
      ∙ ap (λ (o : Option ℕ). Ok o) (none_hold day minute (entries exception exceptions)
      (λ e m is. closed_never_holds e exception (keeps_each exception all m) (shut e m is) minute))
