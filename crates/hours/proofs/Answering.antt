-- The answer with its number. Assumes nothing.
use Rattle.std.proofs.Common.{◌≡◌, ℕ, Bool, true, false, List, [], ◌∷◌, cond, Option, Some, Result, Ok, refl, ap, ◌∙◌}
use Rattle.word.specs.Told.{Told, gives}
use Rattle.hours.specs.declared.Entry.{Entry}
use Rattle.hours.specs.declared.BadHours.{BadHours}
use Rattle.hours.specs.Hours.{window, exception, entries, holds, counting, first_holding, accepts, open_at, told_opening, holding_told, open_told}

-- what a search tells
row_told : (t : Bool) (r : ℕ) (o : Option ℕ) {told : Told ℕ} → told_opening (Ok o) ≡ told → told_opening (Ok (cond t (Some r) o)) ≡ cond t (gives r) told
unfolding told_opening
row_told true r o h = refl
row_told false r o h = h

pub search_told : (minute : ℕ) (es : List Entry) → told_opening (Ok (first_holding minute es)) ≡ holding_told minute es
unfolding first_holding holding_told told_opening
search_told minute [] = refl
search_told minute (e ∷ es) = row_told (holds minute e) e.row (first_holding minute es) (search_told minute es)

module _ (windows exceptions : List ℕ) (day minute : ℕ) where
  told : (t : Bool) → accepts windows exceptions minute ≡ t → told_opening (open_at windows exceptions day minute) ≡ open_told windows exceptions day minute
  unfolding open_at open_told told_opening
  told true so = rw so (search_told minute (counting day (entries window windows) (entries exception exceptions)))
  told false so = rw so

  -- an answer that is the definition's, with its number
  pub answered : {r : Result (Option ℕ) BadHours} → r ≡ open_at windows exceptions day minute
      → (r ≡ open_at windows exceptions day minute) × (told_opening r ≡ open_told windows exceptions day minute)
  answered is = (is, ap told_opening is ∙ told (accepts windows exceptions minute) refl)
