-- The entries of a list as they come by its chunks. Assumes nothing.
use Rattle.std.proofs.Common.{◌≡◌, ℕ, zero, suc, ◌/◌, ◌<◌, Bool, true, false, ◌&&◌, ◌||◌, eqb, List, [], ◌∷◌, length, take, drop, Option, Some, None, map, refl, ap, ◌∙◌}
use Rattle.std.specs.Option.{option_map}
use Rattle.std.specs.List.{list_all, list_any, find}
use Rattle.std.specs.Slice.Iter.{chunks_exact_rest, chunks_exact_size, chunks_exact_steps}
use Rattle.std.specs.declared.slice.ChunksExact.{ChunksExact}
use Rattle.std.proofs.lemmas.Iterator.{YieldsList}
use Rattle.word.proofs.Chunks.{parts_of, parts_made}
use Rattle.hours.specs.declared.Entry.{Entry}
use Rattle.hours.specs.Hours.{entry_of, entries_of, entries, keeps, all_keep_of, holds, any_names, naming, first_holding}

-- the entries of a list are what its parts make
are_made : (n count : ℕ) (xs : List ℕ) → map entry_of (parts_of n count xs) ≡ entries_of n count xs
unfolding parts_of entries_of
are_made n zero xs = refl
are_made n (suc count) xs = ap (λ (es : List Entry). entry_of (take n xs) ∷ es) (are_made n count (drop n xs))

-- so its chunks are its entries
pub entries_come : {s : ChunksExact ℕ} (n : ℕ) (list : List ℕ) → 0 < n → chunks_exact_size s ≡ n → chunks_exact_rest s ≡ list
    → YieldsList (chunks_exact_steps {A = ℕ}) (λ x. entry_of x.now) s (entries n list)
unfolding entries
entries_come n list some sized is = rw (← are_made n (length list / n) list) (parts_made entry_of n list some sized is)

-- the row of an entry, and whether it answers
abbrev pub row : Entry → ℕ
row e = e.row

abbrev pub answering : ℕ → ℕ → Entry → Bool
answering k minute e = eqb e.name k && holds minute e

-- the definitions by the library's words
pub all_is : (n : ℕ) (es : List Entry) → list_all (keeps n) es ≡ all_keep_of n es
unfolding all_keep_of
all_is n [] = refl
all_is n (e ∷ es) = ap (λ (t : Bool). keeps n e && t) (all_is n es)

pub any_is : (k : ℕ) (es : List Entry) → list_any (λ (e : Entry). eqb e.name k) es ≡ any_names k es
unfolding any_names
any_is k [] = refl
any_is k (e ∷ es) = ap (λ (t : Bool). eqb e.name k || t) (any_is k es)

found_at : (k minute : ℕ) (e : Entry) (es : List Entry) (named held : Bool) → eqb e.name k ≡ named → holds minute e ≡ held
    → option_map row (find (answering k minute) es) ≡ first_holding minute (naming k es)
    → option_map row (find (answering k minute) (e ∷ es)) ≡ first_holding minute (naming k (e ∷ es))
unfolding naming first_holding
found_at k minute e es true true named held rest = rw (named, held)
found_at k minute e es true false named held rest = rw (named, held) rest
found_at k minute e es false held named _ rest = rw named rest

find_is : (k minute : ℕ) (es : List Entry) → option_map row (find (answering k minute) es) ≡ first_holding minute (naming k es)
unfolding naming first_holding
find_is k minute [] = refl
find_is k minute (e ∷ es) = found_at k minute e es (eqb e.name k) (holds minute e) refl refl (find_is k minute es)

same_entries : (es : List Entry) → map (λ (e : Entry). e) es ≡ es
same_entries [] = refl
same_entries (e ∷ es) = ap (λ (xs : List Entry). e ∷ xs) (same_entries es)

row_of : (o : Option Entry) → option_map row o ≡ option_map row (option_map (λ (e : Entry). e) o)
row_of None = refl
row_of (Some e) = refl

-- the row of what was found among them
pub row_found : (k minute : ℕ) (es : List Entry) (o : Option Entry)
    → option_map (λ (e : Entry). e) o ≡ find (answering k minute) (map (λ (e : Entry). e) es)
    → option_map row o ≡ first_holding minute (naming k es)
row_found k minute es o is =
    row_of o ∙ ap (option_map row) is ∙ ap (λ (xs : List Entry). option_map row (find (answering k minute) xs)) (same_entries es) ∙ find_is k minute es
