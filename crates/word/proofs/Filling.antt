-- A loop that fills: the elements of a list are put into another list one after the other, from a place on, none so far, one more, and all,
-- or in the place of a whole list. By the library's laws of a copy. Assumes nothing.
use Rattle.std.proofs.Common.{◌≡◌, ℕ, ◌+◌, ◌<◌, ◌≤◌, List, ◌++◌, length, get_or, take, drop, set, refl, ◌∙◌, append_assoc, append-nil, zero-add, add-one, arith, length-set, drop_of_length-le, take_all}
use lib.Seq.{paste, paste-zero, paste-suc}

-- the first i of the n elements of xs stand in t from a place on
pub record Fills {A : Type 0} (to n : ℕ) (xs t now : List A) (i : ℕ) : Type 0 where
  pub few : i ≤ n
  pub count : length xs ≡ n
  pub room : to + n ≤ length t
  pub long : length now ≡ length t
  pub same : now ≡ paste t to xs i

module _ {A : Type 0} {n : ℕ} {xs t : List A} where
  pub fills_none : {to : ℕ} → length xs ≡ n → to + n ≤ length t → Fills to n xs t t 0
  fills_none {to} count room = record { few = omega arith; count = count; room = room; long = refl; same = paste-zero t to xs }

  module _ {to : ℕ} {now : List A} {i : ℕ} (so_far : Fills to n xs t now i) where
    pub fills_next : i < n → (none : A) {x : A} → x ≡ get_or xs i none → Fills to n xs t (set now (to + i) x) (i + 1)
    fills_next more none {x} is =
        record {
          few = omega arith;
          count = so_far.count;
          room = so_far.room;
          long = length-set now (to + i) x ∙ so_far.long;
          same = rw (so_far.same, is, add-one) (paste-suc t to xs i none (omega arith) (omega arith));
        }

    pub fills_all : n ≤ i → now ≡ take to t ++ (xs ++ drop (to + n) t)
    fills_all done =
        let all : i ≡ n = omega arith in
        so_far.same ∙ rw (all, take_all n xs (omega arith), append_assoc)

  module _ {now : List A} {i : ℕ} (so_far : Fills 0 n xs t now i) where
    pub whole_next : i < n → (none : A) {x : A} → x ≡ get_or xs i none → Fills 0 n xs t (set now i x) (i + 1)
    whole_next more none is = rw (zero-add i) at (fills_next so_far more none is)

    pub whole_all : n ≤ i → length t ≡ n → now ≡ xs
    whole_all done long = fills_all so_far done ∙ rw (drop_of_length-le t {i = 0 + n} (omega arith)) (append-nil xs)
