-- Records of one length, one after the other: put, read, and read back. One law for words, definitions and places.
-- Assumes nothing.
use Prim.Native.Nat.{ℕ, zero, suc, ◌+◌, ◌*◌, ◌≤◌, ◌<◌}
use native.Mathlib.Nat.{mul-zero, mul-suc, mul-le-mul_left}
use native.Mathlib.Numerals.{add-one}
use native.Mathlib.Omega.{arith}
use mathlib.Core.List.{List, [], ◌∷◌, ◌++◌, append_assoc, append-nil}
use mathlib.Core.Path.{◌≡◌, refl, sym, ap, subst, ◌∙◌}
use borrow.Author.Count.{below_more}
use lib.ListN.{length, take, drop, get_or, length-append}
use lib.Seq.{take_at, drop_at, drop-drop, take_all, length-take-le}
use Rattle.machine.specs.Storage.{placed}
use Rattle.layout.specs.Ranged.{Array}
use Rattle.layout.specs.Records.{bytes_of_all, records_of}
use Rattle.word.proofs.Tests.{by_eqb}
use Rattle.std.proofs.lemmas.List.{same_lists}
use Rattle.std.specs.Array.{IsFromFnResult, IsFromFnResultFrom}
use Rattle.std.specs.Fn.{Called}
use denote.Param.Members.{Mut}
use Rattle.layout.proofs.Placing.{Put, start, more}

-- an array whose elements are made by calls that change nothing and give what h gives
module _ {F B : Type 0} (g : Mut F (ℕ × Unit {0}) B) (f : F) (h : ℕ → B) (made : List B)
    (calls : (i : ℕ) (y : B) (q : F) → Called g f (i, tt) y q → (q ≡ f) × (y ≡ h i)) where
  made_from : (n i : ℕ) (p : F) → p ≡ f → IsFromFnResultFrom g p made i n → (k : ℕ) (d : B) → i ≤ k → k < i + n → get_or made k d ≡ h k
  made_from zero i p same all k d low high = absurd (omega arith)
  made_from (suc n) i p same (q, y, here, called, rest) k d low high =
      let one = calls i y q (subst (λ (x : F). Called g x (i, tt) y q) same called) in
      by_eqb (λ t. get_or made k d ≡ h k) k i (λ e. rw e (here.1 d ∙ one.1))
      (λ other. made_from n (i + 1) q one.0 rest k d (omega arith) (omega arith))

  pub made_all : (n : ℕ) → IsFromFnResult g f made n → (k : ℕ) (d : B) → k < n → get_or made k d ≡ h k
  made_all n all k d less = made_from n 0 f refl all.each k d (omega arith) (omega arith)

module _ {A : Type 0} (read : List ℕ → A) (w : ℕ) where
  -- as many as are asked for
  pub length_records : (n : ℕ) (bytes : List ℕ) → length (records_of read w n bytes) ≡ n
  unfolding records_of
  length_records zero bytes = refl
  length_records (suc n) bytes = ap suc (length_records n (drop w bytes))

  -- one of them
  records_at : (n i : ℕ) (bytes : List ℕ) (none : A) → i < n → get_or (records_of read w n bytes) i none ≡ read (take w (drop (w * i) bytes))
  unfolding records_of
  records_at zero i bytes none h = absurd (omega arith)
  records_at (suc n) zero bytes none h = rw (mul-zero w)
  records_at (suc n) (suc i) bytes none h =
      let far : w + w * i ≡ w * suc i = omega arith in
      records_at n i (drop w bytes) none (omega arith) ∙ rw (drop-drop (w * i) w bytes, far)

  -- records that are each read from their place
  pub records_made : {made : List A} (at n : ℕ) (bytes : List ℕ) → length made ≡ n
      → ((i : ℕ) (d : A) → i < n → get_or made i d ≡ read (take w (drop (at + w * i) bytes))) → made ≡ records_of read w n (drop at bytes)
  records_made {made} at n bytes long each =
      same_lists made (records_of read w n (drop at bytes)) (long ∙ sym (length_records n (drop at bytes)))
      (λ i d h. each i d (omega (arith, long)) ∙ sym (records_at n i (drop at bytes) d (omega (arith, long)) ∙ rw drop-drop))

module _ {A : Type 0} (put : A → List ℕ) (none : A) where
  -- one record more
  all_next : (xs : List A) (i : ℕ) → i < length xs
      → bytes_of_all put (take (suc i) xs) ≡ bytes_of_all put (take i xs) ++ put (get_or xs i none)
  unfolding bytes_of_all
  all_next [] i h = absurd (omega arith)
  all_next (x ∷ xs) zero h = append-nil (put x)
  all_next (x ∷ xs) (suc i) h =
      ap (λ (b : List ℕ). put x ++ b) (all_next xs i (omega arith)) ∙ sym (append_assoc (put x) (bytes_of_all put (take i xs)) (put (get_or xs i none)))

  module _ (w : ℕ) (wide : (x : A) → length (put x) ≡ w) where
    pub length_all : (xs : List A) → length (bytes_of_all put xs) ≡ w * length xs
    unfolding bytes_of_all
    length_all [] = omega arith
    length_all (x ∷ xs) = omega (arith, length-append (put x) (bytes_of_all put xs), wide x, length_all xs)

    pub length_array : {n : ℕ} (xs : List A) → length xs ≡ n → length (bytes_of_all put xs) ≡ w * n
    length_array xs h = length_all xs ∙ ap (λ (k : ℕ). w * k) h

    -- records come back from their bytes, whatever follows these, where each one does
    pub records_back : (read : List ℕ → A) (xs : List A) (rest : List ℕ)
        → ((i : ℕ) → i < length xs → read (put (get_or xs i none)) ≡ get_or xs i none)
        → records_of read w (length xs) (bytes_of_all put xs ++ rest) ≡ xs
    unfolding bytes_of_all records_of
    records_back read [] rest back = refl
    records_back read (x ∷ xs) rest back =
        let apart = append_assoc (put x) (bytes_of_all put xs) rest in
        ap (λ (b : List ℕ). read (take w b) ∷ records_of read w (length xs) (drop w b)) apart
        ∙ ap (λ (b : List ℕ). read b ∷ records_of read w (length xs) (drop w (put x ++ (bytes_of_all put xs ++ rest)))) (take_at (put x) _ w (wide x))
        ∙ ap (λ (b : List ℕ). read (put x) ∷ records_of read w (length xs) b) (drop_at (put x) _ w (wide x))
        ∙ ap (λ (y : A). y ∷ records_of read w (length xs) (bytes_of_all put xs ++ rest)) (back 0 (omega arith))
        ∙ ap (λ (ys : List A). x ∷ ys) (records_back read xs rest (λ i h. back (suc i) (omega arith)))

    -- the first i of n records are put from a place on, and are in range
    pub record Puts (Range : A → Type 0) (at n : ℕ) (xs : List A) (t now : List ℕ) (i : ℕ) : Type 0 where
      pub few : i ≤ n
      pub long : length xs ≡ n
      pub put_so : Put at (bytes_of_all put (take i xs)) t now
      pub each : (k : ℕ) → k < i → Range (get_or xs k none)

    module _ {Range : A → Type 0} {at n : ℕ} {xs : List A} {t : List ℕ} (room : at + w * n ≤ length t) where
      pub puts_none : length xs ≡ n → Puts Range at n xs t t 0
      unfolding bytes_of_all
      puts_none h = record { few = omega arith; long = h; put_so = start at t (omega arith); each = λ k h. absurd (omega arith) }

      module _ {now : List ℕ} {i : ℕ} (so_far : Puts Range at n xs t now i) where
        pub puts_next : {next : List ℕ} → i < n → next ≡ placed (at + w * i) (put (get_or xs i none)) now → Range (get_or xs i none)
            → Puts Range at n xs t next (i + 1)
        puts_next {next} h is good =
            let inside : i < length xs = omega (arith, so_far.long) in
            let long : length (bytes_of_all put (take i xs)) ≡ w * i = length_all (take i xs) ∙ ap (λ (n : ℕ). w * n) (length-take-le i xs (omega arith)) in
            let more_room : at + w * i + w ≤ length t = omega (arith, mul-suc w i, mul-le-mul_left {m = suc i} {n = n} w (omega arith)) in
            record {
              few = omega arith;
              long = so_far.long;
              put_so = rw (add-one i, all_next xs i inside) (more so_far.put_so (put (get_or xs i none)) (ap (λ (n : ℕ). at + n) long) is
                  (omega (arith, wide (get_or xs i none))));
              each = below_more _ _ so_far.each good;
            }

        pub puts_all : n ≤ i → (now ≡ placed at (bytes_of_all put xs) t) × Array Range none n xs
        puts_all h = (
          so_far.put_so.same ∙ ap (λ (ys : List A). placed at (bytes_of_all put ys) t) (take_all i xs (omega (arith, so_far.long))),
          record { long = so_far.long; each = λ k less. so_far.each k (omega arith) },
        )
