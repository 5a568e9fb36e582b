-- A fact of each element of a list, and of each member. Assumes nothing.
use mathlib.Core.Path.{refl, sym, subst}
use mathlib.Core.List.{List, [], ◌∷◌, ◌++◌, Memᴰ}

-- P holds of each element
pub data Each {A : Type 0} (P : A → Type 0) : List A → Type 0 where
  each_nil : Each P []
  each_cons : {x : A} {xs : List A} → P x → Each P xs → Each P (x ∷ xs)

module _ {A : Type 0} {P : A → Type 0} where
  -- of two lists, one after the other
  pub each_append : {xs ys : List A} → Each P xs → Each P ys → Each P (xs ++ ys)
  each_append each_nil l = l
  each_append (each_cons p h) l = each_cons p (each_append h l)

  -- and back
  pub each_parts : (xs : List A) {ys : List A} → Each P (xs ++ ys) → Each P xs × Each P ys
  each_parts [] h = (each_nil, h)
  each_parts (x ∷ xs) (each_cons p h) =
      let (first, others) = each_parts xs h in
      (each_cons p first, others)

  -- what follows from it
  pub each_map : {Q : A → Type 0} {xs : List A} → ((x : A) → P x → Q x) → Each P xs → Each Q xs
  each_map f each_nil = each_nil
  each_map f (each_cons {x = x} p h) = each_cons (f x p) (each_map f h)

  -- of a member
  pub each_mem : {x : A} {xs : List A} → Each P xs → Memᴰ x xs → P x
  each_mem each_nil x4 = elim x4 [ ]
  each_mem (each_cons p h) (Memᴰ.head e) = subst P (sym e) p
  each_mem (each_cons p h) (Memᴰ.tail m) = each_mem h m

  -- from the members
  pub mem_each : (xs : List A) → ((x : A) → Memᴰ x xs → P x) → Each P xs
  mem_each [] f = each_nil
  mem_each (x ∷ xs) f = each_cons (f x (Memᴰ.head refl)) (mem_each xs (λ y m. f y (Memᴰ.tail m)))
