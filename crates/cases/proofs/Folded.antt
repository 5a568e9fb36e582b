-- A list folded a number further. Assumes nothing.
use Rattle.std.proofs.Common.{◌≡◌, ℕ, suc, ◌+◌, ◌<◌, ◌≤◌, List, [], ◌∷◌, ◌++◌, length, get_or, take, sym, refl, ap, subst, ◌∙◌, arith}
use Rattle.std.specs.List.{FoldsTo}
use lib.Seq.{take-suc, take_all}

module _ {P A : Type 0} (R : P → A → P → Type 0) where
  further : (xs : List A) (p q : P) {x : A} {r : P} → FoldsTo R p xs q → R q x r → FoldsTo R p (xs ++ x ∷ []) r
  further [] p q {x} {r} is step = (r, subst (λ (s : P). R s x r) (sym is) step, refl)
  further (y ∷ xs) p q is step = (is.0, is.1, further xs is.0 q is.2 step)

  pub fold_next : (xs : List A) (i : ℕ) (p q : P) {x : A} {r : P} → i < length xs → x ≡ get_or xs i x → FoldsTo R p (take i xs) q → R q x r
      → FoldsTo R p (take (i + 1) xs) r
  fold_next xs i p q {x} {r} less is before step =
      let one : i + 1 ≡ suc i = omega arith in
      let more : take (i + 1) xs ≡ take i xs ++ x ∷ [] =
      ap (λ (k : ℕ). take k xs) one ∙ take-suc xs i x less ∙ ap (λ (z : A). take i xs ++ z ∷ []) (sym is) in
      subst (λ (l : List A). FoldsTo R p l r) (sym more) (further (take i xs) p q before step)

  pub fold_end : (xs : List A) (i : ℕ) (p q : P) → length xs ≤ i → FoldsTo R p (take i xs) q → FoldsTo R p xs q
  fold_end xs i p q all = subst (λ (l : List A). FoldsTo R p l q) (take_all i xs all)
