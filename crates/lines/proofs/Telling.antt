-- The place of a token in numbers: no two places are told alike, and what is told of the token at a place says which bytes it has and where it ends.
-- Assumes nothing.
use Prim.Native.Nat.{ℕ, suc, ◌+◌, ◌-◌}
use native.Mathlib.Omega.{arith}
use mathlib.Core.Bool.{cond}
use mathlib.Core.List.{List, [], ◌∷◌}
use mathlib.Core.Path.{◌≡◌, refl, sym, ap, subst, ◌∙◌}
use lib.Dec.{eqb}
use lib.ListN.{length, drop, get_or, length-drop}
use Rattle.std.specs.Prelude.{Option, Some, None}
use Rattle.word.specs.Told.{Told, tells}
use Rattle.word.proofs.Tests.{by_test, by_leb, by_eqb}
use Rattle.lines.specs.declared.Spot.{Spot}
use Rattle.lines.specs.declared.Spot.TheVariants.{Word, Paren}
use Rattle.lines.specs.Words.{is_name}
use Rattle.lines.specs.Reading.{front, is_inside, token_at}
use Rattle.lines.specs.Walking.{token_of, Within, told_spot, place_told, spot_told}
use Rattle.lines.proofs.Scanning.{no_token, no_token_here, word_here, open_here, never_closed, within_word, within_open}

same_spot : {a b : Option Spot} → told_spot a ≡ told_spot b → a ≡ b
unfolding told_spot
same_spot {a} {b} e = sym (back a) ∙ ap spot_of e ∙ back b
  where
    spot_of : Told ℕ → Option Spot
    spot_of (tells n []) = None
    spot_of (tells n (k ∷ xs)) = Some (cond (eqb k 1) (Word (get_or xs 0 0)) (Paren (get_or xs 0 0)))

    back : (a : Option Spot) → spot_of (told_spot a) ≡ a
    back None = refl
    back (Some (Word end)) = refl
    back (Some (Paren close)) = refl

module _ (s : List ℕ) (at : ℕ) where
  -- a token at a place, by the bytes that it has and where it ends
  abbrev pub Stands : Option Spot → Type 0
  Stands r = (token_of s at r ≡ token_at (drop at s)) × Within s at r

  told_token : (r : Option Spot) → Within s at r → told_spot r ≡ spot_told s (token_of s at r)
  unfolding told_spot place_told spot_told token_of
  told_token None w = refl
  told_token (Some (Word end)) w =
      let ends : end ≡ length s - length (drop end s) = omega (arith, length-drop end s, w.1) in
      ap (λ (n : ℕ). tells 0 (1 ∷ n ∷ [])) ends
  told_token (Some (Paren close)) w =
      let ends : close ≡ length s - suc (length (drop (suc close) s)) = omega (arith, length-drop (suc close) s, w.1) in
      ap (λ (n : ℕ). tells 0 (2 ∷ n ∷ [])) ends

  pub spot_tells : (r : Option Spot) → Stands r → told_spot r ≡ spot_told s (token_at (drop at s))
  spot_tells r (t, w) = told_token r w ∙ ap (spot_told s) t

  -- one of the three stands there
  some_spot : (r : Option Spot) × Stands r
  some_spot =
      by_leb (λ _. (r : Option Spot) × Stands r) (length s) at (λ past. (None, (no_token s at past, tt)))
      (λ inside. by_eqb (λ _. (r : Option Spot) × Stands r) (get_or s at 0) 40
      (λ opens. by_leb (λ _. (r : Option Spot) × Stands r) (length s) close (λ never. (None, (never_closed s at inside close opens refl never, tt)))
      (λ more. (Some (Paren close), (open_here s at inside close opens refl more, (within_open s at close refl, more)))))
      (λ other. by_test (λ _. (r : Option Spot) × Stands r) (is_name (get_or s at 0))
      (λ is. (Some (Word end), (word_here s at inside end other is refl, within_word s at end inside refl)))
      (λ not_so. (None, (no_token_here s at inside other not_so, tt)))))
    where
      close : ℕ
      close = at + 1 + length (front is_inside (drop (at + 1) s))

      end : ℕ
      end = at + 1 + length (front is_name (drop (at + 1) s))

  pub spot_is : (r : Option Spot) → told_spot r ≡ spot_told s (token_at (drop at s)) → Stands r
  spot_is r e = let (q, is) = some_spot in subst Stands (sym (same_spot (e ∙ sym (spot_tells q is)))) is
