-- The blocks live by the reports, after an event that changes none, frees one or delivers one.
-- Assumes nothing.
use Prim.Native.Nat.{ℕ, ◌<◌}
use native.Mathlib.Omega.{arith}
use mathlib.Core.List.Memᴰ
use mathlib.Core.List.{List, [], ◌∷◌, Memᴰ}
use mathlib.Core.Logic.{◌⊎◌, inl, inr, ◌↔◌, ⊎_elim}
use mathlib.Core.Path.{◌≡◌, ap, sym, ◌∙◌}
use Rattle.block.specs.Blocks.{Block, start, inserted}
use Rattle.block.proofs.Tiling.{InOrder}
use Rattle.book.specs.Book.{without}
use Rattle.book.specs.Steps.{Event, report_of, LiveBy, delivered, still}
use Rattle.book.proofs.Lists.{inserted_new, inserted_old, inserted_cases, without_other, without_old, without_gone}

-- what an event does to a block that was live: delivered now, or live before and not freed
pub live_cases : {x : Block} {event : Event} {events : List Event} → LiveBy x (event ∷ events)
    → (((report_of event).delivered ≡ x.address) × ((report_of event).size ≡ x.size) × (x.size ≡ 0 → ⊥))
    ⊎ (((report_of event).freed ≡ x.address → ⊥) × LiveBy x events)
live_cases (delivered a n p) = inl (a, n, p)
live_cases (still p h) = inr (p, h)

-- at first no block is live
pub live_none : {x : Block} → LiveBy x [] → ⊥
live_none h = elim h [ ]

module _ (event : Event) (events : List Event) (bs : List Block) (reported : (x : Block) → Memᴰ x bs ↔ LiveBy x events)
    (positive : (x : Block) → Memᴰ x bs → 0 < x.address) where
  -- a block that stays live through an event that frees none
  stays : (report_of event).freed ≡ 0 → (x : Block) → Memᴰ x bs → LiveBy x (event ∷ events)
  stays f x m = still (λ (e : (report_of event).freed ≡ x.address). absurd (omega (arith, positive x m, f))) ((reported x).0 m)

  -- no block is freed or delivered
  pub reported_still : (report_of event).freed ≡ 0 → (report_of event).size ≡ 0 → (x : Block) → Memᴰ x bs ↔ LiveBy x (event ∷ events)
  reported_still f n x =
      (stays f x, λ h. ⊎_elim (λ d. absurd (d.2 (sym d.1 ∙ n))) (λ s. (reported x).1 s.1) (live_cases h))

  -- one is delivered
  pub reported_delivered : (report_of event).freed ≡ 0 → (a n : ℕ) → (report_of event).delivered ≡ a → (report_of event).size ≡ n → 0 < n
      → (x : Block) → Memᴰ x (inserted start (record { address = a; size = n }) bs) ↔ LiveBy x (event ∷ events)
  reported_delivered f a n is_at is_size pos x = (
    λ m. ⊎_elim
        (λ e. delivered (is_at ∙ ap (λ (y : Block). y.address) (sym e)) (is_size ∙ ap (λ (y : Block). y.size) (sym e))
        (λ (z : x.size ≡ 0). absurd (omega (arith, ap (λ (y : Block). y.size) e))))
        (stays f x) (inserted_cases start _ x bs m),
    λ h. ⊎_elim
        (λ d. Memᴰ.cast (λ i. record { address = (sym d.0 ∙ is_at) i; size = (sym d.1 ∙ is_size) i }) (inserted_new start _ bs))
        (λ s. inserted_old start _ ((reported x).1 s.1)) (live_cases h),
  )

  -- one is freed
  pub reported_freed : {k lo hi : ℕ} → InOrder k lo hi bs → (a : ℕ) → (report_of event).freed ≡ a → (report_of event).size ≡ 0
      → (x : Block) → Memᴰ x (without start a bs) ↔ LiveBy x (event ∷ events)
  unfolding start
  reported_freed order a isFreed n x = (
    λ m. still (λ e. without_gone a x order m (sym e ∙ isFreed)) ((reported x).0 (without_old start a x bs m)),
    λ h. ⊎_elim (λ d. absurd (d.2 (sym d.1 ∙ n)))
        (λ s. without_other start a (λ e. s.0 (isFreed ∙ sym e)) ((reported x).1 s.1)) (live_cases h),
  )
