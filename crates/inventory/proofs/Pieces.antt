-- Pieces of text put one before the other, each with a bound on its characters. Assumes nothing.
use Prim.Native.Nat.{ℕ, ◌+◌, ◌≤◌}
use native.Mathlib.Omega.{arith}
use mathlib.Core.List.{List, [], ◌++◌}
use mathlib.Core.Path.{◌≡◌, sym, subst}
use lib.ListN.{length, length-append}
use Rattle.tour.specs.Put.{put_before}
use Rattle.tour.proofs.Putting.{Put, more, put_none}
use Rattle.inventory.specs.Puts.{Puts}

-- nothing put
pub puts_none : (most at : ℕ) (t : List ℕ) → Puts [] most at t at t
puts_none most at t = record { starts = omega arith; buffer = sym (put_none at t); few = omega arith }

-- these, as they were put
pub puts_of : (xs : List ℕ) {at place : ℕ} {t now : List ℕ} → place + length xs ≡ at → now ≡ put_before at xs t → Puts xs (length xs) at t place now
puts_of xs here is = record { starts = here; buffer = is; few = omega arith }

-- what has been put so far
pub puts_all : {xs : List ℕ} {at : ℕ} {t now : List ℕ} {place : ℕ} (most : ℕ) → Put at xs t now place → length xs ≤ most → Puts xs most at t place now
puts_all most p h = record { starts = p.starts; buffer = p.buffer; few = h }

-- more before it
pub puts_more : {xs ys : List ℕ} {at most : ℕ} {t now next : List ℕ} {place there : ℕ}
    → Put at xs t now place → Puts ys most place now there next → Put at (ys ++ xs) t next there
puts_more {xs} {ys} p q = more p ys q.starts q.buffer

module _ {xs : List ℕ} {most at : ℕ} {t now : List ℕ} {place : ℕ} (p : Puts xs most at t place now) where
  -- two pieces: their bounds add up
  pub puts_join : at ≤ length t → {ys : List ℕ} {next : List ℕ} {n there : ℕ} → Puts ys n place now there next
      → Puts (ys ++ xs) (n + most) at t there next
  puts_join h {ys} q =
      puts_all _ (puts_more (record { starts = p.starts; buffer = p.buffer; inside = h }) q)
      (omega (arith, length-append ys xs, p.few, q.few))

  -- the room that is left before it
  pub puts_room : (n : ℕ) → most + n ≤ at → n ≤ place
  puts_room n h = omega (arith, p.starts, p.few)

  -- a greater bound
  pub puts_wider : (all : ℕ) → most ≤ all → Puts xs all at t place now
  puts_wider all h = record { starts = p.starts; buffer = p.buffer; few = omega (arith, p.few) }

  -- the same text under another name
  pub puts_as : {ys : List ℕ} → xs ≡ ys → Puts ys most at t place now
  puts_as e = subst (λ (l : List ℕ). Puts l most at t place now) e p
