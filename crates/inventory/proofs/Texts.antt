-- The texts of places one after the other, put from the last one on. Assumes nothing.
use Prim.Native.Nat.{ℕ, suc, ◌-◌, ◌*◌, ◌≤◌, ◌<◌}
use native.Mathlib.Omega.{arith}
use mathlib.Core.List.{List, ◌++◌}
use mathlib.Core.Path.{◌≡◌, ap, ◌∙◌}
use lib.ListN.{length, length-append}
use Rattle.tour.proofs.Putting.{Put, start, same_length}
use Rattle.inventory.specs.Inventory.{texts}
use Rattle.inventory.specs.Puts.{Puts}
use Rattle.inventory.proofs.Pieces.{puts_more}

module _ (f : ℕ → List ℕ) (n at : ℕ) (t : List ℕ) where
  -- the texts of the places from left on are put
  pub record Lines (left place : ℕ) (now : List ℕ) : Type 0 where
    pub inside : left ≤ n
    pub put : Put at (texts f left (n - left)) t now place
    pub few : length (texts f left (n - left)) ≤ 96 * (n - left)

  pub lines_start : at ≤ length t → Lines n at t
  unfolding texts
  lines_start h =
      let none : 0 ≡ n - n = omega arith in
      record {
        inside = omega arith;
        put = rw (← none) (start at t h);
        few = rw (← none) (omega arith);
      }

  module _ {left place : ℕ} {now : List ℕ} (l : Lines left place now) where
    pub lines_kept : length now ≡ length t
    lines_kept = same_length l.put

    pub lines_all : left ≡ 0 → Puts (texts f 0 n) (96 * n) at t place now
    lines_all none =
        let whole : texts f left (n - left) ≡ texts f 0 n
        = ap (λ (m : ℕ). texts f m (n - m)) none ∙ ap (texts f 0) (omega arith) in
        record { starts = rw (← whole) l.put.starts; buffer = rw (← whole) l.put.buffer; few = rw (← whole) (omega (arith, l.few)) }

    module _ (some : 0 < left) where
      -- there is room for a line
      pub lines_room : 96 * n ≤ at → (96 ≤ place) × (place ≤ length now)
      lines_room h = (omega (arith, l.put.starts, l.few, l.inside), omega (arith, l.put.starts, l.put.inside, lines_kept))

      -- a line more
      one_more : texts f (left - 1) (n - (left - 1)) ≡ f (left - 1) ++ texts f left (n - left)
      unfolding texts
      one_more =
          let count : n - (left - 1) ≡ suc (n - left) = omega (arith, l.inside) in
          let next : suc (left - 1) ≡ left = omega arith in
          ap (texts f (left - 1)) count ∙ ap (λ (m : ℕ). f (left - 1) ++ texts f m (n - left)) next

      pub lines_more : {next : List ℕ} {there : ℕ} → Puts (f (left - 1)) 96 place now there next → Lines (left - 1) there next
      lines_more p =
          record {
            inside = omega (arith, l.inside);
            put = rw one_more (puts_more l.put p);
            few = rw one_more (omega (arith, length-append (f (left - 1)) (texts f left (n - left)), p.few, l.few, l.inside));
          }
