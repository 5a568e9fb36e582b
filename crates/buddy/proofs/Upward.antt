-- Freeing upward: where a live block stands its path to the root is known, and freeing it rejoins along that path. A free half beside the
-- block widens it; where there is none nothing more is rejoined. Assumes nothing.
use Rattle.std.proofs.Common.{◌≡◌, ℕ, zero, suc, ◌+◌, ◌-◌, ◌*◌, ◌/◌, ◌<◌, ◌≤◌, Bool, true, false, ◌&&◌, eqb, ltb, ◌≢◌, List, [], ◌∷◌, ◌++◌, length, get_or, set, replicate, sym, refl, ap, ◌∙◌, subst, ap₂, append_assoc, append-nil, add-one, arith, length-append, get_or-set_other, get_or-append-add, set-set, ltb-true, lt-ltb, eq-eqb, eqb-true}
use native.Mathlib.Nat.{mul-div_left, mul-add-div_right, div-eq_of_lt}
use lib.ListN.{get_or-replicate, get_or-append}
use lib.Seq.{set_at, set_comm}
use Rattle.word.proofs.Tests.{by_leb, and_true}
use Rattle.block.specs.Blocks.{size, Tree, Free, Live, Halves, joined, freed}
use Rattle.block.specs.Map.{free_tag, live_tag_of, written}
use Rattle.buddy.specs.Upward.{Path, root, low, high, plug, place, rejoined, pair_start, other_place, Rises}
use Rattle.block.proofs.Size.{size_suc, size_pos, size_zero}
use Rattle.block.proofs.Map.{length_written}
use Rattle.buddy.proofs.Tags.{first_free, written_halves, free_halves, joined_first, joined_second, freed_low, freed_high}

-- a path leads upward, from a place in the tree that the block's size divides
pub path_le : {j k : ℕ} → Path j k → j ≤ k
path_le root = omega arith
path_le (low r p) = omega (arith, path_le p)
path_le (high l p) = omega (arith, path_le p)

pub place_fits : {j k : ℕ} (p : Path j k) → place p + size j ≤ size k
unfolding place
place_fits root = omega arith
place_fits (low {j} r p) = omega (arith, place_fits p, size_suc j)
place_fits (high {j} l p) = omega (arith, place_fits p, size_suc j)

place_times : {j k : ℕ} (p : Path j k) → (q : ℕ) × (place p ≡ q * size j)
unfolding place
place_times root = (0, omega arith)
place_times (low {j} r p) = let (q, e) = place_times p in (q + q, e ∙ rw size_suc (omega arith))
place_times (high {j} l p) = let (q, e) = place_times p in (q + q + 1, ap (λ (n : ℕ). n + size j) e ∙ rw size_suc (omega arith))

-- so the two halves around it start where the path goes on
module _ {j k : ℕ} (p : Path (suc j) k) where
  pair_low : pair_start (size j) (place p) ≡ place p
  unfolding pair_start
  pair_low =
      let (q, e) = place_times p in
      rw (← size_suc j) (ap (λ (n : ℕ). n / size (suc j) * size (suc j)) e ∙ ap (λ (n : ℕ). n * size (suc j)) (mul-div_left q (size_pos (suc j))) ∙ sym e)

  pair_high : pair_start (size j) (place p + size j) ≡ place p
  unfolding pair_start
  pair_high =
      let (q, e) = place_times p in
      let none : size j / size (suc j) ≡ 0 = div-eq_of_lt (omega (arith, size_suc j, size_pos j)) in
      let whole : (q * size (suc j) + size j) / size (suc j) ≡ q = mul-add-div_right (size_pos (suc j)) q (size j) ∙ omega arith in
      rw (← size_suc j) (ap (λ (n : ℕ). (n + size j) / size (suc j) * size (suc j)) e ∙ ap (λ (n : ℕ). n * size (suc j)) whole ∙ sym e)

-- the bytes around the block
pub record Around {j k : ℕ} (p : Path j k) : Type 0 where
  pub before : List ℕ
  pub after : List ℕ
  pub long : length before ≡ place p
  pub bytes : (t : Tree) → written k (plug p t) ≡ before ++ (written j t ++ after)

pub around : {j k : ℕ} (p : Path j k) → Around p
unfolding plug place
around root = record { before = []; after = []; long = refl; bytes = λ t. sym (append-nil _) }
around (low {j} r p) =
    let a = around p in
    record {
      before = a.before;
      after = written j r ++ a.after;
      long = a.long;
      bytes = λ t. a.bytes (Halves t r) ∙ ap (λ (xs : List ℕ). a.before ++ (xs ++ a.after)) (written_halves j t r)
          ∙ ap (λ (xs : List ℕ). a.before ++ xs) (append_assoc (written j t) (written j r) a.after);
    }
around (high {j} l p) =
    let a = around p in
    record {
      before = a.before ++ written j l;
      after = a.after;
      long = rw (length-append, length_written) (ap (λ (n : ℕ). n + size j) a.long);
      bytes = λ t. a.bytes (Halves l t) ∙ ap (λ (xs : List ℕ). a.before ++ (xs ++ a.after)) (written_halves j l t)
          ∙ ap (λ (xs : List ℕ). a.before ++ xs) (append_assoc (written j l) (written j t) a.after) ∙ sym (append_assoc a.before (written j l) _);
    }

-- one block there: its tag, and the bytes with another
module _ {j k : ℕ} (p : Path j k) where
  pub freed_bytes : set (written k (plug p Live)) (place p) (free_tag j) ≡ written k (plug p Free)
  unfolding written
  freed_bytes =
      let a = around p in
      rw (a.bytes Live, a.bytes Free) (set_at a.before (live_tag_of j) (replicate (size j - 1) 0 ++ a.after) (free_tag j) (place p) a.long)

free_byte : (j : ℕ) → get_or (written j Free) 0 0 ≡ free_tag j
unfolding written
free_byte j = refl

-- a tree that stands beside a free block: its first byte
beside_high : {j k : ℕ} (r : Tree) (p : Path (suc j) k) → get_or (written k (plug (low r p) Free)) (place p + size j) 0 ≡ get_or (written j r) 0 0
unfolding place plug
beside_high {j} {k} r p =
    let a = around (high Free p) in
    let long : length a.before + 0 ≡ place p + size j = omega (arith, a.long) in
    let first = get_or-append (written j r) a.after 0 0 (rw length_written (size_pos j)) in
    ap₂ (λ (xs : List ℕ) (n : ℕ). get_or xs n 0) (a.bytes r) (sym long) ∙ get_or-append-add a.before (written j r ++ a.after) 0 0 ∙ first

beside_low : {j k : ℕ} (l : Tree) (p : Path (suc j) k) → get_or (written k (plug (high l p) Free)) (place p) 0 ≡ get_or (written j l) 0 0
unfolding place plug
beside_low {j} {k} l p =
    let a = around (low Free p) in
    let long : length a.before + 0 ≡ place p = omega (arith, a.long) in
    let first = get_or-append (written j l) a.after 0 0 (rw length_written (size_pos j)) in
    ap₂ (λ (xs : List ℕ) (n : ℕ). get_or xs n 0) (a.bytes l) (sym long) ∙ get_or-append-add a.before (written j l ++ a.after) 0 0 ∙ first

-- two free halves of which the high one loses its tag and the low one gets that of both
module _ {j k : ℕ} (p : Path (suc j) k) where
  widened : set (set (written k (plug p (Halves Free Free))) (place p + size j) 0) (place p) (free_tag (suc j)) ≡ written k (plug p Free)
  unfolding written
  widened =
      let a = around p in
      let n = size j in
      let first = free_tag j ∷ replicate (n - 1) 0 in
      let rest = replicate {A = ℕ} (n - 1) 0 in
      let long : length (a.before ++ first) ≡ place p + n = rw (length-append, length_written') (ap (λ (i : ℕ). i + n) a.long) in
      let whole : written k (plug p (Halves Free Free)) ≡ (a.before ++ first) ++ free_tag j ∷ (rest ++ a.after)
      = a.bytes (Halves Free Free) ∙ ap (λ (xs : List ℕ). a.before ++ xs) (append_assoc first (free_tag j ∷ rest) a.after)
      ∙ sym (append_assoc a.before first _) in
      ap (λ (xs : List ℕ). set (set xs (place p + n) 0) (place p) (free_tag (suc j))) whole
      ∙ ap (λ (xs : List ℕ). set xs (place p) (free_tag (suc j))) (set_at (a.before ++ first) (free_tag j) (rest ++ a.after) 0 (place p + n) long
      ∙ append_assoc a.before first (0 ∷ (rest ++ a.after)))
      ∙ set_at a.before (free_tag j) (rest ++ 0 ∷ (rest ++ a.after)) (free_tag (suc j)) (place p) a.long
      ∙ sym (a.bytes Free ∙ ap (λ (xs : List ℕ). a.before ++ (xs ++ a.after)) (free_halves j)
      ∙ ap (λ (xs : List ℕ). a.before ++ xs) (append_assoc (free_tag (suc j) ∷ rest) (0 ∷ rest) a.after))
    where
      length_written' : length (free_tag j ∷ replicate (size j - 1) 0) ≡ size j
      length_written' = length_written j Free

-- a block that is to be free, and the other half of the block around it
module _ {j k : ℕ} (p : Path (suc j) k) (at : ℕ) (l : List ℕ) where
  abbrev Tagged : Path j k → Type 0
  Tagged q = (at ≡ place q) × (set l at (free_tag j) ≡ written k (plug q Free))

  module _ (r : Tree) (t : Tagged (low r p)) where
    low_start : pair_start (size j) at ≡ place p
    unfolding place
    low_start = rw t.0 (pair_low p)

    low_other : other_place (size j) at ≡ place p + size j
    unfolding other_place place
    low_other = rw low_start (omega (arith, t.0))

    low_byte : get_or l (other_place (size j) at) 0 ≡ get_or (written j r) 0 0
    unfolding place
    low_byte =
        let apart : place p + size j ≢ at = λ e. omega (arith, size_pos j, t.0) in
        ap (λ (n : ℕ). get_or l n 0) low_other ∙ sym (get_or-set_other l at (place p + size j) (free_tag j) 0 apart)
        ∙ ap (λ (xs : List ℕ). get_or xs (place p + size j) 0) t.1 ∙ beside_high r p

    low_widens : r ≡ Free → set (set l (pair_start (size j) at + size j) 0) (pair_start (size j) at) (free_tag (suc j)) ≡ written k (plug p Free)
    unfolding place plug
    low_widens e =
        let a = place p in
        let apart : a ≢ a + size j = λ z. omega (arith, size_pos j) in
        let here : set l a (free_tag j) ≡ written k (plug p (Halves Free Free)) = ap (λ (n : ℕ). set l n (free_tag j)) (sym t.0) ∙ t.1
        ∙ ap (λ (x : Tree). written k (plug p (Halves Free x))) e in
        rw low_start
        (sym (set-set (set l (a + size j) 0) a (free_tag j) (free_tag (suc j)))
        ∙ ap (λ (xs : List ℕ). set xs a (free_tag (suc j))) (sym (set_comm l a (a + size j) (free_tag j) 0 apart)
        ∙ ap (λ (xs : List ℕ). set xs (a + size j) 0) here)
        ∙ widened p)

  module _ (r : Tree) (t : Tagged (high r p)) where
    high_start : pair_start (size j) at ≡ place p
    unfolding place
    high_start = rw t.0 (pair_high p)

    high_other : other_place (size j) at ≡ place p
    unfolding other_place place
    high_other = rw high_start (omega (arith, t.0))

    high_byte : get_or l (other_place (size j) at) 0 ≡ get_or (written j r) 0 0
    unfolding place
    high_byte =
        let apart : place p ≢ at = λ e. omega (arith, size_pos j, t.0) in
        ap (λ (n : ℕ). get_or l n 0) high_other ∙ sym (get_or-set_other l at (place p) (free_tag j) 0 apart)
        ∙ ap (λ (xs : List ℕ). get_or xs (place p) 0) t.1 ∙ beside_low r p

    high_widens : r ≡ Free → set (set l (pair_start (size j) at + size j) 0) (pair_start (size j) at) (free_tag (suc j)) ≡ written k (plug p Free)
    unfolding place plug
    high_widens e =
        let b = place p + size j in
        let here : set l b (free_tag j) ≡ written k (plug p (Halves Free Free)) = ap (λ (n : ℕ). set l n (free_tag j)) (sym t.0) ∙ t.1
        ∙ ap (λ (x : Tree). written k (plug p (Halves x Free))) e in
        rw high_start
        (ap (λ (xs : List ℕ). set xs (place p) (free_tag (suc j))) (sym (set-set l b (free_tag j) 0) ∙ ap (λ (xs : List ℕ). set xs b 0) here) ∙ widened p)

-- where the other half is free the block becomes twice as large
widens_from : {j k : ℕ} (p : Path j k) (at : ℕ) (l new : List ℕ) → j < k → at ≡ place p → set l at (free_tag j) ≡ written k (plug p Free)
    → new ≡ written k (rejoined p Free) → get_or l (other_place (size j) at) 0 ≡ free_tag j
    → Rises k (suc j) (pair_start (size j) at) (set l (pair_start (size j) at + size j) 0) new
unfolding rejoined joined
widens_from root at l new h here tagged risen free = absurd (omega arith)
widens_from (low {j} {k} r p) at l new h here tagged risen free =
    let t : Tagged p at l (low r p) = (here, tagged) in
    let e = first_free j r (sym (low_byte p at l r t) ∙ free) in
    record {
      path = p;
      here = low_start p at l r t;
      tagged = low_widens p at l r t e;
      risen = risen
          ∙ ap (λ (x : Tree). written k (rejoined p (joined Free x))) e;
    }
widens_from (high {j} {k} r p) at l new h here tagged risen free =
    let t : Tagged p at l (high r p) = (here, tagged) in
    let e = first_free j r (sym (high_byte p at l r t) ∙ free) in
    record {
      path = p;
      here = high_start p at l r t;
      tagged = high_widens p at l r t e;
      risen = risen
          ∙ ap (λ (x : Tree). written k (rejoined p (joined x Free))) e;
    }

-- halves stay halves all the way up
halves_rejoined : {j k : ℕ} (p : Path j k) (l r : Tree) → rejoined p (Halves l r) ≡ plug p (Halves l r)
unfolding rejoined plug
halves_rejoined root l r = refl
halves_rejoined (low s p) l r = ap (rejoined p) (joined_first (Halves l r) s (λ e. let z : ◌≡◌ {A = ℕ} 0 1 = cc in omega arith))
    ∙ halves_rejoined p (Halves l r) s
halves_rejoined (high s p) l r = ap (rejoined p) (joined_second s (Halves l r) (λ e. let z : ◌≡◌ {A = ℕ} 0 1 = cc in omega arith))
    ∙ halves_rejoined p s (Halves l r)

-- and where it is not, the tag is all
stays : {j k : ℕ} (p : Path j k) (at : ℕ) (l : List ℕ) → at ≡ place p → set l at (free_tag j) ≡ written k (plug p Free)
    → (j < k → get_or l (other_place (size j) at) 0 ≡ free_tag j → ⊥) → rejoined p Free ≡ plug p Free
unfolding rejoined plug
stays root at l here tagged taken = refl
stays (low {j} {k} r p) at l here tagged taken =
    let t : Tagged p at l (low r p) = (here, tagged) in
    let other : r ≡ Free → ⊥ = λ e. taken (path_le p) (low_byte p at l r t ∙ ap (λ (x : Tree). get_or (written j x) 0 0) e ∙ free_byte j) in
    ap (rejoined p) (joined_second Free r other) ∙ halves_rejoined p Free r
stays (high {j} {k} r p) at l here tagged taken =
    let t : Tagged p at l (high r p) = (here, tagged) in
    let other : r ≡ Free → ⊥ = λ e. taken (path_le p) (high_byte p at l r t ∙ ap (λ (x : Tree). get_or (written j x) 0 0) e ∙ free_byte j) in
    ap (rejoined p) (joined_first r Free other) ∙ halves_rejoined p r Free

-- the block around it lies in the tree
pair_fits : {j k : ℕ} (p : Path j k) (at : ℕ) → j < k → at ≡ place p
    → (pair_start (size j) at ≤ at) × (at ≤ pair_start (size j) at + size j) × (pair_start (size j) at + size j + size j ≤ size k)
unfolding place
pair_fits root at h here = absurd (omega arith)
pair_fits (low {j} r p) at h here =
    let start : pair_start (size j) at ≡ place p = rw here (pair_low p) in
    (omega arith, omega arith, omega (arith, place_fits p, size_suc j))
pair_fits (high {j} r p) at h here =
    let start : pair_start (size j) at ≡ place p = rw here (pair_high p) in
    (omega arith, omega arith, omega (arith, place_fits p, size_suc j))

module _ {k j at : ℕ} {l new : List ℕ} (r : Rises k j at l new) where
  -- as the code meets it
  pub rise_low : j ≤ k
  rise_low = path_le r.path

  pub rise_inside : at + size j ≤ size k
  rise_inside = rw r.here (place_fits r.path)

  module _ (h : j < k) (n : ℕ) (e : n ≡ size j) (start : ℕ) (f : start ≡ pair_start n at) where
    pub rise_pair : (start ≤ at) × (at ≤ start + n) × (start + n + n ≤ size k)
    rise_pair = rw (f, e) (pair_fits r.path at h r.here)

    pub rise_other : start + start + n - at ≡ other_place (size j) at
    unfolding other_place
    rise_other = rw (f, e)

    pub rise_widens : get_or l (other_place (size j) at) 0 ≡ free_tag j → Rises k (j + 1) start (set l (start + n) 0) new
    rise_widens free = rw (add-one, f, e) (widens_from r.path at l new h r.here r.tagged r.risen free)

  pub rise_ends : (j < k → get_or l (other_place (size j) at) 0 ≡ free_tag j → ⊥) → set l at (free_tag j) ≡ new
  rise_ends taken = r.tagged ∙ ap (written k) (sym (stays r.path at l r.here r.tagged taken)) ∙ sym r.risen

-- the test that goes on
module _ (j k x tag : ℕ) {t : Bool} (e : t ≡ (ltb j k && eqb x tag)) where
  pub both_hold : t ≡ true → (j < k) × (x ≡ tag)
  both_hold h = let (less, same) = and_true (ltb j k) (eqb x tag) (sym e ∙ h) in (ltb-true j k less, eqb-true x tag same)

  pub not_both : t ≡ false → j < k → x ≡ tag → ⊥
  not_both h less same =
      let all : (ltb j k && eqb x tag) ≡ true = rw (lt-ltb j k less, eq-eqb x tag same) in
      let z : ◌≡◌ {A = ℕ} 0 1 = cc in omega arith

-- freeing what is around an address in the block rejoins along the path
freed_plug : {j k : ℕ} (p : Path j k) (a at : ℕ) (t : Tree) → at + place p ≤ a → a < at + place p + size j
    → freed a k at (plug p t) ≡ rejoined p (freed a j (at + place p) t)
unfolding plug place rejoined
freed_plug (root {k}) a at t h l = let none : at + 0 ≡ at = omega arith in ap (λ (n : ℕ). freed a k n t) (sym none)
freed_plug (low {j} r p) a at t h l =
    freed_plug p a at (Halves t r) h (omega (arith, size_suc j)) ∙ ap (rejoined p) (freed_low a j (at + place p) t r l)
freed_plug (high {j} r p) a at t h l =
    let same : at + place p + size j ≡ at + (place p + size j) = omega arith in
    freed_plug p a at (Halves r t) (omega arith) (omega (arith, size_suc j))
    ∙ ap (rejoined p) (freed_high a j (at + place p) r t (omega arith) ∙ ap (λ (n : ℕ). joined r (freed a j n t)) same)

-- the path of the live block whose tag stands at a place of a tree
record Lies (i k o : ℕ) (t : Tree) : Type 0 where
  pub path : Path i k
  pub same : plug path Live ≡ t
  pub at : place path ≡ o

-- a tag that stands in one block's bytes is its own, at the first
tag_place : (tag n i o : ℕ) → o < n → get_or (tag ∷ replicate (n - 1) 0) o 0 ≡ live_tag_of i → (o ≡ 0) × (tag ≡ live_tag_of i)
unfolding live_tag_of
tag_place tag n i zero h e = (refl, e)
tag_place tag n i (suc o) h e = absurd (let z : get_or (replicate (n - 1) 0) o 0 ≡ 0 = get_or-replicate (n - 1) o 0 0 (omega arith) in
    let y : get_or (tag ∷ replicate (n - 1) 0) (suc o) 0 ≡ 0 = z in omega arith)

lies : (m : ℕ) {k : ℕ} (p : Path m k) (t : Tree) (i o : ℕ) → o < size m → get_or (written m t) o 0 ≡ live_tag_of i → Lies i k (place p + o) (plug p t)
unfolding written plug place
lies m p Free i o h e = let (_, tag) = tag_place (free_tag m) (size m) i o h e in unfold free_tag live_tag_of in absurd (omega arith)
lies m {k} p Live i o h e =
    let (first, tag) = tag_place (live_tag_of m) (size m) i o h e in
    let level : m ≡ i = unfold live_tag_of in omega arith in
    subst (λ (n : ℕ). Lies n k (place p + o) (plug p Live)) level (record { path = p; same = refl; at = omega arith })
lies zero p (Halves l r) i zero h e = unfold live_tag_of in absurd (omega arith)
lies zero p (Halves l r) i (suc o) h e = absurd (omega (arith, size_zero))
lies (suc m) {k} p (Halves l r) i o h e =
    by_leb (λ _. Lies i k (place p + o) (plug p (Halves l r))) (suc o) (size m)
    (λ in-low. lies m (low r p) l i o in-low (sym (get_or-append (written m l) (written m r) 0 o (rw length_written in-low)) ∙ e))
    (λ past.
    let far : length (written m l) + (o - size m) ≡ o = omega (arith, length_written m l) in
    let at : place p + size m + (o - size m) ≡ place p + o = omega arith in
    subst (λ (n : ℕ). Lies i k n (plug p (Halves l r))) at
    (lies m (high l p) r i (o - size m) (omega (arith, size_suc m))
    (sym (get_or-append-add (written m l) (written m r) (o - size m) 0) ∙ ap (λ (n : ℕ). get_or (written m l ++ written m r) n 0) far ∙ e)))

-- so a live block is freed upward from its own byte
pub rises : (k i o at : ℕ) (t : Tree) (l : List ℕ) → o < size k → l ≡ written k t → get_or l o 0 ≡ live_tag_of i → Rises k i o l (written k (freed (at + o) k at t))
unfolding plug place freed
rises k i o at t l h w e =
    let b = lies k (root {k = k}) t i o h (ap (λ (xs : List ℕ). get_or xs o 0) (sym w) ∙ e) in
    let here : place b.path ≡ o = b.at ∙ omega arith in
    record {
      path = b.path;
      here = sym here;
      tagged = ap₂ (λ (xs : List ℕ) (n : ℕ). set xs n (free_tag i)) (w ∙ ap (written k) (sym b.same)) (sym here) ∙ freed_bytes b.path;
      risen = ap (λ (x : Tree). written k (freed (at + o) k at x)) (sym b.same)
          ∙ ap (written k) (freed_plug b.path (at + o) at Live (omega arith) (omega (arith, size_pos i)));
    }
