-- What delivering the lowest run writes: the free block that it starts is split, and the bytes around it stay. Assumes nothing.
use Rattle.std.specs.Prelude.{Option, Some, None}
use Rattle.std.proofs.Common.{◌≡◌, ℕ, zero, suc, ◌+◌, ◌-◌, ◌/◌, ◌<◌, ◌≤◌, cond, ◌⊎◌, List, [], ◌∷◌, ◌++◌, length, get_or, take, drop, replicate, sym, refl, ap, ◌∙◌, subst, ap₂, inl, inr, ⊎_elim, append_assoc, append-nil, arith, length-append, take_at, drop_at, le-ltb, lt-ltb}
use lib.Seq.{get_or_at}
use Rattle.block.specs.Blocks.{size, Tree, Free, Live, Halves, changed, delivered}
use Rattle.block.specs.Map.{free_tag, written, all_written}
use Rattle.buddy.specs.Lowest.{or_else, lowest_in}
use Rattle.word.proofs.Tests.{by_leb}
use Rattle.block.proofs.Size.{size_pos, size_suc}
use Rattle.block.proofs.Map.{length_written}
use Rattle.buddy.proofs.Tags.{written_halves}
use Rattle.buddy.proofs.Placed.{all_cons, changed_first, changed_later}
use Rattle.buddy.proofs.Lowest.{lowest_of, not_found, lowest_large, lowest_none}

-- an address is one
same_address : (a b : ℕ) → Some a ≡ Some b → a ≡ b
same_address a b e = cc

-- what is found was found first, or second and not first
found_where : (x y : Option ℕ) (a : ℕ) → or_else x y ≡ Some a → (x ≡ Some a) ⊎ ((x ≡ None) × (y ≡ Some a))
unfolding or_else
found_where (Some b) y a e = inl e
found_where None y a e = inr (refl, e)

-- the start of a free block lies in its tree
lowest_bound : (j k at a : ℕ) (t : Tree) → lowest_in j k at t ≡ Some a → (at ≤ a) × (a < at + size k)
unfolding lowest_in
lowest_bound j k at a Free = λ e. let same = same_address at a e in (omega arith, omega (arith, size_pos k))
lowest_bound j k at a Live = λ e. absurd (not_found a e)
lowest_bound j zero at a (Halves x y) = λ e. absurd (not_found a e)
lowest_bound j (suc k) at a (Halves x y) =
    by_leb (λ b. cond b None (or_else (lowest_in j k at x) (lowest_in j k (at + size k) y)) ≡ Some a → (at ≤ a) × (a < at + size (suc k))) (suc k) j
    (λ l e. absurd (not_found a e))
    (λ l e. ⊎_elim
    (λ low. let bound = lowest_bound j k at a x low in (bound.0, omega (arith, size_suc k, bound.1)))
    (λ high. let bound = lowest_bound j k (at + size k) a y high.1 in (omega (arith, bound.0), omega (arith, size_suc k, bound.1)))
    (found_where (lowest_in j k at x) (lowest_in j k (at + size k) y) a e))

-- and in the words of one tree after the other
lowest_of_bound : (j k at a : ℕ) (ts : List Tree) → lowest_of j k at ts ≡ Some a → at ≤ a
unfolding lowest_of
lowest_of_bound j k at a [] e = absurd (not_found a e)
lowest_of_bound j k at a (t ∷ ts) e =
    ⊎_elim (λ low. (lowest_bound j k at a t low).0) (λ high. omega (arith, lowest_of_bound j k (at + size k) a ts high.1))
    (found_where (lowest_in j k at t) (lowest_of j k (at + size k) ts) a e)

-- delivering in halves goes on in the one around the address
delivered_first : (j a k at : ℕ) (x y : Tree) → a < at + size k → delivered j a (suc k) at (Halves x y) ≡ Halves (delivered j a k at x) y
unfolding delivered
delivered_first j a k at x y h = rw (lt-ltb a (at + size k) h)

delivered_second : (j a k at : ℕ) (x y : Tree) → at + size k ≤ a → delivered j a (suc k) at (Halves x y) ≡ Halves x (delivered j a k (at + size k) y)
unfolding delivered
delivered_second j a k at x y h = rw (le-ltb a (at + size k) h)

-- the free block that a run at address a starts, o bytes on: what stands around it, and the bytes when the run is delivered
pub record Spot (j k o a : ℕ) (old new : List ℕ) : Type 0 where
  pub level : ℕ
  pub before : List ℕ
  pub after : List ℕ
  pub wanted : j ≤ level
  pub small : level ≤ k
  pub long : length before ≡ o
  pub whole : old ≡ before ++ (written level Free ++ after)
  pub halved : new ≡ before ++ (written level (delivered j a level a Free) ++ after)

more_after : (x y z r : List ℕ) → (x ++ (y ++ z)) ++ r ≡ x ++ (y ++ (z ++ r))
more_after x y z r = simp append_assoc

module _ {j o a : ℕ} where
  pub spot_same : {k : ℕ} {old old' new new' : List ℕ} → old ≡ old' → new ≡ new' → Spot j k o a old new → Spot j k o a old' new'
  spot_same e f s = rw (← e, ← f) s

  -- more bytes after it
  spot_low : {k i : ℕ} {old new : List ℕ} (r : List ℕ) → k ≤ i → Spot j k o a old new → Spot j i o a (old ++ r) (new ++ r)
  spot_low r h s = record {
    level = s.level;
    before = s.before;
    after = s.after ++ r;
    wanted = s.wanted;
    small = omega (arith, s.small);
    long = s.long;
    whole = ap (λ (xs : List ℕ). xs ++ r) s.whole ∙ more_after s.before (written s.level Free) s.after r;
    halved = ap (λ (xs : List ℕ). xs ++ r) s.halved ∙ more_after s.before (written s.level (delivered j a s.level a Free)) s.after r;
  }

  -- and before it
  spot_high : {k i p : ℕ} {old new : List ℕ} (r : List ℕ) → k ≤ i → length r + p ≡ o → Spot j k p a old new → Spot j i o a (r ++ old) (r ++ new)
  spot_high r h e s = record {
    level = s.level;
    before = r ++ s.before;
    after = s.after;
    wanted = s.wanted;
    small = omega (arith, s.small);
    long = rw length-append (omega (arith, s.long));
    whole = ap (λ (xs : List ℕ). r ++ xs) s.whole ∙ sym (append_assoc r s.before _);
    halved = ap (λ (xs : List ℕ). r ++ xs) s.halved ∙ sym (append_assoc r s.before _);
  }

-- in a tree
spot_tree : (j k at o : ℕ) (t : Tree) → j ≤ k → lowest_in j k at t ≡ Some (at + o)
    → Spot j k o (at + o) (written k t) (written k (delivered j (at + o) k at t))
spot_tree j k at o Free below e =
    let here : at ≡ at + o = same_address at (at + o) (unfold lowest_in in e) in
    record {
      level = k;
      before = [];
      after = [];
      wanted = below;
      small = omega arith;
      long = omega arith;
      whole = sym (append-nil (written k Free));
      halved = ap (λ (b : ℕ). written k (delivered j (at + o) k b Free)) here ∙ sym (append-nil _);
    }
spot_tree j k at o Live below e = absurd (not_found (at + o) (unfold lowest_in in e))
spot_tree j zero at o (Halves x y) below e = absurd (not_found (at + o) (unfold lowest_in in e))
spot_tree j (suc k) at o (Halves x y) below e =
    by_leb (λ _. Spot j (suc k) o (at + o) (written (suc k) (Halves x y)) (written (suc k) (delivered j (at + o) (suc k) at (Halves x y)))) (suc k) j
    (λ large. absurd (not_found (at + o) (sym (lowest_none j k at x y large) ∙ e)))
    (λ less.
    ⊎_elim
    (λ low.
    let bound = lowest_bound j k at (at + o) x low in
    spot_same (sym (written_halves k x y))
    (sym (ap (written (suc k)) (delivered_first j (at + o) k at x y bound.1) ∙ written_halves k _ y))
    (spot_low (written k y) (omega arith) (spot_tree j k at o x (omega arith) low)))
    (λ high.
    let bound = lowest_bound j k (at + size k) (at + o) y high.1 in
    let far : (at + size k) + (o - size k) ≡ at + o = omega (arith, bound.0) in
    let s = subst (λ (b : ℕ). Spot j k (o - size k) b (written k y) (written k (delivered j b k (at + size k) y))) far
    (spot_tree j k (at + size k) (o - size k) y (omega arith) (high.1 ∙ ap Some (sym far))) in
    spot_same (sym (written_halves k x y))
    (sym (ap (written (suc k)) (delivered_second j (at + o) k at x y bound.0) ∙ written_halves k x _))
    (spot_high (written k x) (omega arith) (omega (arith, bound.0, length_written k x)) s))
    (found_where (lowest_in j k at x) (lowest_in j k (at + size k) y) (at + o) (sym (lowest_large j k at x y (omega arith)) ∙ e)))

-- and in one tree after the other
pub spot_trees : (j k at o : ℕ) (ts : List Tree) (rest : List ℕ) → j ≤ k → lowest_of j k at ts ≡ Some (at + o)
    → Spot j k o (at + o) (all_written k ts ++ rest) (all_written k (changed (delivered j (at + o) k) (at + o) k at ts) ++ rest)
unfolding lowest_of
spot_trees j k at o [] rest below e = absurd (not_found (at + o) e)
spot_trees j k at o (t ∷ ts) rest below e =
    let f = delivered j (at + o) k in
    ⊎_elim
    (λ low.
    let bound = lowest_bound j k at (at + o) t low in
    spot_same (sym (all_cons k t ts rest))
    (sym (ap (λ (new : List Tree). all_written k new ++ rest) (changed_first f (at + o) k at t ts bound.1) ∙ all_cons k (f at t) ts rest))
    (spot_low (all_written k ts ++ rest) (omega arith) (spot_tree j k at o t below low)))
    (λ high.
    let bound = lowest_of_bound j k (at + size k) (at + o) ts high.1 in
    let far : (at + size k) + (o - size k) ≡ at + o = omega arith in
    let s = subst (λ (b : ℕ). Spot j k (o - size k) b (all_written k ts ++ rest) (all_written k (changed (delivered j b k) b k (at + size k) ts) ++ rest)) far
    (spot_trees j k (at + size k) (o - size k) ts rest below (high.1 ∙ ap Some (sym far))) in
    spot_same (sym (all_cons k t ts rest))
    (sym (ap (λ (new : List Tree). all_written k new ++ rest) (changed_later f (at + o) k at t ts bound) ∙ all_cons k t _ rest))
    (spot_high (written k t) (omega arith) (omega (arith, length_written k t)) s))
    (found_where (lowest_in j k at t) (lowest_of j k (at + size k) ts) (at + o) e)

-- the tag of a free block tells its size
half_tag : (i x : ℕ) → x ≡ free_tag i → i ≡ x / 2
unfolding free_tag
half_tag i x e = omega arith

tag_there : (i : ℕ) (before after : List ℕ) (o : ℕ) → length before ≡ o → get_or (before ++ (written i Free ++ after)) o 0 ≡ free_tag i
unfolding written
tag_there i before after o long = get_or_at before (free_tag i) (replicate (size i - 1) 0 ++ after) 0 o long

-- what a split there needs and gives, of a block of the i-th size
pub record Ready (j k o : ℕ) (m new : List ℕ) (i : ℕ) : Type 0 where
  pub wanted : j ≤ i
  pub small : i ≤ k
  pub fits : o + size i ≤ length m
  pub puts : (n : ℕ) (ys : List ℕ) → n ≡ size i
      → ((at : ℕ) → take (o + n - o) (drop o m) ≡ written i Free → ys ≡ written i (delivered j at i at Free))
      → take o m ++ (ys ++ drop (o + n - o) (drop o m)) ≡ new

pub ready : {j k o a : ℕ} {m new : List ℕ} → Spot j k o a m new → Ready j k o m new (get_or m o 0 / 2)
ready {j} {k} {o} {a} {m} {new} s =
    let i = s.level in
    let rest : drop o m ≡ written i Free ++ s.after = ap (drop o) s.whole ∙ drop_at s.before _ o s.long in
    let tag : get_or m o 0 ≡ free_tag i = ap (λ (xs : List ℕ). get_or xs o 0) s.whole ∙ tag_there i s.before s.after o s.long in
    let level : i ≡ get_or m o 0 / 2 = half_tag i (get_or m o 0) tag in
    subst (Ready j k o m new) level
    (record {
      wanted = s.wanted;
      small = s.small;
      fits = omega (arith, simp length-append at (ap length s.whole), s.long, length_written i Free);
      puts = λ n ys e inner.
          let same : o + n - o ≡ size i = omega arith in
          let here : take (o + n - o) (drop o m) ≡ written i Free
          = ap₂ take same rest ∙ take_at (written i Free) s.after (size i) (length_written i Free) in
          let there : drop (o + n - o) (drop o m) ≡ s.after
          = ap₂ drop same rest ∙ drop_at (written i Free) s.after (size i) (length_written i Free) in
          ap₂ ◌++◌ (ap (take o) s.whole ∙ take_at s.before _ o s.long) (ap₂ ◌++◌ (inner a here) there) ∙ sym s.halved;
    })
