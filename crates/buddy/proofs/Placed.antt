-- One tree of a map at its place: its bytes are a part of the map, and the map with other bytes there is that of the changed trees. Assumes nothing.
use Rattle.std.proofs.Common.{◌≡◌, ℕ, zero, suc, ◌+◌, ◌*◌, ◌<◌, ◌≤◌, true, List, [], ◌∷◌, ◌++◌, length, take, drop, sym, ap, ◌∙◌, subst, ap₂, append_assoc, arith, drop-drop, take_at, take-add, drop_at, le-ltb, lt-ltb}
use Rattle.block.specs.Blocks.{size, Tree, changed}
use Rattle.block.specs.Map.{written, canonical, all_written, all_canonical}
use Rattle.word.proofs.Tests.{and_true}
use Rattle.block.proofs.Map.{length_written}

-- the tree at the q-th place of trees whose map is m
pub record Placed (k q : ℕ) (ts : List Tree) (m rest : List ℕ) : Type 0 where
  pub tree : Tree
  pub whole : canonical k tree ≡ true
  pub bytes : take (size k) (drop (q * size k) m) ≡ written k tree
  pub puts : (f : ℕ → Tree → Tree) (a at : ℕ) → at + q * size k ≤ a → a < (at + q * size k) + size k
      → take (q * size k) m ++ (written k (f (at + q * size k) tree) ++ drop (size k) (drop (q * size k) m)) ≡ all_written k (changed f a k at ts) ++ rest

-- the bytes of the first tree and the others
pub all_cons : (k : ℕ) (t : Tree) (ts : List Tree) (rest : List ℕ) → all_written k (t ∷ ts) ++ rest ≡ written k t ++ (all_written k ts ++ rest)
unfolding all_written
all_cons k t ts rest = append_assoc (written k t) (all_written k ts) rest

module _ (f : ℕ → Tree → Tree) (a k at : ℕ) (t : Tree) (ts : List Tree) where
  -- the first tree is changed, or a later one
  pub changed_first : a < at + size k → changed f a k at (t ∷ ts) ≡ f at t ∷ ts
  unfolding changed
  changed_first h = rw (lt-ltb a (at + size k) h)

  pub changed_later : at + size k ≤ a → changed f a k at (t ∷ ts) ≡ t ∷ changed f a k (at + size k) ts
  unfolding changed
  changed_later h = rw (le-ltb a (at + size k) h)

-- the first tree
placed_first : (k : ℕ) (t : Tree) (ts : List Tree) (rest : List ℕ) → canonical k t ≡ true
    → Placed k 0 (t ∷ ts) (written k t ++ (all_written k ts ++ rest)) rest
placed_first k t ts rest h =
    let none : 0 * size k ≡ 0 = omega arith in
    let later = all_written k ts ++ rest in
    let long = length_written k t in
    record {
      tree = t;
      whole = h;
      bytes = rw none (take_at (written k t) later (size k) long);
      puts = λ f a at l u.
          let here : at + 0 * size k ≡ at = omega arith in
          rw (here, none, drop_at (written k t) later (size k) long)
          (sym (all_cons k (f at t) ts rest) ∙ ap (λ (new : List Tree). all_written k new ++ rest) (sym (changed_first f a k at t ts (omega arith))));
    }

-- a later one
placed_later : (k q : ℕ) (t : Tree) (ts : List Tree) (m rest : List ℕ) → Placed k q ts m rest → Placed k (suc q) (t ∷ ts) (written k t ++ m) rest
placed_later k q t ts m rest p =
    let more : suc q * size k ≡ size k + q * size k = omega arith in
    let long = length_written k t in
    let after : drop (suc q * size k) (written k t ++ m) ≡ drop (q * size k) m
    = ap (λ (n : ℕ). drop n (written k t ++ m)) more ∙ sym (drop-drop (q * size k) (size k) (written k t ++ m))
    ∙ ap (drop (q * size k)) (drop_at (written k t) m (size k) long) in
    let until : take (suc q * size k) (written k t ++ m) ≡ written k t ++ take (q * size k) m
    = ap (λ (n : ℕ). take n (written k t ++ m)) more ∙ take-add (size k) (q * size k) (written k t ++ m)
    ∙ ap₂ ◌++◌ (take_at (written k t) m (size k) long) (ap (take (q * size k)) (drop_at (written k t) m (size k) long)) in
    record {
      tree = p.tree;
      whole = p.whole;
      bytes = ap (take (size k)) after ∙ p.bytes;
      puts = λ f a at l u.
          let there : at + suc q * size k ≡ (at + size k) + q * size k = omega arith in
          ap₂ ◌++◌ until (ap₂ ◌++◌ (ap (λ (b : ℕ). written k (f b p.tree)) there) (ap (drop (size k)) after))
          ∙ append_assoc (written k t) (take (q * size k) m) _
          ∙ ap (λ (xs : List ℕ). written k t ++ xs) (p.puts f a (at + size k) (omega arith) (omega arith))
          ∙ sym (all_cons k t (changed f a k (at + size k) ts) rest)
          ∙ ap (λ (new : List Tree). all_written k new ++ rest) (sym (changed_later f a k at t ts (omega arith)));
    }

-- each of the trees
pub placed : (k q : ℕ) (ts : List Tree) (rest : List ℕ) → q < length ts → all_canonical k ts ≡ true → Placed k q ts (all_written k ts ++ rest) rest
unfolding all_canonical all_written
placed k q [] rest l h = absurd (omega arith)
placed k zero (t ∷ ts) rest l h =
    let (first, others) = and_true (canonical k t) _ h in
    subst (λ (m : List ℕ). Placed k 0 (t ∷ ts) m rest) (sym (append_assoc (written k t) (all_written k ts) rest)) (placed_first k t ts rest first)
placed k (suc q) (t ∷ ts) rest l h =
    let (first, others) = and_true (canonical k t) _ h in
    subst (λ (m : List ℕ). Placed k (suc q) (t ∷ ts) m rest) (sym (append_assoc (written k t) (all_written k ts) rest))
    (placed_later k q t ts (all_written k ts ++ rest) rest (placed k q ts rest (omega arith) others))
