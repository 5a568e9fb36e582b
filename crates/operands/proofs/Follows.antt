-- The links of a reference one after the other: where the first k of them lead, what is left to follow, and that each location on
-- the way can be read. Assumes nothing.
use Rattle.std.specs.Prelude.{Result, Ok, Err}
use Prim.Native.Nat.{ℕ, suc, ◌+◌, ◌*◌, ◌-◌, ◌%◌, ◌≤◌, ◌<◌}
use native.Mathlib.Omega.{arith}
use mathlib.Core.Bool.{true}
use mathlib.Core.List.{List, [], Memᴰ}
use mathlib.Core.Path.{◌≡◌, refl, ap, sym, subst, ◌∙◌}
use lib.ListN.{length, get_or}
use mathlib.Core.Logic.{⊎_elim}
use Rattle.block.proofs.Size.{words_le, fitting_facts, absent_facts}
use Rattle.block.specs.declared.SetUp.{SetUp}
use Rattle.buddy.specs.Tag.{start_size}
use Rattle.buddy.proofs.Address.{live_start_lem}
use Rattle.block.specs.Blocks.{Block, size, size_at}
use Rattle.block.specs.SetUp.{top, words, fitting, absent}
use Rattle.block.specs.Map.{trees, live}
use Rattle.block.proofs.Each.{each_mem}
use Rattle.block.proofs.Map.{trees_fill}
use Rattle.block.proofs.Tiling.{size_at_mem}
use Rattle.block.proofs.Within.{Within, all_within}
use Rattle.table.specs.declared.BugLetter.{BugLetter}
use Rattle.table.specs.declared.FieldName.{FieldName}
use Rattle.table.specs.Reference.{Reference, is_reference, reference_of, Following, FollowingLater, name_at}
use Rattle.table.proofs.Digits.{reference_positive}
use Rattle.table.proofs.FromLeft.{last_names, reference_is}
use Rattle.machine.specs.declared.Definition.{Definition}
use Rattle.machine.specs.declared.Location.{Location}
use Rattle.machine.specs.declared.Location.TheVariants.{Bug, Field}
use Rattle.word.specs.Told.{Told, gives, refuses}
use Rattle.operands.specs.declared.Spot.{Spot}
use Rattle.operands.specs.Locating.{located}
use Rattle.operands.proofs.Numbers.{letter_number}
use Rattle.machine.specs.declared.Refusal.{Refusal}
use Rattle.machine.specs.Answer.{Checked, passed, refused, told, refusal_number, ◌>>=◌}
use Rattle.operands.proofs.Links.{link_any}
use Rattle.operands.proofs.Answers.{at_is, holds_is, stopped_is}
use Rattle.machine.specs.State.{undefined}
use Rattle.machine.specs.Locate.{World, definition_of, contents_of, contents, link_by, link, follow}
use Rattle.operands.specs.Reading.{Stand, leads, standing, told_linked, Readable, Reached, Lying}
use Rattle.machine.proofs.Checks.{or_parts, need_passed, passed_same}
use Rattle.machine.proofs.Located.{Located, defined_right, link_located}

-- a live block lies in the set-up words
live_words : (u : SetUp) (m : List ℕ) → words u % size (top u.d) ≡ 0 → (x : Block) → Memᴰ x (live u m) → Within u.s1 (u.s1 + words u) x
unfolding live
live_words u m whole x k =
    subst (λ (n : ℕ). Within u.s1 (u.s1 + n) x) (trees_fill u m whole) (each_mem (all_within (top u.d) u.s1 (trees u m)) k)

module _ (b : ℕ) (w : World) (h : Readable b w) where
  -- a location in a live block can be read
  inside_reached : (address left right : ℕ) → Located b (live w.setup w.map) (Field address left right)
      → Reached b w.setup.s1 w.storage (Field address left right)
  unfolding Located Reached
  inside_reached address left right l =
      let k = live_words w.setup w.map h.whole l.1.block l.1.is_one in
      (l.0, omega (arith, k.first, l.1.low), omega (arith, k.last, l.1.high, h.room))

  -- a pointer to a live block is small
  pub pointer_small : (a n : ℕ) → n ≡ size_at a (live w.setup w.map) → (n ≡ 0 → ⊥) → a ≤ 131072
  pointer_small a n is some =
      let k = live_words w.setup w.map h.whole _ (size_at_mem a (live w.setup w.map) (λ z. some (is ∙ z))) in
      omega (arith, k.last, h.first, h.last, words_le w.setup)

  -- and not at address zero
  pointer_some : (a n : ℕ) → n ≡ size_at a (live w.setup w.map) → (n ≡ 0 → ⊥) → 1 ≤ a
  pointer_some a n is some =
      let k = live_words w.setup w.map h.whole _ (size_at_mem a (live w.setup w.map) (λ z. some (is ∙ z))) in
      ⊎_elim (λ (f : fitting (length w.storage) w.setup ≡ true). omega (arith, k.first, (fitting_facts _ w.setup f).first))
      (λ (f : absent w.setup ≡ true). absurd (some (omega (arith, k.last, k.first, is, (absent_facts w.setup f).count)))) (or_parts _ _ h.numbers)

  -- what a link relies on
  pub lying : (f : FieldName) (n p : ℕ) → n ≡ size_at p (live w.setup w.map)
      → Lying b w.setup.s1 w.storage (get_or w.definitions f.0 undefined) n p
  unfolding definition_of
  lying f n p is =
      record {
        low = λ some. let k = within some in k.first;
        high = λ some. let k = within some in omega (arith, k.last, is, h.room);
        some = pointer_some p n is;
        small = pointer_small p n is;
        right = defined_right b w h.definitions f;
      }
    where
      within : (n ≡ 0 → ⊥) → Within w.setup.s1 (w.setup.s1 + words w.setup) (record { address = p; size = size_at p (live w.setup w.map) })
      within some = live_words w.setup w.map h.whole _ (size_at_mem p (live w.setup w.map) (λ z. some (is ∙ z)))

  -- where a link leads can be read
  pub link_reached : (pointer : ℕ) (f : FieldName) (at : Location) → link w pointer f ≡ passed at → Reached b w.setup.s1 w.storage at
  unfolding link link_by
  link_reached pointer f at k =
      let (_, k₁) = need_passed _ _ _ k in
      let (_, k₂) = need_passed _ _ _ k₁ in
      let (_, k₃) = need_passed _ _ _ k₂ in
      subst (Reached b w.setup.s1 w.storage) (passed_same k₃)
      (inside_reached _ _ _ (link_located b w h.definitions pointer f _ (k ∙ sym k₃)))

-- what passes on is what there was
bind_same : {A : Type 0} (k : Checked A) → (k >>= λ x. passed x) ≡ k
unfolding ◌>>=◌
bind_same (refused r) = refl
bind_same (passed x) = refl

-- one link by the definition, the size of the block and the pointer
pub link_made : (w : World) (f : FieldName) (n p q : ℕ) → n ≡ size_at p (live w.setup w.map) → p ≡ q
    → link_by (get_or w.definitions f.0 undefined) n p ≡ link w q f
unfolding link definition_of
link_made w f n p q is same = rw (is, same)

-- the same by a definition that is read
module _ (b : ℕ) (w : World) where
  pub lying_as : Readable b w → (f : FieldName) {x : Definition} → x ≡ get_or w.definitions f.0 undefined → (n p : ℕ)
      → n ≡ size_at p (live w.setup w.map)
      → Lying b w.setup.s1 w.storage x n p
  lying_as h f same n p is = rw same (lying b w h f n p is)

  pub link_as : (f : FieldName) {x : Definition} → x ≡ get_or w.definitions f.0 undefined → (n p : ℕ) → n ≡ size_at p (live w.setup w.map)
      → told (standing (contents_of b [] w.setup.s1 w.storage) (link_by x n p))
      ≡ told (standing (contents_of b [] w.setup.s1 w.storage) (link w p f))
  link_as f same n p is = rw same (ap (λ (k : Checked Location). told (standing (contents_of b [] w.setup.s1 w.storage) k)) (link_made w f n p p is refl))

-- the size of the live block at a pointer, by the byte there
pub size_seen : (b : ℕ) (w : World) → Readable b w → {n : ℕ} (p : ℕ) → n ≡ start_size w.setup.s1 w.map p → n ≡ size_at p (live w.setup w.map)
size_seen b w h p is = is ∙ live_start_lem w.setup w.map h.whole h.kept p

-- no link reads a bug
abbrev bugless : World → World
bugless w = record { bugs = []; definitions = w.definitions; setup = w.setup; map = w.map; storage = w.storage }

link_with : (b : ℕ) (w : World) (p : ℕ) (f : FieldName) {t : Told Stand}
    → t ≡ told (standing (contents_of b [] w.setup.s1 w.storage) (link (bugless w) p f)) → t ≡ told (standing (contents b w) (link w p f))
unfolding link definition_of
link_with b w p f is = is ∙ ap told (link_any b w.setup.s1 w.bugs w.storage _ _ p)

-- a link by the byte at the pointer
pub link_seen : (b : ℕ) (w : World) → Readable b w → (f : FieldName) {x : Definition} → x ≡ get_or w.definitions f.0 undefined → {n : ℕ} (p : ℕ)
    → n ≡ start_size w.setup.s1 w.map p → {t : Told Stand} → t ≡ told (standing (contents_of b [] w.setup.s1 w.storage) (link_by x n p))
    → t ≡ told (standing (contents b w) (link w p f))
link_seen b w h f same {n} p is e = link_with b w p f (e ∙ link_as b (bugless w) f same n p (size_seen b w h p is))

-- what it relies on
pub lying_seen : (b : ℕ) (w : World) → Readable b w → (f : FieldName) {x : Definition} → x ≡ get_or w.definitions f.0 undefined → {n : ℕ} (p : ℕ)
    → n ≡ start_size w.setup.s1 w.map p → Lying b w.setup.s1 w.storage x n p
lying_seen b w h f same {n} p is = lying_as b w h f same n p (size_seen b w h p is)

-- a bug can be read
pub bug_reached : (b s1 : ℕ) (storage : List ℕ) (x : BugLetter) → x.0 < 26 → Reached b s1 storage (Bug x)
unfolding Reached
bug_reached b s1 storage x h = h

-- the links of a reference have been followed up to those of its last digits
pub record Followed (b : ℕ) (w : World) (v bits : ℕ) (spot : Spot) (left : ℕ) : Type 0 where
  pub first : Following v bits
  pub count : ℕ
  pub whole : left ≡ 6 * count
  pub low : left ≤ bits
  pub same : leads b w v ≡ follow b w (located spot.at) (last_names count v)
  pub reached : Reached b w.setup.s1 w.storage (located spot.at)
  pub holds : spot.holds ≡ contents b w (located spot.at)

module _ (b : ℕ) (w : World) (v : ℕ) where
  -- at the bug
  pub followed_first : is_reference v ≡ true → {bits : ℕ} → Following v bits → {x : BugLetter} → (x ≡ (reference_of v).bug) × (x.0 < 26)
      → Followed b w v bits (record { at = x.0; holds = get_or w.bugs x.0 0 }) bits
  unfolding leads contents_of
  followed_first h {bits} f {x} (is, small) =
      let letter = letter_number x small in
      record {
        first = f;
        count = f.count;
        whole = f.whole;
        low = omega arith;
        same = rw (letter, is) (ap (λ (r : Reference). follow b w (Bug (reference_of v).bug) r.fields) (sym (reference_is v h f)));
        reached = rw letter (bug_reached b _ _ x small);
        holds = rw letter;
      }

  module _ {bits left : ℕ} {spot : Spot} (so_far : Followed b w v bits spot left) where
    -- no link is left
    pub followed_all : left ≤ 0 → told_linked (Ok spot) ≡ told (standing (contents b w) (leads b w v))
    unfolding follow told_linked told standing ◌>>=◌ last_names
    followed_all end =
        let none : so_far.count ≡ 0 = omega (arith, so_far.whole) in
        let ends : leads b w v ≡ passed (located spot.at) = so_far.same ∙ ap (λ (n : ℕ). follow b w (located spot.at) (last_names n v)) none in
        rw ends (ap (λ (x : ℕ). gives {A = Stand} (record { at = located spot.at; holds = x })) so_far.holds)

    module _ (more : 0 < left) where
      -- the next name
      pub name_left : FollowingLater v (left - 6)
      name_left =
          record {
            count = so_far.count - 1;
            whole = omega (arith, so_far.whole);
            all = bits;
            later = omega (arith, so_far.low, so_far.whole);
            first = so_far.first;
          }

      module _ {f : FieldName} (name : f ≡ name_at v (left - 6)) where
        -- what is left has one link more
        next_link : leads b w v ≡ (link w spot.holds f >>= λ next. follow b w next (last_names (so_far.count - 1) v))
        unfolding follow last_names
        next_link =
            let one_more : so_far.count ≡ suc (so_far.count - 1) = omega (arith, so_far.whole) in
            let here : 6 * (so_far.count - 1) ≡ left - 6 = omega (arith, so_far.whole) in
            so_far.same
            ∙ ap (λ (n : ℕ). follow b w (located spot.at) (last_names n v)) one_more
            ∙ ap (λ (k : ℕ). link w (contents b w (located spot.at)) (name_at v k) >>= λ next. follow b w next (last_names (so_far.count - 1) v)) here
            ∙ ap (λ (g : FieldName). link w (contents b w (located spot.at)) g >>= λ next. follow b w next (last_names (so_far.count - 1) v)) (sym name)
            ∙ ap (λ (p : ℕ). link w p f >>= λ next. follow b w next (last_names (so_far.count - 1) v)) (sym so_far.holds)

        -- a link that passed, with what stands there
        pub followed_at : Readable b w → (at : ℕ) → link w spot.holds f ≡ passed (located at) → {v' : ℕ} → v' ≡ contents b w (located at)
            → Followed b w v bits (record { at = at; holds = v' }) (left - 6)
        unfolding ◌>>=◌
        followed_at h at to there =
            record {
              first = so_far.first;
              count = so_far.count - 1;
              whole = omega (arith, so_far.whole);
              low = omega (arith, so_far.low);
              same = next_link ∙ rw to;
              reached = link_reached b w h _ _ _ to;
              holds = there;
            }

        -- a link that is refused ends it
        pub followed_refused : {r : Refusal} → link w spot.holds f ≡ refused r → refuses (refusal_number r) ≡ told (standing (contents b w) (leads b w v))
        unfolding ◌>>=◌ told standing
        followed_refused {r} to =
            let ends : leads b w v ≡ refused r = next_link ∙ rw to in
            rw ends

        -- the last link
        pub followed_last : left ≡ 6 → {t : Told Stand} → t ≡ told (standing (contents b w) (link w spot.holds f))
            → t ≡ told (standing (contents b w) (leads b w v))
        unfolding last_names follow
        followed_last one is =
            let last : so_far.count - 1 ≡ 0 = omega (arith, so_far.whole) in
            is
            ∙ ap (λ (k : Checked Location). told (standing (contents b w) k))
            (sym (next_link ∙ ap (λ (n : ℕ). link w spot.holds f >>= λ next. follow b w next (last_names n v)) last ∙ bind_same (link w spot.holds f)))

        -- an answer of link, by its case
        module _ {answer : Result Spot Refusal} (is : told_linked answer ≡ told (standing (contents b w) (link w spot.holds f))) where
          pub followed_next : Readable b w → {next : Spot} → answer ≡ Ok next → Followed b w v bits next (left - 6)
          followed_next h {next} to = followed_at h next.at (at_is _ _ is to) (holds_is _ _ is to)

          pub followed_stopped : {r : Refusal} → answer ≡ Err r → told_linked answer ≡ told (standing (contents b w) (leads b w v))
          unfolding told_linked
          followed_stopped to = ap told_linked to ∙ followed_refused (stopped_is _ _ is to)

-- one field follows a bug
pub one_field : (v : ℕ) → 64 ≤ v → v < 4096 → Following v 6
one_field v low high = record { count = 1; whole = refl; low = low; high = high }

pub one_name : (v : ℕ) → 64 ≤ v → v < 4096 → FollowingLater v 0
one_name v low high = record { count = 0; whole = refl; all = 6; later = omega arith; first = one_field v low high }

-- none does
pub no_field : (v : ℕ) → is_reference v ≡ true → v < 64 → Following v 0
no_field v h less = record { count = 0; whole = refl; low = reference_positive v h; high = less }

-- a reference of one digit leads to its bug, whose word stands there
pub bug_spot : (b : ℕ) (w : World) (v : ℕ) → is_reference v ≡ true → v < 64 → {x : BugLetter} → (x ≡ (reference_of v).bug) × (x.0 < 26)
    → told_linked (Ok (record { at = x.0; holds = get_or w.bugs x.0 0 })) ≡ told (standing (contents b w) (leads b w v))
bug_spot b w v h one is = followed_all b w v (followed_first b w v h (no_field v h one) is) (omega arith)
