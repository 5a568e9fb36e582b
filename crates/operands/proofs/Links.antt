-- A link by its checks: which refusal, or which location and what stands there. What stands at a bug, and at a field.
-- Assumes nothing.
use Rattle.std.specs.Prelude.{Ok, Err}
use Prim.Native.Nat.{ℕ, ◌+◌, ◌≤◌, ◌<◌}
use mathlib.Core.Bool.{Bool, true, false, not}
use mathlib.Core.List.{List, []}
use mathlib.Core.Path.{◌≡◌, refl, subst}
use borrow.Author.Tests.{eq-eqb, ne_eqb, lt-ltb, le-ltb}
use lib.Dec.{eqb, ltb}
use lib.ListN.{length, get_or}
use Rattle.word.specs.Field.{field_of}
use Rattle.table.specs.declared.BugLetter.{BugLetter}
use Rattle.machine.specs.declared.Definition.{Definition}
use Rattle.machine.specs.declared.Location.{Location}
use Rattle.machine.specs.declared.Location.TheVariants.{Bug, Field}
use Rattle.machine.specs.declared.Refusal.{Refusal}
use Rattle.machine.specs.declared.Refusal.TheVariants.{UndefinedField, NotABlock, OutsideBlock}
use Rattle.machine.specs.Answer.{Checked, passed, told, need, ◌>>◌, ◌>>=◌}
use Rattle.machine.specs.Storage.{word_at}
use Rattle.machine.specs.Locate.{link_by, contents_of}
use Rattle.operands.specs.Locating.{located}
use Rattle.operands.specs.Reading.{standing, told_linked, Reached}

-- a refused check is told so, whatever stands there
module _ (b s1 : ℕ) (storage : List ℕ) (x : Definition) (n pointer : ℕ) where
  pub link_undefined : x.defined ≡ false → told_linked (Err UndefinedField) ≡ told (standing (contents_of b [] s1 storage) (link_by x n pointer))
  unfolding told_linked told standing link_by need ◌>>◌ ◌>>=◌
  link_undefined d = rw d

  pub link_no_block : x.defined ≡ true → n ≡ 0 → told_linked (Err NotABlock) ≡ told (standing (contents_of b [] s1 storage) (link_by x n pointer))
  unfolding told_linked told standing link_by need ◌>>◌ ◌>>=◌
  link_no_block d z = rw (d, eq-eqb n 0 z)

  module _ (d : x.defined ≡ true) (s : n ≡ 0 → ⊥) where
    pub link_outside : n ≤ x.word → told_linked (Err OutsideBlock) ≡ told (standing (contents_of b [] s1 storage) (link_by x n pointer))
    unfolding told_linked told standing link_by need ◌>>◌ ◌>>=◌
    link_outside o = rw (d, ne_eqb n 0 s, le-ltb x.word n o)

    pub link_inside : x.word < n → (at : ℕ) {word v : ℕ} → located at ≡ Field (pointer + x.word) x.left x.right
        → word ≡ word_at s1 (pointer + x.word) storage → v ≡ field_of b x.left x.right word
        → told_linked (Ok (record { at = at; holds = v })) ≡ told (standing (contents_of b [] s1 storage) (link_by x n pointer))
    unfolding told_linked told standing link_by need ◌>>◌ ◌>>=◌ contents_of
    link_inside i at there same is = rw (d, ne_eqb n 0 s, lt-ltb x.word n i, is, same, there)

-- a link leads to a field, where no bug is read
standing_need : (f g : Location → ℕ) (t : Bool) (r : Refusal) (k : Checked Location) → standing f k ≡ standing g k
    → standing f (need t r >> k) ≡ standing g (need t r >> k)
unfolding standing need ◌>>◌ ◌>>=◌
standing_need f g true r k e = e
standing_need f g false r k e = refl

pub link_any : (b s1 : ℕ) (bugs storage : List ℕ) (x : Definition) (n pointer : ℕ)
    → standing (contents_of b [] s1 storage) (link_by x n pointer) ≡ standing (contents_of b bugs s1 storage) (link_by x n pointer)
unfolding link_by contents_of standing ◌>>=◌
link_any b s1 bugs storage x n pointer =
    let f = contents_of b [] s1 storage in
    let g = contents_of b bugs s1 storage in
    standing_need f g x.defined UndefinedField _
    (standing_need f g (not (eqb n 0)) NotABlock _
    (standing_need f g (ltb x.word n) OutsideBlock (passed (Field (pointer + x.word) x.left x.right)) refl))

-- a location that can be reached: a bug's letter is one of the 26, a field lies inside a word of the storage
module _ (b s1 : ℕ) (storage : List ℕ) {at : Location} where
  pub bug_letter : {x : BugLetter} → at ≡ Bug x → Reached b s1 storage at → x.0 < 26
  unfolding Reached
  bug_letter is r = subst (Reached b s1 storage) is r

  pub field_reached : {address left right : ℕ} → at ≡ Field address left right → Reached b s1 storage at
      → (right < b) × (s1 ≤ address) × (address < s1 + length storage)
  unfolding Reached
  field_reached is r = subst (Reached b s1 storage) is r

-- what stands at a bug and at a field
module _ (b : ℕ) (bugs : List ℕ) (s1 : ℕ) (storage : List ℕ) {at : Location} where
  pub bug_contents : {x : BugLetter} → at ≡ Bug x → get_or bugs x.0 0 ≡ contents_of b bugs s1 storage at
  unfolding contents_of
  bug_contents is = rw is

  pub field_contents : {address left right : ℕ} → at ≡ Field address left right → {word v : ℕ} → word ≡ word_at s1 address storage
      → v ≡ field_of b left right word → v ≡ contents_of b bugs s1 storage at
  unfolding contents_of
  field_contents is same read = rw (is, read, same)
