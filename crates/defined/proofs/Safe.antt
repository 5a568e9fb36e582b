-- Checks that are never refused by 14: put together from their parts, down to the links of a reference whose fields are all defined.
-- Assumes nothing.
use Prim.Native.Nat.{ℕ}
use native.Mathlib.Omega.{arith}
use mathlib.Core.Bool.{Bool, true, false, cond}
use mathlib.Core.List.{List, [], ◌∷◌}
use mathlib.Core.Path.{◌≡◌, refl, ap, sym}
use borrow.Author.Tests.{eq-eqb}
use lib.Dec.{eqb}
use lib.ListN.{get_or}
use Rattle.table.specs.declared.FieldName.{FieldName}
use Rattle.table.specs.declared.Pair.{Pair}
use Rattle.machine.specs.declared.Definition.{Definition}
use Rattle.machine.specs.declared.Location.{Location}
use Rattle.machine.specs.declared.Refusal.{Refusal}
use Rattle.machine.specs.declared.Refusal.TheVariants.{UndefinedField, NotABlock, OutsideBlock}
use Rattle.machine.specs.Answer.{Checked, refused, passed, ◌>>=◌, ◌>>◌, need, refusal_number}
use Rattle.machine.specs.State.{undefined}
use Rattle.machine.specs.Locate.{World, definition_of, contents, link_by, link, follow, locate, operand}
use Rattle.machine.proofs.Checks.{clash, need_yes}
use Rattle.defined.specs.Paths.{names}
use Rattle.defined.proofs.Refers.{or_right, refers_to, reference_fields}

-- never refused by 14
abbrev pub Safe : {A : Type 0} → Checked A → Type 0
Safe {A} m = ◌≡◌ {A = Checked A} m (refused UndefinedField) → ⊥

-- another refusal than 14
abbrev pub Other : Refusal → Type 0
Other r = eqb (refusal_number r) 14 ≡ false

same_refusal : {A : Type 0} {r q : Refusal} → ◌≡◌ {A = Checked A} (refused r) (refused q) → r ≡ q
same_refusal h = cc

pub other_refusal : {A : Type 0} (r : Refusal) → Other r → Safe {A = A} (refused r)
unfolding refusal_number
other_refusal r o h =
    let is : r ≡ UndefinedField = same_refusal h in
    let no : eqb (refusal_number UndefinedField) 14 ≡ false = rw is at o in
    clash (sym no)

pub safe_passed : {A : Type 0} (x : A) → Safe (passed x)
safe_passed x h = let never : ◌≡◌ {A = ℕ} 0 1 = cc in omega arith

-- a check with another refusal, and what follows it where it passes
pub safe_when : {A : Type 0} (t : Bool) (r : Refusal) (m : Checked A) → Other r → (t ≡ true → Safe m) → Safe (need t r >> m)
unfolding need ◌>>◌
safe_when true r m o s = s refl
safe_when false r m o s = other_refusal r o

pub safe_need : {A : Type 0} (t : Bool) (r : Refusal) (m : Checked A) → Other r → Safe m → Safe (need t r >> m)
safe_need t r m o s = safe_when t r m o (λ _. s)

pub safe_needed : {A : Type 0} (t : Bool) (r : Refusal) (m : Checked A) → t ≡ true → Safe m → Safe (need t r >> m)
safe_needed t r m h s = rw (need_yes t r m h) s

pub safe_bind : {A B : Type 0} (m : Checked A) (f : A → Checked B) → Safe m → ((x : A) → m ≡ passed x → Safe (f x)) → Safe (m >>= f)
unfolding ◌>>=◌
safe_bind (passed x) f s t = t x refl
safe_bind (refused r) f s t = λ h. let is : r ≡ UndefinedField = same_refusal h in s (ap refused is)

pub safe_cond : {A : Type 0} (t : Bool) (m n : Checked A) → (t ≡ true → Safe m) → (t ≡ false → Safe n) → Safe (cond t m n)
safe_cond true m n s u = s refl
safe_cond false m n s u = u refl

-- these definitions have each field that a pair refers to
abbrev pub Known : List Definition → (ℕ → Bool) → Type 0
Known ds used = (n : ℕ) → used n ≡ true → (get_or ds n undefined).defined ≡ true

module _ (b : ℕ) (w : World) where
  link_safe : (pointer : ℕ) (f : FieldName) → (get_or w.definitions f.0 undefined).defined ≡ true → Safe (link w pointer f)
  unfolding link link_by definition_of refusal_number
  link_safe pointer f d =
      safe_needed _ UndefinedField _ d (safe_need _ NotABlock _ refl (safe_need _ OutsideBlock _ refl (safe_passed _)))

  follow_safe : (at : Location) (fs : List FieldName) → Known w.definitions (names fs) → Safe (follow b w at fs)
  unfolding follow names
  follow_safe at [] k = safe_passed at
  follow_safe at (f ∷ fs) k =
      safe_bind _ _ (link_safe (contents b w at) f (k f.0 (rw (eq-eqb f.0 f.0 refl))))
      (λ next _. follow_safe next fs (λ n h. k n (or_right (eqb f.0 n) (names fs n) h)))

  -- a reference whose fields are defined
  pub locate_safe : (p : Pair) → p.form ≡ 2 → Known w.definitions (refers_to p) → Safe (locate b w p)
  unfolding locate
  locate_safe p form k = follow_safe _ _ (λ n h. k n (rw (reference_fields p form) h))

  -- a literal, or such a reference
  pub operand_safe : (p : Pair) → (eqb p.form 1 ≡ false → p.form ≡ 2) → Known w.definitions (refers_to p) → Safe (operand b w p)
  unfolding operand
  operand_safe p form k =
      safe_cond (eqb p.form 1) _ _ (λ _. safe_passed _) (λ q. safe_bind _ _ (locate_safe p (form q) k) (λ at _. safe_passed _))
