-- The form that arguments fit, as the code finds it: one argument after the other. Assumes nothing.
use Prim.Native.Nat.{ℕ, suc, ◌+◌, ◌-◌, ◌≤◌, ◌<◌}
use native.Mathlib.Omega.{arith}
use denote.Bor.{Bor}
use mathlib.Core.Path.{◌≡◌, refl, ap, ap₂, sym, subst, ◌∙◌}
use mathlib.Core.Bool.{Bool, true, false, not, ◌&&◌, cond}
use mathlib.Core.Logic.{◌⊎◌, ⊎_elim}
use mathlib.Core.List.{List, [], ◌∷◌, ◌++◌, map}
use lib.Dec.{eqb}
use lib.ListN.{length, drop, get_or, drop_of_length-le}
use lib.Seq.{drop-cons}
use Rattle.std.specs.Prelude.{Option, Some, None, is_some, MatchBool}
use Rattle.std.specs.List.{All, slice_split, IsFirstMatchOrLen}
use Rattle.std.proofs.lemmas.Bool.{false≢true}
use Rattle.std.proofs.lemmas.Grind.{common_steps}
use Rattle.std.proofs.lemmas.List.Splits.{slice_split_none, slice_split_at}
use Rattle.word.proofs.Tests.{by_test, and_false}
use Rattle.lines.specs.declared.Kind.{Kind}
use Rattle.lines.specs.declared.Kind.TheVariants.{Field}
use Rattle.lines.specs.Words.{is_kind}
use Rattle.lines.specs.Forms.{are_kinds}
use Rattle.lines.specs.Reading.{onto, split}
use Rattle.lines.specs.Walking.{kind_of}
use Rattle.lines.proofs.Library.{split_lem}

-- the arguments that are left, none once the last was taken
abbrev pub left : Bool → List ℕ → List (List ℕ)
left done rest = cond done [] (split rest)

-- an argument is what stands before the first comma
pub argument_first : (s w after : List ℕ) (over : Bool) → MatchBool over (s ≡ w) ((y : ℕ) × (s ≡ w ++ (y ∷ after)))
    → IsFirstMatchOrLen (λ x. eqb x 44) s (length w) → split s ≡ w ∷ left over after
argument_first s w after true e h =
    sym (split_lem s) ∙ ap (slice_split (λ x. eqb x 44)) e
    ∙ slice_split_none (λ x. eqb x 44) w (λ k d l. subst (λ (v : List ℕ). eqb (get_or v k d) 44 ≡ false) e (h.0 k d (omega arith) l))
argument_first s w after false (y, e) h =
    let front : All (λ x. eqb x 44 ≡ false) w = λ k d l. let a = h.0 k d (omega arith) l in grind (arith, common_steps) in
    let comma : eqb y 44 ≡ true = let a = h.1 (grind (arith, common_steps)) y in grind (arith, common_steps) in
    sym (split_lem s) ∙ ap (slice_split (λ x. eqb x 44)) e ∙ slice_split_at (λ x. eqb x 44) w y after front comma
    ∙ ap (λ (ws : List (List ℕ)). w ∷ ws) (split_lem after)

module _ (b : ℕ) where
  -- there is an argument always
  none_asked : (s : List ℕ) → are_kinds b [] (split s) ≡ false
  unfolding are_kinds split onto
  none_asked [] = refl
  none_asked (x ∷ s) = by_test (λ t. are_kinds b [] (cond t ([] ∷ split s) (onto x (split s))) ≡ false) (eqb x 44) (λ _. refl) (λ _. first (split s))
    where
      first : (ws : List (List ℕ)) → are_kinds b [] (onto x ws) ≡ false
      first [] = refl
      first (w ∷ ws) = refl

  -- the kinds that are left after the first i of them are asked of the arguments that an iterator has left, of which it takes `count` at most
  module _ (ks : List Kind) (s : List ℕ) where
    pub record Fitting (i count : ℕ) (done : Bool) (rest : List ℕ) : Type 0 where
      pub inside : i ≤ length ks
      pub many : i + count ≡ suc (length ks)
      pub same : are_kinds b (map kind_of (drop i ks)) (left done rest) ≡ are_kinds b (map kind_of ks) (split s)

    pub fitting_none : {count : ℕ} {done : Bool} {rest : List ℕ} → count ≡ length ks + 1 → done ≡ false → rest ≡ s → Fitting 0 count done rest
    fitting_none c d r =
        record {
          inside = omega arith;
          many = omega arith;
          same = ap₂ (λ (t : Bool) (l : List ℕ). are_kinds b (map kind_of ks) (left t l)) d r;
        }

    module _ {i count : ℕ} {done : Bool} {rest : List ℕ} (h : Fitting i count done rest) where
      -- a kind, and no argument
      pub fitting_over : i < length ks → (count ≡ 0) ⊎ (done ≡ true) → false ≡ are_kinds b (map kind_of ks) (split s)
      unfolding are_kinds
      fitting_over l =
          ⊎_elim (λ z. absurd (omega (arith, h.many)))
          (λ over. ap₂ (λ (js : List Kind) (t : Bool). are_kinds b (map kind_of js) (left t rest)) (sym (drop-cons ks i Field l)) (sym over) ∙ h.same)

      -- a kind, and an argument
      module _ (d : Kind) (w : List ℕ) (over : Bool) (after : List ℕ) (l : i < length ks) (some : done ≡ false)
          (first : split rest ≡ w ∷ left over after) where
        here : (is_kind b (kind_of (get_or ks i d)) w && are_kinds b (map kind_of (drop (suc i) ks)) (left over after)) ≡ are_kinds b (map kind_of ks) (split s)
        unfolding are_kinds
        here =
            ap₂ (λ (js : List Kind) (ws : List (List ℕ)). are_kinds b (map kind_of js) ws) (sym (drop-cons ks i d l)) (sym first)
            ∙ ap (λ (t : Bool). are_kinds b (map kind_of (drop i ks)) (left t rest)) (sym some) ∙ h.same

        pub fitting_not : is_kind b (kind_of (get_or ks i d)) w ≡ false → false ≡ are_kinds b (map kind_of ks) (split s)
        fitting_not e = rw e at here

        pub fitting_more : {most : ℕ} → is_kind b (kind_of (get_or ks i d)) w ≡ true → most ≡ count - 1 → Fitting (i + 1) most over after
        fitting_more e m =
            let one : i + 1 ≡ suc i = omega arith in
            record { inside = omega arith; many = omega (arith, h.many); same = rw one (rw e at here) }

      -- no kind
      pub fitting_all : length ks ≤ i → (o : Option (Bor (List ℕ))) (r : Bool) → is_some o ≡ not r
          → (o ≡ None → (count ≡ 0) ⊎ (done ≡ true)) → ((w : Bor (List ℕ)) → o ≡ Some w → done ≡ false) → r ≡ are_kinds b (map kind_of ks) (split s)
      unfolding are_kinds
      fitting_all l None false e n f = absurd (false≢true e)
      fitting_all l None true e n f =
          ⊎_elim (λ z. absurd (omega (arith, h.many, h.inside)))
          (λ over. ap₂ (λ (js : List Kind) (t : Bool). are_kinds b (map kind_of js) (left t rest)) (sym (drop_of_length-le ks l)) (sym over) ∙ h.same)
          (n refl)
      fitting_all l (Some w) true e n f = absurd (false≢true (sym e))
      fitting_all l (Some w) false e n f =
          sym (none_asked rest)
          ∙ ap₂ (λ (js : List Kind) (t : Bool). are_kinds b (map kind_of js) (left t rest)) (sym (drop_of_length-le ks l)) (sym (f w refl)) ∙ h.same

  -- a second argument of another kind
  pub second_not : (ks : List Kind) (ws : List (List ℕ)) {k : Kind} {w : List ℕ} → 1 < length ks → ((d : Kind) → k ≡ get_or ks 1 d) → get_or ws 1 [] ≡ w
      → is_kind b (kind_of k) w ≡ false → false ≡ are_kinds b (map kind_of ks) ws
  unfolding are_kinds
  second_not [] ws l e f n = absurd (omega arith)
  second_not (j ∷ []) ws l e f n = absurd (omega arith)
  second_not (j ∷ m ∷ ks) [] l e f n = refl
  second_not (j ∷ m ∷ ks) (v ∷ []) l e f n = sym (and_false (is_kind b (kind_of j) v))
  second_not (j ∷ m ∷ ks) (v ∷ u ∷ ws) l e f n = rw (← e j, f, n) (sym (and_false (is_kind b (kind_of j) v)))
