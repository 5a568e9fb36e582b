-- A get or duplicate that clears its earlier checks is refused by 17 exactly when there is no aligned run of its size.
-- Assumes nothing.
use Prim.Native.Nat.{ℕ, ◌%◌, ◌≤◌, ◌<◌}
use native.Mathlib.Omega.{arith}
use mathlib.Core.Bool.{Bool, true, false, cond}
use mathlib.Core.List.Memᴰ
use mathlib.Core.List.{List, [], ◌∷◌, Memᴰ}
use mathlib.Core.Logic.{◌⊎◌, inl, inr, ◌↔◌, ⊎_elim}
use mathlib.Core.Path.{◌≡◌, refl, ap, sym, subst, ◌∙◌}
use borrow.Author.Tests.{eq-eqb, ne_eqb}
use lib.Dec.{eqb}
use lib.ListN.{length}
use Rattle.word.proofs.Tests.{by_test}
use Rattle.block.specs.Blocks.{Block, size, level}
use Rattle.block.specs.SetUp.{top, words, fitting, runs}
use Rattle.block.proofs.Size.{size_pos, level_le, aligned_smaller, fitting_facts}
use Rattle.block.proofs.Runs.{runs_sound, runs_aligned, runs_complete, outside_mem, mem_outside}
use Rattle.table.specs.Row.{row_at}
use Rattle.machine.specs.declared.Refusal.{Refusal}
use Rattle.machine.specs.declared.Refusal.TheVariants.{NoRun, Unsound}
use Rattle.machine.specs.declared.Answer.TheVariants.{Running, Finished, Refused}
use Rattle.machine.specs.Answer.{Checked, refused, passed, ◌>>=◌, ◌>>◌, need}
use Rattle.machine.specs.State.{is_finished, on_core, moved_to, is_set_up}
use Rattle.machine.specs.Sound.{Lent, Engine, sound}
use Rattle.machine.specs.Locate.{world, live_blocks, locate, contents}
use Rattle.machine.specs.Effects.{Effects, engine_after}
use Rattle.machine.specs.Operations.{Given, Wanted, get_wants, duplicate_wants, delivering, and_storing, get, duplicate, first_run_of}
use Rattle.machine.specs.Operations.{lowest_run, meaning, meaning_of, operation_of, operations}
use Rattle.machine.specs.Step.{given, in_turn, operation_step, plan, outcome, unchanged, carried_out, step_at}
use Rattle.machine.proofs.Checks.{need_passed, bind_passed, passed_same}
use Rattle.machine.proofs.Facts.{Facts}
use Rattle.machine.proofs.Live.{live_size}
use Rattle.machine.proofs.Steps.{sound_engine_lem}
use Rattle.machine.proofs.Extend.{set_up_fits}
use Rattle.machine.proofs.Wanting.{fine, never, bind_fine, locate_fine, get_wants_fine, duplicate_wants_fine, no_run_delivers_at}
use Rattle.book.specs.Steps.{Event, LiveBy}
use Rattle.book.specs.Claim.{AlignedRun, Wants}

-- a refusal that is not for want of storage
abbrev Other : Refusal → Type 0
Other r = r ≡ NoRun → ⊥

-- checks that never refuse for want of storage
abbrev Never : {A : Type 0} → Checked A → Type 0
Never m = m ≡ refused NoRun → ⊥

-- a delivery is refused for want of storage exactly when there is no run
refused_without_run : {A : Type 0} (rs : List ℕ) (rest : ℕ → Checked A) → ((a : ℕ) → Never (rest a))
    → (first_run_of rs >>= rest) ≡ refused NoRun ↔ rs ≡ []
unfolding first_run_of ◌>>=◌
refused_without_run [] rest h = (λ e. refl, λ e. refl)
refused_without_run (r ∷ rs) rest h =
    (λ e. absurd (h _ e), λ e. absurd (Memᴰ.not-nil (subst (Memᴰ r) e (Memᴰ.head refl))))

module _ (b : ℕ) (g : Given) (w : Wanted) where
  abbrev found : List ℕ
  found = runs w.words g.engine.state.core.setup (live_blocks g.engine)

  -- get, and duplicate
  get_refused : get_wants b g ≡ passed w → get b g ≡ refused NoRun ↔ found ≡ []
  unfolding get lowest_run ◌>>=◌
  get_refused k =
      rw (k, ◌>>=◌)
      (refused_without_run found _
      (λ a. rest a (eqb g.row.third.form 0)))
    where
      rest : (a : ℕ) (t : Bool) → Never (cond t (passed (delivering b w a g.engine.state))
          (locate b (world (engine_after b (delivering b w a g.engine.state) g.engine)) g.row.third
          >>= λ a2. passed (and_storing b a2 (contents b (world g.engine) w.a) (delivering b w a g.engine.state))))
      rest a true = never fine
      rest a false = never (bind_fine (locate_fine b _ g.row.third) (λ a2. fine))

  duplicate_refused : duplicate_wants b g ≡ passed w → duplicate b g ≡ refused NoRun ↔ found ≡ []
  unfolding duplicate lowest_run ◌>>=◌
  duplicate_refused k = rw (k, ◌>>=◌) (refused_without_run found _ (λ a. never fine))

-- the answer is a refusal for want of storage exactly when the plan is
never_carried : (t : Bool) → cond t Finished Running ≡ Refused NoRun → ⊥
never_carried true e = let never : ◌≡◌ {A = ℕ} 0 1 = cc in omega arith
never_carried false e = let never : ◌≡◌ {A = ℕ} 0 1 = cc in omega arith

outcome_refused : (b : ℕ) (p : Checked Effects) (l : Lent) (e : Engine) → (outcome b p l e).stepped.answer ≡ Refused NoRun ↔ p ≡ refused NoRun
unfolding outcome unchanged carried_out
outcome_refused b (refused r) l e = (λ k. let same : r ≡ NoRun = cc in ap refused same, λ k. let same : r ≡ NoRun = cc in ap Refused same)
outcome_refused b (passed x) l e = (λ k. absurd (never_carried (is_finished x.state.core.place) k), λ k. absurd (never (fine {x = x}) k))

both_ways : {A B C : Type 0} → A ↔ B → B ↔ C → A ↔ C
both_ways f g = (λ a. g.0 (f.0 a), λ c. f.1 (g.1 c))

module _ (b : ℕ) (l : Lent) (e : Engine) (w : Wanted) (h : Wants b l e w) where
  abbrev code : ℕ
  code = (row_at l.table e.state.core.place.row).code

  not_finished : is_finished e.state.core.place ≡ false
  unfolding is_finished
  not_finished = ne_eqb e.state.core.place.kind 3 (λ k. absurd (omega (arith, h.at_operation)))

  -- the step comes to the operation
  comes_to : (code ≡ 1 → ⊥) → plan b l e ≡ meaning code b (given l e)
  unfolding plan operation_step in_turn need ◌>>◌
  comes_to other =
      rw (
        h.has_table,
        ne_eqb e.state.core.place.kind 0 (λ k. absurd (omega (arith, h.at_operation))),
        eq-eqb e.state.core.place.kind 1 h.at_operation,
        h.has_row,
        ne_eqb code 1 other,
        h.in_turn,
      )

  answered : (code ≡ 1 → ⊥) → (step_at b l e).stepped.answer ≡ Refused NoRun ↔ meaning code b (given l e) ≡ refused NoRun
  unfolding step_at
  answered other =
      rw (h.is_sound, not_finished)
      (subst (λ p. (outcome b p l e).stepped.answer ≡ Refused NoRun ↔ meaning code b (given l e) ≡ refused NoRun) (sym (comes_to other))
      (outcome_refused b (meaning code b (given l e)) l e))

  -- the runs are those of the engine's blocks
  abbrev engine_runs : List ℕ
  engine_runs = runs w.words e.state.core.setup (live_blocks e)

  meant : (code ≡ 1 → ⊥) × (meaning code b (given l e) ≡ refused NoRun ↔ engine_runs ≡ [])
  unfolding given on_core moved_to meaning meaning_of operation_of operations get_wants duplicate_wants
  meant = go h.cleared
    where
      go : ((code ≡ 3) × (get_wants b (given l e) ≡ passed w)) ⊎ ((code ≡ 5) × (duplicate_wants b (given l e) ≡ passed w))
          → (code ≡ 1 → ⊥) × (meaning code b (given l e) ≡ refused NoRun ↔ engine_runs ≡ [])
      go (inl (c, k)) = (
        λ one. absurd (omega arith),
        subst (λ n. meaning n b (given l e) ≡ refused NoRun ↔ engine_runs ≡ []) (sym c) (get_refused b (given l e) w k),
      )
      go (inr (c, k)) = (
        λ one. absurd (omega arith),
        subst (λ n. meaning n b (given l e) ≡ refused NoRun ↔ engine_runs ≡ []) (sym c) (duplicate_refused b (given l e) w k),
      )

  -- the size wanted is one of the sizes
  pub wanted_size : Facts b e → (j : ℕ) × (j ≤ top e.state.core.setup.d) × (w.words ≡ size j)
  unfolding given on_core moved_to get_wants duplicate_wants
  wanted_size facts = go h.cleared
    where
      go : ((code ≡ 3) × (get_wants b (given l e) ≡ passed w)) ⊎ ((code ≡ 5) × (duplicate_wants b (given l e) ≡ passed w))
          → (j : ℕ) × (j ≤ top e.state.core.setup.d) × (w.words ≡ size j)
      go (inl (c, k)) =
          let (a, _, k₂) = bind_passed _ _ k in
          let (n, _, k₄) = bind_passed _ _ k₂ in
          let (_, k₆) = need_passed _ _ _ k₄ in
          (level (top e.state.core.setup.d) n.value, level_le _ _, ap (λ (w : Wanted). w.words) (sym (passed_same k₆)))
      go (inr (c, k)) =
          let (a, _, k₂) = bind_passed _ _ k in
          let (n, _, k₄) = bind_passed _ _ k₂ in
          let (is_live_of, k₆) = need_passed _ _ _ k₄ in
          let (j, fits, same) = live_size b e.state e.storage facts.storage n.value is_live_of in
          (j, fits, ap (λ (w : Wanted). w.words) (sym (passed_same k₆)) ∙ same)

  module _ (events : List Event) (reported : (x : Block) → Memᴰ x (live_blocks e) ↔ LiveBy x events) where
    abbrev facts : Facts b e
    facts = sound_engine_lem b l e h.is_sound

    positive : 0 < w.words
    positive = let (j, _, same) = wanted_size facts in rw same (size_pos j)

    pub numbers_fit : fitting (length e.storage) e.state.core.setup ≡ true
    numbers_fit = set_up_fits b e facts h.in_turn

    pub first_aligned : e.state.core.setup.s1 % w.words ≡ 0
    first_aligned =
        let (j, fits, same) = wanted_size facts in
        let u = e.state.core.setup in
        let f = fitting_facts (length e.storage) u numbers_fit in
        rw same (aligned_smaller fits u.s1 (rw f.largest f.aligned))

    -- no run is found exactly when there is none
    no_run : engine_runs ≡ [] ↔ ((at : ℕ) → AlignedRun e.state.core.setup events w.words at → ⊥)
    no_run = (λ none at r. Memᴰ.not-nil (subst (Memᴰ at) none (is_found at r)), λ none. empty none engine_runs refl)
      where
        is_found : (at : ℕ) → AlignedRun e.state.core.setup events w.words at → Memᴰ at engine_runs
        is_found at r =
            runs_complete w.words e.state.core.setup (live_blocks e) positive first_aligned r.aligned r.first r.last
            (mem_outside at w.words (live_blocks e) (λ x m. r.outside x ((reported x).0 m)))

        is_run_lem : (at : ℕ) → Memᴰ at engine_runs → AlignedRun e.state.core.setup events w.words at
        is_run_lem at m =
            let (first, last, out, _) = runs_sound w.words e.state.core.setup (live_blocks e) positive m in
            record {
              aligned = runs_aligned w.words e.state.core.setup (live_blocks e) positive first_aligned m;
              first = first;
              last = last;
              outside = λ x k. outside_mem at w.words (live_blocks e) out ((reported x).1 k);
            }

        empty : ((at : ℕ) → AlignedRun e.state.core.setup events w.words at → ⊥) → (rs : List ℕ) → engine_runs ≡ rs → engine_runs ≡ []
        empty none [] k = k
        empty none (r ∷ rs) k = absurd (none r (is_run_lem r (subst (Memᴰ r) (sym k) (Memᴰ.head refl))))

    pub served : (step_at b l e).stepped.answer ≡ Refused NoRun ↔ ((at : ℕ) → AlignedRun e.state.core.setup events w.words at → ⊥)
    served = both_ways (answered meant.0) (both_ways meant.1 no_run)

-- a check before a refusal for want of storage has passed
need_cleared : {A : Type 0} (t : Bool) (r : Refusal) (m : Checked A) → Other r → (need t r >> m) ≡ refused NoRun
    → (t ≡ true) × (m ≡ refused NoRun)
unfolding need ◌>>◌
need_cleared true r m h k = (refl, k)
need_cleared false r m h k = absurd (h cc)

-- what went on for want of storage has passed first
bind_cleared : {A B : Type 0} (m : Checked A) (f : A → Checked B) → Never m → (m >>= f) ≡ refused NoRun → (x : A) × (m ≡ passed x)
unfolding ◌>>=◌
bind_cleared (passed x) f h k = (x, refl)
bind_cleared (refused r) f h k = absurd (h (let same : r ≡ NoRun = cc in ap refused same))

-- a get that is refused for want of storage has found no run
module _ (b : ℕ) (l : Lent) (e : Engine) (k : (step_at b l e).stepped.answer ≡ Refused NoRun) where
  abbrev there : ℕ
  there = e.state.core.place.row

  is_sound_lem : sound b l e ≡ true
  unfolding step_at unchanged
  is_sound_lem =
      by_test (λ t. (cond t (cond (is_finished e.state.core.place) (unchanged Finished l e) (outcome b (plan b l e) l e))
      (unchanged (Refused Unsound) l e)).stepped.answer ≡ Refused NoRun → t ≡ true) (sound b l e)
      (λ s r. refl) (λ s r. let never : ◌≡◌ {A = ℕ} 0 1 = cc in absurd (omega arith)) k

  module _ (at_operation : e.state.core.place.kind ≡ 1) where
    planned_so : plan b l e ≡ refused NoRun
    unfolding step_at is_finished
    planned_so =
        (outcome_refused b (plan b l e) l e).0
        (rw (is_sound_lem, ne_eqb e.state.core.place.kind 3 (λ q. absurd (omega (arith, at_operation)))) at k)

    stepped_so : operation_step b l e ≡ refused NoRun
    unfolding plan
    stepped_so =
        rw (ne_eqb e.state.core.place.kind 0 (λ q. absurd (omega (arith, at_operation))), eq-eqb e.state.core.place.kind 1 at_operation)
        at (need_cleared _ _ _ (λ q. let never : ◌≡◌ {A = ℕ} 0 1 = cc in omega arith) planned_so).1

    turned_so : ((row_at l.table there).code ≡ 1 → ⊥)
        → (is_set_up e.state.core ≡ true) × (meaning (row_at l.table there).code b (given l e) ≡ refused NoRun)
    unfolding operation_step in_turn
    turned_so other =
        let turn = rw (ne_eqb (row_at l.table there).code 1 other)
        at (need_cleared _ _ _ (λ q. let never : ◌≡◌ {A = ℕ} 0 1 = cc in omega arith) stepped_so).1 in
        need_cleared _ _ _ (λ q. let never : ◌≡◌ {A = ℕ} 0 1 = cc in omega arith) turn

    pub without_run : (w : Wanted) → (row_at l.table there).code ≡ 3 → get_wants b (given l e) ≡ passed w
        → runs w.words e.state.core.setup (live_blocks e) ≡ []
    unfolding meaning meaning_of operation_of operations given on_core moved_to
    without_run w code wants =
        (get_refused b (given l e) w wants).0 (subst (λ n. meaning n b (given l e) ≡ refused NoRun) code (turned_so (λ q. absurd (omega arith))).1)

    abbrev IsCleared : Wanted → Type 0
    IsCleared w = (((row_at l.table there).code ≡ 3) × (get_wants b (given l e) ≡ passed w))
        ⊎ (((row_at l.table there).code ≡ 5) × (duplicate_wants b (given l e) ≡ passed w))

    cleared_wants : (w : Wanted) → ((row_at l.table there).code ≡ 1 → ⊥) → IsCleared w → Wants b l e w
    unfolding plan operation_step
    cleared_wants w other cleared =
        record {
          is_sound = is_sound_lem;
          at_operation = at_operation;
          has_table = (need_cleared _ _ _ (λ q. let never : ◌≡◌ {A = ℕ} 0 1 = cc in omega arith) planned_so).0;
          has_row = (need_cleared _ _ _ (λ q. let never : ◌≡◌ {A = ℕ} 0 1 = cc in omega arith) stepped_so).0;
          in_turn = (turned_so other).0;
          cleared = cleared;
        }

    wants_get : (row_at l.table there).code ≡ 3 → (w : Wanted) × Wants b l e w
    unfolding meaning meaning_of operation_of operations get
    wants_get code =
        let other : (row_at l.table there).code ≡ 1 → ⊥ = λ q. omega arith in
        let (w, k₁) = bind_cleared (get_wants b (given l e)) _ (never (get_wants_fine b (given l e)))
        (subst (λ n. meaning n b (given l e) ≡ refused NoRun) code (turned_so other).1) in
        (w, cleared_wants w other (inl (code, k₁)))

    wants_duplicate : (row_at l.table there).code ≡ 5 → (w : Wanted) × Wants b l e w
    unfolding meaning meaning_of operation_of operations duplicate
    wants_duplicate code =
        let other : (row_at l.table there).code ≡ 1 → ⊥ = λ q. omega arith in
        let (w, k₁) = bind_cleared (duplicate_wants b (given l e)) _ (never (duplicate_wants_fine b (given l e)))
        (subst (λ n. meaning n b (given l e) ≡ refused NoRun) code (turned_so other).1) in
        (w, cleared_wants w other (inr (code, k₁)))

-- so a step that is refused for want of storage is a get or a duplicate that has cleared its earlier checks
pub refused_wants : (b : ℕ) (l : Lent) (e : Engine) → (step_at b l e).stepped.answer ≡ Refused NoRun → (w : Wanted) × Wants b l e w
refused_wants b l e k =
    let (at, codes) = no_run_delivers_at b l e k in
    ⊎_elim (wants_get b l e k at) (wants_duplicate b l e k at) codes
