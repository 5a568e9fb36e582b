-- Demand 3: the claim holds for every list of events. What holds after each event is kept by the next, whatever it is.
-- Assumes nothing.
use Prim.Native.Nat.{ℕ, ◌<◌}
use native.Mathlib.Omega.{arith}
use mathlib.Core.Bool.{true, false, cond}
use mathlib.Core.List.Memᴰ
use mathlib.Core.List.{List, [], ◌∷◌, Memᴰ}
use mathlib.Core.Logic.{◌⊎◌, inl, inr, ◌↔◌}
use mathlib.Core.Path.{◌≡◌, refl, ap, sym, subst, ◌∙◌}
use borrow.Author.Tests.{eqb-true, ne_eqb, not-false}
use lib.ListN.{length}
use Rattle.word.specs.Word.{is_width}
use Rattle.block.specs.declared.SetUp.{SetUp}
use Rattle.block.specs.Blocks.{Block, size, level}
use Rattle.block.specs.SetUp.{words, fitting, absent}
use Rattle.block.specs.Map.{live, free, fresh_map}
use Rattle.block.proofs.Size.{size_pos, fitting_facts, absent_facts, words_none}
use Rattle.block.proofs.Map.{live_none, free_none}
use Rattle.block.proofs.Each.{each_nil, each_mem}
use Rattle.block.proofs.Tiling.{map_order}
use Rattle.machine.specs.declared.Answer.{Answer}
use Rattle.machine.specs.declared.Answer.TheVariants.{Running, Finished, Refused}
use Rattle.machine.specs.declared.Refusal.{Refusal}
use Rattle.machine.specs.declared.Refusal.TheVariants.{NoRun}
use Rattle.machine.specs.declared.State.{State}
use Rattle.machine.specs.declared.Report.{Report}
use Rattle.machine.specs.State.{fresh, no_set_up, is_set_up, is_finished, with_set_up, on_core, with_map}
use Rattle.machine.specs.Storage.{no_store_of, no_report}
use Rattle.machine.specs.Sound.{Lent, Engine}
use Rattle.machine.specs.Locate.{live_blocks}
use Rattle.machine.specs.Effects.{Effects, storage_after, engine_after}
use Rattle.machine.specs.Step.{unchanged, carried_out, step_at, step, engine_of, set_up_at}
use Rattle.machine.specs.Extend.{Extension, is_done, not_extended, engine_extended, extended_by, extend_at, engine_left}
use Rattle.machine.proofs.Checks.{or_parts}
use Rattle.machine.proofs.Facts.{StorageFacts, Facts}
use Rattle.machine.proofs.Starting.{no_words, fresh_facts}
use Rattle.machine.proofs.Live.{live_fits, live_lies}
use Rattle.machine.proofs.Moves.{Moves, still, frees, delivers, SetsUp, Done}
use Rattle.machine.proofs.Plan.{Planned, setting_up, moving, planned}
use Rattle.machine.proofs.Steps.{Stepping, refusing, staying, forward, stepping_at, step_is}
use Rattle.machine.proofs.Keeps.{planned_facts}
use Rattle.machine.proofs.Extend.{Extends, refusing as declining, growing, extends_at, extend_is, set_up_fits, extended_facts}
use Rattle.book.specs.Book.{Book, empty_book, Entry, blocks, enter, enter_set_up, enter_freed, enter_delivered, enter_copied}
use Rattle.book.specs.Book.{enter_store}
use Rattle.book.specs.Steps.{Event, stepped, extended, Leads, begin, after, after_extension_lem, is_refused, report_of, entry_of}
use Rattle.book.specs.Steps.{book_after, LiveBy}
use Rattle.book.specs.Claim.{Tiled, AlignedRun, Served, Claim}
use Rattle.book.proofs.Maps.{fresh_live, extended_live_map, tiled}
use Rattle.book.proofs.Moved.{freed_fits, gone_live, new_live}
use Rattle.book.proofs.Matches.{Matches, matches_set_up, matches_extended}
use Rattle.book.proofs.Entered.{enter_nothing, entered}
use Rattle.book.proofs.Reported.{live_none as none_live, reported_still, reported_freed, reported_delivered}
use Rattle.book.proofs.Served.{served}

-- the numbers of a set-up and nothing else
enter_set_up_lem : (v : SetUp) (k : Book) → enter (record { setup = v; report = no_report }) k ≡ enter_set_up v k
unfolding enter enter_store enter_copied enter_delivered enter_freed no_report no_store_of
enter_set_up_lem v k = refl

-- what holds after a list of events
pub record Holds (b : ℕ) (events : List Event) (e : Engine) : Type 0 where
  pub wide : is_width b ≡ true
  pub width : e.state.width ≡ b
  pub facts : Facts b e
  pub matches : Matches b e.state.core.setup e.state.map e.storage (book_after events)
  pub reported : (x : Block) → Memᴰ x (live_blocks e) ↔ LiveBy x events

-- moves leave the set-up numbers
moves_setup : {b : ℕ} {u : SetUp} {m : List ℕ} {x : Effects} → Moves b u m x → x.state.core.setup ≡ u
moves_setup (still s) = s.setup
moves_setup (frees s) = s.setup
moves_setup (delivers s) = s.setup

holds_at_first : (b : ℕ) (ws : List ℕ) → is_width b ≡ true → Holds b [] (record { state = fresh b; storage = ws })
unfolding book_after empty_book blocks fresh
holds_at_first b ws wide =
    record {
      wide = wide;
      width = refl;
      facts = fresh_facts b ws;
      matches = record {
        setup = refl;
        live = live_none no_set_up _ no_words;
        free = free_none no_set_up _ no_words;
        bits = each_nil;
      };
      reported = λ x. (λ m. absurd (Memᴰ.not-nil (subst (Memᴰ x) (live_none no_set_up _ no_words) m)), λ h. absurd (none_live h));
    }

-- live blocks do not start at address 0
positive : {b : ℕ} {e : Engine} → Facts b e → (x : Block) → Memᴰ x (live_blocks e) → 0 < x.address
positive {b} {e} facts x m =
    let low = (live_lies b e.state e.storage facts.storage x m).first in
    let pos = (fitting_facts _ e.state.core.setup (live_fits b e.state e.storage facts.storage x m)).first in
    omega arith

module _ (b : ℕ) (events : List Event) (e : Engine) (h : Holds b events e) (l : Lent) where
  abbrev u : SetUp
  u = e.state.core.setup

  -- a step that leaves all as it was
  kept : (answer : Answer) → entry_of l e (unchanged answer l e) ≡ record { setup = no_set_up; report = no_report }
      → Holds b (stepped l e (unchanged answer l e) ∷ events) (engine_of (unchanged answer l e))
  unfolding book_after engine_of unchanged report_of no_report
  kept answer nothing =
      record {
        wide = h.wide;
        width = h.width;
        facts = h.facts;
        matches = subst (Matches b u e.state.map e.storage) (sym (ap (λ x. enter x (book_after events)) nothing
            ∙ enter_nothing (book_after events))) h.matches;
        reported = reported_still (stepped l e (unchanged answer l e)) events (live_blocks e) h.reported (positive h.facts) refl refl;
      }

  -- a step that carries its effects out enters its report and the set-up's numbers
  entry_forward : (x : Effects) → entry_of l e (carried_out b x l e) ≡ record { setup = set_up_at l e; report = x.report }
  unfolding entry_of carried_out is_refused
  entry_forward x =
      let full : Entry = record { setup = set_up_at l e; report = x.report } in
      let nothing : Entry = record { setup = no_set_up; report = no_report } in
      elim (is_finished x.state.core.place) as (λ t. cond (is_refused (cond t Finished Running)) nothing full ≡ full)
      [ true ↦ refl | false ↦ refl ]

  module _ (x : Effects) where
    abbrev event : Event
    event = stepped l e (carried_out b x l e)

    -- the engine after the effects, where the book matches and the reports tell the live blocks
    moved : Facts b (engine_after b x e) → (v : SetUp) → x.state.core.setup ≡ v
        → Matches b v x.state.map (storage_after b x e.storage) (enter (record { setup = set_up_at l e; report = x.report }) (book_after events))
        → ((y : Block) → Memᴰ y (live v x.state.map) ↔ LiveBy y (event ∷ events))
        → Holds b (event ∷ events) (engine_of (carried_out b x l e))
    unfolding book_after engine_of carried_out engine_after
    moved facts v is match reported =
        record {
          wide = h.wide;
          width = h.width;
          facts = facts;
          matches = subst (λ k. Matches b x.state.core.setup x.state.map (storage_after b x e.storage) (enter k (book_after events)))
              (sym (entry_forward x))
              (subst (λ v. Matches b v x.state.map (storage_after b x e.storage) (enter (record { setup = set_up_at l e; report = x.report })
              (book_after events))) (sym is) match);
          reported = subst (λ v. (y : Block) → Memᴰ y (live v x.state.map) ↔ LiveBy y (event ∷ events)) (sym is) reported;
        }

    -- the live blocks after the moves are those of the reports
    moves_reported : Moves b u e.state.map x → (y : Block) → Memᴰ y (live u x.state.map) ↔ LiveBy y (event ∷ events)
    unfolding report_of carried_out
    moves_reported (still s) =
        subst (λ m. (y : Block) → Memᴰ y (live u m) ↔ LiveBy y (event ∷ events)) (sym s.map)
        (reported_still event events (live_blocks e) h.reported (positive h.facts) s.freed s.size)
    moves_reported (frees f) =
        let fits = freed_fits b e h.facts x f in
        subst (λ m. (y : Block) → Memᴰ y (live u m) ↔ LiveBy y (event ∷ events)) (sym f.map)
        (subst (λ bs. (y : Block) → Memᴰ y bs ↔ LiveBy y (event ∷ events)) (sym (gone_live b e h.facts x f))
        (reported_freed event events (live_blocks e) h.reported (positive h.facts) (map_order _ u fits e.state.map).0 x.report.freed
        refl f.size))
    moves_reported (delivers d) =
        subst (λ m. (y : Block) → Memᴰ y (live u m) ↔ LiveBy y (event ∷ events)) (sym d.map)
        (subst (λ bs. (y : Block) → Memᴰ y bs ↔ LiveBy y (event ∷ events)) (sym (new_live b e h.facts x d))
        (reported_delivered event events (live_blocks e) h.reported (positive h.facts) d.freed x.report.delivered x.report.size refl refl
        (rw d.size (size_pos d.level))))

    -- any operation but a set-up
    after_moves : set_up_at l e ≡ no_set_up → Done b e x → Facts b (engine_after b x e) → Holds b (event ∷ events) (engine_of (carried_out b x l e))
    after_moves none d facts =
        moved facts u (moves_setup d.moves)
        (subst (λ v. Matches b u x.state.map (storage_after b x e.storage) (enter (record { setup = v; report = x.report })
        (book_after events))) (sym none)
        (entered b e h.facts x (book_after events) h.matches d.moves))
        (moves_reported d.moves)

    -- a set-up
    after_set_up : is_set_up e.state.core ≡ false → SetsUp e.storage e.state.map (set_up_at l e) x → Facts b (engine_after b x e)
        → Holds b (event ∷ events) (engine_of (carried_out b x l e))
    unfolding is_set_up report_of carried_out no_report
    after_set_up none up facts =
        let v = set_up_at l e in
        let empty = before_set_up none in
        moved facts v up.setup
        (subst (λ m. Matches b v m (storage_after b x e.storage) (enter (record { setup = v; report = x.report }) (book_after events))) (sym up.map)
        (subst (λ r. Matches b v (fresh_map v (length e.state.map)) (storage_after b x e.storage)
        (enter (record { setup = v; report = r }) (book_after events))) (sym up.report)
        (subst (Matches b v (fresh_map v (length e.state.map)) _) (sym (enter_set_up_lem v (book_after events)))
        (matches_set_up b _ v (length e.state.map) _ (book_after events) up.fits (sym h.matches.live ∙ empty)))))
        (subst (λ bs. (y : Block) → Memᴰ y bs ↔ LiveBy y (event ∷ events)) (empty ∙ sym (fresh_live _ v up.fits _) ∙ ap (live v) (sym up.map))
        (no_moves up))
      where
        -- before a set-up no block is live
        before_set_up : is_set_up e.state.core ≡ false → live_blocks e ≡ []
        before_set_up none = live_none u e.state.map (words_none u (eqb-true u.d 0 (not-false _ none)))

        no_moves : SetsUp e.storage e.state.map (set_up_at l e) x → (y : Block) → Memᴰ y (live_blocks e) ↔ LiveBy y (event ∷ events)
        no_moves up =
            reported_still event events (live_blocks e) h.reported (positive h.facts)
            (ap (λ (r : Report). r.freed) up.report) (ap (λ (r : Report). r.size) up.report)

  -- the step of a plan
  after_plan : (x : Effects) → Planned b l e x → Facts b (engine_after b x e)
      → Holds b (stepped l e (carried_out b x l e) ∷ events) (engine_of (carried_out b x l e))
  after_plan x (setting_up none core up) facts = after_set_up x none up facts
  after_plan x (moving none d) facts = after_moves x none d facts

  -- a finished engine stands at no operation
  finished_asks_none : is_finished e.state.core.place ≡ true → set_up_at l e ≡ no_set_up
  unfolding set_up_at is_finished
  finished_asks_none f =
      let kind = eqb-true e.state.core.place.kind 3 f in
      rw (ne_eqb e.state.core.place.kind 1 (λ one. absurd (omega arith)))

  -- neither a refused step nor a finished engine enters anything
  refused_enters : (r : Refusal) → entry_of l e (unchanged (Refused r) l e) ≡ record { setup = no_set_up; report = no_report }
  unfolding entry_of unchanged is_refused
  refused_enters r = refl

  finished_enters : is_finished e.state.core.place ≡ true → entry_of l e (unchanged Finished l e) ≡ record { setup = no_set_up; report = no_report }
  unfolding entry_of unchanged is_refused
  finished_enters f = ap (λ (v : SetUp). record { setup = v; report = no_report }) (finished_asks_none f)

  -- any step
  after_step_lem : Holds b (stepped l e (step_at b l e) ∷ events) (engine_of (step_at b l e))
  after_step_lem = go (stepping_at b l e)
    where
      go : Stepping b l e (step_at b l e) → Holds b (stepped l e (step_at b l e) ∷ events) (engine_of (step_at b l e))
      go (refusing r o) = subst (λ o. Holds b (stepped l e o ∷ events) (engine_of o)) (sym o) (kept (Refused r) (refused_enters r))
      go (staying f o) = subst (λ o. Holds b (stepped l e o ∷ events) (engine_of o)) (sym o) (kept Finished (finished_enters f))
      go (forward x facts f p o) =
          let plan = planned b l e facts f x p in
          subst (λ o. Holds b (stepped l e o ∷ events) (engine_of o)) (sym o) (after_plan x plan (planned_facts b e facts x l plan))

-- an extension
module _ (b : ℕ) (events : List Event) (e : Engine) (h : Holds b events e) (last : ℕ) where
  after_any_extension : Holds b (extended last e (extend_at b last e) ∷ events) (engine_left (extend_at b last e))
  unfolding book_after engine_left not_extended extended_by engine_extended on_core with_map with_set_up is_done report_of no_report
  after_any_extension = go (extends_at b last e)
    where
      u : SetUp
      u = e.state.core.setup

      -- no block is freed or delivered
      same_live : (x : Extension) (y : Block) → Memᴰ y (live_blocks e) ↔ LiveBy y (extended last e x ∷ events)
      same_live x = reported_still (extended last e x) events (live_blocks e) h.reported (positive h.facts) refl refl

      go : Extends b last e (extend_at b last e) → Holds b (extended last e (extend_at b last e) ∷ events) (engine_left (extend_at b last e))
      go (declining answer f x) =
          subst (λ x. Holds b (extended last e x ∷ events) (engine_left x)) (sym x)
          (record { wide = h.wide; width = h.width; facts = h.facts; matches = rw f h.matches; reported = same_live (not_extended answer e) })
      go (growing facts up taken x) =
          let fits = set_up_fits b e facts up in
          let same = extended_live_map (length e.storage) u fits e.state.map facts.storage.blocks last taken in
          subst (λ x. Holds b (extended last e x ∷ events) (engine_left x)) (sym x)
          (record {
            wide = h.wide;
            width = h.width;
            facts = extended_facts b last e facts up taken;
            matches = matches_extended b u e.state.map e.storage (book_after events) last fits facts.storage.blocks taken h.matches;
            reported = subst (λ bs. (y : Block) → Memᴰ y bs ↔ LiveBy y (extended last e (extended_by last e) ∷ events)) (sym same)
                (same_live (extended_by last e));
          })

-- what holds after every list of events
pub holds : {b : ℕ} {ws : List ℕ} {events : List Event} {e : Engine} → Leads b ws events e → Holds b events e
holds {b} {ws} (begin wide) = holds_at_first b ws wide
holds {b} (after {events = events} {e = e} before l) =
    let h = holds before in
    subst (λ o. Holds b (stepped l e o ∷ events) (engine_of o)) (sym (step_is b l e h.width h.wide)) (after_step_lem b events e h l)
holds {b} (after_extension_lem {events = events} {e = e} before last) =
    let h = holds before in
    subst (λ x. Holds b (extended last e x ∷ events) (engine_left x)) (sym (extend_is b last e h.width h.wide))
    (after_any_extension b events e h last)

-- the step of an engine that events have led to is one of words of b bits
pub steps_at : {b : ℕ} {ws : List ℕ} {events : List Event} {e : Engine} → Leads b ws events e → (l : Lent) → step l e ≡ step_at b l e
steps_at {b} {e = e} leads l = let h = holds leads in step_is b l e h.width h.wide

-- each get and duplicate of the list
all_served : {b : ℕ} {ws : List ℕ} {events : List Event} {e : Engine} → Leads b ws events e → Served b events
unfolding Served
all_served (begin wide) = tt
all_served {b} (after {events = events} {e = e} before l) = (
  λ w wants. subst (λ o. (o.stepped.answer ≡ Refused NoRun) ↔ ((at : ℕ) → AlignedRun (book_after events).setup events w.words at → ⊥))
      (sym (steps_at before l))
      (subst (λ u. ((step_at b l e).stepped.answer ≡ Refused NoRun) ↔ ((at : ℕ) → AlignedRun u events w.words at → ⊥))
      (sym (holds before).matches.setup) (served b l e w wants events (holds before).reported)),
  all_served before,
)
all_served (after_extension_lem before last) = all_served before

-- before a set-up there is nothing to tile
tiled_none : (v : SetUp) → words v ≡ 0 → Tiled v [] []
tiled_none v none =
    record {
      once = λ w low high. absurd (omega arith);
      inside = λ x m. absurd (Memᴰ.not-nil m);
      aligned = λ x m. absurd (Memᴰ.not-nil m);
      sizes = λ x m. absurd (Memᴰ.not-nil m);
      apart = λ x y m. absurd (Memᴰ.not-nil m);
    }

-- the blocks of a sound engine tile the set-up words
all_tiled : (b : ℕ) (s : State) (storage : List ℕ) → StorageFacts b s storage
    → Tiled s.core.setup (live s.core.setup s.map) (free s.core.setup s.map)
all_tiled b s storage f = go (or_parts _ _ f.numbers)
  where
    v : SetUp
    v = s.core.setup

    go : (fitting (length storage) v ≡ true) ⊎ (absent v ≡ true) → Tiled v (live v s.map) (free v s.map)
    go (inl fits) = tiled (length storage) v fits s.map f.blocks
    go (inr none) =
        let empty = (absent_facts v none).count in
        subst (λ bs. Tiled v bs (free v s.map)) (sym (live_none v s.map empty))
        (subst (Tiled v []) (sym (free_none v s.map empty)) (tiled_none v empty))

-- demand 3, for either width
pub demand_3 : (b : ℕ) → Claim b
demand_3 b ws events e leads =
    let h = holds leads in
    record {
      reported = h.reported;
      live = h.matches.live;
      free = h.matches.free;
      setup = sym h.matches.setup;
      tiled = subst (λ u. Tiled u (live_blocks e) (free e.state.core.setup e.state.map)) (sym h.matches.setup)
          (all_tiled b e.state e.storage h.facts.storage);
      bits = λ x m i p. rw h.matches.setup (each_mem h.matches.bits m i p);
      served = all_served leads;
    }
