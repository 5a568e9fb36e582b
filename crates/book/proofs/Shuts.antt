-- What the claim shuts out: a get that is refused where nothing is live, a free that does nothing, a store that touches another
-- bit, and a rejoining of neighbours that are not halves of one block.
-- Assumes nothing.
use Prim.Native.Nat.{ℕ, zero, suc, ◌+◌, ◌-◌, ◌*◌, ◌/◌, ◌%◌, ◌≤◌, ◌<◌}
use native.Mathlib.Nat.{div-add-mod', add-mod, zero-mod}
use native.Mathlib.Omega.{arith}
use mathlib.Core.Bool.{true, and-false}
use mathlib.Core.List.Memᴰ
use mathlib.Core.List.{List, ◌∷◌}
use mathlib.Core.Logic.{◌⊎◌, inl, inr, ⊎_elim}
use mathlib.Core.Path.{◌≡◌, refl, sym, ap, subst, ◌∙◌}
use borrow.Author.Tests.{ne_eqb, lt-leb}
use Rattle.block.specs.declared.SetUp.{SetUp}
use Rattle.block.specs.Blocks.{Block, size}
use lib.ListN.{length}
use Rattle.block.specs.SetUp.{top, words}
use Rattle.block.specs.Map.{free}
use Rattle.block.proofs.Size.{size_mono, aligned_smaller, fitting_facts}
use Rattle.machine.specs.declared.Answer.TheVariants.{Refused}
use Rattle.machine.specs.declared.Refusal.TheVariants.{NoRun}
use Rattle.machine.specs.declared.Store.{Store}
use Rattle.machine.specs.Sound.{Lent, Engine}
use Rattle.machine.specs.State.{is_set_up, with_set_up, on_core, with_map}
use Rattle.machine.specs.Extend.{Extension, is_done, not_extended, engine_extended, extended_by, extend, engine_left}
use Rattle.machine.proofs.Facts.{Facts}
use Rattle.machine.proofs.Extend.{Extends, refusing, growing, extends, set_up_fits}
use Rattle.block.specs.Extension.{extended_to, extending}
use Rattle.block.proofs.Extension.{extending_facts, extended_words, first_added}
use Rattle.machine.specs.Locate.{live_blocks}
use Rattle.machine.specs.Operations.{Wanted}
use Rattle.machine.specs.Step.{Outcome, step, engine_of}
use Rattle.machine.proofs.Steps.{sound_engine_lem}
use Rattle.book.specs.Book.{Book, LiveBlock, blocks, stored_bits, enter_extension}
use Rattle.book.specs.Steps.{Event, stepped, extended, Leads, after, after_extension_lem, report_of, book_after, LiveBy}
use Rattle.book.specs.Claim.{◌∈◌, AlignedRun, Wants, Served}
use Rattle.book.proofs.Reported.{live_cases}
use Rattle.book.proofs.Served.{refused_wants, wanted_size, numbers_fit, first_aligned}
use Rattle.book.proofs.Demand3.{holds, steps_at, demand_3}

-- a multiple of d that is not zero is d or more
at_least : (d w q : ℕ) → q * d ≡ w → 0 < w → d ≤ w
at_least d w zero e p = omega arith
at_least d w (suc q) e p = omega arith

-- a run of any size at the first address
first_run : (b : ℕ) (ws : List ℕ) (events : List Event) (e : Engine) → Leads b ws events e → ((x : Block) → LiveBy x events → ⊥)
    → (l : Lent) (w : Wanted) → Wants b l e w → AlignedRun e.state.core.setup events w.words e.state.core.setup.s1
first_run b ws events e leads none l w wants =
    let u = e.state.core.setup in
    let reported = (demand_3 b ws events e leads).reported in
    let (j, fits, same) = wanted_size b l e w wants (sound_engine_lem b l e wants.is_sound) in
    let f = fitting_facts _ u (numbers_fit b l e w wants events reported) in
    let some : 0 < words u = omega (arith, f.count, f.order) in
    let full : words u / u.d * u.d ≡ words u = omega (arith, div-add-mod' (words u) u.d, f.whole) in
    let large = at_least u.d (words u) (words u / u.d) full some in
    let small : w.words ≤ u.d = rw same (subst (λ d. size j ≤ d) f.largest (size_mono fits)) in
    record {
      aligned = first_aligned b l e w wants events reported;
      first = omega arith;
      last = omega arith;
      outside = λ x h. absurd (none x h);
    }

-- where no block is live, on a fresh set-up or once all is freed, no get or duplicate is refused for want of storage
pub never_refused : (b : ℕ) (ws : List ℕ) (events : List Event) (e : Engine) → Leads b ws events e → ((x : Block) → LiveBy x events → ⊥)
    → (l : Lent) (w : Wanted) → Wants b l e w → (step l e).stepped.answer ≡ Refused NoRun → ⊥
unfolding Served
never_refused b ws events e leads none l w wants k =
    let d = demand_3 b ws (stepped l e (step l e) ∷ events) (engine_of (step l e)) (after leads l) in
    (d.served.0 w wants).0 k _
    (subst (λ u. AlignedRun u events w.words e.state.core.setup.s1) (demand_3 b ws events e leads).setup
    (first_run b ws events e leads none l w wants))

-- a block that a step reports freed, and delivers none, is not live after it
pub freed_is_gone : (b : ℕ) (ws : List ℕ) (event : Event) (events : List Event) (e : Engine) → Leads b ws (event ∷ events) e
    → (report_of event).size ≡ 0 → (x : Block) → x ∈ live_blocks e → (report_of event).freed ≡ x.address → ⊥
freed_is_gone b ws event events e leads none x m k =
    ⊎_elim (λ d. d.2 (sym d.1 ∙ none)) (λ s. s.0 k) (live_cases (((demand_3 b ws (event ∷ events) e leads).reported x).0 m))

-- a store leaves the book's bits of every other word, and those left and right of its field
pub store_elsewhere : (s : Store) (x : LiveBlock) (i p : ℕ) → (x.block.address + i ≡ s.address → ⊥) → stored_bits s x i p ≡ x.bits i p
unfolding stored_bits
store_elsewhere s x i p other = rw (ne_eqb (x.block.address + i) s.address other)

pub store_beside : (s : Store) (x : LiveBlock) (i p : ℕ) → (p < s.left) ⊎ (s.right < p) → stored_bits s x i p ≡ x.bits i p
unfolding stored_bits
store_beside s x i p (inl left) = rw (lt-leb s.left p left, and-false) refl
store_beside s x i p (inr right) = rw (lt-leb p s.right right, and-false) refl

-- two neighbours that are not the halves of one block are never free as one
pub no_false_join : (b : ℕ) (ws : List ℕ) (events : List Event) (e : Engine) → Leads b ws events e → (address n : ℕ)
    → (address % (n + n) ≡ 0 → ⊥) → record { address = address; size = n + n } ∈ free e.state.core.setup e.state.map → ⊥
no_false_join b ws events e leads address n odd m =
    odd ((demand_3 b ws events e leads).tiled.aligned _ (Memᴰ.append_right (live_blocks e) m))

module _ (b : ℕ) (ws : List ℕ) (events : List Event) (e : Engine) (leads : Leads b ws events e) (last : ℕ) where
  abbrev wider : Engine
  wider = engine_left (extend last e)

  abbrev now : List Event
  now = extended last e (extend last e) ∷ events

  -- the words that an extension added hold a run of any size, aligned and outside all live blocks
  added_run : Facts b e → is_set_up e.state.core ≡ true → extending (length e.storage) last e.state.core.setup ≡ true
      → extend last e ≡ extended_by last e → (n j : ℕ) → j ≤ top e.state.core.setup.d → n ≡ size j
      → AlignedRun (book_after now).setup now n (suc e.state.core.setup.s2)
  unfolding extended_by engine_left engine_extended on_core with_map with_set_up extended_to book_after is_done enter_extension
  added_run facts up taken is n j low same =
      let u = e.state.core.setup in
      let lent = length e.storage in
      let fits = set_up_fits b e facts up in
      let f = fitting_facts lent u fits in
      let g = extending_facts lent last u taken in
      let next : u.s1 + words u ≡ suc u.s2 = first_added lent lent last u fits taken in
      let all : words (extended_to last u) ≡ words u + (last - u.s2) = extended_words lent lent last u fits taken in
      let large : u.d ≤ last - u.s2 = at_least u.d (last - u.s2) ((last - u.s2) / u.d) (omega (
        arith,
        div-add-mod' (last - u.s2) u.d,
        g.whole,
      )) (omega (arith, g.later)) in
      let small : n ≤ u.d = rw same (subst (λ d. size j ≤ d) f.largest (size_mono low)) in
      let d = demand_3 b ws now wider (after_extension_lem leads last) in
      let before = demand_3 b ws events e leads in
      let numbers : (book_after now).setup ≡ extended_to last u = sym d.setup ∙ ap (λ (x : Extension). x.extended.state.core.setup) is in
      let done : is_done (extend last e).extended.answer ≡ true = ap (λ (x : Extension). is_done x.extended.answer) is in
      let book : book_after now ≡ enter_extension last (book_after events) = rw done in
      let kept : live_blocks wider ≡ live_blocks e = d.live ∙ ap (λ (k : Book). blocks k.live) book ∙ sym before.live in
      let whole : suc u.s2 % u.d ≡ 0
      = ap (λ (a : ℕ). a % u.d) (sym next) ∙ add-mod u.s1 (words u) u.d ∙ rw (f.aligned, f.whole) (zero-mod u.d) in
      subst (λ (v : SetUp). AlignedRun v now n (suc u.s2)) (sym numbers)
      (record {
        aligned = rw same (aligned_smaller low (suc u.s2) (rw f.largest whole));
        first = omega (arith, f.order);
        last = omega (arith, f.order);
        outside = λ x h.
            let m : x ∈ live_blocks e = subst (λ (bs : List Block). x ∈ bs) kept ((d.reported x).1 h) in
            inl (omega (arith, (before.tiled.inside x (Memᴰ.append_left _ m)).1, ap (λ (v : SetUp). v.s1 + words v) before.setup));
      })

  -- so a get or duplicate that clears its earlier checks is not refused for want of storage right after an extension
  extended_wants : is_done (extend last e).extended.answer ≡ true → (l : Lent) (w : Wanted) → Wants b l wider w
      → (step l wider).stepped.answer ≡ Refused NoRun → ⊥
  unfolding Served not_extended extended_by engine_left engine_extended on_core with_map with_set_up extended_to is_done
  extended_wants done l w wants k = go (subst (λ (n : ℕ). Extends n last e (extend last e)) (holds leads).width (extends last e))
    where
      go : Extends b last e (extend last e) → ⊥
      go (refusing answer f x) =
          let same : is_done (extend last e).extended.answer ≡ is_done answer = ap (λ (y : Extension). is_done y.extended.answer) x in
          let z : ◌≡◌ {A = ℕ} 0 1 = cc in
          omega arith
      go (growing facts up taken x) =
          let d = demand_3 b ws (stepped l wider (step l wider) ∷ now) (engine_of (step l wider)) (after (after_extension_lem leads last) l) in
          let (j, low, same) = wanted_size b l wider w wants (sound_engine_lem b l wider wants.is_sound) in
          (d.served.0 w wants).0 k _ (added_run facts up taken x w.words j (rw (ap (λ (y : Extension). y.extended.state.core.setup.d) x) at low) same)

  -- right after an extension no step is refused for want of storage, whatever was refused before it
  pub extended_served : is_done (extend last e).extended.answer ≡ true → (l : Lent) → (step l wider).stepped.answer ≡ Refused NoRun → ⊥
  extended_served done l k =
      let at_width = subst (λ (o : Outcome). o.stepped.answer ≡ Refused NoRun) (steps_at (after_extension_lem leads last) l) k in
      let (w, wants) = refused_wants b l wider at_width in
      extended_wants done l w wants k
