-- Rooms closed in either order: the claim of ticket 14. The live blocks determine the free ones, and each free or get changes the live
-- blocks, and is answered, as these and the set-up numbers say.
-- Assumes nothing.
use Prim.Native.Nat.{ℕ, ◌≤◌, ◌<◌}
use native.Mathlib.Nat.{le_antisymm}
use native.Mathlib.Omega.{arith}
use mathlib.Core.Bool.{Bool, true, false, ◌&&◌, cond}
use mathlib.Core.List.Memᴰ
use mathlib.Core.List.{List, [], ◌∷◌, ◌++◌, map, Memᴰ}
use mathlib.Core.Logic.{◌⊎◌, inl, inr}
use mathlib.Core.Path.{◌≡◌, refl, ap, sym, subst, ◌∙◌}
use borrow.Author.Tests.{eq-eqb, ne_eqb, eqb-true}
use lib.Dec.{eqb}
use lib.ListN.{length}
use Rattle.word.specs.Word.{is_width}
use Rattle.word.proofs.Tests.{and_true as and_parts, by_test}
use Rattle.block.specs.declared.SetUp.{SetUp}
use Rattle.block.specs.Blocks.{Block, size, start, inserted}
use Rattle.block.specs.SetUp.{fitting, absent, runs}
use Rattle.block.specs.Map.{live, free}
use Rattle.block.proofs.Size.{size_pos, fitting_facts, absent_facts}
use Rattle.block.proofs.Map.{free_none}
use Rattle.block.proofs.Runs.{runs_lowest}
use Rattle.block.proofs.Laws.{live_free}
use Rattle.table.specs.Row.{row_at}
use Rattle.machine.specs.declared.Answer.{Answer}
use Rattle.machine.specs.declared.Answer.TheVariants.{Running, Finished, Refused}
use Rattle.machine.specs.declared.Refusal.{Refusal}
use Rattle.machine.specs.declared.Refusal.TheVariants.{NoRun}
use Rattle.machine.specs.Answer.{Checked, refused, passed}
use Rattle.machine.specs.State.{no_set_up, is_finished}
use Rattle.machine.specs.Sound.{Lent, Engine}
use Rattle.machine.specs.Locate.{live_blocks}
use Rattle.machine.specs.Effects.{Effects}
use Rattle.machine.specs.Operations.{Wanted, get_wants}
use Rattle.machine.specs.Step.{Outcome, given, unchanged, carried_out, step_at, engine_of, set_up_at}
use Rattle.machine.proofs.Checks.{or_parts}
use Rattle.machine.proofs.Facts.{Facts}
use Rattle.machine.proofs.Moves.{Moves, still, frees, delivers}
use Rattle.machine.proofs.Plan.{Planned, setting_up, moving, planned}
use Rattle.machine.proofs.Steps.{Stepping, refusing, staying, forward, stepping_at, step_is, step_width}
use Rattle.book.specs.Book.{without}
use Rattle.book.specs.Steps.{Event, stepped, is_refused}
use Rattle.book.specs.Alike.{Alike, Ordinary, Further, begin, after, Request, free_of, get_of, Asked, freed, delivered, no_run}
use Rattle.book.specs.Alike.{request, asked_by, wanted_by, refused_get, asked_of, asked_in, EitherOrder}
use Rattle.book.proofs.Moved.{freed_some, gone_live, new_live}
use Rattle.book.proofs.Demand3.{holds}
use Rattle.book.proofs.Served.{without_run}

-- the answer to a request, by the set-up numbers and the live blocks
unfoldable first_of : ℕ → List ℕ → Asked
first_of n [] = no_run n
first_of n (a ∷ others) = delivered n a

unfoldable reply_to : Request → SetUp → List Block → Asked
reply_to (free_of a) u bs = freed a
reply_to (get_of n) u bs = first_of n (runs n u bs)

-- the live blocks after it
unfoldable live_after : Asked → List Block → List Block
live_after (freed a) bs = without start a bs
live_after (delivered n a) bs = inserted start (record { address = a; size = n }) bs
live_after (no_run n) bs = bs

-- the live blocks after requests, newest first, and their answers
unfoldable live_then : SetUp → List Block → List Request → List Block
live_then u bs [] = bs
live_then u bs (r ∷ rs) = live_after (reply_to r u (live_then u bs rs)) (live_then u bs rs)

unfoldable replies_to : SetUp → List Block → List Request → List Asked
replies_to u bs [] = []
replies_to u bs (r ∷ rs) = reply_to r u (live_then u bs rs) ∷ replies_to u bs rs

-- an ordinary step asks nothing and leaves set-up numbers and live blocks, or asks one thing, is answered by them and changes them so
data Does (b : ℕ) (l : Lent) (e : Engine) (o : Outcome) : Type 0 where
  nothing : asked_of b l e o ≡ [] → Alike (engine_of o) e → Does b l e o
  asks : (x : Asked) → asked_of b l e o ≡ x ∷ [] → x ≡ reply_to (request x) e.state.core.setup (live_blocks e)
      → (engine_of o).state.core.setup ≡ e.state.core.setup → live_blocks (engine_of o) ≡ live_after x (live_blocks e) → Does b l e o

-- the lowest run is the first
lowest_first : (n : ℕ) (u : SetUp) (bs : List Block) (a : ℕ) → 0 < n → Memᴰ a (runs n u bs)
    → ((c : ℕ) → Memᴰ c (runs n u bs) → a ≤ c) → delivered n a ≡ first_of n (runs n u bs)
unfolding first_of
lowest_first n u bs a pos m lowest = go (runs n u bs) refl
  where
    go : (rs : List ℕ) → runs n u bs ≡ rs → delivered n a ≡ first_of n rs
    go [] k = absurd (Memᴰ.not-nil (subst (Memᴰ a) k m))
    go (r ∷ rs) k =
        ap (delivered n) (le_antisymm (lowest r (subst (Memᴰ r) (sym k) (Memᴰ.head refl))) (runs_lowest n u bs pos k m))

module _ (b : ℕ) (l : Lent) (e : Engine) (ordinary : Ordinary l e (step_at b l e).stepped.answer) where
  abbrev u : SetUp
  u = e.state.core.setup

  abbrev code : ℕ
  code = (row_at l.table e.state.core.place.row).code

  -- a refusal is by 17
  by_17 : (r : Refusal) → step_at b l e ≡ unchanged (Refused r) l e → (step_at b l e).stepped.answer ≡ Refused NoRun
  unfolding unchanged
  by_17 r o = go ordinary.answered
    where
      go : ((step_at b l e).stepped.answer ≡ Running) ⊎ ((step_at b l e).stepped.answer ≡ Refused NoRun) → (step_at b l e).stepped.answer ≡ Refused NoRun
      go (inl k) =
          let wrong : ◌≡◌ {A = Answer} (Refused r) Running = sym (ap (λ (o : Outcome). o.stepped.answer) o) ∙ k in
          let never : ◌≡◌ {A = ℕ} 0 1 = cc in
          absurd (omega arith)
      go (inr k) = k

  -- then nothing changes, and a get has found no run
  refused_does : (r : Refusal) → (step_at b l e).stepped.answer ≡ Refused NoRun → Does b l e (unchanged (Refused r) l e)
  unfolding asked_of unchanged is_refused refused_get engine_of wanted_by reply_to request live_after first_of
  refused_does r k =
      go (eqb e.state.core.place.kind 1 && eqb code 3) refl (get_wants b (given l e)) refl
    where
      go : (t : Bool) → (eqb e.state.core.place.kind 1 && eqb code 3) ≡ t → (c : Checked Wanted) → get_wants b (given l e) ≡ c
          → Does b l e (unchanged (Refused r) l e)
      go false t c q = nothing (rw t) (record { setup = refl; live = refl })
      go true t (refused s) q = nothing (rw (t, q)) (record { setup = refl; live = refl })
      go true t (passed w) q =
          let (kind, three) = and_parts _ _ t in
          asks (no_run w.words) (rw (t, q))
          (rw (without_run b l e k (eqb-true _ _ kind) w (eqb-true _ _ three) q))
          refl refl

  module _ (x : Effects) (facts : Facts b e) where
    -- a step that carries effects out has asked what its report says
    asked_forward : asked_of b l e (carried_out b x l e) ≡ asked_by x.report
    unfolding asked_of carried_out is_refused
    asked_forward =
        elim (is_finished x.state.core.place) as (λ t. cond (is_refused (cond t Finished Running)) (refused_get b l e) (asked_by x.report)
        ≡ asked_by x.report)
        [ true ↦ refl | false ↦ refl ]

    moves_does : Moves b u e.state.map x → Does b l e (carried_out b x l e)
    unfolding asked_by engine_of carried_out reply_to request live_after
    moves_does (still s) =
        nothing (asked_forward ∙ rw (eq-eqb x.report.freed 0 s.freed, eq-eqb x.report.size 0 s.size))
        (record { setup = s.setup; live = rw (s.setup, s.map) })
    moves_does (frees f) =
        asks (freed x.report.freed) (asked_forward ∙ rw (ne_eqb x.report.freed 0 (freed_some b e facts x f))) refl f.setup
        (rw (f.setup, f.map) (gone_live b e facts x f))
    moves_does (delivers d) =
        let some : 0 < x.report.size = rw d.size (size_pos d.level) in
        asks (delivered x.report.size x.report.delivered)
        (asked_forward ∙ rw (eq-eqb x.report.freed 0 d.freed, ne_eqb x.report.size 0 (λ z. absurd (omega arith))))
        (lowest_first x.report.size u (live_blocks e) x.report.delivered some (rw d.size d.is_run) (rw d.size d.is_lowest))
        d.setup (rw (d.setup, d.map) (new_live b e facts x d))

    -- it is no set-up
    no_set_up_lem : set_up_at l e ≡ no_set_up
    unfolding set_up_at
    no_set_up_lem =
        by_test (λ t. cond t (Rattle.machine.specs.Operations.asked (row_at l.table e.state.core.place.row)) no_set_up ≡ no_set_up)
        (eqb e.state.core.place.kind 1 && eqb code 1)
        (λ t. let (kind, one) = and_parts _ _ t in absurd ((ordinary.neither (eqb-true _ _ kind)).0 (eqb-true _ _ one))) (λ t. refl)

    planned_does : Planned b l e x → Does b l e (carried_out b x l e)
    unfolding no_set_up
    planned_does (setting_up none core up) =
        let fits : fitting (length e.storage) no_set_up ≡ true = subst (λ v. fitting (length e.storage) v ≡ true) no_set_up_lem up.fits in
        absurd (omega (arith, (fitting_facts _ no_set_up fits).positive))
    planned_does (moving none d) = moves_does d.moves

  does : Does b l e (step_at b l e)
  unfolding unchanged
  does = go (stepping_at b l e)
    where
      go : Stepping b l e (step_at b l e) → Does b l e (step_at b l e)
      go (refusing r o) = subst (Does b l e) (sym o) (refused_does r (by_17 r o))
      go (staying f o) = ends ordinary.answered
        where
          ends : ((step_at b l e).stepped.answer ≡ Running) ⊎ ((step_at b l e).stepped.answer ≡ Refused NoRun) → Does b l e (step_at b l e)
          ends (inl k) =
              let wrong : ◌≡◌ {A = Answer} Finished Running = sym (ap (λ (o : Outcome). o.stepped.answer) o) ∙ k in
              let never : ◌≡◌ {A = ℕ} 0 1 = cc in
              absurd (omega arith)
          ends (inr k) =
              let wrong : ◌≡◌ {A = Answer} Finished (Refused NoRun) = sym (ap (λ (o : Outcome). o.stepped.answer) o) ∙ k in
              let never : ◌≡◌ {A = ℕ} 0 1 = cc in
              absurd (omega arith)
      go (forward x facts f p o) = subst (Does b l e) (sym o) (planned_does x facts (planned b l e facts f x p))

-- further steps of words of b bits are answered, and change the live blocks, as their requests say
record Told (b : ℕ) (e : Engine) (asked : List Asked) (now : Engine) : Type 0 where
  width : now.state.width ≡ b
  setup : now.state.core.setup ≡ e.state.core.setup
  live : live_blocks now ≡ live_then e.state.core.setup (live_blocks e) (map request asked)
  answers : asked ≡ replies_to e.state.core.setup (live_blocks e) (map request asked)

module _ (b : ℕ) (e : Engine) (wide : is_width b ≡ true) (same : e.state.width ≡ b) where
  told : {xs : List Event} {now : Engine} → Further e xs now → Told b e (asked_in b xs) now
  unfolding asked_in live_then replies_to engine_of
  told begin = record { width = same; setup = refl; live = refl; answers = refl }
  told (after {events = events} {now = now} before l ordinary) =
      let is = step_is b l now (told before).width wide in
      subst (λ o. Told b e (asked_of b l now o ++ asked_in b events) (engine_of o)) (sym is)
      (go (told before) (does b l now (subst (λ (o : Outcome). Ordinary l now o.stepped.answer) is ordinary)))
    where
      go : Told b e (asked_in b events) now → Does b l now (step_at b l now)
          → Told b e (asked_of b l now (step_at b l now) ++ asked_in b events) (engine_of (step_at b l now))
      go h (nothing q alike) =
          subst (λ zs. Told b e (zs ++ asked_in b events) (engine_of (step_at b l now))) (sym q)
          (record {
            width = step_width b l now ∙ h.width;
            setup = alike.setup ∙ h.setup;
            live = alike.live ∙ h.live;
            answers = h.answers;
          })
      go h (asks x q reply numbers blocks) =
          let u = e.state.core.setup in
          let before = live_then u (live_blocks e) (map request (asked_in b events)) in
          let here : x ≡ reply_to (request x) u before
          = reply ∙ ap (λ v. reply_to (request x) v (live_blocks now)) h.setup ∙ ap (reply_to (request x) u) h.live in
          subst (λ zs. Told b e (zs ++ asked_in b events) (engine_of (step_at b l now))) (sym q)
          (record {
            width = step_width b l now ∙ h.width;
            setup = numbers ∙ h.setup;
            live = blocks ∙ ap (live_after x) h.live ∙ ap (λ y. live_after y before) here;
            answers = ap (λ y. y ∷ asked_in b events) here ∙ ap (λ zs. reply_to (request x) u before ∷ zs) h.answers;
          })

-- the free blocks of engines with the same live ones
same_free : {b c : ℕ} {e f : Engine} → Facts b e → Facts c f → Alike e f
    → free e.state.core.setup e.state.map ≡ free f.state.core.setup f.state.map
same_free {b} {c} {e} {f} h k same = go (or_parts _ _ h.storage.numbers)
  where
    u : SetUp
    u = e.state.core.setup

    go : (fitting (length e.storage) u ≡ true) ⊎ (absent u ≡ true) → free u e.state.map ≡ free f.state.core.setup f.state.map
    go (inl fits) =
        live_free _ u fits e.state.map f.state.map h.storage.blocks (rw same.setup k.storage.blocks) (same.live ∙ rw same.setup refl)
        ∙ rw same.setup refl
    go (inr none) =
        let empty = (absent_facts u none).count in
        free_none u e.state.map empty ∙ sym (free_none f.state.core.setup f.state.map (rw (← same.setup) empty))

-- the claim
pub either_order : EitherOrder
either_order b c ws vs xs ys e f leads others same =
    record {
      free = same_free (holds leads).facts (holds others).facts same;
      answers = λ xs ys e' f' further more alike.
          (told b e (holds leads).wide (holds leads).width further).answers
          ∙ ap (λ u. replies_to u (live_blocks e) (map request (asked_in b xs))) same.setup
          ∙ ap (λ bs. replies_to f.state.core.setup bs (map request (asked_in b xs))) same.live
          ∙ ap (replies_to f.state.core.setup (live_blocks f)) alike
          ∙ sym (told c f (holds others).wide (holds others).width more).answers;
    }
