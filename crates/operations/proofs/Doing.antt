-- What each operation plans, by the checks that led there. Assumes nothing.
use Rattle.std.specs.Prelude.{Option, Some, None, Result, Ok, Err}
use Rattle.operations.specs.declared.Run.{Run}
use Prim.Native.Nat.{ℕ, zero, suc, ◌+◌, ◌-◌, ◌/◌, ◌≤◌, ◌<◌}
use native.Mathlib.Omega.{arith}
use mathlib.Core.Bool.{Bool, true, false, not, ◌&&◌, cond}
use mathlib.Core.List.{List, [], ◌∷◌}
use mathlib.Core.Path.{◌≡◌, refl, sym, ap, ap₂, ◌∙◌}
use borrow.Author.Tests.{eq-eqb, ne_eqb, lt-leb, le-leb, lt-ltb, le-ltb, leb-true, ltb-true, ltb-false}
use lib.Dec.{leb, ltb}
use lib.ListN.{length, take, drop, replicate}
use Rattle.word.proofs.Tests.{and_true as and_parts}
use Rattle.character.specs.Character.{packed, all_below}
use Rattle.word.specs.Told.{gives, refuses}
use Rattle.character.specs.Converted.{told_packed, packing}
use Rattle.character.proofs.LineEnds.{ends_below}
use Rattle.block.specs.declared.SetUp.{SetUp}
use Rattle.block.specs.Blocks.{Block, Tree, Free, Live, Halves, size, level, size_at, live_in, gathered}
use Rattle.block.specs.SetUp.{top, fitting}
use Rattle.block.specs.Map.{trees, live}
use Rattle.block.proofs.Each.{Each, each_nil, each_cons, each_append, each_map, each_mem}
use Rattle.block.proofs.Size.{size_pos, size_small, level_le, level_size, top_le, fitting_facts}
use Rattle.block.proofs.Tiling.{size_at_mem}
use Rattle.buddy.specs.Lowest.{told_found, first_told}
use Rattle.table.specs.declared.BugLetter.{BugLetter}
use Rattle.table.specs.declared.Pair.{Pair}
use Rattle.table.specs.declared.Row.{Row}
use Rattle.machine.specs.declared.Location.{Location}
use Rattle.machine.specs.declared.Location.TheVariants.{Bug, Field}
use Rattle.machine.specs.declared.Refusal.{Refusal}
use Rattle.machine.specs.declared.Refusal.TheVariants.{InputByte, InputShort, BlockSize, CharacterCount, NotABlock, NoRun}
use Rattle.machine.specs.declared.Refusal.TheVariants.{FieldFreed, OutputFull}
use Rattle.machine.specs.Answer.{Checked, refused, passed, told, ◌>>=◌, ◌>>◌, need}
use Rattle.machine.specs.Locate.{World, Value, contents, width_of, read, locate}
use Rattle.machine.specs.Operations.{first_run_of, lowest_run, lies_in, found_characters, bytes_taken}
use Rattle.machine.proofs.Blocks.{one_of_runs}
use Rattle.machine.proofs.Checks.{need_yes, need_no, bind_yes, bind_no}
use Rattle.machine.proofs.Keeps.{run_fits}
use Rattle.operands.specs.declared.Spot.{Spot}
use Rattle.operands.specs.Reading.{leads, standing, valued, told_linked, Readable, Reached}
use Rattle.operands.specs.Storing.{bugs_stored}
use Rattle.operands.specs.Through.{through, Deliverable}
use Rattle.operands.proofs.Storing.{bugs_below}
use Rattle.operands.proofs.Answers.{at_is, stopped_is}
use Rattle.operands.specs.Locating.{located}
use Rattle.operations.specs.Deeds.{Store, StoreTwo, Deliver, DeliverTwo, Free, Input, Print}
use Rattle.operations.specs.Plans.{after_delivery, delivering, getting, freeing, duplicating, taking, storing, printing}
use Rattle.operations.specs.Plans.{swap_plan, acting, value_by, Computes, Acts}
use Rattle.operations.specs.Answers.{told_computed, told_fetched, fetched}
use Rattle.operations.proofs.Answers.{made_is, not_made_is, run_is, no_run_is}

-- 1 set up: numbers that fit are small
pub numbers_small : (lent : ℕ) (u : SetUp) → fitting lent u ≡ true → (u.d < 65536) × (u.s1 < 65536) × (u.s2 < 65536)
numbers_small lent u h =
    let k = fitting_facts lent u h in
    let least = size_small (top u.d) (top_le u.d) in
    let same = k.largest in
    let order = k.order in
    let last = k.last in
    (omega arith, omega arith, omega arith)

-- 2 define: its numbers in range
pub in_range_lem : (b word left right : ℕ) → (leb word 127 && ltb left b && ltb right b) ≡ true → (word ≤ 127) × (left < b) × (right < b)
in_range_lem b word left right h =
    let (first, third) = and_parts (leb word 127 && ltb left b) (ltb right b) h in
    let (one, two) = and_parts (leb word 127) (ltb left b) first in
    (leb-true _ _ one, ltb-true _ _ two, ltb-true _ _ third)

-- the lowest run, as code finds it
module _ (n : ℕ) {answer : Option ℕ} where
  pub found_run : (rs : List ℕ) → told_found answer ≡ first_told rs → {a : ℕ} → answer ≡ Some a → {m : ℕ} → m ≡ n
      → told_fetched (Ok (record { address = a; size = m })) ≡ told (fetched n (first_run_of rs))
  unfolding told_found first_told first_run_of told_fetched fetched told
  found_run [] is at long = let never : ◌≡◌ {A = ℕ} 0 1 = cc in absurd (omega arith)
  found_run (r ∷ rs) is {a} at long = let same : a ≡ r = cc in rw (same, long)

  pub found_none : (rs : List ℕ) → told_found answer ≡ first_told rs → answer ≡ None → told_fetched (Err NoRun)
      ≡ told (fetched n (first_run_of rs))
  unfolding told_found first_told first_run_of told_fetched fetched told
  found_none [] is at = refl
  found_none (r ∷ rs) is at = let never : ◌≡◌ {A = ℕ} 0 1 = cc in absurd (omega arith)

-- a level by another name of the largest size's
pub level_fits_lem : (d n : ℕ) {j k : ℕ} → k ≡ top d → j ≡ level k n → j ≤ top d
level_fits_lem d n {j} {k} top-is level_is = rw (level_is, ← top-is) (level_le k n)

-- 3 get, once a run is found
module _ (b : ℕ) (w : World) (third : Pair) (a : Location) (address n : ℕ) where
  pub delivers_one : third.form ≡ 0 → delivering b w third a address n ≡ passed (Deliver address n 0 a)
  unfolding delivering
  delivers_one z = rw (eq-eqb _ _ z)

  module _ (some : third.form ≡ 0 → ⊥) {bugs : List ℕ} (after : bugs ≡ bugs_stored b a address w.bugs) {answer : Result Spot Refusal}
      (is : told_linked answer ≡ told (standing (contents b (through b (record { address = address; size = n; at = a })
      (record { bugs = bugs; definitions = w.definitions; setup = w.setup; map = w.map; storage = w.storage })))
      (leads b (through b (record { address = address; size = n; at = a })
      (record { bugs = bugs; definitions = w.definitions; setup = w.setup; map = w.map; storage = w.storage })) third.value))) where
    pub delivers_two : {a2 : Spot} → answer ≡ Ok a2 → {old : ℕ} → old ≡ contents b w a
        → delivering b w third a address n ≡ passed (DeliverTwo address n a (located a2.at) old)
    unfolding delivering after_delivery leads locate ◌>>=◌
    delivers_two to same = rw (ne_eqb _ _ some, ← after, at_is _ _ is to, same)

    pub delivers_stopped : {r : Refusal} → answer ≡ Err r → delivering b w third a address n ≡ refused r
    unfolding delivering after_delivery leads locate ◌>>=◌
    delivers_stopped to = rw (ne_eqb _ _ some, ← after, stopped_is _ _ is to)

-- 3 get, by its checks
module _ (b : ℕ) (w : World) (third : Pair) (a : Location) (n : ℕ) where
  pub get_none : n ≡ 0 → getting b w third a n ≡ refused BlockSize
  unfolding getting
  get_none z = need_no _ _ _ (rw (lt-leb 1 n (omega arith)))

  pub get_large : (n ≡ 0 → ⊥) → w.setup.d < n → getting b w third a n ≡ refused BlockSize
  unfolding getting
  get_large z large = need_no _ _ _ (rw (le-leb 1 n (omega arith), lt-leb n w.setup.d large))

  module _ (some : n ≡ 0 → ⊥) (fits : n ≤ w.setup.d) {j k : ℕ} (top-is : k ≡ top w.setup.d) (level_is : j ≡ level k n) where
    wanted : getting b w third a n ≡ (lowest_run w.setup w.map (size j) >>= λ address. delivering b w third a address (size j))
    unfolding getting
    wanted =
        let same : level (top w.setup.d) n ≡ j = sym (level_is ∙ rw top-is) in
        rw same (need_yes _ _ _ (rw (le-leb 1 n (omega arith), le-leb n w.setup.d fits)))

    module _ {answer : Result Run Refusal} (is : told_fetched answer ≡ told (fetched (size j) (lowest_run w.setup w.map (size j)))) where
      pub get_run : {run : Run} → answer ≡ Ok run → getting b w third a n ≡ delivering b w third a run.address run.size
      get_run {run} to =
          let (at, same) = run_is (size j) (lowest_run w.setup w.map (size j)) is to in
          wanted ∙ bind_yes _ _ at ∙ ap (delivering b w third a run.address) (sym same)

      pub get_no_run : {r : Refusal} → answer ≡ Err r → getting b w third a n ≡ refused r
      get_no_run to = wanted ∙ bind_no _ _ (no_run_is (size j) (lowest_run w.setup w.map (size j)) is to)

-- a run that is found can be delivered
pub run_deliverable : (b : ℕ) (w : World) (a : Location) → Readable b w → Reached b w.setup.s1 w.storage a → (j : ℕ) → j ≤ top w.setup.d
    → {answer : Result Run Refusal} → told_fetched answer ≡ told (fetched (size j) (lowest_run w.setup w.map (size j))) → {run : Run}
    → answer ≡ Ok run
    → Deliverable b w run.address run.size a
unfolding lowest_run
run_deliverable b w a h reached j low is {run} to =
    let (at, same) = run_is (size j) (lowest_run w.setup w.map (size j)) is to in
    let mem = one_of_runs _ run.address at in
    record {
      fits = run_fits _ _ _ _ _ (size_pos j) h.numbers mem;
      place = j;
      low = low;
      is_size = same;
      is_run = rw same mem;
      reached = reached;
    }

-- whether a location lies in a block
module _ (address n : ℕ) {at : Location} where
  pub bug_outside : {x : BugLetter} → at ≡ Bug x → false ≡ lies_in address n at
  unfolding lies_in
  bug_outside e = rw e

  module _ {word left right : ℕ} (e : at ≡ Field word left right) where
    pub below_outside : word < address → false ≡ lies_in address n at
    unfolding lies_in
    below_outside h = rw (e, lt-leb address word h)

    pub from_start : address ≤ word → ltb (word - address) n ≡ lies_in address n at
    unfolding lies_in
    from_start h = rw (e, le-leb address word h) (same_test (ltb (word - address) n) refl)
      where
        same_test : (t : Bool) → ltb (word - address) n ≡ t → t ≡ ltb word (address + n)
        same_test true k = let less = ltb-true (word - address) n k in sym (lt-ltb word (address + n) (omega arith))
        same_test false k = let more = ltb-false (word - address) n k in sym (le-ltb word (address + n) (omega arith))

-- 4 free, by its checks
module _ (address : ℕ) (a : Location) (v : ℕ) {n s : ℕ} (is : n ≡ s) where
  pub free_none : n ≡ 0 → freeing address s a v ≡ refused NotABlock
  unfolding freeing
  free_none z = need_no _ _ _ (rw (eq-eqb s 0 (sym is ∙ z)))

  module _ (some : n ≡ 0 → ⊥) {t : Bool} (test : t ≡ lies_in address n a) where
    is_live : freeing address s a v ≡ (need (not (lies_in address n a)) FieldFreed >> passed (Free address a v))
    unfolding freeing
    is_live = rw (← is) (need_yes _ _ _ (rw (ne_eqb n 0 some)))

    pub free_inside : t ≡ true → freeing address s a v ≡ refused FieldFreed
    free_inside k = is_live ∙ need_no _ _ _ (rw (← test, k))

    pub free_done : t ≡ false → freeing address s a v ≡ passed (Free address a v)
    free_done k = is_live ∙ need_yes _ _ _ (rw (← test, k))

-- the size of a live block is one of the sizes
abbrev Sized : ℕ → Block → Type 0
Sized k x = (j : ℕ) × (j ≤ k) × (x.size ≡ size j)

tree_sized : (k at : ℕ) (t : Tree) → Each (Sized k) (live_in k at t)
unfolding live_in
tree_sized k at Free = each_nil
tree_sized k at Live = each_cons (k, omega arith, refl) each_nil
tree_sized zero at (Halves l r) = each_nil
tree_sized (suc k) at (Halves l r) =
    each_append (each_map (λ x s. (s.0, omega (arith, s.1), s.2)) (tree_sized k at l)) (each_map (λ x s. (s.0, omega (arith, s.1), s.2))
    (tree_sized k (at + size k) r))

forest_sized : (k at : ℕ) (ts : List Tree) → Each (Sized k) (gathered (live_in k) k at ts)
unfolding gathered
forest_sized k at [] = each_nil
forest_sized k at (t ∷ ts) = each_append (tree_sized k at t) (forest_sized k (at + size k) ts)

pub live_sized : (u : SetUp) (m : List ℕ) (a : ℕ) → (size_at a (live u m) ≡ 0 → ⊥) → Sized (top u.d) (record { address = a; size = size_at a (live u m) })
unfolding live
live_sized u m a some = each_mem (forest_sized (top u.d) u.s1 (trees u m)) (size_at_mem a (live u m) some)

-- 5 duplicate, by its checks
module _ (u : SetUp) (m : List ℕ) (a : Location) (from : ℕ) {n : ℕ} (is : n ≡ size_at from (live u m)) where
  pub copy_none : n ≡ 0 → duplicating u m a from (size_at from (live u m)) ≡ refused NotABlock
  unfolding duplicating
  copy_none z = need_no _ _ _ (rw (eq-eqb (size_at from (live u m)) 0 (sym is ∙ z)))

  module _ (some : n ≡ 0 → ⊥) {j k : ℕ} (top-is : k ≡ top u.d) (level_is : j ≡ level k n) where
    same_size : size j ≡ n
    same_size =
        let (i, low, same) = live_sized u m from (λ z. some (is ∙ z)) in
        let place : j ≡ level (top u.d) (size i) = level_is ∙ ap₂ level top-is (is ∙ same) in
        ap size (place ∙ level_size (top u.d) low) ∙ sym (is ∙ same)

    to_copy : duplicating u m a from (size_at from (live u m)) ≡ (lowest_run u m (size j) >>= λ address. passed (Deliver address (size j) from a))
    unfolding duplicating
    to_copy = rw (← is, same_size) (need_yes _ _ _ (rw (ne_eqb n 0 some)))

    module _ {answer : Result Run Refusal} (fetch : told_fetched answer ≡ told (fetched (size j) (lowest_run u m (size j)))) where
      pub copy_run : {run : Run} → answer ≡ Ok run → duplicating u m a from (size_at from (live u m)) ≡ passed (Deliver run.address run.size from a)
      copy_run {run} to =
          let (at, same) = run_is (size j) (lowest_run u m (size j)) fetch to in
          to_copy ∙ bind_yes _ _ at ∙ ap (λ (i : ℕ). passed (Deliver run.address i from a)) (sym same)

      pub copy_no_run : {r : Refusal} → answer ≡ Err r → duplicating u m a from (size_at from (live u m)) ≡ refused r
      copy_no_run to = to_copy ∙ bind_no _ _ (no_run_is (size j) (lowest_run u m (size j)) fetch to)

-- characters that are all below 64, and others
module _ (n : ℕ) (a : Location) where
  characters_value : (t : Bool) (x : ℕ) {v : ℕ} → gives v ≡ cond t (gives x) (refuses 4) → (need t InputByte >> passed (Input a x n)) ≡ passed (Input a v n)
  unfolding need ◌>>◌
  characters_value true x {v} e = let same : v ≡ x = cc in rw same
  characters_value false x e = let never : ◌≡◌ {A = ℕ} 0 1 = cc in absurd (omega arith)

  characters_byte : (t : Bool) (x : ℕ) → refuses 4 ≡ cond t (gives x) (refuses 4) → (need t InputByte >> passed (Input a x n)) ≡ refused InputByte
  unfolding need ◌>>◌
  characters_byte true x e = let never : ◌≡◌ {A = ℕ} 0 1 = cc in absurd (omega arith)
  characters_byte false x e = refl

-- 24 input, by its checks
module _ (b taken : ℕ) (input : List ℕ) (a : Location) (n : ℕ) where
  pub take_many : b / 6 < n → taking b taken input a n ≡ refused CharacterCount
  unfolding taking
  take_many h = need_no _ _ _ (lt-leb n (b / 6) h)

  module _ (few : n ≤ b / 6) where
    -- an input of length 0
    pub take_none : length input ≡ 0 → taken ≤ length input → {v : ℕ} → v ≡ packed (replicate n 0o77) → taking b taken input a n ≡ passed (Input a v 0)
    unfolding taking found_characters bytes_taken
    take_none none there is =
        need_yes _ _ _ (le-leb n (b / 6) few)
        ∙ rw (eq-eqb (length input) 0 none, is)
        (need_yes _ _ _ (le-leb (taken + 0) (length input) (omega arith)) ∙ need_yes _ _ _ (ends_below n))

    module _ (some : length input ≡ 0 → ⊥) where
      pub take_short : length input < taken + n → taking b taken input a n ≡ refused InputShort
      unfolding taking found_characters bytes_taken
      take_short h =
          need_yes _ _ _ (le-leb n (b / 6) few) ∙ rw (ne_eqb (length input) 0 some) (need_no _ _ _ (lt-leb (taken + n) (length input) h))

      module _ (there : taken + n ≤ length input) where
        taken_some : taking b taken input a n
            ≡ (need (all_below 64 (take n (drop taken input))) InputByte >> passed (Input a (packed (take n (drop taken input))) n))
        unfolding taking found_characters bytes_taken
        taken_some =
            need_yes _ _ _ (le-leb n (b / 6) few) ∙ rw (ne_eqb (length input) 0 some) (need_yes _ _ _ (le-leb (taken + n) (length input) there))

        module _ {answer : Option ℕ} (is : told_packed answer ≡ packing (take n (drop taken input))) where
          pub take_value : {v : ℕ} → answer ≡ Some v → taking b taken input a n ≡ passed (Input a v n)
          unfolding told_packed packing
          take_value to = taken_some ∙ characters_value n a _ _ (sym (ap told_packed to) ∙ is)

          pub take_byte : answer ≡ None → taking b taken input a n ≡ refused InputByte
          unfolding told_packed packing
          take_byte to = taken_some ∙ characters_byte n a _ _ (sym (ap told_packed to) ∙ is)

-- a value that is made is stored
module _ (at : Location) (k : Checked ℕ) {answer : Result ℕ Refusal} (is : told_computed answer ≡ told k) where
  pub store_made : {v : ℕ} → answer ≡ Ok v → storing at k ≡ passed (Store at v)
  unfolding storing
  store_made to = rw (made_is k is to)

  pub store_stopped : {r : Refusal} → answer ≡ Err r → storing at k ≡ refused r
  unfolding storing
  store_stopped to = rw (not_made_is k is to)

-- an operation (a, x) by its code
module _ (code b : ℕ) (w : World) (taken : ℕ) (input : List ℕ) (third : Pair) (a : Location) (x : Value) where
  pub act_get : code ≡ 3 → acting code b w taken input third a x ≡ getting b w third a x.value
  unfolding acting
  act_get e = rw e

  pub act_free : code ≡ 4 → {old : ℕ} → old ≡ contents b w a → acting code b w taken input third a x
      ≡ freeing old (size_at old (live w.setup w.map)) a x.value
  unfolding acting
  act_free e was = rw (e, was)

  pub act_copy : code ≡ 5 → acting code b w taken input third a x ≡ duplicating w.setup w.map a x.value (size_at x.value (live w.setup w.map))
  unfolding acting
  act_copy e = rw e

  pub act_take : code ≡ 24 → acting code b w taken input third a x ≡ taking b taken input a x.value
  unfolding acting
  act_take e = rw e

  pub act_make : (code ≡ 3 → ⊥) → (code ≡ 4 → ⊥) → (code ≡ 5 → ⊥) → (code ≡ 24 → ⊥) → {old : ℕ} → old ≡ contents b w a
      → acting code b w taken input third a x ≡ storing a (value_by code b (valued old (width_of b a)) x)
  unfolding acting read
  act_make g f d t was = rw (ne_eqb code 3 g, ne_eqb code 4 f, ne_eqb code 5 d, ne_eqb code 24 t, ← was)

-- 25 print, by its checks
module _ (written room n : ℕ) (x : Value) where
  pub print_many : 120 < n → printing written room n x ≡ refused CharacterCount
  unfolding printing
  print_many h = need_no _ _ _ (lt-leb n 120 h)

  module _ (few : n ≤ 120) where
    pub print_full : room < written + n → printing written room n x ≡ refused OutputFull
    unfolding printing
    print_full h = need_yes _ _ _ (le-leb n 120 few) ∙ need_no _ _ _ (lt-leb (written + n) room h)

    pub print_done : written + n ≤ room → printing written room n x ≡ passed (Print n x.width x.value)
    unfolding printing
    print_done h = need_yes _ _ _ (le-leb n 120 few) ∙ need_yes _ _ _ (le-leb (written + n) room h)

-- 7 interchange, once both are located
pub swaps : (b : ℕ) (w : World) (row : Row) {a c : Location} → locate b w row.first ≡ passed a → locate b w row.second ≡ passed c
    → {v u : ℕ} → v ≡ contents b w c → u ≡ contents b w a → swap_plan b w row ≡ passed (StoreTwo a v c u)
unfolding swap_plan
swaps b w row k j is same = bind_yes _ _ k ∙ bind_yes _ _ j ∙ rw (is, same)

-- the codes of the operations that compute
pub makes : {code : ℕ} → Acts code → (code ≡ 3 → ⊥) → (code ≡ 4 → ⊥) → (code ≡ 5 → ⊥) → (code ≡ 24 → ⊥) → Computes code
makes {code} h g f d t =
    let low = h.low in
    record { low = omega arith; high = h.high; no_interchange = h.no_interchange; no_input = t; no_print = h.no_print }

-- what is lent with other bugs
module _ (b : ℕ) (w : World) (a : Location) (address : ℕ) {bugs : List ℕ} where
  pub stored_readable : Readable b w → bugs ≡ bugs_stored b a address w.bugs
      → Readable b (record { bugs = bugs; definitions = w.definitions; setup = w.setup; map = w.map; storage = w.storage })
  stored_readable h is =
      record {
        width = h.width;
        numbers = h.numbers;
        first = h.first;
        last = h.last;
        whole = h.whole;
        kept = h.kept;
        room = h.room;
        definitions = h.definitions;
        bugs = rw is (bugs_below b a address w.bugs h.bugs);
      }

pub stored_deliverable : (b : ℕ) (w : World) (bugs : List ℕ) (address n : ℕ) (a : Location) → Deliverable b w address n a
    → Deliverable b (record { bugs = bugs; definitions = w.definitions; setup = w.setup; map = w.map; storage = w.storage }) address n a
stored_deliverable b w bugs address n a d =
    record { fits = d.fits; place = d.place; low = d.low; is_size = d.is_size; is_run = d.is_run; reached = d.reached }
