-- Answers in numbers: no two refusals have one number, so that what a number tells of a result is the result; and what step, run, fresh and
-- extend tell is what their definitions in numbers say. Assumes nothing.
use Prim.Native.Nat.{ℕ, zero, suc}
use native.Mathlib.Omega.{arith}
use mathlib.Core.Bool.{Bool, true, false, cond}
use mathlib.Core.List.{[], ◌∷◌}
use mathlib.Core.Path.{◌≡◌, refl, sym, ap, ◌∙◌}
use lib.ListN.{get_or, length}
use Rattle.std.specs.Prelude.{Ok, Err}
use Rattle.word.specs.Word.{is_width}
use Rattle.word.specs.Told.{Told, gives, refuses}
use Rattle.block.specs.Extension.{extending}
use Rattle.machine.specs.declared.Refusal.{Refusal}
use Rattle.machine.specs.declared.Refusal.TheVariants.{TableLength, BadRow, SetUpNumbers, InputByte, InputShort, NotADigit}
use Rattle.machine.specs.declared.Refusal.TheVariants.{DefinitionNumber, BlockSize, ZeroDivisor, CharacterCount, Unsound}
use Rattle.machine.specs.declared.Refusal.TheVariants.{BeforeSetUp, SecondSetUp, UndefinedField, NotABlock, OutsideBlock}
use Rattle.machine.specs.declared.Refusal.TheVariants.{NoRun, FieldFreed, StackFull, StackEmpty, OutputFull}
use Rattle.machine.specs.declared.Refusal.TheVariants.{SubtrahendGreater, NoWidth}
use Rattle.machine.specs.declared.Answer.TheVariants.{Running, Finished, Refused}
use Rattle.machine.specs.declared.Fresh.{Fresh}
use Rattle.machine.specs.declared.ExtensionError.TheVariants as errors
use Rattle.machine.specs.Answer.{Checked, refused, passed, refusal_number, told_answer, told, is_running}
use Rattle.machine.specs.State.{is_finished, is_set_up, fresh, fresh_of, told_fresh}
use Rattle.machine.specs.Sound.{Lent, Engine, sound, sound_engine}
use Rattle.machine.specs.Effects.{Effects}
use Rattle.machine.specs.Step.{Outcome, RunOutcome, plan, unchanged, carried_out, outcome, step_at, step, plan_told, step_told}
use Rattle.machine.specs.Step.{engine_of, ending, run_from, run_told}
use Rattle.machine.specs.Extend.{not_extended, extended_by, extend_at, extend, told_extension, extend_told}

-- the refusal of a number
numbered : ℕ → Refusal
numbered n =
    get_or (
    TableLength ∷ TableLength ∷ BadRow ∷ SetUpNumbers ∷ InputByte ∷ InputShort ∷ NotADigit ∷ DefinitionNumber
    ∷ BlockSize ∷ ZeroDivisor ∷ CharacterCount ∷ Unsound ∷ BeforeSetUp ∷ SecondSetUp ∷ UndefinedField ∷ NotABlock
    ∷ OutsideBlock ∷ NoRun ∷ FieldFreed ∷ StackFull ∷ StackEmpty ∷ OutputFull ∷ SubtrahendGreater ∷ []
    )
    n NoWidth

back : (r : Refusal) → numbered (refusal_number r) ≡ r
unfolding numbered refusal_number
back TableLength = refl
back BadRow = refl
back SetUpNumbers = refl
back InputByte = refl
back InputShort = refl
back NotADigit = refl
back DefinitionNumber = refl
back BlockSize = refl
back ZeroDivisor = refl
back CharacterCount = refl
back Unsound = refl
back BeforeSetUp = refl
back SecondSetUp = refl
back UndefinedField = refl
back NotABlock = refl
back OutsideBlock = refl
back NoRun = refl
back FieldFreed = refl
back StackFull = refl
back StackEmpty = refl
back OutputFull = refl
back SubtrahendGreater = refl
back NoWidth = refl

-- no two refusals have one number
pub number_same : {r s : Refusal} → refusal_number r ≡ refusal_number s → r ≡ s
number_same {r} {s} e = sym (back r) ∙ ap numbered e ∙ back s

-- what is told of checks, taken apart
module _ {A : Type 0} where
  pub told_passed : (k : Checked A) {x : A} → gives x ≡ told k → k ≡ passed x
  unfolding told
  told_passed (passed y) {x} e = let same : x ≡ y = cc in rw same
  told_passed (refused q) e = let never : ◌≡◌ {A = ℕ} 0 1 = cc in absurd (omega arith)

  pub told_refused : (k : Checked A) {r : Refusal} → refuses (refusal_number r) ≡ told k → k ≡ refused r
  unfolding told
  told_refused (passed y) e = let never : ◌≡◌ {A = ℕ} 0 1 = cc in absurd (omega arith)
  told_refused (refused q) {r} e = let same : refusal_number r ≡ refusal_number q = cc in ap refused (sym (number_same same))

-- a step
plan_told_lem : (b : ℕ) (k : Checked Effects) (l : Lent) (e : Engine) → told_answer (outcome b k l e).stepped.answer ≡ plan_told k
unfolding outcome unchanged carried_out plan_told told_answer
plan_told_lem b (refused r) l e = refl
plan_told_lem b (passed x) l e = ending_told (is_finished x.state.core.place)
  where
    ending_told : (t : Bool) → told_answer (cond t Finished Running) ≡ gives (cond t 1 0)
    ending_told true = refl
    ending_told false = refl

pub step_told_lem : (l : Lent) (e : Engine) → told_answer (step l e).stepped.answer ≡ step_told l e
unfolding step step_at unchanged step_told told_answer refusal_number
step_told_lem l e = by_width (is_width e.state.width) (sound e.state.width l e) (is_finished e.state.core.place)
  where
    b : ℕ
    b = e.state.width

    by_width : (w s f : Bool)
        → told_answer
        (cond w (cond s (cond f (unchanged Finished l e) (outcome b (plan b l e) l e)) (unchanged (Refused Unsound) l e)) (unchanged (Refused NoWidth) l e)
        ).stepped.answer
        ≡ cond w (cond s (cond f (gives 1) (plan_told (plan b l e))) (refuses 11)) (refuses 31)
    by_width true true true = refl
    by_width true true false = plan_told_lem b (plan b l e) l e
    by_width true false f = refl
    by_width false s f = refl

-- a run
pub run_told_lem : (count limit : ℕ) (l : Lent) (e : Engine) → told_answer (run_from count limit l e).ran.answer ≡ run_told limit l e
unfolding run_from ending told_answer run_told
run_told_lem count zero l e = refl
run_told_lem count (suc limit) l e =
    let o : Outcome = step l e in
    let rest : Lent = record { table = l.table; input = l.input; output = o.output } in
    elim (is_running o.stepped.answer) as (λ t.
    let r : RunOutcome = (elim t [
      | true ↦ run_from (suc count) limit rest (engine_of o)
      | false ↦ ending o.stepped.answer (suc count) (engine_of o) o.output
    ]) in
    let n : Told ℕ = (elim t [ true ↦ run_told limit rest (engine_of o) | false ↦ step_told l e ]) in
    told_answer r.ran.answer ≡ n) [
      | true ↦ run_told_lem (suc count) limit rest (engine_of o)
      | false ↦ step_told_lem l e
    ]

-- a fresh engine
pub fresh_told : (b : ℕ) → told_fresh (fresh_of b).answer ≡ cond (is_width b) (gives tt) (refuses 31)
unfolding fresh_of told_fresh
fresh_told b = by_width (is_width b)
  where
    by_width : (w : Bool) → told_fresh (cond {A = Fresh} w (record { state = fresh b; answer = Ok tt })
        (record { state = fresh 0; answer = Err (record {}) })).answer
        ≡ cond w (gives tt) (refuses 31)
    by_width true = refl
    by_width false = refl

-- an extension
pub extend_told_lem : (last : ℕ) (e : Engine) → told_extension (extend last e).extended.answer ≡ extend_told last e
unfolding extend extend_at not_extended extended_by told_extension extend_told
extend_told_lem last e =
    by_width (is_width b) (sound_engine b e) (is_set_up e.state.core) (extending (length e.storage) last e.state.core.setup)
  where
    b : ℕ
    b = e.state.width

    by_width : (w s u x : Bool)
        → told_extension
        (cond w
        (cond s (cond u (cond x (extended_by last e) (not_extended (Err errors.LastAddress) e)) (not_extended (Err errors.BeforeSetUp) e))
        (not_extended (Err errors.Unsound) e))
        (not_extended (Err errors.NoWidth) e)
        ).extended.answer
        ≡ cond w (cond s (cond u (cond x (gives tt) (refuses 32)) (refuses 12)) (refuses 11)) (refuses 31)
    by_width true true true true = refl
    by_width true true true false = refl
    by_width true true false x = refl
    by_width true false u x = refl
    by_width false s u x = refl
