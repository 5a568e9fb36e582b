-- `extension::judge` meets its contract: 31, 11, 12, 32. Assumes nothing.
use native.Mathlib.Omega.{arith}
use Rattle.word.proofs.Width.{width_range}
use Rattle.machine.specs.Sound.{Engine, sound_engine}
use Rattle.extension.proofs.Extending.{numbers_order, answer_no_width, answer_unsound, answer_early, answer_last, answer_done}
use Rattle.extension.proofs.judge.Goals as goal

pub returns-then-not-is_width : goal.returns-then-not-is_width
returns-then-not-is_width c = answer_no_width _ _ cc

pub is_sound_engine-requires : goal.is_sound_engine-requires
is_sound_engine-requires c = omega (arith, (width_range c.from-b.result cc).1)

pub returns-then-not-is_sound_engine : goal.returns-then-not-is_sound_engine
unfolding sound_engine
returns-then-not-is_sound_engine c = answer_unsound _ _ (cc) (cc)

pub returns-then-setup-eq0 : goal.returns-then-setup-eq0
unfolding sound_engine
returns-then-setup-eq0 c = answer_early _ _ (cc) (cc) c.if-setup-eq0.true

pub extends-requires : goal.extends-requires
unfolding sound_engine
extends-requires c =
    let e : Engine = record { state = c.args.state.now; storage = c.args.storage.now } in
    numbers_order e.state.width e (cc) c.if-setup-eq0.false

pub returns-then-not-extends : goal.returns-then-not-extends
unfolding sound_engine
returns-then-not-extends c = answer_last _ _ (cc) (cc) c.if-setup-eq0.false (cc)

pub returns : goal.returns
unfolding sound_engine
returns c = answer_done _ _ (cc) (cc) c.if-setup-eq0.false (cc)
