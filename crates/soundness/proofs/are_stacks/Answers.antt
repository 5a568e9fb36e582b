-- `soundness::are_stacks` meets its contract: the three stacks joined. Assumes nothing.
use mathlib.Core.Path.{◌≡◌}
use borrow.Author.Rules.{rules}
use lib.Dec.{ltb}
use Prim.Native.Nat.{◌^◌}
use Rattle.machine.specs.Sound.{sound_stack, sound_stacks, is_definition, is_place}
use Rattle.soundness.proofs.are_stacks.Goals as goal

pub returns : goal.returns
unfolding sound_stacks
returns c =
    let core = c.args.core in
    let contents : c.is_sound_stack.result ≡ sound_stack (λ x. ltb x (2 ^ c.args.b)) core.contents.count core.contents.entries =
    c.is_sound_stack.ensures _ (λ l r p. search rules) in
    let saved : c.is_sound_stack-2.result ≡ sound_stack (is_definition c.args.b) core.saved.count core.saved.entries =
    c.is_sound_stack-2.ensures _ (λ l r p. search rules) in
    let calls : c.is_sound_stack-3.result ≡ sound_stack is_place core.calls.count core.calls.entries =
    c.is_sound_stack-3.ensures _ (λ l r p. search rules) in
    rw (contents, saved, calls)
