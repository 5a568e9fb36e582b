-- `typed::pairs::name_in` meets its contract: the first kind that gives a name, and its argument. Assumes nothing.
use Prim.Native.Nat.{ℕ}
use mathlib.Core.Path.{sym, ap, ◌∙◌}
use mathlib.Core.List.{List}
use lib.Dec.{eqb}
use Rattle.std.specs.Prelude.{find, zip, option_map}
use Rattle.std.proofs.Common.{rules, tests}
use Rattle.std.proofs.lemmas.Iterator.{YieldsList-from_slice, YieldsList-from_zip}
use Rattle.std.proofs.lemmas.Iterator.Consumers.{YieldsList-at}
use Rattle.std.proofs.lemmas.Iterator.Search.{find_from_yields_List}
use Rattle.std.proofs.lemmas.Iterator.Splits.{YieldsList-from_slice_split}
use Rattle.lines.specs.Words.{gives_name}
use Rattle.lines.specs.Walking.{kind_of, as_form}
use Rattle.lines.proofs.Library.{split_lem}
use Rattle.lines.proofs.Picking.{name_found, name_none}
use Rattle.typed.proofs.pairs.name_in.Goals as goal

pub returns-in-Some : goal.returns-in-Some
unfolding as_form
returns-in-Some c =
    let named = find_from_yields_List (λ p. gives_name (kind_of p.0)) c.find-named.new.self _ c.find-named.result c.find-named.ensures.ran
    (YieldsList-from_zip (YieldsList-from_slice c.args.form.now.arguments.now cc) (YieldsList-at c.zip.ensures.second
    (YieldsList-from_slice_split _ (λ x. eqb x 44) c.args.s.now c.split-parts.ensures.rest c.split-parts.ensures.done c.split-parts.ensures.closure
    (λ x b q k. search (rules, tests))))) (λ x b q k. search (rules, tests))
    ∙ ap (λ (ws : List (List ℕ)). find (λ p. gives_name (kind_of p.0)) (zip c.args.form.now.arguments.now ws)) (split_lem c.args.s.now) in
    c.last_name.ensures ∙ name_found _ _ (sym (ap (option_map _) c.in-Some.is) ∙ named)

pub returns-in-None : goal.returns-in-None
unfolding as_form
returns-in-None c =
    let named = find_from_yields_List (λ p. gives_name (kind_of p.0)) c.find-named.new.self _ c.find-named.result c.find-named.ensures.ran
    (YieldsList-from_zip (YieldsList-from_slice c.args.form.now.arguments.now cc) (YieldsList-at c.zip.ensures.second
    (YieldsList-from_slice_split _ (λ x. eqb x 44) c.args.s.now c.split-parts.ensures.rest c.split-parts.ensures.done c.split-parts.ensures.closure
    (λ x b q k. search (rules, tests))))) (λ x b q k. search (rules, tests))
    ∙ ap (λ (ws : List (List ℕ)). find (λ p. gives_name (kind_of p.0)) (zip c.args.form.now.arguments.now ws)) (split_lem c.args.s.now) in
    name_none _ _ (sym (ap (option_map _) c.in-None.is) ∙ named)
