use Rattle.std.proofs.Common.{List, eqb, take, sym, ap, ◌∙◌, rules, tests}
use Rattle.std.proofs.lemmas.Iterator.Search.{find_from_yields_List}
use Rattle.std.proofs.lemmas.Iterator.Adapters.{YieldsList-from_rev_slice}
use Rattle.checker.specs.Search.{newest_first, find}
use Rattle.checker.proofs.Newest.{newest_min}
use Rattle.checker.proofs.search.newest.Goals as goal

pub returns : goal.returns
returns g c =
    c.copied.ensures
    ∙ find_from_yields_List (λ e. eqb (g.E.Keyed.key e) c.args.key) _ _ c.find.result c.find.ensures.ran (YieldsList-from_rev_slice (take c.min-end.result c.args.entries.now) cc) (λ x b q k. search (rules, tests))
    ∙ ap (λ (es : List g.row.E.Denot). find g.E.Keyed.key es c.args.key) (ap (newest_first c.args.entries.now) c.min-end.ensures ∙ sym (newest_min c.args.entries.now c.args.count))
