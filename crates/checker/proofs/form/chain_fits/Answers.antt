use Rattle.std.proofs.Common.{◌≡◌, ap, length, rules, tests}
use Rattle.std.specs.List.{list_all}
use Rattle.std.proofs.lemmas.Iterator.Search.{all_from_yields_List}
use Rattle.std.proofs.lemmas.Iterator.Consumers.{YieldsList-from_shown}
use Rattle.checker.specs.Chain.{chain, ChainGives}
use Rattle.checker.specs.Form.{of_class}
use Rattle.checker.proofs.form.chain_fits.Goals as goal

pub returns : goal.returns
returns c =
    let all : c.all.result ≡ list_all (λ p. of_class c.args.class p.1.kind) (chain c.new.result.table.now c.new.result.at) =
    all_from_yields_List (λ p. of_class c.args.class p.1.kind) c.all.new.self _ c.all.result c.all.ensures.ran
    (YieldsList-from_shown (λ s r t. ChainGives s.table.now s.at r t.table.now t.at) (λ p. p) (λ s. chain s.table.now s.at) (λ s t h. ap length h.first.0) (λ s x t h. h.first) c.new.result)
    (λ x b q k. search (rules, tests)) in
    rw (← c.new.ensures.table, ← c.new.ensures.first) all
