use Rattle.std.proofs.Common.{rules, ℕ, ◌+◌, leb, map, refl, sym, ap, ◌∙◌, arith}
use Rattle.std.proofs.lemmas.Iterator.Search.{all_from_yields_List}
use Rattle.std.proofs.lemmas.Iterator.{YieldsList-from_range}
use Rattle.std.proofs.lemmas.List.Folds.{list_all-map}
use Rattle.std.specs.List.{list_all, range_with_len}
use borrow.Author.Tests.{tests}
use Rattle.pager.proofs.log.Log.all_fit.Goals as goal

-- each number below the count was asked in turn
pub returns : goal.returns
returns g c =
    let size = λ (k : ℕ). (g.B.Bank.means c.args.self.now.bank k).size in
    let n = c.args.shape.servers + 1 in
    all_from_yields_List (λ k. leb c.args.shape.groups (size k)) _ _ c.all.result c.all.ensures.ran (YieldsList-from_range 0 n n refl (omega arith)) (λ x b q e. search (rules, tests))
    ∙ sym (list_all-map (leb c.args.shape.groups) size (range_with_len 0 n)) ∙ ap (λ m. list_all (leb c.args.shape.groups) (map size (range_with_len 0 m))) (sym c.requires.count)
