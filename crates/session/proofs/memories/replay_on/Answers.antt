use Rattle.std.proofs.Common.{◌≡◌, ◌∷◌, [], ◌∙◌, ap, refl, rules}
use Rattle.memory.specs.Stands.{store_of}
use Rattle.session.specs.Memories.{replay_on}
use Rattle.session.proofs.Models.{memory_before, none_modelled}
use Rattle.session.proofs.WholeLaws.{replay_lists}
use Rattle.session.proofs.memories.replay_on.Goals as goal

pub returns : goal.returns
returns c =
    let five = memory_before (memory_before (memory_before (memory_before (memory_before none_modelled)))) in
    let lists = replay_lists _ _ _ _ _ _ _ five c.args.script.now _ c.args.listing.now _ _ _ c.replay_bank-outcome.ensures.replayed in
    let taken = store_of c.take-4.result ∷ store_of c.take-5.result ∷ store_of c.take.result ∷ store_of c.take-2.result ∷ store_of c.take-3.result ∷ [] in
    let lent = store_of c.args.a.now ∷ store_of c.args.b.now ∷ store_of c.args.c.now ∷ store_of c.args.d.now ∷ store_of c.args.parity.now ∷ [] in
    let as_lent : taken ≡ lent = rw (c.take.ensures, c.take-2.ensures, c.take-3.ensures, c.take-4.ensures, c.take-5.ensures) refl in
    let kept = lists.1 in
    record {
      replayed = lists.0 ∙ ap (λ row. replay_on c.args.script.now row c.args.listing.now) as_lent;
      within = c.replay_bank-outcome.ensures.within;
      lends_a = let t = c.take-4.ensures in search (rules, kept, t);
      lends_b = let t = c.take-5.ensures in search (rules, kept, t);
      lends_c = let t = c.take.ensures in search (rules, kept, t);
      lends_d = let t = c.take-2.ensures in search (rules, kept, t);
      lends_parity = let t = c.take-3.ensures in search (rules, kept, t);
    }
