use Rattle.std.proofs.Common.{◌≡◌, ◌∷◌, [], ◌∙◌, ap, refl, rules}
use Rattle.memory.specs.Stands.{store_of}
use Rattle.memory.specs.Store.{made}
use Rattle.session.specs.Memories.{listed, replay_on}
use Rattle.session.proofs.memories.replay_over_five.Goals as goal

pub returns-clause-replayed : goal.returns-clause-replayed
returns-clause-replayed c =
    let old = c.args in
    let new = c.replay_on.new in
    let servers = store_of c.new-first.result ∷ store_of c.new-second.result ∷ store_of c.new-third.result ∷ store_of c.new-fourth.result ∷ store_of c.new-last.result ∷ [] in
    let lent = made old.a.now 0 ∷ made old.b.now 0 ∷ made old.c.now 0 ∷ made old.d.now 0 ∷ made old.parity.now 0 ∷ [] in
    let left = store_of new.a ∷ store_of new.b ∷ store_of new.c ∷ store_of new.d ∷ store_of new.parity ∷ [] in
    let new_over : servers ≡ lent = rw (c.new-first.ensures.made, c.new-second.ensures.made, c.new-third.ensures.made, c.new-fourth.ensures.made, c.new-last.ensures.made) refl in
    let replayed : listed c.replay_on.result left new.listing ≡ replay_on old.script.now lent old.listing.now = c.replay_on.ensures.replayed ∙ ap (λ row. replay_on old.script.now row old.listing.now) new_over in
    search (rules, replayed)
