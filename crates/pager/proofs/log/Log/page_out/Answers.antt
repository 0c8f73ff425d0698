use Rattle.std.proofs.Common.{◌<◌, true, false, Ok, sym, refl, ◌∙◌, subst, arith}
use Rattle.parity_log.specs.declared.records.Shape.{Shape}
use Rattle.parity_log.specs.Tables.{capacity, page_state}
use Rattle.parity_log.specs.Paging.{told}
use Rattle.parity_log.proofs.Bounds.{capacity_fits}
use Rattle.parity_log.proofs.ChangesLaws.{changes_place}
use Rattle.pager.specs.Moments.{log_state}
use Rattle.pager.specs.Places.{Fit}
use Rattle.pager.proofs.PageoutWays.{left_fits, done_ends, paged, out_leaves}
use Rattle.pager.proofs.log.Log.page_out.Goals as goal

pub bounds-self-page : goal.bounds-self-page
bounds-self-page g c = omega (arith, c.requires.page, capacity_fits c.args.self.now.ledger.tables.shape c.requires.settled.tables.sound.shape)

pub place-done-requires : goal.place-done-requires
place-done-requires g c =
    let l = c.ready-group.new.self.ledger in
    let r = c.ready-group.ensures in
    let s = r.ready.settled in
    let below : c.args.page < capacity l.tables.shape = subst (λ (y : Shape). c.args.page < capacity y) (sym r.shape) c.requires.page in
    record { room = s.room; changes = changes_place l.tables c.ready-group.result c.args.page s.sound r.ready.open_now s.room below }

pub release_old-requires : goal.release_old-requires
release_old-requires g c =
    let o = c.ready-group.new.self.ledger.tables in
    let sound = c.ready-group.ensures.ready.settled.sound in
    let fits = subst Fit (sym c.group.ensures) (left_fits o c.args.page (page_state o c.args.page) sound refl) in
    fits

pub judge-requires : goal.judge-requires
judge-requires g c =
    let o = log_state c.ready-group.new.self in
    let t = log_state c.place-done.new.self in
    let w = log_state c.release_old.new.self in
    let u = log_state c.close_full.new.self in
    let p = c.args.page in
    let n = c.ready-group.result in
    let x = c.args.bytes.now in
    let r = c.ready-group.ensures in
    let below = subst (λ (y : Shape). p < capacity y) (sym r.shape) c.requires.page in
    let left = rw c.group.ensures at c.release_old.ensures in
    let out = out_leaves o t w u n p x r.ready.settled r.ready.open_now below c.place-done.ensures.log left.log c.close_full.ensures.log in
    record { settled = out.0; page = subst (λ (y : Shape). p < capacity y) (sym out.1) below; there = out.2 }

pub returns-then-done : goal.returns-then-done
returns-then-done g c =
    let o = log_state c.ready-group.new.self in
    let t = log_state c.place-done.new.self in
    let w = log_state c.release_old.new.self in
    let u = log_state c.close_full.new.self in
    let p = c.args.page in
    let n = c.ready-group.result in
    let x = c.args.bytes.now in
    let r = c.ready-group.ensures in
    let below = subst (λ (y : Shape). p < capacity y) (sym r.shape) c.requires.page in
    let left = rw c.group.ensures at c.release_old.ensures in
    let steps = g.B.Bank.steps in
    let puts = rw c.if-done.true at c.place-done.ensures.ran in
    let e = c.close_full.new.self.bank in
    let out = out_leaves o t w u n p x r.ready.settled r.ready.open_now below c.place-done.ensures.log left.log c.close_full.ensures.log in
    record {
      settled = out.0;
      shape = out.1 ∙ r.shape;
      ran = paged steps (log_state c.args.self.now) o t w u p n x true (told (Ok tt) u) c.args.self.now.bank _ _ _ e e r.ran puts left.ran c.close_full.ensures.ran (done_ends steps u p n o.tables.filled e e);
    }

pub returns : goal.returns
returns g c =
    let o = log_state c.ready-group.new.self in
    let t = log_state c.place-done.new.self in
    let w = log_state c.release_old.new.self in
    let u = log_state c.close_full.new.self in
    let p = c.args.page in
    let n = c.ready-group.result in
    let x = c.args.bytes.now in
    let r = c.ready-group.ensures in
    let below = subst (λ (y : Shape). p < capacity y) (sym r.shape) c.requires.page in
    let left = rw c.group.ensures at c.release_old.ensures in
    let steps = g.B.Bank.steps in
    let puts = rw c.if-done.false at c.place-done.ensures.ran in
    let out = out_leaves o t w u n p x r.ready.settled r.ready.open_now below c.place-done.ensures.log left.log c.close_full.ensures.log in
    let end = c.judge.ensures in
    record {
      settled = end.settled;
      shape = end.shape ∙ out.1 ∙ r.shape;
      ran = paged steps (log_state c.args.self.now) o t w u p n x false _ c.args.self.now.bank _ _ _ _ _ r.ran puts left.ran c.close_full.ensures.ran end.ran;
    }
