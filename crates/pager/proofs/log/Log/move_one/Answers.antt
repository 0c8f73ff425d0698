use Rattle.std.proofs.Common.{◌+◌, sym, refl, ap, ◌∙◌, subst}
use Rattle.parity_log.specs.declared.records.PageState.TheVariants.{Lost}
use Rattle.parity_log.specs.LogState.{LogState, with_tables}
use Rattle.parity_log.specs.Order.{Cleaning}
use Rattle.parity_log.specs.Paging.{place, placed_log}
use Rattle.parity_log.specs.Rule.{Ends}
use Rattle.parity_log.specs.Tables.{page_at, with_page}
use Rattle.pager.specs.Moments.{log_state}
use Rattle.pager.specs.Places.{placed_as}
use Rattle.parity_log.proofs.CleaningLaws.{clean_skip, clean_place, clean_lose}
use Rattle.pager.proofs.Fitting.{kept_log}
use Rattle.pager.proofs.CleaningWays.{place_fits, lose_fits, nobody_moves, one_moves, one_is_lost}
use Rattle.pager.proofs.log.Log.move_one.Goals as goal

pub place-requires : goal.place-requires
place-requires g c =
    let v = c.args.self.now.ledger.tables in
    let r = place_fits v c.args.into c.args.from c.args.position c.in-Some.page c.requires.cleaning c.requires.position (sym c.page_at.ensures ∙ c.in-Some.is) in
    rw c.read.ensures.tables (record { room = r.0; changes = r.1 })

pub set_page-requires-clause-changes : goal.set_page-requires-clause-changes
set_page-requires-clause-changes g c =
    rw c.read.ensures.tables (lose_fits c.args.self.now.ledger.tables c.args.into c.args.from c.args.position c.in-Some.page c.requires.cleaning c.requires.position (sym c.page_at.ensures ∙ c.in-Some.is) c.in-Err.missing)

pub returns-in_default : goal.returns-in_default
returns-in_default g c =
    let v = c.args.self.now.ledger.tables in
    let b = c.args.self.now.bank in
    let nobody = sym c.page_at.ensures ∙ c.in_default.is in
    record {
      cleaning = clean_skip v c.args.into c.args.from c.args.position c.requires.cleaning c.requires.position nobody;
      shape = refl;
      ran = nobody_moves g.B.Bank.steps (log_state c.args.self.now) c.args.into c.args.from c.args.position (page_at v.pages c.args.from c.args.position) b b nobody;
    }

pub returns-in-Ok : goal.returns-in-Ok
returns-in-Ok g c =
    let l = log_state c.args.self.now in
    let v = l.tables in
    let steps = g.B.Bank.steps in
    let page = c.in-Some.page in
    let x = c.read.new.buffer in
    let here = sym c.page_at.ensures ∙ c.in-Some.is in
    let same = kept_log c.args.self.now c.read.new.self c.in-Ok.ensures.tables c.in-Ok.ensures.running in
    let put = c.place.ensures in
    let is = put.log ∙ ap (λ (k : LogState). placed_log k c.args.into page x) same in
    let run = subst (λ (k : LogState). Ends steps (place k c.args.into page x) c.read.new.self.bank (placed_as c.place.result (log_state c.place.new.self)) c.place.new.self.bank) same put.ran in
    let done = clean_place v c.args.into c.args.from c.args.position page c.requires.cleaning c.requires.position here in
    record {
      cleaning = subst (λ (k : LogState). Cleaning k.tables c.args.into c.args.from (c.args.position + 1)) (sym is) done;
      shape = ap (λ (k : LogState). k.tables.shape) is;
      ran = one_moves steps l c.args.into c.args.from c.args.position (page_at v.pages c.args.from c.args.position) c.args.self.now.bank _ page x _ _ _ here c.in-Ok.ensures.ran run;
    }

pub returns-in-Err : goal.returns-in-Err
returns-in-Err g c =
    let l = log_state c.args.self.now in
    let v = l.tables in
    let page = c.in-Some.page in
    let here = sym c.page_at.ensures ∙ c.in-Some.is in
    let same = kept_log c.args.self.now c.read.new.self c.in-Err.ensures.tables c.in-Err.ensures.running in
    let gone = ap (with_tables (log_state c.read.new.self)) c.set_page.ensures.tables ∙ ap (λ (k : LogState). with_tables k (with_page k.tables page (Lost c.args.from c.in-Err.missing))) same in
    let done = clean_lose v c.args.into c.args.from c.args.position page c.in-Err.missing c.requires.cleaning c.requires.position here in
    record {
      cleaning = subst (λ (k : LogState). Cleaning k.tables c.args.into c.args.from (c.args.position + 1)) (sym gone) done;
      shape = ap (λ (k : LogState). k.tables.shape) gone;
      ran = one_is_lost g.B.Bank.steps l c.args.into c.args.from c.args.position (page_at v.pages c.args.from c.args.position) c.args.self.now.bank _ page c.in-Err.missing _ here c.in-Err.ensures.ran gone;
    }
