use Rattle.std.proofs.Common.{rules, ◌≡◌, Ok, Err, MatchResult, refl, ap, ◌∙◌, arith}
use Rattle.std.proofs.lemmas.Result.{MatchResult-weaker, err_from_is_err_and}
use Rattle.parity_log.specs.Faults.{lost_page}
use Rattle.page.specs.Refusals.{of_page}
use Rattle.parity_log.proofs.Bounds.{capacity_fits}
use Rattle.pager.specs.Moments.{log_state}
use Rattle.pager.proofs.Fitting.{kept_log, ends_kept}
use Rattle.pager.proofs.PageoutWays.{out_places}
use Rattle.pager.proofs.PageinLaws.{admitted, pagein_none, pagein_lost, pagein_read}
use Rattle.pager.proofs.Seen.{pagein_turn}
use Rattle.pager.proofs.log.Log.pagein_admitted.Goals as goal

pub bounds-self-page : goal.bounds-self-page
bounds-self-page g c =
    let v = c.args.self.now.ledger.tables in
    let a = admitted v c.args.page _ c.requires.admitted in
    omega (arith, a.1, capacity_fits v.shape a.0)

pub read-requires : goal.read-requires
read-requires g c =
    let v = c.args.self.now.ledger.tables in
    let a = admitted v c.args.page _ c.requires.admitted in
    let sound = (c.requires.order.log.made a.0).tables.sound in
    let fits = out_places v c.args.page c.in-Out.group c.in-Out.position sound c.in-Out.is in
    record { group = fits.0; position = fits.1; whole = a.2 }

pub returns-in-NotOut : goal.returns-in-NotOut
returns-in-NotOut g c =
    let bank = g.B.Bank in
    let old = c.args.self.now in
    let b = old.bank in
    let run = pagein_none bank.steps (log_state old) c.args.page _ b b c.requires.admitted c.of_page.result (c.of_page.ensures ∙ ap (of_page c.args.page) c.new.ensures) c.in-NotOut.is in
    record { order = c.requires.order; ran = run; tables = refl; running = refl; left = refl; turn = pagein_turn bank.count bank.means bank.steps bank.laws old old refl c.args.page _ _ run }

pub returns-in-Lost : goal.returns-in-Lost
returns-in-Lost g c =
    let bank = g.B.Bank in
    let old = c.args.self.now in
    let b = old.bank in
    let run = pagein_lost bank.steps (log_state old) c.args.page _ b b c.requires.admitted c.lost.result c.in-Lost.group c.in-Lost.missing c.lost.ensures c.in-Lost.is in
    record { order = c.requires.order; ran = run; tables = refl; running = refl; left = refl; turn = pagein_turn bank.count bank.means bank.steps bank.laws old old refl c.args.page _ _ run }

pub returns-in-Out : goal.returns-in-Out
returns-in-Out g c =
    let bank = g.B.Bank in
    let old = c.args.self.now in
    let now = c.read.new.self in
    let out = c.read.ensures in
    let same = kept_log old now out.tables out.running in
    let says : MatchResult c.read.result (λ u. c.map_err.result ≡ Ok u) (λ s. c.map_err.result ≡ Err (lost_page c.args.page c.in-Out.group s)) =
    MatchResult-weaker c.read.result c.map_err.ensures.cases (λ _ h. h) (λ s h. let lost = err_from_is_err_and c.map_err.result h in lost.1 ∙ ap Err (search (rules, lost.2))) in
    let run = pagein_read bank.steps (log_state old) c.args.page _ old.bank now.bank c.requires.admitted c.in-Out.group c.in-Out.position c.read.result c.map_err.result c.read.new.buffer c.args.buffer.now c.in-Out.is says out.ran out.left in
    record {
      order = ends_kept bank.count bank.means bank.steps bank.laws old now _ _ c.requires.order same run.0;
      ran = run.0;
      tables = out.tables;
      running = out.running;
      left = run.1;
      turn = pagein_turn bank.count bank.means bank.steps bank.laws old now same c.args.page _ _ run.0;
    }
