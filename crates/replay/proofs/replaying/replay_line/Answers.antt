use Rattle.std.proofs.Common.{◌≡◌, false, is_ok, Err, sym, ap, ◌∙◌, rules}
use Rattle.page.specs.Refusals.{on_line}
use Rattle.replay.specs.Listing.{halt_at}
use Rattle.replay.specs.Script.{call_or_unread, read_call, unread}
use Rattle.replay.proofs.ReplayingLaws.{call_replayed, unread_from, unread_replayed}
use Rattle.replay.proofs.replaying.replay_line.Goals as goal

pub returns-in_err-call : goal.returns-in_err-call
returns-in_err-call g c =
    let o = read_call c.args.line.now in
    let read : c.try_from.result ≡ call_or_unread o = search rules in
    let refused : is_ok c.try_from.result ≡ false = sym c.map_err.ensures.variant ∙ ap is_ok c.in_err-call.was in
    let as_unread = unread_from c.try_from.result o read refused in
    let halts : c.in_err-call.field-0.0 ≡ halt_at c.args.count (on_line c.args.number unread) = search (rules, as_unread) in
    let ends : c.from_residual.result ≡ Err c.in_err-call.field-0.0 = search rules in
    unread_replayed g.R.Runner.runs c.args.number o unread c.args.runner.now c.args.listing.now c.args.count c.from_residual.result (sym as_unread ∙ read) (ends ∙ ap Err halts)

pub returns : goal.returns
returns g c =
    call_replayed g.R.Runner.runs c.args.number (read_call c.args.line.now) c.in_ok-call.call c.run.result c.args.runner.now c.args.listing.now c.args.count c.run-answer.result _ _ _ (search rules) c.run.ensures c.run-answer.ensures c.write_entry.ensures.bytes c.write_entry.ensures.answer
