use Rattle.std.proofs.Common.{sym, ap₂, ◌∙◌}
use Rattle.page.specs.Pages.{zeros}
use Rattle.parity_log.specs.LogState.{log_of}
use Rattle.parity_log.specs.Paging.{close_full, shut}
use Rattle.parity_log.proofs.RuleLaws.{ends_as}
use Rattle.pager.specs.Moments.{log_state}
use Rattle.pager.proofs.PlacingLaws.{closed_now, open_still, closes, stays_open}
use Rattle.pager.proofs.log.Log.close_full.Goals as goal

pub returns-then-self-servers : goal.returns-then-self-servers
returns-then-self-servers g c =
    let l = log_state c.args.self.now in
    let n = c.args.group in
    let full = c.if-self-servers.true in
    let steps = g.B.Bank.steps in
    let b = c.args.self.now.bank in
    let after = ap₂ log_of c.shut.ensures.tables c.zero-self.ensures in
    record {
      log = after ∙ sym (closed_now l n full);
      ran = ends_as steps (close_full l n) b c.put.new.self (log_of (shut l.tables n) zeros) _ (sym after) (closes steps l n b c.put.new.self c.put.result full c.put.ensures);
    }

pub returns-else-self-servers : goal.returns-else-self-servers
returns-else-self-servers g c =
    let l = log_state c.args.self.now in
    let n = c.args.group in
    record { log = sym (open_still l n c.if-self-servers.false); ran = stays_open g.B.Bank.steps l n c.args.self.now.bank c.args.self.now.bank c.if-self-servers.false }
