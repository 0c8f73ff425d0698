use Rattle.std.proofs.Common.{ap, ◌∙◌}
use Rattle.replay.specs.Listing.{count_after, written}
use Rattle.replay.proofs.listing.write_entry.Goals as goal

pub returns : goal.returns
returns c =
    let before = c.args.listing.now in
    let whole = c.as_bytes.ensures.value ∙ c.deref.ensures.0 ∙ c.text.ensures in
    record {
      answer = c.write_line.ensures.answer ∙ ap (count_after before c.args.count c.args.entry.now.line) whole;
      bytes = c.write_line.ensures.bytes ∙ ap (written before c.args.count) whole;
    }
