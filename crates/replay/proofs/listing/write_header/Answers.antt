use Rattle.replay.proofs.listing.write_header.Goals as goal

pub returns : goal.returns
returns c = record { answer = c.write_line.ensures.answer; bytes = c.write_line.ensures.bytes }
