use Rattle.std.proofs.Common.{refl}
use Rattle.std.proofs.lemmas.Result.{err_from_is_err_and}
use Rattle.law_uses.specs.ReadingBack.{read_back}
use Rattle.law_uses.proofs.ReadingBack.{reads_back, refused_at_make, refused_at_pageout}
use Rattle.law_uses.proofs.reading_back.write_then_read.Goals as goal

pub returns-clause-same : goal.returns-clause-same
returns-clause-same g c = reads_back _ _ _ _ c.args.bytes.now c.pagein.new.buffer c.pagein.result (c.in_ok-_capacity.ensures.lawful refl) c.in_ok-pageout.ensures.turn c.pagein.ensures.turn

pub returns-clause-ran : goal.returns-clause-ran
returns-clause-ran g c = read_back c.in_ok-_capacity.ensures.turn c.in_ok-pageout.ensures.turn c.pagein.ensures.turn

pub returns-in_err-_capacity-clause-ran : goal.returns-in_err-_capacity-clause-ran
returns-in_err-_capacity-clause-ran g c = refused_at_make (err_from_is_err_and c.from_residual.result c.from_residual.ensures.1) c.in_err-_capacity.ensures.turn

pub returns-in_err-pageout-clause-ran : goal.returns-in_err-pageout-clause-ran
returns-in_err-pageout-clause-ran g c = refused_at_pageout (err_from_is_err_and c.from_residual-in_err-pageout.result c.from_residual-in_err-pageout.ensures.1) c.in_ok-_capacity.ensures.turn c.in_err-pageout.ensures.turn
