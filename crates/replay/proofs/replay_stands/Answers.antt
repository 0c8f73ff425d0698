use Rattle.replay.proofs.ScriptLaws.{numbers_are_read, numbers_have_one_spelling}
use Rattle.replay.proofs.WorkedFacts.{worked_listing}
use Rattle.replay.proofs.replay_stands.Goals as goal

pub returns-clause-read : goal.returns-clause-read
returns-clause-read c = numbers_are_read

pub returns-clause-spelled : goal.returns-clause-spelled
returns-clause-spelled c = numbers_have_one_spelling

pub returns-clause-listing : goal.returns-clause-listing
returns-clause-listing c = worked_listing
