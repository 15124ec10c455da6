-- The decoding of any words is what they record, and nothing else is.
use Rattle.line.proofs.Recordings.{records}
use Rattle.line.proofs.recording.Recording.new.Goals as goal

pub returns-clause-records : goal.returns-clause-records
returns-clause-records c = records c.args.words.now
