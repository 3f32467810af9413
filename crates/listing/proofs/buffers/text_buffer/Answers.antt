-- `listing::buffers::text_buffer` meets its contract, by that of `buffer`: no zero is written out. Assumes nothing.
use Rattle.listing.specs.Replay.{room}
use Rattle.listing.proofs.buffers.text_buffer.Goals as goal

pub returns-clause-value : goal.returns-clause-value
unfolding room
returns-clause-value c = c.buffer.ensures.value

pub returns-clause-long : goal.returns-clause-long
unfolding room
returns-clause-long c = c.buffer.ensures.long
