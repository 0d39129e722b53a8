-- What the reading of the file says of one that is too long, at the room's own count.
use Rattle.pg_io.proofs.real.FileRoomRoom.fetch.Goals as goal

pub returns-else-eq-clause-too_long : goal.returns-else-eq-clause-too_long
returns-else-eq-clause-too_long g c = rw (← c.self.view_is) c.read_opened-answer.ensures.too_long
