use Rattle.disk_objects.proofs.Room.{room_left, pointers_few, pointers_trimmed}
use Rattle.disk_objects.proofs.laws.room_holds.Goals as goal

pub returns-clause-room : goal.returns-clause-room
returns-clause-room c = λ anodes state image held settled. room_left anodes state image held settled

pub returns-clause-few : goal.returns-clause-few
returns-clause-few c = λ anodes page state image is held. pointers_few anodes page state image is held

pub returns-clause-trimmed : goal.returns-clause-trimmed
returns-clause-trimmed c = λ anodes page state image is held trimmed. pointers_trimmed anodes page state image is held trimmed
