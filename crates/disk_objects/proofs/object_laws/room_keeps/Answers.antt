use Rattle.std.proofs.Common.{arith}
use Rattle.disk_objects.proofs.Room.{room_left}
use Rattle.disk_objects.specs.Objects.{kept_anodes}
use Rattle.disk_objects.proofs.ObjectRoom.{slot_few, all_few}
use Rattle.disk_objects.proofs.object_laws.room_keeps.Goals as goal

pub returns-clause-promise : goal.returns-clause-promise
returns-clause-promise c = λ anodes objects kept free. slot_few anodes objects kept free

pub returns-clause-beyond : goal.returns-clause-beyond
returns-clause-beyond c = λ slots promised state image keeps settled covered beyond.
    let room = room_left (kept_anodes slots) state image keeps.held settled in
    let few = all_few slots state image keeps promised covered in
    omega (arith, room, few, beyond)
