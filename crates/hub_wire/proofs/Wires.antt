-- What the fields of a wire stand for, after what each call does to them.
use Rattle.std.proofs.Common.{◌≡◌, ℕ, zero, suc, List, [], ◌∷◌, length, map, take, refl, ap, ◌∙◌, arith}
use Rattle.std.proofs.lemmas.List.{take_all}
use Rattle.base_types.specs.declared.ids.Node.{Node}
use Rattle.base_types.specs.declared.ids.Node.TheVariants.{Server}
use Rattle.base_types.specs.declared.ids.ServerId.{ServerId}
use Rattle.message_types.specs.declared.message.Message.{Message}
use Rattle.script_lines.specs.declared.script.Script.{Script}
use Rattle.run_rules.specs.Plans.{all_left}
use Rattle.run_rules.specs.declared.fate.Left.{Left}
use Rattle.hub_wire.specs.Networks.{Wired, both, fresh, with_flag as flagged, with_lines}
use Rattle.hub_wire.specs.Packets.{raised_packet}
use Rattle.hub_wire.specs.Plans.{accepted, counted_lines, forgotten, passed, ready_lines, waiting_at, with_flag}
use Rattle.hub_wire.specs.Plans.{with_message}
use Rattle.hub_wire.specs.Views.{counted_network, ready_network}
use Rattle.hub_wire.specs.declared.packet.Packet.{Packet}
use Rattle.hub_wire.specs.declared.plan.Waiting.{Waiting}
use Rattle.hub_wire.specs.declared.wire.Count.{Count}
use Rattle.hub_wire.specs.declared.wire.Wire.TheInside.{Inside}
use Rattle.hub_wire.proofs.Lines.{counted_accepted, counted_forgotten, counted_passed, counted_raised, counted_start}
use Rattle.hub_wire.proofs.Lines.{ready_accepted, ready_forgotten, ready_passed, ready_raised, ready_start}
use Rattle.hub_wire.proofs.Lines.{take_mapped}

abbrev pub wired : Inside → Wired
wired w = record { counted = counted_network w; ready = ready_network w }

take_again : {X : Type 0} (n : ℕ) (xs : List X) → take n (take n xs) ≡ take n xs
take_again zero xs = refl
take_again (suc n) [] = refl
take_again (suc n) (x ∷ xs) = ap (λ ys. x ∷ ys) (take_again n xs)

take_whole : {X : Type 0} (n : ℕ) (xs : List X) → n ≡ length xs → take n xs ≡ xs
take_whole n xs e = take_all n xs (omega (arith, e))

pub accept_view : (w : Inside) (lines : List Waiting) (n k : ℕ) (wire : Wired) → lines ≡ map accepted w.lines
    → n ≡ length w.packets → k ≡ length w.due → wired w ≡ wire
    → wired (record w { lines = lines; counted = w.ready; packets_counted = n; due_counted = k })
    ≡ record { counted = wire.ready; ready = wire.ready }
accept_view w lines n k wire e f g view =
    let counted : counted_lines lines ≡ ready_lines w.lines = ap counted_lines e ∙ counted_accepted w.lines in
    let ready : ready_lines lines ≡ ready_lines w.lines = ap ready_lines e ∙ ready_accepted w.lines in
    let packets : take n w.packets ≡ w.packets = take_whole n w.packets f in
    let due : take k w.due ≡ w.due = take_whole k w.due g in
    let same : wired (record w { lines = lines; counted = w.ready; packets_counted = n; due_counted = k })
    ≡ record { counted = ready_network w; ready = ready_network w } =
    λ i. record {
      counted = record (ready_network w) { lines = counted i; packets = packets i; due = due i };
      ready = record (ready_network w) { lines = ready i };
    } in
    same ∙ ap (λ (v : Wired). record { counted = v.ready; ready = v.ready }) view

pub forget_view : (w : Inside) (lines : List Waiting) (packets : List Packet) (due : List Node) (wire : Wired)
    → lines ≡ map forgotten w.lines → packets ≡ take w.packets_counted w.packets → due ≡ take w.due_counted w.due
    → wired w ≡ wire → wired (record w { lines = lines; packets = packets; due = due; ready = w.counted })
    ≡ record { counted = wire.counted; ready = wire.counted }
forget_view w lines packets due wire e f g view =
    let counted : counted_lines lines ≡ counted_lines w.lines = ap counted_lines e ∙ counted_forgotten w.lines in
    let ready : ready_lines lines ≡ counted_lines w.lines = ap ready_lines e ∙ ready_forgotten w.lines in
    let taken : take w.packets_counted packets ≡ take w.packets_counted w.packets =
    ap (take w.packets_counted) f ∙ take_again w.packets_counted w.packets in
    let taken_due : take w.due_counted due ≡ take w.due_counted w.due =
    ap (take w.due_counted) g ∙ take_again w.due_counted w.due in
    let same : wired (record w { lines = lines; packets = packets; due = due; ready = w.counted })
    ≡ record { counted = counted_network w; ready = counted_network w } =
    λ i. record {
      counted = record (counted_network w) { lines = counted i; packets = taken i; due = taken_due i };
      ready = record (counted_network w) { lines = ready i; packets = f i; due = g i };
    } in
    same ∙ ap (λ (v : Wired). record { counted = v.counted; ready = v.counted }) view

pub passed_view : (w : Inside) (lines : List Waiting) (m : Message) (wire : Wired) → lines ≡ map (with_message m)
    w.lines
    → wired w ≡ wire
    → wired (record w { lines = lines }) ≡ record { counted = wire.counted; ready = with_lines (passed m) wire.ready }
passed_view w lines m wire e view =
    let counted : counted_lines lines ≡ counted_lines w.lines = ap counted_lines e ∙ counted_passed m w.lines in
    let ready : ready_lines lines ≡ map (passed m) (ready_lines w.lines) = ap ready_lines e ∙ ready_passed m w.lines in
    let same : wired (record w { lines = lines })
    ≡ record { counted = counted_network w; ready = with_lines (passed m) (ready_network w) } =
    λ i. record {
      counted = record (counted_network w) { lines = counted i };
      ready = record (ready_network w) { lines = ready i };
    } in
    same ∙ ap (λ (v : Wired). record { counted = v.counted; ready = with_lines (passed m) v.ready }) view

pub raised_view : (w : Inside) (lines : List Waiting) (packets : List Packet) (flag : List ℕ) (wire : Wired)
    → lines ≡ map (with_flag flag) w.lines → packets ≡ map (raised_packet flag) w.packets → wired w ≡ wire
    → wired (record w { lines = lines; packets = packets }) ≡ both (flagged flag) wire
raised_view w lines packets flag wire e f view =
    let counted = ap counted_lines e ∙ counted_raised flag w.lines in
    let ready = ap ready_lines e ∙ ready_raised flag w.lines in
    let taken : take w.packets_counted packets ≡ map (raised_packet flag) (take w.packets_counted w.packets) =
    ap (take w.packets_counted) f ∙ take_mapped (raised_packet flag) w.packets_counted w.packets in
    let same : wired (record w { lines = lines; packets = packets }) ≡ both (flagged flag) (wired w) =
    λ i. record {
      counted = record (counted_network w) { lines = counted i; packets = taken i };
      ready = record (ready_network w) { lines = ready i; packets = f i };
    } in
    same ∙ ap (both (flagged flag)) view

pub new_view : (script : Script) (rooms : List ServerId) (lines : List Waiting) (packets : List Packet)
    (due : List Node)
    (left : Left) (n : ℕ) → lines ≡ map waiting_at script.plan → packets ≡ [] → due ≡ map Server rooms
    → left ≡ all_left script.net → n ≡ length due
    → (let count : Count = record { drawn = 0; left = left; steps = 0 } in
    wired (record {
      net = script.net;
      lines = lines;
      packets = packets;
      due = due;
      counted = count;
      ready = count;
      packets_counted = 0;
      due_counted = n;
    })) ≡ record { counted = fresh script rooms; ready = fresh script rooms }
new_view script rooms lines packets due left n e f g h k =
    let counted = ap counted_lines e ∙ counted_start script.plan in
    let ready = ap ready_lines e ∙ ready_start script.plan in
    let whole : take n due ≡ map Server rooms = take_whole n due k ∙ g in
    λ i. record {
      counted = record (fresh script rooms) { lines = counted i; left = h i; due = whole i };
      ready = record (fresh script rooms) { lines = ready i; left = h i; packets = f i; due = g i };
    }
