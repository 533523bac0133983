-- It is the same whether a flag is raised before a step or after it.
use Rattle.std.proofs.Common.{◌≡◌, ℕ, ◌+◌, ◌-◌, ◌%◌, Bool, true, false, ◌&&◌, ◌||◌, cond, eqb, List, [], ◌∷◌, ◌++◌}
use Rattle.std.proofs.Common.{map, Option, None, Some, is_some, unwrap_or, nat_lt, refl, sym, ap, ◌∙◌}
use Rattle.std.specs.List.{find}
use Rattle.std.specs.Option.{option_map}
use Rattle.base_types.specs.Name.{same_name}
use Rattle.message_types.specs.declared.message.Message.{Message}
use Rattle.script_lines.specs.declared.script.Net.{Net}
use Rattle.script_lines.specs.declared.script.PlanDeed.{PlanDeed}
use Rattle.script_lines.specs.declared.script.PlanDeed.TheVariants.{Drop, Hold, Again}
use Rattle.run_rules.specs.Plans.{counts, fate_by, fate_in_net, planned_fate, says_down, spent, until, ways_in}
use Rattle.run_rules.specs.Plans.{word_after}
use Rattle.run_rules.specs.declared.fate.Fate.{Fate}
use Rattle.run_rules.specs.declared.fate.Fate.TheVariants.{Lost, Once, Twice}
use Rattle.run_rules.specs.declared.fate.Left.{Left}
use Rattle.run_rules.specs.declared.fate.Way.{Way}
use Rattle.run_rules.specs.declared.fate.Way.TheVariants.{Free, Delayed, Held}
use Rattle.hub_wire.specs.Laws.{FlagsCommute}
use Rattle.hub_wire.specs.Networks.{Network, due_by, next_fate, with_flag, with_message, with_messages}
use Rattle.hub_wire.specs.Packets.{is_held_by, raised_packet}
use Rattle.hub_wire.specs.Plans.{Lacking, is_own, is_raised_by, passed, planned, raised_line}
use Rattle.hub_wire.specs.declared.packet.Packet.{Packet}
use Rattle.hub_wire.proofs.Maps.{find_mapped, map_append, map_same, map_twice, mapped_twice}

-- what becomes of a message whose copies waited for a flag
abbrev raised_way : List ℕ → Way → Way
raised_way flag way = cond (is_held_by flag way) Free way

abbrev raised_fate : List ℕ → Fate → Fate
raised_fate flag Lost = Lost
raised_fate flag (Once way) = Once (raised_way flag way)
raised_fate flag (Twice first second) = Twice (raised_way flag first) (raised_way flag second)

until_raised : (flag : List ℕ) (name : Option (List ℕ))
    → until (cond (is_raised_by flag name) None name) ≡ raised_way flag (until name)
until_raised flag None = refl
until_raised flag (Some name) = by_test (same_name name flag)
  where
    by_test : (b : Bool) → until (cond b None (Some name)) ≡ cond b Free (Held name)
    by_test true = refl
    by_test false = refl

planned_raised : (flag : List ℕ) (deed : PlanDeed) (name : Option (List ℕ))
    → planned_fate deed (cond (is_raised_by flag name) None name) ≡ raised_fate flag (planned_fate deed name)
planned_raised flag Drop name = refl
planned_raised flag Hold name = ap Once (until_raised flag name)
planned_raised flag Again name = ap (λ way. Twice Free way) (until_raised flag name)

line_raised : (flag : List ℕ) (l : Lacking) → planned_fate (raised_line flag l).line.deed (raised_line flag l).line.flag
    ≡ raised_fate flag (planned_fate l.line.deed l.line.flag)
line_raised flag l = by_test (is_raised_by flag l.line.flag) ∙ planned_raised flag l.line.deed l.line.flag
  where
    by_test : (b : Bool)
        → (let raised : Lacking = cond b (record l { line = record l.line { flag = None } }) l in
        planned_fate raised.line.deed raised.line.flag) ≡ planned_fate l.line.deed (cond b None l.line.flag)
    by_test true = refl
    by_test false = refl

own_raised : (flag : List ℕ) (m : Message) (l : Lacking) → is_own m (raised_line flag l) ≡ is_own m l
own_raised flag m l = by_test (is_raised_by flag l.line.flag)
  where
    by_test : (b : Bool) → is_own m (cond b (record l { line = record l.line { flag = None } }) l) ≡ is_own m l
    by_test true = refl
    by_test false = refl

passed_raised : (flag : List ℕ) (m : Message) (l : Lacking) → passed m (raised_line flag l) ≡ raised_line flag
    (passed m l)
passed_raised flag m l = by_tests (is_raised_by flag l.line.flag) refl (counts l.line m) refl
  where
    by_tests : (r : Bool) → is_raised_by flag l.line.flag ≡ r → (c : Bool) → counts l.line m ≡ c
        → passed m (cond r (record l { line = record l.line { flag = None } }) l) ≡ raised_line flag
        (cond c (record l { lacking = l.lacking - 1 }) l)
    by_tests true e true k =
        ap (λ b. let raised : Lacking = record l { line = record l.line { flag = None } } in
        cond b (record raised { lacking = raised.lacking - 1 }) raised) k
        ∙ ap (λ b. let gone : Lacking = record l { lacking = l.lacking - 1 } in
        cond b (record gone { line = record l.line { flag = None } }) gone) (sym e)
    by_tests true e false k =
        ap (λ b. let raised : Lacking = record l { line = record l.line { flag = None } } in
        cond b (record raised { lacking = raised.lacking - 1 }) raised) k
        ∙ ap (λ b. cond b (record l { line = record l.line { flag = None } }) l) (sym e)
    by_tests false e true k =
        ap (λ b. cond b (record l { lacking = l.lacking - 1 }) l) k
        ∙ ap (λ b. let gone : Lacking = record l { lacking = l.lacking - 1 } in
        cond b (record gone { line = record l.line { flag = None } }) gone) (sym e)
    by_tests false e false k =
        ap (λ b. cond b (record l { lacking = l.lacking - 1 }) l) k
        ∙ ap (λ b. cond b (record l { line = record l.line { flag = None } }) l) (sym e)

lines_raised : (flag : List ℕ) (m : Message) (ls : List Lacking)
    → map (passed m) (map (raised_line flag) ls) ≡ map (raised_line flag) (map (passed m) ls)
lines_raised flag m ls =
    map_twice (raised_line flag) (passed m) ls
    ∙ map_same (λ l. passed m (raised_line flag l)) (λ l. raised_line flag (passed m l)) (passed_raised flag m) ls
    ∙ sym (map_twice (passed m) (raised_line flag) ls)

plans_raised : (flag : List ℕ) (m : Message) (ls : List Lacking)
    → planned (map (raised_line flag) ls) m ≡ option_map (raised_fate flag) (planned ls m)
plans_raised flag m ls =
    let fate : Lacking → Fate = λ l. planned_fate l.line.deed l.line.flag in
    ap (option_map fate) (find_mapped (is_own m) (is_own m) (raised_line flag) (own_raised flag m) ls)
    ∙ mapped_twice (raised_line flag) fate (find (is_own m) ls)
    ∙ at (find (is_own m) ls)
    ∙ sym (mapped_twice fate (raised_fate flag) (find (is_own m) ls))
  where
    at : (o : Option Lacking) → option_map (λ l. planned_fate (raised_line flag l).line.deed
        (raised_line flag l).line.flag) o
        ≡ option_map (λ l. raised_fate flag (planned_fate l.line.deed l.line.flag)) o
    at None = refl
    at (Some l) = ap Some (line_raised flag l)

-- the net holds nothing
net_raised : (flag : List ℕ) (net : Option Net) (drawn : ℕ) (left : Left)
    → raised_fate flag (fate_in_net net drawn left) ≡ fate_in_net net drawn left
net_raised flag None drawn left = refl
net_raised flag (Some net) drawn left = by_word (word_after net.seed drawn)
  where
    by_tests : (a b c : Bool) → raised_fate flag (cond a Lost
        (cond b (Twice Free Delayed) (cond c (Once Delayed) (Once Free))))
        ≡ cond a Lost (cond b (Twice Free Delayed) (cond c (Once Delayed) (Once Free)))
    by_tests true b c = refl
    by_tests false true c = refl
    by_tests false false true = refl
    by_tests false false false = refl

    by_word : (word : ℕ) → raised_fate flag (fate_by word left) ≡ fate_by word left
    by_word word = by_tests (eqb (word % 16) 0 && nat_lt 0 left.losses) (eqb (word % 16) 1 && nat_lt 0 left.repeats)
        (nat_lt 1 (word % 16) && nat_lt (word % 16) 4 && nat_lt 0 left.delays)

some_raised : (flag : List ℕ) (o : Option Fate) → is_some (option_map (raised_fate flag) o) ≡ is_some o
some_raised flag None = refl
some_raised flag (Some fate) = refl

module _ (flag : List ℕ) (net : Network) (m : Message) where
  fates_raised : next_fate (with_flag flag net) m ≡ raised_fate flag (next_fate net m)
  fates_raised =
      ap (λ o. cond (says_down m) (Once Free) (unwrap_or o (fate_in_net net.net net.drawn net.left)))
      (plans_raised flag m net.lines)
      ∙ by_test (says_down m) (planned net.lines m)
    where
      by_test : (b : Bool) (o : Option Fate)
          → cond b (Once Free) (unwrap_or (option_map (raised_fate flag) o) (fate_in_net net.net net.drawn net.left))
          ≡ raised_fate flag (cond b (Once Free) (unwrap_or o (fate_in_net net.net net.drawn net.left)))
      by_test true o = refl
      by_test false None = sym (net_raised flag net.net net.drawn net.left)
      by_test false (Some fate) = refl

  left_raised : (with_message (with_flag flag net) m).left ≡ (with_message net m).left
  left_raised =
      ap (λ b. cond (says_down m || b) net.left (spent (fate_in_net net.net net.drawn net.left) net.left))
      (ap is_some (plans_raised flag m net.lines) ∙ some_raised flag (planned net.lines m))

packet_raised : (flag : List ℕ) (m : Message) (step : ℕ) (way : Way)
    → (let packet : Packet = record { message = m; way = raised_way flag way; step = step } in packet)
    ≡ raised_packet flag (record { message = m; way = way; step = step })
packet_raised flag m step way = by_test (is_held_by flag way)
  where
    by_test : (b : Bool) → (let packet : Packet = record { message = m; way = cond b Free way; step = step } in packet)
        ≡ cond b (record { message = m; way = Free; step = step }) (record { message = m; way = way; step = step })
    by_test true = refl
    by_test false = refl

ways_raised : (flag : List ℕ) (fate : Fate) → ways_in (raised_fate flag fate) ≡ map (raised_way flag) (ways_in fate)
ways_raised flag Lost = refl
ways_raised flag (Once way) = refl
ways_raised flag (Twice first second) = refl

due_raised : (flag : List ℕ) (fate : Fate) (m : Message) → due_by (raised_fate flag fate) m ≡ due_by fate m
due_raised flag Lost m = refl
due_raised flag (Once way) m = refl
due_raised flag (Twice first second) m = refl

packets_raised : (flag : List ℕ) (net : Network) (m : Message)
    → (with_message (with_flag flag net) m).packets ≡ map (raised_packet flag) (with_message net m).packets
packets_raised flag net m =
    let packet : Way → Packet = λ way. record { message = m; way = way; step = net.steps } in
    let fate = next_fate net m in
    let before = map (raised_packet flag) net.packets in
    ap (λ (f : Fate). before ++ map packet (ways_in f)) (fates_raised flag net m)
    ∙ ap (λ ways. before ++ map packet ways) (ways_raised flag fate)
    ∙ ap (λ ps. before ++ ps) (map_twice (raised_way flag) packet (ways_in fate)
    ∙ map_same (λ way. packet (raised_way flag way)) (λ way. raised_packet flag (packet way))
    (packet_raised flag m net.steps) (ways_in fate)
    ∙ sym (map_twice packet (raised_packet flag) (ways_in fate)))
    ∙ sym (map_append (raised_packet flag) net.packets (map packet (ways_in fate)))

due_same : (flag : List ℕ) (net : Network) (m : Message) → (with_message (with_flag flag net) m).due
    ≡ (with_message net m).due
due_same flag net m =
    ap (λ (f : Fate). net.due ++ due_by f m) (fates_raised flag net m)
    ∙ ap (λ ds. net.due ++ ds) (due_raised flag (next_fate net m) m)

message_raised : (flag : List ℕ) (net : Network) (m : Message)
    → with_message (with_flag flag net) m ≡ with_flag flag (with_message net m)
message_raised flag net m =
    λ i. record {
      net = net.net;
      lines = lines_raised flag m net.lines i;
      drawn = (with_message net m).drawn;
      left = left_raised flag net m i;
      steps = net.steps;
      packets = packets_raised flag net m i;
      due = due_same flag net m i;
    }

messages_raised : (flag : List ℕ) (ms : List Message) (net : Network)
    → with_messages (with_flag flag net) ms ≡ with_flag flag (with_messages net ms)
messages_raised flag [] net = refl
messages_raised flag (m ∷ ms) net =
    ap (λ n. with_messages n ms) (message_raised flag net m) ∙ messages_raised flag ms (with_message net m)

pub flags_commute : FlagsCommute
flags_commute flag net sent = messages_raised flag sent (record net { steps = net.steps + 1 })
