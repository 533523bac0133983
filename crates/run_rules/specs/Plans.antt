-- When a journal keeps to the plan of a script: between whom messages go, what becomes of each, and that what comes was
-- sent and may arrive. Lists of steps have the newest first.
use Rattle.std.specs.List.{find, list_any}
use Rattle.std.specs.Prelude.{Bool, List, None, Option, Some, [], count_by, flat_map, if◌then◌else◌, is_some, map}
use Rattle.std.specs.Prelude.{nat_lt, not, option_map, suc, unwrap_or, ℕ, ◌%◌, ◌&&◌, ◌++◌, ◌+◌, ◌-◌, ◌==◌, ◌||◌, ◌∷◌}
use Rattle.std.specs.Prelude.{◌≡◌, ◌≤◌, ◌⊎◌}
use Rattle.rand_pcg.specs.Lcg.{advance, increment_of, started}
use Rattle.rand_pcg.specs.Pcg.{multiplier_64, pcg32}
use Rattle.base_types.specs.declared.ids.Node.{Node}
use Rattle.base_types.specs.declared.ids.Node.TheVariants.{Host, Server}
use Rattle.base_types.specs.declared.ids.ServerId.{ServerId}
use Rattle.tree_answers.specs.declared.tree.Tree.{Tree}
use Rattle.script_lines.specs.Sound.{same_node}
use Rattle.script_lines.specs.declared.script.Net.{Net}
use Rattle.script_lines.specs.declared.script.PlanDeed.{PlanDeed}
use Rattle.script_lines.specs.declared.script.PlanDeed.TheVariants.{Again, Drop, Hold}
use Rattle.script_lines.specs.declared.script.PlanLine.{PlanLine}
use Rattle.script_lines.specs.declared.script.Script.{Script}
use Rattle.message_types.specs.declared.message.Body.{Body}
use Rattle.message_types.specs.declared.message.Body.TheVariants.{Bye, Change, Done, Down, Fetch, GiveBack, Gone}
use Rattle.message_types.specs.declared.message.Body.TheVariants.{Grant, Hello, Kept, NotHere, Reclaim, Reclaimed}
use Rattle.message_types.specs.declared.message.Body.TheVariants.{Restarted, Returned, Revoke, Ship, Shipped}
use Rattle.message_types.specs.declared.message.Direction.{Direction}
use Rattle.message_types.specs.declared.message.Direction.TheVariants.{BetweenServers, ToHost, ToServer}
use Rattle.message_types.specs.declared.message.Message.{Message}
use Rattle.run_rules.specs.Past.{Always}
use Rattle.run_rules.specs.Runs.{IsRaised, past_of}
use Rattle.run_rules.specs.declared.fate.Fate.{Fate}
use Rattle.run_rules.specs.declared.fate.Fate.TheVariants.{Lost as IsLost, Once as GoesOnce, Twice as GoesTwice}
use Rattle.run_rules.specs.declared.fate.Left.{Left}
use Rattle.run_rules.specs.declared.fate.Way.{Way}
use Rattle.run_rules.specs.declared.fate.Way.TheVariants.{Delayed, Free, Held}
use Rattle.run_rules.specs.declared.journal.Journal.{Journal}
use Rattle.run_rules.specs.declared.step.Cause.TheVariants.{Lapse, Message as Came}
use Rattle.run_rules.specs.declared.step.Step.{Step}

-- # Between whom messages go

-- the kind of a message, as plan lines number it
abbrev pub kind_of : Body → ℕ
kind_of Hello = 1
kind_of (Fetch _) = 2
kind_of (Grant _) = 3
kind_of (Change _) = 4
kind_of (Done _) = 5
kind_of (Revoke _) = 6
kind_of (Returned _) = 7
kind_of (Kept _) = 8
kind_of (GiveBack _) = 9
kind_of (Gone _) = 10
kind_of (Reclaim _) = 11
kind_of (Reclaimed _) = 12
kind_of Restarted = 13
kind_of Down = 14
kind_of Bye = 15
kind_of (NotHere _) = 16
kind_of (Ship _) = 17
kind_of (Shipped _) = 18

-- it says that a host has stopped
abbrev pub says_down : Message → Bool
says_down m = kind_of m.body == 14

-- the server to which a message between servers goes: its body names it first
abbrev pub shipped_by_body : Body → ServerId → ServerId
shipped_by_body (Ship ship) server = ship.to
shipped_by_body (Shipped shipped) server = shipped.to
shipped_by_body _ server = server

abbrev pub shipped_to : Message → ServerId
shipped_to m = shipped_by_body m.body m.server

abbrev pub sender_by : Direction → Message → Node
sender_by ToServer m = Host m.host
sender_by ToHost m = Server m.server
sender_by BetweenServers m = Server m.server

abbrev pub receiver_by : Direction → Message → Node
receiver_by ToServer m = Server m.server
receiver_by ToHost m = Host m.host
receiver_by BetweenServers m = Server (shipped_to m)

abbrev pub sender : Message → Node
sender m = sender_by m.direction m

abbrev pub receiver : Message → Node
receiver m = receiver_by m.direction m

-- The side that sends again where a message is lost. The parts of a fileset that moves are sent by the server that it
-- leaves, to which they are answered.
abbrev pub resender_by : Body → Message → Node
resender_by (Revoke _) m = Server m.server
resender_by (Returned _) m = Server m.server
resender_by (Kept _) m = Server m.server
resender_by Restarted m = Server m.server
resender_by (Ship _) m = Server m.server
resender_by (Shipped shipped) m = Server shipped.to
resender_by _ m = Host m.host

abbrev pub resender : Message → Node
resender m = resender_by m.body m

-- # What becomes of a message, by a plan line or by a word of the net

-- the copies of a message, each by when it may arrive
abbrev pub ways_in : Fate → List Way
ways_in IsLost = []
ways_in (GoesOnce way) = way ∷ []
ways_in (GoesTwice first second) = first ∷ second ∷ []

-- a plan line counts the messages of its kind from its sender to its receiver
abbrev pub counts : PlanLine → Message → Bool
counts line m =
    (kind_of m.body == line.kind) && same_node (sender m) line.from && same_node (receiver m) line.to

-- it waits for a flag, where there is one
abbrev pub until : Option (List ℕ) → Way
until None = Free
until (Some flag) = Held flag

abbrev pub planned_fate : PlanDeed → Option (List ℕ) → Fate
planned_fate Drop flag = IsLost
planned_fate Hold flag = GoesOnce (until flag)
planned_fate Again flag = GoesTwice Free (until flag)

-- by a word of the net: 0 loses it, 1 repeats it late, 2 and 3 delay it, each while some are left
abbrev pub fate_by : ℕ → Left → Fate
fate_by word left =
    if (word % 16 == 0) && nat_lt 0 left.losses then IsLost
    else if (word % 16 == 1) && nat_lt 0 left.repeats then GoesTwice Free Delayed
    else if nat_lt 1 (word % 16) && nat_lt (word % 16) 4 && nat_lt 0 left.delays then GoesOnce Delayed
    else GoesOnce Free

-- the word that the generator of a seed gives after so many others (O'Neill, "PCG: a family of simple fast
-- space-efficient statistically good algorithms for random number generation")
unfoldable pub word_after : ℕ → ℕ → ℕ
word_after seed n = (pcg32 (advance 64 multiplier_64 n (started 64 multiplier_64 seed (increment_of 64 1)))).0

-- what the net makes of a message after so many words, where there is one
abbrev pub fate_in_net : Option Net → ℕ → Left → Fate
fate_in_net None drawn left = GoesOnce Free
fate_in_net (Some net) drawn left = fate_by (word_after net.seed drawn) left

-- what is left after what the net made of a message
abbrev pub spent : Fate → Left → Left
spent IsLost left = record left { losses = left.losses - 1 }
spent (GoesTwice first second) left = record left { repeats = left.repeats - 1 }
spent (GoesOnce Delayed) left = record left { delays = left.delays - 1 }
spent (GoesOnce _) left = left

-- # What becomes of each of the messages of a run, by the plan and the net line of its script

-- A plan line is for the message that is the one of its number among those that it counts. These were sent before.
abbrev pub is_for : List Message → Message → PlanLine → Bool
is_for earlier m line = counts line m && (count_by (counts line) earlier + 1 == line.n)

-- what the first plan line for a message makes of it, where there is one
abbrev pub planned_for : Script → List Message → Message → Option Fate
planned_for script earlier m =
    option_map (λ line. planned_fate line.deed line.flag) (find (is_for earlier m) script.plan)

-- the net draws a word for each message but those by which hosts tell that they stop
abbrev pub words_drawn : List Message → ℕ
words_drawn earlier = count_by (λ m. not (says_down m)) earlier

-- The first plan line for a message decides; where there is none, the net's word for it does. That a host stops is
-- never lost, held or delayed.
abbrev pub fate_of : Script → List Message → Message → Left → Fate
fate_of script earlier m left =
    if says_down m then GoesOnce Free
    else unwrap_or (planned_for script earlier m) (fate_in_net script.net (words_drawn earlier) left)

abbrev pub left_after : Script → List Message → Message → Left → Left
left_after script earlier m left =
    if says_down m || is_some (planned_for script earlier m) then left
    else spent (fate_in_net script.net (words_drawn earlier) left) left

-- a message that was sent, and what becomes of it
pub record Posting : Type 0 where
  pub message : Message
  pub fate : Fate

abbrev pub post : Script → List Message → Left → List Message → List Posting
post script earlier left [] = []
post script earlier left (m ∷ ms) =
    record { message = m; fate = fate_of script earlier m left }
    ∷ post script (earlier ++ m ∷ []) (left_after script earlier m left) ms

abbrev pub all_left : Option Net → Left
all_left None = record { losses = 0; repeats = 0; delays = 0 }
all_left (Some net) = record { losses = net.losses; repeats = net.repeats; delays = net.delays }

-- what becomes of these messages, which are all that were sent, in order
abbrev pub posted : Script → List Message → List Posting
posted script ms = post script [] (all_left script.net) ms

-- a copy of a message
pub record Copy : Type 0 where
  pub message : Message
  pub way : Way

abbrev pub copies_of : Posting → List Copy
copies_of p = map (λ way. record { message = p.message; way = way }) (ways_in p.fate)

-- # When a journal keeps to the plan

-- all messages of some steps, in order
abbrev pub sent_in : List Step → List Message
sent_in [] = []
sent_in (s ∷ past) = sent_in past ++ s.sent

-- so many of a list meet a condition
abbrev pub CountIs : {A : Type 0} → (A → Type 0) → List A → ℕ → Type 0
CountIs P [] n = n ≡ 0
CountIs P (x ∷ xs) n = (P x × ((m : ℕ) × (n ≡ suc m) × CountIs P xs m)) ⊎ ((P x → ⊥) × CountIs P xs n)

-- A held copy waits for its flag. A late one may come at any time: the rules of runs know no delay.
abbrev pub MayCome : Script → List Step → Way → Type 0
MayCome script past Free = Unit {0}
MayCome script past Delayed = Unit {0}
MayCome script past (Held flag) = IsRaised script past flag

-- a server has a record of a fileset that moved away, and room kept for it
abbrev pub keeps_room : Tree → ServerId → Bool
keeps_room tree server = list_any (λ away. (away.server.0 == server.0) && away.room_kept) tree.away

-- One lapse is due from the start of a run on: to a server where the start tree has a record with room kept.
abbrev pub due_first : List Tree → Node → ℕ
due_first start (Host host) = 0
due_first start (Server server) = if list_any (λ tree. keeps_room tree server) start then 1 else 0

-- A step whose cause is a message is one of at most as many as the copies of it that were sent before and may come; a
-- lapse of a node is one of at most as many as are due to it: one at most from the start on, and one for each lost
-- message that it has to send again.
pub record KeepsPlan (script : Script) (start : List Tree) (past : List Step) (s : Step) : Type 0 where
  pub copies : (m : Message) (n k : ℕ) → s.cause ≡ Came m → CountIs (λ (t : Step). t.cause ≡ Came m) (s ∷ past) n
      → CountIs (λ (c : Copy). (c.message ≡ m) × MayCome script past c.way)
      (flat_map copies_of (posted script (sent_in past))) k → n ≤ k
  pub lapses : (n k : ℕ) → s.cause ≡ Lapse → CountIs (λ (t : Step). (t.node ≡ s.node) × (t.cause ≡ Lapse)) (s ∷ past) n
      → CountIs (λ (p : Posting). (p.fate ≡ IsLost) × (resender p.message ≡ s.node)) (posted script (sent_in past)) k
      → n ≤ due_first start s.node + k

-- a journal is planned by a script
abbrev pub IsPlanned : Script → Journal → Type 0
IsPlanned script journal = Always (KeepsPlan script journal.start) (past_of journal)
